-- What a new value of this crate holds. Assumes nothing.
use Rattle.congestion.specs.declared.totals.Totals.{Totals}

-- nothing told yet
abbrev pub nothing : Totals
nothing = record { sent = 0; acked = 0; lost = 0 }
