-- A list of eight draws, each modulo 7, over and over. Assumes nothing.
use Rattle.std.specs.Prelude.{List, ℕ, ◌+◌, ◌%◌, get_or}
use Rattle.draws.specs.declared.recorded.Recorded.{Recorded}

pub record Recording : Type 0 where
  pub draws : List ℕ
  pub at : ℕ

abbrev pub recording_of : Recorded → Recording
recording_of r = record { draws = r.draws; at = r.at }

abbrev pub recorded : Recording → ℕ
recorded r = get_or r.draws (r.at % 8) 0 % 7

abbrev pub turned : Recording → Recording
turned r = record { draws = r.draws; at = (r.at % 8 + 1) % 8 }
