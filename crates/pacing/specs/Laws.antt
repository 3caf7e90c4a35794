-- When a datagram that has to wait may leave. Assumes nothing.
use Rattle.std.specs.Prelude.{ℕ, ◌≤◌, Some, None, Ok, Err, Option, Result}
use Rattle.std.specs.declared.convert.Infallible.{Infallible as NoPermit}
use Rattle.refusals.specs.declared.Refusal.{Refusal}

-- nobody is told to wait for a time that is over
abbrev pub NotBefore : ℕ → Result (Option ℕ) (Refusal NoPermit) → Type 0
NotBefore time (Ok (Some t)) = time ≤ t
NotBefore time (Ok None) = Unit {0}
NotBefore time (Err e) = Unit {0}
