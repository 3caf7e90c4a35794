-- A duration of n nanoseconds in seconds, as Rust's `Duration::as_secs_f64` gives it. Assumes nothing.
use Rattle.std.specs.Prelude.{ℕ, ◌/◌, ◌%◌, pos, Float}
use Rattle.std.specs.Float.{binary64}
use Rattle.std.specs.Float.Ieee.{of_int, add, div}

-- Its whole seconds, plus its remaining nanoseconds divided by 10^9. Both counts are floats exactly; the quotient and the sum are rounded once each.
abbrev pub in_seconds : ℕ → Float
in_seconds n =
    add binary64 (of_int binary64 (pos (n / 1_000_000_000)))
    (div binary64 (of_int binary64 (pos (n % 1_000_000_000))) (of_int binary64 (pos 1_000_000_000)))
