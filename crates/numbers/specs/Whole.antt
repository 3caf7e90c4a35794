-- The whole part of a float, as a number of 64 bits. Assumes nothing.
use Rattle.std.specs.Prelude.{◌≡◌, ℕ, ◌+◌, ◌-◌, ◌*◌, ◌^◌, ◌<◌, ◌≤◌, true, false, Float}
use Rattle.std.specs.Float.{nan, inf, fin}
use Rattle.std.specs.Float.Ieee.{up, down}

-- A NaN and a negative give 0. What is 2^64 or more gives 2^64 - 1. Of any other, r is the greatest whole number that is not above it.
abbrev pub WholePart : Float → ℕ → Type 0
WholePart nan r = r ≡ 0
WholePart (inf true) r = r ≡ 0
WholePart (inf false) r = r ≡ 2 ^ 64 - 1
WholePart (fin true m e) r = r ≡ 0
WholePart (fin false m e) r =
    (2 ^ 64 * down e ≤ m * up e → r ≡ 2 ^ 64 - 1)
    × (m * up e < 2 ^ 64 * down e → (r * down e ≤ m * up e) × (m * up e < (r + 1) * down e))
