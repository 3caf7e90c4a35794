-- The cube of a float, and its cube root cut to a multiple of 2^-14. Assumes nothing.
use Rattle.std.specs.Prelude.{◌≡◌, ℕ, zero, suc, ◌+◌, ◌*◌, ◌^◌, ◌<◌, ◌≤◌, true, false, cond, pos, from_bits, nat_le, Float}
use Rattle.std.specs.Float.{nan, inf, fin, binary64}
use Rattle.std.specs.Float.Ieee.{up, down, of_int, mul, div, lt, le, to_unsigned}
use Rattle.std.specs.Float.Ieee.Exact.{HasValue}

-- (d * d) * d, each product rounded once
abbrev pub cubed : Float → Float
cubed d = mul binary64 (mul binary64 d d) d

abbrev pub third_power : ℕ → ℕ
third_power n = n * n * n

-- 0, 2^7, 2^21, 2^14 and 2^42 as floats
abbrev pub zero64 : Float
zero64 = from_bits binary64 0

abbrev pub two7 : Float
two7 = from_bits binary64 0x4060_0000_0000_0000

abbrev pub two21 : Float
two21 = from_bits binary64 0x4140_0000_0000_0000

abbrev pub two14 : Float
two14 = from_bits binary64 0x40d0_0000_0000_0000

abbrev pub two42 : Float
two42 = from_bits binary64 0x4290_0000_0000_0000

-- The rule, of the number that a is. A NaN and a negative have the root 0, and what is 2^21 or more has 128.
-- Any other root is n / 2^14, where n^3 ≤ a * 2^42 < (n + 1)^3: a is m * up e / down e, and `HasValue r false n (2 ^ 14)` says that r is n / 2^14 exactly.
abbrev pub CubeRoot : Float → Float → Type 0
CubeRoot nan r = r ≡ zero64
CubeRoot (inf true) r = r ≡ zero64
CubeRoot (inf false) r = r ≡ two7
CubeRoot (fin true m e) r = r ≡ zero64
CubeRoot (fin false m e) r =
    (2 ^ 21 * down e ≤ m * up e → r ≡ two7)
    × (m * up e < 2 ^ 21 * down e
    → (n : ℕ) × HasValue r false n (2 ^ 14) × (third_power n * down e ≤ m * up e * 2 ^ 42) × (m * up e * 2 ^ 42 < third_power (n + 1) * down e))

-- The same root as a function, for a step that uses it: the cube root of a whole number below 2^63, found bit by bit from the highest of 21,
-- at the whole part of a * 2^42.
unfoldable pub bitwise : ℕ → ℕ → ℕ → ℕ
bitwise zero low a = low
bitwise (suc k) low a = bitwise k (cond (nat_le (third_power (low + 2 ^ k)) a) (low + 2 ^ k) low) a

unfoldable pub whole_root : ℕ → ℕ
unfolding bitwise
whole_root a = bitwise 21 0 a

abbrev pub cube_root : Float → Float
cube_root a =
    cond (lt zero64 a)
    (cond (le two21 a) two7 (div binary64 (of_int binary64 (pos (whole_root (to_unsigned 64 (mul binary64 a two42))))) two14))
    zero64
