-- Arithmetic that stops at the ends of 64 bits: a sum, a product or a count that would pass 2^64 - 1 is 2^64 - 1.
-- A difference below 0 is 0, which is what `-` on ℕ says already. Assumes nothing.
use Rattle.std.specs.Prelude.{ℕ, ◌+◌, ◌-◌, ◌*◌, ◌^◌, min}

-- the largest number of 64 bits
abbrev pub most : ℕ
most = 2 ^ 64 - 1

abbrev pub sum : ℕ → ℕ → ℕ
sum m n = min (m + n) most

abbrev pub product : ℕ → ℕ → ℕ
product m n = min (m * n) most

abbrev pub difference : ℕ → ℕ → ℕ
difference m n = m - n
