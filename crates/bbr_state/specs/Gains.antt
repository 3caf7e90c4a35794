-- Gains, which are f32s, by their bits, and a million as an f64. Assumes nothing.
use Rattle.std.specs.Prelude.{ℕ, List, [], ◌∷◌, pos, from_bits, Float}
use Rattle.std.specs.Float.{binary32, binary64}
use Rattle.std.specs.Float.Ieee.{of_int}

-- the f64 nearest to a whole number
abbrev pub real : ℕ → Float
real n = of_int binary64 (pos n)

abbrev pub million : Float
million = from_bits binary64 0x412e_8480_0000_0000

-- 0.75, 1, 1.25 and 2
abbrev pub reduced_gain : Float
reduced_gain = from_bits binary32 0x3f40_0000

abbrev pub unit_gain : Float
unit_gain = from_bits binary32 0x3f80_0000

abbrev pub raised_gain : Float
raised_gain = from_bits binary32 0x3fa0_0000

abbrev pub double_gain : Float
double_gain = from_bits binary32 0x4000_0000

-- 2.885, about 2 / ln 2: the startup doubles what it sends in each round
abbrev pub high_gain : Float
high_gain = from_bits binary32 0x4038_a3d7

-- the cycle: up by a quarter, down by a quarter, and six times level
abbrev pub cycle : List Float
cycle =
    raised_gain ∷ reduced_gain ∷ unit_gain ∷ unit_gain ∷ unit_gain ∷ unit_gain ∷ unit_gain ∷ unit_gain ∷ []
