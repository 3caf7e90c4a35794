-- The limits of a loss reduction factor. Assumes nothing.
use Rattle.std.specs.Prelude.{◌≡◌, true, from_bits, Float}
use Rattle.std.specs.Float.{binary32}
use Rattle.std.specs.Float.Ieee.{le}

-- 0.0, 0.5 and 1.0 as f32s, by their bits
abbrev pub naught : Float
naught = from_bits binary32 0

abbrev pub half : Float
half = from_bits binary32 0x3f00_0000

abbrev pub whole : Float
whole = from_bits binary32 0x3f80_0000

-- What part of the window a loss leaves: from 0.0 to 1.0. A NaN is not.
abbrev pub InFactor : Float → Type 0
InFactor x = (le naught x ≡ true) × (le x whole ≡ true)
