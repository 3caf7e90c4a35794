-- Worked figures of the casts and the cube root, as facts about the definitions. Assumes nothing.
use Rattle.std.specs.Prelude.{◌≡◌, ℕ, ◌^◌, pos, Float}
use Rattle.std.specs.Float.{binary32, binary64}
use Rattle.std.specs.Float.Ieee.{of_int, to_unsigned}
use Rattle.numbers.specs.Root.{cube_root}

-- n as an f32, and that as a u64 again
abbrev pub through_single : ℕ → ℕ
through_single n = to_unsigned 64 (of_int binary32 (pos n))

-- the cube root of the whole number n
abbrev pub root_of : ℕ → Float
root_of n = cube_root (of_int binary64 (pos n))

-- 16,777,217 and 16,777,219 each lie halfway between two f32s. The one with the even last digit is below, 16,777,216, and above, 16,777,220.
-- The cube root of 8 is 2, that of 0 is 0, and that of 2^21 is 128.
pub record Figures : Type 0 where
  pub below : through_single 16_777_217 ≡ 16_777_216
  pub above : through_single 16_777_219 ≡ 16_777_220
  pub eight : root_of 8 ≡ of_int binary64 (pos 2)
  pub zero : root_of 0 ≡ of_int binary64 (pos 0)
  pub limit : root_of (2 ^ 21) ≡ of_int binary64 (pos 128)
