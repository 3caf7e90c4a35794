-- Marsaglia's xorshift of 32 bits (Journal of Statistical Software 8, 2003, the triple 13, 17, 5): x ^= x << 13;
-- x ^= x >> 17; x ^= x << 5. What is shifted out on the left is lost. The draw is the state after a step, modulo 7.
-- Assumes nothing.
use Rattle.std.specs.Prelude.{cond, ℕ, ◌*◌, ◌/◌, ◌%◌, ◌^◌, eqb}
use Rattle.std.specs.Int.Bits.{bit_xor}

abbrev pub xor_left : ℕ → ℕ → ℕ
xor_left k x = bit_xor x (x * 2 ^ k % 2 ^ 32)

abbrev pub xor_right : ℕ → ℕ → ℕ
xor_right k x = bit_xor x (x / 2 ^ k)

abbrev pub shifted : ℕ → ℕ
shifted x = xor_left 5 (xor_right 17 (xor_left 13 x))

abbrev pub seeded : ℕ → ℕ
seeded n = cond (eqb n 0) 1 n
