-- A whole number of `prec f + k` binary digits as the nearest float of the format f: its `prec f` leading digits, rounded, times 2^k. Assumes nothing.
use Rattle.std.proofs.Common.{◌≡◌, ℕ, suc, ◌+◌, ◌-◌, ◌*◌, ◌/◌, ◌%◌, ◌^◌, ◌<◌, ◌≤◌, false, cond, pos, sym, refl, ap, ◌∙◌, subst, inl, inr, le_trans, le_of_eq, lt_of_lt_of_le, lt_of_le_of_lt, lt_irrefl, mul-le-mul_right, eq-or-lt_of_le, one-mul, le-div_iff_mul-le, div-one, mod-eq_of_lt, pow-suc, Bool, eqb, arith, lit<, pow_pos, pow_mono, pow-add, shl_lt}
use Prim.Native.Nat.{compare}
use native.Mathlib.Nat.{eq_of_mul-eq-mul_right}
use lib.Arith.{digits_div, digits_mod}
use lib.Pow.{pow-lt}
use lib.Ieee.{Float, nan, inf, fin, Format, binary32, binary64, prec, emax, low, hid, ones, up, down, top, size, odd, units, round, of_int, of_bits, of_fields}
use lib.Ieee.Digits.{size-lt, size-le}
use lib.Ieee.Exact.{HasValue, odd_sign, units_val}
use lib.Ieee.Fits.{core, round_is, two, two-le_pos, of_int-fits}
use lib.Ieee.Bits.{of_bits-fits}
use lib.Ieee.Back.{whole_unique}
use lib.Ieee.Nearest.{closest, closest_same, nearest-ge}
use Rattle.std.proofs.lemmas.Bool.{cases_lt, lt-leb, ne_eqb}
use Rattle.numbers.proofs.Closest.{closest_le}

-- every whole number of 64 bits is in the range of both formats
pub in_range : (f : Format) → 64 < suc (emax f)
in_range binary32 = lit< tt
in_range binary64 = lit< tt

pub some_digits : (f : Format) → 0 < prec f
some_digits f = two-le_pos (prec f) (two f)

pub size_gt : (n j : ℕ) → 2 ^ j ≤ n → j < size n
size_gt n j from = elim (cases_lt j (size n)) [ inl l ↦ l | inr g ↦ absurd (lt_irrefl n (lt_of_lt_of_le (size-lt n) (le_trans (pow_mono g) from))) ]

-- a number from 2^z on and below 2^(z + 1) has z + 1 digits
pub size_is : (n z : ℕ) → 2 ^ z ≤ n → n < 2 ^ suc z → size n ≡ suc z
size_is n z from below = omega (arith, size_gt n z from, size-le n (suc z) below)

-- from one fraction to another of the same size
rescale : (x : Float) (w l num den : ℕ) → 0 < l → num * l ≡ w * den → HasValue x false w l → HasValue x false num den
rescale nan w l num den p h v = v
rescale (inf t) w l num den p h v = v
rescale (fin t m e) w l num den p h v = (v.0, eq_of_mul-eq-mul_right l p (m * up e * den) (num * down e) (omega (arith, ap (λ (x : ℕ). x * den) v.1, ap (λ (x : ℕ). x * down e) h)))

pub twice : (f : Format) → 2 ^ prec f ≡ 2 * hid f
twice binary32 = refl
twice binary64 = refl

-- the float with the exponent's field j + 1 and the digits t
field_value : (f : Format) (j t : ℕ) → suc j < ones f → t < hid f → HasValue (of_bits f (suc j * hid f + t)) false ((hid f + t) * 2 ^ j) (2 ^ low f)
unfolding of_bits of_fields
field_value f j t h l =
    let b = suc j * hid f + t in
    let below : b < top f = omega (arith, mul-le-mul_right (hid f) h) in
    let field : b % top f / hid f ≡ suc j = ap (λ (x : ℕ). x / hid f) (mod-eq_of_lt below) ∙ digits_div (suc j) l in
    let parts : of_bits f b ≡ of_fields f false (suc j) t = λ i. of_fields f (lt-leb (top f) b below i) (field i) (digits_mod (suc j) l i) in
    let finite : of_fields f false (suc j) t ≡ odd (prec f) false (hid f + t) j (low f) =
    ap (λ (last : Bool). cond last (cond (eqb t 0) (inf false) nan) (odd (prec f) false (hid f + t) j (low f))) (ne_eqb (suc j) (ones f) (omega arith)) in
    subst (λ (x : Float). HasValue x false ((hid f + t) * 2 ^ j) (2 ^ low f)) (sym (parts ∙ finite)) (odd_sign (prec f) false (hid f + t) j (low f))

-- the place of the top digit of a number that has k digits more than the format keeps
abbrev pub top_digit : Format → ℕ → ℕ
top_digit f k = prec f - 1 + k

module _ (f : Format) (n k : ℕ) (least : 2 ^ (top_digit f k) ≤ n) (most : n < 2 ^ (prec f + k)) (few : prec f + k ≤ 64) where
  p_pos : 0 < prec f
  p_pos = some_digits f

  size_scaled : size (n * 2 ^ low f) ≡ prec f + (k + low f)
  size_scaled =
      let z = top_digit f k + low f in
      let next : suc z ≡ prec f + k + low f = let h = p_pos in omega arith in
      let from : 2 ^ z ≤ n * 2 ^ low f = le_trans (le_of_eq (pow-add 2 (top_digit f k) (low f))) (mul-le-mul_right (2 ^ low f) least) in
      let below : n * 2 ^ low f < 2 ^ suc z = subst (λ (x : ℕ). n * 2 ^ low f < 2 ^ x) (sym next) (shl_lt (prec f + k) (low f) most) in
      size_is (n * 2 ^ low f) z from below ∙ next ∙ omega arith

  round_units : round f false n 1 ≡ units f false (closest n (2 ^ k)) (k + low f)
  round_units =
      let N = n * 2 ^ low f in
      let j = k + low f in
      let at : size (N / 1) - prec f ≡ j = ap (λ (x : ℕ). size x - prec f) (div-one N) ∙ ap (λ (x : ℕ). x - prec f) size_scaled ∙ omega arith in
      let cross : N * 2 ^ k ≡ n * (1 * 2 ^ j) = omega (arith, ap (λ (x : ℕ). n * x) (pow-add 2 k (low f))) in
      round_is f false n 1
      ∙ ap (λ (i : ℕ). core f false N 1 i) at
      ∙ ap (λ (q : ℕ). units f false q j) (closest_same N (1 * 2 ^ j) n (2 ^ k) (subst (λ (x : ℕ). 0 < x) (sym (one-mul (2 ^ j))) (pow_pos j)) (pow_pos k) cross)

  pub closest_from : 2 ^ (prec f - 1) ≤ closest n (2 ^ k)
  closest_from =
      let a : 2 ^ (prec f - 1) * 2 ^ k ≤ n = le_trans (le_of_eq (sym (pow-add 2 (prec f - 1) k))) least in
      le_trans ((le-div_iff_mul-le (pow_pos k)).1 a) (nearest-ge (n / 2 ^ k) (compare (n % 2 ^ k * 2) (2 ^ k)))

  pub round_value : HasValue (round f false n 1) false (closest n (2 ^ k) * 2 ^ k) 1
  round_value =
      let q = closest n (2 ^ k) in
      let j = k + low f in
      let high : prec f + j < low f + suc (emax f) = let h = in_range f in omega arith in
      let room : q * 2 ^ j < 2 ^ (low f + suc (emax f)) = lt_of_le_of_lt (mul-le-mul_right (2 ^ j) (closest_le (prec f) n k most)) (subst (λ (x : ℕ). x < 2 ^ (low f + suc (emax f))) (pow-add 2 (prec f) j) (pow-lt high)) in
      let cross : q * 2 ^ k * 2 ^ low f ≡ q * 2 ^ j * 1 = omega (arith, ap (λ (x : ℕ). q * x) (pow-add 2 k (low f))) in
      subst (λ (x : Float). HasValue x false (q * 2 ^ k) 1) (sym round_units)
      (rescale (units f false q j) (q * 2 ^ j) (2 ^ low f) (q * 2 ^ k) 1 (pow_pos (low f)) cross (units_val f false q j room))

  -- the bits that say so: the significand is added to the exponent's field, into which it carries
  pub pattern_le : (k + low f) * hid f + closest n (2 ^ k) ≤ ones f * hid f
  pattern_le =
      let q = closest_le (prec f) n k most in
      let double = twice f in
      let field : k + low f + 2 ≤ ones f = let h = in_range f in omega arith in
      omega (arith, mul-le-mul_right (hid f) field)

  pub pattern_value : HasValue (of_bits f ((k + low f) * hid f + closest n (2 ^ k))) false (closest n (2 ^ k) * 2 ^ k) 1
  pattern_value =
      let q = closest n (2 ^ k) in
      let j = k + low f in
      let double = twice f in
      let some = closest_from in
      let h = in_range f in
      let cross : q * 2 ^ k * 2 ^ low f ≡ q * 2 ^ j * 1 = omega (arith, ap (λ (x : ℕ). q * x) (pow-add 2 k (low f))) in
      let Reads : ℕ → ℕ → Type 0 = λ b v. HasValue (of_bits f b) false v (2 ^ low f) in
      let value : Reads (j * hid f + q) (q * 2 ^ j) = elim (eq-or-lt_of_le (closest_le (prec f) n k most)) [
        | inr l ↦
            let digits : hid f + (q - hid f) ≡ q = omega arith in
            let bits : suc j * hid f + (q - hid f) ≡ j * hid f + q = omega arith in
            subst (λ (b : ℕ). Reads b (q * 2 ^ j)) bits (subst (λ (d : ℕ). Reads (suc j * hid f + (q - hid f)) (d * 2 ^ j)) digits (field_value f j (q - hid f) (omega arith) (omega arith)))
        | inl e ↦
            let digits : (hid f + 0) * 2 ^ suc j ≡ q * 2 ^ j = omega (arith, ap (λ (x : ℕ). (hid f + 0) * x) (pow-suc 2 j), ap (λ (x : ℕ). x * 2 ^ j) e, ap (λ (x : ℕ). x * 2 ^ j) double) in
            let bits : suc (suc j) * hid f + 0 ≡ j * hid f + q = omega arith in
            subst (λ (b : ℕ). Reads b (q * 2 ^ j)) bits (subst (Reads (suc (suc j) * hid f + 0)) digits (field_value f (suc j) 0 (omega arith) (pow_pos (prec f - 1))))
      ] in
      rescale (of_bits f (j * hid f + q)) (q * 2 ^ j) (2 ^ low f) (q * 2 ^ k) 1 (pow_pos (low f)) cross value

  pub pattern_read : of_bits f ((k + low f) * hid f + closest n (2 ^ k)) ≡ of_int f (pos n)
  unfolding of_int
  pattern_read = whole_unique f _ (round f false n 1) false (closest n (2 ^ k) * 2 ^ k) (of_bits-fits f _) (of_int-fits f (pos n)) pattern_value round_value
