-- The whole part of a float of either format, from its bits. Assumes nothing.
use Rattle.std.proofs.Common.{◌≡◌, ℕ, suc, ◌+◌, ◌-◌, ◌*◌, ◌/◌, ◌%◌, ◌^◌, ◌<◌, ◌≤◌, min, true, false, ℤ, pos, negsuc, sym, refl, ap, ◌∙◌, subst, inl, inr, lt_of_lt_of_le, lt_irrefl, mul-le-mul_right, suc-mul, div-lt_iff_lt-mul, lt_of_mul-lt-mul_right, mul-lt-mul_of_pos_right, one-mul, le-div_iff_mul-le, zero-add, div-mul-le_self, le_of_mul-le-mul_right, mul-div_cancel, arith, lit<, lit≤, pow_pos, pow-add, shl_lt}
use native.Mathlib.Nat.{div-eq_of_lt}
use lib.Arith.{digits_div, digits_mod}
use lib.Count.{count_trailing_zeros}
use lib.Pow.{pow-lt}
use lib.Ieee.{Float, nan, inf, fin, Format, binary32, binary64, prec, low, hid, up, down, size, fits, lt, eq, le, to_bits, of_bits, of_fields, odd, to_unsigned}
use lib.Ieee.Digits.{size-lt, size-le, size_reaches}
use lib.Ieee.Fits.{down_pos, two}
use lib.Ieee.Nearest.{div_same}
use Rattle.std.proofs.lemmas.Bool.{both_ways, cases_lt}
use Rattle.numbers.specs.Whole.{WholePart}
use Rattle.std.specs.Float.{two_to}
use Rattle.numbers.proofs.Rounding.{size_gt, twice}
use Rattle.numbers.proofs.Bounds.{at_least, under, negative, fits_parts}

-- ---- the account of a cast is the rule
whole_part : (x : Float) → WholePart x (to_unsigned 64 x)
unfolding to_unsigned
whole_part nan = refl
whole_part (inf true) = refl
whole_part (inf false) = refl
whole_part (fin true m e) = refl
whole_part (fin false m e) =
    let q = m * up e / down e in (
      λ h. let big : 2 ^ 64 ≤ q = (le-div_iff_mul-le (down_pos e)).1 h in omega arith,
      λ h.
          let small : q < 2 ^ 64 = (div-lt_iff_lt-mul (down_pos e)).1 h in
          let is : q ≡ min q (2 ^ 64 - 1) = omega arith in
          let next : q < q + 1 = omega arith in
          let Within : ℕ → Type 0 = λ r. (r * down e ≤ m * up e) × (m * up e < (r + 1) * down e) in
          subst Within is (div-mul-le_self (m * up e) (down e), (div-lt_iff_lt-mul (down_pos e)).0 next),
    )

pub whole_of : (x : Float) (r : ℕ) → r ≡ to_unsigned 64 x → WholePart x r
whole_of x r is = subst (WholePart x) (sym is) (whole_part x)

-- ---- outside the range
pub below_one : (x : Float) → le (of_bits binary64 0x3ff0_0000_0000_0000) x ≡ false → 0 ≡ to_unsigned 64 x
unfolding le lt eq to_unsigned of_bits of_fields odd count_trailing_zeros
below_one nan h = refl
below_one (inf true) h = refl
below_one (inf false) h = absurd (both_ways true h refl)
below_one (fin true m e) h = refl
below_one (fin false m e) h =
    let none : m * up e / down e ≡ 0 = div-eq_of_lt (let l = under 0 m e h in subst (λ (x : ℕ). m * up e < x) (one-mul (down e)) l) in omega arith

pub past_range : (x : Float) → le (of_bits binary64 0x43f0_0000_0000_0000) x ≡ true → 2 ^ 64 - 1 ≡ to_unsigned 64 x
unfolding le lt eq to_unsigned of_bits of_fields odd count_trailing_zeros
past_range nan h = absurd (both_ways false refl h)
past_range (inf true) h = absurd (both_ways false refl h)
past_range (inf false) h = refl
past_range (fin true m e) h = absurd (both_ways _ (negative 64 m e) h)
past_range (fin false m e) h = let big : 2 ^ 64 ≤ m * up e / down e = (le-div_iff_mul-le (down_pos e)).1 (at_least 64 m e h) in omega arith

-- ---- within it: the bits say what the whole part is

-- what is asked of a pattern b and gives r: the exponent's field is in range, and the digits, with the leading one, shifted down from the top of 64 bits, are r
abbrev pub Reads : ℕ → ℕ → ℕ → ℕ → Type 0
Reads p l b r =
    (l + 1 - p < b / 2 ^ (p - 1))
    × (b / 2 ^ (p - 1) ≤ l + 65 - p)
    × ((b % 2 ^ (p - 1) + 2 ^ (p - 1)) * 2 ^ (64 - p) / 2 ^ (l + 65 - p - b / 2 ^ (p - 1)) ≡ r)

-- of a format: its precision is below 64, and its smallest value is far below its last digit
sized : (f : Format) → (prec f < 64) × (prec f ≤ low f)
sized binary32 = (lit< tt, lit≤ tt)
sized binary64 = (lit< tt, lit≤ tt)

-- N is a float in units of the format's smallest value, from 1 on and below 2^64: m * 2^j, with no more digits in m than the format has
module _ (f : Format) (m j N : ℕ) (few : m < 2 ^ prec f) (is : N ≡ m * 2 ^ j) (from : 2 ^ low f ≤ N) (below : N < 2 ^ (64 + low f)) where
  size_from : low f < size N
  size_from = size_gt N (low f) from

  size_to : size N ≤ 64 + low f
  size_to = size-le N (64 + low f) below

  dropped_le : size N - prec f ≤ j
  dropped_le =
      let s : size N ≤ prec f + j = size-le N (prec f + j) (subst (λ (x : ℕ). x < 2 ^ (prec f + j)) (sym is) (shl_lt (prec f) j few)) in omega arith

  -- the significand, at its full length
  significand : (d : ℕ) × (N ≡ (d + hid f) * 2 ^ (size N - prec f)) × (d < hid f)
  significand =
      let k = size N - prec f in
      let p = prec f in
      let D = m * 2 ^ (j - k) in
      let back : j - k + k ≡ j = let h = dropped_le in omega arith in
      let whole : D * 2 ^ k ≡ N = omega (arith, ap (λ (x : ℕ). m * x) (pow-add 2 (j - k) k), ap (λ (x : ℕ). m * 2 ^ x) back) in
      let some = two f in
      let long = (sized f).1 in
      let far = size_from in
      let top : p - 1 + k < size N = omega arith in
      let all : p + k ≡ size N = omega arith in
      let lo : hid f ≤ D = le_of_mul-le-mul_right {k = 2 ^ k} (omega (arith, pow-add 2 (p - 1) k, size_reaches N (p - 1 + k) top)) (pow_pos k) in
      let hi : D < 2 ^ p = lt_of_mul-lt-mul_right (2 ^ k) (omega (arith, size-lt N, pow-add 2 p k, ap (λ (x : ℕ). 2 ^ x) all)) in
      let double = twice f in
      let again : D - hid f + hid f ≡ D = omega arith in
      (D - hid f, sym whole ∙ ap (λ (x : ℕ). x * 2 ^ k) (sym again), omega arith)

  reads : Reads (prec f) (low f) ((size N - prec f) * hid f + N / 2 ^ (size N - prec f)) (N / 2 ^ low f)
  reads =
      let k = size N - prec f in
      let p = prec f in
      let l = low f in
      let d = significand.0 in
      let D = d + hid f in
      let digits : N / 2 ^ k ≡ D = ap (λ (x : ℕ). x / 2 ^ k) significand.1 ∙ mul-div_cancel D (pow_pos k) in
      let b-is : k * hid f + N / 2 ^ k ≡ suc k * hid f + d = ap (λ (x : ℕ). k * hid f + x) digits ∙ (let x = suc-mul k (hid f) in omega arith) in
      let field : (suc k * hid f + d) / hid f ≡ suc k = digits_div (suc k) significand.2 in
      let rest : (suc k * hid f + d) % hid f ≡ d = digits_mod (suc k) significand.2 in
      let few-digits = sized f in
      let far = size_from in
      let near = size_to in
      let shift : 64 - p + l ≡ k + (l + 65 - p - suc k) = omega arith in
      let r = l + 65 - p - suc k in
      let cross : D * 2 ^ (64 - p) * 2 ^ l ≡ N * 2 ^ r =
      omega (arith, ap (λ (x : ℕ). D * x) (pow-add 2 (64 - p) l), ap (λ (x : ℕ). D * 2 ^ x) shift, ap (λ (x : ℕ). D * x) (pow-add 2 k r), ap (λ (x : ℕ). x * 2 ^ r) significand.1) in
      let cut : D * 2 ^ (64 - p) / 2 ^ r ≡ N / 2 ^ l = div_same (D * 2 ^ (64 - p)) (2 ^ r) N (2 ^ l) (pow_pos r) (pow_pos l) cross in
      let Read : ℕ → ℕ → Type 0 = λ e t. (l + 1 - p < e) × (e ≤ l + 65 - p) × ((t + hid f) * 2 ^ (64 - p) / 2 ^ (l + 65 - p - e) ≡ N / 2 ^ l) in
      let at : Read (suc k) d = (omega arith, omega arith, cut) in
      subst (λ (b : ℕ). Reads p l b (N / 2 ^ l)) (sym b-is)
      (subst (λ (e : ℕ). Read e ((suc k * hid f + d) % hid f)) (sym field) (subst (Read (suc k)) (sym rest) at))

-- a float of the format in those units
in_units : (f : Format) (m : ℕ) (e : ℤ) → down e ≤ 2 ^ low f → (j : ℕ) × (m * up e * 2 ^ low f ≡ m * 2 ^ j * down e)
in_units f m (pos a) h = (a + low f, omega (arith, ap (λ (x : ℕ). m * x) (pow-add 2 a (low f))))
in_units f m (negsuc i) h =
    let short : suc i ≤ low f = elim (cases_lt (low f) (suc i)) [ inl l ↦ absurd (lt_irrefl (2 ^ low f) (lt_of_lt_of_le (pow-lt l) h)) | inr g ↦ g ] in
    let back : low f - suc i + suc i ≡ low f = omega arith in
    (low f - suc i, omega (arith, ap (λ (x : ℕ). m * 2 ^ x) back, ap (λ (x : ℕ). m * x) (pow-add 2 (low f - suc i) (suc i))))

pub bits_read : (f : Format) (x : Float) → fits f x ≡ true → le (two_to 0) x ≡ true → le (two_to 64) x ≡ false → Reads (prec f) (low f) (to_bits f x) (to_unsigned 64 x)
unfolding le lt eq to_bits to_unsigned
bits_read f nan h one top = absurd (both_ways false refl one)
bits_read f (inf true) h one top = absurd (both_ways false refl one)
bits_read f (inf false) h one top = absurd (both_ways true top refl)
bits_read f (fin true m e) h one top = absurd (both_ways _ (negative 0 m e) one)
bits_read f (fin false m e) h one top =
    let parts = fits_parts f false m e h (at_least 0 m e one) in
    let unit = in_units f m e parts.1 in
    let N = m * up e * 2 ^ low f / down e in
    let N-is : N ≡ m * 2 ^ unit.0 = ap (λ (x : ℕ). x / down e) unit.1 ∙ mul-div_cancel (m * 2 ^ unit.0) (down_pos e) in
    let exact : N * down e ≡ m * up e * 2 ^ low f = ap (λ (x : ℕ). x * down e) N-is ∙ sym unit.1 in
    let from : 2 ^ low f ≤ N = (le-div_iff_mul-le (down_pos e)).1 (omega (arith, mul-le-mul_right (2 ^ low f) (at_least 0 m e one))) in
    let below : N < 2 ^ (64 + low f) = (div-lt_iff_lt-mul (down_pos e)).1 (omega (arith, mul-lt-mul_of_pos_right (under 64 m e top) (pow_pos (low f)), ap (λ (x : ℕ). x * down e) (pow-add 2 64 (low f)))) in
    let cut : N / 2 ^ low f ≡ m * up e / down e = div_same N (2 ^ low f) (m * up e) (down e) (pow_pos (low f)) (down_pos e) exact in
    let small : m * up e / down e < 2 ^ 64 = (div-lt_iff_lt-mul (down_pos e)).1 (under 64 m e top) in
    let whole : N / 2 ^ low f ≡ min (m * up e / down e) (2 ^ 64 - 1) = cut ∙ omega arith in
    let k = size N - prec f in
    subst (λ (b : ℕ). Reads (prec f) (low f) b (min (m * up e / down e) (2 ^ 64 - 1))) (ap (λ (x : ℕ). x + N / 2 ^ k) (sym (zero-add (k * hid f))))
    (subst (Reads (prec f) (low f) (k * hid f + N / 2 ^ k)) whole (reads f m unit.0 N parts.0 N-is from below))

-- of an f64
pub f64_read : (x : Float) → fits binary64 x ≡ true → le (of_bits binary64 0x3ff0_0000_0000_0000) x ≡ true → le (of_bits binary64 0x43f0_0000_0000_0000) x ≡ false
    → Reads 53 1074 (to_bits binary64 x) (to_unsigned 64 x)
unfolding of_bits of_fields odd count_trailing_zeros
f64_read x h one top = bits_read binary64 x h one top
