-- A float above 0 and below 2^21, times 2^42 and cut to a whole number, and a whole number over 2^14: nothing is lost. Assumes nothing.
use Rattle.std.proofs.Common.{◌≡◌, ℕ, zero, suc, ◌+◌, ◌-◌, ◌*◌, ◌/◌, ◌^◌, ◌<◌, ◌≤◌, min, Bool, true, false, cond, ℤ, pos, negsuc, sym, refl, ap, ◌∙◌, subst, inl, inr, zero-le, le_trans, le_of_eq, lt_of_lt_of_le, lt_of_le_of_lt, le_of_lt, lt_irrefl, mul-le-mul_right, mul_assoc, div-lt_iff_lt-mul, mul-le-mul, mul-pos, zero-mul, mul-one, div-mul-le_self, arith, lit<, lit≤, pow_pos, pow_mono, pow-add}
use lib.Count.{count_trailing_zeros}
use lib.Pow.{pow-lt}
use lib.Ieee.{Float, nan, inf, fin, binary64, up, down, unlike, round, mul, div, lt, eq, le, fits, of_int, to_unsigned, of_bits, of_fields, odd}
use lib.Ieee.Exact.{HasValue, round_exact}
use lib.Ieee.Fits.{up_pos, down_pos}
use lib.Ieee.Nearest.{div_same}
use lib.Ieee.Back.{round_whole}
use lib.Ieee.Scale.{round_same}
use lib.Ieee.Positive.{mul_at, positive_of_value}
use Rattle.std.proofs.lemmas.Bool.{both_ways, ltb-true, ltb-false, cases_lt}
use Rattle.std.specs.Float.{two_to}
use Rattle.numbers.proofs.Bounds.{at_least, under, digits_few, last_place}
use Rattle.numbers.specs.Root.{zero64, two7, two21, two14, two42, third_power, CubeRoot}

-- ---- the constants
two42_is : two42 ≡ two_to 42
unfolding of_bits of_fields odd count_trailing_zeros
two42_is = refl

two21_is : two21 ≡ two_to 21
unfolding of_bits of_fields odd count_trailing_zeros
two21_is = refl

zero64_is : zero64 ≡ fin false 0 (pos 0)
unfolding of_bits of_fields odd count_trailing_zeros
zero64_is = refl

two14_is : two14 ≡ two_to 14
unfolding of_bits of_fields odd count_trailing_zeros
two14_is = refl

-- ---- what a cast to u64 leaves of a value
cut : (x : Float) (num den : ℕ) → 0 < den → HasValue x false num den → num / den < 2 ^ 63 → to_unsigned 64 x ≡ num / den
unfolding to_unsigned
cut nan num den d v h = absurd v
cut (inf s) num den d v h = absurd v
cut (fin t m e) num den d v h =
    let same : m * up e / down e ≡ num / den = div_same (m * up e) (down e) num den (down_pos e) d v.1 in
    ap (λ (b : Bool). cond b 0 (min (m * up e / down e) (2 ^ 64 - 1))) v.0 ∙ omega arith

exact_at : (m : ℕ) (e : ℤ) → m < 2 ^ 53 → down e ≤ 2 ^ 1074 → m * up e < 2 ^ 21 * down e → HasValue (round binary64 false (m * up e * 2 ^ 42) (down e * 1)) false (m * up e * 2 ^ 42) (down e * 1)
exact_at m (pos i) small near below =
    let split : m * 2 ^ (i + 1116) ≡ m * 2 ^ i * 2 ^ 1116 = omega (arith, ap (λ (x : ℕ). m * x) (pow-add 2 i 1116)) in
    let few : m * 2 ^ i ≤ 2 ^ 21 = omega arith in
    let room : m * 2 ^ i * 2 ^ 1116 ≤ 2 ^ 21 * 2 ^ 1116 = mul-le-mul_right (2 ^ 1116) few in
    round_exact binary64 false (m * 2 ^ i * 2 ^ 42) (1 * 1) m (i + 1116) (lit< tt) small (lt_of_le_of_lt (le_trans (le_of_eq split) room) (lit< tt)) (omega arith)
exact_at m (negsuc i) small near below =
    let short : suc i ≤ 1074 = elim (cases_lt 1074 (suc i)) [ inl l ↦ absurd (lt_irrefl (2 ^ 1074) (lt_of_lt_of_le (pow-lt l) near)) | inr g ↦ g ] in
    let j = 1116 - suc i in
    let back : j + suc i ≡ 1116 = omega arith in
    let power : m * 2 ^ 1116 ≡ m * (2 ^ j * 2 ^ suc i) = ap (λ (x : ℕ). m * 2 ^ x) (sym back) ∙ ap (λ (x : ℕ). m * x) (pow-add 2 j (suc i)) in
    round_exact binary64 false (m * 1 * 2 ^ 42) (2 ^ suc i * 1) m j (mul-pos (pow_pos (suc i)) (lit< tt)) small
    (lt_of_le_of_lt (mul-le-mul (le_of_lt small) (pow_mono {i = j} {j = 1116} (omega arith))) (lit< tt))
    (omega arith)

-- ---- w is the whole part of a * 2^42, for an a above 0 and below 2^21
abbrev pub Cut : Float → ℕ → Type 0
Cut nan w = ⊥
Cut (inf s) w = ⊥
Cut (fin true m e) w = ⊥
Cut (fin false m e) w = (m * up e < 2 ^ 21 * down e) × (w * down e ≤ m * up e * 2 ^ 42) × (m * up e * 2 ^ 42 < (w + 1) * down e)

abbrev pub Scaled : Float → ℕ → Type 0
Scaled a w = (w < 2 ^ 63) × Cut a w

positive_cut : (m : ℕ) (e : ℤ) → 0 < m → m < 2 ^ 53 → down e ≤ 2 ^ 1074 → m * up e < 2 ^ 21 * down e → Scaled (fin false m e) (to_unsigned 64 (mul binary64 (fin false m e) (two_to 42)))
positive_cut m e mp small near below =
    let a = fin false m e in
    let s = two_to 42 in
    let num = m * up e * 2 ^ 42 in
    let den = down e in
    let va : HasValue a false (m * up e) (down e) = (refl, refl) in
    let vs : HasValue s false (2 ^ 42) 1 = (refl, refl) in
    let is : mul binary64 a s ≡ round binary64 false num (den * 1) =
    mul_at binary64 a s (m * up e) den (2 ^ 42) 1 (positive_of_value a (m * up e) den va (mul-pos mp (up_pos e))) (positive_of_value s (2 ^ 42) 1 vs (lit< tt)) (down_pos e) (lit< tt) va vs in
    let v : HasValue (mul binary64 a s) false num den =
    subst (λ (d : ℕ). HasValue (mul binary64 a s) false num d) (mul-one den) (subst (λ (x : Float). HasValue x false num (den * 1)) (sym is) (exact_at m e small near below)) in
    let under : num < 2 ^ 63 * den = omega arith in
    let q : num / den < 2 ^ 63 = (div-lt_iff_lt-mul (down_pos e)).1 under in
    let w : to_unsigned 64 (mul binary64 a s) ≡ num / den = cut (mul binary64 a s) num den (down_pos e) v q in
    let next : num / den < num / den + 1 = omega arith in
    subst (Scaled a) (sym w) (q, (below, div-mul-le_self num den, (div-lt_iff_lt-mul (down_pos e)).0 next))

plain : (a : Float) → fits binary64 a ≡ true → lt (fin false 0 (pos 0)) a ≡ true → le (two_to 21) a ≡ false → Scaled a (to_unsigned 64 (mul binary64 a (two_to 42)))
unfolding lt le eq
plain nan f z l = absurd (both_ways false refl z)
plain (inf true) f z l = absurd (both_ways false refl z)
plain (inf false) f z l = absurd (both_ways true l refl)
plain (fin true m e) f z l = absurd (both_ways false refl z)
plain (fin false zero e) f z l = absurd (lt_irrefl 0 (let h = ltb-true (0 * up (pos 0) * down e) (0 * up e * down (pos 0)) z in omega arith))
plain (fin false (suc m) e) f z l = positive_cut (suc m) e (omega arith) (digits_few binary64 false (suc m) e f) (last_place binary64 false m e f) (under 21 (suc m) e l)

pub scaled : (a : Float) → fits binary64 a ≡ true → lt zero64 a ≡ true → le two21 a ≡ false → Scaled a (to_unsigned 64 (mul binary64 a two42))
scaled a f z l =
    subst (λ (s : Float). Scaled a (to_unsigned 64 (mul binary64 a s))) (sym two42_is)
    (plain a f (subst (λ (x : Float). lt x a ≡ true) zero64_is z) (subst (λ (x : Float). le x a ≡ false) two21_is l))

-- ---- n / 2^14
over_steps : (n : ℕ) (x : Float) → n < 2 ^ 21 → HasValue x false n 1 → HasValue (div binary64 x (two_to 14)) false n (2 ^ 14)
unfolding div
over_steps n nan l v = absurd v
over_steps n (inf s) l v = absurd v
over_steps n (fin s m e) l v =
    let same : m * up e * 1 * 2 ^ 14 ≡ n * (1 * 2 ^ 14 * down e) = omega (arith, v.1) in
    let is : round binary64 (unlike s false) (m * up e * 1) (1 * 2 ^ 14 * down e) ≡ round binary64 false n (2 ^ 14) =
    ap (λ (b : Bool). round binary64 (unlike b false) (m * up e * 1) (1 * 2 ^ 14 * down e)) v.0
    ∙ round_same binary64 false (m * up e * 1) (1 * 2 ^ 14 * down e) n (2 ^ 14) (mul-pos (lit< tt) (down_pos e)) (lit< tt) same in
    let room : n * 2 ^ 1060 < 2 ^ (1074 + 1024) = lt_of_le_of_lt (mul-le-mul_right (2 ^ 1060) (le_of_lt l)) (lit< tt) in
    subst (λ (x : Float). HasValue x false n (2 ^ 14)) (sym is)
    (round_exact binary64 false n (2 ^ 14) n 1060 (lit< tt) (lt_of_lt_of_le l (lit≤ tt)) room (sym (mul_assoc n (2 ^ 1060) (2 ^ 14))))

pub in_steps : (n : ℕ) → n < 2 ^ 21 → HasValue (div binary64 (of_int binary64 (pos n)) two14) false n (2 ^ 14)
unfolding of_int
in_steps n l =
    subst (λ (s : Float). HasValue (div binary64 (round binary64 false n 1) s) false n (2 ^ 14)) (sym two14_is)
    (over_steps n (round binary64 false n 1) l (round_whole binary64 false n (le_of_lt (lt_of_lt_of_le l (lit≤ tt)))))

-- ---- the three ways of the rule
below_all : (a : Float) (r : Float) → r ≡ zero64 → lt (fin false 0 (pos 0)) a ≡ false → CubeRoot a r
unfolding lt
below_all nan r h z = h
below_all (inf true) r h z = h
below_all (inf false) r h z = absurd (both_ways true z refl)
below_all (fin true m e) r h z = h
below_all (fin false m e) r h z =
    let nothing : m * up e ≡ 0 = let l = ltb-false (0 * up (pos 0) * down e) (m * up e * down (pos 0)) z in omega arith in
    let D = down_pos e in (
      λ l. absurd (lt_irrefl 0 (let d : 0 < 2 ^ 21 * down e = mul-pos (lit< tt) D in omega arith)),
      λ _. (
        0,
        subst (λ (x : Float). HasValue x false 0 (2 ^ 14)) (sym (h ∙ zero64_is)) (refl, refl),
        le_trans (le_of_eq (zero-mul (down e))) zero-le,
        subst (λ (x : ℕ). x * 2 ^ 42 < 1 * down e) (sym nothing) (omega arith),
      ),
    )

pub no_root : (a r : Float) → r ≡ zero64 → lt zero64 a ≡ false → CubeRoot a r
no_root a r h z = below_all a r h (subst (λ (x : Float). lt x a ≡ false) zero64_is z)

past_limit : (a r : Float) → r ≡ two7 → lt (fin false 0 (pos 0)) a ≡ true → le (two_to 21) a ≡ true → CubeRoot a r
unfolding lt le eq
past_limit nan r h z l = absurd (both_ways false refl z)
past_limit (inf true) r h z l = absurd (both_ways false refl z)
past_limit (inf false) r h z l = h
past_limit (fin true m e) r h z l = absurd (both_ways false refl z)
past_limit (fin false m e) r h z l = (λ _. h, λ below. absurd (lt_irrefl (m * up e) (lt_of_lt_of_le below (at_least 21 m e l))))

pub largest_root : (a r : Float) → r ≡ two7 → lt zero64 a ≡ true → le two21 a ≡ true → CubeRoot a r
largest_root a r h z l = past_limit a r h (subst (λ (x : Float). lt x a ≡ true) zero64_is z) (subst (λ (x : Float). le x a ≡ true) two21_is l)

cut_root : (a r : Float) (w n : ℕ) → Cut a w → HasValue r false n (2 ^ 14) → third_power n ≤ w → w < third_power (n + 1) → CubeRoot a r
cut_root nan r w n c v lo hi = absurd c
cut_root (inf s) r w n c v lo hi = absurd c
cut_root (fin true m e) r w n c v lo hi = absurd c
cut_root (fin false m e) r w n c v lo hi =
    let up_to : w + 1 ≤ third_power (n + 1) = omega arith in (
      λ l. absurd (lt_irrefl (m * up e) (lt_of_lt_of_le c.0 l)),
      λ _. (n, v, le_trans (mul-le-mul_right (down e) lo) c.1, lt_of_lt_of_le c.2 (mul-le-mul_right (down e) up_to)),
    )

pub root_between : (a : Float) (w n : ℕ) → Cut a w → n < 2 ^ 21 → third_power n ≤ w → w < third_power (n + 1) → CubeRoot a (div binary64 (of_int binary64 (pos n)) two14)
root_between a w n c l lo hi = cut_root a (div binary64 (of_int binary64 (pos n)) two14) w n c (in_steps n l) lo hi
