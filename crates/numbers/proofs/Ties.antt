-- The float that a whole number is rounded to is the nearest, and at a tie its last digit is even. Assumes nothing.
use Rattle.std.proofs.Common.{◌≡◌, ℕ, suc, ◌+◌, ◌-◌, ◌*◌, ◌%◌, ◌^◌, ◌<◌, ◌≤◌, Bool, true, false, T, ◌⊎◌, ℤ, pos, negsuc, sym, refl, ap, ◌∙◌, subst, inl, inr, le_trans, le_of_eq, le_refl, lt_of_lt_of_le, le_of_lt, mul-le-mul_right, add-mul, eq-or-lt_of_le, mul-pos, pow-suc, zero-mul, mul-one, arith, pow_pos, pow_mono, pow-add, shl_lt}
use native.Mathlib.Nat.{eq_of_mul-eq-mul_right}
use lib.Count.{count_leading_zeros}
use lib.Pow.{pow-lt}
use lib.Ieee.{Float, nan, inf, fin, Format, binary32, binary64, prec, up, down, round, of_int, fits, eq, level}
use lib.Ieee.Bits.{is_true}
use lib.Ieee.Exact.{HasValue}
use lib.Ieee.Fits.{of_int-fits, down_pos}
use lib.Ieee.Nearest.{closest}
use lib.Ieee.Back.{round_whole}
use Rattle.std.proofs.lemmas.Bool.{both_ways, cases_lt}
use Rattle.std.proofs.lemmas.Bool.Decides.{nat_tests}
use Rattle.numbers.specs.Nearest.{apart, distance, NoNearer, AsNear, EvenLast, Nearest}
use Rattle.numbers.proofs.Bounds.{digits_few}
use Rattle.numbers.proofs.Closest.{best, apart_scaled, closest_le}
use Rattle.numbers.proofs.Rounding.{some_digits, twice, round_value, closest_from}
use Rattle.numbers.proofs.Leading.{least, most, all_digits, some_past}

-- below B in size, or negative, a float is further from n than B is
below : (n B m D : ℕ) → B ≤ n → m < B * D → (n - B) * D < apart m (n * D)
below n B m D h l =
    let whole : (n - B) * D + B * D ≡ n * D = sym (add-mul (n - B) B D) ∙ ap (λ (x : ℕ). x * D) (omega arith) in
    omega arith

beneath : (n B m D : ℕ) → 0 < B → B ≤ n → 0 < D → (n - B) * D < m + n * D
beneath n B m D p h d =
    let whole : (n - B) * D + B * D ≡ n * D = sym (add-mul (n - B) B D) ∙ ap (λ (x : ℕ). x * D) (omega arith) in
    let some : 0 < B * D = mul-pos p d in
    omega arith

-- where the format drops k digits of n, its values are the multiples of 2^k and what is below the power of two that n has passed
abbrev Grid : ℕ → ℕ → ℕ → Bool → ℕ → ℤ → Type 0
Grid n B U t m e = ((c : ℕ) × (t ≡ false) × (m * up e ≡ c * U * down e)) ⊎ ((n - B) * down e < distance n t m e)

grid : (f : Format) (n k : ℕ) → 0 < k → 2 ^ (prec f - 1 + k) ≤ n → (t : Bool) (m : ℕ) (e : ℤ) → m < 2 ^ prec f → Grid n (2 ^ (prec f - 1 + k)) (2 ^ k) t m e
grid f n k K h true m e l = inr (beneath n (2 ^ (prec f - 1 + k)) (m * up e) (down e) (pow_pos (prec f - 1 + k)) h (down_pos e))
grid f n k K h false m (negsuc a) l =
    let p = prec f in
    let some = some_digits f in
    let far : 2 ^ p ≤ 2 ^ (p - 1 + k) = pow_mono (let s : p ≤ p - 1 + k = omega arith in s) in
    let one : 1 * 2 ^ (p - 1 + k) ≤ 2 ^ suc a * 2 ^ (p - 1 + k) = mul-le-mul_right (2 ^ (p - 1 + k)) (pow_pos (suc a)) in
    inr (below n (2 ^ (p - 1 + k)) (m * 1) (2 ^ suc a) h (omega arith))
grid f n k K h false m (pos a) l =
    let p = prec f in
    let some = some_digits f in
    elim (cases_lt a k) [
      | inl s ↦
          let small : m * 2 ^ a < 2 ^ (p - 1 + k) = lt_of_lt_of_le (shl_lt p a l) (pow_mono (let r : p + a ≤ p - 1 + k = omega arith in r)) in
          inr (below n (2 ^ (p - 1 + k)) (m * 2 ^ a) 1 h (omega arith))
      | inr g ↦
          let back : a - k + k ≡ a = omega arith in
          inl (m * 2 ^ (a - k), refl, omega (arith, ap (λ (x : ℕ). m * 2 ^ x) back, ap (λ (x : ℕ). m * x) (pow-add 2 (a - k) k)))
    ]

-- ---- two floats of one size are equal

level_true : (s t : Bool) (a b : ℕ) → a ≡ b → (s ≡ t) ⊎ (a ≡ 0) → level s a t b ≡ true
level_true true true a b h e = grind (arith, nat_tests)
level_true true false a b h e = grind (arith, nat_tests)
level_true false true a b h e = grind (arith, nat_tests)
level_true false false a b h e = grind (arith, nat_tests)

-- V is what n was rounded to. A float of the format is no nearer, and where it is as near and of another size, V's last digit is even
abbrev Holds : Format → ℕ → ℕ → Type 0 → Type 0
Holds f n V E =
    (t : Bool) (m : ℕ) (e : ℤ) → m < 2 ^ prec f
    → (apart V n * down e ≤ distance n t m e)
    × (apart V n * down e ≡ distance n t m e → ((V * down e ≡ m * up e) × ((t ≡ false) ⊎ (V * down e ≡ 0)) → ⊥) → E)

settled : (f : Format) (n V : ℕ) (x : Float) → T (fits f x) → HasValue x false V 1 → Holds f n V (EvenLast f x) → Nearest f n x
unfolding eq
settled f n V nan h v w = absurd v
settled f n V (inf s) h v w = absurd v
settled f n V (fin s m e) h v w =
    record {
      held = is_true _ h;
      no_nearer = go;
      tie = even;
    }
  where
    size_is : m * up e ≡ V * down e
    size_is = sym (mul-one (m * up e)) ∙ v.1

    mine : distance n s m e ≡ apart V n * down e
    mine = ap (λ (b : Bool). distance n b m e) v.0 ∙ ap (λ (x : ℕ). apart x (n * down e)) size_is ∙ apart_scaled V n (down e)

    go : (y : Float) → fits f y ≡ true → NoNearer n (fin s m e) y
    go nan g = tt
    go (inf t) g = tt
    go (fin t k d) g = omega (arith, ap (λ (x : ℕ). x * down d) mine, mul-le-mul_right (down e) (w t k d (digits_few f t k d g)).0)

    even : (y : Float) → fits f y ≡ true → eq (fin s m e) y ≡ false → AsNear n (fin s m e) y → EvenLast f (fin s m e)
    even nan g other a = absurd a
    even (inf t) g other a = absurd a
    even (fin t k d) g other a =
        let equal : apart V n * down d ≡ distance n t k d =
        eq_of_mul-eq-mul_right (down e) (down_pos e) (apart V n * down d) (distance n t k d) (omega (arith, a, ap (λ (x : ℕ). x * down d) mine)) in
        let cross : m * up e * down d ≡ V * down d * down e = omega (arith, ap (λ (x : ℕ). x * down d) size_is) in
        (w t k d (digits_few f t k d g)).1 equal
        (λ r.
        both_ways _ other
        (level_true s t (m * up e * down d) (k * up d * down e) (cross ∙ ap (λ (x : ℕ). x * down e) r.0)
        (elim r.1 [ inl z ↦ inl (v.0 ∙ sym z) | inr z ↦ inr (cross ∙ ap (λ (x : ℕ). x * down e) z ∙ zero-mul (down e)) ])))

-- ---- up to 2^prec n is a value of the format
exactly : (f : Format) (n : ℕ) (E : Type 0) → Holds f n n E
exactly f n E t m e l =
    let none : apart n n * down e ≡ 0 = ap (λ (x : ℕ). x * down e) (let z : apart n n ≡ 0 = omega arith in z) ∙ zero-mul (down e) in
    (omega arith, λ h other. absurd (other (apply t (sym none ∙ h))))
  where
    apply : (t : Bool) → 0 ≡ distance n t m e → (n * down e ≡ m * up e) × ((t ≡ false) ⊎ (n * down e ≡ 0))
    apply false h = (omega arith, inl refl)
    apply true h = (omega arith, inr (omega arith))

-- ---- past it, n is rounded to a multiple of 2^k
module _ (f : Format) (n k : ℕ) (some : 0 < k) (from : 2 ^ (prec f - 1 + k) ≤ n) (under : n < 2 ^ (prec f + k)) (few : prec f + k ≤ 64) where
  -- the power of two that n has passed is a multiple too
  passed : apart (closest n (2 ^ k) * 2 ^ k) n ≤ n - 2 ^ (prec f - 1 + k)
  passed =
      let b = (best n (2 ^ k) (2 ^ (prec f - 1)) (pow_pos k)).0 in
      let is : 2 ^ (prec f - 1) * 2 ^ k ≡ 2 ^ (prec f - 1 + k) = sym (pow-add 2 (prec f - 1) k) in
      let c : apart (closest n (2 ^ k) * 2 ^ k) n ≤ apart (2 ^ (prec f - 1 + k)) n = subst (λ (x : ℕ). apart (closest n (2 ^ k) * 2 ^ k) n ≤ apart x n) is b in
      omega arith

  rounded : (E : Type 0) → (closest n (2 ^ k) % 2 ≡ 0 → E) → Holds f n (closest n (2 ^ k) * 2 ^ k) E
  rounded E even t m e l = go (grid f n k some from t m e l)
    where
      go : Grid n (2 ^ (prec f - 1 + k)) (2 ^ k) t m e
          → (apart (closest n (2 ^ k) * 2 ^ k) n * down e ≤ distance n t m e)
          × (apart (closest n (2 ^ k) * 2 ^ k) n * down e ≡ distance n t m e → ((closest n (2 ^ k) * 2 ^ k * down e ≡ m * up e) × ((t ≡ false) ⊎ (closest n (2 ^ k) * 2 ^ k * down e ≡ 0)) → ⊥) → E)
      go (inr far) =
          let near = mul-le-mul_right (down e) passed in
          (omega arith, λ h _. absurd (omega arith))
      go (inl (c, plus, is)) =
          let b = best n (2 ^ k) c (pow_pos k) in
          let dist : distance n t m e ≡ apart (c * 2 ^ k) n * down e =
          ap (λ (b : Bool). distance n b m e) plus ∙ ap (λ (x : ℕ). apart x (n * down e)) is ∙ apart_scaled (c * 2 ^ k) n (down e) in (
            le_trans (mul-le-mul_right (down e) b.0) (le_of_eq (sym dist)),
            λ h other.
                even
                (b.1 (λ same. other (ap (λ (x : ℕ). x * 2 ^ k * down e) (sym same) ∙ sym is, inl plus))
                (eq_of_mul-eq-mul_right (down e) (down_pos e) _ _ (h ∙ dist))),
          )

-- ---- an even number of prec digits, or 2^prec, which is half of it times 2
even_of : (f : Format) (x : Float) (q j : ℕ) → HasValue x false (q * 2 ^ j) 1 → 2 ^ (prec f - 1) ≤ q → q < 2 ^ prec f → q % 2 ≡ 0 → EvenLast f x
even_of f nan q j v a b c = absurd v
even_of f (inf s) q j v a b c = absurd v
even_of f (fin s m e) q j v a b c = (q, j, sym (mul-one (m * up e)) ∙ v.1, a, b, c)

even_power : (f : Format) → 2 ^ (prec f - 1) % 2 ≡ 0
even_power binary32 = refl
even_power binary64 = refl

even_last : (f : Format) (x : Float) (q j : ℕ) → HasValue x false (q * 2 ^ j) 1 → 2 ^ (prec f - 1) ≤ q → q ≤ 2 ^ prec f → q % 2 ≡ 0 → EvenLast f x
even_last f x q j v a b c =
    elim (eq-or-lt_of_le b) [
      | inr l ↦ even_of f x q j v a l c
      | inl e ↦
          let d = some_digits f in
          let is : q * 2 ^ j ≡ 2 ^ (prec f - 1) * 2 ^ suc j = omega (arith, ap (λ (y : ℕ). y * 2 ^ j) e, ap (λ (y : ℕ). y * 2 ^ j) (twice f), ap (λ (y : ℕ). 2 ^ (prec f - 1) * y) (pow-suc 2 j)) in
          even_of f x (2 ^ (prec f - 1)) (suc j) (subst (λ (y : ℕ). HasValue x false y 1) is v) (le_refl (2 ^ (prec f - 1))) (pow-lt (let r : prec f - 1 < prec f = omega arith in r)) (even_power f)
    ]

-- a whole number of 64 bits and the float that it is rounded to
pub nearest_float : (f : Format) (n : ℕ) → n < 2 ^ 64 → Nearest f n (of_int f (pos n))
unfolding of_int
nearest_float f n short =
    elim (cases_lt n (2 ^ prec f)) [
      | inl l ↦ settled f n n (round f false n 1) (of_int-fits f (pos n)) (round_whole f false n (le_of_lt l)) (exactly f n (EvenLast f (round f false n 1)))
      | inr g ↦
          let k = 64 - prec f - count_leading_zeros 64 n in
          let x = round f false n 1 in
          let a = least (prec f) n g short (some_digits f) in
          let b = most (prec f) n g short in
          let c = all_digits (prec f) n g short in
          let v = round_value f n k a b c in
          settled f n (closest n (2 ^ k) * 2 ^ k) x (of_int-fits f (pos n)) v
          (rounded f n k (some_past (prec f) n g short) a b c (EvenLast f x)
          (even_last f x (closest n (2 ^ k)) k v (closest_from f n k a b c) (closest_le (prec f) n k b)))
    ]

pub nearest_of : (f : Format) (n : ℕ) (x : Float) → n < 2 ^ 64 → x ≡ of_int f (pos n) → Nearest f n x
nearest_of f n x short is = subst (Nearest f n) (sym is) (nearest_float f n short)
