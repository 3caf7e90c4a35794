-- Of the multiples of U, `closest n U` times U is as near to n as any, and where another one is as near it is an even multiple. Assumes nothing.
use Rattle.std.proofs.Common.{◌≡◌, ℕ, suc, ◌+◌, ◌-◌, ◌*◌, ◌/◌, ◌%◌, ◌^◌, ◌<◌, ◌≤◌, not, T, eqb, ◌⊎◌, sym, ap, ◌∙◌, subst, inl, inr, le_trans, le_of_eq, mul-le-mul_right, mod-lt, suc-mul, mul_comm, div-lt_iff_lt-mul, add-mul, div-add-mod', arith, eqb→eq, leb→le, pow_pos, pow-add}
use Prim.Native.Nat.{compare, Ordering}
use native.Mathlib.Nat.{mul-sub}
use lib.Arith.{lt_of_le-ne}
use lib.Dec.{is_le, compare_is_eq, nleb→lt, eqb_refl}
use lib.Ieee.{nearest}
use lib.Ieee.Fits.{nearest-le}
use lib.Ieee.Nearest.{closest}
use Rattle.std.proofs.lemmas.Bool.{cases_lt}
use Rattle.numbers.specs.Nearest.{apart}

-- what `compare` says
abbrev Cmp : Ordering → ℕ → ℕ → Type 0
Cmp Ordering.lt a b = a < b
Cmp Ordering.eq a b = a ≡ b
Cmp Ordering.gt a b = b < a

cmp : (a b : ℕ) → Cmp (compare a b) a b
cmp a b = go (compare a b) (leb→le a b) (nleb→lt a b) (eqb→eq a b) (λ (e : a ≡ b). subst (λ (x : ℕ). T (eqb a x)) e (eqb_refl a))
  where
    go : (o : Ordering) → (T (is_le o) → a ≤ b) → (T (not (is_le o)) → b < a) → (T (compare_is_eq o) → a ≡ b) → (a ≡ b → T (compare_is_eq o)) → Cmp o a b
    go Ordering.lt h k e n = lt_of_le-ne (h tt) n
    go Ordering.eq h k e n = e tt
    go Ordering.gt h k e n = k tt

-- a multiple of U is c = w itself, or a whole U away from w * U at least, below or above
abbrev Place : ℕ → ℕ → ℕ → Type 0
Place w c U = ((c ≡ w) × (c * U ≡ w * U)) ⊎ ((c < w) × (c * U + U ≤ w * U)) ⊎ ((w < c) × (w * U + U ≤ c * U))

further : (a b U : ℕ) → a < b → a * U + U ≤ b * U
further a b U h = le_trans (le_of_eq (sym (suc-mul a U))) (mul-le-mul_right U h)

place : (w c U : ℕ) → Place w c U
place w c U =
    elim (cases_lt c w) [
      | inl l ↦ inr (inl (l, further c w U l))
      | inr g ↦ elim (cases_lt w c) [ inl l ↦ inr (inr (l, further w c U l)) | inr h ↦ let e : c ≡ w = omega arith in inl (e, ap (λ (x : ℕ). x * U) e) ]
    ]

abbrev Best : ℕ → ℕ → ℕ → ℕ → Type 0
Best n U c q = (apart (q * U) n ≤ apart (c * U) n) × ((c ≡ q → ⊥) → apart (q * U) n ≡ apart (c * U) n → q % 2 ≡ 0)

-- n is w * U + r, and o says how r compares with the half of U
at : (o : Ordering) (n U c w r : ℕ) → Cmp o (r * 2) U → r < U → w * U + r ≡ n → Best n U c (nearest w o)
at Ordering.lt n U c w r h l e = let p = place w c U in (grind (arith, p), λ ne t. grind (arith, p, ne))
at Ordering.eq n U c w r h l e =
    let p = place w c U in
    elim (cases_lt (w % 2) 1) [
      | inl l ↦ let q : (w + w % 2) * U ≡ w * U = ap (λ (x : ℕ). x * U) {x = w + w % 2} {y = w} (omega arith) in (grind (arith, p, q), λ _ _. omega arith)
      | inr g ↦ let q : (w + w % 2) * U ≡ w * U + U = ap (λ (x : ℕ). x * U) {x = w + w % 2} {y = suc w} (omega arith) ∙ suc-mul w U in (grind (arith, p, q), λ _ _. omega arith)
    ]
at Ordering.gt n U c w r h l e = let p = place (suc w) c U in let q = suc-mul w U in (grind (arith, p, q), λ ne t. grind (arith, p, q, ne))

pub best : (n U c : ℕ) → 0 < U → Best n U c (closest n U)
best n U c h = at (compare (n % U * 2) U) n U c (n / U) (n % U) (cmp (n % U * 2) U) (mod-lt n h) (div-add-mod' n U)

sub_mul : (a b d : ℕ) → (a - b) * d ≡ a * d - b * d
sub_mul a b d = mul_comm (a - b) d ∙ mul-sub d a b ∙ (λ i. mul_comm d a i - mul_comm d b i)

pub apart_scaled : (a b d : ℕ) → apart (a * d) (b * d) ≡ apart a b * d
apart_scaled a b d = sym (add-mul (a - b) (b - a) d ∙ (λ i. sub_mul a b d i + sub_mul b a d i))

-- n has p digits and k more, so the nearest multiple of 2^k is at most 2^p times it
pub closest_le : (p n k : ℕ) → n < 2 ^ (p + k) → closest n (2 ^ k) ≤ 2 ^ p
closest_le p n k most =
    let b : n / 2 ^ k < 2 ^ p = (div-lt_iff_lt-mul (pow_pos k)).1 (subst (λ (x : ℕ). n < x) (pow-add 2 p k) most) in
    le_trans (nearest-le (n / 2 ^ k) (compare (n % 2 ^ k * 2) (2 ^ k))) b
