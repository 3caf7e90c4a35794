-- What the leading zeros of a number of more than p digits say of it, and its p leading digits, rounded, by way of the number shifted to the top of 64 bits.
-- Assumes nothing.
use Rattle.std.proofs.Common.{◌≡◌, ℕ, suc, ◌+◌, ◌-◌, ◌*◌, ◌%◌, ◌^◌, ◌<◌, ◌≤◌, pos, sym, ap, ◌∙◌, subst, inl, inr, le_trans, lt_of_lt_of_le, lt_of_le_of_lt, lt_irrefl, mod-eq_of_lt, arith, lit<, pow_pos, pow_mono, pow-add, shl_lt}
use lib.Count.{count_leading_zeros, leading_top}
use lib.Ieee.{Format, binary32, binary64, prec, low, hid, ones, of_int, of_bits}
use lib.Ieee.Nearest.{closest, closest_same}
use Rattle.std.proofs.lemmas.Bool.{cases_lt}
use Rattle.numbers.proofs.Rounding.{some_digits, pattern_le, pattern_read}

module _ (p n : ℕ) (long : 2 ^ p ≤ n) (short : n < 2 ^ 64) where
  top : (j : ℕ) × (count_leading_zeros 64 n + suc j ≡ 64) × (2 ^ j ≤ n) × (n < 2 ^ suc j)
  top = leading_top 64 n (lt_of_lt_of_le (pow_pos p) long) short

  past_pos : p ≤ top.0
  past_pos = elim (cases_lt top.0 p) [
    | inl l ↦ absurd (lt_irrefl n (lt_of_lt_of_le top.3 (le_trans (pow_mono l) long)))
    | inr g ↦ g
  ]

  pub zeros_few : count_leading_zeros 64 n ≤ 64 - p
  zeros_few = let a = past_pos in let b = top.1 in omega arith

  pub some_past : 0 < 64 - p - count_leading_zeros 64 n
  some_past = let a = past_pos in let b = top.1 in omega arith

  pub all_digits : p + (64 - p - count_leading_zeros 64 n) ≤ 64
  all_digits = let a = past_pos in let b = top.1 in omega arith

  pub least : 0 < p → 2 ^ (p - 1 + (64 - p - count_leading_zeros 64 n)) ≤ n
  least h =
      let is : p - 1 + (64 - p - count_leading_zeros 64 n) ≡ top.0 = let a = past_pos in let b = top.1 in omega arith in
      subst (λ (x : ℕ). 2 ^ x ≤ n) (sym is) top.2

  pub most : n < 2 ^ (p + (64 - p - count_leading_zeros 64 n))
  most =
      let is : p + (64 - p - count_leading_zeros 64 n) ≡ suc top.0 = let a = past_pos in let b = top.1 in omega arith in
      subst (λ (x : ℕ). n < 2 ^ x) (sym is) top.3

  shifted_lt : n * 2 ^ count_leading_zeros 64 n < 2 ^ 64
  shifted_lt =
      let is : suc top.0 + count_leading_zeros 64 n ≡ 64 = let b = top.1 in omega arith in
      subst (λ (x : ℕ). n * 2 ^ count_leading_zeros 64 n < 2 ^ x) is (shl_lt (suc top.0) (count_leading_zeros 64 n) top.3)

  shifted : (n * 2 ^ count_leading_zeros 64 n) % 2 ^ 64 ≡ n * 2 ^ count_leading_zeros 64 n
  shifted = mod-eq_of_lt shifted_lt

  pub shifted_closest : closest ((n * 2 ^ count_leading_zeros 64 n) % 2 ^ 64) (2 ^ (64 - p)) ≡ closest n (2 ^ (64 - p - count_leading_zeros 64 n))
  shifted_closest =
      let z = count_leading_zeros 64 n in
      let k = 64 - p - z in
      let sum : z + k ≡ 64 - p = let a = zeros_few in omega arith in
      ap (λ (x : ℕ). closest x (2 ^ (64 - p))) shifted
      ∙ closest_same (n * 2 ^ z) (2 ^ (64 - p)) n (2 ^ k) (pow_pos (64 - p)) (pow_pos k)
      (omega (arith, ap (λ (x : ℕ). n * x) (pow-add 2 z k), ap (λ (x : ℕ). n * 2 ^ x) sum))

finite_short : (f : Format) → ones f * hid f < 2 ^ 64
finite_short binary32 = lit< tt
finite_short binary64 = lit< tt

-- The bits as they are computed, with the format's digits p and lowest exponent l, are those of the nearest float.
abbrev pub IsNearestBits : Format → ℕ → ℕ → Type 0
IsNearestBits f n b = (of_bits f b ≡ of_int f (pos n)) × (b ≤ ones f * hid f)

pub nearest_bits : (f : Format) (n p l q : ℕ) → p ≡ prec f → l ≡ low f → 2 ^ prec f ≤ n → n < 2 ^ 64 → q ≡ closest ((n * 2 ^ count_leading_zeros 64 n) % 2 ^ 64) (2 ^ (64 - p))
    → IsNearestBits f n (((64 - p - count_leading_zeros 64 n + l) * 2 ^ (p - 1)) % 2 ^ 64 + q)
nearest_bits f n p l q digits lowest long short is =
    let z = count_leading_zeros 64 n in
    let k = 64 - prec f - z in
    let a = least (prec f) n long short (some_digits f) in
    let b = most (prec f) n long short in
    let c = all_digits (prec f) n long short in
    let significand : q ≡ closest n (2 ^ k) = is ∙ ap (λ (x : ℕ). closest ((n * 2 ^ z) % 2 ^ 64) (2 ^ (64 - x))) digits ∙ shifted_closest (prec f) n long short in
    let bound = pattern_le f n k a b c in
    let field : ((64 - p - z + l) * 2 ^ (p - 1)) % 2 ^ 64 ≡ (k + low f) * hid f =
    (λ i. ((64 - digits i - z + lowest i) * 2 ^ (digits i - 1)) % 2 ^ 64) ∙ mod-eq_of_lt (lt_of_le_of_lt (let h : (k + low f) * hid f ≤ ones f * hid f = omega arith in h) (finite_short f)) in
    subst (IsNearestBits f n) (sym (λ i. field i + significand i)) (pattern_read f n k a b c, bound)
