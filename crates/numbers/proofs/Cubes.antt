-- The root of a whole number, found bit by bit, is the root, and the cubes on the way fit 64 bits. Assumes nothing.
use Rattle.std.proofs.Common.{◌≡◌, ℕ, zero, suc, ◌+◌, ◌-◌, ◌*◌, ◌%◌, ◌^◌, ◌<◌, ◌≤◌, Bool, true, false, cond, leb, sym, refl, ap, ◌∙◌, subst, mul-le-mul, pow-suc, arith, lit≤}
use native.Mathlib.Nat.{pow-succ'}
use Rattle.std.proofs.lemmas.Bool.{cond_both, leb-true, leb-false, le-leb, lt-leb}
use Rattle.numbers.specs.Root.{third_power, bitwise, whole_root}

mono : (m n : ℕ) → m ≤ n → third_power m ≤ third_power n
mono m n h = mul-le-mul (mul-le-mul h h) h

pub cube_fits : (m : ℕ) → m ≤ 2 ^ 21 → third_power m < 2 ^ 64
cube_fits m h = let p : third_power m ≤ 2 ^ 63 = mono m (2 ^ 21) h in omega arith

abbrev pub Root : ℕ → ℕ → Type 0
Root a r = (third_power r ≤ a) × (a < third_power (r + 1))

bitwise_root : (k low a : ℕ) → third_power low ≤ a → a < third_power (low + 2 ^ k) → Root a (bitwise k low a)
unfolding bitwise
bitwise_root zero low a l h = (l, h)
bitwise_root (suc k) low a l h =
    let twice : low + 2 ^ k + 2 ^ k ≡ low + 2 ^ suc k = omega (arith, pow-suc 2 k) in
    cond_both (leb (third_power (low + 2 ^ k)) a) (low + 2 ^ k) low (λ x. Root a (bitwise k x a))
    (λ e. bitwise_root k (low + 2 ^ k) a (leb-true _ _ e) (subst (λ (x : ℕ). a < third_power x) (sym twice) h))
    (λ e. bitwise_root k low a l (leb-false _ _ e))

-- ---- the search's state: root has the bits from the place k up, and the rest of the way leads to the root of a
abbrev pub Way : ℕ → ℕ → ℕ → Type 0
Way k root a = (bitwise k root a ≡ whole_root a) × (root + 2 ^ k ≤ 2 ^ 21)

pub starts : (a : ℕ) → Way 21 0 a
unfolding whole_root
starts a = (refl, lit≤ tt)

-- the next bit as the code has it
abbrev pub with_bit : ℕ → ℕ → ℕ
with_bit k root = root + (1 * 2 ^ (k - 1)) % 2 ^ 64

module _ (k root a : ℕ) (some : 0 < k) (way : Way k root a) where
  place : suc (k - 1) ≡ k
  place = omega arith

  power : 2 ^ k ≡ 2 * 2 ^ (k - 1)
  power = ap (λ (x : ℕ). 2 ^ x) (sym place) ∙ pow-succ' 2 (k - 1)

  bit_is : with_bit k root ≡ root + 2 ^ (k - 1)
  bit_is = let p = power in let h = way.1 in omega arith

  step : bitwise (k - 1) (cond (leb (third_power (root + 2 ^ (k - 1))) a) (root + 2 ^ (k - 1)) root) a ≡ whole_root a
  unfolding bitwise
  step = ap (λ (x : ℕ). bitwise x root a) place ∙ way.0

  pub small : with_bit k root ≤ 2 ^ 21
  small = let p = power in let h = way.1 in let b = bit_is in omega arith

  pub taken : third_power (with_bit k root) ≤ a → bitwise (k - 1) (with_bit k root) a ≡ whole_root a
  taken h =
      let at : leb (third_power (root + 2 ^ (k - 1))) a ≡ true = le-leb _ _ (subst (λ (x : ℕ). third_power x ≤ a) bit_is h) in
      ap (λ (x : ℕ). bitwise (k - 1) x a) (bit_is ∙ sym (ap (λ (b : Bool). cond b (root + 2 ^ (k - 1)) root) at)) ∙ step

  pub taken_room : with_bit k root + 2 ^ (k - 1) ≤ 2 ^ 21
  taken_room = let p = power in let w = way.1 in let b = bit_is in omega arith

  pub left_out : a < third_power (with_bit k root) → bitwise (k - 1) root a ≡ whole_root a
  left_out h =
      let at : leb (third_power (root + 2 ^ (k - 1))) a ≡ false = lt-leb _ _ (subst (λ (x : ℕ). a < third_power x) bit_is h) in
      ap (λ (x : ℕ). bitwise (k - 1) x a) (sym (ap (λ (b : Bool). cond b (root + 2 ^ (k - 1)) root) at)) ∙ step

  pub left_room : root + 2 ^ (k - 1) ≤ 2 ^ 21
  left_room = let p = power in let w = way.1 in omega arith

pub ends : (root a : ℕ) → a < 2 ^ 63 → Way 0 root a → Root a root × (root ≡ whole_root a)
unfolding whole_root bitwise
ends root a below way = (subst (Root a) (sym way.0) (bitwise_root 21 0 a (omega arith) below), way.0)
