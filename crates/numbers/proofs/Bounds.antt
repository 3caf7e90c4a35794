-- A float against a power of two, as an order of numbers, and what a value of a format tells. Assumes nothing.
use Rattle.std.proofs.Common.{◌≡◌, ℕ, zero, suc, ◌*◌, ◌^◌, ◌<◌, ◌≤◌, true, false, T, Bool, ℤ, sym, refl, ◌∙◌, lt_irrefl, arith, lit<, pow_pos}
use lib.Dec.{not_T}
use lib.Ieee.{fin, Format, prec, low, up, down, lt, le, fits, is_nan}
use lib.Ieee.Bits.{is_true, is_false}
use lib.Ieee.Fits.{down_pos}
use Rattle.std.specs.Float.{two_to}
use Rattle.std.specs.Float.Order.{at_least_lem, not_above_negative, lt_at}
use Rattle.std.proofs.lemmas.Float.{T_from_true, T_from_false, lt_of_not-le}
use Rattle.std.proofs.lemmas.Bool.{ltb-true}
use Rattle.std.proofs.lemmas.Bool.Decides.{nat_tests}

pub at_least : (j m : ℕ) (e : ℤ) → le (two_to j) (fin false m e) ≡ true → 2 ^ j * down e ≤ m * up e
at_least j m e h = at_least_lem j m e (T_from_true _ h)

pub under : (j m : ℕ) (e : ℤ) → le (two_to j) (fin false m e) ≡ false → m * up e < 2 ^ j * down e
unfolding is_nan
under j m e h =
    let x = fin false m e in
    let less : T (lt x (two_to j)) = lt_of_not-le (two_to j) x tt tt (T_from_false _ h) in
    let test = lt_at x (two_to j) (m * up e) (down e) (2 ^ j) 1 (down_pos e) (lit< tt) (refl, refl) (refl, omega arith) in
    let l : m * up e * 1 < 2 ^ j * down e = ltb-true _ _ (sym test ∙ is_true _ less) in
    omega arith

-- a negative is below
pub negative : (j m : ℕ) (e : ℤ) → le (two_to j) (fin true m e) ≡ false
negative j m e = is_false _ (not_T _ (not_above_negative j m e))

-- ---- what a value of the format tells: it has no more digits than the format, and is a multiple of its smallest value

pub digits_few : (f : Format) (s : Bool) (m : ℕ) (e : ℤ) → fits f (fin s m e) ≡ true → m < 2 ^ prec f
unfolding fits
digits_few f s zero e h = pow_pos (prec f)
digits_few f s (suc m) e h = grind (arith, nat_tests)

pub last_place : (f : Format) (s : Bool) (m : ℕ) (e : ℤ) → fits f (fin s (suc m) e) ≡ true → down e ≤ 2 ^ low f
unfolding fits
last_place f s m e h = grind (arith, nat_tests)

pub fits_parts : (f : Format) (s : Bool) (m : ℕ) (e : ℤ) → fits f (fin s m e) ≡ true → 1 * down e ≤ m * up e → (m < 2 ^ prec f) × (down e ≤ 2 ^ low f)
fits_parts f s zero e h one = absurd (lt_irrefl 0 (let d = down_pos e in omega arith))
fits_parts f s (suc m) e h one = (digits_few f s (suc m) e h, last_place f s m e h)
