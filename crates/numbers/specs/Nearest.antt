-- IEEE 754, section 4.3.1, round to nearest, ties to even, of a whole number: the float nearest to it is delivered, and where two are equally near,
-- the one whose last digit is even. Assumes nothing.
use Rattle.std.specs.Prelude.{◌≡◌, ℕ, ◌+◌, ◌-◌, ◌*◌, ◌%◌, ◌^◌, ◌<◌, ◌≤◌, Bool, true, false, ℤ, Float}
use Rattle.std.specs.Float.{nan, inf, fin, Format}
use Rattle.std.specs.Float.Ieee.{prec, up, down, fits, eq}

-- the difference of two whole numbers
abbrev pub apart : ℕ → ℕ → ℕ
apart a b = (a - b) + (b - a)

-- The distance from n to the float ±m * 2^e, times `down e`, which makes it whole: 2^e is the fraction up e / down e.
abbrev pub distance : ℕ → Bool → ℕ → ℤ → ℕ
distance n false m e = apart (m * up e) (n * down e)
distance n true m e = m * up e + n * down e

-- x is finite, and y is no nearer to n than x is: an infinity and a NaN are near to no number
abbrev pub NoNearer : ℕ → Float → Float → Type 0
NoNearer n nan y = ⊥
NoNearer n (inf s) y = ⊥
NoNearer n (fin s m e) nan = Unit {0}
NoNearer n (fin s m e) (inf t) = Unit {0}
NoNearer n (fin s m e) (fin t k d) = distance n s m e * down d ≤ distance n t k d * down e

-- x and y are finite and equally near to n
abbrev pub AsNear : ℕ → Float → Float → Type 0
AsNear n nan y = ⊥
AsNear n (inf s) y = ⊥
AsNear n (fin s m e) nan = ⊥
AsNear n (fin s m e) (inf t) = ⊥
AsNear n (fin s m e) (fin t k d) = distance n s m e * down d ≡ distance n t k d * down e

-- x is q * 2^j, where q has as many digits as the format keeps, and the last of them is 0
abbrev pub EvenLast : Format → Float → Type 0
EvenLast f nan = ⊥
EvenLast f (inf s) = ⊥
EvenLast f (fin s m e) = (q : ℕ) × (j : ℕ) × (m * up e ≡ q * 2 ^ j * down e) × (2 ^ (prec f - 1) ≤ q) × (q < 2 ^ prec f) × (q % 2 ≡ 0)

-- x is a value of the format, no value of the format is nearer to n, and where another one is as near, the last digit of x is even
pub record Nearest (f : Format) (n : ℕ) (x : Float) : Type 0 where
  pub held : fits f x ≡ true
  pub no_nearer : (y : Float) → fits f y ≡ true → NoNearer n x y
  pub tie : (y : Float) → fits f y ≡ true → eq x y ≡ false → AsNear n x y → EvenLast f x
