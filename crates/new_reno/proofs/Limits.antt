-- How the test of a range reads the order of floats. Assumes nothing.
use Rattle.std.proofs.Common.{◌≡◌, Bool, true, false, cond, ◌||◌, refl, Some, None}
use Rattle.std.specs.Ordering.{float_partial_cmp, partial_le, is_some_and, is_le}
use Rattle.std.specs.Prelude.{Float}
use Rattle.std.specs.Float.Ieee.{le, lt, eq}
use Rattle.std.specs.declared.cmp.Ordering.TheVariants.{Less, Equal, Greater}

compared : (a e b : Bool) → is_some_and is_le (cond a (Some Less) (cond e (Some Equal) (cond b (Some Greater) None))) ≡ (a || e)
compared true e b = refl
compared false true b = refl
compared false false true = refl
compared false false false = refl

pub partial_le-le : (x y : Float) → partial_le float_partial_cmp x y ≡ le x y
unfolding le
partial_le-le x y = compared (lt x y) (eq x y) (lt y x)

pub ruleset float_order = (partial_le-le)
