use Rattle.std.proofs.Common.{refl, arith}
use Rattle.cells.proofs.Kept.{free_small}
use Rattle.cells.proofs.tracker.Tracker.new.Goals as goal

pub invariant_of-result : goal.invariant_of-result
invariant_of-result c =
    let zero = c.default.ensures in
    record {
      summed = (refl, refl, refl, zero.0, zero.1.0);
      bounded = (omega arith, omega (arith, c.args.opening.now.number_within), free_small, omega arith);
    }
