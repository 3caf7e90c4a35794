use Rattle.std.proofs.Common.{Ok, sym, ◌∙◌}
use Rattle.cells.proofs.Steps.{held_sound}
use Rattle.cells.proofs.tracker.Tracker.hold.Goals as goal

pub invariant_of-self : goal.invariant_of-self
invariant_of-self c =
    let before = c.args.self.now in
    let s = held_sound before.table _ _ _ _ (before.summed, before.bounded) (Ok tt) (sym c.check.ensures ∙ c.in_ok-check.was) in
    rw c.place_of.ensures (record { summed = s.0; bounded = s.1 })
