use Rattle.std.proofs.Common.{◌≡◌}
use Rattle.figures.specs.PacerFigures.{after_many}
use Rattle.figures.proofs.pacer_figures.told_after.Given as goal

-- the pacer has seen as many datagrams as the loop has turns
abbrev pub invariant-loop : goal.invariant-loop
invariant-loop l = l.pacer ≡ after_many l.counter
