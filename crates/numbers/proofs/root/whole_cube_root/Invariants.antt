use Rattle.numbers.proofs.Cubes.{Way}
use Rattle.numbers.proofs.root.whole_cube_root.Given as goal

abbrev pub invariant-loop-k : goal.invariant-loop-k
invariant-loop-k l = Way l.k l.root l.a
