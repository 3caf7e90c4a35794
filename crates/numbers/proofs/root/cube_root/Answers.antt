use Rattle.std.proofs.Common.{sym, subst}
use Rattle.numbers.proofs.Scaled.{Cut, scaled, root_between}
use Rattle.numbers.proofs.root.cube_root.Goals as goal

pub returns-clause-law : goal.returns-clause-law
returns-clause-law c =
    let a = c.args.a in
    let root = c.whole_cube_root-n.ensures in
    let whole : Cut a c.whole_part.result = subst (Cut a) (sym c.whole_part.ensures.is) (scaled a c.well_formed.0.1 c.if-not-a.false c.if-a.false).1 in
    root_between a c.whole_part.result c.whole_cube_root-n.result whole root.small root.low root.high
