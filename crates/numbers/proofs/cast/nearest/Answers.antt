use Rattle.std.proofs.Common.{◌∙◌, rules}
use Rattle.numbers.proofs.Ties.{nearest_of}
use Rattle.numbers.proofs.cast.nearest.Goals as goal

pub returns-then-n-DIGITS-clause-nearest : goal.returns-then-n-DIGITS-clause-nearest
returns-then-n-DIGITS-clause-nearest g c = nearest_of g.F.IeeeFloat.format c.args.n _ (search rules) c.exact.ensures

pub returns-else-n-DIGITS-clause-nearest : goal.returns-else-n-DIGITS-clause-nearest
returns-else-n-DIGITS-clause-nearest g c = nearest_of g.F.IeeeFloat.format c.args.n _ (search rules) (c.of_bits.ensures ∙ c.nearest_bits.ensures.value)
