use Rattle.std.proofs.Common.{ap, ◌∙◌}
use lib.Ieee.{to_unsigned}
use Rattle.numbers.proofs.Parts.{whole_of}
use Rattle.numbers.proofs.cast.whole_part.Goals as goal

pub returns-clause-whole : goal.returns-clause-whole
returns-clause-whole g c = whole_of _ c.truncated.result (c.truncated.ensures ∙ ap (to_unsigned 64) c.widened.ensures)
