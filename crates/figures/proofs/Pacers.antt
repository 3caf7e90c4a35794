-- The pacer's figure, by computation. Assumes nothing.
use Rattle.std.proofs.Common.{refl}
use lib.Count.{count_trailing_zeros}
use lib.Ieee.{of_int, of_bits, of_fields, odd, add, sum, mul, div, to_unsigned, round, units, size, span, climb}
use Rattle.figures.specs.PacerFigures.{PacerTable}

pub eleventh : PacerTable
unfolding of_int of_bits of_fields odd add sum mul div to_unsigned round units size span climb count_trailing_zeros
eleventh = refl
