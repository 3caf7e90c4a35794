-- The worked figures hold, by computation. Assumes nothing.
use Rattle.std.proofs.Common.{refl}
use lib.Count.{count_trailing_zeros}
use lib.Ieee.{of_int, of_bits, of_fields, odd, mul, div, to_unsigned, round, units, size, span, climb, lt, le, eq}
use Rattle.numbers.specs.Root.{bitwise, whole_root}
use Rattle.numbers.specs.Figures.{Figures}

pub figures : Figures
unfolding of_int of_bits of_fields odd mul div to_unsigned round units size span climb count_trailing_zeros lt le eq bitwise whole_root
figures = record { below = refl; above = refl; eight = refl; zero = refl; limit = refl }
