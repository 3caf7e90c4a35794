-- The worked figures hold, by computation. Assumes nothing.
use Rattle.std.proofs.Common.{refl}
use lib.Count.{count_trailing_zeros}
use lib.Ieee.{of_int, of_bits, of_fields, odd, mul, to_unsigned, round, units, size, span, climb}
use Rattle.new_reno.specs.Figures.{Figures}

pub figures : Figures
unfolding of_int of_bits of_fields odd mul to_unsigned round units size span climb count_trailing_zeros
figures = record { halved = refl; floored = refl; reached = refl }
