-- The same figures as the code computes them. Assumes nothing.
use Rattle.std.specs.Prelude.{◌≡◌, pos, Some}
use Rattle.std.specs.Float.{binary64}
use Rattle.std.specs.Float.Ieee.{of_int}
use Rattle.figures.specs.RttFigures.{counted_50, counted_80, counted_90}
use Rattle.figures.specs.declared.table.WorkedFigures.{WorkedFigures}

pub record Computed (w : WorkedFigures) : Type 0 where
  pub delay_10 : w.delay_10 ≡ counted_80
  pub delay_40 : w.delay_40 ≡ counted_50
  pub delay_41 : w.delay_41 ≡ counted_90
  pub below : w.numbers.tie_to_even_below ≡ 16777216
  pub above : w.numbers.tie_to_even_above ≡ 16777220
  pub eight : w.numbers.root_of_eight ≡ of_int binary64 (pos 2)
  pub zero : w.numbers.root_of_zero ≡ of_int binary64 (pos 0)
  pub round_11 : w.round_11 ≡ (5, 3, 3)
  pub round_12 : w.round_12 ≡ (3, 3, 3)
  pub eleventh : w.eleventh ≡ Some 4000000
  pub halved : w.halving.halved ≡ 6600
  pub floored : w.halving.floored ≡ 2400
  pub target : w.bbr.target ≡ 240000
  pub held : w.bbr.held ≡ 4800
  pub explained : w.bbr.explained ≡ 0
  pub ahead : w.bbr.ahead ≡ 1
  pub offsets : w.entry_offsets ≡ (0, 2, 7)
  pub limit : w.numbers.root_of_limit ≡ of_int binary64 (pos 128)
