-- Worked figures of NewReno, as facts about its definitions. Assumes nothing.
use Rattle.std.specs.Prelude.{◌≡◌}
use Rattle.new_reno.specs.Limits.{half}
use Rattle.new_reno.specs.Steps.{reduced}

-- At a loss, with a factor of 0.5 and an MTU of 1,200: a window of 13,200 halves to 6,600, and one of 4,000, whose half is below two
-- datagrams, goes to 2,400. One of 8,000 halves to 4,000, which is how a controller comes to such a window.
pub record Figures : Type 0 where
  pub halved : reduced 13_200 half 1_200 ≡ 6_600
  pub floored : reduced 4_000 half 1_200 ≡ 2_400
  pub reached : reduced 8_000 half 1_200 ≡ 4_000
