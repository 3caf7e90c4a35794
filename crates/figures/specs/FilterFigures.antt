-- The filter over u64, worked out by hand. Assumes nothing.
use Rattle.std.specs.Prelude.{◌≡◌, ℕ, nat_le}
use Rattle.filter.specs.Filter.{fresh, updated}
use Rattle.filter.specs.declared.min_max.MinMax.{MinMax}

-- 5 in round 1, and 3 in a later round
abbrev pub after_3 : ℕ → MinMax ℕ
after_3 round = updated nat_le 0 (updated nat_le 0 (fresh 0) 1 5) round 3

abbrev pub values_of : MinMax ℕ → ℕ × ℕ × ℕ
values_of m = (m.first.value, m.second.value, m.third.value)

-- ten rounds later 5 is still in the window, eleven rounds later it is not
pub record FilterTable : Type 0 where
  pub round_11 : values_of (after_3 11) ≡ (5, 3, 3)
  pub round_12 : values_of (after_3 12) ≡ (3, 3, 3)
