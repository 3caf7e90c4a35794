-- The greatest value of the last ten rounds, kept in three samples over any order: the greatest value, the greatest
-- after it, and the greatest after that. Assumes nothing.
--
-- A sample takes every place where nothing was kept yet (the first choice ranks with the least element), where no kept
-- value is greater, or where the third choice has left the window. Any other sample first takes the second and third
-- place, or the third alone, where it is no less than what is there. Then, with the rounds since the first choice:
-- past the window, the second choice becomes the first and the third the second, with the sample behind them, and once
-- more if the new first is also out of the window; past a quarter of the window with no second choice of its own round,
-- the sample becomes the second and third; past half of it with no third choice of its own round, the third.
-- A round that goes back counts as a difference of 0.
use Rattle.std.specs.Prelude.{◌≡◌, ℕ, ◌-◌, ◌/◌, Bool, true, cond, ◌&&◌, ◌||◌, ◌==◌, nat_lt}
use Rattle.filter.specs.declared.min_max.MinMax.{MinMax}
use Rattle.filter.specs.declared.min_max.MinMaxSample.{MinMaxSample}

abbrev pub with_samples : {T : Type 0} → MinMax T → MinMaxSample T → MinMaxSample T → MinMaxSample T → MinMax T
with_samples m a b c = record { window = m.window; first = a; second = b; third = c }

abbrev pub filled : {T : Type 0} → MinMax T → MinMaxSample T → MinMax T
filled m s = with_samples m s s s

abbrev pub unset : {T : Type 0} → T → MinMaxSample T
unset least = record { time = 0; value = least }

abbrev pub fresh : {T : Type 0} → T → MinMax T
fresh least = record { window = 10; first = unset least; second = unset least; third = unset least }

abbrev pub emptied : {T : Type 0} → T → MinMax T → MinMax T
emptied least m = filled m (unset least)

abbrev pub is_replaced : {T : Type 0} → (T → T → Bool) → T → MinMax T → MinMaxSample T → Bool
is_replaced le least m s = (le m.first.value least || le m.first.value s.value) || nat_lt m.window (s.time - m.third.time)

abbrev pub placed : {T : Type 0} → (T → T → Bool) → MinMax T → MinMaxSample T → MinMax T
placed le m s =
    cond (le m.second.value s.value) (with_samples m m.first s s)
    (cond (le m.third.value s.value) (with_samples m m.first m.second s) m)

abbrev pub aged : {T : Type 0} → MinMax T → MinMaxSample T → MinMax T
aged m s =
    cond (nat_lt m.window (s.time - m.first.time))
    (cond (nat_lt m.window (s.time - m.second.time)) (with_samples m m.third s s) (with_samples m m.second m.third s))
    (cond (m.second.time == m.first.time && nat_lt (m.window / 4) (s.time - m.first.time)) (with_samples m m.first s s)
    (cond (m.third.time == m.second.time && nat_lt (m.window / 2) (s.time - m.first.time)) (with_samples m m.first m.second s) m))

abbrev pub update_with : {T : Type 0} → (T → T → Bool) → T → MinMax T → MinMaxSample T → MinMax T
update_with le least m s = cond (is_replaced le least m s) (filled m s) (aged (placed le m s) s)

abbrev pub updated : {T : Type 0} → (T → T → Bool) → T → MinMax T → ℕ → T → MinMax T
updated le least m round v = update_with le least m (record { time = round; value = v })

-- no sample is greater than the one before
abbrev pub Falling : {T : Type 0} → (T → T → Bool) → MinMax T → Type 0
Falling le m = (le m.second.value m.first.value ≡ true) × (le m.third.value m.second.value ≡ true)
