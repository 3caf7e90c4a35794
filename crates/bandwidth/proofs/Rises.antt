-- The estimate never falls. Assumes nothing.
use Rattle.std.proofs.Common.{◌≡◌, ℕ, ◌-◌, ◌<◌, ◌≤◌, min, Bool, true, false, not, ◌&&◌, ltb, leb, List, [], ◌∷◌, Some, None, Option, le_trans, le_refl, arith}
use Rattle.std.proofs.lemmas.Bool.{both_ways, cond_both, and_parts, ltb-true, le-leb, or_left, or_right}
use Rattle.filter.specs.Filter.{updated, is_replaced, filled}
use Rattle.filter.specs.declared.min_max.MinMax.{MinMax}
use Rattle.filter.specs.declared.min_max.MinMaxSample.{MinMaxSample}
use Rattle.bandwidth.specs.Bandwidth.{noted, estimate, Call, Sent, Acked, Ended, after_one, after}
use Rattle.bandwidth.specs.declared.bw_estimation.BandwidthEstimation.{BandwidthEstimation}

-- a greater value takes every place
replaces : (m : MinMax ℕ) (round v : ℕ) → m.first.value < v → m.first.value ≤ (updated leb 0 m round v).first.value
replaces m round v lt =
    let s : MinMaxSample ℕ = record { time = round; value = v } in
    let beaten : leb m.first.value v ≡ true = le-leb _ _ (omega arith) in
    cond_both (is_replaced leb 0 m s) (filled m s) _ (λ (r : MinMax ℕ). m.first.value ≤ r.first.value) (λ _. omega arith)
    (λ e. absurd (both e (or_left _ (ltb m.window (round - m.third.time)) (or_right (leb m.first.value 0) _ beaten))))
  where
    both : {t : Bool} → t ≡ false → t ≡ true → ⊥
    both {t} f g = both_ways t f g

noted_rises : (rate : Option ℕ) (ack round : ℕ) (limited : Bool) (m : MinMax ℕ) → m.first.value ≤ (noted rate ack limited round m).first.value
noted_rises None ack round limited m = le_refl _
noted_rises (Some send) ack round limited m =
    cond_both (not limited && ltb m.first.value (min send ack)) (updated leb 0 m round (min send ack)) m (λ (r : MinMax ℕ). m.first.value ≤ r.first.value)
    (λ e. replaces m round (min send ack) (ltb-true _ _ (and_parts (not limited) _ e).1))
    (λ _. le_refl _)

one_rises : (call : Call) (b : BandwidthEstimation) → estimate b ≤ estimate (after_one call b)
one_rises (Sent time n) b = le_refl _
one_rises (Acked time n round limited) b = noted_rises _ _ round limited b.max_filter
one_rises Ended b = le_refl _

pub rises : (calls : List Call) (b : BandwidthEstimation) → estimate b ≤ estimate (after calls b)
rises [] b = le_refl _
rises (call ∷ calls) b = le_trans (one_rises call b) (rises calls (after_one call b))
