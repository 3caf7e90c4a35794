-- How a path estimates its round-trip time. Assumes nothing.
--
-- Of RFC 6298, section 2, are: the first sample R makes the smoothed time R and the variation R / 2 (2.2); each later
-- sample R' makes first the variation 3/4 of itself plus 1/4 of the distance between the smoothed time and R', and then
-- the smoothed time 7/8 of itself plus 1/8 of R' (2.3: the weights are beta = 1/4 and alpha = 1/8, and the variation
-- is worked out with the smoothed time before this sample).
--
-- Not of RFC 6298 are: times are whole nanoseconds, and each division drops the fraction; the least sample, kept with no
-- ack delay taken off (RFC 9002, section 5.2); the reported ack delay, taken off a later sample exactly where the least
-- sample, this one among them, and the delay together are at most the sample (RFC 9002, section 5.3, but without the
-- peer's longest ack delay); the initial time, which stands for samples until the first one is there; the refusal of a
-- sample outside the limits; the probe timeout (RFC 9002, section 6.2.1). The clock granularity G and the timeout RTO of
-- RFC 6298 do not appear.
use Rattle.std.specs.Prelude.{◌≡◌, ℕ, ◌+◌, ◌-◌, ◌*◌, ◌/◌, ◌≤◌, min, max, cond, Some, None, Ok, Err, Option, Result, nat_le}
use Rattle.std.specs.Option.{unwrap_or}
use Rattle.values.specs.Limits.{InRtt}
use Rattle.values.specs.Saturating.{sum}
use Rattle.refusals.specs.declared.Layer.TheVariants.{Estimator}
use Rattle.std.specs.declared.convert.Infallible.{Infallible as NoPermit}
use Rattle.refusals.specs.declared.Refusal.{Refusal}
use Rattle.refusals.specs.declared.Refusal.TheVariants.{OutsideLimit}
use Rattle.rtt.specs.declared.estimator.RttEstimator.{RttEstimator}

pub record Estimate : Type 0 where
  pub latest : ℕ
  pub smoothed : Option ℕ
  pub variation : ℕ
  pub minimum : ℕ

-- what an estimator holds
abbrev pub estimate_of : RttEstimator → Estimate
estimate_of e = record { latest = e.latest; smoothed = e.smoothed; variation = e.var; minimum = e.min }

-- What is so of every estimate: the latest sample, the smoothed time (or the latest, before there is one) and the least sample are
-- round-trip times, and the variation is at most the longest.
pub record Within (e : Estimate) : Type 0 where
  pub latest : InRtt e.latest
  pub smoothed : InRtt (unwrap_or e.smoothed e.latest)
  pub variation : e.variation ≤ 10000000000
  pub minimum : InRtt e.minimum

-- before the first sample
abbrev pub opened : ℕ → Estimate
opened initial = record { latest = initial; smoothed = None; variation = initial / 2; minimum = initial }

-- (2.2)
abbrev pub first : ℕ → Estimate
first r = record { latest = r; smoothed = Some r; variation = r / 2; minimum = r }

abbrev pub distance : ℕ → ℕ → ℕ
distance m n = (m - n) + (n - m)

-- (2.3), the variation
abbrev pub varied : ℕ → ℕ → ℕ → ℕ
varied variation smoothed r = (3 * variation + distance smoothed r) / 4

-- (2.3), the smoothed time
abbrev pub weighted : ℕ → ℕ → ℕ
weighted smoothed r = (7 * smoothed + r) / 8

-- the sample without the ack delay, where that leaves the least sample or more
abbrev pub adjusted : ℕ → ℕ → ℕ → ℕ
adjusted minimum delay r = cond (nat_le (sum minimum delay) r) (r - delay) r

-- a later sample: what is smoothed is the sample as adjusted
abbrev pub later : ℕ → ℕ → ℕ → ℕ → ℕ → Estimate
later smoothed variation minimum r adj =
    record { latest = r; smoothed = Some (weighted smoothed adj); variation = varied variation smoothed adj; minimum = minimum }

abbrev pub sampled : Option ℕ → ℕ → ℕ → ℕ → ℕ → Estimate
sampled None variation minimum delay r = first r
sampled (Some smoothed) variation minimum delay r = later smoothed variation (min minimum r) r (adjusted (min minimum r) delay r)

-- the estimate after a sample r with a reported ack delay
abbrev pub updated : Estimate → ℕ → ℕ → Estimate
updated e delay r = sampled e.smoothed e.variation e.minimum delay r

-- What `update` answers and leaves: a sample within the limits is taken, any other is refused 1, layer estimator, and
-- changes nothing.
abbrev pub Updated : Estimate → ℕ → ℕ → Result Unit (Refusal NoPermit) → Estimate → Type 0
Updated e delay r (Ok _) e' = InRtt r × (e' ≡ updated e delay r)
Updated e delay r (Err why) e' = (InRtt r → ⊥) × (why ≡ OutsideLimit Estimator) × (e' ≡ e)

-- the smoothed time, or the latest before there is one
abbrev pub best : Estimate → ℕ
best e = unwrap_or e.smoothed e.latest

abbrev pub cautious : Estimate → ℕ
cautious e = max (best e) e.latest

-- the smoothed time and four variations, but at least a timer's granularity of one millisecond in their place
abbrev pub probe_timeout : Estimate → ℕ
probe_timeout e = best e + max (4 * e.variation) 1000000
