-- Round-trip times, worked out by hand from RFC 6298. Assumes nothing.
use Rattle.std.specs.Prelude.{◌≡◌, ℕ}
use Rattle.rtt.specs.Estimates.{Estimate, opened, updated, best}
use Rattle.figures.specs.declared.rtt_figures.Smoothing.{Smoothing}

-- a first sample of 50 ms, and then one of 90 ms with a reported ack delay
abbrev pub after_90 : ℕ → Estimate
after_90 delay = updated (updated (opened 100000000) 0 50000000) delay 90000000

abbrev pub smoothing_of : Estimate → Smoothing
smoothing_of e = record { smoothed = best e; variation = e.variation }

-- 7/8 of 50 and 1/8 of 80 are 53.75 ms, and 3/4 of 25 and 1/4 of 30 are 26.25 ms
abbrev pub counted_80 : Smoothing
counted_80 = record { smoothed = 53750000; variation = 26250000 }

-- nothing moves but the variation, to 3/4 of 25 ms
abbrev pub counted_50 : Smoothing
counted_50 = record { smoothed = 50000000; variation = 18750000 }

-- 7/8 of 50 and 1/8 of 90 are 55 ms, and 3/4 of 25 and 1/4 of 40 are 28.75 ms
abbrev pub counted_90 : Smoothing
counted_90 = record { smoothed = 55000000; variation = 28750000 }

-- over a minimum of 50 ms, delays of 10 and of 40 ms are taken off 90 ms, and one of 41 ms is not
pub record RttTable : Type 0 where
  pub delay_10 : smoothing_of (after_90 10000000) ≡ counted_80
  pub delay_40 : smoothing_of (after_90 40000000) ≡ counted_50
  pub delay_41 : smoothing_of (after_90 41000000) ≡ counted_90
