-- Two samples with equal fields are equal: that the time fits has at most one proof. Assumes nothing.
use Rattle.std.proofs.Common.{◌≡◌, ◌^◌, ◌<◌}
use mathlib.Core.HLevel.{is_prop→PathP}
use native.Mathlib.Bridge.{le_prop}
use Rattle.filter.specs.declared.rtt_sample.RttSample.{RttSample}

pub same : (x y : RttSample) → x.rtt ≡ y.rtt → x.number ≡ y.number → x ≡ y
same x y r n = λ i. record { rtt = r i; number = n i; fits = is_prop→PathP (λ j. r j < 2 ^ 64) (λ j. le_prop) x.fits y.fits i }
