-- Of two samples the one with the smaller round-trip time is greater; the number is not compared. The least has the
-- largest time of 64 bits and number 0. Assumes nothing.
use Rattle.std.specs.Prelude.{Bool, nat_le}
use Rattle.std.proofs.Common.{lit<}
use Rattle.filter.specs.declared.rtt_sample.RttSample.{RttSample}

abbrev pub no_faster : RttSample → RttSample → Bool
no_faster x y = nat_le y.rtt x.rtt

abbrev pub slowest : RttSample
slowest = record { rtt = 18446744073709551615; number = 0; fits = lit< tt }
