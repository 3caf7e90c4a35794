-- The estimate of a path's bandwidth, in bytes a second. Assumes nothing.
--
-- Two running totals keep their last two values and the times at which they were reached: bytes sent and bytes acked.
-- With an ack, the rate of the last send (unknown before two sends, and boundless where no time went by between them)
-- and the rate of the last ack (0 before two acks, and where no time went by) are compared, and the lesser is a sample.
-- It enters the filter unless the sender had too little to send, and only above the present maximum.
use Rattle.std.specs.Prelude.{ℕ, ◌-◌, ◌/◌, min, Bool, cond, not, ◌&&◌, List, [], ◌∷◌, Some, None, Option, ◌==◌, nat_le, nat_lt}
use Rattle.std.specs.Option.{unwrap_or}
use Rattle.values.specs.Saturating.{sum, product, most}
use Rattle.filter.specs.Filter.{fresh, updated}
use Rattle.filter.specs.declared.min_max.MinMax.{MinMax}
use Rattle.bandwidth.specs.declared.bw_estimation.BandwidthEstimation.{BandwidthEstimation}
use Rattle.bandwidth.specs.declared.bw_estimation.RunningTotal.{RunningTotal}

abbrev pub none_yet : RunningTotal
none_yet = record { bytes = 0; prev_bytes = 0; time = None; prev_time = None }

abbrev pub added : RunningTotal → ℕ → ℕ → RunningTotal
added t time n = record { bytes = sum t.bytes n; prev_bytes = t.bytes; time = Some time; prev_time = t.time }

-- bytes in a number of nanoseconds, for each second
abbrev pub per_second : ℕ → ℕ → Option ℕ
per_second n delta = cond (delta == 0) None (Some (product n 1000000000 / delta))

abbrev pub rate_between : Option ℕ → Option ℕ → ℕ → Option ℕ
rate_between None t n = None
rate_between (Some p) None n = Some most
rate_between (Some p) (Some t) n = Some (cond (nat_lt p t) (unwrap_or (per_second n (t - p)) 0) most)

abbrev pub send_rate : RunningTotal → Option ℕ
send_rate t = rate_between t.prev_time t.time (t.bytes - t.prev_bytes)

abbrev pub rate_since : Option ℕ → ℕ → ℕ → ℕ
rate_since None time n = 0
rate_since (Some p) time n = unwrap_or (per_second n (time - p)) 0

abbrev pub ack_rate : RunningTotal → ℕ → ℕ
ack_rate t time = rate_since t.prev_time time (t.bytes - t.prev_bytes)

abbrev pub noted : Option ℕ → ℕ → Bool → ℕ → MinMax ℕ → MinMax ℕ
noted None ack limited round m = m
noted (Some send) ack limited round m =
    cond (not limited && nat_lt m.first.value (min send ack)) (updated nat_le 0 m round (min send ack)) m

abbrev pub nothing : BandwidthEstimation
nothing = record { acked = none_yet; sent = none_yet; max_filter = fresh 0; acked_at_last_window = 0 }

abbrev pub sent_on : BandwidthEstimation → ℕ → ℕ → BandwidthEstimation
sent_on b time n = record b { sent = added b.sent time n }

abbrev pub acked_on : BandwidthEstimation → ℕ → ℕ → ℕ → Bool → BandwidthEstimation
acked_on b time n round limited =
    record b {
      acked = added b.acked time n;
      max_filter = noted (send_rate b.sent) (ack_rate (added b.acked time n) time) limited round b.max_filter;
    }

abbrev pub closed : BandwidthEstimation → BandwidthEstimation
closed b = record b { acked_at_last_window = b.acked.bytes }

abbrev pub acked_in_window : BandwidthEstimation → ℕ
acked_in_window b = b.acked.bytes - b.acked_at_last_window

abbrev pub estimate : BandwidthEstimation → ℕ
estimate b = b.max_filter.first.value

-- the calls that change an estimation
pub data Call : Type 0 where
  Sent : ℕ → ℕ → Call
  Acked : ℕ → ℕ → ℕ → Bool → Call
  Ended : Call

abbrev pub after_one : Call → BandwidthEstimation → BandwidthEstimation
after_one (Sent time n) b = sent_on b time n
after_one (Acked time n round limited) b = acked_on b time n round limited
after_one Ended b = closed b

-- an estimation after calls, the first of them first
abbrev pub after : List Call → BandwidthEstimation → BandwidthEstimation
after [] b = b
after (call ∷ calls) b = after calls (after_one call b)
