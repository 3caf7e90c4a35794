-- The pacing rate, the window, and whether the bandwidth still grows. Assumes nothing.
--
-- The pacing rate aims at the bandwidth times the pacing gain, and is left alone while no bandwidth is known. Before the full bandwidth it
-- starts from the initial window for each minimum RTT, and never falls.
--
-- The window, except while the minimum RTT is probed, aims at what its gain aims at, and what acks were ahead of the bandwidth. At the full
-- bandwidth it grows towards that by no more than was acknowledged, and falls to it at once. Before, it grows by what was acknowledged where
-- its gain is below that number (as f32s), or less than the initial window was acknowledged in all. It is no less than the smallest window.
--
-- The bandwidth grows while it is at least 1.25 of that of the last round in which it grew. The third round in a row in which it does not, and any such
-- round in recovery, shows the full bandwidth. Rounds in which the application was the limit do not count.
use Rattle.std.specs.Prelude.{ℕ, min, max, Bool, true, cond, not, ◌&&◌, ◌||◌, pos, ◌==◌, nat_le, nat_lt}
use Rattle.std.specs.Float.{binary32, binary64}
use Rattle.std.specs.Float.Ieee.{of_int, mul, lt, to_unsigned}
use Rattle.std.specs.Option.{unwrap_or}
use Rattle.values.specs.Saturating.{sum}
use Rattle.filter.specs.Filter.{emptied}
use Rattle.bandwidth.specs.Bandwidth.{per_second}
use Rattle.bbr_rounds.specs.Recovery.{is_in}
use Rattle.bbr_rounds.specs.declared.ack_aggregation.AckAggregationState.{AckAggregationState}
use Rattle.bbr_state.specs.Gains.{real, raised_gain}
use Rattle.bbr_state.specs.Tests.{is_probe_rtt}
use Rattle.bbr_state.specs.Targets.{bandwidth, target}
use Rattle.bbr_state.specs.declared.state.BbrState.{BbrState}
use Rattle.bbr_state.specs.declared.state.BandwidthGrowth.{BandwidthGrowth}

abbrev pub target_rate : BbrState → ℕ
target_rate s = to_unsigned 64 (mul binary64 (real (bandwidth s)) s.phase.pacing_gain)

abbrev pub rate_of : BbrState → ℕ → ℕ
rate_of s rate =
    cond (bandwidth s == 0) rate
    (cond s.growth.is_at_full_bandwidth (target_rate s)
    (cond (rate == 0 && not (s.flow.min_rtt == 0)) (unwrap_or (per_second s.limits.init_cwnd s.flow.min_rtt) 0)
    (max rate (target_rate s))))

abbrev pub paced : BbrState → BbrState
paced s = record s { flow = record s.flow { pacing_rate = rate_of s s.flow.pacing_rate } }

abbrev pub aim : BbrState → ℕ → ℕ
aim s excess =
    sum (target s s.phase.cwnd_gain)
    (cond s.growth.is_at_full_bandwidth s.ack_aggregation.max_ack_height.first.value excess)

abbrev pub grown : BbrState → ℕ → ℕ → ℕ
grown s acked w =
    cond s.growth.is_at_full_bandwidth (min w (sum s.flow.cwnd acked))
    (cond (lt s.phase.cwnd_gain (of_int binary32 (pos w)) || nat_lt s.flow.acked_bytes s.limits.init_cwnd)
    (sum s.flow.cwnd acked) s.flow.cwnd)

abbrev pub sized : BbrState → ℕ → ℕ → BbrState
sized s acked excess =
    record s {
      flow =
          record s.flow {
            cwnd = cond (is_probe_rtt s.phase.mode) s.flow.cwnd (max (grown s acked (aim s excess)) s.limits.min_cwnd);
          };
    }

abbrev pub is_grown : BbrState → Bool
is_grown s = nat_le (to_unsigned 64 (mul binary64 (real s.growth.bw_at_last_round) raised_gain)) (bandwidth s)

abbrev pub judged : BbrState → BandwidthGrowth
judged s =
    cond (is_grown s)
    (record s.growth { bw_at_last_round = bandwidth s; round_wo_bw_gain = 0 })
    (record s.growth {
      is_at_full_bandwidth =
          cond (nat_le 3 (sum s.growth.round_wo_bw_gain 1) || is_in s.recovery.recovery_state) true s.growth.is_at_full_bandwidth;
      round_wo_bw_gain = sum s.growth.round_wo_bw_gain 1;
    })

-- what acks were ahead of a lower bandwidth says nothing of the new one
abbrev pub forgotten : AckAggregationState → AckAggregationState
forgotten a = record a { max_ack_height = emptied 0 a.max_ack_height }

abbrev pub checked : BbrState → Bool → BbrState
checked s limited =
    record s {
      growth = cond limited s.growth (judged s);
      ack_aggregation = cond (not limited && is_grown s) (forgotten s.ack_aggregation) s.ack_aggregation;
    }
