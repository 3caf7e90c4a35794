-- Worked figures of BBR, as facts about its definitions. Assumes nothing.
use Rattle.std.specs.Prelude.{◌≡◌, ℕ, false}
use Rattle.bandwidth.specs.Bandwidth.{estimate}
use Rattle.bbr_rounds.specs.Aggregation.{unaggregated, expected, excess, aggregated}
use Rattle.bbr_rounds.specs.declared.ack_aggregation.AckAggregationState.{AckAggregationState}
use Rattle.bbr_rounds.specs.Recovery.{unharmed}
use Rattle.bbr_rounds.specs.declared.recovery.RecoveryState.TheVariants.{Conservation}
use Rattle.bbr_calls.specs.Calls.{window_of, told_sent, told_ack, told_mtu}
use Rattle.bbr_state.specs.Cycle.{offset_of}
use Rattle.bbr_state.specs.Gains.{unit_gain, high_gain}
use Rattle.bbr_state.specs.Makers.{opened}
use Rattle.bbr_calls.specs.Modes.{in_mode}
use Rattle.bbr_state.specs.Targets.{target}
use Rattle.bbr_state.specs.declared.state.BbrState.{BbrState}
use Rattle.bbr_state.specs.declared.state.Mode.TheVariants.{ProbeBw}

-- two datagrams of 1,200 bytes, sent at once and acknowledged 12 ms apart, where the minimum RTT is a microsecond
abbrev pub slow : BbrState
slow =
    told_ack (told_ack (told_sent (told_sent (opened 240000 1200) 1000000 1200 1) 1000000 1200 2) 50000000 1200 false 1000)
    62000000 1200 false 1000

-- cruising in recovery, with a window of 4,800 there and a larger one elsewhere
abbrev pub recovering : BbrState
recovering =
    record (opened 240000 1200) {
      phase = in_mode (opened 240000 1200).phase ProbeBw high_gain high_gain;
      recovery = record unharmed { recovery_state = Conservation; recovery_window = 4800 };
    }

-- n bytes acknowledged at 50,000,001, where the bandwidth is 1,200 bytes a nanosecond
abbrev pub fast : ℕ → AckAggregationState
fast n = aggregated unaggregated n 50000001 0 1200000000000

-- A minimum RTT of a microsecond and a bandwidth of 100,000 make a product below a byte, so that the target is the initial window.
-- The draws 0, 1 and 6 give the offsets 0, 2 and 7. A recovery window of 4,800 stays the window when the MTU rises to 1,500.
-- After 15,372,287 microseconds at 1.2 * 10^12 bytes a second the product is above 2^64 - 1 and stops there, so that 18,446,744,073,709 bytes
-- are expected: no more than 2,400 came, and of 18,446,744,073,710 one is in excess.
pub record Figures : Type 0 where
  pub bandwidth : estimate slow.max_bandwidth ≡ 100000
  pub initial : target slow unit_gain ≡ 240000
  pub lowest : offset_of 0 ≡ 0
  pub second : offset_of 1 ≡ 2
  pub highest : offset_of 6 ≡ 7
  pub held : window_of (told_mtu recovering 1500) ≡ 4800
  pub stopped : expected (fast 2400) 15422287001 1200000000000 ≡ 18446744073709
  pub explained : excess (fast 2400) 0 15422287001 1200000000000 ≡ 0
  pub ahead : excess (fast 18446744073710) 0 15422287001 1200000000000 ≡ 1
