-- A connection that has sent nothing. Assumes nothing.
use Rattle.std.specs.Prelude.{ℕ, ◌*◌, false, None}
use Rattle.std.specs.Float.{binary32}
use Rattle.std.specs.Float.Ieee.{div}
use Rattle.bandwidth.specs.Bandwidth.{nothing}
use Rattle.bbr_rounds.specs.Aggregation.{unaggregated}
use Rattle.bbr_rounds.specs.Recovery.{unharmed}
use Rattle.bbr_rounds.specs.Rounds.{unsent}
use Rattle.bbr_state.specs.Gains.{unit_gain, high_gain}
use Rattle.bbr_state.specs.declared.state.BbrState.{BbrState}
use Rattle.bbr_state.specs.declared.state.Mode.TheVariants.{Startup}

-- an initial window and an MTU
abbrev pub opened : ℕ → ℕ → BbrState
opened w mtu =
    record {
      limits = record { initial_window = w; current_mtu = mtu; init_cwnd = w; min_cwnd = 4 * mtu };
      gains = record { high_gain = high_gain; drain_gain = div binary32 unit_gain high_gain; high_cwnd_gain = high_gain };
      phase =
          record {
            mode = Startup;
            pacing_gain = high_gain;
            cwnd_gain = high_gain;
            last_cycle_start = None;
            current_cycle_offset = 0;
          };
      rtt_probe = record { exit_probe_rtt_at = None; probe_rtt_last_started_at = None; exiting_quiescence = false };
      recovery = unharmed;
      rounds = unsent;
      growth = record { is_at_full_bandwidth = false; bw_at_last_round = 0; round_wo_bw_gain = 0 };
      flow = record { acked_bytes = 0; prev_in_flight_count = 0; min_rtt = 0; pacing_rate = 0; cwnd = w };
      max_bandwidth = nothing;
      ack_aggregation = unaggregated;
    }
