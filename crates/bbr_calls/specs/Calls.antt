-- What each call makes of the state. Assumes nothing.
--
-- At the end of a batch of acks, in this order: what the batch came to is measured; recovery, the gain cycle (while cruising) and, where a round
-- begins before the full bandwidth, the growth of the bandwidth are updated; the mode changes; the pacing rate, the window and the
-- window in recovery are computed; the bytes in flight are kept for the next batch, and the losses are forgotten.
use Rattle.std.specs.Prelude.{ℕ, ◌*◌, min, max, Bool, cond, not, ◌&&◌, ◌||◌, Option, nat_lt}
use Rattle.values.specs.Saturating.{sum}
use Rattle.bandwidth.specs.Bandwidth.{sent_on, acked_on, acked_in_window, closed}
use Rattle.bbr_rounds.specs.Aggregation.{aggregated, excess}
use Rattle.bbr_rounds.specs.Recovery.{recovered, extended, losing, window_after}
use Rattle.bbr_rounds.specs.Rounds.{begins, after_acks, sent_up_to}
use Rattle.bbr_rounds.specs.declared.recovery.RecoveryState.{RecoveryState}
use Rattle.bbr_rounds.specs.declared.recovery.RecoveryState.TheVariants.{NotInRecovery, Conservation, Growth}
use Rattle.bbr_state.specs.Cycle.{cycled}
use Rattle.bbr_state.specs.Tests.{is_probe_bw}
use Rattle.bbr_calls.specs.Modes.{taken, drained, leaves_drain, startup_left, is_expired, probe_entered, probe_left, resumes}
use Rattle.bbr_state.specs.Rates.{paced, sized, checked}
use Rattle.bbr_state.specs.Targets.{bandwidth, probe_target}
use Rattle.bbr_state.specs.declared.state.AckBatch.{AckBatch}
use Rattle.bbr_state.specs.declared.state.BbrState.{BbrState}
use Rattle.bbr_state.specs.declared.state.Flow.{Flow}
use Rattle.bbr_state.specs.declared.state.Mode.{Mode}
use Rattle.bbr_state.specs.declared.state.Mode.TheVariants.{Startup, Drain, ProbeBw, ProbeRtt}

-- in recovery the lesser of the two windows
abbrev pub held : RecoveryState → ℕ → ℕ → ℕ
held NotInRecovery w r = w
held Conservation w r = min w r
held Growth w r = min w r

-- The startup takes no notice of recovery, and the probe of the minimum RTT has a window of its own.
abbrev pub window_in : Mode → RecoveryState → ℕ → ℕ → ℕ → ℕ
window_in Startup q probe w r = w
window_in Drain q probe w r = held q w r
window_in ProbeBw q probe w r = held q w r
window_in ProbeRtt q probe w r = probe

abbrev pub window_of : BbrState → ℕ
window_of s =
    window_in s.phase.mode s.recovery.recovery_state (probe_target s) s.flow.cwnd s.recovery.recovery_window

abbrev pub told_sent : BbrState → ℕ → ℕ → ℕ → BbrState
told_sent s time n last =
    record s { rounds = sent_up_to s.rounds last; max_bandwidth = sent_on s.max_bandwidth time n }

-- The least sample becomes the minimum RTT where it is below it, or the minimum has expired.
abbrev pub acked_flow : BbrState → ℕ → ℕ → Bool → ℕ → Flow
acked_flow s time n limited least =
    record s.flow {
      acked_bytes = sum s.flow.acked_bytes n;
      min_rtt = cond (is_expired s time limited || nat_lt least s.flow.min_rtt) least s.flow.min_rtt;
    }

abbrev pub counted : BbrState → ℕ → ℕ → Bool → ℕ → BbrState
counted s time n limited least = record s { flow = acked_flow s time n limited least }

abbrev pub told_ack : BbrState → ℕ → ℕ → Bool → ℕ → BbrState
told_ack s time n limited least =
    counted (record s { max_bandwidth = acked_on s.max_bandwidth time n s.rounds.round_count limited }) time n limited least

abbrev pub told_loss : BbrState → ℕ → BbrState
told_loss s n = record s { recovery = losing s.recovery (sum s.recovery.lost_bytes n) }

abbrev pub told_mtu : BbrState → ℕ → BbrState
told_mtu s mtu =
    record s {
      limits =
          record s.limits {
            current_mtu = mtu;
            init_cwnd = max s.limits.initial_window (4 * mtu);
            min_cwnd = 4 * mtu;
          };
      flow = record s.flow { cwnd = max s.flow.cwnd (4 * mtu) };
    }

abbrev pub batch_of : BbrState → ℕ → ℕ → Bool → Option ℕ → AckBatch
batch_of s time flight limited largest =
    record {
      time = time;
      in_flight = flight;
      app_limited = limited;
      bytes_acked = acked_in_window s.max_bandwidth;
      excess_acked = excess s.ack_aggregation (acked_in_window s.max_bandwidth) time (bandwidth s);
      is_round_start = begins s.rounds (acked_in_window s.max_bandwidth) largest;
    }

abbrev pub measured : BbrState → ℕ → Option ℕ → BbrState
measured s time largest =
    record s {
      rounds = after_acks s.rounds (acked_in_window s.max_bandwidth) largest;
      max_bandwidth = closed s.max_bandwidth;
      ack_aggregation =
          aggregated s.ack_aggregation (acked_in_window s.max_bandwidth) time s.rounds.round_count (bandwidth s);
    }

abbrev pub recovery_updated : BbrState → Bool → BbrState
recovery_updated s starts =
    record s { recovery = recovered s.recovery s.rounds starts; rounds = extended s.recovery s.rounds }

abbrev pub gain_cycled : BbrState → ℕ → ℕ → BbrState
gain_cycled s time flight = record s { phase = cond (is_probe_bw s.phase.mode) (cycled s time flight).phase s.phase }

abbrev pub is_checked : BbrState → Bool → Bool
is_checked s starts = starts && not s.growth.is_at_full_bandwidth

abbrev pub growth_checked : BbrState → Bool → Bool → BbrState
growth_checked s starts limited =
    record s {
      growth = cond (is_checked s starts) (checked s limited).growth s.growth;
      ack_aggregation = cond (is_checked s starts) (checked s limited).ack_aggregation s.ack_aggregation;
    }

abbrev pub modelled : BbrState → AckBatch → BbrState
modelled s b =
    growth_checked (gain_cycled (recovery_updated s b.is_round_start) b.time b.in_flight) b.is_round_start b.app_limited

-- The mode, with a source m of draws, of which `next` and `after` are the next draw and the source after it.
abbrev pub after_drain : {M : Type 0} → (M → M) → BbrState → M → ℕ → M
after_drain after s m flight = taken after (leaves_drain (drained s) flight) m

abbrev pub probing : {M : Type 0} → (M → ℕ) → BbrState → M → AckBatch → BbrState
probing next s m b = probe_entered (startup_left s b.time b.in_flight (next m)) b.time b.app_limited

abbrev pub moved : {M : Type 0} → (M → ℕ) → (M → M) → BbrState → M → AckBatch → BbrState
moved next after s m b =
    probe_left (probing next s m b) b.time b.is_round_start b.in_flight (next (after_drain after s m b.in_flight))

abbrev pub left_draws : {M : Type 0} → (M → ℕ) → (M → M) → BbrState → M → AckBatch → M
left_draws next after s m b =
    taken after (resumes (probing next s m b) b.time b.is_round_start) (after_drain after s m b.in_flight)

abbrev pub settled : BbrState → ℕ → BbrState
settled s flight =
    record s { recovery = losing s.recovery 0; flow = record s.flow { prev_in_flight_count = flight } }

abbrev pub window_held : BbrState → ℕ → ℕ → BbrState
window_held s acked flight =
    record s {
      recovery =
          record s.recovery {
            recovery_window = window_after s.recovery s.limits.current_mtu s.limits.min_cwnd acked flight;
          };
    }

abbrev pub resized : BbrState → AckBatch → BbrState
resized s b =
    settled (window_held (sized (paced s) b.bytes_acked b.excess_acked) b.bytes_acked b.in_flight) b.in_flight

-- the state before the mode changes
abbrev pub updated : BbrState → ℕ → ℕ → Bool → Option ℕ → BbrState
updated s time flight limited largest = modelled (measured s time largest) (batch_of s time flight limited largest)

abbrev pub ended : {M : Type 0} → (M → ℕ) → (M → M) → BbrState → M → ℕ → ℕ → Bool → Option ℕ → BbrState
ended next after s m time flight limited largest =
    resized (moved next after (updated s time flight limited largest) m (batch_of s time flight limited largest))
    (batch_of s time flight limited largest)

abbrev pub ended_draws : {M : Type 0} → (M → ℕ) → (M → M) → BbrState → M → ℕ → ℕ → Bool → Option ℕ → M
ended_draws next after s m time flight limited largest =
    left_draws next after (updated s time flight limited largest) m (batch_of s time flight limited largest)
