-- From one mode to the next. Assumes nothing.
--
-- Startup ends in drain once the full bandwidth is reached, and drain in cruising (ProbeBw) once no more is in flight than a gain of 1 aims
-- at; both may happen in one batch. From every mode the minimum RTT is probed (ProbeRtt) where it has expired: the application is not the
-- limit, and it was last probed more than ten seconds ago, or never. The probe ends with the first round that begins at its exit time or
-- later, in cruising at the full bandwidth and in startup elsewhere. The exit time is 200 ms after the first batch with
-- less in flight than the probe's window and a datagram.
use Rattle.std.specs.Prelude.{ℕ, ◌-◌, Bool, true, false, cond, not, ◌&&◌, Some, None, Option, nat_le, nat_lt, Float}
use Rattle.values.specs.Saturating.{sum}
use Rattle.bbr_state.specs.Tests.{is_startup, is_drain, is_probe_rtt}
use Rattle.bbr_state.specs.Gains.{unit_gain}
use Rattle.bbr_state.specs.Targets.{target, probe_target}
use Rattle.bbr_state.specs.Cycle.{cruising, offset_of}
use Rattle.bbr_state.specs.declared.state.BbrState.{BbrState}
use Rattle.bbr_state.specs.declared.state.HighGains.{HighGains}
use Rattle.bbr_state.specs.declared.state.Phase.{Phase}
use Rattle.bbr_state.specs.declared.state.RttProbe.{RttProbe}
use Rattle.bbr_state.specs.declared.state.Mode.{Mode}
use Rattle.bbr_state.specs.declared.state.Mode.TheVariants.{Startup, Drain, ProbeRtt}

-- a source after a draw, or as it was
abbrev pub taken : {M : Type 0} → (M → M) → Bool → M → M
taken after drawn m = cond drawn (after m) m

-- another mode with its gains, at the same place of the cycle
abbrev pub in_mode : Phase → Mode → Float → Float → Phase
in_mode p m pacing cwnd = record p { mode = m; pacing_gain = pacing; cwnd_gain = cwnd }

abbrev pub starting : HighGains → Phase → Phase
starting g p = in_mode p Startup g.high_gain g.high_cwnd_gain

abbrev pub started : BbrState → BbrState
started s = record s { phase = starting s.gains s.phase }

abbrev pub leaves_startup : BbrState → Bool
leaves_startup s = is_startup s.phase.mode && s.growth.is_at_full_bandwidth

abbrev pub drained : BbrState → BbrState
drained s =
    record s {
      phase = cond (leaves_startup s) (in_mode s.phase Drain s.gains.drain_gain s.gains.high_cwnd_gain) s.phase;
    }

abbrev pub leaves_drain : BbrState → ℕ → Bool
leaves_drain s flight = is_drain s.phase.mode && nat_le flight (target s unit_gain)

-- d is the next draw
abbrev pub drain_left : BbrState → ℕ → ℕ → ℕ → BbrState
drain_left s time flight d = record s { phase = cond (leaves_drain s flight) (cruising time (offset_of d)) s.phase }

abbrev pub startup_left : BbrState → ℕ → ℕ → ℕ → BbrState
startup_left s time flight d = drain_left (drained s) time flight d

abbrev pub is_late : Option ℕ → ℕ → Bool
is_late None time = true
is_late (Some last) time = nat_lt 10000000000 (time - last)

abbrev pub is_expired : BbrState → ℕ → Bool → Bool
is_expired s time limited = not limited && is_late s.rtt_probe.probe_rtt_last_started_at time

abbrev pub probes : BbrState → ℕ → Bool → Bool
probes s time limited =
    is_expired s time limited && not s.rtt_probe.exiting_quiescence && not (is_probe_rtt s.phase.mode)

abbrev pub begun : RttProbe → ℕ → RttProbe
begun p time = record p { exit_probe_rtt_at = None; probe_rtt_last_started_at = Some time }

abbrev pub probe_entered : BbrState → ℕ → Bool → BbrState
probe_entered s time limited =
    record s {
      phase = cond (probes s time limited) (in_mode s.phase ProbeRtt unit_gain s.phase.cwnd_gain) s.phase;
      rtt_probe = cond (probes s time limited) (begun s.rtt_probe time) s.rtt_probe;
    }

-- a round begins at the exit time or later
abbrev pub is_due : Mode → Option ℕ → ℕ → Bool → Bool
is_due m None time starts = false
is_due m (Some exit) time starts = is_probe_rtt m && starts && nat_le exit time

abbrev pub exit_time : Mode → Option ℕ → ℕ → Bool → Option ℕ
exit_time m None time small = cond (is_probe_rtt m && small) (Some (sum time 200000000)) None
exit_time m (Some exit) time small = Some exit

abbrev pub is_done : BbrState → ℕ → Bool → Bool
is_done s time starts = is_due s.phase.mode s.rtt_probe.exit_probe_rtt_at time starts

-- from the probe to cruising, with a draw
abbrev pub resumes : BbrState → ℕ → Bool → Bool
resumes s time starts = is_done s time starts && s.growth.is_at_full_bandwidth

abbrev pub resumed : BbrState → ℕ → ℕ → Phase
resumed s time d =
    cond s.growth.is_at_full_bandwidth (cruising time (offset_of d)) (starting s.gains s.phase)

abbrev pub is_small : BbrState → ℕ → Bool
is_small s flight = nat_lt flight (sum (probe_target s) s.limits.current_mtu)

abbrev pub probe_left : BbrState → ℕ → Bool → ℕ → ℕ → BbrState
probe_left s time starts flight d =
    record s {
      phase = cond (is_done s time starts) (resumed s time d) s.phase;
      rtt_probe =
          record s.rtt_probe {
            exit_probe_rtt_at = exit_time s.phase.mode s.rtt_probe.exit_probe_rtt_at time (is_small s flight);
            exiting_quiescence = false;
          };
    }
