-- The cycle of pacing gains. Assumes nothing.
--
-- Cruising starts at the offset 0 for the draw 0, and at d + 1 for any other draw d: never at 1, where the decreased gain would not follow the
-- increased one. The cycle advances to the next of its eight gains
--   at once, where the gain is below 1 and no more is in flight than a gain of 1 aims at;
--   not yet, where the gain is above 1, nothing was lost, and less was in flight at the last batch than the gain aims at;
--   elsewhere, when more than the minimum RTT has gone by since it last did.
-- A gain below 1 stays in force, while the offset moves on to a gain of 1, until no more is in flight than a gain of 1 aims at.
use Rattle.std.specs.Prelude.{ℕ, ◌+◌, ◌-◌, ◌%◌, ◌<◌, Bool, true, false, cond, not, ◌&&◌, Some, None, Option, ◌≢◌, nat_le, nat_lt, slice_index_or, Float}
use Rattle.std.specs.Float.{nan}
use Rattle.std.specs.Float.Ieee.{lt, eq}
use Rattle.bbr_rounds.specs.Recovery.{is_lossy}
use Rattle.bbr_state.specs.Gains.{cycle, unit_gain, double_gain}
use Rattle.bbr_state.specs.Targets.{target}
use Rattle.bbr_state.specs.declared.state.BbrState.{BbrState}
use Rattle.bbr_state.specs.declared.state.Phase.{Phase}
use Rattle.bbr_state.specs.declared.state.Mode.TheVariants.{ProbeBw}

abbrev pub gain_at : ℕ → Float
gain_at i = slice_index_or cycle i nan

abbrev pub offset_of : ℕ → ℕ
offset_of d = cond (nat_le 1 d) (d + 1) d

-- what every draw from 0 to 6 gives: a place in the cycle, but not that of the decreased gain
abbrev pub EntryOffset : ℕ → Type 0
EntryOffset i = (i < 8) × (i ≢ 1)

-- cruising from an offset
abbrev pub cruising : ℕ → ℕ → Phase
cruising time i =
    record {
      mode = ProbeBw;
      pacing_gain = gain_at i;
      cwnd_gain = double_gain;
      last_cycle_start = Some time;
      current_cycle_offset = i;
    }

abbrev pub cruised : BbrState → ℕ → ℕ → BbrState
cruised s time d = record s { phase = cruising time (offset_of d) }

abbrev pub is_passed : Option ℕ → ℕ → ℕ → Bool
is_passed None time rtt = false
is_passed (Some start) time rtt = nat_lt rtt (time - start)

abbrev pub is_filling : BbrState → Bool
is_filling s =
    lt unit_gain s.phase.pacing_gain && not (is_lossy s.recovery)
    && nat_lt s.flow.prev_in_flight_count (target s s.phase.pacing_gain)

abbrev pub is_emptied : BbrState → ℕ → Bool
is_emptied s flight = lt s.phase.pacing_gain unit_gain && nat_le flight (target s unit_gain)

abbrev pub advances : BbrState → ℕ → ℕ → Bool
advances s time flight =
    cond (is_emptied s flight) true
    (cond (is_filling s) false (is_passed s.phase.last_cycle_start time s.flow.min_rtt))

abbrev pub next_offset : Phase → ℕ
next_offset p = (p.current_cycle_offset + 1) % 8

abbrev pub stays_low : BbrState → Float → ℕ → Bool
stays_low s gain flight =
    lt s.phase.pacing_gain unit_gain && eq gain unit_gain && nat_lt (target s unit_gain) flight

-- the next offset, with the gain before or its own
abbrev pub turned : Phase → ℕ → Bool → Phase
turned p time low =
    record p {
      pacing_gain = cond low p.pacing_gain (gain_at (next_offset p));
      last_cycle_start = Some time;
      current_cycle_offset = next_offset p;
    }

abbrev pub cycled : BbrState → ℕ → ℕ → BbrState
cycled s time flight =
    record s {
      phase =
          cond (advances s time flight) (turned s.phase time (stays_low s (gain_at (next_offset s.phase)) flight)) s.phase;
    }
