-- Which mode may follow which, and when. Assumes nothing.
use Rattle.std.specs.Prelude.{◌≡◌, ℕ, Bool, true, false, None, Option}
use Rattle.bbr_state.specs.declared.state.BbrState.{BbrState}
use Rattle.bbr_calls.specs.Modes.{is_due}
use Rattle.bbr_state.specs.declared.state.Mode.{Mode}
use Rattle.bbr_state.specs.declared.state.Mode.TheVariants.{Startup, Drain, ProbeBw, ProbeRtt}

-- Where startup and drain may end: startup only, and always, at the full bandwidth, in drain or, with the queue empty, in cruising; drain
-- in cruising. Nothing else changes.
abbrev pub Leaves : Bool → Mode → Mode → Type 0
Leaves full Startup Startup = full ≡ false
Leaves full Startup Drain = full ≡ true
Leaves full Startup ProbeBw = full ≡ true
Leaves full Startup ProbeRtt = ⊥
Leaves full Drain Startup = ⊥
Leaves full Drain Drain = Unit {0}
Leaves full Drain ProbeBw = Unit {0}
Leaves full Drain ProbeRtt = ⊥
Leaves full ProbeBw Startup = ⊥
Leaves full ProbeBw Drain = ⊥
Leaves full ProbeBw ProbeBw = Unit {0}
Leaves full ProbeBw ProbeRtt = ⊥
Leaves full ProbeRtt Startup = ⊥
Leaves full ProbeRtt Drain = ⊥
Leaves full ProbeRtt ProbeBw = ⊥
Leaves full ProbeRtt ProbeRtt = Unit {0}

-- Where the probe of the minimum RTT may begin and end: it begins only where the minimum has expired, and ends only when it is due, in
-- cruising at the full bandwidth and in startup elsewhere.
abbrev pub Probes : Bool → Bool → Bool → Mode → Mode → Type 0
Probes full expired due Startup Startup = Unit {0}
Probes full expired due Startup Drain = ⊥
Probes full expired due Startup ProbeBw = ⊥
Probes full expired due Startup ProbeRtt = expired ≡ true
Probes full expired due Drain Startup = ⊥
Probes full expired due Drain Drain = Unit {0}
Probes full expired due Drain ProbeBw = ⊥
Probes full expired due Drain ProbeRtt = expired ≡ true
Probes full expired due ProbeBw Startup = ⊥
Probes full expired due ProbeBw Drain = ⊥
Probes full expired due ProbeBw ProbeBw = Unit {0}
Probes full expired due ProbeBw ProbeRtt = expired ≡ true
Probes full expired due ProbeRtt Startup = (due ≡ true) × (full ≡ false)
Probes full expired due ProbeRtt Drain = ⊥
Probes full expired due ProbeRtt ProbeBw = (due ≡ true) × (full ≡ true)
Probes full expired due ProbeRtt ProbeRtt = Unit {0}

-- At the end of a batch startup and drain may end first, and then the probe may begin or end: it is due by its exit time, if it has one, at
-- the start of a round.
abbrev pub Follows : Bool → Bool → Option ℕ → ℕ → Bool → Mode → Mode → Type 0
Follows full expired exit time starts m m' =
    (between : Mode) × Leaves full m between × Probes full expired (is_due between exit time starts) between m'

-- In startup, and the minimum RTT was never probed: as before the first end of a batch.
abbrev pub NeverProbed : BbrState → Type 0
NeverProbed s =
    (s.phase.mode ≡ Startup) × (s.rtt_probe.probe_rtt_last_started_at ≡ None) × (s.rtt_probe.exiting_quiescence ≡ false)
