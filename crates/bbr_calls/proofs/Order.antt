-- The modes follow each other as `specs/ModeOrder.antt` says. Assumes nothing.
use Rattle.std.proofs.Common.{◌≡◌, ℕ, Bool, true, false, cond, not, ◌&&◌, Some, None, Option, sym, refl, ap, ◌∙◌, subst}
use Rattle.std.proofs.lemmas.Bool.{both_ways, cond_both, and_parts, false≢true}
use Rattle.bbr_calls.specs.Calls.{batch_of, measured, recovery_updated, gain_cycled, updated, ended, after_drain}
use Rattle.bbr_state.specs.Cycle.{cruising, offset_of, gain_at, next_offset, advances, stays_low, turned, cycled}
use Rattle.bbr_state.specs.Gains.{unit_gain}
use Rattle.bbr_calls.specs.ModeOrder.{Leaves, Probes, Follows, NeverProbed}
use Rattle.bbr_state.specs.Tests.{is_startup, is_drain, is_probe_bw, is_probe_rtt}
use Rattle.bbr_calls.specs.Modes.{in_mode, starting, leaves_startup, drained, leaves_drain, startup_left, is_expired, is_late, is_due, is_done, probes, begun, resumed, probe_entered, probe_left}
use Rattle.bbr_state.specs.declared.state.BbrState.{BbrState}
use Rattle.bbr_state.specs.declared.state.Phase.{Phase}
use Rattle.bbr_state.specs.declared.state.Mode.{Mode}
use Rattle.bbr_state.specs.declared.state.Mode.TheVariants.{Startup, Drain, ProbeBw, ProbeRtt}

to_drain : (m : Mode) (full : Bool) → is_startup m && full ≡ true → Leaves full m Drain
to_drain Startup full e = e
to_drain Drain full e = tt
to_drain ProbeBw full e = absurd (false≢true e)
to_drain ProbeRtt full e = absurd (false≢true e)

stays : (m : Mode) (full : Bool) → is_startup m && full ≡ false → Leaves full m m
stays Startup full e = e
stays Drain full e = tt
stays ProbeBw full e = tt
stays ProbeRtt full e = tt

onward : (m x : Mode) (full : Bool) → Leaves full m x → is_drain x ≡ true → Leaves full m ProbeBw
onward m Startup full h e = absurd (false≢true e)
onward Startup Drain full h e = h
onward Drain Drain full h e = tt
onward ProbeBw Drain full h e = tt
onward ProbeRtt Drain full h e = absurd h
onward m ProbeBw full h e = h
onward m ProbeRtt full h e = absurd (false≢true e)

after_startup : (s : BbrState) → Leaves s.growth.is_at_full_bandwidth s.phase.mode (drained s).phase.mode
after_startup s =
    cond_both (leaves_startup s) (in_mode s.phase Drain s.gains.drain_gain s.gains.high_cwnd_gain) s.phase
    (λ (p : Phase). Leaves s.growth.is_at_full_bandwidth s.phase.mode p.mode)
    (to_drain s.phase.mode s.growth.is_at_full_bandwidth)
    (stays s.phase.mode s.growth.is_at_full_bandwidth)

pub leaves : (s : BbrState) (time flight d : ℕ) → Leaves s.growth.is_at_full_bandwidth s.phase.mode (startup_left s time flight d).phase.mode
leaves s time flight d =
    cond_both (leaves_drain (drained s) flight) (cruising time (offset_of d)) (drained s).phase
    (λ (p : Phase). Leaves s.growth.is_at_full_bandwidth s.phase.mode p.mode)
    (λ e. onward s.phase.mode (drained s).phase.mode _ (after_startup s) (and_parts (is_drain (drained s).phase.mode) _ e).0)
    (λ _. after_startup s)

begins : (m : Mode) (full expired quiet due : Bool) → (expired && not quiet && not (is_probe_rtt m)) ≡ true → Probes full expired due m ProbeRtt
begins Startup full true quiet due e = refl
begins Startup full false quiet due e = absurd (false≢true e)
begins Drain full true quiet due e = refl
begins Drain full false quiet due e = absurd (false≢true e)
begins ProbeBw full true quiet due e = refl
begins ProbeBw full false quiet due e = absurd (false≢true e)
begins ProbeRtt full expired quiet due e = tt

goes_on : (m : Mode) (full expired due : Bool) → Probes full expired due m m
goes_on Startup full expired due = tt
goes_on Drain full expired due = tt
goes_on ProbeBw full expired due = tt
goes_on ProbeRtt full expired due = tt

due_probes : (m : Mode) (exit : Option ℕ) (time : ℕ) (starts : Bool) → is_due m exit time starts ≡ true → is_probe_rtt m ≡ true
due_probes m None time starts e = absurd (false≢true e)
due_probes Startup (Some x) time starts e = absurd (false≢true e)
due_probes Drain (Some x) time starts e = absurd (false≢true e)
due_probes ProbeBw (Some x) time starts e = absurd (false≢true e)
due_probes ProbeRtt (Some x) time starts e = refl

ends : (m : Mode) (full expired due : Bool) (a b : Phase) → a.mode ≡ ProbeBw → b.mode ≡ Startup → is_probe_rtt m ≡ true → due ≡ true → Probes full expired due m (cond full a b).mode
ends Startup full expired due a b p q e f = absurd (false≢true e)
ends Drain full expired due a b p q e f = absurd (false≢true e)
ends ProbeBw full expired due a b p q e f = absurd (false≢true e)
ends ProbeRtt true expired due a b p q e f = subst (λ (x : Mode). Probes true expired due ProbeRtt x) (sym p) (f, refl)
ends ProbeRtt false expired due a b p q e f = subst (λ (x : Mode). Probes false expired due ProbeRtt x) (sym q) (f, refl)

-- the state with the probe begun, or not
abbrev entered : BbrState → ℕ → Bool → BbrState
entered s time b =
    record s {
      phase = cond b (in_mode s.phase ProbeRtt unit_gain s.phase.cwnd_gain) s.phase;
      rtt_probe = cond b (begun s.rtt_probe time) s.rtt_probe;
    }

tail : (s : BbrState) (time flight d : ℕ) (limited starts : Bool) (b : Bool) → probes s time limited ≡ b → Probes s.growth.is_at_full_bandwidth (is_expired s time limited) (is_done s time starts) s.phase.mode (probe_left (entered s time b) time starts flight d).phase.mode
tail s time flight d limited starts true e =
    begins s.phase.mode _ (is_expired s time limited) s.rtt_probe.exiting_quiescence _ e
tail s time flight d limited starts false e =
    cond_both (is_done s time starts) (resumed s time d) s.phase
    (λ (p : Phase). Probes s.growth.is_at_full_bandwidth (is_expired s time limited) (is_done s time starts) s.phase.mode p.mode)
    (λ f. ends s.phase.mode s.growth.is_at_full_bandwidth _ _ (cruising time (offset_of d)) (starting s.gains s.phase) refl refl (due_probes s.phase.mode s.rtt_probe.exit_probe_rtt_at time starts f) f)
    (λ _. goes_on s.phase.mode _ _ _)

pub probes_law : (s : BbrState) (time flight d : ℕ) (limited starts : Bool) → Probes s.growth.is_at_full_bandwidth (is_expired s time limited) (is_done s time starts) s.phase.mode (probe_left (probe_entered s time limited) time starts flight d).phase.mode
probes_law s time flight d limited starts = tail s time flight d limited starts (probes s time limited) refl

-- of a state that is the one after
pub probes_by : (s x : BbrState) (time flight d : ℕ) (limited starts : Bool) → x ≡ probe_left (probe_entered s time limited) time starts flight d → Probes s.growth.is_at_full_bandwidth (is_expired s time limited) (is_done s time starts) s.phase.mode x.phase.mode
probes_by s x time flight d limited starts e =
    subst (λ (y : BbrState). Probes s.growth.is_at_full_bandwidth (is_expired s time limited) (is_done s time starts) s.phase.mode y.phase.mode) (sym e)
    (probes_law s time flight d limited starts)

-- the gain cycle is within a mode
mode_kept : (s : BbrState) (time flight : ℕ) → (gain_cycled s time flight).phase.mode ≡ s.phase.mode
mode_kept s time flight =
    cond_both (is_probe_bw s.phase.mode) (cycled s time flight).phase s.phase (λ (p : Phase). p.mode ≡ s.phase.mode)
    (λ _. cond_both (advances s time flight) (turned s.phase time (stays_low s (gain_at (next_offset s.phase)) flight)) s.phase
    (λ (p : Phase). p.mode ≡ s.phase.mode) (λ _. refl) (λ _. refl))
    (λ _. refl)

pub follows : {M : Type 0} (next : M → ℕ) (after : M → M) (s : BbrState) (m : M) (time flight : ℕ) (limited : Bool) (largest : Option ℕ) → Follows (ended next after s m time flight limited largest).growth.is_at_full_bandwidth (is_expired s time limited) s.rtt_probe.exit_probe_rtt_at time (batch_of s time flight limited largest).is_round_start s.phase.mode (ended next after s m time flight limited largest).phase.mode
follows next after s m time flight limited largest =
    let u = updated s time flight limited largest in
    let starts = (batch_of s time flight limited largest).is_round_start in
    let between = startup_left u time flight (next m) in (
      between.phase.mode,
      subst (λ (x : Mode). Leaves u.growth.is_at_full_bandwidth x between.phase.mode) (mode_kept (recovery_updated (measured s time largest) starts) time flight) (leaves u time flight (next m)),
      probes_law between time flight (next (after_drain after u m flight)) limited starts,
    )

-- of a state that is the one after
pub follows_by : {M : Type 0} (next : M → ℕ) (after : M → M) (s x : BbrState) (m : M) (time flight : ℕ) (limited : Bool) (largest : Option ℕ) → x ≡ ended next after s m time flight limited largest → Follows x.growth.is_at_full_bandwidth (is_expired s time limited) s.rtt_probe.exit_probe_rtt_at time (batch_of s time flight limited largest).is_round_start s.phase.mode x.phase.mode
follows_by next after s x m time flight limited largest e =
    subst (λ (y : BbrState). Follows y.growth.is_at_full_bandwidth (is_expired s time limited) s.rtt_probe.exit_probe_rtt_at time (batch_of s time flight limited largest).is_round_start s.phase.mode y.phase.mode) (sym e)
    (follows next after s m time flight limited largest)

not_probing : (full : Bool) (m : Mode) → Leaves full Startup m → is_probe_rtt m ≡ false
not_probing full Startup h = refl
not_probing full Drain h = refl
not_probing full ProbeBw h = refl
not_probing full ProbeRtt h = absurd h

all_true : (b : Bool) → ((b && true) && true && true) ≡ b
all_true true = refl
all_true false = refl

-- the probe begins exactly where the application is not the limit
begins_first : (s : BbrState) (time : ℕ) (limited : Bool) → is_probe_rtt s.phase.mode ≡ false → s.rtt_probe.probe_rtt_last_started_at ≡ None → s.rtt_probe.exiting_quiescence ≡ false → probes s time limited ≡ not limited
begins_first s time limited a b c = (λ i. (not limited && is_late (b i) time) && not (c i) && not (a i)) ∙ all_true (not limited)

begun_stays : (s : BbrState) (time flight d : ℕ) (starts b : Bool) → is_probe_rtt s.phase.mode ≡ false → is_probe_rtt (probe_left (entered s time b) time starts flight d).phase.mode ≡ b
begun_stays s time flight d starts true e = refl
begun_stays s time flight d starts false e =
    cond_both (is_done s time starts) (resumed s time d) s.phase (λ (p : Phase). is_probe_rtt p.mode ≡ false)
    (λ f. absurd (both_ways (is_probe_rtt s.phase.mode) e (due_probes s.phase.mode s.rtt_probe.exit_probe_rtt_at time starts f)))
    (λ _. e)

pub first_end : {M : Type 0} (next : M → ℕ) (after : M → M) (s : BbrState) (m : M) (time flight : ℕ) (limited : Bool) (largest : Option ℕ) → NeverProbed s → is_probe_rtt (ended next after s m time flight limited largest).phase.mode ≡ not limited
first_end next after s m time flight limited largest (h, a, b) =
    let u = updated s time flight limited largest in
    let starts = (batch_of s time flight limited largest).is_round_start in
    let between = startup_left u time flight (next m) in
    let kept = mode_kept (recovery_updated (measured s time largest) starts) time flight ∙ h in
    let calm = not_probing u.growth.is_at_full_bandwidth between.phase.mode (subst (λ (x : Mode). Leaves u.growth.is_at_full_bandwidth x between.phase.mode) kept (leaves u time flight (next m))) in
    begun_stays between time flight (next (after_drain after u m flight)) starts (probes between time limited) calm
    ∙ begins_first between time limited calm a b

-- of a state that is the one after
pub first_by : {M : Type 0} (next : M → ℕ) (after : M → M) (s x : BbrState) (m : M) (time flight : ℕ) (limited : Bool) (largest : Option ℕ) → x ≡ ended next after s m time flight limited largest → NeverProbed s → is_probe_rtt x.phase.mode ≡ not limited
first_by next after s x m time flight limited largest e never =
    ap (λ (y : BbrState). is_probe_rtt y.phase.mode) e ∙ first_end next after s m time flight limited largest never
