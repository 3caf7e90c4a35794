-- What the end of a batch of acks keeps of the limits, and sets of the windows. Assumes nothing.
use Rattle.std.specs.Prelude.{ℕ, ◌*◌, ◌≤◌, max, Bool, true, false, cond, Option, ◌==◌}
use Rattle.std.proofs.Common.{arith}
use Rattle.bbr_rounds.specs.Recovery.{window_after}
use Rattle.bbr_rounds.specs.declared.recovery.RecoveryState.{RecoveryState}
use Rattle.bbr_rounds.specs.declared.recovery.RecoveryState.TheVariants.{NotInRecovery, Conservation, Growth}
use Rattle.bbr_calls.specs.Calls.{ended, window_in, window_of}
use Rattle.bbr_state.specs.Gains.{reduced_gain}
use Rattle.bbr_state.specs.Targets.{scaled, probe_target}
use Rattle.bbr_state.specs.declared.state.BbrState.{BbrState}
use Rattle.bbr_state.specs.declared.state.Mode.{Mode}
use Rattle.bbr_state.specs.declared.state.Mode.TheVariants.{Startup, Drain, ProbeBw, ProbeRtt}
use Rattle.bbr.specs.Sound.{Limited, Held, held_least}

wide : (b : Bool) (w x m : ℕ) → m ≤ w → m ≤ cond b w (max x m)
wide true w x m h = h
wide false w x m h = omega arith

set_up : (b : Bool) (x y least : ℕ) → 4800 ≤ least → 4800 ≤ cond b (max least x) (max y least)
set_up true x y least h = omega arith
set_up false x y least h = omega arith

held : (q : RecoveryState) (w n k mtu least acked flight : ℕ) → 4800 ≤ least → held_least q ≤ window_after (record { recovery_state = q; recovery_window = w; lost_bytes = n; end_recovery_at_packet_number = k }) mtu least acked flight
held NotInRecovery w n k mtu least acked flight h = omega arith
held Conservation w n k mtu least acked flight h = set_up (w == 0) _ _ least h
held Growth w n k mtu least acked flight h = set_up (w == 0) _ _ least h

abbrev pub Sound : BbrState → Type 0
Sound s = (x : Limited s.limits) × ((s.limits.min_cwnd ≤ s.flow.cwnd) × (Held s.recovery × Unit {0}))

pub end_keeps : {M : Type 0} (next : M → ℕ) (after : M → M) (s : BbrState) (m : M) (t flight : ℕ) (b : Bool) (o : Option ℕ) → Limited s.limits → s.limits.min_cwnd ≤ s.flow.cwnd → Sound (ended next after s m t flight b o)
end_keeps next after s m t flight b o l w =
    let large : 4800 ≤ s.limits.min_cwnd = omega arith in
    (l, (wide _ s.flow.cwnd _ s.limits.min_cwnd w, (held _ _ _ 0 _ _ _ _ large, tt)))

-- The window is at least three datagrams.
floor : (m : Mode) (q : RecoveryState) (mtu probe w r : ℕ) → mtu ≤ 1500 → 4 * mtu ≤ probe → 4 * mtu ≤ w → held_least q ≤ r → 3 * mtu ≤ window_in m q probe w r
floor Startup q mtu probe w r a b c d = omega arith
floor Drain NotInRecovery mtu probe w r a b c d = omega arith
floor Drain Conservation mtu probe w r a b c d = omega arith
floor Drain Growth mtu probe w r a b c d = omega arith
floor ProbeBw NotInRecovery mtu probe w r a b c d = omega arith
floor ProbeBw Conservation mtu probe w r a b c d = omega arith
floor ProbeBw Growth mtu probe w r a b c d = omega arith
floor ProbeRtt q mtu probe w r a b c d = omega arith

pub wide_enough : (s : BbrState) → Limited s.limits → s.limits.min_cwnd ≤ s.flow.cwnd → Held s.recovery → 3 * s.limits.current_mtu ≤ window_of s
wide_enough s l w h =
    let probe : s.limits.min_cwnd ≤ probe_target s = wide (scaled s reduced_gain == 0) s.limits.init_cwnd (scaled s reduced_gain) s.limits.min_cwnd (omega arith) in
    floor s.phase.mode s.recovery.recovery_state s.limits.current_mtu (probe_target s) s.flow.cwnd s.recovery.recovery_window (omega arith) (omega arith) (omega arith) h
