-- What holds of every BBR between two calls. Assumes nothing.
use Rattle.std.specs.Prelude.{◌≡◌, ℕ, ◌*◌, ◌≤◌}
use Rattle.bbr_rounds.specs.declared.recovery.Recovery.{Recovery}
use Rattle.bbr_rounds.specs.declared.recovery.RecoveryState.{RecoveryState}
use Rattle.bbr_rounds.specs.declared.recovery.RecoveryState.TheVariants.{NotInRecovery, Conservation, Growth}
use Rattle.bbr_state.specs.declared.state.Limits.{Limits}

-- The MTU is within its limits, the smallest window is four datagrams, and the initial one is no less.
abbrev pub Limited : Limits → Type 0
Limited l =
    (1200 ≤ l.current_mtu) × (l.current_mtu ≤ 1500) × (l.min_cwnd ≡ 4 * l.current_mtu)
    × (6000 ≤ l.initial_window) × (l.min_cwnd ≤ l.init_cwnd)

-- The window in recovery is at least four of the smallest datagrams, 4,800: three of the largest, and no more, since it is
-- computed at the end of a batch, and the MTU may rise before the next.
abbrev pub held_least : RecoveryState → ℕ
held_least NotInRecovery = 0
held_least Conservation = 4800
held_least Growth = 4800

abbrev pub Held : Recovery → Type 0
Held r = held_least r.recovery_state ≤ r.recovery_window
