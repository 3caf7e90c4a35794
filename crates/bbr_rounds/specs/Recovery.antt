-- Recovery from losses. Assumes nothing.
--
-- The first loss begins recovery, in conservation, and a round with it: the round's end becomes the greatest number sent. With the next round
-- conservation turns into growth. Every loss puts the end of recovery at the greatest number sent; a batch without a loss that acknowledges
-- more than that ends it.
--
-- The window in recovery starts, with the batch that begins it, at what is in flight and was acknowledged. After that it loses what was lost
-- (where it is less than that, it becomes a datagram) and gains in growth what was acknowledged. It is never less than what is in flight
-- and was acknowledged, nor than the smallest window.
use Rattle.std.specs.Prelude.{ℕ, ◌-◌, max, Bool, true, false, cond, not, ◌&&◌, ◌==◌, nat_le, nat_lt}
use Rattle.values.specs.Saturating.{sum}
use Rattle.bbr_rounds.specs.declared.recovery.Recovery.{Recovery}
use Rattle.bbr_rounds.specs.declared.recovery.RecoveryState.{RecoveryState}
use Rattle.bbr_rounds.specs.declared.recovery.RecoveryState.TheVariants.{NotInRecovery, Conservation, Growth}
use Rattle.bbr_rounds.specs.declared.rounds.Rounds.{Rounds}

abbrev pub unharmed : Recovery
unharmed = record { recovery_state = NotInRecovery; recovery_window = 0; lost_bytes = 0; end_recovery_at_packet_number = 0 }

abbrev pub is_in : RecoveryState → Bool
is_in NotInRecovery = false
is_in Conservation = true
is_in Growth = true

abbrev pub is_lossy : Recovery → Bool
is_lossy r = not (r.lost_bytes == 0)

-- The next state, by losses, the start of a round, and whether an ack is past the end of recovery.
abbrev pub next_state : RecoveryState → Bool → Bool → Bool → RecoveryState
next_state NotInRecovery lost starts past = cond lost Conservation NotInRecovery
next_state Conservation lost starts past = cond (not lost && past) NotInRecovery (cond starts Growth Conservation)
next_state Growth lost starts past = cond (not lost && past) NotInRecovery Growth

-- the first loss
abbrev pub is_entered : RecoveryState → Bool → Bool
is_entered NotInRecovery lost = lost
is_entered Conservation lost = false
is_entered Growth lost = false

abbrev pub end_at : Recovery → Rounds → ℕ
end_at r n = cond (is_lossy r) n.max_sent_packet_number r.end_recovery_at_packet_number

-- where recovery begins the window is 0 until the batch's acks are counted
abbrev pub recovered : Recovery → Rounds → Bool → Recovery
recovered r n starts =
    record r {
      recovery_state = next_state r.recovery_state (is_lossy r) starts (nat_lt (end_at r n) n.max_acked_packet_number);
      recovery_window = cond (is_entered r.recovery_state (is_lossy r)) 0 r.recovery_window;
      end_recovery_at_packet_number = end_at r n;
    }

abbrev pub extended : Recovery → Rounds → Rounds
extended r n =
    record n {
      current_round_trip_end_packet_number =
          cond (is_entered r.recovery_state (is_lossy r)) n.max_sent_packet_number n.current_round_trip_end_packet_number;
    }

-- the window without the bytes lost, or a datagram
abbrev pub spared : ℕ → ℕ → ℕ → ℕ
spared w lost mtu = cond (nat_le lost w) (w - lost) mtu

-- with the bytes acknowledged, in growth
abbrev pub released : RecoveryState → ℕ → ℕ → ℕ
released NotInRecovery acked w = w
released Conservation acked w = w
released Growth acked w = sum w acked

-- the window, given the smallest window and the bytes in flight
abbrev pub window_after : Recovery → ℕ → ℕ → ℕ → ℕ → ℕ
window_after r mtu least acked flight =
    cond (is_in r.recovery_state)
    (cond (r.recovery_window == 0) (max least (sum flight acked))
    (max (max (released r.recovery_state acked (spared r.recovery_window r.lost_bytes mtu)) (sum flight acked)) least))
    r.recovery_window

abbrev pub resized : Recovery → ℕ → ℕ → ℕ → ℕ → Recovery
resized r mtu least acked flight = record r { recovery_window = window_after r mtu least acked flight }

-- more bytes lost
abbrev pub losing : Recovery → ℕ → Recovery
losing r n = record r { lost_bytes = n }
