-- What any controller is told by an event of a log, and what is answered. Assumes nothing.
--
-- A size that is no MTU, outside 1,200 to 1,500, is refused 1, layer value, and the controller is not told. The log says neither which
-- packet was acknowledged last nor, at the end of a batch, that the application was the limit. An acknowledgement gives the estimator a
-- sample: the time since the bytes were sent, brought within the limits of a round-trip time, with no ack delay.
use Rattle.std.specs.Prelude.{ℕ, ◌-◌, Bool, false, cond, ◌&&◌, None, Ok, Err, Result, nat_le}
use Rattle.values.specs.Limits.{clamped}
use Rattle.values.specs.Saturating.{sum}
use Rattle.rtt.specs.Estimates.{Estimate, updated}
use Rattle.refusals.specs.declared.Layer.TheVariants.{Value}
use Rattle.std.specs.declared.convert.Infallible.{Infallible as NoPermit}
use Rattle.refusals.specs.declared.Refusal.{Refusal}
use Rattle.refusals.specs.declared.Refusal.TheVariants.{OutsideLimit}
use Rattle.congestion.specs.Rules.{Rules}
use Rattle.window_log.specs.declared.event.Event.{Event}
use Rattle.window_log.specs.declared.event.Event.TheVariants.{Sent, Acked, Lost, End, Resized}

abbrev pub is_mtu : ℕ → Bool
is_mtu n = nat_le 1200 n && nat_le n 1500

-- what a controller's state x becomes, with the number of the next packet, the bytes in flight and the estimate
abbrev pub told : {M : Type 0} → Rules M → M → Event → ℕ → ℕ → Estimate → M
told rules x (Sent n t) k f e = rules.sends x t n k
told rules x (Acked p) k f e = rules.acks x p.time p.sent p.bytes p.flagged e
told rules x (Lost p) k f e = rules.loses x p.time p.sent p.flagged p.bytes
told rules x (End t) k f e = rules.ends x t f false None
told rules x (Resized n) k f e = cond (is_mtu n) (rules.resizes x n) x

abbrev pub answer : Event → Result Unit (Refusal NoPermit)
answer (Sent _ _) = Ok tt
answer (Acked _) = Ok tt
answer (Lost _) = Ok tt
answer (End _) = Ok tt
answer (Resized n) = cond (is_mtu n) (Ok tt) (Err (OutsideLimit Value))

abbrev pub sampled : Estimate → Event → Estimate
sampled e (Sent _ _) = e
sampled e (Acked p) = updated e 0 (clamped (p.time - p.sent))
sampled e (Lost _) = e
sampled e (End _) = e
sampled e (Resized _) = e

abbrev pub packets_after : ℕ → Event → ℕ
packets_after k (Sent _ _) = sum k 1
packets_after k (Acked _) = k
packets_after k (Lost _) = k
packets_after k (End _) = k
packets_after k (Resized _) = k

abbrev pub flight_after : ℕ → Event → ℕ
flight_after f (Sent n _) = sum f n
flight_after f (Acked p) = f - p.bytes
flight_after f (Lost p) = f - p.bytes
flight_after f (End _) = f
flight_after f (Resized _) = f
