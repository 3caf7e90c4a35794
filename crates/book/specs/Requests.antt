-- A path's answer to a request, and its state then, by the definitions of its calls. Assumes nothing.
use Rattle.std.specs.Prelude.{ℕ, Some, None, Ok, Err, Option}
use Rattle.refusals.specs.declared.Refusal.TheVariants.{NotHeld}
use Rattle.congestion.specs.Rules.{Rules}
use Rattle.cells.specs.Tables.{Checked, is_held, landing, in_time}
use Rattle.cells.specs.declared.table.Datagram.{Datagram}
use Rattle.cells.specs.declared.table.Label.{Label}
use Rattle.path.specs.Paths.{PathState, pace, grant_answer, grant_state, answered, transmit_state, withdrawn, acknowledged, ended, lost, resized}
use Rattle.path.specs.declared.permit.Permit.{Permit}
use Rattle.book.specs.declared.call.Accepted.TheVariants.{Granted, Done}
use Rattle.book.specs.declared.call.Event.{Event}
use Rattle.book.specs.declared.call.Event.TheVariants.{Ack, End, Lose, SetMtu}
use Rattle.book.specs.declared.call.Request.{Request}
use Rattle.book.specs.declared.call.Request.TheVariants.{Grant, Transmit, Withdraw, Tell}
use Rattle.book.specs.Book.{Answer, widened, said}

-- what the pacer answers to a grant; other requests do not ask it
abbrev pub pace_for : {M : Type 0} → Rules M → PathState M → Option Request → Option ℕ
pace_for r s None = None
pace_for r s (Some (Grant size time)) = pace r s size time
pace_for r s (Some (Transmit l)) = None
pace_for r s (Some (Withdraw l)) = None
pace_for r s (Some (Tell event)) = None

abbrev pub said_permit : Checked Permit → Answer
said_permit (Ok p) = Ok (Granted p.label)
said_permit (Err e) = Err (widened e)

abbrev pub said_held : Label → Option Datagram → Answer
said_held l (Some d) = Ok Done
said_held l None = Err (NotHeld l)

abbrev pub event_answer : {M : Type 0} → PathState M → Event → Checked (Unit {0})
event_answer s (Ack n delay limited time) = answered (landing s.table n time)
event_answer s (End limited time) = in_time s.table time
event_answer s (Lose n persistent time) = answered (landing s.table n time)
event_answer s (SetMtu mtu) = Ok tt

abbrev pub answer : {M : Type 0} → Rules M → PathState M → Option Request → Option Answer
answer r s None = None
answer r s (Some (Grant size time)) = Some (said_permit (grant_answer r s size time))
answer r s (Some (Transmit l)) = Some (said_held l (is_held s.table l))
answer r s (Some (Withdraw l)) = Some (said_held l (is_held s.table l))
answer r s (Some (Tell event)) = Some (said (event_answer s event))

abbrev pub event_after : {M : Type 0} → Rules M → PathState M → Event → PathState M
event_after r s (Ack n delay limited time) = acknowledged r s n delay limited time (landing s.table n time)
event_after r s (End limited time) = ended r s limited time (in_time s.table time)
event_after r s (Lose n persistent time) = lost r s n persistent time (landing s.table n time)
event_after r s (SetMtu mtu) = resized r s mtu

abbrev pub after : {M : Type 0} → Rules M → PathState M → Option Request → PathState M
after r s None = s
after r s (Some (Grant size time)) = grant_state r s size time
after r s (Some (Transmit l)) = transmit_state r s l
after r s (Some (Withdraw l)) = withdrawn s l
after r s (Some (Tell event)) = event_after r s event
