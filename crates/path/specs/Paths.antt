-- What a path holds, and what each call answers and leaves. Assumes nothing.
--
-- Making a path tells the controller the MTU, and then makes the pacer from the initial round_trip time, the controller's window and the
-- start. A grant that passed the table's checks asks the pacer: where that answers a time, the grant is refused 8 with it, and the time of
-- the call becomes the latest; otherwise the next number is held. Either way the pacer is left as its `delay` leaves it. Transmit tells
-- the controller, with the time of the grant, and the pacer; withdraw tells nobody; both hand back a permit that is not held (9). An ack
-- shows a round trip where its number is above all that were acknowledged before: the time since the grant, brought within 1,000 and
-- 10^10, goes to the estimator with the reported delay, and with the number to the filter under the present round; then the controller is
-- told. An end tells it the bytes in flight and the greatest number acknowledged, and a round is over. A loss tells it the time of the
-- grant and the size. Every refusal but 8 leaves all as it was.
--
-- The rules that are passed in are those of the controller.
use Rattle.std.specs.Prelude.{ℕ, ◌-◌, ◌^◌, ◌<◌, Bool, true, cond, Some, None, Ok, Err, Option, Result, nat_lt}
use Rattle.std.proofs.Common.{arith}
use Rattle.refusals.specs.declared.Refusal.{Refusal}
use Rattle.refusals.specs.declared.Refusal.TheVariants.{Paced, NotHeld}
use Rattle.values.specs.Limits.{clamped}
use Rattle.values.specs.Saturating.{sum}
use Rattle.values.specs.declared.mtu.Mtu.{Mtu}
use Rattle.values.specs.declared.opening.Opening.{Opening}
use Rattle.rtt.specs.Estimates.{Estimate, estimate_of, best}
use Rattle.rtt.specs.Estimates as estimates
use Rattle.filter.specs.Filter.{fresh}
use Rattle.filter.specs.Filter as filter
use Rattle.filter.specs.RttOrder.{no_faster, slowest}
use Rattle.filter.specs.declared.min_max.MinMax.{MinMax}
use Rattle.filter.specs.declared.rtt_sample.RttSample.{RttSample}
use Rattle.pacing.specs.Pacing.{told, delayed, sent}
use Rattle.pacing.specs.Pacing as pacing
use Rattle.pacing.specs.Buckets.{Bucket}
use Rattle.congestion.specs.Rules.{Rules}
use Rattle.cells.specs.Tables.{Checked, admitted, is_held, with_held, at_time, with_mtu, transmitted_if}
use Rattle.cells.specs.Tables as tables
use Rattle.cells.specs.declared.table.CellTable.{CellTable}
use Rattle.cells.specs.declared.table.Datagram.{Datagram}
use Rattle.cells.specs.declared.table.Label.{Label}
use Rattle.path.specs.declared.path.Path.{Path}
use Rattle.path.specs.declared.permit.Permit.{Permit}
use Rattle.path.specs.declared.report.Report.{Report}

-- M is what the controller means by its state
pub record PathState (M : Type 0) : Type 0 where
  pub table : CellTable
  pub controller : M
  pub estimate : Estimate
  pub fastest : MinMax RttSample
  pub pacer : Bucket
  pub largest : Option ℕ
  pub round : ℕ

abbrev pub state_of : {C M : Type 0} → (C → M) → Path C → PathState M
state_of model p =
    record {
      table = p.tracker.table;
      controller = model p.controller;
      estimate = estimate_of p.rtt;
      fastest = p.rtt_filter;
      pacer = p.pacer;
      largest = p.largest_acked;
      round = p.round;
    }

-- a new path
abbrev pub opened : {M : Type 0} → Rules M → M → Opening → PathState M
opened r m o =
    record {
      table = tables.opened o.first_number o.mtu o.start;
      controller = r.resizes m o.mtu.value;
      estimate = estimates.opened o.initial_rtt.nanos;
      fastest = fresh slowest;
      pacer = pacing.opened o.initial_rtt.nanos (r.meaning (r.resizes m o.mtu.value)).window o.mtu.value o.start;
      largest = None;
      round = 0;
    }

abbrev pub window_of : {M : Type 0} → Rules M → PathState M → ℕ
window_of r s = (r.meaning s.controller).window

-- a table, a controller and a pacer in place of those
abbrev pub with_parts : {M : Type 0} → PathState M → CellTable → M → Bucket → PathState M
with_parts s table controller pacer = record s { table = table; controller = controller; pacer = pacer }

abbrev pub answer_of : Checked (Option ℕ) → Option ℕ
answer_of (Ok wait) = wait
answer_of (Err e) = None

-- what the pacer's `delay` answers to a grant, and what it leaves
abbrev pub pace : {M : Type 0} → Rules M → PathState M → ℕ → ℕ → Option ℕ
pace r s size time = answer_of (told s.pacer (best s.estimate) size s.table.mtu.value (window_of r s) time)

abbrev pub paced : {M : Type 0} → Rules M → PathState M → ℕ → ℕ → Bucket
paced r s size time = delayed s.pacer (best s.estimate) size s.table.mtu.value (window_of r s) time

-- the answer to a grant, by the table's checks and the pacer's answer, and the state then
abbrev pub permitted : ℕ → ℕ → Checked (Unit {0}) → Option ℕ → Checked Permit
permitted number size (Ok u) None = Ok (record { label = record { number = number; size = size } })
permitted number size (Ok u) (Some ready) = Err (Paced ready)
permitted number size (Err e) wait = Err e

abbrev pub granted : {M : Type 0} → Rules M → PathState M → ℕ → ℕ → Checked (Unit {0}) → Option ℕ → PathState M
granted r s size time (Ok u) None = with_parts s (with_held s.table size time) s.controller (paced r s size time)
granted r s size time (Ok u) (Some ready) = with_parts s (at_time s.table time) s.controller (paced r s size time)
granted r s size time (Err e) wait = s

abbrev pub grant_answer : {M : Type 0} → Rules M → PathState M → ℕ → ℕ → Checked Permit
grant_answer r s size time =
    permitted s.table.next size (admitted s.table size time (window_of r s)) (pace r s size time)

abbrev pub grant_state : {M : Type 0} → Rules M → PathState M → ℕ → ℕ → PathState M
grant_state r s size time =
    granted r s size time (admitted s.table size time (window_of r s)) (pace r s size time)

-- the answer to a permit, by the datagram that is held as it says
abbrev pub presented : Permit → Option Datagram → Result (Unit {0}) (Refusal Permit)
presented permit (Some d) = Ok tt
presented permit None = Err (NotHeld permit)

abbrev pub transmitted : {M : Type 0} → Rules M → PathState M → Label → Option Datagram → PathState M
transmitted r s l (Some d) =
    with_parts s (transmitted_if s.table l (Some d)) (r.sends s.controller d.time d.size d.number) (sent s.pacer d.size)
transmitted r s l None = s

abbrev pub transmit_state : {M : Type 0} → Rules M → PathState M → Label → PathState M
transmit_state r s l = transmitted r s l (is_held s.table l)

abbrev pub withdrawn : {M : Type 0} → PathState M → Label → PathState M
withdrawn s l = with_parts s (tables.withdrawn s.table l) s.controller s.pacer

-- the answer to an ack or a loss
abbrev pub answered : Checked Datagram → Checked (Unit {0})
answered (Ok d) = Ok tt
answered (Err e) = Err e

-- above all numbers acknowledged before
abbrev pub is_newest : Option ℕ → ℕ → Bool
is_newest None n = true
is_newest (Some largest) n = nat_lt largest n

-- the round trip of a datagram, brought within the limits
abbrev pub round_trip : Datagram → ℕ → ℕ
round_trip d time = clamped (time - d.time)

pub within : (n : ℕ) → clamped n < 2 ^ 64
within n = omega arith

abbrev pub sample : Datagram → ℕ → RttSample
sample d time = record { rtt = round_trip d time; number = d.number; fits = within (time - d.time) }

abbrev pub sampled_if : {M : Type 0} → Bool → PathState M → Datagram → ℕ → ℕ → PathState M
sampled_if newest s d delay time =
    record s {
      estimate = cond newest (estimates.updated s.estimate delay (round_trip d time)) s.estimate;
      fastest = cond newest (filter.updated no_faster slowest s.fastest s.round (sample d time)) s.fastest;
      largest = cond newest (Some d.number) s.largest;
    }

abbrev pub sampled : {M : Type 0} → PathState M → Datagram → ℕ → ℕ → PathState M
sampled s d delay time = sampled_if (is_newest s.largest d.number) s d delay time

-- the table is this one, and the controller is told of the bytes with the estimate that there is then
abbrev pub told_ack : {M : Type 0} → Rules M → PathState M → CellTable → Datagram → Bool → ℕ → PathState M
told_ack r s table d limited time =
    with_parts s table (r.acks s.controller time d.time d.size limited s.estimate) s.pacer

abbrev pub acknowledged : {M : Type 0} → Rules M → PathState M → ℕ → ℕ → Bool → ℕ → Checked Datagram → PathState M
acknowledged r s n delay limited time (Ok d) =
    told_ack r (sampled s d delay time) (tables.acknowledged s.table n time) d limited time
acknowledged r s n delay limited time (Err e) = s

abbrev pub ended : {M : Type 0} → Rules M → PathState M → Bool → ℕ → Checked (Unit {0}) → PathState M
ended r s limited time (Ok u) =
    record s {
      table = at_time s.table time;
      controller = r.ends s.controller time s.table.in_flight_bytes limited s.largest;
      round = sum s.round 1;
    }
ended r s limited time (Err e) = s

abbrev pub lost : {M : Type 0} → Rules M → PathState M → ℕ → Bool → ℕ → Checked Datagram → PathState M
lost r s n persistent time (Ok d) =
    with_parts s (tables.lost s.table n time) (r.loses s.controller time d.time persistent d.size) s.pacer
lost r s n persistent time (Err e) = s

abbrev pub resized : {M : Type 0} → Rules M → PathState M → Mtu → PathState M
resized r s mtu = with_parts s (with_mtu s.table mtu) (r.resizes s.controller mtu.value) s.pacer

-- the numbers handed out are those from the first to the next
abbrev pub reported : {M : Type 0} → PathState M → Report
reported s =
    record { handed_out = s.table.next - s.table.first; counts = s.table.counts; fastest = s.fastest.first }
