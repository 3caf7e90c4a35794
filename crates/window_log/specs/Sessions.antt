-- A log in replay, event by event, through any controller. Assumes nothing.
--
-- The estimator starts from an initial round-trip time, and takes the sample of an acknowledgement before the controller is told. Packets
-- are numbered from 0 in the log's order; what was sent is in flight until it is acknowledged or lost.
use Rattle.std.specs.Prelude.{ℕ, cond, List, Some, None, Ok, Err, Option, Result}
use Rattle.rtt.specs.Estimates as estimates
use Rattle.rtt.specs.Estimates.{Estimate, estimate_of}
use Rattle.std.specs.declared.convert.Infallible.{Infallible as NoPermit}
use Rattle.refusals.specs.declared.Refusal.{Refusal}
use Rattle.congestion.specs.Rules.{Rules}
use Rattle.measurements.specs.Lines.{is_skipped}
use Rattle.window_log.specs.Events.{event_in}
use Rattle.window_log.specs.Replays.{told, answer, sampled, packets_after, flight_after}
use Rattle.window_log.specs.declared.event.Event.{Event}
use Rattle.window_log.specs.declared.event.Fault.{Fault}
use Rattle.window_log.specs.declared.session.Session.{Session}
use Rattle.window_log.specs.declared.session.Standing.{Standing}
use Rattle.window_log.specs.declared.session.StepError.{StepError}
use Rattle.window_log.specs.declared.session.StepError.TheVariants.{Refused, Unreadable}

-- M is what the controller means by its state
pub record Progress (M : Type 0) : Type 0 where
  pub controller : M
  pub estimate : Estimate
  pub packets : ℕ
  pub in_flight : ℕ

abbrev pub progress_of : {C M : Type 0} → (C → M) → Session C → Progress M
progress_of model s =
    record { controller = model s.controller; estimate = estimate_of s.estimator; packets = s.packets; in_flight = s.in_flight }

abbrev pub started : {M : Type 0} → M → ℕ → Progress M
started c initial = record { controller = c; estimate = estimates.opened initial; packets = 0; in_flight = 0 }

-- what a controller says of itself: its window, and its threshold where it has one
abbrev pub standing : {M : Type 0} → Rules M → M → Standing
standing rules x =
    record { window = (rules.metrics x).congestion_window; threshold = (rules.metrics x).ssthresh }

abbrev pub next : {M : Type 0} → Rules M → Progress M → Event → Progress M
next rules p event =
    record {
      controller = told rules p.controller event p.packets p.in_flight (sampled p.estimate event);
      estimate = sampled p.estimate event;
      packets = packets_after p.packets event;
      in_flight = flight_after p.in_flight event;
    }

-- what became of an event that led to x
abbrev pub outcome_in : {M : Type 0} → Rules M → Result Unit (Refusal NoPermit) → M → Result Standing (Refusal NoPermit)
outcome_in rules (Ok _) x = Ok (standing rules x)
outcome_in rules (Err why) x = Err why

abbrev pub outcome : {M : Type 0} → Rules M → Progress M → Event → Result Standing (Refusal NoPermit)
outcome rules p event = outcome_in rules (answer event) (next rules p event).controller

-- what a line comes to that tells this
abbrev pub taken : Result Standing (Refusal NoPermit) → Result (Option Standing) StepError
taken (Ok x) = Ok (Some x)
taken (Err why) = Err (Refused why)

abbrev pub said : {M : Type 0} → Rules M → Progress M → Result Event Fault → Result (Option Standing) StepError
said rules p (Ok event) = taken (outcome rules p event)
said rules p (Err why) = Err (Unreadable why)

abbrev pub after : {M : Type 0} → Rules M → Progress M → Result Event Fault → Progress M
after rules p (Ok event) = next rules p event
after rules p (Err _) = p

abbrev pub line_outcome : {M : Type 0} → Rules M → Progress M → List ℕ → Result (Option Standing) StepError
line_outcome rules p line = cond (is_skipped line) (Ok None) (said rules p (event_in line))

abbrev pub line_after : {M : Type 0} → Rules M → Progress M → List ℕ → Progress M
line_after rules p line = cond (is_skipped line) p (after rules p (event_in line))
