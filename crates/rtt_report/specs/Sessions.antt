-- A replay of measurements, line by line. Assumes nothing.
--
-- Each line is skipped, unreadable, or a sample, and a sample is taken or refused; the replay counts each of the four.
-- The place of a sample is the number of samples before it; lines count from 1. Counts stop at 2^64 - 1.
use Rattle.std.specs.Prelude.{ℕ, Bool, cond, ◌&&◌, Some, None, Ok, Err, Option, Result, nat_le}
use Rattle.values.specs.Saturating.{sum}
use Rattle.refusals.specs.declared.Layer.TheVariants.{Estimator}
use Rattle.refusals.specs.declared.Refusal.TheVariants.{OutsideLimit}
use Rattle.rtt.specs.Estimates.{Estimate, estimate_of, opened, updated, best, probe_timeout}
use Rattle.measurements.specs.declared.line.LineFault.{LineFault}
use Rattle.measurements.specs.declared.line.Measurement.{Measurement}
use Rattle.rtt_report.specs.declared.session.StepError.{StepError}
use Rattle.rtt_report.specs.declared.session.StepError.TheVariants.{Refused, Unreadable}
use Rattle.rtt_report.specs.declared.session.Session.{Session}
use Rattle.rtt_report.specs.declared.session.Taken.{Taken}

pub record Progress : Type 0 where
  pub estimate : Estimate
  pub taken : ℕ
  pub refused : ℕ
  pub unreadable : ℕ
  pub skipped : ℕ

abbrev pub progress_of : Session → Progress
progress_of s =
    record { estimate = estimate_of s.estimator; taken = s.taken; refused = s.refused; unreadable = s.unreadable; skipped = s.skipped }

abbrev pub started : ℕ → Progress
started initial = record { estimate = opened initial; taken = 0; refused = 0; unreadable = 0; skipped = 0 }

abbrev pub place_in : Progress → ℕ
place_in p = sum p.taken p.refused

abbrev pub line_number : Progress → ℕ
line_number p = sum (sum (sum (place_in p) p.unreadable) p.skipped) 1

-- within the limits of a round-trip time
abbrev pub is_taken : ℕ → Bool
is_taken r = nat_le 1000 r && nat_le r 10000000000

abbrev pub told : ℕ → Estimate → Taken
told place e =
    record { place = place; smoothed = best e; variation = e.variation; minimum = e.minimum; pto_base = probe_timeout e }

abbrev pub sampled : Progress → Measurement → Result Taken StepError
sampled p m =
    cond (is_taken m.rtt) (Ok (told (place_in p) (updated p.estimate m.ack_delay m.rtt)))
    (Err (Refused (place_in p) (OutsideLimit Estimator)))

abbrev pub after_sample : Progress → Measurement → Progress
after_sample p m =
    cond (is_taken m.rtt) (record p { estimate = updated p.estimate m.ack_delay m.rtt; taken = sum p.taken 1 })
    (record p { refused = sum p.refused 1 })

-- a sample that is taken is what the line came to
abbrev pub given : Result Taken StepError → Result (Option Taken) StepError
given (Ok t) = Ok (Some t)
given (Err why) = Err why

abbrev pub outcome : Progress → Result (Option Measurement) LineFault → Result (Option Taken) StepError
outcome p (Ok None) = Ok None
outcome p (Ok (Some m)) = given (sampled p m)
outcome p (Err why) = Err (Unreadable (line_number p) why)

abbrev pub next : Progress → Result (Option Measurement) LineFault → Progress
next p (Ok None) = record p { skipped = sum p.skipped 1 }
next p (Ok (Some m)) = after_sample p m
next p (Err why) = record p { unreadable = sum p.unreadable 1 }
