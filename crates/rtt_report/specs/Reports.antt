-- The report of a replay: for each sample that is taken, its place, the smoothed time, the variation, the minimum and
-- the base of the probe timeout, all in nanoseconds; for each that is refused, its place and the refusal; for each line
-- that is neither a sample nor skipped, its number and what is wrong with it; and in the end the counts. Assumes nothing.
use Rattle.std.specs.Prelude.{ℕ, List, [], ◌∷◌, ◌++◌, Some, None, Ok, Err, Option, Result, codes, decimal}
use Rattle.refusals.specs.Refusals.{refusal_text}
use Rattle.measurements.specs.Faults.{line_fault_text}
use Rattle.measurements.specs.Lines.{lines_in, line_in}
use Rattle.rtt_report.specs.Sessions.{Progress, started, outcome, next}
use Rattle.rtt_report.specs.declared.session.StepError.{StepError}
use Rattle.rtt_report.specs.declared.session.StepError.TheVariants.{Refused, Unreadable}
use Rattle.rtt_report.specs.declared.session.Taken.{Taken}

abbrev pub taken_text : Taken → List ℕ
taken_text t =
    decimal t.place ++ (codes " " ++ (decimal t.smoothed ++ (codes " " ++ (decimal t.variation ++ (codes " " ++ (decimal t.minimum ++ (codes " " ++ decimal t.pto_base)))))))

abbrev pub error_text : StepError → List ℕ
error_text (Refused place refusal) = decimal place ++ (codes " " ++ refusal_text refusal)
error_text (Unreadable line why) = codes "line " ++ (decimal line ++ (codes ": " ++ line_fault_text why))

-- what became of a line, if anything did, in a line of its own
abbrev pub row : Result (Option Taken) StepError → List ℕ
row (Ok None) = []
row (Ok (Some t)) = taken_text t ++ codes "\n"
row (Err why) = error_text why ++ codes "\n"

abbrev pub summary_text : Progress → List ℕ
summary_text p =
    codes "taken " ++ (decimal p.taken ++ (codes " refused " ++ (decimal p.refused ++ (codes " unreadable " ++ (decimal p.unreadable ++ codes "\n")))))

abbrev pub report_from : Progress → List (List ℕ) → List ℕ
report_from p [] = summary_text p
report_from p (line ∷ lines) = row (outcome p (line_in line)) ++ report_from (next p (line_in line)) lines

-- the report of an input, the initial round-trip time given
abbrev pub report_of : ℕ → List ℕ → List ℕ
report_of initial input = report_from (started initial) (lines_in input)
