-- The report of a replay: each line of the log, a colon, and the window and the threshold (or `none`) after it, or what is wrong with it. Blank lines and
-- those that begin with `#` are left out. A carriage return at the end of a line is not part of it. Assumes nothing.
use Rattle.std.specs.Prelude.{ℕ, List, [], ◌∷◌, ◌++◌, Some, None, Ok, Err, codes, decimal, Option, Result}
use Rattle.refusals.specs.Refusals.{refusal_text}
use Rattle.congestion.specs.Rules.{Rules}
use Rattle.measurements.specs.Faults.{number_fault_text}
use Rattle.measurements.specs.Lines.{lines_in, unreturned}
use Rattle.window_log.specs.Sessions.{Progress, started, line_outcome, line_after}
use Rattle.window_log.specs.declared.event.Fault.{Fault}
use Rattle.window_log.specs.declared.event.Fault.TheVariants.{Kind, Number, Flag}
use Rattle.window_log.specs.declared.event.Field.{Field}
use Rattle.window_log.specs.declared.event.Field.TheVariants.{Size, SentTime, Time}
use Rattle.window_log.specs.declared.session.Standing.{Standing}
use Rattle.window_log.specs.declared.session.StepError.{StepError}
use Rattle.window_log.specs.declared.session.StepError.TheVariants.{Refused, Unreadable}

abbrev pub field_text : Field → List ℕ
field_text Size = codes "SIZE"
field_text SentTime = codes "SENT"
field_text Time = codes "TIME"

abbrev pub fault_text : Fault → List ℕ
fault_text Kind = codes "no such event"
fault_text (Number field why) = field_text field ++ (codes " " ++ number_fault_text why)
fault_text Flag = codes "no such flag"

abbrev pub threshold_text : Option ℕ → List ℕ
threshold_text (Some n) = decimal n
threshold_text None = codes "none"

abbrev pub standing_text : Standing → List ℕ
standing_text x = decimal x.window ++ (codes " " ++ threshold_text x.threshold)

abbrev pub error_text : StepError → List ℕ
error_text (Refused why) = refusal_text why
error_text (Unreadable why) = fault_text why

-- a line and what became of it, if anything did
abbrev pub row : List ℕ → Result (Option Standing) StepError → List ℕ
row line (Ok None) = []
row line (Ok (Some x)) = line ++ (codes ": " ++ (standing_text x ++ codes "\n"))
row line (Err why) = line ++ (codes ": " ++ (error_text why ++ codes "\n"))

abbrev pub report_from : {M : Type 0} → Rules M → Progress M → List (List ℕ) → List ℕ
report_from rules p [] = []
report_from rules p (line ∷ lines) =
    row (unreturned line) (line_outcome rules p (unreturned line)) ++ report_from rules (line_after rules p (unreturned line)) lines

-- the report of a log through a controller in the state c, with an initial round-trip time
abbrev pub report_of : {M : Type 0} → Rules M → M → ℕ → List ℕ → List ℕ
report_of rules c initial log = report_from rules (started c initial) (lines_in log)
