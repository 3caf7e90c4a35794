use Rattle.std.proofs.Common.{◌≡◌, ◌++◌, string_bytes}
use Rattle.rtt_report.specs.Reports.{report_from, report_of}
use Rattle.rtt_report.specs.Sessions.{progress_of}
use Rattle.rtt_report.proofs.report.replay.Given as goal

-- what is written and what is to come are the whole report
abbrev pub invariant-loop-line : goal.invariant-loop-line
invariant-loop-line l = string_bytes l.text ++ report_from (progress_of l.session) l.line-iterator ≡ report_of l.fn.initial_rtt.nanos l.input
