use Rattle.std.proofs.Common.{◌≡◌, ◌++◌, vec_items}
use Rattle.window_log.specs.Reports.{report_from, report_of}
use Rattle.window_log.specs.Sessions.{progress_of}
use Rattle.window_log.proofs.report.replay.Given as goal

-- what is written and what is to come are the whole report
abbrev pub invariant-loop-line : goal.invariant-loop-line
invariant-loop-line g l = vec_items l.report ++ report_from g.C.Controller.rules (progress_of g.C.Controller.model l.session) l.line-iterator ≡ report_of g.C.Controller.rules (g.C.Controller.model l.fn.controller) l.fn.initial_rtt.nanos l.log
