use Rattle.path.specs.Paths.{state_of}
use Rattle.book.specs.Settings.{Setting}
use Rattle.book.proofs.Runs.{Progress}
use Rattle.book.proofs.run.run.Given as goal

abbrev pub invariant-loop-step : goal.invariant-loop-step
invariant-loop-step g l =
    let m = g.C.Controller in
    let x : Setting m.Model = record { path = state_of m.model l.initial.path; purse = l.initial.purse } in
    Progress m.rules m.FLOOR x l.initial.steps l.steps l.step-index (record { path = state_of m.model l.path; purse = l.purse })
