use Rattle.std.proofs.Common.{◌≡◌, ◌<◌, ◌≤◌, length, arith}
use Rattle.path.specs.Paths.{state_of, opened}
use Rattle.book.specs.Book as book
use Rattle.book.specs.Settings.{Setting}
use Rattle.book.proofs.Backing.{empty_backed}
use Rattle.book.proofs.Lists.{begun}
use Rattle.book.proofs.Requests.{Lawful}
use Rattle.book.proofs.Runs.{begin, turn, finish}
use Rattle.book.proofs.run.run.Goals as goal

pub loop-step-init : goal.loop-step-init
loop-step-init g c = begin g.C.Controller.rules g.C.Controller.FLOOR _ _

pub loop-step-preserved : goal.loop-step-preserved
loop-step-preserved g c =
    let inside : c.loop-step.step-index < length c.loop-step.steps = omega arith in
    let made = c.call.ensures in
    turn g.C.Controller.rules g.C.Controller.FLOOR _ _ c.loop-step.steps c.loop-step.step-index _ c.step-item.result c.call.result _ inside c.loop-step-test.true made.step made.setting made.stands c.loop-step.auto.purse made.backed c.loop-step.invariant

pub returns : goal.returns
returns g c =
    let m = g.C.Controller in
    let met = g.met.C.Controller in
    let law : Lawful m.rules = record { sends = met.sends; acks = met.acks; ends = met.ends; loses = met.loses; resizes = met.resizes } in
    let steps = c.args.steps.now in
    let x : Setting m.Model = record { path = state_of m.model c.new-path.result; purse = c.args.purse.now } in
    let x₀ : Setting m.Model = record { path = opened m.rules (m.model c.args.controller) c.args.opening; purse = c.args.purse.now } in
    let same : x ≡ x₀ = λ j. record { path = c.new-path.ensures j; purse = c.args.purse.now } in
    let all : length c.loop-step.steps ≤ c.loop-step.step-index = omega arith in
    let all' : length steps ≤ c.loop-step.step-index = omega arith in
    let done = finish m.rules m.FLOOR x steps c.loop-step.steps c.loop-step.step-index _ x₀ same all all' c.loop-step.invariant in
    record {
      log = done.0;
      last = done.1;
      stands = λ modest. done.2 (book.opened c.args.opening) (m.rules.meaning (m.model c.args.controller)) modest (begun m.rules law m.FLOOR (m.model c.args.controller) c.args.opening);
      backed = λ one none. c.loop-step.invariant.backed one (empty_backed x.path.table x.purse none);
    }
