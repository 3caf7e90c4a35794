use Rattle.std.proofs.Common.{◌≡◌, sym, ap, ◌∙◌, subst}
use Rattle.path.specs.Paths.{state_of}
use Rattle.book.specs.declared.call.Step.{Step}
use Rattle.book.specs.Requests.{pace_for}
use Rattle.book.specs.Settings.{Setting, noted, Backed}
use Rattle.book.proofs.Backing.{next_backed}
use Rattle.book.proofs.Requests.{Lawful}
use Rattle.book.proofs.Lists.{added}
use Rattle.book.proofs.run.call.Goals as goal

pub returns : goal.returns
returns g c =
    let m = g.C.Controller in
    let met = g.met.C.Controller in
    let r = m.rules in
    let law : Lawful r = record { sends = met.sends; acks = met.acks; ends = met.ends; loses = met.loses; resizes = met.resizes } in
    let path = c.args.path.now in
    let x : Setting m.Model = record { path = state_of m.model path; purse = c.args.purse.now } in
    let done = c.perform-answer.ensures in
    let after = c.perform-answer.new.path in
    let asked = c.request-request.ensures in
    let made : Step = record { call = c.args.call; request = c.request-request.result; window = c.window-window.result; pace = c.pace-pace.result; answer = c.perform-answer.result } in
    let step : made ≡ noted r x c.args.call = λ j. record {
      call = c.args.call;
      request = asked j;
      window = c.window-window.ensures j;
      pace = (c.pace-pace.ensures ∙ ap (pace_for r x.path) asked) j;
      answer = done.answer_is j;
    } in
    record {
      step = step;
      setting = done.setting_is;
      stands = λ k start steps modest old. added r law m.FLOOR k start modest steps x c.args.call _ _ step (ap (λ z. z.path) done.setting_is) (path.tracker.summed, path.tracker.bounded) after.tracker.bounded.1 met.small.0 (met.wide path.controller) old;
      backed = λ one old. subst (λ z. Backed z.path.table z.purse) (sym done.setting_is) (next_backed r x one (path.tracker.summed, path.tracker.bounded) old c.args.call);
    }
