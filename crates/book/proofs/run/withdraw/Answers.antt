use Rattle.std.proofs.Common.{Some, sym, ap, ◌∙◌}
use Rattle.book.specs.Settings.{settled, restored}
use Rattle.book.proofs.Purses.{withdrawn, performed}
use Rattle.book.proofs.run.withdraw.Goals as goal

pub returns : goal.returns
returns g c =
    let r = g.C.Controller.rules in
    let out = c.in_ok-permit.ensures in
    let told = c.withdraw-answer.ensures in
    performed r _ _ _ _ _ _ _ _
    (withdrawn r _ c.args.place c.in_ok-permit.permit (sym out.permit))
    (ap Some (c.settle.ensures.answer ∙ (λ j. settled (c.label-presented.ensures j) (told.answer j))))
    told.state
    (c.settle.ensures.purse ∙ (λ j. restored (out.purse j) c.args.place (told.answer j)))
