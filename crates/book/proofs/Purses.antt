-- Permits that are taken from a purse and go back. Assumes nothing.
use Rattle.std.proofs.Common.{arith, ◌≡◌, ℕ, get_or, set, Some, None, Option, sym, refl, ap, ◌∙◌, set-set}
use Rattle.std.specs.Option.{option_map}
use Rattle.std.proofs.lemmas.List.{set-get_or}
use Rattle.congestion.specs.Rules.{Rules}
use Rattle.cells.specs.Tables.{is_held}
use Rattle.cells.specs.declared.table.Datagram.{Datagram}
use Rattle.path.specs.Paths.{PathState}
use Rattle.path.specs.Paths as paths
use Rattle.path.specs.declared.permit.Permit.{Permit}
use Rattle.book.specs.declared.call.Call.{Call}
use Rattle.book.specs.declared.call.Call.TheVariants.{Transmit, Withdraw}
use Rattle.book.specs.declared.call.Request.{Request}
use Rattle.book.specs.declared.call.Request.TheVariants.{Transmit as Transmits, Withdraw as Withdraws}
use Rattle.book.specs.Book.{Answer}
use Rattle.book.specs.Requests.{said_held, answer, after}
use Rattle.book.specs.Settings.{Purse, request_of, spent, purse_after, settled, restored, Setting, Performed}

module _ {M : Type 0} (r : Rules M) (x : Setting M) (i : ℕ) (p : Permit) (is : get_or x.purse i None ≡ Some p) where
  -- what the path says of the permit
  abbrev here : Option Datagram
  here = is_held x.path.table p.label

  settled_is : (o : Option Datagram) → settled p.label (paths.presented p o) ≡ said_held p.label o
  settled_is o = grind arith

  restored_is : (o : Option Datagram) → restored (set x.purse i None) i (paths.presented p o) ≡ spent x.purse i (Some (said_held p.label o))
  restored_is (Some d) = refl
  restored_is None = grind (arith, set-set, set-get_or)

  -- either call that presents it
  done : (call : Call) (q : Request) → request_of x.purse call ≡ Some q → answer r x.path (Some q) ≡ Some (said_held p.label here) → ((a : Option Answer) → purse_after x.purse call a ≡ spent x.purse i a) → Performed r x call (Some (settled p.label (paths.presented p here))) (record { path = after r x.path (Some q); purse = restored (set x.purse i None) i (paths.presented p here) })
  done call q e said after_is =
      let a : Some (settled p.label (paths.presented p here)) ≡ answer r x.path (request_of x.purse call) = ap Some (settled_is here) ∙ sym said ∙ ap (answer r x.path) (sym e) in
      let back = restored_is here ∙ ap (spent x.purse i) (sym said ∙ ap (answer r x.path) (sym e)) ∙ sym (after_is (answer r x.path (request_of x.purse call))) in
      let on = ap (after r x.path) (sym e) in
      record { answer_is = a; setting_is = λ j. record { path = on j; purse = back j } }

  pub transmitted : Performed r x (Transmit i) (Some (settled p.label (paths.presented p here))) (record { path = paths.transmit_state r x.path p.label; purse = restored (set x.purse i None) i (paths.presented p here) })
  transmitted = done (Transmit i) (Transmits p.label) (ap (λ z. option_map Transmits (option_map (λ q. q.label) z)) is) refl (λ a. refl)

  pub withdrawn : Performed r x (Withdraw i) (Some (settled p.label (paths.presented p here))) (record { path = paths.withdrawn x.path p.label; purse = restored (set x.purse i None) i (paths.presented p here) })
  withdrawn = done (Withdraw i) (Withdraws p.label) (ap (λ z. option_map Withdraws (option_map (λ q. q.label) z)) is) refl (λ a. refl)

pub performed : {M : Type 0} (r : Rules M) (x : Setting M) (call : Call) (a a' : Option Answer) (s s' : PathState M) (q q' : Purse) → Performed r x call a (record { path = s; purse = q }) → a' ≡ a → s' ≡ s → q' ≡ q → Performed r x call a' (record { path = s'; purse = q' })
performed r x call a a' s s' q q' p e f h =
    record { answer_is = e ∙ p.answer_is; setting_is = (λ j. record { path = f j; purse = h j }) ∙ p.setting_is }
