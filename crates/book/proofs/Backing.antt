-- A purse of one place holds only what the path holds. Assumes nothing.
use Rattle.std.proofs.Common.{◌≡◌, ℕ, ◌%◌, ◌<◌, Bool, true, false, cond, not, ltb, length, get_or, set, is_some, Some, None, Ok, Err, Option, sym, refl, ap, ◌∙◌, subst, arith, get_or-set_other, get_or-set_same}
use Rattle.std.specs.Option.{option_map}
use Rattle.std.proofs.lemmas.List.{get_or_past}
use Rattle.std.proofs.lemmas.Bool.{both_ways, and_parts, ltb-true, not-true}
use Rattle.congestion.specs.Rules.{Rules}
use Rattle.cells.specs.Sound.{Sound}
use Rattle.cells.specs.Tables.{Checked, cell_of, is_held, IsHeld, held_as, with_held, landing, in_time, at_time, counted_if, one_acknowledged, one_lost, admitted}
use Rattle.cells.specs.declared.table.Cell.TheVariants.{Free, InFlight}
use Rattle.cells.specs.declared.table.CellTable.{CellTable}
use Rattle.cells.specs.declared.table.Counts.{Counts}
use Rattle.cells.specs.declared.table.Datagram.{Datagram}
use Rattle.cells.specs.declared.table.Label.{Label}
use Rattle.cells.proofs.Says.{landing_says, held_next}
use Rattle.path.specs.Paths.{PathState, window_of, pace, permitted}
use Rattle.path.specs.Paths as paths
use Rattle.path.specs.declared.permit.Permit.{Permit}
use Rattle.book.specs.declared.call.Call.{Call}
use Rattle.book.specs.declared.call.Call.TheVariants.{Grant, Transmit, Withdraw, Tell}
use Rattle.book.specs.declared.call.Event.{Event}
use Rattle.book.specs.declared.call.Event.TheVariants.{Ack, End, Lose, SetMtu}
use Rattle.book.specs.declared.call.Request.TheVariants.{Grant as Grants, Transmit as Transmits, Withdraw as Withdraws}
use Rattle.book.specs.Requests.{said_permit, said_held}
use Rattle.book.specs.Requests as requests
use Rattle.book.specs.Settings.{Purse, Setting, has_room, stored, spent, next, Backed}

-- an empty place backs anything
pub empty_backed : (b : CellTable) (purse : Purse) → get_or purse 0 None ≡ None → Backed b purse
empty_backed b purse e p h = cc

none_is : (o : Option Permit) → is_some o ≡ false → o ≡ None
none_is None h = refl
none_is (Some p) h = cc

-- a cell whose number comes to its end held nothing
held_apart : (b : CellTable) (n : ℕ) (l : Label) (d : Datagram) → cell_of b n ≡ InFlight d → IsHeld b l → l.number % 256 ≡ n % 256 → ⊥
held_apart b n l d was h e =
    let there : is_some (held_as (InFlight d) l) ≡ true = subst (λ z. is_some (held_as z l) ≡ true) (ap (λ z. get_or b.cells z Free) e ∙ was) h in
    both_ways _ refl there

landed_backed : (b : CellTable) (n time : ℕ) (count : Counts → Counts) (a : Checked Datagram) (purse : Purse) → landing b n time ≡ a → Backed b purse → Backed (counted_if b n time count a) purse
landed_backed b n time count (Err e) purse h ok = ok
landed_backed b n time count (Ok d) purse h ok = λ p is. grind (arith, get_or-set_other, landing_says b n time d h, ok p is)

module _ {M : Type 0} (r : Rules M) (x : Setting M) (one : length x.purse ≡ 1) (sound : Sound x.path.table) (ok : Backed x.path.table x.purse) where
  abbrev b : CellTable
  b = x.path.table

  end_backed : (limited : Bool) (time : ℕ) (a : Checked (Unit {0})) → Backed (paths.ended r x.path limited time a).table x.purse
  end_backed limited time (Ok u) = ok
  end_backed limited time (Err e) = ok

  ack_backed : (n delay : ℕ) (limited : Bool) (time : ℕ) (a : Checked Datagram) → landing b n time ≡ a → Backed (paths.acknowledged r x.path n delay limited time a).table x.purse
  ack_backed n delay limited time (Err e) h = ok
  ack_backed n delay limited time (Ok d) h = landed_backed b n time one_acknowledged (landing b n time) x.purse refl ok

  lose_backed : (n : ℕ) (persistent : Bool) (time : ℕ) (a : Checked Datagram) → landing b n time ≡ a → Backed (paths.lost r x.path n persistent time a).table x.purse
  lose_backed n persistent time (Err e) h = ok
  lose_backed n persistent time (Ok d) h = landed_backed b n time one_lost (landing b n time) x.purse refl ok

  event_backed : (event : Event) → Backed (requests.event_after r x.path event).table x.purse
  event_backed (SetMtu mtu) = ok
  event_backed (End limited time) = end_backed limited time (in_time b time)
  event_backed (Ack n delay limited time) = ack_backed n delay limited time (landing b n time) refl
  event_backed (Lose n persistent time) = lose_backed n persistent time (landing b n time) refl

  -- a grant into the empty place, by the table's checks and the pacer's answer
  granted_backed : (size time i : ℕ) (a : Checked (Unit {0})) (o : Option ℕ) → i ≡ 0 → get_or x.purse 0 None ≡ None → Backed (paths.granted r x.path size time a o).table (stored x.purse i (Some (said_permit (permitted b.next size a o))))
  granted_backed size time i (Err e) o z free = empty_backed b x.purse free
  granted_backed size time i (Ok u) (Some ready) z free = empty_backed (at_time b time) x.purse free
  granted_backed size time i (Ok u) None z free = λ p is.
      let new : Permit = record { label = record { number = b.next; size = size } } in
      let inside : 0 < length x.purse = omega arith in
      let there : get_or (set x.purse i (Some new)) 0 None ≡ Some new = ap (λ k. get_or (set x.purse k (Some new)) 0 None) z ∙ get_or-set_same x.purse 0 (Some new) None inside in
      let same : new ≡ p = let q : ◌≡◌ {A = Option Permit} (Some new) (Some p) = sym there ∙ is in cc in
      subst (λ q. IsHeld (with_held b size time) q.label) same (held_next b size time sound.0.0)

  -- only the first place has a permit or room for one
  first_place : (i : ℕ) (p : Permit) → get_or x.purse i None ≡ Some p → i ≡ 0
  first_place i p h = grind (arith, get_or_past)

  grant_backed : (size time i : ℕ) (h : Bool) → has_room x.purse i ≡ h → Backed (requests.after r x.path (cond h (Some (Grants size time)) None)).table (stored x.purse i (requests.answer r x.path (cond h (Some (Grants size time)) None)))
  grant_backed size time i false h = ok
  grant_backed size time i true h =
      let two = and_parts (ltb i (length x.purse)) (not (is_some (get_or x.purse i None))) h in
      let z : i ≡ 0 = let lt = ltb-true i (length x.purse) two.0 in omega arith in
      let free : get_or x.purse 0 None ≡ None = ap (λ k. get_or x.purse k None) (sym z) ∙ none_is _ (not-true _ two.1) in
      granted_backed size time i (admitted b size time (window_of r x.path)) (pace r x.path size time) z free

  -- a permit that is presented was held, so it is gone then
  spent_backed : (b' : CellTable) (i : ℕ) (p : Permit) (o : Option Datagram) → get_or x.purse i None ≡ Some p → is_held b p.label ≡ o → Backed b' (spent x.purse i (Some (said_held p.label o)))
  spent_backed b' i p None h e =
      let z = first_place i p h in
      let there : IsHeld b p.label = ok p (ap (λ k. get_or x.purse k None) (sym z) ∙ h) in
      absurd (both_ways _ (ap is_some e) there)
  spent_backed b' i p (Some d) h e =
      let z = first_place i p h in
      let inside : 0 < length x.purse = omega arith in
      empty_backed b' (set x.purse i None) (ap (λ k. get_or (set x.purse k None) 0 None) z ∙ get_or-set_same x.purse 0 None None inside)

  abbrev presented : Option Permit → Option Label
  presented = option_map (λ p. p.label)

  transmit_backed : (i : ℕ) (o : Option Permit) → get_or x.purse i None ≡ o → Backed (requests.after r x.path (option_map Transmits (presented o))).table (spent x.purse i (requests.answer r x.path (option_map Transmits (presented o))))
  transmit_backed i None h = ok
  transmit_backed i (Some p) h = spent_backed (requests.after r x.path (Some (Transmits p.label))).table i p (is_held b p.label) h refl

  withdraw_backed : (i : ℕ) (o : Option Permit) → get_or x.purse i None ≡ o → Backed (requests.after r x.path (option_map Withdraws (presented o))).table (spent x.purse i (requests.answer r x.path (option_map Withdraws (presented o))))
  withdraw_backed i None h = ok
  withdraw_backed i (Some p) h = spent_backed (requests.after r x.path (Some (Withdraws p.label))).table i p (is_held b p.label) h refl

  pub next_backed : (call : Call) → Backed (next r x call).path.table (next r x call).purse
  next_backed (Grant size time i) = grant_backed size time i (has_room x.purse i) refl
  next_backed (Transmit i) = transmit_backed i (get_or x.purse i None) refl
  next_backed (Withdraw i) = withdraw_backed i (get_or x.purse i None) refl
  next_backed (Tell event) = event_backed event
