-- What an answer of a table says of its cells. Assumes nothing.
use Rattle.std.proofs.Common.{◌≡◌, ℕ, ◌+◌, ◌^◌, ◌≤◌, Bool, true, false, cond, ◌&&◌, eqb, length, Some, None, Ok, Err, sym, refl, ap, ◌∙◌, arith, get_or-set_same}
use Rattle.std.proofs.lemmas.Bool.{or_parts, and_parts, eqb-true, eqb-false, ltb-false, not-false}
use Rattle.std.specs.declared.convert.Infallible.{Infallible as NoPermit}
use Rattle.refusals.specs.declared.Refusal.{Refusal}
use Rattle.refusals.specs.declared.Refusal.TheVariants.{Time, NotInFlight}
use Rattle.cells.specs.declared.table.Cell.{Cell}
use Rattle.cells.specs.declared.table.Cell.TheVariants.{Free, Held, InFlight}
use Rattle.cells.specs.declared.table.CellTable.{CellTable}
use Rattle.cells.specs.declared.table.Datagram.{Datagram}
use Rattle.cells.specs.declared.table.Label.{Label}
use Rattle.cells.specs.Tables.{Checked, is_taken, cell_of, untimely, admitted, with_held, held_as, IsHeld, in_flight_as, landing}

-- a check that did not refuse
pub passed : {A : Type 0} (t : Bool) (e : Refusal NoPermit) (r : Checked A) (x : A) → cond t (Err e) r ≡ Ok x → (t ≡ false) × (r ≡ Ok x)
passed true e r x h = (cc, cc)
passed false e r x h = (refl, h)

-- a choice that is not its second part
chosen : {A : Type 0} (t : Bool) (a b c : A) → (b ≡ c → ⊥) → cond t a b ≡ c → (t ≡ true) × (a ≡ c)
chosen true a b c other h = (refl, h)
chosen false a b c other h = absurd (other h)

pub free_is : (c : Cell) → is_taken c ≡ false → c ≡ Free
free_is Free h = refl
free_is (Held d) h = cc
free_is (InFlight d) h = cc

-- a grant that passed all its checks
pub record Admitted (b : CellTable) (size time window : ℕ) : Type 0 where
  pub some : size ≡ 0 → ⊥
  pub fits : size ≤ b.mtu.value
  pub timely : untimely b.latest time ≡ false
  pub none_held : b.counts.held ≡ 0
  pub numbers : b.next ≡ 2 ^ 48 → ⊥
  pub free : cell_of b b.next ≡ Free
  pub room : b.held_bytes + b.in_flight_bytes + size ≤ window

pub admitted_says : (b : CellTable) (size time window : ℕ) → admitted b size time window ≡ Ok tt → Admitted b size time window
admitted_says b size time window h =
    let p2 = passed _ _ _ tt h in
    let p3 = passed _ _ _ tt p2.1 in
    let p4 = passed _ _ _ tt p3.1 in
    let p5 = passed _ _ _ tt p4.1 in
    let p6 = passed _ _ _ tt p5.1 in
    let p7 = passed _ _ _ tt p6.1 in
    let sizes = or_parts _ _ p2.0 in
    record {
      some = eqb-false _ _ sizes.0;
      fits = ltb-false _ _ sizes.1;
      timely = p3.0;
      none_held = eqb-true _ _ (not-false _ p4.0);
      numbers = eqb-false _ _ p5.0;
      free = free_is _ p6.0;
      room = ltb-false _ _ p7.0;
    }

-- a number that is held with that size
pub record HeldAs (c : Cell) (l : Label) (d : Datagram) : Type 0 where
  pub was : c ≡ Held d
  pub number : d.number ≡ l.number
  pub size_is : d.size ≡ l.size

pub held_says : (c : Cell) (l : Label) (d : Datagram) → held_as c l ≡ Some d → HeldAs c l d
held_says Free l d h = absurd cc
held_says (InFlight y) l d h = absurd cc
held_says (Held y) l d h =
    let c = chosen (eqb y.number l.number && eqb y.size l.size) (Some y) None (Some d) (λ e. cc) h in
    let is : y ≡ d = cc in
    let two = and_parts _ _ c.0 in
    record { was = ap Held is; number = ap (λ z. z.number) (sym is) ∙ eqb-true _ _ two.0; size_is = ap (λ z. z.size) (sym is) ∙ eqb-true _ _ two.1 }

-- a number that is in flight
pub in_flight_says : (c : Cell) (n : ℕ) (d : Datagram) → in_flight_as c n ≡ Ok d → (c ≡ InFlight d) × (d.number ≡ n)
in_flight_says Free n d h = (cc, cc)
in_flight_says (Held y) n d h = (cc, cc)
in_flight_says (InFlight y) n d h =
    let c = chosen {A = Checked Datagram} (eqb y.number n) (Ok y) (Err NotInFlight) (Ok d) (λ e. cc) h in
    let is : y ≡ d = cc in
    (ap InFlight is, ap (λ z. z.number) (sym is) ∙ eqb-true _ _ c.0)

-- an ack or a loss that passed its checks
pub record Landing (b : CellTable) (n time : ℕ) (d : Datagram) : Type 0 where
  pub timely : untimely b.latest time ≡ false
  pub was : cell_of b n ≡ InFlight d
  pub number : d.number ≡ n

pub landing_says : (b : CellTable) (n time : ℕ) (d : Datagram) → landing b n time ≡ Ok d → Landing b n time d
landing_says b n time d h =
    let p = passed (untimely b.latest time) Time (in_flight_as (cell_of b n) n) d h in
    let r = in_flight_says (cell_of b n) n d p.1 in
    record { timely = p.0; was = r.0; number = r.1 }

-- what was just held is held
pub held_next : (b : CellTable) (size time : ℕ) → length b.cells ≡ 256 → IsHeld (with_held b size time) (record { number = b.next; size = size })
held_next b size time len = grind (arith, get_or-set_same)
