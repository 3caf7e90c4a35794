-- What a cell says of a number, and what the entries say. Assumes nothing.
use Rattle.std.proofs.Common.{◌≡◌, ℕ, ◌%◌, ◌<◌, true, cond, List, [], ◌∷◌, length, get_or, set, is_some, Some, None, Ok, Err, Option, sym, refl, ap, ◌∙◌, ⊎_elim, arith, get_or-set_other, get_or-set_same}
use Rattle.std.proofs.lemmas.Bool.{eqb-true, eq-eqb, ne_eqb, cases_Bool, cases_eq, both_ways, and_parts, or_cases}
use Rattle.refusals.specs.declared.Refusal.TheVariants.{NotInFlight}
use Rattle.cells.specs.Tables.{Checked, is_taken, held_as, in_flight_as}
use Rattle.cells.specs.declared.table.Cell.{Cell}
use Rattle.cells.specs.declared.table.Cell.TheVariants.{Free, Held, InFlight}
use Rattle.cells.specs.declared.table.Datagram.{Datagram}
use Rattle.cells.specs.declared.table.Label.{Label}
use Rattle.path.specs.Paths.{answered}
use Rattle.book.specs.Book.{Place, Entry, held, in_flight, is_out, takes_cell, find, is_held, is_in_flight}
use Rattle.book.specs.Agreement.{entry_of, said_of, says, out, Own, Numbered}
use Rattle.book.proofs.Entries.{find_head, find_tail, find_below}

-- the entries of a list and the cells agree on every number
abbrev pub Matches : List Cell → List Entry → Type 0
Matches cs es = (n : ℕ) → says (get_or cs (n % 256) Free) n ≡ out (find n es)

-- an entry that is out is the number's entry
pub out_some : (o : Option Entry) (x : Entry) → out o ≡ Some x → (o ≡ Some x) × (is_out x.place ≡ true)
out_some o x h = (grind arith, grind arith)

pub said_same : (p : Place) (d : Datagram) (n : ℕ) → d.number ≡ n → said_of p d n ≡ Some (entry_of p d)
said_same p d n e = rw (eq-eqb d.number n e)

-- the checks 9 and 10 see only what is out, and a cell answers them as what it says of the number does
pub held_agree : (c : Cell) (o : Option Entry) (l : Label) → says c l.number ≡ out o → is_held o l.size ≡ is_some (held_as c l)
held_agree c o l h = grind arith

pub flight_agree : (c : Cell) (o : Option Entry) (n : ℕ) → says c n ≡ out o → cond {A = Checked (Unit {0})} (is_in_flight o) (Ok tt) (Err NotInFlight) ≡ answered (in_flight_as c n)
flight_agree c o n h = grind arith

-- an entry that takes a cell is the entry of its number
record Taker (i : ℕ) (es : List Entry) : Type 0 where
  entry : Entry
  found : find entry.number es ≡ Some entry
  out_is : is_out entry.place ≡ true
  there : entry.number % 256 ≡ i

taker : (i : ℕ) (es : List Entry) (first next : ℕ) → Numbered first next es → takes_cell i es ≡ true → Taker i es
taker i [] first next k h = absurd (both_ways _ refl h)
taker i (e ∷ es) first next k h =
    ⊎_elim
    (λ y. let two = and_parts _ _ y in record { entry = e; found = find_head e es e.number refl; out_is = two.0; there = eqb-true _ _ two.1 })
    (λ y.
    let t = taker i es first e.number k.1 y in
    let below = find_below es t.entry.number t.entry first e.number k.1 t.found in
    record { entry = t.entry; found = find_tail e es t.entry.number (λ z. omega arith) ∙ t.found; out_is = t.out_is; there = t.there })
    (or_cases _ _ h)

takes : (i n : ℕ) (es : List Entry) (e : Entry) → find n es ≡ Some e → is_out e.place ≡ true → n % 256 ≡ i → takes_cell i es ≡ true
takes i n [] e h l r = absurd cc
takes i n (x ∷ es) e h l r = grind (arith, takes i n es e)

module _ (cs : List Cell) (es : List Entry) (i first next : ℕ) (j : Matches cs es) (k : Numbered first next es) where
  -- what a cell holds, the entries have
  taken_by : (p : Place) (d : Datagram) → is_out p ≡ true → says (get_or cs i Free) d.number ≡ said_of p d d.number → d.number % 256 ≡ i → takes_cell i es ≡ true
  taken_by p d alive is own =
      let a : Some (entry_of p d) ≡ out (find d.number es) = sym (said_same p d d.number refl) ∙ sym is ∙ ap (λ z. says (get_or cs z Free) d.number) (sym own) ∙ j d.number in
      let r = out_some (find d.number es) (entry_of p d) (sym a) in
      takes i d.number es (entry_of p d) r.0 alive own

  pub taken_is : (c : Cell) → get_or cs i Free ≡ c → Own i c → takes_cell i es ≡ is_taken c
  taken_is Free h o =
      ⊎_elim
      (λ y.
      let t = taker i es first next k y in
      let a : None ≡ out (find t.entry.number es) = ap (λ z. says z t.entry.number) (sym h ∙ ap (λ z. get_or cs z Free) (sym t.there)) ∙ j t.entry.number in
      let b : out (find t.entry.number es) ≡ Some t.entry = ap out t.found ∙ rw t.out_is in
      let q : ◌≡◌ {A = Option Entry} None (Some t.entry) = a ∙ b in
      absurd cc)
      (λ y. y)
      (cases_Bool (takes_cell i es))
  taken_is (Held d) h o = taken_by held d refl (ap (λ z. says z d.number) h) o
  taken_is (InFlight d) h o = taken_by in_flight d refl (ap (λ z. says z d.number) h) o

-- a cell that says nothing of another number
abbrev pub Only : Cell → ℕ → Type 0
Only c n = (m : ℕ) → (m ≡ n → ⊥) → says c m ≡ None

pub only_free : (n : ℕ) → Only Free n
only_free n m h = refl

said_other : (p : Place) (d : Datagram) (n m : ℕ) → d.number ≡ n → (m ≡ n → ⊥) → said_of p d m ≡ None
said_other p d n m e h = rw (ne_eqb d.number m (λ z. h (sym z ∙ e)))

pub only_held : (d : Datagram) (n : ℕ) → d.number ≡ n → Only (Held d) n
only_held d n e m h = said_other held d n m e h

pub only_in_flight : (d : Datagram) (n : ℕ) → d.number ≡ n → Only (InFlight d) n
only_in_flight d n e m h = said_other in_flight d n m e h

-- one cell is written, and one number's entry changes
pub matches_put : (cs : List Cell) (es fs : List Entry) (n : ℕ) (old new : Cell) → length cs ≡ 256 → get_or cs (n % 256) Free ≡ old → Only old n → Only new n → says new n ≡ out (find n fs) → ((m : ℕ) → (m ≡ n → ⊥) → find m fs ≡ find m es) → Matches cs es → Matches (set cs (n % 256) new) fs
matches_put cs es fs n old new len was o o' here other j m =
    let inside : n % 256 < length cs = omega arith in
    ⊎_elim
    (λ y.
    ap (λ z. says (get_or (set cs (n % 256) new) (z % 256) Free) z) y ∙ ap (λ z. says z n) (get_or-set_same cs (n % 256) new Free inside) ∙ here ∙ ap (λ z. out (find z fs)) (sym y))
    (λ ne.
    ⊎_elim
    (λ y.
    ap (λ z. says (get_or (set cs (n % 256) new) z Free) m) y ∙ ap (λ z. says z m) (get_or-set_same cs (n % 256) new Free inside) ∙ o' m ne ∙ sym (o m ne) ∙ ap (λ z. says z m) (sym was ∙ ap (λ z. get_or cs z Free) (sym y)) ∙ j m ∙ ap out (sym (other m ne)))
    (λ far. ap (λ z. says z m) (get_or-set_other cs (n % 256) (m % 256) new Free far) ∙ j m ∙ ap out (sym (other m ne)))
    (cases_eq (m % 256) (n % 256)))
    (cases_eq m n)

pub own_put : (cs : List Cell) (i : ℕ) (new : Cell) → length cs ≡ 256 → i < 256 → Own i new → ((m : ℕ) → m < 256 → Own m (get_or cs m Free)) → (m : ℕ) → m < 256 → Own m (get_or (set cs i new) m Free)
own_put cs i new len lt o all m h = grind (arith, get_or-set_other, get_or-set_same)
