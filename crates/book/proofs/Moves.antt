-- Each step of a table is the book's step. Assumes nothing.
use Rattle.std.proofs.Common.{◌≡◌, ℕ, ◌+◌, ◌*◌, ◌%◌, ◌<◌, ◌≤◌, ◌∷◌, length, get_or, set, Some, None, Ok, sym, refl, ap, ◌∙◌, subst, arith}
use Rattle.values.specs.declared.mtu.Mtu.{Mtu}
use Rattle.cells.specs.Sound.{Sound}
use Rattle.cells.specs.Tables.{cell_of, with_held, transmitted_if, withdrawn_if, freed, counted_if, one_acknowledged, one_lost}
use Rattle.cells.specs.Tables as tables
use Rattle.cells.specs.declared.table.Cell.{Cell}
use Rattle.cells.specs.declared.table.Cell.TheVariants.{Free, Held, InFlight}
use Rattle.cells.specs.declared.table.CellTable.{CellTable}
use Rattle.cells.specs.declared.table.Counts.{Counts}
use Rattle.cells.specs.declared.table.Datagram.{Datagram}
use Rattle.cells.specs.declared.table.Label.{Label}
use Rattle.cells.proofs.Kept.{held_enough, in_flight_enough}
use Rattle.cells.proofs.Says.{HeldAs}
use Rattle.book.specs.Book.{Place, Entry, Book, held, in_flight, acknowledged, lost, withdrawn, same, find, move, entered, at_time, with_mtu, put}
use Rattle.book.specs.Agreement.{entry_of, says, out, Own, Numbered, count_of, Agrees}
use Rattle.book.proofs.Entries.{find_head, find_tail, find_move_other, find_move_same, count_move, bytes_move, numbered_move}
use Rattle.book.proofs.Cells.{Matches, out_some, said_same, Only, only_free, only_held, only_in_flight, matches_put, own_put}

-- the entry of a number that a cell speaks of
pub found : (k : Book) (b : CellTable) (n : ℕ) (c : Cell) (e : Entry) → Agrees k b → cell_of b n ≡ c → says c n ≡ Some e → find n k.entries ≡ Some e
found k b n c e ok was h = (out_some (find n k.entries) e (sym (ok.cells n) ∙ ap (λ z. says z n) was ∙ h)).0

-- the table after a number went from p to q, and its cell with it
record Moved (b b' : CellTable) (n : ℕ) (d : Datagram) (old new : Cell) (p q : Place) : Type 0 where
  was : cell_of b n ≡ old
  number : d.number ≡ n
  says_old : says old n ≡ Some (entry_of p d)
  says_new : says new n ≡ out (Some (entry_of q d))
  only_old : Only old n
  only_new : Only new n
  own_new : Own (n % 256) new
  cells : b'.cells ≡ set b.cells (n % 256) new
  first : b'.first ≡ b.first
  next : b'.next ≡ b.next
  mtu : b'.mtu ≡ b.mtu
  counts : (x : Place) → count_of b'.counts x + same x p ≡ count_of b.counts x + same x q
  held_bytes : b'.held_bytes + same held p * d.size ≡ b.held_bytes + same held q * d.size
  flight_bytes : b'.in_flight_bytes + same in_flight p * d.size ≡ b.in_flight_bytes + same in_flight q * d.size

-- the book then, its latest time among it
abbrev moved : Book → ℕ → Place → ℕ → Book
moved k n q latest = record { next = k.next; mtu = k.mtu; latest = latest; entries = move n q k.entries }

moved_keeps : (k : Book) (b b' : CellTable) (n : ℕ) (d : Datagram) (old new : Cell) (p q : Place) → length b.cells ≡ 256 → Agrees k b → Moved b b' n d old new p q → Agrees (moved k n q b'.latest) b'
moved_keeps k b b' n d old new p q len ok c =
    let f = found k b n old (entry_of p d) ok c.was c.says_old in
    let es = move n q k.entries in
    let there = sym c.cells in
    let cells : Matches (set b.cells (n % 256) new) es = matches_put b.cells k.entries es n old new len c.was c.only_old c.only_new (c.says_new ∙ ap out (sym (find_move_same k.entries n q (entry_of p d) f))) (λ m ne. find_move_other k.entries m n q ne) ok.cells in
    let own : (i : ℕ) → i < 256 → Own i (get_or (set b.cells (n % 256) new) i Free) = own_put b.cells (n % 256) new len (omega arith) c.own_new ok.own in
    record {
      next = ok.next ∙ sym c.next;
      mtu = ok.mtu ∙ ap (λ z. z.value) (sym c.mtu);
      latest = refl;
      numbered = numbered_move k.entries n q b'.first k.next (subst (λ z. Numbered z k.next k.entries) (sym c.first) ok.numbered);
      cells = subst (λ cs. Matches cs es) there cells;
      own = λ i h. subst (λ cs. Own i (get_or cs i Free)) there (own i h);
      counts = λ x. omega (arith, c.counts x, ok.counts x, count_move k.entries n x q (entry_of p d) f);
      held_bytes = omega (arith, c.held_bytes, ok.held_bytes, bytes_move k.entries n held q (entry_of p d) f);
      flight_bytes = omega (arith, c.flight_bytes, ok.flight_bytes, bytes_move k.entries n in_flight q (entry_of p d) f);
    }

-- the counts, place by place
transmitted_count : (b : CellTable) (l : Label) (d : Datagram) → 1 ≤ b.counts.held → (x : Place) → count_of (transmitted_if b l (Some d)).counts x + same x held ≡ count_of b.counts x + same x in_flight
transmitted_count b l d h x = grind arith

withdrawn_count : (b : CellTable) (l : Label) (d : Datagram) → 1 ≤ b.counts.held → (x : Place) → count_of (withdrawn_if b l (Some d)).counts x + same x held ≡ count_of b.counts x + same x withdrawn
withdrawn_count b l d h x = grind arith

freed_count : (b : CellTable) (n time : ℕ) (d : Datagram) → 1 ≤ b.counts.in_flight → (x : Place) → count_of (freed b n time d).counts x + same x in_flight ≡ count_of b.counts x
freed_count b n time d h x = grind arith

held_count : (b : CellTable) (size time : ℕ) (x : Place) → count_of (with_held b size time).counts x ≡ same x held + count_of b.counts x
held_count b size time x = grind arith

-- a place where numbers come to their end, and how it is counted
pub record Ending (q : Place) (count : Counts → Counts) : Type 0 where
  pub gone : (d : Datagram) → out (Some (entry_of q d)) ≡ None
  pub not_held : same held q ≡ 0
  pub not_in_flight : same in_flight q ≡ 0
  pub one_more : (c : Counts) (x : Place) → count_of (count c) x ≡ count_of c x + same x q
  pub either : (n : ℕ) → same acknowledged q * n + same lost q * n ≡ n

counts_acknowledged : (c : Counts) (x : Place) → count_of (one_acknowledged c) x ≡ count_of c x + same x acknowledged
counts_acknowledged c x = grind arith

counts_lost : (c : Counts) (x : Place) → count_of (one_lost c) x ≡ count_of c x + same x lost
counts_lost c x = grind arith

pub ends_acknowledged : Ending acknowledged one_acknowledged
ends_acknowledged = record { gone = λ d. refl; not_held = refl; not_in_flight = refl; one_more = counts_acknowledged; either = λ n. omega arith }

pub ends_lost : Ending lost one_lost
ends_lost = record { gone = λ d. refl; not_held = refl; not_in_flight = refl; one_more = counts_lost; either = λ n. omega arith }

module _ (k : Book) (b : CellTable) (l : Label) (d : Datagram) (ok : Agrees k b) (sound : Sound b) (h : HeldAs (cell_of b l.number) l d) where
  pub transmitted_keeps : Agrees (put k l.number in_flight) (transmitted_if b l (Some d))
  transmitted_keeps =
      let enough = held_enough b l.number d sound h.was in
      let size = h.size_is in
      subst (λ z. Agrees (moved k l.number in_flight z) (transmitted_if b l (Some d))) (sym ok.latest)
      (moved_keeps k b (transmitted_if b l (Some d)) l.number d (Held d) (InFlight d) held in_flight sound.0.0 ok
      (record {
        was = h.was;
        number = h.number;
        says_old = said_same held d l.number h.number;
        says_new = said_same in_flight d l.number h.number;
        only_old = only_held d l.number h.number;
        only_new = only_in_flight d l.number h.number;
        own_new = ap (λ z. z % 256) h.number;
        cells = refl;
        first = refl;
        next = refl;
        mtu = refl;
        counts = transmitted_count b l d enough.1;
        held_bytes = omega (arith, enough.0);
        flight_bytes = omega arith;
      }))

  pub withdrawn_keeps : Agrees (put k l.number withdrawn) (withdrawn_if b l (Some d))
  withdrawn_keeps =
      let enough = held_enough b l.number d sound h.was in
      let size = h.size_is in
      subst (λ z. Agrees (moved k l.number withdrawn z) (withdrawn_if b l (Some d))) (sym ok.latest)
      (moved_keeps k b (withdrawn_if b l (Some d)) l.number d (Held d) Free held withdrawn sound.0.0 ok
      (record {
        was = h.was;
        number = h.number;
        says_old = said_same held d l.number h.number;
        says_new = refl;
        only_old = only_held d l.number h.number;
        only_new = only_free l.number;
        own_new = tt;
        cells = refl;
        first = refl;
        next = refl;
        mtu = refl;
        counts = withdrawn_count b l d enough.1;
        held_bytes = omega (arith, enough.0);
        flight_bytes = omega arith;
      }))

module _ (k : Book) (b : CellTable) (n : ℕ) (d : Datagram) (ok : Agrees k b) (sound : Sound b) (number : d.number ≡ n) where
  -- acknowledged or lost
  pub counted_keeps : (time : ℕ) (q : Place) (count : Counts → Counts) → Ending q count → cell_of b n ≡ InFlight d → Agrees (at_time (put k n q) time) (counted_if b n time count (Ok d))
  counted_keeps time q count ending was =
      let enough = in_flight_enough b n d sound was in
      let c = (freed b n time d).counts in
      moved_keeps k b (counted_if b n time count (Ok d)) n d (InFlight d) Free in_flight q sound.0.0 ok
      (record {
        was = was;
        number = number;
        says_old = said_same in_flight d n number;
        says_new = sym (ending.gone d);
        only_old = only_in_flight d n number;
        only_new = only_free n;
        own_new = tt;
        cells = refl;
        first = refl;
        next = refl;
        mtu = refl;
        counts = λ x. omega (arith, ending.one_more c x, freed_count b n time d enough.1 x);
        held_bytes = rw ending.not_held (omega arith);
        flight_bytes = rw ending.not_in_flight (omega (arith, enough.0));
      })

module _ (k : Book) (b : CellTable) (ok : Agrees k b) where
  pub entered_keeps : (size time : ℕ) → Sound b → cell_of b b.next ≡ Free → Agrees (entered k size time) (with_held b size time)
  entered_keeps size time sound free =
      let len = sound.0.0 in
      let d : Datagram = record { number = b.next; size = size; time = time } in
      let e : Entry = record { number = k.next; place = held; size = size; time = time } in
      record {
        next = ap (λ z. z + 1) ok.next;
        mtu = ok.mtu;
        latest = refl;
        numbered = (refl, ok.numbered);
        cells = matches_put b.cells k.entries (e ∷ k.entries) b.next Free (Held d) len free (only_free b.next) (only_held d b.next refl)
            (said_same held d b.next refl ∙ ap (λ z. Some (record { number = z; place = held; size = size; time = time })) (sym ok.next) ∙ ap out (sym (find_head e k.entries b.next ok.next)))
            (λ m ne. find_tail e k.entries m (λ z. ne (sym z ∙ ok.next)))
            ok.cells;
        own = own_put b.cells (b.next % 256) (Held d) len (omega arith) refl ok.own;
        counts = λ x. omega (arith, held_count b size time x, ok.counts x);
        held_bytes = omega (arith, ok.held_bytes);
        flight_bytes = omega (arith, ok.flight_bytes);
      }

  pub at_time_keeps : (time : ℕ) → Agrees (at_time k time) (tables.at_time b time)
  at_time_keeps time = record { next = ok.next; mtu = ok.mtu; latest = refl; numbered = ok.numbered; cells = ok.cells; own = ok.own; counts = ok.counts; held_bytes = ok.held_bytes; flight_bytes = ok.flight_bytes }

  pub with_mtu_keeps : (mtu : Mtu) → Agrees (with_mtu k mtu.value) (tables.with_mtu b mtu)
  with_mtu_keeps mtu = record { next = ok.next; mtu = refl; latest = ok.latest; numbered = ok.numbered; cells = ok.cells; own = ok.own; counts = ok.counts; held_bytes = ok.held_bytes; flight_bytes = ok.flight_bytes }
