-- Where book and table agree, they make the same checks. Assumes nothing.
use Rattle.std.proofs.Common.{◌≡◌, ℕ, ◌+◌, ◌%◌, ◌<◌, ◌≤◌, cond, is_some, Ok, Err, refl, ap, ◌∙◌, arith}
use Rattle.refusals.specs.declared.Refusal.TheVariants.{Time, Window}
use Rattle.cells.specs.Tables.{Checked, is_taken, cell_of, untimely, in_time, admitted, landing, in_flight_as}
use Rattle.cells.specs.Tables as tables
use Rattle.cells.specs.declared.table.CellTable.{CellTable}
use Rattle.cells.specs.declared.table.Label.{Label}
use Rattle.path.specs.Paths.{answered}
use Rattle.book.specs.Book.{Book, held, takes_cell, find, grant_check, holds, time_check, flight_check}
use Rattle.book.specs.Agreement.{Agrees}
use Rattle.book.proofs.Cells.{held_agree, flight_agree, taken_is}

module _ {k : Book} {b : CellTable} (ok : Agrees k b) where
  timely_is : (time : ℕ) → untimely k.latest time ≡ untimely b.latest time
  timely_is time = ap (λ z. untimely z time) ok.latest

  taken_next : takes_cell (k.next % 256) k.entries ≡ is_taken (cell_of b b.next)
  taken_next =
      ap (λ z. takes_cell (z % 256) k.entries) ok.next
      ∙ taken_is b.cells k.entries (b.next % 256) b.first k.next ok.cells ok.numbered (cell_of b b.next) refl (ok.own (b.next % 256) (omega arith))

  pub grant_is : (size time window : ℕ) → grant_check k size time window ≡ admitted b size time window
  grant_is size time window =
      let x = taken_next in
      let y = timely_is time in
      let c = ok.counts held in
      cc (ok.mtu, ok.next, c, ok.held_bytes, ok.flight_bytes)

  pub time_is : (time : ℕ) → time_check k time ≡ in_time b time
  time_is time = ap (λ z. cond z (Err Time) (Ok tt)) (timely_is time)

  pub holds_is : (l : Label) → holds k l ≡ is_some (tables.is_held b l)
  holds_is l = held_agree (cell_of b l.number) (find l.number k.entries) l (ok.cells l.number)

  pub flight_is : (n time : ℕ) → flight_check k n time ≡ answered (landing b n time)
  flight_is n time =
      let flight = flight_agree (cell_of b n) (find n k.entries) n (ok.cells n) in
      grind (arith, timely_is time)

-- a grant that is refused 7 passed each check before
pub refused_window : (b : CellTable) (size time window : ℕ) → admitted b size time window ≡ Err Window → (size ≤ b.mtu.value) × (window < b.held_bytes + b.in_flight_bytes + size)
refused_window b size time window h = (grind arith, grind arith)
