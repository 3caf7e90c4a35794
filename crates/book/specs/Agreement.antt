-- When a path's table says what the book says. Assumes nothing.
use Rattle.std.specs.Prelude.{◌≡◌, ℕ, ◌+◌, ◌%◌, ◌<◌, cond, List, [], ◌∷◌, Some, None, Option, ◌==◌, slice_index_or}
use Rattle.cells.specs.Tables.{cell_of}
use Rattle.cells.specs.declared.table.Cell.{Cell}
use Rattle.cells.specs.declared.table.Cell.TheVariants.{Free, Held, InFlight}
use Rattle.cells.specs.declared.table.CellTable.{CellTable}
use Rattle.cells.specs.declared.table.Counts.{Counts}
use Rattle.cells.specs.declared.table.Datagram.{Datagram}
use Rattle.book.specs.Book.{Place, Entry, Book, held, in_flight, acknowledged, lost, withdrawn, count_in, bytes_in, find, is_out}

abbrev pub entry_of : Place → Datagram → Entry
entry_of p d = record { number = d.number; place = p; size = d.size; time = d.time }

abbrev pub said_of : Place → Datagram → ℕ → Option Entry
said_of p d n = cond (d.number == n) (Some (entry_of p d)) None

-- what a cell says of number n
abbrev pub says : Cell → ℕ → Option Entry
says Free n = None
says (Held d) n = said_of held d n
says (InFlight d) n = said_of in_flight d n

-- an entry that is held or in flight
abbrev pub out : Option Entry → Option Entry
out None = None
out (Some e) = cond (is_out e.place) (Some e) None

-- a cell holds only numbers that have this cell
abbrev pub Own : ℕ → Cell → Type 0
Own i Free = Unit {0}
Own i (Held d) = d.number % 256 ≡ i
Own i (InFlight d) = d.number % 256 ≡ i

-- each number from the first to the next has one entry, the newest first: so each is in one place
abbrev pub Numbered : ℕ → ℕ → List Entry → Type 0
Numbered first next [] = first ≡ next
Numbered first next (e ∷ es) = (e.number + 1 ≡ next) × Numbered first e.number es

abbrev pub count_of : Counts → Place → ℕ
count_of c held = c.held
count_of c in_flight = c.in_flight
count_of c acknowledged = c.acknowledged
count_of c lost = c.lost
count_of c withdrawn = c.withdrawn

-- the count of each place is that of its entries
abbrev pub Counted : Counts → List Entry → Type 0
Counted c es = (p : Place) → count_of c p ≡ count_in p es

-- The cells hold exactly the entries that are held and in flight, with place, size and time: what the cell of a number says of it is
-- the number's entry where that is held or in flight, and a cell says nothing of numbers that have another cell.
pub record Agrees (k : Book) (b : CellTable) : Type 0 where
  pub next : k.next ≡ b.next
  pub mtu : k.mtu ≡ b.mtu.value
  pub latest : k.latest ≡ b.latest
  pub numbered : Numbered b.first k.next k.entries
  pub cells : (n : ℕ) → says (cell_of b n) n ≡ out (find n k.entries)
  pub own : (i : ℕ) → i < 256 → Own i (slice_index_or b.cells i Free)
  pub counts : Counted b.counts k.entries
  pub held_bytes : b.held_bytes ≡ bytes_in held k.entries
  pub flight_bytes : b.in_flight_bytes ≡ bytes_in in_flight k.entries
