-- The checks that a table makes, and the table after each step. Assumes nothing.
--
-- Number n has cell n mod 256. A grant is refused where its size is 0 or above the MTU (2), its time is before the latest or above 2^62 - 1
-- (3), a number is held (4), no number below 2^48 is left (5), the next number's cell is taken (6), or the bytes held and in flight would
-- pass the window with it (7), the first of these that applies. A number is held with the size that it was granted with, goes in flight or
-- is withdrawn, and a number in flight is acknowledged or lost; each is in one place, and the cell of a number that has come to its end
-- is free.
use Rattle.std.specs.Prelude.{ℕ, ◌+◌, ◌-◌, ◌%◌, Bool, true, false, cond, not, ◌&&◌, ◌||◌, replicate, Some, None, Ok, Err, Option, Result, IsSome, ◌==◌, nat_lt, slice_index_or, slice_set}
use Rattle.std.specs.declared.convert.Infallible.{Infallible as NoPermit}
use Rattle.refusals.specs.declared.Refusal.{Refusal}
use Rattle.refusals.specs.declared.Refusal.TheVariants.{Size, Time, Held as HeldAlready, NumbersExhausted, CellTaken, Window, NotInFlight}
use Rattle.values.specs.declared.mtu.Mtu.{Mtu}
use Rattle.cells.specs.declared.table.Cell.{Cell}
use Rattle.cells.specs.declared.table.Cell.TheVariants.{Free, Held, InFlight}
use Rattle.cells.specs.declared.table.CellTable.{CellTable}
use Rattle.cells.specs.declared.table.Counts.{Counts}
use Rattle.cells.specs.declared.table.Datagram.{Datagram}
use Rattle.cells.specs.declared.table.Label.{Label}

abbrev pub Checked : Type 0 → Type 0
Checked A = Result A (Refusal NoPermit)

abbrev pub is_taken : Cell → Bool
is_taken Free = false
is_taken (Held d) = true
is_taken (InFlight d) = true

abbrev pub cell_of : CellTable → ℕ → Cell
cell_of b n = slice_index_or b.cells (n % 256) Free

-- a time before the latest or above 2^62 - 1
abbrev pub untimely : ℕ → ℕ → Bool
untimely latest time = nat_lt time latest || nat_lt 0x3fff_ffff_ffff_ffff time

abbrev pub in_time : CellTable → ℕ → Checked (Unit {0})
in_time b time = cond (untimely b.latest time) (Err Time) (Ok tt)

-- the checks of a grant, 2 to 7
abbrev pub admitted : CellTable → ℕ → ℕ → ℕ → Checked (Unit {0})
admitted b size time window =
    cond (size == 0 || nat_lt b.mtu.value size) (Err Size)
    (cond (untimely b.latest time) (Err Time)
    (cond (not (b.counts.held == 0)) (Err HeldAlready)
    (cond (b.next == 0x1_0000_0000_0000) (Err NumbersExhausted)
    (cond (is_taken (cell_of b b.next)) (Err CellTaken)
    (cond (nat_lt window (b.held_bytes + b.in_flight_bytes + size)) (Err Window)
    (Ok tt))))))

abbrev pub nowhere : Counts
nowhere = record { held = 0; in_flight = 0; acknowledged = 0; lost = 0; withdrawn = 0 }

-- the table of a new path: first number, MTU, start
abbrev pub opened : ℕ → Mtu → ℕ → CellTable
opened number mtu start =
    record {
      cells = replicate 256 Free;
      first = number;
      next = number;
      latest = start;
      mtu = mtu;
      held_bytes = 0;
      in_flight_bytes = 0;
      counts = nowhere;
    }

-- the cell of number n, the bytes held and in flight, and the counts
abbrev pub with_cell : CellTable → ℕ → Cell → ℕ → ℕ → Counts → CellTable
with_cell b n cell held flight counts =
    record {
      cells = slice_set b.cells (n % 256) cell;
      first = b.first;
      next = b.next;
      latest = b.latest;
      mtu = b.mtu;
      held_bytes = held;
      in_flight_bytes = flight;
      counts = counts;
    }

-- the next number and the latest time
abbrev pub with_next : CellTable → ℕ → ℕ → CellTable
with_next b n time =
    record {
      cells = b.cells;
      first = b.first;
      next = n;
      latest = time;
      mtu = b.mtu;
      held_bytes = b.held_bytes;
      in_flight_bytes = b.in_flight_bytes;
      counts = b.counts;
    }

abbrev pub at_time : CellTable → ℕ → CellTable
at_time b time = with_next b b.next time

abbrev pub with_mtu : CellTable → Mtu → CellTable
with_mtu b mtu =
    record {
      cells = b.cells;
      first = b.first;
      next = b.next;
      latest = b.latest;
      mtu = mtu;
      held_bytes = b.held_bytes;
      in_flight_bytes = b.in_flight_bytes;
      counts = b.counts;
    }

abbrev pub with_counts : CellTable → Counts → CellTable
with_counts b counts =
    record {
      cells = b.cells;
      first = b.first;
      next = b.next;
      latest = b.latest;
      mtu = b.mtu;
      held_bytes = b.held_bytes;
      in_flight_bytes = b.in_flight_bytes;
      counts = counts;
    }

-- the next number is held
abbrev pub with_held : CellTable → ℕ → ℕ → CellTable
with_held b size time =
    with_next
    (with_cell b b.next (Held (record { number = b.next; size = size; time = time })) (b.held_bytes + size) b.in_flight_bytes
    (record {
      held = b.counts.held + 1;
      in_flight = b.counts.in_flight;
      acknowledged = b.counts.acknowledged;
      lost = b.counts.lost;
      withdrawn = b.counts.withdrawn;
    }))
    (b.next + 1) time

-- a grant that passed its checks holds the next number
abbrev pub held_if : CellTable → ℕ → ℕ → Checked (Unit {0}) → CellTable
held_if b size time (Ok u) = with_held b size time
held_if b size time (Err e) = b

abbrev pub number_if : ℕ → Checked (Unit {0}) → Checked ℕ
number_if n (Ok u) = Ok n
number_if n (Err e) = Err e

-- the datagram that a cell holds with that number and size
abbrev pub held_as : Cell → Label → Option Datagram
held_as Free l = None
held_as (Held d) l = cond (d.number == l.number && d.size == l.size) (Some d) None
held_as (InFlight d) l = None

abbrev pub is_held : CellTable → Label → Option Datagram
is_held b l = held_as (cell_of b l.number) l

-- a datagram is held with that number and size
abbrev pub IsHeld : CellTable → Label → Type 0
IsHeld b l = IsSome (is_held b l)

abbrev pub transmitted_if : CellTable → Label → Option Datagram → CellTable
transmitted_if b l None = b
transmitted_if b l (Some d) =
    with_cell b l.number (InFlight d) (b.held_bytes - l.size) (b.in_flight_bytes + l.size)
    (record {
      held = b.counts.held - 1;
      in_flight = b.counts.in_flight + 1;
      acknowledged = b.counts.acknowledged;
      lost = b.counts.lost;
      withdrawn = b.counts.withdrawn;
    })

abbrev pub transmitted : CellTable → Label → CellTable
transmitted b l = transmitted_if b l (is_held b l)

abbrev pub withdrawn_if : CellTable → Label → Option Datagram → CellTable
withdrawn_if b l None = b
withdrawn_if b l (Some d) =
    with_cell b l.number Free (b.held_bytes - l.size) b.in_flight_bytes
    (record {
      held = b.counts.held - 1;
      in_flight = b.counts.in_flight;
      acknowledged = b.counts.acknowledged;
      lost = b.counts.lost;
      withdrawn = b.counts.withdrawn + 1;
    })

abbrev pub withdrawn : CellTable → Label → CellTable
withdrawn b l = withdrawn_if b l (is_held b l)

-- the datagram that is in flight in a cell under that number
abbrev pub in_flight_as : Cell → ℕ → Checked Datagram
in_flight_as Free n = Err NotInFlight
in_flight_as (Held d) n = Err NotInFlight
in_flight_as (InFlight d) n = cond (d.number == n) (Ok d) (Err NotInFlight)

-- the checks of an ack or a loss, 3 and 10
abbrev pub landing : CellTable → ℕ → ℕ → Checked Datagram
landing b n time = cond (untimely b.latest time) (Err Time) (in_flight_as (cell_of b n) n)

-- its cell is free, and it is in flight no more
abbrev pub freed : CellTable → ℕ → ℕ → Datagram → CellTable
freed b n time d =
    at_time
    (with_cell b n Free b.held_bytes (b.in_flight_bytes - d.size)
    (record {
      held = b.counts.held;
      in_flight = b.counts.in_flight - 1;
      acknowledged = b.counts.acknowledged;
      lost = b.counts.lost;
      withdrawn = b.counts.withdrawn;
    }))
    time

abbrev pub landed_if : CellTable → ℕ → ℕ → Checked Datagram → CellTable
landed_if b n time (Ok d) = freed b n time d
landed_if b n time (Err e) = b

abbrev pub landed : CellTable → ℕ → ℕ → CellTable
landed b n time = landed_if b n time (landing b n time)

abbrev pub one_acknowledged : Counts → Counts
one_acknowledged c =
    record { held = c.held; in_flight = c.in_flight; acknowledged = c.acknowledged + 1; lost = c.lost; withdrawn = c.withdrawn }

abbrev pub one_lost : Counts → Counts
one_lost c =
    record { held = c.held; in_flight = c.in_flight; acknowledged = c.acknowledged; lost = c.lost + 1; withdrawn = c.withdrawn }

-- counted where it has landed
abbrev pub counted_if : CellTable → ℕ → ℕ → (Counts → Counts) → Checked Datagram → CellTable
counted_if b n time count (Ok d) = with_counts (freed b n time d) (count (freed b n time d).counts)
counted_if b n time count (Err e) = b

abbrev pub acknowledged : CellTable → ℕ → ℕ → CellTable
acknowledged b n time = counted_if b n time one_acknowledged (landing b n time)

abbrev pub lost : CellTable → ℕ → ℕ → CellTable
lost b n time = counted_if b n time one_lost (landing b n time)
