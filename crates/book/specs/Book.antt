-- The book of a path: what became of each number that was handed out. Assumes nothing.
--
-- It starts with the opening's first number as the next, the opening's MTU, the start as the latest time, and no entry. A grant enters
-- the next number as held, with its size and time, and the next number rises by 1. Transmit moves a number from held to in flight, withdraw
-- from held to withdrawn, ack from in flight to acknowledged, lose from in flight to lost; an end moves none, and setting the MTU sets
-- the MTU. The time of a call that was accepted or refused 8 becomes the latest. A refusal changes nothing else.
--
-- The checks, each made where those before it passed:
--   2  the size is 0 or above the MTU
--   3  the time is before the latest or above 2^62 - 1
--   4  a number is held
--   5  the next number is 2^48
--   6  a number held or in flight has the cell of the next number, which is its remainder modulo 256
--   7  the bytes held and in flight, with this size, are above the window
--   8  the pacer answers a time
--   9  the permit's number is not held, or with another size
--  10  the number is not in flight
-- A grant makes checks 2 to 8, transmit and withdraw 9, ack and lose 3 and 10, an end 3.
use Rattle.std.specs.Prelude.{ℕ, ◌+◌, ◌*◌, ◌%◌, Bool, true, false, cond, not, ◌&&◌, ◌||◌, List, [], ◌∷◌, Some, None, Ok, Err, Option, Result, ◌==◌, nat_lt}
use Rattle.std.specs.declared.convert.Infallible.{Infallible as NoPermit}
use Rattle.refusals.specs.declared.Refusal.{Refusal}
use Rattle.refusals.specs.declared.Refusal.TheVariants.{OutsideLimit, Size, Time, Held, NumbersExhausted, CellTaken, Window, Paced, NotHeld, NotInFlight, Malformed, UnknownKind}
use Rattle.values.specs.declared.opening.Opening.{Opening}
use Rattle.cells.specs.Tables.{Checked, untimely}
use Rattle.cells.specs.declared.table.Label.{Label}
use Rattle.book.specs.declared.call.Accepted.{Accepted}
use Rattle.book.specs.declared.call.Accepted.TheVariants.{Granted, Done}
use Rattle.book.specs.declared.call.Event.{Event}
use Rattle.book.specs.declared.call.Event.TheVariants.{Ack, End, Lose, SetMtu}
use Rattle.book.specs.declared.call.Request.{Request}
use Rattle.book.specs.declared.call.Request.TheVariants.{Grant, Transmit, Withdraw, Tell}

pub data Place : Type 0 where
  held : Place
  in_flight : Place
  acknowledged : Place
  lost : Place
  withdrawn : Place

pub record Entry : Type 0 where
  pub number : ℕ
  pub place : Place
  pub size : ℕ
  pub time : ℕ

-- the entries stand with the newest first
pub record Book : Type 0 where
  pub next : ℕ
  pub mtu : ℕ
  pub latest : ℕ
  pub entries : List Entry

abbrev pub opened : Opening → Book
opened o = record { next = o.first_number; mtu = o.mtu.value; latest = o.start; entries = [] }

abbrev pub rank : Place → ℕ
rank held = 0
rank in_flight = 1
rank acknowledged = 2
rank lost = 3
rank withdrawn = 4

-- 1 where the places are the same, else 0
abbrev pub same : Place → Place → ℕ
same p q = cond (rank p == rank q) 1 0

-- how many entries are in a place, and how many bytes
abbrev pub count_in : Place → List Entry → ℕ
count_in p [] = 0
count_in p (e ∷ es) = same p e.place + count_in p es

abbrev pub bytes_in : Place → List Entry → ℕ
bytes_in p [] = 0
bytes_in p (e ∷ es) = same p e.place * e.size + bytes_in p es

-- the bytes held and in flight
abbrev pub bytes_out : Book → ℕ
bytes_out k = bytes_in held k.entries + bytes_in in_flight k.entries

abbrev pub is_out : Place → Bool
is_out held = true
is_out in_flight = true
is_out acknowledged = false
is_out lost = false
is_out withdrawn = false

-- a number held or in flight has this cell
abbrev pub takes_cell : ℕ → List Entry → Bool
takes_cell cell [] = false
takes_cell cell (e ∷ es) = (is_out e.place && e.number % 256 == cell) || takes_cell cell es

-- the entry of a number
abbrev pub find : ℕ → List Entry → Option Entry
find n [] = None
find n (e ∷ es) = cond (e.number == n) (Some e) (find n es)

abbrev pub moved_to : Place → Entry → Entry
moved_to p e = record { number = e.number; place = p; size = e.size; time = e.time }

-- the number's entry is put into a place
abbrev pub move : ℕ → Place → List Entry → List Entry
move n p [] = []
move n p (e ∷ es) = cond (e.number == n) (moved_to p e ∷ es) (e ∷ move n p es)

-- checks 2 to 7
abbrev pub grant_check : Book → ℕ → ℕ → ℕ → Checked (Unit {0})
grant_check k size time window =
    cond (size == 0 || nat_lt k.mtu size) (Err Size)
    (cond (untimely k.latest time) (Err Time)
    (cond (not (count_in held k.entries == 0)) (Err Held)
    (cond (k.next == 0x1_0000_0000_0000) (Err NumbersExhausted)
    (cond (takes_cell (k.next % 256) k.entries) (Err CellTaken)
    (cond (nat_lt window (bytes_out k + size)) (Err Window)
    (Ok tt))))))

-- and check 8
abbrev pub paced_check : Checked (Unit {0}) → Option ℕ → Checked (Unit {0})
paced_check (Ok u) None = Ok tt
paced_check (Ok u) (Some ready) = Err (Paced ready)
paced_check (Err e) pace = Err e

-- check 9
abbrev pub is_held : Option Entry → ℕ → Bool
is_held None size = false
is_held (Some e) size = rank e.place == rank held && e.size == size

abbrev pub holds : Book → Label → Bool
holds k l = is_held (find l.number k.entries) l.size

-- checks 3 and 10
abbrev pub is_in_flight : Option Entry → Bool
is_in_flight None = false
is_in_flight (Some e) = rank e.place == rank in_flight

abbrev pub time_check : Book → ℕ → Checked (Unit {0})
time_check k time = cond (untimely k.latest time) (Err Time) (Ok tt)

abbrev pub flight_check : Book → ℕ → ℕ → Checked (Unit {0})
flight_check k n time =
    cond (untimely k.latest time) (Err Time) (cond (is_in_flight (find n k.entries)) (Ok tt) (Err NotInFlight))

abbrev pub Answer : Type 0
Answer = Result Accepted (Refusal Label)

-- a refusal of a call that presents no permit, among those of any call
abbrev pub widened : Refusal NoPermit → Refusal Label
widened (OutsideLimit layer) = OutsideLimit layer
widened Size = Size
widened Time = Time
widened Held = Held
widened NumbersExhausted = NumbersExhausted
widened CellTaken = CellTaken
widened Window = Window
widened (Paced time) = Paced time
widened (NotHeld none) = elim none [ ]
widened NotInFlight = NotInFlight
widened Malformed = Malformed
widened UnknownKind = UnknownKind

-- what a call answers
abbrev pub said : Checked (Unit {0}) → Answer
said (Ok u) = Ok Done
said (Err e) = Err (widened e)

abbrev pub said_grant : ℕ → ℕ → Checked (Unit {0}) → Answer
said_grant n size (Ok u) = Ok (Granted (record { number = n; size = size }))
said_grant n size (Err e) = Err (widened e)

abbrev pub event_answer : Book → Event → Checked (Unit {0})
event_answer k (Ack n delay limited time) = flight_check k n time
event_answer k (End limited time) = time_check k time
event_answer k (Lose n persistent time) = flight_check k n time
event_answer k (SetMtu mtu) = Ok tt

-- with a grant the book is given the window and the pacer's answer
abbrev pub answer : Book → Option Request → ℕ → Option ℕ → Option Answer
answer k None window pace = None
answer k (Some (Grant size time)) window pace =
    Some (said_grant k.next size (paced_check (grant_check k size time window) pace))
answer k (Some (Transmit l)) window pace = Some (cond (holds k l) (Ok Done) (Err (NotHeld l)))
answer k (Some (Withdraw l)) window pace = Some (cond (holds k l) (Ok Done) (Err (NotHeld l)))
answer k (Some (Tell event)) window pace = Some (said (event_answer k event))

-- what the book holds then
abbrev pub entered : Book → ℕ → ℕ → Book
entered k size time =
    record {
      next = k.next + 1;
      mtu = k.mtu;
      latest = time;
      entries = record { number = k.next; place = held; size = size; time = time } ∷ k.entries;
    }

abbrev pub at_time : Book → ℕ → Book
at_time k time = record { next = k.next; mtu = k.mtu; latest = time; entries = k.entries }

abbrev pub with_mtu : Book → ℕ → Book
with_mtu k mtu = record { next = k.next; mtu = mtu; latest = k.latest; entries = k.entries }

abbrev pub put : Book → ℕ → Place → Book
put k n place = record { next = k.next; mtu = k.mtu; latest = k.latest; entries = move n place k.entries }

abbrev pub granted : Book → ℕ → ℕ → Checked (Unit {0}) → Option ℕ → Book
granted k size time (Ok u) None = entered k size time
granted k size time (Ok u) (Some ready) = at_time k time
granted k size time (Err e) pace = k

abbrev pub accepted : Checked (Unit {0}) → Book → Book → Book
accepted (Ok u) after k = after
accepted (Err e) after k = k

abbrev pub event_after : Book → Event → Book
event_after k (Ack n delay limited time) = accepted (flight_check k n time) (at_time (put k n acknowledged) time) k
event_after k (End limited time) = accepted (time_check k time) (at_time k time) k
event_after k (Lose n persistent time) = accepted (flight_check k n time) (at_time (put k n lost) time) k
event_after k (SetMtu mtu) = with_mtu k mtu.value

abbrev pub after : Book → Option Request → ℕ → Option ℕ → Book
after k None window pace = k
after k (Some (Grant size time)) window pace = granted k size time (grant_check k size time window) pace
after k (Some (Transmit l)) window pace = cond (holds k l) (put k l.number in_flight) k
after k (Some (Withdraw l)) window pace = cond (holds k l) (put k l.number withdrawn) k
after k (Some (Tell event)) window pace = event_after k event

-- the bytes of a transmit that is accepted
abbrev pub sent_by : Book → Option Request → ℕ
sent_by k None = 0
sent_by k (Some (Grant size time)) = 0
sent_by k (Some (Transmit l)) = cond (holds k l) l.size 0
sent_by k (Some (Withdraw l)) = 0
sent_by k (Some (Tell event)) = 0
