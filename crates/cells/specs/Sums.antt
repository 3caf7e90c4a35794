-- What the cells of a path add up to. Assumes nothing.
use Rattle.std.specs.Prelude.{ℕ, List, sum_by}
use Rattle.cells.specs.declared.table.Cell.{Cell}
use Rattle.cells.specs.declared.table.Cell.TheVariants.{Free, Held, InFlight}

-- a cell's bytes held and in flight
abbrev pub held_size : Cell → ℕ
held_size Free = 0
held_size (Held d) = d.size
held_size (InFlight d) = 0

abbrev pub in_flight_size : Cell → ℕ
in_flight_size Free = 0
in_flight_size (Held d) = 0
in_flight_size (InFlight d) = d.size

-- 1 for a cell that holds a number, and for one whose number is in flight
abbrev pub held_one : Cell → ℕ
held_one Free = 0
held_one (Held d) = 1
held_one (InFlight d) = 0

abbrev pub in_flight_one : Cell → ℕ
in_flight_one Free = 0
in_flight_one (Held d) = 0
in_flight_one (InFlight d) = 1

abbrev pub bytes_held : List Cell → ℕ
bytes_held cells = sum_by held_size cells

abbrev pub bytes_in_flight : List Cell → ℕ
bytes_in_flight cells = sum_by in_flight_size cells
