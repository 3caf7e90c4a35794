-- What holds of the table of every path. Assumes nothing.
use Rattle.std.specs.Prelude.{◌≡◌, ℕ, ◌+◌, ◌*◌, ◌^◌, ◌<◌, ◌≤◌, length, sum_by, slice_index_or}
use Rattle.cells.specs.declared.table.Cell.TheVariants.{Free}
use Rattle.cells.specs.declared.table.CellTable.{CellTable}
use Rattle.cells.specs.declared.table.Counts.{Counts}
use Rattle.cells.specs.Sums.{held_size, in_flight_size, held_one, in_flight_one, bytes_held, bytes_in_flight}

-- the numbers in all five places
abbrev pub all_places : Counts → ℕ
all_places c = c.held + c.in_flight + c.acknowledged + c.lost + c.withdrawn

-- The kept sums and counts are those of the 256 cells.
abbrev pub Summed : CellTable → Type 0
Summed b =
    (length b.cells ≡ 256)
    × (b.held_bytes ≡ bytes_held b.cells)
    × (b.in_flight_bytes ≡ bytes_in_flight b.cells)
    × (b.counts.held ≡ sum_by held_one b.cells)
    × (b.counts.in_flight ≡ sum_by in_flight_one b.cells)

-- Each number from the first to the next is counted in one place, there are at most 2^48 of them, and no datagram is larger than
-- 1,500 bytes, the largest MTU.
abbrev pub Bounded : CellTable → Type 0
Bounded b =
    (b.first + all_places b.counts ≡ b.next)
    × (b.next ≤ 2 ^ 48)
    × ((i : ℕ) → i < 256 → held_size (slice_index_or b.cells i Free) + in_flight_size (slice_index_or b.cells i Free) ≤ 1500)
    × (b.held_bytes + b.in_flight_bytes ≤ 2 * (256 * 1500))

abbrev pub Sound : CellTable → Type 0
Sound b = Summed b × Bounded b
