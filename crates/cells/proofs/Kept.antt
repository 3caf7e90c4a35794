-- A table stays sound where one cell and what is kept of it are replaced together. Assumes nothing.
use Rattle.std.proofs.Common.{◌≡◌, ℕ, ◌+◌, ◌*◌, ◌%◌, ◌^◌, ◌<◌, ◌≤◌, List, length, get_or, replicate, set, sum_by, sym, ap, ◌∙◌, subst, ⊎_elim, arith, length-set, get_or-set_other, get_or-set_same}
use Rattle.std.proofs.lemmas.List.{get_or-replicate}
use Rattle.std.proofs.lemmas.List.Sums.{sum_by-set, get_or-le-sum_by}
use Rattle.std.proofs.ByRecursion.{sum_by_le, All-from_get_or}
use Rattle.std.proofs.lemmas.Bool.{cases_eq}
use Rattle.cells.specs.declared.table.Cell.{Cell}
use Rattle.cells.specs.declared.table.Cell.TheVariants.{Free, Held, InFlight}
use Rattle.cells.specs.declared.table.CellTable.{CellTable}
use Rattle.cells.specs.declared.table.Datagram.{Datagram}
use Rattle.cells.specs.Sums.{held_size, in_flight_size, held_one, in_flight_one}
use Rattle.cells.specs.Sound.{all_places, Sound}
use Rattle.cells.specs.Tables.{cell_of}

abbrev pub Small : Cell → Type 0
Small c = held_size c + in_flight_size c ≤ 1500

pub free_small : (i : ℕ) → i < 256 → Small (get_or (replicate 256 Free) i Free)
free_small i lt = rw (get_or-replicate 256 i Free Free lt) (omega arith)

-- what a cell has is part of the sum
part : (f : Cell → ℕ) (b : CellTable) (n : ℕ) (c : Cell) → Sound b → cell_of b n ≡ c → f c ≤ sum_by f b.cells
part f b n c ok is =
    let inside : n % 256 < length b.cells = omega arith in
    subst (λ z. f z ≤ sum_by f b.cells) is (get_or-le-sum_by f b.cells (n % 256) Free inside)

pub held_enough : (b : CellTable) (n : ℕ) (d : Datagram) → Sound b → cell_of b n ≡ Held d → (d.size ≤ b.held_bytes) × (1 ≤ b.counts.held)
held_enough b n d ok is = (omega (arith, part held_size b n (Held d) ok is), omega (arith, part held_one b n (Held d) ok is))

pub in_flight_enough : (b : CellTable) (n : ℕ) (d : Datagram) → Sound b → cell_of b n ≡ InFlight d → (d.size ≤ b.in_flight_bytes) × (1 ≤ b.counts.in_flight)
in_flight_enough b n d ok is =
    (omega (arith, part in_flight_size b n (InFlight d) ok is), omega (arith, part in_flight_one b n (InFlight d) ok is))

small_put : (cs : List Cell) (i : ℕ) (new : Cell) → i < length cs → Small new → ((m : ℕ) → m < 256 → Small (get_or cs m Free)) → (m : ℕ) → m < 256 → Small (get_or (set cs i new) m Free)
small_put cs i new inside fits all m h =
    ⊎_elim
    (λ y. subst Small (sym (ap (λ z. get_or (set cs i new) z Free) y ∙ get_or-set_same cs i new Free inside)) fits)
    (λ ne. subst Small (sym (get_or-set_other cs i m new Free ne)) (all m h))
    (cases_eq m i)

-- 256 cells of at most 1,500 bytes
light : (f : Cell → ℕ) (cs : List Cell) → length cs ≡ 256 → ((m : ℕ) → m < 256 → f (get_or cs m Free) ≤ 1500) → sum_by f cs ≤ 256 * 1500
light f cs len all =
    subst (λ z. sum_by f cs ≤ z * 1500) len (sum_by_le f 1500 cs (All-from_get_or (λ x. f x ≤ 1500) cs Free (λ i h. all i (omega arith))))

-- one cell is another, and the sums and counts follow
pub record Replaced (b b' : CellTable) (n : ℕ) (old new : Cell) : Type 0 where
  pub was : cell_of b n ≡ old
  pub fits : Small new
  pub cells : b'.cells ≡ set b.cells (n % 256) new
  pub held : b'.held_bytes + held_size old ≡ b.held_bytes + held_size new
  pub flight : b'.in_flight_bytes + in_flight_size old ≡ b.in_flight_bytes + in_flight_size new
  pub held_count : b'.counts.held + held_one old ≡ b.counts.held + held_one new
  pub flight_count : b'.counts.in_flight + in_flight_one old ≡ b.counts.in_flight + in_flight_one new
  pub numbers : b'.first + all_places b'.counts ≡ b'.next
  pub few : b'.next ≤ 2 ^ 48

pub replaced : (b b' : CellTable) (n : ℕ) (old new : Cell) → Sound b → Replaced b b' n old new → Sound b'
replaced b b' n old new ok r =
    let inside : n % 256 < length b.cells = omega arith in
    let cs = set b.cells (n % 256) new in
    let len : length cs ≡ 256 = length-set b.cells (n % 256) new ∙ ok.0.0 in
    let small = small_put b.cells (n % 256) new inside r.fits ok.1.2 in
    let sums : (f : Cell → ℕ) → sum_by f cs + f old ≡ sum_by f b.cells + f new = λ f. ap (λ z. sum_by f cs + f z) (sym r.was) ∙ sum_by-set f b.cells (n % 256) new Free inside in
    let all_held : sum_by held_size cs ≤ 256 * 1500 = light held_size cs len (λ m h. omega (arith, small m h)) in
    let all-flight : sum_by in_flight_size cs ≤ 256 * 1500 = light in_flight_size cs len (λ m h. omega (arith, small m h)) in
    let held : b'.held_bytes ≡ sum_by held_size cs = omega (arith, r.held, sums held_size) in
    let flight : b'.in_flight_bytes ≡ sum_by in_flight_size cs = omega (arith, r.flight, sums in_flight_size) in
    let held_count : b'.counts.held ≡ sum_by held_one cs = omega (arith, r.held_count, sums held_one) in
    let flight_count : b'.counts.in_flight ≡ sum_by in_flight_one cs = omega (arith, r.flight_count, sums in_flight_one) in
    let there = sym r.cells in (
      (
        ap length r.cells ∙ len,
        held ∙ ap (sum_by held_size) there,
        flight ∙ ap (sum_by in_flight_size) there,
        held_count ∙ ap (sum_by held_one) there,
        flight_count ∙ ap (sum_by in_flight_one) there,
      ),
      (
        r.numbers,
        r.few,
        λ m h. subst (λ z. Small (get_or z m Free)) there (small m h),
        omega (arith, held, flight, all_held, all-flight),
      ),
    )
