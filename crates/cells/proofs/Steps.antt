-- Each step keeps a table sound. Assumes nothing.
use Rattle.std.proofs.Common.{◌≡◌, ℕ, ◌+◌, ◌%◌, ◌^◌, ◌<◌, ◌≤◌, Some, None, Ok, Err, Option, refl, ap, arith}
use Rattle.values.specs.declared.mtu.Mtu.{Mtu}
use Rattle.cells.specs.declared.table.Cell.TheVariants.{Free, Held, InFlight}
use Rattle.cells.specs.declared.table.CellTable.{CellTable}
use Rattle.cells.specs.declared.table.Counts.{Counts}
use Rattle.cells.specs.declared.table.Datagram.{Datagram}
use Rattle.cells.specs.declared.table.Label.{Label}
use Rattle.cells.specs.Sums.{held_size, in_flight_size}
use Rattle.cells.specs.Sound.{all_places, Sound}
use Rattle.cells.specs.Tables.{Checked, opened, cell_of, admitted, with_held, held_if, is_held, transmitted_if, transmitted, withdrawn_if, withdrawn, landing, freed, counted_if, one_acknowledged, one_lost, acknowledged, lost}
use Rattle.cells.proofs.Kept.{free_small, held_enough, in_flight_enough, replaced}
use Rattle.cells.proofs.Says.{admitted_says, held_says, landing_says}

pub opened_sound : (n : ℕ) (mtu : Mtu) (start : ℕ) → n < 2 ^ 48 → Sound (opened n mtu start)
opened_sound n mtu start h = (
  (refl, refl, refl, refl, refl),
  (
    omega arith,
    omega arith,
    free_small,
    omega arith,
  ),
)

small_was : (b : CellTable) (n : ℕ) (d : Datagram) → Sound b → cell_of b n ≡ Held d → d.size ≤ 1500
small_was b n d ok is = omega (arith, ok.1.2 (n % 256) (omega arith), ap held_size is, ap in_flight_size is)

-- whichever time becomes the latest
pub held_sound : (b : CellTable) (size time window latest : ℕ) → Sound b → (a : Checked (Unit {0})) → admitted b size time window ≡ a → Sound (held_if b size latest a)
held_sound b size time window latest ok (Err e) h = ok
held_sound b size time window latest ok (Ok u) h =
    let a = admitted_says b size time window h in
    let n = a.numbers in
    let limit = ok.1.1 in
    let largest = b.mtu.within.1 in
    replaced b (with_held b size latest) b.next Free (Held (record { number = b.next; size = size; time = latest })) ok
    (record {
      was = a.free;
      fits = omega (arith, a.fits, largest);
      cells = refl;
      held = omega arith;
      flight = omega arith;
      held_count = omega arith;
      flight_count = omega arith;
      numbers = omega (arith, ok.1.0);
      few = omega arith;
    })

transmitted_any : (b : CellTable) (l : Label) → Sound b → (o : Option Datagram) → is_held b l ≡ o → Sound (transmitted_if b l o)
transmitted_any b l ok None h = ok
transmitted_any b l ok (Some d) h =
    let f = held_says (cell_of b l.number) l d h in
    let enough = held_enough b l.number d ok f.was in
    let small = small_was b l.number d ok f.was in
    let is = f.size_is in
    replaced b (transmitted_if b l (Some d)) l.number (Held d) (InFlight d) ok
    (record {
      was = f.was;
      fits = omega arith;
      cells = refl;
      held = omega (arith, enough.0);
      flight = omega arith;
      held_count = omega (arith, enough.1);
      flight_count = omega arith;
      numbers = omega (arith, ok.1.0, enough.1);
      few = ok.1.1;
    })

pub transmitted_sound : (b : CellTable) (l : Label) → Sound b → Sound (transmitted b l)
transmitted_sound b l ok = transmitted_any b l ok (is_held b l) refl

withdrawn_any : (b : CellTable) (l : Label) → Sound b → (o : Option Datagram) → is_held b l ≡ o → Sound (withdrawn_if b l o)
withdrawn_any b l ok None h = ok
withdrawn_any b l ok (Some d) h =
    let f = held_says (cell_of b l.number) l d h in
    let enough = held_enough b l.number d ok f.was in
    let is = f.size_is in
    replaced b (withdrawn_if b l (Some d)) l.number (Held d) Free ok
    (record {
      was = f.was;
      fits = omega arith;
      cells = refl;
      held = omega (arith, enough.0);
      flight = omega arith;
      held_count = omega (arith, enough.1);
      flight_count = omega arith;
      numbers = omega (arith, ok.1.0, enough.1);
      few = ok.1.1;
    })

pub withdrawn_sound : (b : CellTable) (l : Label) → Sound b → Sound (withdrawn b l)
withdrawn_sound b l ok = withdrawn_any b l ok (is_held b l) refl

-- counted in one place more, whichever it is, and in none less
pub record OneMore (count : Counts → Counts) : Type 0 where
  pub held : (c : Counts) → (count c).held ≡ c.held
  pub flight : (c : Counts) → (count c).in_flight ≡ c.in_flight
  pub all : (c : Counts) → all_places (count c) ≡ all_places c + 1

counted_any : (count : Counts → Counts) → OneMore count → (b : CellTable) (n time : ℕ) → Sound b → (a : Checked Datagram) → landing b n time ≡ a → Sound (counted_if b n time count a)
counted_any count more b n time ok (Err e) h = ok
counted_any count more b n time ok (Ok d) h =
    let f = landing_says b n time d h in
    let enough = in_flight_enough b n d ok f.was in
    let c = (freed b n time d).counts in
    replaced b (counted_if b n time count (Ok d)) n (InFlight d) Free ok
    (record {
      was = f.was;
      fits = omega arith;
      cells = refl;
      held = omega arith;
      flight = omega (arith, enough.0);
      held_count = omega (arith, more.held c);
      flight_count = omega (arith, more.flight c, enough.1);
      numbers = omega (arith, ok.1.0, enough.1, more.all c);
      few = ok.1.1;
    })

pub acknowledged_sound : (b : CellTable) (n time : ℕ) → Sound b → Sound (acknowledged b n time)
acknowledged_sound b n time ok =
    counted_any one_acknowledged (record { held = λ c. refl; flight = λ c. refl; all = λ c. omega arith }) b n time ok (landing b n time) refl

pub lost_sound : (b : CellTable) (n time : ℕ) → Sound b → Sound (lost b n time)
lost_sound b n time ok =
    counted_any one_lost (record { held = λ c. refl; flight = λ c. refl; all = λ c. omega arith }) b n time ok (landing b n time) refl
