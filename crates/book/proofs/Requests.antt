-- One request, from any point where the book and the path agree. Assumes nothing.
use Rattle.std.proofs.Common.{◌≡◌, ℕ, ◌+◌, ◌-◌, ◌*◌, ◌^◌, ◌<◌, ◌≤◌, Bool, cond, List, is_some, Some, None, Ok, Err, Option, sym, refl, ap, ◌∙◌, subst, add-mul, one-mul, arith}
use Rattle.rtt.specs.Estimates.{Estimate}
use Rattle.congestion.specs.Meaning.{Meaning, told_sent, told_acked, told_end, told_lost, told_mtu}
use Rattle.congestion.specs.Rules.{Rules}
use Rattle.refusals.specs.declared.Refusal.TheVariants.{NotHeld}
use Rattle.cells.specs.Sound.{Sound}
use Rattle.cells.specs.Tables.{Checked, cell_of, admitted, in_time, landing, with_held, transmitted_if, withdrawn_if, counted_if, one_acknowledged, one_lost}
use Rattle.cells.specs.Tables as tables
use Rattle.cells.specs.declared.table.Cell.TheVariants.{Held, InFlight}
use Rattle.cells.specs.declared.table.CellTable.{CellTable}
use Rattle.cells.specs.declared.table.Counts.{Counts}
use Rattle.cells.specs.declared.table.Datagram.{Datagram}
use Rattle.cells.specs.declared.table.Label.{Label}
use Rattle.cells.proofs.Says.{admitted_says, held_says, landing_says}
use Rattle.path.specs.Paths.{PathState, pace, permitted, answered}
use Rattle.path.specs.Paths as paths
use Rattle.book.specs.declared.call.Accepted.TheVariants.{Done}
use Rattle.book.specs.declared.call.Event.{Event}
use Rattle.book.specs.declared.call.Event.TheVariants.{Ack, End, Lose, SetMtu}
use Rattle.book.specs.declared.call.Request.{Request}
use Rattle.book.specs.declared.call.Request.TheVariants.{Grant, Transmit, Withdraw, Tell}
use Rattle.book.specs.Book.{Answer, Place, Entry, Book, held, in_flight, acknowledged, lost, withdrawn, same, bytes_in, bytes_out, move, paced_check, said, said_grant, entered, at_time, with_mtu, put, granted, accepted, grant_check, holds, flight_check, time_check, sent_by}
use Rattle.book.specs.Book as book
use Rattle.book.specs.Agreement.{entry_of, Agrees}
use Rattle.book.specs.Requests.{pace_for, said_permit, said_held}
use Rattle.book.specs.Requests as requests
use Rattle.book.specs.Theorem.{Verdict, GrantLaw, Small}
use Rattle.book.proofs.Entries.{bytes_move, small_move}
use Rattle.book.proofs.Cells.{said_same}
use Rattle.book.proofs.Checks.{grant_is, time_is, holds_is, flight_is, refused_window}
use Rattle.book.proofs.Moves.{found, Ending, ends_acknowledged, ends_lost, transmitted_keeps, withdrawn_keeps, counted_keeps, entered_keeps, at_time_keeps, with_mtu_keeps}

-- the laws of a controller's steps
pub record Lawful {M : Type 0} (r : Rules M) : Type 0 where
  pub sends : (x : M) (t n p : ℕ) → r.meaning (r.sends x t n p) ≡ told_sent (r.meaning x) n
  pub acks : (x : M) (t s n : ℕ) (b : Bool) (e : Estimate) → r.meaning (r.acks x t s n b e) ≡ told_acked (r.meaning x) n (r.meaning (r.acks x t s n b e)).window
  pub ends : (x : M) (t f : ℕ) (b : Bool) (p : Option ℕ) → r.meaning (r.ends x t f b p) ≡ told_end (r.meaning x) (r.meaning (r.ends x t f b p)).window
  pub loses : (x : M) (t s : ℕ) (b : Bool) (n : ℕ) → r.meaning (r.loses x t s b n) ≡ told_lost (r.meaning x) n (r.meaning (r.loses x t s b n)).window
  pub resizes : (x : M) (n : ℕ) → r.meaning (r.resizes x n) ≡ told_mtu (r.meaning x) n (r.meaning (r.resizes x n)).window

-- the bytes that were transmitted, by what became of them
abbrev pub sent_all : List Entry → ℕ
sent_all es = bytes_in acknowledged es + bytes_in lost es + bytes_in in_flight es

-- from the book k and the meaning m to k', m' and the table b, with so many bytes transmitted
pub record Onward (k k' : Book) (m m' : Meaning) (b : CellTable) (bytes : ℕ) : Type 0 where
  pub agrees : Agrees k' b
  pub mtu : m'.mtu ≡ k'.mtu
  pub small : Small k'.entries
  pub sent : m.totals.sent + bytes < 2 ^ 64 → m'.totals.sent ≡ m.totals.sent + bytes
  pub acked_more : m.totals.acked + bytes_in acknowledged k'.entries < 2 ^ 64 → m'.totals.acked + bytes_in acknowledged k.entries ≡ m.totals.acked + bytes_in acknowledged k'.entries
  pub lost_more : m.totals.lost + bytes_in lost k'.entries < 2 ^ 64 → m'.totals.lost + bytes_in lost k.entries ≡ m.totals.lost + bytes_in lost k'.entries
  pub flow : bytes + sent_all k.entries ≡ sent_all k'.entries

module _ {M : Type 0} (r : Rules M) (law : Lawful r) (floor : ℕ) (k : Book) (s : PathState M) (ok : Agrees k s.table) (sound : Sound s.table) (mtu-is : (r.meaning s.controller).mtu ≡ k.mtu) (small : Small k.entries) where
  abbrev m : Meaning
  m = r.meaning s.controller

  abbrev b : CellTable
  b = s.table

  -- nothing that counts has changed
  stays : Onward k k m m b 0
  stays =
      record { agrees = ok; mtu = mtu-is; small = small; sent = λ h. omega arith; acked_more = λ h. refl; lost_more = λ h. refl; flow = omega arith }

  -- a permit that is presented, by the datagram that the table holds for it
  module _ (l : Label) where
    transmit_by : (o : Option Datagram) → tables.is_held b l ≡ o → Onward k (cond (is_some o) (put k l.number in_flight) k) m (r.meaning (paths.transmitted r s l o).controller) (paths.transmitted r s l o).table (cond (is_some o) l.size 0)
    transmit_by None h = stays
    transmit_by (Some d) h =
        let f = held_says (cell_of b l.number) l d h in
        let e = law.sends s.controller d.time d.size d.number in
        let there = found k b l.number (Held d) (entry_of held d) ok f.was (said_same held d l.number f.number) in
        let w : (x : Place) → bytes_in x (move l.number in_flight k.entries) + same x held * d.size ≡ bytes_in x k.entries + same x in_flight * d.size = λ x. bytes_move k.entries l.number x in_flight (entry_of held d) there in
        let is = f.size_is in
        record {
          agrees = transmitted_keeps k b l d ok sound f;
          mtu = ap (λ z. z.mtu) e ∙ mtu-is;
          small = small_move k.entries l.number in_flight small;
          sent = λ h. omega (arith, ap (λ z. z.totals.sent) e, is);
          acked_more = λ h. omega (arith, ap (λ z. z.totals.acked) e, w acknowledged);
          lost_more = λ h. omega (arith, ap (λ z. z.totals.lost) e, w lost);
          flow = omega (arith, w acknowledged, w lost, w in_flight, is);
        }

    withdraw_by : (o : Option Datagram) → tables.is_held b l ≡ o → Onward k (cond (is_some o) (put k l.number withdrawn) k) m m (withdrawn_if b l o) 0
    withdraw_by None h = stays
    withdraw_by (Some d) h =
        let f = held_says (cell_of b l.number) l d h in
        let there = found k b l.number (Held d) (entry_of held d) ok f.was (said_same held d l.number f.number) in
        let w : (x : Place) → bytes_in x (move l.number withdrawn k.entries) + same x held * d.size ≡ bytes_in x k.entries + same x withdrawn * d.size = λ x. bytes_move k.entries l.number x withdrawn (entry_of held d) there in
        record {
          agrees = withdrawn_keeps k b l d ok sound f;
          mtu = mtu-is;
          small = small_move k.entries l.number withdrawn small;
          sent = λ h. omega arith;
          acked_more = λ h. omega (arith, w acknowledged);
          lost_more = λ h. omega (arith, w lost);
          flow = omega (arith, w acknowledged, w lost, w in_flight);
        }

    held_answer : (o : Option Datagram) → said_held l o ≡ cond (is_some o) (Ok Done) (Err (NotHeld l))
    held_answer o = grind arith

  -- a number that comes to its end at q, of which the controller is told
  landed : (n time : ℕ) (d : Datagram) (q : Place) (count : Counts → Counts) (m' : Meaning) → Ending q count → landing b n time ≡ Ok d → m'.mtu ≡ m.mtu → m'.totals.sent ≡ m.totals.sent → (m.totals.acked + same acknowledged q * d.size < 2 ^ 64 → m'.totals.acked ≡ m.totals.acked + same acknowledged q * d.size) → (m.totals.lost + same lost q * d.size < 2 ^ 64 → m'.totals.lost ≡ m.totals.lost + same lost q * d.size) → Onward k (at_time (put k n q) time) m m' (counted_if b n time count (landing b n time)) 0
  landed n time d q count m' ending h same-mtu same_sent told-acks told-losses =
      let f = landing_says b n time d h in
      let there = found k b n (InFlight d) (entry_of in_flight d) ok f.was (said_same in_flight d n f.number) in
      let w : (x : Place) → bytes_in x (move n q k.entries) + same x in_flight * d.size ≡ bytes_in x k.entries + same x q * d.size = λ x. bytes_move k.entries n x q (entry_of in_flight d) there in
      let none : same in_flight q * d.size ≡ 0 = rw ending.not_in_flight (omega arith) in
      record {
        agrees = subst (λ z. Agrees (at_time (put k n q) time) (counted_if b n time count z)) (sym h) (counted_keeps k b n d ok sound f.number time q count ending f.was);
        mtu = same-mtu ∙ mtu-is;
        small = small_move k.entries n q small;
        sent = λ h. omega (arith, same_sent);
        acked_more = λ h. omega (arith, told-acks (omega (arith, w acknowledged)), w acknowledged);
        lost_more = λ h. omega (arith, told-losses (omega (arith, w lost)), w lost);
        flow = omega (arith, w acknowledged, w lost, w in_flight, none, ending.either d.size);
      }

  ack_by : (n delay : ℕ) (limited : Bool) (time : ℕ) (a : Checked Datagram) → landing b n time ≡ a → Onward k (accepted (answered a) (at_time (put k n acknowledged) time) k) m (r.meaning (paths.acknowledged r s n delay limited time a).controller) (paths.acknowledged r s n delay limited time a).table 0
  ack_by n delay limited time (Err e) h = stays
  ack_by n delay limited time (Ok d) h =
      let e = law.acks s.controller time d.time d.size limited (paths.sampled s d delay time).estimate in
      landed n time d acknowledged one_acknowledged _ ends_acknowledged h (ap (λ z. z.mtu) e) (ap (λ z. z.totals.sent) e)
      (λ fits. omega (arith, ap (λ z. z.totals.acked) e)) (λ fits. omega (arith, ap (λ z. z.totals.lost) e))

  lose_by : (n : ℕ) (persistent : Bool) (time : ℕ) (a : Checked Datagram) → landing b n time ≡ a → Onward k (accepted (answered a) (at_time (put k n lost) time) k) m (r.meaning (paths.lost r s n persistent time a).controller) (paths.lost r s n persistent time a).table 0
  lose_by n persistent time (Err e) h = stays
  lose_by n persistent time (Ok d) h =
      let e = law.loses s.controller time d.time persistent d.size in
      landed n time d lost one_lost _ ends_lost h (ap (λ z. z.mtu) e) (ap (λ z. z.totals.sent) e)
      (λ fits. omega (arith, ap (λ z. z.totals.acked) e)) (λ fits. omega (arith, ap (λ z. z.totals.lost) e))

  end_by : (limited : Bool) (time : ℕ) (a : Checked (Unit {0})) → Onward k (accepted a (at_time k time) k) m (r.meaning (paths.ended r s limited time a).controller) (paths.ended r s limited time a).table 0
  end_by limited time (Err e) = stays
  end_by limited time (Ok u) =
      let e = law.ends s.controller time b.in_flight_bytes limited s.largest in
      record {
        agrees = at_time_keeps k b ok time;
        mtu = ap (λ z. z.mtu) e ∙ mtu-is;
        small = small;
        sent = λ h. omega (arith, ap (λ z. z.totals.sent) e);
        acked_more = λ h. omega (arith, ap (λ z. z.totals.acked) e);
        lost_more = λ h. omega (arith, ap (λ z. z.totals.lost) e);
        flow = omega arith;
      }

  -- a grant, by the table's checks and the pacer's answer
  record GrantedBy (size time : ℕ) (a : Checked (Unit {0})) (o : Option ℕ) : Type 0 where
    answer : said_permit (permitted b.next size a o) ≡ said_grant k.next size (paced_check a o)
    onward : Onward k (granted k size time a o) m (r.meaning (paths.granted r s size time a o).controller) (paths.granted r s size time a o).table 0
    verdict : Verdict floor k m.window (granted k size time a o) (paced_check a o)

  module _ (low : 1 ≤ floor) (wide : floor * m.mtu ≤ m.window) where
    grant_by : (size time : ℕ) (a : Checked (Unit {0})) (o : Option ℕ) → admitted b size time m.window ≡ a → GrantedBy size time a o
    grant_by size time (Ok u) None h =
        let a = admitted_says b size time m.window h in
        let largest = b.mtu.within.1 in
        record {
          answer = ap (λ n. said_grant n size (Ok tt)) (sym ok.next);
          onward = record {
            agrees = entered_keeps k b ok size time sound a.free;
            mtu = mtu-is;
            small = (omega (arith, a.fits, largest), small);
            sent = λ h. omega arith;
            acked_more = λ h. omega arith;
            lost_more = λ h. omega arith;
            flow = omega arith;
          };
          verdict = omega (arith, a.room, ok.held_bytes, ok.flight_bytes);
        }
    grant_by size time (Ok u) (Some ready) h =
        record {
          answer = refl;
          onward = record {
            agrees = at_time_keeps k b ok time;
            mtu = mtu-is;
            small = small;
            sent = λ h. omega arith;
            acked_more = λ h. refl;
            lost_more = λ h. refl;
            flow = omega arith;
          };
          verdict = λ is. absurd cc;
        }
    grant_by size time (Err e) o h =
        record {
          answer = refl;
          onward = stays;
          verdict = λ is.
              let p = refused_window b size time m.window (h ∙ ap Err is) in
              let split : floor * m.mtu ≡ (floor - 1) * m.mtu + m.mtu = ap (λ f. f * m.mtu) (let q : floor ≡ (floor - 1) + 1 = omega arith in q) ∙ add-mul (floor - 1) 1 m.mtu ∙ ap (λ z. (floor - 1) * m.mtu + z) (one-mul m.mtu) in
              let there : (floor - 1) * m.mtu ≡ (floor - 1) * k.mtu = ap (λ z. (floor - 1) * z) mtu-is in
              omega (arith, split, there, wide, p.0, p.1, mtu-is, ok.mtu, ok.held_bytes, ok.flight_bytes);
        }

    -- what a request does to book and path alike
    pub record Stepped (q : Option Request) : Type 0 where
      pub answer : requests.answer r s q ≡ book.answer k q m.window (pace_for r s q)
      pub onward : Onward k (book.after k q m.window (pace_for r s q)) m (r.meaning (requests.after r s q).controller) (requests.after r s q).table (sent_by k q)
      pub law_holds : GrantLaw floor k q m.window (pace_for r s q)

    event_step : (event : Event) → Stepped (Some (Tell event))
    event_step (Ack n delay limited time) =
        let is = flight_is ok n time in
        record {
          answer = ap (λ z. Some (said z)) (sym is);
          onward = subst (λ c. Onward k (accepted c (at_time (put k n acknowledged) time) k) m (r.meaning (requests.after r s (Some (Tell (Ack n delay limited time)))).controller) (requests.after r s (Some (Tell (Ack n delay limited time)))).table 0) (sym is) (ack_by n delay limited time (landing b n time) refl);
          law_holds = tt;
        }
    event_step (End limited time) =
        let is = time_is ok time in
        record {
          answer = ap (λ z. Some (said z)) (sym is);
          onward = subst (λ c. Onward k (accepted c (at_time k time) k) m (r.meaning (requests.after r s (Some (Tell (End limited time)))).controller) (requests.after r s (Some (Tell (End limited time)))).table 0) (sym is) (end_by limited time (in_time b time));
          law_holds = tt;
        }
    event_step (Lose n persistent time) =
        let is = flight_is ok n time in
        record {
          answer = ap (λ z. Some (said z)) (sym is);
          onward = subst (λ c. Onward k (accepted c (at_time (put k n lost) time) k) m (r.meaning (requests.after r s (Some (Tell (Lose n persistent time)))).controller) (requests.after r s (Some (Tell (Lose n persistent time)))).table 0) (sym is) (lose_by n persistent time (landing b n time) refl);
          law_holds = tt;
        }
    event_step (SetMtu mtu) =
        let e = law.resizes s.controller mtu.value in
        record {
          answer = refl;
          onward = record {
            agrees = with_mtu_keeps k b ok mtu;
            mtu = ap (λ z. z.mtu) e;
            small = small;
            sent = λ h. omega (arith, ap (λ z. z.totals.sent) e);
            acked_more = λ h. omega (arith, ap (λ z. z.totals.acked) e);
            lost_more = λ h. omega (arith, ap (λ z. z.totals.lost) e);
            flow = omega arith;
          };
          law_holds = tt;
        }

    pub step : (q : Option Request) → Stepped q
    step None = record { answer = refl; onward = stays; law_holds = tt }
    step (Some (Grant size time)) =
        let o = pace r s size time in
        let is = sym (grant_is ok size time m.window) in
        let by = grant_by size time (admitted b size time m.window) o refl in
        record {
          answer = ap Some (by.answer ∙ ap (λ c. said_grant k.next size (paced_check c o)) is);
          onward = subst (λ c. Onward k (granted k size time c o) m (r.meaning (requests.after r s (Some (Grant size time))).controller) (requests.after r s (Some (Grant size time))).table 0) is by.onward;
          law_holds = subst (λ c. Verdict floor k m.window (granted k size time c o) (paced_check c o)) is by.verdict;
        }
    step (Some (Transmit l)) =
        let is = holds_is ok l in
        let o = tables.is_held b l in
        record {
          answer = ap Some (held_answer l o ∙ ap (λ h. cond {A = Answer} h (Ok Done) (Err (NotHeld l))) (sym is));
          onward = subst (λ h. Onward k (cond h (put k l.number in_flight) k) m (r.meaning (requests.after r s (Some (Transmit l))).controller) (requests.after r s (Some (Transmit l))).table (cond h l.size 0)) (sym is) (transmit_by l o refl);
          law_holds = tt;
        }
    step (Some (Withdraw l)) =
        let is = holds_is ok l in
        let o = tables.is_held b l in
        record {
          answer = ap Some (held_answer l o ∙ ap (λ h. cond {A = Answer} h (Ok Done) (Err (NotHeld l))) (sym is));
          onward = subst (λ h. Onward k (cond h (put k l.number withdrawn) k) m m (requests.after r s (Some (Withdraw l))).table 0) (sym is) (withdraw_by l o refl);
          law_holds = tt;
        }
    step (Some (Tell event)) = event_step event
