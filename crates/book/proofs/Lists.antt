-- What stands after a list of calls stands after one more. Assumes nothing.
use Rattle.std.proofs.Common.{◌≡◌, ℕ, ◌+◌, ◌*◌, ◌%◌, ◌^◌, ◌≤◌, List, [], ◌∷◌, ◌++◌, Option, sym, refl, ap, ◌∙◌, subst, arith}
use Rattle.std.proofs.lemmas.List.{get_or-replicate}
use Rattle.values.specs.declared.opening.Opening.{Opening}
use Rattle.congestion.specs.Meaning.{Meaning}
use Rattle.congestion.specs.Rules.{Rules}
use Rattle.cells.specs.Sound.{Sound}
use Rattle.cells.specs.Tables.{nowhere}
use Rattle.cells.specs.declared.table.Cell.TheVariants.{Free}
use Rattle.path.specs.Paths.{PathState, window_of, reported}
use Rattle.path.specs.Paths as paths
use Rattle.book.specs.declared.call.Call.{Call}
use Rattle.book.specs.declared.call.Request.{Request}
use Rattle.book.specs.declared.call.Step.{Step}
use Rattle.book.specs.Book.{Place, Entry, Book, held, in_flight, acknowledged, lost, withdrawn, same, bytes_in, count_in, sent_by}
use Rattle.book.specs.Book as book
use Rattle.book.specs.Agreement.{says, Own, Numbered, count_of, Agrees}
use Rattle.book.specs.Requests.{pace_for}
use Rattle.book.specs.Requests as requests
use Rattle.book.specs.Settings.{Setting, request_of, noted, next}
use Rattle.book.specs.Theorem.{transmitted, Answered, GrantLaw, Granted, Reports, Small, Modest, Stands}
use Rattle.book.specs.Theorem as theorem
use Rattle.book.proofs.Entries.{numbered_length}
use Rattle.book.proofs.Requests.{Lawful, sent_all, step}

-- with one step more at the end
book_more : (k : Book) (ss : List Step) (s : Step) → theorem.book k (ss ++ s ∷ []) ≡ book.after (theorem.book k ss) s.request s.window s.pace
book_more k [] s = refl
book_more k (x ∷ ss) s = book_more (book.after k x.request x.window x.pace) ss s

transmitted_more : (k : Book) (ss : List Step) (s : Step) → transmitted k (ss ++ s ∷ []) ≡ transmitted k ss + sent_by (theorem.book k ss) s.request
transmitted_more k [] s = omega arith
transmitted_more k (x ∷ ss) s = omega (arith, transmitted_more (book.after k x.request x.window x.pace) ss s)

answered_more : (k : Book) (ss : List Step) (s : Step) → Answered k ss → s.answer ≡ book.answer (theorem.book k ss) s.request s.window s.pace → Answered k (ss ++ s ∷ [])
answered_more k [] s h a = (a, tt)
answered_more k (x ∷ ss) s h a = (h.0, answered_more (book.after k x.request x.window x.pace) ss s h.1 a)

granted_more : (floor : ℕ) (k : Book) (ss : List Step) (s : Step) → Granted floor k ss → GrantLaw floor (theorem.book k ss) s.request s.window s.pace → Granted floor k (ss ++ s ∷ [])
granted_more floor k [] s h a = (a, tt)
granted_more floor k (x ∷ ss) s h a = (h.0, granted_more floor (book.after k x.request x.window x.pace) ss s h.1 a)

-- at most 1,500 bytes for each number handed out
one_place : (p : Place) (n : ℕ) → same acknowledged p * n + same lost p * n + same in_flight p * n ≤ n
one_place p n = grind arith

few_bytes : (es : List Entry) (first next : ℕ) → Numbered first next es → Small es → (first ≤ next) × (sent_all es + 1500 * first ≤ 1500 * next)
few_bytes [] first next k h = (omega (arith, k), omega (arith, k))
few_bytes (e ∷ es) first next k h =
    let r = few_bytes es first e.number k.1 h.1 in
    (omega (arith, k.0, r.0), omega (arith, k.0, r.1, h.0, one_place e.place e.size))

reports : {M : Type 0} (k : Book) (s : PathState M) → Agrees k s.table → Reports (reported s) k
reports k s ok = (omega (arith, numbered_length k.entries s.table.first k.next ok.numbered, ok.next), ok.counts)

module _ {M : Type 0} (r : Rules M) (law : Lawful r) (floor : ℕ) (k : Book) (m : Meaning) (modest : Modest m) where
  -- the step that a call notes
  abbrev pub step_of : PathState M → Call → Option Request → Step
  step_of s call q = record { call = call; request = q; window = window_of r s; pace = pace_for r s q; answer = requests.answer r s q }

  pub one_more : (ss : List Step) (s : PathState M) (call : Call) (q : Option Request) → Sound s.table → (requests.after r s q).table.next ≤ 2 ^ 48 → 1 ≤ floor → floor * (r.meaning s.controller).mtu ≤ window_of r s → Stands r.meaning floor k m ss s → Stands r.meaning floor k m (ss ++ step_of s call q ∷ []) (requests.after r s q)
  one_more ss s call q sound limit low wide old =
      let x = step_of s call q in
      let k₁ = theorem.book k ss in
      let st = step r law floor k₁ s old.agrees sound old.mtu old.small low wide q in
      let on = st.onward in
      let k₂ = book.after k₁ q (window_of r s) (pace_for r s q) in
      let s' = requests.after r s q in
      let is : theorem.book k (ss ++ x ∷ []) ≡ k₂ = book_more k ss x in
      let more = transmitted_more k ss x in
      let bound = (few_bytes k₂.entries s'.table.first k₂.next on.agrees.numbered on.small).1 in
      let last : k₂.next ≤ 2 ^ 48 = omega (arith, on.agrees.next, limit) in
      let flow = on.flow in
      let sent = on.sent (omega (arith, bound, last, flow, old.sent, old.flow, modest.sent)) in
      let acked = on.acked_more (omega (arith, bound, last, flow, old.acked_all, old.flow, modest.acked)) in
      let losses = on.lost_more (omega (arith, bound, last, flow, old.lost_all, old.flow, modest.lost)) in
      let now-in : (p : Place) → bytes_in p (theorem.book k (ss ++ x ∷ [])).entries ≡ bytes_in p k₂.entries = λ p. ap (λ z. bytes_in p z.entries) is in
      record {
        answered = answered_more k ss x old.answered st.answer;
        agrees = subst (λ z. Agrees z s'.table) (sym is) on.agrees;
        reports = subst (λ z. Reports (reported s') z) (sym is) (reports k₂ s' on.agrees);
        sent = omega (arith, sent, more, old.sent);
        acked_all = omega (arith, acked, now-in acknowledged, old.acked_all);
        lost_all = omega (arith, losses, now-in lost, old.lost_all);
        flow = omega (arith, more, flow, now-in acknowledged, now-in lost, now-in in_flight, old.flow);
        granted = granted_more floor k ss x old.granted st.law_holds;
        mtu = on.mtu ∙ ap (λ z. z.mtu) (sym is);
        small = subst (λ z. Small z.entries) (sym is) on.small;
      }

  -- the same of the step and the state that a call left
  pub added : (ss : List Step) (x : Setting M) (call : Call) (st : Step) (s' : PathState M) → st ≡ noted r x call → s' ≡ (next r x call).path → Sound x.path.table → s'.table.next ≤ 2 ^ 48 → 1 ≤ floor → floor * (r.meaning x.path.controller).mtu ≤ window_of r x.path → Stands r.meaning floor k m ss x.path → Stands r.meaning floor k m (ss ++ st ∷ []) s'
  added ss x call st s' e f sound limit low wide old =
      let there : (next r x call).path.table.next ≤ 2 ^ 48 = subst (λ z. z.table.next ≤ 2 ^ 48) f limit in
      let new = one_more ss x.path call (request_of x.purse call) sound there low wide old in
      subst (λ z. Stands r.meaning floor k m (ss ++ z ∷ []) s') (sym e) (subst (λ z. Stands r.meaning floor k m (ss ++ noted r x call ∷ []) z) (sym f) new)

-- a path begun afresh
none : (p : Place) → count_of nowhere p ≡ 0
none p = grind arith

pub begun : {M : Type 0} (r : Rules M) → Lawful r → (floor : ℕ) (x : M) (o : Opening) → Stands r.meaning floor (book.opened o) (r.meaning x) [] (paths.opened r x o)
begun r law floor x o =
    let s = paths.opened r x o in
    let e = law.resizes x o.mtu.value in
    let ag : Agrees (book.opened o) s.table = record {
      next = refl;
      mtu = refl;
      latest = refl;
      numbered = refl;
      cells = λ n. ap (λ z. says z n) (get_or-replicate 256 (n % 256) Free Free (omega arith));
      own = λ i lt. subst (Own i) (sym (get_or-replicate 256 i Free Free lt)) tt;
      counts = none;
      held_bytes = refl;
      flight_bytes = refl;
    } in
    record {
      answered = tt;
      agrees = ag;
      reports = reports (book.opened o) s ag;
      sent = omega (arith, ap (λ z. z.totals.sent) e);
      acked_all = omega (arith, ap (λ z. z.totals.acked) e);
      lost_all = omega (arith, ap (λ z. z.totals.lost) e);
      flow = refl;
      granted = tt;
      mtu = ap (λ z. z.mtu) e;
      small = tt;
    }
