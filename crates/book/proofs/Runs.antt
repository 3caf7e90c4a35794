-- A list of calls, one after the other. Assumes nothing.
use Rattle.std.proofs.Common.{◌≡◌, ℕ, ◌+◌, ◌<◌, ◌≤◌, List, [], ◌∷◌, ◌++◌, length, get_or, take, drop, set, sym, refl, ap, ◌∙◌, subst, ⊎_elim, add-one, arith, take_all, drop-cons, drop-set-lt}
use lib.Seq.{take-set-le}
use Rattle.std.proofs.lemmas.List.{take_more, take_more_set}
use Rattle.std.proofs.lemmas.Bool.{cases_eq}
use Rattle.congestion.specs.Meaning.{Meaning}
use Rattle.congestion.specs.Rules.{Rules}
use Rattle.book.specs.declared.call.Step.{Step}
use Rattle.book.specs.Book.{Book}
use Rattle.book.specs.Settings.{Setting, noted, next, last, log, Backed}
use Rattle.book.specs.Theorem.{Modest, Stands}

module _ {M : Type 0} (r : Rules M) (floor : ℕ) (x : Setting M) (before : List Step) where
  log_more : (y : Setting M) (ss : List Step) (s : Step) → log r y (ss ++ s ∷ []) ≡ log r y ss ++ noted r (last r y ss) s.call ∷ []
  log_more y [] s = refl
  log_more y (t ∷ ss) s = ap (λ z. noted r y t.call ∷ z) (log_more (next r y t.call) ss s)

  last_more : (y : Setting M) (ss : List Step) (s : Step) → last r y (ss ++ s ∷ []) ≡ next r (last r y ss) s.call
  last_more y [] s = refl
  last_more y (t ∷ ss) s = last_more (next r y t.call) ss s

  -- i calls of the list were made from x and led to y: those to come are as they were, those made are noted, and what stood at the start
  -- stands after each
  pub record Progress (steps : List Step) (i : ℕ) (y : Setting M) : Type 0 where
    pub rest : drop i steps ≡ drop i before
    pub noted_all : take i steps ≡ log r x (take i before)
    pub there : y ≡ last r x (take i before)
    pub stands : (k : Book) (start : Meaning) → Modest start → Stands r.meaning floor k start [] x.path → (j : ℕ) → j ≤ i → Stands r.meaning floor k start (take j steps) (last r x (take j before)).path
    pub backed : length x.purse ≡ 1 → Backed x.path.table x.purse → Backed y.path.table y.purse

  none_made : (k : Book) (start : Meaning) → Modest start → Stands r.meaning floor k start [] x.path → (j : ℕ) → j ≤ 0 → Stands r.meaning floor k start (take j before) (last r x (take j before)).path
  none_made k start modest s j h = subst (λ z. Stands r.meaning floor k start (take z before) (last r x (take z before)).path) (let e : 0 ≡ j = omega arith in e) s

  pub begin : Progress before 0 x
  begin = record { rest = refl; noted_all = refl; there = refl; stands = none_made; backed = λ one old. old }

  pub turn : (steps : List Step) (i : ℕ) (y : Setting M) (d st : Step) (y' : Setting M) → i < length steps → i < length before → st ≡ noted r y (get_or steps i d).call → y' ≡ next r y (get_or steps i d).call → ((k : Book) (start : Meaning) (ss : List Step) → Modest start → Stands r.meaning floor k start ss y.path → Stands r.meaning floor k start (ss ++ st ∷ []) y'.path) → length y.purse ≡ length x.purse → (length y.purse ≡ 1 → Backed y.path.table y.purse → Backed y'.path.table y'.purse) → Progress steps i y → Progress (set steps i st) (i + 1) y'
  turn steps i y d st y' inside inside' made moved keeps long backs p =
      let one = add-one i in
      let same : get_or steps i d ∷ drop (i + 1) steps ≡ get_or before i d ∷ drop (i + 1) before = rw one (sym (drop-cons steps i d inside) ∙ p.rest ∙ drop-cons before i d inside') in
      let call-is : (get_or steps i d).call ≡ (get_or before i d).call = let e : get_or steps i d ≡ get_or before i d = cc in ap (λ z. z.call) e in
      let tail : drop (i + 1) steps ≡ drop (i + 1) before = cc in
      let s₀ = get_or before i d in
      let so_far : take i before ++ s₀ ∷ [] ≡ take (i + 1) before = sym (take_more before i d inside') in
      let made-is : st ≡ noted r (last r x (take i before)) s₀.call = made ∙ (λ j. noted r (p.there j) (call-is j)) in
      let there : y' ≡ last r x (take (i + 1) before) = moved ∙ (λ j. next r (p.there j) (call-is j)) ∙ sym (last_more x (take i before) s₀) ∙ ap (last r x) so_far in
      let row : take (i + 1) (set steps i st) ≡ take i steps ++ st ∷ [] = take_more_set steps i st inside in
      record {
        rest = drop-set-lt (i + 1) steps i st (omega arith) ∙ tail;
        noted_all = row ∙ (λ j. p.noted_all j ++ made-is j ∷ []) ∙ sym (log_more x (take i before) s₀) ∙ ap (log r x) so_far;
        there = there;
        stands = λ k start modest s j h.
            ⊎_elim
            (λ e.
            let old : Stands r.meaning floor k start (take i steps) y.path = subst (λ z. Stands r.meaning floor k start (take i steps) z.path) (sym p.there) (p.stands k start modest s i (omega arith)) in
            let new = keeps k start (take i steps) modest old in
            let at : Stands r.meaning floor k start (take (i + 1) (set steps i st)) (last r x (take (i + 1) before)).path = subst (λ z. Stands r.meaning floor k start z (last r x (take (i + 1) before)).path) (sym row) (subst (λ z. Stands r.meaning floor k start (take i steps ++ st ∷ []) z.path) there new) in
            subst (λ z. Stands r.meaning floor k start (take z (set steps i st)) (last r x (take z before)).path) (sym e) at)
            (λ ne.
            let le : j ≤ i = omega arith in
            subst (λ z. Stands r.meaning floor k start z (last r x (take j before)).path) (sym (take-set-le j steps i st le)) (p.stands k start modest s j le))
            (cases_eq j (i + 1));
        backed = λ one old. backs (long ∙ one) (p.backed one old);
      }

  -- all calls were made, from x or what equals it
  pub finish : (steps : List Step) (i : ℕ) (y x₀ : Setting M) → x ≡ x₀ → length steps ≤ i → length before ≤ i → Progress steps i y → (steps ≡ log r x₀ before) × (y ≡ last r x₀ before) × ((k : Book) (start : Meaning) → Modest start → Stands r.meaning floor k start [] x₀.path → (j : ℕ) → j ≤ length before → Stands r.meaning floor k start (take j steps) (last r x₀ (take j before)).path)
  finish steps i y x₀ e all all' p =
      let whole = take_all i before all' in (
        sym (take_all i steps all) ∙ p.noted_all ∙ (λ j. log r (e j) (whole j)),
        p.there ∙ (λ j. last r (e j) (whole j)),
        λ k start modest s j h. subst (λ z. Stands r.meaning floor k start (take j steps) (last r z (take j before)).path) e (p.stands k start modest (subst (λ z. Stands r.meaning floor k start [] z.path) (sym e) s) j (omega arith)),
      )
