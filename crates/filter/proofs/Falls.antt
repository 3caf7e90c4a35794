-- An update keeps the samples in order and the first no less than what came, for every order that keeps the laws. Assumes nothing.
use Rattle.std.proofs.Common.{◌≡◌, ◌-◌, ◌/◌, Bool, true, false, cond, ◌&&◌, eqb, ltb}
use Rattle.std.proofs.lemmas.Bool.{cond_both, or_parts}
use Rattle.filter.specs.Filter.{with_samples, placed, aged, is_replaced, update_with, Falling}
use Rattle.filter.specs.declared.min_max.MinMax.{MinMax}
use Rattle.filter.specs.declared.min_max.MinMaxSample.{MinMaxSample}

module _ {T : Type 0} (le : T → T → Bool) (least : T)
    (reflexive : (x : T) → le x x ≡ true)
    (transitive : (x y z : T) → le x y ≡ true → le y z ≡ true → le x z ≡ true)
    (total : (x y : T) → le x y ≡ false → le y x ≡ true) where
  -- the samples fall to s or above
  abbrev Above : MinMaxSample T → MinMax T → Type 0
  Above s p = (le p.second.value p.first.value ≡ true) × (le p.third.value p.second.value ≡ true) × (le s.value p.third.value ≡ true) × (le s.value p.first.value ≡ true)

  -- the samples fall, and the first is no less than s
  abbrev pub Kept : MinMaxSample T → MinMax T → Type 0
  Kept s p = Falling le p × (le s.value p.first.value ≡ true)

  place_above : (m : MinMax T) (s : MinMaxSample T) → Falling le m → le s.value m.first.value ≡ true → Above s (placed le m s)
  place_above m s f h =
      cond_both (le m.second.value s.value) _ _ (Above s) (λ e. (h, reflexive _, reflexive _, h)) (λ e.
      cond_both (le m.third.value s.value) _ _ (Above s) (λ k. (f.0, total _ _ e, reflexive _, h)) (λ k. (f.0, f.1, total _ _ k, h)))

  age_keeps : (p : MinMax T) (s : MinMaxSample T) → Above s p → Kept s (aged p s)
  age_keeps p s g =
      let far = ltb p.window (s.time - p.first.time) in
      let farther = ltb p.window (s.time - p.second.time) in
      let quarter = eqb p.second.time p.first.time && ltb (p.window / 4) (s.time - p.first.time) in
      let half = eqb p.third.time p.second.time && ltb (p.window / 2) (s.time - p.first.time) in
      let twice = with_samples p p.third s s in
      let once = with_samples p p.second p.third s in
      let two = with_samples p p.first s s in
      let one = with_samples p p.first p.second s in
      let second : le s.value p.second.value ≡ true = transitive _ _ _ g.2 g.1 in
      cond_both far (cond farther twice once) (cond quarter two (cond half one p)) (Kept s)
      (λ _. cond_both farther twice once (Kept s) (λ _. ((g.2, reflexive s.value), g.2)) (λ _. ((g.1, g.2), second)))
      (λ _. cond_both quarter two (cond half one p) (Kept s) (λ _. ((g.3, reflexive s.value), g.3))
      (λ _. cond_both half one p (Kept s) (λ _. ((g.0, second), g.3)) (λ _. ((g.0, g.1), g.3))))

  pub kept : (m : MinMax T) (s : MinMaxSample T) → Falling le m → Kept s (update_with le least m s)
  kept m s f =
      cond_both (is_replaced le least m s) _ _ (Kept s) (λ _. ((reflexive _, reflexive _), reflexive _)) (λ e.
      age_keeps (placed le m s) s (place_above m s f (total _ _ (or_parts _ _ (or_parts _ _ e).0).1)))
