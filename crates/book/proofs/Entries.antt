-- What finding and moving an entry give. Assumes nothing.
use Rattle.std.proofs.Common.{◌≡◌, ℕ, ◌+◌, ◌*◌, ◌<◌, List, [], ◌∷◌, length, Some, Option, sym, refl, ap, ◌∙◌, ⊎_elim, arith}
use Rattle.std.proofs.lemmas.Bool.{eq-eqb, ne_eqb, cases_eq}
use Rattle.book.specs.Book.{Place, Entry, same, count_in, bytes_in, find, moved_to, move}
use Rattle.book.specs.Agreement.{Numbered}
use Rattle.book.specs.Theorem.{Small}

-- by whether the head has the number
pub find_head : (e : Entry) (es : List Entry) (n : ℕ) → e.number ≡ n → find n (e ∷ es) ≡ Some e
find_head e es n h = rw (eq-eqb e.number n h)

pub find_tail : (e : Entry) (es : List Entry) (n : ℕ) → (e.number ≡ n → ⊥) → find n (e ∷ es) ≡ find n es
find_tail e es n h = rw (ne_eqb e.number n h)

move_head : (e : Entry) (es : List Entry) (n : ℕ) (q : Place) → e.number ≡ n → move n q (e ∷ es) ≡ moved_to q e ∷ es
move_head e es n q h = rw (eq-eqb e.number n h)

move_tail : (e : Entry) (es : List Entry) (n : ℕ) (q : Place) → (e.number ≡ n → ⊥) → move n q (e ∷ es) ≡ e ∷ move n q es
move_tail e es n q h = rw (ne_eqb e.number n h)

some_same : (x y : Entry) → ◌≡◌ {A = Option Entry} (Some x) (Some y) → x ≡ y
some_same x y h = cc

pub find_move_other : (es : List Entry) (m n : ℕ) (q : Place) → (m ≡ n → ⊥) → find m (move n q es) ≡ find m es
find_move_other [] m n q h = refl
find_move_other (e ∷ es) m n q h = grind (arith, find_move_other es m n q h)

pub find_move_same : (es : List Entry) (n : ℕ) (q : Place) (e : Entry) → find n es ≡ Some e → find n (move n q es) ≡ Some (moved_to q e)
find_move_same [] n q e h = cc
find_move_same (x ∷ es) n q e h = grind (arith, find_move_same es n q e)

-- one entry goes from its place to q
pub count_move : (es : List Entry) (n : ℕ) (p q : Place) (e : Entry) → find n es ≡ Some e → count_in p (move n q es) + same p e.place ≡ count_in p es + same p q
count_move [] n p q e h = absurd cc
count_move (x ∷ es) n p q e h =
    ⊎_elim
    (λ y. let i : x ≡ e = some_same x e (sym (find_head x es n y) ∙ h) in omega (arith, ap (count_in p) (move_head x es n q y), ap (λ z. same p z.place) i))
    (λ o. omega (arith, ap (count_in p) (move_tail x es n q o), count_move es n p q e (sym (find_tail x es n o) ∙ h)))
    (cases_eq x.number n)

pub bytes_move : (es : List Entry) (n : ℕ) (p q : Place) (e : Entry) → find n es ≡ Some e → bytes_in p (move n q es) + same p e.place * e.size ≡ bytes_in p es + same p q * e.size
bytes_move [] n p q e h = absurd cc
bytes_move (x ∷ es) n p q e h =
    ⊎_elim
    (λ y. let i : x ≡ e = some_same x e (sym (find_head x es n y) ∙ h) in omega (arith, ap (bytes_in p) (move_head x es n q y), ap (λ z. same p z.place * z.size) i, ap (λ z. same p q * z.size) i))
    (λ o. omega (arith, ap (bytes_in p) (move_tail x es n q o), bytes_move es n p q e (sym (find_tail x es n o) ∙ h)))
    (cases_eq x.number n)

-- what holds of a list by its numbers and sizes alone holds after a move
pub numbered_move : (es : List Entry) (n : ℕ) (q : Place) (first next : ℕ) → Numbered first next es → Numbered first next (move n q es)
numbered_move [] n q first next h = h
numbered_move (e ∷ es) n q first next h = grind (arith, numbered_move es n q first e.number)

pub small_move : (es : List Entry) (n : ℕ) (q : Place) → Small es → Small (move n q es)
small_move [] n q h = h
small_move (e ∷ es) n q h = grind (arith, small_move es n q)

-- a number that has an entry is below the next
pub find_below : (es : List Entry) (n : ℕ) (e : Entry) (first next : ℕ) → Numbered first next es → find n es ≡ Some e → n < next
find_below [] n e first next k h = absurd cc
find_below (x ∷ es) n e first next k h = grind (arith, find_below es n e first x.number)

-- as many entries as numbers
pub numbered_length : (es : List Entry) (first next : ℕ) → Numbered first next es → first + length es ≡ next
numbered_length [] first next k = omega (arith, k)
numbered_length (e ∷ es) first next k = omega (arith, k.0, numbered_length es first e.number k.1)
