-- A path with a purse of permits, over a list of calls. Assumes nothing.
--
-- A permit that is granted goes to the place of the purse that the call names, where nothing may be yet; one that is presented is taken from
-- its place, and goes back there where it is handed back. A call that names a place without a permit, or without room for one, is not made.
use Rattle.std.specs.Prelude.{◌≡◌, ℕ, Bool, cond, not, ◌&&◌, List, [], ◌∷◌, length, is_some, Some, None, Ok, Err, Option, Result, nat_lt, slice_index_or, slice_set}
use Rattle.std.specs.Option.{option_map}
use Rattle.refusals.specs.Refusals as refusals
use Rattle.refusals.specs.declared.Refusal.{Refusal}
use Rattle.refusals.specs.declared.Refusal.TheVariants.{NotHeld}
use Rattle.values.specs.declared.opening.Opening.{Opening}
use Rattle.congestion.specs.Rules.{Rules}
use Rattle.cells.specs.Tables.{IsHeld}
use Rattle.cells.specs.declared.table.CellTable.{CellTable}
use Rattle.cells.specs.declared.table.Label.{Label}
use Rattle.path.specs.Paths.{PathState, state_of, opened, window_of}
use Rattle.path.specs.declared.path.Path.{Path}
use Rattle.path.specs.declared.permit.Permit.{Permit}
use Rattle.book.specs.declared.call.Accepted.TheVariants.{Granted, Done}
use Rattle.book.specs.declared.call.Call.{Call}
use Rattle.book.specs.declared.call.Call.TheVariants.{Grant, Transmit, Withdraw, Tell}
use Rattle.book.specs.declared.call.Request.{Request}
use Rattle.book.specs.declared.call.Request.TheVariants.{Grant as Grants, Transmit as Transmits, Withdraw as Withdraws, Tell as Tells}
use Rattle.book.specs.declared.call.Step.{Step}
use Rattle.book.specs.Book.{Answer}
use Rattle.book.specs.Requests.{pace_for, answer, after}

abbrev pub Purse : Type 0
Purse = List (Option Permit)

abbrev pub has_room : Purse → ℕ → Bool
has_room purse i = nat_lt i (length purse) && not (is_some (slice_index_or purse i None))

-- the permit at a place, by its number and size
abbrev pub presented : Purse → ℕ → Option Label
presented purse i = option_map (λ p. p.label) (slice_index_or purse i None)

-- the call as it is made
abbrev pub request_of : Purse → Call → Option Request
request_of purse (Grant size time i) = cond (has_room purse i) (Some (Grants size time)) None
request_of purse (Transmit i) = option_map Transmits (presented purse i)
request_of purse (Withdraw i) = option_map Withdraws (presented purse i)
request_of purse (Tell event) = Some (Tells event)

-- the purse after it
abbrev pub stored : Purse → ℕ → Option Answer → Purse
stored purse i None = purse
stored purse i (Some (Ok (Granted l))) = slice_set purse i (Some (record { label = l }))
stored purse i (Some (Ok Done)) = purse
stored purse i (Some (Err e)) = purse

abbrev pub spent : Purse → ℕ → Option Answer → Purse
spent purse i None = purse
spent purse i (Some (Ok (Granted l))) = purse
spent purse i (Some (Ok Done)) = slice_set purse i None
spent purse i (Some (Err e)) = purse

abbrev pub purse_after : Purse → Call → Option Answer → Purse
purse_after purse (Grant size time i) a = stored purse i a
purse_after purse (Transmit i) a = spent purse i a
purse_after purse (Withdraw i) a = spent purse i a
purse_after purse (Tell event) a = purse

-- the purse without the permit that was taken out, if there was one
abbrev pub without : Purse → ℕ → Option Permit → Purse
without purse i None = purse
without purse i (Some p) = slice_set purse i None

-- the answer to a permit that was taken out, and the purse when it went back, if it did
abbrev pub settled : Label → Result (Unit {0}) (Refusal Permit) → Answer
settled l (Ok u) = Ok Done
settled l (Err e) = Err (NotHeld l)

abbrev pub returned : Purse → ℕ → Option Permit → Purse
returned purse i None = purse
returned purse i (Some p) = slice_set purse i (Some p)

abbrev pub restored : Purse → ℕ → Result (Unit {0}) (Refusal Permit) → Purse
restored purse i (Ok u) = purse
restored purse i (Err e) = returned purse i (refusals.permit_of e)

pub record Setting (M : Type 0) : Type 0 where
  pub path : PathState M
  pub purse : Purse

abbrev pub setting_of : {C M : Type 0} → (C → M) → Path C → Purse → Setting M
setting_of model path purse = record { path = state_of model path; purse = purse }

-- a path begun afresh
abbrev pub begun : {M : Type 0} → Rules M → M → Opening → Purse → Setting M
begun r m o purse = record { path = opened r m o; purse = purse }

-- a call before it is made
abbrev pub unmade : Call → Step
unmade call = record { call = call; request = None; window = 0; pace = None; answer = None }

-- a call that was made, with what it met and what it answered
abbrev pub noted : {M : Type 0} → Rules M → Setting M → Call → Step
noted r x call =
    record {
      call = call;
      request = request_of x.purse call;
      window = window_of r x.path;
      pace = pace_for r x.path (request_of x.purse call);
      answer = answer r x.path (request_of x.purse call);
    }

abbrev pub next : {M : Type 0} → Rules M → Setting M → Call → Setting M
next r x call =
    record {
      path = after r x.path (request_of x.purse call);
      purse = purse_after x.purse call (answer r x.path (request_of x.purse call));
    }

-- a call was performed: its answer, and path and purse then
pub record Performed {M : Type 0} (r : Rules M) (x : Setting M) (call : Call) (a : Option Answer) (x' : Setting M) : Type 0 where
  pub answer_is : a ≡ answer r x.path (request_of x.purse call)
  pub setting_is : x' ≡ next r x call

-- after all calls of a list
abbrev pub last : {M : Type 0} → Rules M → Setting M → List Step → Setting M
last r x [] = x
last r x (s ∷ ss) = last r (next r x s.call) ss

-- the list with each call noted
abbrev pub log : {M : Type 0} → Rules M → Setting M → List Step → List Step
log r x [] = []
log r x (s ∷ ss) = noted r x s.call ∷ log r (next r x s.call) ss

-- The permit in a purse's first place is held on the path. Over a purse of one place, at first empty, this lasts through every call, so
-- that what is left in the purse in the end can still be withdrawn.
abbrev pub Backed : CellTable → Purse → Type 0
Backed b purse = (p : Permit) → slice_index_or purse 0 None ≡ Some p → IsHeld b p.label
