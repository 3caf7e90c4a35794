-- What stands after any list of calls on a path begun afresh, above any controller. Assumes nothing.
--
--   a  Every answer, every cell and every reported count is the book's; each number handed out is in exactly one place; the cells hold exactly
--      the entries held and in flight, with place, size and time.
--   b  The controller's totals have grown by exactly the book's bytes transmitted, acknowledged and lost, and
--      transmitted = acknowledged + lost + in flight.
--   c  No accepted grant has brought the book's bytes held and in flight above the window at that grant, and none was refused 7 while
--      these were at most (floor - 1) * MTU.
use Rattle.std.specs.Prelude.{◌≡◌, ℕ, ◌+◌, ◌-◌, ◌*◌, ◌^◌, ◌<◌, ◌≤◌, List, [], ◌∷◌, length, Some, None, Ok, Err, Option}
use Rattle.refusals.specs.declared.Refusal.TheVariants.{Window}
use Rattle.congestion.specs.Meaning.{Meaning}
use Rattle.cells.specs.Tables.{Checked}
use Rattle.path.specs.Paths.{PathState, reported}
use Rattle.path.specs.declared.report.Report.{Report}
use Rattle.book.specs.declared.call.Request.{Request}
use Rattle.book.specs.declared.call.Request.TheVariants.{Grant, Transmit, Withdraw, Tell}
use Rattle.book.specs.declared.call.Step.{Step}
use Rattle.book.specs.Book.{Book, Entry, in_flight, acknowledged, lost, bytes_in, bytes_out, grant_check, paced_check, answer, after, sent_by}
use Rattle.book.specs.Agreement.{Agrees, Counted}

-- the book after a list of calls, and the bytes that were transmitted
abbrev pub book : Book → List Step → Book
book k [] = k
book k (s ∷ ss) = book (after k s.request s.window s.pace) ss

abbrev pub transmitted : Book → List Step → ℕ
transmitted k [] = 0
transmitted k (s ∷ ss) = sent_by k s.request + transmitted (after k s.request s.window s.pace) ss

-- each answer is the book's
abbrev pub Answered : Book → List Step → Type 0
Answered k [] = Unit {0}
Answered k (s ∷ ss) =
    (s.answer ≡ answer k s.request s.window s.pace) × Answered (after k s.request s.window s.pace) ss

-- a grant that is accepted brings no more out than the window; one that is refused 7 finds more than (floor - 1) * MTU out
abbrev pub Verdict : ℕ → Book → ℕ → Book → Checked (Unit {0}) → Type 0
Verdict floor k window k' (Ok u) = bytes_out k' ≤ window
Verdict floor k window k' (Err e) = e ≡ Window → (floor - 1) * k.mtu < bytes_out k

abbrev pub GrantLaw : ℕ → Book → Option Request → ℕ → Option ℕ → Type 0
GrantLaw floor k None window pace = Unit {0}
GrantLaw floor k (Some (Grant size time)) window pace =
    Verdict floor k window (after k (Some (Grant size time)) window pace) (paced_check (grant_check k size time window) pace)
GrantLaw floor k (Some (Transmit l)) window pace = Unit {0}
GrantLaw floor k (Some (Withdraw l)) window pace = Unit {0}
GrantLaw floor k (Some (Tell event)) window pace = Unit {0}

abbrev pub Granted : ℕ → Book → List Step → Type 0
Granted floor k [] = Unit {0}
Granted floor k (s ∷ ss) =
    GrantLaw floor k s.request s.window s.pace × Granted floor (after k s.request s.window s.pace) ss

-- a report is the book's
abbrev pub Reports : Report → Book → Type 0
Reports r k = (r.handed_out ≡ length k.entries) × Counted r.counts k.entries

-- no datagram is larger than the largest MTU
abbrev pub Small : List Entry → Type 0
Small [] = Unit {0}
Small (e ∷ es) = (e.size ≤ 1500) × Small es

-- totals of at most 2^63
pub record Modest (m : Meaning) : Type 0 where
  pub sent : m.totals.sent ≤ 2 ^ 63
  pub acked : m.totals.acked ≤ 2 ^ 63
  pub lost : m.totals.lost ≤ 2 ^ 63

-- From the book k and the controller's meaning m, after these calls: the path is s, and the controller means what `meaning` says.
pub record Stands {M : Type 0} (meaning : M → Meaning) (floor : ℕ) (k : Book) (m : Meaning) (steps : List Step) (s : PathState M) : Type 0 where
  pub answered : Answered k steps
  pub agrees : Agrees (book k steps) s.table
  pub reports : Reports (reported s) (book k steps)
  pub sent : (meaning s.controller).totals.sent ≡ m.totals.sent + transmitted k steps
  pub acked_all : (meaning s.controller).totals.acked ≡ m.totals.acked + bytes_in acknowledged (book k steps).entries
  pub lost_all : (meaning s.controller).totals.lost ≡ m.totals.lost + bytes_in lost (book k steps).entries
  pub flow : transmitted k steps ≡ bytes_in acknowledged (book k steps).entries + bytes_in lost (book k steps).entries + bytes_in in_flight (book k steps).entries
  pub granted : Granted floor k steps
  pub mtu : (meaning s.controller).mtu ≡ (book k steps).mtu
  pub small : Small (book k steps).entries
