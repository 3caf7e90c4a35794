-- What becomes of a permit, and of the paths that it is shown to. Assumes nothing.
use Rattle.std.specs.Prelude.{ℕ, Bool, cond, Some, None, Ok, Err, Option}
use Rattle.refusals.specs.declared.Layer.TheVariants.{Value}
use Rattle.refusals.specs.declared.Refusal.TheVariants.{OutsideLimit}
use Rattle.congestion.specs.Rules.{Rules}
use Rattle.cells.specs.Tables.{Checked, is_held}
use Rattle.cells.specs.declared.table.Datagram.{Datagram}
use Rattle.path.specs.Paths.{PathState, transmit_state, withdrawn}
use Rattle.path.specs.declared.permit.Permit.{Permit}

-- A block that fits its datagram is sent, and any other is refused 1, layer value, with its permit withdrawn.
abbrev pub block_answer : Checked Permit → Bool → Checked ℕ
block_answer (Ok p) fits = cond fits (Ok p.label.number) (Err (OutsideLimit Value))
block_answer (Err e) fits = Err e

abbrev pub block_state : {M : Type 0} → Rules M → PathState M → Checked Permit → Bool → PathState M
block_state r s (Ok p) fits = cond fits (transmit_state r s p.label) (withdrawn s p.label)
block_state r s (Err e) fits = s

abbrev pub number_of : Checked Permit → Checked ℕ
number_of (Ok p) = Ok p.label.number
number_of (Err e) = Err e

-- Another path that does not hold the permit is left as it is, and the permit's own path takes it.
abbrev pub unless_taken : {M : Type 0} → Rules M → PathState M → Permit → Option Datagram → PathState M
unless_taken r s p None = transmit_state r s p.label
unless_taken r s p (Some d) = s

abbrev pub own_state : {M : Type 0} → Rules M → PathState M → PathState M → Checked Permit → PathState M
own_state r own other (Ok p) = unless_taken r own p (is_held other.table p.label)
own_state r own other (Err e) = own

abbrev pub other_state : {M : Type 0} → Rules M → PathState M → Checked Permit → PathState M
other_state r other (Ok p) = transmit_state r other p.label
other_state r other (Err e) = other
