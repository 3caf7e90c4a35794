use Rattle.std.proofs.Common.{◌≡◌, ℕ, List, codes, sym, ap, ◌∙◌, rules, arith, Result}
use Rattle.std.proofs.lemmas.Slice.Eq.{text_from_reads}
use Rattle.window_log.specs.Events.{word, behind, event_of, event_in}
use Rattle.window_log.specs.declared.event.Event.{Event}
use Rattle.window_log.specs.declared.event.Fault.{Fault}
use Rattle.window_log.proofs.event.read.event.Goals as goal

-- a line whose first word is this name
by_name : (name first rest line : List ℕ) (r : Result Event Fault) → first ≡ word line → rest ≡ behind line → first ≡ name → r ≡ event_of name rest → r ≡ event_in line
by_name name first rest line r is_word is_rest is h =
    h ∙ ap (event_of name) is_rest ∙ ap (λ n. event_of n (behind line)) (sym is ∙ is_word)

pub returns-in-sent : goal.returns-in-sent
returns-in-sent c =
    by_name (codes "sent") _ _ c.args.line.now _ c.split_word.ensures.first c.split_word.ensures.rest (text_from_reads _ _ (omega arith) (search rules)) c.sent.ensures

pub returns-in-ack : goal.returns-in-ack
returns-in-ack c =
    by_name (codes "ack") _ _ c.args.line.now _ c.split_word.ensures.first c.split_word.ensures.rest (text_from_reads _ _ (omega arith) (search rules)) (search rules)

pub returns-in-lost : goal.returns-in-lost
returns-in-lost c =
    by_name (codes "lost") _ _ c.args.line.now _ c.split_word.ensures.first c.split_word.ensures.rest (text_from_reads _ _ (omega arith) (search rules)) (search rules)

pub returns-in-end : goal.returns-in-end
returns-in-end c =
    by_name (codes "end") _ _ c.args.line.now _ c.split_word.ensures.first c.split_word.ensures.rest (text_from_reads _ _ (omega arith) (search rules)) (search rules)
