-- A log of what a congestion controller is told, a line each. Assumes nothing.
--
--   sent SIZE TIME                            SIZE bytes were sent at TIME
--   ack SIZE SENT TIME, or with app-limited   SIZE bytes sent at SENT were acknowledged at TIME
--   lost SIZE SENT TIME, or with persistent   SIZE bytes sent at SENT were found lost at TIME
--   end TIME                                  a batch of acknowledgements has ended
--   mtu SIZE                                  the path's MTU is SIZE now
--
-- Sizes are bytes and times nanoseconds, in decimal; one space stands between two words.
use Rattle.std.specs.Prelude.{ℕ, Bool, true, false, cond, List, [], Ok, Err, codes, Result, unwrap_or}
use Rattle.std.specs.Str.{bytes_eq}
use Rattle.measurements.specs.Lines.{split_once}
use Rattle.measurements.specs.Numbers.{number_in}
use Rattle.measurements.specs.declared.number.NumberFault.{NumberFault}
use Rattle.window_log.specs.declared.event.Event.{Event}
use Rattle.window_log.specs.declared.event.Event.TheVariants.{Sent, Acked, Lost, End, Resized}
use Rattle.window_log.specs.declared.event.Fault.{Fault}
use Rattle.window_log.specs.declared.event.Fault.TheVariants as fault
use Rattle.window_log.specs.declared.event.Field.{Field}
use Rattle.window_log.specs.declared.event.Field.TheVariants as field
use Rattle.window_log.specs.declared.event.Past.{Past}

-- the first word, and what stands behind its space
abbrev pub words : List ℕ → List ℕ × List ℕ
words bs = unwrap_or (split_once 32 bs) (bs, [])

abbrev pub word : List ℕ → List ℕ
word bs = (words bs).0

abbrev pub behind : List ℕ → List ℕ
behind bs = (words bs).1

abbrev pub named : Field → Result ℕ NumberFault → Result ℕ Fault
named which (Ok n) = Ok n
named which (Err why) = Err (fault.Number which why)

-- the number of a field
abbrev pub field_in : Field → List ℕ → Result ℕ Fault
field_in which bs = named which (number_in bs)

-- a flag by its name, or no word at all
abbrev pub flag_in : List ℕ → List ℕ → Result Bool Fault
flag_in name bs = cond (bytes_eq bs []) (Ok false) (cond (bytes_eq bs name) (Ok true) (Err fault.Flag))

-- a fault ends the line, a value goes on
abbrev pub and_then : {V W : Type 0} → Result V Fault → (V → Result W Fault) → Result W Fault
and_then (Ok v) next = next v
and_then (Err why) next = Err why

abbrev pub sent_in : List ℕ → Result Event Fault
sent_in bs = and_then (field_in field.Size (word bs)) (λ n. and_then (field_in field.Time (behind bs)) (λ t. Ok (Sent n t)))

-- SIZE SENT TIME, and the flag
abbrev pub past_in : List ℕ → List ℕ → Result Past Fault
past_in name bs =
    and_then (field_in field.Size (word bs)) (λ n.
    and_then (field_in field.SentTime (word (behind bs))) (λ s.
    and_then (field_in field.Time (word (behind (behind bs)))) (λ t.
    and_then (flag_in name (behind (behind (behind bs)))) (λ b. Ok (record { bytes = n; sent = s; time = t; flagged = b })))))

abbrev pub acked_in : List ℕ → Result Event Fault
acked_in bs = and_then (past_in (codes "app-limited") bs) (λ p. Ok (Acked p))

abbrev pub lost_in : List ℕ → Result Event Fault
lost_in bs = and_then (past_in (codes "persistent") bs) (λ p. Ok (Lost p))

-- what a line tells, by its first word
abbrev pub event_of : List ℕ → List ℕ → Result Event Fault
event_of name bs =
    cond (bytes_eq name (codes "sent")) (sent_in bs)
    (cond (bytes_eq name (codes "ack")) (acked_in bs)
    (cond (bytes_eq name (codes "lost")) (lost_in bs)
    (cond (bytes_eq name (codes "end")) (and_then (field_in field.Time bs) (λ t. Ok (End t)))
    (cond (bytes_eq name (codes "mtu")) (and_then (field_in field.Size bs) (λ n. Ok (Resized n))) (Err fault.Kind)))))

abbrev pub event_in : List ℕ → Result Event Fault
event_in bs = event_of (word bs) (behind bs)
