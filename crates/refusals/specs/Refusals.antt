-- The refusals by number and layer. Every contract that refuses draws on these definitions. Assumes nothing.
--
--  1  a value is outside its limit                       value, estimator or pacer: whose limit it is
--  2  a size of 0 or above the MTU                       path
--  3  a time before the latest, or above 2^62 - 1        path
--  4  a number is held                                   path
--  5  no number is left                                  path
--  6  the cell of the next number is taken               path
--  7  held + in flight + size is above the window        path
--  8  not before a time, which the refusal carries       path
--  9  the permit is not held; the refusal carries it     path
-- 10  the number is not in flight                        path
-- 11  the counts and the length of a trace disagree      trace
-- 12  an event's kind is not known                       trace
use Rattle.std.specs.Prelude.{ℕ, List, ◌++◌, Some, None, codes, decimal, Option}
use Rattle.refusals.specs.declared.Layer.{Layer}
use Rattle.refusals.specs.declared.Layer.TheVariants.{Value, Estimator, Pacer, Path, Trace}
use Rattle.refusals.specs.declared.Refusal.{Refusal}
use Rattle.refusals.specs.declared.Refusal.TheVariants.{OutsideLimit, Size, Time, Held, NumbersExhausted, CellTaken, Window, Paced, NotHeld, NotInFlight, Malformed, UnknownKind}

abbrev pub number_of : {P : Type 0} → Refusal P → ℕ
number_of (OutsideLimit _) = 1
number_of Size = 2
number_of Time = 3
number_of Held = 4
number_of NumbersExhausted = 5
number_of CellTaken = 6
number_of Window = 7
number_of (Paced _) = 8
number_of (NotHeld _) = 9
number_of NotInFlight = 10
number_of Malformed = 11
number_of UnknownKind = 12

abbrev pub layer_of : {P : Type 0} → Refusal P → Layer
layer_of (OutsideLimit layer) = layer
layer_of Size = Path
layer_of Time = Path
layer_of Held = Path
layer_of NumbersExhausted = Path
layer_of CellTaken = Path
layer_of Window = Path
layer_of (Paced _) = Path
layer_of (NotHeld _) = Path
layer_of NotInFlight = Path
layer_of Malformed = Trace
layer_of UnknownKind = Trace

-- the permit that refusal 9 carries
abbrev pub permit_of : {P : Type 0} → Refusal P → Option P
permit_of (OutsideLimit _) = None
permit_of Size = None
permit_of Time = None
permit_of Held = None
permit_of NumbersExhausted = None
permit_of CellTaken = None
permit_of Window = None
permit_of (Paced _) = None
permit_of (NotHeld permit) = Some permit
permit_of NotInFlight = None
permit_of Malformed = None
permit_of UnknownKind = None

abbrev pub layer_name : Layer → List ℕ
layer_name Value = codes "value"
layer_name Estimator = codes "estimator"
layer_name Pacer = codes "pacer"
layer_name Path = codes "path"
layer_name Trace = codes "trace"

-- a refusal as text: `r`, its number, and its layer
abbrev pub refusal_text : {P : Type 0} → Refusal P → List ℕ
refusal_text e = codes "r" ++ (decimal (number_of e) ++ (codes " " ++ layer_name (layer_of e)))
