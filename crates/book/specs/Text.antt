-- An answer as it is printed: `n` and the number that was granted, `ok`, `r` and the refusal's number, or `-` where no call was made.
-- Assumes nothing.
use Rattle.std.specs.Prelude.{ℕ, List, ◌++◌, Some, None, Ok, Err, Option, codes, decimal}
use Rattle.refusals.specs.Refusals.{number_of}
use Rattle.book.specs.declared.call.Accepted.TheVariants.{Granted, Done}
use Rattle.book.specs.Book.{Answer}

abbrev pub answer_text : Option Answer → List ℕ
answer_text None = codes "-"
answer_text (Some (Ok (Granted l))) = codes "n" ++ decimal l.number
answer_text (Some (Ok Done)) = codes "ok"
answer_text (Some (Err e)) = codes "r" ++ decimal (number_of e)
