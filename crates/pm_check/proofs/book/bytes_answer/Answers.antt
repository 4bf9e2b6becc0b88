use Rattle.pm_check.specs.Books.IsBookAnswer.{no_text}
use Rattle.pm_check.proofs.book.bytes_answer.Goals as goal

pub returns-in_ok-from_str-in-Err-clause-found : goal.returns-in_ok-from_str-in-Err-clause-found
returns-in_ok-from_str-in-Err-clause-found c = no_text c.in-Err.ensures.cases.0 c.in_ok-from_str-in-Err.ensures.ok
