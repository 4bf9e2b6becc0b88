use Rattle.pm_laws_complete.proofs.LongerBooks.{longer_books_lead_now}
use Rattle.pm_laws_complete.proofs.law_longer_books_lead_now.Goals as goal

pub returns : goal.returns
returns c = longer_books_lead_now
