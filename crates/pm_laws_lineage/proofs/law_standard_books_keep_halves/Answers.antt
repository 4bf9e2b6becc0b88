use Rattle.pm_laws_lineage.proofs.Saying.{standard_books_keep_halves}
use Rattle.pm_laws_lineage.proofs.law_standard_books_keep_halves.Goals as goal

pub returns : goal.returns
returns c = standard_books_keep_halves
