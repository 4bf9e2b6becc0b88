use Rattle.pm_laws_lineage.proofs.Reading.{shown_of_program_is_right}
use Rattle.pm_laws_lineage.proofs.law_shown_of_program_is_right.Goals as goal

pub returns : goal.returns
returns c = shown_of_program_is_right
