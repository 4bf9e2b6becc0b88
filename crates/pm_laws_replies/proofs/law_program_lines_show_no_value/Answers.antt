use Rattle.pm_laws_replies.proofs.ProgramLines.{no_value_line}
use Rattle.pm_laws_replies.proofs.law_program_lines_show_no_value.Goals as goal

pub returns : goal.returns
returns c = no_value_line
