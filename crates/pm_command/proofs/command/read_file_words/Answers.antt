-- Each first word has the reader of its own.
use Rattle.std.proofs.Common.{sym, ◌∙◌}
use Rattle.pm_command.proofs.FirstWords.{is_load, is_on_building, is_save}
use Rattle.pm_command.proofs.command.read_file_words.Goals as goal

pub returns-then-eq-clause-ok : goal.returns-then-eq-clause-ok
returns-then-eq-clause-ok c = rw (is_load c.args.first.now c.args.words.now (sym c.eq.ensures ∙ c.if-eq.true)) c.read_load.ensures.ok

pub returns-then-eq-clause-refused : goal.returns-then-eq-clause-refused
returns-then-eq-clause-refused c = rw (is_load c.args.first.now c.args.words.now (sym c.eq.ensures ∙ c.if-eq.true)) c.read_load.ensures.refused

pub returns-then-eq-2-clause-ok : goal.returns-then-eq-2-clause-ok
returns-then-eq-2-clause-ok c = rw (is_save c.args.first.now c.args.words.now (sym c.eq.ensures ∙ c.if-eq.false) (sym c.eq-else-eq.ensures ∙ c.if-eq-2.true)) c.read_save.ensures.ok

pub returns-then-eq-2-clause-refused : goal.returns-then-eq-2-clause-refused
returns-then-eq-2-clause-refused c = rw (is_save c.args.first.now c.args.words.now (sym c.eq.ensures ∙ c.if-eq.false) (sym c.eq-else-eq.ensures ∙ c.if-eq-2.true)) c.read_save.ensures.refused

pub returns-else-eq-2-clause-ok : goal.returns-else-eq-2-clause-ok
returns-else-eq-2-clause-ok c = rw (is_on_building c.args.first.now c.args.words.now (sym c.eq.ensures ∙ c.if-eq.false) (sym c.eq-else-eq.ensures ∙ c.if-eq-2.false)) c.read_build_words.ensures.ok

pub returns-else-eq-2-clause-refused : goal.returns-else-eq-2-clause-refused
returns-else-eq-2-clause-refused c = rw (is_on_building c.args.first.now c.args.words.now (sym c.eq.ensures ∙ c.if-eq.false) (sym c.eq-else-eq.ensures ∙ c.if-eq-2.false)) c.read_build_words.ensures.refused
