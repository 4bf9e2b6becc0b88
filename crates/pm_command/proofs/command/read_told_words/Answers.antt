-- Each first word has the reader of its own.
use Rattle.std.proofs.Common.{sym, ◌∙◌}
use Rattle.pm_command.proofs.FirstWords.{is_evidence, is_on_objects, is_show}
use Rattle.pm_command.proofs.command.read_told_words.Goals as goal

pub returns-then-eq-clause-ok : goal.returns-then-eq-clause-ok
returns-then-eq-clause-ok c = rw (is_show c.args.first.now c.args.words.now (sym c.eq.ensures ∙ c.if-eq.true)) c.read_show.ensures.ok

pub returns-then-eq-clause-refused : goal.returns-then-eq-clause-refused
returns-then-eq-clause-refused c = rw (is_show c.args.first.now c.args.words.now (sym c.eq.ensures ∙ c.if-eq.true)) c.read_show.ensures.refused

pub returns-then-eq-2-clause-ok : goal.returns-then-eq-2-clause-ok
returns-then-eq-2-clause-ok c = rw (is_evidence c.args.first.now c.args.words.now (sym c.eq.ensures ∙ c.if-eq.false) (sym c.eq-else-eq.ensures ∙ c.if-eq-2.true)) c.read_evidence.ensures.ok

pub returns-then-eq-2-clause-refused : goal.returns-then-eq-2-clause-refused
returns-then-eq-2-clause-refused c = rw (is_evidence c.args.first.now c.args.words.now (sym c.eq.ensures ∙ c.if-eq.false) (sym c.eq-else-eq.ensures ∙ c.if-eq-2.true)) c.read_evidence.ensures.refused

pub returns-else-eq-2-clause-ok : goal.returns-else-eq-2-clause-ok
returns-else-eq-2-clause-ok c = rw (is_on_objects c.args.first.now c.args.words.now (sym c.eq.ensures ∙ c.if-eq.false) (sym c.eq-else-eq.ensures ∙ c.if-eq-2.false)) c.read_object_words.ensures.ok

pub returns-else-eq-2-clause-refused : goal.returns-else-eq-2-clause-refused
returns-else-eq-2-clause-refused c = rw (is_on_objects c.args.first.now c.args.words.now (sym c.eq.ensures ∙ c.if-eq.false) (sym c.eq-else-eq.ensures ∙ c.if-eq-2.false)) c.read_object_words.ensures.refused
