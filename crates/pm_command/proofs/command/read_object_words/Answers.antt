-- Each first word has the reader of its own.
use Rattle.std.proofs.Common.{sym, ◌∙◌}
use Rattle.pm_command.proofs.FirstWords.{is_copy, is_drop, is_on_files, is_origin}
use Rattle.pm_command.proofs.command.read_object_words.Goals as goal

pub returns-then-eq-clause-ok : goal.returns-then-eq-clause-ok
returns-then-eq-clause-ok c = rw (is_copy c.args.first.now c.args.words.now (sym c.eq.ensures ∙ c.if-eq.true)) c.read_copy.ensures.ok

pub returns-then-eq-clause-refused : goal.returns-then-eq-clause-refused
returns-then-eq-clause-refused c = rw (is_copy c.args.first.now c.args.words.now (sym c.eq.ensures ∙ c.if-eq.true)) c.read_copy.ensures.refused

pub returns-then-eq-2-clause-ok : goal.returns-then-eq-2-clause-ok
returns-then-eq-2-clause-ok c = rw (is_drop c.args.first.now c.args.words.now (sym c.eq.ensures ∙ c.if-eq.false) (sym c.eq-else-eq.ensures ∙ c.if-eq-2.true)) c.read_drop.ensures.ok

pub returns-then-eq-2-clause-refused : goal.returns-then-eq-2-clause-refused
returns-then-eq-2-clause-refused c = rw (is_drop c.args.first.now c.args.words.now (sym c.eq.ensures ∙ c.if-eq.false) (sym c.eq-else-eq.ensures ∙ c.if-eq-2.true)) c.read_drop.ensures.refused

pub returns-then-eq-3-clause-ok : goal.returns-then-eq-3-clause-ok
returns-then-eq-3-clause-ok c = rw (is_origin c.args.first.now c.args.words.now (sym c.eq.ensures ∙ c.if-eq.false) (sym c.eq-else-eq.ensures ∙ c.if-eq-2.false) (sym c.eq-else-eq-2.ensures ∙ c.if-eq-3.true)) c.read_origin.ensures.ok

pub returns-then-eq-3-clause-refused : goal.returns-then-eq-3-clause-refused
returns-then-eq-3-clause-refused c = rw (is_origin c.args.first.now c.args.words.now (sym c.eq.ensures ∙ c.if-eq.false) (sym c.eq-else-eq.ensures ∙ c.if-eq-2.false) (sym c.eq-else-eq-2.ensures ∙ c.if-eq-3.true)) c.read_origin.ensures.refused

pub returns-else-eq-3-clause-ok : goal.returns-else-eq-3-clause-ok
returns-else-eq-3-clause-ok c = rw (is_on_files c.args.first.now c.args.words.now (sym c.eq.ensures ∙ c.if-eq.false) (sym c.eq-else-eq.ensures ∙ c.if-eq-2.false) (sym c.eq-else-eq-2.ensures ∙ c.if-eq-3.false)) c.read_file_words.ensures.ok

pub returns-else-eq-3-clause-refused : goal.returns-else-eq-3-clause-refused
returns-else-eq-3-clause-refused c = rw (is_on_files c.args.first.now c.args.words.now (sym c.eq.ensures ∙ c.if-eq.false) (sym c.eq-else-eq.ensures ∙ c.if-eq-2.false) (sym c.eq-else-eq-2.ensures ∙ c.if-eq-3.false)) c.read_file_words.ensures.refused
