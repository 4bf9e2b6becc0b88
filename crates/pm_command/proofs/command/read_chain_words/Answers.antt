-- Each first word has the reader of its own.
use Rattle.std.proofs.Common.{sym, ◌∙◌}
use Rattle.pm_command.proofs.FirstWords.{is_ensure, is_explain, is_history, is_told}
use Rattle.pm_command.proofs.command.read_chain_words.Goals as goal

pub returns-then-eq-clause-ok : goal.returns-then-eq-clause-ok
returns-then-eq-clause-ok c = rw (is_ensure c.args.first.now c.args.words.now (sym c.eq.ensures ∙ c.if-eq.true)) c.read_ensure.ensures.ok

pub returns-then-eq-clause-refused : goal.returns-then-eq-clause-refused
returns-then-eq-clause-refused c = rw (is_ensure c.args.first.now c.args.words.now (sym c.eq.ensures ∙ c.if-eq.true)) c.read_ensure.ensures.refused

pub returns-then-eq-2-clause-ok : goal.returns-then-eq-2-clause-ok
returns-then-eq-2-clause-ok c = rw (is_explain c.args.first.now c.args.words.now (sym c.eq.ensures ∙ c.if-eq.false) (sym c.eq-else-eq.ensures ∙ c.if-eq-2.true)) c.read_explain.ensures.ok

pub returns-then-eq-2-clause-refused : goal.returns-then-eq-2-clause-refused
returns-then-eq-2-clause-refused c = rw (is_explain c.args.first.now c.args.words.now (sym c.eq.ensures ∙ c.if-eq.false) (sym c.eq-else-eq.ensures ∙ c.if-eq-2.true)) c.read_explain.ensures.refused

pub returns-then-eq-3-clause-ok : goal.returns-then-eq-3-clause-ok
returns-then-eq-3-clause-ok c = rw (is_history c.args.first.now c.args.words.now (sym c.eq.ensures ∙ c.if-eq.false) (sym c.eq-else-eq.ensures ∙ c.if-eq-2.false) (sym c.eq-else-eq-2.ensures ∙ c.if-eq-3.true)) c.read_history.ensures.ok

pub returns-then-eq-3-clause-refused : goal.returns-then-eq-3-clause-refused
returns-then-eq-3-clause-refused c = rw (is_history c.args.first.now c.args.words.now (sym c.eq.ensures ∙ c.if-eq.false) (sym c.eq-else-eq.ensures ∙ c.if-eq-2.false) (sym c.eq-else-eq-2.ensures ∙ c.if-eq-3.true)) c.read_history.ensures.refused

pub returns-else-eq-3-clause-ok : goal.returns-else-eq-3-clause-ok
returns-else-eq-3-clause-ok c = rw (is_told c.args.first.now c.args.words.now (sym c.eq.ensures ∙ c.if-eq.false) (sym c.eq-else-eq.ensures ∙ c.if-eq-2.false) (sym c.eq-else-eq-2.ensures ∙ c.if-eq-3.false)) c.read_told_words.ensures.ok

pub returns-else-eq-3-clause-refused : goal.returns-else-eq-3-clause-refused
returns-else-eq-3-clause-refused c = rw (is_told c.args.first.now c.args.words.now (sym c.eq.ensures ∙ c.if-eq.false) (sym c.eq-else-eq.ensures ∙ c.if-eq-2.false) (sym c.eq-else-eq-2.ensures ∙ c.if-eq-3.false)) c.read_told_words.ensures.refused
