-- Each first word has the reader of its own.
use Rattle.std.proofs.Common.{sym, ◌∙◌}
use Rattle.pm_command.proofs.FirstWords.{is_disable, is_give, is_lookup, is_new, is_on_chains, is_take, is_unload}
use Rattle.pm_command.proofs.command.read_words.Goals as goal

pub returns-then-eq-clause-ok : goal.returns-then-eq-clause-ok
returns-then-eq-clause-ok c = rw (is_new c.args.first.now c.args.words.now (sym c.eq.ensures ∙ c.if-eq.true)) c.read_new.ensures.ok

pub returns-then-eq-clause-refused : goal.returns-then-eq-clause-refused
returns-then-eq-clause-refused c = rw (is_new c.args.first.now c.args.words.now (sym c.eq.ensures ∙ c.if-eq.true)) c.read_new.ensures.refused

pub returns-then-eq-2-clause-ok : goal.returns-then-eq-2-clause-ok
returns-then-eq-2-clause-ok c = rw (is_take c.args.first.now c.args.words.now (sym c.eq.ensures ∙ c.if-eq.false) (sym c.eq-else-eq.ensures ∙ c.if-eq-2.true)) c.read_take.ensures.ok

pub returns-then-eq-2-clause-refused : goal.returns-then-eq-2-clause-refused
returns-then-eq-2-clause-refused c = rw (is_take c.args.first.now c.args.words.now (sym c.eq.ensures ∙ c.if-eq.false) (sym c.eq-else-eq.ensures ∙ c.if-eq-2.true)) c.read_take.ensures.refused

pub returns-then-eq-3-clause-ok : goal.returns-then-eq-3-clause-ok
returns-then-eq-3-clause-ok c = rw (is_give c.args.first.now c.args.words.now (sym c.eq.ensures ∙ c.if-eq.false) (sym c.eq-else-eq.ensures ∙ c.if-eq-2.false) (sym c.eq-else-eq-2.ensures ∙ c.if-eq-3.true)) c.read_give.ensures.ok

pub returns-then-eq-3-clause-refused : goal.returns-then-eq-3-clause-refused
returns-then-eq-3-clause-refused c = rw (is_give c.args.first.now c.args.words.now (sym c.eq.ensures ∙ c.if-eq.false) (sym c.eq-else-eq.ensures ∙ c.if-eq-2.false) (sym c.eq-else-eq-2.ensures ∙ c.if-eq-3.true)) c.read_give.ensures.refused

pub returns-then-eq-4-clause-ok : goal.returns-then-eq-4-clause-ok
returns-then-eq-4-clause-ok c = rw (is_lookup c.args.first.now c.args.words.now (sym c.eq.ensures ∙ c.if-eq.false) (sym c.eq-else-eq.ensures ∙ c.if-eq-2.false) (sym c.eq-else-eq-2.ensures ∙ c.if-eq-3.false) (sym c.eq-else-eq-3.ensures ∙ c.if-eq-4.true)) c.read_lookup.ensures.ok

pub returns-then-eq-4-clause-refused : goal.returns-then-eq-4-clause-refused
returns-then-eq-4-clause-refused c = rw (is_lookup c.args.first.now c.args.words.now (sym c.eq.ensures ∙ c.if-eq.false) (sym c.eq-else-eq.ensures ∙ c.if-eq-2.false) (sym c.eq-else-eq-2.ensures ∙ c.if-eq-3.false) (sym c.eq-else-eq-3.ensures ∙ c.if-eq-4.true)) c.read_lookup.ensures.refused

pub returns-then-eq-5-clause-ok : goal.returns-then-eq-5-clause-ok
returns-then-eq-5-clause-ok c = rw (is_disable c.args.first.now c.args.words.now (sym c.eq.ensures ∙ c.if-eq.false) (sym c.eq-else-eq.ensures ∙ c.if-eq-2.false) (sym c.eq-else-eq-2.ensures ∙ c.if-eq-3.false) (sym c.eq-else-eq-3.ensures ∙ c.if-eq-4.false) (sym c.eq-else-eq-4.ensures ∙ c.if-eq-5.true)) c.read_disable.ensures.ok

pub returns-then-eq-5-clause-refused : goal.returns-then-eq-5-clause-refused
returns-then-eq-5-clause-refused c = rw (is_disable c.args.first.now c.args.words.now (sym c.eq.ensures ∙ c.if-eq.false) (sym c.eq-else-eq.ensures ∙ c.if-eq-2.false) (sym c.eq-else-eq-2.ensures ∙ c.if-eq-3.false) (sym c.eq-else-eq-3.ensures ∙ c.if-eq-4.false) (sym c.eq-else-eq-4.ensures ∙ c.if-eq-5.true)) c.read_disable.ensures.refused

pub returns-then-eq-6-clause-ok : goal.returns-then-eq-6-clause-ok
returns-then-eq-6-clause-ok c = rw (is_unload c.args.first.now c.args.words.now (sym c.eq.ensures ∙ c.if-eq.false) (sym c.eq-else-eq.ensures ∙ c.if-eq-2.false) (sym c.eq-else-eq-2.ensures ∙ c.if-eq-3.false) (sym c.eq-else-eq-3.ensures ∙ c.if-eq-4.false) (sym c.eq-else-eq-4.ensures ∙ c.if-eq-5.false) (sym c.eq-else-eq-5.ensures ∙ c.if-eq-6.true)) c.read_unload.ensures.ok

pub returns-then-eq-6-clause-refused : goal.returns-then-eq-6-clause-refused
returns-then-eq-6-clause-refused c = rw (is_unload c.args.first.now c.args.words.now (sym c.eq.ensures ∙ c.if-eq.false) (sym c.eq-else-eq.ensures ∙ c.if-eq-2.false) (sym c.eq-else-eq-2.ensures ∙ c.if-eq-3.false) (sym c.eq-else-eq-3.ensures ∙ c.if-eq-4.false) (sym c.eq-else-eq-4.ensures ∙ c.if-eq-5.false) (sym c.eq-else-eq-5.ensures ∙ c.if-eq-6.true)) c.read_unload.ensures.refused

pub returns-else-eq-6-clause-ok : goal.returns-else-eq-6-clause-ok
returns-else-eq-6-clause-ok c = rw (is_on_chains c.args.first.now c.args.words.now (sym c.eq.ensures ∙ c.if-eq.false) (sym c.eq-else-eq.ensures ∙ c.if-eq-2.false) (sym c.eq-else-eq-2.ensures ∙ c.if-eq-3.false) (sym c.eq-else-eq-3.ensures ∙ c.if-eq-4.false) (sym c.eq-else-eq-4.ensures ∙ c.if-eq-5.false) (sym c.eq-else-eq-5.ensures ∙ c.if-eq-6.false)) c.read_chain_words.ensures.ok

pub returns-else-eq-6-clause-refused : goal.returns-else-eq-6-clause-refused
returns-else-eq-6-clause-refused c = rw (is_on_chains c.args.first.now c.args.words.now (sym c.eq.ensures ∙ c.if-eq.false) (sym c.eq-else-eq.ensures ∙ c.if-eq-2.false) (sym c.eq-else-eq-2.ensures ∙ c.if-eq-3.false) (sym c.eq-else-eq-3.ensures ∙ c.if-eq-4.false) (sym c.eq-else-eq-4.ensures ∙ c.if-eq-5.false) (sym c.eq-else-eq-5.ensures ∙ c.if-eq-6.false)) c.read_chain_words.ensures.refused
