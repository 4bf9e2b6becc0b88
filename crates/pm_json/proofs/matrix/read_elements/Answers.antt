-- A last object states the column count.
use Rattle.std.proofs.Common.{Err, IfErr, IfOk, Ok, subst, sym, ◌∙◌, ◌≡◌, ◌≢◌}
use Rattle.pm_json.proofs.LastObjects.{from_rows, from_stated}
use Rattle.pm_json.specs.declared.fail.ValueFail.TheVariants.{Memory}
use Rattle.pm_json.proofs.matrix.read_elements.Goals as goal

pub returns-then-is_object-clause-ok : goal.returns-then-is_object-clause-ok
returns-then-is_object-clause-ok c =
    subst (λ r. IfOk c.read_stated.result (λ m. r ≡ Ok m)) (sym (from_stated c.args.least c.args.most c.args.items.now c.in-Some.rows.now c.in-Some.last.now c.in-Some.ensures.cases.0 (sym c.is_object.ensures ∙ c.if-is_object.true))) c.read_stated.ensures.ok

pub returns-then-is_object-clause-fault : goal.returns-then-is_object-clause-fault
returns-then-is_object-clause-fault c =
    subst (λ r. IfErr c.read_stated.result (λ e. e ≢ Memory → r ≡ Err e)) (sym (from_stated c.args.least c.args.most c.args.items.now c.in-Some.rows.now c.in-Some.last.now c.in-Some.ensures.cases.0 (sym c.is_object.ensures ∙ c.if-is_object.true))) c.read_stated.ensures.fault

pub returns-else-is_object-clause-ok : goal.returns-else-is_object-clause-ok
returns-else-is_object-clause-ok c =
    subst (λ r. IfOk c.read_rows-else-is_object.result (λ m. r ≡ Ok m)) (sym (from_rows c.args.least c.args.most c.args.items.now c.in-Some.rows.now c.in-Some.last.now c.in-Some.ensures.cases.0 (sym c.is_object.ensures ∙ c.if-is_object.false))) c.read_rows-else-is_object.ensures.ok

pub returns-else-is_object-clause-fault : goal.returns-else-is_object-clause-fault
returns-else-is_object-clause-fault c =
    subst (λ r. IfErr c.read_rows-else-is_object.result (λ e. e ≢ Memory → r ≡ Err e)) (sym (from_rows c.args.least c.args.most c.args.items.now c.in-Some.rows.now c.in-Some.last.now c.in-Some.ensures.cases.0 (sym c.is_object.ensures ∙ c.if-is_object.false))) c.read_rows-else-is_object.ensures.fault
