-- What the planner answers is so of what the object holds and bars.
use Rattle.std.proofs.Common.{ap, refl, subst, sym, ◌∙◌, ◌≡◌}
use Rattle.pm_rounds.proofs.Following.{barred_to}
use Rattle.pm_machine.proofs.Names.{explains_crowded, explains_found, explains_none, planned_so}
use Rattle.pm_rounds.specs.Chains.{held_names, table}
use Rattle.pm_plan.specs.Plans.{HasNoPlan, IsCrowded, IsPlan}
use Rattle.pm_rules.specs.declared.table.Table.{Table}
use Rattle.pm_script.specs.Replies.{seen}
use Rattle.pm_machine.proofs.asking.plan_values.Goals as goal

pub returns-in-Ok : goal.returns-in-Ok
returns-in-Ok g c =
    let o = c.args.object.now.state in
    let names : c.table-names.result ≡ table c.args.sub o.of = c.table-names.ensures ∙ ap (table c.args.sub) c.of.ensures.value in
    let are = barred_to _ c.in_ok-barred.ensures c.rules-rules.ensures.value refl (sym c.deref.ensures.value) in
    let plan = planned_so (λ n h. IsPlan c.args.book.now n c.deref.result.now h c.args.asked c.in-Ok.found.chain.items c.in-Ok.found.weight c.in-Ok.found.table.rows.items) _ _ _ _ names c.names-held.ensures.value c.in-Ok.ensures.plan in
    explains_found seen c.tell_plan.result c.args.book.now _ o c.args.sub c.args.asked _ _ _ c.deref.result.now are plan c.tell_plan.ensures

pub returns-in-Err-NoChain : goal.returns-in-Err-NoChain
returns-in-Err-NoChain g c =
    let o = c.args.object.now.state in
    let names : c.table-names.result ≡ table c.args.sub o.of = c.table-names.ensures ∙ ap (table c.args.sub) c.of.ensures.value in
    let are = barred_to _ c.in_ok-barred.ensures c.rules-rules.ensures.value refl (sym c.deref.ensures.value) in
    let none : HasNoPlan c.args.book.now (table c.args.sub o.of) c.deref.result.now (held_names c.args.sub o) c.args.asked c.in-Err-NoChain.table.rows.items =
    planned_so (λ n h. HasNoPlan c.args.book.now n c.deref.result.now h c.args.asked c.in-Err-NoChain.table.rows.items) _ _ _ _ names c.names-held.ensures.value
    (rw c.in-Err-NoChain.field-0-is at c.in-Err-NoChain.ensures.why) in
    explains_none seen c.refuse_plan.result c.args.book.now _ o c.args.sub c.args.asked _ c.deref.result.now are (subst (λ (t : Table). HasNoPlan c.args.book.now (table c.args.sub o.of) c.deref.result.now (held_names c.args.sub o) c.args.asked t.rows.items) (sym c.in-Err-NoChain.table-is) none) c.refuse_plan.ensures

pub returns-in-Err-Crowded : goal.returns-in-Err-Crowded
returns-in-Err-Crowded g c =
    let o = c.args.object.now.state in
    let names : c.table-names.result ≡ table c.args.sub o.of = c.table-names.ensures ∙ ap (table c.args.sub) c.of.ensures.value in
    let are = barred_to _ c.in_ok-barred.ensures c.rules-rules.ensures.value refl (sym c.deref.ensures.value) in
    let crowded : IsCrowded c.args.book.now (table c.args.sub o.of) c.deref.result.now (held_names c.args.sub o) c.args.asked c.in-Err-Crowded.table.rows.items =
    planned_so (λ n h. IsCrowded c.args.book.now n c.deref.result.now h c.args.asked c.in-Err-Crowded.table.rows.items) _ _ _ _ names c.names-held.ensures.value
    (rw c.in-Err-Crowded.field-0-is at c.in-Err-Crowded.ensures.why) in
    explains_crowded seen c.refuse_plan-in-Err-Crowded.result c.args.book.now _ o c.args.sub c.args.asked _ c.deref.result.now are (subst (λ (t : Table). IsCrowded c.args.book.now (table c.args.sub o.of) c.deref.result.now (held_names c.args.sub o) c.args.asked t.rows.items) (sym c.in-Err-Crowded.table-is) crowded) c.refuse_plan-in-Err-Crowded.ensures
