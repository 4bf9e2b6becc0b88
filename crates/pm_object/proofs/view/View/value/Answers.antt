use Rattle.std.proofs.Common.{ap, sym, ◌∙◌}
use Rattle.pm_object.proofs.Viewing.{only_source, shown_value, value_forms_if}
use Rattle.pm_object.specs.State.{read_at, value_of}
use Rattle.pm_types.specs.Views.{view_of}
use Rattle.pm_object.proofs.view.View.value.Goals as goal

pub returns-then-contains-clause-value : goal.returns-then-contains-clause-value
returns-then-contains-clause-value c =
    rw (← c.self.view_is) (c.lookup.ensures.value ∙ sym (shown_value c.self.inside.sub c.self.inside.kind c.args.p c.self.inside.object.now.state.held
    ∙ ap (λ t. only_source t (value_of c.args.p (read_at c.self.inside.sub c.self.inside.object.now.state.held))) (sym c.contains.ensures ∙ c.if-contains.true)))

pub returns-then-contains-clause-forms : goal.returns-then-contains-clause-forms
returns-then-contains-clause-forms c =
    rw (← c.self.view_is) (value_forms_if (λ v. view_of v.now) c.self.inside.object.now.state c.self.inside.cols c.self.inside.sub c.args.p c.lookup.result c.lookup.ensures.formed c.self.invariant.0.cols c.lookup.ensures.value)

pub returns-else-contains-clause-value : goal.returns-else-contains-clause-value
returns-else-contains-clause-value c =
    rw (← c.self.view_is) (sym (shown_value c.self.inside.sub c.self.inside.kind c.args.p c.self.inside.object.now.state.held
    ∙ ap (λ t. only_source t (value_of c.args.p (read_at c.self.inside.sub c.self.inside.object.now.state.held))) (sym c.contains.ensures ∙ c.if-contains.false)))
