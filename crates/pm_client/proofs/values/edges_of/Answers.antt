-- What the view ensures of the property's value.
use Rattle.std.proofs.Common.{Some, ap, rules, subst, sym, ◌∙◌}
use Rattle.std.specs.Option.{IsSome}
use Rattle.pm_client.proofs.values.edges_of.Goals as goal
use Rattle.pm_types.specs.Forms.{FormsIn}
use Rattle.pm_types.specs.Views.{view_of}

pub unreachable-requires : goal.unreachable-requires
unreachable-requires c = let some : IsSome c.value.result = c.value.ensures.source.1 c.requires.source in search rules

pub returns-clause-value : goal.returns-clause-value
returns-clause-value c = sym c.in-Some-Edges.ensures.value ∙ ap (λ v. Some (view_of v)) c.in-Some-Edges.field-0-is

pub returns-clause-forms : goal.returns-clause-forms
returns-clause-forms c = subst (λ v. FormsIn c.args.view.now.of c.args.view.now.cols c.args.p (view_of v)) c.in-Some-Edges.field-0-is c.in-Some-Edges.ensures.forms
