use Rattle.pm_object.proofs.KnownValues.{held_forms, no_sets_read, sets_is}
use Rattle.pm_object.proofs.known.sets_at.Goals as goal
use Rattle.pm_types.specs.Parts.{value_of_sets}
use Rattle.pm_types.specs.Views.{view_of}
use Rattle.std.proofs.Common.{Some, ap, sym, ◌∙◌}

pub unreachable-requires-in_default-as_sets : goal.unreachable-requires-in_default-as_sets
unreachable-requires-in_default-as_sets c = no_sets_read c.args.o.now.state c.args.p (view_of c.in-Some.value.now) c.requires.of_sets c.lookup.ensures.formed c.requires.known c.in-Some.ensures.value c.in_default-as_sets.ensures

pub returns-clause-value : goal.returns-clause-value
returns-clause-value c =
    let is = sets_is (view_of c.in-Some.value.now) c.in-Some-as_sets.sets.now c.in-Some-as_sets.ensures in
    sym c.in-Some.ensures.value ∙ ap Some is

pub returns-clause-forms : goal.returns-clause-forms
returns-clause-forms c =
    let s = c.in-Some-as_sets.sets.now in
    let is = sets_is (view_of c.in-Some.value.now) s c.in-Some-as_sets.ensures in
    held_forms c.args.o.now.state c.args.p (value_of_sets s) c.lookup.ensures.formed c.requires.known (sym c.in-Some.ensures.value ∙ ap Some is)
