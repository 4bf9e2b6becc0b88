-- The next value agrees with those that are held.
use Rattle.std.proofs.Common.{ap, sym, ◌++◌, ◌∙◌}
use Rattle.pm_making.proofs.Adding.{may_of, next_may}
use Rattle.pm_object.specs.State.{State}
use Rattle.std.specs.Vec.Iter.{into_iter_items}
use Rattle.pm_making.proofs.making.add_all.Goals as goal

pub add_given-requires : goal.add_given-requires
add_given-requires c =
    let i = c.loop-p.invariant in
    let whole = ap (λ z. c.loop-p.yielded ++ z) (sym c.in-Some.ensures.steps.0) ∙ i.2 in
    let of = ap (λ (z : State). z.of) i.3 in
    let may = next_may c.args.object.now.state.of c.args.values.items c.loop-p.yielded (into_iter_items c.next.new.self) c.in-Some.p c.in-Some.v c.loop-p.object.state.held c.requires.fitting whole (ap (λ (z : State). z.held) i.3) in
    let so = may_of c.loop-p.object.state c.args.object.now.state.of c.in-Some.p _ of may in
    record { formed = so.forms.formed; missing = so.missing; table = so.table; columns = so.columns; rows = so.forms.rows; primitive = so.forms.primitive; sites = so.sites }
