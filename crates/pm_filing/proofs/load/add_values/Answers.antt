-- The next value suits the column count that those suit that are held.
use Rattle.std.proofs.Common.{ap, sym, ◌++◌, ◌∙◌}
use Rattle.pm_filing.proofs.Fitting.{next_agrees, next_fits, next_is_new, next_of_table}
use Rattle.pm_object.specs.State.{State}
use Rattle.std.specs.Vec.Iter.{into_iter_items}
use Rattle.pm_filing.proofs.load.add_values.Goals as goal

pub add_value-requires : goal.add_value-requires
add_value-requires c =
    let i = c.loop-p.invariant in
    let whole = ap (λ z. c.loop-p.yielded ++ z) (sym c.in-Some.ensures.steps.0) ∙ i.2 in
    let fits = next_fits c.args.object.now.state.of c.requires.suit.0 c.args.stored c.args.values.items c.loop-p.yielded (into_iter_items c.next.new.self) (c.in-Some.p, c.in-Some.v) c.loop-p.object.state.held
    c.requires.suit.1 whole (ap (λ (z : State). z.held) i.3) in
    let of = ap (λ (z : State). z.of) i.3 in
    let held = ap (λ (z : State). z.held) i.3 in
    record {
      suits = rw of (c.requires.suit.0, fits.0, fits.1);
      missing = next_is_new c.args.stored c.args.values.items c.loop-p.yielded (into_iter_items c.next.new.self) (c.in-Some.p, c.in-Some.v) c.loop-p.object.state.held c.requires.once whole held;
      sites = next_agrees c.args.stored c.args.values.items c.loop-p.yielded (into_iter_items c.next.new.self) (c.in-Some.p, c.in-Some.v) c.loop-p.object.state.held c.requires.sites whole held;
      table = rw of (next_of_table c.args.object.now.state.of c.args.values.items c.loop-p.yielded (into_iter_items c.next.new.self) (c.in-Some.p, c.in-Some.v) c.requires.table whole);
    }
