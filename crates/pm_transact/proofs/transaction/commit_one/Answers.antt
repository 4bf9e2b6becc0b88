use Rattle.std.proofs.Common.{Some, ap, subst, sym, ◌∙◌, ◌≡◌}
use Rattle.std.specs.Option.{option_map}
use Rattle.std.specs.Prelude.{IfSome, length, map}
use Rattle.pm_transact.proofs.Committing.{cols_same}
use Rattle.pm_object.specs.Formed.{IsFormedIn}
use Rattle.pm_object.specs.Laws.{computed_at}
use Rattle.pm_object.specs.Reading.{drafted}
use Rattle.pm_object.specs.State.{State, cols_of}
use Rattle.pm_object.specs.Views.{put_seen}
use Rattle.pm_types.specs.Views.{view_of}
use Rattle.pm_transact.proofs.transaction.commit_one.Goals as goal

pub returns-then-not-held-clause-cols : goal.returns-then-not-held-clause-cols
returns-then-not-held-clause-cols c =
    let old = c.args.object.now.state in
    let is : drafted c.args.p (map put_seen c.args.values.now.items) ≡ Some (view_of c.in-Some.value) = sym c.take_put.ensures.value ∙ ap (λ r. option_map view_of r) c.in-Some.is in
    let fits = subst (λ d. IfSome d (λ v. IsFormedIn old.of (cols_of old.held) (length old.programs) (computed_at c.args.sub c.args.p v))) is c.requires.fits in
    ap (λ (z : State). cols_of z.held) c.add_computed.ensures.added ∙ cols_same old (computed_at c.args.sub c.args.p (view_of c.in-Some.value)) c.lookup.ensures.formed fits c.requires.known
