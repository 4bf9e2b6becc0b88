-- The object with a value that it may take: it has one value more, and all its values have their forms.
use Rattle.std.specs.Prelude.{length, map}
use Rattle.std.proofs.Common.{ap, false, rules, refl, sym, subst, ◌≡◌, ◌++◌, ◌∷◌, [], true}
use Rattle.pm_object.proofs.Formed.{IsNew, formed_pushed, map_push, new_where_read}
use Rattle.pm_object.proofs.Given.{given_backed}
use Rattle.pm_object.specs.Formed.{IsFormedIn, stands_at}
use Rattle.pm_object.specs.State.{ObjectSeen, State, cols_of, given_at, sites_agree}
use Rattle.pm_object.specs.Views.{held_seen}
use Rattle.pm_object.specs.declared.held.Held.{Held}
use Rattle.pm_object.specs.declared.held.Origin.TheVariants.{Given}
use Rattle.pm_props.specs.Places.{place_of}
use Rattle.pm_types.specs.Views.{view_of}
use Rattle.pm_object.proofs.object.Object.push_given.Goals as goal
use Rattle.pm_object.proofs.object.Object.push_given.Goals.{In_ok-push}

abbrev given : In_ok-push → Held
given c = record { place = c.place.result; id = c.args.p; value = c.args.v; origin = Given }

pushed : (c : In_ok-push) → c.push.new.self.items ≡ c.self.inside.held.items ++ given c ∷ []
pushed c = search rules

new : (c : In_ok-push) → IsNew (held_seen (given c)) (map held_seen c.self.inside.held.items)
new c = rw c.place.ensures (subst (λ (z : ObjectSeen). stands_at (place_of c.args.sub c.args.p) c.args.p z.state.held ≡ false) (sym c.self.view_is) (new_where_read c.args.sub c.args.p c.args.self.now.state.held c.requires.missing))

pub invariant_of-self-2 : goal.invariant_of-self-2
invariant_of-self-2 c =
    formed_pushed _ held_seen c.self.inside.held.items c.push.new.self.items (given c) refl (pushed c) c.self.invariant (new c) (given_backed c.args.self.now.state.of c.args.sub c.args.p (map held_seen c.self.inside.held.items) c.requires.given)
    (rw c.place.ensures (subst (λ (z : State). IsFormedIn z.of (cols_of z.held) (length z.programs) (given_at c.args.sub c.args.p (view_of c.args.v))) (sym (ap (λ (z : ObjectSeen). z.state) c.self.view_is)) c.requires.fits))
    (λ e. subst (λ (z : ObjectSeen). sites_agree z.state.held c.args.p (view_of c.args.v) ≡ true) (sym c.self.view_is) c.requires.sites)

pub returns-clause-ok : goal.returns-clause-ok
returns-clause-ok c =
    rw (← c.self.view_is, pushed c, map_push held_seen c.self.inside.held.items (given c), c.place.ensures) refl
