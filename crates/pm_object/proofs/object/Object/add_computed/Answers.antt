-- The object with a computed value more: all its values have their forms, and the push had room.
use Rattle.std.proofs.Common.{false, refl, rules, subst, sym, true≢false, ◌++◌, ◌∷◌, ◌≡◌, []}
use Rattle.std.specs.Prelude.{length, map}
use Rattle.pm_object.proofs.Formed.{IsNew, formed_pushed, map_push, new_where_read}
use Rattle.pm_object.specs.Formed.{IsBacked, IsFormedIn, stands_at}
use Rattle.pm_object.specs.Laws.{computed_at}
use Rattle.pm_object.specs.State.{ObjectSeen, cols_of}
use Rattle.pm_object.specs.Views.{held_seen}
use Rattle.pm_object.specs.declared.held.Held.{Held}
use Rattle.pm_object.specs.declared.held.Origin.TheVariants.{Computed}
use Rattle.pm_props.specs.Places.{place_of}
use Rattle.pm_types.specs.Views.{view_of}
use Rattle.pm_object.proofs.object.Object.add_computed.Goals as goal
use Rattle.pm_object.proofs.object.Object.add_computed.Goals.{In-Ok}

abbrev made : In-Ok → Held
made c = record { place = c.place.result; id = c.args.p; value = c.args.v; origin = Computed }

pushed : (c : In-Ok) → c.push.new.self.items ≡ c.self.inside.held.items ++ made c ∷ []
pushed c = search rules

new : (c : In-Ok) → IsNew (held_seen (made c)) (map held_seen c.self.inside.held.items)
new c = rw c.place.ensures (subst (λ (z : ObjectSeen). stands_at (place_of c.args.sub c.args.p) c.args.p z.state.held ≡ false) (sym c.self.view_is) (new_where_read c.args.sub c.args.p c.args.self.now.state.held c.requires.missing))

pub invariant_of-self : goal.invariant_of-self
invariant_of-self c =
    formed_pushed _ held_seen c.self.inside.held.items c.push.new.self.items (made c) refl (pushed c) c.self.invariant (new c)
    (subst (λ (z : ObjectSeen). IsBacked c.args.p z.state.held) (sym c.self.view_is) c.requires.backed)
    (rw c.place.ensures (subst (λ (z : ObjectSeen). IsFormedIn z.state.of (cols_of z.state.held) (length z.state.programs) (computed_at c.args.sub c.args.p (view_of c.args.v))) (sym c.self.view_is) c.requires.formed))
    (λ e. absurd (true≢false (sym e)))

pub returns-clause-added : goal.returns-clause-added
returns-clause-added c =
    rw (← c.self.view_is, pushed c, map_push held_seen c.self.inside.held.items (made c), c.place.ensures) refl
