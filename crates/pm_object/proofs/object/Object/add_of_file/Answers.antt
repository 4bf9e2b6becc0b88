-- The object with a value of a file more: all its values have their forms.
use Rattle.std.specs.Prelude.{length, map}
use Rattle.std.proofs.Common.{None, false, refl, rules, subst, sym, ◌++◌, ◌∷◌, ◌≡◌, [], true}
use Rattle.pm_object.proofs.Formed.{IsNew, formed_pushed, map_push, new_in_object}
use Rattle.pm_object.proofs.Given.{given_backed, own_only}
use Rattle.pm_object.specs.Formed.{IsFormedIn, stands_at}
use Rattle.pm_object.specs.State.{ObjectSeen, cols_of, file_value, sites_agree}
use Rattle.pm_object.specs.Views.{held_seen}
use Rattle.pm_object.specs.declared.held.Held.{Held}
use Rattle.pm_types.specs.Views.{view_of}
use Rattle.pm_object.proofs.object.Object.add_of_file.Goals as goal
use Rattle.pm_object.proofs.object.Object.add_of_file.Goals.{In_ok-push}

abbrev made : In_ok-push → Held
made c = record { place = None; id = c.args.p; value = c.args.v; origin = c.args.origin }

pushed : (c : In_ok-push) → c.push.new.self.items ≡ c.self.inside.held.items ++ made c ∷ []
pushed c = search rules

fits : (c : In_ok-push) → IsFormedIn c.args.self.now.state.of (cols_of c.args.self.now.state.held) (length c.args.self.now.state.programs) (file_value c.args.origin c.args.p (view_of c.args.v))
fits c = record { formed = c.requires.formed; columns = c.requires.columns; rows = c.requires.rows; entries = c.reads_entries.ensures; primitive = c.requires.primitive; placed = own_only c.args.self.now.state.of c.args.p c.requires.table; table = λ e. c.requires.table }

new : (c : In_ok-push) → IsNew (held_seen (made c)) (map held_seen c.self.inside.held.items)
new c = subst (λ (z : ObjectSeen). stands_at None c.args.p z.state.held ≡ false) (sym c.self.view_is) (new_in_object c.args.p c.args.self.now.state.held c.requires.missing)

pub invariant_of-self-2 : goal.invariant_of-self-2
invariant_of-self-2 c =
    formed_pushed _ held_seen c.self.inside.held.items c.push.new.self.items (made c) refl (pushed c) c.self.invariant (new c) (given_backed c.args.self.now.state.of None c.args.p (map held_seen c.self.inside.held.items) c.requires.table)
    (subst (λ (z : ObjectSeen). IsFormedIn z.state.of (cols_of z.state.held) (length z.state.programs) (file_value c.args.origin c.args.p (view_of c.args.v))) (sym c.self.view_is) (fits c))
    (λ e. subst (λ (z : ObjectSeen). sites_agree z.state.held c.args.p (view_of c.args.v) ≡ true) (sym c.self.view_is) (c.requires.sites e))

pub returns-clause-ok : goal.returns-clause-ok
returns-clause-ok c =
    rw (← c.self.view_is, pushed c, map_push held_seen c.self.inside.held.items (made c)) refl
