-- The sets that are read of a polytope, as right sets.
use Rattle.pm_vector.proofs.Lists.{Among, among_All}
use Rattle.pm_laws_things.proofs.ReadRights.{read_value}
use Rattle.pm_laws_things.specs.BuildingLaws.{ReadRight}
use Rattle.pm_geom.specs.Things.{Orders}
use Rattle.pm_object.specs.Known.{held_sets, sets_at}
use Rattle.pm_types.specs.Parts.{value_of_sets}
use Rattle.pm_object.specs.State.{State, is_held, read_at, value_of}
use Rattle.pm_props.specs.declared.property.PropId.TheVariants.{VerticesInFacets}
use Rattle.pm_props.specs.declared.property.PropId.{PropId}
use Rattle.pm_types.specs.Right.{Right}
use Rattle.pm_types.specs.Things.{Thing}
use Rattle.pm_types.specs.Values.{PropertyValue, sets}
use Rattle.std.proofs.Common.{refl, subst, sym, true, true≢false}
use Rattle.std.specs.Option.{is_some}
use Rattle.std.specs.Prelude.{IsTrue, List, None, Option, Some, [], ◌≡◌}

pub record RightSets (a : State) (t : Thing) (o : Orders) : Type 0 where
  pub right : Right VerticesInFacets (value_of_sets (sets_at VerticesInFacets a)) t o []

pub read_sets : (ps : List PropId) (a : State) (t : Thing) (o : Orders) → Among VerticesInFacets ps → ReadRight ps a t o → RightSets a t o
read_sets ps a t o i r = by (value_of VerticesInFacets (read_at None a.held)) refl (among_All (λ q. IsTrue (is_held q (read_at None a.held))) i r.known.held)
  where
    of_value : (v : PropertyValue) → Right VerticesInFacets v t o [] → Right VerticesInFacets (value_of_sets (held_sets (Some v))) t o []
    of_value (sets rows n) h = h
    of_value v h = absurd h

    by : (x : Option PropertyValue) → value_of VerticesInFacets (read_at None a.held) ≡ x → is_some x ≡ true → RightSets a t o
    by None e h = absurd (true≢false (sym h))
    by (Some v) e h = record { right = subst (λ z. Right VerticesInFacets (value_of_sets (held_sets z)) t o []) (sym e) (of_value v (read_value ps VerticesInFacets a t o i r v e)) }
