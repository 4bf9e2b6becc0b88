-- What is read of an object that stands for a thing is right for it.
use Rattle.pm_geom.specs.Things.{Orders}
use Rattle.pm_laws_things.specs.BuildingLaws.{ReadRight}
use Rattle.pm_laws_things.specs.FanLaws.{ReadRightFan}
use Rattle.pm_laws_lineage.proofs.Sound.{KnowsDimension, Sound, SoundHeld, sound_held}
use Rattle.pm_laws_lineage.specs.Provenances.{Provenance, StandsFor, lineage_of, made, of_its_values}
use Rattle.pm_laws_lineage.specs.Laws.{ShownIsRight, ShownOfProgramIsRight}
use Rattle.pm_making.specs.Made.{IsRead}
use Rattle.pm_object.proofs.Formed.{value_among}
use Rattle.pm_object.specs.Honest.{IsHonest, facts}
use Rattle.pm_object.specs.Known.{IsKnown}
use Rattle.pm_object.specs.State.{HeldValue, State, ambient_in, cols_of, first_cols, is_held, or_else, read_at, value_of}
use Rattle.pm_object_type.specs.declared.object_type.ObjectType.TheVariants.{Fan, Polytope}
use Rattle.pm_props.proofs.Places.{same_place_is}
use Rattle.pm_props.specs.Places.{place_of, same_place}
use Rattle.pm_props.specs.Properties.{has_program}
use Rattle.pm_props.specs.declared.property.PropId.{PropId}
use Rattle.pm_props.specs.declared.property.PropId.TheVariants.{ConeAmbientDim, LinearObjective}
use Rattle.pm_types.specs.Right.{Right, RightAll, objective_of}
use Rattle.pm_types.specs.Things.{Thing}
use Rattle.pm_types.specs.Values.{PropertyValue, matrix, whole}
use Rattle.pm_vector.proofs.Filters.{among_map, filter_among}
use Rattle.pm_vector.proofs.Lists.{All_among, Among, Contains_among}
use Rattle.pm_vector.specs.Numbers.{Ratio}
use Rattle.std.proofs.Common.{ap, false, inl, inr, refl, subst, sym, true, true≢false, ◌∙◌}
use Rattle.std.specs.Option.{is_some, unwrap_or}
use Rattle.std.specs.Prelude.{Bool, List, None, Option, Some, [], if◌then◌else◌, ℕ, ◌∷◌, ◌≡◌}
use lib.IntN.{pos}

-- ---- all values
pub held_stands_for : (provenance : Provenance) (o : State) → IsHonest o → SoundHeld provenance o → StandsFor (lineage_of provenance o) o
held_stands_for of_its_values o honest s = record { right = λ u d. let (of, p, r) = d in let a = honest.answer u p of r in (of, a.orders, a.right) }
held_stands_for (made l) o honest s = record {
  right = λ u d.
      let (of, p, r) = s u d in
      let a = honest.answer u p of r in
      (of, a.orders, a.right);
}

pub stands_for : (provenance : Provenance) (o : State) → IsHonest o → Sound provenance o → StandsFor (lineage_of provenance o) o
stands_for provenance o honest s = held_stands_for provenance o honest (sound_held provenance o s)

-- ---- one value
right_at : (held : List HeldValue) (t : Thing) (p : Orders) (h : HeldValue) → RightAll (facts held) t p → Among h held → Right h.property h.value t p (objective_of t h.place)
right_at held t p h r i = r.each (record { place = h.place; property = h.property; value = h.value }) (Contains_among (among_map (λ (g : HeldValue). record { place = g.place; property = g.property; value = g.value }) i))

place_none : (p : PropId) → place_of None p ≡ None
place_none p = by (has_program p)
  where
    by : (b : Bool) → ◌≡◌ {A = Option ℕ} (if b then None else None) None
    by true = refl
    by false = refl

pub own_right : (held : List HeldValue) (t : Thing) (p : Orders) (q : PropId) (v : PropertyValue) → RightAll (facts held) t p → value_of q (read_at None held) ≡ Some v → Right q v t p []
own_right held t p q v r e =
    let (h, i, is, same) = value_among q (read_at None held) v e in
    let (j, at) = filter_among (λ (h : HeldValue). same_place h.place (place_of None h.property)) held i in
    let own : h.place ≡ None = same_place_is h.place (place_of None h.property) at ∙ place_none h.property in
    subst (λ z. Right z v t p []) is (subst (λ z. Right h.property z t p []) same (subst (λ z. Right h.property h.value t p (objective_of t z)) own (right_at held t p h r j)))

-- ---- one value of a linear program
place_some : (s : ℕ) (p : PropId) → has_program p ≡ true → place_of (Some s) p ≡ Some s
place_some s p h = ap (λ (b : Bool). if b then Some s else None) h

pub program_right : (held : List HeldValue) (t : Thing) (p : Orders) (s : ℕ) (q : PropId) (v : PropertyValue) → RightAll (facts held) t p → has_program q ≡ true → value_of q (read_at (Some s) held) ≡ Some v → Right q v t p (t.objective s)
program_right held t p s q v r has e =
    let (h, i, is, same) = value_among q (read_at (Some s) held) v e in
    let (j, at) = filter_among (λ (h : HeldValue). same_place h.place (place_of (Some s) h.property)) held i in
    let own : h.place ≡ Some s = same_place_is h.place (place_of (Some s) h.property) at ∙ place_some s h.property (ap has_program is ∙ has) in
    subst (λ z. Right z v t p (t.objective s)) is (subst (λ z. Right h.property z t p (t.objective s)) same (subst (λ z. Right h.property h.value t p (objective_of t z)) own (right_at held t p h r j)))

-- the objective that is held is the thing's
first_row : (c d : List Ratio) → ◌≡◌ {A = List (List Ratio)} (c ∷ []) (d ∷ []) → d ≡ c
first_row c d e = cc

objective_held : (held : List HeldValue) (t : Thing) (p : Orders) (s n : ℕ) (c : List Ratio) → RightAll (facts held) t p → value_of LinearObjective (read_at (Some s) held) ≡ Some (matrix n (c ∷ [])) → t.objective s ≡ c
objective_held held t p s n c r e = first_row c (t.objective s) (program_right held t p s LinearObjective (matrix n (c ∷ [])) r refl e)

-- ---- the dimension
ambient_value : (v : PropertyValue) (t : Thing) (p : Orders) (c : List Ratio) → Right ConeAmbientDim v t p c → v ≡ whole (pos t.cols)
ambient_value (whole k) t p c e = ap whole e
ambient_value v t p c e = absurd e

pub cols_known : (a : State) (t : Thing) (p : Orders) → RightAll (facts a.held) t p → is_held ConeAmbientDim a.held ≡ true → cols_of a.held ≡ Some t.cols
cols_known a t p r h = by (value_of ConeAmbientDim a.held) refl h
  where
    by : (v : Option PropertyValue) → value_of ConeAmbientDim a.held ≡ v → is_some v ≡ true → cols_of a.held ≡ Some t.cols
    by None e k = absurd (true≢false (sym k))
    by (Some v) e k =
        let (h, i, is, same) = value_among ConeAmbientDim a.held v e in
        let right = subst (λ z. Right z v t p (objective_of t h.place)) is (subst (λ z. Right h.property z t p (objective_of t h.place)) same (right_at a.held t p h r i)) in
        ap (λ z. or_else (ambient_in z) (first_cols a.held)) (e ∙ ap Some (ambient_value v t p (objective_of t h.place) right))

-- ---- what is read
pub known_dimension : (ps : List PropId) (a : State) → IsRead ps a → KnowsDimension a → is_held ConeAmbientDim a.held ≡ true
known_dimension ps a read knows = elim read.settled [ inl h ↦ h | inr h ↦ knows h ]

pub is_known : (ps : List PropId) (a : State) (t : Thing) (p : Orders) → IsRead ps a → KnowsDimension a → RightAll (facts a.held) t p → IsKnown ps a
is_known ps a t p read knows r = record { held = read.held; cols = ap is_some (cols_known a t p r (known_dimension ps a read knows)) }

pub read_right : (ps : List PropId) (a : State) (t : Thing) (p : Orders) → IsRead ps a → KnowsDimension a → t.of ≡ Polytope → RightAll (facts a.held) t p → ReadRight ps a t p
read_right ps a t p read knows of r = record {
  known = is_known ps a t p read knows r;
  thing = r.thing;
  orders = r.orders;
  of = of;
  cols = sym (ap (λ z. unwrap_or z 1) (cols_known a t p r (known_dimension ps a read knows)));
  values = All_among (λ q. (v : PropertyValue) → value_of q (read_at None a.held) ≡ Some v → Right q v t p []) ps (λ q i v e. own_right a.held t p q v r e);
}

pub read_right_fan : (ps : List PropId) (a : State) (t : Thing) (p : Orders) → IsRead ps a → KnowsDimension a → t.of ≡ Fan → RightAll (facts a.held) t p → ReadRightFan ps a t p
read_right_fan ps a t p read knows of r = record {
  known = is_known ps a t p read knows r;
  thing = r.thing;
  orders = r.orders;
  of = of;
  cols = sym (ap (λ z. unwrap_or z 1) (cols_known a t p r (known_dimension ps a read knows)));
  values = All_among (λ q. (v : PropertyValue) → value_of q (read_at None a.held) ≡ Some v → Right q v t p []) ps (λ q i v e. own_right a.held t p q v r e);
}

pub shown_of_program_is_right : ShownOfProgramIsRight
shown_of_program_is_right l o s p v n c stands has e objective u d =
    let (of, q, r) = stands.right u d in
    (q, r.orders, subst (λ z. Right p v u q z) (objective_held o.held u q s n c r objective) (program_right o.held u q s p v r has e))

pub shown_is_right : ShownIsRight
shown_is_right l o p v stands e u d = let (of, q, r) = stands.right u d in (q, r.orders, own_right o.held u q p v r e)
