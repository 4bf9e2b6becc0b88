-- An object stays honest.
use Rattle.pm_vector.proofs.Filters.{among_map, any_to, filter_among, map_among}
use Rattle.pm_vector.proofs.Lists.{Among, Contains_among, among_Contains, among_append, here, there}
use Rattle.pm_geom.specs.Things.{Orders}
use Rattle.pm_types.specs.Things.{Thing}
use Rattle.pm_object_type.specs.declared.object_type.ObjectType.{ObjectType}
use Rattle.pm_object.specs.Honest.{HonestAnswer, IsHonest, IsKept, based, facts, has_tag, is_based}
use Rattle.pm_object.specs.Laws.{computed}
use Rattle.pm_object.specs.State.{HeldValue, State, cols_of, empty_object, has_rounds, holds_stored, is_sealed, names_to_settle, settled, settling, settling_names, with_held}
use Rattle.pm_types.proofs.Kept.{kept}
use Rattle.pm_props.specs.Kinds.{IsFresh}
use Rattle.pm_props.specs.Properties.{facets_tag, rays_tag}
use Rattle.pm_types.specs.Right.{RightAll}
use Rattle.pm_types.specs.Runs.{IsFree, MayAnswer, MayRun, missing, shown}
use Rattle.pm_types.specs.Values.{Fact}
use Rattle.pm_props.specs.declared.kind.Kind.{Kind}
use Rattle.pm_props.specs.declared.property.PropId.{PropId}
use Rattle.std.proofs.Common.{ap, append-nil, arith, false, inl, inr, refl, subst, sym, true, true≢false, ◌∙◌}
use Rattle.std.specs.List.{Contains}
use Rattle.std.specs.Option.{unwrap_or}
use Rattle.std.specs.Prelude.{Bool, List, Option, suc, [], ◌||◌, if◌then◌else◌, length, map, nat_eq, not, ℕ, ◌++◌, ◌∷◌, ◌≡◌}

pub facts_append : (xs ys : List HeldValue) → facts (xs ++ ys) ≡ facts xs ++ facts ys
facts_append [] ys = refl
facts_append (x ∷ xs) ys = ap (λ t. record { place = x.place; property = x.property; value = x.value } ∷ t) (facts_append xs ys)

facts_computed : (xs : List Fact) → facts (computed xs) ≡ xs
facts_computed [] = refl
facts_computed (x ∷ xs) = ap (λ t. x ∷ t) (facts_computed xs)

based_computed : (xs : List HeldValue) (ys : List Fact) → based (xs ++ computed ys) ≡ based xs
based_computed [] [] = refl
based_computed [] (y ∷ ys) = based_computed [] ys
based_computed (x ∷ xs) ys = ap (λ t. if is_based x.origin then x ∷ t else t) (based_computed xs ys)

all_based : (xs : List HeldValue) → ((h : HeldValue) → Among h xs → is_based h.origin ≡ true) → based xs ≡ xs
all_based [] h = refl
all_based (x ∷ xs) h =
    ap (λ b. if b then x ∷ based xs else based xs) (h x here) ∙ ap (λ t. x ∷ t) (all_based xs (λ g i. h g (there i)))

-- an order of which a given or stored value speaks stays
tag_stays : {A : Type 0} (tag : PropId → Bool) (kind : Kind) (held : List HeldValue) (first mid last : A) → IsFree tag kind (facts held)
    → (¬ (IsFresh tag kind) → last ≡ mid) → (has_tag tag (based held) ≡ true → mid ≡ first) → has_tag tag (based held) ≡ true → last ≡ first
tag_stays tag kind held first mid last free keeps before h =
    let (x, i, e) = any_to (λ g. tag g.property) (based held) h in
    let j = (filter_among (λ g. is_based g.origin) held i).0 in
    keeps (λ fresh. true≢false (sym e ∙ free.none fresh (record { place = x.place; property = x.property; value = x.value }) (Contains_among (among_map (λ g. record { place = g.place; property = g.property; value = g.value }) j))))
    ∙ before h

pub commit_is_honest : (o : State) (sub : Option ℕ) (kind : Kind) (n : ℕ) (answer : List Fact) → MayRun kind sub n (facts o.held) → MayAnswer o.of n kind sub (shown kind sub (facts o.held)) answer
    → IsHonest o → IsHonest (with_held o (computed (missing sub (facts o.held) answer)))
commit_is_honest o sub kind n answer run may honest = record { answer = λ t p of right. made t p of right }
  where
    added : List Fact
    added = missing sub (facts o.held) answer

    same_based : based (o.held ++ computed added) ≡ based o.held
    same_based = based_computed o.held added

    same_facts : facts (o.held ++ computed added) ≡ facts o.held ++ added
    same_facts = facts_append o.held (computed added) ∙ ap (λ t. facts o.held ++ t) (facts_computed added)

    made : (t : Thing) (p : Orders) → t.of ≡ o.of → RightAll (facts (based (o.held ++ computed added))) t p → HonestAnswer (o.held ++ computed added) t p
    made t p of right =
        let old = honest.answer t p of (subst (λ z. RightAll (facts z) t p) same_based right) in
        let new = kept o.of n kind sub (facts o.held) answer run may t old.orders of old.right in
        let tagged : (tag : PropId → Bool) → has_tag tag (based (o.held ++ computed added)) ≡ true → has_tag tag (based o.held) ≡ true = λ tag e. sym (ap (λ z. has_tag tag z) same_based) ∙ e in
        record {
          orders = new.orders;
          right = subst (λ z. RightAll z t new.orders) (sym same_facts) new.right;
          rays = λ e. tag_stays rays_tag kind o.held p.rays old.orders.rays new.orders.rays run.rays new.keeps.rays old.rays (tagged rays_tag e);
          facets = λ e. tag_stays facets_tag kind o.held p.facets old.orders.facets new.orders.facets run.facets new.keeps.facets old.facets (tagged facets_tag e);
          cones = λ e. tag_stays facets_tag kind o.held p.cones old.orders.cones new.orders.cones run.facets new.keeps.cones old.cones (tagged facets_tag e);
        }

-- ---- given and stored values
based_is_honest : (o : State) → ((h : HeldValue) → Among h o.held → is_based h.origin ≡ true) → IsHonest o
based_is_honest o all = record {
  answer = λ t p of right. record { orders = p; right = subst (λ z. RightAll (facts z) t p) (all_based o.held all) right; rays = λ e. refl; facets = λ e. refl; cones = λ e. refl };
}

pub empty_is_kept : (of : ObjectType) → IsKept (empty_object of)
empty_is_kept of = record { honest = based_is_honest (empty_object of) (λ h i. elim i [ ]); based = λ e h i. elim (among_Contains [] i) [ ] }

pub based_is_kept : (o : State) (more : List HeldValue) → o.rounds ≡ [] → ((h : HeldValue) → Contains more h → is_based h.origin ≡ true) → IsKept o → IsKept (with_held o more)
based_is_kept o more none given is = record { honest = based_is_honest (with_held o more) all; based = λ e h i. all h (among_Contains (o.held ++ more) i) }
  where
    all : (h : HeldValue) → Among h (o.held ++ more) → is_based h.origin ≡ true
    all h i = elim (among_append o.held more i) [
      | inl j ↦ is.based none h (Contains_among j)
      | inr j ↦ given h (Contains_among j)
    ]

more_than_0 : (n : ℕ) → nat_eq (suc n) 0 ≡ false
more_than_0 n = grind arith

pub no_rounds : (o : State) → has_rounds o ≡ false → o.rounds ≡ []
no_rounds o e = by o.rounds e
  where
    by : {X : Type 0} (rounds : List X) → not (nat_eq (length rounds) 0) ≡ false → rounds ≡ []
    by [] e = refl
    by (r ∷ rounds) e = absurd (true≢false (sym (ap not (more_than_0 (length rounds))) ∙ e))

pub settled_is_kept : (o : State) → IsKept o → IsKept (with_held o (settling o))
settled_is_kept o is = by (has_rounds o) refl
  where
    n : ℕ
    n = unwrap_or (cols_of o.held) 1

    by : (t : Bool) → has_rounds o ≡ t → IsKept (with_held o (settling o))
    by true e = subst IsKept (ap (λ z. record o { held = z }) (sym (ap (λ z. o.held ++ map (settled n) z) (ap (λ b. if b then [] else names_to_settle o.held) e) ∙ append-nil o.held))) is
    by false e = based_is_kept o (settling o) (no_rounds o e) (λ h i. given h (among_Contains (settling o) i)) is
      where
        given : (h : HeldValue) → Among h (settling o) → is_based h.origin ≡ true
        given h i = let (p, j, is) = map_among (settled n) (settling_names o) i in ap (λ z. is_based z.origin) is

pub honesty_is_of_values : (o p : State) → p.of ≡ o.of → p.held ≡ o.held → IsHonest o → IsHonest p
honesty_is_of_values o p of held honest = record {
  answer = λ t q is right. subst (λ z. HonestAnswer z t q) (sym held) (honest.answer t q (is ∙ of) (subst (λ z. RightAll (facts (based z)) t q) held right));
}

-- an object that is not sealed has no rounds
pub unsealed_has_no_rounds : (o : State) → is_sealed o ≡ false → o.rounds ≡ []
unsealed_has_no_rounds o e = by (has_rounds o) refl e
  where
    by : (t : Bool) → has_rounds o ≡ t → (t || holds_stored o.held) ≡ false → o.rounds ≡ []
    by true h f = absurd (true≢false f)
    by false h f = no_rounds o h
