-- An object stays honest with an objective that is given to a program of it: it is right in all orders, or in none.
use Rattle.pm_vector.proofs.Filters.{map_among}
use Rattle.pm_vector.proofs.Lists.{Among, Contains_among, among_Contains, among_append, among_append_left, among_append_right, here}
use Rattle.pm_vector.specs.Numbers.{Ratio}
use Rattle.pm_geom.specs.Things.{Orders}
use Rattle.pm_object.proofs.Formed.{only}
use Rattle.pm_object.proofs.Honesty.{facts_append}
use Rattle.pm_object.specs.Honest.{HonestAnswer, IsHonest, IsKept, based, facts, has_tag, is_based}
use Rattle.pm_object.specs.State.{HeldValue, State, given_at, with_held}
use Rattle.pm_props.specs.Properties.{facets_tag, rays_tag}
use Rattle.pm_props.specs.declared.property.PropId.{PropId}
use Rattle.pm_props.specs.declared.property.PropId.TheVariants.{Equations, Inequalities, InputLineality, LinearObjective, Points}
use Rattle.pm_types.specs.Right.{Right, RightAll, RightFact, RightPair, RightTogether}
use Rattle.pm_types.specs.Things.{Thing}
use Rattle.pm_types.specs.Values.{Fact, PropertyValue, counts, edges, extended, lattice, matrix, sets, truth, whole}
use Rattle.std.proofs.Common.{ap, false, inl, inr, refl, subst, sym, true, ◌∙◌}
use Rattle.std.proofs.lemmas.List.Elements.{filter-append}
use Rattle.std.proofs.lemmas.List.Folds.{list_any-append}
use Rattle.std.specs.List.{Contains}
use Rattle.std.specs.Prelude.{Bool, List, Option, Some, [], ℕ, ◌++◌, ◌||◌, ◌∷◌, ◌≡◌, ◌⊎◌}

-- ---- an objective in other orders
other_orders : (v : PropertyValue) (t : Thing) (p q : Orders) (c : List Ratio) → Right LinearObjective v t p c → Right LinearObjective v t q c
other_orders (matrix n rows) t p q c r = r
other_orders v t p q c r = r

-- ---- it is no half of a pair
no_first_half : (v : PropertyValue) (p : PropId) (w : PropertyValue) (t : Thing) → RightPair LinearObjective v p w t
no_first_half v p w t = tt

no_second_half : (p : PropId) (v : PropertyValue) (w : PropertyValue) (t : Thing) → RightPair p v LinearObjective w t
no_second_half Points (matrix n rows) w t = tt
no_second_half Inequalities (matrix n rows) w t = tt
no_second_half p v w t = tt

-- ---- fewer facts, and one more
fewer : (xs ys : List Fact) (t : Thing) (p : Orders) → RightAll (xs ++ ys) t p → RightAll xs t p
fewer xs ys t p r = record {
  thing = r.thing;
  orders = r.orders;
  each = λ f i. r.each f (within i);
  together = λ f g i j. r.together f g (within i) (within j);
}
  where
    within : {f : Fact} → Contains xs f → Contains (xs ++ ys) f
    within i = Contains_among (among_append_left ys (among_Contains xs i))

abbrev objective_fact : ℕ → PropertyValue → Fact
objective_fact s v = record { place = Some s; property = LinearObjective; value = v }

one_more : (xs : List Fact) (s : ℕ) (v : PropertyValue) (t : Thing) (p q : Orders) → RightAll xs t q → RightFact (objective_fact s v) t p → RightAll (xs ++ objective_fact s v ∷ []) t q
one_more xs s v t p q r new = record {
  thing = r.thing;
  orders = r.orders;
  each = λ f i. elim (parts f i) [
    | inl j ↦ r.each f (Contains_among j)
    | inr j ↦ subst (λ g. RightFact g t q) (sym (only j)) (other_orders v t p q (t.objective s) new)
  ];
  together = λ f g i j. elim (parts f i) [
    | inr k ↦ subst (λ x. RightTogether t x g) (sym (only k)) (no_first_half v g.property g.value t)
    | inl k ↦ elim (parts g j) [
      | inr l ↦ subst (λ x. RightTogether t f x) (sym (only l)) (no_second_half f.property f.value v t)
      | inl l ↦ r.together f g (Contains_among k) (Contains_among l)
    ]
  ];
}
  where
    parts : (f : Fact) → Contains (xs ++ objective_fact s v ∷ []) f → Among f xs ⊎ Among f (objective_fact s v ∷ [])
    parts f i = among_append xs (objective_fact s v ∷ []) (among_Contains (xs ++ objective_fact s v ∷ []) i)

-- ---- honesty
pub objective_is_kept : (o : State) (s : ℕ) (v : PropertyValue) → IsKept o → IsKept (with_held o (given_at (Some s) LinearObjective v ∷ []))
objective_is_kept o s v kept = record { honest = record { answer = λ t p of right. made t p of right }; based = λ e h i. elim (among_append o.held (new ∷ []) (among_Contains (o.held ++ new ∷ []) i)) [ inl j ↦ kept.based e h (Contains_among j) | inr j ↦ ap (λ (g : HeldValue). is_based g.origin) (only j) ] }
  where
    new : HeldValue
    new = given_at (Some s) LinearObjective v

    based_more : based (o.held ++ new ∷ []) ≡ based o.held ++ new ∷ []
    based_more = filter-append (λ h. is_based h.origin) o.held (new ∷ [])

    based_facts : facts (based (o.held ++ new ∷ [])) ≡ facts (based o.held) ++ objective_fact s v ∷ []
    based_facts = ap facts based_more ∙ facts_append (based o.held) (new ∷ [])

    -- the objective has no tag
    tagged : (tag : PropId → Bool) → tag LinearObjective ≡ false → has_tag tag (based (o.held ++ new ∷ [])) ≡ true → has_tag tag (based o.held) ≡ true
    tagged tag e h =
        sym (ap (λ z. has_tag tag z) based_more ∙ list_any-append (λ (g : HeldValue). tag g.property) (based o.held) (new ∷ []) ∙ ap (λ b. has_tag tag (based o.held) || (b || false)) e ∙ or_false (has_tag tag (based o.held))) ∙ h
      where
        or_false : (b : Bool) → (b || false) ≡ b
        or_false true = refl
        or_false false = refl

    made : (t : Thing) (p : Orders) → t.of ≡ o.of → RightAll (facts (based (o.held ++ new ∷ []))) t p → HonestAnswer (o.held ++ new ∷ []) t p
    made t p of right =
        let all : RightAll (facts (based o.held) ++ objective_fact s v ∷ []) t p = subst (λ z. RightAll z t p) based_facts right in
        let old = kept.honest.answer t p of (fewer (facts (based o.held)) (objective_fact s v ∷ []) t p all) in
        let right_new : RightFact (objective_fact s v) t p = all.each (objective_fact s v) (Contains_among (among_append_right (facts (based o.held)) here)) in
        record {
          orders = old.orders;
          right = subst (λ z. RightAll z t old.orders) (sym (facts_append o.held (new ∷ []))) (one_more (facts o.held) s v t p old.orders old.right right_new);
          rays = λ e. old.rays (tagged rays_tag refl e);
          facets = λ e. old.facets (tagged facets_tag refl e);
          cones = λ e. old.cones (tagged facets_tag refl e);
        }
