-- A value that is given to an object itself leaves it what it was made of, where the property speaks of no order and is
-- no half of a description.
use Rattle.pm_geom.specs.Things.{Orders}
use Rattle.pm_laws_lineage.proofs.Facts.{based_append, objectives_append, right_of_fewer}
use Rattle.pm_laws_lineage.proofs.Names.{among_fifth, among_first, among_fourth, among_second, among_third, each_of_five}
use Rattle.pm_laws_lineage.proofs.Objectives.{one_more, same_number}
use Rattle.pm_laws_lineage.proofs.Sound.{Sound}
use Rattle.pm_laws_lineage.proofs.Twice.{held_append}
use Rattle.pm_laws_lineage.specs.Lineages.{IsObjectiveOf, IsValueOf, Lineage, with_value}
use Rattle.pm_laws_lineage.specs.Provenances.{keeps_lineage, made, objectives}
use Rattle.pm_object.proofs.Formed.{ambient_is, first_later, first_stays, held_stays, only, place_none}
use Rattle.pm_object.specs.Honest.{based, facts}
use Rattle.pm_object.specs.State.{HeldValue, State, ambient_in, cols_of, first_cols, given_at, has_rounds, is_held, names_to_settle, or_else, settled, settling, with_held}
use Rattle.pm_props.proofs.Places.{same_property_is}
use Rattle.pm_props.specs.Places.{place_of, same_property}
use Rattle.pm_props.specs.Properties.{facets_tag, generators_tag, half_spaces_tag, rays_tag}
use Rattle.pm_props.specs.declared.property.PropId.{PropId}
use Rattle.pm_props.specs.declared.property.PropId.TheVariants.{AffineHull, ConeAmbientDim, Equations, Facets, Inequalities, InputLineality, LinealitySpace, Points, Vertices}
use Rattle.pm_types.proofs.Frame.{right_in_orders}
use Rattle.pm_types.specs.Forms.{agrees_with, stated_cols, states}
use Rattle.pm_types.specs.Right.{Right, RightAll, RightFact, RightPair, objective_of}
use Rattle.pm_types.specs.Things.{Thing}
use Rattle.pm_types.specs.Values.{Fact, PropertyValue, matrix}
use Rattle.pm_vector.proofs.Filters.{among_map, map_among}
use Rattle.pm_vector.proofs.Lists.{All_among, Among, Contains_among, among_All, among_append, among_append_left, among_append_right, here, there}
use Rattle.std.proofs.Common.{ap, false, inl, inr, refl, subst, sym, true, true≢false, ◌∙◌}
use Rattle.std.proofs.lemmas.Bool.{and_from, and_parts, eqb-true, not-true}
use Rattle.std.specs.Option.{is_some, unwrap_or}
use Rattle.std.specs.Prelude.{Bool, List, None, Option, Some, [], if◌then◌else◌, map, nat_eq, not, ℕ, ◌++◌, ◌&&◌, ◌||◌, ◌∷◌, ◌≡◌}
use lib.IntN.{pos}
use Rattle.std.proofs.Math.Bool.{or-false}

-- ---- the property
record Keeps (p : PropId) : Type 0 where
  rays : rays_tag p ≡ false
  facets : facets_tag p ≡ false
  generators : generators_tag p ≡ false
  half_spaces : half_spaces_tag p ≡ false

keeps_parts : (p : PropId) → keeps_lineage p ≡ true → Keeps p
keeps_parts p e =
    let (abc, d) = and_parts (not (rays_tag p) && not (facets_tag p) && not (generators_tag p)) (not (half_spaces_tag p)) e in
    let (ab, c) = and_parts (not (rays_tag p) && not (facets_tag p)) (not (generators_tag p)) abc in
    let (a, b) = and_parts (not (rays_tag p)) (not (facets_tag p)) ab in
    record { rays = not-true _ a; facets = not-true _ b; generators = not-true _ c; half_spaces = not-true _ d }

first_is_no_half : (p : PropId) → Keeps p → (v : PropertyValue) (q : PropId) (w : PropertyValue) (t : Thing) → RightPair p v q w t
first_is_no_half Points k v q w t = absurd (true≢false k.generators)
first_is_no_half Inequalities k v q w t = absurd (true≢false k.half_spaces)
first_is_no_half p k v q w t = tt

second_is_no_half : (q : PropId) (w : PropertyValue) (p : PropId) → Keeps p → (v : PropertyValue) (t : Thing) → RightPair q w p v t
second_is_no_half Points (matrix n rows) InputLineality k v t = absurd (true≢false k.generators)
second_is_no_half Points (matrix n rows) p k v t = tt
second_is_no_half Inequalities (matrix n rows) Equations k v t = absurd (true≢false k.half_spaces)
second_is_no_half Inequalities (matrix n rows) p k v t = tt
second_is_no_half q w p k v t = tt

-- ---- what goes without saying is no more
apart : (q p : PropId) → keeps_lineage q ≡ false → keeps_lineage p ≡ true → same_property q p ≡ false
apart q p other keeps = by (same_property q p) refl
  where
    by : (b : Bool) → same_property q p ≡ b → b ≡ false
    by true e = absurd (true≢false (sym keeps ∙ sym (ap keeps_lineage (same_property_is q p e)) ∙ other))
    by false e = refl

module _ (o : State) (p : PropId) (v : PropertyValue) (keeps : keeps_lineage p ≡ true) where
  abbrev later : List HeldValue
  later = o.held ++ given_at None p v ∷ []

  abbrev before : ℕ
  before = unwrap_or (cols_of o.held) 1

  abbrev now : ℕ
  now = unwrap_or (cols_of (o.held ++ given_at None p v ∷ [])) 1

  still : (q : PropId) → keeps_lineage q ≡ false → is_held q (o.held ++ given_at None p v ∷ []) ≡ is_held q o.held
  still q other = held_append q o.held (given_at None p v ∷ []) ∙ ap (λ t. is_held q o.held || is_some (if t then Some v else None)) (apart q p other keeps) ∙ or-false (is_held q o.held)

  lacked : (q : PropId) → not (is_held q (o.held ++ given_at None p v ∷ [])) ≡ true → not (is_held q o.held) ≡ true
  lacked q e = by (is_held q o.held) refl
    where
      by : (b : Bool) → is_held q o.held ≡ b → not b ≡ true
      by true h = absurd (true≢false (sym (held_stays q o.held (given_at None p v ∷ []) h) ∙ not-true _ e))
      by false h = refl

  -- ---- the columns
  no_dimension : not (is_held ConeAmbientDim (o.held ++ given_at None p v ∷ [])) ≡ true → same_property ConeAmbientDim p ≡ false
  no_dimension none = by (same_property ConeAmbientDim p) refl
    where
      or_true : (b : Bool) → (b || true) ≡ true
      or_true true = refl
      or_true false = refl

      by : (b : Bool) → same_property ConeAmbientDim p ≡ b → b ≡ false
      by false e = refl
      by true e =
          absurd (true≢false (sym (held_append ConeAmbientDim o.held (given_at None p v ∷ []) ∙ ap (λ t. is_held ConeAmbientDim o.held || is_some (if t then Some v else None)) e ∙ or_true (is_held ConeAmbientDim o.held)) ∙ not-true _ none))

  not_known : (x : Option PropertyValue) → not (is_some x) ≡ true → x ≡ None
  not_known None h = refl
  not_known (Some w) h = absurd (true≢false (sym h))

  same_columns : (k : ℕ) → not (is_held ConeAmbientDim (o.held ++ given_at None p v ∷ [])) ≡ true → agrees_with k p v ≡ true → before ≡ k → now ≡ before
  same_columns k none agree right =
      ap (λ z. unwrap_or (or_else (ambient_in z) (first_cols (o.held ++ given_at None p v ∷ []))) 1) (not_known _ none)
      ∙ first (first_cols o.held) refl
      ∙ sym first_before
    where
      first_before : before ≡ unwrap_or (first_cols o.held) 1
      first_before = ap (λ z. unwrap_or (or_else (ambient_in z) (first_cols o.held)) 1) (not_known _ (lacked ConeAmbientDim none))

      stated : (nat_eq (stated_cols p v) 0 || nat_eq (stated_cols p v) k) ≡ true
      stated = subst (λ t. (if t then states k v else nat_eq (stated_cols p v) 0 || nat_eq (stated_cols p v) k) ≡ true) (ambient_is p ∙ no_dimension none) agree

      at : (m : ℕ) → (nat_eq m 0 || nat_eq m k) ≡ true → 1 ≡ k → unwrap_or (if nat_eq m 0 then None else Some m) 1 ≡ 1
      at m h is = by (nat_eq m 0) h
        where
          by : (t : Bool) → (t || nat_eq m k) ≡ true → unwrap_or (if t then None else Some m) 1 ≡ 1
          by true h = refl
          by false h = eqb-true m k h ∙ sym is

      first : (x : Option ℕ) → first_cols o.held ≡ x → unwrap_or (first_cols (o.held ++ given_at None p v ∷ [])) 1 ≡ unwrap_or x 1
      first (Some n) e = ap (λ z. unwrap_or z 1) (first_stays o.held (given_at None p v ∷ []) n e)
      first None e = ap (λ z. unwrap_or z 1) (first_later o.held (given_at None p v ∷ []) e) ∙ at (stated_cols p v) stated (sym (first_before ∙ ap (λ z. unwrap_or z 1) e) ∙ right)

  -- ---- what goes without saying did so before
  settled_before : (k : ℕ) → agrees_with k p v ≡ true → (not (is_held ConeAmbientDim o.held) ≡ true → before ≡ k) → (q : PropId) → Among q (names_to_settle (o.held ++ given_at None p v ∷ [])) → Among (settled now q) (map (settled before) (names_to_settle o.held))
  settled_before k agree right =
      each_of_five (λ q. Among (settled now q) (map (settled before) (names_to_settle o.held))) _ _ _ _ _ dimension lineality equations space hull
    where
      dimension : not (is_held ConeAmbientDim (o.held ++ given_at None p v ∷ [])) ≡ true → Among (settled now ConeAmbientDim) (map (settled before) (names_to_settle o.held))
      dimension h =
          subst (λ z. Among (settled z ConeAmbientDim) (map (settled before) (names_to_settle o.held))) (sym (same_columns k h agree (right (lacked ConeAmbientDim h))))
          (among_map (settled before) (among_first _ _ _ _ _ (lacked ConeAmbientDim h)))

      lineality : (is_held Points (o.held ++ given_at None p v ∷ []) && not (is_held InputLineality (o.held ++ given_at None p v ∷ []))) ≡ true → Among (settled now InputLineality) (map (settled before) (names_to_settle o.held))
      lineality h = let (a, b) = and_parts _ _ h in among_map (settled before) (among_second _ _ _ _ _ (and_from _ _ (sym (still Points refl) ∙ a) (lacked InputLineality b)))

      equations : (is_held Inequalities (o.held ++ given_at None p v ∷ []) && not (is_held Equations (o.held ++ given_at None p v ∷ []))) ≡ true → Among (settled now Equations) (map (settled before) (names_to_settle o.held))
      equations h = let (a, b) = and_parts _ _ h in among_map (settled before) (among_third _ _ _ _ _ (and_from _ _ (sym (still Inequalities refl) ∙ a) (lacked Equations b)))

      space : (is_held Vertices (o.held ++ given_at None p v ∷ []) && not (is_held Points (o.held ++ given_at None p v ∷ [])) && not (is_held Inequalities (o.held ++ given_at None p v ∷ []))
          && not (is_held Facets (o.held ++ given_at None p v ∷ []) && is_held AffineHull (o.held ++ given_at None p v ∷ [])) && not (is_held LinealitySpace (o.held ++ given_at None p v ∷ []))) ≡ true
          → Among (settled now LinealitySpace) (map (settled before) (names_to_settle o.held))
      space h =
          let (abcd, e) = and_parts _ _ h in
          let (abc, d) = and_parts _ _ abcd in
          let (ab, c) = and_parts _ _ abc in
          let (a, b) = and_parts _ _ ab in
          among_map (settled before) (among_fourth _ _ _ _ _ (and_from _ _ (and_from _ _ (and_from _ _ (and_from _ _ (sym (still Vertices refl) ∙ a) (lacked Points b)) (lacked Inequalities c)) (no_pair d)) (lacked LinealitySpace e)))
        where
          no_pair : not (is_held Facets (o.held ++ given_at None p v ∷ []) && is_held AffineHull (o.held ++ given_at None p v ∷ [])) ≡ true → not (is_held Facets o.held && is_held AffineHull o.held) ≡ true
          no_pair d = by (is_held Facets o.held && is_held AffineHull o.held) refl
            where
              by : (t : Bool) → (is_held Facets o.held && is_held AffineHull o.held) ≡ t → not t ≡ true
              by false e = refl
              by true e =
                  let (a, b) = and_parts _ _ e in
                  absurd (true≢false (sym (and_from _ _ (held_stays Facets o.held (given_at None p v ∷ []) a) (held_stays AffineHull o.held (given_at None p v ∷ []) b)) ∙ not-true _ d))

      hull : (is_held Facets (o.held ++ given_at None p v ∷ []) && not (is_held Points (o.held ++ given_at None p v ∷ [])) && not (is_held Inequalities (o.held ++ given_at None p v ∷ []))
          && not (is_held Vertices (o.held ++ given_at None p v ∷ [])) && not (is_held AffineHull (o.held ++ given_at None p v ∷ []))) ≡ true
          → Among (settled now AffineHull) (map (settled before) (names_to_settle o.held))
      hull h =
          let (abcd, e) = and_parts _ _ h in
          let (abc, d) = and_parts _ _ abcd in
          let (ab, c) = and_parts _ _ abc in
          let (a, b) = and_parts _ _ ab in
          among_map (settled before) (among_fifth _ _ _ _ _ (and_from _ _ (and_from _ _ (and_from _ _ (and_from _ _ (sym (still Facets refl) ∙ a) (lacked Points b)) (lacked Inequalities c)) (lacked Vertices d)) (lacked AffineHull e)))

  settling_before : (k : ℕ) → agrees_with k p v ≡ true → (has_rounds o ≡ false → not (is_held ConeAmbientDim o.held) ≡ true → before ≡ k) → (h : HeldValue) → Among h (settling (with_held o (given_at None p v ∷ []))) → Among h (settling o)
  settling_before k agree right h i = by (has_rounds o) refl i
    where
      by : (t : Bool) → has_rounds o ≡ t → Among h (map (settled now) (if t then [] else names_to_settle (o.held ++ given_at None p v ∷ []))) → Among h (settling o)
      by true e i = elim i [ ]
      by false e i =
          let (q, j, is) = map_among (settled now) (names_to_settle (o.held ++ given_at None p v ∷ [])) i in
          subst (λ t. Among h (map (settled before) (if t then [] else names_to_settle o.held))) (sym e) (subst (λ z. Among z (map (settled before) (names_to_settle o.held))) (sym is) (settled_before k agree (right e) q j))

  -- ---- the value is right in the same orders
  abbrev new_fact : Fact
  new_fact = record { place = place_of None p; property = p; value = v }

  right_here : (u : Thing) (q : Orders) → IsValueOf u p v → RightFact new_fact u q
  right_here u q is =
      let k = keeps_parts p keeps in
      subst (λ z. Right p v u q (objective_of u z)) (sym (place_none p)) (right_in_orders p v u is.orders q [] (record { rays = inl k.rays; facets = inl k.facets; cones = inl k.facets }) is.right)

  dimension_right : (u : Thing) (q : Orders) → RightAll (facts (based o.held ++ settling o)) u q → has_rounds o ≡ false → not (is_held ConeAmbientDim o.held) ≡ true → before ≡ u.cols
  dimension_right u q r e h = same_number before u.cols right
    where
      i : Among (settled before ConeAmbientDim) (settling o)
      i = among_map (settled before) (subst (λ t. Among ConeAmbientDim (if t then [] else names_to_settle o.held)) (sym e) (among_first _ _ _ _ _ h))

      right : pos before ≡ pos u.cols
      right = r.each (record { place = None; property = ConeAmbientDim; value = (settled before ConeAmbientDim).value }) (Contains_among (among_map (λ (g : HeldValue). record { place = g.place; property = g.property; value = g.value }) (among_append_right (based o.held) i)))

  all_right : (u : Thing) (q : Orders) → IsValueOf u p v → RightAll (facts (based o.held ++ settling o)) u q → RightAll (facts (based (o.held ++ given_at None p v ∷ []) ++ settling (with_held o (given_at None p v ∷ [])))) u q
  all_right u q is r =
      right_of_fewer (new_fact ∷ facts (based o.held ++ settling o)) _ u q within
      (one_more (facts (based o.held ++ settling o)) new_fact u q (λ g. first_is_no_half p (keeps_parts p keeps) v g.property g.value u) (λ g. second_is_no_half g.property g.value p (keeps_parts p keeps) v u) r (right_here u q is))
    where
      fact_of : HeldValue → Fact
      fact_of h = record { place = h.place; property = h.property; value = h.value }

      old : (h : HeldValue) → Among h (based o.held ++ settling o) → Among (fact_of h) (new_fact ∷ facts (based o.held ++ settling o))
      old h i = there (among_map (λ (h : HeldValue). record { place = h.place; property = h.property; value = h.value }) i)

      held : (h : HeldValue) → Among h (based (o.held ++ given_at None p v ∷ []) ++ settling (with_held o (given_at None p v ∷ []))) → Among (fact_of h) (new_fact ∷ facts (based o.held ++ settling o))
      held h i = elim (among_append (based (o.held ++ given_at None p v ∷ [])) (settling (with_held o (given_at None p v ∷ []))) i) [
        | inl j ↦ elim (among_append (based o.held) (given_at None p v ∷ []) (subst (λ z. Among h z) (based_append o.held (given_at None p v ∷ [])) j)) [
          | inl k ↦ old h (among_append_left (settling o) k)
          | inr k ↦ subst (λ z. Among (fact_of z) (new_fact ∷ facts (based o.held ++ settling o))) (sym (only k)) here
        ]
        | inr j ↦ old h (among_append_right (based o.held) (settling_before u.cols is.columns (dimension_right u q r) h j))
      ]

      within : (f : Fact) → Among f (facts (based (o.held ++ given_at None p v ∷ []) ++ settling (with_held o (given_at None p v ∷ [])))) → Among f (new_fact ∷ facts (based o.held ++ settling o))
      within f i =
          let (h, j, is) = map_among (λ (h : HeldValue). record { place = h.place; property = h.property; value = h.value }) _ i in
          subst (λ z. Among z (new_fact ∷ facts (based o.held ++ settling o))) (sym is) (held h j)

  pub sound_given : (l : Lineage) → Sound (made l) o → Sound (made (with_value l p v)) (with_held o (given_at None p v ∷ []))
  sound_given l sound u (given, objects) =
      let (of, q, r) = sound u (given.0, All_among (IsObjectiveOf u) (objectives (based o.held)) (λ h i. among_All (IsObjectiveOf u) (more i) objects)) in
      (of, q, all_right u q given.1 r)
    where
      more : {h : HeldValue} → Among h (objectives (based o.held)) → Among h (objectives (based (o.held ++ given_at None p v ∷ [])))
      more {h} i = subst (λ z. Among h z) (sym (ap objectives (based_append o.held (given_at None p v ∷ [])) ∙ objectives_append (based o.held) (given_at None p v ∷ []))) (among_append_left (objectives (given_at None p v ∷ [])) i)
