-- What goes without saying of a savable object is filled in alike in what is loaded of its file.
use Rattle.pm_files.specs.Files.{SavedFile}
use Rattle.pm_filing.specs.Filing.{loaded_object, unsettled_object}
use Rattle.pm_filing.specs.Whole.{IsLoadedAgain, held_again, is_kept}
use Rattle.pm_laws_lineage.proofs.Counts.{agrees_so, all_at, built_savable, counted, first_at, no_names, not_known, settled_states_none, shape_savable}
use Rattle.pm_laws_lineage.proofs.Names.{among_fifth, among_first, among_fourth, among_second, among_third, each_of_five}
use Rattle.pm_laws_lineage.proofs.Saved.{apart, had, has_or_unsaid, in_settling, loaded_again_stands, not_both, not_said, of_held}
use Rattle.pm_laws_lineage.proofs.Saying.{settling_says}
use Rattle.pm_laws_lineage.specs.Provenances.{is_savable, states_one_count}
use Rattle.pm_laws_lineage.specs.Saved.{LoadedUnaskedStands, MadeAreSavable}
use Rattle.pm_machine.specs.Steps.{settled_object}
use Rattle.pm_object.proofs.Formed.{nobody, none_stated}
use Rattle.pm_object.specs.State.{HeldValue, State, agrees, cols_of, first_cols, has_rounds, is_held, names_to_settle, settled, settling, value_of}
use Rattle.pm_props.specs.Places.{same_property}
use Rattle.pm_props.specs.Properties.{has_program}
use Rattle.pm_props.specs.declared.property.PropId.{PropId}
use Rattle.pm_props.specs.declared.property.PropId.TheVariants.{AffineHull, ConeAmbientDim, Equations, Facets, Inequalities, InputLineality, LinealitySpace, Points, Vertices}
use Rattle.pm_rules.specs.declared.rule.Rule.{Rule}
use Rattle.pm_types.specs.Forms.{stated_cols}
use Rattle.pm_vector.proofs.Filters.{among_map, map_among}
use Rattle.pm_vector.proofs.Lists.{Among, Contains_among, among_Contains, among_append, among_append_left, among_append_right}
use Rattle.std.proofs.Common.{ap, false, inl, inr, refl, subst, sym, true, true≢false, ◌∙◌}
use Rattle.std.proofs.lemmas.Bool.{and_from, and_parts, cases_Bool, eqb-true, not-true}
use Rattle.std.specs.List.{Contains}
use Rattle.std.specs.Option.{unwrap_or}
use Rattle.std.specs.Prelude.{Bool, List, None, Option, Some, [], if◌then◌else◌, length, map, nat_eq, not, ℕ, ◌&&◌, ◌||◌, ◌≡◌}

module _ (book : List Rule) (o : State) (f : SavedFile) (placed : (h : HeldValue) → Contains o.held h → has_program h.property ≡ false → h.place ≡ None) (again : IsLoadedAgain book o f) where
  abbrev file : List HeldValue
  file = (unsettled_object book f).held

  abbrev n : ℕ
  n = unwrap_or (cols_of (unsettled_object book f).held) 1

  lacked : (p : PropId) → not (is_held p o.held) ≡ true → not (is_held p (unsettled_object book f).held) ≡ true
  lacked p e = by (is_held p (unsettled_object book f).held) refl
    where
      by : (t : Bool) → is_held p (unsettled_object book f).held ≡ t → not t ≡ true
      by false k = refl
      by true k = absurd (not_both (had book o f placed again p k) (not-true _ e))

  in_file : (p : PropId) → has_program p ≡ false → (Among p (names_to_settle (unsettled_object book f).held) → ⊥) → is_held p o.held ≡ true → is_held p (unsettled_object book f).held ≡ true
  in_file p own never e = elim (has_or_unsaid book o f placed again p own e) [ inl k ↦ k | inr k ↦ absurd (never k) ]

  told : (p : PropId) → has_program p ≡ false → same_property p ConeAmbientDim ≡ false → same_property p InputLineality ≡ false → same_property p Equations ≡ false → same_property p LinealitySpace ≡ false → same_property p AffineHull ≡ false
      → is_held p o.held ≡ true → is_held p (unsettled_object book f).held ≡ true
  told p own h1 h2 h3 h4 h5 = in_file p own (apart book o f placed again p h1 h2 h3 h4 h5)

  -- ---- the columns
  from_object : (g : HeldValue) → Among g (unsettled_object book f).held → (w : HeldValue) × Among w o.held × (stated_cols g.property g.value ≡ stated_cols w.property w.value)
  from_object g i = elim (again.others g (Contains_among (among_append_left (settling (unsettled_object book f)) i))) [
    | inl w ↦ (w.0, among_Contains _ w.1, ap (λ (z : HeldValue). stated_cols z.property z.value) w.3)
    | inr j ↦ (
        let (q, is) = in_settling book o f placed again g (among_Contains _ j) in
        absurd (not_both (of_held g.property (unsettled_object book f).held g i refl) (not_said book o f placed again g.property q))
        )
  ]

  to_file : (w : HeldValue) → Among w o.held → is_kept w ≡ true → nat_eq (stated_cols w.property w.value) 0 ≡ false → (g : HeldValue) × Among g (unsettled_object book f).held × (stated_cols g.property g.value ≡ stated_cols w.property w.value)
  to_file w i kept some = elim (among_append (unsettled_object book f).held (settling (unsettled_object book f)) (among_Contains _ (again.held w (Contains_among i) kept))) [
    | inl j ↦ (held_again w, j, refl)
    | inr j ↦ (
        let (q, is) = in_settling book o f placed again (held_again w) j in
        absurd (not_both (ap (λ (z : HeldValue). nat_eq (stated_cols z.property z.value) 0) is ∙ settled_states_none n w.property) some)
        )
  ]

  same_first : not (is_held ConeAmbientDim o.held) ≡ true → states_one_count o.held ≡ true → first_cols (unsettled_object book f).held ≡ first_cols o.held
  same_first none one = by (first_cols o.held) (first_cols (unsettled_object book f).held) refl refl
    where
      some : (m : ℕ) → first_cols (unsettled_object book f).held ≡ Some m → (w : HeldValue) × Among w o.held × (stated_cols w.property w.value ≡ m) × (nat_eq m 0 ≡ false)
      some m e =
          let (g, i, r, s) = first_at (unsettled_object book f).held m e in
          let (w, j, same) = from_object g i in
          (w, j, sym same ∙ r, s)

      agree : (w : HeldValue) → Among w o.held → (is_kept w ≡ true) × (agrees (first_cols o.held) w.property w.value ≡ true)
      agree w i =
          let (a, b) = and_parts _ _ (all_at (λ h. is_kept h && agrees (cols_of o.held) h.property h.value) o.held one i) in
          (a, subst (λ z. agrees z w.property w.value ≡ true) (counted o.held none) b)

      by : (x y : Option ℕ) → first_cols o.held ≡ x → first_cols (unsettled_object book f).held ≡ y → y ≡ x
      by None None e h = refl
      by None (Some m) e h = let (w, i, r, s) = some m h in absurd (not_both (subst (λ z. nat_eq z 0 ≡ true) r (none_stated o.held e i)) s)
      by (Some k) None e h =
          let (w, i, r, s) = first_at o.held k e in
          let (g, j, same) = to_file w i (agree w i).0 (subst (λ z. nat_eq z 0 ≡ false) (sym r) s) in
          absurd (not_both (subst (λ z. nat_eq z 0 ≡ true) (same ∙ r) (none_stated (unsettled_object book f).held h j)) s)
      by (Some k) (Some m) e h =
          let (w, i, r, s) = some m h in
          let a : (nat_eq m 0 || nat_eq m k) ≡ true = subst (λ z. (nat_eq z 0 || nat_eq z k) ≡ true) r (agrees_so k w.property w.value (nobody ConeAmbientDim o.held (not_known (value_of ConeAmbientDim o.held) none) i) (subst (λ z. agrees z w.property w.value ≡ true) e (agree w i).1)) in
          ap Some (eqb-true m k (subst (λ t. (t || nat_eq m k) ≡ true) s a))

  same_columns : not (is_held ConeAmbientDim o.held) ≡ true → states_one_count o.held ≡ true → unwrap_or (cols_of (unsettled_object book f).held) 1 ≡ unwrap_or (cols_of o.held) 1
  same_columns none one = ap (λ z. unwrap_or z 1) (counted (unsettled_object book f).held (lacked ConeAmbientDim none) ∙ same_first none one ∙ sym (counted o.held none))

  -- ---- what goes without saying of the object does so of the file
  again_settled : (is_held ConeAmbientDim o.held || states_one_count o.held) ≡ true → (q : PropId) → Among q (names_to_settle o.held) → Among (settled (unwrap_or (cols_of o.held) 1) q) (settling (unsettled_object book f))
  again_settled counts =
      each_of_five (λ q. Among (settled (unwrap_or (cols_of o.held) 1) q) (settling (unsettled_object book f))) _ _ _ _ _ dimension lineality equations space hull
    where
      dimension : not (is_held ConeAmbientDim o.held) ≡ true → Among (settled (unwrap_or (cols_of o.held) 1) ConeAmbientDim) (settling (unsettled_object book f))
      dimension h =
          subst (λ z. Among (settled z ConeAmbientDim) (settling (unsettled_object book f))) (same_columns h (subst (λ t. (t || states_one_count o.held) ≡ true) (not-true _ h) counts))
          (among_map (settled n) (among_first _ _ _ _ _ (lacked ConeAmbientDim h)))

      lineality : (is_held Points o.held && not (is_held InputLineality o.held)) ≡ true → Among (settled (unwrap_or (cols_of o.held) 1) InputLineality) (settling (unsettled_object book f))
      lineality h = let (a, b) = and_parts _ _ h in among_map (settled n) (among_second _ _ _ _ _ (and_from _ _ (told Points refl refl refl refl refl refl a) (lacked InputLineality b)))

      equations : (is_held Inequalities o.held && not (is_held Equations o.held)) ≡ true → Among (settled (unwrap_or (cols_of o.held) 1) Equations) (settling (unsettled_object book f))
      equations h = let (a, b) = and_parts _ _ h in among_map (settled n) (among_third _ _ _ _ _ (and_from _ _ (told Inequalities refl refl refl refl refl refl a) (lacked Equations b)))

      space : (is_held Vertices o.held && not (is_held Points o.held) && not (is_held Inequalities o.held) && not (is_held Facets o.held && is_held AffineHull o.held) && not (is_held LinealitySpace o.held)) ≡ true
          → Among (settled (unwrap_or (cols_of o.held) 1) LinealitySpace) (settling (unsettled_object book f))
      space h =
          let (abcd, e) = and_parts _ _ h in
          let (abc, d) = and_parts _ _ abcd in
          let (ab, c) = and_parts _ _ abc in
          let (a, b) = and_parts _ _ ab in
          among_map (settled n) (among_fourth _ _ _ _ _ (and_from _ _ (and_from _ _ (and_from _ _ (and_from _ _ (told Vertices refl refl refl refl refl refl a) (lacked Points b)) (lacked Inequalities c)) (no_pair d)) (lacked LinealitySpace e)))
        where
          no_pair : not (is_held Facets o.held && is_held AffineHull o.held) ≡ true → not (is_held Facets (unsettled_object book f).held && is_held AffineHull (unsettled_object book f).held) ≡ true
          no_pair d = elim (cases_Bool (is_held Facets (unsettled_object book f).held && is_held AffineHull (unsettled_object book f).held)) [
            | inr k ↦ ap not k
            | inl k ↦ (let (a, b) = and_parts _ _ k in absurd (not_both (and_from _ _ (had book o f placed again Facets a) (had book o f placed again AffineHull b)) (not-true _ d)))
          ]

      hull : (is_held Facets o.held && not (is_held Points o.held) && not (is_held Inequalities o.held) && not (is_held Vertices o.held) && not (is_held AffineHull o.held)) ≡ true
          → Among (settled (unwrap_or (cols_of o.held) 1) AffineHull) (settling (unsettled_object book f))
      hull h =
          let (abcd, e) = and_parts _ _ h in
          let (abc, d) = and_parts _ _ abcd in
          let (ab, c) = and_parts _ _ abc in
          let (a, b) = and_parts _ _ ab in
          among_map (settled n) (among_fifth _ _ _ _ _ (and_from _ _ (and_from _ _ (and_from _ _ (and_from _ _ (told Facets refl refl refl refl refl refl a) (lacked Points b)) (lacked Inequalities c)) (lacked Vertices d)) (lacked AffineHull e)))

  settling_again : is_savable o ≡ true → (h : HeldValue) → Among h (settling o) → Among (held_again h) (loaded_object book f).held
  settling_again savable h i = by (has_rounds o) (nat_eq (length (names_to_settle o.held)) 0) refl refl savable
    where
      by : (t s : Bool) → has_rounds o ≡ t → nat_eq (length (names_to_settle o.held)) 0 ≡ s → (s || (not t && (is_held ConeAmbientDim o.held || states_one_count o.held))) ≡ true → Among (held_again h) (loaded_object book f).held
      by t true e z k = absurd (none t)
        where
          none : Bool → ⊥
          none t = elim (subst (λ ps. Among h (map (settled (unwrap_or (cols_of o.held) 1)) ps)) (nothing (has_rounds o)) i) [ ]
            where
              nothing : (t : Bool) → (if t then [] else names_to_settle o.held) ≡ []
              nothing true = refl
              nothing false = no_names (names_to_settle o.held) z
      by true false e z k = absurd (true≢false (sym k))
      by false false e z k =
          let (q, j, is) = map_among (settled (unwrap_or (cols_of o.held) 1)) (names_to_settle o.held) (subst (λ t. Among h (map (settled (unwrap_or (cols_of o.held) 1)) (if t then [] else names_to_settle o.held))) e i) in
          subst (λ z. Among (held_again z) (loaded_object book f).held) (sym is) (among_append_right (unsettled_object book f).held (again_settled k q j))

  -- the file is one of the settled object
  pub settled_again : is_savable o ≡ true → IsLoadedAgain book (settled_object o) f
  settled_again savable = record {
    of = again.of;
    programs = again.programs;
    held = λ h i kept. elim (among_append o.held (settling o) (among_Contains _ i)) [
      | inl j ↦ again.held h (Contains_among j) kept
      | inr j ↦ Contains_among (settling_again savable h j)
    ];
    others = λ h i. elim (again.others h i) [
      | inl w ↦ inl (w.0, Contains_among (among_append_left (settling o) (among_Contains _ w.1)), w.2, w.3)
      | inr j ↦ inr j
    ];
    failed = λ e k x. again.failed e k (record { excluded = x.excluded; placed = x.placed; number = x.number; rule = x.rule });
    no_others = λ x i. let (e, k, y, is) = again.no_others x i in (e, k, record { excluded = y.excluded; placed = y.placed; number = y.number; rule = y.rule }, is);
  }

pub loaded_unasked_stands : LoadedUnaskedStands
loaded_unasked_stands book o f l stands savable placed again =
    loaded_again_stands book (settled_object o) f l stands (settling_says o (record { nothing = sealed; placed = placed })) (settled_again book o f placed again savable)
  where
    sealed : has_rounds o ≡ true → names_to_settle o.held ≡ []
    sealed e = by (nat_eq (length (names_to_settle o.held)) 0) refl (subst (λ t. (nat_eq (length (names_to_settle o.held)) 0 || (not t && (is_held ConeAmbientDim o.held || states_one_count o.held))) ≡ true) e savable)
      where
        by : (s : Bool) → nat_eq (length (names_to_settle o.held)) 0 ≡ s → (s || false) ≡ true → names_to_settle o.held ≡ []
        by true z k = no_names (names_to_settle o.held) z
        by false z k = absurd (true≢false (sym k))

pub made_are_savable : MadeAreSavable
made_are_savable = record { shapes = shape_savable; built = built_savable }
