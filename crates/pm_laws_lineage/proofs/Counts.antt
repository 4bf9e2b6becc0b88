-- What objects state of their column count.
use Rattle.pm_build.specs.Objects.{both_rows, polytope_with, product_cols, pyramid_lines, pyramid_points}
use Rattle.pm_build.specs.Rows.{curve_points, headed_rows, opposite_units, simplex_corners}
use Rattle.pm_build.specs.Sums.{sum_lines}
use Rattle.pm_object.specs.Known.{cols_at, rows_at}
use Rattle.pm_command.specs.Commands.{ShapeSeen, cross_shape, cube_shape, cyclic_shape, simplex_shape}
use Rattle.pm_command.specs.declared.building.Binary.TheVariants.{Minkowski, Product, Refine}
use Rattle.pm_command.specs.declared.building.Builder.{Builder}
use Rattle.pm_command.specs.declared.building.Builder.TheVariants.{One, Two}
use Rattle.pm_command.specs.declared.building.Unary.TheVariants.{FaceFan, NormalFan, Polar, Pyramid}
use Rattle.pm_files.specs.Files.{SavedFile}
use Rattle.pm_filing.specs.Whole.{is_kept}
use Rattle.pm_laws_lineage.proofs.Names.{none_of_five}
use Rattle.pm_laws_lineage.proofs.Twice.{held_append}
use Rattle.pm_laws_lineage.proofs.Saved.{not_both}
use Rattle.pm_laws_lineage.specs.Provenances.{is_savable, states_one_count}
use Rattle.pm_making.specs.Rows.{Makes, object_of, shape_file}
use Rattle.pm_object.proofs.Formed.{ambient_is, held_stays, nobody, none_stated, only}
use Rattle.pm_object.specs.State.{HeldValue, State, agrees, ambient_in, cols_of, file_value, first_cols, has_rounds, is_held, names_to_settle, or_else, settled_value, value_of, with_held}
use Rattle.pm_object.specs.declared.held.Origin.TheVariants as origin
use Rattle.pm_props.specs.Places.{same_property}
use Rattle.pm_props.specs.Properties.{is_columned}
use Rattle.pm_props.specs.declared.property.PropId.{PropId}
use Rattle.pm_props.specs.declared.property.PropId.TheVariants.{AffineHull, ConeAmbientDim, Equations, Facets, Inequalities, InputLineality, Points}
use Rattle.pm_types.specs.Forms.{agrees_with, stated_cols, states}
use Rattle.pm_types.specs.Parts.{cols_over, value_over}
use Rattle.pm_types.specs.Values.{PropertyValue}
use Rattle.pm_vector.proofs.Lists.{Among, among_append, here, there}
use Rattle.pm_vector.specs.Numbers.{Ratio}
use Rattle.std.proofs.Common.{ap, arith, false, inl, inr, refl, subst, sym, true, true≢false, ◌∙◌}
use Rattle.std.proofs.lemmas.Bool.{and_from, and_parts, cases_Bool, eq-eqb, eqb-true, or_right}
use Rattle.std.proofs.lemmas.Option.{same_Some}
use Rattle.std.specs.List.{list_all}
use Rattle.std.specs.Option.{is_some}
use Rattle.std.specs.Prelude.{Bool, List, None, Option, Some, [], if◌then◌else◌, length, nat_eq, not, suc, ℕ, ◌++◌, ◌&&◌, ◌||◌, ◌∷◌, ◌≡◌, ◌⊎◌}

-- ---- lists
pub all_at : {A : Type 0} (p : A → Bool) {x : A} (xs : List A) → list_all p xs ≡ true → Among x xs → p x ≡ true
all_at p [] h i = elim i [ ]
all_at p (x ∷ xs) h here = (and_parts (p x) (list_all p xs) h).0
all_at p (y ∷ xs) h (there i) = all_at p xs (and_parts (p y) (list_all p xs) h).1 i

all_of : {A : Type 0} (p : A → Bool) (xs : List A) → ((x : A) → Among x xs → p x ≡ true) → list_all p xs ≡ true
all_of p [] h = refl
all_of p (x ∷ xs) h = and_from (p x) (list_all p xs) (h x here) (all_of p xs (λ y i. h y (there i)))

pub no_names : (ps : List PropId) → nat_eq (length ps) 0 ≡ true → ps ≡ []
no_names [] h = refl
no_names (p ∷ ps) h = absurd (true≢false (sym h ∙ more_than_0 (length ps)))
  where
    more_than_0 : (n : ℕ) → nat_eq (suc n) 0 ≡ false
    more_than_0 n = grind arith

-- ---- column counts
some_not_none : {A : Type 0} {a : A} → Some a ≡ None → ⊥
some_not_none e = true≢false (ap is_some e)

-- the value that states the first count
pub first_at : (held : List HeldValue) (n : ℕ) → first_cols held ≡ Some n → (h : HeldValue) × Among h held × (stated_cols h.property h.value ≡ n) × (nat_eq n 0 ≡ false)
first_at [] n e = absurd (some_not_none (sym e))
first_at (h ∷ held) n e = by (first_at held n) (nat_eq (stated_cols h.property h.value) 0) refl e
  where
    by : (first_cols held ≡ Some n → (g : HeldValue) × Among g held × (stated_cols g.property g.value ≡ n) × (nat_eq n 0 ≡ false)) → (t : Bool) → nat_eq (stated_cols h.property h.value) 0 ≡ t → (if t then first_cols held else Some (stated_cols h.property h.value)) ≡ Some n → (g : HeldValue) × Among g (h ∷ held) × (stated_cols g.property g.value ≡ n) × (nat_eq n 0 ≡ false)
    by others true z k = let (g, i, r, s) = others k in (g, there i, r, s)
    by others false z k = (h, here, same_Some _ _ k, subst (λ m. nat_eq m 0 ≡ false) (same_Some _ _ k) z)

pub settled_states_none : (n : ℕ) (q : PropId) → nat_eq (stated_cols q (settled_value n q)) 0 ≡ true
settled_states_none n ConeAmbientDim = refl
settled_states_none n q = refl

pub not_known : (x : Option PropertyValue) → not (is_some x) ≡ true → x ≡ None
not_known None h = refl
not_known (Some w) h = absurd (true≢false (sym h))

pub counted : (held : List HeldValue) → not (is_held ConeAmbientDim held) ≡ true → cols_of held ≡ first_cols held
counted held none = ap (λ z. or_else (ambient_in z) (first_cols held)) (not_known (value_of ConeAmbientDim held) none)

-- where the dimension is not held, a value that agrees with a count states it or none
pub agrees_so : (n : ℕ) (p : PropId) (v : PropertyValue) → same_property ConeAmbientDim p ≡ false → agrees_with n p v ≡ true → (nat_eq (stated_cols p v) 0 || nat_eq (stated_cols p v) n) ≡ true
agrees_so n p v other h = subst (λ t. (if t then states n v else nat_eq (stated_cols p v) 0 || nat_eq (stated_cols p v) n) ≡ true) (ambient_is p ∙ other) h

-- ---- what commands make
-- a value of an object that states n columns or none
record StatesOnly (n : ℕ) (h : HeldValue) : Type 0 where
  kept : is_kept h ≡ true
  other : same_property ConeAmbientDim h.property ≡ false
  states : (stated_cols h.property h.value ≡ 0) ⊎ (stated_cols h.property h.value ≡ n)

one_count : (n : ℕ) (held : List HeldValue) → ((h : HeldValue) → Among h held → StatesOnly n h) → not (is_held ConeAmbientDim held) ≡ true → states_one_count held ≡ true
one_count n held all none = all_of (λ h. is_kept h && agrees (cols_of held) h.property h.value) held (λ h i. and_from _ _ (all h i).kept (subst (λ z. agrees z h.property h.value ≡ true) (sym (counted held none)) (agree h i (first_cols held) refl)))
  where
    agree : (h : HeldValue) → Among h held → (x : Option ℕ) → first_cols held ≡ x → agrees x h.property h.value ≡ true
    agree h i None e = refl
    agree h i (Some m) e =
        let (g, j, r, s) = first_at held m e in
        subst (λ t. (if t then states m h.value else nat_eq (stated_cols h.property h.value) 0 || nat_eq (stated_cols h.property h.value) m) ≡ true) (sym (ambient_is h.property ∙ (all h i).other))
        (number (stated_cols h.property h.value) m (all h i).states (first_is m (all g j).states r s))
      where
        first_is : {k : ℕ} (m : ℕ) → (k ≡ 0) ⊎ (k ≡ n) → k ≡ m → nat_eq m 0 ≡ false → m ≡ n
        first_is m (inl z) r s = absurd (true≢false (sym (ap (λ t. nat_eq t 0) (sym r ∙ z)) ∙ s))
        first_is m (inr z) r s = sym r ∙ z

        number : (k m : ℕ) → (k ≡ 0) ⊎ (k ≡ n) → m ≡ n → (nat_eq k 0 || nat_eq k m) ≡ true
        number k m (inl z) e = subst (λ t. (nat_eq t 0 || nat_eq t m) ≡ true) (sym z) refl
        number k m (inr z) e = or_right (nat_eq k 0) (nat_eq k m) (eq-eqb k m (z ∙ sym e))

rows_state : (n : ℕ) (rows : List (List Ratio)) → (cols_over n rows ≡ 0) ⊎ (cols_over n rows ≡ n)
rows_state n [] = inl refl
rows_state n (r ∷ rows) = inr refl

over_states : (p : PropId) (n : ℕ) (rows : List (List Ratio)) → (stated_cols p (value_over n rows) ≡ 0) ⊎ (stated_cols p (value_over n rows) ≡ n)
over_states p n rows = by (is_columned p)
  where
    by : (t : Bool) → ((if t then cols_over n rows else 0) ≡ 0) ⊎ ((if t then cols_over n rows else 0) ≡ n)
    by true = rows_state n rows
    by false = inl refl

unasked : (o : State) → has_rounds o ≡ false → not (is_held ConeAmbientDim o.held) ≡ true → (n : ℕ) → ((h : HeldValue) → Among h o.held → StatesOnly n h) → is_savable o ≡ true
unasked o none unknown n all =
    or_right (nat_eq (length (names_to_settle o.held)) 0) _ (and_from _ _ (ap not none) (or_right (is_held ConeAmbientDim o.held) (states_one_count o.held) (one_count n o.held all unknown)))

pub savable_one : (p : PropId) (n : ℕ) (rows : List (List Ratio)) → same_property ConeAmbientDim p ≡ false → is_savable (object_of (polytope_with ((p, value_over n rows) ∷ []))) ≡ true
savable_one p n rows e = unasked (object_of (polytope_with ((p, value_over n rows) ∷ []))) refl (ap (λ t. not (is_some (if t then Some (value_over n rows) else None))) e) n all
  where
    all : (h : HeldValue) → Among h (file_value origin.Given p (value_over n rows) ∷ []) → StatesOnly n h
    all _ here = record { kept = refl; other = e; states = over_states p n rows }
    all h (there i) = elim i [ ]

savable_two : (p q : PropId) (n : ℕ) (rows others : List (List Ratio)) → same_property ConeAmbientDim p ≡ false → same_property ConeAmbientDim q ≡ false
    → is_savable (object_of (polytope_with ((p, value_over n rows) ∷ (q, value_over n others) ∷ []))) ≡ true
savable_two p q n rows others e g =
    unasked (object_of (polytope_with ((p, value_over n rows) ∷ (q, value_over n others) ∷ []))) refl
    (ap (λ t. not (is_some (if t then Some (value_over n rows) else (if same_property ConeAmbientDim q then Some (value_over n others) else None)))) e ∙ ap (λ t. not (is_some (if t then Some (value_over n others) else None))) g) n all
  where
    all : (h : HeldValue) → Among h (file_value origin.Given p (value_over n rows) ∷ file_value origin.Given q (value_over n others) ∷ []) → StatesOnly n h
    all _ here = record { kept = refl; other = e; states = over_states p n rows }
    all _ (there here) = record { kept = refl; other = g; states = over_states q n others }
    all h (there (there i)) = elim i [ ]

pub shape_savable : (s : ShapeSeen) → is_savable (object_of (shape_file s)) ≡ true
shape_savable (cube_shape d) = savable_one Inequalities (suc d) (headed_rows (opposite_units d d)) refl
shape_savable (simplex_shape d) = savable_one Points (suc d) (headed_rows (simplex_corners d)) refl
shape_savable (cross_shape d) = savable_one Points (suc d) (headed_rows (opposite_units d d)) refl
shape_savable (cyclic_shape d n) = savable_one Points (suc d) (headed_rows (curve_points d n)) refl

pub built_savable : (b : Builder) (os : List State) (f : SavedFile) → Makes b os f → is_savable (object_of f) ≡ true
built_savable (One Polar) (o ∷ []) f (fits, is) = subst (λ z. is_savable (object_of z) ≡ true) (sym is) (savable_one Points (cols_at o) (rows_at Facets o) refl)
built_savable (One Pyramid) (o ∷ []) f (fits, is) = subst (λ z. is_savable (object_of z) ≡ true) (sym is) (savable_two Points InputLineality (suc (cols_at o)) (pyramid_points o) (pyramid_lines o) refl refl)
built_savable (One NormalFan) (o ∷ []) f (fits, is) = subst (λ z. is_savable (object_of z) ≡ true) (sym is) refl
built_savable (One FaceFan) (o ∷ []) f (fits, is) = subst (λ z. is_savable (object_of z) ≡ true) (sym is) refl
built_savable (Two Product) (a ∷ b ∷ []) f (fits, is) = subst (λ z. is_savable (object_of z) ≡ true) (sym is) (savable_two Inequalities Equations (product_cols a b) (both_rows Facets a b) (both_rows AffineHull a b) refl refl)
built_savable (Two Minkowski) (a ∷ b ∷ []) f (fits, is) = subst (λ z. is_savable (object_of z) ≡ true) (sym is.file) (savable_two Points InputLineality (cols_at a) is.rows (sum_lines a b) refl refl)
built_savable (Two Refine) (a ∷ b ∷ []) f (fits, is) = subst (λ z. is_savable (object_of z) ≡ true) (sym is.file_is) refl
built_savable b os f m = absurd m

-- ---- objects for which no round was started
-- the count of the values is one, or the dimension is held
abbrev pub CountIsOne : State → Type 0
CountIsOne o = has_rounds o ≡ false → (is_held ConeAmbientDim o.held || states_one_count o.held) ≡ true

pub savable_counts : (o : State) → is_savable o ≡ true → CountIsOne o
savable_counts o savable e = by (nat_eq (length (names_to_settle o.held)) 0) refl (subst (λ t. (nat_eq (length (names_to_settle o.held)) 0 || (not t && (is_held ConeAmbientDim o.held || states_one_count o.held))) ≡ true) e savable)
  where
    held_if : (b : Bool) → not b ≡ false → b ≡ true
    held_if true h = refl
    held_if false h = absurd (true≢false h)

    by : (s : Bool) → nat_eq (length (names_to_settle o.held)) 0 ≡ s → (s || (is_held ConeAmbientDim o.held || states_one_count o.held)) ≡ true → (is_held ConeAmbientDim o.held || states_one_count o.held) ≡ true
    by true z k = ap (λ t. t || states_one_count o.held) (held_if (is_held ConeAmbientDim o.held) (none_of_five _ _ _ _ _ (no_names (names_to_settle o.held) z)).first)
    by false z k = k

pub counts_savable : (o : State) → has_rounds o ≡ false → CountIsOne o → is_savable o ≡ true
counts_savable o e count = or_right (nat_eq (length (names_to_settle o.held)) 0) _ (and_from _ _ (ap not e) (count e))

pub known_counts : (o : State) → is_held ConeAmbientDim o.held ≡ true → CountIsOne o
known_counts o h e = ap (λ t. t || states_one_count o.held) h

-- a value more, which agrees with the count
more_counts : (held : List HeldValue) (h : HeldValue) → not (is_held ConeAmbientDim held) ≡ true → same_property ConeAmbientDim h.property ≡ false → states_one_count held ≡ true → is_kept h ≡ true → agrees (cols_of held) h.property h.value ≡ true → not (is_held ConeAmbientDim (held ++ h ∷ [])) ≡ true
    → states_one_count (held ++ h ∷ []) ≡ true
more_counts held h none other one kept agree later = by (first_cols held) refl
  where
    zero_or : (k n : ℕ) → (nat_eq k 0 || nat_eq k n) ≡ true → (k ≡ 0) ⊎ (k ≡ n)
    zero_or k n e = elim (cases_Bool (nat_eq k 0)) [
      | inl z ↦ inl (eqb-true k 0 z)
      | inr z ↦ inr (eqb-true k n (subst (λ t. (t || nat_eq k n) ≡ true) z e))
    ]

    old : (g : HeldValue) → Among g held → (is_kept g ≡ true) × (agrees (cols_of held) g.property g.value ≡ true)
    old g i = and_parts _ _ (all_at (λ h. is_kept h && agrees (cols_of held) h.property h.value) held one i)

    apart : (g : HeldValue) → Among g held → same_property ConeAmbientDim g.property ≡ false
    apart g i = nobody ConeAmbientDim held (not_known (value_of ConeAmbientDim held) none) i

    by : (x : Option ℕ) → first_cols held ≡ x → states_one_count (held ++ h ∷ []) ≡ true
    by (Some n) e = one_count n (held ++ h ∷ []) each later
      where
        states_it : (p : PropId) (v : PropertyValue) → same_property ConeAmbientDim p ≡ false → agrees (cols_of held) p v ≡ true → (stated_cols p v ≡ 0) ⊎ (stated_cols p v ≡ n)
        states_it p v o a = zero_or (stated_cols p v) n (agrees_so n p v o (subst (λ z. agrees z p v ≡ true) (counted held none ∙ e) a))

        each : (g : HeldValue) → Among g (held ++ h ∷ []) → StatesOnly n g
        each g i = elim (among_append held (h ∷ []) i) [
          | inl j ↦ record { kept = (old g j).0; other = apart g j; states = states_it g.property g.value (apart g j) (old g j).1 }
          | inr j ↦ subst (StatesOnly n) (sym (only j)) (record { kept = kept; other = other; states = states_it h.property h.value other agree })
        ]
    by None e = one_count (stated_cols h.property h.value) (held ++ h ∷ []) each later
      where
        each : (g : HeldValue) → Among g (held ++ h ∷ []) → StatesOnly (stated_cols h.property h.value) g
        each g i = elim (among_append held (h ∷ []) i) [
          | inl j ↦ record { kept = (old g j).0; other = apart g j; states = inl (eqb-true _ 0 (none_stated held e j)) }
          | inr j ↦ subst (StatesOnly (stated_cols h.property h.value)) (sym (only j)) (record { kept = kept; other = other; states = inr refl })
        ]

-- so is what an object holds that takes a value
pub taken_counts : (o : State) (h : HeldValue) → is_kept h ≡ true → agrees (cols_of o.held) h.property h.value ≡ true → CountIsOne o → CountIsOne (with_held o (h ∷ []))
taken_counts o h kept agree count e = elim (cases_Bool (is_held ConeAmbientDim (o.held ++ h ∷ []))) [
  | inl k ↦ ap (λ t. t || states_one_count (o.held ++ h ∷ [])) k
  | inr k ↦ (
      let none : is_held ConeAmbientDim o.held ≡ false = before (is_held ConeAmbientDim o.held) refl k in
      or_right (is_held ConeAmbientDim (o.held ++ h ∷ [])) _
      (more_counts o.held h (ap not none) (other (same_property ConeAmbientDim h.property) refl k) (subst (λ t. (t || states_one_count o.held) ≡ true) none (count e)) kept agree (ap not k))
      )
]
  where
    before : (t : Bool) → is_held ConeAmbientDim o.held ≡ t → is_held ConeAmbientDim (o.held ++ h ∷ []) ≡ false → t ≡ false
    before true g k = absurd (not_both (held_stays ConeAmbientDim o.held (h ∷ []) g) k)
    before false g k = refl

    or_one : (b : Bool) → (b || true) ≡ true
    or_one true = refl
    or_one false = refl

    other : (t : Bool) → same_property ConeAmbientDim h.property ≡ t → is_held ConeAmbientDim (o.held ++ h ∷ []) ≡ false → t ≡ false
    other false g k = refl
    other true g k =
        absurd (not_both (held_append ConeAmbientDim o.held (h ∷ []) ∙ ap (λ t. is_held ConeAmbientDim o.held || is_some (if t then Some h.value else None)) g ∙ or_one (is_held ConeAmbientDim o.held)) k)
