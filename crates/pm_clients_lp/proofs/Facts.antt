-- What was read of a view: its forms, and what is right of it in the program that is asked.
use Rattle.pm_vector.proofs.Lists.{Contains_among, all_from, among_All}
use Rattle.pm_vector.proofs.Signs.{mul_cancel, mul_nonneg, nonneg_cancel, weaken}
use Rattle.pm_vector.specs.Numbers.{Ratio}
use Rattle.pm_vector.specs.Rows.{HasCols, Row, Stands, entry}
use Rattle.pm_client.proofs.ReadValues.{all_length, found, primitive_length}
use Rattle.pm_client.specs.Sound.{AreRowsOf, ReadsObjective}
use Rattle.pm_clients_lp.specs.Reading.{is_of_rows}
use Rattle.pm_geom.specs.Things.{Orders}
use Rattle.pm_fraction.specs.FractionRows.{ArePrimitiveRowsOf}
use Rattle.pm_object.specs.Reading.{IsView, ViewSeen, fact_of}
use Rattle.pm_props.specs.Places.{place_of}
use Rattle.pm_props.specs.Properties.{has_program, is_of_matrices, value_kind}
use Rattle.pm_object_type.specs.declared.object_type.ObjectType.TheVariants.{Fan, Polytope}
use Rattle.pm_object_type.specs.declared.object_type.ObjectType.{ObjectType}
use Rattle.pm_props.specs.declared.property.PropId.TheVariants.{AffineHull, Equations, Facets, Inequalities, LinealitySpace, LinearObjective, Vertices}
use Rattle.pm_props.specs.declared.property.PropId.{PropId}
use Rattle.pm_props.specs.Sets.{has}
use Rattle.pm_types.proofs.Kept.{named_to}
use Rattle.pm_types.proofs.PrimitiveRows.{few_rows}
use Rattle.pm_types.specs.Forms.{FormsIn, HasPrimitiveRow, HavePrimitiveRows, first_is_below, first_is_nought, is_column_count, is_matrix_form, is_row, is_row_of_entries, is_zero_row, rows_in}
use Rattle.pm_types.specs.Right.{Right, RightAll, objective_of}
use Rattle.pm_types.specs.Things.{Thing}
use Rattle.pm_types.specs.Values.{PropertyValue, matrix}
use Rattle.std.proofs.Common.{ap, arith, refl, subst, sym, true, true≢false, ◌∙◌}
use Rattle.std.proofs.lemmas.Bool.{and_parts, eqb-true, leb-true, not-true}
use Rattle.std.proofs.lemmas.Int.{ints}
use Rattle.std.specs.List.{All, list_all, slice_index_or}
use Rattle.std.specs.Prelude.{Bool, List, Some, [], false, get_or, length, nat_eq, nat_le, not, suc, zero, ℕ, ◌&&◌, ◌<◌, ◌∷◌, ◌||◌, ◌≡◌, ◌≤◌}
use lib.IntN.{negsuc, pos, ℤ, ◌*ℤ◌}
use lib.Signed.{◌≤ℤ◌}
use Rattle.pm_limits.specs.Limits.{most_columns, most_rows}

module _ (v : ViewSeen) (view : IsView v) (p : PropId) (x : PropertyValue) (read : fact_of p v.facts ≡ Some x) where
  -- a value that was read has its form
  pub read_forms : FormsIn v.of v.cols p x
  read_forms =
      let (f, i, q, w) = found p v.facts x read in
      subst (λ z. FormsIn v.of v.cols p z) w (subst (λ z. FormsIn v.of v.cols z f.value) q (view.forms f (Contains_among i)))

  -- it is right in the program that is asked
  pub read_at : (t : Thing) (o : Orders) → RightAll v.facts t o → Right p x t o (objective_of t (place_of v.sub p))
  read_at t o right =
      let (f, i, q, w) = found p v.facts x read in
      let at : f.place ≡ place_of v.sub p = view.placed f (Contains_among i) ∙ ap (place_of v.sub) q in
      subst (λ s. Right p x t o (objective_of t s)) at
      (subst (λ z. Right p z t o (objective_of t f.place)) w (subst (λ z. Right z f.value t o (objective_of t f.place)) q (right.each f (Contains_among i))))

  -- where it is one of a linear program, the view is of a polytope
  pub read_of : has_program p ≡ true → v.of ≡ Polytope
  read_of program =
      let (f, i, q, w) = found p v.facts x read in
      view.programs f (Contains_among i) (ap has_program q ∙ program)

-- a view with the objective of a linear program is of a polytope
pub program_view : (v : ViewSeen) → IsView v → has v.kind.sources LinearObjective ≡ true → v.of ≡ Polytope
program_view v view h =
    let (f, i, q, at) = named_to v.sub v.facts LinearObjective (view.sources LinearObjective h) in
    view.programs f (Contains_among i) (ap has_program q)

pub not_a_fan : {of : ObjectType} → of ≡ Polytope → ¬ (of ≡ Fan)
not_a_fan e f = cc

-- ---- the objective
one_row : {r s : List Ratio} → (r ∷ []) ≡ (s ∷ []) → r ≡ s
one_row e = cc

stated : (m n : ℕ) → 1 ≤ m → (nat_eq m 0 || nat_eq m n) ≡ true → m ≡ n
stated m n l h = grind arith

module _ (v : ViewSeen) (view : IsView v) (c : List Ratio) (read : ReadsObjective v c) where
  objective_forms : FormsIn v.of v.cols LinearObjective (matrix read.0 (c ∷ []))
  objective_forms = read_forms v view LinearObjective (matrix read.0 (c ∷ [])) read.1

  pub objective_of_polytope : v.of ≡ Polytope
  objective_of_polytope = read_of v view LinearObjective (matrix read.0 (c ∷ [])) read.1 refl

  pub objective_cols : length c ≡ v.cols
  objective_cols =
      let form : is_matrix_form read.0 (c ∷ []) ≡ true = objective_forms.formed in
      let p = and_parts (nat_le 1 most_rows && is_column_count (c ∷ []) read.0) (list_all (is_row_of_entries read.0) (c ∷ [])) form in
      let q = and_parts (nat_le 1 most_rows) (is_column_count (c ∷ []) read.0) p.0 in
      let some = leb-true 1 read.0 (and_parts (nat_le 1 read.0) (nat_le read.0 most_columns) q.1).0 in
      let own = eqb-true (length c) read.0 (and_parts (nat_eq (length c) read.0) true p.1).0 in
      own ∙ stated read.0 v.cols some objective_forms.columns

  pub some_columns : 0 < v.cols
  some_columns = let l = leb-true 1 v.cols view.some_cols in omega arith

  pub objective_some : 0 < length c
  objective_some = let e = objective_cols in let l = some_columns in omega arith

  pub objective_stays : HasPrimitiveRow c
  objective_stays = objective_forms.primitive 0 [] (omega arith)

  -- it is the thing's
  pub objective_is : (t : Thing) (o : Orders) → RightAll v.facts t o → c ≡ objective_of t v.sub
  objective_is t o right = one_row (read_at v view LinearObjective (matrix read.0 (c ∷ [])) read.1 t o right)

-- the value of LP.LINEAR_OBJECTIVE is one row
pub objective_row : (of : ObjectType) (n m : ℕ) (rows : List (List Ratio)) → FormsIn of n LinearObjective (matrix m rows) → length rows ≡ 1
objective_row of n m rows f = eqb-true (length rows) 1 (and_parts (nat_eq (length rows) 1) (is_matrix_form m rows) f.formed).0

pub row_alone : (rows : List (List Ratio)) → length rows ≡ 1 → rows ≡ slice_index_or rows 0 [] ∷ []
row_alone [] e = absurd (omega arith)
row_alone (r ∷ []) e = refl
row_alone (r ∷ s ∷ rows) e = absurd (omega arith)

-- ---- rows
pub rows_matrices : (p : PropId) → is_of_rows p ≡ true → is_of_matrices (value_kind p) ≡ true
rows_matrices Vertices h = refl
rows_matrices LinealitySpace h = refl
rows_matrices Inequalities h = refl
rows_matrices Equations h = refl
rows_matrices Facets h = refl
rows_matrices AffineHull h = refl
rows_matrices p h = absurd (true≢false (sym h))

columned : (of : ObjectType) (n m : ℕ) (rows : List (List Ratio)) (p : PropId) → is_of_rows p ≡ true → FormsIn of n p (matrix m rows) → (is_matrix_form m rows ≡ true) × ((nat_eq m 0 || nat_eq m n) ≡ true)
columned of n m rows Vertices h f = (f.formed, f.columns)
columned of n m rows LinealitySpace h f = (f.formed, f.columns)
columned of n m rows Inequalities h f = (f.formed, f.columns)
columned of n m rows Equations h f = (f.formed, f.columns)
columned of n m rows Facets h f = (f.formed, f.columns)
columned of n m rows AffineHull h f = (f.formed, f.columns)
columned of n m rows p h f = absurd (true≢false (sym h))

-- their primitive rows are made within the range
pub stay_of : (p : PropId) → is_of_rows p ≡ true → (v : PropertyValue) → HavePrimitiveRows p v → All HasPrimitiveRow (rows_in v)
stay_of Vertices h v f = f
stay_of LinealitySpace h v f = f
stay_of Inequalities h v f = f
stay_of Equations h v f = f
stay_of Facets h v f = f
stay_of AffineHull h v f = f
stay_of p h v f = absurd (true≢false (sym h))

pub few_of : (of : ObjectType) (n m : ℕ) (rows : List (List Ratio)) (p : PropId) → is_of_rows p ≡ true → FormsIn of n p (matrix m rows) → length rows ≤ most_rows
few_of of n m rows p h f = few_rows m rows (columned of n m rows p h f).0

module _ (v : ViewSeen) (view : IsView v) (p : PropId) (kind : is_of_rows p ≡ true) (X : List Row) (read : AreRowsOf v p X) where
  rows_forms : FormsIn v.of v.cols p (matrix read.cols read.rows)
  rows_forms = read_forms v view p (matrix read.cols read.rows) read.reads

  pub rows_cols : HasCols v.cols X
  rows_cols =
      let h = columned v.of v.cols read.cols read.rows p kind rows_forms in
      all_from (λ (x : Row). length x ≡ v.cols) X
      (λ x i. among_All (λ (y : Row). length y ≡ v.cols) i (all_length v.cols X (primitive_length read.cols v.cols read.rows X h.0 h.1 read.primitive)))

  pub rows_few : length X ≤ most_rows
  rows_few = let l = few_of v.of v.cols read.cols read.rows p kind rows_forms in let e = read.primitive.count in omega arith

-- ---- first entries
not_behind : (r : List Ratio) (x : Row) → first_is_below r ≡ false → Stands r x → pos 0 ≤ℤ entry x 0
not_behind [] [] h s = omega (arith, ints)
not_behind [] (a ∷ x) h s = absurd (let e = s.cols in omega arith)
not_behind (q ∷ r) x h s =
    nonneg_cancel s.p_positive (nonneg_cancel (s.denominators 0 (omega arith)) (turned s.p s.q (entry x 0) q.den q.num (s.same 0 (omega arith)) (weaken s.q_positive) (sign q.num h)))
  where
    sign : (z : ℤ) → Rattle.pm_types.specs.Forms.is_below_nought z ≡ false → pos 0 ≤ℤ z
    sign (pos n) e = omega (arith, ints)
    sign (negsuc n) e = absurd (true≢false e)

    turned : (p k a d z : ℤ) → p *ℤ (a *ℤ d) ≡ k *ℤ z → pos 0 ≤ℤ k → pos 0 ≤ℤ z → pos 0 ≤ℤ (d *ℤ (p *ℤ a))
    turned p k a d z e hk hz = let m = mul_nonneg hk hz in let l : d *ℤ (p *ℤ a) ≡ p *ℤ (a *ℤ d) = simp Rattle.pm_vector.proofs.Ring.ring in omega (arith, ints)

level_first : (r : List Ratio) (x : Row) → first_is_nought r ≡ true → Stands r x → entry x 0 ≡ pos 0
level_first [] [] h s = refl
level_first [] (a ∷ x) h s = absurd (let e = s.cols in omega arith)
level_first (q ∷ r) x h s =
    mul_cancel s.p_positive (mul_cancel (s.denominators 0 (omega arith)) (turned s.p s.q (entry x 0) q.den q.num (s.same 0 (omega arith)) (none q.num h)))
  where
    none : (z : ℤ) → Rattle.pm_types.specs.Forms.is_nought z ≡ true → z ≡ pos 0
    none (pos zero) e = refl
    none (pos (suc n)) e = absurd (true≢false (sym e))
    none (negsuc n) e = absurd (true≢false (sym e))

    turned : (p k a d z : ℤ) → p *ℤ (a *ℤ d) ≡ k *ℤ z → z ≡ pos 0 → d *ℤ (p *ℤ a) ≡ d *ℤ (p *ℤ pos 0)
    turned p k a d z e f = let g = ap (λ y. k *ℤ y) f in let l : d *ℤ (p *ℤ a) ≡ p *ℤ (a *ℤ d) = simp Rattle.pm_vector.proofs.Ring.ring in let r : d *ℤ (p *ℤ pos 0) ≡ k *ℤ pos 0 = simp Rattle.pm_vector.proofs.Ring.ring in l ∙ e ∙ g ∙ sym r

-- what a test of rows says of the primitive rows
module _ (P : Row → Type 0) (test : List Ratio → Bool) (step : (r : List Ratio) (x : Row) → test r ≡ true → Stands r x → P x) where
  tested_at : (rows : List (List Ratio)) (i : ℕ) → i < length rows → list_all test rows ≡ true → test (get_or rows i []) ≡ true
  tested_at [] i l h = absurd (omega arith)
  tested_at (r ∷ rows) zero l h = (and_parts (test r) (list_all test rows) h).0
  tested_at (r ∷ rows) (suc i) l h = tested_at rows i (omega arith) (and_parts (test r) (list_all test rows) h).1

  tested : (rows : List (List Ratio)) (X : List Row) → ArePrimitiveRowsOf rows X → list_all test rows ≡ true → All P X
  tested rows X h all = λ i d l.
      let below : i < length rows = (let e = h.count in omega arith) in
      rw (Rattle.std.proofs.lemmas.List.get_or_default X i d [] l) (step (get_or rows i []) (get_or X i []) (tested_at rows i below all) (h.multiple i below))

module _ (v : ViewSeen) (view : IsView v) (polytope : v.of ≡ Polytope) where
  -- no ray of a polytope lies behind
  pub rays_ahead : (V : List Row) → AreRowsOf v Vertices V → All (λ x. pos 0 ≤ℤ entry x 0) V
  rays_ahead V read =
      tested (λ x. pos 0 ≤ℤ entry x 0) (is_row Polytope Vertices)
      (λ r x h s. not_behind r x (not-true (first_is_below r) (and_parts (not (first_is_below r)) (not (is_zero_row r)) h).0) s) read.rows V read.primitive
      (subst (λ k. list_all (is_row k Vertices) read.rows ≡ true) polytope (read_forms v view Vertices (matrix read.cols read.rows) read.reads).rows)

  -- and its lines have first entry 0
  pub lines_level : (L : List Row) → AreRowsOf v LinealitySpace L → All (λ x. entry x 0 ≡ pos 0) L
  lines_level L read =
      tested (λ x. entry x 0 ≡ pos 0) (is_row Polytope LinealitySpace) (λ r x h s. level_first r x h s) read.rows L read.primitive
      (subst (λ k. list_all (is_row k LinealitySpace) read.rows ≡ true) polytope (read_forms v view LinealitySpace (matrix read.cols read.rows) read.reads).rows)
