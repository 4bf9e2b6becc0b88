-- What the builders answer by their rows: the values of a new object fit, no object of the type is refused for it, something is read of each.
use Rattle.pm_vector.proofs.Lists.{Contains_among}
use Rattle.pm_build.proofs.FormLaws.{shapes_forms}
use Rattle.pm_build.proofs.OtherForms.{others_forms}
use Rattle.pm_build.proofs.SumForms.{sums_forms}
use Rattle.pm_build.specs.Conditions.{sum_refusal}
use Rattle.pm_build.specs.Laws.{HaveForms}
use Rattle.pm_build.specs.Objects.{product_cols}
use Rattle.pm_build.specs.Sums.{IsSumFile, IsSumRefused}
use Rattle.pm_build.specs.declared.fails.SumFail.{SumFail}
use Rattle.pm_build.specs.declared.fails.SumFail.TheVariants as sum
use Rattle.pm_command.specs.Commands.{ShapeSeen, cross_shape, cube_shape, cyclic_shape, simplex_shape}
use Rattle.pm_fan.proofs.Forms.{fans_forms}
use Rattle.pm_fan.specs.Fans.{fan_cols}
use Rattle.pm_files.specs.Files.{SavedFile}
use Rattle.pm_files.specs.Views.{file_of}
use Rattle.pm_files.specs.declared.file.FileObject.{FileObject}
use Rattle.pm_making.specs.Rows.{Makes, Unfit, Unmade, row_of, same_type, shape_condition, shape_file}
use Rattle.pm_making.specs.Made.{IsFitting, IsRead, IsUnbuilt, IsUnfit, of_built, of_refinement, of_sum}
use Rattle.pm_command.specs.declared.building.Binary.TheVariants.{Minkowski, Product, Refine}
use Rattle.pm_command.specs.declared.building.Builder.{Builder}
use Rattle.pm_command.specs.declared.building.Builder.TheVariants.{One, Two}
use Rattle.pm_command.specs.declared.building.Unary.{Unary}
use Rattle.pm_command.specs.declared.building.Unary.TheVariants.{FaceFan, NormalFan, Polar, Pyramid}
use Rattle.pm_object.proofs.Formed.{dimension_of, value_among}
use Rattle.pm_object.specs.Formed.{IsFormed}
use Rattle.pm_object.specs.Known.{IsKnown, IsReadable, cols_at}
use Rattle.pm_object.specs.State.{IsRefused, State, ambient_in, cols_of, first_cols, has_rounds, is_held, is_polytope, or_else, value_of}
use Rattle.pm_object.specs.declared.held.BuildFail.{BuildFail}
use Rattle.pm_object.specs.declared.held.BuildFail.TheVariants as fail
use Rattle.pm_object.specs.declared.held.Condition.{Condition}
use Rattle.pm_object.specs.declared.held.Condition.TheVariants as condition
use Rattle.pm_object_type.specs.declared.object_type.ObjectType.{ObjectType}
use Rattle.pm_object_type.specs.declared.object_type.ObjectType.TheVariants.{Cone, Fan, Polytope}
use Rattle.pm_props.specs.declared.property.PropId.{PropId}
use Rattle.pm_props.specs.declared.property.PropId.TheVariants.{ConeAmbientDim}
use Rattle.pm_refine.specs.ObjectFans.{IsReadableFan, is_fan, refine_reads, refine_refusal}
use Rattle.pm_refine.specs.ObjectRefinements.{HaveForms as HaveFanForms, IsRefinementFile, IsRefinementRefused}
use Rattle.pm_refine.specs.declared.object_fails.RefinementFail.{RefinementFail}
use Rattle.pm_refine.specs.declared.object_fails.RefinementFail.TheVariants as refinement
use Rattle.pm_script.specs.declared.refusal.NotMadeWhy.{NotMadeWhy}
use Rattle.pm_types.specs.Forms.{is_formed}
use Rattle.pm_types.specs.Values.{PropertyValue}
use Rattle.std.proofs.Common.{ap, false, inl, inr, refl, subst, suc, sym, true, true≢false, ◌∙◌, ◌≢◌}
use Rattle.std.proofs.lemmas.Bool.{and_from, and_parts}
use Rattle.std.proofs.lemmas.Option.{same_Some}
use Rattle.std.specs.List.{list_all}
use Rattle.std.specs.Option.{is_some}
use Rattle.std.specs.Prelude.{Bool, Err, IfErr, IfOk, List, None, Ok, OnOk, Option, Result, Some, [], if◌then◌else◌, not, ◌&&◌, ◌∷◌, ◌≡◌, ◌⊎◌}

-- ---- an object that was settled
knows_cols : (o : State) → IsFormed o → is_held ConeAmbientDim o.held ≡ true → is_some (cols_of o.held) ≡ true
knows_cols o formed held = by (value_of ConeAmbientDim o.held) refl held
  where
    by : (v : Option PropertyValue) → value_of ConeAmbientDim o.held ≡ v → is_some v ≡ true → is_some (cols_of o.held) ≡ true
    by None e k = absurd (true≢false (sym k))
    by (Some v) e k =
        let (h, i, p, w) = value_among ConeAmbientDim o.held v e in
        let d = dimension_of v (subst (λ q. is_formed q v ≡ true) p (subst (λ z. is_formed h.property z ≡ true) w (formed.each h (Contains_among i)).formed)) in
        ap (λ z. is_some (or_else (ambient_in z) (first_cols o.held))) (e ∙ ap Some d.value)

known : (ps : List PropId) (o : State) → IsFormed o → IsRead ps o → IsKnown ps o
known ps o formed read = record { held = read.held; cols = by read.settled }
  where
    by : (is_held ConeAmbientDim o.held ≡ true) ⊎ (has_rounds o ≡ true) → is_some (cols_of o.held) ≡ true
    by (inl h) = knows_cols o formed h
    by (inr h) = knows_cols o formed (formed.dimension h)

pub readable : (ps : List PropId) (o : State) → IsFormed o → IsRead ps o → IsReadable ps o
readable ps o formed read is = known ps o formed read

pub readable_fan : (o : State) → IsFormed o → IsRead refine_reads o → IsReadableFan o
readable_fan o formed read is = known refine_reads o formed read

-- ---- values that fit
-- a line a row
one_fits : (what : Unary) (o : State) → IsFormed o → IsReadable (row_of (One what)).reads o → (f : SavedFile) → Makes (One what) (o ∷ []) f → IsFitting f
one_fits Polar o formed read f (fits, is) = subst IsFitting (sym is) (record { cols = cols_at o; forms = others_forms.polar o formed read fits; table = refl; different = refl; no_sites = refl })
one_fits Pyramid o formed read f (fits, is) = subst IsFitting (sym is) (record { cols = suc (cols_at o); forms = others_forms.pyramid o formed read fits; table = refl; different = refl; no_sites = refl })
one_fits NormalFan o formed read f (fits, is) = subst IsFitting (sym is) (record { cols = fan_cols o; forms = fans_forms.normal o formed read fits; table = refl; different = refl; no_sites = refl })
one_fits FaceFan o formed read f (fits, is) = subst IsFitting (sym is) (record { cols = fan_cols o; forms = fans_forms.face o formed read fits; table = refl; different = refl; no_sites = refl })

product_fits : (a b : State) → IsFormed a → IsFormed b → IsReadable (row_of (Two Product)).reads a → IsReadable (row_of (Two Product)).reads b → (f : SavedFile) → Makes (Two Product) (a ∷ b ∷ []) f → IsFitting f
product_fits a b formed formed' read read' f (fits, is) = subst IsFitting (sym is) (record { cols = product_cols a b; forms = others_forms.product a b formed formed' read read' fits; table = refl; different = refl; no_sites = refl })

sum_fits : (a b : State) → IsFormed a → IsFormed b → IsReadable (row_of (Two Minkowski)).reads a → IsReadable (row_of (Two Minkowski)).reads b → (f : SavedFile) → Makes (Two Minkowski) (a ∷ b ∷ []) f → IsFitting f
sum_fits a b formed formed' read read' f (fits, is) =
    subst IsFitting (sym is.file) (record { cols = cols_at a; forms = subst (HaveForms (cols_at a)) is.file (sums_forms a b f formed formed' read read' fits is); table = refl; different = refl; no_sites = refl })

refinement_fits : (a b : State) (f : SavedFile) → IsRefinementFile a b f → HaveFanForms (cols_at a) f → IsFitting f
refinement_fits a b f is forms = subst IsFitting (sym is.file_is) (record { cols = cols_at a; forms = subst (HaveFanForms (cols_at a)) is.file_is forms; table = refl; different = refl; no_sites = refl })

shape_fits : (shape : ShapeSeen) → shape_condition shape ≡ None → IsFitting (shape_file shape)
shape_fits (cube_shape d) fits = record { cols = suc d; forms = shapes_forms.cube d fits; table = refl; different = refl; no_sites = refl }
shape_fits (simplex_shape d) fits = record { cols = suc d; forms = shapes_forms.simplex d fits; table = refl; different = refl; no_sites = refl }
shape_fits (cross_shape d) fits = record { cols = suc d; forms = shapes_forms.cross d fits; table = refl; different = refl; no_sites = refl }
shape_fits (cyclic_shape d n) fits = record { cols = suc d; forms = shapes_forms.cyclic d n fits; table = refl; different = refl; no_sites = refl }

fits_if_ok : (r : Result FileObject BuildFail) (f : SavedFile) (P : Type 0) → (P → IsFitting f) → IfOk r (λ x. file_of x ≡ f) → OnOk r P → IfOk r (λ x. IsFitting (file_of x))
fits_if_ok (Ok x) f P fits is p = subst IsFitting (sym is) (fits p)
fits_if_ok (Err e) f P fits is p = tt

pub built_one_fits : (what : Unary) (o : State) (r : Result FileObject BuildFail) → IsFormed o → IsRead (row_of (One what)).reads o → IfOk r (λ x. Makes (One what) (o ∷ []) (file_of x)) → IfOk r (λ x. IsFitting (file_of x))
built_one_fits what o (Ok x) formed read made = one_fits what o formed (readable (row_of (One what)).reads o formed read) (file_of x) made
built_one_fits what o (Err e) formed read made = tt

-- ---- what the builders say, in the terms of a row
pub makes_if : (r : Result FileObject BuildFail) (f : SavedFile) (P : Type 0) → IfOk r (λ x. file_of x ≡ f) → OnOk r P → IfOk r (λ x. P × (file_of x ≡ f))
makes_if (Ok x) f P is p = (p, is)
makes_if (Err e) f P is p = tt

pub unfit_if : (r : Result FileObject BuildFail) (first : Option Condition) → IfErr r (IsRefused first) → IfErr r (IsUnfit (λ c. first ≡ Some c))
unfit_if (Ok x) first h = tt
unfit_if (Err (fail.NotFit c)) first h = h
unfit_if (Err fail.Memory) first h = tt

-- what is built of two
module _ (a b : State) where
  pub product_fitting : (r : Result FileObject BuildFail) → IsFormed a → IsFormed b → IsRead (row_of (Two Product)).reads a → IsRead (row_of (Two Product)).reads b
      → IfOk r (λ x. Makes (Two Product) (a ∷ b ∷ []) (file_of x)) → IfOk (of_built r) (λ x. IsFitting (file_of x))
  product_fitting (Ok x) formed formed' read read' made = product_fits a b formed formed' (readable _ a formed read) (readable _ b formed' read') (file_of x) made
  product_fitting (Err (fail.NotFit c)) formed formed' read read' made = tt
  product_fitting (Err fail.Memory) formed formed' read read' made = tt

  pub sum_made : (r : Result FileObject SumFail) → IfOk r (λ x. IsSumFile a b (file_of x)) → OnOk r (sum_refusal a b ≡ None) → IfOk (of_sum r) (λ x. Makes (Two Minkowski) (a ∷ b ∷ []) (file_of x))
  sum_made (Ok x) is fits = (fits, is)
  sum_made (Err (sum.NotFit c)) is fits = tt
  sum_made (Err (sum.Wide v w k)) is fits = tt
  sum_made (Err sum.Memory) is fits = tt

  pub sum_fitting : (r : Result FileObject SumFail) → IsFormed a → IsFormed b → IsRead (row_of (Two Minkowski)).reads a → IsRead (row_of (Two Minkowski)).reads b → IfOk r (λ x. IsSumFile a b (file_of x)) → OnOk r (sum_refusal a b ≡ None)
      → IfOk (of_sum r) (λ x. IsFitting (file_of x))
  sum_fitting (Ok x) formed formed' read read' is fits = sum_fits a b formed formed' (readable _ a formed read) (readable _ b formed' read') (file_of x) (fits, is)
  sum_fitting (Err (sum.NotFit c)) formed formed' read read' is fits = tt
  sum_fitting (Err (sum.Wide v w k)) formed formed' read read' is fits = tt
  sum_fitting (Err sum.Memory) formed formed' read read' is fits = tt

  pub sum_unbuilt : (r : Result FileObject SumFail) → IfErr r (IsSumRefused a b) → IfErr (of_sum r) (IsUnbuilt (Unfit (Two Minkowski) (a ∷ b ∷ [])) (Unmade (Two Minkowski) (a ∷ b ∷ [])))
  sum_unbuilt (Ok x) h = tt
  sum_unbuilt (Err (sum.NotFit c)) h = h
  sum_unbuilt (Err (sum.Wide v w k)) h = h
  sum_unbuilt (Err sum.Memory) h = tt

  pub refinement_made : (r : Result FileObject RefinementFail) → IfOk r (λ x. IsRefinementFile a b (file_of x)) → OnOk r (refine_refusal a b ≡ None) → IfOk (of_refinement r) (λ x. Makes (Two Refine) (a ∷ b ∷ []) (file_of x))
  refinement_made (Ok x) is fits = (fits, is)
  refinement_made (Err (refinement.NotFit c)) is fits = tt
  refinement_made (Err (refinement.NotMade i j e)) is fits = tt
  refinement_made (Err refinement.Memory) is fits = tt

  pub refinement_fitting : (r : Result FileObject RefinementFail) → IfOk r (λ x. IsRefinementFile a b (file_of x)) → IfOk r (λ x. HaveFanForms (cols_at a) (file_of x)) → IfOk (of_refinement r) (λ x. IsFitting (file_of x))
  refinement_fitting (Ok x) is forms = refinement_fits a b (file_of x) is forms
  refinement_fitting (Err (refinement.NotFit c)) is forms = tt
  refinement_fitting (Err (refinement.NotMade i j e)) is forms = tt
  refinement_fitting (Err refinement.Memory) is forms = tt

  pub refinement_unbuilt : (r : Result FileObject RefinementFail) → IfErr r (IsRefinementRefused a b) → IfErr (of_refinement r) (IsUnbuilt (Unfit (Two Refine) (a ∷ b ∷ [])) (Unmade (Two Refine) (a ∷ b ∷ [])))
  refinement_unbuilt (Ok x) h = tt
  refinement_unbuilt (Err (refinement.NotFit c)) h = h
  refinement_unbuilt (Err (refinement.NotMade i j e)) h = h
  refinement_unbuilt (Err refinement.Memory) h = tt

-- what was built by conditions alone
pub still_made : (r : Result FileObject BuildFail) (P : FileObject → Type 0) → IfOk r P → IfOk (of_built r) P
still_made (Ok x) P h = h
still_made (Err (fail.NotFit c)) P h = tt
still_made (Err fail.Memory) P h = tt

pub still_unbuilt : (r : Result FileObject BuildFail) (P : Condition → Type 0) (Q : NotMadeWhy → Type 0) → IfErr r (IsUnfit P) → IfErr (of_built r) (IsUnbuilt P Q)
still_unbuilt (Ok x) P Q h = tt
still_unbuilt (Err (fail.NotFit c)) P Q h = h
still_unbuilt (Err fail.Memory) P Q h = tt

pub built_shape_fits : (shape : ShapeSeen) (r : Result FileObject BuildFail) → IfOk r (λ x. file_of x ≡ shape_file shape) → OnOk r (shape_condition shape ≡ None) → IfOk r (λ x. IsFitting (file_of x))
built_shape_fits shape r = fits_if_ok r (shape_file shape) (shape_condition shape ≡ None) (shape_fits shape)

-- ---- objects of the type are not refused for it
past : (t : Bool) (d : Condition) (x : Option Condition) (c : Condition) → t ≡ true → (if not t then Some d else x) ≡ Some c → x ≡ Some c
past true d x c e h = h
past false d x c e h = absurd (true≢false (sym e))

unless : (t : Bool) (d : Condition) (x : Option Condition) (c : Condition) → d ≢ condition.OfType → (x ≡ Some c → c ≢ condition.OfType) → (if not t then Some d else x) ≡ Some c → c ≢ condition.OfType
unless true d x c other rest h = rest h
unless false d x c other rest h = λ e. other (same_Some _ _ h ∙ e)

never : {c : Condition} → None ≡ Some c → c ≢ condition.OfType
never h = absurd (true≢false (sym (ap is_some h)))

rows_last : (t : Bool) (c : Condition) → (if t then None else Some condition.Rows) ≡ Some c → c ≢ condition.OfType
rows_last true c h = never h
rows_last false c h = λ e. rows_apart (same_Some _ _ h ∙ e)
  where
    rows_apart : condition.Rows ≢ condition.OfType
    rows_apart e = cc

bounded_apart : condition.Bounded ≢ condition.OfType
bounded_apart e = cc

full_apart : condition.FullDim ≢ condition.OfType
full_apart e = cc

centered_apart : condition.Centered ≢ condition.OfType
centered_apart e = cc

feasible_apart : condition.Feasible ≢ condition.OfType
feasible_apart e = cc

columns_apart : condition.Columns ≢ condition.OfType
columns_apart e = cc

rows_apart : condition.Rows ≢ condition.OfType
rows_apart e = cc

-- objects of the type are not refused for it
abbrev pub IsOfItsType : Builder → Type 0
IsOfItsType b = (os : List State) (c : Condition) → list_all (λ o. same_type (row_of b).of o.of) os ≡ true → Unfit b os c → c ≢ condition.OfType

polytope_is : (o : State) → same_type Polytope o.of ≡ true → is_polytope o.of ≡ true
polytope_is o h = by o.of h
  where
    by : (type : ObjectType) → same_type Polytope type ≡ true → is_polytope type ≡ true
    by Polytope e = refl
    by Cone e = absurd (true≢false (sym e))
    by Fan e = absurd (true≢false (sym e))

fan_is : (o : State) → same_type Fan o.of ≡ true → is_fan o.of ≡ true
fan_is o h = by o.of h
  where
    by : (type : ObjectType) → same_type Fan type ≡ true → is_fan type ≡ true
    by Fan e = refl
    by Cone e = absurd (true≢false (sym e))
    by Polytope e = absurd (true≢false (sym e))

-- one object of the type, and two
one_of : (type : ObjectType) (o : State) → list_all (λ o. same_type type o.of) (o ∷ []) ≡ true → same_type type o.of ≡ true
one_of type o h = (and_parts (same_type type o.of) true h).0

two_of : (type : ObjectType) (a b : State) → list_all (λ o. same_type type o.of) (a ∷ b ∷ []) ≡ true → (same_type type a.of ≡ true) × (same_type type b.of ≡ true)
two_of type a b h = let p = and_parts (same_type type a.of) (same_type type b.of && true) h in (p.0, (and_parts (same_type type b.of) true p.1).0)

one_polytope : (o : State) → list_all (λ o. same_type Polytope o.of) (o ∷ []) ≡ true → is_polytope o.of ≡ true
one_polytope o h = polytope_is o (one_of Polytope o h)

two_polytopes : (a b : State) → list_all (λ o. same_type Polytope o.of) (a ∷ b ∷ []) ≡ true → (is_polytope a.of && is_polytope b.of) ≡ true
two_polytopes a b h = let p = two_of Polytope a b h in and_from (is_polytope a.of) (is_polytope b.of) (polytope_is a p.0) (polytope_is b p.1)

two_fans : (a b : State) → list_all (λ o. same_type Fan o.of) (a ∷ b ∷ []) ≡ true → (is_fan a.of && is_fan b.of) ≡ true
two_fans a b h = let p = two_of Fan a b h in and_from (is_fan a.of) (is_fan b.of) (fan_is a p.0) (fan_is b p.1)

-- a line a row
pub of_its_type : (what : Builder) → IsOfItsType what
of_its_type (One Polar) (o ∷ []) c is h =
    unless _ condition.Bounded _ c bounded_apart (unless _ condition.FullDim _ c full_apart (unless _ condition.Centered _ c centered_apart (unless _ condition.Rows _ c rows_apart never)))
    (past (is_polytope o.of) condition.OfType _ c (one_polytope o is) h)
of_its_type (One Pyramid) (o ∷ []) c is h = unless _ condition.Columns _ c columns_apart (unless _ condition.Rows _ c rows_apart never) (past (is_polytope o.of) condition.OfType _ c (one_polytope o is) h)
of_its_type (One NormalFan) (o ∷ []) c is h =
    unless _ condition.Bounded _ c bounded_apart (unless _ condition.Feasible _ c feasible_apart (unless _ condition.Columns _ c columns_apart (unless _ condition.Rows _ c rows_apart (rows_last _ c))))
    (past (is_polytope o.of) condition.OfType _ c (one_polytope o is) h)
of_its_type (One FaceFan) (o ∷ []) c is h =
    unless _ condition.Bounded _ c bounded_apart (unless _ condition.Centered _ c centered_apart (unless _ condition.Columns _ c columns_apart (unless _ condition.Rows _ c rows_apart (rows_last _ c))))
    (past (is_polytope o.of) condition.OfType _ c (one_polytope o is) h)
of_its_type (Two Product) (a ∷ b ∷ []) c is h =
    unless _ condition.Columns _ c columns_apart (unless _ condition.Rows _ c rows_apart never)
    (past (is_polytope a.of && is_polytope b.of) condition.OfType _ c (two_polytopes a b is) h)
of_its_type (Two Minkowski) (a ∷ b ∷ []) c is h =
    unless _ condition.Feasible _ c feasible_apart (unless _ condition.Columns _ c columns_apart (unless _ condition.Rows _ c rows_apart never))
    (past (is_polytope a.of && is_polytope b.of) condition.OfType _ c (two_polytopes a b is) h)
of_its_type (Two Refine) (a ∷ b ∷ []) c is (inl h) =
    unless _ condition.Columns _ c columns_apart (unless _ condition.Columns _ c columns_apart never)
    (past (is_fan a.of && is_fan b.of) condition.OfType _ c (two_fans a b is) h)
of_its_type (Two Refine) (a ∷ b ∷ []) c is (inr h) = λ e. rows_apart (sym h.1 ∙ e)
of_its_type what os c is h = absurd h

-- ---- something is read of each object: a line a row
pub reads_some : (what : Builder) → (p : PropId) × (ps : List PropId) × ((row_of what).reads ≡ p ∷ ps)
reads_some (One Polar) = (_, _, refl)
reads_some (One Pyramid) = (_, _, refl)
reads_some (One NormalFan) = (_, _, refl)
reads_some (One FaceFan) = (_, _, refl)
reads_some (Two Product) = (_, _, refl)
reads_some (Two Minkowski) = (_, _, refl)
reads_some (Two Refine) = (_, _, refl)
