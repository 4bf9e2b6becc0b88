-- The examples of thinning and of rows from sets hold.
use Rattle.pm_client.proofs.NoRows.{parts_without_rows, none_primitive}
use Rattle.pm_vector.proofs.ConeLaws.{in_line_times}
use Rattle.pm_vector.proofs.Lists.{Contains_among, here}
use Rattle.pm_vector.proofs.Ring.{ring}
use Rattle.pm_vector.specs.Cones.{InSpan}
use Rattle.pm_vector.specs.Numbers.{Ratio}
use Rattle.pm_vector.specs.Rows.{Row}
use Rattle.pm_vector.proofs.Spans.{same_span_refl}
use Rattle.pm_vector.specs.NullSpaces.{IsNullBasis}
use Rattle.pm_incidence.specs.FromSets.{holders_from, turned}
use Rattle.pm_incidence.specs.Thinning.{IsBasisAndRow, flat_group}
use Rattle.pm_client.specs.Examples.{ThinningIsRead, no_points, no_vertices, single}
use Rattle.pm_client.specs.Sound.{AreRowsOf, ArePartsOf, AreSetsOf, TellLines, IsDeterminingList, ReadsMatrix, are_parts, are_told}
use Rattle.pm_incidence.proofs.Described.{units_echelon}
use Rattle.pm_fraction.specs.FractionRows.{ArePrimitiveRowsOf}
use Rattle.pm_object.specs.Reading.{ViewSeen, fact_of}
use Rattle.pm_props.specs.declared.property.PropId.TheVariants.{AffineHull, Equations, Facets, Inequalities, InputLineality, Points, Vertices, VerticesInFacets}
use Rattle.pm_props.specs.declared.property.PropId.{PropId}
use Rattle.pm_types.specs.Values.{IndexSets, PropertyValue, matrix, sets}
use Rattle.std.proofs.Common.{ap, arith, inl, inr, refl, subst, sym, true, true≢false, ◌∙◌}
use Rattle.std.proofs.lemmas.List.{length-append}
use Rattle.std.specs.List.{range_with_len}
use Rattle.std.specs.Option.{is_some}
use Rattle.std.specs.Prelude.{List, None, Option, Some, [], length, map, ℕ, ◌++◌, ◌∷◌, ◌≡◌}
use lib.IntN.{pos, ℤ, ◌*ℤ◌}

-- ---- what the view has
none_of : (p : PropId) → ReadsMatrix no_points p 0 [] → AreRowsOf no_points p []
none_of p reads = record { cols = 0; rows = []; reads = reads; primitive = none_primitive }

value_rows : PropertyValue → List (List Ratio)
value_rows (matrix n rows) = rows
value_rows v = []

-- a value without rows has no others
pub no_others : (v : ViewSeen) (p : PropId) (n : ℕ) (rows : List (List Ratio)) (X : List Row) → ReadsMatrix v p 0 [] → ReadsMatrix v p n rows → ArePrimitiveRowsOf rows X → X ≡ []
no_others v p n [] [] h reads primitive = refl
no_others v p n [] (x ∷ X) h reads primitive = absurd (let c = primitive.count in omega arith)
no_others v p n (r ∷ rows) X h reads primitive = absurd (different (sym h ∙ reads))
  where
    different : Some (matrix 0 []) ≡ Some (matrix n (r ∷ rows)) → ⊥
    different e = cc

none_read : (p : PropId) (A : List Row) → ReadsMatrix no_points p 0 [] → AreRowsOf no_points p A → A ≡ []
none_read p A h r = no_others no_points p r.cols r.rows A h r.reads r.primitive

parts_read : ArePartsOf no_points InputLineality Points [] []
parts_read = parts_without_rows no_points InputLineality Points [] refl refl refl

-- ---- the rows in the lineality
flat_none : (second other first : PropId) (L G A X : List Row) → are_parts first second ≡ true → are_told second other ≡ true → ArePartsOf no_points first second L G → X ≡ flat_group G L A → X ≡ []
flat_none Points Facets InputLineality L G A X parts told read flat =
    let l : L ≡ [] = no_others no_points InputLineality read.first_cols read.first_rows L refl read.reads_first read.first_primitive in
    let y : read.ys ≡ [] = no_others no_points Points read.second_cols read.second_rows read.ys refl read.reads_second read.second_primitive in
    let g : G ≡ [] = read.added ∙ ap (λ z. z ++ []) y in
    flat ∙ ap (λ z. flat_group z L A) g ∙ ap (λ z. flat_group [] z A) l
flat_none Points Facets p L G A X parts told read flat = absurd (true≢false (sym parts))
flat_none Inequalities Vertices p L G A X parts told read flat = absurd (true≢false (sym (ap is_some read.reads_second)))
flat_none q r p L G A X parts told read flat = absurd (true≢false (sym told))

-- ---- x0 >= 0 where there is no vertex
added_parts : ArePartsOf no_vertices Equations Inequalities [] (single 1 ∷ [])
added_parts = parts_without_rows no_vertices Equations Inequalities (single 1 ∷ []) refl refl refl

added_told : TellLines no_vertices [] (single 1 ∷ []) []
added_told = record { first = Equations; second = Inequalities; other = Vertices; parts = refl; told = refl; read = added_parts; others = record { cols = 0; rows = []; reads = refl; primitive = none_primitive } }

added_basis : IsBasisAndRow 1 (single 1 ∷ []) [] [] (single 1 ∷ single 1 ∷ [])
added_basis = record { basis = single 1 ∷ []; pivots = 0 ∷ []; is_basis = record { echelon = units_echelon 1; span = same_span_refl (single 1 ∷ []) }; row = single 1; listed = Contains_among (here {xs = []}); rows = refl }

added_left_out : (second other first : PropId) (L G A : List Row) → are_parts first second ≡ true → are_told second other ≡ true → ArePartsOf no_vertices first second L G → AreRowsOf no_vertices other A → [] ≡ flat_group G L A → ⊥
added_left_out Inequalities Vertices Equations L G A parts told read others flat =
    let l : L ≡ [] = no_others no_vertices Equations read.first_cols read.first_rows L refl read.reads_first read.first_primitive in
    let y : read.ys ≡ [] = no_others no_vertices Inequalities read.second_cols read.second_rows read.ys refl read.reads_second read.second_primitive in
    let a : A ≡ [] = no_others no_vertices Vertices others.cols others.rows A refl others.reads others.primitive in
    let g : G ≡ single 1 ∷ [] = read.added ∙ ap (λ z. z ++ single 1 ∷ []) y in
    let e : [] ≡ single 1 ∷ [] = flat ∙ ap (λ z. flat_group z L A) g ∙ ap (λ z. flat_group (single 1 ∷ []) z A) l ∙ ap (λ z. flat_group (single 1 ∷ []) [] z) a in
    let f = ap length e in
    omega arith
added_left_out Inequalities Vertices p L G A parts told read others flat = absurd (true≢false (sym parts))
added_left_out Points Facets p L G A parts told read others flat = absurd (true≢false (sym (ap is_some read.reads_second)))
added_left_out q r p L G A parts told read others flat = absurd (true≢false (sym told))

-- ---- the ray on no facet
in_sets : AreSetsOf no_points AffineHull Facets [] [] ([] ∷ [])
in_sets = record { parts = refl; equations = none_of AffineHull refl; inequalities = none_of Facets refl; index = record { rows = []; cols = 1 }; reads = refl; turned = refl }

abbrev value_cols : PropertyValue → ℕ
value_cols (sets rows n) = n
value_cols v = 0

abbrev cols_of : Option PropertyValue → ℕ
cols_of None = 0
cols_of (Some v) = value_cols v

index_read : fact_of VerticesInFacets no_points.facts ≡ Some (sets [] 1)
index_read = refl

no_turned : (s : IndexSets) → 1 ≡ s.cols → [] ≡ turned s → ⊥
no_turned s e t =
    let l : 0 ≡ length (map (holders_from 0 s.rows) (range_with_len 0 1)) = subst (λ n. 0 ≡ length (map (holders_from 0 s.rows) (range_with_len 0 n))) (sym e) (ap length t) in
    omega arith

all_spanned : (x : Row) → length x ≡ 1 → InSpan (single 1 ∷ []) x
all_spanned [] l = absurd (omega arith)
all_spanned (a ∷ []) l = subst (λ z. InSpan (single 1 ∷ []) (z ∷ [])) (times_one a) (in_line_times a (here {xs = []}))
  where
    times_one : (a : ℤ) → a *ℤ pos 1 ≡ a
    times_one a = simp ring
all_spanned (a ∷ b ∷ x) l = absurd (omega arith)

null_all : IsNullBasis 1 [] (single 1 ∷ []) (0 ∷ [])
null_all = record { echelon = units_echelon 1; null = λ x l. (λ h. tt, λ h. all_spanned x l) }

determining : IsDeterminingList no_points (single 1 ∷ [])
determining = record {
  first = AffineHull;
  second = Facets;
  equations = [];
  inequalities = [];
  in_sets = [] ∷ [];
  read = in_sets;
  determining = record { lines = single 1 ∷ []; pivots = 0 ∷ []; lineality = null_all; set = []; listed = Contains_among (here {xs = []}); rows = refl };
}

pub no_end : (xs : List Row) (x : Row) → [] ≡ xs ++ x ∷ [] → ⊥
no_end xs x e = let l = ap length e ∙ length-append xs (x ∷ []) in omega arith

pub thinning_is_read : ThinningIsRead
thinning_is_read = record {
  told = refl;
  told_by_rays = refl;
  not_told = refl;
  rows = none_of Points refl;
  not_rows = λ h. let e = ap length (none_read Points (single 1 ∷ []) refl h) in omega arith;
  flat = record { lines = []; rows = []; others = []; read = record { first = InputLineality; second = Points; other = Facets; parts = refl; told = refl; read = parts_read; others = none_of Facets refl }; flat = refl };
  not_flat = λ h. let e = ap length (flat_none h.read.second h.read.other h.read.first h.lines h.rows h.others (single 1 ∷ []) h.read.parts h.read.told h.read.read h.flat) in omega arith;
  no_basis_and_row = λ h. no_end h.flat.basis h.flat.row h.flat.rows;
  added_flat = record { lines = []; rows = single 1 ∷ []; others = []; read = added_told; flat = refl };
  added_left_out = λ h. added_left_out h.read.second h.read.other h.read.first h.lines h.rows h.others h.read.parts h.read.told h.read.read h.read.others h.flat;
  basis_and_row = record { lines = []; rows = single 1 ∷ []; others = []; read = added_told; flat = added_basis };
  of_rays = refl;
  of_facets = refl;
  of_points = refl;
  in_sets = in_sets;
  not_in_sets = λ h. no_turned h.index (ap cols_of (sym index_read ∙ h.reads)) h.turned;
  determining = determining;
  not_determining = λ h. true≢false (sym (ap is_some h.read.reads));
  not_wide = λ h. elim h [ inl w ↦ true≢false (sym w.0) | inr w ↦ true≢false (sym w.0) ];
  not_crowded = λ h. true≢false (sym h.named);
  thinning_client = refl;
  not_thinning = refl;
  sets_client = refl;
  not_of_sets = refl;
  of_thinning = refl;
  of_sets = refl;
  memory = refl;
}
