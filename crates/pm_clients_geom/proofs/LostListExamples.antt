-- Which row lists of a view are lost by wide numbers, and how a wide client fails.
use Rattle.pm_vector.specs.Divisors.{IsPrimitive}
use Rattle.pm_vector.specs.Rows.{Row}
use Rattle.pm_client.proofs.Lost.{one_stays}
use Rattle.pm_client.proofs.NoRows.{none_primitive}
use Rattle.pm_client.proofs.PrimitiveWholes.{by_one, two_whole}
use Rattle.pm_client.proofs.ReadRows.{same_rows}
use Rattle.pm_client.specs.Sound.{IsListOf}
use Rattle.pm_clients_geom.specs.Lists.{IsLostExtendedList, IsLostList}
use Rattle.pm_clients_geom.specs.LostListExamples.{LostListsAreRead, with_rays}
use Rattle.pm_elim.proofs.LostExamples.{lost_eliminations_are_read}
use Rattle.pm_elim.specs.LostExamples.{odd_next, odd_row, one_entry, two_rows}
use Rattle.pm_props.specs.declared.property.PropId.TheVariants.{LinealitySpace, Vertices}
use Rattle.pm_types.specs.Views.{ratios}
use Rattle.std.proofs.Common.{ap, arith, refl, sym, ◌∙◌}
use Rattle.std.proofs.lemmas.List.{length-append}
use Rattle.std.specs.Prelude.{List, [], length, map, ℕ, ◌+◌, ◌∷◌, ◌≡◌}

list_of_two : (n : ℕ) (x y : Row) → IsPrimitive x → IsPrimitive y
    → IsListOf (with_rays n (x ∷ y ∷ [])) LinealitySpace Vertices (x ∷ y ∷ [])
list_of_two n x y p q = record {
  first_cols = 0;
  second_cols = n;
  first_rows = [];
  second_rows = map ratios (x ∷ y ∷ []);
  reads_first = refl;
  reads_second = refl;
  xs = [];
  ys = x ∷ y ∷ [];
  first_primitive = none_primitive;
  second_primitive = two_whole x y p q;
  listed = refl;
}

dimension_lost : IsLostList (with_rays 3 (odd_row ∷ odd_next ∷ [])) LinealitySpace Vertices
dimension_lost = record {
  rows = odd_row ∷ odd_next ∷ [];
  listed = list_of_two 3 odd_row odd_next (by_one odd_row 1 refl) (by_one odd_next 0 refl);
  lost = lost_eliminations_are_read.lost;
}

hull_lost : IsLostExtendedList (with_rays 2 two_rows) LinealitySpace Vertices
hull_lost = record {
  rows = two_rows;
  listed = list_of_two 2 _ _ (by_one _ 1 refl) (by_one _ 0 refl);
  lost = lost_eliminations_are_read.extended;
}

-- ---- a list of one row
one_listed : (x : Row) (X : List Row) → IsListOf (with_rays 3 (x ∷ [])) LinealitySpace Vertices X → length X ≡ 1
one_listed x X h =
    let none : h.first_rows ≡ [] = sym (same_rows 0 h.first_cols [] h.first_rows h.reads_first) in
    let one : h.second_rows ≡ ratios x ∷ [] = sym (same_rows 3 h.second_cols (ratios x ∷ []) h.second_rows h.reads_second) in
    let first : length h.xs ≡ 0 = h.first_primitive.count ∙ ap length none in
    let second : length h.ys ≡ 1 = h.second_primitive.count ∙ ap length one in
    ap length h.listed ∙ (simp length-append (omega arith))

not_lost : IsLostList (with_rays 3 (odd_row ∷ [])) LinealitySpace Vertices → ⊥
not_lost h = one_stays 3 h.rows (one_listed odd_row h.rows h.listed) h.lost

-- the extended list of rows of one entry has one row
not_extended : IsLostExtendedList (with_rays 1 one_entry) LinealitySpace Vertices → ⊥
not_extended h = one_stays (length h.rows + 1) h.lost.listed h.lost.extended.as_many h.lost.lost

pub lost_lists_are_read : LostListsAreRead
lost_lists_are_read = record {
  lost = dimension_lost;
  not_lost = not_lost;
  extended = hull_lost;
  not_extended = not_extended;
  dimension_fails = λ e right. (right, dimension_lost);
  not_dimension_fails = λ e h. not_lost h.1;
  hull_fails = λ e right listed. (right, listed, hull_lost);
  not_hull_fails = λ e h. not_extended h.2;
}
