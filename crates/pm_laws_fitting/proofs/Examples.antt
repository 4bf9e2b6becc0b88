-- Which views fit by their size.
use Rattle.pm_laws_fitting.specs.Examples.{SizesAreRead}
use Rattle.pm_laws_fitting.specs.Sizes.{AreAtMost, BothAreAtMost, IsSizeFor}
use Rattle.pm_laws_fitting.proofs.Views.{list_fits}
use Rattle.pm_client.proofs.PrimitiveWholes.{by_one, least_one, numerators_whole, primitive_of_itself, two_whole}
use Rattle.pm_client.proofs.ReadRows.{same_rows}
use Rattle.pm_client.specs.Sound.{AreRowsOf}
use Rattle.pm_client.proofs.NoRows.{none_primitive}
use Rattle.pm_clients_geom.specs.Lists.{IsLostList}
use Rattle.pm_elim.proofs.LostExamples.{lost_eliminations_are_read}
use Rattle.pm_clients_geom.specs.LostListExamples.{with_rays}
use Rattle.pm_elim.specs.LostExamples.{odd_next, odd_row}
use Rattle.pm_fraction.proofs.Denominators.{least_unique}
use Rattle.pm_fraction.specs.FractionRows.{ArePrimitiveRowsOf, IsPrimitiveRowOf, numerators_over}
use Rattle.pm_minors.specs.Laws.{MinorsAreAtMost}
use Rattle.pm_minors.specs.Minors.{IsAtMost}
use Rattle.pm_props.specs.declared.property.PropId.TheVariants.{LinealitySpace, Vertices}
use Rattle.pm_types.specs.Views.{ratios}
use Rattle.pm_vector.proofs.DivisorLaws.{primitive_row_unique}
use Rattle.pm_vector.proofs.Lists.{All_among, Among}
use Rattle.pm_vector.specs.Divisors.{IsPrimitive, IsPrimitiveOf}
use Rattle.pm_vector.specs.Numbers.{Ratio}
use Rattle.pm_vector.specs.Rows.{HasCols, Row}
use Rattle.std.proofs.Common.{ap, arith, inl, inr, refl, subst, sym, ◌∙◌}
use Rattle.std.specs.List.{All}
use Rattle.std.specs.Prelude.{List, [], length, map, suc, zero, ℕ, ◌*◌, ◌+◌, ◌-◌, ◌<◌, ◌^◌, ◌∷◌, ◌≡◌, ◌≤◌, ◌⊎◌}
use native.Mathlib.Nat.{mul-le-mul}

-- ---- the rows of the view of one primitive row
module _ (x : Row) (primitive : IsPrimitive x) where
  only_primitive : (y : Row) → IsPrimitiveRowOf (ratios x) y → y ≡ x
  only_primitive y h =
      let one : h.denominator ≡ 1 = least_unique (ratios x) (length (ratios x)) h.denominator 1 h.least (least_one x) in
      let whole : IsPrimitiveOf x y = subst (λ (z : Row). IsPrimitiveOf z y) (ap (λ m. numerators_over m (ratios x)) one ∙ numerators_whole x) h.primitive in
      primitive_row_unique x y x whole (primitive_of_itself x primitive)

  only_rows : (ys : List Row) (rows : List (List Ratio)) → rows ≡ ratios x ∷ [] → ArePrimitiveRowsOf rows ys → ys ≡ x ∷ []
  only_rows ys rows e h = at ys (subst (λ (R : List (List Ratio)). ArePrimitiveRowsOf R ys) e h)
    where
      at : (ys : List Row) → ArePrimitiveRowsOf (ratios x ∷ []) ys → ys ≡ x ∷ []
      at [] h = absurd (let c = h.count in omega arith)
      at (y ∷ []) h = ap (λ (z : Row). z ∷ []) (only_primitive y (h.each 0 (omega arith)))
      at (y ∷ z ∷ ys) h = absurd (let c = h.count in omega arith)

no_rows : (L : List Row) (rows : List (List Ratio)) → rows ≡ [] → ArePrimitiveRowsOf rows L → L ≡ []
no_rows [] rows e h = refl
no_rows (x ∷ L) rows e h = absurd (let c = h.count ∙ ap length e in omega arith)

lines_none : (A : List Row) → AreRowsOf (with_rays 3 (odd_row ∷ [])) LinealitySpace A → A ≡ []
lines_none A r = no_rows A r.rows (sym (same_rows 0 r.cols [] r.rows r.reads)) r.primitive

rays_one : (A : List Row) → AreRowsOf (with_rays 3 (odd_row ∷ [])) Vertices A → A ≡ odd_row ∷ []
rays_one A r = only_rows odd_row (by_one odd_row 1 refl) A r.rows (sym (same_rows 3 r.cols (ratios odd_row ∷ []) r.rows r.reads)) r.primitive

odd_at_most : IsAtMost 2 odd_row
odd_at_most zero = omega arith
odd_at_most (suc zero) = omega arith
odd_at_most (suc (suc zero)) = omega arith
odd_at_most (suc (suc (suc i))) = omega arith

both_small : BothAreAtMost LinealitySpace Vertices 2 (with_rays 3 (odd_row ∷ []))
both_small = record {
  some = omega arith;
  firsts = record {
    cols = λ A r. subst (λ (X : List Row). HasCols 3 X) (sym (lines_none A r)) tt;
    size = λ A r. subst (λ (X : List Row). All (IsAtMost 2) X) (sym (lines_none A r)) (All_among (IsAtMost 2) [] (λ x m. elim m [ ]));
  };
  seconds = record {
    cols = λ A r. subst (λ (X : List Row). HasCols 3 X) (sym (rays_one A r)) (refl, tt);
    size = λ A r. subst (λ (X : List Row). All (IsAtMost 2) X) (sym (rays_one A r)) (λ k d l. at k d l);
  };
}
  where
    at : All (IsAtMost 2) (odd_row ∷ [])
    at zero d l = odd_at_most
    at (suc k) d l = absurd (omega arith)

small_enough : IsSizeFor 3 2
small_enough = (48, inl (omega arith), omega arith)

-- 33! 3^33 and 297^33 are too large
too_many : IsSizeFor 33 3 → ⊥
too_many (b, inl h, s) = omega arith
too_many (b, inr h, s) = let l : b + 1 ≤ 2 ^ 127 = omega arith in let m = mul-le-mul l l in omega arith

-- of (2, 1, -1) and (1, 1, 2^126) the second becomes (0, 1, 2^127 + 1)
lost : IsLostList (with_rays 3 (odd_row ∷ odd_next ∷ [])) LinealitySpace Vertices
lost = record {
  rows = odd_row ∷ odd_next ∷ [];
  listed = record {
    first_cols = 0;
    second_cols = 3;
    first_rows = [];
    second_rows = map ratios (odd_row ∷ odd_next ∷ []);
    reads_first = refl;
    reads_second = refl;
    xs = [];
    ys = odd_row ∷ odd_next ∷ [];
    first_primitive = none_primitive;
    second_primitive = two_whole odd_row odd_next (by_one odd_row 1 refl) (by_one odd_next 0 refl);
    listed = refl;
  };
  lost = lost_eliminations_are_read.lost;
}

pub sizes_are_read : SizesAreRead
sizes_are_read = record {
  four = (2 ^ 127 - 1, inl (omega arith), omega arith);
  ten = (2 ^ 127 - 1, inr (omega arith), omega arith);
  most = (2 ^ 127 - 1, inr (omega arith), omega arith);
  too_many = too_many;
  fits = record { most = 2; rows = both_small; size = small_enough };
  doubled = record {
    most = 2;
    rows = both_small;
    lines = 0;
    few = λ L r. inl (let e = ap length (lines_none L r) in omega arith);
    basis = 2;
    minors = inl (omega arith);
    grows = omega arith;
    size = small_enough;
  };
  not_fits = λ f. list_fits _ LinealitySpace Vertices f lost;
}
