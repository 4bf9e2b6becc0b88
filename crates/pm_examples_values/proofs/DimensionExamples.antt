-- The dimensions of the unit square and of the empty polytope.
use Rattle.pm_relations.proofs.Standing.{whole_denominators}
use Rattle.pm_vector.proofs.ConeLaws.{in_generator, none_from_zero, none_to_zero}
use Rattle.pm_vector.proofs.Lists.{All_among, here, there}
use Rattle.pm_vector.proofs.Ring.{ring}
use Rattle.pm_vector.proofs.RowLaws.{dot-nil, dot-same, dot_comm}
use Rattle.pm_vector.specs.Cones.{InCone, InSpan, IsIndependent}
use Rattle.pm_vector.specs.Rows.{HasCols, IsZero, Row}
use Rattle.pm_vector.proofs.Rank.{rank_is_determined}
use Rattle.pm_vector.proofs.Spans.{same_span_refl}
use Rattle.pm_vector.specs.Bases.{IsRank}
use Rattle.pm_geom.proofs.Dimension.{rank_is_left}
use Rattle.pm_geom.proofs.ShortRows.{by_three}
use Rattle.pm_geom.proofs.SmallThings.{empty_is_read}
use Rattle.pm_geom.proofs.Square.{pointed}
use Rattle.pm_geom.specs.Cones.{InLineality, Vanishes}
use Rattle.pm_geom.specs.Examples.{square, triple}
use Rattle.pm_relations.proofs.Dimensions.{dimensions_are_determined}
use Rattle.pm_examples_values.specs.Examples.{EmptyDimensionsAreRead, SquareDimensionsAreRead, square_orders, square_thing}
use Rattle.pm_relations.proofs.Sites.{no_sites}
use Rattle.pm_types.specs.Right.{HasDimension}
use Rattle.pm_types.specs.Values.{whole}
use Rattle.std.proofs.Common.{arith, refl, sym, true≢false, ◌∙◌}
use Rattle.std.proofs.lemmas.Int.{ints}
use Rattle.std.specs.Prelude.{[], length, suc, zero, ℕ, ◌++◌, ◌↔◌, ◌∷◌, ◌≡◌}
use lib.IntN.{pos, ℤ}

pub whole_is : {j k : ℤ} → whole j ≡ whole k → j ≡ k
whole_is h = cc

pub none_independent : IsIndependent []
none_independent c z i l = absurd (omega arith)

pub no_lines : (n : ℕ) (S : Row → Type 0) → ((x : Row) → length x ≡ n → S x → InSpan [] x) → HasDimension n S 0
no_lines n S f = record {
  rows = [];
  basis = record { cols = tt; inside = All_among S [] (λ x i. elim i [ ]); independent = none_independent; spans = f };
  as_many = refl;
}

-- ---- the square
square_cols : HasCols 3 square
square_cols = (refl, (refl, (refl, (refl, tt))))

three_zero : (a b c : ℤ) → a ≡ pos 0 → b ≡ pos 0 → c ≡ pos 0 → IsZero (a ∷ b ∷ c ∷ [])
three_zero a b c ea eb ec zero = ea
three_zero a b c ea eb ec (suc zero) = eb
three_zero a b c ea eb ec (suc (suc zero)) = ec
three_zero a b c ea eb ec (suc (suc (suc i))) = refl

vanishing_zero : (a b c : ℤ) → Vanishes 3 square [] (a ∷ b ∷ c ∷ []) → IsZero (a ∷ b ∷ c ∷ [])
vanishing_zero a b c v =
    let p = simp ring at (v.holds (triple 1 0 0) refl (in_generator here)) in
    let q = simp ring at (v.holds (triple 1 0 1) refl (in_generator (there here))) in
    let r = simp ring at (v.holds (triple 1 1 0) refl (in_generator (there (there here)))) in
    three_zero a b c (omega (arith, ints)) (omega (arith, ints)) (omega (arith, ints))

vanishing : (a : Row) → length a ≡ 3 → Vanishes 3 square [] a ↔ InSpan [] a
vanishing a la = (
  λ v. none_from_zero a (by_three (λ y. Vanishes 3 square [] y → IsZero y) vanishing_zero a la v),
  λ h. record { cols = la; holds = λ x l k. dot_comm a x ∙ dot-same x a [] (none_to_zero a h) ∙ dot-nil x },
)

pub solid : IsRank (square ++ []) 3
solid = (rank_is_left 3 square [] square_cols tt [] tt none_independent vanishing 3).1 refl

pub no_lineality : HasDimension 3 (InLineality (InCone square [])) 0
no_lineality = no_lines 3 (InLineality (InCone square [])) (λ x l s. (pointed x l).0 s)

pub square_dimensions_are_read : SquareDimensionsAreRead
square_dimensions_are_read = record {
  cone_dim = (3, refl, solid);
  lineality_dim = (0, refl, no_lineality);
  combinatorial_dim = record { cone = 3; lineality = 0; is_cone = solid; is_lineality = no_lineality; less = refl };
  full_dim = (λ y. solid, λ r. refl);
  no_plane = λ h. let e = whole_is ((dimensions_are_determined square_thing).0 (whole (pos 2)) (whole (pos 3)) square_orders square_orders [] [] h (3, refl, solid)) in omega (arith, ints);
  no_line = λ h. let e = whole_is ((dimensions_are_determined square_thing).1 (whole (pos 1)) (whole (pos 0)) square_orders square_orders [] [] h (0, refl, no_lineality)) in omega (arith, ints);
  no_solid = λ h. let e = whole_is ((dimensions_are_determined square_thing).2 (whole (pos 3)) (whole (pos 2)) square_orders square_orders [] [] h (record { cone = 3; lineality = 0; is_cone = solid; is_lineality = no_lineality; less = refl })) in omega (arith, ints);
  not_flat = λ h. true≢false (sym (h.1 solid));
}

-- ---- the empty polytope
pub none_spanned : IsRank [] 0
none_spanned = record { basis = []; independent = none_independent; span = same_span_refl []; as_many = refl }

pub empty_dimensions_are_read : EmptyDimensionsAreRead
empty_dimensions_are_read = record {
  thing = record {
    some_cols = omega arith;
    few_cols = omega arith;
    kind = ((empty_is_read 2).polytope, refl);
    programs = record { cols = λ s. refl; denominators = λ s i h. whole_denominators (pos 0 ∷ pos 0 ∷ []) i };
    sites = no_sites _;
  };
  cone_dim = (0, refl, none_spanned);
  combinatorial_dim = record { cone = 0; lineality = 0; is_cone = none_spanned; is_lineality = no_lines 2 _ (λ x l s. s.inside); less = refl };
  full_dim = (λ y. absurd (true≢false (sym y)), λ r. absurd (let e = rank_is_determined [] 2 0 r none_spanned in omega arith));
}
