-- The unit square: ranks, edges of its graph and of that of its facets.
use Rattle.pm_vector.proofs.ConeLaws.{dot_in}
use Rattle.pm_vector.proofs.Lists.{Among, here, there}
use Rattle.pm_vector.proofs.RowLaws.{dot-zeros, length-zeros, zeros}
use Rattle.pm_vector.specs.Rows.{HasCols, Row, dot}
use Rattle.pm_vector.proofs.Spans.{same_span_refl}
use Rattle.pm_vector.specs.Bases.{IsRank}
use Rattle.pm_geom.proofs.SmallGraphs.{square_graph_is_read}
use Rattle.pm_geom.proofs.Square.{pointed, square_is_read}
use Rattle.pm_geom.specs.Examples.{edges, square, triple}
use Rattle.pm_geom.specs.Faces.{HasRank, IsFace, IsStrictlyIn, ray}
use Rattle.pm_geom.specs.Graphs.{IsRidge, pair_of}
use Rattle.pm_ranks.proofs.EdgeFacets.{edges_by_facets}
use Rattle.pm_ranks.proofs.Facets.{each_has_rank, facets_are_highest, ridges_by_facets}
use Rattle.pm_ranks.proofs.RankLaws.{rank_is_one, ranks_rise}
use Rattle.pm_ranks.proofs.Tests.{at_pair, pair_at}
use Rattle.pm_ranks.proofs.Whole.{first_rank, second_rank, whole_has_rank}
use Rattle.pm_ranks.specs.Examples.{SquareHasGraphs, SquareHasRanks}
use Rattle.pm_ranks.specs.Thirds.{NoThirdFacet}
use Rattle.std.proofs.Common.{arith, refl, subst}
use Rattle.std.proofs.lemmas.Bool.{eq-eqb, eqb-true}
use Rattle.std.proofs.lemmas.Int.{ints}
use Rattle.std.specs.Prelude.{IsTrue, [], false, suc, true, zero, ℕ, ◌<◌, ◌==◌, ◌↔◌, ◌≡◌}
use lib.IntN.{pos}
use lib.Signed.{le_z_yes, ◌≤ℤ◌}

square_cols : HasCols 3 square
square_cols = (refl, (refl, (refl, (refl, tt))))

by_four : (P : ℕ → Type 0) → P 0 → P 1 → P 2 → P 3 → (j : ℕ) → j < 4 → P j
by_four P a b c d zero l = a
by_four P a b c d (suc zero) l = b
by_four P a b c d (suc (suc zero)) l = c
by_four P a b c d (suc (suc (suc zero))) l = d
by_four P a b c d (suc (suc (suc (suc j)))) l = absurd (omega arith)

-- the set at which a facet row vanishes
side_places : (j : ℕ) → j < 4 → IsTrue (pair_of 0 1 j) ↔ (dot (ray edges 0) (ray square j) ≡ pos 0)
side_places = by_four (λ j. IsTrue (pair_of 0 1 j) ↔ (dot (ray edges 0) (ray square j) ≡ pos 0))
    (λ t. refl, λ e. refl)
    (λ t. refl, λ e. refl)
    (λ t. absurd cc, λ e. absurd (omega (arith, ints)))
    (λ t. absurd cc, λ e. absurd (omega (arith, ints)))

side_face : IsFace 3 square [] square (pair_of 0 1)
side_face = record { a = ray edges 0; valid = (square_is_read.facets.each 0 [] (omega arith)).inside; places = side_places }

side : HasRank 3 square [] square (pair_of 0 1) 2
side = (second_rank 3 square [] square_cols tt square square_is_read.order (pair_of 0 1)).1 (side_face, (0, 1, omega arith, omega arith, (λ e. absurd (omega arith)), λ x lx. (at_pair 0 1 x, pair_at 0 1 x)))

corner : HasRank 3 square [] square (λ x. x == 2) 1
corner = (first_rank 3 square [] square_cols tt square square_is_read.order (λ x. x == 2)).1 (2, omega arith, λ x lx. (eqb-true x 2, eq-eqb x 2))

whole_face : IsFace 3 square [] square (λ x. true)
whole_face = record {
  a = zeros 3;
  valid = record { cols = length-zeros 3; holds = λ x lx h. simp dot-zeros (omega (arith, ints)) };
  places = λ j l. (λ t. dot-zeros 3 (ray square j), λ e. refl);
}

none_face : IsFace 3 square [] square (λ x. false)
none_face = record {
  a = triple 1 0 0;
  valid = record { cols = refl; holds = λ x lx h. dot_in (triple 1 0 0) square [] (λ g i. at_corner g i) (λ l i. elim i [ ]) h };
  places = by_four (λ j. IsTrue false ↔ (dot (triple 1 0 0) (ray square j) ≡ pos 0))
      (λ t. absurd cc, λ e. absurd (omega (arith, ints)))
      (λ t. absurd cc, λ e. absurd (omega (arith, ints)))
      (λ t. absurd cc, λ e. absurd (omega (arith, ints)))
      (λ t. absurd cc, λ e. absurd (omega (arith, ints)));
}
  where
    at_corner : (g : Row) → Among g square → pos 0 ≤ℤ dot (triple 1 0 0) g
    at_corner g here = le_z_yes tt
    at_corner g (there here) = le_z_yes tt
    at_corner g (there (there here)) = le_z_yes tt
    at_corner g (there (there (there here))) = le_z_yes tt
    at_corner g (there (there (there (there i)))) = elim i [ ]

none_rank : HasRank 3 square [] square (λ x. false) 0
none_rank = record { face = none_face; chain = tt; greatest = λ c. absurd (let h = c.2.has in cc) }

in_whole : IsStrictlyIn 4 (pair_of 0 1) (λ x. true)
in_whole = record { included = λ j l t. refl; j = 2; below = omega arith; has = refl; lacks = λ t. absurd cc }

whole_rank : HasRank 3 square [] square (λ x. true) 3
whole_rank = by_rank (each_has_rank 3 square [] square_cols tt square square_is_read.order (λ x. true) whole_face)
  where
    at_suc : (k : ℕ) → HasRank 3 square [] square (λ x. true) (suc k) → HasRank 3 square [] square (λ x. true) 3
    at_suc k r =
        let low = ranks_rise 3 square [] square (pair_of 0 1) (λ x. true) 2 (suc k) side r in_whole in
        let s : HasRank 3 square [] square (pair_of 0 1) k = (facets_are_highest 3 square [] square_cols tt square edges square_is_read.order square_is_read.facets k r (pair_of 0 1)).1 (0, omega arith, side_places) in
        let e = rank_is_one 3 square [] square (pair_of 0 1) k 2 s side in
        let t : suc k ≡ 3 = omega arith in
        subst (λ z. HasRank 3 square [] square (λ x. true) z) t r

    by_rank : (k : ℕ) × HasRank 3 square [] square (λ x. true) k → HasRank 3 square [] square (λ x. true) 3
    by_rank (zero, r) = absurd (let low = ranks_rise 3 square [] square (pair_of 0 1) (λ x. true) 2 0 side r in_whole in omega arith)
    by_rank (suc k, r) = at_suc k r

rows_rank : IsRank square 3
rows_rank = let r = (whole_has_rank 3 square [] square_cols tt square [] tt square_is_read.order pointed 0 no_rows 3).0 whole_rank in r
  where
    no_rows : IsRank [] 0
    no_rows = record { basis = []; independent = λ c z i l. absurd (omega arith); span = same_span_refl []; as_many = refl }

-- ---- the graphs
no_third_facet : NoThirdFacet square edges 0 1
no_third_facet = by_four (λ l. ¬ (l ≡ 0) → ¬ (l ≡ 1) → ¬ ((j : ℕ) → j < 4 → dot (ray edges 0) (ray square j) ≡ pos 0 → dot (ray edges 1) (ray square j) ≡ pos 0 → dot (ray edges l) (ray square j) ≡ pos 0))
    (λ a b h. a refl)
    (λ a b h. b refl)
    (λ a b h. let z = h 0 (omega arith) refl refl in absurd (omega (arith, ints)))
    (λ a b h. let z = h 0 (omega arith) refl refl in absurd (omega (arith, ints)))

third_across : ¬ (NoThirdFacet square edges 0 3)
third_across none = none 1 (omega arith) (λ q. absurd (omega arith)) (λ q. absurd (omega arith)) (by_four (λ j. dot (ray edges 0) (ray square j) ≡ pos 0 → dot (ray edges 3) (ray square j) ≡ pos 0 → dot (ray edges 1) (ray square j) ≡ pos 0)
    (λ p q. absurd (omega (arith, ints)))
    (λ p q. absurd (omega (arith, ints)))
    (λ p q. absurd (omega (arith, ints)))
    (λ p q. absurd (omega (arith, ints))))

ridges : (i k : ℕ) → IsRidge 3 square [] square edges i k ↔ ((i < 4) × (k < 4) × ¬ (i ≡ k) × NoThirdFacet square edges i k)
ridges i k = ridges_by_facets 3 square [] square_cols tt square edges square_is_read.order square_is_read.facets i k

pub square_has_graphs : SquareHasGraphs
square_has_graphs = record {
  side = ((edges_by_facets 3 square [] square_cols tt square edges square_is_read.order square_is_read.facets 0 1).0 square_graph_is_read.side).3;
  diagonal = λ none. square_graph_is_read.diagonal ((edges_by_facets 3 square [] square_cols tt square edges square_is_read.order square_is_read.facets 0 3).1 (omega arith, omega arith, (λ e. absurd (omega arith)), none));
  ridge = (ridges 0 1).1 (omega arith, omega arith, (λ e. absurd (omega arith)), no_third_facet);
  alone = no_third_facet;
  across = λ r. third_across ((ridges 0 3).0 r).3;
  not_alone = third_across;
  itself = λ r. r.apart refl;
}

pub square_has_ranks : SquareHasRanks
square_has_ranks = record {
  none = none_rank;
  corner = corner;
  side = side;
  not_one = λ r. absurd (let e = rank_is_one 3 square [] square (pair_of 0 1) 1 2 r side in omega arith);
  whole = whole_rank;
  rows = rows_rank;
  chosen = refl;
}
