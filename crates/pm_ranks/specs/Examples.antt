-- Ranks and graphs of the unit square, and the ranks of a line in the plane.
use Rattle.pm_vector.specs.Bases.{IsRank}
use Rattle.pm_geom.specs.Examples.{edges, square, triple}
use Rattle.pm_geom.specs.Faces.{HasRank}
use Rattle.pm_geom.specs.Graphs.{IsRidge, pair_of}
use Rattle.pm_ranks.specs.Chosen.{chosen}
use Rattle.pm_ranks.specs.Thirds.{NoThirdFacet, NoThirdRay}
use Rattle.std.specs.Prelude.{◌==◌, ◌≡◌, true, false, [], ◌∷◌}

pub record SquareHasRanks : Type 0 where
  pub none : HasRank 3 square [] square (λ x. false) 0
  pub corner : HasRank 3 square [] square (λ x. x == 2) 1
  pub side : HasRank 3 square [] square (pair_of 0 1) 2
  pub not_one : ¬ (HasRank 3 square [] square (pair_of 0 1) 1)
  pub whole : HasRank 3 square [] square (λ x. true) 3
  pub rows : IsRank square 3
  pub chosen : chosen (pair_of 0 3) square ≡ triple 1 0 0 ∷ triple 1 1 1 ∷ []

pub record SquareHasGraphs : Type 0 where
  pub side : NoThirdRay square edges 0 1
  pub diagonal : ¬ (NoThirdRay square edges 0 3)
  pub ridge : IsRidge 3 square [] square edges 0 1
  pub alone : NoThirdFacet square edges 0 1
  pub across : ¬ (IsRidge 3 square [] square edges 0 3)
  pub not_alone : ¬ (NoThirdFacet square edges 0 3)
  pub itself : ¬ (IsRidge 3 square [] square edges 1 1)

-- the line through (1,0,0) along (0,1,0): the whole has rank 1, though its rows span two dimensions
pub record LineHasRanks : Type 0 where
  pub whole : HasRank 3 (triple 1 0 0 ∷ []) (triple 0 1 0 ∷ []) (triple 1 0 0 ∷ []) (λ x. true) 1
  pub not_two : ¬ (HasRank 3 (triple 1 0 0 ∷ []) (triple 0 1 0 ∷ []) (triple 1 0 0 ∷ []) (λ x. true) 2)
  pub rows : IsRank (triple 1 0 0 ∷ triple 0 1 0 ∷ []) 2
