-- Graphs of cones with at most two rays and two facets, in whatever orders, and diameters.
use Rattle.pm_vector.proofs.Lists.{Among, Contains_among, here}
use Rattle.pm_vector.specs.Cones.{InCone}
use Rattle.pm_vector.specs.Rows.{HasCols, Row}
use Rattle.pm_geom.proofs.SmallGraphs.{distance_at_most}
use Rattle.pm_geom.specs.Cones.{IsOrder, IsValid}
use Rattle.pm_geom.specs.Graphs.{IsDiameter, IsEdge, IsGraph, IsRidge, IsWalk}
use Rattle.pm_examples_values.proofs.GraphTests.{facet_graph, ray_graph}
use Rattle.pm_examples_values.specs.GraphExamples.{joined}
use Rattle.std.proofs.Common.{arith, inl, inr, refl}
use Rattle.std.proofs.lemmas.Bool.{cases_eq}
use Rattle.std.specs.Prelude.{List, [], length, suc, zero, ℕ, ◌<◌, ◌∷◌, ◌≡◌, ◌≤◌, ◌⊎◌}

-- ---- diameters
at_most : (n : ℕ) (E : ℕ → ℕ → Type 0) (j k : ℕ) → IsDiameter n E j → IsDiameter n E k → j ≤ k
at_most n E j k d e = elim d.greatest.reached [ inl z ↦ omega arith | inr w ↦ e.greatest.bound w.0 w.1 j w.2 w.3 w.4 ]

pub one_diameter : (n : ℕ) (E : ℕ → ℕ → Type 0) (j k : ℕ) → IsDiameter n E j → IsDiameter n E k → j ≡ k
one_diameter n E j k d e = let l = at_most n E j k d e in let m = at_most n E k j e d in omega arith

-- where there are no two nodes
pub few_diameter : (n : ℕ) (E : ℕ → ℕ → Type 0) → n ≤ 1 → IsDiameter n E 0
few_diameter n E l = record {
  connected = λ i j li lj. (0, (let e : i ≡ j = omega arith in e));
  greatest = record { bound = λ i j d li lj s. distance_at_most E i j d 0 s (let e : i ≡ j = omega arith in e); reached = inl refl };
}

-- ---- two nodes that are joined
module _ (n : ℕ) (E : ℕ → ℕ → Type 0) (two : n ≡ 2) (g : IsGraph n E joined) where
  step : (i j : ℕ) → i < n → j < n → ¬ (i ≡ j) → E i j
  step zero zero li lj ne = absurd (ne refl)
  step zero (suc zero) li lj ne = (g.edges 0 1 li).0 (let i : Among 1 (1 ∷ []) = here in Contains_among i)
  step (suc zero) zero li lj ne = (g.edges 1 0 li).0 (let i : Among 0 (0 ∷ []) = here in Contains_among i)
  step (suc zero) (suc zero) li lj ne = absurd (ne refl)
  step (suc (suc i)) j li lj ne = absurd (omega arith)
  step i (suc (suc j)) li lj ne = absurd (omega arith)

  joined_or_same : (i j : ℕ) → i < n → j < n → (i ≡ j) ⊎ E i j
  joined_or_same i j li lj = elim (cases_eq i j) [ inl e ↦ inl e | inr ne ↦ inr (step i j li lj ne) ]

  apart_from : (m : ℕ) → m < 1 → ¬ (IsWalk E 0 1 m)
  apart_from zero l e = absurd (omega arith)
  apart_from (suc m) l w = absurd (omega arith)

  pub joined_diameter : IsDiameter n E 1
  joined_diameter = record {
    connected = λ i j li lj. elim (joined_or_same i j li lj) [ inl e ↦ (0, e) | inr s ↦ (1, (j, s, refl)) ];
    greatest = record {
      bound = λ i j d li lj s. elim (joined_or_same i j li lj) [
        | inl e ↦ (let l = distance_at_most E i j d 0 s e in omega arith)
        | inr t ↦ distance_at_most E i j d 1 s (j, t, refl)
      ];
      reached = inr (0, 1, omega arith, omega arith, record { walk = (1, step 0 1 (omega arith) (omega arith) (λ e. absurd (omega arith)), refl); least = apart_from });
    };
  }

-- ---- one ray and one facet, two rays and two facets
module _ (n : ℕ) (G L : List Row) (hg : HasCols n G) (hl : HasCols n L) where
  pub one_ray_graph : (V F : List Row) → IsOrder n (InCone G L) V → IsOrder n (IsValid n G L) F → length V ≡ 1 → IsGraph (length V) (IsEdge n G L V) ([] ∷ [])
  one_ray_graph [] F oV oF e = absurd (omega arith)
  one_ray_graph (v ∷ []) F oV oF e = ray_graph n G L hg hl (v ∷ []) F oV oF ([] ∷ []) refl
  one_ray_graph (v ∷ w ∷ V) F oV oF e = absurd (omega arith)

  pub one_facet_graph : (V F : List Row) → IsOrder n (InCone G L) V → IsOrder n (IsValid n G L) F → length F ≡ 1 → IsGraph (length F) (IsRidge n G L V F) ([] ∷ [])
  one_facet_graph V [] oV oF e = absurd (omega arith)
  one_facet_graph V (f ∷ []) oV oF e = facet_graph n G L hg hl V (f ∷ []) oV oF ([] ∷ []) refl
  one_facet_graph V (f ∷ g ∷ F) oV oF e = absurd (omega arith)

  pub two_ray_graph : (V F : List Row) → IsOrder n (InCone G L) V → IsOrder n (IsValid n G L) F → length V ≡ 2 → IsGraph (length V) (IsEdge n G L V) joined
  two_ray_graph [] F oV oF e = absurd (omega arith)
  two_ray_graph (v ∷ []) F oV oF e = absurd (omega arith)
  two_ray_graph (v ∷ w ∷ []) F oV oF e = ray_graph n G L hg hl (v ∷ w ∷ []) F oV oF joined refl
  two_ray_graph (v ∷ w ∷ x ∷ V) F oV oF e = absurd (omega arith)

  pub two_facet_graph : (V F : List Row) → IsOrder n (InCone G L) V → IsOrder n (IsValid n G L) F → length F ≡ 2 → IsGraph (length F) (IsRidge n G L V F) joined
  two_facet_graph V [] oV oF e = absurd (omega arith)
  two_facet_graph V (f ∷ []) oV oF e = absurd (omega arith)
  two_facet_graph V (f ∷ g ∷ []) oV oF e = facet_graph n G L hg hl V (f ∷ g ∷ []) oV oF joined refl
  two_facet_graph V (f ∷ g ∷ h ∷ F) oV oF e = absurd (omega arith)
