-- What the heights of a functional tell of the rows.
use Rattle.pm_vector.proofs.Lists.{Among, among_All}
use Rattle.pm_vector.proofs.Spans.{place_of}
use Rattle.pm_vector.specs.Bases.{row_at}
use Rattle.pm_vector.specs.Cones.{InCone}
use Rattle.pm_vector.specs.Rows.{Row, dot, opposite}
use Rattle.pm_redund.proofs.Alone.{above_outside, alone_needed, product_at}
use Rattle.pm_redund.specs.Keeping.{IsAlone, IsNeeded, IsSupport, products}
use Rattle.pm_redund.specs.declared.support.Support.{Support}
use Rattle.std.proofs.Common.{arith, subst, sym}
use Rattle.std.proofs.lemmas.List.{length-map}
use Rattle.std.specs.List.{All}
use Rattle.std.specs.Prelude.{IfSome, IsSomeAnd, List, None, Option, Some, get_or, length, ℕ, ◌<◌, ◌≡◌}
use lib.IntN.{pos, ℤ}
use lib.Signed.{◌<ℤ◌, ◌≤ℤ◌}

pub products_length : (y : Row) (G : List Row) → length (products y G) ≡ length G
products_length y G = length-map G (λ (x : Row). dot y x)

module _ (n : ℕ) (G L : List Row) (s : Support) (h : IsSupport n G L s) where
  pub heights_length : length s.heights.items ≡ length G
  heights_length = let e = h.heights in subst (λ (H : List ℤ). length H ≡ length G) (sym e) (products_length s.row G)

  above : (g : Row) → Among g G → pos 0 ≤ℤ dot s.row g
  above g i =
      let p = place_of i in
      let up : pos 0 ≤ℤ get_or s.heights.items p.0 (pos 0) = h.above p.0 (pos 0) (let e = heights_length in let l = p.1 in omega arith) in
      subst (λ (x : Row). pos 0 ≤ℤ dot s.row x) p.2 (subst (λ (z : ℤ). pos 0 ≤ℤ z) (product_at s.row G p.0 p.1) (subst (λ (H : List ℤ). pos 0 ≤ℤ get_or H p.0 (pos 0)) h.heights up))

  level : (l : Row) → Among l L → dot s.row l ≡ pos 0
  level l i = among_All (λ (x : Row). dot s.row x ≡ pos 0) i h.level

  -- a row with a positive height is not in the lineality
  pub high_outside : (i : ℕ) → i < length G → pos 0 <ℤ get_or s.heights.items i (pos 0) → ¬ (InCone G L (opposite (row_at G i)))
  high_outside i l up = above_outside G L s.row above level (row_at G i) (subst (λ (z : ℤ). pos 0 <ℤ z) (product_at s.row G i l) (subst (λ (H : List ℤ). pos 0 <ℤ get_or H i (pos 0)) h.heights up))

  -- a row that is met alone, on the way to a functional that is 0 on the lines, is needed
  pub met_needed : (y : Row) (levels : List ℤ) (k : ℕ) → levels ≡ products y G → k < length G → IsAlone levels s.heights.items k → All (λ l. dot y l ≡ pos 0) L → IsNeeded G L k
  met_needed y levels k e l a flat =
      alone_needed G L y s.row k l (subst (λ (H : List ℤ). IsAlone (products y G) H k) h.heights (subst (λ (Y : List ℤ). IsAlone Y s.heights.items k) e a))
      (λ x i. among_All (λ (z : Row). dot y z ≡ pos 0) i flat) level

-- a row above the functional, where there is one, is not in the lineality
pub above_out : (n : ℕ) (G L : List Row) (o : Option Support) → IfSome o (IsSupport n G L) → (i : ℕ) → i < length G → IsSomeAnd o (λ s. pos 0 <ℤ get_or s.heights.items i (pos 0)) → ¬ (InCone G L (opposite (row_at G i)))
above_out n G L (Some s) h i l up = high_outside n G L s h i l up
above_out n G L None h i l up = absurd up
