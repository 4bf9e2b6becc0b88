-- Cones, their extreme rays and their facet rows (Ziegler, Lectures on Polytopes, lectures 1 and 2).
-- A set of rows of n entries is a predicate S: the cone that rows generate (`InCone G L`), the cone that rows cut out
-- (`CutOut B`), or the rows that are valid on a cone (`IsValid n G L`).
use Rattle.std.specs.Prelude.{ℕ, ◌≡◌, List, length}
use Rattle.std.specs.List.{All, AllByRecursion, AllPairs, Any}
use Rattle.pm_vector.specs.Rows.{Row, dot, plus, times, opposite, Same}
use Rattle.pm_vector.specs.Cones.{InCone}
use lib.IntN.{ℤ, pos}
use lib.Signed.{◌<ℤ◌, ◌≤ℤ◌}

-- x is in the cone that B cuts out: each row of B has a non-negative product with x
abbrev pub CutOut : List Row → Row → Type 0
CutOut B x = AllByRecursion (λ b. pos 0 ≤ℤ dot b x) B

-- a has a non-negative product with each x in cone(G) + span(L)
pub record IsValid (n : ℕ) (G L : List Row) (a : Row) : Type 0 where
  pub cols : length a ≡ n
  pub holds : (x : Row) → length x ≡ n → InCone G L x → pos 0 ≤ℤ dot a x

-- a has the product 0 with each x in cone(G) + span(L)
pub record Vanishes (n : ℕ) (G L : List Row) (a : Row) : Type 0 where
  pub cols : length a ≡ n
  pub holds : (x : Row) → length x ≡ n → InCone G L x → dot a x ≡ pos 0

-- x and its opposite are in S
pub record InLineality (S : Row → Type 0) (x : Row) : Type 0 where
  pub inside : S x
  pub opposed : S (opposite x)

-- a positive multiple of u is a non-negative multiple of r plus an element of the lineality of S
pub record MultipleModulo (n : ℕ) (S : Row → Type 0) (r u : Row) : Type 0 where
  pub p : ℤ
  pub k : ℤ
  pub w : Row
  pub cols : length w ≡ n
  pub positive : pos 0 <ℤ p
  pub not_negative : pos 0 ≤ℤ k
  pub line : InLineality S w
  pub same : Same (times p u) (plus (times k r) w)

-- a positive multiple of u is a positive multiple of r plus an element of the lineality of S
pub record SameModulo (n : ℕ) (S : Row → Type 0) (r u : Row) : Type 0 where
  pub p : ℤ
  pub k : ℤ
  pub w : Row
  pub cols : length w ≡ n
  pub p_positive : pos 0 <ℤ p
  pub k_positive : pos 0 <ℤ k
  pub line : InLineality S w
  pub same : Same (times p u) (plus (times k r) w)

-- r is in S, its opposite is not, and whenever a positive multiple of r is a sum u + v in S, each of u and v is a
-- non-negative multiple of r modulo the lineality
pub record IsExtreme (n : ℕ) (S : Row → Type 0) (r : Row) : Type 0 where
  pub cols : length r ≡ n
  pub inside : S r
  pub not_line : ¬ (S (opposite r))
  pub summands : (p : ℤ) (u v : Row) → pos 0 <ℤ p → length u ≡ n → length v ≡ n → S u → S v
      → Same (times p r) (plus u v) → MultipleModulo n S r u × MultipleModulo n S r v

-- r is an extreme ray of cone(G) + span(L)
abbrev pub IsExtremeRay : ℕ → List Row → List Row → Row → Type 0
IsExtremeRay n G L r = IsExtreme n (InCone G L) r

-- a is an extreme row among those that are valid on cone(G) + span(L): the lineality of these are the rows that vanish
abbrev pub IsFacetRow : ℕ → List Row → List Row → Row → Type 0
IsFacetRow n G L a = IsExtreme n (IsValid n G L) a

-- V has exactly one representative of each extreme row of S, up to positive scale and lineality
pub record IsOrder (n : ℕ) (S : Row → Type 0) (V : List Row) : Type 0 where
  pub each : All (λ v. IsExtreme n S v) V
  pub all : (r : Row) → IsExtreme n S r → Any (λ v. SameModulo n S r v) V
  pub once : AllPairs (λ v w. ¬ (SameModulo n S v w)) V
