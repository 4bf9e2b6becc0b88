-- Span and cone (Ziegler, Lectures on Polytopes, lecture 1). Coefficients are whole, and x may be taken a positive
-- number of times.
use Rattle.std.specs.Prelude.{ℕ, ◌≡◌, ◌<◌, List, [], ◌∷◌, length}
use Rattle.std.specs.List.{AllByRecursion, slice_index_or}
use Rattle.pm_vector.specs.Rows.{Row, plus, times, Same, IsZero}
use lib.IntN.{ℤ, pos}
use lib.Signed.{◌<ℤ◌, ◌≤ℤ◌}

-- the sum of the rows of G, each times its number in c
abbrev pub combination : List ℤ → List Row → Row
combination [] X = []
combination (c ∷ cs) [] = []
combination (c ∷ cs) (x ∷ X) = plus (times c x) (combination cs X)

-- x is in cone(G) + span(L): a positive multiple of x is a sum of non-negative multiples of rows of G and of
-- multiples of rows of L
pub record InCone (G L : List Row) (x : Row) : Type 0 where
  pub m : ℤ
  pub c : List ℤ
  pub d : List ℤ
  pub positive : pos 0 <ℤ m
  pub not_negative : AllByRecursion (λ k. pos 0 ≤ℤ k) c
  pub same : Same (times m x) (plus (combination c G) (combination d L))

-- x is in span(L), the cone that has no generator beside the lines L
abbrev pub InSpan : List Row → Row → Type 0
InSpan L x = InCone [] L x

-- a combination of the rows of X that is zero has no coefficient but 0
abbrev pub IsIndependent : List Row → Type 0
IsIndependent X = (c : List ℤ) → IsZero (combination c X) → (i : ℕ) → i < length X
    → slice_index_or c i (pos 0) ≡ pos 0

-- a set of rows that is closed under what equal entries, sums, non-negative multiples and positive parts give
pub record IsConeSet (S : Row → Type 0) : Type 0 where
  pub same : {x y : Row} → Same x y → S x → S y
  pub sum : {x y : Row} → S x → S y → S (plus x y)
  pub multiple : {k : ℤ} {x : Row} → pos 0 ≤ℤ k → S x → S (times k x)
  pub part : {k : ℤ} {x : Row} → pos 0 <ℤ k → S (times k x) → S x
