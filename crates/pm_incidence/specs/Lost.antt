-- Where thinning by wide numbers is given up, and where rows from sets are: an elimination is lost, since a step of it
-- makes no row in the range. The product of two rows is never lost.
use Rattle.std.specs.Prelude.{ℕ, List, ◌++◌, ◌⊎◌}
use Rattle.std.specs.List.{Contains}
use Rattle.pm_vector.specs.Rows.{Row}
use Rattle.pm_vector.specs.Evidence.{IsBasisOf}
use Rattle.pm_elim.specs.Lost.{IsLost, IsLostOnExtended, IsLostOnNext}
use Rattle.pm_incidence.specs.FromSets.{IsDetermining}
use Rattle.pm_incidence.specs.Thinning.{flat_group}
use Rattle.pm_incidence.specs.declared.fails.ThinFail.{ThinFail}
use Rattle.pm_incidence.specs.declared.fails.ThinFail.TheVariants.{Many, Memory, Wide}

-- the reduction of some row of G by the basis B, with pivot columns P, is lost
pub record IsLostOnRowOf (B : List Row) (P : List ℕ) (G : List Row) : Type 0 where
  pub row : Row
  pub listed : Contains G row
  pub lost : IsLostOnNext B P row

-- that of some row of G by the echelon basis of the rows that span the lineality is lost
pub record IsLostReduction (n : ℕ) (G L A : List Row) : Type 0 where
  pub basis : List Row
  pub pivots : List ℕ
  pub is_basis : IsBasisOf n (flat_group G L A) basis pivots
  pub lost : IsLostOnRowOf basis pivots G

-- thinning of G with lines L by inequalities A is given up: the elimination of the rows that span the lineality is
-- lost, or such a reduction
abbrev pub ThinningIsLost : ℕ → List Row → List Row → List Row → Type 0
ThinningIsLost n G L A = IsLost n (flat_group G L A) ⊎ IsLostReduction n G L A

-- the null space of the rows that determine the row of some set is lost
pub record IsLostSet (n : ℕ) (E A : List Row) (sets : List (List ℕ)) : Type 0 where
  pub rows : List Row
  pub determining : IsDetermining n E A sets rows
  pub lost : IsLostOnExtended n rows

-- rows from sets are given up: the null space of all equations and inequalities is lost, or that of such rows
abbrev pub SetsAreLost : ℕ → List Row → List Row → List (List ℕ) → Type 0
SetsAreLost n E A sets = IsLostOnExtended n (E ++ A) ⊎ IsLostSet n E A sets

-- Q holds where thinning is given up for a number out of the range
abbrev pub IfThinWide : ThinFail → Type 0 → Type 0
IfThinWide (Wide e) Q = Q
IfThinWide (Many e) Q = Unit {0}
IfThinWide Memory Q = Unit {0}
