-- Where an elimination by wide numbers is lost, thinning is given up.
use Rattle.pm_vector.specs.Rows.{Row}
use Rattle.pm_elim.specs.Refusals.{IfWide}
use Rattle.pm_vector.specs.Evidence.{IsBasisOf}
use Rattle.pm_elim.specs.Lost.{IsLost, IsLostOnNext}
use Rattle.pm_elim.specs.declared.evidence.ElimFail.{ElimFail}
use Rattle.pm_elim.specs.declared.evidence.ElimFail.TheVariants as elimination
use Rattle.pm_incidence.specs.Fails.{thin_fail_of}
use Rattle.pm_incidence.specs.Lost.{IfThinWide, IsLostOnRowOf, ThinningIsLost}
use Rattle.pm_incidence.specs.Thinning.{flat_group}
use Rattle.pm_incidence.specs.declared.fails.ThinFail.{ThinFail}
use Rattle.pm_incidence.specs.declared.fails.ThinFail.TheVariants.{Many, Memory, Wide}
use Rattle.std.proofs.Common.{inl, inr, subst}
use Rattle.std.specs.List.{Contains}
use Rattle.std.specs.Prelude.{List, ℕ, ◌≡◌}

pub if_thin_wide : {P Q : Type 0} (f : ThinFail) → (P → Q) → IfThinWide f P → IfThinWide f Q
if_thin_wide (Wide e) g h = g h
if_thin_wide (Many e) g h = tt
if_thin_wide Memory g h = tt

-- that of the rows X that span the lineality
pub group_lost : (n : ℕ) (G L A X : List Row) → X ≡ flat_group G L A → (f : ElimFail) → IfWide f (λ e. IsLost n X) → IfThinWide (thin_fail_of f) (ThinningIsLost n G L A)
group_lost n G L A X same (elimination.Wide e) h = inl (subst (IsLost n) same h)
group_lost n G L A X same elimination.Memory h = tt

-- the reduction of a row by a basis
pub row_lost : (B : List Row) (P : List ℕ) (G : List Row) (row : Row) → Contains G row → (f : ElimFail) → IfWide f (λ _. IsLostOnNext B P row) → IfThinWide (thin_fail_of f) (IsLostOnRowOf B P G)
row_lost B P G row listed (elimination.Wide e) h = record { row = row; listed = listed; lost = h }
row_lost B P G row listed elimination.Memory h = tt

-- that of a row by the basis of these
pub reduction_lost : (n : ℕ) (G L A B : List Row) (P : List ℕ) → IsBasisOf n (flat_group G L A) B P → (f : ThinFail) → IfThinWide f (IsLostOnRowOf B P G) → IfThinWide f (ThinningIsLost n G L A)
reduction_lost n G L A B P b f h = if_thin_wide f (λ l. inr (record { basis = B; pivots = P; is_basis = b; lost = l })) h
