-- Lifted rows of sites that are lost, from one call to the next.
use Rattle.pm_dd.specs.Lost.{IfWide, PartsAreLost}
use Rattle.pm_dd.specs.declared.fails.DdFail.{DdFail}
use Rattle.pm_dd.specs.declared.fails.DdFail.TheVariants as facets
use Rattle.pm_elim.specs.Lost.{PrimitiveIsLost}
use Rattle.pm_lift.specs.Fails.{lift_fail_of}
use Rattle.pm_lift.specs.Lifting.{lifted, raised, upwards}
use Rattle.pm_lift.specs.Lost.{IfWideLift, LiftedRowIsLost, RaisedRowIsLost, RowsAreLost}
use Rattle.pm_lift.specs.declared.fails.LiftFail.{LiftFail}
use Rattle.pm_lift.specs.declared.fails.LiftFail.TheVariants.{Many, Memory, Wide}
use Rattle.pm_vector.proofs.DivisorLaws.{primitive_row_unique}
use Rattle.pm_vector.specs.Divisors.{IsPrimitiveOf}
use Rattle.pm_vector.specs.Numbers.{Ratio}
use Rattle.pm_vector.specs.Rows.{Row}
use Rattle.std.proofs.Common.{add-one, subst}
use Rattle.std.specs.Prelude.{List, [], ℕ, ◌+◌, ◌++◌, ◌∷◌, ◌≡◌}

-- Q holds where R does
pub if_wide : (f : LiftFail) (Q R : Type 0) → (R → Q) → IfWideLift f R → IfWideLift f Q
if_wide (Wide e) Q R g h = g h
if_wide (Many e) Q R g h = tt
if_wide Memory Q R g h = tt

-- Q holds anyway
pub wide_or_not : (f : LiftFail) (Q : Type 0) → Q → IfWideLift f Q
wide_or_not (Wide e) Q h = h
wide_or_not (Many e) Q h = tt
wide_or_not Memory Q h = tt

-- a site has one primitive row
pub lifted_lost : (site row : Row) (height : Ratio) → IsPrimitiveOf site row → PrimitiveIsLost (lifted row height) → LiftedRowIsLost site height
lifted_lost site row height p lost = λ x h r. lost x (subst (λ (q : Row). IsPrimitiveOf (lifted q height) x) (primitive_row_unique site h.row row h.primitive p) h.lifted) r

pub raised_lost : (site row : Row) → IsPrimitiveOf site row → PrimitiveIsLost (raised row) → RaisedRowIsLost site
raised_lost site row p lost = λ x h r. lost x (subst (λ (q : Row). IsPrimitiveOf (raised q) x) (primitive_row_unique site h.row row h.primitive p) h.raised) r

-- double description of the row list
facets_lost : (f : DdFail) (Q : Type 0) → IfWide f Q → IfWideLift (lift_fail_of f) Q
facets_lost (facets.Wide e) Q h = h
facets_lost (facets.Many e) Q h = tt
facets_lost facets.Memory Q h = tt

pub rows_lost : (n : ℕ) (X all lines : List Row) (f : DdFail) → all ≡ X ++ upwards n ∷ [] → lines ≡ [] → IfWide f (PartsAreLost (n + 1) lines all) → IfWideLift (lift_fail_of f) (RowsAreLost n X)
rows_lost n X all lines f e g h = facets_lost f (RowsAreLost n X) (rw (add-one, e, g) at h)
