-- What the refusals show.
use Rattle.pm_vector.specs.Rows.{Row}
use Rattle.pm_vector.specs.Bases.{row_at}
use Rattle.pm_geom.specs.Evidence.{IsWideProduct}
use Rattle.pm_geom.specs.declared.evidence.Evidence.TheVariants.{E4}
use Rattle.pm_simplex.specs.OptimumEvidence.{ShowsProduct}
use Rattle.pm_simplex.specs.Fails.{IfWide}
use Rattle.pm_simplex.specs.declared.fails.LpFail.TheVariants as fail
use Rattle.pm_simplex.specs.declared.fails.LpFail.{LpFail}
use Rattle.std.proofs.Common.{refl, subst, sym}
use Rattle.std.proofs.lemmas.List.Elements.{Contains-get_or}
use Rattle.std.specs.Prelude.{List, [], length, ℕ, ◌<◌, ◌≡◌}

-- the product of w with a row of V leaves the range
pub shows_product : (w : Row) (V : List Row) (i : ℕ) (f : LpFail) → i < length V → f ≡ fail.Wide (E4 w (row_at V i)) → IsWideProduct w (row_at V i) → IfWide f (ShowsProduct w V)
shows_product w V i f l e wide = subst (λ g. IfWide g (ShowsProduct w V)) (sym e) (refl, Contains-get_or V i [] l, wide)
