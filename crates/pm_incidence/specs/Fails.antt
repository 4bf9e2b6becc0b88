-- Refusals of thinning.
use Rattle.pm_elim.specs.declared.evidence.ElimFail.{ElimFail}
use Rattle.pm_elim.specs.declared.evidence.ElimFail.TheVariants as elimination
use Rattle.pm_geom.specs.declared.evidence.Evidence.TheVariants.{E1, E4}
use Rattle.pm_incidence.specs.declared.fails.ThinFail.{ThinFail}
use Rattle.pm_incidence.specs.declared.fails.ThinFail.TheVariants.{Memory, Wide}

-- the refusal of an elimination, as one of thinning
abbrev pub thin_fail_of : ElimFail → ThinFail
thin_fail_of (elimination.Wide e) = Wide (E1 e)
thin_fail_of elimination.Memory = Memory

-- with the two rows of E4 exchanged
abbrev pub exchanged : ThinFail → ThinFail
exchanged (Wide (E4 first second)) = Wide (E4 second first)
exchanged f = f
