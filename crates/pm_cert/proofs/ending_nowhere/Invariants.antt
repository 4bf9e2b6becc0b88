-- The rows so far end nowhere.
use Rattle.std.specs.Prelude.{◌≡◌}
use Rattle.pm_props.specs.Sets.{IsSubset}
use Rattle.pm_rules.specs.Certificates.{Within}
use Rattle.pm_cert.specs.Claims.{UpTo}
use Rattle.pm_cert.proofs.ending_nowhere.Given as goal

abbrev pub invariant-loop-i : goal.invariant-loop-i
invariant-loop-i l = UpTo l.i (λ row. Within l.c row.cost → IsSubset l.asked row.set → ⊥) l.rows
