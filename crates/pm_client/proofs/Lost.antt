-- What is lost where a client fails with evidence, or with evidence of a number out of the range; one row never is.
use Rattle.pm_client.specs.Examples.{FailsAreRead}
use Rattle.pm_client.specs.Fails.{IfFailed, IfNotMany}
use Rattle.pm_client.specs.Sound.{fail_of}
use Rattle.pm_elim.specs.Refusals.{IfWide}
use Rattle.pm_elim.proofs.LostExamples.{lost_eliminations_are_read}
use Rattle.pm_elim.specs.Lost.{IsLost}
use Rattle.pm_elim.specs.declared.evidence.ElimFail.{ElimFail}
use Rattle.pm_elim.specs.declared.evidence.ElimFail.TheVariants.{Memory, Wide}
use Rattle.pm_geom.specs.declared.evidence.Evidence.{Evidence}
use Rattle.pm_geom.specs.declared.evidence.Evidence.TheVariants.{E1, E2, E3, E4, E5Cells, E5Faces, E5Rays, E5Rows}
use Rattle.pm_vector.specs.Rows.{Row}
use Rattle.std.proofs.Common.{arith}
use Rattle.std.specs.Prelude.{List, [], length, ℕ, ◌∷◌, ◌≡◌}

-- a client whose elimination was given up fails with evidence only where the elimination is lost
pub failed_lost : (f : ElimFail) (Q R : Type 0) → (Q → R) → IfWide f (λ _. Q) → IfFailed (fail_of f) R
failed_lost (Wide e) Q R g h = g h
failed_lost Memory Q R g h = tt

-- what holds anyway holds for any evidence
pub whatever_evidence : (e : Evidence) (Q : Type 0) → Q → IfNotMany e Q
whatever_evidence (E1 step) Q h = h
whatever_evidence (E2 front first second column) Q h = h
whatever_evidence (E3 basis enter leave row column) Q h = h
whatever_evidence (E4 first second) Q h = h
whatever_evidence (E5Rays front rays) Q h = tt
whatever_evidence (E5Rows places) Q h = tt
whatever_evidence (E5Faces faces) Q h = tt
whatever_evidence (E5Cells front cells) Q h = tt

-- the elimination of one row is not lost
pub one_stays : (n : ℕ) (X : List Row) → length X ≡ 1 → IsLost n X → ⊥
one_stays n [] e h = omega arith
one_stays n (x ∷ []) e h = lost_eliminations_are_read.not_one n x h
one_stays n (x ∷ y ∷ X) e h = omega arith

pub fails_are_read : FailsAreRead
fails_are_read = record {
  memory = tt;
  evidence = λ e h. h;
  no_memory = tt;
  rays = tt;
  facets = tt;
  faces = tt;
  cells = tt;
  product = λ h. h;
}
