-- The examples hold.
use Rattle.pm_clients_faces.specs.Examples.{FewFacesAreRead, NumbersAreRead}
use Rattle.pm_clients_faces.specs.Faces.{HasFewFaces}
use Rattle.pm_clients_faces.specs.Examples.{no_sets}
use Rattle.pm_lattice.proofs.Points.{no_sets_are_read}
use Rattle.std.proofs.Common.{arith, refl}
use Rattle.std.specs.Prelude.{[], ◌∷◌}

pub numbers_are_read : NumbersAreRead
numbers_are_read = record { few = refl; many = refl; counts = refl; pairs = refl; no_counts = refl; no_pairs = refl }

few_faces : HasFewFaces no_sets
few_faces = record { index = record { rows = []; cols = 0 }; reads = refl; ranks = ([] ∷ []) ∷ []; faces = no_sets_are_read.no_places; small = (omega arith, omega arith) }

pub few_faces_are_read : FewFacesAreRead
few_faces_are_read = record {
  few = few_faces;
  not_read = λ h. let e = h.reads in cc;
  answers = few_faces;
  no_answer = λ h. let e = h.reads in cc;
  others_answer = tt;
  memory = tt;
  not_many = λ h. let e = h.reads in cc;
  not_rows = λ h. h;
  faces_fail = tt;
  others_fail = refl;
  others_do_not = λ e. cc;
}
