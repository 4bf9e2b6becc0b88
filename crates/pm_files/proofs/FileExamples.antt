-- The examples, computed.
use Rattle.std.proofs.Common.{refl, ap, ◌≡◌, arith, length}
use Rattle.std.specs.Fmt.{digits}
use Rattle.serde_json.proofs.OnLiterals.{serde_json_on_literals}
use Rattle.pm_props.specs.Sets.{has, only}
use Rattle.pm_files.specs.FileExamples.{FilesAreWritten}

pub files : FilesAreWritten
unfolding digits has only serde_json_on_literals
files = record {
  point = refl;
  turned = refl;
  cone = refl;
  rays = refl;
  no_vertices = refl;
  another = refl;
  mark = refl;
  no_number = λ e. let n : 14 ≡ 11 = ap length e in absurd (omega arith);
  program = refl;
  nameless = refl;
  with_program = refl;
}
