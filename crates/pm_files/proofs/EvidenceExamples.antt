-- Small evidence, written out.
use Rattle.std.proofs.Common.{ap, arith, length, refl, ◌≡◌}
use Rattle.std.specs.Fmt.{digits}
use Rattle.serde_json.proofs.OnLiterals.{serde_json_on_literals}
use Rattle.pm_files.specs.EvidenceExamples.{EvidenceIsWritten}

pub written : EvidenceIsWritten
unfolding digits serde_json_on_literals
written = record {
  rows = refl;
  extended = refl;
  without = refl;
  extended_without = refl;
  rays = refl;
  no_column = refl;
  not_left_out = λ e. let n : 64 ≡ 50 = ap length e in absurd (omega arith);
  pivot = refl;
  product = refl;
  no_numbers = λ e. let n : 30 ≡ 26 = ap length e in absurd (omega arith);
  many_rays = refl;
  places = refl;
  faces = refl;
  cells = refl;
}
