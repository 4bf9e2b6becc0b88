-- The examples, computed.
use Rattle.std.proofs.Common.{refl, ap, ◌≡◌, arith, length}
use Rattle.std.specs.Fmt.{digits}
use Rattle.serde_json.proofs.OnLiterals.{serde_json_on_literals}
use Rattle.pm_files.specs.Examples.{MatricesAreWritten, SetsAreWritten, NumbersAreWritten}

pub matrices : MatricesAreWritten
unfolding digits serde_json_on_literals
matrices = record {
  points = refl;
  no_numbers = λ e. let n : 7 ≡ 5 = ap length e in absurd (omega arith);
  nothing = refl;
  columns = refl;
  not_left_out = λ e. let n : 12 ≡ 2 = ap length e in absurd (omega arith);
  not_behind_rows = λ e. let n : 7 ≡ 18 = ap length e in absurd (omega arith);
  objective = refl;
  no_objective = refl;
  no_list_of_rows = λ e. let n : 12 ≡ 14 = ap length e in absurd (omega arith);
}

pub sets : SetsAreWritten
unfolding digits serde_json_on_literals
sets = record {
  in_facets = refl;
  no_sets = refl;
  not_alone = λ e. let n : 16 ≡ 5 = ap length e in absurd (omega arith);
  graph = refl;
  no_columns = λ e. let n : 9 ≡ 20 = ap length e in absurd (omega arith);
  diagram = refl;
  ranks = λ e. let n : 12 ≡ 8 = ap length e in absurd (omega arith);
}

pub numbers : NumbersAreWritten
unfolding digits serde_json_on_literals
numbers = record {
  dimension = refl;
  below_nought = refl;
  no_text = λ e. let n : 1 ≡ 3 = ap length e in absurd (omega arith);
  bounded = refl;
  unbounded = refl;
  vector = refl;
  no_texts = λ e. let n : 3 ≡ 5 = ap length e in absurd (omega arith);
  value = refl;
  above_all = refl;
  below_all = refl;
}
