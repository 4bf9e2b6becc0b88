-- The examples, computed.
use Rattle.pm_vector.proofs.Lists.{among_All, here}
use Rattle.pm_files.specs.Files.{SavedProgram}
use Rattle.pm_examples_objects.specs.Filing.{two_rules}
use Rattle.pm_laws_texts.specs.LabelExamples.{LabelsAreRead}
use Rattle.pm_laws_texts.specs.SavedAgain.{has_labels}
use Rattle.pm_props.specs.Sets.{has, only, union}
use Rattle.serde_json.proofs.OnLiterals.{serde_json_on_literals}
use Rattle.std.proofs.Common.{ap, arith, length, refl, sym, true, true≢false, ◌≡◌}
use Rattle.std.proofs.lemmas.List.Elements.{All-nil}
use Rattle.std.specs.Fmt.{digits}
use Rattle.std.specs.Prelude.{List, [], ◌∷◌}

no_list : {X : Type 0} {x : X} {xs : List X} → x ∷ xs ≡ [] → ⊥
no_list e = cc

pub labels : LabelsAreRead
unfolding digits has only union serde_json_on_literals
labels = record {
  label = λ rule. record { own = refl; programs = All-nil (λ (p : SavedProgram). has_labels (two_rules rule) p.failed ≡ true) };
  same = λ rule. refl;
  no_label = λ rule h. true≢false (sym h.own);
  not_same = λ rule e. absurd (let n = ap length e in omega arith);
  no_program_label = λ rule h. true≢false (sym (among_All (λ (p : SavedProgram). has_labels (two_rules rule) p.failed ≡ true) (here {xs = []}) h.programs));
  settled = λ rule. refl;
  not_settled = λ rule h. no_list h;
  filled_in = λ rule e. absurd (let n = ap length e in omega arith);
}
