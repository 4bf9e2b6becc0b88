-- The examples, computed.
use Rattle.std.proofs.Common.{refl, sym, ap, arith, ◌∙◌, ◌≡◌, true, true≢false, None, Some, List, [], ◌∷◌, ℕ, codes}
use Rattle.std.proofs.lemmas.Bool.{eqb-true}
use Rattle.std.proofs.lemmas.List.Elements.{All-nil}
use Rattle.std.specs.List.{All}
use Rattle.std.specs.Option.{is_some}
use Rattle.pm_vector.proofs.Lists.{All_among, Among, Contains_among, among_All, among_Contains, here, there}
use Rattle.pm_files.specs.Files.{SavedProgram}
use Rattle.pm_examples_objects.specs.Filing.{program}
use Rattle.pm_filing.specs.Whole.{AreMarks}
use Rattle.pm_examples_objects.specs.Whole.{FilesAreWhole, ObjectsAreAgain, three, two_names}
use Rattle.pm_filing.specs.Views.{Suits}
use Rattle.pm_fraction.specs.Matrices.{IsFraction}
use Rattle.pm_props.proofs.Members.{has-empty}
use Rattle.pm_props.specs.Sets.{has, only, union}
use Rattle.pm_object_type.specs.declared.object_type.ObjectType.TheVariants.{Cone, Polytope}
use Rattle.pm_props.specs.declared.property.PropId.{PropId}
use Rattle.pm_props.specs.declared.property.PropId.TheVariants.{ConeAmbientDim, FullDim, LinearObjective, Pointed}
use Rattle.pm_object.specs.State.{have_as_many_sites}
use Rattle.pm_types.specs.Forms.{AreFractions, HasPrimitiveRow, agrees_with}
use Rattle.pm_types.specs.Values.{PropertyValue, matrix, truth, whole}
use lib.IntN.{pos}

abbrev dimension : PropId × PropertyValue
dimension = (ConeAmbientDim, whole (pos 2))

abbrev pointed : PropId × PropertyValue
pointed = (Pointed, truth true)

each_suits : (v : PropId × PropertyValue) → Among v (dimension ∷ pointed ∷ []) → Suits Cone 2 v.0 v.1
each_suits v here = record { formed = refl; columns = refl; rows = refl; primitive = All-nil HasPrimitiveRow }
each_suits v (there here) = record { formed = refl; columns = refl; rows = refl; primitive = All-nil HasPrimitiveRow }
each_suits v (there (there i)) = elim i [ ]

each_fractions : (v : PropId × PropertyValue) → Among v (dimension ∷ pointed ∷ []) → AreFractions v.1
each_fractions v here = All-nil (All IsFraction)
each_fractions v (there here) = All-nil (All IsFraction)
each_fractions v (there (there i)) = elim i [ ]

dimension_suits : (v : PropId × PropertyValue) → Among v (dimension ∷ []) → Suits Polytope 2 v.0 v.1
dimension_suits v here = record { formed = refl; columns = refl; rows = refl; primitive = All-nil HasPrimitiveRow }
dimension_suits v (there i) = elim i [ ]

dimension_fractions : (v : PropId × PropertyValue) → Among v (dimension ∷ []) → AreFractions v.1
dimension_fractions v here = All-nil (All IsFraction)
dimension_fractions v (there i) = elim i [ ]

such_marks : (p : SavedProgram) → Among p two_names → AreMarks p.failed
such_marks p here = record { marks = refl; labels = refl }
such_marks p (there here) = record { marks = refl; labels = refl }
such_marks p (there (there i)) = elim i [ ]

-- no column count is 2 and 3
two_counts : (n : ℕ) → agrees_with n ConeAmbientDim (whole (pos 2)) ≡ true → agrees_with n LinearObjective (matrix 3 three) ≡ true → ⊥
two_counts n h k = apart (eqb-true 2 n h) (eqb-true 3 n k)
  where
    apart : 2 ≡ n → 3 ≡ n → ⊥
    apart e f = omega arith

no_list : {X : Type 0} {x : X} {xs : List X} → x ∷ xs ≡ [] → ⊥
no_list e = cc

no_sites : (v w : PropId × PropertyValue) → Among v (dimension ∷ pointed ∷ []) → have_as_many_sites v.0 v.1 w.0 w.1 ≡ true
no_sites v w here = refl
no_sites v w (there here) = refl
no_sites v w (there (there i)) = elim i [ ]

there_too : {v : PropId × PropertyValue} → Among v (dimension ∷ []) → Among v (dimension ∷ pointed ∷ [])
there_too here = here
there_too (there i) = elim i [ ]

pub whole_files : FilesAreWhole
unfolding has only union
whole_files = record {
  small = record {
    table = refl;
    once = refl;
    suit = (2, All_among (λ (v : PropId × PropertyValue). Suits Cone 2 v.0 v.1) (dimension ∷ pointed ∷ []) each_suits);
    entries = All_among (λ (v : PropId × PropertyValue). AreFractions v.1) (dimension ∷ pointed ∷ []) each_fractions;
    sites = λ v w i j a b. no_sites v w (among_Contains (dimension ∷ pointed ∷ []) i);
    stored = λ p h. absurd (true≢false (sym h ∙ has-empty p));
    marks = record { marks = refl; labels = refl };
    programs = record { few = refl; words = refl; different = refl; polytope = λ h. absurd (true≢false (sym h)) };
    marks_of_programs = All-nil (λ (p : SavedProgram). AreMarks p.failed);
  };
  not_twice = λ w. true≢false (sym w.once);
  no_cone = λ w. true≢false (sym w.table);
  no_form = λ w. true≢false (sym (among_All (λ (v : PropId × PropertyValue). Suits Cone w.suit.0 v.0 v.1) {x = (ConeAmbientDim, whole (pos 34))} (here {xs = []}) w.suit.1).formed);
  not_held = λ w. true≢false (sym (w.stored FullDim refl));
  no_label = λ w. true≢false (sym w.marks.marks);
  no_evidence = λ w. true≢false (sym w.marks.marks);
  label_twice = λ w. true≢false (sym w.marks.labels);
  programs = record {
    table = refl;
    once = refl;
    suit = (2, All_among (λ (v : PropId × PropertyValue). Suits Polytope 2 v.0 v.1) (dimension ∷ []) dimension_suits);
    entries = All_among (λ (v : PropId × PropertyValue). AreFractions v.1) (dimension ∷ []) dimension_fractions;
    sites = λ v w i j a b. no_sites v w (there_too (among_Contains (dimension ∷ []) i));
    stored = λ p h. absurd (true≢false (sym h ∙ has-empty p));
    marks = record { marks = refl; labels = refl };
    programs = record { few = refl; words = refl; different = refl; polytope = λ h. refl };
    marks_of_programs = All_among (λ (p : SavedProgram). AreMarks p.failed) two_names such_marks;
  };
  no_cone_program = λ w. true≢false (sym (w.programs.polytope refl));
  name_twice = λ w. true≢false (sym w.programs.different);
  nameless = λ w. true≢false (sym w.programs.words);
  no_program_mark = λ w. true≢false (sym (among_All (λ (p : SavedProgram). AreMarks p.failed) {x = program (Some (codes "a")) None ((codes "a", 6) ∷ [])} (here {xs = []}) w.marks_of_programs).marks);
  no_row = λ w. true≢false (sym (among_All (λ (v : PropId × PropertyValue). Suits Polytope w.suit.0 v.0 v.1) {x = (LinearObjective, matrix 0 [])} (there {y = dimension} (here {xs = []})) w.suit.1).formed);
  other_columns = λ w. two_counts w.suit.0
      (among_All (λ (v : PropId × PropertyValue). Suits Polytope w.suit.0 v.0 v.1) {x = dimension} (here {xs = (LinearObjective, matrix 3 three) ∷ []}) w.suit.1).columns
      (among_All (λ (v : PropId × PropertyValue). Suits Polytope w.suit.0 v.0 v.1) {x = (LinearObjective, matrix 3 three)} (there {y = dimension} (here {xs = []})) w.suit.1).columns;
  loses_none = λ s. elim (among_Contains [] (s.values dimension (Contains_among (here {xs = pointed ∷ []})))) [ ];
  gains_none = λ s. elim (among_Contains [] (s.no_others dimension (Contains_among (here {xs = pointed ∷ []})))) [ ];
  still_stored = λ s. true≢false (sym (s.stored Pointed));
  same_programs = λ s. no_list (sym s.programs);
}

pub loaded_again : ObjectsAreAgain
loaded_again = record {
  given = refl;
  stored = refl;
  computed = refl;
  objective = refl;
  own = refl;
  of_program = refl;
  not_kept = refl;
  first_marks = refl;
  failed = λ rule. record { excluded = Contains_among (here {xs = []}); placed = refl; number = refl; rule = refl };
  for_a_program = λ rule. record { excluded = Contains_among (here {xs = []}); placed = refl; number = refl; rule = refl };
  no_program = λ rule k f. true≢false (sym f.placed);
  last_place = refl;
  no_place = refl;
  not_false = λ rule k f. true≢false (sym (ap is_some f.number));
  no_rule = λ k f. true≢false (sym f.rule);
  once = refl;
  twice = refl;
  elsewhere = refl;
  numbered = refl;
  no_number = refl;
  no_nought = refl;
}
