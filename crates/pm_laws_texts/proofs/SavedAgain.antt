-- The object of a whole file, to which settling adds nothing, is saved as the bytes of the file again, where the book has all labels.
use Rattle.pm_vector.proofs.Filters.{among_map, any_from, any_to}
use Rattle.pm_vector.proofs.Lists.{Among, Contains_among, among_All, among_Contains, here, there}
use Rattle.pm_files.specs.Files.{Mark, SavedFile, SavedProgram, contents, file_bytes}
use Rattle.pm_filing.proofs.Returning.{keys_same, returned}
use Rattle.pm_filing.proofs.Unique.{readings_are_unique}
use Rattle.pm_filing.specs.Filing.{each_label_once, found_names, loaded_object, mark_read, mark_written, marks_of_programs, marks_written, name_told, objective_rows, saved_file, saved_program, saved_programs, unsettled_object}
use Rattle.pm_filing.specs.Profiles.{are_different, same_label}
use Rattle.pm_filing.specs.Whole.{AreMarks, IsSameFile, IsWhole, is_of_one}
use Rattle.pm_files.specs.ValueJson.{array_of}
use Rattle.pm_laws_texts.proofs.HeldAgain.{objective_again, stored_again, values_again}
use Rattle.pm_laws_texts.proofs.MarksAgain.{labels_once, marks_again, marks_apart, programs_apart, programs_marks}
use Rattle.pm_laws_texts.specs.SavedAgain.{HasLabels, IsSettled, SavedAgain, has_labels}
use Rattle.pm_object.specs.State.{HeldValue, State, read_at, value_of, with_held}
use Rattle.pm_object.specs.declared.held.Excluded.{Excluded}
use Rattle.pm_props.specs.NameWords.{is_name}
use Rattle.pm_props.specs.Places.{same_property}
use Rattle.pm_props.specs.Sets.{has}
use Rattle.pm_props.specs.declared.property.PropId.{PropId}
use Rattle.pm_props.specs.declared.property.PropId.TheVariants.{LinearObjective}
use Rattle.pm_rules.specs.declared.rule.Rule.{Rule}
use Rattle.pm_types.specs.Values.{PropertyValue}
use Rattle.pm_vector.specs.Numbers.{Ratio}
use Rattle.serde_json.specs.Data.{object, put, string}
use Rattle.serde_json.specs.Written.{compact_text}
use Rattle.std.proofs.Common.{ap, arith, refl, subst, sym, true, true≢false, ◌∙◌}
use Rattle.std.proofs.lemmas.Bool.{and_parts}
use Rattle.std.proofs.lemmas.Grind.{flat_map-append}
use Rattle.std.proofs.lemmas.List.{append-nil}
use Rattle.std.proofs.lemmas.Option.{same_Some as some_is, none-some as none_some}
use Rattle.std.specs.List.{list_all}
use Rattle.std.specs.Option.{unwrap_or}
use Rattle.std.specs.Prelude.{Bool, List, None, Option, Some, [], codes, flat_map, map, slice_get, suc, zero, ℕ, ◌+◌, ◌++◌, ◌∷◌, ◌≡◌}

-- ---- programs
in_all : {X : Type 0} (p : X → Bool) (xs : List X) → list_all p xs ≡ true → {x : X} → Among x xs → p x ≡ true
in_all p [] h i = elim i [ ]
in_all p (y ∷ xs) h here = (and_parts (p y) (list_all p xs) h).0
in_all p (y ∷ xs) h (there i) = in_all p xs (and_parts (p y) (list_all p xs) h).1 i

got_among : (ps : List SavedProgram) (j : ℕ) (p : SavedProgram) → slice_get ps j ≡ Some p → Among p ps
got_among [] j p got = absurd (none_some p got)
got_among (q ∷ ps) zero p got = subst (λ z. Among z (q ∷ ps)) (some_is q p got) here
got_among (q ∷ ps) (suc j) p got = there (got_among ps j p got)

programs_again : (book : List Rule) (o : State) (k : ℕ) (ps : List SavedProgram) → ((i j : ℕ) (p : SavedProgram) → i ≡ k + j → slice_get ps j ≡ Some p → saved_program book o i (name_told p) ≡ p) → saved_programs book o k (map name_told ps) ≡ ps
programs_again book o k [] each = refl
programs_again book o k (p ∷ ps) each =
    ap (λ q. q ∷ saved_programs book o (suc k) (map name_told ps)) (each k 0 p (omega arith) refl)
    ∙ ap (λ qs. p ∷ qs) (programs_again book o (suc k) ps (λ i j q e got. each i (suc j) q (omega (arith, e)) got))

named : (name : Option (List ℕ)) → is_name (unwrap_or name []) ≡ true → Some (unwrap_or name []) ≡ name
named None h = absurd (true≢false (sym h))
named (Some name) h = refl

-- ---- the file
-- what is used of a file that is read
record IsKept (book : List Rule) (g : SavedFile) : Type 0 where
  stored : (p : PropId) → has g.stored p ≡ true → is_of_one g.values p ≡ true
  labels : are_different same_label g.failed ≡ true
  known : has_labels book g.failed ≡ true
  words : (p : SavedProgram) → Among p g.programs → is_name (name_told p) ≡ true
  marks : (p : SavedProgram) → Among p g.programs → are_different same_label p.failed ≡ true
  all_known : (p : SavedProgram) → Among p g.programs → has_labels book p.failed ≡ true

module _ (book : List Rule) (g : SavedFile) (kept : IsKept book g) where
  abbrev made : State
  made = unsettled_object book g

  abbrev own_marks : List Excluded
  own_marks = flat_map (mark_read book None) g.failed

  abbrev program_marks : List Excluded
  program_marks = marks_of_programs book 0 g.programs

  failed_again : marks_written book None (own_marks ++ program_marks) ≡ g.failed
  failed_again =
      ap each_label_once (flat_map-append (mark_written book None) own_marks program_marks
      ∙ ap (λ xs. xs ++ flat_map (mark_written book None) program_marks) (marks_again book None g.failed kept.known)
      ∙ ap (λ xs. g.failed ++ xs) (programs_apart book None 0 g.programs (λ j l. refl))
      ∙ append-nil g.failed)
      ∙ labels_once g.failed kept.labels

  program_failed : (i : ℕ) (p : SavedProgram) → slice_get g.programs i ≡ Some p → marks_written book (Some i) (own_marks ++ program_marks) ≡ p.failed
  program_failed i p got =
      let among = got_among g.programs i p got in
      ap each_label_once (flat_map-append (mark_written book (Some i)) own_marks program_marks
      ∙ ap (λ xs. xs ++ flat_map (mark_written book (Some i)) program_marks) (marks_apart book (Some i) None g.failed refl)
      ∙ programs_marks book 0 i i g.programs p (omega arith) got (kept.all_known p among))
      ∙ labels_once p.failed (kept.marks p among)

  program_again : (i : ℕ) (p : SavedProgram) → slice_get g.programs i ≡ Some p → saved_program book made i (name_told p) ≡ p
  program_again i p got =
      ap (λ (n : Option (List ℕ)). record { name = n; objective = objective_rows (value_of LinearObjective (read_at (Some i) made.held)); failed = marks_written book (Some i) made.excluded }) (named p.name (kept.words p (got_among g.programs i p got)))
      ∙ ap (λ (o : Option (List (List Ratio))). record { name = p.name; objective = o; failed = marks_written book (Some i) made.excluded }) (objective_again i g.stored g.values g.programs p got)
      ∙ ap (λ (ms : List Mark). record { name = p.name; objective = p.objective; failed = ms }) (program_failed i p got)

  -- the file that is saved again
  abbrev again : SavedFile
  again = record { of = g.of; values = g.values; stored = found_names made.held; failed = g.failed; programs = g.programs; ignored = [] }

  saved_is : saved_file book made ≡ again
  saved_is =
      ap (λ (vs : List (PropId × PropertyValue)). record { of = g.of; values = vs; stored = found_names made.held; failed = marks_written book None made.excluded; programs = saved_programs book made 0 made.programs; ignored = [] }) (values_again g.stored g.values g.programs)
      ∙ ap (λ (ms : List Mark). record { of = g.of; values = g.values; stored = found_names made.held; failed = ms; programs = saved_programs book made 0 made.programs; ignored = [] }) failed_again
      ∙ ap (λ (ps : List SavedProgram). record { of = g.of; values = g.values; stored = found_names made.held; failed = g.failed; programs = ps; ignored = [] })
      (programs_again book made 0 g.programs (λ i j p e got. let same : i ≡ j = omega (arith, e) in program_again i p (ap (slice_get g.programs) same ∙ got)))

  bytes_again : file_bytes again ≡ file_bytes g
  bytes_again =
      ap (λ (ks : List (List ℕ)). compact_text (object (put (codes "_computed") (array_of (map string ks)) (contents g))) ++ 10 ∷ [])
      (keys_same g.of (found_names made.held) g.stored (contents g) (stored_again g.stored g.values g.programs kept.stored))

  settled : IsSettled book g → loaded_object book g ≡ made
  settled s = ap (with_held made) s ∙ ap (λ (hs : List HeldValue). record made { held = hs }) (append-nil made.held)

  loaded_bytes : IsSettled book g → file_bytes (saved_file book (loaded_object book g)) ≡ file_bytes g
  loaded_bytes s = ap (λ o. file_bytes (saved_file book o)) (settled s) ∙ ap file_bytes saved_is ∙ bytes_again

is_kept : (book : List Rule) (f g : SavedFile) → IsWhole f → IsSameFile f g → HasLabels book g → IsKept book g
is_kept book f g w s l = record {
  stored = λ p h.
      let (v, i, same) = any_to (λ (x : PropId × PropertyValue). same_property p x.0) f.values (w.stored p (sym (s.stored p) ∙ h)) in
      any_from (λ (x : PropId × PropertyValue). same_property p x.0) (among_Contains g.values (s.values v (Contains_among i))) same;
  labels = subst (λ ms. are_different same_label ms ≡ true) (sym s.failed) w.marks.labels;
  known = l.own;
  words = λ p i. in_all is_name (map name_told f.programs) w.programs.words (among_map name_told (there_too p i));
  marks = λ p i. (among_All (λ (q : SavedProgram). AreMarks q.failed) (there_too p i) w.marks_of_programs).labels;
  all_known = λ p i. among_All (λ (q : SavedProgram). has_labels book q.failed ≡ true) i l.programs;
}
  where
    there_too : (p : SavedProgram) → Among p g.programs → Among p f.programs
    there_too p i = subst (λ ps. Among p ps) s.programs i

pub saved_again : SavedAgain
saved_again book bytes f w found g reads s l =
    let (h, reads_h, same) = returned bytes f w found in
    let is : h ≡ g = readings_are_unique.one_file bytes h g reads_h reads in
    let same_g : IsSameFile f g = subst (IsSameFile f) is same in
    loaded_bytes book g (is_kept book f g w same_g l) s ∙ same_g.again
