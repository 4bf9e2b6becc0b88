-- Marks that are read, and written again.
use Rattle.pm_vector.proofs.Filters.{any_from, any_to}
use Rattle.pm_vector.proofs.Lists.{Among, among_append, here, there}
use Rattle.pm_files.specs.Files.{Mark, SavedProgram}
use Rattle.pm_filing.specs.Filing.{each_label_once, label_in, labelled_from, mark_by, mark_read, mark_written, marked, marks_of_programs, rule_labelled, with_mark}
use Rattle.pm_filing.specs.Profiles.{are_different, same_label}
use Rattle.pm_laws_texts.specs.SavedAgain.{has_labels}
use Rattle.pm_object.proofs.Formed.{only}
use Rattle.pm_props.proofs.Places.{same_place_is, same_place_refl}
use Rattle.pm_props.specs.Places.{same_place}
use Rattle.pm_props.specs.declared.kind.RuleId.{RuleId}
use Rattle.pm_rules.specs.Rules.{rule_at}
use Rattle.pm_rules.specs.declared.rule.Rule.{Rule}
use Rattle.std.proofs.Common.{ap, arith, false, inl, inr, refl, subst, sym, true, true≢false, ◌∙◌}
use Rattle.std.proofs.lemmas.Bool.{and_parts}
use Rattle.std.proofs.lemmas.Grind.{flat_map-append}
use Rattle.std.proofs.lemmas.List.{append-nil, append_assoc}
use Rattle.std.proofs.lemmas.Option.{same_Some as some_is, none-some as none_some}
use Rattle.std.proofs.lemmas.Slice.Eq.{bytes_eq-Decides}
use Rattle.std.specs.List.{list_any}
use Rattle.std.specs.Option.{is_some}
use Rattle.std.specs.Prelude.{Bool, List, None, Option, Some, [], flat_map, fold, if◌then◌else◌, not, option_map, option_to_list, slice_get, suc, zero, ℕ, ◌+◌, ◌++◌, ◌≤◌, ◌∷◌, ◌≡◌}
use Rattle.std.specs.Str.{bytes_eq}

-- ---- one mark
-- what is found under a label is a rule of it
record IsLabelled (label : List ℕ) (rules : List Rule) (k : ℕ) (id : RuleId) : Type 0 where
  i : ℕ
  rule : Rule
  at : id.0 ≡ k + i
  got : slice_get rules i ≡ Some rule
  same : rule.label ≡ label

labelled_is : (label : List ℕ) (rules : List Rule) (k : ℕ) (id : RuleId) → labelled_from k label rules ≡ Some id → IsLabelled label rules k id
labelled_is label [] k id e = absurd (none_some id e)
labelled_is label (rule ∷ rules) k id e = by (bytes_eq rule.label label) refl e (labelled_is label rules (suc k) id)
  where
    by : (t : Bool) → bytes_eq rule.label label ≡ t → (if t then Some (record { 0 = k }) else labelled_from (suc k) label rules) ≡ Some id → (labelled_from (suc k) label rules ≡ Some id → IsLabelled label rules (suc k) id) → IsLabelled label (rule ∷ rules) k id
    by true same q later =
        let first : k ≡ id.0 = ap (λ (r : RuleId). r.0) (some_is (record { 0 = k }) id q) in
        record { i = 0; rule = rule; at = omega (arith, first); got = refl; same = (bytes_eq-Decides rule.label label).0 same }
    by false apart q later =
        let r = later q in
        let next = r.at in
        record { i = suc r.i; rule = r.rule; at = omega (arith, next); got = r.got; same = r.same }

mark_again : (book : List Rule) (sub : Option ℕ) (m : Mark) → is_some (rule_labelled book m.0) ≡ true → flat_map (mark_written book sub) (mark_read book sub m) ≡ m ∷ []
mark_again book sub m h = by (rule_labelled book m.0) refl h
  where
    by : (r : Option RuleId) → rule_labelled book m.0 ≡ r → is_some r ≡ true → flat_map (mark_written book sub) (mark_read book sub m) ≡ m ∷ []
    by None e t = absurd (true≢false (sym t))
    by (Some id) e t =
        let l = labelled_is m.0 book 0 id e in
        let at : id.0 ≡ l.i = omega (arith, l.at) in
        ap (λ r. flat_map (mark_written book sub) (option_to_list (option_map (marked sub m.1) r))) e
        ∙ append-nil (mark_written book sub (marked sub m.1 id))
        ∙ ap (λ t. if t then mark_by (label_in (rule_at book id)) (Some m.1) else []) (same_place_refl sub)
        ∙ ap (λ r. mark_by (label_in r) (Some m.1)) (ap (slice_get book) at ∙ l.got)
        ∙ ap (λ (label : List ℕ). (label, m.1) ∷ []) l.same

-- a mark of one place is not written at another
mark_apart : (book : List Rule) (sub other : Option ℕ) (m : Mark) → same_place other sub ≡ false → flat_map (mark_written book sub) (mark_read book other m) ≡ []
mark_apart book sub other m apart = by (rule_labelled book m.0)
  where
    by : (r : Option RuleId) → flat_map (mark_written book sub) (option_to_list (option_map (marked other m.1) r)) ≡ []
    by None = refl
    by (Some id) = ap (λ t. (if t then mark_by (label_in (rule_at book id)) (Some m.1) else []) ++ []) apart

-- ---- the marks of one place
pub marks_again : (book : List Rule) (sub : Option ℕ) (ms : List Mark) → has_labels book ms ≡ true → flat_map (mark_written book sub) (flat_map (mark_read book sub) ms) ≡ ms
marks_again book sub [] h = refl
marks_again book sub (m ∷ ms) h =
    let b = and_parts (is_some (rule_labelled book m.0)) (has_labels book ms) h in
    flat_map-append (mark_written book sub) (mark_read book sub m) (flat_map (mark_read book sub) ms)
    ∙ ap (λ xs. xs ++ flat_map (mark_written book sub) (flat_map (mark_read book sub) ms)) (mark_again book sub m b.0)
    ∙ ap (λ xs. m ∷ xs) (marks_again book sub ms b.1)

pub marks_apart : (book : List Rule) (sub other : Option ℕ) (ms : List Mark) → same_place other sub ≡ false → flat_map (mark_written book sub) (flat_map (mark_read book other) ms) ≡ []
marks_apart book sub other [] apart = refl
marks_apart book sub other (m ∷ ms) apart =
    flat_map-append (mark_written book sub) (mark_read book other m) (flat_map (mark_read book other) ms)
    ∙ ap (λ xs. xs ++ flat_map (mark_written book sub) (flat_map (mark_read book other) ms)) (mark_apart book sub other m apart)
    ∙ marks_apart book sub other ms apart

-- marks of different labels stay as they are
once_behind : (front ms : List Mark) → ((m n : Mark) → Among m ms → Among n front → bytes_eq n.0 m.0 ≡ true → ⊥) → are_different same_label ms ≡ true → fold with_mark front ms ≡ front ++ ms
once_behind front [] apart d = sym (append-nil front)
once_behind front (x ∷ ms) apart d = by (list_any (λ (n : Mark). bytes_eq n.0 x.0) front) refl (once_behind (front ++ x ∷ []) ms next b.1)
  where
    b : (not (list_any (same_label x) ms) ≡ true) × (are_different same_label ms ≡ true)
    b = and_parts (not (list_any (same_label x) ms)) (are_different same_label ms) d

    not_again : (m : Mark) → Among m ms → bytes_eq x.0 m.0 ≡ true → ⊥
    not_again m i same = true≢false (sym b.0 ∙ ap not (any_from (same_label x) i same))

    next : (m n : Mark) → Among m ms → Among n (front ++ x ∷ []) → bytes_eq n.0 m.0 ≡ true → ⊥
    next m n i j same = elim (among_append front (x ∷ []) j) [
      | inl k ↦ apart m n (there i) k same
      | inr k ↦ not_again m i (subst (λ (z : Mark). bytes_eq z.0 m.0 ≡ true) (only k) same)
    ]

    by : (t : Bool) → list_any (λ (n : Mark). bytes_eq n.0 x.0) front ≡ t → fold with_mark (front ++ x ∷ []) ms ≡ (front ++ x ∷ []) ++ ms → fold with_mark (with_mark front x) ms ≡ front ++ x ∷ ms
    by true e rest = absurd (let (n, i, same) = any_to (λ (n : Mark). bytes_eq n.0 x.0) front e in apart x n here i same)
    by false e rest = ap (λ t. fold with_mark (if t then front else front ++ x ∷ []) ms) e ∙ rest ∙ append_assoc front (x ∷ []) ms

pub labels_once : (ms : List Mark) → are_different same_label ms ≡ true → each_label_once ms ≡ ms
labels_once ms d = once_behind [] ms (λ m n i j same. elim j [ ]) d

-- ---- the marks of programs
-- none of them is written at a place that is no program's
pub programs_apart : (book : List Rule) (sub : Option ℕ) (k : ℕ) (ps : List SavedProgram) → ((j : ℕ) → k ≤ j → same_place (Some j) sub ≡ false) → flat_map (mark_written book sub) (marks_of_programs book k ps) ≡ []
programs_apart book sub k [] apart = refl
programs_apart book sub k (p ∷ ps) apart =
    flat_map-append (mark_written book sub) (flat_map (mark_read book (Some k)) p.failed) (marks_of_programs book (suc k) ps)
    ∙ ap (λ xs. xs ++ flat_map (mark_written book sub) (marks_of_programs book (suc k) ps)) (marks_apart book sub (Some k) p.failed (apart k (omega arith)))
    ∙ programs_apart book sub (suc k) ps (λ j l. apart j (omega arith))

pub places_apart : (j i : ℕ) → ¬ (j ≡ i) → same_place (Some j) (Some i) ≡ false
places_apart j i ne = by (same_place (Some j) (Some i)) refl
  where
    by : (t : Bool) → same_place (Some j) (Some i) ≡ t → t ≡ false
    by true e = absurd (ne (some_is j i (same_place_is (Some j) (Some i) e)))
    by false e = refl

-- at the place of a program its own marks are written
pub programs_marks : (book : List Rule) (k i j : ℕ) (ps : List SavedProgram) (p : SavedProgram) → i ≡ k + j → slice_get ps j ≡ Some p → has_labels book p.failed ≡ true
    → flat_map (mark_written book (Some i)) (marks_of_programs book k ps) ≡ p.failed
programs_marks book k i j [] p e got h = absurd (none_some p got)
programs_marks book k i zero (q ∷ ps) p e got h =
    let place : k ≡ i = omega (arith, e) in
    let is : q ≡ p = some_is q p got in
    flat_map-append (mark_written book (Some i)) (flat_map (mark_read book (Some k)) q.failed) (marks_of_programs book (suc k) ps)
    ∙ ap (λ xs. flat_map (mark_written book (Some i)) (flat_map (mark_read book (Some k)) q.failed) ++ xs) (programs_apart book (Some i) (suc k) ps (λ n l. places_apart n i (λ s. omega arith)))
    ∙ append-nil (flat_map (mark_written book (Some i)) (flat_map (mark_read book (Some k)) q.failed))
    ∙ ap (λ n. flat_map (mark_written book (Some i)) (flat_map (mark_read book (Some n)) q.failed)) place
    ∙ ap (λ (r : SavedProgram). flat_map (mark_written book (Some i)) (flat_map (mark_read book (Some i)) r.failed)) is
    ∙ marks_again book (Some i) p.failed h
programs_marks book k i (suc j) (q ∷ ps) p e got h =
    flat_map-append (mark_written book (Some i)) (flat_map (mark_read book (Some k)) q.failed) (marks_of_programs book (suc k) ps)
    ∙ ap (λ xs. xs ++ flat_map (mark_written book (Some i)) (marks_of_programs book (suc k) ps)) (marks_apart book (Some i) (Some k) q.failed (places_apart k i (λ s. omega (arith, e, s))))
    ∙ programs_marks book (suc k) i j ps p (omega (arith, e)) got h
