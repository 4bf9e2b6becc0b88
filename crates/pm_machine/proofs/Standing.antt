-- A step leaves the evidence of each excluded rule so that it holds of the object: by the definitions alone.
use Rattle.pm_client.specs.Meanings.{unsaid}
use Rattle.pm_vector.proofs.Lists.{Among, among_append}
use Rattle.pm_command.specs.Commands.{Spoken}
use Rattle.pm_files.specs.Files.{Mark, SavedFile, SavedProgram}
use Rattle.pm_filing.specs.Filing.{loaded_object, mark_read, marked, marks_of_programs, rule_labelled}
use Rattle.pm_machine.proofs.Keeping.{Keeping}
use Rattle.pm_machine.proofs.KeepingSteps as steps
use Rattle.pm_machine.specs.Laws.{AllStand}
use Rattle.pm_machine.specs.Machines.{Machine}
use Rattle.pm_machine.specs.Parts.{StepInPart}
use Rattle.pm_machine.specs.Steps.{Step}
use Rattle.pm_making.specs.Rows.{object_of}
use Rattle.pm_object.proofs.Formed.{new_where_read, only}
use Rattle.pm_object.specs.Formed.{stands_at}
use Rattle.pm_object.specs.State.{HeldValue, State, empty_object, given_at, is_held, read_at, take_refusal, with_disabled, with_held, with_program}
use Rattle.pm_object.specs.declared.held.Excluded.{Excluded}
use Rattle.pm_object.specs.declared.held.TakeFail.{TakeFail}
use Rattle.pm_object.specs.declared.held.TakeFail.TheVariants as fail
use Rattle.pm_object.specs.declared.held.Why.TheVariants as why
use Rattle.pm_geom.specs.declared.evidence.Evidence.{Evidence}
use Rattle.pm_props.specs.declared.kind.RuleId.{RuleId}
use Rattle.pm_props.specs.declared.property.PropId.{PropId}
use Rattle.pm_rounds.proofs.Standing.{AreNew, ensuring_keeps_evidence, settled_stands, stands_on, stands_same, stands_without}
use Rattle.pm_rounds.specs.Events.{at_rest}
use Rattle.pm_rounds.specs.Standing.{EvidenceStands}
use Rattle.pm_rules.specs.declared.rule.Rule.{Rule}
use Rattle.pm_script.specs.Replies.{ReplySeen}
use Rattle.pm_types.specs.Values.{PropertyValue}
use Rattle.std.proofs.Common.{ap, false, inl, inr, refl, subst, sym, true, true≢false, ◌∙◌}
use Rattle.std.specs.Option.{is_some, option_map, option_to_list}
use Rattle.std.specs.Prelude.{Bool, List, None, Option, Some, [], flat_map, if◌then◌else◌, suc, ℕ, ◌++◌, ◌∷◌, ◌≡◌}

-- ---- what is taken is new
taken_unheld : (o : State) (sub : Option ℕ) (p : PropId) (v : PropertyValue) → take_refusal o sub p v ≡ None → is_held p (read_at sub o.held) ≡ false
taken_unheld o sub p v e = by _ (is_held p (read_at sub o.held)) e
  where
    by : (x : Option TakeFail) (a : Bool) → (if a then Some fail.AlreadyHeld else x) ≡ None → a ≡ false
    by x true h = absurd (true≢false (ap is_some h))
    by x false h = refl

taken_stands : (book : List Rule) (o : State) (sub : Option ℕ) (p : PropId) (v : PropertyValue) → take_refusal o sub p v ≡ None → EvidenceStands book o → EvidenceStands book (with_held o (given_at sub p v ∷ []))
taken_stands book o sub p v e all = stands_on book o (given_at sub p v ∷ []) new all
  where
    new : AreNew o.held (given_at sub p v ∷ [])
    new h i = subst (λ (z : HeldValue). stands_at z.place z.property o.held ≡ false) (sym (only i)) (new_where_read sub p o.held (taken_unheld o sub p v e))

-- ---- a file tells numbers alone
module _ (book : List Rule) where
  abbrev IsMark : Excluded → Type 0
  IsMark x = (k : ℕ) × (x.why ≡ why.Stored k)

  one_mark : (sub : Option ℕ) (m : Mark) (x : Excluded) → Among x (mark_read book sub m) → IsMark x
  one_mark sub m x i = by (rule_labelled book m.0) i
    where
      by : (r : Option RuleId) → Among x (option_to_list (option_map (marked sub m.1) r)) → IsMark x
      by None j = elim j [ ]
      by (Some id) j = (m.1, ap (λ (z : Excluded). z.why) (only j))

  marks : (sub : Option ℕ) (ms : List Mark) (x : Excluded) → Among x (flat_map (mark_read book sub) ms) → IsMark x
  marks sub [] x i = elim i [ ]
  marks sub (m ∷ ms) x i = elim (among_append (mark_read book sub m) (flat_map (mark_read book sub) ms) i) [ inl j ↦ one_mark sub m x j | inr j ↦ marks sub ms x j ]

  program_marks : (k : ℕ) (ps : List SavedProgram) (x : Excluded) → Among x (marks_of_programs book k ps) → IsMark x
  program_marks k [] x i = elim i [ ]
  program_marks k (p ∷ ps) x i = elim (among_append (flat_map (mark_read book (Some k)) p.failed) (marks_of_programs book (suc k) ps) i) [ inl j ↦ marks (Some k) p.failed x j | inr j ↦ program_marks (suc k) ps x j ]

  no_evidence : (x : Excluded) (e : Evidence) → IsMark x → x.why ≡ why.Failed e → ⊥
  no_evidence x e (k, is) h = apart (sym is ∙ h)
    where
      apart : {k : ℕ} {e : Evidence} → why.Stored k ≡ why.Failed e → ⊥
      apart h = cc

  loaded_stands : (f : SavedFile) → EvidenceStands book (loaded_object book f)
  loaded_stands f = stands_without book (loaded_object book f) (λ x e i is. no_evidence x e (told x i) is)
    where
      told : (x : Excluded) → Among x (flat_map (mark_read book None) f.failed ++ marks_of_programs book 0 f.programs) → IsMark x
      told x i = elim (among_append (flat_map (mark_read book None) f.failed) (marks_of_programs book 0 f.programs) i) [ inl j ↦ marks None f.failed x j | inr j ↦ program_marks 0 f.programs x j ]

-- ---- steps
evidence : (book : List Rule) → Keeping book (EvidenceStands book) (EvidenceStands book)
evidence book = record {
  weaker = λ o all. all;
  empty = λ of. stands_without book (empty_object of) (λ x e i is. elim i [ ]);
  taken = taken_stands book;
  program = λ o name all. stands_same book o (with_program o name) refl refl refl all;
  disabled = λ o label all. stands_same book o (with_disabled o label) refl refl refl all;
  settled = settled_stands book;
  ensured = λ sub asked ending old new e all. ensuring_keeps_evidence unsaid book sub asked old new (at_rest, e.reaches) all;
  in_part = λ sub asked old new part all. ensuring_keeps_evidence unsaid book sub asked old new part all;
  made = λ f. stands_without book (object_of f) (λ x e i is. elim i [ ]);
  loaded = loaded_stands book;
}

pub steps_keep_evidence : (book : List Rule) (old new : Machine) (command : Spoken) (reply : ReplySeen) → Step unsaid book old command reply new → AllStand book old → AllStand book new
steps_keep_evidence book old new command reply h all = record { each = steps.steps_keep (evidence book) old new command reply h all.each }

pub steps_in_part_keep_evidence : (book : List Rule) (old new : Machine) (command : Spoken) → StepInPart unsaid book old command new → AllStand book old → AllStand book new
steps_in_part_keep_evidence book old new command h all = record { each = steps.steps_in_part_keep (evidence book) old new command h all.each }
