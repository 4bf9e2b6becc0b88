-- Where memory runs out in a command, each object stands for what it stood for.
use Rattle.pm_client.specs.Meanings.{unsaid}
use Rattle.pm_command.specs.Commands.{Spoken, blank, new_object, take_value, give_value, look_up, ensure_values, explain_values, tell_history, show_object, tell_evidence, show_rules, disable_rule, unload_client, copy_object, drop_object, tell_origin, load_object, save_object, make_object, build_object}
use Rattle.pm_laws_lineage.proofs.Building.{one_keeps}
use Rattle.pm_laws_lineage.proofs.Laws.{build_laws}
use Rattle.pm_laws_lineage.proofs.Lines.{AllInLine, InLine, all_stand, in_line_settled, line_at, one_line, same_line}
use Rattle.pm_laws_lineage.proofs.Reading.{held_stands_for}
use Rattle.pm_laws_lineage.proofs.Sound.{ensured_in_part_keeps}
use Rattle.pm_laws_lineage.proofs.Steps.{named_object, none_in_line, run_line}
use Rattle.pm_laws_lineage.specs.Laws.{StepsInPartKeepLineage, new_records}
use Rattle.pm_laws_lineage.specs.Provenances.{AllStandFor, Provenance, Provenances, StandsFor, lineage_of}
use Rattle.pm_machine.proofs.Keeping.{other_bytes, same_bytes}
use Rattle.pm_machine.proofs.Kept.{honesty}
use Rattle.pm_machine.specs.Building.{EnsuresInPart, Wanted, wanted_all}
use Rattle.pm_machine.specs.Machines.{Becomes, Machine}
use Rattle.pm_machine.specs.Parts.{StepInPart}
use Rattle.pm_machine.specs.Steps.{settled_object}
use Rattle.pm_making.specs.Rows.{row_of}
use Rattle.pm_object.specs.State.{State}
use Rattle.pm_props.specs.Sets.{only as only_property}
use Rattle.pm_props.specs.declared.set.PropSet.{PropSet}
use Rattle.pm_rounds.specs.Events.{Configuration, EnsuredInPart, configuration}
use Rattle.pm_rounds.specs.declared.round.Ending.TheVariants as ending
use Rattle.pm_rules.specs.declared.rule.Rule.{Rule}
use Rattle.std.proofs.Common.{bytes_eq, inl, inr, subst, sym}
use Rattle.std.specs.Prelude.{IfSome, List, None, Option, Some, [], ℕ, ◌∷◌, ◌≡◌}
use Rattle.std.proofs.lemmas.Bool.{cases_Bool}

part_stands_for : (book : List Rule) (provenance : Provenance) (sub : Option ℕ) (asked : PropSet) (old new : Configuration) → EnsuredInPart unsaid book sub asked old new → InLine provenance old.object → StandsFor (lineage_of provenance new.object) new.object
part_stands_for book provenance sub asked old new part s =
    held_stands_for provenance new.object ((honesty book).in_part sub asked old new part s.kept) (ensured_in_part_keeps provenance book sub asked old new part s.sound s.knows)

module _ (book : List Rule) (provenances : Provenances) where
  stays_stand : (old new : Machine) → ((q : List ℕ) → new.object q ≡ old.object q) → AllInLine provenances old → AllStandFor provenances new
  stays_stand old new same all = all_stand provenances new (same_line provenances old new same all)

  part_stands : (sub : Option ℕ) (asked : PropSet) (old new : Machine) (name : List ℕ) (o : State) (now : Configuration) → old.object name ≡ Some o → EnsuredInPart unsaid book sub asked (configuration o old.clients) now → Becomes name now old new → AllInLine provenances old → AllStandFor provenances new
  part_stands sub asked old new name o now at part becomes all = record {
    each = λ q. elim (cases_Bool (bytes_eq q name)) [
      | inl e ↦ subst (λ z. IfSome (new.object z) (λ o. StandsFor (lineage_of (provenances z) o) o)) (sym (same_bytes q name e))
          (subst (λ z. IfSome z (λ o. StandsFor (lineage_of (provenances name) o) o)) (sym becomes.object)
          (part_stands_for book (provenances name) sub asked (configuration o old.clients) now part (line_at provenances old name o at all)))
      | inr e ↦ subst (λ z. IfSome z (λ o. StandsFor (lineage_of (provenances q) o) o)) (sym (becomes.others q (other_bytes q name e))) ((all_stand provenances old all).each q)
    ];
  }

  parts_stand : (ws : List Wanted) (old new : Machine) → EnsuresInPart unsaid book ws old new → AllInLine provenances old → AllStandFor provenances new
  parts_stand [] old new s all = stays_stand old new s.objects all
  parts_stand (w ∷ ws) old new (inl s) all = stays_stand old new s.objects all
  parts_stand (w ∷ ws) old new (inr (inl one)) all = part_stands None (only_property w.property) old new w.name one.object one.now one.named one.ensured one.becomes all
  parts_stand (w ∷ ws) old new (inr (inr (m, rounds, one, others))) all = parts_stand ws m new others (one_keeps build_laws book provenances w ending.Found rounds old m one all)

  pub step_in_part_stands : (old new : Machine) (command : Spoken) → StepInPart unsaid book old command new → AllInLine provenances old → AllStandFor provenances new
  step_in_part_stands old new (give_value ref text) (inl s) all = stays_stand old new s.objects all
  step_in_part_stands old new (give_value ref text) (inr g) all = part_stands g.found.sub (only_property g.property) old new ref.name g.found.object g.now (named_object old ref g.found g.named) g.ensured g.becomes all
  step_in_part_stands old new (ensure_values ref words) (inl s) all = stays_stand old new s.objects all
  step_in_part_stands old new (ensure_values ref words) (inr g) all = part_stands g.found.sub g.asked old new ref.name g.found.object g.now (named_object old ref g.found g.named) g.ensured g.becomes all
  step_in_part_stands old new (explain_values ref words) (inl s) all = stays_stand old new s.objects all
  step_in_part_stands old new (explain_values ref words) (inr s) all =
      all_stand provenances new
      (one_line provenances ref.name (settled_object s.found.object) old new s.becomes.object s.becomes.others (in_line_settled book (provenances ref.name) s.found.object (line_at provenances old ref.name s.found.object (named_object old ref s.found s.named) all)) all)
  step_in_part_stands old new (load_object name file) l all = stays_stand old new l.objects all
  step_in_part_stands old new (save_object name file) (inl s) all = stays_stand old new s.objects all
  step_in_part_stands old new (save_object name file) (inr (o, at, short, p)) all = stays_stand old new p.objects all
  step_in_part_stands old new (build_object builder names to) h all = parts_stand (wanted_all (row_of builder).reads names) old new h.1 all
  step_in_part_stands old new (tell_history name) s all = stays_stand old new s.objects all
  step_in_part_stands old new blank s all = stays_stand old new s.objects all
  step_in_part_stands old new (new_object ref text) s all = stays_stand old new s.objects all
  step_in_part_stands old new (take_value ref text json) s all = stays_stand old new s.objects all
  step_in_part_stands old new (look_up ref text) s all = stays_stand old new s.objects all
  step_in_part_stands old new (show_object name) s all = stays_stand old new s.objects all
  step_in_part_stands old new (tell_evidence name label) s all = stays_stand old new s.objects all
  step_in_part_stands old new show_rules s all = stays_stand old new s.objects all
  step_in_part_stands old new (disable_rule name label) s all = stays_stand old new s.objects all
  step_in_part_stands old new (unload_client name) s all = stays_stand old new s.objects all
  step_in_part_stands old new (copy_object name to) s all = stays_stand old new s.objects all
  step_in_part_stands old new (drop_object name) s all = stays_stand old new s.objects all
  step_in_part_stands old new (tell_origin ref text) s all = stays_stand old new s.objects all
  step_in_part_stands old new (make_object to shape) s all = stays_stand old new s.objects all

pub steps_in_part_keep_lineage : StepsInPartKeepLineage
steps_in_part_keep_lineage book start old new provenances later run command none leads part =
    step_in_part_stands book later.provenances old new command part (run_line build_laws book start old (new_records provenances) later run leads (λ b l i. elim i [ ]) (none_in_line provenances start none))
