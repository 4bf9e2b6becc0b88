-- A run keeps each object in line with what it came of.
use Rattle.pm_client.specs.Meanings.{unsaid}
use Rattle.pm_command.specs.Commands.{Spoken, blank}
use Rattle.pm_command.specs.Lines.{Line}
use Rattle.pm_laws_lineage.proofs.Laws.{build_laws}
use Rattle.pm_laws_lineage.proofs.Parts.{step_in_part_stands}
use Rattle.pm_laws_lineage.proofs.Lines.{AllInLine, all_stand}
use Rattle.pm_laws_lineage.proofs.Steps.{AllSaved, none_in_line, read_bytes, step_line, step_saved}
use Rattle.pm_laws_lineage.specs.Provenances.{Records}
use Rattle.pm_machine.specs.Machines.{Machine}
use Rattle.pm_rules.specs.declared.rule.Rule.{Rule}
use Rattle.pm_script.specs.Replies.{ReplySeen}
use Rattle.pm_script.specs.declared.refusal.Refusal.{Refusal}
use Rattle.pm_laws_lineage.specs.Runs.{HasReadTo, RunInLine, RunKeepsLineage, records_to}
use Rattle.pm_machine.specs.Run.{AnswersTo, Run, command_at, refusal_of}
use Rattle.std.proofs.Common.{subst, sym}
use Rattle.std.specs.Prelude.{List, None, Option, Some, [], ℕ, ◌∷◌}

-- what is so before a line, and after it
record Known (book : List Rule) (records : Records) (m : Machine) : Type 0 where
  line : AllInLine records.provenances m
  saved : AllSaved book records.saved

record KnownAfter (book : List Rule) (records : Records) (old new : Machine) (command : Option Spoken) (reply : Option ReplySeen) : Type 0 where
  bytes : List ℕ
  read : HasReadTo book old command reply new bytes
  known : Known book (records_to book bytes command reply new records) new

line_to : (book : List Rule) (records : Records) (old new : Machine) (why : Refusal) (command : Option Spoken) (reply : Option ReplySeen) → AnswersTo unsaid book old why command reply new → Known book records old → KnownAfter book records old new command reply
line_to book records old new why (Some command) (Some reply) step k =
    let (bytes, read) = read_bytes book old new command reply step in
    record {
      bytes = bytes;
      read = read;
      known = record {
        line = step_line build_laws book records.provenances bytes records.saved k.saved old new command reply step read k.line;
        saved = step_saved build_laws book records.provenances bytes records.saved k.saved old new command reply step k.line;
      };
    }
line_to book records old new why (Some blank) None is k = record { bytes = []; read = tt; known = record { line = subst (AllInLine records.provenances) (sym is) k.line; saved = k.saved } }
line_to book records old new why (Some command) None h k = absurd h
line_to book records old new why None (Some reply) (reply_is, is) k = record { bytes = []; read = tt; known = record { line = subst (AllInLine records.provenances) (sym is) k.line; saved = k.saved } }
line_to book records old new why None None h k = absurd h

along : (book : List Rule) (old new : Machine) (lines : List Line) (replies : List (Option ReplySeen)) (records : Records) → Known book records old → Run unsaid book old lines replies new → RunInLine book old records lines replies new
along book old new [] [] records k run = (run, λ command part h. step_in_part_stands book records.provenances old part command h k.line)
along book old new (line ∷ lines) (reply ∷ replies) records k run =
    let after = line_to book records old run.0 (refusal_of line) (command_at line) reply run.1 k in
    (run.0, after.bytes, run.1, after.read, all_stand _ run.0 after.known.line, along book run.0 new lines replies (records_to book after.bytes (command_at line) reply run.0 records) after.known run.5)
along book old new [] (reply ∷ replies) records k run = absurd run
along book old new (line ∷ lines) [] records k run = absurd run

pub run_keeps_lineage : RunKeepsLineage
run_keeps_lineage book start end lines replies provenances none run = along book start end lines replies _ (record { line = none_in_line provenances start none; saved = λ b l i. elim i [ ] }) run
