-- A step of a machine whose clients mean less is one of a machine whose clients mean more.
use Rattle.pm_client.specs.Meanings.{Meanings, Narrows}
use Rattle.pm_command.specs.Commands.{RefSeen, Spoken, blank, build_object, copy_object, disable_rule, drop_object, ensure_values, explain_values, give_value, load_object, look_up, make_object, new_object, save_object, show_object, show_rules, take_value, tell_evidence, tell_history, tell_origin, unload_client}
use Rattle.pm_machine.proofs.NarrowBuilding.{build_more, ensures_part_more}
use Rattle.pm_machine.specs.Machines.{Machine}
use Rattle.pm_machine.specs.Run.{Answers, AnswersTo, Run, command_at, refusal_of}
use Rattle.pm_command.specs.Lines.{Line}
use Rattle.pm_script.specs.declared.refusal.Refusal.{Refusal}
use Rattle.pm_machine.specs.Parts.{EnsuredPartly, GaveInPart, StepInPart}
use Rattle.pm_machine.specs.Steps.{EnsureStep, EnsuredAll, Ensures, Gave, GiveStep, Gives, Step, is_asked, is_crowded, is_found, is_refused, is_shown, no_chain}
use Rattle.pm_props.specs.Sets.{only}
use Rattle.pm_props.specs.declared.property.PropId.{PropId}
use Rattle.pm_props.specs.declared.set.PropSet.{PropSet}
use Rattle.pm_rounds.proofs.Narrowing.{ensured_more, ensured_part_more}
use Rattle.pm_rounds.specs.Events.{Configuration}
use Rattle.pm_rounds.specs.declared.round.Ending.TheVariants as ending
use Rattle.pm_rules.specs.declared.rule.Rule.{Rule}
use Rattle.pm_script.specs.Replies.{ReplySeen}
use Rattle.std.proofs.Common.{inl, inr}
use Rattle.std.specs.Prelude.{List, None, Option, Some, [], ℕ, ◌∷◌, ◌⊎◌}

module _ (m n : Meanings) (less : Narrows m n) (book : List Rule) where
  gives_more : (old new : Configuration) (sub : Option ℕ) (name : List ℕ) (p : PropId) (reply : ReplySeen) → Gives n book old sub name p reply new → Gives m book old sub name p reply new
  gives_more old new sub name p _ (no_chain e told) = no_chain (ensured_more m n less book sub (only p) ending.NoChain old new e) told
  gives_more old new sub name p _ (is_crowded e told) = is_crowded (ensured_more m n less book sub (only p) ending.Crowded old new e) told
  gives_more old new sub name p _ (is_shown e same typed is held rounds) = is_shown (ensured_more m n less book sub (only p) ending.Found old new e) same typed is held rounds

  gave_more : (old new : Machine) (ref : RefSeen) (text : List ℕ) (reply : ReplySeen) → Gave n book old ref text reply new → Gave m book old ref text reply new
  gave_more old new ref text reply (x, at, p, named, c, gives, becomes) = (x, at, p, named, c, gives_more _ c x.sub _ p reply gives, becomes)

  give_more : (old new : Machine) (ref : RefSeen) (text : List ℕ) (reply : ReplySeen) → GiveStep n book old ref text reply new → GiveStep m book old ref text reply new
  give_more old new ref text _ (is_refused r s) = is_refused r s
  give_more old new ref text reply (is_asked h) = is_asked (gave_more old new ref text reply h)

  ensures_more : (old new : Configuration) (sub : Option ℕ) (asked : PropSet) (reply : ReplySeen) → Ensures n book old sub asked reply new → Ensures m book old sub asked reply new
  ensures_more old new sub asked _ (no_chain e told) = no_chain (ensured_more m n less book sub asked ending.NoChain old new e) told
  ensures_more old new sub asked _ (is_crowded e told) = is_crowded (ensured_more m n less book sub asked ending.Crowded old new e) told
  ensures_more old new sub asked _ (is_found e told) = is_found (ensured_more m n less book sub asked ending.Found old new e) told

  ensured_all_more : (old new : Machine) (ref : RefSeen) (words : List (List ℕ)) (reply : ReplySeen) → EnsuredAll n book old ref words reply new → EnsuredAll m book old ref words reply new
  ensured_all_more old new ref words reply (x, at, asked, named, c, e, becomes) = (x, at, asked, named, c, ensures_more _ c x.sub asked reply e, becomes)

  ensure_more : (old new : Machine) (ref : RefSeen) (words : List (List ℕ)) (reply : ReplySeen) → EnsureStep n book old ref words reply new → EnsureStep m book old ref words reply new
  ensure_more old new ref words _ (is_refused r s) = is_refused r s
  ensure_more old new ref words reply (is_asked h) = is_asked (ensured_all_more old new ref words reply h)

  pub step_more : (old new : Machine) (command : Spoken) (reply : ReplySeen) → Step n book old command reply new → Step m book old command reply new
  step_more old new blank reply s = s
  step_more old new (new_object ref text) reply s = s
  step_more old new (take_value ref text json) reply s = s
  step_more old new (give_value ref text) reply s = give_more old new ref text reply s
  step_more old new (look_up ref text) reply s = s
  step_more old new (ensure_values ref words) reply s = ensure_more old new ref words reply s
  step_more old new (explain_values ref words) reply s = s
  step_more old new (tell_history name) reply s = s
  step_more old new (show_object name) reply s = s
  step_more old new (tell_evidence name label) reply s = s
  step_more old new show_rules reply s = s
  step_more old new (disable_rule name label) reply s = s
  step_more old new (unload_client name) reply s = s
  step_more old new (copy_object name to) reply s = s
  step_more old new (drop_object name) reply s = s
  step_more old new (tell_origin ref text) reply s = s
  step_more old new (load_object name file) reply s = s
  step_more old new (save_object name file) reply s = s
  step_more old new (make_object to shape) reply s = s
  step_more old new (build_object builder names to) reply s = build_more m n less book builder old new names to reply s

  -- ---- in part
  gave_part_more : (old : Machine) (ref : RefSeen) (text : List ℕ) (new : Machine) → GaveInPart n book old ref text new → GaveInPart m book old ref text new
  gave_part_more old ref text new g = record { found = g.found; named = g.named; property = g.property; is_property = g.is_property; now = g.now; ensured = ensured_part_more m n less book g.found.sub (only g.property) _ g.now g.ensured; becomes = g.becomes }

  partly_more : (old : Machine) (ref : RefSeen) (words : List (List ℕ)) (new : Machine) → EnsuredPartly n book old ref words new → EnsuredPartly m book old ref words new
  partly_more old ref words new g = record { found = g.found; named = g.named; asked = g.asked; is_asked = g.is_asked; now = g.now; ensured = ensured_part_more m n less book g.found.sub g.asked _ g.now g.ensured; becomes = g.becomes }

  pub part_more : (old : Machine) (command : Spoken) (new : Machine) → StepInPart n book old command new → StepInPart m book old command new
  part_more old blank new s = s
  part_more old (new_object ref text) new s = s
  part_more old (take_value ref text json) new s = s
  part_more old (give_value ref text) new (inl s) = inl s
  part_more old (give_value ref text) new (inr g) = inr (gave_part_more old ref text new g)
  part_more old (look_up ref text) new s = s
  part_more old (ensure_values ref words) new (inl s) = inl s
  part_more old (ensure_values ref words) new (inr g) = inr (partly_more old ref words new g)
  part_more old (explain_values ref words) new s = s
  part_more old (tell_history name) new s = s
  part_more old (show_object name) new s = s
  part_more old (tell_evidence name label) new s = s
  part_more old show_rules new s = s
  part_more old (disable_rule name label) new s = s
  part_more old (unload_client name) new s = s
  part_more old (copy_object name to) new s = s
  part_more old (drop_object name) new s = s
  part_more old (tell_origin ref text) new s = s
  part_more old (load_object name file) new s = s
  part_more old (save_object name file) new s = s
  part_more old (make_object to shape) new s = s
  part_more old (build_object builder names to) new (begun, e) = (begun, ensures_part_more m n less book _ old new e)

  -- ---- lines
  to_more : (old : Machine) (why : Refusal) (command : Option Spoken) (reply : Option ReplySeen) (new : Machine) → AnswersTo n book old why command reply new → AnswersTo m book old why command reply new
  to_more old why (Some command) (Some reply) new a = step_more old new command reply a
  to_more old why (Some blank) None new a = a
  to_more old why (Some command) None new a = absurd a
  to_more old why None (Some reply) new a = a
  to_more old why None None new a = a

  pub answers_more : (old : Machine) (line : Line) (reply : Option ReplySeen) (new : Machine) → Answers n book old line reply new → Answers m book old line reply new
  answers_more old line reply new a = to_more old (refusal_of line) (command_at line) reply new a

  pub run_more : (old : Machine) (lines : List Line) (replies : List (Option ReplySeen)) (new : Machine) → Run n book old lines replies new → Run m book old lines replies new
  run_more old [] [] new is = is
  run_more old (line ∷ lines) (reply ∷ replies) new (mid, answers, shown, honest, stand, rest) =
      (mid, answers_more old line reply mid answers, shown, honest, stand, run_more mid lines replies new rest)
  run_more old [] (reply ∷ replies) new h = absurd h
  run_more old (line ∷ lines) [] new h = absurd h
