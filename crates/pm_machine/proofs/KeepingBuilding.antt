-- What commands that build objects do keeps what is so of each object.
use Rattle.pm_client.specs.Meanings.{unsaid}
use Rattle.pm_command.specs.Commands.{ShapeSeen}
use Rattle.pm_command.specs.declared.building.Builder.{Builder}
use Rattle.pm_machine.proofs.Keeping.{Each, Keeping, at_name, becomes_in_part, becomes_so, each_weaker, stays_so, with_one}
use Rattle.pm_machine.specs.Building.{BuildStep, EndsAt, EnsuresAll, EnsuresInPart, EnsuresOne, EnsuresOneInPart, MakeStep, Wanted, is_crowded, is_made, is_refused, no_chain, not_fit, not_made, wanted_all}
use Rattle.pm_making.specs.Rows.{object_of, row_of, shape_file}
use Rattle.pm_rounds.specs.Events.{configuration}
use Rattle.pm_machine.specs.Machines.{Machine}
use Rattle.pm_rounds.specs.declared.round.Ending.{Ending}
use Rattle.pm_rounds.specs.declared.round.Ending.TheVariants as ending
use Rattle.pm_object.specs.State.{RoundSeen, State}
use Rattle.pm_props.specs.Sets.{only}
use Rattle.pm_rules.specs.declared.rule.Rule.{Rule}
use Rattle.pm_script.specs.Replies.{ReplySeen}
use Rattle.std.proofs.Common.{inl, inr}
use Rattle.std.specs.Prelude.{List, None, [], ℕ, ◌∷◌}

module _ {book : List Rule} {P Q : State → Type 0} (keeping : Keeping book P Q) where
  -- ---- ensuring
  one_keeps : (w : Wanted) (e : Ending) (rounds : List RoundSeen) (old new : Machine) → EnsuresOne unsaid book w e rounds old new → Each P old → Each P new
  one_keeps w e rounds old new one all =
      becomes_so P w.name one.now old new one.becomes
      (keeping.ensured None (only w.property) e (configuration one.object old.clients) one.now one.ensured (at_name P old w.name one.object one.named all)) all

  all_keep : (ws : List Wanted) (rounds : List RoundSeen) (old new : Machine) → EnsuresAll unsaid book ws rounds old new → Each P old → Each P new
  all_keep [] rounds old new (none, s) all = stays_so P old new s all
  all_keep (w ∷ ws) rounds old new (m, first, more, one, others, are) all = all_keep ws more m new others (one_keeps w ending.Found first old m one all)

  ends_keep : (ws : List Wanted) (e : Ending) (rounds : List RoundSeen) (old new : Machine) → EndsAt unsaid book ws e rounds old new → Each P old → Each P new
  ends_keep [] e rounds old new h all = absurd h
  ends_keep (w ∷ ws) e rounds old new (inl (other, one)) all = one_keeps w e rounds old new one all
  ends_keep (w ∷ ws) e rounds old new (inr (m, first, more, one, others, are)) all = ends_keep ws e more m new others (one_keeps w ending.Found first old m one all)

  -- ---- steps
  pub make_keeps : (old new : Machine) (to : List ℕ) (shape : ShapeSeen) (reply : ReplySeen) → MakeStep old to shape reply new → Each P old → Each P new
  make_keeps old new to shape _ (is_refused r s) all = stays_so P old new s all
  make_keeps old new to shape _ (is_made h k told g) all = with_one P to (object_of (shape_file shape)) old new g.object g.others (keeping.made (shape_file shape)) all

  pub build_keeps : (b : Builder) (old new : Machine) (names : List (List ℕ)) (to : List ℕ) (reply : ReplySeen) → BuildStep unsaid book b old names to reply new → Each P old → Each P new
  build_keeps b old new names to _ (is_refused r s) all = stays_so P old new s all
  build_keeps b old new names to _ (no_chain d) all = ends_keep (wanted_all (row_of b).reads names) ending.NoChain d.rounds old new d.ends all
  build_keeps b old new names to _ (is_crowded d) all = ends_keep (wanted_all (row_of b).reads names) ending.Crowded d.rounds old new d.ends all
  build_keeps b old new names to _ (not_fit rounds os reads apart h is) all = all_keep (wanted_all (row_of b).reads names) rounds old new reads.ensured all
  build_keeps b old new names to _ (not_made rounds os reads h is) all = all_keep (wanted_all (row_of b).reads names) rounds old new reads.ensured all
  build_keeps b old new names to _ (is_made {mid = mid} rounds os f reads h g is) all =
      with_one P to (object_of f) mid new g.object g.others (keeping.made f) (all_keep (wanted_all (row_of b).reads names) rounds old mid reads.ensured all)

  -- ---- a step that was broken off
  one_in_part : (w : Wanted) (old new : Machine) → EnsuresOneInPart unsaid book w old new → Each P old → Each Q new
  one_in_part w old new one all = becomes_in_part keeping None (only w.property) old new w.name one.object one.now (at_name P old w.name one.object one.named all) one.ensured one.becomes all

  pub parts_keep : (ws : List Wanted) (old new : Machine) → EnsuresInPart unsaid book ws old new → Each P old → Each Q new
  parts_keep [] old new s all = each_weaker P Q keeping.weaker new (stays_so P old new s all)
  parts_keep (w ∷ ws) old new (inl s) all = each_weaker P Q keeping.weaker new (stays_so P old new s all)
  parts_keep (w ∷ ws) old new (inr (inl one)) all = one_in_part w old new one all
  parts_keep (w ∷ ws) old new (inr (inr (m, rounds, one, others))) all = parts_keep ws m new others (one_keeps w ending.Found rounds old m one all)
