-- A step that builds objects is the same beside any store.
use Rattle.pm_client.specs.Meanings.{Meanings}
use Rattle.pm_command.specs.Commands.{ShapeSeen}
use Rattle.pm_command.specs.declared.building.Builder.{Builder}
use Rattle.pm_machine.proofs.BesideObjects.{becomes_beside, beside, gains_beside, stays_beside}
use Rattle.pm_machine.specs.Building.{BuildStep, DoesNotRead, EndsAt, EnsuresAll, EnsuresInPart, EnsuresOne, EnsuresOneInPart, MakeStep, HasEnsured, Wanted, is_crowded, is_made, no_chain, not_fit, not_made, wanted_all, is_refused}
use Rattle.pm_making.specs.Rows.{row_of}
use Rattle.pm_machine.specs.Machines.{Machine, Store}
use Rattle.pm_rounds.specs.declared.round.Ending.{Ending}
use Rattle.pm_rounds.specs.declared.round.Ending.TheVariants as ending
use Rattle.pm_object.specs.State.{RoundSeen, State}
use Rattle.pm_rules.specs.declared.rule.Rule.{Rule}
use Rattle.pm_script.specs.Replies.{Remarks, ReplySeen}
use Rattle.std.proofs.Common.{inl, inr}
use Rattle.std.specs.Prelude.{List, [], ℕ, ◌∷◌}

-- ---- ensuring
module _ (k : Store) (M : Meanings) (book : List Rule) where
  one_beside : (w : Wanted) (e : Ending) (rounds : List RoundSeen) (old new : Machine) → EnsuresOne M book w e rounds old new → EnsuresOne M book w e rounds (beside k old) (beside k new)
  one_beside w e rounds old new one = record {
    object = one.object;
    named = one.named;
    now = one.now;
    ensured = one.ensured;
    rounds_are = one.rounds_are;
    becomes = becomes_beside k w.name one.now old new one.becomes;
  }

  part_beside : (w : Wanted) (old new : Machine) → EnsuresOneInPart M book w old new → EnsuresOneInPart M book w (beside k old) (beside k new)
  part_beside w old new one = record { object = one.object; named = one.named; now = one.now; ensured = one.ensured; becomes = becomes_beside k w.name one.now old new one.becomes }

  all_beside : (ws : List Wanted) (rounds : List RoundSeen) (old new : Machine) → EnsuresAll M book ws rounds old new → EnsuresAll M book ws rounds (beside k old) (beside k new)
  all_beside [] rounds old new (none, s) = (none, stays_beside k old new s)
  all_beside (w ∷ ws) rounds old new (m, first, more, one, others, are) = (beside k m, first, more, one_beside w ending.Found first old m one, all_beside ws more m new others, are)

  ends_beside : (ws : List Wanted) (e : Ending) (rounds : List RoundSeen) (old new : Machine) → EndsAt M book ws e rounds old new → EndsAt M book ws e rounds (beside k old) (beside k new)
  ends_beside [] e rounds old new h = absurd h
  ends_beside (w ∷ ws) e rounds old new (inl (other, one)) = inl (other, one_beside w e rounds old new one)
  ends_beside (w ∷ ws) e rounds old new (inr (m, first, more, one, others, are)) = inr (beside k m, first, more, one_beside w ending.Found first old m one, ends_beside ws e more m new others, are)

  pub parts_beside : (ws : List Wanted) (old new : Machine) → EnsuresInPart M book ws old new → EnsuresInPart M book ws (beside k old) (beside k new)
  parts_beside [] old new s = stays_beside k old new s
  parts_beside (w ∷ ws) old new (inl s) = inl (stays_beside k old new s)
  parts_beside (w ∷ ws) old new (inr (inl one)) = inr (inl (part_beside w old new one))
  parts_beside (w ∷ ws) old new (inr (inr (m, rounds, one, others))) = inr (inr (beside k m, rounds, one_beside w ending.Found rounds old m one, parts_beside ws m new others))

-- ---- steps
pub make_beside : (k : Store) (old new : Machine) (to : List ℕ) (shape : ShapeSeen) (reply : ReplySeen) → MakeStep old to shape reply new → MakeStep (beside k old) to shape reply (beside k new)
make_beside k old new to shape _ (is_refused r s) = is_refused r (stays_beside k old new s)
make_beside k old new to shape _ (is_made h i told g) = is_made h i told (gains_beside k _ _ old new g)

module _ (k : Store) (M : Meanings) (book : List Rule) (b : Builder) (old : Machine) (names : List (List ℕ)) (to : List ℕ) where
  reads_beside : (rounds : List RoundSeen) (os : List State) (mid : Machine) → HasEnsured M book b names to rounds os old mid → HasEnsured M book b names to rounds os (beside k old) (beside k mid)
  reads_beside rounds os mid r = record { free = r.free; types = r.types; ensured = all_beside k M book (wanted_all (row_of b).reads names) rounds old mid r.ensured; objects = r.objects }

  not_beside : (e : Ending) (more : Remarks) (new : Machine) → DoesNotRead M book b names to e more old new → DoesNotRead M book b names to e more (beside k old) (beside k new)
  not_beside e more new d = record { free = d.free; types = d.types; rounds = d.rounds; ends = ends_beside k M book (wanted_all (row_of b).reads names) e d.rounds old new d.ends; told = d.told }

  pub build_beside : (reply : ReplySeen) (new : Machine) → BuildStep M book b old names to reply new → BuildStep M book b (beside k old) names to reply (beside k new)
  build_beside _ new (is_refused r s) = is_refused r (stays_beside k old new s)
  build_beside _ new (no_chain {more = more} d) = no_chain (not_beside ending.NoChain more new d)
  build_beside _ new (is_crowded {more = more} d) = is_crowded (not_beside ending.Crowded more new d)
  build_beside _ new (not_fit rounds os reads apart h is) = not_fit rounds os (reads_beside rounds os new reads) apart h is
  build_beside _ new (not_made rounds os reads h is) = not_made rounds os (reads_beside rounds os new reads) h is
  build_beside _ new (is_made {mid = mid} rounds os f reads h g is) = is_made {mid = beside k mid} rounds os f (reads_beside rounds os mid reads) h (gains_beside k _ _ mid new g) is
