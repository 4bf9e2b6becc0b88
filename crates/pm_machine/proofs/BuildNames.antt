-- Objects by name while what is read of them is ensured.
use Rattle.pm_client.specs.Meanings.{Meanings}
use Rattle.pm_client.specs.Starts.{Clients}
use Rattle.pm_machine.proofs.Ensuring.{parts_first, parts_then, tells_both, tells_first}
use Rattle.pm_machine.proofs.Names.{IsWritten, machine_with}
use Rattle.pm_machine.specs.Building.{EnsuresInPart, EnsuresOneInPart, wanted_all, wanted_of}
use Rattle.pm_machine.specs.Built.{TellsAll, TellsOne}
use Rattle.pm_rounds.specs.Events.{Ensured, EnsuredInPart, at_rest, configuration}
use Rattle.pm_machine.specs.Machines.{Becomes, Machine, later_rounds}
use Rattle.pm_rounds.specs.declared.round.Ending.{Ending}
use Rattle.pm_rounds.specs.declared.round.Ending.TheVariants as ending
use Rattle.pm_object.specs.State.{RoundSeen, State}
use Rattle.pm_object.specs.Views.{round_seen}
use Rattle.pm_object.specs.declared.held.Round.{Round}
use Rattle.pm_props.specs.Sets.{only}
use Rattle.pm_props.specs.declared.property.PropId.{PropId}
use Rattle.pm_props.specs.declared.set.PropSet.{PropSet}
use Rattle.pm_rules.specs.declared.rule.Rule.{Rule}
use Rattle.std.proofs.Common.{ap, refl, subst, ◌∙◌}
use Rattle.std.proofs.lemmas.List.{map-append}
use Rattle.std.specs.Prelude.{Err, IfOk, List, None, Ok, OnErr, Option, Result, [], map, ℕ, ◌++◌, ◌∷◌, ◌≡◌, ◌≢◌}

module _ {ns ms : List (List ℕ)} {old new : List ℕ → Option State} {name : List ℕ} {o o' : State} (w : IsWritten ns ms old new name o o') (M : Meanings) (book : List Rule) (asked : PropSet) (p : PropId) (one : asked ≡ only p) (clients after : Clients) where
  became : Becomes name (configuration o' after) (machine_with ns old clients) (machine_with ms new after)
  became = record { names = w.names; object = w.is; others = w.others; clients = refl; store = refl }

  pub one_told : (e : Ending) (before later behind : List Round) → Ensured M book None asked e (configuration o clients) (configuration o' after) → behind ≡ before ++ later → map round_seen later ≡ later_rounds o o'
      → TellsOne M book (record { name = name; property = p }) e (map round_seen before) (map round_seen behind) (machine_with ns old clients) (machine_with ms new after)
  one_told e before later behind ensured is rounds = record {
    rounds = later_rounds o o';
    ensured = record {
      object = o;
      named = w.was;
      now = configuration o' after;
      ensured = subst (λ z. Ensured M book None z e (configuration o clients) (configuration o' after)) one ensured;
      rounds_are = refl;
      becomes = became;
    };
    told = ap (map round_seen) is ∙ map-append round_seen before later ∙ ap (λ z. map round_seen before ++ z) rounds;
  }

  pub one_part : EnsuredInPart M book None asked (configuration o clients) (configuration o' after) → EnsuresOneInPart M book (record { name = name; property = p }) (machine_with ns old clients) (machine_with ms new after)
  one_part ensured = record {
    object = o;
    named = w.was;
    now = configuration o' after;
    ensured = subst (λ z. EnsuredInPart M book None z (configuration o clients) (configuration o' after)) one ensured;
    becomes = became;
  }

  -- what was ensured wholly was ensured in part
  pub whole_part : (e : Ending) → Ensured M book None asked e (configuration o clients) (configuration o' after) → EnsuresOneInPart M book (record { name = name; property = p }) (machine_with ns old clients) (machine_with ms new after)
  whole_part e ensured = one_part (at_rest, ensured.reaches)

-- ---- what is read of one object, and of two; the names that are handed on are those of the command
module _ (M : Meanings) (book : List Rule) (first given : List ℕ) (ps qs : List PropId) (same : qs ≡ ps) (at : given ≡ first) where
  wanted_is : wanted_of given qs ≡ wanted_of first ps
  wanted_is = ap (λ n. wanted_of n qs) at ∙ ap (wanted_of first) same

  pub all_told : {F : Type 0} (r : Result Ending F) (before after : List RoundSeen) (old new : Machine) → IfOk r (λ e. TellsAll M book (wanted_of given qs) e before after old new) → IfOk r (λ e. TellsAll M book (wanted_all ps (first ∷ [])) e before after old new)
  all_told (Ok e) before after old new t = subst (λ z. TellsAll M book z e before after old new) wanted_is t
  all_told (Err f) before after old new t = tt

  pub all_parts : {T F : Type 0} (r : Result T F) (old new : Machine) → OnErr r (EnsuresInPart M book (wanted_of given qs) old new) → OnErr r (EnsuresInPart M book (wanted_all ps (first ∷ [])) old new)
  all_parts (Ok x) old new h = tt
  all_parts (Err f) old new h = subst (λ z. EnsuresInPart M book z old new) wanted_is h

  module _ (second : List ℕ) where
    pub first_told : (e : Ending) (before after : List RoundSeen) (old new : Machine) → e ≢ ending.Found → TellsAll M book (wanted_of given qs) e before after old new → TellsAll M book (wanted_all ps (first ∷ second ∷ [])) e before after old new
    first_told e before after old new differs t = tells_first M book (wanted_of first ps) (wanted_of second ps) e before after old new differs (subst (λ z. TellsAll M book z e before after old new) wanted_is t)

    pub first_parts : (old new : Machine) → EnsuresInPart M book (wanted_of given qs) old new → EnsuresInPart M book (wanted_all ps (first ∷ second ∷ [])) old new
    first_parts old new h = parts_first M book (wanted_of first ps) (wanted_of second ps) old new (subst (λ z. EnsuresInPart M book z old new) wanted_is h)

    module _ (other : List ℕ) (at' : other ≡ second) (now : List Rule) (is : now ≡ book) (before mid : List RoundSeen) (old m : Machine) (t : TellsAll M book (wanted_of given qs) ending.Found before mid old m) where
      other_is : wanted_of other qs ≡ wanted_of second ps
      other_is = ap (λ n. wanted_of n qs) at' ∙ ap (wanted_of second) same

      pub both_told : {F : Type 0} (r : Result Ending F) (after : List RoundSeen) (new : Machine) → IfOk r (λ e. TellsAll M now (wanted_of other qs) e mid after m new) → IfOk r (λ e. TellsAll M book (wanted_all ps (first ∷ second ∷ [])) e before after old new)
      both_told (Err f) after new u = tt
      both_told (Ok e) after new u =
          tells_both M book (wanted_of first ps) (wanted_of second ps) e before mid after old m new (subst (λ z. TellsAll M book z ending.Found before mid old m) wanted_is t)
          (subst (λ z. TellsAll M z (wanted_of second ps) e mid after m new) is (subst (λ z. TellsAll M now z e mid after m new) other_is u))

      pub both_parts : {T F : Type 0} (r : Result T F) (new : Machine) → OnErr r (EnsuresInPart M now (wanted_of other qs) m new) → OnErr r (EnsuresInPart M book (wanted_all ps (first ∷ second ∷ [])) old new)
      both_parts (Ok e) new u = tt
      both_parts (Err f) new u =
          let s = subst (λ z. TellsAll M book z ending.Found before mid old m) wanted_is t in
          parts_then M book (wanted_of first ps) (wanted_of second ps) s.rounds old m new s.ensured
          (subst (λ z. EnsuresInPart M z (wanted_of second ps) m new) is (subst (λ z. EnsuresInPart M now z m new) other_is u))
