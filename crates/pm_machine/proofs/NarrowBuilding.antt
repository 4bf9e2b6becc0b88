-- What is ensured and built, where the clients mean less, is so where they mean more.
use Rattle.pm_client.specs.Meanings.{Meanings, Narrows}
use Rattle.pm_command.specs.declared.building.Builder.{Builder}
use Rattle.pm_machine.specs.Building.{BuildStep, DoesNotRead, EndsAt, EnsuresAll, EnsuresInPart, EnsuresOne, EnsuresOneInPart, HasEnsured, Wanted, is_crowded, is_made, is_refused, no_chain, not_fit, not_made}
use Rattle.pm_machine.specs.Built.{EnsuresTo, TellsAll, TellsOne}
use Rattle.pm_machine.specs.Machines.{Machine}
use Rattle.pm_object.specs.State.{RoundSeen, State}
use Rattle.pm_props.specs.Sets.{only}
use Rattle.pm_rounds.proofs.Narrowing.{ensured_more, ensured_part_more}
use Rattle.pm_rounds.specs.declared.round.Ending.{Ending}
use Rattle.pm_rounds.specs.declared.round.Ending.TheVariants as ending
use Rattle.pm_rules.specs.declared.rule.Rule.{Rule}
use Rattle.pm_script.specs.Replies.{Remarks, ReplySeen}
use Rattle.std.proofs.Common.{inl, inr}
use Rattle.std.specs.Prelude.{Err, IfOk, Ok, OnErr, Result, List, None, [], ℕ, ◌∷◌, ◌⊎◌}

module _ (m n : Meanings) (less : Narrows m n) (book : List Rule) where
  -- ---- building
  pub one_more : (w : Wanted) (e : Ending) (rounds : List RoundSeen) (old new : Machine) → EnsuresOne n book w e rounds old new → EnsuresOne m book w e rounds old new
  one_more w e rounds old new o = record { object = o.object; named = o.named; now = o.now; ensured = ensured_more m n less book None (only w.property) e _ o.now o.ensured; rounds_are = o.rounds_are; becomes = o.becomes }

  pub all_more : (ws : List Wanted) (rounds : List RoundSeen) (old new : Machine) → EnsuresAll n book ws rounds old new → EnsuresAll m book ws rounds old new
  all_more [] rounds old new a = a
  all_more (w ∷ ws) rounds old new (mid, first, more, one, rest, is) = (mid, first, more, one_more w ending.Found first old mid one, all_more ws more mid new rest, is)

  pub end_more : (ws : List Wanted) (e : Ending) (rounds : List RoundSeen) (old new : Machine) → EndsAt n book ws e rounds old new → EndsAt m book ws e rounds old new
  end_more [] e rounds old new a = a
  end_more (w ∷ ws) e rounds old new (inl (other, one)) = inl (other, one_more w e rounds old new one)
  end_more (w ∷ ws) e rounds old new (inr (mid, first, more, one, rest, is)) = inr (mid, first, more, one_more w ending.Found first old mid one, end_more ws e more mid new rest, is)

  has_more : (b : Builder) (names : List (List ℕ)) (to : List ℕ) (rounds : List RoundSeen) (os : List State) (old mid : Machine) → HasEnsured n book b names to rounds os old mid → HasEnsured m book b names to rounds os old mid
  has_more b names to rounds os old mid h = record { free = h.free; types = h.types; ensured = all_more _ rounds old mid h.ensured; objects = h.objects }

  not_more : (b : Builder) (names : List (List ℕ)) (to : List ℕ) (e : Ending) (more : Remarks) (old new : Machine) → DoesNotRead n book b names to e more old new → DoesNotRead m book b names to e more old new
  not_more b names to e more old new d = record { free = d.free; types = d.types; rounds = d.rounds; ends = end_more _ e d.rounds old new d.ends; told = d.told }

  pub build_more : (b : Builder) (old new : Machine) (names : List (List ℕ)) (to : List ℕ) (reply : ReplySeen) → BuildStep n book b old names to reply new → BuildStep m book b old names to reply new
  build_more b old new names to _ (is_refused r s) = is_refused r s
  build_more b old new names to _ (no_chain d) = no_chain (not_more b names to ending.NoChain _ old new d)
  build_more b old new names to _ (is_crowded d) = is_crowded (not_more b names to ending.Crowded _ old new d)
  build_more b old new names to _ (not_fit rounds os h apart fit told) = not_fit rounds os (has_more b names to rounds os old new h) apart fit told
  build_more b old new names to _ (not_made rounds os h why told) = not_made rounds os (has_more b names to rounds os old new h) why told
  build_more b old new names to _ (is_made rounds os f h makes gains told) = is_made rounds os f (has_more b names to rounds os old _ h) makes gains told

  pub one_part_more : (w : Wanted) (old new : Machine) → EnsuresOneInPart n book w old new → EnsuresOneInPart m book w old new
  one_part_more w old new o = record { object = o.object; named = o.named; now = o.now; ensured = ensured_part_more m n less book None (only w.property) _ o.now o.ensured; becomes = o.becomes }

  pub ensures_part_more : (ws : List Wanted) (old new : Machine) → EnsuresInPart n book ws old new → EnsuresInPart m book ws old new
  ensures_part_more [] old new s = s
  ensures_part_more (w ∷ ws) old new (inl s) = inl s
  ensures_part_more (w ∷ ws) old new (inr (inl one)) = inr (inl (one_part_more w old new one))
  ensures_part_more (w ∷ ws) old new (inr (inr (mid, rounds, one, rest))) = inr (inr (mid, rounds, one_more w ending.Found rounds old mid one, ensures_part_more ws mid new rest))

  -- ---- with their rounds
  pub tells_one_more : (w : Wanted) (e : Ending) (before after : List RoundSeen) (old new : Machine) → TellsOne n book w e before after old new → TellsOne m book w e before after old new
  tells_one_more w e before after old new t = record { rounds = t.rounds; ensured = one_more w e t.rounds old new t.ensured; told = t.told }

  to_more : (ws : List Wanted) (e : Ending) (rounds : List RoundSeen) (old new : Machine) → EnsuresTo n book ws e rounds old new → EnsuresTo m book ws e rounds old new
  to_more ws ending.Found rounds old new h = all_more ws rounds old new h
  to_more ws ending.NoChain rounds old new h = end_more ws ending.NoChain rounds old new h
  to_more ws ending.Crowded rounds old new h = end_more ws ending.Crowded rounds old new h

  pub tells_all_more : (ws : List Wanted) (e : Ending) (before after : List RoundSeen) (old new : Machine) → TellsAll n book ws e before after old new → TellsAll m book ws e before after old new
  tells_all_more ws e before after old new t = record { rounds = t.rounds; ensured = to_more ws e t.rounds old new t.ensured; told = t.told }

  pub if_ok_tells : {F : Type 0} (r : Result Ending F) (ws : List Wanted) (before after : List RoundSeen) (old new : Machine) → IfOk r (λ e. TellsAll n book ws e before after old new) → IfOk r (λ e. TellsAll m book ws e before after old new)
  if_ok_tells (Ok e) ws before after old new t = tells_all_more ws e before after old new t
  if_ok_tells (Err f) ws before after old new t = tt

  pub on_err_parts : {T F : Type 0} (r : Result T F) (ws : List Wanted) (old new : Machine) → OnErr r (EnsuresInPart n book ws old new) → OnErr r (EnsuresInPart m book ws old new)
  on_err_parts (Ok x) ws old new h = tt
  on_err_parts (Err f) ws old new h = ensures_part_more ws old new h
