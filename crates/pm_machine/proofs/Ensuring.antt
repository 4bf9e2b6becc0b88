-- Properties of objects by name, ensured one after another: by the definitions alone.
use Rattle.pm_client.specs.Meanings.{Meanings}
use Rattle.pm_client.specs.Starts.{Clients}
use Rattle.pm_machine.specs.Building.{EndsAt, EnsuresAll, EnsuresInPart, EnsuresOne, EnsuresOneInPart, Wanted, wanted_of}
use Rattle.pm_machine.specs.Built.{EnsuresTo, TellsAll, TellsOne}
use Rattle.pm_rounds.specs.Events.{Configuration, Ensured, EnsuredInPart, at_rest, configuration}
use Rattle.pm_machine.specs.Machines.{Becomes, Machine, Stays}
use Rattle.pm_rounds.specs.declared.round.Ending.{Ending}
use Rattle.pm_rounds.specs.declared.round.Ending.TheVariants as ending
use Rattle.pm_object.specs.State.{RoundSeen}
use Rattle.pm_props.specs.Sets.{only}
use Rattle.pm_props.specs.declared.property.PropId.{PropId}
use Rattle.pm_rules.specs.declared.rule.Rule.{Rule}
use Rattle.std.proofs.Common.{ap, arith, get_or, inl, inr, refl, subst, suc, sym, take, zero, ◌∙◌, ◌<◌}
use Rattle.std.proofs.lemmas.List.{append-nil, append_assoc}
use Rattle.std.specs.Prelude.{List, None, [], length, ℕ, ◌+◌, ◌++◌, ◌∷◌, ◌≡◌, ◌≢◌}

-- ---- machines that stay
pub stays_itself : (m : Machine) → Stays m m
stays_itself m = record { names = refl; objects = λ q. refl; clients = refl; store = refl }

pub stays_on : (old mid new : Machine) → Stays old mid → Stays mid new → Stays old new
stays_on old mid new s t = record {
  names = t.names ∙ s.names;
  objects = λ q. t.objects q ∙ s.objects q;
  clients = t.clients ∙ s.clients;
  store = t.store ∙ s.store;
}

becomes_after : (name : List ℕ) (c : Configuration) (old mid new : Machine) → Stays old mid → Becomes name c mid new → Becomes name c old new
becomes_after name c old mid new s b = record {
  names = b.names ∙ s.names;
  object = b.object;
  others = λ q other. b.others q other ∙ s.objects q;
  clients = b.clients;
  store = b.store ∙ s.store;
}

becomes_before : (name : List ℕ) (c : Configuration) (old mid new : Machine) → Becomes name c old mid → Stays mid new → Becomes name c old new
becomes_before name c old mid new b s = record {
  names = s.names ∙ b.names;
  object = s.objects name ∙ b.object;
  others = λ q other. s.objects q ∙ b.others q other;
  clients = s.clients ∙ b.clients;
  store = s.store ∙ b.store;
}

module _ (M : Meanings) (book : List Rule) where
  -- ---- from a machine that stayed
  one_after : (w : Wanted) (e : Ending) (rounds : List RoundSeen) (old mid new : Machine) → Stays old mid → EnsuresOne M book w e rounds mid new → EnsuresOne M book w e rounds old new
  one_after w e rounds old mid new s one = record {
    object = one.object;
    named = sym (s.objects w.name) ∙ one.named;
    now = one.now;
    ensured = subst (λ (z : Clients). Ensured M book None (only w.property) e (configuration one.object z) one.now) s.clients one.ensured;
    rounds_are = one.rounds_are;
    becomes = becomes_after w.name one.now old mid new s one.becomes;
  }

  part_after : (w : Wanted) (old mid new : Machine) → Stays old mid → EnsuresOneInPart M book w mid new → EnsuresOneInPart M book w old new
  part_after w old mid new s one = record {
    object = one.object;
    named = sym (s.objects w.name) ∙ one.named;
    now = one.now;
    ensured = subst (λ (z : Clients). EnsuredInPart M book None (only w.property) (configuration one.object z) one.now) s.clients one.ensured;
    becomes = becomes_after w.name one.now old mid new s one.becomes;
  }

  all_after : (ws : List Wanted) (rounds : List RoundSeen) (old mid new : Machine) → Stays old mid → EnsuresAll M book ws rounds mid new → EnsuresAll M book ws rounds old new
  all_after [] rounds old mid new s (none, t) = (none, stays_on old mid new s t)
  all_after (w ∷ ws) rounds old mid new s (m, first, more, one, others, are) = (m, first, more, one_after w ending.Found first old mid m s one, others, are)

  ends_after : (ws : List Wanted) (e : Ending) (rounds : List RoundSeen) (old mid new : Machine) → Stays old mid → EndsAt M book ws e rounds mid new → EndsAt M book ws e rounds old new
  ends_after [] e rounds old mid new s h = absurd h
  ends_after (w ∷ ws) e rounds old mid new s (inl (other, one)) = inl (other, one_after w e rounds old mid new s one)
  ends_after (w ∷ ws) e rounds old mid new s (inr (m, first, more, one, others, are)) = inr (m, first, more, one_after w ending.Found first old mid m s one, others, are)

  parts_after : (ws : List Wanted) (old mid new : Machine) → Stays old mid → EnsuresInPart M book ws mid new → EnsuresInPart M book ws old new
  parts_after [] old mid new s t = stays_on old mid new s t
  parts_after (w ∷ ws) old mid new s (inl t) = inl (stays_on old mid new s t)
  parts_after (w ∷ ws) old mid new s (inr (inl one)) = inr (inl (part_after w old mid new s one))
  parts_after (w ∷ ws) old mid new s (inr (inr (m, rounds, one, others))) = inr (inr (m, rounds, one_after w ending.Found rounds old mid m s one, others))

  -- ---- to a machine that stays
  pub all_stay : (ws : List Wanted) (rounds : List RoundSeen) (old mid new : Machine) → EnsuresAll M book ws rounds old mid → Stays mid new → EnsuresAll M book ws rounds old new
  all_stay [] rounds old mid new (none, s) t = (none, stays_on old mid new s t)
  all_stay (w ∷ ws) rounds old mid new (m, first, more, one, others, are) t = (m, first, more, one, all_stay ws more m mid new others t, are)

  one_in_part : (w : Wanted) (e : Ending) (rounds : List RoundSeen) (old mid new : Machine) → EnsuresOne M book w e rounds old mid → Stays mid new → EnsuresOneInPart M book w old new
  one_in_part w e rounds old mid new one t = record {
    object = one.object;
    named = one.named;
    now = one.now;
    ensured = (at_rest, one.ensured.reaches);
    becomes = becomes_before w.name one.now old mid new one.becomes t;
  }

  pub all_in_part : (ws : List Wanted) (rounds : List RoundSeen) (old mid new : Machine) → EnsuresAll M book ws rounds old mid → Stays mid new → EnsuresInPart M book ws old new
  all_in_part [] rounds old mid new (none, s) t = stays_on old mid new s t
  all_in_part (w ∷ ws) rounds old mid new (m, first, more, one, others, are) t = inr (inr (m, first, one, all_in_part ws more m mid new others t))

  ends_in_part : (ws : List Wanted) (e : Ending) (rounds : List RoundSeen) (old mid new : Machine) → EndsAt M book ws e rounds old mid → Stays mid new → EnsuresInPart M book ws old new
  ends_in_part [] e rounds old mid new h t = absurd h
  ends_in_part (w ∷ ws) e rounds old mid new (inl (other, one)) t = inr (inl (one_in_part w e rounds old mid new one t))
  ends_in_part (w ∷ ws) e rounds old mid new (inr (m, first, more, one, others, are)) t = inr (inr (m, first, one, ends_in_part ws e more m mid new others t))

  -- what was ensured was ensured in part, and then nothing changed
  pub to_in_part : (ws : List Wanted) (e : Ending) (rounds : List RoundSeen) (old mid new : Machine) → EnsuresTo M book ws e rounds old mid → Stays mid new → EnsuresInPart M book ws old new
  to_in_part ws ending.Found rounds old mid new h t = all_in_part ws rounds old mid new h t
  to_in_part ws ending.NoChain rounds old mid new h t = ends_in_part ws ending.NoChain rounds old mid new h t
  to_in_part ws ending.Crowded rounds old mid new h t = ends_in_part ws ending.Crowded rounds old mid new h t

  pub stays_part : (ws : List Wanted) (old new : Machine) → Stays old new → EnsuresInPart M book ws old new
  stays_part [] old new s = s
  stays_part (w ∷ ws) old new s = inl s

  -- ---- some, and then others
  pub all_then : (ws vs : List Wanted) (rs ss : List RoundSeen) (old mid new : Machine) → EnsuresAll M book ws rs old mid → EnsuresAll M book vs ss mid new → EnsuresAll M book (ws ++ vs) (rs ++ ss) old new
  all_then [] vs rs ss old mid new (none, s) h = subst (λ z. EnsuresAll M book vs z old new) (sym (ap (λ z. z ++ ss) none)) (all_after vs ss old mid new s h)
  all_then (w ∷ ws) vs rs ss old mid new (m, first, more, one, others, are) h =
      (m, first, more ++ ss, one, all_then ws vs more ss m mid new others h, ap (λ z. z ++ ss) are ∙ append_assoc first more ss)

  pub ends_then : (ws vs : List Wanted) (e : Ending) (rs ss : List RoundSeen) (old mid new : Machine) → EnsuresAll M book ws rs old mid → EndsAt M book vs e ss mid new → EndsAt M book (ws ++ vs) e (rs ++ ss) old new
  ends_then [] vs e rs ss old mid new (none, s) h = subst (λ z. EndsAt M book vs e z old new) (sym (ap (λ z. z ++ ss) none)) (ends_after vs e ss old mid new s h)
  ends_then (w ∷ ws) vs e rs ss old mid new (m, first, more, one, others, are) h =
      inr (m, first, more ++ ss, one, ends_then ws vs e more ss m mid new others h, ap (λ z. z ++ ss) are ∙ append_assoc first more ss)

  pub parts_then : (ws vs : List Wanted) (rs : List RoundSeen) (old mid new : Machine) → EnsuresAll M book ws rs old mid → EnsuresInPart M book vs mid new → EnsuresInPart M book (ws ++ vs) old new
  parts_then [] vs rs old mid new (none, s) h = parts_after vs old mid new s h
  parts_then (w ∷ ws) vs rs old mid new (m, first, more, one, others, are) h = inr (inr (m, first, one, parts_then ws vs more m mid new others h))

  ends_first : (ws vs : List Wanted) (e : Ending) (rs : List RoundSeen) (old new : Machine) → EndsAt M book ws e rs old new → EndsAt M book (ws ++ vs) e rs old new
  ends_first [] vs e rs old new h = absurd h
  ends_first (w ∷ ws) vs e rs old new (inl h) = inl h
  ends_first (w ∷ ws) vs e rs old new (inr (m, first, more, one, others, are)) = inr (m, first, more, one, ends_first ws vs e more m new others, are)

  pub parts_first : (ws vs : List Wanted) (old new : Machine) → EnsuresInPart M book ws old new → EnsuresInPart M book (ws ++ vs) old new
  parts_first [] vs old new s = stays_part vs old new s
  parts_first (w ∷ ws) vs old new (inl s) = inl s
  parts_first (w ∷ ws) vs old new (inr (inl one)) = inr (inl one)
  parts_first (w ∷ ws) vs old new (inr (inr (m, rounds, one, others))) = inr (inr (m, rounds, one, parts_first ws vs m new others))

  to_first : (ws vs : List Wanted) (e : Ending) (rs : List RoundSeen) (old new : Machine) → e ≢ ending.Found → EnsuresTo M book ws e rs old new → EnsuresTo M book (ws ++ vs) e rs old new
  to_first ws vs ending.Found rs old new other h = absurd (other refl)
  to_first ws vs ending.NoChain rs old new other h = ends_first ws vs ending.NoChain rs old new h
  to_first ws vs ending.Crowded rs old new other h = ends_first ws vs ending.Crowded rs old new h

  to_then : (ws vs : List Wanted) (e : Ending) (rs ss : List RoundSeen) (old mid new : Machine) → EnsuresAll M book ws rs old mid → EnsuresTo M book vs e ss mid new → EnsuresTo M book (ws ++ vs) e (rs ++ ss) old new
  to_then ws vs ending.Found rs ss old mid new h k = all_then ws vs rs ss old mid new h k
  to_then ws vs ending.NoChain rs ss old mid new h k = ends_then ws vs ending.NoChain rs ss old mid new h k
  to_then ws vs ending.Crowded rs ss old mid new h k = ends_then ws vs ending.Crowded rs ss old mid new h k

  one_all : (w : Wanted) (rs : List RoundSeen) (old new : Machine) → EnsuresOne M book w ending.Found rs old new → EnsuresAll M book (w ∷ []) rs old new
  one_all w rs old new one = (new, rs, [], one, (refl, stays_itself new), sym (append-nil rs))

  -- ---- with their rounds
  pub tells_none : (before : List RoundSeen) (m : Machine) → TellsAll M book [] ending.Found before before m m
  tells_none before m = record { rounds = []; ensured = (refl, stays_itself m); told = sym (append-nil before) }

  -- those of one list are ensured, and then one more
  pub tells_more : (ws : List Wanted) (w : Wanted) (before mid after : List RoundSeen) (old m new : Machine) → TellsAll M book ws ending.Found before mid old m → TellsOne M book w ending.Found mid after m new
      → TellsAll M book (ws ++ w ∷ []) ending.Found before after old new
  tells_more ws w before mid after old m new t one = record {
    rounds = t.rounds ++ one.rounds;
    ensured = all_then ws (w ∷ []) t.rounds one.rounds old m new t.ensured (one_all w one.rounds m new one.ensured);
    told = one.told ∙ ap (λ z. z ++ one.rounds) t.told ∙ append_assoc before t.rounds one.rounds;
  }

  -- and then one is not found
  pub tells_end : (ws vs : List Wanted) (w : Wanted) (e : Ending) (before mid after : List RoundSeen) (old m new : Machine) → e ≢ ending.Found → TellsAll M book ws ending.Found before mid old m
      → TellsOne M book w e mid after m new → TellsAll M book (ws ++ w ∷ vs) e before after old new
  tells_end ws vs w e before mid after old m new other t one = record {
    rounds = t.rounds ++ one.rounds;
    ensured = by e other one.ensured;
    told = one.told ∙ ap (λ z. z ++ one.rounds) t.told ∙ append_assoc before t.rounds one.rounds;
  }
    where
      by : (e : Ending) → e ≢ ending.Found → EnsuresOne M book w e one.rounds m new → EnsuresTo M book (ws ++ w ∷ vs) e (t.rounds ++ one.rounds) old new
      by ending.Found differs h = absurd (differs refl)
      by ending.NoChain differs h = ends_then ws (w ∷ vs) ending.NoChain t.rounds one.rounds old m new t.ensured (inl (differs, h))
      by ending.Crowded differs h = ends_then ws (w ∷ vs) ending.Crowded t.rounds one.rounds old m new t.ensured (inl (differs, h))

  -- and then one in part
  pub tells_part : (ws vs : List Wanted) (w : Wanted) (before mid : List RoundSeen) (old m new : Machine) → TellsAll M book ws ending.Found before mid old m → EnsuresOneInPart M book w m new → EnsuresInPart M book (ws ++ w ∷ vs) old new
  tells_part ws vs w before mid old m new t one = parts_then ws (w ∷ vs) t.rounds old m new t.ensured (inr (inl one))

  -- those of one list, and then those of another
  pub tells_both : (ws vs : List Wanted) (e : Ending) (before mid after : List RoundSeen) (old m new : Machine) → TellsAll M book ws ending.Found before mid old m → TellsAll M book vs e mid after m new → TellsAll M book (ws ++ vs) e before after old new
  tells_both ws vs e before mid after old m new t u = record {
    rounds = t.rounds ++ u.rounds;
    ensured = to_then ws vs e t.rounds u.rounds old m new t.ensured u.ensured;
    told = u.told ∙ ap (λ z. z ++ u.rounds) t.told ∙ append_assoc before t.rounds u.rounds;
  }

  pub tells_first : (ws vs : List Wanted) (e : Ending) (before after : List RoundSeen) (old new : Machine) → e ≢ ending.Found → TellsAll M book ws e before after old new → TellsAll M book (ws ++ vs) e before after old new
  tells_first ws vs e before after old new other t = record { rounds = t.rounds; ensured = to_first ws vs e t.rounds old new other t.ensured; told = t.told }

-- what was ensured where no round was told before
pub from_nothing : {M : Meanings} (book : List Rule) (ws vs : List Wanted) (e f : Ending) (before after : List RoundSeen) (old new : Machine) → ws ≡ vs → e ≡ f → before ≡ [] → TellsAll M book ws e before after old new → EnsuresTo M book vs f after old new
from_nothing {M = M} book ws vs e f before after old new same ends none t =
    subst (λ z. EnsuresTo M book z f after old new) same
    (subst (λ z. EnsuresTo M book ws z after old new) ends (subst (λ z. EnsuresTo M book ws e z old new) (sym (t.told ∙ ap (λ z. z ++ t.rounds) none)) t.ensured))

-- ---- a list up to a place, and from it on
pub record IsAt (ps : List PropId) (k : ℕ) (p : PropId) : Type 0 where
  pub left : List PropId
  pub whole : ps ≡ take k ps ++ p ∷ left
  pub next : take (k + 1) ps ≡ take k ps ++ p ∷ []

pub is_at : (ps : List PropId) (k : ℕ) (d : PropId) → k < length ps → IsAt ps k (get_or ps k d)
is_at [] k d l = absurd (omega arith)
is_at (x ∷ ps) zero d l = record { left = ps; whole = refl; next = refl }
is_at (x ∷ ps) (suc k) d l =
    let at = is_at ps k d (omega arith) in
    let more : suc k + 1 ≡ suc (k + 1) = omega arith in
    record { left = at.left; whole = ap (λ z. x ∷ z) at.whole; next = ap (λ n. take n (x ∷ ps)) more ∙ ap (λ z. x ∷ z) at.next }

pub wanted_append : (name : List ℕ) (ps qs : List PropId) → wanted_of name (ps ++ qs) ≡ wanted_of name ps ++ wanted_of name qs
wanted_append name [] qs = refl
wanted_append name (p ∷ ps) qs = ap (λ z. record { name = name; property = p } ∷ z) (wanted_append name ps qs)

-- ---- the property at a place of a list, where those before it are ensured
module _ (M : Meanings) (book now : List Rule) (same : now ≡ book) (name : List ℕ) (ps : List PropId) (k : ℕ) (d : PropId) (l : k < length ps) (before mid : List RoundSeen) (old m : Machine) (t : TellsAll M book (wanted_of name (take k ps)) ending.Found before mid old m) where
  abbrev pub w : Wanted
  w = record { name = name; property = get_or ps k d }

  abbrev at : IsAt ps k (get_or ps k d)
  at = is_at ps k d l

  whole : wanted_of name ps ≡ wanted_of name (take k ps) ++ w ∷ wanted_of name at.left
  whole = ap (wanted_of name) at.whole ∙ wanted_append name (take k ps) (get_or ps k d ∷ at.left)

  pub next_told : (after : List RoundSeen) (new : Machine) → TellsOne M now w ending.Found mid after m new → TellsAll M book (wanted_of name (take (k + 1) ps)) ending.Found before after old new
  next_told after new one =
      subst (λ z. TellsAll M book z ending.Found before after old new) (sym (ap (wanted_of name) at.next ∙ wanted_append name (take k ps) (get_or ps k d ∷ [])))
      (tells_more M book (wanted_of name (take k ps)) w before mid after old m new t (subst (λ z. TellsOne M z w ending.Found mid after m new) same one))

  pub end_told : (e : Ending) (after : List RoundSeen) (new : Machine) → e ≢ ending.Found → TellsOne M now w e mid after m new → TellsAll M book (wanted_of name ps) e before after old new
  end_told e after new other one =
      subst (λ z. TellsAll M book z e before after old new) (sym whole)
      (tells_end M book (wanted_of name (take k ps)) (wanted_of name at.left) w e before mid after old m new other t (subst (λ z. TellsOne M z w e mid after m new) same one))

  pub part_told : (new : Machine) → EnsuresOneInPart M now w m new → EnsuresInPart M book (wanted_of name ps) old new
  part_told new one =
      subst (λ z. EnsuresInPart M book z old new) (sym whole)
      (tells_part M book (wanted_of name (take k ps)) (wanted_of name at.left) w before mid old m new t (subst (λ z. EnsuresOneInPart M z w m new) same one))
