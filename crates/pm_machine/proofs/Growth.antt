-- What objects hold stays while properties are ensured, and what was ensured is held after it: by the definitions alone.
use Rattle.pm_client.specs.Meanings.{Meanings}
use Rattle.pm_vector.proofs.Filters.{among_map}
use Rattle.pm_vector.proofs.Lists.{All_among, Among, among_append_left, among_append_right, here, there}
use Rattle.pm_command.specs.declared.building.Builder.{Builder}
use Rattle.pm_machine.specs.Building.{EnsuresAll, EnsuresOne, Wanted, are_of, is_of_type, wanted_all, wanted_of}
use Rattle.pm_making.specs.Rows.{row_of, same_type}
use Rattle.pm_machine.specs.Built.{HasRead, HaveRead}
use Rattle.pm_rounds.specs.Events.{Configuration, Ensured, Event, IsTrace, after_event, after_events, at_rest, begun, committed, excluded, phase_after_all, settled, started, unsettled, written}
use Rattle.pm_machine.specs.Machines.{Machine, shelf}
use Rattle.pm_rounds.specs.declared.round.Ending.{Ending}
use Rattle.pm_rounds.specs.declared.round.Ending.TheVariants as ending
use Rattle.pm_object.proofs.Formed.{held_stays, value_later}
use Rattle.pm_object.proofs.Names.{names_held}
use Rattle.pm_object.specs.State.{HeldValue, RoundSeen, State, cols_of, has_rounds, is_held, names_to_settle, only_if, read_at, settled as settled_at, settling, value_of, with_held}
use Rattle.pm_object_type.specs.declared.object_type.ObjectType.{ObjectType}
use Rattle.pm_props.proofs.Members.{has-only}
use Rattle.pm_props.specs.Places.{place_of, same_place}
use Rattle.pm_props.specs.Properties.{number}
use Rattle.pm_props.specs.Sets.{only}
use Rattle.pm_props.specs.declared.property.PropId.{PropId}
use Rattle.pm_props.specs.declared.property.PropId.TheVariants.{AffineHull, ConeAmbientDim, Equations, InputLineality, LinealitySpace}
use Rattle.pm_props.specs.declared.set.PropSet.{PropSet}
use Rattle.pm_rules.specs.declared.rule.Rule.{Rule}
use Rattle.pm_types.specs.Values.{PropertyValue}
use Rattle.std.proofs.Common.{ap, arith, bytes_eq, eqb, false, inl, inr, refl, subst, suc, sym, true, true≢false, ◌∙◌}
use Rattle.std.proofs.lemmas.Bool.{and_parts, cases_Bool}
use Rattle.std.proofs.lemmas.List.{append-nil, append_assoc}
use Rattle.std.specs.List.{AllByRecursion}
use Rattle.std.proofs.lemmas.Option.{none-some, same_Some}
use Rattle.std.proofs.lemmas.Slice.Eq.{bytes_eq-Decides}
use Rattle.std.specs.Option.{is_some, unwrap_or}
use Rattle.std.specs.Prelude.{Bool, IsTrue, List, None, Option, Some, [], if◌then◌else◌, length, map, nat_eq, not, ℕ, ◌++◌, ◌∷◌, ◌≡◌, ◌⊎◌}

-- ---- objects that grow
-- an object of the same type that holds more, for which more rounds were started
pub record Grows (o p : State) : Type 0 where
  pub of : p.of ≡ o.of
  pub more : List HeldValue
  pub held : p.held ≡ o.held ++ more
  pub later : List RoundSeen
  pub rounds : p.rounds ≡ o.rounds ++ later

grows_itself : (o : State) → Grows o o
grows_itself o = record { of = refl; more = []; held = sym (append-nil o.held); later = []; rounds = sym (append-nil o.rounds) }

grows_on : (o p q : State) → Grows o p → Grows p q → Grows o q
grows_on o p q a b = record {
  of = b.of ∙ a.of;
  more = a.more ++ b.more;
  held = b.held ∙ ap (λ z. z ++ b.more) a.held ∙ append_assoc o.held a.more b.more;
  later = a.later ++ b.later;
  rounds = b.rounds ∙ ap (λ z. z ++ b.later) a.rounds ∙ append_assoc o.rounds a.later b.later;
}

grows_held : (o : State) (more : List HeldValue) → Grows o (with_held o more)
grows_held o more = record { of = refl; more = more; held = refl; later = []; rounds = sym (append-nil o.rounds) }

event_grows : (sub : Option ℕ) (e : Event) (c : Configuration) → Grows c.object (after_event sub e c).object
event_grows sub settled c = grows_held c.object _
event_grows sub (begun chain) c = grows_itself c.object
event_grows sub (started kind) c = grows_itself c.object
event_grows sub (committed answer) c = grows_held c.object _
event_grows sub (excluded e) c = record { of = refl; more = []; held = sym (append-nil c.object.held); later = []; rounds = sym (append-nil c.object.rounds) }
event_grows sub (written r) c = record { of = refl; more = []; held = sym (append-nil c.object.held); later = r ∷ []; rounds = refl }

events_grow : (sub : Option ℕ) (events : List Event) (c : Configuration) → Grows c.object (after_events sub events c).object
events_grow sub [] c = grows_itself c.object
events_grow sub (e ∷ events) c = grows_on c.object (after_event sub e c).object (after_events sub events (after_event sub e c)).object (event_grows sub e c) (events_grow sub events (after_event sub e c))

ensured_grows : {M : Meanings} (book : List Rule) (sub : Option ℕ) (asked : PropSet) (e : Ending) (old new : Configuration) → Ensured M book sub asked e old new → Grows old.object new.object
ensured_grows {M = M} book sub asked e old new h = subst (λ (c : Configuration). Grows old.object c.object) (sym h.reaches.becomes) (events_grow sub h.reaches.events old)

-- ---- what is held stays
read_append : (sub : Option ℕ) (xs ys : List HeldValue) → read_at sub (xs ++ ys) ≡ read_at sub xs ++ read_at sub ys
read_append sub [] ys = refl
read_append sub (h ∷ xs) ys = by (same_place h.place (place_of sub h.property)) (read_append sub xs ys)
  where
    by : (t : Bool) → read_at sub (xs ++ ys) ≡ read_at sub xs ++ read_at sub ys
        → (if t then h ∷ read_at sub (xs ++ ys) else read_at sub (xs ++ ys)) ≡ (if t then h ∷ read_at sub xs else read_at sub xs) ++ read_at sub ys
    by true e = ap (λ z. h ∷ z) e
    by false e = e

read_stays : (o p : State) (q : PropId) → Grows o p → is_held q (read_at None o.held) ≡ true → is_held q (read_at None p.held) ≡ true
read_stays o p q g h =
    subst (λ z. is_held q z ≡ true) (sym (ap (read_at None) g.held ∙ read_append None o.held g.more)) (held_stays q (read_at None o.held) (read_at None g.more) h)

-- ---- a settled object
abbrev pub IsSettledOnce : State → Type 0
IsSettledOnce o = (is_held ConeAmbientDim o.held ≡ true) ⊎ (has_rounds o ≡ true)

more_than_0 : (n : ℕ) → nat_eq (suc n) 0 ≡ false
more_than_0 n = grind arith

some_rounds : {X : Type 0} (xs ys : List X) → not (nat_eq (length xs) 0) ≡ true → not (nat_eq (length (xs ++ ys)) 0) ≡ true
some_rounds [] ys h = absurd (true≢false (sym h))
some_rounds (x ∷ xs) ys h = ap not (more_than_0 (length (xs ++ ys)))

settled_stays : (o p : State) → Grows o p → IsSettledOnce o → IsSettledOnce p
settled_stays o p g (inl h) = inl (subst (λ z. is_held ConeAmbientDim z ≡ true) (sym g.held) (held_stays ConeAmbientDim o.held g.more h))
settled_stays o p g (inr h) = inr (ap (λ z. not (nat_eq (length z) 0)) g.rounds ∙ some_rounds o.rounds g.later h)

first_named : (held : List HeldValue) (n : ℕ) (h b c d e : Bool) → is_held ConeAmbientDim held ≡ h
    → is_held ConeAmbientDim (held ++ map (settled_at n) (only_if (not h) ConeAmbientDim ++ only_if b InputLineality ++ only_if c Equations ++ only_if d LinealitySpace ++ only_if e AffineHull)) ≡ true
first_named held n true b c d e is = held_stays ConeAmbientDim held _ is
first_named held n false b c d e is = by (value_of ConeAmbientDim held) refl
  where
    more : List HeldValue
    more = map (settled_at n) (only_if true ConeAmbientDim ++ only_if b InputLineality ++ only_if c Equations ++ only_if d LinealitySpace ++ only_if e AffineHull)

    by : (v : Option PropertyValue) → value_of ConeAmbientDim held ≡ v → is_held ConeAmbientDim (held ++ more) ≡ true
    by None e = ap is_some (value_later ConeAmbientDim held more e)
    by (Some v) e = absurd (true≢false (sym (ap is_some e) ∙ is))

settling_settles : (o : State) → IsSettledOnce (with_held o (settling o))
settling_settles o = by (has_rounds o) refl
  where
    n : ℕ
    n = unwrap_or (cols_of o.held) 1

    by : (t : Bool) → has_rounds o ≡ t → IsSettledOnce (with_held o (settling o))
    by true e = inr e
    by false e =
        inl (ap (λ t. is_held ConeAmbientDim (o.held ++ map (settled_at n) (if t then [] else names_to_settle o.held))) e ∙ first_named o.held n (is_held ConeAmbientDim o.held) _ _ _ _ refl)

-- the first event of ensuring settles the object
trace_settles : (M : Meanings) (book : List Rule) (sub : Option ℕ) (asked : PropSet) (events : List Event) (c : Configuration) → IsTrace M book sub asked unsettled c events → phase_after_all unsettled events ≡ at_rest
    → IsSettledOnce (after_events sub events c).object
trace_settles M book sub asked [] c trace ends = absurd (apart ends)
  where
    apart : unsettled ≡ at_rest → ⊥
    apart e = cc
trace_settles M book sub asked (settled ∷ events) c (may, trace) ends =
    settled_stays (after_event sub settled c).object (after_events sub events (after_event sub settled c)).object (events_grow sub events (after_event sub settled c)) (settling_settles c.object)
trace_settles M book sub asked (begun chain ∷ events) c (may, trace) ends = absurd may
trace_settles M book sub asked (started kind ∷ events) c (may, trace) ends = absurd may
trace_settles M book sub asked (committed answer ∷ events) c (may, trace) ends = absurd may
trace_settles M book sub asked (excluded e ∷ events) c (may, trace) ends = absurd may
trace_settles M book sub asked (written r ∷ events) c (may, trace) ends = absurd may

ensured_settles : {M : Meanings} (book : List Rule) (sub : Option ℕ) (asked : PropSet) (e : Ending) (old new : Configuration) → Ensured M book sub asked e old new → IsSettledOnce new.object
ensured_settles {M = M} book sub asked e old new h =
    subst (λ (c : Configuration). IsSettledOnce c.object) (sym h.reaches.becomes) (trace_settles M book sub asked h.reaches.events old h.reaches.trace h.reaches.phase_is)

-- ---- one property
same_number : (n k : ℕ) → n ≡ k → eqb n k ≡ true
same_number n k e = grind arith

ensured_held : {M : Meanings} (book : List Rule) (p : PropId) (old new : Configuration) → Ensured M book None (only p) ending.Found old new → is_held p (read_at None new.object.held) ≡ true
ensured_held {M = M} book p old new e = sym (names_held (read_at None new.object.held) p) ∙ e.ends p (has-only p p ∙ same_number (number p) (number p) refl)

-- the object of a name has become one that grew
pub record HasGrown (q : List ℕ) (o : State) (new : Machine) : Type 0 where
  pub object : State
  pub is : new.object q ≡ Some object
  pub grows : Grows o object

module _ (M : Meanings) (book : List Rule) where
  one_grows : (w : Wanted) (e : Ending) (rounds : List RoundSeen) (old new : Machine) (q : List ℕ) (o : State) → EnsuresOne M book w e rounds old new → old.object q ≡ Some o → HasGrown q o new
  one_grows w e rounds old new q o one is = elim (cases_Bool (bytes_eq q w.name)) [
    | inl same ↦ (
        let at : q ≡ w.name = (bytes_eq-Decides q w.name).0 same in
        let it : one.object ≡ o = same_Some _ _ (sym one.named ∙ sym (ap old.object at) ∙ is) in
        record {
          object = one.now.object;
          is = ap new.object at ∙ one.becomes.object;
          grows = subst (λ z. Grows z one.now.object) it (ensured_grows book None (only w.property) e _ one.now one.ensured);
        }
        )
    | inr other ↦ record { object = o; is = one.becomes.others q (λ at. true≢false (sym ((bytes_eq-Decides q w.name).1 at) ∙ other)) ∙ is; grows = grows_itself o }
  ]

  one_none : (w : Wanted) (e : Ending) (rounds : List RoundSeen) (old new : Machine) (q : List ℕ) → EnsuresOne M book w e rounds old new → old.object q ≡ None → new.object q ≡ None
  one_none w e rounds old new q one none = elim (cases_Bool (bytes_eq q w.name)) [
    | inl same ↦ absurd (none-some _ (sym none ∙ ap old.object ((bytes_eq-Decides q w.name).0 same) ∙ one.named))
    | inr other ↦ one.becomes.others q (λ at. true≢false (sym ((bytes_eq-Decides q w.name).1 at) ∙ other)) ∙ none
  ]

  -- ---- several
  pub all_grow : (ws : List Wanted) (rounds : List RoundSeen) (old new : Machine) (q : List ℕ) (o : State) → EnsuresAll M book ws rounds old new → old.object q ≡ Some o → HasGrown q o new
  all_grow [] rounds old new q o (none, s) is = record { object = o; is = s.objects q ∙ is; grows = grows_itself o }
  all_grow (w ∷ ws) rounds old new q o (m, first, more, one, others, are) is =
      let a = one_grows w ending.Found first old m q o one is in
      let b = all_grow ws more m new q a.object others a.is in
      record { object = b.object; is = b.is; grows = grows_on o a.object b.object a.grows b.grows }

  pub all_none : (ws : List Wanted) (rounds : List RoundSeen) (old new : Machine) (q : List ℕ) → EnsuresAll M book ws rounds old new → old.object q ≡ None → new.object q ≡ None
  all_none [] rounds old new q (none, s) is = s.objects q ∙ is
  all_none (w ∷ ws) rounds old new q (m, first, more, one, others, are) is = all_none ws more m new q others (one_none w ending.Found first old m q one is)

  pub still_some : (ws : List Wanted) (rounds : List RoundSeen) (old new : Machine) (q : List ℕ) → EnsuresAll M book ws rounds old new → is_some (old.object q) ≡ true → is_some (new.object q) ≡ true
  still_some ws rounds old new q all some = by (old.object q) refl some
    where
      by : (x : Option State) → old.object q ≡ x → is_some x ≡ true → is_some (new.object q) ≡ true
      by None is h = absurd (true≢false (sym h))
      by (Some o) is h = ap is_some (all_grow ws rounds old new q o all is).is

  -- what was ensured of an object is held by it after all
  pub all_read : (ws : List Wanted) (rounds : List RoundSeen) (old new : Machine) {w : Wanted} (o : State) → Among w ws → EnsuresAll M book ws rounds old new → new.object w.name ≡ Some o
      → (is_held w.property (read_at None o.held) ≡ true) × IsSettledOnce o
  all_read [] rounds old new o i all is = elim i [ ]
  all_read (w ∷ ws) rounds old new o here (m, first, more, one, others, are) is =
      let g = all_grow ws more m new w.name one.now.object others one.becomes.object in
      let it : g.object ≡ o = same_Some _ _ (sym g.is ∙ is) in
      let grows = subst (λ z. Grows one.now.object z) it g.grows in (
        read_stays one.now.object o w.property grows (ensured_held book w.property _ one.now one.ensured),
        settled_stays one.now.object o grows (ensured_settles book None (only w.property) ending.Found _ one.now one.ensured),
      )
  all_read (v ∷ ws) rounds old new o (there i) (m, first, more, one, others, are) is = all_read ws more m new o i others is

  -- the object of the name has been read
  has_read : (ws : List Wanted) (rounds : List RoundSeen) (old new : Machine) (name : List ℕ) (type : ObjectType) (p : PropId) (ps : List PropId) → EnsuresAll M book ws rounds old new → is_of_type type (old.object name) ≡ true
      → ((q : PropId) → Among q (p ∷ ps) → Among (record { name = name; property = q }) ws) → HasRead type (p ∷ ps) (new.object name)
  has_read ws rounds old new name type p ps all typed wanted = by (old.object name) refl typed
    where
      by : (x : Option State) → old.object name ≡ x → is_of_type type x ≡ true → HasRead type (p ∷ ps) (new.object name)
      by None at t = absurd (true≢false (sym t))
      by (Some o) at t =
          let g = all_grow ws rounds old new name o all at in
          record {
            object = g.object;
            is = g.is;
            of_type = subst (λ z. same_type type z ≡ true) (sym g.grows.of) t;
            read = record {
              held = All_among (λ q. IsTrue (is_held q (read_at None g.object.held))) (p ∷ ps) (λ q i. (all_read ws rounds old new g.object (wanted q i) all g.is).0);
              settled = (all_read ws rounds old new g.object (wanted p here) all g.is).1;
            };
          }

  -- what is wanted of one object
  wanted_one : (name : List ℕ) (ps : List PropId) (q : PropId) → Among q ps → Among (record { name = name; property = q }) (wanted_of name ps)
  wanted_one name ps q i = among_map (λ p. record { name = name; property = p }) i

  -- and of each of several
  wanted_each : (ps : List PropId) (names : List (List ℕ)) (n : List ℕ) → Among n names → (q : PropId) → Among q ps → Among (record { name = n; property = q }) (wanted_all ps names)
  wanted_each ps [] n j q i = elim j [ ]
  wanted_each ps (m ∷ []) n here q i = wanted_one n ps q i
  wanted_each ps (m ∷ []) n (there j) q i = elim j [ ]
  wanted_each ps (m ∷ k ∷ ns) n here q i = among_append_left (wanted_all ps (k ∷ ns)) (wanted_one n ps q i)
  wanted_each ps (m ∷ k ∷ ns) n (there j) q i = among_append_right (wanted_of m ps) (wanted_each ps (k ∷ ns) n j q i)

  each_read : (ws : List Wanted) (rounds : List RoundSeen) (old new : Machine) (type : ObjectType) (p : PropId) (ps : List PropId) (names : List (List ℕ)) → EnsuresAll M book ws rounds old new
      → ((n : List ℕ) → Among n names → (q : PropId) → Among q (p ∷ ps) → Among (record { name = n; property = q }) ws) → are_of type (shelf old) names ≡ true → AllByRecursion (λ n. HasRead type (p ∷ ps) (new.object n)) names
  each_read ws rounds old new type p ps [] all wanted types = tt
  each_read ws rounds old new type p ps (n ∷ ns) all wanted types =
      let t = and_parts (is_of_type type (old.object n)) (are_of type (shelf old) ns) types in
      (has_read ws rounds old new n type p ps all t.0 (wanted n here), each_read ws rounds old new type p ps ns all (λ m i. wanted m (there i)) t.1)

  -- what is read of the objects of a command has been read
  pub all_have_read : (rounds : List RoundSeen) (old new : Machine) (b : Builder) (p : PropId) (ps : List PropId) (names : List (List ℕ)) → (row_of b).reads ≡ p ∷ ps → EnsuresAll M book (wanted_all (row_of b).reads names) rounds old new → are_of (row_of b).of (shelf old) names ≡ true → HaveRead b new names
  all_have_read rounds old new b p ps names same all types =
      subst (λ z. AllByRecursion (λ n. HasRead (row_of b).of z (new.object n)) names) (sym same)
      (each_read (wanted_all (p ∷ ps) names) rounds old new (row_of b).of p ps names (subst (λ z. EnsuresAll M book (wanted_all z names) rounds old new) same all) (wanted_each (p ∷ ps) names) types)
