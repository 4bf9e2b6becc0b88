-- Nothing goes without saying of an object that is ensured something, where the kinds of the rules keep the halves of
-- descriptions together.
use Rattle.pm_client.specs.Meanings.{unsaid}
use Rattle.pm_laws_lineage.proofs.Names.{AllFalse, none_of_five}
use Rattle.pm_laws_lineage.proofs.Saved.{held_of, not_both, of_held}
use Rattle.pm_laws_lineage.proofs.Twice.{none, nothing_more}
use Rattle.pm_laws_lineage.specs.Saved.{EnsuredIsSaid, IsSaid, IsSaidOnce, KeepsHalves, StandardBooksKeepHalves, StandardKindsKeepHalves, keeps_halves, names}
use Rattle.pm_object.proofs.Formed.{held_stays}
use Rattle.pm_object.specs.Honest.{facts}
use Rattle.pm_object.specs.Laws.{computed}
use Rattle.pm_object.specs.State.{HeldValue, State, cols_of, has_rounds, is_held, names_to_settle, settled as settled_at, settling, settling_names, with_held}
use Rattle.pm_props.proofs.Every.{among_every}
use Rattle.pm_props.proofs.Places.{same_property_is}
use Rattle.pm_props.specs.Places.{place_of, same_place, same_property}
use Rattle.pm_props.specs.Properties.{every_property, has_program}
use Rattle.pm_props.specs.Sets.{has, members, only, union}
use Rattle.pm_props.specs.declared.kind.Kind.{Kind}
use Rattle.pm_props.specs.declared.kind.RuleId.{RuleId}
use Rattle.pm_props.specs.declared.property.PropId.{PropId}
use Rattle.pm_props.specs.declared.property.PropId.TheVariants.{AffineHull, ConeAmbientDim, Equations, Facets, Inequalities, InputLineality, LinealitySpace, Points, Vertices}
use Rattle.pm_props.specs.declared.set.PropSet.{PropSet}
use Rattle.pm_rounds.specs.Events.{Configuration, Event, IsTrace, MayOccur, Phase, after_event, after_events, at_rest, begun, columns, committed, excluded, over, phase_after, phase_after_all, running, settled, started, turn, turns, unsettled, written}
use Rattle.pm_rules.specs.declared.rule.Rule.{Rule}
use Rattle.pm_standard.specs.Book.{standard_rule, standard_rules}
use Rattle.pm_standard.specs.Table.{standard_clients, standard_kind, standard_kinds_list, wide_clients}
use Rattle.pm_types.specs.Runs.{MayAnswer, MayRun, is_named, missing, shown, stands_at}
use Rattle.pm_types.specs.Values.{Fact}
use Rattle.pm_vector.proofs.Filters.{among_filter, among_map, any_to, filter_among, map_among}
use Rattle.pm_vector.proofs.Lists.{Among, Contains_among, among_All, among_Contains, among_append, among_append_left, among_append_right, here, there}
use Rattle.std.proofs.Common.{ap, append-nil, false, inl, inr, refl, subst, sym, true, true≢false, ◌∙◌}
use Rattle.std.proofs.lemmas.Bool.{and_from, and_parts, cases_Bool, false_from_ne_true, not-true}
use Rattle.std.proofs.lemmas.List.Sums.{AllPass-from_list_all}
use Rattle.std.specs.List.{Contains}
use Rattle.std.proofs.lemmas.Option.{same_Some}
use Rattle.std.specs.Option.{is_some, unwrap_or}
use Rattle.std.specs.Prelude.{Bool, List, None, Option, Some, [], if◌then◌else◌, map, not, slice_get, suc, zero, ℕ, ◌&&◌, ◌||◌, ◌++◌, ◌∷◌, ◌≡◌, ◌⊎◌}

pub standard_kinds_keep_halves : StandardKindsKeepHalves
unfolding has union only
standard_kinds_keep_halves = AllPass-from_list_all keeps_halves standard_kinds_list refl

got_among : {X : Type 0} (xs : List X) (i : ℕ) (x : X) → slice_get xs i ≡ Some x → Among x xs
got_among [] i x h = absurd (true≢false (sym (ap is_some h)))
got_among (y ∷ xs) zero x h = subst (λ z. Among z (y ∷ xs)) (same_Some _ _ h) here
got_among (y ∷ xs) (suc i) x h = there (got_among xs i x h)

kinds_keep : (book : List Rule) → ((rule : Rule) → Among rule book → Among rule.kind standard_kinds_list) → KeepsHalves book
kinds_keep book kinds id rule is = among_All (λ kind. keeps_halves kind ≡ true) (kinds rule (got_among book id.0 rule is)) standard_kinds_keep_halves

pub standard_books_keep_halves : StandardBooksKeepHalves
standard_books_keep_halves = record {
  of_kinds = λ book all. kinds_keep book (λ rule i. among_Contains _ (among_All (λ rule. Contains standard_kinds_list rule.kind) i all));
  standard = kinds_keep standard_rules (λ rule i.
      let (c, j, is) = map_among standard_rule standard_clients i in
      subst (λ z. Among z standard_kinds_list) (sym (ap (λ (z : Rule). z.kind) is)) (among_append_left (map standard_kind wide_clients) (among_map standard_kind j)));
}

or_cases : (a b : Bool) → (a || b) ≡ true → (a ≡ true) ⊎ (b ≡ true)
or_cases true b h = inl refl
or_cases false b h = inr h

-- ---- an answer
members_among : (s : PropSet) (p : PropId) → has s p ≡ true → Among p (members s)
unfolding members
members_among s p h = among_filter (has s) (among_every p) h

among_members : (s : PropSet) (p : PropId) → Among p (members s) → has s p ≡ true
unfolding members
among_members s p i = (filter_among (has s) every_property i).1

module _ (o : State) (sub : Option ℕ) (kind : Kind) (n : ℕ) (answer : List Fact) (said : IsSaid o) (run : MayRun kind sub n (facts o.held)) (may : MayAnswer o.of n kind sub (shown kind sub (facts o.held)) answer) (keeps : keeps_halves kind ≡ true) where
  abbrev new : List HeldValue
  new = computed (missing sub (facts o.held) answer)

  named_held : (p : PropId) → is_named (facts o.held) sub p ≡ true → is_held p o.held ≡ true
  named_held p e =
      let (f, i, at) = any_to (stands_at sub p) (facts o.held) e in
      let (h, j, is) = map_among (λ (h : HeldValue). record { place = h.place; property = h.property; value = h.value }) o.held i in
      let same = same_property_is p f.property (and_parts (same_property p f.property) (same_place f.place (place_of sub p)) at).0 in
      of_held p o.held h j (sym (ap (λ (z : Fact). z.property) is) ∙ sym same)

  later : (p : PropId) → is_held p o.held ≡ true → is_held p (o.held ++ computed (missing sub (facts o.held) answer)) ≡ true
  later p h = held_stays p o.held (computed (missing sub (facts o.held) answer)) h

  target_held : (p : PropId) → has kind.targets p ≡ true → is_held p (o.held ++ computed (missing sub (facts o.held) answer)) ≡ true
  target_held p h =
      let (f, i, is) = map_among (λ (f : Fact). f.property) answer (subst (λ z. Among p z) (sym may.targets) (members_among kind.targets p h)) in
      elim (cases_Bool (is_named (facts o.held) sub f.property)) [
        | inl e ↦ later p (named_held p (subst (λ q. is_named (facts o.held) sub q ≡ true) (sym is) e))
        | inr e ↦ of_held p (o.held ++ computed (missing sub (facts o.held) answer)) (record { place = f.place; property = f.property; value = f.value; origin = _ })
            (among_append_right o.held (among_map (λ (f : Fact). record { place = f.place; property = f.property; value = f.value; origin = _ }) (among_filter (λ f. not (is_named (facts o.held) sub f.property)) i (ap not e)))) (sym is)
      ]

  name_held : (p : PropId) → names kind p ≡ true → is_held p (o.held ++ computed (missing sub (facts o.held) answer)) ≡ true
  name_held p h = elim (or_cases (has kind.targets p) (has kind.sources p) h) [
    | inl t ↦ target_held p t
    | inr s ↦ later p (named_held p (run.sources p s))
  ]

  new_fact : (h : HeldValue) → Among h (computed (missing sub (facts o.held) answer)) → (f : Fact) × Among f answer × (h.place ≡ f.place) × (h.property ≡ f.property)
  new_fact h i =
      let (f, j, is) = map_among (λ (f : Fact). record { place = f.place; property = f.property; value = f.value; origin = _ }) (missing sub (facts o.held) answer) i in
      (f, (filter_among (λ f. not (is_named (facts o.held) sub f.property)) answer j).0, ap (λ (z : HeldValue). z.place) is, ap (λ (z : HeldValue). z.property) is)

  -- what is held now was held or is a target
  held_or_target : (p : PropId) → is_held p (o.held ++ computed (missing sub (facts o.held) answer)) ≡ true → (is_held p o.held ≡ true) ⊎ (has kind.targets p ≡ true)
  held_or_target p e =
      let (h, i, is) = held_of p (o.held ++ computed (missing sub (facts o.held) answer)) e in
      elim (among_append o.held (computed (missing sub (facts o.held) answer)) i) [
        | inl j ↦ inl (of_held p o.held h j is)
        | inr j ↦ (
            let (f, k, place, property) = new_fact h j in
            inr (among_members kind.targets p (subst (λ z. Among z (members kind.targets)) (sym property ∙ is) (subst (λ z. Among f.property z) may.targets (among_map (λ (f : Fact). f.property) k))))
            )
      ]

  not_before : (p : PropId) → not (is_held p (o.held ++ computed (missing sub (facts o.held) answer))) ≡ true → not (is_held p o.held) ≡ true
  not_before p e = ap not (false_from_ne_true (is_held p o.held) (λ h. not_both (later p h) (not-true _ e)))

  lacking : (p : PropId) → not (is_held p (o.held ++ computed (missing sub (facts o.held) answer))) ≡ true → is_held p (o.held ++ computed (missing sub (facts o.held) answer)) ≡ true → ⊥
  lacking p e h = not_both h (not-true _ e)

  abbrev first_rule : Bool
  first_rule = not (has kind.targets Points) || names kind InputLineality

  abbrev second_rule : Bool
  second_rule = not (has kind.targets Inequalities) || names kind Equations

  abbrev third_rule : Bool
  third_rule = not (has kind.targets Vertices) || names kind LinealitySpace || names kind Points || names kind Inequalities || (names kind Facets && names kind AffineHull)

  abbrev fourth_rule : Bool
  fourth_rule = not (has kind.targets Facets) || names kind AffineHull || names kind Points || names kind Inequalities || names kind Vertices

  parts : (first_rule ≡ true) × (second_rule ≡ true) × (third_rule ≡ true) × (fourth_rule ≡ true)
  parts =
      let (abc, d) = and_parts (first_rule && second_rule && third_rule) fourth_rule keeps in
      let (ab, c) = and_parts (first_rule && second_rule) third_rule abc in
      let (a, b) = and_parts first_rule second_rule ab in
      (a, b, c, d)

  if_target : (b c : Bool) → (not b || c) ≡ true → b ≡ true → c ≡ true
  if_target true c h k = h
  if_target false c h k = absurd (true≢false (sym k))

  if_target_4 : (b c d e g : Bool) → (not b || c || d || e || g) ≡ true → b ≡ true → (c ≡ true) ⊎ ((d ≡ true) ⊎ ((e ≡ true) ⊎ (g ≡ true)))
  if_target_4 false c d e g h k = absurd (true≢false (sym k))
  if_target_4 true true d e g h k = inl refl
  if_target_4 true false true e g h k = inr (inl refl)
  if_target_4 true false false true g h k = inr (inr (inl refl))
  if_target_4 true false false false g h k = inr (inr (inr h))

  before : AllFalse (not (is_held ConeAmbientDim o.held)) (is_held Points o.held && not (is_held InputLineality o.held)) (is_held Inequalities o.held && not (is_held Equations o.held))
      (is_held Vertices o.held && not (is_held Points o.held) && not (is_held Inequalities o.held) && not (is_held Facets o.held && is_held AffineHull o.held) && not (is_held LinealitySpace o.held))
      (is_held Facets o.held && not (is_held Points o.held) && not (is_held Inequalities o.held) && not (is_held Vertices o.held) && not (is_held AffineHull o.held))
  before = none_of_five _ _ _ _ _ said.nothing

  half : (p q : PropId) → (is_held p o.held && not (is_held q o.held)) ≡ false → (not (has kind.targets p) || names kind q) ≡ true
      → (is_held p (o.held ++ computed (missing sub (facts o.held) answer)) && not (is_held q (o.held ++ computed (missing sub (facts o.held) answer)))) ≡ false
  half p q old rule = false_from_ne_true _ (λ h.
      let (a, b) = and_parts _ _ h in
      elim (held_or_target p a) [
        | inl k ↦ not_both (and_from _ _ k (not_before q b)) old
        | inr k ↦ lacking q b (name_held q (if_target _ _ rule k))
      ])

  space : (is_held Vertices (o.held ++ computed (missing sub (facts o.held) answer)) && not (is_held Points (o.held ++ computed (missing sub (facts o.held) answer))) && not (is_held Inequalities (o.held ++ computed (missing sub (facts o.held) answer)))
      && not (is_held Facets (o.held ++ computed (missing sub (facts o.held) answer)) && is_held AffineHull (o.held ++ computed (missing sub (facts o.held) answer))) && not (is_held LinealitySpace (o.held ++ computed (missing sub (facts o.held) answer)))) ≡ false
  space = false_from_ne_true _ (λ h.
      let (abcd, e) = and_parts _ _ h in
      let (abc, d) = and_parts _ _ abcd in
      let (ab, c) = and_parts _ _ abc in
      let (a, b) = and_parts _ _ ab in
      elim (held_or_target Vertices a) [
        | inl k ↦ not_both
            (and_from _ _ (and_from _ _ (and_from _ _ (and_from _ _ k (not_before Points b)) (not_before Inequalities c))
            (ap not (false_from_ne_true (is_held Facets o.held && is_held AffineHull o.held) (λ w. let (f, g) = and_parts _ _ w in not_both (and_from _ _ (later Facets f) (later AffineHull g)) (not-true _ d))))) (not_before LinealitySpace e))
            before.fourth
        | inr k ↦ elim (if_target_4 (has kind.targets Vertices) (names kind LinealitySpace) (names kind Points) (names kind Inequalities) (names kind Facets && names kind AffineHull) parts.2 k) [
          | inl w ↦ lacking LinealitySpace e (name_held LinealitySpace w)
          | inr (inl w) ↦ lacking Points b (name_held Points w)
          | inr (inr (inl w)) ↦ lacking Inequalities c (name_held Inequalities w)
          | inr (inr (inr w)) ↦ (let (f, g) = and_parts _ _ w in not_both (and_from _ _ (name_held Facets f) (name_held AffineHull g)) (not-true _ d))
        ]
      ])

  hull : (is_held Facets (o.held ++ computed (missing sub (facts o.held) answer)) && not (is_held Points (o.held ++ computed (missing sub (facts o.held) answer))) && not (is_held Inequalities (o.held ++ computed (missing sub (facts o.held) answer)))
      && not (is_held Vertices (o.held ++ computed (missing sub (facts o.held) answer))) && not (is_held AffineHull (o.held ++ computed (missing sub (facts o.held) answer)))) ≡ false
  hull = false_from_ne_true _ (λ h.
      let (abcd, e) = and_parts _ _ h in
      let (abc, d) = and_parts _ _ abcd in
      let (ab, c) = and_parts _ _ abc in
      let (a, b) = and_parts _ _ ab in
      elim (held_or_target Facets a) [
        | inl k ↦ not_both (and_from _ _ (and_from _ _ (and_from _ _ (and_from _ _ k (not_before Points b)) (not_before Inequalities c)) (not_before Vertices d)) (not_before AffineHull e)) before.fifth
        | inr k ↦ elim (if_target_4 (has kind.targets Facets) (names kind AffineHull) (names kind Points) (names kind Inequalities) (names kind Vertices) parts.3 k) [
          | inl w ↦ lacking AffineHull e (name_held AffineHull w)
          | inr (inl w) ↦ lacking Points b (name_held Points w)
          | inr (inr (inl w)) ↦ lacking Inequalities c (name_held Inequalities w)
          | inr (inr (inr w)) ↦ lacking Vertices d (name_held Vertices w)
        ]
      ])

  pub commit_says : IsSaid (with_held o (computed (missing sub (facts o.held) answer)))
  commit_says = record {
    nothing = none _ _ _ _ _
        (false_from_ne_true _ (λ h. lacking ConeAmbientDim h (later ConeAmbientDim (by (is_held ConeAmbientDim o.held) before.first))))
        (half Points InputLineality before.second parts.0) (half Inequalities Equations before.third parts.1) space hull;
    placed = λ h i own. elim (among_append o.held (computed (missing sub (facts o.held) answer)) (among_Contains _ i)) [
      | inl j ↦ said.placed h (Contains_among j) own
      | inr j ↦ (
          let (f, k, place, property) = new_fact h j in
          place ∙ among_All (λ f. f.place ≡ place_of sub f.property) k may.places ∙ ap (λ t. if t then sub else None) (subst (λ q. has_program q ≡ false) property own)
          )
    ];
  }
    where
      by : (b : Bool) → not b ≡ false → b ≡ true
      by true h = refl
      by false h = absurd (true≢false h)

-- ---- settling
settled_places : (n : ℕ) (ps : List PropId) (h : HeldValue) → Among h (map (settled_at n) ps) → h.place ≡ None
settled_places n ps h i = let (p, j, is) = map_among (settled_at n) ps i in ap (λ (z : HeldValue). z.place) is

pub settling_says : (o : State) → IsSaidOnce o → IsSaid (with_held o (settling o))
settling_says o s = record {
  nothing = by (has_rounds o) refl;
  placed = λ h i own. elim (among_append o.held (settling o) (among_Contains _ i)) [
    | inl j ↦ s.placed h (Contains_among j) own
    | inr j ↦ settled_places (unwrap_or (cols_of o.held) 1) (settling_names o) h j
  ];
}
  where
    n : ℕ
    n = unwrap_or (cols_of o.held) 1

    by : (t : Bool) → has_rounds o ≡ t → names_to_settle (o.held ++ settling o) ≡ []
    by true e = ap (λ t. names_to_settle (o.held ++ map (settled_at n) (if t then [] else names_to_settle o.held))) e ∙ ap names_to_settle (append-nil o.held) ∙ s.nothing e
    by false e = ap (λ t. names_to_settle (o.held ++ map (settled_at n) (if t then [] else names_to_settle o.held))) e ∙ nothing_more o.held n

-- ---- events
abbrev SaidIn : Phase → State → Type 0
SaidIn unsettled o = IsSaidOnce o
SaidIn phase o = IsSaid o

in_turns : (chain left : List RuleId) (o : State) → IsSaid o → SaidIn (turns chain left) o
in_turns chain [] o s = s
in_turns chain (id ∷ left) o s = s

same_held : (o q : State) → q.held ≡ o.held → IsSaid o → IsSaid q
same_held o q e s = record { nothing = ap names_to_settle e ∙ s.nothing; placed = λ h i own. s.placed h (subst (λ z. Contains z h) e i) own }

event_says : (book : List Rule) (keeps : KeepsHalves book) (sub : Option ℕ) (asked : PropSet) (phase : Phase) (c : Configuration) (e : Event) → MayOccur unsaid book sub asked phase c e → SaidIn phase c.object → SaidIn (phase_after phase e) (after_event sub e c).object
event_says book keeps sub asked unsettled c settled may s = settling_says c.object s
event_says book keeps sub asked at_rest c (begun chain) may s = in_turns chain chain c.object s
event_says book keeps sub asked (turn chain id left) c (started kind) may s = s
event_says book keeps sub asked (turn chain id left) c (excluded e) may s = same_held c.object _ refl s
event_says book keeps sub asked (running chain id left) c (committed answer) may s =
    in_turns chain left _ (commit_says c.object sub may.rule.kind (columns c.object) answer s may.started.may_run may.may_answer (keeps id may.rule may.is_rule))
event_says book keeps sub asked (running chain id left) c (excluded e) may s = same_held c.object _ refl s
event_says book keeps sub asked (over chain e) c (written r) may s = same_held c.object _ refl s
event_says book keeps sub asked phase c e may s = absurd may

events_say : (book : List Rule) (keeps : KeepsHalves book) (sub : Option ℕ) (asked : PropSet) (phase : Phase) (c : Configuration) (events : List Event) → IsTrace unsaid book sub asked phase c events → SaidIn phase c.object
    → SaidIn (phase_after_all phase events) (after_events sub events c).object
events_say book keeps sub asked phase c [] trace s = s
events_say book keeps sub asked phase c (e ∷ events) (may, trace) s = events_say book keeps sub asked (phase_after phase e) (after_event sub e c) events trace (event_says book keeps sub asked phase c e may s)

pub ensured_is_said : EnsuredIsSaid
ensured_is_said book keeps sub asked ending old new e s =
    let said : IsSaid new.object = subst (λ (c : Configuration). IsSaid c.object) (sym e.reaches.becomes)
    (subst (λ (q : Phase). SaidIn q (after_events sub e.reaches.events old).object) e.reaches.phase_is (events_say book keeps sub asked unsettled old e.reaches.events e.reaches.trace s)) in
    (said, record { nothing = λ h. said.nothing; placed = said.placed })
