-- What is sound stays sound when a set is met, waits anew or is settled.
use Rattle.std.proofs.Common.{◌≡◌, ◌≢◌, ℕ, ◌<◌, ◌≤◌, Option, Some, None, List, [], ◌∷◌, ◌++◌, length, take, ◌⊎◌, inl, inr, refl, sym, ap, ◌∙◌, subst, arith, AllPairs, Contains, IsSome, IfSome}
use Rattle.std.specs.Prelude.{slice_get, slice_index_or, IsSomeAnd}
use Rattle.std.proofs.lemmas.Bool.{cases_eq, cases_lt}
use Rattle.std.proofs.lemmas.List.{length-append, take-append-le}
use Rattle.std.proofs.lemmas.List.Elements.{Contains-append_left, Contains-push, Contains-push_cases, Contains-get_or}
use Rattle.std.proofs.lemmas.List.Quantifiers.{all_pairs_push}
use Rattle.std.proofs.lemmas.Option.{slice_get_within}
use Rattle.pm_props.specs.declared.set.PropSet.{PropSet}
use Rattle.pm_weights.specs.declared.Cost.{Cost}
use Rattle.pm_props.specs.Sets.{IsSubset}
use Rattle.pm_weights.specs.Weights.{IsBelow, IsAtMost}
use Rattle.pm_weights.proofs.CostOrder.{at_most_itself, at_most_trans, at_most_from_below, at_most_or_below}
use Rattle.pm_rules.specs.declared.table.TableRow.{TableRow}
use Rattle.pm_rules.specs.Certificates.{IsTableRowBefore}
use Rattle.pm_plan.specs.declared.moves.Move.{Move}
use Rattle.pm_plan.specs.declared.track.Link.{Link}
use Rattle.pm_plan.specs.declared.search.Goal.{Goal}
use Rattle.pm_plan.specs.declared.search.Search.{Search}
use Rattle.pm_plan.specs.Tracks.{LinksTo, AreLinked}
use Rattle.pm_plan.specs.Searches.{cost_known, link_waiting, HasGoal, IsKnownAt, Offered, IsSoundSearch, IsNext, Settles, Renews, Offers}
use Rattle.pm_plan.proofs.Options.{same_some, none_is_not, some_from, and_parts_of, some_and_from, if_some_at, if_some_from, get_front, get_pushed, get_more}
use Rattle.pm_rules.proofs.RowOrder.{same_row}
use Rattle.pm_plan.proofs.Order.{row_or_not}

-- ---- links
pub links_more : (moves : List Move) (start : TableRow) (rows more : List TableRow) (link : Option Link) (row : TableRow)
    → LinksTo moves start rows link row → LinksTo moves start (rows ++ more) link row
links_more moves start rows more None row h = h
links_more moves start rows more (Some link) row (before, e, makes) = (before, get_more rows more link.from before e, makes)

take_all : {X : Type 0} (xs ys : List X) (n : ℕ) → n ≡ length xs → take n (xs ++ ys) ≡ xs
take_all {X = X} [] ys n e = rw e refl
take_all {X = X} (x ∷ xs) ys n e = rw e (ap (λ (l : List X). x ∷ l) (take_all xs ys (length xs) refl))

pub linked_push : (moves : List Move) (start : TableRow) (rows : List TableRow) (links : List (Option Link)) (row : TableRow) (link : Option Link)
    → AreLinked moves start rows links → LinksTo moves start rows link row → AreLinked moves start (rows ++ row ∷ []) (links ++ link ∷ [])
linked_push moves start rows links row link h last = record {
  paired = omega (arith, h.paired, length-append rows (row ∷ []), length-append links (link ∷ []));
  linked = λ i r l e f. elim (cases_lt i (length rows)) [
    | inl low ↦
        let short : i ≤ length rows = omega arith in
        let in_links : i < length links = omega (arith, h.paired) in
        subst (λ (front : List TableRow). LinksTo moves start front l r) (sym (take-append-le i rows (row ∷ []) short))
        (h.linked i r l (sym (get_front rows (row ∷ []) i low) ∙ e) (sym (get_front links (link ∷ []) i in_links) ∙ f))
    | inr high ↦
        let within = slice_get_within (rows ++ row ∷ []) i r e in
        let at : i ≡ length rows = omega (arith, length-append rows (row ∷ [])) in
        let is_row : row ≡ r = same_some row r (sym (get_pushed rows row) ∙ ap (slice_get (rows ++ row ∷ [])) (sym at) ∙ e) in
        let is_link : link ≡ l = same_some link l (sym (get_pushed links link) ∙ ap (slice_get (links ++ link ∷ [])) (h.paired ∙ sym at) ∙ f) in
        subst (λ (front : List TableRow). LinksTo moves start front l r) (sym (take_all rows (row ∷ []) i at))
        (subst (λ (k : Option Link). LinksTo moves start rows k r) is_link (subst (λ (s : TableRow). LinksTo moves start rows link s) is_row last))
  ];
}

-- ---- a set is met
module _ (moves : List Move) (start : TableRow) (asked : PropSet) where
  known_of_same : (s : Search) → IsSoundSearch moves start asked s → (row other : TableRow) → other.set ≡ row.set → cost_known s other.set ≡ Some other.cost → cost_known s row.set ≡ Some other.cost
  known_of_same s h row other same e = subst (λ (set : PropSet). cost_known s set ≡ Some other.cost) same e

  module _ (old new : Search) (row : TableRow) (link : Option Link) (h : IsSoundSearch moves start asked old) (r : Renews old new row link) (dearer : IsKnownAt old row → ⊥)
      (opened : IsSubset asked row.set → ⊥) (links : LinksTo moves start old.rows.items link row)
      (above : (settled : TableRow) → Contains old.rows.items settled → IsBelow settled.cost row.cost) where
    -- a settled set is not the one that is met
    settled_apart : (settled : TableRow) → Contains old.rows.items settled → settled.set ≢ row.set
    settled_apart settled there same =
        dearer (some_and_from (cost_known old row.set) (λ (c : Cost). IsAtMost c row.cost) settled.cost (known_of_same old h row settled same (h.rows_known settled there))
        (at_most_from_below settled.cost row.cost (above settled there)))

    -- what waits with the set of the row is the row
    waits_is : (other : TableRow) → other.set ≡ row.set → IsSome (link_waiting new other) → other ≡ row
    waits_is other same waits = elim (row_or_not other row) [
      | inl e ↦ e
      | inr n ↦ absurd (none_is_not (link_waiting new other) (r.gone other n same (known_of_same old h row other same (h.waiting_known other (r.rest other n same waits)))) waits)
    ]

    renewed_rows : (settled : TableRow) → Contains new.rows.items settled → Contains old.rows.items settled
    renewed_rows settled there = subst (λ (rows : List TableRow). Contains rows settled) r.rows there

    pub renewed_sound : IsSoundSearch moves start asked new
    renewed_sound = record {
      linked = subst (λ (rows : List TableRow). AreLinked moves start rows new.links.items) (sym r.rows) (subst (AreLinked moves start old.rows.items) (sym r.links) h.linked);
      ordered = subst (AllPairs IsTableRowBefore) (sym r.rows) h.ordered;
      rows_known = λ settled there.
          r.known_others settled.set (settled_apart settled (renewed_rows settled there)) ∙ h.rows_known settled (renewed_rows settled there);
      waiting_known = λ other waits. elim (cases_eq other.set row.set) [
        | inl same ↦ subst (λ (w : TableRow). cost_known new w.set ≡ Some w.cost) (sym (waits_is other same waits)) r.known_here
        | inr apart ↦ r.known_others other.set apart ∙ h.waiting_known other (subst IsSome (r.others other apart) waits)
      ];
      known_met = λ other known. elim (cases_eq other.set row.set) [
        | inl same ↦
            let cost : row.cost ≡ other.cost = same_some row.cost other.cost (sym r.known_here ∙ subst (λ (set : PropSet). cost_known new set ≡ Some other.cost) same known) in
            inr (subst (λ (w : TableRow). IsSome (link_waiting new w)) (sym (same_row other row same (sym cost))) (some_from (link_waiting new row) link r.here))
        | inr apart ↦ elim (h.known_met other (sym (r.known_others other.set apart) ∙ known)) [
          | inl there ↦ inl (subst (λ (rows : List TableRow). Contains rows other) (sym r.rows) there)
          | inr waits ↦ inr (subst IsSome (sym (r.others other apart)) waits)
        ]
      ];
      later = λ settled wait there waits. elim (cases_eq wait.set row.set) [
        | inl same ↦ subst (IsTableRowBefore settled) (sym (waits_is wait same waits)) (inl (above settled (renewed_rows settled there)))
        | inr apart ↦ h.later settled wait (renewed_rows settled there) (subst IsSome (r.others wait apart) waits)
      ];
      waiting_linked = λ other. if_some_from (link_waiting new other) (λ l. LinksTo moves start new.rows.items l other) (λ l e.
          subst (λ (rows : List TableRow). LinksTo moves start rows l other) (sym r.rows) (elim (cases_eq other.set row.set) [
            | inl same ↦
                let is : other ≡ row = waits_is other same (some_from (link_waiting new other) l e) in
                let is_link : link ≡ l = same_some link l (sym r.here ∙ subst (λ (w : TableRow). link_waiting new w ≡ Some l) is e) in
                subst (λ (w : TableRow). LinksTo moves start old.rows.items l w) (sym is) (subst (λ (k : Option Link). LinksTo moves start old.rows.items k row) is_link links)
            | inr apart ↦ if_some_at (link_waiting old other) (λ k. LinksTo moves start old.rows.items k other) l (sym (r.others other apart) ∙ e) (h.waiting_linked other)
          ]));
      known_open = λ set some has. elim (cases_eq set row.set) [
        | inl same ↦ opened (subst (IsSubset asked) same has)
        | inr apart ↦ h.known_open set (subst IsSome (r.known_others set apart) some) has
      ];
      goal_linked = subst (λ (g : Option Goal). IfSome g (λ x. LinksTo moves start new.rows.items x.link x.row × IsSubset asked x.row.set)) (sym r.goal)
          (subst (λ (rows : List TableRow). IfSome old.goal (λ x. LinksTo moves start rows x.link x.row × IsSubset asked x.row.set)) (sym r.rows) h.goal_linked);
      goal_above = λ settled there. subst (λ (g : Option Goal). IfSome g (λ x. IsBelow settled.cost x.row.cost)) (sym r.goal) (h.goal_above settled (renewed_rows settled there));
    }

-- ---- the four ways of meeting a set
known_renewed : (old new : Search) (row : TableRow) (link : Option Link) → Renews old new row link → (IsKnownAt old row → ⊥) → (other : TableRow) → IsKnownAt old other → IsKnownAt new other
known_renewed old new row link r dearer other h =
    let had = and_parts_of (cost_known old other.set) (λ (c : Cost). IsAtMost c other.cost) h in
    elim (cases_eq other.set row.set) [
      | inl same ↦
          let at : cost_known old row.set ≡ Some had.0 = subst (λ (set : PropSet). cost_known old set ≡ Some had.0) same had.1 in
          let cheaper : IsAtMost row.cost had.0 = elim (at_most_or_below had.0 row.cost) [
            | inl k ↦ absurd (dearer (some_and_from (cost_known old row.set) (λ (c : Cost). IsAtMost c row.cost) had.0 at k))
            | inr k ↦ at_most_from_below row.cost had.0 k
          ] in
          some_and_from (cost_known new other.set) (λ (c : Cost). IsAtMost c other.cost) row.cost (subst (λ (set : PropSet). cost_known new set ≡ Some row.cost) (sym same) r.known_here)
          (at_most_trans row.cost had.0 other.cost cheaper had.2)
      | inr apart ↦ some_and_from (cost_known new other.set) (λ (c : Cost). IsAtMost c other.cost) had.0 (r.known_others other.set apart ∙ had.1) had.2
    ]

pub offers_renewed : (asked : PropSet) (old new : Search) (row : TableRow) (link : Option Link) → Renews old new row link → (IsKnownAt old row → ⊥)
    → (IsSubset asked row.set → ⊥) → Offers asked old new row link
offers_renewed asked old new row link r dearer opened = record {
  rows = r.rows;
  links = r.links;
  offered = inr (some_and_from (cost_known new row.set) (λ (c : Cost). IsAtMost c row.cost) row.cost r.known_here (at_most_itself row.cost));
  keeps = λ other h. elim h [
    | inl k ↦ inl (k.0, subst (λ (g : Option Goal). IsSomeAnd g (λ x. IsAtMost x.row.cost other.cost)) (sym r.goal) k.1)
    | inr k ↦ inr (known_renewed old new row link r dearer other k)
  ];
  sound = λ moves start h links above. renewed_sound moves start asked old new row link h r dearer opened links above;
}

abbrev pub with_goal : Search → Goal → Search
with_goal s g = record s { goal = Some g }

pub offers_goal : (asked : PropSet) (s : Search) (row : TableRow) (link : Option Link) → (HasGoal s row.cost → ⊥) → IsSubset asked row.set
    → Offers asked s (with_goal s (record { row = row; link = link })) row link
offers_goal asked s row link dearer has = record {
  rows = refl;
  links = refl;
  offered = inl (has, at_most_itself row.cost);
  keeps = λ other h. elim h [
    | inl k ↦
        let g = and_parts_of s.goal (λ (x : Goal). IsAtMost x.row.cost other.cost) k.1 in
        inl (
          k.0,
          elim (at_most_or_below g.0.row.cost row.cost) [
            | inl l ↦ absurd (dearer (some_and_from s.goal (λ (x : Goal). IsAtMost x.row.cost row.cost) g.0 g.1 l))
            | inr l ↦ at_most_trans row.cost g.0.row.cost other.cost (at_most_from_below row.cost g.0.row.cost l) g.2
          ],
        )
    | inr k ↦ inr k
  ];
  sound = λ moves start h links above. record {
    linked = h.linked;
    ordered = h.ordered;
    rows_known = h.rows_known;
    waiting_known = h.waiting_known;
    known_met = h.known_met;
    later = h.later;
    waiting_linked = h.waiting_linked;
    known_open = h.known_open;
    goal_linked = (links, has);
    goal_above = above;
  };
}

-- ---- a set is settled
module _ (moves : List Move) (start : TableRow) (asked : PropSet) (old new : Search) (row : TableRow) (link : Option Link) (h : IsSoundSearch moves start asked old)
    (s : Settles old new row link) (next : IsNext old row link) (below : HasGoal old row.cost → ⊥) where
  row_waits : IsSome (link_waiting old row)
  row_waits = some_from (link_waiting old row) link next.waits

  still_waits : (other : TableRow) → IsSome (link_waiting new other) → (other ≢ row) × IsSome (link_waiting old other)
  still_waits other waits =
      let apart : other ≢ row = λ e. none_is_not (link_waiting new other) (subst (λ (w : TableRow). link_waiting new w ≡ None) (sym e) s.here) waits in
      (apart, subst IsSome (s.others other apart) waits)

  settled_cases : (settled : TableRow) → Contains new.rows.items settled → Contains old.rows.items settled ⊎ (row ≡ settled)
  settled_cases settled there = Contains-push_cases old.rows.items row settled (subst (λ (rows : List TableRow). Contains rows settled) s.rows there)

  pub settled_sound : IsSoundSearch moves start asked new
  settled_sound = record {
    linked = subst (λ (rows : List TableRow). AreLinked moves start rows new.links.items) (sym s.rows) (subst (AreLinked moves start (old.rows.items ++ row ∷ [])) (sym s.links)
        (linked_push moves start old.rows.items old.links.items row link h.linked (if_some_at (link_waiting old row) (λ l. LinksTo moves start old.rows.items l row) link next.waits (h.waiting_linked row))));
    ordered = subst (AllPairs IsTableRowBefore) (sym s.rows) (all_pairs_push IsTableRowBefore old.rows.items row h.ordered (λ k d within.
        h.later (slice_index_or old.rows.items k d) row (Contains-get_or old.rows.items k d within) row_waits));
    rows_known = λ settled there. s.known settled.set ∙ (elim (settled_cases settled there) [
      | inl t ↦ h.rows_known settled t
      | inr e ↦ subst (λ (r : TableRow). cost_known old r.set ≡ Some r.cost) e (h.waiting_known row row_waits)
    ]);
    waiting_known = λ other waits. s.known other.set ∙ h.waiting_known other (still_waits other waits).1;
    known_met = λ other known. elim (h.known_met other (sym (s.known other.set) ∙ known)) [
      | inl there ↦ inl (subst (λ (rows : List TableRow). Contains rows other) (sym s.rows) (Contains-append_left old.rows.items (row ∷ []) other there))
      | inr waits ↦ elim (row_or_not other row) [
        | inl e ↦ inl (subst (λ (rows : List TableRow). Contains rows other) (sym s.rows) (subst (Contains (old.rows.items ++ row ∷ [])) (sym e) (Contains-push old.rows.items row)))
        | inr apart ↦ inr (subst IsSome (sym (s.others other apart)) waits)
      ]
    ];
    later = λ settled wait there waits.
        let w = still_waits wait waits in
        elim (settled_cases settled there) [
          | inl t ↦ h.later settled wait t w.1
          | inr e ↦ subst (λ (r : TableRow). IsTableRowBefore r wait) e (elim (next.first wait w.1) [
            | inl same ↦ absurd (w.0 (sym same))
            | inr b ↦ b
          ])
        ];
    waiting_linked = λ other. if_some_from (link_waiting new other) (λ l. LinksTo moves start new.rows.items l other) (λ l e.
        let w = still_waits other (some_from (link_waiting new other) l e) in
        subst (λ (rows : List TableRow). LinksTo moves start rows l other) (sym s.rows) (links_more moves start old.rows.items (row ∷ []) l other
        (if_some_at (link_waiting old other) (λ k. LinksTo moves start old.rows.items k other) l (sym (s.others other w.0) ∙ e) (h.waiting_linked other))));
    known_open = λ set some has. h.known_open set (subst IsSome (s.known set) some) has;
    goal_linked = subst (λ (g : Option Goal). IfSome g (λ x. LinksTo moves start new.rows.items x.link x.row × IsSubset asked x.row.set)) (sym s.goal)
        (if_some_from old.goal (λ x. LinksTo moves start new.rows.items x.link x.row × IsSubset asked x.row.set) (λ g e.
        let had = if_some_at old.goal (λ x. LinksTo moves start old.rows.items x.link x.row × IsSubset asked x.row.set) g e h.goal_linked in
        (subst (λ (rows : List TableRow). LinksTo moves start rows g.link g.row) (sym s.rows) (links_more moves start old.rows.items (row ∷ []) g.link g.row had.0), had.1)));
    goal_above = λ settled there. subst (λ (g : Option Goal). IfSome g (λ x. IsBelow settled.cost x.row.cost)) (sym s.goal) (elim (settled_cases settled there) [
      | inl t ↦ h.goal_above settled t
      | inr e ↦ if_some_from old.goal (λ x. IsBelow settled.cost x.row.cost) (λ g f. subst (λ (r : TableRow). IsBelow r.cost g.row.cost) e (elim (at_most_or_below g.row.cost row.cost) [
        | inl k ↦ absurd (below (some_and_from old.goal (λ (x : Goal). IsAtMost x.row.cost row.cost) g f k))
        | inr k ↦ k
      ]))
    ]);
  }

  -- what was met stays so
  pub settled_offered : (other : TableRow) → Offered asked old other → Offered asked new other
  settled_offered other (inl k) = inl (k.0, subst (λ (g : Option Goal). IsSomeAnd g (λ x. IsAtMost x.row.cost other.cost)) (sym s.goal) k.1)
  settled_offered other (inr k) = inr (subst (λ (o : Option Cost). IsSomeAnd o (λ c. IsAtMost c other.cost)) (sym (s.known other.set)) k)
