-- Marking the nodes of lists.
use Rattle.pm_vector.proofs.Lists.{Among, Contains_among, among_All, among_Contains, here, there}
use Rattle.pm_geom.specs.Graphs.{AreNeighbours}
use Rattle.pm_graph.specs.Levels.{AreBelow, AreNew, IsSeen, MarksNeighbours, unseen_count}
use Rattle.std.proofs.Common.{ap, arith, get_or, inl, inr, refl, subst, sym, ◌∙◌}
use Rattle.std.proofs.lemmas.Bool.{cases_eq}
use Rattle.std.proofs.lemmas.List.{get_or-set_other, get_or-set_same, get_or_default, take_all, take_more}
use Rattle.std.proofs.lemmas.List.Elements.{Contains-append_left, Contains-push, Contains-push_cases}
use Rattle.std.specs.List.{Contains, slice_index_or}
use Rattle.std.specs.Prelude.{Bool, IsTrue, List, [], false, length, replicate, slice_set, suc, take, true, zero, ℕ, ◌+◌, ◌++◌, ◌<◌, ◌↔◌, ◌∷◌, ◌≡◌, ◌≤◌, ◌⊎◌}

pub true_or_not : (b : Bool) → IsTrue b ⊎ ¬ (IsTrue b)
true_or_not true = inl refl
true_or_not false = inr (λ e. cc)

pub seen_below : (seen : List Bool) (j : ℕ) → IsSeen seen j → j < length seen
seen_below [] j t = absurd cc
seen_below (b ∷ seen) zero t = omega arith
seen_below (b ∷ seen) (suc j) t = let l = seen_below seen j t in omega arith

-- one node more is marked
pub seen_set : (seen : List Bool) (i j : ℕ) → i < length seen → IsSeen (slice_set seen i true) j ↔ (IsSeen seen j ⊎ (i ≡ j))
seen_set seen i j l = elim (cases_eq j i) [
  | inl e ↦ (λ t. inr (sym e), λ w. subst (λ k. IsSeen (slice_set seen i true) k) (sym e) (get_or-set_same seen i true false l))
  | inr ne ↦ (
    λ t. inl (sym (get_or-set_other seen i j true false ne) ∙ t),
    λ w. elim w [ inl t ↦ get_or-set_other seen i j true false ne ∙ t | inr e ↦ absurd (ne (sym e)) ],
  )
]

pub unseen_set : (seen : List Bool) (i : ℕ) → i < length seen → ¬ (IsSeen seen i) → unseen_count (slice_set seen i true) + 1 ≡ unseen_count seen
unseen_set [] i l u = absurd (omega arith)
unseen_set (true ∷ seen) zero l u = absurd (u refl)
unseen_set (false ∷ seen) zero l u = omega arith
unseen_set (b ∷ seen) (suc i) l u = let e = unseen_set seen i (omega arith) u in omega arith

pub all_seen : (seen : List Bool) → unseen_count seen ≡ 0 → (j : ℕ) → j < length seen → IsSeen seen j
all_seen [] e j l = absurd (omega arith)
all_seen (true ∷ seen) e zero l = refl
all_seen (true ∷ seen) e (suc j) l = all_seen seen (let z : unseen_count seen ≡ 0 = omega arith in z) j (omega arith)
all_seen (false ∷ seen) e j l = absurd (omega arith)

pub unseen_replicate : (n : ℕ) → unseen_count (replicate n false) ≡ n
unseen_replicate zero = refl
unseen_replicate (suc n) = let e = unseen_replicate n in let f : unseen_count (replicate (suc n) false) ≡ 1 + unseen_count (replicate n false) = refl in omega arith

pub seen_replicate : (n j : ℕ) → ¬ (IsSeen (replicate n false) j)
seen_replicate zero j t = cc
seen_replicate (suc n) zero t = cc
seen_replicate (suc n) (suc j) t = seen_replicate n j t

-- one element more of a list
pub contains_more : {X : Type 0} (row : List X) (k : ℕ) (x : X) → k < length row → x ≡ get_or row k x → (j : X) → Contains (take (k + 1) row) j ↔ (Contains (take k row) j ⊎ (x ≡ j))
contains_more row k x l e j = subst (λ xs. Contains xs j ↔ (Contains (take k row) j ⊎ (x ≡ j))) (sym (take_more row k x l ∙ ap (λ y. take k row ++ y ∷ []) (sym e))) (
  Contains-push_cases (take k row) x j,
  λ w. elim w [ inl c ↦ Contains-append_left (take k row) (x ∷ []) j c | inr q ↦ subst (λ y. Contains (take k row ++ x ∷ []) y) q (Contains-push (take k row) x) ],
)

-- ---- the nodes of one list
pub record Visited (old seen : List Bool) (before next row : List ℕ) : Type 0 where
  pub seen_is : (j : ℕ) → IsSeen seen j ↔ (IsSeen old j ⊎ Contains row j)
  pub next_is : (j : ℕ) → Contains next j ↔ (Contains before j ⊎ (Contains row j × ¬ (IsSeen old j)))
  pub count : unseen_count seen + length next ≡ unseen_count old + length before

no_more : (j : ℕ) → ¬ (Contains [] j)
no_more j c = absurd (let l = c.1 in omega arith)

pub none_visited : (old : List Bool) (before row : List ℕ) → row ≡ [] → Visited old old before before row
none_visited old before row e = subst (λ xs. Visited old old before before xs) (sym e) (record {
  seen_is = λ j. (λ t. inl t, λ w. elim w [ inl t ↦ t | inr c ↦ absurd (no_more j c) ]);
  next_is = λ j. (λ c. inl c, λ w. elim w [ inl c ↦ c | inr c ↦ absurd (no_more j c.0) ]);
  count = refl;
})

module _ (old seen : List Bool) (before next row : List ℕ) (k x : ℕ) (l : k < length row) (e : x ≡ get_or row k x) (v : Visited old seen before next (take k row)) where
  -- the node was marked
  pub passed : IsSeen seen x → Visited old seen before next (take (k + 1) row)
  passed t = record {
    seen_is = λ j. (
      λ s. elim ((v.seen_is j).0 s) [ inl o ↦ inl o | inr c ↦ inr ((contains_more row k x l e j).1 (inl c)) ],
      λ w. elim w [
        | inl o ↦ (v.seen_is j).1 (inl o)
        | inr c ↦ elim ((contains_more row k x l e j).0 c) [ inl d ↦ (v.seen_is j).1 (inr d) | inr q ↦ subst (λ y. IsSeen seen y) q t ]
      ],
    );
    next_is = λ j. (
      λ c. elim ((v.next_is j).0 c) [ inl b ↦ inl b | inr d ↦ inr ((contains_more row k x l e j).1 (inl d.0), d.1) ],
      λ w. elim w [
        | inl b ↦ (v.next_is j).1 (inl b)
        | inr d ↦ elim ((contains_more row k x l e j).0 d.0) [
          | inl c ↦ (v.next_is j).1 (inr (c, d.1))
          | inr q ↦ elim ((v.seen_is j).0 (subst (λ y. IsSeen seen y) q t)) [ inl o ↦ absurd (d.1 o) | inr c ↦ (v.next_is j).1 (inr (c, d.1)) ]
        ]
      ],
    );
    count = v.count;
  }

  -- the node is marked now
  module _ (lx : x < length seen) (u : ¬ (IsSeen seen x)) where
    abbrev seen' : List Bool
    seen' = slice_set seen x true

    abbrev next' : List ℕ
    next' = next ++ x ∷ []

    not_old : ¬ (IsSeen old x)
    not_old o = u ((v.seen_is x).1 (inl o))

    seen_more : (j : ℕ) → IsSeen seen' j ↔ (IsSeen old j ⊎ Contains (take (k + 1) row) j)
    seen_more j = (
      λ s. elim ((seen_set seen x j lx).0 s) [
        | inl t ↦ elim ((v.seen_is j).0 t) [ inl o ↦ inl o | inr c ↦ inr ((contains_more row k x l e j).1 (inl c)) ]
        | inr q ↦ inr ((contains_more row k x l e j).1 (inr q))
      ],
      λ w. elim w [
        | inl o ↦ (seen_set seen x j lx).1 (inl ((v.seen_is j).1 (inl o)))
        | inr c ↦ elim ((contains_more row k x l e j).0 c) [ inl d ↦ (seen_set seen x j lx).1 (inl ((v.seen_is j).1 (inr d))) | inr q ↦ (seen_set seen x j lx).1 (inr q) ]
      ],
    )

    next_more : (j : ℕ) → Contains next' j ↔ (Contains before j ⊎ (Contains (take (k + 1) row) j × ¬ (IsSeen old j)))
    next_more j = (
      λ c. elim (Contains-push_cases next x j c) [
        | inl d ↦ elim ((v.next_is j).0 d) [ inl b ↦ inl b | inr f ↦ inr ((contains_more row k x l e j).1 (inl f.0), f.1) ]
        | inr q ↦ inr ((contains_more row k x l e j).1 (inr q), subst (λ y. ¬ (IsSeen old y)) q not_old)
      ],
      λ w. elim w [
        | inl b ↦ Contains-append_left next (x ∷ []) j ((v.next_is j).1 (inl b))
        | inr d ↦ elim ((contains_more row k x l e j).0 d.0) [
          | inl c ↦ Contains-append_left next (x ∷ []) j ((v.next_is j).1 (inr (c, d.1)))
          | inr q ↦ subst (λ y. Contains next' y) q (Contains-push next x)
        ]
      ],
    )

    pub marked : (n : List ℕ) → n ≡ next' → Visited old seen' before n (take (k + 1) row)
    marked n en = subst (λ xs. Visited old seen' before xs (take (k + 1) row)) (sym en) (record { seen_is = seen_more; next_is = next_more; count = counted })
      where
        longer : (xs : List ℕ) (y : ℕ) → length (xs ++ y ∷ []) ≡ length xs + 1
        longer [] y = refl
        longer (z ∷ xs) y = let h = longer xs y in omega arith

        counted : unseen_count seen' + length next' ≡ unseen_count old + length before
        counted = let a = unseen_set seen x lx u in let b = longer next x in let c = v.count in omega arith

-- ---- the nodes of a front
pub record Leveled (rows : List (List ℕ)) (front : List ℕ) (old seen : List Bool) (next : List ℕ) (left : ℕ) : Type 0 where
  pub marks : MarksNeighbours rows front old seen
  pub new : AreNew old seen next
  pub count : unseen_count seen + length next ≡ left
  pub len : length seen ≡ length old

pub none_leveled : (rows : List (List ℕ)) (front : List ℕ) (old : List Bool) (next : List ℕ) (left : ℕ) → front ≡ [] → next ≡ [] → unseen_count old ≡ left → Leveled rows front old old next left
none_leveled rows front old next left ef en ec = subst (λ xs. Leveled rows xs old old next left) (sym ef) (subst (λ xs. Leveled rows [] old old xs left) (sym en) (record {
  marks = λ j. (λ t. inl t, λ w. elim w [ inl t ↦ t | inr c ↦ absurd (no_more c.0 c.1) ]);
  new = λ j. (λ c. absurd (no_more j c), λ w. absurd (w.1 w.0));
  count = omega arith;
  len = refl;
}))

neighbour_below : (n : ℕ) (rows : List (List ℕ)) → AreBelow n rows → (i j : ℕ) → AreNeighbours rows i j → j < n
neighbour_below n [] b i j c = absurd (let l = c.1 in omega arith)
neighbour_below n (r ∷ rows) b zero j c = among_All (λ j. j < n) (among_Contains r c) (b 0 [] (omega arith))
neighbour_below n (r ∷ rows) b (suc i) j c = neighbour_below n rows (λ k d l. b (suc k) d (omega arith)) i j c

pub neighbours_below : (n : ℕ) (rows : List (List ℕ)) → AreBelow n rows → (i j : ℕ) → AreNeighbours rows i j → j < n
neighbours_below n rows b i j c = neighbour_below n rows b i j c

module _ (rows : List (List ℕ)) (front : List ℕ) (old seen : List Bool) (next : List ℕ) (left k : ℕ) (v : Leveled rows (take k front) old seen next left) where
  -- all are marked before the end
  pub ended : AreBelow (length rows) rows → length old ≡ length rows → length next ≡ left → ((u : ℕ) → Contains (take k front) u → Contains front u) → Leveled rows front old seen next left
  ended b eo el some = record {
    marks = λ j. (
      λ t. elim ((v.marks j).0 t) [ inl o ↦ inl o | inr w ↦ inr (w.0, some w.0 w.1, w.2) ],
      λ w. elim w [
        | inl o ↦ (v.marks j).1 (inl o)
        | inr f ↦ all_seen seen (let c = v.count in omega arith) j (let l = neighbour_below (length rows) rows b f.0 j f.2 in let e = v.len in omega arith)
      ],
    );
    new = v.new;
    count = v.count;
    len = v.len;
  }

  -- one node more of the front
  pub leveled : (x : ℕ) (row : List ℕ) (seen' : List Bool) (next' : List ℕ) → k < length front → x ≡ get_or front k x → row ≡ slice_index_or rows x [] → Visited seen seen' next next' row → length seen' ≡ length seen → Leveled rows (take (k + 1) front) old seen' next' left
  leveled x row seen' next' l e er w el = record {
    marks = λ j. (
      λ t. elim ((w.seen_is j).0 t) [
        | inl s ↦ elim ((v.marks j).0 s) [ inl o ↦ inl o | inr f ↦ inr (f.0, (contains_more front k x l e f.0).1 (inl f.1), f.2) ]
        | inr c ↦ inr (x, (contains_more front k x l e x).1 (inr refl), subst (λ xs. Contains xs j) er c)
      ],
      λ m. elim m [
        | inl o ↦ (w.seen_is j).1 (inl ((v.marks j).1 (inl o)))
        | inr f ↦ elim ((contains_more front k x l e f.0).0 f.1) [
          | inl c ↦ (w.seen_is j).1 (inl ((v.marks j).1 (inr (f.0, c, f.2))))
          | inr q ↦ (w.seen_is j).1 (inr (subst (λ xs. Contains xs j) (sym er) (subst (λ y. AreNeighbours rows y j) (sym q) f.2)))
        ]
      ],
    );
    new = λ j. (
      λ c. elim ((w.next_is j).0 c) [
        | inl d ↦ (let f = (v.new j).0 d in ((w.seen_is j).1 (inl f.0), f.1))
        | inr d ↦ ((w.seen_is j).1 (inr d.0), λ o. d.1 ((v.marks j).1 (inl o)))
      ],
      λ d. elim (true_or_not (slice_index_or seen j false)) [
        | inl s ↦ (w.next_is j).1 (inl ((v.new j).1 (s, d.1)))
        | inr s ↦ elim ((w.seen_is j).0 d.0) [ inl t ↦ absurd (s t) | inr c ↦ (w.next_is j).1 (inr (c, s)) ]
      ],
    );
    count = let a = w.count in let b = v.count in omega arith;
    len = el ∙ v.len;
  }

-- ---- the whole list
pub all_visited : (old seen : List Bool) (before next row : List ℕ) (k : ℕ) → length row ≤ k → Visited old seen before next (take k row) → Visited old seen before next row
all_visited old seen before next row k l v = subst (λ xs. Visited old seen before next xs) (take_all k row l) v

pub all_leveled : (rows : List (List ℕ)) (front : List ℕ) (old seen : List Bool) (next : List ℕ) (left k : ℕ) → length front ≤ k → Leveled rows (take k front) old seen next left → Leveled rows front old seen next left
all_leveled rows front old seen next left k l v = subst (λ xs. Leveled rows xs old seen next left) (take_all k front l) v

taken : (xs : List ℕ) (k : ℕ) {u : ℕ} → Among u (take k xs) → Among u xs
taken xs zero i = elim i [ ]
taken [] (suc k) i = elim i [ ]
taken (x ∷ xs) (suc k) here = here
taken (x ∷ xs) (suc k) (there j) = there (taken xs k j)

pub taken_some : (front : List ℕ) (k u : ℕ) → Contains (take k front) u → Contains front u
taken_some front k u c = Contains_among (taken front k (among_Contains (take k front) c))

-- ---- a turn of the loop over a list
module _ (old seen : List Bool) (before next row : List ℕ) (k : ℕ) (l : k < length row) (v : Visited old seen before next (take k row)) where
  pub marked_turn : (s : List Bool) (n : List ℕ) → get_or row k 0 < length seen → ¬ (IsSeen seen (get_or row k 0)) → s ≡ slice_set seen (get_or row k 0) true → n ≡ next ++ get_or row k 0 ∷ [] → Visited old s before n (take (k + 1) row)
  marked_turn s n lx u es en = subst (λ q. Visited old q before n (take (k + 1) row)) (sym es) (marked old seen before next row k (get_or row k 0) l (get_or_default row k 0 (get_or row k 0) l) v lx u n en)

  pub passed_turn : (s : List Bool) (n : List ℕ) → IsSeen seen (get_or row k 0) → s ≡ seen → n ≡ next → Visited old s before n (take (k + 1) row)
  passed_turn s n t es en = subst (λ q. Visited old q before n (take (k + 1) row)) (sym es) (subst (λ q. Visited old seen before q (take (k + 1) row)) (sym en) (passed old seen before next row k (get_or row k 0) l (get_or_default row k 0 (get_or row k 0) l) v t))
