-- What is marked level by level are the nodes by their distance.
use Rattle.pm_vector.proofs.Lists.{All_among, Among, Contains_among, among_Contains, here, there}
use Rattle.pm_geom.specs.Graphs.{AreNeighbours, IsDistance, IsWalk}
use Rattle.pm_graph.proofs.Marks.{seen_below, seen_replicate, seen_set, true_or_not, unseen_replicate, unseen_set}
use Rattle.pm_graph.specs.Levels.{AreBelow, AreNew, IsEccentricity, IsSeen, MarksNeighbours, unseen_count}
use Rattle.std.proofs.Common.{ap, arith, inl, inr, refl, subst, sym, ◌∙◌}
use Rattle.std.proofs.lemmas.Bool.{cases_eq, cases_lt}
use Rattle.std.proofs.lemmas.List.{length-replicate, length-set}
use Rattle.std.specs.List.{All, Contains, slice_index_or}
use Rattle.std.specs.Prelude.{Bool, List, [], false, length, replicate, slice_set, suc, true, zero, ℕ, ◌+◌, ◌-◌, ◌<◌, ◌↔◌, ◌∷◌, ◌≡◌, ◌≤◌, ◌⊎◌}

-- ---- the last step of a walk
pub walk_more : (E : ℕ → ℕ → Type 0) (m i h j : ℕ) → IsWalk E i h m → E h j → IsWalk E i j (suc m)
walk_more E zero i h j w e = (j, subst (λ x. E x j) (sym w) e, refl)
walk_more E (suc m) i h j w e = (w.0, w.1, walk_more E m w.0 h j w.2 e)

pub walk_last : (E : ℕ → ℕ → Type 0) (m i j : ℕ) → IsWalk E i j (suc m) → (h : ℕ) × IsWalk E i h m × E h j
walk_last E zero i j w = (i, refl, subst (λ x. E i x) w.2 w.1)
walk_last E (suc m) i j w = let r = walk_last E m w.0 j w.2 in (r.0, (w.0, w.1, r.1), r.2)

-- before a node at distance m + 1 stands one at distance m
before : (E : ℕ → ℕ → Type 0) (m i j : ℕ) → IsDistance E i j (suc m) → (h : ℕ) × IsDistance E i h m × E h j
before E m i j d =
    let r = walk_last E m i j d.walk in
    (r.0, record { walk = r.1; least = λ k l w. d.least (suc k) (omega arith) (walk_more E k i r.0 j w r.2) }, r.2)

module _ (rows : List (List ℕ)) where
  abbrev E : ℕ → ℕ → Type 0
  E = AreNeighbours rows

  node_below : (h j : ℕ) → E h j → h < length rows
  node_below h j c = inside rows h j c
    where
      inside : (rs : List (List ℕ)) (h j : ℕ) → Contains (slice_index_or rs h []) j → h < length rs
      inside [] h j c = absurd (let l = c.1 in omega arith)
      inside (r ∷ rs) zero j c = omega arith
      inside (r ∷ rs) (suc h) j c = let l = inside rs h j c in omega arith

  -- with a node at a greater distance there is one at each smaller distance
  nearer : (t d i j : ℕ) → j < length rows → IsDistance E i j (d + t) → (h : ℕ) × (h < length rows) × IsDistance E i h d
  nearer zero d i j l s = (j, l, subst (λ k. IsDistance E i j k) (omega arith) s)
  nearer (suc t) d i j l s =
      let e : d + suc t ≡ suc (d + t) = omega arith in
      let r = before E (d + t) i j (subst (λ k. IsDistance E i j k) e s) in
      nearer t d i r.0 (node_below r.0 j r.2) r.1

  pub record IsLevel (start d : ℕ) (seen : List Bool) (front : List ℕ) : Type 0 where
    pub len : length seen ≡ length rows
    pub seen_is : (j : ℕ) → j < length rows → IsSeen seen j ↔ ((m : ℕ) × (m ≤ d) × IsWalk E start j m)
    pub front_is : (j : ℕ) → Contains front j ↔ ((j < length rows) × IsDistance E start j d)
    pub some : 0 < length front

  pub first_level : (start : ℕ) → start < length rows → IsLevel start 0 (slice_set (replicate (length rows) false) start true) (start ∷ [])
  first_level start l = record {
    len = length_set_replicate;
    seen_is = λ j lj. (
      λ t. elim ((at j).0 t) [ inl o ↦ absurd (seen_replicate (length rows) j o) | inr e ↦ (0, omega arith, e) ],
      λ w. (at j).1 (inr (still w.0 j w.1 w.2)),
    );
    front_is = λ j. (
      λ c. (let e = only (among_Contains (start ∷ []) c) in (let q = e in omega arith, record { walk = sym e; least = λ m lm w. absurd (omega arith) })),
      λ w. subst (λ x. Contains (start ∷ []) x) w.1.walk (0, omega arith, refl),
    );
    some = omega arith;
  }
    where
      at : (j : ℕ) → IsSeen (slice_set (replicate (length rows) false) start true) j ↔ (IsSeen (replicate (length rows) false) j ⊎ (start ≡ j))
      at j = seen_set (replicate (length rows) false) start j (let e = length-replicate (length rows) false in omega arith)

      still : (m j : ℕ) → m ≤ 0 → IsWalk E start j m → start ≡ j
      still zero j lm w = w
      still (suc m) j lm w = absurd (omega arith)

      only : {b k : ℕ} → Among k (b ∷ []) → k ≡ b
      only here = refl
      only (there i) = elim i [ ]

      length_set_replicate : length (slice_set (replicate (length rows) false) start true) ≡ length rows
      length_set_replicate = length-set (replicate (length rows) false) start true ∙ length-replicate (length rows) false

  module _ (below : AreBelow (length rows) rows) (start d : ℕ) (old new : List Bool) (front next : List ℕ) (v : IsLevel start d old front) (len : length new ≡ length old) (marks : MarksNeighbours rows front old new) (are_new : AreNew old new next) where
    seen_to : (j : ℕ) → j < length rows → IsSeen new j → (m : ℕ) × (m ≤ suc d) × IsWalk E start j m
    seen_to j l t = elim ((marks j).0 t) [
      | inl o ↦ (let w = (v.seen_is j l).0 o in (w.0, (let q = w.1 in omega arith), w.2))
      | inr f ↦ (let w = (v.front_is f.0).0 f.1 in (suc d, omega arith, walk_more E d start f.0 j w.1.walk f.2))
    ]

    -- a node that a walk of d + 1 steps reaches is marked
    reached : (j : ℕ) → j < length rows → IsWalk E start j (suc d) → IsSeen new j
    reached j l w = elim (true_or_not (slice_index_or old j false)) [
      | inl o ↦ (marks j).1 (inl o)
      | inr out ↦ (
          let r = walk_last E d start j w in
          let near : IsDistance E start r.0 d = record { walk = r.1; least = λ k lk q. out ((v.seen_is j l).1 (suc k, omega arith, walk_more E k start r.0 j q r.2)) } in
          (marks j).1 (inr (r.0, (v.front_is r.0).1 (node_below r.0 j r.2, near), r.2)))
    ]

    seen_from : (m j : ℕ) → j < length rows → m ≤ suc d → IsWalk E start j m → IsSeen new j
    seen_from m j l lm w = elim (cases_eq m (suc d)) [
      | inl e ↦ reached j l (subst (λ k. IsWalk E start j k) e w)
      | inr ne ↦ (marks j).1 (inl ((v.seen_is j l).1 (m, (let q = ne in omega arith), w)))
    ]

    next_to : (j : ℕ) → Contains next j → (j < length rows) × IsDistance E start j (suc d)
    next_to j c =
        let f = (are_new j).0 c in
        let l : j < length rows = (let a = seen_below new j f.0 in let b = len in let q = v.len in omega arith) in
        let w = seen_to j l f.0 in
        (l, far j l f.1 w.0 w.1 w.2)
      where
        far : (j : ℕ) → j < length rows → ¬ (IsSeen old j) → (m : ℕ) → m ≤ suc d → IsWalk E start j m → IsDistance E start j (suc d)
        far j l out m lm w = elim (cases_eq m (suc d)) [
          | inl e ↦ record { walk = subst (λ k. IsWalk E start j k) e w; least = λ k lk q. out ((v.seen_is j l).1 (k, omega arith, q)) }
          | inr ne ↦ absurd (out ((v.seen_is j l).1 (m, (let q = ne in omega arith), w)))
        ]

    next_from : (j : ℕ) → j < length rows → IsDistance E start j (suc d) → Contains next j
    next_from j l s = (are_new j).1 (reached j l s.walk, λ o. (let w = (v.seen_is j l).0 o in s.least w.0 (let q = w.1 in omega arith) w.2))

    pub next_is_level : 0 < length next → IsLevel start (suc d) new next
    next_is_level some = record {
      len = len ∙ v.len;
      seen_is = λ j l. (seen_to j l, λ w. seen_from w.0 j l w.1 w.2);
      front_is = λ j. (next_to j, λ w. next_from j w.0 w.1);
      some = some;
    }

    pub last_level : next ≡ [] → IsEccentricity (length rows) E start d
    last_level e = record { bound = bound; reached = found }
      where
        none : (h : ℕ) → ¬ (Contains next h)
        none h c = elim (among_Contains [] (subst (λ xs. Contains xs h) e c)) [ ]

        bound : (j k : ℕ) → j < length rows → IsDistance E start j k → k ≤ d
        bound j k l s = elim (cases_lt d k) [
          | inr ge ↦ ge
          | inl lt ↦ (
              let more : k ≡ suc d + (k - suc d) = omega arith in
              let w = nearer (k - suc d) (suc d) start j l (subst (λ x. IsDistance E start j x) more s) in
              absurd (none w.0 (next_from w.0 w.1 w.2)))
        ]

        first_of : (xs : List ℕ) → 0 < length xs → (x : ℕ) × Contains xs x
        first_of [] l = absurd (omega arith)
        first_of (x ∷ xs) l = (x, (0, omega arith, refl))

        found : (j : ℕ) × (j < length rows) × IsDistance E start j d
        found = let x = first_of front v.some in let w = (v.front_is x.0).0 x.1 in (x.0, w.0, w.1)

-- ---- the greatest of all
pub record IsGreatestBelow (rows : List (List ℕ)) (i k : ℕ) : Type 0 where
  pub bound : (a j d : ℕ) → a < i → j < length rows → IsDistance (AreNeighbours rows) a j d → d ≤ k
  pub reached : (k ≡ 0) ⊎ ((a : ℕ) × (j : ℕ) × (a < length rows) × (j < length rows) × IsDistance (AreNeighbours rows) a j k)

pub none_below : (rows : List (List ℕ)) → IsGreatestBelow rows 0 0
none_below rows = record { bound = λ a j d la lj s. absurd (omega arith); reached = inl refl }

module _ (rows : List (List ℕ)) (i far k : ℕ) (l : i < length rows) (e : IsEccentricity (length rows) (AreNeighbours rows) i far) (v : IsGreatestBelow rows i k) where
  either : (a : ℕ) → a < i + 1 → (a < i) ⊎ (a ≡ i)
  either a la = grind arith

  pub not_greater : ¬ (k < far) → IsGreatestBelow rows (i + 1) k
  not_greater h = record {
    bound = λ a j d la lj s. elim (either a la) [ inl b ↦ v.bound a j d b lj s | inr q ↦ (let m = e.bound j d lj (subst (λ x. IsDistance (AreNeighbours rows) x j d) q s) in omega arith) ];
    reached = v.reached;
  }

  pub greater : k < far → IsGreatestBelow rows (i + 1) far
  greater h = record {
    bound = λ a j d la lj s. elim (either a la) [ inl b ↦ (let m = v.bound a j d b lj s in omega arith) | inr q ↦ e.bound j d lj (subst (λ x. IsDistance (AreNeighbours rows) x j d) q s) ];
    reached = inr (i, e.reached.0, l, e.reached.1, e.reached.2);
  }

-- ---- the first level, and the next
pub first_level_as : (rows : List (List ℕ)) (start n : ℕ) (seen : List Bool) (front : List ℕ) → n ≡ length rows → start < n → seen ≡ replicate n false → front ≡ start ∷ [] → IsLevel rows start 0 (slice_set seen start true) front
first_level_as rows start n seen front en l es ef = subst (λ f. IsLevel rows start 0 (slice_set seen start true) f) (sym ef) (subst (λ s. IsLevel rows start 0 (slice_set s start true) (start ∷ [])) (sym (es ∙ ap (λ k. replicate k false) en)) (first_level rows start (omega arith)))

pub first_unseen : (start n : ℕ) (seen : List Bool) → start < n → seen ≡ replicate n false → unseen_count (slice_set seen start true) ≡ n - 1
first_unseen start n seen l es = subst (λ s. unseen_count (slice_set s start true) ≡ n - 1) (sym es) (let a = unseen_set (replicate n false) start (let e = length-replicate n false in omega arith) (seen_replicate n start) in let b = unseen_replicate n in omega arith)

pub front_below : (rows : List (List ℕ)) (start d n : ℕ) (seen : List Bool) (front slice : List ℕ) → IsLevel rows start d seen front → n ≡ length rows → slice ≡ front → All (λ u. u < n) slice
front_below rows start d n seen front slice v en es = subst (λ xs. All (λ u. u < n) xs) (sym es) (All_among (λ u. u < n) front (λ u i. let w = (v.front_is u).0 (Contains_among i) in let l = w.0 in omega arith))

-- what a turn of the loop over the levels leaves
pub record Turn (rows : List (List ℕ)) (start d n left : ℕ) (old new seen : List Bool) (front slice next : List ℕ) : Type 0 where
  pub level : IsLevel rows start d old front
  pub nodes : n ≡ length rows
  pub below : AreBelow n rows
  pub seen_is : seen ≡ old
  pub slice_is : slice ≡ front
  pub marks : MarksNeighbours rows slice seen new
  pub are_new : AreNew seen new next
  pub len : length new ≡ length seen

module _ (rows : List (List ℕ)) (start d n left : ℕ) (old new seen : List Bool) (front slice next : List ℕ) (t : Turn rows start d n left old new seen front slice next) where
  marks_old : MarksNeighbours rows front old new
  marks_old = subst (λ s. MarksNeighbours rows front s new) t.seen_is (subst (λ f. MarksNeighbours rows f seen new) t.slice_is t.marks)

  new_old : AreNew old new next
  new_old = subst (λ s. AreNew s new next) t.seen_is t.are_new

  below_all : AreBelow (length rows) rows
  below_all = subst (λ k. AreBelow k rows) t.nodes t.below

  len_old : length new ≡ length old
  len_old = t.len ∙ ap length t.seen_is

  pub turn_ends : next ≡ [] → IsEccentricity n (AreNeighbours rows) start d
  turn_ends e = subst (λ k. IsEccentricity k (AreNeighbours rows) start d) (sym t.nodes) (last_level rows below_all start d old new front next t.level len_old marks_old new_old e)

  pub turn_goes : (s : List Bool) (f : List ℕ) → 0 < length next → s ≡ new → f ≡ next → IsLevel rows start (d + 1) s f
  turn_goes s f some es ef = subst (λ q. IsLevel rows start (d + 1) q f) (sym es) (subst (λ q. IsLevel rows start (d + 1) new q) (sym ef) (subst (λ k. IsLevel rows start k new next) (omega arith) (next_is_level rows below_all start d old new front next t.level len_old marks_old new_old some)))
