-- The turns of the loops that join the pairs of a lattice of faces.
use Rattle.pm_vector.proofs.Lists.{All_among, AllPairs_cons, Among, Contains_among, among_Contains, here, there}
use Rattle.pm_bits.specs.Sets.{IsEmpty, has, members}
use Rattle.pm_geom.specs.Graphs.{IsAscending, IsGraph}
use Rattle.pm_graph.proofs.Marks.{contains_more, true_or_not}
use Rattle.pm_graph.specs.Edges.{HasFace, IsFaceEdge, IsPairAmong, IsPairInRanks, IsPairOf, Joins, whole_of}
use Rattle.pm_graph.specs.Tables.{HaveLength}
use Rattle.std.proofs.Common.{ap, arith, get_or, inl, inr, refl, subst, sym, ◌∙◌}
use Rattle.std.proofs.lemmas.Bool.{cases_eq, false_from_ne_true}
use Rattle.std.proofs.lemmas.List.{get_or-set_other, get_or-set_same, length-map}
use Rattle.std.proofs.lemmas.List.Elements.{All-set}
use Rattle.std.specs.List.{All, AllPairs, Contains, filter, range_with_len, slice_index_or}
use Rattle.std.specs.Prelude.{Bool, IsTrue, List, [], cond, false, length, map, slice_set, suc, take, true, zero, ℕ, ◌+◌, ◌<◌, ◌↔◌, ◌∷◌, ◌≡◌, ◌≤◌, ◌⊎◌}

-- ---- one bit
module _ (rows : List (List Bool)) (x p : ℕ) (before now : List Bool) (lx : x < length rows) (is : before ≡ slice_index_or rows x []) (member : IsTrue (has now p)) (others : (i : ℕ) → ¬ (i ≡ p) → has now i ≡ has before i) where
  now_at : (j : ℕ) → IsTrue (has now j) ↔ (IsTrue (has (slice_index_or rows x []) j) ⊎ (j ≡ p))
  now_at j = elim (cases_eq j p) [
    | inl e ↦ (λ t. inr e, λ w. subst (λ q. IsTrue (has now q)) (sym e) member)
    | inr ne ↦ (
      λ t. inl (subst (λ r. IsTrue (has r j)) is (sym (others j ne) ∙ t)),
      λ w. elim w [ inl t ↦ others j ne ∙ subst (λ r. IsTrue (has r j)) (sym is) t | inr e ↦ absurd (ne e) ],
    )
  ]

  pub bit_set : (i j : ℕ) → IsTrue (has (slice_index_or (slice_set rows x now) i []) j) ↔ (IsTrue (has (slice_index_or rows i []) j) ⊎ ((i ≡ x) × (j ≡ p)))
  bit_set i j = elim (cases_eq i x) [
    | inl e ↦ subst (λ y. IsTrue (has (slice_index_or (slice_set rows x now) y []) j) ↔ (IsTrue (has (slice_index_or rows y []) j) ⊎ ((y ≡ x) × (j ≡ p)))) (sym e) (subst (λ r. IsTrue (has r j) ↔ (IsTrue (has (slice_index_or rows x []) j) ⊎ ((x ≡ x) × (j ≡ p)))) (sym (get_or-set_same rows x now [] lx)) (
      λ t. elim ((now_at j).0 t) [ inl o ↦ inl o | inr q ↦ inr (refl, q) ],
      λ w. (now_at j).1 (elim w [ inl o ↦ inl o | inr q ↦ inr q.1 ]),
    ))
    | inr ne ↦ subst (λ r. IsTrue (has r j) ↔ (IsTrue (has (slice_index_or rows i []) j) ⊎ ((i ≡ x) × (j ≡ p)))) (sym (get_or-set_other rows x i now [] ne)) (λ t. inl t, λ w. elim w [ inl o ↦ o | inr q ↦ absurd (ne q.0) ])
  ]

-- ---- the two bits of a pair
pub not_pair : (n : ℕ) (face : List ℕ) (rows : List (List Bool)) → ((i j : ℕ) → ¬ (IsPairOf n face i j)) → Joins (IsPairOf n face) rows rows
not_pair n face rows h i j l = (λ t. inl t, λ w. elim w [ inl t ↦ t | inr p ↦ absurd (h i j p) ])

same_heads : {a b c d : ℕ} → a ∷ b ∷ [] ≡ c ∷ d ∷ [] → (a ≡ c) × (b ≡ d)
same_heads {a} {b} {c} {d} e = ((let x : a ≡ c = cc in x), (let y : b ≡ d = cc in y))

pub pair_joins : (n a b : ℕ) (face : List ℕ) (old mid new : List (List Bool)) → a < n → b < n → ¬ (a ≡ b) → face ≡ a ∷ b ∷ [] → ((i j : ℕ) → IsTrue (has (slice_index_or mid i []) j) ↔ (IsTrue (has (slice_index_or old i []) j) ⊎ ((i ≡ a) × (j ≡ b)))) →
    ((i j : ℕ) → IsTrue (has (slice_index_or new i []) j) ↔ (IsTrue (has (slice_index_or mid i []) j) ⊎ ((i ≡ b) × (j ≡ a)))) → Joins (IsPairOf n face) old new
pair_joins n a b face old mid new la lb ne ef f g i j l = (
  λ t. elim ((g i j).0 t) [
    | inl m ↦ elim ((f i j).0 m) [ inl o ↦ inl o | inr q ↦ inr ((let e = q.0 in omega arith), (let e = q.1 in omega arith), (λ s. ne (sym q.0 ∙ s ∙ q.1)), inl (ef ∙ ap (λ x. x ∷ b ∷ []) (sym q.0) ∙ ap (λ y. i ∷ y ∷ []) (sym q.1))) ]
    | inr q ↦ inr ((let e = q.0 in omega arith), (let e = q.1 in omega arith), (λ s. ne (sym q.1 ∙ sym s ∙ q.0)), inr (ef ∙ ap (λ x. x ∷ b ∷ []) (sym q.1) ∙ ap (λ y. j ∷ y ∷ []) (sym q.0)))
  ],
  λ w. elim w [
    | inl o ↦ (g i j).1 (inl ((f i j).1 (inl o)))
    | inr p ↦ elim p.3 [
      | inl e ↦ (let h = same_heads (sym e ∙ ef) in (g i j).1 (inl ((f i j).1 (inr (h.0, h.1)))))
      | inr e ↦ (let h = same_heads (sym e ∙ ef) in (g i j).1 (inr (h.1, h.0)))
    ]
  ],
)

pub pair_len : (n : ℕ) (face : List ℕ) (i j : ℕ) → IsPairOf n face i j → length face ≡ 2
pair_len n face i j p = elim p.3 [ inl e ↦ ap length e | inr e ↦ ap length e ]

pub two_elements : (face : List ℕ) → length face ≡ 2 → face ≡ get_or face 0 0 ∷ get_or face 1 0 ∷ []
two_elements [] e = absurd (omega arith)
two_elements (a ∷ []) e = absurd (omega arith)
two_elements (a ∷ b ∷ []) e = refl
two_elements (a ∷ b ∷ c ∷ face) e = absurd (omega arith)

pub not_joined : (n a b : ℕ) (face : List ℕ) → face ≡ a ∷ b ∷ [] → (a ≡ b) ⊎ ((n ≤ a) ⊎ (n ≤ b)) → (i j : ℕ) → ¬ (IsPairOf n face i j)
not_joined n a b face ef why i j p = elim p.3 [
  | inl e ↦ (let h = same_heads (sym e ∙ ef) in bad i j h.0 h.1 p.0 p.1 p.2 why)
  | inr e ↦ (let h = same_heads (sym e ∙ ef) in bad j i h.0 h.1 p.1 p.0 (λ s. p.2 (sym s)) why)
]
  where
    bad : (i j : ℕ) → i ≡ a → j ≡ b → i < n → j < n → ¬ (i ≡ j) → (a ≡ b) ⊎ ((n ≤ a) ⊎ (n ≤ b)) → ⊥
    bad i j ei ej li lj ne (inl e) = ne (ei ∙ e ∙ sym ej)
    bad i j ei ej li lj ne (inr (inl l)) = omega arith
    bad i j ei ej li lj ne (inr (inr l)) = omega arith

-- ---- one face more, one rank more
pub none_joined : (E : ℕ → ℕ → Type 0) (rows : List (List Bool)) → ((i j : ℕ) → ¬ (E i j)) → Joins E rows rows
none_joined E rows h i j l = (λ t. inl t, λ w. elim w [ inl t ↦ t | inr e ↦ absurd (h i j e) ])

pub one_face_more : (n k : ℕ) (faces : List (List ℕ)) (face slice : List ℕ) (old mid new : List (List Bool)) → k < length faces → face ≡ get_or faces k face → slice ≡ face → length mid ≡ length old → Joins (IsPairAmong n (take k faces)) old mid → Joins (IsPairOf n slice) mid new → Joins (IsPairAmong n (take (k + 1) faces)) old new
one_face_more n k faces face slice old mid new l ef es en f g i j li = (
  λ t. elim ((g i j (omega arith)).0 t) [
    | inl m ↦ elim ((f i j li).0 m) [ inl o ↦ inl o | inr w ↦ inr (w.0, (contains_more faces k face l ef w.0).1 (inl w.1), w.2) ]
    | inr p ↦ inr (face, (contains_more faces k face l ef face).1 (inr refl), subst (λ s. IsPairOf n s i j) es p)
  ],
  λ w. elim w [
    | inl o ↦ (g i j (omega arith)).1 (inl ((f i j li).1 (inl o)))
    | inr q ↦ elim ((contains_more faces k face l ef q.0).0 q.1) [
      | inl c ↦ (g i j (omega arith)).1 (inl ((f i j li).1 (inr (q.0, c, q.2))))
      | inr e ↦ (g i j (omega arith)).1 (inr (subst (λ s. IsPairOf n s i j) (sym (es ∙ e)) q.2))
    ]
  ],
)

pub one_rank_more : (n k : ℕ) (ranks : List (List (List ℕ))) (faces slice : List (List ℕ)) (mid new : List (List Bool)) → k < length ranks → faces ≡ get_or ranks k faces → slice ≡ faces → length mid ≡ n → ((i j : ℕ) → i < n → IsTrue (has (slice_index_or mid i []) j) ↔ IsPairInRanks n (take k ranks) i j) → Joins (IsPairAmong n slice) mid new →
    (i j : ℕ) → i < n → IsTrue (has (slice_index_or new i []) j) ↔ IsPairInRanks n (take (k + 1) ranks) i j
one_rank_more n k ranks faces slice mid new l ef es en f g i j li = (
  λ t. elim ((g i j (omega arith)).0 t) [
    | inl m ↦ (let w = (f i j li).0 m in (w.0, (contains_more ranks k faces l ef w.0).1 (inl w.1), w.2))
    | inr p ↦ (faces, (contains_more ranks k faces l ef faces).1 (inr refl), subst (λ s. IsPairAmong n s i j) es p)
  ],
  λ q. elim ((contains_more ranks k faces l ef q.0).0 q.1) [
    | inl c ↦ (g i j (omega arith)).1 (inl ((f i j li).1 (q.0, c, q.2)))
    | inr e ↦ (g i j (omega arith)).1 (inr (subst (λ s. IsPairAmong n s i j) (sym (es ∙ e)) q.2))
  ],
)

pub no_ranks : (n : ℕ) (ranks : List (List (List ℕ))) (rows : List (List Bool)) → length rows ≡ n → All IsEmpty rows → ranks ≡ [] → (i j : ℕ) → i < n → IsTrue (has (slice_index_or rows i []) j) ↔ IsPairInRanks n ranks i j
no_ranks n ranks rows en h er i j li = (
  λ t. absurd (let z = h i [] (omega arith) j in let y : true ≡ false = sym t ∙ z in cc),
  λ w. absurd (let c = subst (λ rs. Contains rs w.0) er w.1 in let m = c.1 in omega arith),
)

-- ---- the members of a row
pick_split : (p : ℕ → Bool) (a n j : ℕ) → Among j (filter p (range_with_len a (suc n))) → ((j ≡ a) × IsTrue (p a)) ⊎ Among j (filter p (range_with_len (a + 1) n))
pick_split p a n j i = go (p a) refl i
  where
    go : (b : Bool) → p a ≡ b → Among j (cond b (a ∷ filter p (range_with_len (a + 1) n)) (filter p (range_with_len (a + 1) n))) → ((j ≡ a) × IsTrue (p a)) ⊎ Among j (filter p (range_with_len (a + 1) n))
    go true e i = first i e
      where
        first : {b : ℕ} {ys : List ℕ} → Among j (b ∷ ys) → p a ≡ true → ((j ≡ b) × IsTrue (p a)) ⊎ Among j ys
        first here e = inl (refl, e)
        first (there i) e = inr i
    go false e i = inr i

pick_first : (p : ℕ → Bool) (a n : ℕ) → IsTrue (p a) → filter p (range_with_len a (suc n)) ≡ a ∷ filter p (range_with_len (a + 1) n)
pick_first p a n t = rw t refl

pick_later : (p : ℕ → Bool) (a n : ℕ) → p a ≡ false → filter p (range_with_len a (suc n)) ≡ filter p (range_with_len (a + 1) n)
pick_later p a n f = rw f refl

picked_from : (p : ℕ → Bool) (a n j : ℕ) → Among j (filter p (range_with_len a n)) → (a ≤ j) × (j < a + n) × IsTrue (p j)
picked_from p a zero j i = elim i [ ]
picked_from p a (suc n) j i = elim (pick_split p a n j i) [
  | inl w ↦ (let e = w.0 in omega arith, let e = w.0 in omega arith, subst (λ k. IsTrue (p k)) (sym w.0) w.1)
  | inr k ↦ (let w = picked_from p (a + 1) n j k in (let l = w.0 in omega arith, let l = w.1 in omega arith, w.2))
]

picked_has : (p : ℕ → Bool) (a n j : ℕ) → a ≤ j → j < a + n → IsTrue (p j) → Among j (filter p (range_with_len a n))
picked_has p a zero j l m t = absurd (omega arith)
picked_has p a (suc n) j l m t = elim (cases_eq j a) [
  | inl e ↦ subst (λ xs. Among j xs) (sym (pick_first p a n (subst (λ k. IsTrue (p k)) e t))) (subst (λ k. Among k (a ∷ filter p (range_with_len (a + 1) n))) (sym e) here)
  | inr n' ↦ (
      let rest = picked_has p (a + 1) n j (let q = n' in omega arith) (omega arith) t in
      elim (true_or_not (p a)) [
        | inl y ↦ subst (λ xs. Among j xs) (sym (pick_first p a n y)) (there rest)
        | inr y ↦ subst (λ xs. Among j xs) (sym (pick_later p a n (false_from_ne_true (p a) y))) rest
      ])
]

picked_ascends : (p : ℕ → Bool) (a n : ℕ) → AllPairs (λ i j. i < j) (filter p (range_with_len a n))
picked_ascends p a zero = λ i j d l m. absurd (omega arith)
picked_ascends p a (suc n) = elim (true_or_not (p a)) [
  | inl y ↦ subst (λ xs. AllPairs (λ i j. i < j) xs) (sym (pick_first p a n y)) (AllPairs_cons (λ i j. i < j) a (filter p (range_with_len (a + 1) n)) (λ j i. let w = picked_from p (a + 1) n j i in let l = w.0 in omega arith) (picked_ascends p (a + 1) n))
  | inr y ↦ subst (λ xs. AllPairs (λ i j. i < j) xs) (sym (pick_later p a n (false_from_ne_true (p a) y))) (picked_ascends p (a + 1) n)
]

has_below : (row : List Bool) (j : ℕ) → IsTrue (has row j) → j < length row
has_below [] j t = absurd cc
has_below (b ∷ row) zero t = omega arith
has_below (b ∷ row) (suc j) t = let l = has_below row j t in omega arith

members_to : (row : List Bool) (j : ℕ) → Contains (members row) j → IsTrue (has row j)
members_to row j c = (picked_from (has row) 0 (length row) j (among_Contains (members row) c)).2

members_from : (row : List Bool) (j : ℕ) → IsTrue (has row j) → Contains (members row) j
members_from row j t = Contains_among (picked_has (has row) 0 (length row) j (omega arith) (let l = has_below row j t in omega arith) t)

members_ascend : (m : ℕ) (row : List Bool) → length row ≡ m → IsAscending m (members row)
members_ascend m row e = (All_among (λ j. j < m) (members row) (λ j i. let w = picked_from (has row) 0 (length row) j i in let l = w.1 in omega arith), picked_ascends (has row) 0 (length row))

-- ---- the graph
member_row : (rows : List (List Bool)) (i : ℕ) → slice_index_or (map members rows) i [] ≡ members (slice_index_or rows i [])
member_row [] i = refl
member_row (r ∷ rows) zero = refl
member_row (r ∷ rows) (suc i) = member_row rows i

all_ascend : (n : ℕ) (rows : List (List Bool)) → HaveLength n rows → All (IsAscending n) (map members rows)
all_ascend n rows h = All_among (IsAscending n) (map members rows) (each rows (λ r i. row_len n rows h r i))
  where
    each : (rs : List (List Bool)) → ((r : List Bool) → Among r rs → length r ≡ n) → (xs : List ℕ) → Among xs (map members rs) → IsAscending n xs
    each [] f xs i = elim i [ ]
    each (r ∷ rs) f xs here = members_ascend n r (f r here)
    each (r ∷ rs) f xs (there i) = each rs (λ s k. f s (there k)) xs i

    row_len : (n : ℕ) (rs : List (List Bool)) → HaveLength n rs → (r : List Bool) → Among r rs → length r ≡ n
    row_len n [] h r i = elim i [ ]
    row_len n (s ∷ rs) h r here = h 0 [] (omega arith)
    row_len n (s ∷ rs) h r (there i) = row_len n rs (λ k d l. h (suc k) d (omega arith)) r i

edge_to : (n : ℕ) (ranks : List (List (List ℕ))) → n ≡ length (whole_of ranks) → (i j : ℕ) → IsPairInRanks n ranks i j → IsFaceEdge ranks i j
edge_to n ranks en i j (faces, c, (face, d, p)) = record {
  first = let l = p.0 in omega arith;
  second = let l = p.1 in omega arith;
  apart = p.2;
  face = elim p.3 [ inl e ↦ inl (found (i ∷ j ∷ []) e) | inr e ↦ inr (found (j ∷ i ∷ []) e) ];
}
  where
    found : (xs : List ℕ) → face ≡ xs → HasFace ranks xs
    found xs e = (c.0, faces, c.1, c.2, subst (λ f. Contains faces f) e d)

edge_from : (n : ℕ) (ranks : List (List (List ℕ))) → n ≡ length (whole_of ranks) → (i j : ℕ) → IsFaceEdge ranks i j → IsPairInRanks n ranks i j
edge_from n ranks en i j e = elim e.face [
  | inl f ↦ (f.1, (f.0, f.2, f.3), (i ∷ j ∷ [], f.4, ((let l = e.first in omega arith), (let l = e.second in omega arith), e.apart, inl refl)))
  | inr f ↦ (f.1, (f.0, f.2, f.3), (j ∷ i ∷ [], f.4, ((let l = e.first in omega arith), (let l = e.second in omega arith), e.apart, inr refl)))
]

pub face_graph : (n : ℕ) (ranks : List (List (List ℕ))) (rows : List (List Bool)) (lists : List (List ℕ)) → n ≡ length (whole_of ranks) → length rows ≡ n → HaveLength n rows → ((i j : ℕ) → i < n → IsTrue (has (slice_index_or rows i []) j) ↔ IsPairInRanks n ranks i j) → lists ≡ map members rows → IsGraph (length (whole_of ranks)) (IsFaceEdge ranks) lists
face_graph n ranks rows lists en er h f el = subst (λ k. IsGraph k (IsFaceEdge ranks) lists) en (subst (λ ls. IsGraph n (IsFaceEdge ranks) ls) (sym el) (record {
  nodes = length-map rows members ∙ er;
  ascending = all_ascend n rows h;
  edges = λ i j l. (
    λ c. edge_to n ranks en i j ((f i j l).0 (members_to (slice_index_or rows i []) j (subst (λ xs. Contains xs j) (member_row rows i) c))),
    λ e. subst (λ xs. Contains xs j) (sym (member_row rows i)) (members_from (slice_index_or rows i []) j ((f i j l).1 (edge_from n ranks en i j e))),
  );
}))

pub lengths_after : (n x : ℕ) (rows : List (List Bool)) (now : List Bool) → length now ≡ n → HaveLength n rows → HaveLength n (slice_set rows x now)
lengths_after n x rows now e h = All-set (λ row. length row ≡ n) rows x now e h
