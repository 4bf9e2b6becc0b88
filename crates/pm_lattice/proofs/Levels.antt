-- The faces of one rank, as lists in lexicographic order; and all of them together as the lattice.
use Rattle.pm_vector.proofs.Lists.{AllPairs_cons, Among, Contains_among, among_Contains, here, there}
use Rattle.pm_bits.specs.Sets.{HasFirstDifference, first_difference_cmp, has, members, row_cmp}
use Rattle.pm_geom.specs.FaceCounts.{IsLexBefore, SamePlaces, at_rank}
use Rattle.pm_geom.specs.Graphs.{IsAscending, holds}
use Rattle.pm_geom.specs.Meets.{AreMeetsByRank, HasMeetChain, HasMeetRank, IsMeet}
use Rattle.pm_lattice.specs.Closures.{IsRowBefore, IsClosed, bit_sets}
use Rattle.pm_lattice.specs.Ranks.{AreRanksFrom, face_at, level_of, rank_at}
use Rattle.pm_lattice.proofs.Chains.{chain_less, chain_up, one_rank, rank_same, same_rank_apart}
use Rattle.pm_lattice.proofs.Closing.{whole_meet}
use Rattle.pm_lattice.proofs.Subsets.{below_length}
use Rattle.pm_lattice.proofs.MemberLists.{holds_members, lex_of_first, members_ascend}
use Rattle.std.proofs.Common.{arith, inl, inr, refl, subst, sym, ◌∙◌}
use Rattle.std.proofs.lemmas.Bool.{cases_eq, cases_lt, eq-eqb, ne_eqb}
use Rattle.std.proofs.lemmas.Cmp.{nat_cmp_total, tied_itself}
use Rattle.std.proofs.lemmas.List.FromFn.{get_or-map-range_with_len, length-map-range_with_len}
use Rattle.std.proofs.lemmas.List.{get_or_default, get_or_past}
use Rattle.std.specs.declared.cmp.Ordering.TheVariants.{Less}
use Rattle.std.specs.List.{AllPairs, Contains, range_with_len}
use Rattle.std.specs.Prelude.{Bool, List, [], false, length, map, suc, true, zero, ℕ, ◌+◌, ◌-◌, ◌<◌, ◌==◌, ◌≤◌, ◌∷◌, ◌≡◌}
use mathlib.Core.Path.{fun_ext}

pub same_test : (row : List Bool) → holds (members row) ≡ has row
same_test row = fun_ext (λ j. holds_members row j)

pub level_yes : (k : ℕ) (f : List Bool) (faces : List (List Bool)) (r : ℕ) (ranks : List ℕ) → r ≡ k → level_of k (f ∷ faces) (r ∷ ranks) ≡ members f ∷ level_of k faces ranks
level_yes k f faces r ranks e = let t : (r == k) ≡ true = eq-eqb r k e in rw t refl

pub level_no : (k : ℕ) (f : List Bool) (faces : List (List Bool)) (r : ℕ) (ranks : List ℕ) → (r ≡ k → ⊥) → level_of k (f ∷ faces) (r ∷ ranks) ≡ level_of k faces ranks
level_no k f faces r ranks n = let t : (r == k) ≡ false = ne_eqb r k n in rw t refl

pub in_level : (k : ℕ) (faces : List (List Bool)) (ranks : List ℕ) → length ranks ≡ length faces → (i : ℕ) → i < length faces → rank_at ranks i ≡ k → Among (members (face_at faces i)) (level_of k faces ranks)
in_level k [] ranks e i l h = absurd (omega arith)
in_level k (f ∷ faces) [] e i l h = absurd (omega arith)
in_level k (f ∷ faces) (r ∷ ranks) e zero l h = subst (λ xs. Among (members f) xs) (sym (level_yes k f faces r ranks h)) here
in_level k (f ∷ faces) (r ∷ ranks) e (suc i) l h =
    let rest = in_level k faces ranks (omega arith) i (omega arith) h in
    elim (cases_eq r k) [
      | inl y ↦ subst (λ xs. Among (members (face_at faces i)) xs) (sym (level_yes k f faces r ranks y)) (there rest)
      | inr n ↦ subst (λ xs. Among (members (face_at faces i)) xs) (sym (level_no k f faces r ranks n)) rest
    ]

pub record Placed (k : ℕ) (faces : List (List Bool)) (ranks : List ℕ) (xs : List ℕ) : Type 0 where
  pub place : ℕ
  pub inside : place < length faces
  pub rank : rank_at ranks place ≡ k
  pub list : xs ≡ members (face_at faces place)

placed_next : (k : ℕ) (f : List Bool) (faces : List (List Bool)) (r : ℕ) (ranks : List ℕ) (xs : List ℕ) → Placed k faces ranks xs → Placed k (f ∷ faces) (r ∷ ranks) xs
placed_next k f faces r ranks xs p = record { place = suc p.place; inside = (let l = p.inside in omega arith); rank = p.rank; list = p.list }

pub from_level : (k : ℕ) (faces : List (List Bool)) (ranks : List ℕ) (xs : List ℕ) → Among xs (level_of k faces ranks) → Placed k faces ranks xs
from_level k [] ranks xs i = elim i [ ]
from_level k (f ∷ faces) [] xs i = elim i [ ]
from_level k (f ∷ faces) (r ∷ ranks) xs i = elim (cases_eq r k) [
  | inl y ↦ first (subst (λ ys. Among xs ys) (level_yes k f faces r ranks y) i) y (λ j. from_level k faces ranks xs j)
  | inr n ↦ placed_next k f faces r ranks xs (from_level k faces ranks xs (subst (λ ys. Among xs ys) (level_no k f faces r ranks n) i))
]
  where
    first : Among xs (members f ∷ level_of k faces ranks) → r ≡ k → (Among xs (level_of k faces ranks) → Placed k faces ranks xs) → Placed k (f ∷ faces) (r ∷ ranks) xs
    first i y again = go (members f) (level_of k faces ranks) refl again i
      where
        go : (ms : List ℕ) (rest : List (List ℕ)) → ms ≡ members f → (Among xs rest → Placed k faces ranks xs) → Among xs (ms ∷ rest) → Placed k (f ∷ faces) (r ∷ ranks) xs
        go ms rest e again here = record { place = zero; inside = omega arith; rank = y; list = e }
        go ms rest e again (there j) = placed_next k f faces r ranks xs (again j)

pub level_ordered : (k : ℕ) (faces : List (List Bool)) (ranks : List ℕ) → ((i j : ℕ) → i < j → j < length faces → rank_at ranks i ≡ k → rank_at ranks j ≡ k → IsLexBefore (members (face_at faces i)) (members (face_at faces j))) → AllPairs IsLexBefore (level_of k faces ranks)
level_ordered k [] ranks h = λ i j d l m. absurd (omega arith)
level_ordered k (f ∷ faces) [] h = λ i j d l m. absurd (omega arith)
level_ordered k (f ∷ faces) (r ∷ ranks) h =
    let rest = level_ordered k faces ranks (λ i j l m a b. h (suc i) (suc j) (omega arith) (omega arith) a b) in
    elim (cases_eq r k) [
      | inl y ↦ subst (λ xs. AllPairs IsLexBefore xs) (sym (level_yes k f faces r ranks y)) (AllPairs_cons IsLexBefore (members f) (level_of k faces ranks) (λ xs i. let p = from_level k faces ranks xs i in subst (λ z. IsLexBefore (members f) z) (sym p.list) (h zero (suc p.place) (omega arith) (let l = p.inside in omega arith) y p.rank)) rest)
      | inr n ↦ subst (λ xs. AllPairs IsLexBefore xs) (sym (level_no k f faces r ranks n)) rest
    ]

-- ---- the order of the rows decides that of the lists
later : (b : Bool) (xs ys : List Bool) → HasFirstDifference xs ys → HasFirstDifference (b ∷ xs) (b ∷ ys)
later b xs ys w = (suc w.0, w.1, w.2, before)
  where
    before : (k : ℕ) → k < suc w.0 → has (b ∷ xs) k ≡ has (b ∷ ys) k
    before zero l = refl
    before (suc k) l = w.3 k (omega arith)

row_as : (a b : List Bool) → length a ≡ length b → row_cmp a b ≡ first_difference_cmp a b
row_as a b e = rw (e, tied_itself nat_cmp_total (length b)) refl

first_from_less : (a b : List Bool) → length a ≡ length b → first_difference_cmp a b ≡ Less → HasFirstDifference a b
first_from_less [] [] e h = absurd cc
first_from_less [] (y ∷ ys) e h = absurd (omega arith)
first_from_less (x ∷ xs) [] e h = absurd (omega arith)
first_from_less (true ∷ xs) (false ∷ ys) e h = (zero, refl, refl, λ k l. absurd (omega arith))
first_from_less (false ∷ xs) (true ∷ ys) e h = absurd cc
first_from_less (true ∷ xs) (true ∷ ys) e h = let w = first_from_less xs ys (omega arith) h in later true xs ys w
first_from_less (false ∷ xs) (false ∷ ys) e h = let w = first_from_less xs ys (omega arith) h in later false xs ys w

first_before : (m : ℕ) (a b : List Bool) → length a ≡ m → length b ≡ m → IsRowBefore a b → HasFirstDifference a b
first_before m a b ea eb h = first_from_less a b (ea ∙ sym eb) (sym (row_as a b (ea ∙ sym eb)) ∙ h)

module _ (n : ℕ) (rows faces : List (List Bool)) (ranks : List ℕ) (closed : IsClosed n rows faces) (known : AreRanksFrom n rows faces ranks 0) (as_many : length ranks ≡ length faces) where
  face_len : (i : ℕ) → i < length faces → length (face_at faces i) ≡ n
  face_len i l = closed.lengths i [] l

  rank_of_face : (i : ℕ) → i < length faces → HasMeetRank n (bit_sets rows) (has (face_at faces i)) (rank_at ranks i)
  rank_of_face i l = known i (omega arith) l

  pub lists_ordered : (k i j : ℕ) → i < j → j < length faces → rank_at ranks i ≡ k → rank_at ranks j ≡ k → IsLexBefore (members (face_at faces i)) (members (face_at faces j))
  lists_ordered k i j l m a b =
      let li : i < length faces = omega arith in
      lex_of_first n (face_at faces i) (face_at faces j) (face_len i li) (face_len j m) (first_before n (face_at faces i) (face_at faces j) (face_len i li) (face_len j m) (closed.ordered i j [] l m))
      (same_rank_apart n (bit_sets rows) (has (face_at faces i)) (has (face_at faces j)) k (subst (λ r. HasMeetRank n (bit_sets rows) (has (face_at faces i)) r) a (rank_of_face i li)) (subst (λ r. HasMeetRank n (bit_sets rows) (has (face_at faces j)) r) b (rank_of_face j m)))

  place_of_meet : (g : ℕ → Bool) → IsMeet n (bit_sets rows) g → (i : ℕ) × (i < length faces) × SamePlaces n g (has (face_at faces i))
  place_of_meet g w =
      let f = closed.all g w in
      let e : face_at faces f.1.0 ≡ f.0 = get_or_default faces f.1.0 [] f.0 f.1.1 ∙ f.1.2 in
      (f.1.0, f.1.1, subst (λ x. SamePlaces n g (has x)) (sym e) f.2)

  -- an intersection of each smaller rank
  rank_below : (f : ℕ → Bool) (k : ℕ) → HasMeetRank n (bit_sets rows) f (suc k) → (g : ℕ → Bool) × HasMeetRank n (bit_sets rows) g k
  rank_below f k r = let (g, w, i, c) = r.chain in (g, record { meet = w; chain = c; greatest = λ x. r.greatest (g, w, i, x) })

  each_rank : (b : ℕ) (f : ℕ → Bool) (k : ℕ) → HasMeetRank n (bit_sets rows) f (b + k) → (g : ℕ → Bool) × HasMeetRank n (bit_sets rows) g k
  each_rank zero f k r = (f, subst (λ q. HasMeetRank n (bit_sets rows) f q) (let e : zero + k ≡ k = omega arith in e) r)
  each_rank (suc b) f k r =
      let w = rank_below f (b + k) (subst (λ q. HasMeetRank n (bit_sets rows) f q) (let e : suc b + k ≡ suc (b + k) = omega arith in e) r) in
      each_rank b w.0 k w.1

  -- no rank is greater than that of the first face, which is the set of all places
  top_place : (i : ℕ) → i < length faces → SamePlaces n (λ j. true) (has (face_at faces i)) → i ≡ 0
  top_place zero l e = refl
  top_place (suc i) l e =
      let d = first_before n (face_at faces 0) (face_at faces (suc i)) (face_len 0 (omega arith)) (face_len (suc i) l) (closed.ordered 0 (suc i) [] (omega arith) l) in
      let t = e d.0 (below_length (face_at faces 0) n d.0 (face_len 0 (omega arith)) d.1) in
      absurd (let x : true ≡ false = t ∙ d.2 in cc)

  pub top_rank : (0 < length faces) × ((i : ℕ) → i < length faces → rank_at ranks i ≤ rank_at ranks 0)
  top_rank =
      let w = place_of_meet (λ j. true) (whole_meet n rows (λ j. true) (λ j l. refl)) in
      let z = top_place w.0 w.1 w.2 in
      let lz : 0 < length faces = (let l = w.1 in omega arith) in (
        lz,
        λ i l.
            let r = rank_of_face i l in
            let up : HasMeetChain n (bit_sets rows) (rank_at ranks i) (has (face_at faces 0)) = chain_up n (bit_sets rows) (rank_at ranks i) (has (face_at faces i)) (has (face_at faces 0)) (λ j lj t. sym (subst (λ q. SamePlaces n (λ j. true) (has (face_at faces q))) z w.2 j lj)) r.chain in
            elim (cases_lt (rank_at ranks 0) (rank_at ranks i)) [
              | inl b ↦ absurd ((rank_of_face 0 lz).greatest (chain_less n (bit_sets rows) (suc (rank_at ranks 0)) (rank_at ranks i) (has (face_at faces 0)) (omega arith) up))
              | inr b ↦ b
            ],
      )

  pub level_full : (k : ℕ) → k ≤ rank_at ranks 0 → ¬ (level_of k faces ranks ≡ [])
  level_full k l e =
      let whole : rank_at ranks 0 - k + k ≡ rank_at ranks 0 = omega arith in
      let g = each_rank (rank_at ranks 0 - k) (has (face_at faces 0)) k (subst (λ q. HasMeetRank n (bit_sets rows) (has (face_at faces 0)) q) (sym whole) (rank_of_face 0 top_rank.0)) in
      let p = place_of_meet g.0 g.1.meet in
      let same_rank = one_rank n (bit_sets rows) (has (face_at faces p.0)) (rank_at ranks p.0) k (rank_of_face p.0 p.1) (rank_same n (bit_sets rows) g.0 (has (face_at faces p.0)) k p.2 g.1) in
      none (members (face_at faces p.0)) (subst (λ xs. Among (members (face_at faces p.0)) xs) e (in_level k faces ranks as_many p.0 p.1 same_rank))
    where
      none : (xs : List ℕ) → Among xs [] → ⊥
      none xs i = elim i [ ]

  abbrev all_levels : List (List (List ℕ))
  all_levels = map (λ k. level_of k faces ranks) (range_with_len 0 (rank_at ranks 0 + 1))

  levels_len : length all_levels ≡ rank_at ranks 0 + 1
  levels_len = length-map-range_with_len (λ k. level_of k faces ranks) 0 (rank_at ranks 0 + 1)

  level_at : (k : ℕ) → k ≤ rank_at ranks 0 → at_rank all_levels k ≡ level_of k faces ranks
  level_at k l = get_or-map-range_with_len (λ k. level_of k faces ranks) 0 (rank_at ranks 0 + 1) k k [] (omega arith) (omega arith)

  level_past : (k : ℕ) → rank_at ranks 0 < k → at_rank all_levels k ≡ []
  level_past k l = get_or_past all_levels k [] (let e = levels_len in omega arith)

  level_order : (k : ℕ) → AllPairs IsLexBefore (at_rank all_levels k)
  level_order k = elim (cases_lt (rank_at ranks 0) k) [
    | inl l ↦ subst (λ xs. AllPairs IsLexBefore xs) (sym (level_past k l)) (λ i j d a b. absurd (omega arith))
    | inr l ↦ subst (λ xs. AllPairs IsLexBefore xs) (sym (level_at k l)) (level_ordered k faces ranks (lists_ordered k))
  ]

  face_of : (k : ℕ) (xs : List ℕ) → Among xs (at_rank all_levels k) → IsAscending n xs × HasMeetRank n (bit_sets rows) (holds xs) k
  face_of k xs c = elim (cases_lt (rank_at ranks 0) k) [
    | inl l ↦ absurd (none (subst (λ ls. Among xs ls) (level_past k l) c))
    | inr l ↦ (
        let p = from_level k faces ranks xs (subst (λ ls. Among xs ls) (level_at k l) c) in
        let r = subst (λ q. HasMeetRank n (bit_sets rows) (has (face_at faces p.place)) q) p.rank (rank_of_face p.place p.inside) in
        subst (λ ys. IsAscending n ys × HasMeetRank n (bit_sets rows) (holds ys) k) (sym p.list) (
          members_ascend n (face_at faces p.place) (face_len p.place p.inside),
          subst (λ f. HasMeetRank n (bit_sets rows) f k) (sym (same_test (face_at faces p.place))) r,
        ))
  ]
    where
      none : Among xs [] → ⊥
      none i = elim i [ ]

  pub is_lattice : (levels : List (List (List ℕ))) → levels ≡ map (λ k. level_of k faces ranks) (range_with_len 0 (rank_at ranks 0 + 1)) → AreMeetsByRank n (bit_sets rows) levels
  is_lattice levels e = subst (λ ls. AreMeetsByRank n (bit_sets rows) ls) (sym e) (record {
    each = λ k xs c. face_of k xs (among_Contains (at_rank all_levels k) c);
    all = λ g w.
        let p = place_of_meet g w in
        let low = top_rank.1 p.0 p.1 in (
          rank_at ranks p.0,
          members (face_at faces p.0),
          subst (λ xs. Contains xs (members (face_at faces p.0))) (sym (level_at (rank_at ranks p.0) low)) (Contains_among (in_level (rank_at ranks p.0) faces ranks as_many p.0 p.1 refl)),
          (λ j l. p.2 j l ∙ sym (holds_members (face_at faces p.0) j)),
        );
    ordered = level_order;
    full = λ k d l.
        let low : k ≤ rank_at ranks 0 = (let e = levels_len in omega arith) in
        subst (λ xs. ¬ (xs ≡ [])) (sym (get_or_default all_levels k d [] l ∙ level_at k low)) (level_full k low);
  })
