-- The unit square, read.
use Rattle.pm_vector.proofs.Lists.{Among, Contains_among, among_All, among_Contains, here, there}
use Rattle.pm_geom.specs.Faces.{IsStrictlyIn}
use Rattle.pm_geom.specs.Graphs.{holds, sets_of}
use Rattle.pm_geom.specs.Meets.{HasMeetChain, HasMeetRank, IsMeet}
use Rattle.pm_lattice.proofs.Chains.{chain_up, one_rank, out_row}
use Rattle.pm_lattice.proofs.Ends.{chain_size}
use Rattle.pm_lattice.proofs.SmallMeets.{all_places, below_four, lacks_by, meet_with, one_row, ranked, two_rows}
use Rattle.pm_lattice.specs.Parts.{both}
use Rattle.std.proofs.Common.{arith, inl, inr, refl}
use Rattle.std.specs.List.{All}
use Rattle.std.specs.Prelude.{Bool, IsTrue, List, [], false, true, ℕ, ◌<◌, ◌≤◌, ◌∷◌, ◌≡◌}
use Rattle.pm_lattice.specs.Examples.{SquareIsRead, edges}

edge_none : IsMeet 4 (sets_of edges) (holds [])
edge_none = meet_with 4 (sets_of edges) (both (both (λ j. true) (holds (0 ∷ 1 ∷ []))) (holds (2 ∷ 3 ∷ []))) (holds []) (two_rows 4 edges (0 ∷ 1 ∷ []) (2 ∷ 3 ∷ []) here (there (there (there here)))) (below_four (λ j. holds [] j ≡ both (both (λ j. true) (holds (0 ∷ 1 ∷ []))) (holds (2 ∷ 3 ∷ [])) j) refl refl refl refl)

edge_corner : IsMeet 4 (sets_of edges) (holds (0 ∷ []))
edge_corner = meet_with 4 (sets_of edges) (both (both (λ j. true) (holds (0 ∷ 1 ∷ []))) (holds (0 ∷ 2 ∷ []))) (holds (0 ∷ [])) (two_rows 4 edges (0 ∷ 1 ∷ []) (0 ∷ 2 ∷ []) here (there here)) (below_four (λ j. holds (0 ∷ []) j ≡ both (both (λ j. true) (holds (0 ∷ 1 ∷ []))) (holds (0 ∷ 2 ∷ [])) j) refl refl refl refl)

edge_edge : IsMeet 4 (sets_of edges) (holds (0 ∷ 1 ∷ []))
edge_edge = meet_with 4 (sets_of edges) (both (λ j. true) (holds (0 ∷ 1 ∷ []))) (holds (0 ∷ 1 ∷ [])) (one_row 4 edges (0 ∷ 1 ∷ []) here) (below_four (λ j. holds (0 ∷ 1 ∷ []) j ≡ both (λ j. true) (holds (0 ∷ 1 ∷ [])) j) refl refl refl refl)

edge_all : IsMeet 4 (sets_of edges) (holds (0 ∷ 1 ∷ 2 ∷ 3 ∷ []))
edge_all = meet_with 4 (sets_of edges) (λ j. true) (holds (0 ∷ 1 ∷ 2 ∷ 3 ∷ [])) (all_places 4 edges) (below_four (λ j. holds (0 ∷ 1 ∷ 2 ∷ 3 ∷ []) j ≡ true) refl refl refl refl)

strict_four : (f g : List ℕ) (j : ℕ) → j < 4 → (holds f 0 ≡ true → holds g 0 ≡ true) → (holds f 1 ≡ true → holds g 1 ≡ true) → (holds f 2 ≡ true → holds g 2 ≡ true) → (holds f 3 ≡ true → holds g 3 ≡ true) → holds g j ≡ true → holds f j ≡ false → IsStrictlyIn 4 (holds f) (holds g)
strict_four f g j l a b c d t n = record { included = below_four (λ j. IsTrue (holds f j) → IsTrue (holds g j)) a b c d; j = j; below = l; has = t; lacks = lacks_by (holds f j) n }

none_chain : (k : ℕ) → HasMeetChain 4 (sets_of edges) 0 (holds [])
none_chain k = tt

corner_chain : HasMeetChain 4 (sets_of edges) 1 (holds (0 ∷ []))
corner_chain = (holds [], edge_none, strict_four [] (0 ∷ []) 0 (omega arith) (λ t. refl) (λ t. absurd cc) (λ t. absurd cc) (λ t. absurd cc) refl refl, tt)

edge_chain : HasMeetChain 4 (sets_of edges) 2 (holds (0 ∷ 1 ∷ []))
edge_chain = (holds (0 ∷ []), edge_corner, strict_four (0 ∷ []) (0 ∷ 1 ∷ []) 1 (omega arith) (λ t. refl) (λ t. absurd cc) (λ t. absurd cc) (λ t. absurd cc) refl refl, corner_chain)

square_chain : HasMeetChain 4 (sets_of edges) 3 (holds (0 ∷ 1 ∷ 2 ∷ 3 ∷ []))
square_chain = (holds (0 ∷ 1 ∷ []), edge_edge, strict_four (0 ∷ 1 ∷ []) (0 ∷ 1 ∷ 2 ∷ 3 ∷ []) 2 (omega arith) (λ t. refl) (λ t. refl) (λ t. absurd cc) (λ t. absurd cc) refl refl, edge_chain)

-- no row holds both ends of the diagonal, and all places are more
no_diagonal : ¬ (IsMeet 4 (sets_of edges) (holds (0 ∷ 3 ∷ [])))
no_diagonal w = only w.some (λ r i. among_Contains (sets_of edges) (w.among r (Contains_among i))) ((w.places 0 (omega arith)).0 refl) ((w.places 3 (omega arith)).0 refl) (w.places 1 (omega arith)).1
  where
    no_row : (r : ℕ → Bool) → Among r (sets_of edges) → r 0 ≡ true → r 3 ≡ true → ⊥
    no_row r here a b = cc
    no_row r (there here) a b = cc
    no_row r (there (there here)) a b = cc
    no_row r (there (there (there here))) a b = cc
    no_row r (there (there (there (there i)))) a b = elim i [ ]

    only : (some : List (ℕ → Bool)) → ((r : ℕ → Bool) → Among r some → Among r (sets_of edges)) → All (λ r. IsTrue (r 0)) some → All (λ r. IsTrue (r 3)) some → (All (λ r. IsTrue (r 1)) some → false ≡ true) → ⊥
    only [] m a b c = let e = c (λ k d l. absurd (omega arith)) in cc
    only (r ∷ some) m a b c = let i : Among r (r ∷ some) = here in no_row r (m r i) (among_All (λ r. IsTrue (r 0)) i a) (among_All (λ r. IsTrue (r 3)) i b)

-- each strict part of the square lies in an edge, which has two corners
no_longer : ¬ (HasMeetChain 4 (sets_of edges) 4 (holds (0 ∷ 1 ∷ 2 ∷ 3 ∷ [])))
no_longer y =
    let u = out_row 4 (sets_of edges) y.0 (holds (0 ∷ 1 ∷ 2 ∷ 3 ∷ [])) y.1 y.2 in
    short u.0 (among_Contains (sets_of edges) u.1) (chain_up 4 (sets_of edges) 3 y.0 u.0 u.2 y.3)
  where
    short : (r : ℕ → Bool) → Among r (sets_of edges) → ¬ (HasMeetChain 4 (sets_of edges) 3 r)
    short r here x = let b : 3 ≤ 2 = chain_size 4 (sets_of edges) 3 (holds (0 ∷ 1 ∷ [])) x in omega arith
    short r (there here) x = let b : 3 ≤ 2 = chain_size 4 (sets_of edges) 3 (holds (0 ∷ 2 ∷ [])) x in omega arith
    short r (there (there here)) x = let b : 3 ≤ 2 = chain_size 4 (sets_of edges) 3 (holds (1 ∷ 3 ∷ [])) x in omega arith
    short r (there (there (there here))) x = let b : 3 ≤ 2 = chain_size 4 (sets_of edges) 3 (holds (2 ∷ 3 ∷ [])) x in omega arith
    short r (there (there (there (there i)))) x = elim i [ ]

pub square_is_read : SquareIsRead
square_is_read = record {
  none = ranked 4 (sets_of edges) (holds []) 0 0 edge_none tt (λ y. chain_size 4 (sets_of edges) 1 (holds []) y) (omega arith);
  corner = ranked 4 (sets_of edges) (holds (0 ∷ [])) 1 1 edge_corner corner_chain (λ y. chain_size 4 (sets_of edges) 2 (holds (0 ∷ [])) y) (omega arith);
  edge = edge_rank;
  square = record { meet = edge_all; chain = square_chain; greatest = no_longer };
  diagonal = no_diagonal;
  not_flat = λ r. let e = one_rank 4 (sets_of edges) (holds (0 ∷ 1 ∷ [])) 1 2 r edge_rank in cc;
  without_diagonal = λ more l. no_diagonal ((l.each 0 (0 ∷ 3 ∷ []) (let i : Among (0 ∷ 3 ∷ []) ((0 ∷ 3 ∷ []) ∷ []) = here in Contains_among i)).1.meet);
  small = (omega arith, omega arith);
  few = λ t. elim t.many [ inl h ↦ omega arith | inr h ↦ omega arith ];
}
  where
    edge_rank : HasMeetRank 4 (sets_of edges) (holds (0 ∷ 1 ∷ [])) 2
    edge_rank = ranked 4 (sets_of edges) (holds (0 ∷ 1 ∷ [])) 2 2 edge_edge edge_chain (λ y. chain_size 4 (sets_of edges) 3 (holds (0 ∷ 1 ∷ [])) y) (omega arith)
