-- Counts of faces of small polytopes, and the diagrams of the cone {0} and of a ray.
use Rattle.pm_vector.proofs.ConeLaws.{dot_in}
use Rattle.pm_vector.proofs.Lists.{AllPairs_cons, All_among, Among, Any_among, here, there}
use Rattle.pm_vector.proofs.RowLaws.{dot-zeros, length-zeros, zeros}
use Rattle.pm_vector.specs.Rows.{Row, dot}
use Rattle.pm_geom.specs.FaceCounts.{AreFacesOfRank, IsHasseDiagram, IsLexBefore, SamePlaces, at_rank}
use Rattle.pm_geom.specs.Faces.{HasChain, HasRank, IsFace, IsStrictlyIn, ray}
use Rattle.pm_geom.specs.GraphExamples.{CountsAreRead, DiagramsAreRead, HVectorsAreRead, empty_lattice, one, ray_lattice}
use Rattle.pm_geom.specs.Graphs.{IsAscending, holds}
use Rattle.std.proofs.Common.{arith, refl, subst}
use Rattle.std.proofs.lemmas.Bool.{false_from_ne_true}
use Rattle.std.proofs.lemmas.Int.{ints}
use Rattle.std.specs.List.{All, AllPairs, Any}
use Rattle.std.specs.Prelude.{Bool, IsTrue, List, [], length, suc, true, zero, ℕ, ◌<◌, ◌↔◌, ◌∷◌, ◌≡◌}
use lib.IntN.{pos}
use lib.Signed.{le_z_yes, ◌≤ℤ◌}

pub counts_are_read : CountsAreRead
counts_are_read = record {
  empty_f = refl;
  ray_f = refl;
  segment_f = refl;
  square_f = refl;
  octahedron_f = refl;
  without_ends = λ e. cc;
  empty_f2 = refl;
  ray_f2 = refl;
  square_f2 = refl;
  octahedron_f2 = refl;
  once = λ e. cc;
}

pub h_vectors_are_read : HVectorsAreRead
h_vectors_are_read = record { octahedron = refl; square = refl; segment = refl; point = refl; negative = refl; not_turned = λ e. cc }

-- ---- lists of one face, and of none
single : (P : List ℕ → Type 0) (f : List ℕ) → P f → All P (f ∷ [])
single P f p = All_among P (f ∷ []) at
  where
    at : (g : List ℕ) → Among g (f ∷ []) → P g
    at g here = p
    at g (there i) = elim i [ ]

single_ordered : (f : List ℕ) → AllPairs IsLexBefore (f ∷ [])
single_ordered f = AllPairs_cons IsLexBefore f [] (λ y i. elim i [ ]) (λ i j d l m. absurd (omega arith))

no_faces : (n : ℕ) (G L V : List Row) (k : ℕ) → ((f : ℕ → Bool) → ¬ (HasRank n G L V f k)) → AreFacesOfRank n G L V k []
no_faces n G L V k h = record { each = λ i d l. absurd (omega arith); all = λ f r. absurd (h f r); ordered = λ i j d l m. absurd (omega arith) }

whole_face : (n : ℕ) (G L V : List Row) (f : ℕ → Bool) → ((j : ℕ) → j < length V → IsTrue (f j)) → IsFace n G L V f
whole_face n G L V f all = record {
  a = zeros n;
  valid = record { cols = length-zeros n; holds = λ x lx h. simp dot-zeros (omega (arith, ints)) };
  places = λ j l. (λ t. dot-zeros n (ray V j), λ e. all j l);
}

-- ---- the cone {0}
empty_rank : (n : ℕ) (f : ℕ → Bool) → HasRank n [] [] [] f 0
empty_rank n f = record { face = whole_face n [] [] [] f (λ j l. absurd (omega arith)); chain = tt; greatest = λ c. absurd (let l = c.2.below in omega arith) }

empty_at : (n k : ℕ) → AreFacesOfRank n [] [] [] k (at_rank empty_lattice k)
empty_at n zero = record {
  each = single (λ f. IsAscending 0 f × HasRank n [] [] [] (holds f) 0) [] ((λ i d l. absurd (omega arith), λ i j d l m. absurd (omega arith)), empty_rank n (holds []));
  all = λ f r. Any_among (λ g. SamePlaces 0 f (holds g)) (here {xs = []}) (λ j l. absurd (omega arith));
  ordered = single_ordered [];
}
empty_at n (suc k) = no_faces n [] [] [] (suc k) (λ f r. absurd (let l = r.chain.2.below in omega arith))

all_full : (ranks : List (List (List ℕ))) → ((faces : List (List ℕ)) → Among faces ranks → ¬ (faces ≡ [])) → All (λ faces. ¬ (faces ≡ [])) ranks
all_full ranks f = All_among (λ faces. ¬ (faces ≡ [])) ranks f

no_member : (P : List ℕ → Type 0) → ¬ (Any P [])
no_member P a = absurd (let l = a.1 in omega arith)

empty_diagram : (n : ℕ) → IsHasseDiagram n [] [] [] empty_lattice
empty_diagram n = record { each = empty_at n; full = all_full empty_lattice some }
  where
    some : (faces : List (List ℕ)) → Among faces empty_lattice → ¬ (faces ≡ [])
    some faces here e = cc
    some faces (there i) e = elim i [ ]

-- ---- a ray
none_face : IsFace 1 one [] one (holds [])
none_face = record {
  a = pos 1 ∷ [];
  valid = record { cols = refl; holds = λ x lx h. dot_in (pos 1 ∷ []) one [] at (λ l i. elim i [ ]) h };
  places = λ j l. at_place j l;
}
  where
    at : (g : Row) → Among g one → pos 0 ≤ℤ dot (pos 1 ∷ []) g
    at g here = le_z_yes tt
    at g (there i) = elim i [ ]

    at_place : (j : ℕ) → j < 1 → IsTrue (holds [] j) ↔ (dot (pos 1 ∷ []) (ray one j) ≡ pos 0)
    at_place zero l = (λ t. absurd cc, λ e. absurd (omega (arith, ints)))
    at_place (suc j) l = absurd (omega arith)

none_in : (f : ℕ → Bool) (j : ℕ) → j < 1 → IsTrue (f j) → IsStrictlyIn 1 (holds []) f
none_in f j l t = record { included = λ i m s. absurd cc; j = j; below = l; has = t; lacks = λ s. absurd cc }

-- no chain has two steps within one place
no_two : (f : ℕ → Bool) (k : ℕ) → ¬ (HasChain 1 one [] one (suc (suc k)) f)
no_two f k c =
    let s = c.2 in
    let t = c.3.2 in
    let e : t.j ≡ s.j = (let a = s.below in let b = t.below in omega arith) in
    s.lacks (subst (λ x. IsTrue (c.0 x)) e t.has)

none_rank : HasRank 1 one [] one (holds []) 0
none_rank = record { face = none_face; chain = tt; greatest = λ c. absurd (let t = c.2.has in cc) }

ray_rank : HasRank 1 one [] one (holds (0 ∷ [])) 1
ray_rank = record { face = whole_face 1 one [] one (holds (0 ∷ [])) at; chain = (holds [], none_face, none_in (holds (0 ∷ [])) 0 (omega arith) refl, tt); greatest = no_two (holds (0 ∷ [])) 0 }
  where
    at : (j : ℕ) → j < 1 → IsTrue (holds (0 ∷ []) j)
    at zero l = refl
    at (suc j) l = absurd (omega arith)

same_one : (f g : ℕ → Bool) → f 0 ≡ g 0 → SamePlaces 1 f g
same_one f g e zero l = e
same_one f g e (suc j) l = absurd (omega arith)

first_place : (f : ℕ → Bool) (j : ℕ) → j < 1 → IsTrue (f j) → f 0 ≡ true
first_place f j l t = let e : j ≡ 0 = omega arith in subst (λ x. IsTrue (f x)) e t

ray_at : (k : ℕ) → AreFacesOfRank 1 one [] one k (at_rank ray_lattice k)
ray_at zero = record {
  each = single (λ f. IsAscending 1 f × HasRank 1 one [] one (holds f) 0) [] ((λ i d l. absurd (omega arith), λ i j d l m. absurd (omega arith)), none_rank);
  all = λ f r. Any_among (λ g. SamePlaces 1 f (holds g)) (here {xs = []}) (same_one f (holds []) (false_from_ne_true (f 0) (λ t. r.greatest (holds [], none_face, none_in f 0 (omega arith) t, tt))));
  ordered = single_ordered [];
}
ray_at (suc zero) = record {
  each = single (λ f. IsAscending 1 f × HasRank 1 one [] one (holds f) 1) (0 ∷ []) ((below, AllPairs_cons (λ i j. i < j) 0 [] (λ y i. elim i [ ]) (λ i j d l m. absurd (omega arith))), ray_rank);
  all = λ f r. Any_among (λ g. SamePlaces 1 f (holds g)) (here {xs = []}) (same_one f (holds (0 ∷ [])) (first_place f r.chain.2.j r.chain.2.below r.chain.2.has));
  ordered = single_ordered (0 ∷ []);
}
  where
    below : All (λ j. j < 1) (0 ∷ [])
    below = All_among (λ j. j < 1) (0 ∷ []) at
      where
        at : (j : ℕ) → Among j (0 ∷ []) → j < 1
        at j here = omega arith
        at j (there i) = elim i [ ]
ray_at (suc (suc k)) = no_faces 1 one [] one (suc (suc k)) (λ f r. no_two f k r.chain)

ray_diagram : IsHasseDiagram 1 one [] one ray_lattice
ray_diagram = record { each = ray_at; full = all_full ray_lattice some }
  where
    some : (faces : List (List ℕ)) → Among faces ray_lattice → ¬ (faces ≡ [])
    some faces here e = cc
    some faces (there here) e = cc
    some faces (there (there i)) e = elim i [ ]

pub diagrams_are_read : DiagramsAreRead
diagrams_are_read = record {
  empty = empty_diagram;
  not_none = λ n d. no_member (λ g. SamePlaces 0 (holds []) (holds g)) ((d.each 0).all (holds []) (empty_rank n (holds [])));
  ray = ray_diagram;
  without_whole = λ d. no_member (λ g. SamePlaces 1 (holds (0 ∷ [])) (holds g)) ((d.each 1).all (holds (0 ∷ [])) ray_rank);
  without_least = λ d. ((d.each 0).each 0 [] (omega arith)).1.greatest ray_rank.chain;
}
