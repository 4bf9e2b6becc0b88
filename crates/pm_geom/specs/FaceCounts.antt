-- All faces of a cone by their ranks, and the numbers that count them.
use Rattle.pm_vector.specs.Rows.{Row}
use Rattle.pm_geom.specs.Faces.{HasRank}
use Rattle.pm_geom.specs.Graphs.{IsAscending, holds}
use Rattle.std.specs.Cmp.Lexicographic.{slice_cmp}
use Rattle.std.specs.List.{All, AllPairs, Any, count_by, list_all, range_with_len, slice_index_or, sum_by}
use Rattle.std.specs.Ordering.{nat_cmp}
use Rattle.std.specs.Prelude.{ℕ, zero, suc, ◌+◌, ◌-◌, ◌<◌, ◌≡◌, Bool, List, [], cond, drop, length, map, nat_lt, take}
use Rattle.std.specs.declared.cmp.Ordering.TheVariants.{Less}
use lib.IntN.{ℤ, neg_ℤ, pos, ◌+ℤ◌, ◌*ℤ◌}

-- the faces of rank k, each a list of indices
abbrev pub at_rank : List (List (List ℕ)) → ℕ → List (List ℕ)
at_rank ranks k = slice_index_or ranks k []

-- xs comes before ys in lexicographic order
abbrev pub IsLexBefore : List ℕ → List ℕ → Type 0
IsLexBefore xs ys = slice_cmp nat_cmp xs ys ≡ Less

-- f and g have the same places below m
abbrev pub SamePlaces : ℕ → (ℕ → Bool) → (ℕ → Bool) → Type 0
SamePlaces m f g = (j : ℕ) → j < m → f j ≡ g j

-- exactly the faces of rank k, as rising lists of places, in lexicographic order
pub record AreFacesOfRank (n : ℕ) (G L V : List Row) (k : ℕ) (faces : List (List ℕ)) : Type 0 where
  pub each : All (λ f. IsAscending (length V) f × HasRank n G L V (holds f) k) faces
  pub all : (f : ℕ → Bool) → HasRank n G L V f k → Any (λ g. SamePlaces (length V) f (holds g)) faces
  pub ordered : AllPairs IsLexBefore faces

-- all faces, from rank 0 to the rank of the whole (Ziegler, section 2.2)
pub record IsHasseDiagram (n : ℕ) (G L V : List Row) (ranks : List (List (List ℕ))) : Type 0 where
  pub each : (k : ℕ) → AreFacesOfRank n G L V k (at_rank ranks k)
  pub full : All (λ faces. ¬ (faces ≡ [])) ranks

-- the ranks but the first, of the least face, and the last, of the whole
abbrev pub inner : List (List (List ℕ)) → List (List (List ℕ))
inner ranks = take (length ranks - 2) (drop 1 ranks)

-- how many faces each inner rank has: the f-vector (Ziegler, section 8.3)
abbrev pub f_of : List (List (List ℕ)) → List ℕ
f_of ranks = map length (inner ranks)

-- whether the face ys has each index of the face xs
abbrev pub is_within : List ℕ → List ℕ → Bool
is_within xs ys = list_all (holds ys) xs

-- how many pairs there are of a face of the first list and a face of the second that includes it
abbrev pub inclusion_count : List (List ℕ) → List (List ℕ) → ℕ
inclusion_count lower upper = sum_by (λ g. count_by (is_within g) upper) lower

-- the faces of the inner rank at place i
abbrev pub inner_faces : List (List (List ℕ)) → ℕ → List (List ℕ)
inner_faces ranks i = slice_index_or (inner ranks) i []

-- how many pairs there are of faces of the inner ranks at i and k, one included in the other; where these are one
-- rank, how many faces it has
abbrev pub f2_entry : List (List (List ℕ)) → ℕ → ℕ → ℕ
f2_entry ranks i k =
    cond (nat_lt i k) (inclusion_count (inner_faces ranks i) (inner_faces ranks k))
    (cond (nat_lt k i) (inclusion_count (inner_faces ranks k) (inner_faces ranks i))
    (length (inner_faces ranks i)))

-- the entries of a square table of size d
abbrev pub table_of : ℕ → (ℕ → ℕ → ℕ) → List (List ℕ)
table_of d entry = map (λ i. map (entry i) (range_with_len 0 d)) (range_with_len 0 d)

-- the table of these pairs: the f2-vector
abbrev pub f2_of : List (List (List ℕ)) → List (List ℕ)
f2_of ranks = table_of (length (inner ranks)) (f2_entry ranks)

-- how many sets of k there are among n things (Graham, Knuth and Patashnik, Concrete Mathematics, section 5.1)
abbrev pub binom : ℕ → ℕ → ℕ
binom n zero = 1
binom zero (suc k) = 0
binom (suc n) (suc k) = binom n k + binom n (suc k)

-- z with the sign of (-1)^n
abbrev pub alternated : ℕ → ℤ → ℤ
alternated zero z = z
alternated (suc n) z = neg_ℤ (alternated n z)

-- f_(i-1), of which the first is f_(-1) = 1
abbrev pub f_before : List ℤ → ℕ → ℤ
f_before f zero = pos 1
f_before f (suc i) = slice_index_or f i (pos 0)

-- the term (-1)^(k-i) binom(d-i, d-k) f_(i-1) of h_k
abbrev pub h_term : List ℤ → ℕ → ℕ → ℕ → ℤ
h_term f d k i = alternated (k - i) (pos (binom (d - i) (d - k)) *ℤ f_before f i)

-- the sum of the terms of h_k from 0 to i
abbrev pub h_sum : List ℤ → ℕ → ℕ → ℕ → ℤ
h_sum f d k zero = h_term f d k 0
h_sum f d k (suc i) = h_sum f d k i +ℤ h_term f d k (suc i)

-- h_k, by the f-vector of a simplicial polytope of dimension d (Ziegler, section 8.3)
abbrev pub h_entry : List ℤ → ℕ → ℕ → ℤ
h_entry f d k = h_sum f d k k

-- the h-vector: h_k for k from 0 to d
abbrev pub h_of : List ℤ → ℕ → List ℤ
h_of f d = map (h_entry f d) (range_with_len 0 (d + 1))
