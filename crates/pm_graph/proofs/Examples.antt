-- The examples of edges hold.
use Rattle.pm_vector.proofs.Lists.{Among, among_Any, among_Contains}
use Rattle.pm_bits.specs.Sets.{has}
use Rattle.pm_bits.specs.Table.{row_at}
use Rattle.pm_graph.specs.Edges.{HasFace, IsFaceEdge, IsIndexEdge, IsRowEdge, IsSetEdge, NoThirdIndex, NoThirdRow, NoThirdSet}
use Rattle.pm_graph.specs.Examples.{EdgesAreRead, bits, path, path_faces, square}
use Rattle.std.proofs.Common.{ap, arith, get_or, inl, inr, length, refl, subst, true≢false, sym}
use Rattle.std.specs.List.{Contains}
use Rattle.std.specs.Prelude.{IsTrue, List, [], suc, zero, ℕ, ◌⊎◌, ◌∷◌, ◌≡◌}

two : {X : Type 0} {a b x : X} → Among x (a ∷ b ∷ []) → (x ≡ a) ⊎ (x ≡ b)
two Among.here = inl refl
two (Among.there Among.here) = inr refl
two (Among.there (Among.there i)) = elim i [ ]

in_two : (a b j : ℕ) → Contains (a ∷ b ∷ []) j → (j ≡ a) ⊎ (j ≡ b)
in_two a b j c = two (among_Contains (a ∷ b ∷ []) c)

not_in_two : (a b j : ℕ) → ¬ (j ≡ a) → ¬ (j ≡ b) → ¬ (Contains (a ∷ b ∷ []) j)
not_in_two a b j n m c = elim (in_two a b j c) [ inl e ↦ n e | inr e ↦ m e ]

-- ---- indices of sets
ends_alone : NoThirdIndex path 0 1
ends_alone l low n m all = not_in_two 0 1 l n m (all (0 ∷ 1 ∷ []) (0, (omega arith), refl) (0, (omega arith), refl) (1, (omega arith), refl))

no_set : (set : List ℕ) → Contains path.rows set → Contains set 0 → Contains set 2 → ⊥
no_set set c first last = elim (two (among_Contains path.rows c)) [
  | inl e ↦ not_in_two 0 1 2 (λ k. omega arith) (λ k. omega arith) (subst (λ s. Contains s 2) e last)
  | inr e ↦ not_in_two 1 2 0 (λ k. omega arith) (λ k. omega arith) (subst (λ s. Contains s 0) e first)
]

not_ends : ¬ (IsIndexEdge path 0 2)
not_ends h = h.alone 1 (omega arith) (λ e. omega arith) (λ e. omega arith) (λ set c first last. absurd (no_set set c first last))

-- ---- sets
sides_alone : NoThirdSet square 0 1
sides_alone zero low n m all = n refl
sides_alone (suc zero) low n m all = m refl
sides_alone (suc (suc zero)) low n m all = not_in_two 1 3 0 (λ k. omega arith) (λ k. omega arith) (all 0 (0, (omega arith), refl) (0, (omega arith), refl))
sides_alone (suc (suc (suc zero))) low n m all = not_in_two 2 3 0 (λ k. omega arith) (λ k. omega arith) (all 0 (0, (omega arith), refl) (0, (omega arith), refl))
sides_alone (suc (suc (suc (suc l)))) low n m all = absurd (omega arith)

share_none : (j : ℕ) → Contains (0 ∷ 1 ∷ []) j → Contains (2 ∷ 3 ∷ []) j → ⊥
share_none j c d = elim (in_two 0 1 j c) [
  | inl e ↦ elim (in_two 2 3 j d) [ inl f ↦ absurd (omega arith) | inr f ↦ absurd (omega arith) ]
  | inr e ↦ elim (in_two 2 3 j d) [ inl f ↦ absurd (omega arith) | inr f ↦ absurd (omega arith) ]
]

not_opposite : ¬ (IsSetEdge square 0 3)
not_opposite h = h.alone 1 (omega arith) (λ e. omega arith) (λ e. omega arith) (λ j c d. absurd (share_none j c d))

-- ---- faces
pair_face : HasFace path_faces (0 ∷ 1 ∷ [])
pair_face = (2, path.rows, (omega arith), refl, (0, (omega arith), refl))

turned_face : HasFace path_faces (1 ∷ 2 ∷ [])
turned_face = (2, path.rows, (omega arith), refl, (1, (omega arith), refl))

abbrev first : List ℕ → ℕ
first xs = get_or xs 0 0

abbrev second : List ℕ → ℕ
second xs = get_or xs 1 0

-- the face has the ends of the path alone
abbrev AreEnds : List ℕ → Type 0
AreEnds face = ((first face ≡ 0) × (second face ≡ 2)) ⊎ ((first face ≡ 2) × (second face ≡ 0))

not_first : (face : List ℕ) → AreEnds face → ¬ (face ≡ 0 ∷ 1 ∷ [])
not_first face ends e = elim ends [
  | inl w ↦ absurd (let s : second face ≡ 1 = ap second e in let t = w.1 in omega arith)
  | inr w ↦ absurd (let s : second face ≡ 1 = ap second e in let t = w.1 in omega arith)
]

not_second : (face : List ℕ) → AreEnds face → ¬ (face ≡ 1 ∷ 2 ∷ [])
not_second face ends e = elim ends [
  | inl w ↦ absurd (let s : first face ≡ 1 = ap first e in let t = w.0 in omega arith)
  | inr w ↦ absurd (let s : first face ≡ 1 = ap first e in let t = w.0 in omega arith)
]

in_no_rank : (face : List ℕ) → length face ≡ 2 → AreEnds face → (faces : List (List ℕ)) → Among faces path_faces → Among face faces → ⊥
in_no_rank face pair ends faces Among.here Among.here = omega arith
in_no_rank face pair ends faces Among.here (Among.there i) = elim i [ ]
in_no_rank face pair ends faces (Among.there Among.here) Among.here = omega arith
in_no_rank face pair ends faces (Among.there Among.here) (Among.there Among.here) = omega arith
in_no_rank face pair ends faces (Among.there Among.here) (Among.there (Among.there Among.here)) = omega arith
in_no_rank face pair ends faces (Among.there Among.here) (Among.there (Among.there (Among.there i))) = elim i [ ]
in_no_rank face pair ends faces (Among.there (Among.there Among.here)) i = elim (two i) [ inl e ↦ not_first face ends e | inr e ↦ not_second face ends e ]
in_no_rank face pair ends faces (Among.there (Among.there (Among.there Among.here))) Among.here = omega arith
in_no_rank face pair ends faces (Among.there (Among.there (Among.there Among.here))) (Among.there i) = elim i [ ]
in_no_rank face pair ends faces (Among.there (Among.there (Among.there (Among.there j)))) i = elim j [ ]

no_such_face : (face : List ℕ) → length face ≡ 2 → AreEnds face → ¬ (HasFace path_faces face)
no_such_face face pair ends h = let w = among_Any (λ faces. Contains faces face) path_faces h in in_no_rank face pair ends w.0 w.1 (among_Contains w.0 w.2)

no_face : ¬ (IsFaceEdge path_faces 0 2)
no_face h = elim h.face [
  | inl f ↦ no_such_face (0 ∷ 2 ∷ []) refl (inl (refl, refl)) f
  | inr f ↦ no_such_face (2 ∷ 0 ∷ []) refl (inr (refl, refl)) f
]

-- ---- rows of bits
rows_alone : NoThirdRow bits 0 1
rows_alone zero low n m all = n refl
rows_alone (suc zero) low n m all = m refl
rows_alone (suc (suc zero)) low n m all = absurd (true≢false (sym (all 0 refl refl)))
rows_alone (suc (suc (suc l))) low n m all = absurd (omega arith)

share_no_bit : (x : ℕ) → IsTrue (has (row_at bits 0) x) → IsTrue (has (row_at bits 2) x) → ⊥
share_no_bit zero c d = absurd (true≢false (sym d))
share_no_bit (suc zero) c d = absurd (true≢false (sym c))
share_no_bit (suc (suc x)) c d = absurd (true≢false (sym c))

not_rows : ¬ (IsRowEdge bits 0 2)
not_rows h = h.alone 1 (omega arith) (λ e. omega arith) (λ e. omega arith) (λ x c d. absurd (share_no_bit x c d))

pub edges_are_read : EdgesAreRead
edges_are_read = record {
  ends = record { first = omega arith; second = omega arith; apart = λ e. omega arith; alone = ends_alone };
  not_ends = not_ends;
  not_itself = λ h. h.apart refl;
  not_beyond = λ h. absurd (let l = h.second in omega arith);
  sides = record { first = omega arith; second = omega arith; apart = λ e. omega arith; alone = sides_alone };
  not_opposite = not_opposite;
  no_side_itself = λ h. h.apart refl;
  whole = refl;
  face = record { first = omega arith; second = omega arith; apart = λ e. omega arith; face = inl pair_face };
  turned = record { first = omega arith; second = omega arith; apart = λ e. omega arith; face = inr turned_face };
  no_face = no_face;
  rows = record { first = omega arith; second = omega arith; apart = λ e. omega arith; alone = rows_alone };
  not_rows = not_rows;
}
