-- Sorted lists are determined by their members; so a graph has one list of neighbours, and an order of the rays one list of all faces.
use Rattle.pm_geom.proofs.Holds.{among_holds, holds_among}
use Rattle.pm_vector.proofs.Lists.{Among, Contains_among, among_All, among_Contains, here, there}
use Rattle.pm_vector.specs.Cones.{InCone}
use Rattle.pm_vector.specs.Rows.{HasCols, Row}
use Rattle.pm_geom.specs.Cones.{IsOrder}
use Rattle.pm_geom.specs.FaceCounts.{IsHasseDiagram, IsLexBefore, at_rank}
use Rattle.pm_geom.specs.Graphs.{IsAscending, IsGraph, holds}
use Rattle.pm_ranks.proofs.Diagrams.{diagram_ends, face_among, face_at}
use Rattle.pm_ranks.proofs.Facets.{each_has_rank}
use Rattle.pm_ranks.proofs.Whole.{whole_is_face}
use Rattle.std.proofs.Common.{ap, arith, inl, inr, refl, subst, sym, ◌∙◌}
use Rattle.std.proofs.lemmas.Cmp.{nat_list_cmp_total}
use Rattle.std.specs.List.{AllPairs, slice_index_or}
use Rattle.std.specs.Ordering.{ordering_reverse}
use Rattle.std.specs.Prelude.{List, [], length, suc, true, ℕ, ◌<◌, ◌∷◌, ◌≡◌, ◌⊎◌}

-- ---- lists in one strict order
drop_first : {X : Type 0} {y z : X} {ys : List X} → ¬ (z ≡ y) → Among z (y ∷ ys) → Among z ys
drop_first ne here = absurd (ne refl)
drop_first ne (there i) = i

first_or_later : {X : Type 0} {y z : X} {ys : List X} → Among z (y ∷ ys) → (z ≡ y) ⊎ Among z ys
first_or_later here = inl refl
first_or_later (there i) = inr i

module _ {X : Type 0} (R : X → X → Type 0) (strict : (x y : X) → R x y → R y x → ⊥) where
  tail_ordered : (x : X) (xs : List X) → AllPairs R (x ∷ xs) → AllPairs R xs
  tail_ordered x xs h i j d l m = h (suc i) (suc j) d (omega arith) (omega arith)

  first_before : (x y : X) (xs : List X) → AllPairs R (x ∷ xs) → Among y xs → R x y
  first_before x y xs h i = let c = Contains_among i in subst (λ z. R x z) c.2 (h 0 (suc c.0) y (omega arith) (let l = c.1 in omega arith))

  firsts_same : (x y : X) (xs ys : List X) → AllPairs R (x ∷ xs) → AllPairs R (y ∷ ys) → Among x (y ∷ ys) → Among y (x ∷ xs) → x ≡ y
  firsts_same x y xs ys h k i j = elim (first_or_later i) [
    | inl e ↦ e
    | inr a ↦ elim (first_or_later j) [ inl e ↦ sym e | inr b ↦ absurd (strict x y (first_before x y xs h b) (first_before y x ys k a)) ]
  ]

  -- what comes after the first is not the first
  after_first : (x z : X) (xs : List X) → AllPairs R (x ∷ xs) → Among z xs → ¬ (z ≡ x)
  after_first x z xs h i e = let r = subst (λ w. R x w) e (first_before x z xs h i) in strict x x r r

  pub sorted_same : (xs ys : List X) → AllPairs R xs → AllPairs R ys → ((z : X) → Among z xs → Among z ys) → ((z : X) → Among z ys → Among z xs) → xs ≡ ys
  sorted_same [] [] h k f g = refl
  sorted_same [] (y ∷ ys) h k f g = elim (g y here) [ ]
  sorted_same (x ∷ xs) [] h k f g = elim (f x here) [ ]
  sorted_same (x ∷ xs) (y ∷ ys) h k f g =
      let e = firsts_same x y xs ys h k (f x here) (g y here) in
      let r = sorted_same xs ys (tail_ordered x xs h) (tail_ordered y ys k)
      (λ z i. drop_first (λ q. after_first x z xs h i (q ∙ sym e)) (f z (there i)))
      (λ z i. drop_first (λ q. after_first y z ys k i (q ∙ e)) (g z (there i))) in
      cc

-- lists that agree at each place
same_at : {X : Type 0} (d : X) (xs ys : List X) → length xs ≡ length ys → ((i : ℕ) → i < length xs → slice_index_or xs i d ≡ slice_index_or ys i d) → xs ≡ ys
same_at d [] [] e f = refl
same_at d [] (y ∷ ys) e f = absurd (omega arith)
same_at d (x ∷ xs) [] e f = absurd (omega arith)
same_at d (x ∷ xs) (y ∷ ys) e f = let p = f 0 (omega arith) in let r = same_at d xs ys (omega arith) (λ i l. f (suc i) (omega arith)) in cc

rising_same : (m : ℕ) (xs ys : List ℕ) → IsAscending m xs → IsAscending m ys → ((j : ℕ) → Among j xs → Among j ys) → ((j : ℕ) → Among j ys → Among j xs) → xs ≡ ys
rising_same m xs ys a b f g = sorted_same (λ i j. i < j) (λ i j l m. absurd (omega arith)) xs ys a.1 b.1 f g

lex_strict : (xs ys : List ℕ) → IsLexBefore xs ys → IsLexBefore ys xs → ⊥
lex_strict xs ys l m = let e = nat_list_cmp_total.antisymm xs ys in let f = ap ordering_reverse m in let g = sym l ∙ e ∙ f in cc

-- ---- graphs
module _ (n : ℕ) (E : ℕ → ℕ → Type 0) (r s : List (List ℕ)) (g : IsGraph n E r) (h : IsGraph n E s) where
  pub one_graph : r ≡ s
  one_graph = same_at [] r s (g.nodes ∙ sym h.nodes) (λ i l.
      let li : i < n = (let e = g.nodes in omega arith) in
      rising_same n (slice_index_or r i []) (slice_index_or s i [])
      (g.ascending i [] l)
      (h.ascending i [] (let e = g.nodes in let f = h.nodes in omega arith))
      (λ j a. among_Contains (slice_index_or s i []) ((h.edges i j li).1 ((g.edges i j li).0 (Contains_among a))))
      (λ j a. among_Contains (slice_index_or r i []) ((g.edges i j li).1 ((h.edges i j li).0 (Contains_among a)))))

-- ---- all faces by rank
module _ (n : ℕ) (G L V : List Row) where
  ranks_within : (r s : List (List (List ℕ))) → IsHasseDiagram n G L V r → IsHasseDiagram n G L V s → (k : ℕ) (f : List ℕ) → Among f (at_rank r k) → Among f (at_rank s k)
  ranks_within r s d e k f i =
      let a = face_at n G L V r d k f i in
      let w = face_among n G L V s e k (holds f) a.1 in
      let b = (face_at n G L V s e k w.0 w.1).0 in
      let same = rising_same (length V) f w.0 a.0 b
      (λ j q. holds_among w.0 j (sym (w.2 j (among_All (λ j. j < length V) q (a.0).0)) ∙ among_holds f j q))
      (λ j q. holds_among f j (w.2 j (among_All (λ j. j < length V) q b.0) ∙ among_holds w.0 j q)) in
      subst (λ g. Among g (at_rank s k)) (sym same) w.1

  pub one_diagram : HasCols n G → HasCols n L → IsOrder n (InCone G L) V → (r s : List (List (List ℕ))) → IsHasseDiagram n G L V r → IsHasseDiagram n G L V s → r ≡ s
  one_diagram hg hl o r s d e =
      let t = each_has_rank n G L hg hl V o (λ j. true) (whole_is_face n G L V) in
      same_at [] r s (diagram_ends n G L V r d t.0 t.1 ∙ sym (diagram_ends n G L V s e t.0 t.1)) (λ k l.
      sorted_same IsLexBefore lex_strict (at_rank r k) (at_rank s k) (d.each k).ordered (e.each k).ordered (ranks_within r s d e k) (ranks_within s r e d k))
