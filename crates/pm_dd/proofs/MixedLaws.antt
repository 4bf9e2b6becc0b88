-- Rows from both ends of a list, and the cone that rows cut out in any order.
use Rattle.std.specs.Prelude.{ℕ, ◌+◌, ◌*◌, ◌≡◌, ◌<◌, ◌≤◌, ◌⊎◌, List, [], ◌∷◌, ◌++◌, length}
use Rattle.std.specs.List.{Contains}
use Rattle.std.specs.List.Sorted.{IsPermutation}
use Rattle.std.proofs.Common.{arith, inl, inr, refl, subst, sym, ◌∙◌}
use Rattle.std.proofs.lemmas.Bool.{cases_lt}
use Rattle.std.proofs.lemmas.List.{length_push}
use Rattle.std.proofs.lemmas.List.Sorted.{Contains-permutation, IsPermutation-sym}
use Rattle.pm_vector.specs.Rows.{HasCols, Row, opposite}
use Rattle.pm_vector.proofs.Lists.{Among, Contains_among, all_from, among_Contains, among_append, among_append_left, among_append_right, here, there}
use Rattle.pm_vector.proofs.RowLaws.{length-opposite}
use Rattle.pm_vector.specs.Bases.{row_at}
use Rattle.pm_geom.specs.Cones.{CutOut, InLineality}
use Rattle.pm_geom.specs.Generators.{AreGenerators}
use Rattle.pm_geom.proofs.Facets.{order_as}
use Rattle.pm_geom.proofs.Polar.{cols_at, cut_at, cut_from}
use Rattle.pm_dd.specs.Mixed.{HaveSameRows}
use Rattle.pm_dd.proofs.StepLaws.{at_place, place_of}

-- the first i rows and the last i, each of which is a row of the list
pub record IsFromEnds (X : List Row) (i : ℕ) (W : List Row) : Type 0 where
  pub inside : (x : Row) → Among x W → Among x X
  pub ends : (k : ℕ) → k < length X → (k < i) ⊎ (length X ≤ k + i) → Among (row_at X k) W
  pub twice : length W ≤ 2 * i
  pub count : length W ≤ length X

pub ends_none : (X : List Row) → IsFromEnds X 0 []
ends_none X = record { inside = λ x i. elim i [ ]; ends = λ k l h. elim h [ inl m ↦ absurd (omega arith) | inr m ↦ absurd (omega arith) ]; twice = omega arith; count = omega arith }

last_of : (W : List Row) (y : Row) {x : Row} → Among x (W ++ y ∷ []) → Among x W ⊎ (y ≡ x)
last_of W y i = elim (among_append W (y ∷ []) i) [ inl j ↦ inl j | inr j ↦ inr (only j) ]
  where
    only : {x : Row} → Among x (y ∷ []) → y ≡ x
    only here = refl
    only (there j) = elim j [ ]

-- one more row, which stands at the place k of the list
added : (X W : List Row) (k : ℕ) → k < length X → ((x : Row) → Among x W → Among x X) → (x : Row) → Among x (W ++ row_at X k ∷ []) → Among x X
added X W k l f x i = elim (last_of W (row_at X k) i) [ inl j ↦ f x j | inr e ↦ subst (λ (z : Row). Among z X) e (at_place X k l) ]

at_end : (W : List Row) (y : Row) → Among y (W ++ y ∷ [])
at_end W y = among_append_right W here

-- the middle row alone
pub ends_middle : (X W : List Row) (i : ℕ) → IsFromEnds X i W → i < length X → length X ≤ i + (i + 1) → i + i + 1 ≤ length X → IsFromEnds X (i + 1) (W ++ row_at X i ∷ [])
ends_middle X W i s l m o = record {
  inside = added X W i l s.inside;
  ends = λ k lk h. elim (cases_lt k i) [
    | inl less ↦ among_append_left (row_at X i ∷ []) (s.ends k lk (inl less))
    | inr more ↦ elim (cases_lt i k) [
      | inl above ↦ among_append_left (row_at X i ∷ []) (s.ends k lk (inr (omega arith)))
      | inr at ↦ let e : k ≡ i = omega arith in subst (λ (j : ℕ). Among (row_at X j) (W ++ row_at X i ∷ [])) (sym e) (at_end W (row_at X i))
    ]
  ];
  twice = let t = s.twice in let n = length_push W (row_at X i) in omega arith;
  count = let t = s.twice in let n = length_push W (row_at X i) in omega arith;
}

-- a row from each end
pub ends_both : (X W : List Row) (i last : ℕ) → IsFromEnds X i W → i < last → last + i + 1 ≡ length X → IsFromEnds X (i + 1) ((W ++ row_at X i ∷ []) ++ row_at X last ∷ [])
ends_both X W i last s l e = record {
  inside = added X (W ++ row_at X i ∷ []) last (omega arith) (added X W i (omega arith) s.inside);
  ends = λ k lk h. elim h [
    | inl low ↦ elim (cases_lt k i) [ inl less ↦ old k (s.ends k lk (inl less)) | inr more ↦ let q : k ≡ i = omega arith in subst (λ (j : ℕ). Among (row_at X j) ((W ++ row_at X i ∷ []) ++ row_at X last ∷ [])) (sym q) (among_append_left (row_at X last ∷ []) (at_end W (row_at X i))) ]
    | inr high ↦ elim (cases_lt last k) [ inl above ↦ old k (s.ends k lk (inr (omega arith))) | inr low ↦ let q : k ≡ last = omega arith in subst (λ (j : ℕ). Among (row_at X j) ((W ++ row_at X i ∷ []) ++ row_at X last ∷ [])) (sym q) (at_end (W ++ row_at X i ∷ []) (row_at X last)) ]
  ];
  twice = let t = s.twice in let n = length_push W (row_at X i) in let n2 = length_push (W ++ row_at X i ∷ []) (row_at X last) in omega arith;
  count = let t = s.twice in let n = length_push W (row_at X i) in let n2 = length_push (W ++ row_at X i ∷ []) (row_at X last) in omega arith;
}
  where
    old : (k : ℕ) → Among (row_at X k) W → Among (row_at X k) ((W ++ row_at X i ∷ []) ++ row_at X last ∷ [])
    old k j = among_append_left (row_at X last ∷ []) (among_append_left (row_at X i ∷ []) j)

pub ends_all : (X W : List Row) (i : ℕ) → IsFromEnds X i W → length X ≤ i + i → HaveSameRows X W
ends_all X W i s l = record { same = λ x. (λ c. go x (among_Contains X c), λ c. Contains_among (s.inside x (among_Contains W c))) }
  where
    go : (x : Row) → Among x X → Contains W x
    go x j = let p = place_of j in let q = p.1 in subst (λ (z : Row). Contains W z) p.2 (Contains_among (s.ends p.0 p.1 (elim (cases_lt p.0 i) [ inl a ↦ inl a | inr b ↦ inr (omega arith) ])))

pub same_permuted : (X Y W : List Row) → IsPermutation X Y → HaveSameRows Y W → HaveSameRows X W
same_permuted X Y W p s = record { same = λ x. (λ c. (s.same x).0 (Contains-permutation X Y x p c), λ c. Contains-permutation Y X x (IsPermutation-sym X Y p) ((s.same x).1 c)) }

pub same_joined : (A Y W : List Row) → HaveSameRows Y W → HaveSameRows (A ++ Y) (A ++ W)
same_joined A Y W s = record { same = λ x. (λ c. Contains_among (go Y W (λ z i. among_Contains W ((s.same z).0 (Contains_among i))) x (among_Contains (A ++ Y) c)), λ c. Contains_among (go W Y (λ z i. among_Contains Y ((s.same z).1 (Contains_among i))) x (among_Contains (A ++ W) c))) }
  where
    go : (P Q : List Row) → ((z : Row) → Among z P → Among z Q) → (x : Row) → Among x (A ++ P) → Among x (A ++ Q)
    go P Q f x i = elim (among_append A P i) [ inl j ↦ among_append_left Q j | inr j ↦ among_append_right A (f x j) ]

-- ---- the cone of the same rows
pub same_cols : (n : ℕ) (X Y : List Row) → HaveSameRows X Y → HasCols n X → HasCols n Y
same_cols n X Y s h = all_from (λ (x : Row). length x ≡ n) Y (λ x i. cols_at (among_Contains X ((s.same x).1 (Contains_among i))) h)

same_to : (X Y : List Row) → HaveSameRows X Y → (x : Row) → CutOut Y x → CutOut X x
same_to X Y s x h = cut_from X x (λ b i. cut_at x (among_Contains Y ((s.same b).0 (Contains_among i))) h)

same_of : (X Y : List Row) → HaveSameRows X Y → (x : Row) → CutOut X x → CutOut Y x
same_of X Y s x h = cut_from Y x (λ b i. cut_at x (among_Contains X ((s.same b).1 (Contains_among i))) h)

-- ---- the same set under another name
module _ (n : ℕ) (S S' : Row → Type 0) (to : (x : Row) → length x ≡ n → S x → S' x) (of : (x : Row) → length x ≡ n → S' x → S x) where
  line_as : (x : Row) → length x ≡ n → InLineality S x → InLineality S' x
  line_as x lx h = record { inside = to x lx h.inside; opposed = to (opposite x) (length-opposite x ∙ lx) h.opposed }

  line_back : (x : Row) → length x ≡ n → InLineality S' x → InLineality S x
  line_back x lx h = record { inside = of x lx h.inside; opposed = of (opposite x) (length-opposite x ∙ lx) h.opposed }

  pub generators_as : {V K : List Row} → AreGenerators n S V K → AreGenerators n S' V K
  generators_as g = record {
    pivots = g.pivots;
    basis = record { echelon = g.basis.echelon; lines = λ x lx. (λ h. (g.basis.lines x lx).0 (line_back x lx h), λ h. line_as x lx ((g.basis.lines x lx).1 h)) };
    order = order_as n S S' to of g.order;
    primitive = g.primitive;
    reduced = g.reduced;
    ascending = g.ascending;
  }

pub same_generators : (n : ℕ) (X Y V K : List Row) → HaveSameRows X Y → AreGenerators n (CutOut Y) V K → AreGenerators n (CutOut X) V K
same_generators n X Y V K s g = generators_as n (CutOut Y) (CutOut X) (λ x lx. same_to X Y s x) (λ x lx. same_of X Y s x) g
