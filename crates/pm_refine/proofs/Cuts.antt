-- The facet rows of a cone, and the rows that vanish on it, cut it out; and there are few of them.
use Rattle.pm_vector.proofs.Lists.{All_among, Among, all_at, all_from, among_All, among_append, here, there}
use Rattle.pm_vector.specs.Rows.{HasCols, Row, dot}
use Rattle.pm_vector.specs.Bases.{IsEchelonBasis, column}
use Rattle.pm_elim.proofs.InTurn.{pivot_below}
use Rattle.pm_geom.proofs.Facets.{vanishes_line}
use Rattle.pm_geom.proofs.Lineality.{facet_order_cuts_out}
use Rattle.pm_geom.proofs.Spans.{order_cols}
use Rattle.pm_geom.specs.Cones.{CutOut, IsValid}
use Rattle.pm_geom.specs.Generators.{AreGenerators}
use Rattle.pm_laws_normal_fans.specs.Fans.{Fan, InPlace, cone_at}
use Rattle.pm_laws_normal_fans.specs.Refinements.{IsCutAt}
use Rattle.pm_dd.specs.Hulls.{AreFacets}
use Rattle.pm_refine.specs.CutRows.{AreFacetsOf, AreSmall, CutRows, IsSmall, IsSmallFan, cuts_at}
use Rattle.std.proofs.Common.{arith, inl, inr, refl, subst, sym, ◌∙◌}
use Rattle.std.proofs.lemmas.Bool.{cases_lt}
use Rattle.std.proofs.lemmas.List.{length-append}
use Rattle.std.specs.List.{All, slice_index_or}
use Rattle.std.specs.Prelude.{List, [], length, suc, zero, ℕ, ◌+◌, ◌++◌, ◌^◌, ◌∷◌, ◌<◌, ◌≤◌, ◌≡◌, ◌↔◌}
use lib.IntN.{pos}
use Rattle.pm_limits.specs.Limits.{most_rows}

module _ (n : ℕ) (f : Fan) (C : List CutRows) (small : IsSmallFan n f) (are : AreFacetsOf n f C) where
  pub cut_at_place : (i : ℕ) → i < length f.cones → IsCutAt n f i (cuts_at C i).facets (cuts_at C i).hull
  cut_at_place i li x lx = (
    λ h. let c = (cut x lx).0 h in (all_from (λ e. dot e x ≡ pos 0) (cuts_at C i).hull (λ e ie. among_All (λ e. dot e x ≡ pos 0) ie c.1), c.0),
    λ h. (cut x lx).1 (h.1, All_among (λ e. dot e x ≡ pos 0) (cuts_at C i).hull (λ e ie. all_at (λ e. dot e x ≡ pos 0) ie h.0)),
  )
    where
      hg : HasCols n (cone_at f i)
      hg = small.cones i [] li

      facets : AreGenerators n (IsValid n (cone_at f i) f.lines) (cuts_at C i).facets (cuts_at C i).hull
      facets = are.each i li

      cut : (x : Row) → length x ≡ n → InPlace f i x ↔ (CutOut (cuts_at C i).facets x × All (λ e. dot e x ≡ pos 0) (cuts_at C i).hull)
      cut = (facet_order_cuts_out n (cone_at f i) f.lines hg small.lines (cuts_at C i).facets (cuts_at C i).hull facets.basis.echelon.basis.cols facets.order (λ a la. (
        λ v. (facets.basis.lines a la).0 ((vanishes_line n (cone_at f i) f.lines hg small.lines a la).0 v),
        λ h. (vanishes_line n (cone_at f i) f.lines hg small.lines a la).1 ((facets.basis.lines a la).1 h),
      ))).1

-- ---- an echelon basis has at most as many rows as columns
module _ (n : ℕ) (K : List Row) (P : List ℕ) (b : IsEchelonBasis n K P) where
  column_from : (i : ℕ) → i < length K → i ≤ column P i
  column_from zero l = omega arith
  column_from (suc i) l =
      let h = column_from i (omega arith) in
      let a = b.ascending i (suc i) (omega arith) l in
      omega arith

  -- each column is below n, and they ascend
  pub few_rows : length K ≤ n
  few_rows = by (length K) refl
    where
      by : (m : ℕ) → m ≡ length K → length K ≤ n
      by zero e = omega arith
      by (suc i) e =
          let h = column_from i (omega arith) in
          let p = pivot_below n K P b.basis i (omega arith) in
          omega arith

-- ---- the facet rows of one cone after another
-- those of the first i cones
pub record AreFacetsSoFar (n : ℕ) (f : Fan) (i : ℕ) (C : List CutRows) : Type 0 where
  pub as_many : length C ≡ i
  pub each : (k : ℕ) → k < i → AreFacets n (cone_at f k) f.lines (cuts_at C k).facets (cuts_at C k).hull
  pub small : AreSmall n C

facets_cols : (n : ℕ) (S : Row → Type 0) (F H : List Row) → AreGenerators n S F H → HasCols n F
facets_cols n S F H g = order_cols n S F g.order

pub small_facets : (n : ℕ) (S : Row → Type 0) (F H : List Row) → AreGenerators n S F H → length F ≤ most_rows → IsSmall n (record { facets = F; hull = H })
small_facets n S F H g few = record { facets = facets_cols n S F H g; hull = g.basis.echelon.basis.cols; few_facets = few; few_equations = few_rows n H g.pivots g.basis.echelon }

at_last : (C : List CutRows) (c d : CutRows) → slice_index_or (C ++ c ∷ []) (length C) d ≡ c
at_last [] c d = refl
at_last (a ∷ C) c d = at_last C c d

at_before : (C : List CutRows) (c d : CutRows) (k : ℕ) → k < length C → slice_index_or (C ++ c ∷ []) k d ≡ slice_index_or C k d
at_before [] c d k l = absurd (omega arith)
at_before (a ∷ C) c d zero l = refl
at_before (a ∷ C) c d (suc k) l = at_before C c d k (omega arith)

-- the next cone's
pub facets_more : (n : ℕ) (f : Fan) (i : ℕ) (C : List CutRows) (F H : List Row) → AreFacetsSoFar n f i C → AreFacets n (cone_at f i) f.lines F H → length F ≤ most_rows → AreFacetsSoFar n f (i + 1) (C ++ record { facets = F; hull = H } ∷ [])
facets_more n f i C F H so are few = record {
  as_many = length-append C (record { facets = F; hull = H } ∷ []) ∙ (let e = so.as_many in omega arith);
  each = each;
  small = All_among (IsSmall n) (C ++ (record { facets = F; hull = H }) ∷ []) (λ c ic. elim (among_append C ((record { facets = F; hull = H }) ∷ []) ic) [ inl p ↦ among_All (IsSmall n) p so.small | inr p ↦ last p ]);
}
  where
    last : {c : CutRows} → Among c (record { facets = F; hull = H } ∷ []) → IsSmall n c
    last here = small_facets n (IsValid n (cone_at f i) f.lines) F H are few
    last (there p) = elim p [ ]

    each : (k : ℕ) → k < i + 1 → AreFacets n (cone_at f k) f.lines (cuts_at (C ++ (record { facets = F; hull = H }) ∷ []) k).facets (cuts_at (C ++ (record { facets = F; hull = H }) ∷ []) k).hull
    each k l = elim (cases_lt k i) [
      | inl m ↦ (let e = at_before C (record { facets = F; hull = H }) (record { facets = []; hull = [] }) k (let q = so.as_many in omega arith) in subst (λ c. AreFacets n (cone_at f k) f.lines c.facets c.hull) (sym e) (so.each k m))
      | inr m ↦ (
          let ek : k ≡ i = omega arith in
          let e : cuts_at (C ++ (record { facets = F; hull = H }) ∷ []) k ≡ (record { facets = F; hull = H }) = subst (λ j. cuts_at (C ++ (record { facets = F; hull = H }) ∷ []) j ≡ (record { facets = F; hull = H })) (so.as_many ∙ sym ek) (at_last C (record { facets = F; hull = H }) (record { facets = []; hull = [] })) in
          subst (λ c. AreFacets n (cone_at f k) f.lines c.facets c.hull) (sym e) (subst (λ j. AreFacets n (cone_at f j) f.lines F H) (sym ek) are))
    ]

pub facets_none : (n : ℕ) (f : Fan) → AreFacetsSoFar n f 0 []
facets_none n f = record { as_many = refl; each = λ k l. absurd (omega arith); small = All_among (IsSmall n) [] (λ c i. elim i [ ]) }

-- those of all cones
pub facets_all : (n : ℕ) (f : Fan) (i : ℕ) (C : List CutRows) → i ≡ length f.cones → AreFacetsSoFar n f i C → AreFacetsOf n f C
facets_all n f i C e so = record { as_many = so.as_many ∙ e; each = λ k l. so.each k (omega arith) }

-- the cone at a place has few rows of n entries
pub cone_small : (n : ℕ) (f : Fan) → IsSmallFan n f → (i : ℕ) (G : List Row) → i < length f.cones → G ≡ cone_at f i → HasCols n G × (length G < 2 ^ 30)
cone_small n f s i G l e = subst (λ X. HasCols n X × (length X < 2 ^ 30)) (sym e) (s.cones i [] l, s.few_rays i [] l)
