-- The rows that are left, reduced, made primitive and sorted, are the generators of the cone.
use Rattle.pm_incidence.proofs.ThinnedRow.{IsCanonicalFor, canonical, canonical_in, canonical_out}
use Rattle.pm_vector.proofs.ConeLaws.{in_cone_set}
use Rattle.pm_vector.proofs.Lists.{All_among, Among, Any_among, all_from, among_All}
use Rattle.pm_vector.proofs.RowLaws.{length-opposite}
use Rattle.pm_vector.specs.Cones.{InCone, IsConeSet, InSpan}
use Rattle.pm_vector.specs.Divisors.{IsPrimitive}
use Rattle.pm_vector.specs.Rows.{HasCols, Row, opposite}
use Rattle.pm_vector.proofs.Spans.{place_of}
use Rattle.pm_vector.specs.Bases.{row_at}
use Rattle.pm_dd.proofs.AlikeLaws.{alike_sym, alike_trans}
use Rattle.pm_dd.proofs.Answered.{apart_in}
use Rattle.pm_dd.proofs.Ascending.{ascending, order_permutation}
use Rattle.pm_dd.proofs.Thin.{extreme_alike}
use Rattle.pm_geom.proofs.Facets.{order_as}
use Rattle.pm_geom.proofs.Polar.{generated_is_cut}
use Rattle.pm_geom.proofs.Reduce.{extreme_as, same_modulo_as}
use Rattle.pm_geom.specs.Cones.{CutOut, InLineality, IsExtreme, IsOrder, SameModulo}
use Rattle.pm_geom.specs.Generators.{AreGenerators, IsLinealityBasis, VanishAt}
use Rattle.pm_incidence.specs.Thinning.{AreSortedThinned}
use Rattle.pm_redund.proofs.Irredundant.{kept_apart, kept_extreme, like_kept, lineality}
use Rattle.pm_redund.proofs.Marked.{among_place}
use Rattle.pm_redund.specs.Redundancy.{AreIrredundantPlaces, IsKeptRow}
use Rattle.std.proofs.Common.{arith, subst, sym, ◌∙◌}
use Rattle.std.proofs.lemmas.List.{get_or_default}
use Rattle.std.proofs.lemmas.List.Sorted.{All-permutation}
use Rattle.std.specs.List.{Any}
use Rattle.std.specs.Prelude.{List, [], get_or, length, ℕ, ◌<◌, ◌≡◌}

module _ (n : ℕ) (G L : List Row) (hG : HasCols n G) (hL : HasCols n L) where
  abbrev S : Row → Type 0
  S = InCone G L

  cs : IsConeSet S
  cs = in_cone_set G L

  -- a row that is like an extreme one is extreme
  like_extreme : {r u : Row} → length u ≡ n → S u → ¬ (S (opposite u)) → IsExtreme n S r → SameModulo n S r u → IsExtreme n S u
  like_extreme {r} {u} lu hu nu e s =
      let c = generated_is_cut n G L hG hL in
      let A = c.0 in
      let to : (x : Row) → length x ≡ n → S x → CutOut A x = λ x l. (c.2 x l).0 in
      let from : (x : Row) → length x ≡ n → CutOut A x → S x = λ x l. (c.2 x l).1 in
      extreme_as n (CutOut A) S from to (extreme_alike n A lu (to u lu hu) (λ h. nu (from (opposite u) (length-opposite u ∙ lu) h)) (extreme_as n S (CutOut A) to from e) (same_modulo_as n S (CutOut A) to from s))

  module _ (B : List Row) (P : List ℕ) (lines : IsLinealityBasis n S B P) where
    flat : (x : Row) → length x ≡ n → InSpan B x → InLineality S x
    flat x lx = (lines.lines x lx).1

    alike_extreme : (g w : Row) → IsExtreme n S g → IsCanonicalFor n S P g w → IsExtreme n S w
    alike_extreme g w e c = like_extreme c.cols (canonical_in n S cs P c e.inside) (canonical_out n S cs P c e.not_line) e c.alike

-- ---- all of them
module _ (n : ℕ) (G L : List Row) (hG : HasCols n G) (hL : HasCols n L) (B : List Row) (P ks : List ℕ) (t : AreIrredundantPlaces n G L B P ks) where
  abbrev T : Row → Type 0
  T = InCone G L

  ct : IsConeSet T
  ct = in_cone_set G L

  lines : IsLinealityBasis n T B P
  lines = lineality n G L hG hL t.lines t.marked B P t.basis

  pub place_at : (k : ℕ) → k < length ks → (get_or ks k 0 < length G) × IsKeptRow t.lines t.marks (get_or ks k 0)
  place_at k l = t.kept.each k 0 l

  pub extreme_at : (k : ℕ) → k < length ks → IsExtreme n T (row_at G (get_or ks k 0))
  extreme_at k l = let q = place_at k l in kept_extreme n G L hG hL t.lines t.marked t.marks t.thinned (get_or ks k 0) q.0 q.1

  pub apart_at : (i j : ℕ) → i < j → j < length ks → ¬ (SameModulo n T (row_at G (get_or ks i 0)) (row_at G (get_or ks j 0)))
  apart_at i j l lj =
      let li : i < length ks = omega arith in
      let a = place_at i li in
      let b = place_at j lj in
      let c = t.kept.ascending i j 0 l lj in
      kept_apart n G L hG hL t.lines t.marked t.marks t.thinned (get_or ks i 0) (get_or ks j 0) a.0 b.0 (λ e. omega arith) a.1 b.1

  module _ (X : List Row) (s : AreSortedThinned B P G ks X) where
    W : List Row
    W = s.rows

    canonical_at : (k : ℕ) → k < length ks → IsCanonicalFor n T P (row_at G (get_or ks k 0)) (row_at W k)
    unfolding W
    canonical_at k l =
        let e = extreme_at k l in
        canonical n T ct P B (flat n G L hG hL B P lines) (row_at G (get_or ks k 0)) (row_at W k) e.cols e.inside e.not_line (s.thinned.each k l)

    in_w : (k : ℕ) → k < length ks → k < length W
    unfolding W
    in_w k l = let e = s.thinned.as_many in omega arith

    of_w : (k : ℕ) → k < length W → k < length ks
    unfolding W
    of_w k l = let e = s.thinned.as_many in omega arith

    at_w : {w : Row} → Among w W → (k : ℕ) × (k < length ks) × (row_at W k ≡ w)
    at_w i = let p = place_of i in (p.0, of_w p.0 p.1, p.2)

    extreme_w : (k : ℕ) → k < length ks → IsExtreme n T (row_at W k)
    extreme_w k l = alike_extreme n G L hG hL B P lines (row_at G (get_or ks k 0)) (row_at W k) (extreme_at k l) (canonical_at k l)

    order : IsOrder n T W
    order = record {
      each = All_among (λ v. IsExtreme n T v) W (λ w i. let p = at_w i in subst (λ (v : Row). IsExtreme n T v) p.2 (extreme_w p.0 p.1));
      all = λ r e.
          let f = like_kept n G L hG hL t.lines t.marked t.marks t.thinned r e in
          let c = t.kept.every f.i f.within f.kept in
          like r c.0 c.1 (subst (λ (i : ℕ). SameModulo n T r (row_at G i)) (sym (get_or_default ks c.0 0 f.i c.1 ∙ c.2)) f.alike);
      once = λ i j d l x.
          let li : i < length W = omega arith in
          rw (get_or_default W i d [] li, get_or_default W j d [] x) (apart i j l (of_w j x) (of_w i li));
    }
      where
        like : (r : Row) (k : ℕ) → k < length ks → SameModulo n T r (row_at G (get_or ks k 0)) → Any (λ v. SameModulo n T r v) W
        like r k l a = Any_among (λ (v : Row). SameModulo n T r v) (among_place W k (in_w k l)) (alike_trans n T ct a (canonical_at k l).alike)

        apart : (i j : ℕ) → i < j → j < length ks → i < length ks → ¬ (SameModulo n T (row_at W i) (row_at W j))
        apart i j l lj li a =
            apart_at i j l lj (alike_trans n T ct (canonical_at i li).alike (alike_trans n T ct a (alike_sym n T ct (canonical_at j lj).alike)))

    whole : IsOrder n T X
    unfolding W
    whole = order_permutation n T ct W X s.permutation order

    pub thinned_cols : HasCols n X
    thinned_cols = all_from (λ (x : Row). length x ≡ n) X (λ x i. (among_All (λ v. IsExtreme n T v) i whole.each).cols)

    pub thin_generators : AreGenerators n T X B
    unfolding W
    thin_generators = record {
      pivots = P;
      basis = lines;
      order = whole;
      primitive = All-permutation IsPrimitive W X s.permutation (All_among IsPrimitive W (λ w i. let q = at_w i in subst IsPrimitive q.2 (canonical_at q.0 q.1).primitive));
      reduced = All-permutation (VanishAt P) W X s.permutation (All_among (VanishAt P) W (λ w i. let q = at_w i in subst (VanishAt P) q.2 (canonical_at q.0 q.1).zeros));
      ascending = ascending n X thinned_cols s.sorted different;
    }
      where
        different : (i j : ℕ) → i < j → j < length X → ¬ (row_at X i ≡ row_at X j)
        different i j l m e =
            let c = generated_is_cut n G L hG hL in
            apart_in n c.0 X (order_as n T (CutOut c.0) (λ x l. (c.2 x l).0) (λ x l. (c.2 x l).1) whole) i j l m e
