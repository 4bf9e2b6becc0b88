-- What half-spaces and equations of a thing tell of it: they generate its valid rows, unless they leave a polytope no point.
use Rattle.pm_vector.proofs.ConeLaws.{dot_in}
use Rattle.pm_vector.proofs.Lists.{Among, Any_among, all_at, all_from, among_All, here, there}
use Rattle.pm_vector.proofs.RowLaws.{dot_comm, length-opposite}
use Rattle.pm_vector.specs.Cones.{InCone}
use Rattle.pm_vector.specs.Rows.{HasCols, IsZero, Row, dot, entry, opposite}
use Rattle.pm_vector.specs.Bases.{row_at}
use Rattle.pm_dd.proofs.MixedLaws.{generators_as}
use Rattle.pm_dd.specs.Fronts.{HalfSpaces}
use Rattle.pm_vector.proofs.DotLaws.{dot-unit}
use Rattle.pm_elim.proofs.ExtendedLaws.{length-unit}
use Rattle.pm_vector.specs.Evidence.{unit}
use Rattle.pm_geom.proofs.Facets.{dot-opposite}
use Rattle.pm_geom.proofs.Polar.{cut_at, in_or_apart}
use Rattle.pm_geom.proofs.Reduce.{extreme_as, same_modulo_as}
use Rattle.pm_geom.specs.Cones.{IsFacetRow, IsValid, SameModulo}
use Rattle.pm_geom.specs.Generators.{AreGenerators}
use Rattle.pm_incidence.proofs.Described.{cone_apart, described_inside, half_cols, halves_of, zero_facets}
use Rattle.pm_incidence.proofs.FacetPlaces.{halves_agree, valid_made}
use Rattle.pm_incidence.proofs.Polarity.{cut_valid, valid_cut}
use Rattle.pm_incidence.specs.Thinning.{AreManyFacets, half_spaces}
use Rattle.pm_object_type.specs.declared.object_type.ObjectType.{ObjectType}
use Rattle.pm_object_type.specs.declared.object_type.ObjectType.TheVariants.{Cone, Fan, Polytope}
use Rattle.pm_redund.proofs.Canonical.{apart_at, extreme_at, place_at}
use Rattle.pm_redund.specs.Redundancy.{AreManyThinPlaces, AreIrredundantPlaces, LeavesNoPoint}
use Rattle.pm_simplex.specs.Lineality.{MarkLines}
use Rattle.pm_types.specs.Right.{CutsOutOf, Solves, empty, proper}
use Rattle.std.proofs.Common.{ap, arith, inl, inr, refl, subst, sym, ◌∙◌}
use Rattle.std.proofs.Math.Seq.{get_or-append_seam}
use Rattle.std.proofs.lemmas.Int.{ints}
use Rattle.std.proofs.lemmas.List.{get_or_default, length-append}
use Rattle.std.specs.List.{range_with_len}
use Rattle.std.specs.Prelude.{Bool, IsTrue, List, [], false, get_or, length, map, pred, suc, true, ℕ, ◌+◌, ◌++◌, ◌<◌, ◌↔◌, ◌∷◌, ◌≡◌}
use lib.IntN.{neg_ℤ, pos}
use lib.Signed.{◌<ℤ◌}

abbrev is_polytope : ObjectType → Bool
is_polytope Polytope = true
is_polytope Cone = false
is_polytope Fan = false

solves_halves : (A E : List Row) (x : Row) → Solves A E x → HalfSpaces E A x
solves_halves A E x s = (all_from (λ (e : Row). dot e x ≡ pos 0) E (λ e i. among_All (λ (e : Row). dot e x ≡ pos 0) i s.equations), s.inequalities)

module _ (n : ℕ) (some : 0 < n) (A E : List Row) (hA : HasCols n A) (hE : HasCols n E) where
  unit_product : (a : Row) → dot a (opposite (unit n 0)) ≡ neg_ℤ (entry a 0)
  unit_product a = let e = dot-unit a n 0 some in dot-opposite a (unit n 0) ∙ omega (arith, ints)

  cols : (of : ObjectType) → HasCols n (half_spaces of n A)
  cols of = half_cols of n A hA

  -- ---- half-spaces that leave a point
  module _ (G L : List Row) (hG : HasCols n G) (hL : HasCols n L) where
    same : (of : ObjectType) → ¬ (LeavesNoPoint of n A E) → CutsOutOf of n (InCone G L) A E → (x : Row) → length x ≡ n → HalfSpaces E (half_spaces of n A) x ↔ InCone G L x
    same Polytope point cut = elim (in_or_apart n (half_spaces Polytope n A) E (cols Polytope) hE (opposite (unit n 0)) (length-opposite (unit n 0) ∙ length-unit n 0)) [
      | inl h ↦ absurd (point (refl, h))
      | inr w ↦ through w.0 w.1 w.2
    ]
      where
        through : (a : Row) → IsValid n (half_spaces Polytope n A) E a → dot a (opposite (unit n 0)) <ℤ pos 0 → (x : Row) → length x ≡ n → HalfSpaces E (half_spaces Polytope n A) x ↔ InCone G L x
        through a v low =
            let e = unit_product a in
            let up : pos 0 <ℤ entry a 0 = omega (arith, ints) in
            described_inside n some G L A E hG hL Polytope (a ∷ []) (v.cols, tt) (inside a v) (Any_among (λ (v : Row). pos 0 <ℤ entry v 0) (here {xs = []}) up) cut
          where
            inside : (a : Row) → IsValid n (half_spaces Polytope n A) E a → (b : Row) → Among b (a ∷ []) → HalfSpaces E (half_spaces Polytope n A) b
            inside a v b here = valid_cut n (half_spaces Polytope n A) E (cols Polytope) hE b v.cols v
            inside a v b (there i) = elim i [ ]
    same Cone point cut = described_inside n some G L A E hG hL Cone [] tt (λ v i. elim i [ ]) tt cut
    same Fan point cut = absurd cut

    module _ (of : ObjectType) (point : ¬ (LeavesNoPoint of n A E)) (cut : CutsOutOf of n (InCone G L) A E) where
      valid_to : (x : Row) → length x ≡ n → IsValid n G L x → InCone (half_spaces of n A) E x
      valid_to x lx v = valid_made n (half_spaces of n A) E (cols of) hE G L hG hL (same of point cut) x v

      valid_of : (x : Row) → length x ≡ n → InCone (half_spaces of n A) E x → IsValid n G L x
      valid_of x lx h = cut_valid n G L hG hL x lx (((halves_agree n (half_spaces of n A) E (cols of) hE G L hG hL (same of point cut)).same x lx).1 h)

      pub facets_of : (F H : List Row) → AreGenerators n (InCone (half_spaces of n A) E) F H → AreGenerators n (IsValid n G L) F H
      facets_of F H g = generators_as n (InCone (half_spaces of n A) E) (IsValid n G L) valid_of valid_to g

      facet_at : (B : List Row) (P ks : List ℕ) → AreIrredundantPlaces n (half_spaces of n A) E B P ks → (k : ℕ) → k < length ks → IsFacetRow n G L (row_at (half_spaces of n A) (get_or ks k 0))
      facet_at B P ks t k l = extreme_as n (InCone (half_spaces of n A) E) (IsValid n G L) valid_of valid_to (extreme_at n (half_spaces of n A) E (cols of) hE B P ks t k l)

      facets_apart : (B : List Row) (P ks : List ℕ) → AreIrredundantPlaces n (half_spaces of n A) E B P ks → (i j : ℕ) → i < j → j < length ks → ¬ (SameModulo n (IsValid n G L) (row_at (half_spaces of n A) (get_or ks i 0)) (row_at (half_spaces of n A) (get_or ks j 0)))
      facets_apart B P ks t i j l lj s = apart_at n (half_spaces of n A) E (cols of) hE B P ks t i j l lj (same_modulo_as n (IsValid n G L) (InCone (half_spaces of n A) E) valid_to valid_of s)

  pub many_facets : (of : ObjectType) → ¬ (LeavesNoPoint of n A E) → (ks : List ℕ) → AreManyThinPlaces n (half_spaces of n A) E ks → AreManyFacets of n A E ks
  many_facets of point ks m = record {
    many = m.many;
    facets = record {
      within = λ k d l. let e = get_or_default ks k d 0 l in rw e (place_at n (half_spaces of n A) E (cols of) hE m.basis m.pivots ks m.thin k l).0;
      facets = λ G L hG hL cut k d l. let e = get_or_default ks k d 0 l in rw e (facet_at G L hG hL of point cut m.basis m.pivots ks m.thin k l);
      once = λ G L hG hL cut i j d l lj.
          let li : i < length ks = omega arith in
          let e = get_or_default ks i d 0 li in
          let f = get_or_default ks j d 0 lj in
          rw (e, f) (facets_apart G L hG hL of point cut m.basis m.pivots ks m.thin i j l lj);
    };
  }

  -- the last mark says whether they leave none
  pub last_marked : (of : ObjectType) (M : List Bool) → of ≡ Polytope → MarkLines (half_spaces of n A) E M → IsTrue (get_or M (pred (length M)) false) ↔ InCone (half_spaces of n A) E (opposite (unit n 0))
  last_marked Polytope M e m =
      let long = length-append A (unit n 0 ∷ []) in
      let last : pred (length M) ≡ length A = ap pred (m.as_many ∙ long ∙ add_one (length A)) in
      let seam : row_at (A ++ unit n 0 ∷ []) (length A) ≡ unit n 0 = get_or-append_seam A (unit n 0) [] [] in
      let h = m.each (length A) (omega arith) in (
        λ t. subst (λ (y : Row). InCone (A ++ unit n 0 ∷ []) E (opposite y)) seam (h.0 (subst (λ (k : ℕ). IsTrue (get_or M k false)) last t)),
        λ i. subst (λ (k : ℕ). IsTrue (get_or M k false)) (sym last) (h.1 (subst (λ (y : Row). InCone (A ++ unit n 0 ∷ []) E (opposite y)) (sym seam) i)),
      )
    where
      add_one : (k : ℕ) → k + 1 ≡ suc k
      add_one k = omega arith
  last_marked Cone M e m = absurd (cone_apart e)
  last_marked Fan M e m = absurd (let f : false ≡ true = ap is_polytope e in cc)

  -- ---- half-spaces that leave none
  zero_cone : (of : ObjectType) → LeavesNoPoint of n A E → (S : Row → Type 0) → CutsOutOf of n S A E → (y : Row) → length y ≡ n → S y ↔ IsZero y
  zero_cone Polytope h S (empty never is_zero) = is_zero
  zero_cone Polytope h S (proper x lx s up eq) =
      let f = halves_of Polytope n some A E x (solves_halves A E x s) (λ b. let low = b.1 in omega (arith, ints)) in
      let low = dot_in x (half_spaces Polytope n A) E (λ a i. rw dot_comm (cut_at x i f.1)) (λ e i. dot_comm x e ∙ all_at (λ (e : Row). dot e x ≡ pos 0) i f.0) h.1 in
      let e = unit_product x in
      absurd (omega (arith, ints))
  zero_cone Cone h S cut = absurd (cone_apart h.0)
  zero_cone Fan h S cut = absurd cut

  pub no_facets : (of : ObjectType) → LeavesNoPoint of n A E → (G L : List Row) → CutsOutOf of n (InCone G L) A E → AreGenerators n (IsValid n G L) [] (map (unit n) (range_with_len 0 n))
  no_facets of h G L cut = zero_facets n G L (zero_cone of h (InCone G L) cut)
