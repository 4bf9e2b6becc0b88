-- The sets that products with given rows determine are right for VERTICES_IN_FACETS, whichever whole rows are taken for the rows of fractions.
use Rattle.pm_vector.specs.Numbers.{Ratio}
use Rattle.pm_vector.specs.Rows.{Row, Stands, dot}
use Rattle.pm_vector.specs.Cones.{InCone, InSpan}
use Rattle.pm_geom.proofs.Incidence.{same_zero}
use Rattle.pm_geom.specs.Cones.{IsExtreme, IsValid, SameModulo}
use Rattle.pm_geom.specs.Faces.{ray}
use Rattle.pm_types.specs.Things.{AreOrders, AreOrdersOf, Thing}
use Rattle.pm_geom.specs.Things.{Orders}
use Rattle.pm_object_type.specs.declared.object_type.ObjectType.{ObjectType}
use Rattle.pm_object_type.specs.declared.object_type.ObjectType.TheVariants.{Polytope, Cone, Fan}
use Rattle.pm_relations.proofs.Standing.{in_order_at, in_order_length, ratios_at, stand_at, stand_length, zero_of_stands, zero_with_stands}
use Rattle.pm_types.specs.Right.{InOrder, IsIncidence, Right, SameRayOf, StandFor}
use Rattle.pm_types.specs.Values.{matrix, sets}
use Rattle.pm_props.specs.declared.property.PropId.TheVariants.{Facets, Vertices, VerticesInFacets}
use Rattle.std.proofs.Common.{arith, ap, subst, sym, ◌∙◌}
use Rattle.std.specs.Prelude.{List, [], length, suc, ℕ, ◌↔◌, ◌∷◌, ◌≡◌, ◌<◌}
use lib.IntN.{pos}

-- ---- of a cone or polytope, for one order of its rays
module _ (n : ℕ) (G L V vs' vs : List Row) (rays : List (List Ratio)) (order : InOrder (SameModulo n (InCone G L)) V vs') (each : (j : ℕ) → j < length V → IsExtreme n (InCone G L) (ray V j)) (stand' : StandFor rays vs') (stand : StandFor rays vs) where
  lengths : length vs ≡ length V
  lengths = stand_length rays vs stand ∙ sym (stand_length rays vs' stand') ∙ in_order_length (SameModulo n (InCone G L)) V vs' order

  -- the facet row F, its representative f' and the row f in the same direction
  place : (F f' f : Row) (row : List Ratio) → IsValid n G L F → SameModulo n (IsValid n G L) F f' → StandFor (row ∷ []) (f' ∷ []) → StandFor (row ∷ []) (f ∷ []) → (j : ℕ) → ((j < length vs) × (dot f (ray vs j) ≡ pos 0)) ↔ ((j < length V) × (dot F (ray V j) ≡ pos 0))
  place F f' f row valid same s' s j = (
    λ h.
        let l : j < length V = let e = lengths in let k = h.0 in omega arith in
        (l, (both l).1 (zero_of_stands (ray vs' j) s.0 s'.0 (zero_with_stands f (at l) (at' l) h.1))),
    λ h.
        let l : j < length vs = let e = lengths in let k = h.0 in omega arith in
        (l, zero_with_stands f (at' h.0) (at h.0) (zero_of_stands (ray vs' j) s'.0 s.0 ((both h.0).0 h.1))),
  )
    where
      both : j < length V → dot F (ray V j) ≡ pos 0 ↔ dot f' (ray vs' j) ≡ pos 0
      both l = same_zero n G L F (ray V j) f' (ray vs' j) (in_order_at (SameModulo n (InCone G L)) V vs' order j l) same valid (each j l).cols (each j l).inside

      at : j < length V → Stands (ratios_at rays j) (ray vs j)
      at l = stand_at rays vs stand j (let e = lengths in omega arith)

      at' : j < length V → Stands (ratios_at rays j) (ray vs' j)
      at' l = stand_at rays vs' stand' j (let e = in_order_length (SameModulo n (InCone G L)) V vs' order in omega arith)

  incidence : (F fs' fs : List Row) (rows : List (List ℕ)) (facets : List (List Ratio)) → InOrder (SameModulo n (IsValid n G L)) F fs' → ((i : ℕ) → i < length F → IsValid n G L (ray F i)) → StandFor facets fs' → StandFor facets fs → IsIncidence fs vs rows → IsIncidence F V rows
  incidence [] [] [] [] [] o e s' s h = tt
  incidence [] [] [] (r ∷ rows) [] o e s' s h = h
  incidence [] [] (f ∷ fs) rows [] o e s' s h = absurd s
  incidence [] [] fs rows (q ∷ facets) o e s' s h = absurd s'
  incidence [] (f' ∷ fs') fs rows facets o e s' s h = absurd o
  incidence (a ∷ F) [] fs rows facets o e s' s h = absurd o
  incidence (a ∷ F) (f' ∷ fs') fs rows [] o e s' s h = absurd s'
  incidence (a ∷ F) (f' ∷ fs') [] rows (q ∷ facets) o e s' s h = absurd s
  incidence (a ∷ F) (f' ∷ fs') (f ∷ fs) [] (q ∷ facets) o e s' s h = absurd h
  incidence (a ∷ F) (f' ∷ fs') (f ∷ fs) (r ∷ rows) (q ∷ facets) o e s' s h = (
    λ j. let p = place a f' f q (e 0 (omega arith)) o.0 (s'.0, tt) (s.0, tt) j in (λ c. p.0 ((h.0 j).0 c), λ w. (h.0 j).1 (p.1 w)),
    incidence F fs' fs rows facets o.1 (λ i l. e (suc i) (omega arith)) s'.1 s.1 h.1,
  )

-- ---- of any thing
right_of : (of : ObjectType) (n : ℕ) (G L : List Row) (Gs : List (List Row)) (o : Orders) → AreOrdersOf of n G L Gs o → (rays facets : List (List Ratio)) (vs' vs fs' fs : List Row) (rows : List (List ℕ)) → InOrder (SameRayOf of n G L) o.rays vs' → InOrder (SameModulo n (IsValid n G L)) o.facets fs' → StandFor rays vs' → StandFor rays vs → StandFor facets fs' → StandFor facets fs → IsIncidence fs vs rows → (length vs ≡ length o.rays) × IsIncidence o.facets o.rays rows
right_of Polytope n G L Gs o a rays facets vs' vs fs' fs rows ov of' sv' sv sf' sf h = (
  lengths n G L o.rays vs' vs rays ov (λ j l. a.rays.each j [] l) sv' sv,
  incidence n G L o.rays vs' vs rays ov (λ j l. a.rays.each j [] l) sv' sv o.facets fs' fs rows facets of' (λ i l. (a.facets.each i [] l).inside) sf' sf h,
)
right_of Cone n G L Gs o a rays facets vs' vs fs' fs rows ov of' sv' sv sf' sf h = (
  lengths n G L o.rays vs' vs rays ov (λ j l. a.rays.each j [] l) sv' sv,
  incidence n G L o.rays vs' vs rays ov (λ j l. a.rays.each j [] l) sv' sv o.facets fs' fs rows facets of' (λ i l. (a.facets.each i [] l).inside) sf' sf h,
)
right_of Fan n G L Gs o a rays facets vs' vs fs' fs rows ov of' sv' sv sf' sf h = (
  stand_length rays vs sv ∙ sym (stand_length rays vs' sv') ∙ in_order_length (SameModulo n (InSpan L)) o.rays vs' ov,
  subst (λ F. IsIncidence F o.rays rows) (sym a.facets) (none o.facets fs' fs facets a.facets of' sf' sf h),
)
  where
    none : (F fs' fs : List Row) (facets : List (List Ratio)) → F ≡ [] → InOrder (SameModulo n (IsValid n G L)) F fs' → StandFor facets fs' → StandFor facets fs → IsIncidence fs vs rows → IsIncidence [] o.rays rows
    none [] [] [] [] e q s' s i = same_empty rows i
      where
        same_empty : (r : List (List ℕ)) → IsIncidence [] vs r → IsIncidence [] o.rays r
        same_empty [] j = tt
        same_empty (r ∷ rs) j = absurd j
    none [] [] (f ∷ fs) [] e q s' s i = absurd s
    none [] [] fs (c ∷ facets) e q s' s i = absurd s'
    none [] (f' ∷ fs') fs facets e q s' s i = absurd q
    none (a ∷ F) fs' fs facets e q s' s i = absurd (let l = ap length e in omega arith)

pub incidence_is_right : (t : Thing) (o : Orders) → AreOrders t o → (k m : ℕ) (rays facets : List (List Ratio)) (vs fs : List Row) (rows : List (List ℕ)) → Right Vertices (matrix k rays) t o [] → Right Facets (matrix m facets) t o [] → StandFor rays vs → StandFor facets fs → IsIncidence fs vs rows → Right VerticesInFacets (sets rows (length vs)) t o []
incidence_is_right t o a k m rays facets vs fs rows rv rf sv sf h = right_of t.of t.cols t.generators t.lines t.cones o a rays facets rv.xs vs rf.xs fs rows rv.order rf.order rv.stand sv rf.stand sf h
