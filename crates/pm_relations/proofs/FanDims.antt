-- Fans: how many cones they have, the dimension of each, and what these dimensions tell.
use Rattle.pm_vector.proofs.ConeLaws.{in_cone_set}
use Rattle.pm_vector.proofs.Filters.{among_map, map_among}
use Rattle.pm_vector.proofs.Lists.{AllPairs_cons, All_among, Among, Any_among, Contains_among, among_All, among_Contains, here, there}
use Rattle.pm_vector.specs.Cones.{InCone, InSpan}
use Rattle.pm_vector.specs.Numbers.{Ratio}
use Rattle.pm_vector.specs.Rows.{HasCols, Row}
use Rattle.pm_vector.proofs.Rank.{rank_is_determined}
use Rattle.pm_vector.proofs.Spans.{at_place, place_of, same_span_sym, same_span_trans}
use Rattle.pm_vector.specs.Bases.{IsRank, SameSpan}
use Rattle.pm_geom.specs.Cones.{InLineality, IsExtremeRay, SameModulo}
use Rattle.pm_geom.specs.Faces.{ray}
use Rattle.pm_geom.specs.Things.{AreFanOrders, IsConeThing, IsFanThing, Orders}
use Rattle.pm_object_type.specs.declared.object_type.ObjectType.TheVariants.{Fan}
use Rattle.pm_object_type.specs.declared.object_type.ObjectType.{ObjectType}
use Rattle.pm_props.specs.declared.property.PropId.TheVariants.{FanDim, LinealityDim, LinealitySpace, MaximalCones, MaximalConesDims, NMaximalCones, Pure, Simplicial, Vertices}
use Rattle.pm_relations.proofs.Dimensions.{dimension_one}
use Rattle.pm_relations.proofs.FanCones.{set_order, set_spans}
use Rattle.pm_relations.proofs.Orders.{orders_length, same_total, once_from, total, total_ones}
use Rattle.pm_relations.proofs.Standing.{in_order_length, stand_length}
use Rattle.pm_relations.specs.Fans.{AreOne, AreSimplices}
use Rattle.pm_types.specs.Forms.{are_indices}
use Rattle.pm_types.specs.Right.{AreConeDims, AreConeRays, HasRays, InLinesOf, InOrder, IsBasis, IsDimOfCone, IsFanDim, IsGreatestDim, IsLinealityDim, IsPure, IsSimplicialFan, IsSimplicialTruth, Right, SameRayOf, StandFor, cone_at}
use Rattle.pm_types.specs.Things.{AreOrders, AreOrdersOf, IsOfType, IsThing, Thing}
use Rattle.pm_types.specs.Values.{counts, matrix, sets, truth, whole}
use Rattle.std.proofs.Common.{ap, arith, refl, subst, sym, true, ◌∙◌}
use Rattle.std.proofs.lemmas.Bool.{and_parts}
use Rattle.std.proofs.lemmas.Int.{ints}
use Rattle.std.proofs.lemmas.List.{length-map}
use Rattle.std.specs.List.{All, AllPairs, Any, Contains, list_all, range_with_len, slice_index_or}
use Rattle.std.specs.Prelude.{Bool, IsTrue, List, [], length, map, suc, zero, ℕ, ◌+◌, ◌++◌, ◌<◌, ◌≤◌, ◌↔◌, ◌∷◌, ◌≡◌}
use lib.IntN.{negsuc, pos, ℤ, ◌+ℤ◌}
use lib.Signed.{◌≤ℤ◌}

-- ---- a thing that is a fan
pub fan_thing : (t : Thing) → t.of ≡ Fan → IsThing t → IsFanThing t.cols t.cones t.lines
fan_thing t e h = (subst (λ of. IsOfType of t.cols t.generators t.lines t.cones) e h.kind).0

pub fan_orders : (t : Thing) (o : Orders) → t.of ≡ Fan → AreOrders t o → AreFanOrders t.cols t.cones t.lines o
fan_orders t o e h = subst (λ of. AreOrdersOf of t.cols t.generators t.lines t.cones o) e h

-- ---- places of cones
-- a cone stands at one of the places of an order
record HasPlace (t : Thing) (places : List ℕ) (G : List Row) : Type 0 where
  place : ℕ
  listed : Among place places
  is : cone_at t place ≡ G

cone_among : (Gs : List (List Row)) (k : ℕ) → k < length Gs → Among (slice_index_or Gs k []) Gs
cone_among [] k l = absurd (omega arith)
cone_among (G ∷ Gs) zero l = here
cone_among (G ∷ Gs) (suc k) l = there (cone_among Gs k (omega arith))

cone_place : {G : List Row} (Gs : List (List Row)) → Among G Gs → (k : ℕ) × (k < length Gs) × (slice_index_or Gs k [] ≡ G)
cone_place (G ∷ Gs) here = (0, omega arith, refl)
cone_place (G ∷ Gs) (there i) = let r = cone_place Gs i in (suc r.0, (let l = r.1 in omega arith), r.2)
cone_place [] i = elim i [ ]

no_cones : (Gs : List (List Row)) → ((i : ℕ) → i < length Gs → Contains [] i) → Gs ≡ []
no_cones [] f = refl
no_cones (G ∷ Gs) f = absurd (let w = f 0 (omega arith) in let l = w.1 in omega arith)

-- ---- as many places as cones
-- a place, as a row
abbrev place_row : ℕ → Row
place_row k = pos k ∷ []

place_row_is : (j k : ℕ) → place_row j ≡ place_row k → j ≡ k
place_row_is j k e = let f : pos j ≡ pos k = cc in omega (arith, ints)

range_above : (low m k : ℕ) → Among k (range_with_len low m) → (low ≤ k) × (k < low + m)
range_above low zero k i = elim i [ ]
range_above low (suc m) k here = (omega arith, omega arith)
range_above low (suc m) k (there i) = let r = range_above (low + 1) m k i in let a = r.0 in let b = r.1 in (omega arith, omega arith)

range_has : (low m d k : ℕ) → k ≡ low + d → d < m → Among k (range_with_len low m)
range_has low zero d k e l = absurd (omega arith)
range_has low (suc m) zero k e l = let f : low ≡ k = omega arith in subst (λ z. Among z (low ∷ range_with_len (low + 1) m)) f here
range_has low (suc m) (suc d) k e l = there (range_has (low + 1) m d k (omega arith) (omega arith))

range_once : (low m : ℕ) → AllPairs (λ i j. ¬ (i ≡ j)) (range_with_len low m)
range_once low zero = λ i j d l b. absurd (omega arith)
range_once low (suc m) = AllPairs_cons (λ i j. ¬ (i ≡ j)) low (range_with_len (low + 1) m) (λ k i e. let a = (range_above (low + 1) m k i).0 in omega arith) (range_once (low + 1) m)

range_length : (low m : ℕ) → length (range_with_len low m) ≡ m
range_length low zero = refl
range_length low (suc m) = ap suc (range_length (low + 1) m)

rows_once : (ks : List ℕ) → AllPairs (λ i j. ¬ (i ≡ j)) ks → AllPairs (λ v w. ¬ (v ≡ w)) (map place_row ks)
rows_once [] h = λ i j d l b. absurd (omega arith)
rows_once (k ∷ ks) h =
    AllPairs_cons (λ v w. ¬ (v ≡ w)) (place_row k) (map place_row ks)
    (λ w i e. let (j, a, f) = map_among place_row ks i in among_All (λ z. ¬ (k ≡ z)) a (λ m d l. h 0 (suc m) d (omega arith) (omega arith)) (place_row_is k j (e ∙ f)))
    (rows_once ks (λ i j d l b. h (suc i) (suc j) d (omega arith) (omega arith)))

-- different places that have all numbers below m, and no others, are m
as_many_places : (ks : List ℕ) (m : ℕ) → AllPairs (λ i j. ¬ (i ≡ j)) ks → ((k : ℕ) → Among k ks → k < m) → ((k : ℕ) → k < m → Among k ks) → length ks ≡ m
as_many_places ks m once below all =
    sym (length-map ks place_row) ∙ sym (total_ones (map place_row ks))
    ∙ same_total (λ v w. v ≡ w) (λ v w e. sym e) (λ u v w e f. e ∙ f) (λ v. 1) (map place_row ks) (map place_row (range_with_len 0 m))
    (once_from (λ v w. v ≡ w) (λ v w e. sym e) (λ u v w e f. e ∙ f) (map place_row ks) (rows_once ks once))
    (once_from (λ v w. v ≡ w) (λ v w e. sym e) (λ u v w e f. e ∙ f) (map place_row (range_with_len 0 m)) (rows_once (range_with_len 0 m) (range_once 0 m)))
    (λ v i. let (k, a, e) = map_among place_row ks i in (place_row k, among_map place_row (range_has 0 m k k (omega arith) (below k a)), e))
    (λ v i. let (k, a, e) = map_among place_row (range_with_len 0 m) i in (place_row k, among_map place_row (all k (let b = (range_above 0 m k a).1 in omega arith)), e))
    (λ v w i j e. refl)
    ∙ total_ones (map place_row (range_with_len 0 m)) ∙ length-map (range_with_len 0 m) place_row ∙ range_length 0 m

-- ---- the dimensions that a right list states
record HasDim (t : Thing) (ks : List ℤ) (i : ℕ) : Type 0 where
  d : ℕ
  listed : Among (pos d) ks
  dim : IsDimOfCone t (cone_at t i) d

each_dim : (t : Thing) (places : List ℕ) (ks : List ℤ) → AreConeDims t places ks → (i : ℕ) → Among i places → HasDim t ks i
each_dim t [] [] h i a = elim a [ ]
each_dim t [] (k ∷ ks) h i a = absurd h
each_dim t (j ∷ places) [] h i a = absurd h
each_dim t (j ∷ places) (k ∷ ks) h i here = let (d, e, m) = h.0 in record { d = d; listed = subst (λ z. Among z (k ∷ ks)) e here; dim = m }
each_dim t (j ∷ places) (k ∷ ks) h i (there a) = let r = each_dim t places ks h.1 i a in record { d = r.d; listed = there r.listed; dim = r.dim }

record IsDimAt (t : Thing) (places : List ℕ) (k : ℤ) : Type 0 where
  d : ℕ
  is : k ≡ pos d
  place : ℕ
  listed : Among place places
  dim : IsDimOfCone t (cone_at t place) d

dim_each : (t : Thing) (places : List ℕ) (ks : List ℤ) → AreConeDims t places ks → (k : ℤ) → Among k ks → IsDimAt t places k
dim_each t [] [] h k a = elim a [ ]
dim_each t [] (z ∷ ks) h k a = absurd h
dim_each t (i ∷ places) [] h k a = absurd h
dim_each t (i ∷ places) (z ∷ ks) h k here = let (d, e, m) = h.0 in record { d = d; is = e; place = i; listed = here; dim = m }
dim_each t (i ∷ places) (z ∷ ks) h k (there a) = let r = dim_each t places ks h.1 k a in record { d = r.d; is = r.is; place = r.place; listed = there r.listed; dim = r.dim }

rays_length : (t : Thing) (V : List Row) (places : List ℕ) (rows : List (List ℕ)) → AreConeRays t V places rows → length rows ≡ length places
rays_length t V [] [] h = refl
rays_length t V [] (r ∷ rows) h = absurd h
rays_length t V (i ∷ places) [] h = absurd h
rays_length t V (i ∷ places) (r ∷ rows) h = ap suc (rays_length t V places rows h.1)

one_dim : (t : Thing) (G : List Row) (d e : ℕ) → IsDimOfCone t G d → IsDimOfCone t G e → d ≡ e
one_dim t G d e h k = rank_is_determined (G ++ t.lines) d e h k

pos_is : {d e : ℕ} → pos d ≡ pos e → d ≡ e
pos_is h = omega (arith, ints)

below_pos : {d e : ℕ} → pos d ≤ℤ pos e → d ≤ e
below_pos h = omega (arith, ints)

negative : {d e : ℕ} → pos d ≡ negsuc e → ⊥
negative h = omega (arith, ints)

-- ---- a fan with orders
module _ (t : Thing) (o : Orders) (h : IsFanThing t.cols t.cones t.lines) (a : AreFanOrders t.cols t.cones t.lines o) where
  has_place : (G : List Row) → Among G t.cones → HasPlace t o.cones G
  has_place G i = let (k, l, e) = cone_place t.cones i in record { place = k; listed = among_Contains o.cones (a.every k l); is = e }

  cone_of : (i : ℕ) → Among i o.cones → Among (cone_at t i) t.cones
  cone_of i k = cone_among t.cones i (among_All (λ i. i < length t.cones) k a.places)

  as_many_cones : length o.cones ≡ length t.cones
  as_many_cones = as_many_places o.cones (length t.cones) a.places_once (λ k i. among_All (λ i. i < length t.cones) i a.places) (λ k l. among_Contains o.cones (a.every k l))

  -- how many maximal cones
  pub size_right : (rows : List (List ℕ)) (m : ℕ) (c d : List Ratio) → Right MaximalCones (sets rows m) t o c → Right NMaximalCones (whole (pos (length rows))) t o d
  size_right rows m c d r = ap pos (rays_length t o.rays o.cones rows r.1 ∙ as_many_cones)

  module _ (ks : List ℤ) (c : List Ratio) (right : Right MaximalConesDims (counts ks) t o c) where
    -- the dimension of a cone is among those listed
    dim_listed : (G : List Row) → Among G t.cones → (d : ℕ) → IsDimOfCone t G d → Among (pos d) ks
    dim_listed G i d m =
        let p = has_place G i in
        let q = each_dim t o.cones ks right p.place p.listed in
        subst (λ z. Among (pos z) ks) (one_dim t G q.d d (subst (λ Z. IsDimOfCone t Z q.d) p.is q.dim) m) q.listed

    some_dim : (G : List Row) → Among G t.cones → (d : ℕ) × Among (pos d) ks × IsDimOfCone t G d
    some_dim G i =
        let p = has_place G i in
        let q = each_dim t o.cones ks right p.place p.listed in
        (q.d, q.listed, subst (λ Z. IsDimOfCone t Z q.d) p.is q.dim)

    pub greatest_right : (k : ℤ) → Among k ks → All (λ z. z ≤ℤ k) ks → (d : List Ratio) → Right FanDim (whole k) t o d
    greatest_right k i most d =
        let r = dim_each t o.cones ks right k i in
        subst (λ z. IsFanDim t z) (sym r.is) (record {
          attained = Any_among (λ G. IsDimOfCone t G r.d) (cone_of r.place r.listed) r.dim;
          greatest = All_among (λ G. (e : ℕ) → IsDimOfCone t G e → e ≤ r.d) t.cones (λ G j e m. below_pos (subst (λ z. pos e ≤ℤ z) r.is (among_All (λ z. z ≤ℤ k) (dim_listed G j e m) most)));
        })

    pub pure_right : (b : Bool) → (IsTrue b ↔ AreOne ks) → (d : List Ratio) → Right Pure (truth b) t o d
    pure_right b says d = (λ y. to (says.0 y), λ p. says.1 (from p))
      where
        each : (k : ℤ) → All (λ z. z ≡ k) ks → IsPure t
        each (pos e) same = (e, All_among (λ G. IsDimOfCone t G e) t.cones (λ G i. let (d, j, m) = some_dim G i in subst (λ z. IsDimOfCone t G z) (pos_is (among_All (λ z. z ≡ pos e) j same)) m))
        each (negsuc e) same = (0, All_among (λ G. IsDimOfCone t G 0) t.cones (λ G i. let (d, j, m) = some_dim G i in absurd (negative (among_All (λ z. z ≡ negsuc e) j same))))

        to : AreOne ks → IsPure t
        to w = each w.0 w.1

        from : IsPure t → AreOne ks
        from (e, all) = (pos e, All_among (λ z. z ≡ pos e) ks (λ z i. let r = dim_each t o.cones ks right z i in r.is ∙ ap pos (one_dim t (cone_at t r.place) r.d e r.dim (among_All (λ G. IsDimOfCone t G e) (cone_of r.place r.listed) all))))

  -- where there is no dimension, there is no cone
  pub none_right : (c : List Ratio) → Right MaximalConesDims (counts []) t o c → (d : List Ratio) → Right FanDim (whole (negsuc 0)) t o d
  none_right c right d = (refl, no_cones t.cones (λ i l. subst (λ K. Contains K i) (none o.cones right) (a.every i l)))
    where
      none : (places : List ℕ) → AreConeDims t places [] → places ≡ []
      none [] r = refl
      none (i ∷ places) r = absurd r

  -- ---- the cone at a place
  ray_cols : (v : Row) → Among v o.rays → length v ≡ t.cols
  ray_cols v i = let w = among_All (λ v. Any (λ G. IsExtremeRay t.cols G t.lines v) t.cones) i a.each in w.4.cols

  module _ (i : ℕ) (listed : Among i o.cones) (m : ℕ) (set : List ℕ) (ascends : are_indices m 0 set ≡ true) (are : (j : ℕ) → Contains set j ↔ ((j < length o.rays) × IsExtremeRay t.cols (cone_at t i) t.lines (ray o.rays j))) where
    own : (x : Row) → length x ≡ t.cols → InLineality (InCone (cone_at t i) t.lines) x → InSpan t.lines x
    own = among_All (λ G. (x : Row) → length x ≡ t.cols → InLineality (InCone G t.lines) x → InSpan t.lines x) (cone_of i listed) h.lineality

    every : (r : Row) → IsExtremeRay t.cols (cone_at t i) t.lines r → Any (λ v. SameModulo t.cols (InSpan t.lines) r v) o.rays
    every = among_All (λ G. (r : Row) → IsExtremeRay t.cols G t.lines r → Any (λ v. SameModulo t.cols (InSpan t.lines) r v) o.rays) (cone_of i listed) a.all

    -- as many rays as places
    rays_counted : HasRays t (cone_at t i) (length set)
    rays_counted = record { rays = map (ray o.rays) set; order = set_order t.cols (cone_at t i) t.lines own o.rays ray_cols every a.once m set ascends are; as_many = length-map set (ray o.rays) }

    rays_are : (k : ℕ) → HasRays t (cone_at t i) k → k ≡ length set
    rays_are k r =
        sym r.as_many
        ∙ orders_length t.cols (InCone (cone_at t i) t.lines) (in_cone_set (cone_at t i) t.lines) r.rays rays_counted.rays r.order rays_counted.order
        ∙ rays_counted.as_many

    pub cone_spans : (rays lines : List (List Ratio)) (K xs ps ls : List Row) → IsBasis t.cols (InSpan t.lines) K → InOrder (SameModulo t.cols (InSpan t.lines)) o.rays xs → StandFor rays xs → StandFor rays ps → StandFor lines K → StandFor lines ls → SameSpan (ls ++ map (ray ps) set) (cone_at t i ++ t.lines)
    cone_spans rays lines K xs ps ls basis order sx sp sk sl =
        let c = among_All (λ G. IsConeThing t.cols G t.lines) (cone_of i listed) h.cones in
        let lx = in_order_length (SameModulo t.cols (InSpan t.lines)) o.rays xs order in
        let ly = stand_length rays xs sx in
        let lp = stand_length rays ps sp in
        set_spans t.cols (cone_at t i) t.lines own o.rays ray_cols every a.once m set ascends are c.generators c.lines K basis rays lines xs ps ls order lx (lp ∙ sym ly ∙ lx) sx sp sk sl

  -- ---- simplicial fans
  -- the cone at a place has as many rays as its dimension is greater than e
  abbrev IsSimplexAt : ℕ → ℕ → Type 0
  IsSimplexAt e i = (k : ℕ) × HasRays t (cone_at t i) k × IsDimOfCone t (cone_at t i) (k + e)

  abbrev AreListed : List ℕ → Type 0
  AreListed places = (i : ℕ) → Among i places → Among i o.cones

  summed : (k l : ℤ) (d n e : ℕ) → k ≡ pos d → l ≡ pos e → k ≡ pos n +ℤ l → d ≡ n + e
  summed k l d n e p q r = omega (arith, ints)

  summed_back : (k l : ℤ) (d n e : ℕ) → k ≡ pos d → l ≡ pos e → d ≡ n + e → k ≡ pos n +ℤ l
  summed_back k l d n e p q r = omega (arith, ints)

  module _ (m : ℕ) (l : ℤ) (e : ℕ) (is : l ≡ pos e) where
    simplices_to : (places : List ℕ) (rows : List (List ℕ)) (ks : List ℤ) → AreListed places → list_all (are_indices m 0) rows ≡ true → AreConeRays t o.rays places rows → AreConeDims t places ks → AreSimplices l rows ks → (i : ℕ) → Among i places → IsSimplexAt e i
    simplices_to [] [] ks f asc r q s i j = elim j [ ]
    simplices_to [] (x ∷ rows) ks f asc r q s i j = absurd r
    simplices_to (p ∷ places) [] ks f asc r q s i j = absurd r
    simplices_to (p ∷ places) (x ∷ rows) [] f asc r q s i j = absurd q
    simplices_to (p ∷ places) (x ∷ rows) (k ∷ ks) f asc r q s i here =
        let (d, kd, dim) = q.0 in
        let ax = and_parts (are_indices m 0 x) (list_all (are_indices m 0) rows) asc in
        (length x, rays_counted i (f i here) m x ax.0 r.0, subst (λ z. IsDimOfCone t (cone_at t i) z) (summed k l d (length x) e kd is s.0) dim)
    simplices_to (p ∷ places) (x ∷ rows) (k ∷ ks) f asc r q s i (there j) =
        let ax = and_parts (are_indices m 0 x) (list_all (are_indices m 0) rows) asc in
        simplices_to places rows ks (λ z y. f z (there y)) ax.1 r.1 q.1 s.1 i j

    simplices_from : (places : List ℕ) (rows : List (List ℕ)) (ks : List ℤ) → AreListed places → list_all (are_indices m 0) rows ≡ true → AreConeRays t o.rays places rows → AreConeDims t places ks → ((i : ℕ) → Among i places → IsSimplexAt e i) → AreSimplices l rows ks
    simplices_from [] [] [] f asc r q g = tt
    simplices_from [] [] (k ∷ ks) f asc r q g = absurd q
    simplices_from [] (x ∷ rows) ks f asc r q g = absurd r
    simplices_from (p ∷ places) [] ks f asc r q g = absurd r
    simplices_from (p ∷ places) (x ∷ rows) [] f asc r q g = absurd q
    simplices_from (p ∷ places) (x ∷ rows) (k ∷ ks) f asc r q g =
        let (d, kd, dim) = q.0 in
        let ax = and_parts (are_indices m 0 x) (list_all (are_indices m 0) rows) asc in
        let (n, rays, sum) = g p here in
        let count = rays_are p (f p here) m x ax.0 r.0 n rays in
        let same = one_dim t (cone_at t p) d (n + e) dim sum in
        (summed_back k l d (length x) e kd is (same ∙ ap (λ z. z + e) count), simplices_from places rows ks (λ z y. f z (there y)) ax.1 r.1 q.1 (λ i j. g i (there j)))

  pub simplicial_right : (fan : t.of ≡ Fan) (rows : List (List ℕ)) (m : ℕ) (ks : List ℤ) (l : ℤ) (b : Bool) (c d e g : List Ratio) → list_all (are_indices m 0) rows ≡ true → Right MaximalCones (sets rows m) t o c → Right MaximalConesDims (counts ks) t o d → Right LinealityDim (whole l) t o e → (IsTrue b ↔ AreSimplices l rows ks) → Right Simplicial (truth b) t o g
  simplicial_right fan rows m ks l b c d e g asc rays dims (q, lq, line) says = subst (λ of. IsSimplicialTruth of t b) (sym fan) (λ y. to (says.0 y), λ s. says.1 (from s))
    where
      to : AreSimplices l rows ks → IsSimplicialFan t
      to s = record {
        lineality = q;
        is_lineality = line;
        each = All_among (λ G. (k : ℕ) × HasRays t G k × IsDimOfCone t G (k + q)) t.cones (λ G i.
            let p = has_place G i in
            subst (λ Z. (k : ℕ) × HasRays t Z k × IsDimOfCone t Z (k + q)) p.is (simplices_to m l q lq o.cones rows ks (λ z y. y) asc rays.1 dims s p.place p.listed));
      }

      from : IsSimplicialFan t → AreSimplices l rows ks
      from s = simplices_from m l q lq o.cones rows ks (λ z y. y) asc rays.1 dims (λ i j.
          let (k, r, dim) = among_All (λ G. (k : ℕ) × HasRays t G k × IsDimOfCone t G (k + s.lineality)) (cone_of i j) s.each in
          (k, r, subst (λ z. IsDimOfCone t (cone_at t i) (k + z)) (dimension_one t.cols _ s.lineality q s.is_lineality line) dim))
