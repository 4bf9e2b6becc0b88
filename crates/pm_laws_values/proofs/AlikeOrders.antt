-- What is right in some orders is right in orders that are alike, place by place.
use Rattle.pm_geom.proofs.Incidence.{same_zero}
use Rattle.pm_geom.proofs.Reduce.{same_modulo_as}
use Rattle.pm_geom.specs.Cones.{InLineality, IsExtreme, IsExtremeRay, IsOrder, IsValid, SameModulo}
use Rattle.pm_geom.specs.FaceCounts.{IsHasseDiagram, SamePlaces, at_rank}
use Rattle.pm_geom.specs.Faces.{HasRank, ray}
use Rattle.pm_geom.specs.Graphs.{IsAscending, IsEdge, IsGraph, IsRidge, holds, pair_of}
use Rattle.pm_laws_normal_fans.proofs.Places.{among_at}
use Rattle.pm_laws_things.proofs.Renamed.{IsRenaming, renamed_back}
use Rattle.pm_laws_values.proofs.FaceNumbers.{face_to, rank_to}
use Rattle.pm_object_type.specs.declared.object_type.ObjectType.TheVariants.{Cone, Fan, Polytope}
use Rattle.pm_object_type.specs.declared.object_type.ObjectType.{ObjectType}
use Rattle.pm_relations.proofs.FanCones.{extreme_alike}
use Rattle.pm_relations.proofs.Orders.{Holds, alike_back, alike_on, holds_set}
use Rattle.pm_relations.proofs.Sizes.{same_ones}
use Rattle.pm_relations.proofs.Standing.{in_order_at, in_order_length}
use Rattle.pm_types.specs.Right.{AreConeRays, InOrder, IsIncidence, RowsAreInOrder, SameRay, SameRayOf, cone_at, one_if_zero, tight, vanishing}
use Rattle.pm_types.specs.Things.{Thing}
use Rattle.pm_vector.proofs.ConeLaws.{in_cone_set, in_of}
use Rattle.pm_vector.proofs.Lists.{All_among, Among, among_All, here, there}
use Rattle.pm_vector.specs.Cones.{InCone, InSpan}
use Rattle.pm_vector.specs.Numbers.{Ratio}
use Rattle.pm_vector.specs.Rows.{Row, dot, opposite}
use Rattle.std.proofs.Common.{ap₂, arith, refl, subst, sym, ◌∙◌}
use Rattle.std.specs.List.{All, Any}
use Rattle.std.specs.Prelude.{Bool, List, [], length, map, ℕ, ◌+◌, ◌<◌, ◌∷◌, ◌↔◌, ◌≡◌}
use lib.IntN.{pos}

-- ---- rows of fractions in the one order are so in the other
pub on_list : (R : Row → Row → Type 0) → ((u v w : Row) → R u v → R u w → R v w) → (us vs xs : List Row) → InOrder R us vs → InOrder R us xs → InOrder R vs xs
on_list R on [] [] [] a b = tt
on_list R on [] [] (x ∷ xs) a b = absurd b
on_list R on [] (v ∷ vs) xs a b = absurd a
on_list R on (u ∷ us) [] xs a b = absurd a
on_list R on (u ∷ us) (v ∷ vs) [] a b = absurd b
on_list R on (u ∷ us) (v ∷ vs) (x ∷ xs) a b = (on u v x a.0 b.0, on_list R on us vs xs a.1 b.1)

pub rows_on : (t : Thing) (R : Row → Row → Type 0) → ((u v w : Row) → R u v → R u w → R v w) → (us vs : List Row) → InOrder R us vs → (rows : List (List Ratio)) → RowsAreInOrder t R us rows → RowsAreInOrder t R vs rows
rows_on t R on us vs s rows h = record { xs = h.xs; stand = h.stand; cols = h.cols; order = on_list R on us vs h.xs s h.order }

ray_on_of : (of : ObjectType) (n : ℕ) (G L : List Row) (u v w : Row) → SameRayOf of n G L u v → SameRayOf of n G L u w → SameRayOf of n G L v w
ray_on_of Polytope n G L u v w a b = alike_on n (InCone G L) (in_cone_set G L) (alike_back n (InCone G L) (in_cone_set G L) a) b
ray_on_of Cone n G L u v w a b = alike_on n (InCone G L) (in_cone_set G L) (alike_back n (InCone G L) (in_cone_set G L) a) b
ray_on_of Fan n G L u v w a b = alike_on n (InSpan L) (in_cone_set [] L) (alike_back n (InSpan L) (in_cone_set [] L) a) b

pub ray_on : (t : Thing) (u v w : Row) → SameRay t u v → SameRay t u w → SameRay t v w
ray_on t u v w a b = ray_on_of t.of t.cols t.generators t.lines u v w a b

ray_back_of : (of : ObjectType) (n : ℕ) (G L : List Row) (u v : Row) → SameRayOf of n G L u v → SameRayOf of n G L v u
ray_back_of Polytope n G L u v a = alike_back n (InCone G L) (in_cone_set G L) a
ray_back_of Cone n G L u v a = alike_back n (InCone G L) (in_cone_set G L) a
ray_back_of Fan n G L u v a = alike_back n (InSpan L) (in_cone_set [] L) a

pub ray_back : (t : Thing) (u v : Row) → SameRay t u v → SameRay t v u
ray_back t u v a = ray_back_of t.of t.cols t.generators t.lines u v a

pub facet_on : (n : ℕ) (G L : List Row) (u v w : Row) → SameModulo n (IsValid n G L) u v → SameModulo n (IsValid n G L) u w → SameModulo n (IsValid n G L) v w
facet_on n G L u v w a b = back (alike_on n (Holds n G L) (holds_set n G L) (alike_back n (Holds n G L) (holds_set n G L) (to a)) (to b))
  where
    to : {x y : Row} → SameModulo n (IsValid n G L) x y → SameModulo n (Holds n G L) x y
    to s = same_modulo_as n (IsValid n G L) (Holds n G L) (λ a c v. v.holds) (λ a c h. record { cols = c; holds = h }) s

    back : {x y : Row} → SameModulo n (Holds n G L) x y → SameModulo n (IsValid n G L) x y
    back s = same_modulo_as n (Holds n G L) (IsValid n G L) (λ a c h. record { cols = c; holds = h }) (λ a c v. v.holds) s

-- ---- cones
module _ (n : ℕ) (G L : List Row) (V W F D : List Row) (oV : IsOrder n (InCone G L) V) (oW : IsOrder n (InCone G L) W) (oF : IsOrder n (IsValid n G L) F)
    (rays : InOrder (SameModulo n (InCone G L)) V W) (facets : InOrder (SameModulo n (IsValid n G L)) F D) where
  pub as_long : length W ≡ length V
  as_long = in_order_length (SameModulo n (InCone G L)) V W rays

  -- each ray has its own place
  r : IsRenaming n (InCone G L) V W
  r = record {
    to = λ i. i;
    back = λ i. i;
    to_within = λ i l. let e = as_long in omega arith;
    back_within = λ i l. let e = as_long in omega arith;
    alike = λ i l. in_order_at (SameModulo n (InCone G L)) V W rays i l;
    back_to = λ i l. refl;
    to_back = λ i l. refl;
  }

  b : IsRenaming n (InCone G L) W V
  unfolding r
  b = renamed_back n (InCone G L) (in_cone_set G L) r

  zeros : (i j : ℕ) → i < length F → j < length V → dot (ray F i) (ray V j) ≡ pos 0 ↔ dot (ray D i) (ray W j) ≡ pos 0
  zeros i j li lj =
      let v = among_All (λ v. IsExtreme n (InCone G L) v) (among_at [] V j lj) oV.each in
      let f = among_All (λ v. IsExtreme n (IsValid n G L) v) (among_at [] F i li) oF.each in
      same_zero n G L (ray F i) (ray V j) (ray D i) (ray W j) (in_order_at (SameModulo n (InCone G L)) V W rays j lj) (in_order_at (SameModulo n (IsValid n G L)) F D facets i li) f.inside v.cols v.inside

  -- ---- faces
  rank_on : (k : ℕ) (f : ℕ → Bool) → HasRank n G L V f k → HasRank n G L W f k
  unfolding r
  rank_on k f h = rank_to n G L V W oV oW r k f f (λ i l. refl) h

  rank_off : (k : ℕ) (f : ℕ → Bool) → HasRank n G L W f k → HasRank n G L V f k
  unfolding r b
  rank_off k f h = rank_to n G L W V oW oV b k f f (λ i l. refl) h

  pub diagram_on : (ranks : List (List (List ℕ))) → IsHasseDiagram n G L V ranks → IsHasseDiagram n G L W ranks
  diagram_on ranks h = record {
    each = λ k. record {
      each = All_among (λ f. IsAscending (length W) f × HasRank n G L W (holds f) k) (at_rank ranks k) (λ f i. let a = among_All (λ f. IsAscending (length V) f × HasRank n G L V (holds f) k) i (h.each k).each in (subst (λ m. IsAscending m f) (sym as_long) a.0, rank_on k (holds f) a.1));
      all = λ f g. subst (λ m. Any (λ s. SamePlaces m f (holds s)) (at_rank ranks k)) (sym as_long) ((h.each k).all f (rank_off k f g));
      ordered = (h.each k).ordered;
    };
    full = h.full;
  }

  edge_on : (i j : ℕ) → IsEdge n G L V i j → IsEdge n G L W i j
  unfolding r
  edge_on i j e = record {
    first = let a = e.first in let q = as_long in omega arith;
    second = let a = e.second in let q = as_long in omega arith;
    apart = e.apart;
    face = face_to n G L V W oV r (pair_of i j) (pair_of i j) (λ k l. refl) e.face;
  }

  edge_off : (i j : ℕ) → IsEdge n G L W i j → IsEdge n G L V i j
  unfolding r b
  edge_off i j e = record {
    first = let a = e.first in let q = as_long in omega arith;
    second = let a = e.second in let q = as_long in omega arith;
    apart = e.apart;
    face = face_to n G L W V oW b (pair_of i j) (pair_of i j) (λ k l. refl) e.face;
  }

  pub graph_on : (rows : List (List ℕ)) → IsGraph (length V) (IsEdge n G L V) rows → IsGraph (length W) (IsEdge n G L W) rows
  graph_on rows g = record {
    nodes = g.nodes ∙ sym as_long;
    ascending = subst (λ m. All (IsAscending m) rows) (sym as_long) g.ascending;
    edges = λ i j l. let q : i < length V = (let e = as_long in omega arith) in (λ c. edge_on i j ((g.edges i j q).0 c), λ e. (g.edges i j q).1 (edge_off i j e));
  }

  -- ---- how many vanish
  ones_at : (f f' v v' : Row) → IsExtreme n (IsValid n G L) f → IsExtreme n (InCone G L) v → SameModulo n (IsValid n G L) f f' → SameModulo n (InCone G L) v v' → one_if_zero (dot f v) ≡ one_if_zero (dot f' v')
  ones_at f f' v v' ef ev sf sv = let z = same_zero n G L f v f' v' sv sf ef.inside ev.cols ev.inside in same_ones (dot f v) (dot f' v') z.0 z.1

  vanishing_on : (v v' : Row) → IsExtreme n (InCone G L) v → SameModulo n (InCone G L) v v' → (F D : List Row) → ((f : Row) → Among f F → IsExtreme n (IsValid n G L) f) → InOrder (SameModulo n (IsValid n G L)) F D → vanishing F v ≡ vanishing D v'
  vanishing_on v v' ev sv [] [] e s = refl
  vanishing_on v v' ev sv [] (d ∷ D) e s = absurd s
  vanishing_on v v' ev sv (f ∷ F) [] e s = absurd s
  vanishing_on v v' ev sv (f ∷ F) (d ∷ D) e s = ap₂ (λ x y. x + y) (ones_at f d v v' (e f here) ev s.0 sv) (vanishing_on v v' ev sv F D (λ g i. e g (there i)) s.1)

  tight_on : (a a' : Row) → IsExtreme n (IsValid n G L) a → SameModulo n (IsValid n G L) a a' → (V W : List Row) → ((v : Row) → Among v V → IsExtreme n (InCone G L) v) → InOrder (SameModulo n (InCone G L)) V W → tight V a ≡ tight W a'
  tight_on a a' ea sa [] [] e s = refl
  tight_on a a' ea sa [] (w ∷ W) e s = absurd s
  tight_on a a' ea sa (v ∷ V) [] e s = absurd s
  tight_on a a' ea sa (v ∷ V) (w ∷ W) e s = ap₂ (λ x y. x + y) (ones_at a a' v w ea (e v here) sa s.0) (tight_on a a' ea sa V W (λ g i. e g (there i)) s.1)

  ray_sizes_on : (vs ws : List Row) → ((v : Row) → Among v vs → IsExtreme n (InCone G L) v) → InOrder (SameModulo n (InCone G L)) vs ws → map (λ v. pos (vanishing F v)) vs ≡ map (λ v. pos (vanishing D v)) ws
  ray_sizes_on [] [] e s = refl
  ray_sizes_on [] (w ∷ ws) e s = absurd s
  ray_sizes_on (v ∷ vs) [] e s = absurd s
  ray_sizes_on (v ∷ vs) (w ∷ ws) e s = ap₂ (λ x y. pos x ∷ y) (vanishing_on v w (e v here) s.0 F D (λ f i. among_All (λ v. IsExtreme n (IsValid n G L) v) i oF.each) facets) (ray_sizes_on vs ws (λ v i. e v (there i)) s.1)

  facet_sizes_on : (fs ds : List Row) → ((f : Row) → Among f fs → IsExtreme n (IsValid n G L) f) → InOrder (SameModulo n (IsValid n G L)) fs ds → map (λ a. pos (tight V a)) fs ≡ map (λ a. pos (tight W a)) ds
  facet_sizes_on [] [] e s = refl
  facet_sizes_on [] (d ∷ ds) e s = absurd s
  facet_sizes_on (f ∷ fs) [] e s = absurd s
  facet_sizes_on (f ∷ fs) (d ∷ ds) e s = ap₂ (λ x y. pos x ∷ y) (tight_on f d (e f here) s.0 V W (λ v i. among_All (λ v. IsExtreme n (InCone G L) v) i oV.each) rays) (facet_sizes_on fs ds (λ f i. e f (there i)) s.1)

  pub ray_sizes : map (λ v. pos (vanishing F v)) V ≡ map (λ v. pos (vanishing D v)) W
  ray_sizes = ray_sizes_on V W (λ v i. among_All (λ v. IsExtreme n (InCone G L) v) i oV.each) rays

  pub facet_sizes : map (λ a. pos (tight V a)) F ≡ map (λ a. pos (tight W a)) D
  facet_sizes = facet_sizes_on F D (λ f i. among_All (λ v. IsExtreme n (IsValid n G L) v) i oF.each) facets

  -- ---- incidence
  incidence_to : (fs ds : List Row) (rows : List (List ℕ)) → ((f : Row) → Among f fs → IsExtreme n (IsValid n G L) f) → InOrder (SameModulo n (IsValid n G L)) fs ds → IsIncidence fs V rows → IsIncidence ds W rows
  incidence_to [] [] [] e s h = tt
  incidence_to [] [] (r ∷ rows) e s h = absurd h
  incidence_to [] (d ∷ ds) rows e s h = absurd s
  incidence_to (f ∷ fs) [] rows e s h = absurd s
  incidence_to (f ∷ fs) (d ∷ ds) [] e s h = absurd h
  incidence_to (f ∷ fs) (d ∷ ds) (row ∷ rows) e s h = (
    λ j. (
      λ c. let w = (h.0 j).0 c in ((let l = w.0 in let q = as_long in omega arith), (zero j w.0).0 w.1),
      λ w. let l : j < length V = (let m = w.0 in let q = as_long in omega arith) in (h.0 j).1 (l, (zero j l).1 w.1),
    ),
    incidence_to fs ds rows (λ g i. e g (there i)) s.1 h.1,
  )
    where
      zero : (j : ℕ) → j < length V → dot f (ray V j) ≡ pos 0 ↔ dot d (ray W j) ≡ pos 0
      zero j l =
          let v = among_All (λ v. IsExtreme n (InCone G L) v) (among_at [] V j l) oV.each in
          same_zero n G L f (ray V j) d (ray W j) (in_order_at (SameModulo n (InCone G L)) V W rays j l) s.0 (e f here).inside v.cols v.inside

  pub incidence_on : (rows : List (List ℕ)) → IsIncidence F V rows → IsIncidence D W rows
  incidence_on rows h = incidence_to F D rows (λ f i. among_All (λ v. IsExtreme n (IsValid n G L) v) i oF.each) facets h

-- facets of other representatives meet in the same ridges, by one order of the rays
module _ (n : ℕ) (G L : List Row) (V F D : List Row) (oV : IsOrder n (InCone G L) V) (oF : IsOrder n (IsValid n G L) F) (same_rays : InOrder (SameModulo n (InCone G L)) V V) (facets : InOrder (SameModulo n (IsValid n G L)) F D) where
  pub facets_as_long : length D ≡ length F
  facets_as_long = in_order_length (SameModulo n (IsValid n G L)) F D facets

  pub ridge_on : (i k : ℕ) → IsRidge n G L V F i k → IsRidge n G L V D i k
  ridge_on i k e = record {
    first = let a = e.first in let q = facets_as_long in omega arith;
    second = let a = e.second in let q = facets_as_long in omega arith;
    apart = e.apart;
    shared = e.shared;
    places = λ j l.
        let x = zeros n G L V V F D oV oV oF same_rays facets i j e.first l in
        let y = zeros n G L V V F D oV oV oF same_rays facets k j e.second l in
        let p = e.places j l in
        (λ t. let w = p.0 t in (x.0 w.0, y.0 w.1), λ w. p.1 (x.1 w.0, y.1 w.1));
    rank = e.rank;
    face = e.face;
    whole = e.whole;
  }

-- ---- rays of a fan
module _ (n : ℕ) (G L : List Row) where
  span_inside : (w : Row) → InLineality (InSpan L) w → InLineality (InCone G L) w
  span_inside w s = record { inside = widen w s.inside; opposed = widen (opposite w) s.opposed }
    where
      widen : (x : Row) → InSpan L x → InCone G L x
      widen x h = in_of G [] L (λ g i. elim i [ ]) h

  pub extreme_on : (v w : Row) → length w ≡ n → SameModulo n (InSpan L) v w → IsExtremeRay n G L v → IsExtremeRay n G L w
  extreme_on v w lw s e = extreme_alike n (InCone G L) (in_cone_set G L) lw e (record { p = s.p; k = s.k; w = s.w; cols = s.cols; p_positive = s.p_positive; k_positive = s.k_positive; line = span_inside s.w s.line; same = s.same })

pub cone_rays_on : (t : Thing) (V W : List Row) → length W ≡ length V → ((i j : ℕ) → j < length V → IsExtremeRay t.cols (cone_at t i) t.lines (ray V j) ↔ IsExtremeRay t.cols (cone_at t i) t.lines (ray W j)) → (places : List ℕ) (rows : List (List ℕ)) → AreConeRays t V places rows → AreConeRays t W places rows
cone_rays_on t V W e s [] [] h = tt
cone_rays_on t V W e s [] (r ∷ rows) h = absurd h
cone_rays_on t V W e s (i ∷ places) [] h = absurd h
cone_rays_on t V W e s (i ∷ places) (r ∷ rows) h = (
  λ j. (
    λ c. let w = (h.0 j).0 c in ((let l = w.0 in omega arith), (s i j w.0).0 w.1),
    λ w. let l : j < length V = (let m = w.0 in omega arith) in (h.0 j).1 (l, (s i j l).1 w.1),
  ),
  cone_rays_on t V W e s places rows h.1,
)
