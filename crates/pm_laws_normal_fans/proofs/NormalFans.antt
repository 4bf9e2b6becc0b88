-- The normal fan of a sum is the common refinement of the normal fans.
use Rattle.pm_vector.proofs.ConeLaws.{in_cone_set}
use Rattle.pm_vector.specs.Rows.{Row, SameDirection}
use Rattle.pm_laws_normal_fans.proofs.SumLaws.{InBoth, IsConeOfSum, IsMaximalPair, IsPointed, cone_at_sum, cone_together, least_multiple, sum_pointed, summands_unique, together, together_cols, together_in, together_point, vertices_of_sum}
use Rattle.pm_laws_normal_fans.proofs.Vertices.{at_vertex, determined}
use Rattle.pm_laws_normal_fans.specs.Sums.{Cone, In, InMinkowskiSum, IsBoundedPolytope, IsLeastAt, IsSumOf, IsVertex}
use Rattle.pm_vector.proofs.Signs.{weaken}
use Rattle.std.proofs.Common.{sym}
use Rattle.std.specs.Prelude.{ℕ, ◌↔◌}

pub pointed : (n : ℕ) (P : Cone) → IsBoundedPolytope n P → IsPointed n (In P)
pointed n P s = record { first = s.thing.first; bounded = s.bounded }

module _ (n : ℕ) (P Q R : Cone) (sa : IsBoundedPolytope n P) (sb : IsBoundedPolytope n Q) (sum : IsSumOf n P Q R) where
  cone : IsConeOfSum n (In P) (In Q) (In R)
  cone = record { first = in_cone_set P.generators P.lines; second = in_cone_set Q.generators Q.lines; first_pointed = pointed n P sa; second_pointed = pointed n Q sb; sum = sum.sum }

  tip : IsPointed n (In R)
  tip = sum_pointed n (In P) (In Q) (In R) cone

  maximal_pair : (z : Row) → IsVertex n (In R) z → (h : InMinkowskiSum n (In P) (In Q) z) → IsMaximalPair n (In P) (In Q) h.first h.second
  maximal_pair z vz h =
      let both = vertices_of_sum n (In P) (In Q) (In R) cone z h vz in
      let at_z = cone_at_sum n (In P) (In Q) (In R) cone z h vz.extreme.cols vz.point in
      record {
        first = both.0;
        second = both.1;
        maximal = λ v w vv vw f c b.
            let at_y = cone_together n (In P) (In Q) (In R) cone v w vv vw in
            let d : SameDirection z (together n (In P) (In Q) (In R) cone v w vv vw) =
            determined n R.generators R.lines sum.generators sum.lines tip z (together n (In P) (In Q) (In R) cone v w vv vw) vz
            (together_cols n (In P) (In Q) (In R) cone v w vv vw) (together_in n (In P) (In Q) (In R) cone v w vv vw) (together_point n (In P) (In Q) (In R) cone v w vv vw)
            (λ e k. (at_y e).1 (f e ((at_z e).0 k))) in
            (at_z c).0 (least_multiple n (In R) tip (together n (In P) (In Q) (In R) cone v w vv vw) z c d.q d.p (weaken d.q_positive) d.p_positive (record { at = λ i. sym (d.same.at i) }) ((at_y c).1 b));
      }

  vertex_of_pair : (v w : Row) → IsMaximalPair n (In P) (In Q) v w → (z : Row) × IsVertex n (In R) z × ((c : Row) → IsLeastAt n (In R) z c ↔ InBoth n (In P) (In Q) v w c)
  vertex_of_pair v w m =
      let y = together n (In P) (In Q) (In R) cone v w m.first m.second in
      let at_y = cone_together n (In P) (In Q) (In R) cone v w m.first m.second in
      let t = at_vertex n R.generators R.lines sum.generators sum.lines tip y (together_cols n (In P) (In Q) (In R) cone v w m.first m.second) (together_point n (In P) (In Q) (In R) cone v w m.first m.second) (together_in n (In P) (In Q) (In R) cone v w m.first m.second) in
      let h : InMinkowskiSum n (In P) (In Q) t.0 = (sum.sum t.0 t.1.extreme.cols).0 t.1.extreme.inside in
      let both = vertices_of_sum n (In P) (In Q) (In R) cone t.0 h t.1 in
      let at_r = cone_at_sum n (In P) (In Q) (In R) cone t.0 h t.1.extreme.cols t.1.point in
      let up : (c : Row) → InBoth n (In P) (In Q) v w c → IsLeastAt n (In R) t.0 c = λ c b. t.2 c ((at_y c).1 b) in
      (t.0, t.1, λ c. (λ k. m.maximal h.first h.second both.0 both.1 (λ e b. (at_r e).0 (up e b)) c ((at_r c).0 k), up c))

-- by vertices: the cone of each vertex of the sum is that of a maximal pair, each maximal pair has a vertex, and no two
-- vertices have the same cone
pub record AreMaximalPairs (n : ℕ) (P Q R : Cone) : Type 0 where
  pub each : (z : Row) → IsVertex n (In R) z → (v : Row) × (w : Row) × IsMaximalPair n (In P) (In Q) v w × ((c : Row) → IsLeastAt n (In R) z c ↔ InBoth n (In P) (In Q) v w c)
  pub all : (v w : Row) → IsMaximalPair n (In P) (In Q) v w → (z : Row) × IsVertex n (In R) z × ((c : Row) → IsLeastAt n (In R) z c ↔ InBoth n (In P) (In Q) v w c)
  pub once : (z y : Row) → IsVertex n (In R) z → IsVertex n (In R) y → ((c : Row) → IsLeastAt n (In R) z c → IsLeastAt n (In R) y c) → SameDirection z y

pub maximal_pairs : (n : ℕ) (P Q R : Cone) → IsBoundedPolytope n P → IsBoundedPolytope n Q → IsSumOf n P Q R → AreMaximalPairs n P Q R
maximal_pairs n P Q R sa sb sum = record {
  each = λ z vz. let h = (sum.sum z vz.extreme.cols).0 vz.extreme.inside in (h.first, h.second, maximal_pair n P Q R sa sb sum z vz h, cone_at_sum n (In P) (In Q) (In R) (cone n P Q R sa sb sum) z h vz.extreme.cols vz.point);
  all = vertex_of_pair n P Q R sa sb sum;
  once = λ z y vz vy f. determined n R.generators R.lines sum.generators sum.lines (tip n P Q R sa sb sum) z y vz vy.extreme.cols vy.extreme.inside vy.point f;
}

-- a vertex of the sum is the sum of two points in one way, and both are vertices
pub summands_once : (n : ℕ) (P Q R : Cone) → IsBoundedPolytope n P → IsBoundedPolytope n Q → IsSumOf n P Q R → (z : Row) → IsVertex n (In R) z → (h : InMinkowskiSum n (In P) (In Q) z) → (g : InMinkowskiSum n (In P) (In Q) z) → SameDirection h.first g.first × SameDirection h.second g.second
summands_once n P Q R sa sb sum z vz h g = summands_unique n (In P) (In Q) (In R) (cone n P Q R sa sb sum) z h vz g

-- a bounded polytope that is not empty has a vertex
pub some_vertex : (n : ℕ) (P : Cone) → IsBoundedPolytope n P → (v : Row) × IsVertex n (In P) v
some_vertex n P s = let (x, l, i, up) = s.some in let r = at_vertex n P.generators P.lines s.thing.cone.generators s.thing.cone.lines (pointed n P s) x l up i in (r.0, r.1)

-- the sum of two such polytopes has a vertex
pub sum_vertex : (n : ℕ) (P Q R : Cone) → IsBoundedPolytope n P → IsBoundedPolytope n Q → IsSumOf n P Q R → (z : Row) × IsVertex n (In R) z
sum_vertex n P Q R sa sb sum =
    let (v, vv) = some_vertex n P sa in
    let (w, vw) = some_vertex n Q sb in
    let c = cone n P Q R sa sb sum in
    let t = at_vertex n R.generators R.lines sum.generators sum.lines (tip n P Q R sa sb sum) (together n (In P) (In Q) (In R) c v w vv vw) (together_cols n (In P) (In Q) (In R) c v w vv vw) (together_point n (In P) (In Q) (In R) c v w vv vw) (together_in n (In P) (In Q) (In R) c v w vv vw) in
    (t.0, t.1)
