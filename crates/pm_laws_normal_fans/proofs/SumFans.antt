-- The normal fan of a sum is the common refinement of the normal fans.
use Rattle.pm_vector.specs.Rows.{Row}
use Rattle.pm_laws_normal_fans.proofs.NormalFans.{maximal_pairs, sum_vertex}
use Rattle.pm_laws_normal_fans.specs.Fans.{Fan, InIntersection, IsCommonRefinement, IsMaximalIntersection}
use Rattle.pm_laws_normal_fans.specs.Laws.{NormalOfSum}
use Rattle.pm_laws_normal_fans.specs.NormalFans.{IsConeOfVertex, IsNormalFan}
use Rattle.pm_laws_normal_fans.proofs.SumLaws.{InBoth, IsMaximalPair}
use Rattle.pm_laws_normal_fans.specs.Sums.{In, IsVertex}
use Rattle.std.proofs.Common.{ap, arith}
use Rattle.std.specs.Prelude.{length, suc, ℕ, ◌<◌, ◌≡◌}

module _ (m : ℕ) (S T : Row → Type 0) (f g : Fan) where
  -- the cones at i and j are those of v and w
  record AreOf (v w : Row) (i j : ℕ) : Type 0 where
    first : IsConeOfVertex (suc m) S v f i
    second : IsConeOfVertex (suc m) T w g j

  module _ (v w : Row) (i j : ℕ) (of : AreOf v w i j) where
    to_meet : (c : Row) → InBoth (suc m) S T v w c → InIntersection f g i j c
    to_meet c b = ((of.first c b.in_first.cols).1 b.in_first, (of.second c b.in_second.cols).1 b.in_second)

    to_both : (c : Row) → length c ≡ m → InIntersection f g i j c → InBoth (suc m) S T v w c
    to_both c l h = record { in_first = (of.first c (ap suc l)).0 h.0; in_second = (of.second c (ap suc l)).0 h.1 }

  long : (v w c : Row) → InBoth (suc m) S T v w c → length c ≡ m
  long v w c b = let l = b.in_first.cols in omega arith

  module _ (fs : IsNormalFan (suc m) S f) (ft : IsNormalFan (suc m) T g) (v w : Row) (i j : ℕ) (of : AreOf v w i j) where
    pair_of_meet : IsVertex (suc m) S v → IsVertex (suc m) T w → IsMaximalIntersection m f g i j → IsMaximalPair (suc m) S T v w
    pair_of_meet vv vw h = record {
      first = vv;
      second = vw;
      maximal = λ v' w' vv' vw' q c b.
          let (k, lk, dk) = fs.all v' vv' in
          let (l, ll, dl) = ft.all w' vw' in
          let other : AreOf v' w' k l = record { first = dk; second = dl } in
          to_both v w i j of c (long v' w' c b) (h.maximal k l lk ll (λ e le x. to_meet v' w' k l other e (q e (to_both v w i j of e le x))) c (long v' w' c b) (to_meet v' w' k l other c b));
    }

    meet_of_pair : i < length f.cones → j < length g.cones → IsMaximalPair (suc m) S T v w → IsMaximalIntersection m f g i j
    meet_of_pair li lj h = record {
      first = li;
      second = lj;
      maximal = λ k l lk ll q c lc x.
          let (v', vv', dk) = fs.each k lk in
          let (w', vw', dl) = ft.each l ll in
          let other : AreOf v' w' k l = record { first = dk; second = dl } in
          to_meet v w i j of c (h.maximal v' w' vv' vw' (λ e b. to_both v' w' k l other e (long v w e b) (q e (long v w e b) (to_meet v w i j of e b))) c (to_both v' w' k l other c lc x));
    }

pub normal_of_sum : NormalOfSum
normal_of_sum m P Q R sa sb sum f g h fs ft = (to, from)
  where
    to : IsNormalFan (suc m) (In R) h → IsCommonRefinement m f g h
    to n = record {
      each = λ k lk.
          let (z, vz, dz) = n.each k lk in
          let (v, w, p, eq) = (maximal_pairs (suc m) P Q R sa sb sum).each z vz in
          let (i, li, di) = fs.all v p.first in
          let (j, lj, dj) = ft.all w p.second in
          let of : AreOf m (In P) (In Q) f g v w i j = record { first = di; second = dj } in (
            i,
            j,
            meet_of_pair m (In P) (In Q) f g fs ft v w i j of li lj p,
            λ c l. (λ x. to_meet m (In P) (In Q) f g v w i j of c ((eq c).0 ((dz c (ap suc l)).0 x)), λ x. (dz c (ap suc l)).1 ((eq c).1 (to_both m (In P) (In Q) f g v w i j of c l x))),
          );
      all = λ i j hm.
          let (v, vv, di) = fs.each i hm.first in
          let (w, vw, dj) = ft.each j hm.second in
          let of : AreOf m (In P) (In Q) f g v w i j = record { first = di; second = dj } in
          let (z, vz, eq) = (maximal_pairs (suc m) P Q R sa sb sum).all v w (pair_of_meet m (In P) (In Q) f g fs ft v w i j of vv vw hm) in
          let (k, lk, dz) = n.all z vz in (
            k,
            lk,
            λ c l. (λ x. to_meet m (In P) (In Q) f g v w i j of c ((eq c).0 ((dz c (ap suc l)).0 x)), λ x. (dz c (ap suc l)).1 ((eq c).1 (to_both m (In P) (In Q) f g v w i j of c l x))),
          );
      bare = λ e x l i. let (z, vz) = sum_vertex (suc m) P Q R sa sb sum in let (k, lk, dz) = n.all z vz in absurd (let q = ap length e in omega arith);
    }

    from : IsCommonRefinement m f g h → IsNormalFan (suc m) (In R) h
    from r = record {
      each = λ k lk.
          let (i, j, hm, ec) = r.each k lk in
          let (v, vv, di) = fs.each i hm.first in
          let (w, vw, dj) = ft.each j hm.second in
          let of : AreOf m (In P) (In Q) f g v w i j = record { first = di; second = dj } in
          let (z, vz, eq) = (maximal_pairs (suc m) P Q R sa sb sum).all v w (pair_of_meet m (In P) (In Q) f g fs ft v w i j of vv vw hm) in (
            z,
            vz,
            λ c l. let q : length c ≡ m = omega arith in (λ x. (eq c).1 (to_both m (In P) (In Q) f g v w i j of c q ((ec c q).0 x)), λ x. (ec c q).1 (to_meet m (In P) (In Q) f g v w i j of c ((eq c).0 x))),
          );
      all = λ z vz.
          let (v, w, p, eq) = (maximal_pairs (suc m) P Q R sa sb sum).each z vz in
          let (i, li, di) = fs.all v p.first in
          let (j, lj, dj) = ft.all w p.second in
          let of : AreOf m (In P) (In Q) f g v w i j = record { first = di; second = dj } in
          let (k, lk, ec) = r.all i j (meet_of_pair m (In P) (In Q) f g fs ft v w i j of li lj p) in (
            k,
            lk,
            λ c l. let q : length c ≡ m = omega arith in (λ x. (eq c).1 (to_both m (In P) (In Q) f g v w i j of c q ((ec c q).0 x)), λ x. (ec c q).1 (to_meet m (In P) (In Q) f g v w i j of c ((eq c).0 x))),
          );
    }
