-- The normal fan of a sum is the common refinement of the normal fans.
use Rattle.pm_geom.specs.Things.{IsPolytopeThing}
use Rattle.pm_laws_things.proofs.SumDescribed.{sum_by_points}
use Rattle.pm_laws_things.proofs.NormalRows.{polytope_of}
use Rattle.pm_laws_things.specs.FanLaws.{IsNormalFanOf, IsRefinementOfFans, NormalFanOfSum, cone_of, fan_of}
use Rattle.pm_laws_normal_fans.proofs.SumFans.{normal_of_sum}
use Rattle.pm_laws_normal_fans.specs.Fans.{IsCommonRefinement}
use Rattle.pm_laws_normal_fans.specs.NormalFans.{IsNormalFan}
use Rattle.pm_laws_normal_fans.specs.Sums.{In, IsBoundedPolytope, IsSumOf}
use Rattle.std.proofs.Common.{arith, subst, sym, ◌∙◌}
use Rattle.std.specs.Prelude.{suc, ℕ, ◌↔◌, ◌≡◌}

pub normal_fan_of_sum : NormalFanOfSum
normal_fan_of_sum t s u f g h bt bs thing sum st nf ng hf th = (to, from)
  where
    m : ℕ
    m = h.cols

    ft : f.cols ≡ m
    ft = let a = nf.cols in omega arith

    gt : g.cols ≡ m
    gt = let a = ng.cols in omega arith

    ut : u.cols ≡ suc m
    ut = sum.cols ∙ th

    bp : IsBoundedPolytope (suc m) (cone_of t)
    bp = subst (λ k. IsBoundedPolytope k (cone_of t)) th bt.bounded

    bq : IsBoundedPolytope (suc m) (cone_of s)
    bq = subst (λ k. IsBoundedPolytope k (cone_of s)) (st ∙ th) bs.bounded

    is_sum : IsSumOf (suc m) (cone_of t) (cone_of s) (cone_of u)
    is_sum = sum_by_points t s u (suc m) th (omega arith) bp.thing bq.thing bp.some bq.some (subst (λ k. IsPolytopeThing k u.generators u.lines) ut (polytope_of u thing sum.of)) sum

    law : IsNormalFan (suc m) (In (cone_of u)) (fan_of h) ↔ IsCommonRefinement m (fan_of f) (fan_of g) (fan_of h)
    law = normal_of_sum m (cone_of t) (cone_of s) (cone_of u) bp bq is_sum (fan_of f) (fan_of g) (fan_of h)
        (subst (λ k. IsNormalFan k (In (cone_of t)) (fan_of f)) th nf.cones) (subst (λ k. IsNormalFan k (In (cone_of s)) (fan_of g)) (st ∙ th) ng.cones)

    to : IsNormalFanOf u h → IsRefinementOfFans f g h
    to n = record { of = hf; cols = sym ft; second_cols = gt ∙ sym ft; cones = subst (λ k. IsCommonRefinement k (fan_of f) (fan_of g) (fan_of h)) (sym ft) (law.0 (subst (λ k. IsNormalFan k (In (cone_of u)) (fan_of h)) ut n.cones)) }

    from : IsRefinementOfFans f g h → IsNormalFanOf u h
    from r = record { of = hf; cols = ut; cones = subst (λ k. IsNormalFan k (In (cone_of u)) (fan_of h)) (sym ut) (law.1 (subst (λ k. IsCommonRefinement k (fan_of f) (fan_of g) (fan_of h)) ft r.cones)) }
