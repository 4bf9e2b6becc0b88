-- What refusals show, from one call to the next.
use Rattle.pm_vector.proofs.Lists.{Among, Any_among, among_Any, here, there}
use Rattle.pm_vector.specs.Rows.{Row}
use Rattle.pm_geom.specs.declared.evidence.Evidence.TheVariants.{E4}
use Rattle.pm_laws_normal_fans.specs.Refinements.{Intersection}
use Rattle.pm_refine.specs.CutRows.{CutRows, IsSmall, IsSomeRow, cuts_at}
use Rattle.pm_refine.specs.Fails.{IsPairFail, IsShownBy, IsStepFail, IsTestOf, IsTestOfRay, IsWideOf}
use Rattle.pm_refine.specs.Steps.{IsCutOutBy}
use Rattle.pm_refine.specs.declared.fails.RefineFail.{RefineFail}
use Rattle.pm_refine.specs.declared.fails.RefineFail.TheVariants.{Memory, NotMade}
use Rattle.std.proofs.Common.{inl, inr, subst, sym}
use Rattle.std.specs.List.{Contains}
use Rattle.std.specs.Prelude.{Err, IfErr, IfOk, List, Ok, Result, [], length, ℕ, ◌++◌, ◌<◌, ◌∷◌, ◌≡◌}

-- the pairs of P are pairs of R
pub wide_as : (P R : ℕ → ℕ → Row → Row → Type 0) → ((i j : ℕ) (x r : Row) → P i j x r → R i j x r) → (f : RefineFail) → IsWideOf P f → IsWideOf R f
wide_as P R to (NotMade i j (E4 x r)) h = (to i j x r h.0, h.1)
wide_as P R to (NotMade i j e) h = absurd h
wide_as P R to Memory h = tt

-- the rows of Q are rows of R
pub ray_as : (first second : ℕ) (ray : Row) (Q R : Row → Type 0) → ((r : Row) → Q r → R r) → (f : RefineFail) → IsWideOf (IsTestOfRay first second ray Q) f → IsWideOf (IsTestOfRay first second ray R) f
ray_as first second ray Q R to f h = wide_as (IsTestOfRay first second ray Q) (IsTestOfRay first second ray R) (λ i j x r t. (t.0, t.1, t.2, to r t.3)) f h

pub test_as : (tested : List Intersection) (Q R : Row → Type 0) → ((r : Row) → Q r → R r) → (f : RefineFail) → IsWideOf (IsTestOf tested Q) f → IsWideOf (IsTestOf tested R) f
test_as tested Q R to f h = wide_as (IsTestOf tested Q) (IsTestOf tested R) (λ i j x r t. (t.0, to r t.1)) f h

-- one row of several
pub row_of : (first second : ℕ) (ray row : Row) (rows : List Row) (f : RefineFail) → Contains rows row → IsWideOf (IsTestOfRay first second ray (λ r. r ≡ row)) f → IsWideOf (IsTestOfRay first second ray (Contains rows)) f
row_of first second ray row rows f c h = ray_as first second ray (λ r. r ≡ row) (Contains rows) (λ r e. subst (Contains rows) (sym e) c) f h

-- one ray of an intersection
pub test_of_ray : (a : Intersection) (ray : Row) (Q : Row → Type 0) (f : RefineFail) → Contains a.rays ray → IsWideOf (IsTestOfRay a.first a.second ray Q) f → IsWideOf (IsTestOf (a ∷ []) Q) f
test_of_ray a ray Q f c h = wide_as (IsTestOfRay a.first a.second ray Q) (IsTestOf (a ∷ []) Q)
    (λ i j x r t. (Any_among (λ b. (i ≡ b.first) × (j ≡ b.second) × Contains b.rays x) (here {xs = []}) (t.0, t.1, subst (Contains a.rays) (sym t.2) c), t.3)) f h

pub small_as : (n m : ℕ) (c : CutRows) → m ≡ n → IsSmall n c → IsSmall m c
small_as n m c e h = subst (λ k. IsSmall k c) (sym e) h

-- ---- answers and refusals that say less
pub if_ok : {T E : Type 0} {P Q : T → Type 0} (r : Result T E) → ((v : T) → P v → Q v) → IfOk r P → IfOk r Q
if_ok (Ok v) f h = f v h
if_ok (Err e) f h = tt

pub if_err : {T E : Type 0} {P Q : E → Type 0} (r : Result T E) → ((e : E) → P e → Q e) → IfErr r P → IfErr r Q
if_err (Ok v) f h = tt
if_err (Err e) f h = f e h

-- ---- more intersections
pub tests_more : (few more : List Intersection) (Q : Row → Type 0) → ((a : Intersection) → Among a few → Among a more) → (f : RefineFail) → IsWideOf (IsTestOf few Q) f → IsWideOf (IsTestOf more Q) f
tests_more few more Q to f h = wide_as (IsTestOf few Q) (IsTestOf more Q)
    (λ i j x r t. let (a, ia, p) = among_Any (λ a. (i ≡ a.first) × (j ≡ a.second) × Contains a.rays x) few t.0 in (Any_among (λ a. (i ≡ a.first) × (j ≡ a.second) × Contains a.rays x) (to a ia) p, t.1)) f h

pub only_in : (y : Intersection) (more : List Intersection) → Among y more → (x : Intersection) → Among x (y ∷ []) → Among x more
only_in y more i x j = by j
  where
    by : {z : Intersection} → Among z (y ∷ []) → Among z more
    by here = i
    by (there k) = elim k [ ]

-- ---- from the rows of one pair to those of all
pub pair_fail : (n : ℕ) (C D : List CutRows) (c d : CutRows) (i j : ℕ) → i < length C → j < length D → cuts_at C i ≡ c → cuts_at D j ≡ d → (f : RefineFail) → IsPairFail n c d i j f → IsStepFail n C D f
pair_fail n C D c d i j li lj ec ed (NotMade a b e) h = (
  subst (λ z. z < length C) (sym h.0) li,
  subst (λ z. z < length D) (sym h.1) lj,
  inl (subst (λ z. IsShownBy n ((cuts_at C z).hull ++ (cuts_at D b).hull) ((cuts_at C z).facets ++ (cuts_at D b).facets) e) (sym h.0)
      (subst (λ z. IsShownBy n ((cuts_at C i).hull ++ (cuts_at D z).hull) ((cuts_at C i).facets ++ (cuts_at D z).facets) e) (sym h.1)
      (subst (λ z. IsShownBy n (z.hull ++ (cuts_at D j).hull) (z.facets ++ (cuts_at D j).facets) e) (sym ec)
      (subst (λ z. IsShownBy n (c.hull ++ z.hull) (c.facets ++ z.facets) e) (sym ed) h.2)))),
)
pair_fail n C D c d i j li lj ec ed Memory h = tt

pub wide_fail : (n : ℕ) (C D : List CutRows) (tested : List Intersection) → ((a : Intersection) → Among a tested → (L : List Row) × IsCutOutBy n C D L a) → (f : RefineFail) → IsWideOf (IsTestOf tested (IsSomeRow C D)) f → IsStepFail n C D f
wide_fail n C D tested found (NotMade i j (E4 x r)) h =
    let (a, ia, p) = among_Any (λ a. (i ≡ a.first) × (j ≡ a.second) × Contains a.rays x) tested h.0.0 in
    let (L, c) = found a ia in
    let own : IsCutOutBy n C D L (record { first = a.first; second = a.second; rays = a.rays }) = record { first = c.first; second = c.second; generators = c.generators } in
    let at : IsCutOutBy n C D L (record { first = i; second = j; rays = a.rays }) = subst (λ z. IsCutOutBy n C D L (record { first = z; second = j; rays = a.rays })) (sym p.0) (subst (λ z. IsCutOutBy n C D L (record { first = a.first; second = z; rays = a.rays })) (sym p.1) own) in
    (at.first, at.second, inr ((a.rays, L, at, p.2), h.0.1, h.1))
wide_fail n C D tested found (NotMade i j e) h = absurd h
wide_fail n C D tested found Memory h = tt
