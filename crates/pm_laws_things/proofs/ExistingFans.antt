-- There are normal fans and face fans.
use Rattle.pm_geom.specs.Things.{IsFanThing}
use Rattle.pm_vector.specs.Rows.{Row}
use Rattle.pm_build.specs.Objects.{zeros}
use Rattle.pm_laws_normal_fans.proofs.OneFan.{one_face_fan, one_normal_fan}
use Rattle.pm_laws_normal_fans.specs.FaceFans.{IsCenteredPolytope, IsFaceFan}
use Rattle.pm_laws_normal_fans.specs.Fans.{HasOneFan}
use Rattle.pm_laws_normal_fans.specs.NormalFans.{IsNormalFan}
use Rattle.pm_laws_normal_fans.specs.Sums.{In, IsBoundedPolytope, IsInhabited}
use Rattle.pm_laws_things.proofs.OrdersExist.{orders_exist}
use Rattle.pm_laws_things.proofs.SomeThings.{no_objectives}
use Rattle.pm_laws_things.specs.Existence.{FaceFansExist, NormalFansExist, SomeThing}
use Rattle.pm_laws_things.specs.FanLaws.{IsFaceFanOf, IsNormalFanOf, cone_of}
use Rattle.pm_limits.specs.Limits.{most_columns}
use Rattle.pm_object_type.specs.declared.object_type.ObjectType.TheVariants.{Fan}
use Rattle.pm_relations.proofs.Sites.{no_sites}
use Rattle.pm_types.specs.Things.{IsThing, Thing}
use Rattle.std.proofs.Common.{arith, refl, subst, sym}
use Rattle.std.specs.Prelude.{List, [], suc, ℕ, ◌-◌, ◌≡◌, ◌≤◌}

-- the fan of these cones over these lines, with 0 as the objective of each program
abbrev pub fan_with : ℕ → List (List Row) → List Row → Thing
fan_with n Gs L = record { of = Fan; cols = n; generators = []; lines = L; cones = Gs; objective = λ s. zeros n; sites = []; heights = [] }

-- by generators and lines
pub some_fan : (P : Thing → Type 0) (n : ℕ) (Gs : List (List Row)) (L : List Row) → 1 ≤ n → n ≤ most_columns → IsFanThing n Gs L → P (fan_with n Gs L) → SomeThing P
some_fan P n Gs L some few fan holds =
    let (o, are) = orders_exist (fan_with n Gs L) thing in
    record { thing = fan_with n Gs L; is_thing = thing; orders = o; are_orders = are; holds = holds }
  where
    thing : IsThing (fan_with n Gs L)
    thing = record { some_cols = some; few_cols = few; kind = (fan, refl); programs = no_objectives n; sites = no_sites _ }

before : (n : ℕ) → 2 ≤ n → n ≡ suc (n - 1)
before n h = omega arith

pub normal_fans_exist : NormalFansExist
normal_fans_exist t h b two =
    let e = before t.cols two in
    let few = h.few_cols in
    let one : HasOneFan (t.cols - 1) (IsNormalFan (suc (t.cols - 1)) (In (cone_of t))) = one_normal_fan (t.cols - 1) (cone_of t) (subst (λ k. IsBoundedPolytope k (cone_of t)) e b.bounded) in
    some_fan (IsNormalFanOf t) (t.cols - 1) one.fan.cones one.fan.lines (omega arith) (omega arith) one.is_fan
    (record { of = refl; cols = e; cones = subst (λ k. IsNormalFan k (In (cone_of t)) one.fan) (sym e) one.has })

pub face_fans_exist : FaceFansExist
face_fans_exist t h b c two =
    let e = before t.cols two in
    let few = h.few_cols in
    let one : HasOneFan (t.cols - 1) (IsFaceFan (t.cols - 1) (cone_of t)) = one_face_fan (t.cols - 1) (cone_of t)
    (subst (λ k. IsCenteredPolytope k (cone_of t)) e (record { thing = b.bounded.thing; bounded = b.bounded.bounded; positive = c.positive }))
    (subst (λ k. IsInhabited k (cone_of t)) e b.bounded.some) in
    some_fan (IsFaceFanOf t) (t.cols - 1) one.fan.cones one.fan.lines (omega arith) (omega arith) one.is_fan
    (record { of = refl; cols = e; cones = one.has })
