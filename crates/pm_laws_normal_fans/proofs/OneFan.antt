-- A polytope has one normal fan and one face fan.
use Rattle.pm_vector.proofs.Lists.{Among, among_Any, here, there}
use Rattle.pm_vector.specs.Rows.{Row, dot}
use Rattle.pm_geom.proofs.Facets.{facet_rows_cut_out}
use Rattle.pm_geom.proofs.Reduce.{extremes_generate}
use Rattle.pm_geom.specs.Cones.{SameModulo}
use Rattle.pm_geom.specs.Faces.{ray}
use Rattle.pm_laws_normal_fans.proofs.FaceGeometry.{on_facet, one_facet}
use Rattle.pm_laws_normal_fans.proofs.FacetFans.{face_fan_there, normal_fan_there}
use Rattle.pm_laws_normal_fans.proofs.NormalFans.{some_vertex}
use Rattle.pm_laws_normal_fans.proofs.Refinements.{same_lines}
use Rattle.pm_laws_normal_fans.specs.FaceFans.{AreOrdersOf, IsCenteredPolytope, IsFaceFan}
use Rattle.pm_laws_normal_fans.specs.Laws.{OneFaceFan, OneNormalFan}
use Rattle.pm_laws_normal_fans.specs.Shadows.{shadow_fan}
use Rattle.pm_laws_normal_fans.specs.Fans.{Fan, InPlace, IsConeAt, IsFan, IsSameFan}
use Rattle.pm_laws_normal_fans.specs.NormalFans.{IsConeOfVertex, IsNormalFan}
use Rattle.pm_laws_normal_fans.specs.Sums.{Cone, In, IsVertex}
use Rattle.std.proofs.Common.{ap, arith, refl}
use Rattle.std.specs.Prelude.{List, [], length, suc, ℕ, ◌<◌, ◌∷◌, ◌≡◌}
use lib.IntN.{pos}

module _ (m : ℕ) (S : Row → Type 0) (f g : Fan) (fs : IsNormalFan (suc m) S f) (gs : IsNormalFan (suc m) S g) (ff : IsFan m f) (fg : IsFan m g) where
  one_cone : (v : Row) (i j : ℕ) → IsConeOfVertex (suc m) S v f i → IsConeOfVertex (suc m) S v g j → IsConeAt m f i (InPlace g j)
  one_cone v i j d e x lx = (λ h. (e x (ap suc lx)).1 ((d x (ap suc lx)).0 h), λ h. (d x (ap suc lx)).1 ((e x (ap suc lx)).0 h))

  pub normal_fans_same : (v : Row) → IsVertex (suc m) S v → IsSameFan m f g
  normal_fans_same v vv = record {
    lines = λ x lx. let (i, li, d) = fs.all v vv in let (j, lj, e) = gs.all v vv in same_lines m f g ff fg i j li lj (one_cone v i j d e) x lx;
    each = λ i li. let (w, vw, d) = fs.each i li in let (j, lj, e) = gs.all w vw in (j, lj, one_cone w i j d e);
    all = λ j lj. let (w, vw, e) = gs.each j lj in let (i, li, d) = fs.all w vw in (i, li, one_cone w i j d e);
  }

pub face_fans_same : (m : ℕ) (P : Cone) (f g : Fan) → IsFaceFan m P f → IsFaceFan m P g → IsFan m f → IsFan m g → 0 < length f.cones → IsSameFan m f g
face_fans_same m P f g fs gs ff fg some = record {
  lines = λ x lx. let (a, fa, d) = fs.each 0 some in let (j, lj, e) = gs.all a fa in same_lines m f g ff fg 0 j some lj (λ x lx. (λ h. (e x lx).1 ((d x lx).0 h), λ h. (d x lx).1 ((e x lx).0 h))) x lx;
  each = λ i li. let (a, fa, d) = fs.each i li in let (j, lj, e) = gs.all a fa in (j, lj, λ x lx. (λ h. (e x lx).1 ((d x lx).0 h), λ h. (d x lx).1 ((e x lx).0 h)));
  all = λ j lj. let (a, fa, e) = gs.each j lj in let (i, li, d) = fs.all a fa in (i, li, λ x lx. (λ h. (e x lx).1 ((d x lx).0 h), λ h. (d x lx).1 ((e x lx).0 h)));
}

-- ---- there is one
some_among : {a : Row} {F : List Row} → Among a F → 0 < length F
some_among here = omega arith
some_among (there i) = omega arith

pub one_normal_fan : OneNormalFan
one_normal_fan m P s =
    let e = extremes_generate (suc m) P.generators P.lines s.thing.cone.generators s.thing.cone.lines in
    let (F, E, he, o, vanish, gen, cuts) = facet_rows_cut_out (suc m) P.generators P.lines s.thing.cone.generators s.thing.cone.lines in
    let (v, vv) = some_vertex (suc m) P s in
    let (is_fan, normal) = normal_fan_there m P e.0 F E s (record { rays = e.3; facets = o }) (record { cols = he; same = vanish }) in
    record {
      fan = shadow_fan F E e.0;
      is_fan = is_fan;
      has = normal;
      only = λ g fg ng. normal_fans_same m (In P) (shadow_fan F E e.0) g normal ng is_fan fg v vv;
    }

-- a polytope with some vertex has a facet
module _ (m : ℕ) (P : Cone) (V F : List Row) (around : IsCenteredPolytope (suc m) P) (orders : AreOrdersOf (suc m) P V F) (v : Row) (vv : IsVertex (suc m) (In P) v) where
  some_facet : (W : List Row) → V ≡ W → 0 < length F
  some_facet [] q = let (w, iw, s) = among_Any (λ w. SameModulo (suc m) (In P) v w) V (orders.rays.all v vv.extreme) in absurd (let l = some_among iw in let k = ap length q in omega arith)
  some_facet (w ∷ []) q = let k = one_facet m P V F around orders w q in omega arith
  some_facet (w ∷ x ∷ W) q =
      let k = ap length q in
      let (a, ia, z) = among_Any (λ a. dot (ray V 0) a ≡ pos 0) F (on_facet m P V F around orders 0 1 (omega arith) (omega arith) (λ e. absurd (omega arith))) in
      some_among ia

pub one_face_fan : OneFaceFan
one_face_fan m P s some =
    let e = extremes_generate (suc m) P.generators P.lines s.thing.cone.generators s.thing.cone.lines in
    let (F, E, he, o, vanish, gen, cuts) = facet_rows_cut_out (suc m) P.generators P.lines s.thing.cone.generators s.thing.cone.lines in
    let orders : AreOrdersOf (suc m) P e.0 F = record { rays = e.3; facets = o } in
    let (v, vv) = some_vertex (suc m) P (record { thing = s.thing; bounded = s.bounded; some = some }) in
    let (is_fan, faces, count) = face_fan_there m P e.0 F s orders in
    let l = some_facet m P e.0 F s orders v vv e.0 refl in
    record {
      fan = shadow_fan e.0 [] F;
      is_fan = is_fan;
      has = faces;
      only = λ g fg ng. face_fans_same m P (shadow_fan e.0 [] F) g faces ng is_fan fg (omega arith);
    }
