-- A list with one row for each source is an order of the next cone.
use Rattle.std.specs.Prelude.{ℕ, ◌<◌, List, [], ◌∷◌, length, get_or}
use Rattle.std.proofs.Common.{arith, subst}
use Rattle.std.proofs.lemmas.Int.{ints}
use Rattle.std.proofs.lemmas.List.{get_or_default}
use Rattle.pm_vector.specs.Rows.{Row, opposite}
use Rattle.pm_geom.specs.Cones.{CutOut, SameModulo, IsExtreme}
use Rattle.pm_geom.specs.Faces.{ray}
use Rattle.pm_dd.specs.Description.{kept, source_row, IsRayStep, NextIsOrder}
use Rattle.pm_vector.proofs.Ring.{ring}
use Rattle.pm_vector.proofs.Signs.{weaken}
use Rattle.pm_vector.proofs.RowLaws.{entry-plus, entry-times, entry-opposite}
use Rattle.pm_geom.proofs.Polar.{cols_at}
use Rattle.pm_dd.proofs.AlikeLaws.{alike_sym, alike_trans}
use Rattle.pm_dd.proofs.Description.{cut_cone_set}
use Rattle.pm_dd.proofs.StepLaws.{step_is_complete, at_place}
use Rattle.pm_dd.proofs.Thin.{extreme_alike}

-- a row that is like an extreme one has no opposite in the set
pub not_line : (n : ℕ) (S : List Row) {r u : Row} → IsExtreme n (CutOut S) r → SameModulo n (CutOut S) r u → ¬ (CutOut S (opposite u))
not_line n S {r} {u} e t h =
    let cs = cut_cone_set S in
    e.not_line (cs.part t.k_positive (cs.same
    (record { at = λ i. let q = simp (entry-times, entry-plus) at (t.same.at i) in simp (entry-times, entry-plus, entry-opposite, ring) (omega (arith, ints)) })
    (cs.sum (cs.multiple (weaken t.p_positive) h) t.line.inside)))

pub next_is_order : NextIsOrder
next_is_order n A a hA la flat V oV W ss nx = record {
  each = λ k d l. rw (get_or_default W k d [] l) (row_extreme k l);
  all = λ r e.
      let w = step.all r e in
      let p = nx.every w.0 w.1 in
      let t = (nx.given p.0 p.1).1 in
      let q = alike_trans n (CutOut (a ∷ A)) cs w.2 (subst (λ s. SameModulo n (CutOut (a ∷ A)) (source_row a V s) (ray W p.0)) p.2 t) in
      (p.0, ray W p.0, p.1, get_or_default W p.0 (ray W p.0) [] p.1, q);
  once = λ i j d l m t.
      let li : i < length W = omega arith in
      let u = rw (get_or_default W i d [] li, get_or_default W j d [] m) at t in
      let a1 = (nx.given i li).1 in
      let a2 = (nx.given j m).1 in
      nx.once i j l m (step.once (get_or ss i (kept 0)) (get_or ss j (kept 0)) (nx.given i li).0 (nx.given j m).0 (alike_trans n (CutOut (a ∷ A)) cs (alike_trans n (CutOut (a ∷ A)) cs a1 u) (alike_sym n (CutOut (a ∷ A)) cs a2)));
}
  where
    step : IsRayStep n (CutOut (a ∷ A)) A a V
    step = step_is_complete n A a hA la flat V oV

    cs : Rattle.pm_vector.specs.Cones.IsConeSet (CutOut (a ∷ A))
    cs = cut_cone_set (a ∷ A)

    row_extreme : (k : ℕ) → k < length W → IsExtreme n (CutOut (a ∷ A)) (ray W k)
    row_extreme k l =
        let g = nx.given k l in
        let e = step.each (get_or ss k (kept 0)) g.0 in
        extreme_alike n (a ∷ A) (cols_at (at_place W k l) nx.cols) (nx.inside k l) (not_line n (a ∷ A) e g.1) e g.1
