-- The places of the rays at which an objective has a value, by the row that vanishes there; and what the refusals show.
use Rattle.pm_vector.specs.Numbers.{Ratio}
use Rattle.pm_vector.specs.Rows.{HasCols, Row, Stands}
use Rattle.pm_vector.specs.Evidence.{unit}
use Rattle.pm_geom.specs.Faces.{ray}
use Rattle.pm_geom.specs.declared.evidence.Evidence.TheVariants.{E4}
use Rattle.pm_fraction.specs.FractionRows.{IsPrimitiveRowOf}
use Rattle.pm_optima.proofs.Levels.{level_vanishes, scale_of}
use Rattle.pm_optima.proofs.Turned.{turned_scale}
use Rattle.pm_simplex.proofs.Senses.{objective_length, value_of_ratio}
use Rattle.pm_simplex.specs.OptimumEvidence.{IsWideLevel, ShowsFace, ShowsProduct}
use Rattle.pm_optima.specs.Objectives.{AreZeroPlaces, IsPrimitiveLevel, IsScaleOf}
use Rattle.pm_simplex.specs.Senses.{objective_in, ratio_in, row_in, value_in}
use Rattle.pm_simplex.specs.declared.sense.Sense.TheVariants.{Maximal, Minimal}
use Rattle.pm_simplex.specs.declared.sense.Sense.{Sense}
use Rattle.pm_simplex.specs.Fails.{IfWide}
use Rattle.pm_simplex.specs.declared.fails.LpFail.TheVariants as fail
use Rattle.pm_simplex.specs.declared.fails.LpFail.{LpFail}
use Rattle.pm_types.specs.Programs.{ArePlacesOfValue}
use Rattle.pm_types.specs.Values.{finite}
use Rattle.std.proofs.Common.{ap, arith, inl, inr, refl, subst, sym, ◌∙◌}
use Rattle.std.specs.Prelude.{List, length, ◌<◌, ◌≡◌}
use lib.IntN.{pos, ℤ}
use lib.Signed.{◌<ℤ◌}

turned_stands : (sense : Sense) (c : List Ratio) (w : Row) → Stands c w → Stands (objective_in sense c) (row_in sense w)
turned_stands sense c w h =
    let s : IsScaleOf (objective_in sense c) (row_in sense w) (record { num = h.p; den = h.q }) = turned_scale sense c w (record { num = h.p; den = h.q }) (scale_of c w h) in
    record { p = h.p; q = h.q; p_positive = h.p_positive; q_positive = h.q_positive; cols = s.cols; denominators = s.denominators; same = s.same }

turned_den : (sense : Sense) (v : Ratio) → pos 0 <ℤ v.den → pos 0 <ℤ (ratio_in sense v).den
turned_den Maximal v h = h
turned_den Minimal v h = h

module _ (sense : Sense) (c : List Ratio) (value : Ratio) (V : List Row) where
  -- ---- the row that vanishes there
  module _ (u : Row) (level : IsPrimitiveLevel (objective_in sense c) (ratio_in sense value) u) where
    pub level_cols : HasCols (length c) V → HasCols (length u) V
    level_cols h = subst (λ n. HasCols n V) (sym (level.stands.cols ∙ level.level.cols ∙ objective_length sense c)) h

    pub places_found : (w : Row) → Stands c w → 0 < length c → pos 0 <ℤ value.den → (ks : List ℤ) → AreZeroPlaces u V (length V) ks → ArePlacesOfValue (objective_in sense c) (value_in sense (finite value)) V ks
    places_found w st some vd ks h =
        subst (λ x. ArePlacesOfValue (objective_in sense c) x V ks) (sym (value_of_ratio sense value)) (record {
          js = h.js;
          places = h.places;
          ascending = h.ascending;
          each = λ j.
              let v = level_vanishes (objective_in sense c) (row_in sense w) (turned_stands sense c w st) (let e = objective_length sense c in omega arith) (ratio_in sense value) (turned_den sense value vd) level.fractions level.level u level.stands (ray V j) in
              (λ i. let k = (h.each j).0 i in (k.0, v.0 k.1), λ k. (h.each j).1 (k.0, v.1 k.1));
        })

    pub level_product : (f : LpFail) → IfWide f (ShowsProduct u V) → IfWide f (ShowsFace sense c (ratio_in sense value) V)
    level_product (fail.Wide e) h = inl (record { fractions = level.fractions; row = u; level = level.level; primitive = level.primitive; shown = h })
    level_product fail.Memory h = tt

  -- ---- that row is not made
  pub level_wide : (w : Row) → IsPrimitiveRowOf c w → (f : LpFail) → f ≡ fail.Wide (E4 w (unit (length c) 0)) → IsWideLevel (objective_in sense c) (ratio_in sense value) → IfWide f (ShowsFace sense c (ratio_in sense value) V)
  level_wide w primitive f e wide =
      subst (λ g. IfWide g (ShowsFace sense c (ratio_in sense value) V)) (sym e)
      (inr (record { row = w; primitive = primitive; shown = (refl, ap (λ n. unit n 0) (sym (objective_length sense c)), wide) }))
