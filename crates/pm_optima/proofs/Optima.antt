-- The optimum that the products tell of, in either sense, and what the refusals show.
use Rattle.pm_vector.specs.Cones.{InCone}
use Rattle.pm_vector.specs.Numbers.{Ratio}
use Rattle.pm_vector.specs.Rows.{HasCols, Row, dot, entry}
use Rattle.pm_vector.specs.Bases.{row_at}
use Rattle.pm_fraction.specs.Arithmetic.{product_of}
use Rattle.pm_fraction.specs.Fractions.{IsLowestTermsOf, IsTooWide}
use Rattle.pm_geom.specs.Programs.{IsMaximum}
use Rattle.pm_geom.specs.declared.evidence.Evidence.TheVariants.{E4}
use Rattle.pm_geom.specs.declared.evidence.Evidence.{Evidence}
use Rattle.pm_fraction.specs.FractionRows.{IsPrimitiveRowOf}
use Rattle.pm_optima.proofs.ByRays.{grows_found, maximum_at, maximum_found, no_point_found}
use Rattle.pm_optima.proofs.Lists.{products_length}
use Rattle.pm_optima.proofs.Turned.{turned_products, turned_scale}
use Rattle.pm_simplex.proofs.Senses.{objective_length, value_twice}
use Rattle.pm_simplex.specs.OptimumEvidence.{IsWideMaximum, ShowsProduct, ShowsValue}
use Rattle.pm_optima.specs.Objectives.{IsScaleOf}
use Rattle.pm_optima.specs.Quotients.{Grows, HasNone, IsBest}
use Rattle.pm_simplex.specs.Senses.{IsOptimum, objective_in, row_in, value_in}
use Rattle.pm_optima.specs.declared.quotients.Best.{Best}
use Rattle.pm_simplex.specs.declared.sense.Sense.{Sense}
use Rattle.pm_simplex.specs.Fails.{IfWide}
use Rattle.pm_simplex.specs.declared.fails.LpFail.TheVariants as fail
use Rattle.pm_simplex.specs.declared.fails.LpFail.{LpFail}
use Rattle.pm_types.specs.Programs.{IsGreatest}
use Rattle.pm_types.specs.Values.{Extended, finite, minus_infinity, plus_infinity}
use Rattle.std.proofs.Common.{ap, arith, inl, inr, refl, subst, sym, ◌∙◌}
use Rattle.std.proofs.lemmas.Int.{ints}
use Rattle.std.proofs.lemmas.List.Elements.{Contains-append_left, Contains-append_right, Contains-get_or}
use Rattle.std.specs.List.{All, Contains}
use Rattle.std.specs.Prelude.{List, [], length, map, ◌++◌, ◌≡◌}
use lib.IntN.{pos, ℤ}
use lib.Signed.{◌<ℤ◌, ◌≤ℤ◌}

pub turned_length : (sense : Sense) (w : Row) (V : List Row) (m : Row) → m ≡ row_in sense (map (dot w) V) → length m ≡ length V
turned_length sense w V m e = ap length (e ∙ turned_products sense w V) ∙ products_length (row_in sense w) V

-- ---- refusals of products
module _ (sense : Sense) (c : List Ratio) (w : Row) (V L : List Row) (primitive : IsPrimitiveRowOf c w) where
  of_more : (X Y : List Row) → ((x : Row) → Contains X x → Contains Y x) → (e : Evidence) → ShowsProduct w X e → ShowsProduct w Y e
  of_more X Y h (E4 first second) s = (s.0, h second s.1, s.2)
  of_more X Y h e s = absurd s

  pub ray_product : (f : LpFail) → IfWide f (ShowsProduct w V) → IfWide f (ShowsValue sense c V L)
  ray_product (fail.Wide e) s = record { row = w; primitive = primitive; shown = inl (of_more V (V ++ L) (λ x i. Contains-append_left V L x i) e s) }
  ray_product fail.Memory s = tt

  pub line_product : (f : LpFail) → IfWide f (ShowsProduct w L) → IfWide f (ShowsValue sense c V L)
  line_product (fail.Wide e) s = record { row = w; primitive = primitive; shown = inl (of_more L (V ++ L) (λ x i. Contains-append_right V L x i) e s) }
  line_product fail.Memory s = tt

-- ---- optima
module _ (sense : Sense) (c : List Ratio) (w : Row) (s : Ratio) (scale : IsScaleOf c w s) (V L : List Row) (rays : HasCols (length c) V) (lines : HasCols (length c) L)
    (ahead : All (λ x. pos 0 ≤ℤ entry x 0) V) (flat : All (λ x. entry x 0 ≡ pos 0) L) where
  abbrev pub d : List Ratio
  d = objective_in sense c

  abbrev pub u : Row
  u = row_in sense w

  turned : IsScaleOf d u s
  turned = turned_scale sense c w s scale

  cols : (X : List Row) → HasCols (length c) X → HasCols (length d) X
  cols X h = subst (λ n. HasCols n X) (sym (objective_length sense c)) h

  optimum_of : (x y : Extended) → y ≡ value_in sense x → IsGreatest (InCone V L) d x → IsOptimum sense (InCone V L) c y
  optimum_of x y e h = subst (λ z. IsGreatest (InCone V L) d z) (sym (ap (value_in sense) e ∙ value_twice sense x)) h

  pub none_optimum : (y : Extended) → y ≡ value_in sense minus_infinity → HasNone V (length V) → IsOptimum sense (InCone V L) c y
  none_optimum y e none = optimum_of minus_infinity y e (no_point_found d u s turned V L (cols V rays) (cols L lines) ahead flat none)

  module _ (b : Best) (found : IsBest (row_in sense (map (dot w) V)) V (length V) b) where
    best : IsBest (map (dot u) V) V (length V) b
    best = subst (λ m. IsBest m V (length V) b) (turned_products sense w V) found

    pub endless_optimum : (y : Extended) → y ≡ value_in sense plus_infinity → Grows (row_in sense (map (dot w) V)) V (row_in sense (map (dot w) L)) → IsOptimum sense (InCone V L) c y
    endless_optimum y e g =
        optimum_of plus_infinity y e (grows_found d u s turned V L (cols V rays) (cols L lines) ahead flat b best (rw (turned_products sense w V, turned_products sense w L) at g))

    module _ (bounded : ¬ (Grows (row_in sense (map (dot w) V)) V (row_in sense (map (dot w) L)))) where
      ends : ¬ (Grows (map (dot u) V) V (map (dot u) L))
      ends = rw (turned_products sense w V, turned_products sense w L) at bounded

      greatest : (q : Ratio) → IsLowestTermsOf (product_of b.quotient s) q → IsMaximum (InCone V L) d q
      greatest q lowest = maximum_found d u s turned V L (cols V rays) (cols L lines) ahead flat b best ends q lowest.reduced.positive lowest.same

      pub finite_optimum : (q : Ratio) → IsLowestTermsOf (product_of b.quotient s) q → (y : Extended) → y ≡ value_in sense (finite q) → IsOptimum sense (InCone V L) c y
      finite_optimum q lowest y e = optimum_of (finite q) y e (greatest q lowest)

      own_lowest : (q : Ratio) → IsLowestTermsOf (product_of b.quotient s) q → IsLowestTermsOf q q
      own_lowest q lowest = record { divisible = λ z. some q.den lowest.reduced.positive z; reduced = lowest.reduced; same = refl }
        where
          some : (z : ℤ) → pos 0 <ℤ z → ¬ (z ≡ pos 0)
          some z h e = absurd (omega (arith, ints))

      wide_maximum : IsTooWide (product_of b.quotient s) → IsWideMaximum d V L (row_at V b.place)
      wide_maximum wide = record {
        listed = Contains-get_or V b.place [] best.within;
        first = best.first;
        value = wide.lowest;
        attained = maximum_at d u s turned V L (cols V rays) (cols L lines) ahead flat b best ends wide.lowest wide.is_lowest.reduced.positive wide.is_lowest.same;
        greatest = greatest wide.lowest wide.is_lowest;
        wide = record { lowest = wide.lowest; is_lowest = own_lowest wide.lowest wide.is_lowest; leaves = wide.leaves };
      }

      pub wide_optimum : IsPrimitiveRowOf c w → IsTooWide (product_of b.quotient s) → (f : LpFail) → f ≡ fail.Wide (E4 w (row_at V b.place)) → IfWide f (ShowsValue sense c V L)
      wide_optimum primitive wide f e =
          subst (λ g. IfWide g (ShowsValue sense c V L)) (sym e) (record { row = w; primitive = primitive; shown = inr (refl, wide_maximum wide) })
