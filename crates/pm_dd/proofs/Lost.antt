-- A lost combination of two rays is an extreme ray of the next cone whose canonical row is out of the range.
use Rattle.std.specs.Prelude.{ℕ, ◌≡◌, ◌⊎◌, List, length, take}
use Rattle.std.specs.List.{All}
use Rattle.std.proofs.Common.{arith, inl, inr, refl, sym, ◌∙◌}
use Rattle.std.proofs.lemmas.Bool.{cases_eq}
use Rattle.pm_vector.specs.Bases.{row_at}
use Rattle.pm_vector.specs.Cones.{IsConeSet}
use Rattle.pm_vector.specs.Divisors.{IsPrimitive, IsPrimitiveOf}
use Rattle.pm_vector.specs.Numbers.{InRange}
use Rattle.pm_vector.specs.Rows.{IsZero, Row, Same, entry, times}
use Rattle.pm_vector.proofs.DivisorLaws.{IsPrimitiveOf-quotients, IsPrimitiveOf-zero, IsZero-from_gcd, gcd_of, quotients}
use Rattle.pm_vector.proofs.Lists.{All_among, among_All}
use Rattle.pm_vector.proofs.Ring.{ring}
use Rattle.pm_vector.proofs.RowLaws.{entry-opposite, entry-times}
use Rattle.pm_vector.proofs.Signs.{mul_cancel}
use Rattle.pm_geom.specs.Cones.{CutOut, IsExtreme}
use Rattle.pm_geom.specs.Faces.{ray}
use Rattle.pm_geom.specs.Generators.{IsCanonicalRay, IsLinealityBasis, VanishAt}
use Rattle.pm_dd.specs.Description.{IsRayStep, combined, pair}
use Rattle.pm_dd.specs.Lost.{IsLostSource}
use Rattle.pm_dd.proofs.Building.{multiple_alike}
use Rattle.pm_dd.proofs.Description.{cut_cone_set}
use Rattle.pm_dd.proofs.Next.{not_line}
use Rattle.pm_dd.proofs.StepLaws.{at_place, entry-combined}
use Rattle.pm_dd.proofs.Thin.{extreme_alike}
use lib.IntN.{ℤ, pos}
use lib.Signed.{◌<ℤ◌}

-- each row has a primitive one
pub primitive_exists : (x : Row) → (w : Row) × IsPrimitiveOf x w
primitive_exists x =
    let g = gcd_of x in
    elim (cases_eq g.0 0) [
      | inl none ↦ (x, IsPrimitiveOf-zero x (IsZero-from_gcd x (rw none at g.1)))
      | inr some ↦ (quotients x g.0, IsPrimitiveOf-quotients x g.0 (omega arith) g.1)
    ]

module _ (n : ℕ) (Y : List Row) (g h : ℕ) (V : List Row) (step : IsRayStep n (CutOut (take h Y)) (take g Y) (row_at Y g) V) (src : IsLostSource Y g V) where
  extreme : IsExtreme n (CutOut (take h Y)) (combined (row_at Y g) (ray V src.first) (ray V src.second))
  extreme = step.each (pair src.first src.second) src.source

  cs : IsConeSet (CutOut (take h Y))
  cs = cut_cone_set (take h Y)

  never_zero : ¬ (IsZero (combined (row_at Y g) (ray V src.first) (ray V src.second)))
  never_zero q = extreme.not_line (cs.same (record { at = λ k. let u = q k in simp (entry-opposite, u) refl }) extreme.inside)

  zero_column : (w : Row) (m : ℤ) → pos 0 <ℤ m → Same (combined (row_at Y g) (ray V src.first) (ray V src.second)) (times m w) → (c : ℕ) → All (λ v. entry v c ≡ pos 0) V → entry w c ≡ pos 0
  zero_column w m hm s2 c z =
      let zi = among_All (λ (v : Row). entry v c ≡ pos 0) (at_place V src.first src.source.0) z in
      let zj = among_All (λ (v : Row). entry v c ≡ pos 0) (at_place V src.second src.source.1) z in
      mul_cancel hm (sym (simp entry-times at (s2.at c)) ∙ entry-combined (row_at Y g) (ray V src.first) (ray V src.second) c ∙ simp (zi, zj, ring))

  module _ (N : List Row) (P : List ℕ) (b : IsLinealityBasis n (CutOut (take h Y)) N P) (zeros : All (VanishAt P) V) where
    of_multiple : (w : Row) → length w ≡ n → (m : ℤ) → pos 0 <ℤ m → Same (combined (row_at Y g) (ray V src.first) (ray V src.second)) (times m w) → IsPrimitive w → IsCanonicalRay n (CutOut (take h Y)) w
    of_multiple w cols m hm whole prim =
        let t = multiple_alike n (CutOut (take h Y)) cs (combined (row_at Y g) (ray V src.first) (ray V src.second)) w m extreme.cols hm extreme.inside whole in
        record {
          lines = N;
          pivots = P;
          basis = b;
          extreme = extreme_alike n (take h Y) cols (cs.part hm (cs.same whole extreme.inside)) (not_line n (take h Y) extreme t) extreme t;
          primitive = prim;
          reduced = All_among (λ (c : ℕ). entry w c ≡ pos 0) P (λ c j. zero_column w m hm whole c (All_among (λ (v : Row). entry v c ≡ pos 0) V (λ v i. among_All (λ (c : ℕ). entry v c ≡ pos 0) j (among_All (VanishAt P) i zeros))));
        }

    canonical : (w : Row) → length w ≡ n → (IsZero (combined (row_at Y g) (ray V src.first) (ray V src.second)) × IsZero w) ⊎ ((m : ℤ) × (pos 0 <ℤ m) × Same (combined (row_at Y g) (ray V src.first) (ray V src.second)) (times m w) × IsPrimitive w) → IsCanonicalRay n (CutOut (take h Y)) w
    canonical w cols (inl q) = absurd (never_zero q.0)
    canonical w cols (inr q) = of_multiple w cols q.0 q.1 q.2 q.3

    pub wide_ray : (w : Row) × IsCanonicalRay n (CutOut (take h Y)) w × ¬ (All InRange w)
    wide_ray =
        let (w, p) = primitive_exists (combined (row_at Y g) (ray V src.first) (ray V src.second)) in
        (w, canonical w (p.cols ∙ extreme.cols) p.divided, src.lost w p)
