-- The refusal of a pair is one of the step.
use Rattle.std.specs.Prelude.{ℕ, ◌≡◌, ◌<◌, Bool, true, IsTrue, List, length}
use Rattle.std.proofs.Common.{inl, inr, refl, sym, subst}
use Rattle.pm_vector.specs.Rows.{Row, dot}
use Rattle.pm_vector.specs.Bases.{row_at}
use Rattle.pm_bits.specs.Table.{Table}
use Rattle.pm_dd.specs.Lost.{IfCombinationLost, IfStepLost, IsLostSource, IsLostTablePair}
use Rattle.pm_dd.specs.StepFails.{IfProduct, IsPairFailOf, IsStepFail, IsTablePair, IsWideSource}
use Rattle.pm_dd.specs.Tables.{IsRayTable}
use Rattle.pm_dd.specs.declared.fails.CombinationFail.{CombinationFail}
use Rattle.pm_dd.specs.declared.fails.CombinationFail.TheVariants as combination
use Rattle.pm_dd.specs.declared.fails.StepFail.{StepFail}
use Rattle.pm_dd.specs.declared.fails.StepFail.TheVariants.{Product, Pair, Many, Memory}
use Rattle.pm_dd.proofs.Tables.{scan_is_right}
use Rattle.pm_geom.specs.Faces.{ray}
use Rattle.pm_geom.specs.RayEvidence.{IsWideCombination}
use lib.IntN.{pos}
use lib.Signed.{◌<ℤ◌}

-- what holds anyway holds where a combination is given up
pub combination_lost : (f : CombinationFail) (Q : Type 0) → Q → IfCombinationLost f Q
combination_lost combination.First Q h = h
combination_lost combination.Second Q h = h
combination_lost (combination.Column c) Q h = h
combination_lost combination.NoMemory Q h = tt

module _ (n : ℕ) (E J : List Row) (f : ℕ) (V : List Row) (table : Table) (t : IsRayTable n E J f V table.rows) (i j : ℕ) (li : i < length V) (lj : j < length V) (up : pos 0 <ℤ dot (row_at J f) (ray V i)) (down : dot (row_at J f) (ray V j) <ℤ pos 0) where
  wide_source : (c : ℕ) → IsTablePair table i j → IsWideCombination (row_at J f) (ray V i) (ray V j) c → IsWideSource J f V i j c
  wide_source c p w = record {
    source = (li, lj, up, down, (scan_is_right n E J f V table.rows t i j li lj p.both p.meet table refl).1 p.alone);
    combination = w;
  }

  lost_source : IsLostTablePair (row_at J f) V table i j → IsLostSource J f V
  lost_source h = record {
    first = i;
    second = j;
    source = (li, lj, up, down, (scan_is_right n E J f V table.rows t i j li lj h.pair.both h.pair.meet table refl).1 h.pair.alone);
    lost = h.lost;
  }

  pub pair_fail : (g : StepFail) → IsPairFailOf (row_at J f) V table i j g → IsStepFail n E J f V g
  pair_fail (Product k) (inl e, h) = (subst (λ (q : ℕ). q < length V) (sym e) li, h)
  pair_fail (Product k) (inr e, h) = (subst (λ (q : ℕ). q < length V) (sym e) lj, h)
  pair_fail (Pair k l c) h = subst (λ (q : ℕ). IsWideSource J f V q l c) (sym h.0) (subst (λ (q : ℕ). IsWideSource J f V i q c) (sym h.1) (wide_source c h.2 h.3))
  pair_fail (Many W) h = absurd h
  pair_fail Memory h = tt

  pub pair_lost : (g : StepFail) → IfStepLost g (IsLostTablePair (row_at J f) V table i j) → IfStepLost g (IsLostSource J f V)
  pair_lost (Product k) h = lost_source h
  pair_lost (Pair k l c) h = lost_source h
  pair_lost (Many W) h = tt
  pair_lost Memory h = tt

-- what is not given up for a number out of the range
pub never_lost : (g : StepFail) (Q : Type 0) → IfStepLost g ⊥ → IfStepLost g Q
never_lost (Product k) Q h = absurd h
never_lost (Pair i j c) Q h = absurd h
never_lost (Many W) Q h = tt
never_lost Memory Q h = tt

-- by wide numbers no product is refused
pub product_never_lost : (g : StepFail) (wide : Bool) (Q : Type 0) → wide ≡ true → IfProduct g (λ i. ¬ (IsTrue wide)) → IfStepLost g Q
product_never_lost (Product k) wide Q e h = absurd (h e)
product_never_lost (Pair i j c) wide Q e h = absurd h
product_never_lost (Many W) wide Q e h = absurd h
product_never_lost Memory wide Q e h = tt
