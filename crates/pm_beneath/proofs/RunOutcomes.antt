-- What refusals on the way show.
use Rattle.pm_vector.specs.Rows.{Row}
use Rattle.pm_vector.specs.Bases.{row_at}
use Rattle.pm_beneath.proofs.FrontLaws.{next_same, run_more}
use Rattle.pm_beneath.specs.CellLists.{AreNextCells}
use Rattle.pm_beneath.specs.Runs.{IsCrowdOf, IsRunFail, IsRunTo}
use Rattle.pm_beneath.specs.declared.run.RunFail.{RunFail}
use Rattle.pm_beneath.specs.declared.run.RunFail.TheVariants.{Crowd, Engine}
use Rattle.pm_dd.specs.Fronts.{HalfSpaces}
use Rattle.pm_dd.specs.Refusals.{IsMemory, IsShownOnRows}
use Rattle.pm_dd.specs.StepFails.{IfProduct, IsStepFail}
use Rattle.pm_dd.specs.declared.fails.DdFail.{DdFail}
use Rattle.pm_dd.specs.declared.fails.DdFail.TheVariants as dd
use Rattle.pm_dd.specs.declared.fails.StepFail.{StepFail}
use Rattle.pm_dd.specs.declared.fails.StepFail.TheVariants.{Many, Memory, Pair, Product}
use Rattle.pm_geom.specs.Cones.{IsOrder}
use Rattle.pm_geom.specs.Faces.{ray}
use Rattle.pm_vector.specs.Products.{ProductsStay}
use Rattle.std.specs.Prelude.{ℕ, ◌+◌, ◌<◌, List, length, map, take}
use Rattle.std.proofs.Common.{arith, subst, sym}
use Rattle.std.proofs.lemmas.List.{length-map}

-- a product that leaves the range is a refusal of the step
pub product_fail : (n : ℕ) (E J : List Row) (f : ℕ) (V : List Row) (fail : StepFail) → IfProduct fail (λ i. (i < length V) × ¬ (ProductsStay (row_at J f) (ray V i))) → IsStepFail n E J f V fail
product_fail n E J f V (Product k) h = h
product_fail n E J f V (Pair i j c) h = absurd h
product_fail n E J f V (Many W) h = absurd h
product_fail n E J f V Memory h = tt

memory_shown : (n : ℕ) (E J : List Row) (start : ℕ) (f : DdFail) → IsMemory f → IsShownOnRows n E J start f
memory_shown n E J start (dd.Wide e) h = absurd h
memory_shown n E J start (dd.Many e) h = absurd h
memory_shown n E J start dd.Memory h = λ X hX a. tt

-- too many cells of a front are a refusal of the run
pub crowd_fail : (n : ℕ) (E J : List Row) (start f : ℕ) (V : List Row) (T U : List (List ℕ)) (fail : RunFail) → f < length J → IsRunTo n E J start f T → IsOrder n (HalfSpaces E (take f J)) V → AreNextCells J V f T U → IsCrowdOf (f + 1) U fail → IsRunFail n E J start fail
crowd_fail n E J start f V T U (Engine d) l r o c h = memory_shown n E J start d h
crowd_fail n E J start f V T U (Crowd g cells) l r o c h =
    let made = next_same J V f T U (map (λ s. s.items) cells.items) h.1 c in
    subst (λ (k : ℕ). IsRunFail n E J start (Crowd k cells)) (sym h.0) record {
      run = run_more n E J start f V T (map (λ s. s.items) cells.items) r o made;
      within = omega arith;
      ordered = h.2;
      ascending = made.ascending;
      many = rw length-map h.3;
    }
