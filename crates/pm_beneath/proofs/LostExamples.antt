-- The definitions of what is given up for a number out of the range read on cones of the plane and of the line.
use Rattle.pm_beneath.specs.LostExamples.{PlaceLossesAreRead}
use Rattle.pm_beneath.specs.Runs.{IfRunWide, IsCrowdOf}
use Rattle.pm_beneath.specs.declared.run.RunFail.{RunFail}
use Rattle.pm_beneath.specs.declared.run.RunFail.TheVariants.{Crowd, Engine}
use Rattle.pm_dd.proofs.LostExamples.{losses_are_read}
use Rattle.pm_dd.specs.declared.fails.DdFail.TheVariants.{Many, Memory, Wide}
use Rattle.std.specs.Prelude.{ℕ, List}

crowd : (front : ℕ) (T : List (List ℕ)) (f : RunFail) → IsCrowdOf front T f → IfRunWide f ⊥
crowd front T (Engine (Wide e)) h = h
crowd front T (Engine (Many e)) h = absurd h
crowd front T (Engine Memory) h = tt
crowd front T (Crowd f cells) h = tt

pub place_losses_are_read : PlaceLossesAreRead
place_losses_are_read = record {
  out_of_range = λ e h. h;
  too_many = λ e. tt;
  of_memory = tt;
  placed = λ e. losses_are_read.parts;
  not_placed = λ e. losses_are_read.no_parts;
  run = λ e. losses_are_read.description;
  not_run = λ e. losses_are_read.no_description;
  run_memory = tt;
  crowd = crowd;
}
