-- No sites, and no heights.
use Rattle.pm_types.specs.Things.{AreSitesWithHeights}
use Rattle.std.proofs.Common.{arith, refl}
use Rattle.std.specs.Prelude.{[], ℕ}

pub no_sites : (n : ℕ) → AreSitesWithHeights n [] []
no_sites n = record {
  each = record { cols = λ j l. absurd (omega arith); positive = λ j l. absurd (omega arith); denominators = λ j l. absurd (omega arith) };
  as_many = refl;
}
