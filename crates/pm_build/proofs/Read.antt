-- The rows of both objects, as they are read.
use Rattle.pm_vector.specs.Numbers.{Ratio}
use Rattle.pm_build.specs.Objects.{both_rows, padded, spread}
use Rattle.pm_object.specs.Known.{cols_at, rows_at}
use Rattle.pm_object.specs.State.{State}
use Rattle.pm_props.specs.declared.property.PropId.{PropId}
use Rattle.std.proofs.Common.{refl}
use Rattle.std.specs.Prelude.{List, map, ℕ, ◌++◌, ◌-◌, ◌≡◌}

pub both_made : (p : PropId) (a b : State) (m n : ℕ) (A B : List (List Ratio)) → m ≡ cols_at a → n ≡ cols_at b → rows_at p a ≡ A → rows_at p b ≡ B → map (padded (n - 1)) A ++ map (spread (m - 1)) B ≡ both_rows p a b
both_made p a b m n A B e f g h = rw (e, f, ← g, ← h) refl
