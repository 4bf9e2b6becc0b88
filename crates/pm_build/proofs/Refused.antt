-- Where nothing was refused, no condition failed.
use Rattle.pm_object.specs.declared.held.Condition.{Condition}
use Rattle.pm_object.specs.declared.held.Condition.TheVariants as condition
use Rattle.std.proofs.Common.{ap, false, refl, true, true≢false}
use Rattle.std.specs.Option.{is_some}
use Rattle.std.specs.Prelude.{Bool, None, Some, if◌then◌else◌, not, ◌≡◌}

pub refused : {c : Condition} → Some c ≡ None → ⊥
refused h = true≢false (ap is_some h)

pub conditions : (p b f c r : Bool) → (if not p then Some condition.OfType else if not b then Some condition.Bounded else if not f then Some condition.FullDim else if not c then Some condition.Centered else if not r then Some condition.Rows else None) ≡ None → (p ≡ true) × (f ≡ true) × (c ≡ true) × (r ≡ true)
conditions false b f c r h = absurd (refused h)
conditions true false f c r h = absurd (refused h)
conditions true true false c r h = absurd (refused h)
conditions true true true false r h = absurd (refused h)
conditions true true true true false h = absurd (refused h)
conditions true true true true true h = (refl, refl, refl, refl)
