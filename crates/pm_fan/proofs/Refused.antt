-- Where nothing was refused, no condition failed.
use Rattle.pm_object.specs.declared.held.Condition.{Condition}
use Rattle.pm_object.specs.declared.held.Condition.TheVariants as condition
use Rattle.std.proofs.Common.{ap, false, refl, true, true≢false}
use Rattle.std.specs.Option.{is_some}
use Rattle.std.specs.Prelude.{Bool, None, Some, if◌then◌else◌, not, ◌≡◌}

refused : {c : Condition} → Some c ≡ None → ⊥
refused h = true≢false (ap is_some h)

pub normal_parts : (p b f c m r : Bool) → (if not p then Some condition.OfType else if not b then Some condition.Bounded else if not f then Some condition.Feasible else if not c then Some condition.Columns else if not m then Some condition.Rows else if r then None else Some condition.Rows) ≡ None → (p ≡ true) × (c ≡ true) × (m ≡ true) × (r ≡ true)
normal_parts false b f c m r h = absurd (refused h)
normal_parts true false f c m r h = absurd (refused h)
normal_parts true true false c m r h = absurd (refused h)
normal_parts true true true false m r h = absurd (refused h)
normal_parts true true true true false r h = absurd (refused h)
normal_parts true true true true true false h = absurd (refused h)
normal_parts true true true true true true h = (refl, refl, refl, refl)

pub face_parts : (p b f c m r : Bool) → (if not p then Some condition.OfType else if not b then Some condition.Bounded else if not f then Some condition.Centered else if not c then Some condition.Columns else if not m then Some condition.Rows else if r then None else Some condition.Rows) ≡ None → (p ≡ true) × (c ≡ true) × (m ≡ true) × (r ≡ true)
face_parts false b f c m r h = absurd (refused h)
face_parts true false f c m r h = absurd (refused h)
face_parts true true false c m r h = absurd (refused h)
face_parts true true true false m r h = absurd (refused h)
face_parts true true true true false r h = absurd (refused h)
face_parts true true true true true false h = absurd (refused h)
face_parts true true true true true true h = (refl, refl, refl, refl)
