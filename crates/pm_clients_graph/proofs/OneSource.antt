-- Clients of one source: the set of it has it, and a view of a source that fans do not have is of no fan.
use Rattle.pm_client.proofs.ViewLaws.{has_listed, not_fan, source_named}
use Rattle.pm_object.specs.Reading.{IsView, ViewSeen}
use Rattle.pm_props.specs.Properties.{has_program, number, of_fans, row}
use Rattle.pm_props.specs.Sets.{has, set_of}
use Rattle.pm_object_type.specs.declared.object_type.ObjectType.TheVariants.{Fan}
use Rattle.pm_props.specs.declared.property.PropId.{PropId}
use Rattle.std.proofs.Common.{[], false, refl, true, ◌∙◌}
use Rattle.std.proofs.lemmas.Bool.{eq-eqb}
use Rattle.std.specs.Prelude.{ℕ, ◌∷◌, ◌≡◌}

pub has_alone : (s : ℕ) (p : PropId) → s ≡ set_of (p ∷ []) → has s p ≡ true
has_alone s p e = has_listed s (p ∷ []) p e ∙ (let same = eq-eqb (number p) (number p) refl in rw same refl)

pub no_fan_reads : (v : ViewSeen) (p : PropId) → IsView v → v.kind.sources ≡ set_of (p ∷ []) → of_fans (row p).tables ≡ false → has_program p ≡ false → ¬ (v.of ≡ Fan)
no_fan_reads v p view e absent alone = not_fan v p view (source_named v.kind p (has_alone v.kind.sources p e)) absent alone
