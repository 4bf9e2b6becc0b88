-- A kind's names are in the table of a type exactly where a test of every property says so.
use Rattle.pm_object_type.specs.declared.object_type.ObjectType.{ObjectType}
use Rattle.pm_props.proofs.Every.{all_pass, all_properties}
use Rattle.pm_props.specs.Kinds.{IsKindOf, is_in_or_unnamed, names_of}
use Rattle.pm_props.specs.Properties.{every_property, is_in_use}
use Rattle.pm_props.specs.Sets.{has}
use Rattle.pm_props.specs.declared.kind.Kind.{Kind}
use Rattle.std.proofs.Common.{false, refl, sym, true, true≢false}
use Rattle.std.specs.List.{list_all}
use Rattle.std.specs.Prelude.{Bool, IsTrue, Option, not, ℕ, ◌||◌, ◌↔◌, ◌≡◌}

named_in : (a b : Bool) → (not a || b) ≡ true → a ≡ true → b ≡ true
named_in true b h k = h
named_in false b h k = absurd (true≢false (sym k))

in_or_not : (a b : Bool) → (a ≡ true → b ≡ true) → (not a || b) ≡ true
in_or_not true b h = h refl
in_or_not false b h = refl

pub kind_of_tables : (sub : Option ℕ) (of : ObjectType) (kind : Kind) → IsTrue (list_all (is_in_or_unnamed sub of (names_of kind)) every_property) ↔ IsKindOf sub of kind
kind_of_tables sub of kind = (
  λ h p named. named_in (has (names_of kind) p) (is_in_use sub of p) (all_properties (is_in_or_unnamed sub of (names_of kind)) h p) named,
  λ h. all_pass (is_in_or_unnamed sub of (names_of kind)) (λ p. in_or_not (has (names_of kind) p) (is_in_use sub of p) (h p)),
)
