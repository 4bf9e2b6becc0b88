-- What a look at the properties of a set shows of their tags, and of linear programs.
use Rattle.pm_props.proofs.Looks.{Looked, looked_found, looked_none}
use Rattle.pm_props.specs.Properties.{every_property, has_program}
use Rattle.pm_props.specs.Sets.{has}
use Rattle.pm_props.specs.declared.property.PropId.{PropId}
use Rattle.pm_rules.specs.Steps.{some_has, some_program, tag_test}
use Rattle.pm_rules.specs.declared.step.Tag.{Tag}
use Rattle.std.proofs.Common.{false, refl, sym, true, ◌&&◌, ◌≡◌, ℕ}
use Rattle.std.specs.List.{list_any}

module _ (set rest : ℕ) where
  pub no_tag : (tag : Tag) → Looked (tag_test tag) set rest → ((p : PropId) → has rest p ≡ false) → false ≡ some_has tag set
  unfolding some_has
  no_tag tag l none = sym (looked_none (tag_test tag) set rest l none)

  pub a_tag : (tag : Tag) → Looked (tag_test tag) set rest → (p : PropId) → has rest p ≡ true → tag_test tag p ≡ true → true ≡ some_has tag set
  unfolding some_has
  a_tag tag l p h t = sym (looked_found (tag_test tag) set rest l p h t)

  pub no_program : Looked has_program set rest → ((p : PropId) → has rest p ≡ false) → false ≡ some_program set
  unfolding some_program
  no_program l none = sym (looked_none has_program set rest l none)

  pub a_program : Looked has_program set rest → (p : PropId) → has rest p ≡ true → has_program p ≡ true → true ≡ some_program set
  unfolding some_program
  a_program l p h t = sym (looked_found has_program set rest l p h t)

-- said of the list of all properties
pub program_list : (set : ℕ) → some_program set ≡ list_any (λ p. has set p && has_program p) every_property
unfolding some_program
program_list set = refl
