-- What is so of every file that is read, and of every file that is written of an object; and that an object and what
-- is loaded of its file are the same.
use Rattle.std.specs.Prelude.{◌≡◌, ◌⊎◌, ◌&&◌, ◌||◌, ◌++◌, ◌∷◌, ℕ, Bool, false, true, IsTrue, List, [], Option, None, Some, flat_map, if◌then◌else◌, length, map, nat_le, nat_lt}
use Rattle.std.specs.List.{All, Contains, list_all, list_any}
use Rattle.std.specs.Option.{is_none, is_some}
use Rattle.pm_vector.specs.Numbers.{Ratio}
use Rattle.pm_files.specs.Files.{Mark, SavedFile, file_bytes}
use Rattle.pm_filing.specs.Filing.{failure_of, is_own_found, loaded_object, marked, name_told, objective_value, unsettled_object}
use Rattle.pm_filing.specs.Profiles.{are_different, same_label}
use Rattle.pm_filing.specs.Views.{AllSuit}
use Rattle.pm_object.specs.Formed.{ArePrograms}
use Rattle.pm_object.specs.State.{HeldValue, State, have_as_many_sites, settling}
use Rattle.pm_object.specs.declared.held.Excluded.{Excluded}
use Rattle.pm_object.specs.declared.held.Origin.TheVariants as origin
use Rattle.pm_props.specs.Places.{same_property}
use Rattle.pm_props.specs.Properties.{has as has_property}
use Rattle.pm_props.specs.Sets.{has}
use Rattle.pm_object_type.specs.declared.object_type.ObjectType.{ObjectType}
use Rattle.pm_props.specs.declared.property.PropId.{PropId}
use Rattle.pm_props.specs.declared.property.PropId.TheVariants.{LinearObjective}
use Rattle.pm_rules.specs.Rules.{rule_at}
use Rattle.pm_rules.specs.Words.{is_label}
use Rattle.pm_rules.specs.declared.rule.Rule.{Rule}
use Rattle.pm_types.specs.Forms.{AreFractions}
use Rattle.pm_types.specs.Values.{PropertyValue}

-- ---- whole files
-- no two values are of one property
abbrev pub are_of_different : List (PropId × PropertyValue) → Bool
are_of_different values = are_different (λ v w. same_property v.0 w.0) values

-- all are of properties of the type's table
abbrev pub are_of_table : ObjectType → List (PropId × PropertyValue) → Bool
are_of_table of values = list_all (λ v. has_property of v.0) values

-- one of the values is of the property
abbrev pub is_of_one : List (PropId × PropertyValue) → PropId → Bool
is_of_one values p = list_any (λ v. same_property p v.0) values

-- a label of a rule book, and evidence of a number from 1 to 5
abbrev pub is_mark : Mark → Bool
is_mark m = is_label m.0 && (nat_le 1 m.1 && nat_le m.1 5)

-- marks, of different labels
pub record AreMarks (ms : List Mark) : Type 0 where
  pub marks : IsTrue (list_all is_mark ms)
  pub labels : IsTrue (are_different same_label ms)

-- the objective of a program, as a value of its property
abbrev pub objective_of : Option (List (List Ratio)) → List (PropId × PropertyValue)
objective_of None = []
objective_of (Some rows) = (LinearObjective, objective_value rows) ∷ []

-- the values of the object itself, and the objectives of its programs
abbrev pub all_values : SavedFile → List (PropId × PropertyValue)
all_values f = f.values ++ flat_map (λ p. objective_of p.objective) f.programs

-- values that were given: where one is of SITES and another of SITE_HEIGHTS, there are as many rows as heights
abbrev pub AgreeInSites : ℕ → List (PropId × PropertyValue) → Type 0
AgreeInSites stored values = (v w : PropId × PropertyValue) → Contains values v → Contains values w
    → has stored v.0 ≡ false → has stored w.0 ≡ false → IsTrue (have_as_many_sites v.0 v.1 w.0 w.1)

-- what a file holds of an object: its own values are of different properties of the type's table; they and the
-- objectives suit one column count and have fractions in lowest terms and in the range; given sites have as many
-- heights; what is stored is among its own values; the programs have names that programs may have; and the marks of
-- the object and of each program are such
pub record IsWhole (f : SavedFile) : Type 0 where
  pub table : IsTrue (are_of_table f.of f.values)
  pub once : IsTrue (are_of_different f.values)
  pub suit : AllSuit f.of (all_values f)
  pub entries : All (λ v. AreFractions v.1) (all_values f)
  pub sites : AgreeInSites f.stored f.values
  pub stored : (p : PropId) → IsTrue (has f.stored p) → IsTrue (is_of_one f.values p)
  pub marks : AreMarks f.failed
  pub programs : ArePrograms f.of (map name_told f.programs)
  pub marks_of_programs : All (λ p. AreMarks p.failed) f.programs

-- ---- the same file
-- g is f with its values in another order; it is written as the same bytes
pub record IsSameFile (f g : SavedFile) : Type 0 where
  pub of : g.of ≡ f.of
  pub values : (v : PropId × PropertyValue) → Contains f.values v → Contains g.values v
  pub no_others : (v : PropId × PropertyValue) → Contains g.values v → Contains f.values v
  pub stored : (p : PropId) → has g.stored p ≡ has f.stored p
  pub failed : g.failed ≡ f.failed
  pub programs : g.programs ≡ f.programs
  pub again : file_bytes g ≡ file_bytes f

-- ---- the same object
-- a file has the values of the object itself, and the objectives of its programs
abbrev pub is_kept : HeldValue → Bool
is_kept h = is_none h.place || same_property LinearObjective h.property

-- the value as a file has it: one of the object itself is stored where it was computed, and all else is given
abbrev pub held_again : HeldValue → HeldValue
held_again h = record h { origin = if is_own_found h then origin.Stored else origin.Given }

-- the object itself, or one of its k programs
abbrev pub is_place : ℕ → Option ℕ → Bool
is_place k None = true
is_place k (Some s) = nat_lt s k

-- a rule of the book that failed for the object itself or a program of it, with evidence of this number
pub record IsFailure (book : List Rule) (o : State) (e : Excluded) (k : ℕ) : Type 0 where
  pub excluded : Contains o.excluded e
  pub placed : IsTrue (is_place (length o.programs) e.sub)
  pub number : failure_of e.why ≡ Some k
  pub rule : IsTrue (is_some (rule_at book e.rule))

-- what is loaded of the file holds what a file has of the object, and else only what goes without saying of that; it
-- has the same programs; and the rules that failed are marked where they failed, and no others
pub record IsLoadedAgain (book : List Rule) (o : State) (f : SavedFile) : Type 0 where
  pub of : (loaded_object book f).of ≡ o.of
  pub programs : (loaded_object book f).programs ≡ o.programs
  pub held : (h : HeldValue) → Contains o.held h → IsTrue (is_kept h)
      → Contains (loaded_object book f).held (held_again h)
  pub others : (h : HeldValue) → Contains (loaded_object book f).held h
      → ((g : HeldValue) × Contains o.held g × IsTrue (is_kept g) × (h ≡ held_again g))
      ⊎ Contains (settling (unsettled_object book f)) h
  pub failed : (e : Excluded) (k : ℕ) → IsFailure book o e k
      → (j : ℕ) × Contains (loaded_object book f).excluded (marked e.sub j e.rule)
  pub no_others : (x : Excluded) → Contains (loaded_object book f).excluded x
      → (e : Excluded) × (k : ℕ) × IsFailure book o e k × (x ≡ marked e.sub k e.rule)
