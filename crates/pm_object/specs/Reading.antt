-- What a client may read, and what it answers.
use Rattle.std.specs.Prelude.{ℕ, suc, ◌≡◌, IsTrue, Option, Some, None, List, [], ◌∷◌, ◌++◌, nat_le, if◌then◌else◌}
use Rattle.std.specs.List.{Contains}
use Rattle.pm_object_type.specs.declared.object_type.ObjectType.{ObjectType}
use Rattle.pm_object_type.specs.declared.object_type.ObjectType.TheVariants.{Polytope}
use Rattle.pm_props.specs.Places.{place_of, same_property}
use Rattle.pm_props.specs.Properties.{has_program}
use Rattle.pm_types.specs.Runs.{shown, is_named}
use Rattle.pm_types.specs.Forms.{FormsIn}
use Rattle.pm_props.specs.Kinds.{IsKindOf}
use Rattle.pm_props.specs.Sets.{has, members}
use Rattle.pm_types.specs.Values.{Fact, PropertyValue}
use Rattle.pm_props.specs.declared.kind.Kind.{Kind}
use Rattle.pm_props.specs.declared.property.PropId.{PropId}
use Rattle.pm_object.specs.Honest.{facts}
use Rattle.pm_object.specs.State.{State, cols_of, is_held, read_at}
use Rattle.pm_limits.specs.Limits.{most_columns}

-- the type and the column count of an object, the kind of a client, the program that is asked if one is, and the
-- values of the kind's sources
pub record ViewSeen : Type 0 where
  pub of : ObjectType
  pub cols : ℕ
  pub kind : Kind
  pub sub : Option ℕ
  pub facts : List Fact

-- the view of the object, of n columns, for a client of the kind, where this program is asked if one is
abbrev pub view_for : State → Option ℕ → Kind → ℕ → ViewSeen
view_for o sub kind n = record {
  of = o.of;
  cols = n;
  kind = kind;
  sub = sub;
  facts = shown kind sub (facts o.held);
}

-- what an object must hold to be viewed by a client of the kind
pub record IsViewed (o : State) (sub : Option ℕ) (kind : Kind) (n : ℕ) : Type 0 where
  pub cols : cols_of o.held ≡ Some n
  pub sources : (p : PropId) → IsTrue (has kind.sources p) → IsTrue (is_held p (read_at sub o.held))
  pub in_use : IsKindOf sub o.of kind

-- what is so of every view: n is from 1 to 33, all sources are there and nothing else, those of linear programs at
-- the program that is asked, which is a polytope's, the values have their forms, and all names of the kind are in use
pub record IsView (v : ViewSeen) : Type 0 where
  pub some_cols : IsTrue (nat_le 1 v.cols)
  pub few_cols : IsTrue (nat_le v.cols most_columns)
  pub sources : (p : PropId) → IsTrue (has v.kind.sources p) → IsTrue (is_named v.facts v.sub p)
  pub only : (f : Fact) → Contains v.facts f → IsTrue (has v.kind.sources f.property)
  pub placed : (f : Fact) → Contains v.facts f → f.place ≡ place_of v.sub f.property
  pub programs : (f : Fact) → Contains v.facts f → IsTrue (has_program f.property) → v.of ≡ Polytope
  pub forms : (f : Fact) → Contains v.facts f → FormsIn v.of v.cols f.property f.value
  pub in_use : IsKindOf v.sub v.of v.kind

-- the value of the first fact of the property
abbrev pub fact_of : PropId → List Fact → Option PropertyValue
fact_of p [] = None
fact_of p (f ∷ facts) = if same_property p f.property then Some f.value else fact_of p facts

-- ---- drafts
pub record Put : Type 0 where
  pub property : PropId
  pub value : PropertyValue

-- the kind that a draft is for, and the values that were put, in order
pub record DraftSeen : Type 0 where
  pub kind : Kind
  pub values : List Put

-- the value that was put for the property
abbrev pub drafted : PropId → List Put → Option PropertyValue
drafted p [] = None
drafted p (x ∷ values) = if same_property p x.property then Some x.value else drafted p values

-- the place of the first value of a property, counted from n
abbrev pub place_in : PropId → ℕ → List Put → Option ℕ
place_in p n [] = None
place_in p n (x ∷ values) = if same_property p x.property then Some n else place_in p (suc n) values

-- the values without the first of a property
abbrev pub without : PropId → List Put → List Put
without p [] = []
without p (x ∷ values) = if same_property p x.property then values else x ∷ without p values

abbrev pub fact_at : Option ℕ → PropId → Option PropertyValue → List Fact
fact_at sub p None = []
fact_at sub p (Some v) = record { place = place_of sub p; property = p; value = v } ∷ []

abbrev pub answer_at : Option ℕ → List PropId → List Put → List Fact
answer_at sub [] values = []
answer_at sub (p ∷ ps) values = fact_at sub p (drafted p values) ++ answer_at sub ps values

-- the values of the targets as facts, in the order of the properties' numbers
abbrev pub answer_of : Option ℕ → DraftSeen → List Fact
answer_of sub draft = answer_at sub (members draft.kind.targets) draft.values
