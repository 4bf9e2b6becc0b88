-- What a client of a kind may read and answer, where an object holds facts. `sub` is the subobject that is asked, if
-- one is.
use Rattle.std.specs.Prelude.{ℕ, ◌≡◌, ◌&&◌, Bool, true, false, IsTrue, not, nat_eq, Option, None, List, [], ◌++◌, filter, map}
use Rattle.std.specs.List.{All, Contains, list_any}
use Rattle.pm_types.specs.Things.{Thing}
use Rattle.pm_geom.specs.Things.{Orders}
use Rattle.pm_object_type.specs.declared.object_type.ObjectType.{ObjectType}
use Rattle.pm_types.specs.Canonical.{IsCanonical}
use Rattle.pm_types.specs.Forms.{FormsIn}
use Rattle.pm_props.specs.Kinds.{IsFresh}
use Rattle.pm_props.specs.Places.{place_of, same_place, same_property}
use Rattle.pm_props.specs.Properties.{has_program, rays_tag, facets_tag, generators_tag, half_spaces_tag}
use Rattle.pm_types.specs.Right.{Right, RightAll}
use Rattle.pm_props.specs.Sets.{has, members}
use Rattle.pm_types.specs.Values.{Fact, PropertyValue, matrix, whole, truth}
use Rattle.pm_props.specs.declared.kind.Kind.{Kind}
use Rattle.pm_props.specs.declared.property.PropId.{PropId}
use Rattle.pm_props.specs.declared.property.PropId.TheVariants.{ConeAmbientDim}
use lib.IntN.{pos}

-- the fact stands where its property may stand
pub record IsPlaced (f : Fact) : Type 0 where
  pub alone : has_program f.property ≡ false → f.place ≡ None

abbrev pub stands_at : Option ℕ → PropId → Fact → Bool
stands_at sub p f = same_property p f.property && same_place f.place (place_of sub p)

-- the value v of p is held; seen from the subobject
abbrev pub Holds : List Fact → Option ℕ → PropId → PropertyValue → Type 0
Holds facts sub p v = Contains facts (record { place = place_of sub p; property = p; value = v })

-- some value of p is held
abbrev pub is_named : List Fact → Option ℕ → PropId → Bool
is_named facts sub p = list_any (stands_at sub p) facts

-- what the client may read: the values of its sources
abbrev pub shown : Kind → Option ℕ → List Fact → List Fact
shown kind sub facts =
    filter (λ f. has kind.sources f.property && same_place f.place (place_of sub f.property)) facts

-- what an answer has of properties that are not held
abbrev pub missing : Option ℕ → List Fact → List Fact → List Fact
missing sub held answer = filter (λ f. not (is_named held sub f.property)) answer

-- what the kind asks for is so of the thing
pub record Meets (kind : Kind) (t : Thing) (o : Orders) : Type 0 where
  pub must : (p : PropId) → IsTrue (has kind.must p) → Right p (truth true) t o []
  pub must_not : (p : PropId) → IsTrue (has kind.must_not p) → Right p (truth false) t o []

-- the orders p are the orders o, but where the kind is fresh in them
pub record Keeps (kind : Kind) (o p : Orders) : Type 0 where
  pub rays : ¬ (IsFresh rays_tag kind) → p.rays ≡ o.rays
  pub facets : ¬ (IsFresh facets_tag kind) → p.facets ≡ o.facets
  pub cones : ¬ (IsFresh facets_tag kind) → p.cones ≡ o.cones

pub record RightAnswer (kind : Kind) (read answer : List Fact) (t : Thing) (o : Orders) : Type 0 where
  pub orders : Orders
  pub right : RightAll (read ++ answer) t orders
  pub keeps : Keeps kind o orders

-- where it is a matrix without rows it states no column count
abbrev pub states_rows : PropertyValue → Bool
states_rows (matrix n []) = nat_eq n 0
states_rows v = true

-- the answer has exactly the targets, each in its form with n columns (none stated without rows) and canonical, and
-- is right wherever what was read is: for every thing of the type with n columns, and all orders, for which what was
-- read is right and the kind's conditions hold, there are orders, the same unless the kind is fresh in them, for
-- which both together are right
pub record MayAnswer (of : ObjectType) (n : ℕ) (kind : Kind) (sub : Option ℕ) (read answer : List Fact)
    : Type 0 where
  pub targets : map (λ f. f.property) answer ≡ members kind.targets
  pub places : All (λ f. f.place ≡ place_of sub f.property) answer
  pub formed : All (λ f. FormsIn of n f.property f.value) answer
  pub stated : All (λ f. IsTrue (states_rows f.value)) answer
  pub sound : (t : Thing) (o : Orders) → t.of ≡ of → t.cols ≡ n → RightAll read t o → Meets kind t o
      → RightAnswer kind read answer t o
  pub canonical : (t : Thing) (o : Orders) → t.of ≡ of → t.cols ≡ n → RightAll read t o → Meets kind t o
      → All (λ f. IsCanonical kind f.property f.value t) answer

pub record IsFree (tag : PropId → Bool) (kind : Kind) (held : List Fact) : Type 0 where
  pub none : IsFresh tag kind → (f : Fact) → Contains held f → tag f.property ≡ false

-- its sources are held, what it asks for is held so, n is held, and nothing that is held has a tag in which the kind
-- is fresh
pub record MayRun (kind : Kind) (sub : Option ℕ) (n : ℕ) (held : List Fact) : Type 0 where
  pub placed : (f : Fact) → Contains held f → IsPlaced f
  pub ambient : Holds held sub ConeAmbientDim (whole (pos n))
  pub sources : (p : PropId) → IsTrue (has kind.sources p) → IsTrue (is_named held sub p)
  pub must : (p : PropId) → IsTrue (has kind.must p) → Holds held sub p (truth true)
  pub must_not : (p : PropId) → IsTrue (has kind.must_not p) → Holds held sub p (truth false)
  pub rays : IsFree rays_tag kind held
  pub facets : IsFree facets_tag kind held
  pub generators : IsFree generators_tag kind held
  pub half_spaces : IsFree half_spaces_tag kind held

-- where the held facts are right, so are they with what a client may answer there, in orders that it may choose
abbrev pub RightAnswerIsKept : Type 0
RightAnswerIsKept = (of : ObjectType) (n : ℕ) (kind : Kind) (sub : Option ℕ) (held answer : List Fact)
    → MayRun kind sub n held → MayAnswer of n kind sub (shown kind sub held) answer →
    (t : Thing) (o : Orders) → t.of ≡ of → RightAll held t o
    → RightAnswer kind held (missing sub held answer) t o
