-- One bound does: the clients that lead from a description to the other one, and back to its own canonical rows, read
-- rows of the given description in what they eliminate.
use Rattle.std.specs.Prelude.{ℕ, ◌<◌, ◌≡◌, ◌≤◌, IsTrue, List, Option, Some}
use Rattle.std.specs.List.{All}
use Rattle.pm_client.specs.Fails.{IfOutOfRange}
use Rattle.pm_client.specs.declared.ClientFail.{ClientFail}
use Rattle.pm_client.specs.declared.ClientFail.TheVariants.{Memory}
use Rattle.pm_clients_geom.specs.Hulls.{HullFails}
use Rattle.pm_clients_geom.specs.Thinned.{ThinFails}
use Rattle.pm_clients_geom.specs.declared.hulls.HullWork.TheVariants as hull
use Rattle.pm_clients_geom.specs.declared.thinning.ThinWork.TheVariants as thin
use Rattle.pm_fraction.specs.FractionRows.{ArePrimitiveRowsOf}
use Rattle.pm_minors.specs.Laws.{IsEnough, MinorsAreAtMost}
use Rattle.pm_minors.specs.Minors.{IsAtMost}
use Rattle.pm_object.specs.Reading.{ViewSeen, view_for}
use Rattle.pm_object.specs.State.{HeldValue, State, is_held, read_at, value_of}
use Rattle.pm_props.specs.declared.property.PropId.{PropId}
use Rattle.pm_props.specs.declared.property.PropId.TheVariants.{AffineHull, Equations, Facets, Inequalities, InputLineality, LinealitySpace, Points, Vertices}
use Rattle.pm_rounds.specs.Events.{Configuration, Event, after_event}
use Rattle.pm_standard.specs.Table.{standard_kind}
use Rattle.pm_standard.specs.declared.standard.StandardClient.{StandardClient}
use Rattle.pm_standard.specs.declared.standard.StandardClient.TheVariants as client
use Rattle.pm_types.specs.Values.{matrix}
use Rattle.pm_vector.specs.Numbers.{Ratio}
use Rattle.pm_vector.specs.Rows.{HasCols, Row}
use Rattle.pm_laws_fitting.specs.Sizes.{IsSizeFor}

-- A are the primitive whole rows of the value that is held of the property, where this program is asked if
-- one is
pub record HasRows (sub : Option ℕ) (held : List HeldValue) (p : PropId) (A : List Row) : Type 0 where
  pub cols : ℕ
  pub rows : List (List Ratio)
  pub value : value_of p (read_at sub held) ≡ Some (matrix cols rows)
  pub primitive : ArePrimitiveRowsOf rows A

-- they have n entries, of at most M
pub record HasAtMost (sub : Option ℕ) (held : List HeldValue) (n M : ℕ) (p : PropId) : Type 0 where
  pub cols : (A : List Row) → HasRows sub held p A → HasCols n A
  pub size : (A : List Row) → HasRows sub held p A → All (IsAtMost M) A

-- the description by the rows of these two properties, of which the first are lines or equations, fits by its size
pub record DescriptionFits (first second : PropId) (sub : Option ℕ) (held : List HeldValue) (n : ℕ) : Type 0 where
  pub most : ℕ
  pub some : 0 < most
  pub firsts : HasAtMost sub held n most first
  pub seconds : HasAtMost sub held n most second
  pub lines : ℕ
  pub few : (L : List Row) → HasRows sub held first L → IsEnough lines n L
  pub basis : ℕ
  pub minors : MinorsAreAtMost most lines basis
  pub grows : most ≤ basis
  pub size : IsSizeFor n basis

-- how the client fails with its view of the object
abbrev pub Seen : (ViewSeen → ClientFail → Type 0) → StandardClient → Option ℕ → State → ℕ → ClientFail → Type 0
Seen Fails c sub o n f = Fails (view_for o sub (standard_kind c) n) f

-- where the description fits it fails for want of memory or for a count; for want of memory alone
abbrev pub ForCount : PropId → PropId → (ViewSeen → ClientFail → Type 0) → StandardClient → Type 0
ForCount first second Fails c = (sub : Option ℕ) (o : State) (n : ℕ) → DescriptionFits first second sub o.held n
    → (f : ClientFail) → Seen Fails c sub o n f → IfOutOfRange f ⊥

abbrev pub ForMemory : PropId → PropId → (ViewSeen → ClientFail → Type 0) → StandardClient → Type 0
ForMemory first second Fails c = (sub : Option ℕ) (o : State) (n : ℕ) → DescriptionFits first second sub o.held n
    → (f : ClientFail) → Seen Fails c sub o n f → f ≡ Memory

pub record OneBoundDoes : Type 0 where
  -- from points their facets, and then their vertices, by thinning
  pub points_facets : ForCount InputLineality Points (HullFails hull.DdFacetsWide) client.DdFacetsWide
  pub points_vertices : ForMemory InputLineality Points (ThinFails thin.ThinPointsFWide) client.ThinPointsFWide
  -- from inequalities their vertices, and then their facets, by thinning
  pub inequalities_vertices : ForCount Equations Inequalities (HullFails hull.DdVerticesWide) client.DdVerticesWide
  pub inequalities_facets
      : ForCount Equations Inequalities (ThinFails thin.ThinInequalitiesVWide) client.ThinInequalitiesVWide
  -- from vertices the facets, and from facets the vertices
  pub vertices_facets : ForCount LinealitySpace Vertices (HullFails hull.DdFacetsVWide) client.DdFacetsVWide
  pub facets_vertices : ForCount AffineHull Facets (HullFails hull.DdVerticesFWide) client.DdVerticesFWide

-- a description that fits is held
pub record HoldsFitting (first second : PropId) (sub : Option ℕ) (held : List HeldValue) (n : ℕ) : Type 0 where
  pub has_first : IsTrue (is_held first (read_at sub held))
  pub has_second : IsTrue (is_held second (read_at sub held))
  pub fits : DescriptionFits first second sub held n

-- it stays so after each event: what is held is never changed
abbrev pub EventsKeepFitting : Type 0
EventsKeepFitting = (first second : PropId) (sub : Option ℕ) (n : ℕ) (c : Configuration) (e : Event)
    → HoldsFitting first second sub c.object.held n → HoldsFitting first second sub (after_event sub e c).object.held n
