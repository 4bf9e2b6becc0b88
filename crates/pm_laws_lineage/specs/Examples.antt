-- Lineages read: what they denote, and what they do not; and how objects came in a short run.
use Rattle.std.specs.Prelude.{ℕ, ◌≡◌, ◌↔◌, ◌≤◌, ◌∷◌, [], List, None, Some, codes, false, suc, true}
use Rattle.pm_build.specs.Objects.{polar_of}
use Rattle.pm_command.specs.Commands.{RefSeen, build_object, copy_object, cross_shape, cube_shape, drop_object, make_object, new_object, take_value}
use Rattle.pm_command.specs.declared.building.Builder.TheVariants.{One}
use Rattle.pm_command.specs.declared.building.Unary.TheVariants.{Polar}
use Rattle.pm_laws_things.specs.BuildingExamples.{unit_segment}
use Rattle.pm_laws_lineage.specs.Provenances.{Provenances, StandsFor, is_savable, keeps_lineage, provenance_loaded, provenances_after, lineage_of, made, of_its_values, saved_if, saving}
use Rattle.pm_laws_lineage.specs.Lineages.{Denotes, Lineage, given, one, shape, with_objectives, with_value}
use Rattle.pm_laws_lineage.specs.Saved.{keeps_halves}
use Rattle.pm_limits.specs.Limits.{most_dimensions}
use Rattle.pm_machine.specs.Machines.{Machine}
use Rattle.pm_making.specs.Rows.{object_of}
use Rattle.pm_object.specs.State.{HeldValue, RoundSeen, State, empty_object, given_at, read_at, settled, value_of, with_held, with_round}
use Rattle.pm_object_type.specs.declared.object_type.ObjectType.{ObjectType}
use Rattle.pm_object_type.specs.declared.object_type.ObjectType.TheVariants.{Polytope}
use Rattle.pm_props.specs.Kinds.{finding}
use Rattle.pm_props.specs.declared.property.PropId.{PropId}
use Rattle.pm_props.specs.declared.property.PropId.TheVariants.{Bounded, ConeAmbientDim, Equations, Facets, Inequalities, InputLineality, LinealitySpace, LinearObjective, MaximalDual, MaximalValue, NVertices, Points, Sites, Vertices}
use Rattle.pm_rules.specs.declared.rule.Rule.{Rule}
use Rattle.pm_script.specs.Replies.{Rounds, done, nothing, refused}
use Rattle.pm_script.specs.declared.refusal.Refusal.TheVariants.{NoChain}
use Rattle.pm_geom.specs.Things.{Orders}
use Rattle.pm_laws_things.specs.Built.{IsCross}
use Rattle.pm_types.specs.Programs.{IsGreatest}
use Rattle.pm_types.specs.Right.{InSet, Right}
use Rattle.pm_types.specs.Things.{AreOrders, IsThing, Thing}
use Rattle.pm_types.specs.Values.{Extended, PropertyValue, extended, matrix, truth, whole}
use Rattle.pm_vector.specs.Numbers.{Ratio}
use lib.IntN.{pos}

-- the polars of the cube are the cross-polytopes
pub record PolarsOfCubesAreCrosses : Type 0 where
  pub same : (d : ℕ) → 1 ≤ d → d ≤ most_dimensions → (u : Thing)
      → Denotes (one Polar (shape (cube_shape d))) u ↔ Denotes (shape (cross_shape d)) u
  -- the segment from 0 to 1 is none
  pub other : ¬ (Denotes (one Polar (shape (cube_shape 1))) unit_segment)

-- what is given to a cube itself
pub record GivenValuesAreRead : Type 0 where
  -- the cubes that are bounded are the cubes, and none is not
  pub bounded : (d : ℕ) → 1 ≤ d → (u : Thing)
      → Denotes (with_value (shape (cube_shape d)) Bounded (truth true)) u ↔ Denotes (shape (cube_shape d)) u
  pub unbounded : (d : ℕ) → 1 ≤ d → (u : Thing)
      → ¬ (Denotes (with_value (shape (cube_shape d)) Bounded (truth false)) u)
  -- no other dimension is stated, and no other column count of a matrix without rows
  pub other_columns : (d n : ℕ) (u : Thing) → ¬ (n ≡ suc d)
      → ¬ (Denotes (with_value (shape (cube_shape d)) ConeAmbientDim (whole (pos n))) u)
  pub other_matrix : (u : Thing)
      → ¬ (Denotes (with_value (shape (cube_shape 1)) LinealitySpace (matrix 3 [])) u)
  -- of which properties a lineage knows
  pub numbers : keeps_lineage NVertices ≡ true
  pub sites : keeps_lineage Sites ≡ true
  pub vertices : keeps_lineage Vertices ≡ false
  pub facets : keeps_lineage Facets ≡ false
  pub points : keeps_lineage Points ≡ false
  pub equations : keeps_lineage Equations ≡ false

-- the lineage of d after `make c cube n`, `polar c d`: no objective was given
abbrev pub polar_of_cube : ℕ → Lineage
polar_of_cube n = with_objectives (one Polar (with_objectives (shape (cube_shape n)) [])) []

-- what d holds then, as VERTICES, is right for each cross-polytope in n dimensions, in some orders
abbrev pub PolarOfCubeIsShown : Type 0
PolarOfCubeIsShown = (n : ℕ) → 1 ≤ n → n ≤ most_dimensions → (o : State) (v : PropertyValue)
    → StandsFor (polar_of_cube n) o → value_of Vertices (read_at None o.held) ≡ Some v
    → (u : Thing) → IsThing u → IsCross n u → (q : Orders) × AreOrders u q × Right Vertices v u q []

-- the objective c, held by the program at the place s
abbrev pub held_objective : ℕ → ℕ → List Ratio → HeldValue
held_objective s n c = given_at (Some s) LinearObjective (matrix n (c ∷ []))

-- what the program lp of d holds as MAXIMAL_VALUE, whose objective was given, is the greatest value on each
-- cross-polytope in n dimensions; and where some greatest value is another one, it is none of this
pub record ProgramOfPolarIsShown : Type 0 where
  pub greatest : (n s : ℕ) → 1 ≤ n → n ≤ most_dimensions → (o : State) (c : List Ratio) (x : Extended)
      → StandsFor (with_objectives (one Polar (shape (cube_shape n))) (held_objective s (suc n) c ∷ [])) o
      → value_of MaximalValue (read_at (Some s) o.held) ≡ Some (extended x)
      → value_of LinearObjective (read_at (Some s) o.held) ≡ Some (matrix (suc n) (c ∷ []))
      → (u : Thing) → IsThing u → IsCross n u → u.objective s ≡ c → IsGreatest (InSet u) c x
  -- of a thing with another objective the lineage says nothing
  pub other : (n s : ℕ) (c : List Ratio) (u : Thing) → ¬ (u.objective s ≡ c)
      → ¬ (Denotes (with_objectives (one Polar (shape (cube_shape n))) (held_objective s (suc n) c ∷ [])) u)

-- the objects c and d, and the program lp of d
abbrev pub object_c : RefSeen
object_c = record { name = codes "c"; sub = None }

abbrev pub object_d : RefSeen
object_d = record { name = codes "d"; sub = None }

abbrev pub program_d : RefSeen
program_d = record { name = codes "d"; sub = Some (codes "lp") }

-- `make c cube 3`, `polar c d`, `copy d e`, `take d POINTS ..`, `drop c`
pub record ProvenancesAreRead : Type 0 where
  pub shape_made : (m : Machine) (k : Provenances) (t : Rounds)
      → provenances_after (make_object (codes "c") (cube_shape 3)) (done t) m k (codes "c")
      ≡ made (shape (cube_shape 3))
  -- of what another name stands for, nothing changes
  pub others : (m : Machine) (k : Provenances) (t : Rounds)
      → provenances_after (make_object (codes "c") (cube_shape 3)) (done t) m k (codes "d") ≡ k (codes "d")
  -- the polar of what c stands for then
  pub polar : (m : Machine) (k : Provenances) (t : Rounds) (o : State) → m.object (codes "c") ≡ Some o
      → provenances_after (build_object (One Polar) (codes "c" ∷ []) (codes "d")) (done t) m k (codes "d")
      ≡ made (one Polar (lineage_of (k (codes "c")) o))
  -- of what is refused nothing is made
  pub not_made : (m : Machine) (k : Provenances)
      → provenances_after (build_object (One Polar) (codes "c" ∷ []) (codes "d")) (refused NoChain nothing) m k ≡ k
  pub copied : (m : Machine) (k : Provenances) (t : Rounds)
      → provenances_after (copy_object (codes "d") (codes "e")) (done t) m k (codes "e") ≡ k (codes "d")
  -- a truth value that is given to d itself leaves d the polar, of which it is right
  pub told : (m : Machine) (k : Provenances) (t : Rounds) (json : List ℕ) (o : State) (l : Lineage)
      → m.object (codes "d") ≡ Some o → o.of ≡ Polytope → k (codes "d") ≡ made l
      → value_of Bounded (read_at None o.held) ≡ Some (truth true)
      → provenances_after (take_value object_d (codes "BOUNDED") json) (done t) m k (codes "d")
      ≡ made (with_value l Bounded (truth true))
  -- VERTICES and POINTS make d one of its values; what is given to a program of d does not
  pub ordered : (m : Machine) (k : Provenances) (t : Rounds) (json : List ℕ)
      → provenances_after (take_value object_d (codes "VERTICES") json) (done t) m k (codes "d") ≡ of_its_values
  pub taken : (m : Machine) (k : Provenances) (t : Rounds) (json : List ℕ)
      → provenances_after (take_value object_d (codes "POINTS") json) (done t) m k (codes "d") ≡ of_its_values
  pub objective : (m : Machine) (k : Provenances) (t : Rounds) (json : List ℕ)
      → provenances_after (take_value program_d (codes "LINEAR_OBJECTIVE") json) (done t) m k ≡ k
  -- d stays the polar of what c stood for where c is dropped, and where a new object has its name
  pub dropped : (m : Machine) (k : Provenances) (t : Rounds)
      → provenances_after (drop_object (codes "c")) (done t) m k ≡ k
  pub anew : (m : Machine) (k : Provenances) (t : Rounds)
      → provenances_after (new_object object_c (codes "Cone")) (done t) m k (codes "d") ≡ k (codes "d")
  -- and that new object stands for its own values
  pub new_itself : (m : Machine) (k : Provenances) (t : Rounds)
      → provenances_after (new_object object_c (codes "Cone")) (done t) m k (codes "c") ≡ of_its_values

-- an object that knows its dimension, and holds no more; one that holds INEQUALITIES too; and POINTS in 3 columns with
-- INEQUALITIES in 4
abbrev pub empty_of : ObjectType → State
empty_of of = with_held (empty_object of) (settled 3 ConeAmbientDim ∷ [])

abbrev pub half_of : ObjectType → State
half_of of = with_held (empty_of of) (given_at None Inequalities (matrix 3 []) ∷ [])

abbrev pub two_values : List HeldValue
two_values = given_at None Points (matrix 3 []) ∷ given_at None Inequalities (matrix 4 []) ∷ []

-- a matrix in 3 columns of a linear program
abbrev pub at_program : PropId → List HeldValue
at_program p = given_at (Some 0) p (matrix 3 []) ∷ []

-- what is loaded, and which kinds leave nothing unsaid
pub record FilesAreRead : Type 0 where
  -- of bytes that were saved, and of others
  pub known : (l : Lineage) → provenance_loaded ((codes "ab", l) ∷ []) (codes "ab") ≡ made l
  pub unknown : (l : Lineage) → provenance_loaded ((codes "ab", l) ∷ []) (codes "a") ≡ of_its_values
  -- the latest of the same bytes
  pub latest : (l k : Lineage) → provenance_loaded ((codes "ab", l) ∷ (codes "ab", k) ∷ []) (codes "ab")
      ≡ made l
  -- the lineage is not kept where the object is not savable
  pub said : (s : List ℕ × Lineage) → saved_if true s [] ≡ s ∷ []
  pub unsaid : (s : List ℕ × Lineage) → saved_if false s [] ≡ []
  -- what is kept of an object of given POINTS tells what goes without saying of it too
  pub filled_in : (book : List Rule) (of : ObjectType) → (saving book of_its_values (with_held (empty_object of)
      (given_at None Points (matrix 3 []) ∷ []))).1
      ≡ given of (given_at None Points (matrix 3 []) ∷ settled 3 ConeAmbientDim ∷ settled 3 InputLineality ∷ [])
  -- a polar of which nothing was asked is savable, and so is an object of which nothing goes without saying
  pub unasked : (o : State) → is_savable (object_of (polar_of o)) ≡ true
  pub empty : (of : ObjectType) (r : RoundSeen) → is_savable (with_round (empty_of of) r) ≡ true
  -- one for which a round was started, and that holds no EQUATIONS beside its INEQUALITIES, is not
  pub asked : (of : ObjectType) (r : RoundSeen) → is_savable (with_round (half_of of) r) ≡ false
  pub not_asked : (of : ObjectType) → is_savable (half_of of) ≡ true
  -- values of two column counts leave the count open, but not where the dimension is held
  pub two_counts : (of : ObjectType) → is_savable (with_held (empty_object of) two_values) ≡ false
  pub known_count : (of : ObjectType) → is_savable (with_held (empty_of of) two_values) ≡ true
  -- nor is a count known that only a value of a linear program states, which goes into no file; an objective does
  pub of_program : (of : ObjectType) → is_savable (with_held (empty_object of) (at_program MaximalDual)) ≡ false
  pub objective : (of : ObjectType) → is_savable (with_held (empty_object of) (at_program LinearObjective)) ≡ true
  -- a client that finds INEQUALITIES without EQUATIONS leaves that there are none to be filled in
  pub both_halves : keeps_halves (finding (codes "x") (Inequalities ∷ Equations ∷ []) (Points ∷ InputLineality ∷ []))
      ≡ true
  pub one_half : keeps_halves (finding (codes "x") (Inequalities ∷ []) (Points ∷ InputLineality ∷ [])) ≡ false
