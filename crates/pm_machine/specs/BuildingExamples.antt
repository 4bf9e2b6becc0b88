-- The commands that build objects read on small machines: what they make and when, what they tell, and what they do
-- not.
use Rattle.pm_client.specs.Meanings.{unsaid}
use Rattle.std.specs.Prelude.{ℕ, ◌≡◌, ◌≢◌, false, true, None, Some, List, [], ◌∷◌, codes, length}
use Rattle.pm_build.specs.Conditions.{polar_refusal, product_refusal, pyramid_refusal, sum_refusal}
use Rattle.pm_vector.specs.Rows.{Row}
use Rattle.pm_build.specs.Sums.{IsFirstWideSum, IsSumFile}
use Rattle.pm_geom.specs.declared.evidence.Evidence.{Evidence}
use Rattle.pm_refine.specs.ObjectFans.{refine_refusal}
use Rattle.pm_refine.specs.ObjectRefinements.{IsLarge, IsRefinementFile, IsShownByObjects}
use Rattle.pm_script.specs.declared.refusal.NotMadeWhy.{NotMadeWhy}
use Rattle.pm_script.specs.declared.refusal.NotMadeWhy.TheVariants.{Combination, Pair}
use Rattle.pm_build.specs.Objects.{cross_of, cube_of, cyclic_of, polar_of, product_of, pyramid_of, simplex_of}
use Rattle.pm_command.specs.Commands.{ShapeSeen, cross_shape, cube_shape, cyclic_shape, simplex_shape}
use Rattle.pm_command.specs.declared.building.Binary.TheVariants.{Minkowski, Product, Refine}
use Rattle.pm_command.specs.declared.building.Builder.{Builder}
use Rattle.pm_command.specs.declared.building.Builder.TheVariants.{One, Two}
use Rattle.pm_command.specs.declared.building.Unary.TheVariants.{FaceFan, NormalFan, Polar, Pyramid}
use Rattle.pm_files.specs.Files.{SavedFile}
use Rattle.pm_fan.specs.Conditions.{face_refusal, normal_refusal}
use Rattle.pm_fan.specs.Fans.{face_fan_of, fan_with, normal_fan_of}
use Rattle.pm_machine.specs.Building.{BuildStep, EndsAt, EnsuresAll, EnsuresInPart, MakeStep, MayHaveBegun, ObjectsAre, Wanted, are_named, are_of, is_of_type, rounds_told, told_rounds, wanted_all, wanted_of}
use Rattle.pm_making.specs.Rows.{Makes, Unfit, Unmade, object_of, row_of, same_type, shape_condition, shape_file}
use Rattle.pm_machine.specs.Machines.{IsNewName, Machine, Stays, shelf}
use Rattle.pm_rounds.specs.declared.round.Ending.{Ending}
use Rattle.pm_rounds.specs.declared.round.Ending.TheVariants as ending
use Rattle.pm_object.specs.State.{RoundSeen, State, empty_object}
use Rattle.pm_object.specs.declared.held.Condition.{Condition}
use Rattle.pm_object.specs.declared.held.Condition.TheVariants as condition
use Rattle.pm_object.specs.declared.held.Origin.TheVariants.{Given}
use Rattle.pm_object_type.specs.declared.object_type.ObjectType.TheVariants.{Cone, Fan, Polytope}
use Rattle.pm_props.specs.declared.property.PropId.{PropId}
use Rattle.pm_props.specs.declared.property.PropId.TheVariants.{AffineHull, Bounded, Centered, ConeAmbientDim, Facets, Feasible, FullDim, LinealitySpace, MaximalCones, Vertices, VerticesInFacets}
use Rattle.pm_rules.specs.declared.rule.Rule.{Rule}
use Rattle.pm_script.specs.Replies.{Remarks, Rounds, done, nothing, refused, undef}
use Rattle.pm_script.specs.declared.refusal.Refusal.TheVariants.{Crowded, NameTaken, NoChain, NotFit, NotMade, ObjectsFull, UnknownName}
use Rattle.pm_types.specs.Values.{whole}
use lib.IntN.{pos}

-- a property of the object of the name
abbrev pub wanted : List ℕ → PropId → Wanted
wanted name p = record { name = name; property = p }

-- `make`
pub record ShapesAreMade : Type 0 where
  -- each shape is that of its word
  pub cube : shape_file (cube_shape 2) ≡ cube_of 2
  pub simplex : shape_file (simplex_shape 2) ≡ simplex_of 2
  pub cross : shape_file (cross_shape 2) ≡ cross_of 2
  pub cyclic : shape_file (cyclic_shape 2 3) ≡ cyclic_of 2 3
  -- which sizes are none
  pub last_cube : shape_condition (cube_shape 32) ≡ None
  pub no_cube : shape_condition (cube_shape 33) ≡ Some condition.Size
  pub no_simplex : shape_condition (simplex_shape 33) ≡ Some condition.Size
  pub no_cross : shape_condition (cross_shape 33) ≡ Some condition.Size
  pub no_cyclic : shape_condition (cyclic_shape 3 3) ≡ Some condition.Size
  -- the new object holds the values, each of them given, and nothing else
  pub holds : object_of (fan_with ((ConeAmbientDim, whole (pos 2)) ∷ []))
      ≡ record (empty_object Fan) {
        held = record {
          place = None;
          property = ConeAmbientDim;
          value = whole (pos 2);
          origin = Given;
        } ∷ [];
      }
  -- it has the name, the others stay, and nothing is told
  pub is_made : (old new : Machine) (to : List ℕ) (t : Rounds) → MakeStep old to (cube_shape 1) (done t) new
      → new.object to ≡ Some (object_of (cube_of 1))
  pub others_stay : (old new : Machine) (to q : List ℕ) (shape : ShapeSeen) (t : Rounds) → q ≢ to
      → MakeStep old to shape (done t) new → new.object q ≡ old.object q
  pub no_rounds : (old new : Machine) (to : List ℕ) (shape : ShapeSeen) (t : Rounds)
      → MakeStep old to shape (done t) new → t.rounds ≡ []
  -- under no name that is held, beside no 32 others, and of no such size
  pub not_over : (old new : Machine) (to : List ℕ) (shape : ShapeSeen) (t : Rounds) → old.object to ≢ None
      → MakeStep old to shape (done t) new → ⊥
  pub not_full : (old new : Machine) (to : List ℕ) (shape : ShapeSeen) (t : Rounds) → length old.names ≡ 32
      → MakeStep old to shape (done t) new → ⊥
  pub not_so_large : (old new : Machine) (to : List ℕ) (t : Rounds)
      → MakeStep old to (cube_shape 33) (done t) new → ⊥
  pub is_taken : (old : Machine) (to : List ℕ) (shape : ShapeSeen) → old.object to ≢ None → Stays old old
      → MakeStep old to shape (refused NameTaken nothing) old
  pub is_full : (old : Machine) (to : List ℕ) (shape : ShapeSeen) → old.object to ≡ None
      → length old.names ≡ 32 → Stays old old → MakeStep old to shape (refused ObjectsFull nothing) old
  pub is_large : (old : Machine) (to : List ℕ) → IsNewName (shelf old) to → Stays old old
      → MakeStep old to (cube_shape 33) (refused (NotFit condition.Size) nothing) old
  pub is_not_large : (old new : Machine) (to : List ℕ)
      → MakeStep old to (cube_shape 32) (refused (NotFit condition.Size) nothing) new → ⊥

-- what is ensured before an object is built
pub record WantedIsEnsured : Type 0 where
  pub in_order : wanted_of (codes "a") (Facets ∷ AffineHull ∷ [])
      ≡ wanted (codes "a") Facets ∷ wanted (codes "a") AffineHull ∷ []
  -- of two the first object before the second
  pub first_before : wanted_all (Facets ∷ AffineHull ∷ []) (codes "a" ∷ codes "b" ∷ [])
      ≡ wanted (codes "a") Facets ∷ wanted (codes "a") AffineHull ∷ wanted (codes "b") Facets
      ∷ wanted (codes "b") AffineHull ∷ []
  pub of_one_alone : wanted_all (Facets ∷ []) (codes "a" ∷ []) ≡ wanted (codes "a") Facets ∷ []
  pub for_polar : (row_of (One Polar)).reads ≡ Bounded ∷ FullDim ∷ Centered ∷ Facets ∷ []
  pub for_pyramid : (row_of (One Pyramid)).reads ≡ Vertices ∷ LinealitySpace ∷ []
  pub for_normal_fan : (row_of (One NormalFan)).reads
      ≡ Bounded ∷ Feasible ∷ AffineHull ∷ VerticesInFacets ∷ Facets ∷ Vertices ∷ []
  pub for_face_fan : (row_of (One FaceFan)).reads ≡ Bounded ∷ Centered ∷ VerticesInFacets ∷ Vertices ∷ []
  pub for_product : (row_of (Two Product)).reads ≡ Facets ∷ AffineHull ∷ []
  pub for_minkowski : (row_of (Two Minkowski)).reads ≡ Feasible ∷ Vertices ∷ LinealitySpace ∷ []
  pub for_refine : (row_of (Two Refine)).reads ≡ Vertices ∷ LinealitySpace ∷ MaximalCones ∷ []
  -- nothing to ensure changes nothing, by no rounds
  pub nothing_wanted : (book : List Rule) (old new : Machine) (rounds : List RoundSeen)
      → EnsuresAll unsaid book [] rounds old new → Stays old new
  pub without_rounds : (book : List Rule) (old new : Machine) (rounds : List RoundSeen)
      → EnsuresAll unsaid book [] rounds old new → rounds ≡ []
  -- what is not there is not ensured
  pub of_no_object : (book : List Rule) (old new : Machine) (w : Wanted) (rounds : List RoundSeen)
      → old.object w.name ≡ None → EnsuresAll unsaid book (w ∷ []) rounds old new → ⊥
  -- where nothing is left, and where all is found, nothing ends
  pub nothing_ends : (book : List Rule) (old new : Machine) (e : Ending) (rounds : List RoundSeen)
      → EndsAt unsaid book [] e rounds old new → ⊥
  pub found_is_no_end : (book : List Rule) (old new : Machine) (w : Wanted) (rounds : List RoundSeen)
      → EndsAt unsaid book (w ∷ []) ending.Found rounds old new → ⊥
  -- in part: nothing at all, and nothing of no object
  pub not_begun : (book : List Rule) (old : Machine) (w : Wanted) (ws : List Wanted) → Stays old old
      → EnsuresInPart unsaid book (w ∷ ws) old old
  -- of a name that is taken, and for an object of another type, nothing begins
  pub none_for_a_taken_name : (b : Builder) (old new : Machine) (names : List (List ℕ)) (to : List ℕ)
      → old.object to ≢ None → MayHaveBegun b names to old new → Stays old new
  pub none_for_a_cone : (b : Builder) (old new : Machine) (name to : List ℕ) → (row_of b).of ≡ Polytope
      → old.object name ≡ Some (empty_object Cone) → MayHaveBegun b (name ∷ []) to old new → Stays old new
  pub in_part_of_no_object : (book : List Rule) (old new : Machine) (w : Wanted) → old.object w.name ≡ None
      → EnsuresInPart unsaid book (w ∷ []) old new → Stays old new

-- the objects that a command names
pub record OperandsAreRead : Type 0 where
  -- of which type they are
  pub polytope : same_type Polytope Polytope ≡ true
  pub cone : same_type Cone Cone ≡ true
  pub fan : same_type Fan Fan ≡ true
  pub no_cone : same_type Polytope Cone ≡ false
  pub no_fan : same_type Polytope Fan ≡ false
  pub no_polytope : same_type Fan Polytope ≡ false
  pub cone_is_no_fan : same_type Fan Cone ≡ false
  pub nothing_is_none : is_of_type Fan None ≡ false
  -- each of them counts
  pub both_are_there : (m : Machine) (first second : List ℕ) (o p : State) → m.object first ≡ Some o
      → m.object second ≡ Some p → are_named (shelf m) (first ∷ second ∷ []) ≡ true
  pub second_is_missing : (m : Machine) (first second : List ℕ) → m.object second ≡ None
      → are_named (shelf m) (first ∷ second ∷ []) ≡ false
  pub both_are_fans : (m : Machine) (first second : List ℕ) → m.object first ≡ Some (empty_object Fan)
      → m.object second ≡ Some (empty_object Fan) → are_of Fan (shelf m) (first ∷ second ∷ []) ≡ true
  pub second_is_a_cone : (m : Machine) (first second : List ℕ) → m.object second ≡ Some (empty_object Cone)
      → are_of Polytope (shelf m) (first ∷ second ∷ []) ≡ false
  -- they stand in the order of their names
  pub in_order : (m : Machine) (first second : List ℕ) (o p : State) → m.object first ≡ Some o
      → m.object second ≡ Some p → ObjectsAre m (first ∷ second ∷ []) (o ∷ p ∷ [])
  pub not_one_for_two : (m : Machine) (first second : List ℕ) (o : State)
      → ObjectsAre m (first ∷ second ∷ []) (o ∷ []) → ⊥
  -- of which type those of each command are
  pub of_polar : (row_of (One Polar)).of ≡ Polytope
  pub of_pyramid : (row_of (One Pyramid)).of ≡ Polytope
  pub of_normal_fan : (row_of (One NormalFan)).of ≡ Polytope
  pub of_face_fan : (row_of (One FaceFan)).of ≡ Polytope
  pub of_product : (row_of (Two Product)).of ≡ Polytope
  pub of_minkowski : (row_of (Two Minkowski)).of ≡ Polytope
  pub of_refine : (row_of (Two Refine)).of ≡ Fan

-- objects that are built of one, and of two
pub record ObjectsAreBuilt : Type 0 where
  -- each command has its values, where no condition fails
  pub polar : (o : State) (f : SavedFile) → Makes (One Polar) (o ∷ []) f
      → (polar_refusal o ≡ None) × (f ≡ polar_of o)
  pub pyramid : (o : State) (f : SavedFile) → Makes (One Pyramid) (o ∷ []) f
      → (pyramid_refusal o ≡ None) × (f ≡ pyramid_of o)
  pub normal_fan : (o : State) (f : SavedFile) → Makes (One NormalFan) (o ∷ []) f
      → (normal_refusal o ≡ None) × (f ≡ normal_fan_of o)
  pub face_fan : (o : State) (f : SavedFile) → Makes (One FaceFan) (o ∷ []) f
      → (face_refusal o ≡ None) × (f ≡ face_fan_of o)
  pub product : (a b : State) (f : SavedFile) → Makes (Two Product) (a ∷ b ∷ []) f
      → (product_refusal a b ≡ None) × (f ≡ product_of a b)
  pub minkowski : (a b : State) (f : SavedFile) → Makes (Two Minkowski) (a ∷ b ∷ []) f
      → (sum_refusal a b ≡ None) × IsSumFile a b f
  pub refine : (a b : State) (f : SavedFile) → Makes (Two Refine) (a ∷ b ∷ []) f
      → (refine_refusal a b ≡ None) × IsRefinementFile a b f
  -- of as many objects as it names
  pub not_of_one : (a : State) (f : SavedFile) → Makes (Two Product) (a ∷ []) f → ⊥
  pub not_of_two : (a b : State) (f : SavedFile) → Makes (One Polar) (a ∷ b ∷ []) f → ⊥
  -- and the first of its conditions
  pub polar_unfit : (o : State) (c : Condition) → Unfit (One Polar) (o ∷ []) c → polar_refusal o ≡ Some c
  pub pyramid_unfit : (o : State) (c : Condition) → Unfit (One Pyramid) (o ∷ []) c
      → pyramid_refusal o ≡ Some c
  pub normal_fan_unfit : (o : State) (c : Condition) → Unfit (One NormalFan) (o ∷ []) c
      → normal_refusal o ≡ Some c
  pub face_fan_unfit : (o : State) (c : Condition) → Unfit (One FaceFan) (o ∷ []) c → face_refusal o ≡ Some c
  pub product_unfit : (a b : State) (c : Condition) → Unfit (Two Product) (a ∷ b ∷ []) c
      → product_refusal a b ≡ Some c
  pub minkowski_unfit : (a b : State) (c : Condition) → Unfit (Two Minkowski) (a ∷ b ∷ []) c
      → sum_refusal a b ≡ Some c
  pub refine_unfit : (a b : State) → Unfit (Two Refine) (a ∷ b ∷ []) condition.Columns
      → refine_refusal a b ≡ Some condition.Columns
  pub large_refinement : (a b : State) → refine_refusal a b ≡ None → IsLarge a b
      → Unfit (Two Refine) (a ∷ b ∷ []) condition.Rows
  -- where none fails, but nothing is made: a sum for two rows and a column, a refinement for a pair of cones, no
  -- other for anything
  pub wide_sum : (a b : State) (v w : Row) (k : ℕ) → Unmade (Two Minkowski) (a ∷ b ∷ []) (Combination v w k)
      → (sum_refusal a b ≡ None) × IsFirstWideSum a b v w k
  pub sum_without_pair : (a b : State) (i j : ℕ) (e : Evidence)
      → Unmade (Two Minkowski) (a ∷ b ∷ []) (Pair i j e) → ⊥
  pub no_intersection : (a b : State) (i j : ℕ) (e : Evidence)
      → Unmade (Two Refine) (a ∷ b ∷ []) (Pair i j e)
      → (refine_refusal a b ≡ None) × IsShownByObjects a b i j e
  pub refinement_without_rows : (a b : State) (v w : Row) (k : ℕ)
      → Unmade (Two Refine) (a ∷ b ∷ []) (Combination v w k) → ⊥
  pub product_is_made : (a b : State) (why : NotMadeWhy) → Unmade (Two Product) (a ∷ b ∷ []) why → ⊥
  -- the new object is that of what was read, and the rounds behind it are told
  pub is_built : (book : List Rule) (b : Builder) (old new : Machine) (names : List (List ℕ)) (to : List ℕ)
      (t : Rounds) → BuildStep unsaid book b old names to (done t) new
      → (os : List State) × (f : SavedFile) × Makes b os f × (new.object to ≡ Some (object_of f))
  pub rounds_are_told : (book : List Rule) (b : Builder) (old new : Machine) (names : List (List ℕ))
      (to : List ℕ) (t : Rounds) → BuildStep unsaid book b old names to (done t) new
      → (rounds : List RoundSeen) × (t ≡ told_rounds book rounds)
  -- of no object, under no name that is held, and of no cone
  pub of_nothing : (book : List Rule) (b : Builder) (old new : Machine) (name to : List ℕ) (t : Rounds)
      → old.object name ≡ None → BuildStep unsaid book b old (name ∷ []) to (done t) new → ⊥
  pub not_over : (book : List Rule) (b : Builder) (old new : Machine) (names : List (List ℕ)) (to : List ℕ)
      (t : Rounds) → old.object to ≢ None → BuildStep unsaid book b old names to (done t) new → ⊥
  pub of_no_cone : (book : List Rule) (b : Builder) (old new : Machine) (name to : List ℕ) (t : Rounds)
      → (row_of b).of ≡ Polytope → old.object name ≡ Some (empty_object Cone)
      → BuildStep unsaid book b old (name ∷ []) to (done t) new → ⊥
  pub cone_is_refused : (book : List Rule) (b : Builder) (old : Machine) (name to : List ℕ)
      → (row_of b).of ≡ Polytope → old.object name ≡ Some (empty_object Cone) → IsNewName (shelf old) to
      → Stays old old
      → BuildStep unsaid book b old (name ∷ []) to (refused (NotFit condition.OfType) nothing) old
  pub polytope_is_not : (book : List Rule) (b : Builder) (old new : Machine) (name to : List ℕ)
      → (row_of b).of ≡ Polytope → old.object name ≡ Some (empty_object Polytope)
      → BuildStep unsaid book b old (name ∷ []) to (refused (NotFit condition.OfType) nothing) new → ⊥
  pub unknown_first : (book : List Rule) (b : Builder) (old : Machine) (name to : List ℕ)
      → old.object name ≡ None → Stays old old
      → BuildStep unsaid book b old (name ∷ []) to (refused UnknownName nothing) old
  -- the name is looked at before a round
  pub taken_before_rounds : (book : List Rule) (b : Builder) (old new : Machine) (names : List (List ℕ))
      (to : List ℕ) (more : Remarks) → old.object to ≢ None
      → BuildStep unsaid book b old names to (refused NoChain more) new → ⊥
  pub type_before_rounds : (book : List Rule) (b : Builder) (old new : Machine) (name to : List ℕ)
      (more : Remarks) → (row_of b).of ≡ Polytope → old.object name ≡ Some (empty_object Cone)
      → BuildStep unsaid book b old (name ∷ []) to (refused Crowded more) new → ⊥
  -- a condition that is named failed of what was read, which stays
  pub is_not_fit : (book : List Rule) (b : Builder) (old new : Machine) (names : List (List ℕ)) (to : List ℕ)
      (more : Remarks) → BuildStep unsaid book b old names to (refused (NotFit condition.Centered) more) new
      → (os : List State) × ObjectsAre new names os × Unfit b os condition.Centered
  pub is_not_made : (book : List Rule) (b : Builder) (old new : Machine) (names : List (List ℕ))
      (to : List ℕ) (why : NotMadeWhy) (more : Remarks)
      → BuildStep unsaid book b old names to (refused (NotMade why) more) new
      → (os : List State) × ObjectsAre new names os × Unmade b os why
  pub not_made_tells : (book : List Rule) (b : Builder) (old new : Machine) (names : List (List ℕ))
      (to : List ℕ) (why : NotMadeWhy) (more : Remarks)
      → BuildStep unsaid book b old names to (refused (NotMade why) more) new
      → (rounds : List RoundSeen) × (more ≡ rounds_told book rounds)
  pub no_chain_tells : (book : List Rule) (b : Builder) (old new : Machine) (names : List (List ℕ))
      (to : List ℕ) (more : Remarks) → BuildStep unsaid book b old names to (refused NoChain more) new
      → (rounds : List RoundSeen) × (more ≡ rounds_told book rounds)
  pub crowded_tells : (book : List Rule) (b : Builder) (old new : Machine) (names : List (List ℕ))
      (to : List ℕ) (more : Remarks) → BuildStep unsaid book b old names to (refused Crowded more) new
      → (rounds : List RoundSeen) × (more ≡ rounds_told book rounds)
  pub no_other : (book : List Rule) (b : Builder) (old new : Machine) (names : List (List ℕ)) (to : List ℕ)
      → BuildStep unsaid book b old names to undef new → ⊥
  -- of two: none where the second is not there or is a cone
  pub without_second : (book : List Rule) (b : Builder) (old new : Machine) (first second to : List ℕ)
      (t : Rounds) → old.object second ≡ None → BuildStep unsaid book b old (first ∷ second ∷ []) to (done t) new
      → ⊥
  pub second_is_unknown : (book : List Rule) (b : Builder) (old : Machine) (first second to : List ℕ)
      → old.object second ≡ None → Stays old old
      → BuildStep unsaid book b old (first ∷ second ∷ []) to (refused UnknownName nothing) old
  pub second_is_no_cone : (book : List Rule) (b : Builder) (old new : Machine) (first second to : List ℕ)
      (t : Rounds) → (row_of b).of ≡ Polytope → old.object second ≡ Some (empty_object Cone)
      → BuildStep unsaid book b old (first ∷ second ∷ []) to (done t) new → ⊥
