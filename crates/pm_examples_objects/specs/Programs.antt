-- A polytope with the linear programs a and b: where their values stand, which are taken, and what seals a program.
use Rattle.std.specs.Prelude.{ℕ, ◌≡◌, true, false, None, Some, Option, List, [], ◌∷◌, codes}
use Rattle.pm_vector.specs.Numbers.{Ratio}
use Rattle.pm_object.specs.Formed.{ArePrograms, IsBacked, are_different, is_placed}
use Rattle.pm_object.specs.Laws.{computed_at}
use Rattle.pm_object.specs.State.{RoundSeen, State, empty_object, given_at, is_given_at, is_sealed_at, place_from, place_named, program_refusal, take_refusal, with_held, with_program, with_round}
use Rattle.pm_object.specs.declared.held.ProgramFail.TheVariants.{Full, NameTaken, NotPolytope}
use Rattle.pm_object.specs.declared.held.RoundEnd.TheVariants.{Done}
use Rattle.pm_object.specs.declared.held.TakeFail.TheVariants.{AlreadyHeld, Columns, NotOfType, Sealed}
use Rattle.pm_object_type.specs.declared.object_type.ObjectType.TheVariants.{Cone, Polytope}
use Rattle.pm_props.specs.declared.property.PropId.TheVariants.{ConeDim, Facets, LinearObjective, MaximalFace, MinimalFace, Vertices}
use Rattle.pm_types.specs.Values.{PropertyValue, counts, matrix, whole}
use Rattle.pm_types.specs.Views.{over_one}
use lib.IntN.{pos}

abbrev pub a : List ℕ
a = codes "a"

abbrev pub b : List ℕ
b = codes "b"

-- a polytope that holds nothing, with two programs
abbrev pub two_programs : State
two_programs = with_program (with_program (empty_object Polytope) a) b

abbrev pub four_programs : State
four_programs = with_program (with_program two_programs (codes "c")) (codes "d")

-- the objectives x1 and x1 + x2
abbrev pub one : PropertyValue
one = matrix 2 ((over_one (pos 0) ∷ over_one (pos 1) ∷ []) ∷ [])

abbrev pub sum_of_two : PropertyValue
sum_of_two = matrix 3 ((over_one (pos 0) ∷ over_one (pos 1) ∷ over_one (pos 1) ∷ []) ∷ [])

-- a round that was started for who asks this program, if one is asked
abbrev pub round : Option ℕ → RoundSeen
round sub = record { sub = sub; weight = record { class = 0; minor = 0 }; chain = []; end = Done }

pub record NamesHavePlaces : Type 0 where
  pub first : place_named a two_programs ≡ Some 0
  pub second : place_named b two_programs ≡ Some 1
  pub nowhere : place_named (codes "c") two_programs ≡ None
  pub first_of_two : place_from 0 a (a ∷ a ∷ []) ≡ Some 0

pub record ProgramsAreRefused : Type 0 where
  pub cone : program_refusal (empty_object Cone) a ≡ Some NotPolytope
  pub taken : program_refusal two_programs b ≡ Some NameTaken
  pub taken_first : program_refusal four_programs a ≡ Some NameTaken
  pub full : program_refusal four_programs (codes "e") ≡ Some Full
  pub third : program_refusal two_programs (codes "c") ≡ None

pub record NamesArePrograms : Type 0 where
  pub two : ArePrograms Polytope (a ∷ b ∷ [])
  pub none : ArePrograms Cone []
  pub no_cone : ¬ (ArePrograms Cone (a ∷ []))
  pub not_five : ¬ (ArePrograms Polytope (a ∷ b ∷ codes "c" ∷ codes "d" ∷ codes "e" ∷ []))
  pub not_twice : ¬ (ArePrograms Polytope (a ∷ b ∷ a ∷ []))
  pub no_word : ¬ (ArePrograms Polytope (codes "1" ∷ []))

-- values of programs stand in programs that there are, all others in the object itself
pub record ValuesArePlaced : Type 0 where
  pub own : is_placed 0 Facets None ≡ true
  pub own_in_program : is_placed 2 Facets (Some 1) ≡ false
  pub of_program : is_placed 2 LinearObjective (Some 1) ≡ true
  pub not_own : is_placed 2 LinearObjective None ≡ false
  pub no_third : is_placed 2 LinearObjective (Some 2) ≡ false
  -- a program's value speaks of the order of the rays where one of the object itself does
  pub backed : IsBacked MaximalFace (computed_at None Vertices (matrix 2 []) ∷ [])
  pub not_backed : ¬ (IsBacked MaximalFace (computed_at None Facets (matrix 2 []) ∷ []))
  pub not_by_programs : ¬ (IsBacked MaximalFace (computed_at (Some 0) MinimalFace (counts []) ∷ []))
  pub of_no_order : IsBacked LinearObjective []
  pub of_no_program : IsBacked Vertices []

pub record ObjectivesAreGiven : Type 0 where
  pub own : is_given_at Polytope None Facets ≡ true
  pub not_own : is_given_at Polytope None LinearObjective ≡ false
  pub objective : is_given_at Polytope (Some 1) LinearObjective ≡ true
  pub no_face : is_given_at Polytope (Some 1) MaximalFace ≡ false
  pub no_facets : is_given_at Polytope (Some 1) Facets ≡ false

-- a round for the object, or a computed value of its own, leaves a program open; a round for a program seals the
-- object
pub record ProgramsAreSealed : Type 0 where
  pub not_sealed : is_sealed_at (Some 0) two_programs ≡ false
  pub by_round : is_sealed_at (Some 0) (with_round two_programs (round (Some 0))) ≡ true
  pub other_round : is_sealed_at (Some 1) (with_round two_programs (round (Some 0))) ≡ false
  pub own_round : is_sealed_at (Some 0) (with_round two_programs (round None)) ≡ false
  pub object : is_sealed_at None (with_round two_programs (round (Some 0))) ≡ true
  pub object_not_sealed : is_sealed_at None two_programs ≡ false
  pub by_value
      : is_sealed_at (Some 0) (with_held two_programs (computed_at (Some 0) MaximalFace (counts []) ∷ []))
      ≡ true
  pub other_value : is_sealed_at (Some 1)
      (with_held two_programs (computed_at (Some 0) MaximalFace (counts []) ∷ [])) ≡ false
  pub own_value
      : is_sealed_at (Some 0) (with_held two_programs (computed_at (Some 0) ConeDim (whole (pos 1)) ∷ []))
      ≡ false
  pub given : is_sealed_at (Some 0) (with_held two_programs (given_at (Some 0) LinearObjective one ∷ []))
      ≡ false

-- the polytope with an objective of a
abbrev pub with_objective : State
with_objective = with_held two_programs (given_at (Some 0) LinearObjective one ∷ [])

pub record ObjectivesAreTaken : Type 0 where
  pub taken : take_refusal two_programs (Some 0) LinearObjective one ≡ None
  pub twice : take_refusal with_objective (Some 0) LinearObjective one ≡ Some AlreadyHeld
  pub other : take_refusal with_objective (Some 1) LinearObjective one ≡ None
  pub sealed : take_refusal (with_round two_programs (round (Some 0))) (Some 0) LinearObjective one
      ≡ Some Sealed
  pub own : take_refusal two_programs None LinearObjective one ≡ Some NotOfType
  pub columns : take_refusal with_objective (Some 1) LinearObjective sum_of_two ≡ Some Columns
