-- The examples of building, by what the definitions say.
use Rattle.pm_client.specs.Meanings.{unsaid}
use Rattle.pm_command.specs.Commands.{ShapeSeen, cube_shape}
use Rattle.pm_command.specs.declared.building.Binary.TheVariants.{Refine}
use Rattle.pm_command.specs.declared.building.Builder.{Builder}
use Rattle.pm_command.specs.declared.building.Builder.TheVariants.{Two}
use Rattle.pm_files.specs.Files.{SavedFile}
use Rattle.pm_machine.proofs.KeepingSteps.{some_not_none}
use Rattle.pm_machine.specs.Building.{BuildStep, DoesNotRead, EndsAt, EnsuresAll, EnsuresInPart, MakeStep, MayHaveBegun, ObjectsAre, Wanted, are_named, are_of, is_crowded, is_made, is_of_type, no_chain, no_such_name, not_fit, not_made, other_type, rounds_told, told_rounds, is_refused, no_new_name}
use Rattle.pm_making.specs.Rows.{Makes, Unfit, Unmade, object_of, row_of, same_type, shape_condition, shape_file}
use Rattle.pm_machine.specs.BuildingExamples.{ObjectsAreBuilt, OperandsAreRead, ShapesAreMade, WantedIsEnsured}
use Rattle.pm_machine.specs.Machines.{Gains, IsNewName, Machine, Stays, no_rounds, is_taken, no_room, shelf}
use Rattle.pm_rounds.specs.declared.round.Ending.TheVariants as ending
use Rattle.pm_object.specs.declared.held.Condition.{Condition}
use Rattle.pm_object.specs.declared.held.Condition.TheVariants as condition
use Rattle.pm_object.specs.State.{RoundSeen, State, empty_object}
use Rattle.pm_object_type.specs.declared.object_type.ObjectType.TheVariants.{Cone, Fan, Polytope}
use Rattle.pm_refine.specs.ObjectFans.{refine_refusal}
use Rattle.pm_rules.specs.declared.rule.Rule.{Rule}
use Rattle.pm_script.specs.Replies.{Remarks, Rounds, done, nothing, refused, undef}
use Rattle.pm_script.specs.declared.refusal.NotMadeWhy.{NotMadeWhy}
use Rattle.pm_script.specs.declared.refusal.Refusal.TheVariants.{Crowded, NoChain, NotFit, NotMade}
use Rattle.std.proofs.Common.{ap, arith, false, inl, inr, refl, sym, true, true≢false, ◌∙◌}
use Rattle.std.proofs.lemmas.Bool.{and_parts}
use Rattle.std.specs.Option.{is_some}
use Rattle.std.specs.Prelude.{List, None, Some, [], ℕ, ◌&&◌, ◌∷◌, ◌≡◌, ◌≢◌}
use Rattle.std.proofs.Math.Bool.{and-false}

-- what is so of a shape that is made
module _ (old new : Machine) (to : List ℕ) (shape : ShapeSeen) (t : Rounds) where
  shape_made : MakeStep old to shape (done t) new → IsNewName (shelf old) to × (shape_condition shape ≡ None) × (t ≡ no_rounds) × Gains to (object_of (shape_file shape)) old new
  shape_made (is_made free fits told g) = (free, fits, told, g)

unfit_shape : (old new : Machine) (to : List ℕ) (shape : ShapeSeen) (c : Condition) → MakeStep old to shape (refused (NotFit c) nothing) new → shape_condition shape ≡ Some c
unfit_shape old new to shape c (is_refused r s) = elim r [ not_fit free fails ↦ fails | no_new_name n ↦ elim n [ ] ]

pub shapes_are_made : ShapesAreMade
shapes_are_made = record {
  cube = refl;
  simplex = refl;
  cross = refl;
  cyclic = refl;
  last_cube = refl;
  no_cube = refl;
  no_simplex = refl;
  no_cross = refl;
  no_cyclic = refl;
  holds = refl;
  is_made = λ old new to t h. (shape_made old new to (cube_shape 1) t h).3.object;
  others_stay = λ old new to q shape t other h. (shape_made old new to shape t h).3.others q other;
  no_rounds = λ old new to shape t h. ap (λ (r : Rounds). r.rounds) (shape_made old new to shape t h).2;
  not_over = λ old new to shape t taken h. taken (shape_made old new to shape t h).0.0;
  not_full = λ old new to shape t count h. absurd (omega (arith, count, (shape_made old new to shape t h).0.1));
  not_so_large = λ old new to t h. some_not_none (shape_made old new to (cube_shape 33) t h).1;
  is_taken = λ old to shape taken s. is_refused (no_new_name (is_taken taken)) s;
  is_full = λ old to shape free count s. is_refused (no_new_name (no_room free (omega (arith, count)))) s;
  is_large = λ old to free s. is_refused (not_fit free refl) s;
  is_not_large = λ old new to h. some_not_none (sym (unfit_shape old new to (cube_shape 32) condition.Size h));
}

-- what no object has is not ensured
not_ensured : (book : List Rule) (old new : Machine) (w : Wanted) (rounds : List RoundSeen) → old.object w.name ≡ None → EnsuresAll unsaid book (w ∷ []) rounds old new → ⊥
not_ensured book old new w rounds none h = some_not_none (sym h.3.named ∙ none)

no_end : (book : List Rule) (old new : Machine) (w : Wanted) (rounds : List RoundSeen) → EndsAt unsaid book (w ∷ []) ending.Found rounds old new → ⊥
no_end book old new w rounds h = elim h [ inl e ↦ e.0 refl | inr m ↦ m.4 ]

nothing_of_it : (book : List Rule) (old new : Machine) (w : Wanted) → old.object w.name ≡ None → EnsuresInPart unsaid book (w ∷ []) old new → Stays old new
nothing_of_it book old new w none h = elim h [ inl s ↦ s | inr m ↦ elim m [ inl p ↦ absurd (some_not_none (sym p.named ∙ none)) | inr q ↦ absurd (some_not_none (sym q.2.named ∙ none)) ] ]

-- ---- operands
-- the object of the name is a cone, so it is no polytope
cone_is_none : (b : Builder) (old : Machine) (name : List ℕ) → (row_of b).of ≡ Polytope → old.object name ≡ Some (empty_object Cone) → is_of_type (row_of b).of (old.object name) ≡ false
cone_is_none b old name type is = ap (is_of_type (row_of b).of) is ∙ ap (λ z. same_type z Cone) type

one_is_none : (b : Builder) (old : Machine) (name : List ℕ) → is_of_type (row_of b).of (old.object name) ≡ false → are_of (row_of b).of (shelf old) (name ∷ []) ≡ true → ⊥
one_is_none b old name none all = true≢false (sym (and_parts (is_of_type (row_of b).of (old.object name)) true all).0 ∙ none)

second_is_none : (b : Builder) (old : Machine) (first second : List ℕ) → is_of_type (row_of b).of (old.object second) ≡ false → are_of (row_of b).of (shelf old) (first ∷ second ∷ []) ≡ true → ⊥
second_is_none b old first second none all = one_is_none b old second none (and_parts (is_of_type (row_of b).of (old.object first)) (are_of (row_of b).of (shelf old) (second ∷ [])) all).1

none_taken : (b : Builder) (old new : Machine) (names : List (List ℕ)) (to : List ℕ) → old.object to ≢ None → MayHaveBegun b names to old new → Stays old new
none_taken b old new names to taken (inl s) = s
none_taken b old new names to taken (inr h) = absurd (taken h.0.0)

none_begun : (b : Builder) (old new : Machine) (name to : List ℕ) → (row_of b).of ≡ Polytope → old.object name ≡ Some (empty_object Cone) → MayHaveBegun b (name ∷ []) to old new → Stays old new
none_begun b old new name to type is (inl s) = s
none_begun b old new name to type is (inr h) = absurd (one_is_none b old name (cone_is_none b old name type is) h.1)

pub wanted_is_ensured : WantedIsEnsured
wanted_is_ensured = record {
  in_order = refl;
  first_before = refl;
  of_one_alone = refl;
  for_polar = refl;
  for_pyramid = refl;
  for_normal_fan = refl;
  for_face_fan = refl;
  for_product = refl;
  for_minkowski = refl;
  for_refine = refl;
  nothing_wanted = λ book old new rounds h. h.1;
  without_rounds = λ book old new rounds h. h.0;
  of_no_object = not_ensured;
  nothing_ends = λ book old new e rounds h. h;
  found_is_no_end = no_end;
  not_begun = λ book old w ws s. inl s;
  none_for_a_taken_name = none_taken;
  none_for_a_cone = none_begun;
  in_part_of_no_object = nothing_of_it;
}

second_missing : (m : Machine) (first second : List ℕ) → m.object second ≡ None → are_named (shelf m) (first ∷ second ∷ []) ≡ false
second_missing m first second none = ap (λ z. is_some (m.object first) && (is_some z && true)) none ∙ and-false (is_some (m.object first))

second_cone : (m : Machine) (first second : List ℕ) → m.object second ≡ Some (empty_object Cone) → are_of Polytope (shelf m) (first ∷ second ∷ []) ≡ false
second_cone m first second is = ap (λ z. is_of_type Polytope (m.object first) && (is_of_type Polytope z && true)) is ∙ and-false (is_of_type Polytope (m.object first))

both_there : (m : Machine) (first second : List ℕ) (o p : State) → m.object first ≡ Some o → m.object second ≡ Some p → are_named (shelf m) (first ∷ second ∷ []) ≡ true
both_there m first second o p at at' = ap (λ z. is_some z && (is_some (m.object second) && true)) at ∙ ap (λ z. is_some z && true) at'

both_fans : (m : Machine) (first second : List ℕ) → m.object first ≡ Some (empty_object Fan) → m.object second ≡ Some (empty_object Fan) → are_of Fan (shelf m) (first ∷ second ∷ []) ≡ true
both_fans m first second at at' = ap (λ z. is_of_type Fan z && (is_of_type Fan (m.object second) && true)) at ∙ ap (λ z. is_of_type Fan z && true) at'

objects_in_order : (m : Machine) (first second : List ℕ) (o p : State) → m.object first ≡ Some o → m.object second ≡ Some p → ObjectsAre m (first ∷ second ∷ []) (o ∷ p ∷ [])
objects_in_order m first second o p at at' = ap (λ z. z ∷ m.object second ∷ []) at ∙ ap (λ z. Some o ∷ z ∷ []) at'

one_for_two : (m : Machine) (first second : List ℕ) (o : State) → ObjectsAre m (first ∷ second ∷ []) (o ∷ []) → ⊥
one_for_two m first second o h = cc

pub operands_are_read : OperandsAreRead
operands_are_read = record {
  polytope = refl;
  cone = refl;
  fan = refl;
  no_cone = refl;
  no_fan = refl;
  no_polytope = refl;
  cone_is_no_fan = refl;
  nothing_is_none = refl;
  both_are_there = both_there;
  second_is_missing = second_missing;
  both_are_fans = both_fans;
  second_is_a_cone = second_cone;
  in_order = objects_in_order;
  not_one_for_two = one_for_two;
  of_polar = refl;
  of_pyramid = refl;
  of_normal_fan = refl;
  of_face_fan = refl;
  of_product = refl;
  of_minkowski = refl;
  of_refine = refl;
}

-- ---- steps
module _ (book : List Rule) (b : Builder) (old : Machine) (names : List (List ℕ)) (to : List ℕ) where
  built : (new : Machine) (t : Rounds) → BuildStep unsaid book b old names to (done t) new → (os : List State) × (f : SavedFile) × Makes b os f × (new.object to ≡ Some (object_of f))
  built new t (is_made rounds os f reads made g is) = (os, f, made, g.object)

  told_so : (new : Machine) (t : Rounds) → BuildStep unsaid book b old names to (done t) new → (rounds : List RoundSeen) × (t ≡ told_rounds book rounds)
  told_so new t (is_made rounds os f reads made g is) = (rounds, is)

  typed_so : (new : Machine) (t : Rounds) → BuildStep unsaid book b old names to (done t) new → are_of (row_of b).of (shelf old) names ≡ true
  typed_so new t (is_made rounds os f reads made g is) = reads.types

  free_so : (new : Machine) (t : Rounds) → BuildStep unsaid book b old names to (done t) new → IsNewName (shelf old) to
  free_so new t (is_made rounds os f reads made g is) = reads.free

  unfit_so : (new : Machine) (more : Remarks) → BuildStep unsaid book b old names to (refused (NotFit condition.Centered) more) new → (os : List State) × ObjectsAre new names os × Unfit b os condition.Centered
  unfit_so new more (is_refused r s) = elim r [ no_new_name named n ↦ elim n [ ] ]
  unfit_so new more (not_fit rounds os reads apart fails is) = (os, reads.objects, fails)

  unmade_so : (new : Machine) (why : NotMadeWhy) (more : Remarks) → BuildStep unsaid book b old names to (refused (NotMade why) more) new → (os : List State) × ObjectsAre new names os × Unmade b os why
  unmade_so new why more (is_refused r s) = elim r [ no_new_name named n ↦ elim n [ ] ]
  unmade_so new why more (not_made rounds os reads shown is) = (os, reads.objects, shown)

  unmade_told : (new : Machine) (why : NotMadeWhy) (more : Remarks) → BuildStep unsaid book b old names to (refused (NotMade why) more) new → (rounds : List RoundSeen) × (more ≡ rounds_told book rounds)
  unmade_told new why more (is_refused r s) = elim r [ no_new_name named n ↦ elim n [ ] ]
  unmade_told new why more (not_made rounds os reads shown is) = (rounds, is)

  lacking : (new : Machine) (more : Remarks) → BuildStep unsaid book b old names to (refused NoChain more) new → DoesNotRead unsaid book b names to ending.NoChain more old new
  lacking new more (is_refused r s) = elim r [ no_new_name named n ↦ elim n [ ] ]
  lacking new more (no_chain d) = d

  crowding : (new : Machine) (more : Remarks) → BuildStep unsaid book b old names to (refused Crowded more) new → DoesNotRead unsaid book b names to ending.Crowded more old new
  crowding new more (is_refused r s) = elim r [ no_new_name named n ↦ elim n [ ] ]
  crowding new more (is_crowded d) = d

  none_else : (new : Machine) → BuildStep unsaid book b old names to undef new → ⊥
  none_else new h = elim h [ ]

one_cone : (book : List Rule) (b : Builder) (old : Machine) (name to : List ℕ) → (row_of b).of ≡ Polytope → old.object name ≡ Some (empty_object Cone) → IsNewName (shelf old) to → Stays old old → BuildStep unsaid book b old (name ∷ []) to (refused (NotFit condition.OfType) nothing) old
one_cone book b old name to type is free s = is_refused (other_type (ap (λ z. is_some z && true) is) free (ap (λ z. z && true) (cone_is_none b old name type is))) s

one_polytope : (book : List Rule) (b : Builder) (old new : Machine) (name to : List ℕ) → (row_of b).of ≡ Polytope → old.object name ≡ Some (empty_object Polytope) → BuildStep unsaid book b old (name ∷ []) to (refused (NotFit condition.OfType) nothing) new → ⊥
one_polytope book b old new name to type is (is_refused r s) = elim r [
  | other_type named free types ↦ true≢false (sym (ap (λ z. is_of_type (row_of b).of z && true) is ∙ ap (λ z. same_type z Polytope && true) type) ∙ types)
  | no_new_name named n ↦ elim n [ ]
]
one_polytope book b old new name to type is (not_fit rounds os reads apart fails told) = apart refl

columns_unfit : (a b : State) → Unfit (Two Refine) (a ∷ b ∷ []) condition.Columns → refine_refusal a b ≡ Some condition.Columns
columns_unfit a b (inl h) = h
columns_unfit a b (inr h) = absurd (columns_apart h.1)
  where
    columns_apart : condition.Columns ≡ condition.Rows → ⊥
    columns_apart e = cc

pub objects_are_built : ObjectsAreBuilt
objects_are_built = record {
  polar = λ o f h. h;
  pyramid = λ o f h. h;
  normal_fan = λ o f h. h;
  face_fan = λ o f h. h;
  product = λ a b f h. h;
  minkowski = λ a b f h. h;
  refine = λ a b f h. h;
  not_of_one = λ a f h. h;
  not_of_two = λ a b f h. h;
  polar_unfit = λ o c h. h;
  pyramid_unfit = λ o c h. h;
  normal_fan_unfit = λ o c h. h;
  face_fan_unfit = λ o c h. h;
  product_unfit = λ a b c h. h;
  minkowski_unfit = λ a b c h. h;
  refine_unfit = columns_unfit;
  large_refinement = λ a b fits large. inr (fits, refl, large);
  wide_sum = λ a b v w k h. h;
  sum_without_pair = λ a b i j e h. h;
  no_intersection = λ a b i j e h. h;
  refinement_without_rows = λ a b v w k h. h;
  product_is_made = λ a b why h. h;
  is_built = λ book b old new names to t h. built book b old names to new t h;
  rounds_are_told = λ book b old new names to t h. told_so book b old names to new t h;
  of_nothing = λ book b old new name to t none h. one_is_none b old name (ap (is_of_type (row_of b).of) none) (typed_so book b old (name ∷ []) to new t h);
  not_over = λ book b old new names to t taken h. taken (free_so book b old names to new t h).0;
  of_no_cone = λ book b old new name to t type is h. one_is_none b old name (cone_is_none b old name type is) (typed_so book b old (name ∷ []) to new t h);
  cone_is_refused = one_cone;
  polytope_is_not = one_polytope;
  unknown_first = λ book b old name to none s. is_refused (no_such_name (ap (λ z. is_some z && true) none)) s;
  taken_before_rounds = λ book b old new names to more taken h. taken (lacking book b old names to new more h).free.0;
  type_before_rounds = λ book b old new name to more type is h. one_is_none b old name (cone_is_none b old name type is) (crowding book b old (name ∷ []) to new more h).types;
  is_not_fit = λ book b old new names to more h. unfit_so book b old names to new more h;
  is_not_made = λ book b old new names to why more h. unmade_so book b old names to new why more h;
  not_made_tells = λ book b old new names to why more h. unmade_told book b old names to new why more h;
  no_chain_tells = λ book b old new names to more h. let d = lacking book b old names to new more h in (d.rounds, d.told);
  crowded_tells = λ book b old new names to more h. let d = crowding book b old names to new more h in (d.rounds, d.told);
  no_other = λ book b old new names to h. none_else book b old names to new h;
  without_second = λ book b old new first second to t none h. second_is_none b old first second (ap (is_of_type (row_of b).of) none) (typed_so book b old (first ∷ second ∷ []) to new t h);
  second_is_unknown = λ book b old first second to none s. is_refused (no_such_name (second_missing old first second none)) s;
  second_is_no_cone = λ book b old new first second to t type is h. second_is_none b old first second (cone_is_none b old second type is) (typed_so book b old (first ∷ second ∷ []) to new t h);
}
