-- A cone with its two rays, and values that were computed from them: which objects are honest.
use Rattle.std.specs.Prelude.{ℕ, None, [], ◌∷◌}
use Rattle.pm_examples_values.specs.RunExamples.{columns, ray_count, rays}
use Rattle.pm_object.specs.Honest.{IsHonest, IsKept}
use Rattle.pm_object.specs.Laws.{computed}
use Rattle.pm_object.specs.State.{HeldValue, RoundSeen, State, empty_object, file_value, with_held, with_round}
use Rattle.pm_object.specs.declared.held.Origin.{Origin}
use Rattle.pm_object.specs.declared.held.Origin.TheVariants.{Given, Stored}
use Rattle.pm_object.specs.declared.held.RoundEnd.TheVariants.{Done}
use Rattle.pm_object_type.specs.declared.object_type.ObjectType.TheVariants.{Cone}
use Rattle.pm_types.specs.Values.{Fact}

-- the fact as a value that was given or stored
abbrev pub based_fact : Origin → Fact → HeldValue
based_fact origin f = file_value origin f.property f.value

-- a cone of two columns that was given by its rays
abbrev pub with_rays : State
with_rays = with_held (empty_object Cone) (based_fact Given columns ∷ based_fact Given rays ∷ [])

-- with that number of rays, computed
abbrev pub with_count : ℕ → State
with_count k = with_held with_rays (computed (ray_count k ∷ []))

-- a cone of two columns that holds no more, and then RAYS that were computed from nothing
abbrev pub rays_alone : State
rays_alone = with_held (empty_object Cone) (based_fact Given columns ∷ computed (rays ∷ []))

-- a round that was started for the object, with no rule
abbrev pub round : RoundSeen
round = record { sub = None; weight = record { class = 0; minor = 0 }; chain = []; end = Done }

-- what was given may be wrong, and what was stored; what was computed is right wherever these are. Before the first
-- round nothing was computed.
pub record ObjectsAreJudged : Type 0 where
  pub given : IsHonest with_rays
  pub stored : IsHonest (with_held with_rays (based_fact Stored (ray_count 3) ∷ []))
  pub counted : IsHonest (with_count 2)
  pub miscounted : ¬ (IsHonest (with_count 3))
  pub from_nothing : ¬ (IsHonest rays_alone)
  pub kept : IsKept with_rays
  pub kept_by_round : IsKept (with_round (with_count 2) round)
  pub no_round : ¬ (IsKept (with_count 2))
  pub not_honest : ¬ (IsKept (with_round (with_count 3) round))
