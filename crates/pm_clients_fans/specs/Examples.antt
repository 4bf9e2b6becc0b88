-- What numbers and sets show, and which maximal cones of a view are lost by wide numbers.
use Rattle.pm_client.specs.Examples.{named}
use Rattle.pm_client.specs.Sound.{EliminatesRows, FailsRightly}
use Rattle.pm_client.specs.declared.ClientFail.TheVariants.{Failed}
use Rattle.pm_clients_fans.specs.Cones.{ReadsLostCone}
use Rattle.pm_clients_fans.specs.Numbers.{IsMost}
use Rattle.pm_clients_fans.specs.Works.{FanFails, FindsDims}
use Rattle.pm_clients_fans.specs.declared.client.FanWork.TheVariants as work
use Rattle.pm_elim.specs.LostExamples.{odd_next, odd_row}
use Rattle.pm_geom.specs.declared.evidence.Evidence.{Evidence}
use Rattle.pm_object.specs.Reading.{ViewSeen}
use Rattle.pm_object_type.specs.declared.object_type.ObjectType.TheVariants.{Fan}
use Rattle.pm_props.specs.declared.property.PropId.TheVariants.{LinealitySpace, MaximalCones, Vertices}
use Rattle.pm_relations.specs.Fans.{AreOne, AreSimplices}
use Rattle.pm_standard.specs.Table.{standard_kind}
use Rattle.pm_standard.specs.declared.standard.StandardClient.TheVariants as client
use Rattle.pm_types.specs.Values.{matrix, sets}
use Rattle.pm_types.specs.Views.{ratios}
use Rattle.std.specs.Prelude.{List, None, [], codes, map, ℕ, ◌∷◌}
use lib.IntN.{pos, negsuc}

pub record NumbersAreRead : Type 0 where
  -- the greatest, which is one of them
  pub most : IsMost (pos 1 ∷ pos 3 ∷ pos 2 ∷ []) (pos 3)
  pub not_first : ¬ (IsMost (pos 1 ∷ pos 3 ∷ pos 2 ∷ []) (pos 1))
  pub not_listed : ¬ (IsMost (pos 1 ∷ pos 3 ∷ pos 2 ∷ []) (pos 4))
  pub none : IsMost [] (negsuc 0)
  pub not_nought : ¬ (IsMost [] (pos 0))
  -- all are one, also where there is none
  pub one : AreOne (pos 2 ∷ pos 2 ∷ [])
  pub none_one : AreOne []
  pub not_one : ¬ (AreOne (pos 2 ∷ pos 2 ∷ pos 1 ∷ []))
  -- a number for each set: how many places it has, and l more
  pub simplices : AreSimplices (pos 1) ((0 ∷ 4 ∷ []) ∷ [] ∷ []) (pos 3 ∷ pos 1 ∷ [])
  pub no_simplex : ¬ (AreSimplices (pos 0) ((0 ∷ 4 ∷ []) ∷ []) (pos 3 ∷ []))
  pub set_left : ¬ (AreSimplices (pos 0) ([] ∷ []) [])
  pub number_left : ¬ (AreSimplices (pos 0) [] (pos 0 ∷ []))
  -- which clients find the dimensions of cones
  pub finds_dims : FindsDims (standard_kind client.FanDims)
  pub finds_dims_wide : FindsDims (standard_kind client.FanDimsWide)
  pub finds_no_dims : ¬ (FindsDims (standard_kind client.FanDim))

-- a view of a fan with 3 columns, whose RAYS are (2, 1, -1) and (1, 1, 2^126), whose LINEALITY_SPACE has no row, and
-- whose MAXIMAL_CONES are these
abbrev pub with_cones : List (List ℕ) → ViewSeen
with_cones cones = record {
  of = Fan;
  cols = 3;
  kind = named (codes "fan_dims_wide") 1 2;
  sub = None;
  facts = record { place = None; property = LinealitySpace; value = matrix 0 [] }
      ∷ record { place = None; property = Vertices; value = matrix 3 (map ratios (odd_row ∷ odd_next ∷ [])) }
      ∷ record { place = None; property = MaximalCones; value = sets cones 2 }
      ∷ [];
}

pub record LostMaximalConesAreRead : Type 0 where
  -- a cone with both rays is lost; not where no cone has both
  pub lost : ReadsLostCone (with_cones ((0 ∷ 1 ∷ []) ∷ []))
  pub not_lost : ¬ (ReadsLostCone (with_cones ((0 ∷ []) ∷ (1 ∷ []) ∷ [])))
  -- right evidence is how the wide client fails where a cone is lost, and not elsewhere
  pub fails : (e : Evidence) → FailsRightly (with_cones ((0 ∷ 1 ∷ []) ∷ [])) (Failed e) → EliminatesRows (Failed e)
      → FanFails work.FanDimsWide (with_cones ((0 ∷ 1 ∷ []) ∷ [])) (Failed e)
  pub not_fails : (e : Evidence)
      → ¬ (FanFails work.FanDimsWide (with_cones ((0 ∷ []) ∷ (1 ∷ []) ∷ [])) (Failed e))
