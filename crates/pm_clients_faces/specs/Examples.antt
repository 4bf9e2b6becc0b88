-- Numbers of faces of a segment, and of lists of too many ranks; a view with few faces, and one without sets.
use Rattle.pm_client.specs.declared.ClientFail.TheVariants.{Failed, Memory}
use Rattle.pm_clients_faces.specs.Faces.{FailsForMany, HasFewFaces}
use Rattle.pm_clients_faces.specs.Works.{FacesFail, FacesStay}
use Rattle.pm_clients_faces.specs.Numbers.{f2_table, f_numbers, has_few_ranks}
use Rattle.pm_clients_faces.specs.declared.client.FacesWork.TheVariants as work
use Rattle.pm_geom.specs.declared.evidence.Evidence.TheVariants.{E5Faces, E5Rows}
use Rattle.pm_object.specs.Reading.{ViewSeen}
use Rattle.pm_standard.specs.Table.{standard_kind}
use Rattle.pm_object_type.specs.declared.object_type.ObjectType.TheVariants.{Cone}
use Rattle.pm_props.specs.declared.property.PropId.TheVariants.{VerticesInFacets}
use Rattle.pm_standard.specs.declared.standard.StandardClient.TheVariants as client
use Rattle.pm_types.specs.Values.{Fact, sets}
use Rattle.pm_types.specs.Views.{over_one}
use Rattle.std.specs.Prelude.{ℕ, List, None, [], false, replicate, true, ◌∷◌, ◌≡◌, ◌+◌}
use lib.IntN.{pos}
use Rattle.pm_limits.specs.Limits.{most_columns}

-- the faces of a segment: none of its ends, each, and both
abbrev pub segment : List (List (List ℕ))
segment = ([] ∷ []) ∷ ((0 ∷ []) ∷ (1 ∷ []) ∷ []) ∷ ((0 ∷ 1 ∷ []) ∷ []) ∷ []

-- n ranks of one face each
abbrev pub ranks_of : ℕ → List (List (List ℕ))
ranks_of n = replicate n ([] ∷ [])

pub record NumbersAreRead : Type 0 where
  pub few : has_few_ranks (ranks_of (most_columns + 1)) ≡ true
  pub many : has_few_ranks (ranks_of 35) ≡ false
  -- a segment has two ends
  pub counts : f_numbers segment ≡ pos 2 ∷ []
  pub pairs : f2_table segment ≡ record { cols = 1; rows = (over_one (pos 2) ∷ []) ∷ [] }
  pub no_counts : f_numbers (ranks_of 35) ≡ []
  pub no_pairs : f2_table (ranks_of 35) ≡ record { cols = 0; rows = [] }

-- a view of a cone whose client `faces` reads these facts
abbrev pub view_with : List Fact → ViewSeen
view_with facts = record {
  of = Cone;
  cols = 1;
  kind = standard_kind client.Faces;
  sub = None;
  facts = facts;
}

-- no sets on no places: the one intersection has none
abbrev pub no_sets : ViewSeen
no_sets = view_with (record { place = None; property = VerticesInFacets; value = sets [] 0 } ∷ [])

abbrev pub nothing_read : ViewSeen
nothing_read = view_with []

pub record FewFacesAreRead : Type 0 where
  pub few : HasFewFaces no_sets
  pub not_read : ¬ (HasFewFaces nothing_read)
  pub answers : FacesStay work.Faces no_sets
  pub no_answer : ¬ (FacesStay work.Faces nothing_read)
  pub others_answer : FacesStay work.FVector nothing_read
  -- memory may be wanting to each; no evidence is that of too many faces here, nor of another kind
  pub memory : FailsForMany no_sets Memory
  pub not_many : ¬ (FailsForMany nothing_read (Failed (E5Faces [])))
  pub not_rows : ¬ (FailsForMany no_sets (Failed (E5Rows [])))
  pub faces_fail : FacesFail work.Faces no_sets Memory
  pub others_fail : FacesFail work.HVector no_sets Memory
  pub others_do_not : ¬ (FacesFail work.HVector no_sets (Failed (E5Faces [])))
