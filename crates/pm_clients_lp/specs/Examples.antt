-- How the clients of the family fail; the rows of duals read on a segment: what holds of them, and what does not.
use Rattle.pm_vector.specs.Numbers.{Ratio}
use Rattle.pm_vector.specs.Rows.{Row}
use Rattle.pm_client.specs.Examples.{without_rows}
use Rattle.pm_client.specs.Sound.{IsWideDual}
use Rattle.pm_client.specs.declared.ClientFail.TheVariants.{Failed, Memory}
use Rattle.pm_clients_lp.specs.Clients.{LinearFails}
use Rattle.pm_clients_lp.specs.Programs.{AreMultiples, AreWeighted, IsDualMatrix, weighted}
use Rattle.pm_clients_lp.specs.Reading.{is_of_rows}
use Rattle.pm_clients_lp.specs.declared.family.LpWork.TheVariants as work
use Rattle.pm_geom.specs.ProgramExamples.{ratio, row, segment, wholes}
use Rattle.pm_geom.specs.declared.evidence.Evidence.TheVariants.{E3, E4, E5Rows}
use Rattle.pm_geom.specs.declared.evidence.Evidence.{Evidence}
use Rattle.pm_object.specs.Reading.{ViewSeen}
use Rattle.pm_props.specs.declared.property.PropId.TheVariants.{MaximalValue, Vertices}
use Rattle.pm_simplex.specs.OptimumEvidence.{IsMultipleRow, ShowsWideWeight}
use Rattle.pm_simplex.specs.declared.sense.Sense.TheVariants.{Maximal, Minimal}
use Rattle.std.specs.Prelude.{[], codes, false, true, ◌∷◌, ◌≡◌, ◌^◌}
use lib.IntN.{negsuc, pos}

-- a view of the client lp_max without rows
abbrev pub view : ViewSeen
view = without_rows (codes "lp_max")

pub record FailsAreRead : Type 0 where
  -- memory may be wanting to each
  pub memory : LinearFails (work.OverFacets Minimal) view Memory
  pub memory_for_rays : LinearFails (work.AtRays Maximal) view Memory
  pub memory_for_wide_rays : LinearFails (work.AtRaysWide Minimal) view Memory
  -- a row of the dual is evidence where one is found
  pub dual : (e : Evidence) → IsWideDual view e → LinearFails (work.OverFacets Maximal) view (Failed e)
  -- a product is no evidence over INEQUALITIES, and a pivot none at VERTICES
  pub product : ¬ (LinearFails (work.OverRows Maximal) view (Failed (E4 (pos 1 ∷ []) (pos 1 ∷ []))))
  pub pivot : ¬ (LinearFails (work.AtRays Maximal) view (Failed (E3 [] 0 0 0 0)))
  pub face_pivot : ¬ (LinearFails (work.AtFace Minimal) view (Failed (E3 [] 0 0 0 0)))
  -- nor are they by wide numbers
  pub wide_product : ¬ (LinearFails (work.OverRowsWide Maximal) view (Failed (E4 (pos 1 ∷ []) (pos 1 ∷ []))))
  pub wide_pivot : ¬ (LinearFails (work.AtRaysWide Maximal) view (Failed (E3 [] 0 0 0 0)))
  pub wide_face_pivot : ¬ (LinearFails (work.AtFaceWide Minimal) view (Failed (E3 [] 0 0 0 0)))
  -- and by these no evidence tells why the rays at the optimum were not found, but memory may be wanting
  pub wide_face : (e : Evidence) → ¬ (LinearFails (work.AtFaceWide Minimal) view (Failed e))
  pub wide_face_memory : LinearFails (work.AtFaceWide Minimal) view Memory
  -- rows are read of VERTICES, and none of an optimum
  pub rows : is_of_rows Vertices ≡ true
  pub no_rows : is_of_rows MaximalValue ≡ false

-- one half, and nothing
abbrev pub half : Ratio
half = ratio (pos 1) (pos 2)

abbrev pub null : Ratio
null = ratio (pos 0) (pos 1)

-- a row, and a multiplier, whose product leaves the range
abbrev pub large : Row
large = pos (2 ^ 64) ∷ []

abbrev pub large_weight : Ratio
large_weight = ratio (pos (2 ^ 64)) (pos 1)

pub record DualsAreRead : Type 0 where
  -- the row with multiplier 0 is left out
  pub kept : weighted segment (null ∷ half ∷ []) ≡ (row (pos 1) (negsuc 0), half) ∷ []
  -- the rows stand in the lexicographic order, and all of them
  pub in_order : AreWeighted segment (half ∷ half ∷ [])
      ((row (pos 0) (pos 1), half) ∷ (row (pos 1) (negsuc 0), half) ∷ [])
  pub turned : ¬
      (AreWeighted segment (half ∷ half ∷ [])
      ((row (pos 1) (negsuc 0), half) ∷ (row (pos 0) (pos 1), half) ∷ []))
  pub left_out : ¬ (AreWeighted segment (half ∷ half ∷ []) [])
  -- one half of (2, -2) is (1, -1)
  pub multiple : IsMultipleRow half (row (pos 2) (negsuc 1)) (wholes (row (pos 1) (negsuc 0)))
  pub not_itself : ¬ (IsMultipleRow half (row (pos 2) (negsuc 1)) (wholes (row (pos 2) (negsuc 1))))
  pub too_short : ¬ (IsMultipleRow half (row (pos 2) (negsuc 1)) [])
  -- each row has its multiple
  pub multiples : AreMultiples ((row (pos 2) (negsuc 1), half) ∷ []) (wholes (row (pos 1) (negsuc 0)) ∷ [])
  pub fewer : ¬ (AreMultiples ((row (pos 2) (negsuc 1), half) ∷ []) [])
  pub more : ¬ (AreMultiples [] (wholes (row (pos 1) (negsuc 0)) ∷ []))
  -- without rows there is no column count
  pub no_rows : IsDualMatrix 2 segment (null ∷ null ∷ []) (record { cols = 0; rows = [] })
  pub with_cols : ¬ (IsDualMatrix 2 segment (null ∷ null ∷ []) (record { cols = 2; rows = [] }))
  pub missing : ¬ (IsDualMatrix 2 segment (half ∷ null ∷ []) (record { cols = 0; rows = [] }))
  -- the evidence names a row whose multiple leaves the range, and its multiplier, which is not 0
  pub wide : ShowsWideWeight (large ∷ []) (large_weight ∷ []) (E4 large (row (pos (2 ^ 64)) (pos 1)))
  pub other_parts : ¬ (ShowsWideWeight (large ∷ []) (large_weight ∷ []) (E4 large (row (pos 1) (pos 1))))
  pub no_weight : ¬ (ShowsWideWeight (large ∷ []) (null ∷ []) (E4 large (row (pos 0) (pos 1))))
  pub other_row
      : ¬ (ShowsWideWeight (large ∷ []) (large_weight ∷ []) (E4 (pos 1 ∷ []) (row (pos (2 ^ 64)) (pos 1))))
  pub other_evidence : ¬ (ShowsWideWeight (large ∷ []) (large_weight ∷ []) (E5Rows []))
