-- Evidence as JSON: what is written, and what is not.
use Rattle.std.specs.Prelude.{None, Some, [], codes, ◌≡◌, ◌≢◌, ◌∷◌}
use Rattle.pm_vector.specs.EliminationSteps.{EliminationStep}
use Rattle.pm_vector.specs.declared.evidence.ElimList.{ElimList}
use Rattle.pm_vector.specs.declared.evidence.ElimList.TheVariants.{Extended, ExtendedWithout, Rows, Without}
use Rattle.pm_files.specs.EvidenceJson.{evidence_text}
use Rattle.pm_geom.specs.declared.evidence.Evidence.TheVariants.{E1, E2, E3, E4, E5Cells, E5Faces, E5Rays, E5Rows}
use Rattle.pm_vector.specs.Rows.{Row}
use lib.IntN.{negsuc, pos}

abbrev row : Row
row = pos 1 ∷ negsuc 1 ∷ []

abbrev step : ElimList → EliminationStep
step list = record { list = list; front = 1; basis = row ∷ []; part = row; by = 0; column = 1 }

pub record EvidenceIsWritten : Type 0 where
  -- an elimination tells its list
  pub rows : evidence_text (E1 (step Rows))
      ≡ codes "{\"basis\":[[\"1\",\"-2\"]],\"by\":0,\"column\":1,\"front\":1,\"list\":\"rows\",\"part\":[\"1\",\"-2\"]}"
  pub extended : evidence_text (E1 (step Extended))
      ≡ codes "{\"basis\":[[\"1\",\"-2\"]],\"by\":0,\"column\":1,\"front\":1,\"list\":\"extended\",\"part\":[\"1\",\"-2\"]}"
  pub without : evidence_text (E1 (step (Without 4)))
      ≡ codes "{\"basis\":[[\"1\",\"-2\"]],\"by\":0,\"column\":1,\"front\":1,\"list\":{\"without\":4},\"part\":[\"1\",\"-2\"]}"
  pub extended_without : evidence_text (E1 (step (ExtendedWithout 4)))
      ≡ codes "{\"basis\":[[\"1\",\"-2\"]],\"by\":0,\"column\":1,\"front\":1,\"list\":{\"extended_without\":4},\"part\":[\"1\",\"-2\"]}"
  -- two rays have a column, or none
  pub rays : evidence_text (E2 3 row row (Some 1))
      ≡ codes "{\"column\":1,\"first\":[\"1\",\"-2\"],\"front\":3,\"second\":[\"1\",\"-2\"]}"
  pub no_column : evidence_text (E2 3 row row None)
      ≡ codes "{\"column\":null,\"first\":[\"1\",\"-2\"],\"front\":3,\"second\":[\"1\",\"-2\"]}"
  pub not_left_out
      : evidence_text
      (E2 3 row row None) ≢ codes "{\"first\":[\"1\",\"-2\"],\"front\":3,\"second\":[\"1\",\"-2\"]}"
  pub pivot : evidence_text (E3 (0 ∷ 2 ∷ []) 1 2 0 3)
      ≡ codes "{\"basis\":[0,2],\"column\":3,\"enter\":1,\"leave\":2,\"row\":0}"
  -- entries are texts, and the first row stands at its own key
  pub product : evidence_text (E4 row (pos 0 ∷ [])) ≡ codes "{\"first\":[\"1\",\"-2\"],\"second\":[\"0\"]}"
  pub no_numbers : evidence_text (E4 (pos 0 ∷ []) (pos 0 ∷ [])) ≢ codes "{\"first\":[0],\"second\":[0]}"
  pub many_rays : evidence_text (E5Rays 2 (row ∷ [])) ≡ codes "{\"front\":2,\"rays\":[[\"1\",\"-2\"]]}"
  pub places : evidence_text (E5Rows (4 ∷ 7 ∷ [])) ≡ codes "{\"places\":[4,7]}"
  pub faces : evidence_text (E5Faces ((0 ∷ 1 ∷ []) ∷ [] ∷ [])) ≡ codes "{\"faces\":[[0,1],[]]}"
  pub cells : evidence_text (E5Cells 5 ((0 ∷ 1 ∷ []) ∷ [])) ≡ codes "{\"cells\":[[0,1]],\"front\":5}"
