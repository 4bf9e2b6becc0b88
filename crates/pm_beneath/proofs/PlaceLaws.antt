-- What the call answers, by the cells of all fronts.
use Rattle.pm_vector.specs.Rows.{HasCols, Row}
use Rattle.pm_laws_placing.proofs.Places.{length_stated}
use Rattle.pm_beneath.proofs.RunLaws.{run_is_placing}
use Rattle.pm_beneath.specs.Names.{named}
use Rattle.pm_laws_placing.specs.Placing.{IsPlacing, places_marked, stated_places}
use Rattle.pm_beneath.specs.Runs.{IsRunTo}
use Rattle.pm_geom.specs.Triangulations.{rows_at}
use Rattle.pm_dd.specs.Arrangement.{Leads}
use Rattle.pm_dd.specs.Fronts.{both_signs}
use Rattle.pm_vector.specs.Enlarging.{MarkEnlarging}
use Rattle.pm_vector.specs.Evidence.{IsBasisOf}
use Rattle.std.specs.Prelude.{ℕ, suc, ◌+◌, ◌*◌, ◌<◌, ◌≡◌, Bool, true, List, [], ◌∷◌, ◌++◌, drop, length, map}
use Rattle.std.proofs.Common.{arith, ap, refl, subst, ◌∙◌}
use Rattle.std.proofs.lemmas.List.{length-drop}

long_signs : (B G : List Row) → length (both_signs B ++ G) ≡ 2 * length B + length G
long_signs [] G = omega arith
long_signs (l ∷ B) G = let h = long_signs B G in omega arith

only_signs : (B : List Row) → length (both_signs B) ≡ 2 * length B
only_signs [] = omega arith
only_signs (l ∷ B) = let h = only_signs B in omega arith

module _ (n : ℕ) (L G B : List Row) (P : List ℕ) (marks : List Bool) (hL : HasCols n L) (hG : HasCols n G) (b : IsBasisOf n L B P) (en : MarkEnlarging (both_signs B ++ G) marks) (s : Leads (both_signs B ++ G) marks B) where
  -- the cells of f rays are those of the front that has the lines both ways besides
  pub run_places : (f : ℕ) → f < length G + 1 → (T : List (List ℕ)) → IsRunTo n B (rows_at G (stated_places (drop (2 * length B) marks))) (length (places_marked true (drop (2 * length B) marks) 0)) f T → IsPlacing n (both_signs B) G (2 * length B + f) (map (named (length G) (stated_places (drop (2 * length B) marks))) T)
  run_places f l T r =
      let e : length (both_signs B) + (length (places_marked true (drop (2 * length B) marks) 0) + r.0) ≡ 2 * length B + f = (let h = only_signs B in let q = r.1 in omega arith) in
      subst (λ (k : ℕ). IsPlacing n (both_signs B) G k (map (named (length G) (stated_places (drop (2 * length B) marks))) T)) e
      (run_is_placing n L G B P (drop (2 * length B) marks) hL hG b (subst (λ (Z : List Bool). MarkEnlarging (both_signs B ++ G) Z) s.marked en) r.0 (let q = r.1 in omega arith) T r.2)

  rows_many : (O : List ℕ) → length (rows_at G O) ≡ length O
  rows_many [] = refl
  rows_many (o ∷ O) = ap suc (rows_many O)

  pub stated_many : length (rows_at G (stated_places (drop (2 * length B) marks))) ≡ length G
  stated_many = rows_many (stated_places (drop (2 * length B) marks)) ∙ length_stated (drop (2 * length B) marks) ∙ length-drop (2 * length B) marks ∙ (let h = long_signs B G in let e = en.as_many in omega arith)

  pub all_placed : (T : List (List ℕ)) → IsRunTo n B (rows_at G (stated_places (drop (2 * length B) marks))) (length (places_marked true (drop (2 * length B) marks) 0)) (length (rows_at G (stated_places (drop (2 * length B) marks)))) T → IsPlacing n (both_signs B) G (length (both_signs B ++ G)) (map (named (length G) (stated_places (drop (2 * length B) marks))) T)
  all_placed T r =
      let e : 2 * length B + length (rows_at G (stated_places (drop (2 * length B) marks))) ≡ length (both_signs B ++ G) = (let h = long_signs B G in let q = stated_many in omega arith) in
      subst (λ (k : ℕ). IsPlacing n (both_signs B) G k (map (named (length G) (stated_places (drop (2 * length B) marks))) T)) e
      (run_places (length (rows_at G (stated_places (drop (2 * length B) marks)))) (let q = stated_many in omega arith) T r)
