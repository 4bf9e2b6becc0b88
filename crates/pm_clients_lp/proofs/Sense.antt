-- What is put in each sense: optima, rays at optima; their forms and when they are sound.
use Rattle.pm_vector.specs.Numbers.{Ratio}
use Rattle.pm_client.proofs.Drafts.{put}
use Rattle.pm_client.proofs.Puts.{IsPut, same_orders, sound_alone, sound_one, two_put}
use Rattle.pm_client.specs.Sound.{IsSound, optimum}
use Rattle.pm_clients_lp.proofs.Facts.{read_at}
use Rattle.pm_clients_lp.specs.Clients.{dual, face}
use Rattle.pm_geom.specs.Things.{Orders}
use Rattle.pm_fraction.specs.Matrices.{FractionMatrix, IsFraction}
use Rattle.pm_object.specs.Reading.{DraftSeen, IsView, ViewSeen, fact_of}
use Rattle.pm_props.specs.declared.property.PropId.TheVariants.{MaximalDual, MaximalFace, MaximalValue, MinimalDual, MinimalFace, MinimalValue}
use Rattle.pm_props.specs.Sets.{set_of}
use Rattle.pm_simplex.specs.Senses.{IsOptimum, objective_in}
use Rattle.pm_simplex.specs.declared.sense.Sense.TheVariants.{Maximal, Minimal}
use Rattle.pm_simplex.specs.declared.sense.Sense.{Sense}
use Rattle.pm_types.specs.Forms.{AreFractions, FormsIn, HasPrimitiveRow, is_counts_form}
use Rattle.pm_types.specs.Programs.{IsGreatestFace}
use Rattle.pm_types.specs.Right.{InSet, IsGreatestDual, RightAll, objective_of}
use Rattle.pm_types.specs.Runs.{states_rows}
use Rattle.pm_types.specs.Things.{Thing}
use Rattle.pm_types.specs.Values.{Extended, counts, extended, matrix}
use Rattle.std.proofs.Common.{refl, true}
use Rattle.std.proofs.lemmas.List.Elements.{All-nil}
use Rattle.std.specs.List.{All}
use Rattle.std.specs.Prelude.{IsTrue, List, Some, [], ◌++◌, ◌∷◌, ◌≡◌}
use lib.IntN.{ℤ}

-- for each thing for which what was read is right, and its objective c
abbrev pub ForEach : ViewSeen → (Thing → Orders → List Ratio → Type 0) → Type 0
ForEach v P = (t : Thing) (o : Orders) → t.of ≡ v.of → t.cols ≡ v.cols → RightAll v.facts t o → P t o (objective_of t v.sub)

module _ (v : ViewSeen) (old new : DraftSeen) where
  -- the optimum
  pub value_sound : (sense : Sense) (x : Extended) → AreFractions (extended x) → IsPut v (optimum sense) (extended x) old new → ForEach v (λ t o c. IsOptimum sense (InSet t) c x) → IsSound v new
  value_sound Maximal x fractions put h =
      sound_one v MaximalValue (extended x) old new put refl (record { formed = refl; columns = refl; rows = refl; entries = fractions; primitive = All-nil HasPrimitiveRow }) refl
      (λ t o of cols right. (h t o of cols right, tt))
  value_sound Minimal x fractions put h =
      sound_one v MinimalValue (extended x) old new put refl (record { formed = refl; columns = refl; rows = refl; entries = fractions; primitive = All-nil HasPrimitiveRow }) refl
      (λ t o of cols right. (h t o of cols right, tt))

  -- the rays at it
  pub face_sound : (sense : Sense) (ks : List ℤ) → is_counts_form ks ≡ true → IsPut v (face sense) (counts ks) old new → ForEach v (λ t o c. IsGreatestFace (InSet t) (objective_in sense c) o.rays ks) → IsSound v new
  face_sound Maximal ks form put h =
      sound_one v MaximalFace (counts ks) old new put refl (record { formed = form; columns = refl; rows = refl; entries = All-nil (All IsFraction); primitive = All-nil HasPrimitiveRow }) refl
      (λ t o of cols right. (h t o of cols right, tt))
  face_sound Minimal ks form put h =
      sound_one v MinimalFace (counts ks) old new put refl (record { formed = form; columns = refl; rows = refl; entries = All-nil (All IsFraction); primitive = All-nil HasPrimitiveRow }) refl
      (λ t o of cols right. (h t o of cols right, tt))

-- ---- an optimum with a dual
-- the draft was empty, and then both were put
pub record ArePutWithDual (v : ViewSeen) (sense : Sense) (x : Extended) (m : FractionMatrix) (old mid new : DraftSeen) : Type 0 where
  pub targets : v.kind.targets ≡ set_of (optimum sense ∷ dual sense ∷ [])
  pub empty : old ≡ record { kind = v.kind; values = [] }
  pub value : mid ≡ record old { values = old.values ++ record { property = optimum sense; value = extended x } ∷ [] }
  pub shown : new ≡ record mid { values = mid.values ++ record { property = dual sense; value = matrix m.cols m.rows } ∷ [] }

pub with_dual_sound : (v : ViewSeen) (sense : Sense) (x : Extended) (m : FractionMatrix) (old mid new : DraftSeen) → AreFractions (extended x) → FormsIn v.of v.cols (dual sense) (matrix m.cols m.rows) → IsTrue (states_rows (matrix m.cols m.rows))
    → ArePutWithDual v sense x m old mid new → ForEach v (λ t o c. IsOptimum sense (InSet t) c x) → ForEach v (λ t o c. IsGreatestDual t (objective_in sense c) m.rows) → IsSound v new
with_dual_sound v Maximal x m old mid new fractions form states h value shown =
    let puts = put MaximalValue (extended x) ∷ put MaximalDual (matrix m.cols m.rows) ∷ [] in
    sound_alone v puts new (two_put v MaximalValue MaximalDual (extended x) (matrix m.cols m.rows) old mid h.empty h.value new h.targets h.shown) (refl, (refl, tt))
    ((record { formed = refl; columns = refl; rows = refl; entries = fractions; primitive = All-nil HasPrimitiveRow }, refl), ((form, states), tt))
    (λ t o of cols right meets. same_orders v puts t o right (record { right = value t o of cols right; canonical = tt }, (record { right = shown t o of cols right; canonical = tt }, tt)))
with_dual_sound v Minimal x m old mid new fractions form states h value shown =
    let puts = put MinimalValue (extended x) ∷ put MinimalDual (matrix m.cols m.rows) ∷ [] in
    sound_alone v puts new (two_put v MinimalValue MinimalDual (extended x) (matrix m.cols m.rows) old mid h.empty h.value new h.targets h.shown) (refl, (refl, tt))
    ((record { formed = refl; columns = refl; rows = refl; entries = fractions; primitive = All-nil HasPrimitiveRow }, refl), ((form, states), tt))
    (λ t o of cols right meets. same_orders v puts t o right (record { right = value t o of cols right; canonical = tt }, (record { right = shown t o of cols right; canonical = tt }, tt)))

-- an optimum that was read is one
pub optimum_read : (v : ViewSeen) (view : IsView v) (sense : Sense) (x : Extended) → fact_of (optimum sense) v.facts ≡ Some (extended x) → ForEach v (λ t o c. IsOptimum sense (InSet t) c x)
optimum_read v view Maximal x read t o of cols right = read_at v view MaximalValue (extended x) read t o right
optimum_read v view Minimal x read t o of cols right = read_at v view MinimalValue (extended x) read t o right
