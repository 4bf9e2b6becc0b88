-- From the refinement of two fans to that of the objects that they are read from.
use Rattle.pm_vector.specs.Numbers.{Ratio}
use Rattle.pm_vector.specs.Rows.{Row}
use Rattle.pm_laws_normal_fans.specs.Fans.{Fan, IsFan}
use Rattle.pm_laws_normal_fans.specs.Refinements.{AreAllRays, HasRefinedRays, Intersection}
use Rattle.pm_fraction.specs.FractionRows.{ArePrimitiveRowsOf}
use Rattle.pm_object.specs.Known.{cols_at, rows_at, sets_at}
use Rattle.pm_object.specs.State.{State}
use Rattle.pm_props.specs.declared.property.PropId.TheVariants.{MaximalCones, Vertices}
use Rattle.pm_refine.specs.Fails.{IsRefineFail}
use Rattle.pm_refine.specs.ObjectFans.{IsFanOfObject, are_of_rays}
use Rattle.pm_refine.specs.ObjectRefinements.{IsRefinementOf, IsShownByFans}
use Rattle.pm_refine.specs.Refined.{AreRaySets, AreRefined}
use Rattle.pm_refine.specs.declared.fails.RefineFail.{RefineFail}
use Rattle.pm_refine.specs.declared.fails.RefineFail.TheVariants.{Memory, NotMade}
use Rattle.pm_types.specs.Values.{IndexSets}
use Rattle.std.proofs.Common.{ap, arith, sym, true, ◌∙◌}
use Rattle.std.proofs.lemmas.Bool.{eqb-true}
use Rattle.std.proofs.lemmas.List.{get_or_default}
use Rattle.std.specs.List.{All}
use Rattle.std.specs.Prelude.{Err, IfErr, IfOk, List, Ok, Result, [], length, ℕ, ◌<◌, ◌^◌, ◌≡◌, ◌≤◌}
use Rattle.pm_limits.specs.Limits.{most_rows}

pub ok_four : {X E : Type 0} (r : Result X E) {P Q S T U : X → Type 0} → ((x : X) → P x → Q x → S x → T x → U x) → IfOk r P → IfOk r Q → IfOk r S → IfOk r T → IfOk r U
ok_four (Ok x) f a b c d = f x a b c d
ok_four (Err e) f a b c d = tt

pub err_as : {X E : Type 0} (r : Result X E) {P Q : E → Type 0} → ((e : E) → P e → Q e) → IfErr r P → IfErr r Q
err_as (Ok x) f a = tt
err_as (Err e) f a = f e a

-- as many places as rays
pub count_is : (o : State) (s : IndexSets) (rows : List (List Ratio)) (xs : List Row) → are_of_rays o ≡ true → sets_at MaximalCones o ≡ s → rows_at Vertices o ≡ rows → ArePrimitiveRowsOf rows xs → s.cols ≡ length xs
count_is o s rows xs h e f are = sym (ap (λ z. z.cols) e) ∙ eqb-true (sets_at MaximalCones o).cols (length (rows_at Vertices o)) h ∙ ap length f ∙ sym are.count

module _ (a b : State) (f g : Fan) (is_first : IsFanOfObject a f) (is_second : IsFanOfObject b g) where
  pub refinement_is : (K : List Row) (kept : List Intersection) (R : List Row) (sets : List (List ℕ)) → (IsFan (cols_at a) f → IsFan (cols_at a) g → AreRefined (cols_at a) f g K kept) → AreAllRays kept R
      → (IsFan (cols_at a) f → IsFan (cols_at a) g → HasRefinedRays (cols_at a) f g K kept R) → AreRaySets R kept sets → IsRefinementOf a b K kept R sets
  refinement_is K kept R sets refined rays orders ray_sets = record { first = f; second = g; is_first = is_first; is_second = is_second; refinement = record { refined = refined; all_rays = rays; orders = orders; ray_sets = ray_sets } }

  pub shown_by_fans : (e : RefineFail) → IsRefineFail (cols_at a) f g e → IsShownByFans a b e
  shown_by_fans (NotMade i j e) h = record { first = f; second = g; is_first = is_first; is_second = is_second; shown = h }
  shown_by_fans Memory h = tt

pub sets_small : (R : List Row) (kept : List Intersection) (sets : List (List ℕ)) → AreRaySets R kept sets → length R ≤ most_rows → All (λ s. All (λ j. j < 2 ^ 32) s) sets
sets_small R kept sets s few = λ i d l. rw (get_or_default sets i d [] l) (λ j e b.
    let m = s.as_many in
    let w = s.each i (record { first = 0; second = 0; rays = [] }) (omega arith) in
    let below = w.ascending.0 j e b in
    omega arith)
