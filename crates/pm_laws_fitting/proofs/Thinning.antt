-- Thinning, rows from sets, and cones of fans.
use Rattle.pm_vector.proofs.Filters.{filter_among, map_among}
use Rattle.pm_vector.proofs.Lists.{Among, among_Contains, among_All}
use Rattle.pm_vector.proofs.Spans.{at_place}
use Rattle.pm_vector.specs.Bases.{row_at}
use Rattle.pm_vector.specs.Rows.{Row}
use Rattle.pm_vector.specs.Evidence.{IsBasisOf, unit}
use Rattle.pm_elim.specs.Lost.{IsLost, IsLostOnNext, IsLostRound}
use Rattle.pm_fan.specs.Dimensions.{IsLostCone}
use Rattle.pm_geom.specs.Faces.{ray}
use Rattle.pm_incidence.specs.FromSets.{IsDetermining, determining, rows_at}
use Rattle.pm_incidence.specs.Lost.{IsLostReduction, IsLostSet, SetsAreLost, ThinningIsLost}
use Rattle.pm_incidence.specs.Thinning.{flat_group, is_flat}
use Rattle.pm_laws_fitting.specs.Sizes.{IsSizeFor}
use Rattle.pm_laws_fitting.proofs.Sized.{IsSized, Sized, none_lost, sized_append, sized_filter, sized_one, sized_units}
use Rattle.std.proofs.Common.{arith, inl, inr, refl, subst, sym, ◌∙◌}
use Rattle.std.proofs.lemmas.List.{get_or-append_right, length-append, take-append-le, take_all}
use Rattle.std.specs.List.{All}
use borrow.Author.Tests.{ltb-true}
use Rattle.std.specs.Prelude.{List, [], filter, length, map, nat_lt, take, true, ℕ, ◌++◌, ◌+◌, ◌-◌, ◌<◌, ◌∷◌, ◌≡◌}

-- the elimination of F and one row more is lost where the reduction of that row is
lost_with : (n : ℕ) (F B : List Row) (P : List ℕ) (row : Row) → IsBasisOf n F B P → IsLostOnNext B P row → IsLost n (F ++ row ∷ [])
lost_with n F B P row b l = record {
  front = length F;
  basis = B;
  pivots = P;
  within = simp length-append (omega arith);
  is_basis = subst (λ (X : List Row). IsBasisOf n X B P) (sym (take-append-le (length F) F (row ∷ []) (omega arith) ∙ take_all (length F) F (omega arith))) b;
  step = subst (λ (x : Row). IsLostRound B P x) (sym (next F row)) (inl l);
}
  where
    next : (F : List Row) (row : Row) → row_at (F ++ row ∷ []) (length F) ≡ row
    next [] row = refl
    next (x ∷ F) row = next F row

group_sized : (n M : ℕ) (G L A : List Row) → Sized n M G → Sized n M L → Sized n M (flat_group G L A)
group_sized n M G L A g l = sized_append n M L (filter (is_flat A) G) l (sized_filter n M (is_flat A) G g)

pub thinning_kept : (n M : ℕ) (G L A : List Row) → 0 < M → IsSizeFor n M → Sized n M G → Sized n M L → ThinningIsLost n G L A → ⊥
thinning_kept n M G L A some size g l (inl h) = (none_lost n M (flat_group G L A) some size (group_sized n M G L A g l)).rows h
thinning_kept n M G L A some size g l (inr h) =
    let one = sized_one n M h.lost.row (g.each h.lost.row (among_Contains G h.lost.listed)) in
    (none_lost n M (flat_group G L A ++ h.lost.row ∷ []) some size (sized_append n M (flat_group G L A) (h.lost.row ∷ []) (group_sized n M G L A g l) one)).rows
    (lost_with n (flat_group G L A) h.basis h.pivots h.lost.row h.is_basis h.lost.lost)

rows_at_sized : (n M : ℕ) (A : List Row) (set : List ℕ) → Sized n M A → Sized n M (rows_at A set)
rows_at_sized n M A set s = record {
  each = λ r m.
      let w = map_among (row_at A) (filter (λ k. nat_lt k (length A)) set) m in
      let i = filter_among (λ k. nat_lt k (length A)) set w.1 in
      subst (IsSized n M) (sym w.2) (s.each (row_at A w.0) (at_place A w.0 (ltb-true w.0 (length A) i.1)));
}

pub sets_kept : (n M : ℕ) (E A : List Row) (sets : List (List ℕ)) → 0 < M → IsSizeFor n M → Sized n M E → Sized n M A → SetsAreLost n E A sets → ⊥
sets_kept n M E A sets some size e a (inl h) = (none_lost n M (E ++ A) some size (sized_append n M E A e a)).extended h
sets_kept n M E A sets some size e a (inr h) =
    let d = h.determining in
    let s : Sized n M h.rows = (let q = d.rows in rw q (sized_append n M (E ++ rows_at A d.set) (map (unit n) d.pivots) (sized_append n M E (rows_at A d.set) e (rows_at_sized n M A d.set a)) (sized_units n M d.pivots some))) in
    (none_lost n M h.rows some size s).extended h.lost

pub cones_kept : (n M : ℕ) (V L : List Row) (sets : List (List ℕ)) → 0 < M → IsSizeFor n M → Sized n M V → Sized n M L → All (λ set. All (λ j. j < length V) set) sets → IsLostCone n V L sets → ⊥
cones_kept n M V L sets some size v l places h =
    let inside = among_All (λ (set : List ℕ). All (λ j. j < length V) set) (among_Contains sets h.listed) places in
    (none_lost n M (L ++ map (ray V) h.set) some size (sized_append n M L (map (ray V) h.set) l (record {
      each = λ r m.
          let w = map_among (ray V) h.set m in
          subst (IsSized n M) (sym w.2) (v.each (ray V w.0) (at_place V w.0 (among_All (λ j. j < length V) w.1 inside)));
    }))).rows h.lost
