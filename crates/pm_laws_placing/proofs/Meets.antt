-- Two cells' cones meet in the cone of their common rows.
use Rattle.pm_vector.proofs.ConeLaws.{NonNeg, in_combination_lines, in_divide, in_generator, in_line, in_line_opposite, in_plus, in_same}
use Rattle.pm_vector.proofs.Lists.{Among, Contains_among}
use Rattle.pm_vector.proofs.RowLaws.{same_sym}
use Rattle.pm_vector.specs.Cones.{InCone}
use Rattle.pm_vector.specs.Rows.{HasCols, Row}
use Rattle.pm_laws_placing.proofs.CellMasks.{At, among_rows_at, at_here, at_of, at_ray, at_there, holds_among, length_rows_at, mask, shared_from, sum_in, to_cell}
use Rattle.pm_laws_placing.proofs.CellSteps.{Carried, among_map}
use Rattle.pm_laws_placing.proofs.LeastSums.{least_cells_triangulate}
use Rattle.pm_laws_placing.specs.LeastSums.{InCell, IsCellList, common, has}
use Rattle.pm_geom.specs.Triangulations.{rows_at, shared}
use Rattle.pm_geom.specs.Graphs.{holds}
use Rattle.std.specs.Prelude.{ℕ, ◌<◌, ◌&&◌, ◌≡◌, Bool, true, false, List, map}
use Rattle.std.proofs.Common.{refl, sym, subst, ◌∙◌, inl, inr}
use Rattle.std.proofs.lemmas.Bool.{cases_Bool}

common_at : (s t : List ℕ) {p : ℕ} {q : ℕ} {P : List ℕ} → At p q P → has (common (mask P s) (mask P t)) q ≡ (holds s p && holds t p)
common_at s t at_here = refl
common_at s t (at_there a) = common_at s t a

and_left : (a b : Bool) → (a && b) ≡ true → a ≡ true
and_left true b h = refl
and_left false b h = absurd cc

and_right : (a b : Bool) → (a && b) ≡ true → b ≡ true
and_right true b h = h
and_right false b h = absurd cc

-- a sum over the rows of a mask
pub from_cell : (G L : List Row) (P r : List ℕ) (m : List Bool) → ((p q : ℕ) → At p q P → has m q ≡ true → Among p r) → (x : Row) → InCell (rows_at G P) L m x → InCone (rows_at G r) L x
unfolding NonNeg
from_cell G L P r m f x i =
    in_divide i.positive (in_same (same_sym i.same) (in_plus
    (sum_in (rows_at G r) L i.c (rows_at G P) i.not_negative
    (λ q l. elim (cases_Bool (has m q)) [
      | inr e ↦ inl (i.within q e)
      | inl t ↦ inr (let w = at_of P q (subst (λ (k : ℕ). q < k) (length_rows_at G P) l) in in_generator (subst (λ (y : Row). Among y (rows_at G r)) (sym (at_ray G w.1)) (among_rows_at G r w.0 (f w.0 q w.1 t))))
    ]))
    (in_combination_lines (rows_at G r) L i.d L (λ l k. (in_line k, in_line_opposite k)))))

module _ (n : ℕ) (G L : List Row) (P : List ℕ) (T : List (List ℕ)) (hW : HasCols n (rows_at G P)) (hL : HasCols n L) (carried : Carried G L P T) where
  cells : IsCellList n (rows_at G P) L (map (mask P) T)
  cells = least_cells_triangulate n (rows_at G P) L hW hL (map (mask P) T) carried.least.cells carried.least.all

  pub meet : (s t : List ℕ) → Among s T → Among t T → (x : Row) → InCone (rows_at G s) L x × InCone (rows_at G t) L x → InCone (rows_at G (shared s t)) L x
  meet s t is it x h =
      from_cell G L P (shared s t) (common (mask P s) (mask P t))
      (λ p q a e. let b = sym (common_at s t a) ∙ e in shared_from s t p (holds_among s p (and_left (holds s p) (holds t p) b)) (holds_among t p (and_right (holds s p) (holds t p) b)))
      x (cells.meets (mask P s) (mask P t) (Contains_among (among_map (mask P) is)) (Contains_among (among_map (mask P) it)) x (to_cell G L P s (carried.inside s is) x h.0) (to_cell G L P t (carried.inside t it) x h.1))
