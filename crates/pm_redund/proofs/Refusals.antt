-- The refusals of programs and eliminations, as refusals of thinning.
use Rattle.pm_vector.specs.Rows.{Row}
use Rattle.pm_elim.specs.Refusals.{IfWide}
use Rattle.pm_vector.specs.Evidence.{IsEvidence}
use Rattle.pm_elim.specs.declared.evidence.ElimFail.{ElimFail}
use Rattle.pm_elim.specs.declared.evidence.ElimFail.TheVariants as elimination
use Rattle.pm_geom.specs.declared.evidence.Evidence.TheVariants.{E1, E2, E3, E4, E5Cells, E5Faces, E5Rays, E5Rows}
use Rattle.pm_incidence.specs.Fails.{thin_fail_of}
use Rattle.pm_incidence.specs.Thinning.{AreManyFacets, IsReductionFail, half_spaces}
use Rattle.pm_incidence.specs.declared.fails.ThinFail.{ThinFail}
use Rattle.pm_incidence.specs.declared.fails.ThinFail.TheVariants.{Many, Memory, Wide}
use Rattle.pm_object_type.specs.declared.object_type.ObjectType.{ObjectType}
use Rattle.pm_redund.specs.Redundancy.{AreIrredundantPlaces, AreManyThinPlaces, IsHalvesFail, IsProgramFail, IsRedundancyFail, IsRowsFail}
use Rattle.pm_simplex.specs.Lineality.{MarkLines, line_group}
use Rattle.std.proofs.Common.{inl, inr, refl}
use Rattle.std.specs.List.{Contains}
use Rattle.std.specs.Prelude.{Bool, Err, IfErr, List, Ok, Result, [], ℕ, ◌++◌, ◌∷◌}

-- evidence of a program is that of a pivot
pub thin_of_program : (n : ℕ) (G L : List Row) (f : ThinFail) → IsProgramFail n G L f → IsRedundancyFail n G L f
thin_of_program n G L (Wide (E1 e)) h = absurd h.shown.shown
thin_of_program n G L (Wide (E2 a b c d)) h = h
thin_of_program n G L (Wide (E3 a b c d e)) h = h
thin_of_program n G L (Wide (E4 a b)) h = h
thin_of_program n G L (Wide (E5Rays a b)) h = h
thin_of_program n G L (Wide (E5Rows a)) h = h
thin_of_program n G L (Wide (E5Faces a)) h = h
thin_of_program n G L (Wide (E5Cells a b)) h = h
thin_of_program n G L (Many e) h = absurd h
thin_of_program n G L Memory h = tt

pub halves_of_thin : (n : ℕ) (G L : List Row) (f : ThinFail) → IsRedundancyFail n G L f → IsHalvesFail n G L f
halves_of_thin n G L (Wide (E1 e)) h = h
halves_of_thin n G L (Wide (E2 a b c d)) h = h
halves_of_thin n G L (Wide (E3 a b c d e)) h = h
halves_of_thin n G L (Wide (E4 a b)) h = h
halves_of_thin n G L (Wide (E5Rays a b)) h = h
halves_of_thin n G L (Wide (E5Rows a)) h = h
halves_of_thin n G L (Wide (E5Faces a)) h = h
halves_of_thin n G L (Wide (E5Cells a b)) h = h
halves_of_thin n G L (Many e) h = absurd h
halves_of_thin n G L Memory h = tt

pub rows_of_halves : (of : ObjectType) (n : ℕ) (A E : List Row) → ((ks : List ℕ) → AreManyThinPlaces n (half_spaces of n A) E ks → AreManyFacets of n A E ks) → (f : ThinFail) → IsHalvesFail n (half_spaces of n A) E f → IsRowsFail of n A E f
rows_of_halves of n A E many (Wide (E1 e)) h = h
rows_of_halves of n A E many (Wide (E2 a b c d)) h = h
rows_of_halves of n A E many (Wide (E3 a b c d e)) h = h
rows_of_halves of n A E many (Wide (E4 a b)) h = h
rows_of_halves of n A E many (Wide (E5Rays a b)) h = h
rows_of_halves of n A E many (Wide (E5Rows a)) h = h
rows_of_halves of n A E many (Wide (E5Faces a)) h = h
rows_of_halves of n A E many (Wide (E5Cells a b)) h = h
rows_of_halves of n A E many (Many (E1 e)) h = absurd h
rows_of_halves of n A E many (Many (E2 a b c d)) h = absurd h
rows_of_halves of n A E many (Many (E3 a b c d e)) h = absurd h
rows_of_halves of n A E many (Many (E4 a b)) h = absurd h
rows_of_halves of n A E many (Many (E5Rays a b)) h = absurd h
rows_of_halves of n A E many (Many (E5Rows a)) h = many a h
rows_of_halves of n A E many (Many (E5Faces a)) h = absurd h
rows_of_halves of n A E many (Many (E5Cells a b)) h = absurd h
rows_of_halves of n A E many Memory h = tt

pub rows_of_program : (of : ObjectType) (n : ℕ) (A E : List Row) (f : ThinFail) → IsProgramFail n (half_spaces of n A) E f → IsRowsFail of n A E f
rows_of_program of n A E (Wide (E1 e)) h = absurd h.shown.shown
rows_of_program of n A E (Wide (E2 a b c d)) h = h
rows_of_program of n A E (Wide (E3 a b c d e)) h = h
rows_of_program of n A E (Wide (E4 a b)) h = h
rows_of_program of n A E (Wide (E5Rays a b)) h = h
rows_of_program of n A E (Wide (E5Rows a)) h = h
rows_of_program of n A E (Wide (E5Faces a)) h = h
rows_of_program of n A E (Wide (E5Cells a b)) h = h
rows_of_program of n A E (Many e) h = absurd h
rows_of_program of n A E Memory h = tt

pub thin_of_group : (n : ℕ) (G L : List Row) (lines : List Bool) → MarkLines G L lines → (f : ElimFail) → IfWide f (λ e. IsEvidence n (line_group G L lines) e) → IsRedundancyFail n G L (thin_fail_of f)
thin_of_group n G L lines m (elimination.Wide e) h = record { lines = lines; marked = m; rows = _; listed = inl refl; shown = h }
thin_of_group n G L lines m elimination.Memory h = tt

pub reduction_of_elimination : (n : ℕ) (B G : List Row) (row : Row) (f : ElimFail) → Contains G row → IfWide f (λ e. IsEvidence n (B ++ row ∷ []) e) → IsReductionFail n B G (thin_fail_of f)
reduction_of_elimination n B G row (elimination.Wide e) c h = (row, c, h)
reduction_of_elimination n B G row elimination.Memory c h = tt

pub thin_of_reduction : (n : ℕ) (G L B : List Row) (P ks : List ℕ) → AreIrredundantPlaces n G L B P ks → (f : ThinFail) → IsReductionFail n B G f → IsRedundancyFail n G L f
thin_of_reduction n G L B P ks t (Wide (E1 e)) h = record { lines = t.lines; marked = t.marked; rows = _; listed = inr (record { basis = B; pivots = P; is_basis = t.basis; row = h.0; listed = h.1; rows = refl }); shown = h.2 }
thin_of_reduction n G L B P ks t (Wide (E2 a c d e)) h = absurd h
thin_of_reduction n G L B P ks t (Wide (E3 a c d e f)) h = absurd h
thin_of_reduction n G L B P ks t (Wide (E4 a c)) h = absurd h
thin_of_reduction n G L B P ks t (Wide (E5Rays a c)) h = absurd h
thin_of_reduction n G L B P ks t (Wide (E5Rows a)) h = absurd h
thin_of_reduction n G L B P ks t (Wide (E5Faces a)) h = absurd h
thin_of_reduction n G L B P ks t (Wide (E5Cells a b)) h = absurd h
thin_of_reduction n G L B P ks t (Many e) h = absurd h
thin_of_reduction n G L B P ks t Memory h = tt

pub if_err : {T X : Type 0} {P Q : X → Type 0} (r : Result T X) → ((x : X) → P x → Q x) → IfErr r P → IfErr r Q
if_err (Ok x) f h = h
if_err (Err e) f h = f e h
