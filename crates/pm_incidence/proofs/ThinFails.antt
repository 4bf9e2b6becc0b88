-- The refusals of eliminations, as refusals of thinning.
use Rattle.pm_vector.specs.Rows.{Row}
use Rattle.pm_vector.proofs.Lists.{Among, Contains_among, among_Contains, among_append, among_append_left, among_append_right, here, there}
use Rattle.pm_incidence.proofs.Products.{only_one, stays_turned, unit_stays}
use Rattle.pm_incidence.specs.SetRows.{IsWideWith}
use Rattle.pm_object_type.specs.declared.object_type.ObjectType.{ObjectType}
use Rattle.pm_object_type.specs.declared.object_type.ObjectType.TheVariants.{Cone, Fan, Polytope}
use Rattle.pm_vector.specs.EliminationSteps.{EliminationStep}
use Rattle.pm_elim.specs.Refusals.{IfWide}
use Rattle.pm_elim.specs.declared.evidence.ElimFail.{ElimFail}
use Rattle.pm_elim.specs.declared.evidence.ElimFail.TheVariants.{Memory, Wide}
use Rattle.pm_incidence.specs.Fails.{exchanged, thin_fail_of}
use Rattle.pm_incidence.specs.Thinning.{IsFacetsFail, IsInsideFail, IsProductFail, IsRanged, IsReductionFail, IsThinFail, IsWideReduction, flat_group, half_spaces}
use Rattle.pm_vector.specs.Evidence.{IsBasisOf, IsEvidence, unit}
use Rattle.pm_geom.specs.declared.evidence.Evidence.TheVariants.{E1, E2, E3, E4, E5Cells, E5Faces, E5Rays, E5Rows}
use Rattle.pm_incidence.specs.declared.fails.ThinFail.{ThinFail}
use Rattle.pm_incidence.specs.declared.fails.ThinFail.TheVariants as thin
use Rattle.std.proofs.Common.{inl, inr, refl, subst, sym}
use Rattle.std.specs.List.{Contains}
use Rattle.std.specs.Prelude.{Err, IfErr, List, Ok, Result, [], ℕ, ◌++◌, ◌∷◌, ◌≡◌, ◌⊎◌}

pub thin_of_elimination : (n : ℕ) (G L A : List Row) (f : ElimFail) {Q : EliminationStep → Type 0} → ((e : EliminationStep) → Q e → IsWideReduction n G L A e) → IfWide f Q → IsThinFail n G L A (thin_fail_of f)
thin_of_elimination n G L A (Wide e) g h = g e h
thin_of_elimination n G L A Memory g h = tt

pub thin_of_reduction : (n : ℕ) (G L A B : List Row) (P : List ℕ) → IsBasisOf n (flat_group G L A) B P → (f : ThinFail) → IsReductionFail n B G f → IsThinFail n G L A f
thin_of_reduction n G L A B P b (thin.Wide (E1 e)) h = record { rows = _; listed = inr (record { basis = B; pivots = P; is_basis = b; row = h.0; listed = h.1; rows = refl }); shown = h.2 }
thin_of_reduction n G L A B P b (thin.Wide (E2 a c d e)) h = absurd h
thin_of_reduction n G L A B P b (thin.Wide (E3 a c d e f)) h = absurd h
thin_of_reduction n G L A B P b (thin.Wide (E4 a c)) h = absurd h
thin_of_reduction n G L A B P b (thin.Wide (E5Rays a c)) h = absurd h
thin_of_reduction n G L A B P b (thin.Wide (E5Rows a)) h = absurd h
thin_of_reduction n G L A B P b (thin.Wide (E5Faces a)) h = absurd h
thin_of_reduction n G L A B P b (thin.Wide (E5Cells a z)) h = absurd h
thin_of_reduction n G L A B P b (thin.Many e) h = absurd h
thin_of_reduction n G L A B P b thin.Memory h = tt

pub reduction_of_elimination : (n : ℕ) (B G : List Row) (row : Row) (f : ElimFail) → Contains G row → IfWide f (λ e. IsEvidence n (B ++ row ∷ []) e) → IsReductionFail n B G (thin_fail_of f)
reduction_of_elimination n B G row (Wide e) c h = (row, c, h)
reduction_of_elimination n B G row Memory c h = tt

pub ranged_elimination : (f : ElimFail) → IsRanged (thin_fail_of f)
ranged_elimination (Wide e) = tt
ranged_elimination Memory = tt

-- the product of a row with one of many
pub product_in_list : (G A : List Row) (a : Row) (f : ThinFail) → Contains A a → IsProductFail G (a ∷ []) f → IsProductFail G A f
product_in_list G A a (thin.Wide (E4 g b)) c h = record { generator = h.generator; inequality = subst (Contains A) (sym (only_one h.inequality)) c; wide = h.wide }
product_in_list G A a (thin.Wide e) c h = absurd h
product_in_list G A a (thin.Many e) c h = absurd h
product_in_list G A a thin.Memory c h = tt

-- the product of one of many rows
pub product_of_list : (G A : List Row) (g : Row) (f : ThinFail) → Contains G g → IsProductFail (g ∷ []) A f → IsProductFail G A f
product_of_list G A g (thin.Wide (E4 a b)) c h = record { generator = subst (Contains G) (sym (only_one h.generator)) c; inequality = h.inequality; wide = h.wide }
product_of_list G A g (thin.Wide e) c h = absurd h
product_of_list G A g (thin.Many e) c h = absurd h
product_of_list G A g thin.Memory c h = tt

-- a refusal of half-spaces names one of the rows that were handed in: the products of (1, 0, .., 0) never leave the range
half_space : (of : ObjectType) (n : ℕ) (A E : List Row) (x : Row) → Among x (half_spaces of n A) → Among x (A ++ E) ⊎ (x ≡ unit n 0)
half_space Polytope n A E x i = elim (among_append A (unit n 0 ∷ []) i) [ inl j ↦ inl (among_append_left E j) | inr j ↦ inr (single j) ]
  where
    single : {y : Row} → Among y (unit n 0 ∷ []) → y ≡ unit n 0
    single here = refl
    single (there j) = elim j [ ]
half_space Cone n A E x i = inl (among_append_left E i)
half_space Fan n A E x i = inl (among_append_left E i)

pub facets_fail : (of : ObjectType) (n : ℕ) (A E V : List Row) (f : ThinFail) → IsThinFail n (half_spaces of n A) E V f → IsRanged f → IsFacetsFail of n A E V (exchanged f)
facets_fail of n A E V (thin.Wide (E1 e)) h r = h
facets_fail of n A E V (thin.Wide (E2 a c d e)) h r = absurd h
facets_fail of n A E V (thin.Wide (E3 a c d e g)) h r = absurd h
facets_fail of n A E V (thin.Wide (E4 a c)) h r = elim (half_space of n A E a (among_Contains (half_spaces of n A) h.generator)) [
  | inl i ↦ record { generator = Contains_among i; inequality = h.inequality; wide = h.wide }
  | inr e ↦ absurd (h.wide (rw e (unit_stays n c r)))
]
facets_fail of n A E V (thin.Wide (E5Rays a c)) h r = absurd h
facets_fail of n A E V (thin.Wide (E5Rows a)) h r = absurd h
facets_fail of n A E V (thin.Wide (E5Faces a)) h r = absurd h
facets_fail of n A E V (thin.Wide (E5Cells a b)) h r = absurd h
facets_fail of n A E V (thin.Many e) h r = absurd h
facets_fail of n A E V thin.Memory h r = tt

-- so do those of the reduction of a half-space, and of rays that are looked at
pub facets_reduction : (of : ObjectType) (n : ℕ) (A E V B : List Row) (P : List ℕ) → IsBasisOf n (flat_group (half_spaces of n A) E V) B P → (f : ThinFail) → IsReductionFail n B (half_spaces of n A) f → IsFacetsFail of n A E V f
facets_reduction of n A E V B P b (thin.Wide (E1 e)) h = record { rows = _; listed = inr (record { basis = B; pivots = P; is_basis = b; row = h.0; listed = h.1; rows = refl }); shown = h.2 }
facets_reduction of n A E V B P b (thin.Wide (E2 a c d e)) h = absurd h
facets_reduction of n A E V B P b (thin.Wide (E3 a c d e f)) h = absurd h
facets_reduction of n A E V B P b (thin.Wide (E4 a c)) h = absurd h
facets_reduction of n A E V B P b (thin.Wide (E5Rays a c)) h = absurd h
facets_reduction of n A E V B P b (thin.Wide (E5Rows a)) h = absurd h
facets_reduction of n A E V B P b (thin.Wide (E5Faces a)) h = absurd h
facets_reduction of n A E V B P b (thin.Wide (E5Cells a z)) h = absurd h
facets_reduction of n A E V B P b (thin.Many e) h = absurd h
facets_reduction of n A E V B P b thin.Memory h = tt

pub facets_inside : (of : ObjectType) (n : ℕ) (A E V : List Row) (f : ThinFail) → IsInsideFail A E V f → IsFacetsFail of n A E V f
facets_inside of n A E V (thin.Wide (E1 e)) h = absurd h
facets_inside of n A E V (thin.Wide (E2 a c d e)) h = absurd h
facets_inside of n A E V (thin.Wide (E3 a c d e f)) h = absurd h
facets_inside of n A E V (thin.Wide (E4 a c)) h = h
facets_inside of n A E V (thin.Wide (E5Rays a c)) h = absurd h
facets_inside of n A E V (thin.Wide (E5Rows a)) h = absurd h
facets_inside of n A E V (thin.Wide (E5Faces a)) h = absurd h
facets_inside of n A E V (thin.Wide (E5Cells a b)) h = absurd h
facets_inside of n A E V (thin.Many e) h = absurd h
facets_inside of n A E V thin.Memory h = tt

pub inside_of : (A E V : List Row) (v : Row) (f : ThinFail) → Contains V v → IsWideWith v (A ++ E) f → IsInsideFail A E V f
inside_of A E V v (thin.Wide (E1 e)) c h = absurd h
inside_of A E V v (thin.Wide (E2 a b d e)) c h = absurd h
inside_of A E V v (thin.Wide (E3 a b d e f)) c h = absurd h
inside_of A E V v (thin.Wide (E4 a b)) c h = record { generator = h.1; inequality = subst (λ (x : Row). Contains V x) (sym h.0) c; wide = λ s. h.2 (stays_turned b a s) }
inside_of A E V v (thin.Wide (E5Rays a b)) c h = absurd h
inside_of A E V v (thin.Wide (E5Rows a)) c h = absurd h
inside_of A E V v (thin.Wide (E5Faces a)) c h = absurd h
inside_of A E V v (thin.Wide (E5Cells a b)) c h = absurd h
inside_of A E V v (thin.Many e) c h = absurd h
inside_of A E V v thin.Memory c h = tt

pub wide_more : (v : Row) (A B : List Row) (f : ThinFail) → ((x : Row) → Contains A x → Contains B x) → IsWideWith v A f → IsWideWith v B f
wide_more v A B (thin.Wide (E1 e)) g h = absurd h
wide_more v A B (thin.Wide (E2 a b d e)) g h = absurd h
wide_more v A B (thin.Wide (E3 a b d e f)) g h = absurd h
wide_more v A B (thin.Wide (E4 a b)) g h = (h.0, g b h.1, h.2)
wide_more v A B (thin.Wide (E5Rays a b)) g h = absurd h
wide_more v A B (thin.Wide (E5Rows a)) g h = absurd h
wide_more v A B (thin.Wide (E5Faces a)) g h = absurd h
wide_more v A B (thin.Wide (E5Cells a b)) g h = absurd h
wide_more v A B (thin.Many e) g h = absurd h
wide_more v A B thin.Memory g h = tt

pub first_part : (A E : List Row) (x : Row) → Contains A x → Contains (A ++ E) x
first_part A E x c = Contains_among (among_append_left E (among_Contains A c))

pub second_part : (A E : List Row) (x : Row) → Contains E x → Contains (A ++ E) x
second_part A E x c = Contains_among (among_append_right A (among_Contains E c))

pub if_err : {T X : Type 0} {P Q : X → Type 0} (r : Result T X) → ((x : X) → P x → Q x) → IfErr r P → IfErr r Q
if_err (Ok x) f h = h
if_err (Err e) f h = f e h
