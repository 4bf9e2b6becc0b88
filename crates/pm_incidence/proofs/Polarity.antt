-- The rows that are valid on a cone are those that its rays, with its lineality as equations, cut out; and canonical rows are so for every name of a set.
use Rattle.pm_vector.proofs.ConeLaws.{in_generator, in_line, in_line_opposite}
use Rattle.pm_vector.proofs.Lists.{all_at, all_from}
use Rattle.pm_vector.proofs.RowLaws.{dot_comm, length-opposite}
use Rattle.pm_vector.specs.Rows.{HasCols, Row, dot, opposite}
use Rattle.pm_dd.specs.Fronts.{HalfSpaces}
use Rattle.pm_geom.proofs.Facets.{dot-opposite, order_as, valid_by_products}
use Rattle.pm_geom.proofs.Polar.{cols_at, cut_at, cut_from}
use Rattle.pm_geom.proofs.Reduce.{same_modulo_as}
use Rattle.pm_geom.specs.Cones.{IsOrder, IsValid, SameModulo}
use Rattle.pm_geom.specs.Generators.{IsLinealityBasis}
use Rattle.pm_incidence.specs.FromSets.{AreCanonicalFor}
use Rattle.pm_types.specs.Right.{InOrder}
use Rattle.std.proofs.Common.{arith, ◌∙◌}
use Rattle.std.proofs.lemmas.Int.{ints}
use Rattle.std.specs.Prelude.{List, [], length, ℕ, ◌∷◌, ◌≡◌}
use lib.IntN.{pos}

-- ---- another name of the set
module _ (n : ℕ) (S S' : Row → Type 0) (to : (x : Row) → length x ≡ n → S x → S' x) (from : (x : Row) → length x ≡ n → S' x → S x) where
  alike_rows_as : (V U : List Row) → InOrder (SameModulo n S) V U → InOrder (SameModulo n S') V U
  alike_rows_as [] [] h = tt
  alike_rows_as [] (u ∷ U) h = absurd h
  alike_rows_as (v ∷ V) [] h = absurd h
  alike_rows_as (v ∷ V) (u ∷ U) h = (same_modulo_as n S S' to from h.0, alike_rows_as V U h.1)

  basis_as : (K : List Row) (P : List ℕ) → IsLinealityBasis n S' K P → IsLinealityBasis n S K P
  basis_as K P b = record {
    echelon = b.echelon;
    lines = λ x lx. (
      λ h. (b.lines x lx).0 (record { inside = to x lx h.inside; opposed = to (opposite x) (length-opposite x ∙ lx) h.opposed }),
      λ h. let l = (b.lines x lx).1 h in record { inside = from x lx l.inside; opposed = from (opposite x) (length-opposite x ∙ lx) l.opposed },
    );
  }

  pub canonical_as : (V U : List Row) → AreCanonicalFor n S V U → AreCanonicalFor n S' V U
  canonical_as V U c = record { order = alike_rows_as V U c.order; primitive = c.primitive; reduced = λ K P b. c.reduced K P (basis_as K P b) }

-- ---- the valid rows
module _ (n : ℕ) (G L : List Row) (hG : HasCols n G) (hL : HasCols n L) where
  pub cut_valid : (a : Row) → length a ≡ n → HalfSpaces L G a → IsValid n G L a
  cut_valid a la h = valid_by_products n G L hG hL a la (λ g i. rw dot_comm (cut_at a i h.1)) (λ l i. dot_comm a l ∙ all_at (λ (e : Row). dot e a ≡ pos 0) i h.0)

  pub valid_cut : (a : Row) → length a ≡ n → IsValid n G L a → HalfSpaces L G a
  valid_cut a la v = (
    all_from (λ (e : Row). dot e a ≡ pos 0) L (λ l i.
        let p = v.holds l (cols_at i hL) (in_line i) in
        let q = rw dot-opposite at (v.holds (opposite l) (length-opposite l ∙ cols_at i hL) (in_line_opposite i)) in
        dot_comm l a ∙ omega (arith, ints)),
    cut_from G a (λ g i. rw dot_comm (v.holds g (cols_at i hG) (in_generator i))),
  )

  pub order_cut : (F : List Row) → IsOrder n (IsValid n G L) F → IsOrder n (HalfSpaces L G) F
  order_cut F o = order_as n (IsValid n G L) (HalfSpaces L G) valid_cut cut_valid o

  pub canonical_valid : (F U : List Row) → AreCanonicalFor n (HalfSpaces L G) F U → AreCanonicalFor n (IsValid n G L) F U
  canonical_valid F U c = canonical_as n (HalfSpaces L G) (IsValid n G L) cut_valid valid_cut F U c
