-- Rows of what a client reads, as evidence names them; what is read as a matrix has no other rows.
use Rattle.pm_vector.proofs.Lists.{Contains_among}
use Rattle.pm_vector.specs.Divisors.{IsPrimitive}
use Rattle.pm_vector.specs.Numbers.{Ratio}
use Rattle.pm_vector.specs.Rows.{IsZero, Row, Stands}
use Rattle.pm_client.proofs.ReadValues.{found}
use Rattle.pm_client.specs.Sound.{IsRowOf}
use Rattle.pm_fraction.specs.FractionRows.{ArePrimitiveRowsOf, IsPrimitiveRowOf}
use Rattle.pm_object.specs.Reading.{ViewSeen, fact_of}
use Rattle.pm_props.specs.declared.property.PropId.{PropId}
use Rattle.pm_types.specs.Values.{matrix}
use Rattle.std.proofs.Common.{arith, get_or, inl, inr, subst, sym, ◌∙◌}
use Rattle.std.proofs.lemmas.List.Elements.{Contains-get_or}
use Rattle.std.proofs.lemmas.List.{get_or_default}
use Rattle.std.specs.List.{Contains}
use Rattle.std.specs.Prelude.{Bool, IsTrue, List, Some, [], ℕ, ◌≡◌}

primitive_unless : (r : List Ratio) (x : Row) → IsPrimitiveRowOf r x → (IsZero x → ⊥) → IsPrimitive x
primitive_unless r x h some = elim h.primitive.divided [ inl z ↦ absurd (some z.1) | inr w ↦ w.3 ]

-- a row of the primitive rows of what was read that is not zero
pub row_of : (v : ViewSeen) (of_kind : PropId → Bool) (p : PropId) (n : ℕ) (rows : List (List Ratio)) (xs : List Row) (x : Row) → fact_of p v.facts ≡ Some (matrix n rows) → IsTrue (of_kind p) → ArePrimitiveRowsOf rows xs → Contains xs x → (IsZero x → ⊥) → IsRowOf v of_kind x
row_of v of_kind p n rows xs x read kind h c some =
    let (f, i, q, w) = found p v.facts (matrix n rows) read in
    let j = c.0 in
    let below = c.1 in
    let count = h.count in
    let is : get_or xs j [] ≡ x = get_or_default xs j [] x below ∙ c.2 in
    record {
      fact = f;
      read = Contains_among i;
      property = subst (λ z. IsTrue (of_kind z)) (sym q) kind;
      n = n;
      rows = rows;
      value = w;
      row = get_or rows j [];
      listed = Contains-get_or rows j [] (omega arith);
      multiple = subst (λ z. Stands (get_or rows j []) z) is (h.multiple j (omega arith));
      primitive = primitive_unless (get_or rows j []) x (subst (λ z. IsPrimitiveRowOf (get_or rows j []) z) is (h.each j (omega arith))) some;
    }

pub same_rows : (m n : ℕ) (X Y : List (List Ratio)) → Some (matrix m X) ≡ Some (matrix n Y) → X ≡ Y
same_rows m n X Y e = cc
