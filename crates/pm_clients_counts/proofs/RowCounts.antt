-- The number of rows of a matrix that was read.
use Rattle.pm_vector.specs.Numbers.{Ratio}
use Rattle.pm_client.proofs.PlainValues.{is_of_64_bits, sound_count}
use Rattle.pm_client.proofs.Puts.{IsPut}
use Rattle.pm_client.proofs.ReadValues.{read_right}
use Rattle.pm_client.specs.Sound.{IsSound}
use Rattle.pm_geom.specs.Things.{Orders}
use Rattle.pm_object.specs.Reading.{DraftSeen, ViewSeen, fact_of}
use Rattle.pm_props.specs.Properties.{is_of_matrices, value_kind}
use Rattle.pm_props.specs.declared.property.PropId.{PropId}
use Rattle.pm_types.proofs.PrimitiveRows.{few_rows_of}
use Rattle.pm_types.specs.Forms.{FormsIn, is_matrix_of}
use Rattle.pm_types.specs.Right.{Right, objective_of}
use Rattle.pm_types.specs.Things.{AreOrders, Thing}
use Rattle.pm_types.specs.Values.{matrix, whole}
use Rattle.std.proofs.Common.{arith, subst, sym, to_z, true, w64}
use Rattle.std.proofs.lemmas.Bool.{and_parts}
use Rattle.std.specs.Prelude.{List, Some, length, ℕ, ◌≡◌}
use lib.IntN.{pos}

-- the number of rows of p is right for q where these rows are right for p
abbrev pub CountsRows : PropId → PropId → ℕ → List (List Ratio) → Type 0
CountsRows p q m rows = (t : Thing) (o : Orders) → AreOrders t o → (c d : List Ratio) → Right p (matrix m rows) t o c → Right q (whole (pos (length rows))) t o d

pub count_follows : (v : ViewSeen) (p q : PropId) (m n : ℕ) (rows : List (List Ratio)) (old new : DraftSeen) → is_of_64_bits q ≡ true → n ≡ length rows → fact_of p v.facts ≡ Some (matrix m rows)
    → FormsIn v.of v.cols p (matrix m rows) → IsPut v q (whole (to_z w64 n)) old new → CountsRows p q m rows → IsSound v new
count_follows v p q m n rows old new whole_numbers e read form put counts =
    sound_count v q n old new whole_numbers (let few = few_rows_of p m rows (and_parts (is_of_matrices (value_kind p)) (is_matrix_of p m rows) form.formed).1 in omega arith) put (λ t o of cols right d.
    let (s, value) = read_right p v.facts (matrix m rows) t o read right in
    subst (λ k. Right q (whole (pos k)) t o d) (sym e) (counts t o right.orders (objective_of t s) d value))
