-- The first fault of a value of each kind.
use Rattle.pm_json.specs.Readings.{Read, and_then, before, counts_from, counts_of, entry_of, is_count_text, number_value_of, or_fault, reading_of, truth_of, whole_count_of, whole_of, whole_value}
use Rattle.pm_json.specs.declared.fail.ValueFail.{ValueFail}
use Rattle.pm_json.specs.declared.fail.ValueFail.TheVariants.{Limit, Number, Shape}
use Rattle.pm_laws_texts.proofs.Edges.{edges_tell}
use Rattle.pm_laws_texts.proofs.Lattices.{lattices_tell}
use Rattle.pm_laws_texts.proofs.StatedSets.{sets_tell}
use Rattle.pm_laws_texts.proofs.FirstOfValue.{array_tells, at_items, items_tell, made_tells, same_place, same_tells, test_then, then_tells}
use Rattle.pm_laws_texts.proofs.Matrices.{FindsLeast, matrices_tell, place_tells, same_order}
use Rattle.pm_laws_texts.proofs.Rows.{Alone, entry_tells, limit_tells}
use Rattle.pm_laws_texts.specs.ValueFaults.{HasFaultOf, NoCount, NoFraction, NoNumber, NoTruth, NoWholeOf, OfCount, OfCounts}
use Rattle.pm_laws_texts.specs.ValueLaws.{FirstFaultIsRead}
use Rattle.pm_laws_texts.specs.Places.{AtItem, OneTooMany, Tells, order}
use Rattle.pm_limits.specs.Limits.{most_rows}
use Rattle.pm_props.specs.Properties.{is_ambient, value_kind}
use Rattle.pm_props.specs.declared.property.PropId.{PropId}
use Rattle.pm_props.specs.declared.property.ValueKind.{ValueKind}
use Rattle.pm_props.specs.declared.property.ValueKind.TheVariants as kind
use Rattle.pm_types.specs.Forms.{is_dimension}
use Rattle.pm_types.specs.Values.{PropertyValue, counts, extended, finite, minus_infinity, plus_infinity, whole}
use Rattle.serde_json.specs.Data.{Data, Items, Num, array, boolean, item, no_items, null, number, object, string}
use Rattle.serde_json.specs.Find.{as_i64}
use Rattle.std.proofs.Common.{ap, arith, false, inl, inr, refl, subst, sym, true, true≢false, ◌∙◌}
use Rattle.std.specs.Prelude.{Bool, Err, List, None, Ok, Option, Some, [], codes, if◌then◌else◌, nat_lt, not, suc, ℕ, ◌&&◌, ◌+◌, ◌≡◌, ◌≤◌, ◌∷◌}
use Rattle.std.specs.Str.{bytes_eq}
use lib.IntN.{ℤ}

some_is : {X : Type 0} {x y : X} → Some x ≡ Some y → x ≡ y
some_is h = cc

-- ---- counts
count_text_finds : (s : List ℕ) → FindsLeast (NoCount (string s)) (whole_count_of (string s))
count_text_finds s = by (is_count_text s) refl _
  where
    by : (b : Bool) → is_count_text s ≡ b → (z : ℤ) → FindsLeast (NoCount (string s)) (let r : Read ℤ = if b then Ok z else Err Number in r)
    by true e z = λ g h. true≢false (sym e ∙ h.1)
    by false e z = ((refl, e), λ g h. same_order Number g h.0)

count_number_finds : (n : Num) → FindsLeast (NoCount (number n)) (whole_count_of (number n))
count_number_finds n = by (as_i64 n) refl
  where
    by : (o : Option ℤ) → as_i64 n ≡ o → FindsLeast (NoCount (number n)) (or_fault Number o)
    by (Some z) e = λ g h. (let f : None ≡ Some z = sym h.1 ∙ e in cc)
    by None e = ((refl, e), λ g h. same_order Number g h.0)

count_finds : (d : Data) → FindsLeast (NoCount d) (whole_count_of d)
count_finds null = (refl, λ g h. same_order Shape g h)
count_finds (boolean b) = (refl, λ g h. same_order Shape g h)
count_finds (array ds) = (refl, λ g h. same_order Shape g h)
count_finds (object ms) = (refl, λ g h. same_order Shape g h)
count_finds (string s) = count_text_finds s
count_finds (number n) = count_number_finds n

count_before : (d : Data) (f : ValueFail) → NoCount d f → order f ≤ 3
count_before null f h = subst (λ z. order z ≤ 3) (sym h) (omega arith)
count_before (boolean b) f h = subst (λ z. order z ≤ 3) (sym h) (omega arith)
count_before (array ds) f h = subst (λ z. order z ≤ 3) (sym h) (omega arith)
count_before (object ms) f h = subst (λ z. order z ≤ 3) (sym h) (omega arith)
count_before (number n) f h = subst (λ z. order z ≤ 3) (sym h.0) (omega arith)
count_before (string s) f h = subst (λ z. order z ≤ 3) (sym h.0) (omega arith)

one_count_tells : (k : ℕ) (d : Data) → Tells (OfCount k d) (and_then (whole_count_of d) (λ z. if nat_lt k most_rows then Ok z else Err Limit))
one_count_tells k d =
    then_tells (Alone (NoCount d)) (OneTooMany most_rows k) (OfCount k d) (whole_count_of d) (λ z. if nat_lt k most_rows then Ok z else Err Limit)
    (record { split = λ r f h. h; first = λ r f h. inl h; rest = λ r f h. inr h; before = λ r f s g h e. same_place r s f g h.0 e.0 (subst (λ z. order f ≤ order z) (sym e.1) (count_before d f h.1)) })
    (place_tells [] (NoCount d) (whole_count_of d) (count_finds d)) (λ z is. limit_tells most_rows k z)

counts_from_tell : (k : ℕ) (ds : Items) (m : ℕ → ℕ) → ((j : ℕ) → m j ≡ k + j) → Tells (AtItem (λ j. OfCount (m j)) ds) (counts_from k ds)
counts_from_tell k no_items m at = none
  where
    none : (r : List ℕ) (f : ValueFail) → ¬ (AtItem (λ j. OfCount (m j)) no_items r f)
    none [] f h = h
    none (i ∷ r) f h = let e = h.1 in cc
counts_from_tell k (item d ds) m at =
    let more = counts_from_tell (suc k) ds (λ j. m (suc j)) (λ j. (let e = at (suc j) in omega arith)) in
    let here : k ≡ m 0 = (let e = at 0 in omega arith) in
    subst (λ z. Tells (AtItem (λ j. OfCount (m j)) (item d ds)) z) (sym (test_then (whole_count_of d) (nat_lt k most_rows) Limit (λ z. before z (counts_from (suc k) ds))))
    (items_tell (OfCount (m 0) d) (AtItem (λ j. OfCount (m (suc j))) ds) (AtItem (λ j. OfCount (m j)) (item d ds))
    (and_then (whole_count_of d) (λ z. if nat_lt k most_rows then Ok z else Err Limit)) (λ z. before z (counts_from (suc k) ds))
    (at_items (λ j. OfCount (m j)) d ds) (λ r f h. (d, refl, h)) (λ i r f h. h) (λ f h. h)
    (subst (λ n. Tells (OfCount n d) (and_then (whole_count_of d) (λ z. if nat_lt k most_rows then Ok z else Err Limit))) here (one_count_tells k d))
    (λ z is. made_tells (AtItem (λ j. OfCount (m (suc j))) ds) (counts_from (suc k) ds) (λ rest. z ∷ rest) more))

counts_tell : (d : Data) → Tells (OfCounts d) (counts_of d)
counts_tell d =
    array_tells (AtItem OfCount) d (λ ds. and_then (counts_from 0 ds) (λ ks. Ok (counts ks)))
    (λ ds is. made_tells (AtItem OfCount ds) (counts_from 0 ds) (λ ks. counts ks) (counts_from_tell 0 ds (λ j. j) (λ j. omega arith)))

-- ---- whole numbers
whole_number_finds : (p : PropId) (n : Num) → FindsLeast (NoWholeOf p (number n)) (whole_of p (number n))
whole_number_finds p n = by (as_i64 n) refl
  where
    by : (o : Option ℤ) → as_i64 n ≡ o → FindsLeast (NoWholeOf p (number n)) (and_then (or_fault Number o) (whole_value p))
    by None e = (
      inl (refl, e),
      λ g h. elim h [
        | inl x ↦ same_order Number g x.0
        | inr y ↦ (let f : Some _ ≡ None = sym y.1.1 ∙ e in cc)
      ],
    )
    by (Some z) e = of_parts (is_ambient p) (is_dimension z) refl refl
      where
        only : (y : ℤ) → as_i64 n ≡ Some y → y ≡ z
        only y h = some_is (sym h ∙ e)

        no_none : ¬ (as_i64 n ≡ None)
        no_none h = let f : None ≡ Some z = sym h ∙ e in cc

        of_parts : (a b : Bool) → is_ambient p ≡ a → is_dimension z ≡ b → FindsLeast (NoWholeOf p (number n)) (let r : Read PropertyValue = if a && not b then Err Limit else Ok (whole z) in r)
        of_parts true false s t = (
          inr (refl, (z, e, s, t)),
          λ g h. elim h [
            | inl x ↦ absurd (no_none x.1)
            | inr y ↦ same_order Limit g y.0
          ],
        )
        of_parts true true s t = λ g h. elim h [
          | inl x ↦ no_none x.1
          | inr y ↦ true≢false (sym t ∙ ap is_dimension (sym (only y.1.0 y.1.1)) ∙ y.1.3)
        ]
        of_parts false b s t = λ g h. elim h [
          | inl x ↦ no_none x.1
          | inr y ↦ true≢false (sym y.1.2 ∙ s)
        ]

whole_finds : (p : PropId) (d : Data) → FindsLeast (NoWholeOf p d) (whole_of p d)
whole_finds p null = (refl, λ g h. same_order Shape g h)
whole_finds p (boolean b) = (refl, λ g h. same_order Shape g h)
whole_finds p (array ds) = (refl, λ g h. same_order Shape g h)
whole_finds p (object ms) = (refl, λ g h. same_order Shape g h)
whole_finds p (string s) = (refl, λ g h. same_order Shape g h)
whole_finds p (number n) = whole_number_finds p n

-- ---- truth values
truth_finds : (d : Data) → FindsLeast (NoTruth d) (truth_of d)
truth_finds null = (refl, λ g h. same_order Shape g h)
truth_finds (boolean b) = λ g h. h
truth_finds (array ds) = (refl, λ g h. same_order Shape g h)
truth_finds (object ms) = (refl, λ g h. same_order Shape g h)
truth_finds (string s) = (refl, λ g h. same_order Shape g h)
truth_finds (number n) = (refl, λ g h. same_order Shape g h)

-- ---- numbers
fraction_is_number : (d : Data) → ((f : ValueFail) → NoNumber d f → NoFraction d f) → ((f : ValueFail) → NoFraction d f → NoNumber d f) → Tells (Alone (NoNumber d)) (and_then (entry_of d) (λ q. Ok (finite q)))
fraction_is_number d to back =
    same_tells (Alone (NoFraction d)) (Alone (NoNumber d)) (and_then (entry_of d) (λ q. Ok (finite q))) (λ r f h. (h.0, back f h.1)) (λ r f h. (h.0, to f h.1)) (made_tells (Alone (NoFraction d)) (entry_of d) (λ q. finite q) (entry_tells d))

number_text_tells : (s : List ℕ) → Tells (Alone (NoNumber (string s))) (number_value_of (string s))
number_text_tells s = by (bytes_eq s (codes "inf")) (bytes_eq s (codes "-inf")) refl refl
  where
    by : (a b : Bool) → bytes_eq s (codes "inf") ≡ a → bytes_eq s (codes "-inf") ≡ b
        → Tells (Alone (NoNumber (string s))) (if a then Ok plus_infinity else if b then Ok minus_infinity else and_then (entry_of (string s)) (λ q. Ok (finite q)))
    by true b e f = λ r g h. true≢false (sym e ∙ h.1.1)
    by false true e f = λ r g h. true≢false (sym f ∙ h.1.2)
    by false false e f = fraction_is_number (string s) (λ g h. h.0) (λ g h. (h, e, f))

number_tells : (d : Data) → Tells (Alone (NoNumber d)) (number_value_of d)
number_tells null = fraction_is_number null (λ g h. h) (λ g h. h)
number_tells (boolean b) = fraction_is_number (boolean b) (λ g h. h) (λ g h. h)
number_tells (array ds) = fraction_is_number (array ds) (λ g h. h) (λ g h. h)
number_tells (object ms) = fraction_is_number (object ms) (λ g h. h) (λ g h. h)
number_tells (number n) = fraction_is_number (number n) (λ g h. h) (λ g h. h)
number_tells (string s) = number_text_tells s

-- ---- values
values_tell : (k : ValueKind) (p : PropId) (d : Data) → Tells (HasFaultOf k p d) (reading_of k p d)
values_tell kind.Mat p d = matrices_tell p d
values_tell kind.Sets p d = sets_tell d
values_tell kind.Counts p d = counts_tell d
values_tell kind.Edges p d = edges_tell d
values_tell kind.Lattice p d = lattices_tell d
values_tell kind.Int p d = place_tells [] (NoWholeOf p d) (whole_of p d) (whole_finds p d)
values_tell kind.Bool p d = place_tells [] (NoTruth d) (truth_of d) (truth_finds d)
values_tell kind.Number p d = made_tells (Alone (NoNumber d)) (number_value_of d) (λ x. extended x) (number_tells d)

pub first_fault_is_read : FirstFaultIsRead
first_fault_is_read p d = values_tell (value_kind p) p d
