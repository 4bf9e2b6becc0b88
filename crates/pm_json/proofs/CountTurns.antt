-- The reading of a list of counts a number at a time, and its form.
use Rattle.std.proofs.Common.{SFits, refl, ap, subst, sym, ◌∙◌, ◌≡◌, ◌≤◌, ◌<◌, ◌&&◌, ℕ, suc, false, inl, inr, true, List, [], ◌∷◌, ◌++◌, eqb, length, ltb, Ok, Err, append-nil, length-append, arith, leb, of_z, to_z, w64}
use Rattle.std.proofs.lemmas.Bool.{and_from, and_parts, cases_Bool, cond-false, cond-true, lt-ltb, le-leb, le-ltb, ltb-true}
use Rattle.std.proofs.lemmas.Int.{to_z-of_z}
use Rattle.std.specs.Char.{is_ascii_digit}
use Rattle.std.specs.Prelude.{not, slice_index}
use Rattle.std.specs.Str.Parse.{IsNumeral, signed_digits_value, without_leading_sign}
use Rattle.pm_fraction.proofs.Digits.{own_digits}
use Rattle.pm_types.proofs.Bits.{bits_from_fits, fits_from_bits}
use Rattle.std.specs.List.{list_all}
use Rattle.serde_json.specs.Data.{Data, Items, no_items, item}
use Rattle.pm_json.proofs.Readings.{with_front-before}
use Rattle.pm_json.specs.Readings.{Read, count_of_text, counts_from, is_count_text, whole_count_of, with_front}
use Rattle.pm_json.specs.declared.fail.ValueFail.{ValueFail}
use Rattle.pm_json.specs.declared.fail.ValueFail.TheVariants.{Limit, Number}
use Rattle.pm_props.specs.Properties.{is_of_counts, value_kind}
use Rattle.pm_props.specs.declared.property.PropId.{PropId}
use Rattle.pm_props.specs.declared.property.ValueKind.TheVariants as kind
use Rattle.pm_types.specs.Forms.{has_64_bits, is_counts_form, is_formed}
use Rattle.pm_types.specs.Values.{counts}
use lib.IntN.{ℤ}
use Rattle.pm_limits.specs.Limits.{most_rows}

pub counts_from-item : (front : List ℤ) (z : ℤ) (d : Data) (ds : Items) → length front < most_rows → whole_count_of d ≡ Ok z
    → with_front front (counts_from (length front) (item d ds)) ≡ with_front (front ++ z ∷ []) (counts_from (length (front ++ z ∷ [])) ds)
counts_from-item front z d ds room is =
    let one : suc (length front) ≡ length (front ++ z ∷ []) = omega (arith, length-append front (z ∷ [])) in
    rw (is, lt-ltb (length front) most_rows room) (with_front-before front z (counts_from (suc (length front)) ds) ∙ ap (λ k. with_front (front ++ z ∷ []) (counts_from k ds)) one)

pub counts_from-long : (front : List ℤ) (z : ℤ) (d : Data) (ds : Items) → most_rows ≤ length front → whole_count_of d ≡ Ok z → with_front front (counts_from (length front) (item d ds)) ≡ Err Limit
counts_from-long front z d ds full is = rw (is, le-ltb (length front) most_rows full) refl

pub counts_from-no_number : (front : List ℤ) (k : ℕ) (d : Data) (ds : Items) (fault : ValueFail) → whole_count_of d ≡ Err fault → with_front front (counts_from k (item d ds)) ≡ Err fault
counts_from-no_number front k d ds fault is = rw is refl

pub counts_from-end : (front : List ℤ) → with_front front (counts_from (length front) no_items) ≡ Ok front
counts_from-end front = ap (λ l. Ok l) (append-nil front)

-- a number that is pushed is the number itself
pub pushed_is : (ks new : List ℤ) (k : ℤ) → has_64_bits k ≡ true → new ≡ ks ++ to_z w64 (of_z w64 k) ∷ [] → new ≡ ks ++ k ∷ []
pushed_is ks new k bits e = e ∙ ap (λ z. ks ++ z ∷ []) (to_z-of_z w64 k (fits_from_bits k bits))

-- ---- texts
pub count_read : (bs : List ℕ) (k : ℤ) → eqb (slice_index bs 0) 43 ≡ false → IsNumeral 10 (without_leading_sign bs) × SFits w64 (signed_digits_value 10 bs) → k ≡ signed_digits_value 10 bs → (let z : Read ℤ = Ok (to_z w64 (of_z w64 k)) in z) ≡ count_of_text bs
count_read bs k plus h e =
    let v = signed_digits_value 10 bs in
    let ds = without_leading_sign bs in
    let no_plus = not (eqb (slice_index bs 0) 43) in
    let test : is_count_text bs ≡ true =
    and_from (no_plus && ltb 0 (length ds) && list_all is_ascii_digit ds) (has_64_bits v)
    (and_from (no_plus && ltb 0 (length ds)) (list_all is_ascii_digit ds) (and_from no_plus (ltb 0 (length ds)) (ap not plus) (lt-ltb 0 (length ds) h.0.0)) (own_digits.from ds h.0.1))
    (bits_from_fits v h.1) in
    let same : to_z w64 (of_z w64 k) ≡ v = to_z-of_z w64 k (subst (SFits w64) (sym e) h.1) ∙ e in
    ok same ∙ sym (cond-true (is_count_text bs) (Ok v) (Err Number) test)
  where
    ok : {p q : ℤ} → p ≡ q → (let z : Read ℤ = Ok p in z) ≡ Ok q
    ok e = ap (λ (q : ℤ). Ok q) e

pub count_refused : (bs : List ℕ) → ¬ (IsNumeral 10 (without_leading_sign bs) × SFits w64 (signed_digits_value 10 bs)) → (let z : Read ℤ = Err Number in z) ≡ count_of_text bs
count_refused bs h = elim (cases_Bool (is_count_text bs)) [
  | inl t ↦
      let v = signed_digits_value 10 bs in
      let ds = without_leading_sign bs in
      let no_plus = not (eqb (slice_index bs 0) 43) in
      let p = and_parts (no_plus && ltb 0 (length ds) && list_all is_ascii_digit ds) (has_64_bits v) t in
      let q = and_parts (no_plus && ltb 0 (length ds)) (list_all is_ascii_digit ds) p.0 in
      let r = and_parts no_plus (ltb 0 (length ds)) q.0 in
      absurd (h ((ltb-true 0 (length ds) r.1, own_digits.to ds q.1), fits_from_bits v p.1))
  | inr f ↦ sym (cond-false (is_count_text bs) (Ok (signed_digits_value 10 bs)) (Err Number) f)
]

-- ---- the form
pub bits_next : (ks : List ℤ) (z : ℤ) → list_all has_64_bits ks ≡ true → has_64_bits z ≡ true → list_all has_64_bits (ks ++ z ∷ []) ≡ true
bits_next [] z h b = and_from (has_64_bits z) true b refl
bits_next (k ∷ ks) z h b =
    let p = and_parts (has_64_bits k) (list_all has_64_bits ks) h in
    and_from (has_64_bits k) (list_all has_64_bits (ks ++ z ∷ [])) p.0 (bits_next ks z p.1 b)

pub counts_form : (ks : List ℤ) → length ks ≤ most_rows → list_all has_64_bits ks ≡ true → is_counts_form ks ≡ true
counts_form ks few bits = and_from (leb (length ks) most_rows) (list_all has_64_bits ks) (le-leb (length ks) most_rows few) bits

pub counts_formed : (p : PropId) (ks : List ℤ) → value_kind p ≡ kind.Counts → is_counts_form ks ≡ true → is_formed p (counts ks) ≡ true
counts_formed p ks is form = and_from (is_of_counts (value_kind p)) (is_counts_form ks) (ap is_of_counts is) form
