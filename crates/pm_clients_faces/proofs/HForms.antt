-- The h-vector of any list of numbers and any dimension: it has its form, and it is that of the definitions.
use Rattle.pm_geom.specs.FaceCounts.{h_entry, h_of}
use Rattle.pm_graph.specs.HVectors.{AreHNumbers, HasHVector, HasNoHVector}
use Rattle.pm_types.proofs.Bits.{bits_from_fits, fits_from_bits}
use Rattle.pm_types.specs.Forms.{has_64_bits, is_counts_form}
use Rattle.pm_types.specs.Right.{h_vector_of}
use Rattle.std.proofs.Common.{SFits, arith, inl, inr, refl, subst, sym, w64, ◌∙◌}
use Rattle.std.proofs.lemmas.Bool.{and_from, and_parts, cases_eq, cases_lt, le-leb}
use Rattle.std.proofs.lemmas.List.Elements.{All-cons, All-head, All-nil, All-tail}
use Rattle.std.proofs.lemmas.List.FromFn.{length-map-range_with_len}
use Rattle.std.specs.List.{All, list_all}
use Rattle.std.specs.Prelude.{Bool, List, [], false, if◌then◌else◌, length, nat_le, true, ℕ, ◌+◌, ◌∷◌, ◌≡◌, ◌≤◌, ◌⊎◌}
use lib.IntN.{negsuc, pos, ℤ}
use Rattle.pm_limits.specs.Limits.{most_dimensions, most_rows}

all_fit : (zs : List ℤ) → list_all has_64_bits zs ≡ true → All (SFits w64) zs
all_fit [] h = All-nil (SFits w64)
all_fit (z ∷ zs) h = let p = and_parts (has_64_bits z) (list_all has_64_bits zs) h in All-cons (SFits w64) z zs (fits_from_bits z p.0) (all_fit zs p.1)

all_bits : (zs : List ℤ) → All (SFits w64) zs → list_all has_64_bits zs ≡ true
all_bits [] h = refl
all_bits (z ∷ zs) h = and_from (has_64_bits z) (list_all has_64_bits zs) (bits_from_fits z (All-head (SFits w64) z zs h)) (all_bits zs (All-tail (SFits w64) z zs h))

not_both : (b : Bool) → b ≡ false → b ≡ true → ⊥
not_both true e f = cc
not_both false e f = cc

-- f has an h-vector of dimension m, or none
h_cases : (f : List ℤ) (m : ℕ) → HasHVector f m ⊎ ¬ (HasHVector f m)
h_cases f m = elim (cases_lt most_dimensions m) [
  | inl more ↦ inr (λ v. let few = v.few in absurd (omega arith))
  | inr few ↦ elim (cases_eq (length f) m) [ inr other ↦ inr (λ v. other v.entries) | inl same ↦ by few same (list_all has_64_bits (h_of f m)) refl ]
]
  where
    by : m ≤ most_dimensions → length f ≡ m → (b : Bool) → list_all has_64_bits (h_of f m) ≡ b → HasHVector f m ⊎ ¬ (HasHVector f m)
    by few same true bits = inl (record { few = few; entries = same; fit = all_fit (h_of f m) bits })
    by few same false wide = inr (λ v. not_both (list_all has_64_bits (h_of f m)) wide (all_bits (h_of f m) v.fit))

below_zero : (k n : ℕ) → negsuc k ≡ pos n → ⊥
below_zero k n e = cc

same_number : (m n : ℕ) → pos m ≡ pos n → m ≡ n
same_number m n e = cc

-- ---- the form
h_of_form : (f : List ℤ) (m : ℕ) → HasHVector f m → is_counts_form (h_of f m) ≡ true
h_of_form f m v =
    let count = length-map-range_with_len (h_entry f m) 0 (m + 1) in
    let few = v.few in
    and_from (nat_le (length (h_of f m)) most_rows) (list_all has_64_bits (h_of f m)) (le-leb (length (h_of f m)) most_rows (omega arith)) (all_bits (h_of f m) v.fit)

pub h_numbers_form : (f h : List ℤ) (d : ℤ) → AreHNumbers f d h → (HasNoHVector f d → h ≡ []) → is_counts_form h ≡ true
h_numbers_form f h (negsuc k) numbers none = subst (λ zs. is_counts_form zs ≡ true) (sym (none (λ n e v. below_zero k n e))) refl
h_numbers_form f h (pos m) numbers none = elim (h_cases f m) [
  | inl v ↦ subst (λ zs. is_counts_form zs ≡ true) (sym (numbers m refl v)) (h_of_form f m v)
  | inr no_vector ↦ subst (λ zs. is_counts_form zs ≡ true) (sym (none (λ n e v. no_vector (subst (HasHVector f) (sym (same_number m n e)) v)))) refl
]

-- ---- what it is
pub no_numbers : (f h : List ℤ) (d : ℤ) → d ≡ negsuc 0 → (HasNoHVector f d → h ≡ []) → h ≡ h_vector_of f d
no_numbers f h d e none = subst (λ z. h ≡ h_vector_of f z) (sym e) (none (λ n s v. below_zero 0 n (sym e ∙ s)))

pub numbers_are : (f h : List ℤ) (d : ℤ) (m : ℕ) → d ≡ pos m → m ≤ most_dimensions → length f ≡ m → AreHNumbers f d h → (HasNoHVector f d → h ≡ []) → h ≡ h_vector_of f d
numbers_are f h d m e few same numbers none = subst (λ z. h ≡ h_vector_of f z) (sym e) (by (list_all has_64_bits (h_of f m)) refl)
  where
    by : (b : Bool) → list_all has_64_bits (h_of f m) ≡ b → h ≡ (if b then h_of f m else [])
    by true bits = numbers m e (record { few = few; entries = same; fit = all_fit (h_of f m) bits })
    by false wide = none (λ n s v. not_both (list_all has_64_bits (h_of f m)) wide (all_bits (h_of f m) (subst (λ k. All (SFits w64) (h_of f k)) (sym (same_number m n (sym e ∙ s))) v.fit)))
