-- The places of rows whose first entry is 0, one row after the other.
use Rattle.pm_vector.specs.Numbers.{Ratio}
use Rattle.pm_clients_counts.specs.Places.{AreZeroPlaces}
use Rattle.pm_relations.specs.FirstEntries.{HasZeroFirst}
use Rattle.pm_types.specs.Forms.{has_64_bits, is_counts_form}
use Rattle.std.proofs.Common.{ap, arith, get_or, inl, inr, refl, subst, sym, to_z, true, w64, ◌∙◌}
use Rattle.std.proofs.lemmas.Bool.{and_from, cases_lt, le-leb, lt-ltb}
use Rattle.std.proofs.lemmas.Int.{to_z_pos}
use Rattle.std.proofs.lemmas.List.{length-append, map_push}
use Rattle.std.proofs.lemmas.List.Elements.{Contains-append_left, Contains-get_or, Contains-push, Contains-push_cases}
use Rattle.std.proofs.lemmas.List.Quantifiers.{all_pairs_push}
use Rattle.std.specs.List.{Contains, list_all, slice_index_or}
use Rattle.std.specs.Prelude.{List, [], length, map, nat_le, suc, ℕ, ◌+◌, ◌++◌, ◌∷◌, ◌≡◌, ◌≤◌, ◌<◌, ◌^◌}
use lib.IntN.{pos, ℤ}
use Rattle.pm_limits.specs.Limits.{most_rows}

pub no_places : (rows : List (List Ratio)) → AreZeroPlaces rows 0 []
no_places rows = record { js = []; places = refl; ascending = λ i j d l m. absurd (omega arith); zero = λ j. (λ c. absurd (let l = c.1 in omega arith), λ w. absurd (let l = w.0 in omega arith)) }

module _ (rows : List (List Ratio)) (n : ℕ) (ks : List ℤ) (a : AreZeroPlaces rows n ks) where
  -- a row more whose first entry is 0
  pub place_more : (more : List ℤ) → HasZeroFirst (slice_index_or rows n []) → n ≤ most_rows → more ≡ ks ++ to_z w64 n ∷ [] → AreZeroPlaces rows (n + 1) more
  place_more more z few e = record {
    js = a.js ++ n ∷ [];
    places = e ∙ ap (λ k. ks ++ k ∷ []) (to_z_pos w64 n (omega arith)) ∙ ap (λ xs. xs ++ pos n ∷ []) a.places ∙ sym (map_push pos a.js n);
    ascending = all_pairs_push (λ i j. i < j) a.js n a.ascending (λ k d l. ((a.zero (get_or a.js k d)).0 (Contains-get_or a.js k d l)).0);
    zero = λ j. (to j, from j);
  }
    where
      to : (j : ℕ) → Contains (a.js ++ n ∷ []) j → (j < n + 1) × HasZeroFirst (slice_index_or rows j [])
      to j c = elim (Contains-push_cases a.js n j c) [
        | inl i ↦ let w = (a.zero j).0 i in (let l = w.0 in omega arith, w.1)
        | inr same ↦ (omega arith, subst (λ k. HasZeroFirst (slice_index_or rows k [])) same z)
      ]

      from : (j : ℕ) → (j < n + 1) × HasZeroFirst (slice_index_or rows j []) → Contains (a.js ++ n ∷ []) j
      from j w = elim (cases_lt j n) [
        | inl l ↦ Contains-append_left a.js (n ∷ []) j ((a.zero j).1 (l, w.1))
        | inr g ↦ (let l = w.0 in let same : n ≡ j = omega arith in subst (Contains (a.js ++ n ∷ [])) same (Contains-push a.js n))
      ]

  -- a row more whose first entry is not 0
  pub place_left : ¬ (HasZeroFirst (slice_index_or rows n [])) → AreZeroPlaces rows (n + 1) ks
  place_left z = record { js = a.js; places = a.places; ascending = a.ascending; zero = λ j. (λ c. let w = (a.zero j).0 c in (let l = w.0 in omega arith, w.1), back j) }
    where
      back : (j : ℕ) → (j < n + 1) × HasZeroFirst (slice_index_or rows j []) → Contains a.js j
      back j w = elim (cases_lt j n) [
        | inl l ↦ (a.zero j).1 (l, w.1)
        | inr g ↦ (let l = w.0 in let same : j ≡ n = omega arith in absurd (z (subst (λ k. HasZeroFirst (slice_index_or rows k [])) same w.1)))
      ]

-- ---- the places of the first n rows, which are at most n
pub record PlacesSoFar (rows : List (List Ratio)) (n : ℕ) (ks : List ℤ) : Type 0 where
  pub are : AreZeroPlaces rows n ks
  pub few : length ks ≤ n

module _ (rows : List (List Ratio)) (n : ℕ) (ks : List ℤ) (a : PlacesSoFar rows n ks) where
  pub so_far_more : (more : List ℤ) → HasZeroFirst (slice_index_or rows n []) → n ≤ most_rows → more ≡ ks ++ to_z w64 n ∷ [] → PlacesSoFar rows (n + 1) more
  so_far_more more z few e = record {
    are = place_more rows n ks a.are more z few e;
    few = let long = ap length e ∙ length-append ks (to_z w64 n ∷ []) in let low = a.few in omega arith;
  }

  pub so_far_left : (same : List ℤ) → ¬ (HasZeroFirst (slice_index_or rows n [])) → same ≡ ks → PlacesSoFar rows (n + 1) same
  so_far_left same z e = subst (PlacesSoFar rows (n + 1)) (sym e) (record { are = place_left rows n ks a.are z; few = let low = a.few in omega arith })

-- ---- the form of such places
bits_of : (js : List ℕ) → ((j : ℕ) → Contains js j → j < 2 ^ 63) → list_all has_64_bits (map pos js) ≡ true
bits_of [] h = refl
bits_of (j ∷ js) h = and_from (has_64_bits (pos j)) (list_all has_64_bits (map pos js)) (lt-ltb j (2 ^ 63) (h j (0, (omega arith), refl))) (bits_of js (λ i c. h i (suc c.0, (let l = c.1 in omega arith), c.2)))

pub places_form : (rows : List (List Ratio)) (n : ℕ) (ks : List ℤ) → AreZeroPlaces rows n ks → n ≤ most_rows → length ks ≤ most_rows → is_counts_form ks ≡ true
places_form rows n ks a few short =
    and_from (nat_le (length ks) most_rows) (list_all has_64_bits ks) (le-leb (length ks) most_rows short)
    (subst (λ zs. list_all has_64_bits zs ≡ true) (sym a.places) (bits_of a.js (λ j c. let w = (a.zero j).0 c in let l = w.0 in omega arith)))
