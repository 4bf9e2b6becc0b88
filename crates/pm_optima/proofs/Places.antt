-- The places of the rows on which a row vanishes, one row after the other.
use Rattle.pm_vector.specs.Rows.{Row, dot}
use Rattle.pm_geom.specs.Faces.{ray}
use Rattle.pm_optima.specs.Objectives.{AreZeroPlaces}
use Rattle.pm_types.specs.Forms.{has_64_bits, is_counts_form}
use Rattle.std.proofs.Common.{ap, arith, get_or, inl, inr, refl, subst, suc, sym, to_z, true, w64, ◌∙◌}
use Rattle.std.proofs.lemmas.Bool.{and_from, cases_lt, le-leb, lt-ltb}
use Rattle.std.proofs.lemmas.Int.{to_z_pos}
use Rattle.std.proofs.lemmas.List.{length-append, map_push}
use Rattle.std.proofs.lemmas.List.Elements.{Contains-append_left, Contains-get_or, Contains-push, Contains-push_cases}
use Rattle.std.proofs.lemmas.List.Quantifiers.{all_pairs_push}
use Rattle.std.specs.List.{Contains, list_all}
use Rattle.std.specs.Prelude.{List, [], length, map, nat_le, ℕ, ◌+◌, ◌++◌, ◌∷◌, ◌≡◌, ◌≤◌, ◌<◌, ◌^◌}
use lib.IntN.{pos, ℤ}
use Rattle.pm_limits.specs.Limits.{most_rows}

-- w vanishes on the row at that place
abbrev pub VanishesAt : Row → List Row → ℕ → Type 0
VanishesAt w V j = dot w (ray V j) ≡ pos 0

-- the places among the first n, which are at most n
pub record PlacesSoFar (w : Row) (V : List Row) (n : ℕ) (ks : List ℤ) : Type 0 where
  pub are : AreZeroPlaces w V n ks
  pub few : length ks ≤ n

pub none_yet : (w : Row) (V : List Row) → PlacesSoFar w V 0 []
none_yet w V = record {
  are = record { js = []; places = refl; ascending = λ i j d l m. absurd (omega arith); each = λ j. (λ c. absurd (let l = c.1 in omega arith), λ h. absurd (let l = h.0 in omega arith)) };
  few = omega arith;
}

module _ (w : Row) (V : List Row) (n : ℕ) (ks : List ℤ) (so_far : PlacesSoFar w V n ks) where
  abbrev pub a : AreZeroPlaces w V n ks
  a = so_far.are

  -- a row more on which it vanishes
  place_more : VanishesAt w V n → n ≤ most_rows → AreZeroPlaces w V (n + 1) (ks ++ to_z w64 n ∷ [])
  place_more z few = record {
    js = a.js ++ n ∷ [];
    places = ap (λ k. ks ++ k ∷ []) (to_z_pos w64 n (omega arith)) ∙ ap (λ xs. xs ++ pos n ∷ []) a.places ∙ sym (map_push pos a.js n);
    ascending = all_pairs_push (λ i j. i < j) a.js n a.ascending (λ k d l. ((a.each (get_or a.js k d)).0 (Contains-get_or a.js k d l)).0);
    each = λ j. (to j, from j);
  }
    where
      to : (j : ℕ) → Contains (a.js ++ n ∷ []) j → (j < n + 1) × VanishesAt w V j
      to j c = elim (Contains-push_cases a.js n j c) [
        | inl i ↦ let h = (a.each j).0 i in (let l = h.0 in omega arith, h.1)
        | inr same ↦ (omega arith, subst (VanishesAt w V) same z)
      ]

      from : (j : ℕ) → (j < n + 1) × VanishesAt w V j → Contains (a.js ++ n ∷ []) j
      from j h = elim (cases_lt j n) [
        | inl l ↦ Contains-append_left a.js (n ∷ []) j ((a.each j).1 (l, h.1))
        | inr g ↦ (let l = h.0 in let same : n ≡ j = omega arith in subst (Contains (a.js ++ n ∷ [])) same (Contains-push a.js n))
      ]

  pub one_more : (more : List ℤ) → VanishesAt w V n → n ≤ most_rows → more ≡ ks ++ to_z w64 n ∷ [] → PlacesSoFar w V (n + 1) more
  one_more more z few e = subst (PlacesSoFar w V (n + 1)) (sym e) (record { are = place_more z few; few = let long = length-append ks (to_z w64 n ∷ []) in let low = so_far.few in omega arith })

  -- a row more on which it does not
  pub one_left : ¬ (VanishesAt w V n) → PlacesSoFar w V (n + 1) ks
  one_left z = record {
    are = record { js = a.js; places = a.places; ascending = a.ascending; each = λ j. (λ c. let h = (a.each j).0 c in (let l = h.0 in omega arith, h.1), back j) };
    few = let low = so_far.few in omega arith;
  }
    where
      back : (j : ℕ) → (j < n + 1) × VanishesAt w V j → Contains a.js j
      back j h = elim (cases_lt j n) [
        | inl l ↦ (a.each j).1 (l, h.1)
        | inr g ↦ (let l = h.0 in let same : j ≡ n = omega arith in absurd (z (subst (VanishesAt w V) same h.1)))
      ]

-- ---- the form of such places
bits_of : (js : List ℕ) → ((j : ℕ) → Contains js j → j < 2 ^ 63) → list_all has_64_bits (map pos js) ≡ true
bits_of [] h = refl
bits_of (j ∷ js) h = and_from (has_64_bits (pos j)) (list_all has_64_bits (map pos js)) (lt-ltb j (2 ^ 63) (h j (0, (omega arith), refl))) (bits_of js (λ i c. h i (suc c.0, (let l = c.1 in omega arith), c.2)))

pub places_form : (w : Row) (V : List Row) (n : ℕ) (ks : List ℤ) → PlacesSoFar w V n ks → n ≤ most_rows → is_counts_form ks ≡ true
places_form w V n ks so_far few =
    and_from (nat_le (length ks) most_rows) (list_all has_64_bits ks) (le-leb (length ks) most_rows (let low = so_far.few in omega arith))
    (subst (λ zs. list_all has_64_bits zs ≡ true) (sym so_far.are.places) (bits_of so_far.are.js (λ j c. let h = (so_far.are.each j).0 c in let l = h.0 in omega arith)))
