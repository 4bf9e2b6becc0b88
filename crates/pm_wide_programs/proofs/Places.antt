-- The places of the rays at which a value stands, one ray after the other.
use Rattle.pm_limits.specs.Limits.{most_rows}
use Rattle.pm_types.specs.Forms.{has_64_bits, is_counts_form}
use Rattle.pm_vector.specs.Bases.{row_at}
use Rattle.pm_vector.specs.Numbers.{Ratio}
use Rattle.pm_vector.specs.Rows.{Row}
use Rattle.pm_wide_programs.specs.Slacks.{AreLevelPlaces, slack_of}
use Rattle.std.proofs.Common.{ap, arith, get_or, inl, inr, refl, subst, suc, sym, to_z, true, w64, ◌∙◌}
use Rattle.std.proofs.lemmas.Bool.{and_from, cases_lt, le-leb, lt-ltb}
use Rattle.std.proofs.lemmas.Int.{to_z_pos}
use Rattle.std.proofs.lemmas.List.{length-append, map_push}
use Rattle.std.proofs.lemmas.List.Elements.{Contains-append_left, Contains-get_or, Contains-push, Contains-push_cases}
use Rattle.std.proofs.lemmas.List.Quantifiers.{all_pairs_push}
use Rattle.std.specs.List.{Contains, list_all}
use Rattle.std.specs.Prelude.{List, [], length, map, nat_le, ℕ, ◌+◌, ◌++◌, ◌<◌, ◌^◌, ◌∷◌, ◌≡◌, ◌≤◌}
use lib.IntN.{pos, ℤ}

-- the value stands at the ray at that place
abbrev pub IsLevelAt : ℤ → Row → Ratio → List Row → ℕ → Type 0
IsLevelAt k w v V j = slack_of k w v (row_at V j) ≡ pos 0

-- the places among the first n, which are at most n
pub record PlacesSoFar (k : ℤ) (w : Row) (v : Ratio) (V : List Row) (n : ℕ) (ks : List ℤ) : Type 0 where
  pub are : AreLevelPlaces k w v V n ks
  pub few : length ks ≤ n

pub none_yet : (k : ℤ) (w : Row) (v : Ratio) (V : List Row) → PlacesSoFar k w v V 0 []
none_yet k w v V = record {
  are = record { js = []; places = refl; ascending = λ i j d l m. absurd (omega arith); each = λ j. (λ c. absurd (let l = c.1 in omega arith), λ h. absurd (let l = h.0 in omega arith)) };
  few = omega arith;
}

module _ (k : ℤ) (w : Row) (v : Ratio) (V : List Row) (n : ℕ) (ks : List ℤ) (so_far : PlacesSoFar k w v V n ks) where
  abbrev pub a : AreLevelPlaces k w v V n ks
  a = so_far.are

  -- a ray more at which it stands
  place_more : IsLevelAt k w v V n → n ≤ most_rows → AreLevelPlaces k w v V (n + 1) (ks ++ to_z w64 n ∷ [])
  place_more z few = record {
    js = a.js ++ n ∷ [];
    places = ap (λ i. ks ++ i ∷ []) (to_z_pos w64 n (omega arith)) ∙ ap (λ xs. xs ++ pos n ∷ []) a.places ∙ sym (map_push pos a.js n);
    ascending = all_pairs_push (λ i j. i < j) a.js n a.ascending (λ i d l. ((a.each (get_or a.js i d)).0 (Contains-get_or a.js i d l)).0);
    each = λ j. (to j, from j);
  }
    where
      to : (j : ℕ) → Contains (a.js ++ n ∷ []) j → (j < n + 1) × IsLevelAt k w v V j
      to j c = elim (Contains-push_cases a.js n j c) [
        | inl i ↦ let h = (a.each j).0 i in (let l = h.0 in omega arith, h.1)
        | inr same ↦ (omega arith, subst (IsLevelAt k w v V) same z)
      ]

      from : (j : ℕ) → (j < n + 1) × IsLevelAt k w v V j → Contains (a.js ++ n ∷ []) j
      from j h = elim (cases_lt j n) [
        | inl l ↦ Contains-append_left a.js (n ∷ []) j ((a.each j).1 (l, h.1))
        | inr g ↦ (let l = h.0 in let same : n ≡ j = omega arith in subst (Contains (a.js ++ n ∷ [])) same (Contains-push a.js n))
      ]

  pub one_more : (more : List ℤ) → IsLevelAt k w v V n → n ≤ most_rows → more ≡ ks ++ to_z w64 n ∷ [] → PlacesSoFar k w v V (n + 1) more
  one_more more z few e = subst (PlacesSoFar k w v V (n + 1)) (sym e) (record { are = place_more z few; few = let long = length-append ks (to_z w64 n ∷ []) in let low = so_far.few in omega arith })

  -- a ray more at which it does not
  pub one_left : ¬ (IsLevelAt k w v V n) → PlacesSoFar k w v V (n + 1) ks
  one_left z = record {
    are = record { js = a.js; places = a.places; ascending = a.ascending; each = λ j. (λ c. let h = (a.each j).0 c in (let l = h.0 in omega arith, h.1), back j) };
    few = let low = so_far.few in omega arith;
  }
    where
      back : (j : ℕ) → (j < n + 1) × IsLevelAt k w v V j → Contains a.js j
      back j h = elim (cases_lt j n) [
        | inl l ↦ (a.each j).1 (l, h.1)
        | inr g ↦ (let l = h.0 in let same : j ≡ n = omega arith in absurd (z (subst (IsLevelAt k w v V) same h.1)))
      ]

-- ---- the form of such places
bits_of : (js : List ℕ) → ((j : ℕ) → Contains js j → j < 2 ^ 63) → list_all has_64_bits (map pos js) ≡ true
bits_of [] h = refl
bits_of (j ∷ js) h = and_from (has_64_bits (pos j)) (list_all has_64_bits (map pos js)) (lt-ltb j (2 ^ 63) (h j (0, (omega arith), refl))) (bits_of js (λ i c. h i (suc c.0, (let l = c.1 in omega arith), c.2)))

pub places_form : (k : ℤ) (w : Row) (v : Ratio) (V : List Row) (n : ℕ) (ks : List ℤ) → PlacesSoFar k w v V n ks → n ≤ most_rows → is_counts_form ks ≡ true
places_form k w v V n ks so_far few =
    and_from (nat_le (length ks) most_rows) (list_all has_64_bits ks) (le-leb (length ks) most_rows (let low = so_far.few in omega arith))
    (subst (λ zs. list_all has_64_bits zs ≡ true) (sym so_far.are.places) (bits_of so_far.are.js (λ j c. let h = (so_far.are.each j).0 c in let l = h.0 in omega arith)))
