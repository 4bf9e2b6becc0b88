-- Words that ask for properties, of which at most four are different.
use Rattle.std.proofs.Common.{ap, arith, bytes_eq, false, refl, sym, true, ◌∙◌, ◌≡◌}
use Rattle.std.proofs.lemmas.List.{length-append, map-append, take_more}
use Rattle.std.proofs.lemmas.List.Folds.{list_all-map}
use Rattle.std.proofs.Math.Seq.{drop-cons}
use Rattle.std.specs.List.{list_all, list_any}
use Rattle.std.specs.Prelude.{Bool, List, [], drop, fold, get_or, if◌then◌else◌, length, map, nat_le, suc, take, ℕ, ◌&&◌, ◌+◌, ◌++◌, ◌<◌, ◌≤◌, ◌∷◌, ◌||◌}
use Rattle.pm_command.specs.Words.{are_asked, distinct, is_property_word, with_word}

longer : (seen words : List (List ℕ)) → length seen ≤ length (fold with_word seen words)
longer seen [] = omega arith
longer seen (w ∷ words) = by (list_any (bytes_eq w) seen) (longer seen words) (longer (seen ++ w ∷ []) words)
  where
    by : (b : Bool) → length seen ≤ length (fold with_word seen words) → length (seen ++ w ∷ []) ≤ length (fold with_word (seen ++ w ∷ []) words)
        → length seen ≤ length (fold with_word (if b then seen else seen ++ w ∷ []) words)
    by true same more = same
    by false same more = let l = length-append seen (w ∷ []) in omega (arith, more, l)

any_mapped : {X : Type 0} (f : X → List ℕ) (w : List ℕ) (xs : List X) → list_any (bytes_eq w) (map f xs) ≡ list_any (λ x. bytes_eq w (f x)) xs
any_mapped f w [] = refl
any_mapped f w (x ∷ xs) = ap (λ b. bytes_eq w (f x) || b) (any_mapped f w xs)

module _ {X : Type 0} (f : X → List ℕ) (seen xs : List X) (i : ℕ) (d : X) (within : i < length xs) where
  next : map f (drop i xs) ≡ f (get_or xs i d) ∷ map f (drop (i + 1) xs)
  next = let after : suc i ≡ i + 1 = omega arith in ap (map f) (drop-cons xs i d within) ∙ ap (λ k. f (get_or xs i d) ∷ map f (drop k xs)) after

  goes_on : (all : List (List ℕ)) → fold with_word (map f seen) (map f (drop i xs)) ≡ all → fold with_word (with_word (map f seen) (f (get_or xs i d))) (map f (drop (i + 1) xs)) ≡ all
  goes_on all h = ap (fold with_word (map f seen)) (sym next) ∙ h

  either : (b : Bool) (all : List (List ℕ)) → list_any (λ x. bytes_eq (f (get_or xs i d)) (f x)) seen ≡ b → fold with_word (map f seen) (map f (drop i xs)) ≡ all
      → fold with_word (if b then map f seen else map f seen ++ f (get_or xs i d) ∷ []) (map f (drop (i + 1) xs)) ≡ all
  either b all is h =
      ap (λ z. fold with_word (if z then map f seen else map f seen ++ f (get_or xs i d) ∷ []) (map f (drop (i + 1) xs))) (sym (any_mapped f (f (get_or xs i d)) seen ∙ is)) ∙ goes_on all h

  pub seen_before : (all : List (List ℕ)) → list_any (λ x. bytes_eq (f (get_or xs i d)) (f x)) seen ≡ true → fold with_word (map f seen) (map f (drop i xs)) ≡ all
      → fold with_word (map f seen) (map f (drop (i + 1) xs)) ≡ all
  seen_before all among h = either true all among h

  pub seen_now : (y : X) (all : List (List ℕ)) → list_any (λ x. bytes_eq (f (get_or xs i d)) (f x)) seen ≡ false → f y ≡ f (get_or xs i d) → fold with_word (map f seen) (map f (drop i xs)) ≡ all
      → fold with_word (map f (seen ++ y ∷ [])) (map f (drop (i + 1) xs)) ≡ all
  seen_now y all other same h =
      ap (λ z. fold with_word z (map f (drop (i + 1) xs))) (map-append f seen (y ∷ []) ∙ ap (λ z. map f seen ++ z ∷ []) same) ∙ either false all other h

  pub too_many : (all : List (List ℕ)) → list_any (λ x. bytes_eq (f (get_or xs i d)) (f x)) seen ≡ false → length seen ≡ 4 → fold with_word (map f seen) (map f (drop i xs)) ≡ all → false ≡ nat_le (length all) 4
  too_many all other full h =
      let more = longer (map f seen ++ f (get_or xs i d) ∷ []) (map f (drop (i + 1) xs)) in
      let l = length-append (map f seen) (f (get_or xs i d) ∷ []) in
      let m = length_mapped seen in
      let n = ap length (either false all other h) in
      above (length all) (omega (arith, more, l, m, n, full))
    where
      length_mapped : (ys : List X) → length (map f ys) ≡ length ys
      length_mapped [] = refl
      length_mapped (y ∷ ys) = let m = length_mapped ys in omega (arith, m)

      above : (n : ℕ) → 4 < n → false ≡ nat_le n 4
      above n h = grind arith

pub one_more : {X : Type 0} (seen : List X) (y : X) → length seen ≤ 4 → (length seen ≡ 4 → ⊥) → length (seen ++ y ∷ []) ≤ 4
one_more seen y few not_full = let l = length-append seen (y ∷ []) in below (length seen) (length (seen ++ y ∷ [])) few not_full l
  where
    below : (n k : ℕ) → n ≤ 4 → (n ≡ 4 → ⊥) → k ≡ n + 1 → k ≤ 4
    below n k h f e = omega (arith, h, f, e)

-- ---- what is asked, from its words
module _ {X : Type 0} (f : X → List ℕ) (xs ys : List X) (words : List (List ℕ)) (b : Bool) (is : ys ≡ xs) (mapped : map f xs ≡ words) (properties : b ≡ list_all (λ x. is_property_word (f x)) ys) where
  all_words : list_all is_property_word words ≡ b
  all_words = ap (list_all is_property_word) (sym mapped) ∙ list_all-map is_property_word f xs ∙ ap (list_all (λ x. is_property_word (f x))) (sym is) ∙ sym properties

  few_words : (zs : List X) (c : Bool) → zs ≡ xs → c ≡ nat_le (length (distinct (map f zs))) 4 → nat_le (length (distinct words)) 4 ≡ c
  few_words zs c same few = ap (λ w. nat_le (length (distinct w)) 4) (sym (ap (map f) same ∙ mapped)) ∙ sym few

  pub are : (zs : List X) (c : Bool) → zs ≡ xs → c ≡ nat_le (length (distinct (map f zs))) 4 → b ≡ true → c ≡ true → are_asked words ≡ true
  are zs c same few t u = both (list_all is_property_word words) (nat_le (length (distinct words)) 4) (all_words ∙ t) (few_words zs c same few ∙ u)
    where
      both : (p q : Bool) → p ≡ true → q ≡ true → (p && q) ≡ true
      both p q h k = cc

  pub are_not : b ≡ false → are_asked words ≡ false
  are_not t = first (list_all is_property_word words) (nat_le (length (distinct words)) 4) (all_words ∙ t)
    where
      first : (p q : Bool) → p ≡ false → (p && q) ≡ false
      first p q h = cc

  pub are_many : (zs : List X) (c : Bool) → zs ≡ xs → c ≡ nat_le (length (distinct (map f zs))) 4 → c ≡ false → are_asked words ≡ false
  are_many zs c same few u = second (list_all is_property_word words) (nat_le (length (distinct words)) 4) (few_words zs c same few ∙ u)
    where
      second : (p q : Bool) → q ≡ false → (p && q) ≡ false
      second true q h = h
      second false q h = refl

-- one more of the words that are copied, seen through what a copy and a word say
pub one_copied : {X Y Z : Type 0} (f : X → Y) (g : Z → Y) (words : List Z) (copies : List X) (x : X) (i : ℕ) (d : Z) → map f copies ≡ map g (take i words) → i < length words → f x ≡ g (get_or words i d)
    → map f (copies ++ x ∷ []) ≡ map g (take (i + 1) words)
one_copied f g words copies x i d h l e =
    map-append f copies (x ∷ []) ∙ ap (λ ys. ys ++ f x ∷ []) h ∙ ap (λ y. map g (take i words) ++ y ∷ []) e ∙ sym (map-append g (take i words) (get_or words i d ∷ [])) ∙ ap (map g) (sym (take_more words i d l))
