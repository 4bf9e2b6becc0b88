-- What is so of each place of a list is so of each element.
use Rattle.std.proofs.Common.{arith, get_or, subst, sym, ◌∙◌}
use Rattle.std.proofs.lemmas.List.{get_or_default}
use Rattle.std.proofs.lemmas.List.FromFn.{get_or-range_with_len, length-range_with_len}
use Rattle.std.specs.List.{All, range_with_len}
use Rattle.std.specs.Prelude.{List, length, ℕ, ◌<◌, ◌≡◌}

at_place : (n k d : ℕ) → k < n → get_or (range_with_len 0 n) k d ≡ k
at_place n k d l = get_or-range_with_len 0 n k d l ∙ omega arith

module _ {X : Type 0} (P : X → Type 0) (xs : List X) (z : X) where
  pub places_to : All (λ k. P (get_or xs k z)) (range_with_len 0 (length xs)) → All P xs
  places_to h k d l =
      let e = length-range_with_len 0 (length xs) in
      subst P (sym (get_or_default xs k d z l)) (subst (λ j. P (get_or xs j z)) (at_place (length xs) k 0 l) (h k 0 (omega arith)))

  pub places_back : All P xs → All (λ k. P (get_or xs k z)) (range_with_len 0 (length xs))
  places_back h k d l =
      let e = length-range_with_len 0 (length xs) in
      subst (λ j. P (get_or xs j z)) (sym (at_place (length xs) k d (omega arith))) (h k z (omega arith))
