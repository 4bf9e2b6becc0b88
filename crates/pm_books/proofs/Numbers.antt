-- The numbers that digits spell.
use Rattle.std.proofs.Common.{◌≡◌, ℕ, ◌+◌, ◌-◌, ◌*◌, ◌<◌, min, List, [], ◌∷◌, length, drop, get_or, sym, ap, ◌∙◌, arith}
use Rattle.std.proofs.lemmas.List.{drop_more}
use Rattle.pm_books.specs.Reading.{number_on}

-- what is cut off at a bound stays cut off there
pub number_on-min : (bound a : ℕ) (ds : List ℕ) → min (number_on (min a bound) ds) bound ≡ min (number_on a ds) bound
number_on-min bound a [] = omega arith
number_on-min bound a (d ∷ ds) =
    let x = 10 * min a bound + (d - 48) in
    let y = 10 * a + (d - 48) in
    let same : min x bound ≡ min y bound = omega arith in
    sym (number_on-min bound x ds) ∙ ap (λ n. min (number_on n ds) bound) same ∙ number_on-min bound y ds

-- one digit more
pub number_step : (bound n m i d : ℕ) (text : List ℕ) → i < length text → d ≡ get_or text i 0 → m ≡ min (10 * n + (d - 48)) bound
    → min (number_on m (drop (i + 1) text)) bound ≡ min (number_on n (drop i text)) bound
number_step bound n m i d text within is_d is_m =
    let split : drop i text ≡ d ∷ drop (i + 1) text = drop_more text i 0 within ∙ ap (λ b. b ∷ drop (i + 1) text) (sym is_d) in
    ap (λ k. min (number_on k (drop (i + 1) text)) bound) is_m ∙ number_on-min bound (10 * n + (d - 48)) (drop (i + 1) text)
    ∙ ap (λ bs. min (number_on n bs) bound) (sym split)
