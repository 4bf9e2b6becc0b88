-- Matrices of whole rows over 1, made row by row.
use Rattle.pm_vector.specs.Numbers.{InRange, Ratio}
use Rattle.pm_vector.specs.Rows.{Row}
use Rattle.pm_geom.proofs.Taken.{taken_push}
use Rattle.pm_fraction.specs.Matrices.{FractionMatrix}
use Rattle.pm_types.specs.Views.{ratios}
use Rattle.std.proofs.Common.{ap, get_or, map, subst, sym, take, ◌++◌, ◌+◌, ◌<◌, ◌∙◌}
use Rattle.std.proofs.lemmas.List.Elements.{All-push}
use Rattle.std.proofs.lemmas.List.{map-append}
use Rattle.std.specs.List.{All}
use Rattle.std.specs.Prelude.{List, [], length, ℕ, ◌∷◌, ◌≡◌}

-- one row more
pub ratios_more : (rows : List Row) (i : ℕ) (x : Row) (a b : FractionMatrix) (r : List Ratio) → i < length rows → x ≡ get_or rows i x → a.rows ≡ map ratios (take i rows)
    → b ≡ record { cols = a.cols; rows = a.rows ++ r ∷ [] } → r ≡ ratios x → b.rows ≡ map ratios (take (i + 1) rows)
ratios_more rows i x a b r within is so_far put over =
    let one : List Row = x ∷ [] in
    ap (λ m. m.rows) put ∙ ap (λ z. z ++ r ∷ []) so_far ∙ ap (λ z. map ratios (take i rows) ++ z ∷ []) over
    ∙ sym (map-append ratios (take i rows) one) ∙ sym (ap (map ratios) (taken_push rows i x within is))

pub in_range_more : (rows : List Row) (i : ℕ) (x : Row) → i < length rows → x ≡ get_or rows i x → All (All InRange) (take i rows) → All InRange x → All (All InRange) (take (i + 1) rows)
in_range_more rows i x within is so_far last = subst (All (All InRange)) (sym (taken_push rows i x within is)) (All-push (All InRange) (take i rows) x so_far last)
