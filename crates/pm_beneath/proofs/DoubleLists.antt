-- The double description list of lines and rays.
use Rattle.pm_vector.proofs.ConeLaws.{in_generator, in_line, in_line_opposite, in_through}
use Rattle.pm_vector.proofs.Lists.{Among, here, there}
use Rattle.pm_vector.proofs.RowLaws.{length-opposite}
use Rattle.pm_vector.specs.Cones.{InSpan}
use Rattle.pm_vector.specs.Rows.{HasCols, Row, opposite}
use Rattle.pm_laws_placing.proofs.Triangulates.{placing_triangulates}
use Rattle.pm_beneath.specs.DoubleLists.{DoubleListTriangulates}
use Rattle.pm_dd.specs.Fronts.{both_signs}
use Rattle.std.specs.Prelude.{ℕ, List, [], ◌∷◌}
use Rattle.std.proofs.Common.{◌∙◌}

signs_cols : (n : ℕ) (B : List Row) → HasCols n B → HasCols n (both_signs B)
signs_cols n [] h = tt
signs_cols n (l ∷ B) h = (h.0, (length-opposite l ∙ h.0, signs_cols n B h.1))

sign_of : (B : List Row) (g : Row) → Among g (both_signs B) → InSpan B g
sign_of [] g i = elim i [ ]
sign_of (l ∷ B) g here = in_line (here {xs = B})
sign_of (l ∷ B) g (there here) = in_line_opposite (here {xs = B})
sign_of (l ∷ B) g (there (there i)) = in_through [] (l ∷ B) [] B (λ y k. elim k [ ]) (λ y k. (in_line (there k), in_line_opposite (there k))) (sign_of B g i)

signed : (B : List Row) (l : Row) → Among l B → Among l (both_signs B) × Among (opposite l) (both_signs B)
signed [] l i = elim i [ ]
signed (b ∷ B) l here = (here, there here)
signed (b ∷ B) l (there i) = let r = signed B l i in (there (there r.0), there (there r.1))

pub double_list_triangulates : DoubleListTriangulates
double_list_triangulates n L G basis pivots hL hG b T pl =
    placing_triangulates n (both_signs basis) G L (signs_cols n basis b.echelon.basis.cols) hG hL
    (λ x l. (
      λ h. (b.span.same x).0 (in_through [] basis (both_signs basis) [] (sign_of basis) (λ y k. elim k [ ]) h),
      λ h. in_through (both_signs basis) [] [] basis (λ y k. elim k [ ]) (λ y k. let r = signed basis y k in (in_generator r.0, in_generator r.1)) ((b.span.same x).1 h),
    ))
    T pl
