-- Double lists of few lines.
use Rattle.pm_minors.specs.Laws.{IsEnough, MinorsAreAtMost}
use Rattle.pm_minors.specs.Minors.{IsAtMost}
use Rattle.pm_minors.proofs.Laws.{basis_rows_are_bounded, description_is_never_lost}
use Rattle.pm_minors.proofs.Sizes.{abs_neg}
use Rattle.pm_vector.proofs.Lists.{Among, there, here}
use Rattle.pm_vector.proofs.RowLaws.{entry-opposite, length-opposite}
use Rattle.pm_vector.proofs.Spans.{place_of}
use Rattle.pm_vector.specs.Rows.{HasCols, Row, opposite}
use Rattle.pm_elim.proofs.BasisLaws.{row_length}
use Rattle.pm_vector.specs.Evidence.{IsBasisOf}
use Rattle.pm_dd.specs.Fronts.{both_signs}
use Rattle.pm_dd.specs.HullRefusals.{IsDoubleList}
use Rattle.pm_dd.specs.Lost.{DescriptionIsLost, PartsAreLost}
use Rattle.pm_laws_fitting.specs.Answers.{PartsAreNeverLostByCount}
use Rattle.pm_laws_fitting.specs.Sizes.{IsSizeFor}
use Rattle.pm_laws_fitting.proofs.Sized.{IsSized, Sized, none_lost, sized_append, sized_cols, sized_from, sized_size}
use Rattle.std.proofs.Common.{arith, inl, inr, subst, sym, ◌∙◌}
use Rattle.std.proofs.lemmas.List.{take_all}
use Rattle.std.specs.List.{All}
use Rattle.std.specs.Prelude.{List, [], length, take, ℕ, ◌++◌, ◌<◌, ◌∷◌, ◌≡◌, ◌≤◌}

pub sized_grows : (n M K : ℕ) (X : List Row) → M ≤ K → Sized n M X → Sized n K X
sized_grows n M K X h s = record { each = λ r m. let e = s.each r m in (e.0, λ i. let q = e.1 i in omega arith) }

opposite_sized : (n K : ℕ) (b : Row) → IsSized n K b → IsSized n K (opposite b)
opposite_sized n K b h = (length-opposite b ∙ h.0, λ i. rw (entry-opposite, abs_neg) (h.1 i))

signs_sized : (n K : ℕ) (B : List Row) → Sized n K B → Sized n K (both_signs B)
signs_sized n K [] s = s
signs_sized n K (b ∷ B) s =
    let first = s.each b here in
    let others = signs_sized n K B (record { each = λ r m. s.each r (there m) }) in
    record { each = λ r m. by r m first others }
  where
    by : (r : Row) → Among r (b ∷ opposite b ∷ both_signs B) → IsSized n K b → Sized n K (both_signs B) → IsSized n K r
    by r here first others = first
    by r (there here) first others = opposite_sized n K b first
    by r (there (there m)) first others = others.each r m

pub parts_are_never_lost_by_count : PartsAreNeverLostByCount
parts_are_never_lost_by_count n M k K L G some cl cg sl sg enough minors grows size =
    by (sized_grows n M K L grows (sized_from n M L cl sl)) (sized_grows n M K G grows (sized_from n M G cg sg))
  where
    some_K : 0 < K
    some_K = omega arith

    basis_sized : (B : List Row) (P : List ℕ) → IsBasisOf n L B P → Sized n K B
    basis_sized B P b = record {
      each = λ r m.
          let w = place_of m in
          let whole : IsBasisOf n (take (length L) L) B P = (let e = take_all (length L) L (omega arith) in rw e b) in
          subst (IsSized n K) w.2 (row_length n B w.0 b.echelon.cols w.1, basis_rows_are_bounded n M k K L some cl sl enough minors (length L) B P whole w.0 w.1);
    }

    listed : (D : List Row) → IsDoubleList n L G D → Sized n K G → DescriptionIsLost n D → ⊥
    listed D d g l =
        let s : Sized n K D = (let e = d.list in rw e (sized_append n K (both_signs d.basis) G (signs_sized n K d.basis (basis_sized d.basis d.pivots d.is_basis)) g)) in
        description_is_never_lost n K size.0 D some_K (sized_cols n K D s) (sized_size n K D s) size.1 size.2 l

    by : Sized n K L → Sized n K G → PartsAreLost n L G → ⊥
    by s g (inl l) = (none_lost n K L some_K size s).rows l
    by s g (inr (D, d, l)) = listed D d g l
