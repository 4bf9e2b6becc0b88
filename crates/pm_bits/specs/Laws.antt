-- The laws of the order of rows, which its impls give.
use Rattle.std.proofs.Common.{◌≡◌, Bool, true, false, List, length, ap, sym, ◌∙◌, refl}
use Rattle.std.specs.declared.cmp.Ordering.{Ordering}
use Rattle.std.specs.declared.cmp.Ordering.TheVariants.{Less, Equal, Greater}
use Rattle.std.specs.Ordering.{ordering_then, nat_cmp, bool_cmp, flip_args, eq_by_cmp, is_eq}
use Rattle.std.specs.Bool.{beq}
use Rattle.std.specs.Cmp.{IsTotalOrder, IsEquivalence, bool_cmp_total, bool_eq_equiv, booleans_Decides}
use Rattle.std.specs.Cmp.Lexicographic.{pointwise, pointwise_decides, lists_ties}
use Rattle.std.proofs.lemmas.Cmp.{on_total, then_total, back_total, lists_total, nat_cmp_total, lists_equiv, tied_itself}
use Rattle.pm_bits.specs.Sets.{first_difference_cmp, row_cmp}

pub first_difference_cmp_total : IsTotalOrder first_difference_cmp
first_difference_cmp_total = lists_total (back_total bool_cmp_total)

pub row_cmp_total : IsTotalOrder row_cmp
row_cmp_total = then_total (on_total length nat_cmp_total) first_difference_cmp_total

pub rows_equal_equiv : IsEquivalence (pointwise beq)
rows_equal_equiv = lists_equiv bool_eq_equiv

bits_tie : (x y : Bool) → beq x y ≡ eq_by_cmp (flip_args bool_cmp) x y
bits_tie true true = refl
bits_tie true false = refl
bits_tie false true = refl
bits_tie false false = refl

is_eq-then : (r s : Ordering) → (is_eq s ≡ true → r ≡ Equal) → is_eq s ≡ is_eq (ordering_then r s)
is_eq-then Less Less h = refl
is_eq-then Less Equal h = ap is_eq (sym (h refl))
is_eq-then Less Greater h = refl
is_eq-then Equal s h = refl
is_eq-then Greater Less h = refl
is_eq-then Greater Equal h = ap is_eq (sym (h refl))
is_eq-then Greater Greater h = refl

-- rows are equal exactly where their order is
pub rows_tie : (x y : List Bool) → pointwise beq x y ≡ eq_by_cmp row_cmp x y
rows_tie x y =
    let e = lists_ties (flip_args bool_cmp) bits_tie x y in
    let long : is_eq (first_difference_cmp x y) ≡ true → nat_cmp (length x) (length y) ≡ Equal =
    λ h. ap (λ (row : List Bool). nat_cmp (length x) (length row))
    (sym ((pointwise_decides booleans_Decides x y).0 (e ∙ h))) ∙ tied_itself nat_cmp_total (length x) in
    e ∙ is_eq-then (nat_cmp (length x) (length y)) (first_difference_cmp x y) long
