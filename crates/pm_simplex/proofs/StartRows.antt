-- Row i of the start, place by place.
use Rattle.pm_vector.specs.Numbers.{Ratio}
use Rattle.pm_vector.specs.Rows.{Row, ratio_at}
use Rattle.pm_fraction.specs.Fractions.{ratio_of}
use Rattle.pm_fraction.specs.Matrices.{IsFraction}
use Rattle.pm_simplex.proofs.KeyColumns.{nat_eq_no}
use Rattle.pm_simplex.proofs.Pushed.{count_pushed, pushed}
use Rattle.pm_simplex.specs.Starts.{IsStartRow, body_at, help_of, start_at}
use Rattle.pm_simplex.specs.declared.layout.Layout.{Layout}
use Rattle.std.proofs.Common.{arith, eq-eqb, refl, sym, ◌∙◌}
use Rattle.std.specs.Prelude.{List, [], length, ℕ, ◌++◌, ◌<◌, ◌∷◌, ◌≡◌}
use lib.IntN.{pos}

pub start_body : (y : Layout) (A B : List Row) (c : List Ratio) (i k : ℕ) → k < y.cols → start_at y A B c i k ≡ body_at y A B c i k
start_body y A B c i k l = let t = nat_eq_no k y.cols (λ e. omega arith) in rw t refl

pub start_help : (y : Layout) (A B : List Row) (c : List Ratio) (i : ℕ) → start_at y A B c i y.cols ≡ ratio_of (help_of y i) (pos 1)
start_help y A B c i = let t = eq-eqb y.cols y.cols refl in rw t refl

pub start_row_from : (y : Layout) (A B : List Row) (c : List Ratio) (i : ℕ) (row r : List Ratio) (h : Ratio) → length row ≡ y.cols → ((k : ℕ) → k < y.cols → ratio_at row k ≡ body_at y A B c i k) → ((k : ℕ) → k < y.cols → IsFraction (ratio_at row k))
    → r ≡ row ++ h ∷ [] → h ≡ ratio_of (help_of y i) (pos 1) → IsFraction h → IsStartRow y A B c i r
start_row_from y A B c i row r h n e f is value fraction = record {
  count = count_pushed row r h y.cols is n;
  entries = pushed (λ k x. x ≡ start_at y A B c i k) (ratio_of (pos 0) (pos 1)) row r h y.cols is n (λ k l. e k l ∙ sym (start_body y A B c i k l)) (value ∙ sym (start_help y A B c i));
  fractions = pushed (λ k x. IsFraction x) (ratio_of (pos 0) (pos 1)) row r h y.cols is n f fraction;
}
