-- A small dictionary is a state.
use Rattle.pm_vector.proofs.ConeLaws.{in_line}
use Rattle.pm_vector.proofs.Lists.{Among, here, there}
use Rattle.pm_vector.specs.Cones.{InSpan}
use Rattle.pm_vector.specs.Numbers.{InRangeRatio, Ratio}
use Rattle.pm_vector.specs.Rows.{Row, entry, ratio_at, times}
use Rattle.pm_vector.proofs.Spans.{same_span, span_times}
use Rattle.pm_vector.specs.Bases.{SameSpan, column, row_at}
use Rattle.pm_fraction.proofs.Quotients.{whole_reduced}
use Rattle.pm_fraction.specs.Fractions.{IsLowestTermsOf, ratio_of}
use Rattle.pm_simplex.specs.Comparisons.{IsApart, IsCovered, rows_of}
use Rattle.pm_programs.specs.Dictionaries.{IsDictionaryOf, at, row_of}
use Rattle.pm_programs.specs.Lex.{IsLexPositive, keys}
use Rattle.pm_simplex.specs.StateExample.{StateIsThere, five, one_system, two}
use Rattle.pm_simplex.specs.States.{auxiliary, columns_of, is_signed, key_columns}
use Rattle.pm_simplex.proofs.RowOrder.{signed_is}
use Rattle.pm_programs.specs.Pivots.{IsLexFeasible}
use Rattle.pm_programs.specs.Tableaux.{IsTableau}
use Rattle.pm_simplex.specs.declared.layout.Layout.{Layout}
use Rattle.std.proofs.Common.{ap, arith, inl, inr, refl, subst, sym, ◌∙◌}
use Rattle.std.proofs.lemmas.Int.{ints}
use Rattle.std.specs.Prelude.{IsTrue, List, [], length, suc, zero, ℕ, ◌<◌, ◌∷◌, ◌≡◌}
use lib.IntN.{neg_ℤ, negsuc, pos, ℤ}
use lib.Signed.{◌<ℤ◌}

abbrev basis : List ℕ
basis = 1 ∷ 3 ∷ 4 ∷ []

abbrev whole : List Row
whole = five (negsuc 0) (pos 1) (negsuc 0) (pos 0) (pos 0) ∷ five (pos 0) (pos 0) (pos 0) (pos 1) (pos 0) ∷ five (pos 0) (pos 0) (pos 1) (pos 0) (pos 1) ∷ []

abbrev fractions : List (List Ratio)
fractions = two (pos 1) (pos 1) ∷ two (pos 0) (pos 0) ∷ two (pos 0) (negsuc 0) ∷ []

-- three rows that are the opposites of three others
opposite_span : (x y z u v w : Row) → x ≡ times (negsuc 0) u → y ≡ times (negsuc 0) v → z ≡ times (negsuc 0) w → (r : Row) → Among r (x ∷ y ∷ z ∷ []) → InSpan (u ∷ v ∷ w ∷ []) r
opposite_span x y z u v w e f g r here = subst (λ q. InSpan (u ∷ v ∷ w ∷ []) q) (sym e) (span_times (negsuc 0) (in_line here))
opposite_span x y z u v w e f g r (there here) = subst (λ q. InSpan (u ∷ v ∷ w ∷ []) q) (sym f) (span_times (negsuc 0) (in_line (there here)))
opposite_span x y z u v w e f g r (there (there here)) = subst (λ q. InSpan (u ∷ v ∷ w ∷ []) q) (sym g) (span_times (negsuc 0) (in_line (there (there here))))
opposite_span x y z u v w e f g r (there (there (there i))) = elim i [ ]

span : SameSpan whole one_system
span = same_span whole one_system (opposite_span _ _ _ _ _ _ refl refl refl) (opposite_span _ _ _ _ _ _ refl refl refl)

tableau : IsTableau basis whole
tableau = record { as_many = refl; positive = positive; solved = solved }
  where
    positive : (i : ℕ) → i < 3 → pos 0 <ℤ entry (row_at whole i) (column basis i)
    positive zero l = omega (arith, ints)
    positive (suc zero) l = omega (arith, ints)
    positive (suc (suc zero)) l = omega (arith, ints)
    positive (suc (suc (suc i))) l = absurd (omega arith)

    solved : (i j : ℕ) → i < 3 → j < 3 → ¬ (i ≡ j) → entry (row_at whole i) (column basis j) ≡ pos 0
    solved zero zero l m n = absurd (n refl)
    solved zero (suc zero) l m n = refl
    solved zero (suc (suc zero)) l m n = refl
    solved (suc zero) zero l m n = refl
    solved (suc zero) (suc zero) l m n = absurd (n refl)
    solved (suc zero) (suc (suc zero)) l m n = refl
    solved (suc (suc zero)) zero l m n = refl
    solved (suc (suc zero)) (suc zero) l m n = refl
    solved (suc (suc zero)) (suc (suc zero)) l m n = absurd (n refl)
    solved (suc (suc (suc i))) j l m n = absurd (omega arith)
    solved i (suc (suc (suc j))) l m n = absurd (omega arith)

lowest : (n : ℤ) → IsLowestTermsOf (ratio_of n (pos 1)) (ratio_of n (pos 1))
lowest n = record { divisible = λ e. omega (arith, ints); reduced = whole_reduced n; same = refl }

entries : (i k : ℕ) → i < length basis → k < 2 → IsLowestTermsOf (ratio_of (neg_ℤ (entry (row_at whole i) (column (0 ∷ 2 ∷ []) k))) (entry (row_at whole i) (column basis i))) (at fractions i k)
entries zero zero l m = lowest (pos 1)
entries zero (suc zero) l m = lowest (pos 1)
entries (suc zero) zero l m = lowest (pos 0)
entries (suc zero) (suc zero) l m = lowest (pos 0)
entries (suc (suc zero)) zero l m = lowest (pos 0)
entries (suc (suc zero)) (suc zero) l m = lowest (negsuc 0)
entries (suc (suc (suc i))) k l m = absurd (omega arith)
entries i (suc (suc k)) l m = absurd (omega arith)

feasible_row : (y : Layout) → y.cols ≡ 1 → y.slacks ≡ 1 → IsLexPositive (keys (key_columns y) (row_at whole 0))
feasible_row y e f = rw (e, f) (inl (omega (arith, ints)))

not_signed : (y : Layout) (c : ℕ) → y.cols ≡ 1 → y.slacks ≡ 1 → y.residuals ≡ 0 → 2 < c → ¬ (IsTrue (is_signed y c))
not_signed y c e f g l h = elim (signed_is y c h) [ inl w ↦ (let a = w.1 in omega arith) | inr q ↦ omega arith ]

feasible : (y : Layout) → y.cols ≡ 1 → y.slacks ≡ 1 → y.residuals ≡ 0 → IsLexFeasible (key_columns y) (is_signed y) basis whole
feasible y e f g = record { positive = at' }
  where
    at' : (i : ℕ) → i < 3 → IsTrue (is_signed y (column basis i)) → IsLexPositive (keys (key_columns y) (row_at whole i))
    at' zero l h = feasible_row y e f
    at' (suc zero) l h = absurd (not_signed y 3 e f g (omega arith) h)
    at' (suc (suc zero)) l h = absurd (not_signed y 4 e f g (omega arith) h)
    at' (suc (suc (suc i))) l h = absurd (omega arith)

covered : (c : ℕ) → c < 5 → IsCovered basis (0 ∷ 2 ∷ []) c
covered zero l = inr (0, omega arith, refl)
covered (suc zero) l = inl (0, omega arith, refl)
covered (suc (suc zero)) l = inr (1, omega arith, refl)
covered (suc (suc (suc zero))) l = inl (1, omega arith, refl)
covered (suc (suc (suc (suc zero)))) l = inl (2, omega arith, refl)
covered (suc (suc (suc (suc (suc c))))) l = absurd (omega arith)

basic_inside : (i : ℕ) → i < 3 → column basis i < 5
basic_inside zero l = omega arith
basic_inside (suc zero) l = omega arith
basic_inside (suc (suc zero)) l = omega arith
basic_inside (suc (suc (suc i))) l = absurd (omega arith)

basic_later : (i : ℕ) → i < 3 → 0 < column basis i
basic_later zero l = omega arith
basic_later (suc zero) l = omega arith
basic_later (suc (suc zero)) l = omega arith
basic_later (suc (suc (suc i))) l = absurd (omega arith)

other_inside : (k : ℕ) → k < 2 → column (0 ∷ 2 ∷ []) k < 5
other_inside zero l = omega arith
other_inside (suc zero) l = omega arith
other_inside (suc (suc k)) l = absurd (omega arith)

apart_at : (i k : ℕ) → i < 3 → k < 2 → ¬ (column basis i ≡ column (0 ∷ 2 ∷ []) k)
apart_at zero zero l m e = omega arith
apart_at zero (suc zero) l m e = omega arith
apart_at (suc zero) zero l m e = omega arith
apart_at (suc zero) (suc zero) l m e = omega arith
apart_at (suc (suc zero)) zero l m e = omega arith
apart_at (suc (suc zero)) (suc zero) l m e = omega arith
apart_at (suc (suc (suc i))) k l m e = omega arith
apart_at i (suc (suc k)) l m e = omega arith

different_at : (k n : ℕ) → k < 2 → n < 2 → ¬ (k ≡ n) → ¬ (column (0 ∷ 2 ∷ []) k ≡ column (0 ∷ 2 ∷ []) n)
different_at zero zero l m d e = d refl
different_at zero (suc zero) l m d e = omega arith
different_at (suc zero) zero l m d e = omega arith
different_at (suc zero) (suc zero) l m d e = d refl
different_at (suc (suc k)) n l m d e = omega arith
different_at k (suc (suc n)) l m d e = omega arith

two_places : (i : ℕ) → i < 3 → length (row_of fractions i) ≡ 2
two_places zero l = refl
two_places (suc zero) l = refl
two_places (suc (suc zero)) l = refl
two_places (suc (suc (suc i))) l = absurd (omega arith)

small_at : (i k : ℕ) → i < 3 → k < 2 → InRangeRatio (ratio_at (row_of fractions i) k)
small_at zero zero l m = (omega arith, omega arith)
small_at zero (suc zero) l m = (omega arith, omega arith)
small_at (suc zero) zero l m = (omega arith, omega arith)
small_at (suc zero) (suc zero) l m = (omega arith, omega arith)
small_at (suc (suc zero)) zero l m = (omega arith, omega arith)
small_at (suc (suc zero)) (suc zero) l m = (omega arith, omega arith)
small_at (suc (suc (suc i))) k l m = absurd (omega arith)
small_at i (suc (suc k)) l m = absurd (omega arith)

both : (y : Layout) (P N : List ℕ) (D : List (List Ratio)) → y.cols ≡ 1 → y.slacks ≡ 1 → y.residuals ≡ 0 → P ≡ basis → N ≡ 0 ∷ 2 ∷ [] → D ≡ fractions
    → (t : IsDictionaryOf one_system P N D) × IsLexFeasible (key_columns y) (is_signed y) P t.whole
both y P N D e f g p n q =
    subst (λ X. (t : IsDictionaryOf one_system X N D) × IsLexFeasible (key_columns y) (is_signed y) X t.whole) (sym p)
    (subst (λ X. (t : IsDictionaryOf one_system basis X D) × IsLexFeasible (key_columns y) (is_signed y) basis t.whole) (sym n)
    (subst (λ X. (t : IsDictionaryOf one_system basis (0 ∷ 2 ∷ []) X) × IsLexFeasible (key_columns y) (is_signed y) basis t.whole) (sym q) (dictionary_of, subst (λ R. IsLexFeasible (key_columns y) (is_signed y) basis R) refl (feasible y e f g))))
  where
    dictionary_of : IsDictionaryOf one_system basis (0 ∷ 2 ∷ []) fractions
    dictionary_of = record { whole = whole; tableau = record { tableau = tableau; span = span }; entries = entries }

pub state_is_there : StateIsThere
state_is_there y d e f g p n c q =
    let m = both y d.basis.items d.others.items (rows_of d) e f g p n q in
    let five_columns : columns_of y ≡ 5 = omega arith in
    record {
      shaped = record {
        rectangular = record { count = c ∙ sym (ap length p); places = record { each = λ i li. subst (λ X. length (row_of X i) ≡ length d.others.items) (sym q) (two_places i (rw q at li) ∙ sym (ap length n)) } };
        cover = λ v lv. subst (λ X. IsCovered X d.others.items v) (sym p) (subst (λ X. IsCovered basis X v) (sym n) (covered v (omega arith)));
        variables = λ i li. subst (λ X. 0 < column X i) (sym p) (basic_later i (rw p at li));
      };
      apart = subst (λ X. IsApart (columns_of y) X d.others.items) (sym p) (subst (λ X. IsApart (columns_of y) basis X) (sym n) (subst (λ u. IsApart u basis (0 ∷ 2 ∷ [])) (sym five_columns)
          (record { basic_inside = basic_inside; other_inside = other_inside; apart = apart_at; different = different_at })));
      dictionary = m.0;
      feasible = m.1;
      fits = λ i li k lk. subst (λ X. InRangeRatio (ratio_at (row_of X i) k)) (sym q) (small_at i k (rw p at li) (rw n at lk));
      some = rw n (omega arith);
      constant = ap (λ X. column X 0) n;
      within = rw p (omega arith);
      objective = subst (λ X. auxiliary y < column X 1) (sym p) (omega arith);
    }
