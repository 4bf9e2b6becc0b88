-- The examples of sums.
use Rattle.pm_vector.specs.Numbers.{IsReduced}
use Rattle.pm_vector.specs.Rows.{Row, entry, ratio_at}
use Rattle.pm_build.specs.SumExamples.{SumsAreRead, half, over, quarter, thin, thinner}
use Rattle.pm_build.specs.SumSteps.{AreFactors, ColumnStays, IsSumRow, IsWideAt, SumStays, sum_entry}
use Rattle.pm_types.specs.OverFirst.{IsOverFirst}
use Rattle.pm_build.specs.Sums.{IsFirstWide}
use Rattle.pm_fraction.proofs.Bezout.{coprime}
use Rattle.pm_fraction.specs.Fractions.{IsLowestTermsOf, ratio_of}
use Rattle.std.proofs.Common.{ap, arith, refl, zero}
use Rattle.std.proofs.Math.Nat.{dvd-mul_right}
use Rattle.std.proofs.lemmas.Int.{ints}
use Rattle.std.proofs.lemmas.List.{length-append}
use Rattle.std.proofs.lemmas.List.Elements.{All-nil}
use Rattle.std.proofs.lemmas.Nat.Gcd.{dvd_refl}
use Rattle.std.specs.Prelude.{[], length, suc, ℕ, ◌<◌, ◌∷◌, ◌≡◌}
use lib.IntN.{negsuc, pos, ℤ, ◌*ℤ◌}
use native.Mathlib.Nat.{le_of_dvd}

factors : AreFactors half quarter (pos 2) (pos 1)
factors = record { g = 2; divisor = (dvd_refl 2, dvd-mul_right 2 2, λ d p q. p); first = refl; second = refl }

one_only : (g : ℕ) → pos 2 ≡ pos 2 *ℤ pos g → g ≡ 1
one_only g e = omega (arith, ints)

no_factors : ¬ (AreFactors half quarter (pos 4) (pos 2))
no_factors h =
    let e = one_only h.g h.second in
    let two = h.divisor.2 2 (dvd_refl 2) (dvd-mul_right 2 2) in
    let l = le_of_dvd {m = 2} {n = h.g} (omega arith) two in
    omega arith

one_reduced : IsReduced (over (pos 1) (pos 1))
one_reduced = record { positive = omega (arith, ints); coprime = coprime (pos 1) (pos 1) (record { x = pos 1; y = pos 0; sum = refl }) }

quarters_reduced : IsReduced (over (pos 3) (pos 4))
quarters_reduced = record { positive = omega (arith, ints); coprime = coprime (pos 3) (pos 4) (record { x = negsuc 0; y = pos 1; sum = refl }) }

divided : IsOverFirst (pos 4 ∷ pos 3 ∷ []) (over (pos 1) (pos 1) ∷ over (pos 3) (pos 4) ∷ [])
divided = record { cols = refl; each = by }
  where
    by : (i : ℕ) → i < 2 → IsLowestTermsOf (ratio_of (entry (pos 4 ∷ pos 3 ∷ []) i) (pos 4)) (ratio_at (over (pos 1) (pos 1) ∷ over (pos 3) (pos 4) ∷ []) i)
    by zero l = record { divisible = λ e. omega (arith, ints); reduced = one_reduced; same = refl }
    by (suc zero) l = record { divisible = λ e. omega (arith, ints); reduced = quarters_reduced; same = refl }
    by (suc (suc i)) l = absurd (omega arith)

not_divided : ¬ (IsOverFirst (pos 4 ∷ pos 3 ∷ []) (over (pos 4) (pos 1) ∷ over (pos 3) (pos 1) ∷ []))
not_divided h = let e : pos 4 *ℤ pos 4 ≡ pos 4 *ℤ pos 1 = (h.each 0 (omega arith)).same in omega (arith, ints)

row : IsSumRow half quarter (over (pos 1) (pos 1) ∷ over (pos 3) (pos 4) ∷ [])
row = record {
  p = pos 2;
  q = pos 1;
  whole = pos 4 ∷ pos 3 ∷ [];
  factors = factors;
  before = record { cols = refl; entries = entries; numbers = record { stay = stay } };
  over = divided;
}
  where
    entries : (k : ℕ) → k < 2 → entry (pos 4 ∷ pos 3 ∷ []) k ≡ sum_entry (pos 2) (pos 1) half quarter k
    entries zero l = refl
    entries (suc zero) l = refl
    entries (suc (suc k)) l = absurd (omega arith)

    stay : (k : ℕ) → k < 2 → ColumnStays (pos 2) (pos 1) half quarter k
    stay zero l = omega arith
    stay (suc zero) l = (omega arith, omega arith, omega arith)
    stay (suc (suc k)) l = absurd (omega arith)

no_row : ¬ (IsSumRow half quarter (over (pos 1) (pos 1) ∷ []))
no_row h = let a = h.over.cols in let b = h.before.cols in omega arith

wide : IsWideAt thin thinner 0
wide = record {
  p = pos 18446744073709551615;
  q = pos 18446744073709551616;
  factors = record { g = 1; divisor = coprime (pos 18446744073709551616) (pos 18446744073709551615) (record { x = pos 1; y = negsuc 0; sum = refl }); first = refl; second = refl };
  within = omega arith;
  before = record { stay = λ k l. absurd (omega arith) };
  wide = λ h. let l = h in omega arith;
}

no_column : ¬ (IsWideAt thin thinner 2)
no_column h = let l = h.within in omega arith

no_pair : ¬ (IsFirstWide [] thin thinner 0)
no_pair h =
    let e = ap length h.place in
    let l = length-append h.before ((thin, thinner) ∷ h.after) in
    omega arith

pub sums_are_read : SumsAreRead
sums_are_read = record {
  point = refl;
  no_point = refl;
  points_alone = refl;
  far_alone = refl;
  in_order = refl;
  factors = factors;
  no_factors = no_factors;
  first_entry = refl;
  second_entry = refl;
  divided = divided;
  not_divided = not_divided;
  row = row;
  no_row = no_row;
  sums = (row, tt);
  no_sums = λ h. h;
  wide = wide;
  no_column = no_column;
  first_wide = record { before = []; after = []; place = refl; stay = All-nil (λ (p : Row × Row). SumStays p.0 p.1); wide = wide };
  no_pair = no_pair;
  fits = refl;
  of_type = refl;
  empty = refl;
  columns = refl;
  count = refl;
  lines = refl;
}
