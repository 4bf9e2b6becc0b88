-- The examples of sites and heights hold.
use Rattle.pm_examples_values.proofs.RayExamples.{half_line_is_thing}
use Rattle.pm_examples_values.specs.SiteExamples.{SitesAreRight}
use Rattle.pm_lift.proofs.SameSites.{entry-direction}
use Rattle.pm_lift.proofs.SmallCells.{cells_are_read, sites_are_read}
use Rattle.pm_lift.proofs.SmallDelaunay.{delaunay_is_read}
use Rattle.pm_lift.specs.Examples.{pair, point, three_sites}
use Rattle.pm_relations.proofs.Standing.{in_order_length, stand_for_ratios, stand_length}
use Rattle.pm_types.specs.Right.{InOrder, StandFor}
use Rattle.pm_types.specs.Views.{ratios}
use Rattle.pm_vector.proofs.Ring.{ring}
use Rattle.pm_vector.proofs.Signs.{mul_cancel, mul_pos}
use Rattle.pm_vector.specs.Rows.{Row, SameDirection, entry}
use Rattle.pm_vector.specs.Numbers.{Ratio}
use Rattle.std.proofs.Common.{ap, arith, refl, subst, sym, ◌∙◌}
use Rattle.std.proofs.lemmas.Int.{ints}
use Rattle.std.specs.Prelude.{List, [], length, map, ℕ, ◌∷◌, ◌≡◌}
use lib.IntN.{pos, ℤ, ◌*ℤ◌}
use lib.Signed.{◌<ℤ◌}

-- a row has its own direction
itself : (x : Row) → SameDirection x x
itself x = record { p = pos 1; q = pos 1; p_positive = omega (arith, ints); q_positive = omega (arith, ints); same = record { at = λ i. refl } }

all_themselves : (xs : List Row) → InOrder SameDirection xs xs
all_themselves [] = tt
all_themselves (x ∷ xs) = (itself x, all_themselves xs)

-- the numerator of the first height but one
abbrev second : List (List Ratio) → ℤ
second ((a ∷ b ∷ r) ∷ rows) = b.num
second rows = pos 0

zero : (a : ℤ) → a *ℤ pos 0 ≡ pos 0
zero a = simp ring

-- no row has the direction of the site 0 and stands for the site 2
not_turned : (xs : List Row) → StandFor (map ratios (point 2 ∷ point 1 ∷ point 0 ∷ [])) xs → InOrder SameDirection three_sites xs → ⊥
not_turned [] s d = s
not_turned (x ∷ xs) (s, others) (d, more) =
    let f : d.p *ℤ pos 0 ≡ d.q *ℤ entry x 1 = entry-direction (point 0) x 1 d in
    let nothing : entry x 1 ≡ pos 0 = mul_cancel d.q_positive (sym f ∙ zero d.p ∙ sym (zero d.q)) in
    let e : s.p *ℤ (entry x 1 *ℤ pos 1) ≡ s.q *ℤ pos 2 = s.same 1 (omega arith) in
    let none : s.p *ℤ (pos 0 *ℤ pos 1) ≡ pos 0 = simp ring in
    let double : s.q *ℤ pos 2 ≡ pos 0 = sym e ∙ ap (λ t. s.p *ℤ (t *ℤ pos 1)) nothing ∙ none in
    let up : pos 0 <ℤ (s.q *ℤ pos 2) = mul_pos s.q_positive (omega (arith, ints)) in
    absurd (omega (arith, ints))

pub sites_are_right : SitesAreRight
sites_are_right = record {
  thing = record {
    some_cols = half_line_is_thing.some_cols;
    few_cols = half_line_is_thing.few_cols;
    kind = half_line_is_thing.kind;
    programs = half_line_is_thing.programs;
    sites = record { each = sites_are_read.three; as_many = refl };
  };
  no_heights = λ h. let e : 0 ≡ 3 = h.sites.as_many in omega arith;
  direction = λ h. let l = h.sites.each.positive 0 (omega arith) in omega (arith, ints);
  sites = record { xs = three_sites; stand = stand_for_ratios three_sites; cols = (refl, (refl, (refl, tt))); order = all_themselves three_sites };
  scaled = record {
    xs = pair (pos 2) (pos 2) ∷ [];
    stand = stand_for_ratios (pair (pos 2) (pos 2) ∷ []);
    cols = (refl, tt);
    order = (record { p = pos 2; q = pos 1; p_positive = omega (arith, ints); q_positive = omega (arith, ints); same = record { at = λ i. refl } }, tt);
  };
  turned = λ h. not_turned h.xs h.stand h.order;
  fewer = λ h.
      let a : length h.xs ≡ 2 = stand_length (map ratios (point 0 ∷ point 1 ∷ [])) h.xs h.stand in
      let b : length h.xs ≡ 3 = in_order_length SameDirection three_sites h.xs h.order in
      absurd (omega arith);
  heights = refl;
  other_heights = λ e. let f : pos 0 ≡ pos 5 = ap second e in absurd (omega (arith, ints));
  cells = (refl, cells_are_read.cells);
  with_peak = λ h. cells_are_read.not_with_peak h.1;
  no_cell = λ h. cells_are_read.not_none h.1;
  other_count = λ h. let e : 1 ≡ 3 = h.0 in absurd (omega arith);
  delaunay = (refl, delaunay_is_read.neighbours);
  not_turned = λ h. delaunay_is_read.not_turned h.1;
  widest = refl;
  wider = refl;
  no_height = refl;
  many_heights = refl;
  two_rows = refl;
  no_row = refl;
  behind = refl;
  before = refl;
}
