-- Which sites of a view are lost by wide numbers, and how a wide client fails.
use Rattle.pm_client.proofs.Lost.{whatever_evidence}
use Rattle.pm_client.proofs.PrimitiveWholes.{by_one, one_whole}
use Rattle.pm_client.proofs.ReadRows.{same_rows}
use Rattle.pm_clients_lift.specs.LiftedSites.{AreReadHeights, AreReadSites, ReadsLostDelaunaySites, ReadsLostSites}
use Rattle.pm_clients_lift.specs.LostExamples.{LostSitesAreRead, with_sites}
use Rattle.pm_lift.proofs.LostExamples.{lost_cells_are_read}
use Rattle.pm_lift.specs.Examples.{far, greatest, one_half, pair, ratio_of}
use Rattle.pm_lift.specs.Lost.{LiftingIsLost, RaisingIsLost}
use Rattle.pm_fraction.specs.FractionRows.{ArePrimitiveRowsOf}
use Rattle.pm_fraction.specs.Matrices.{IsFraction}
use Rattle.pm_types.specs.Views.{ratios}
use Rattle.pm_vector.specs.Numbers.{Ratio}
use Rattle.pm_vector.specs.Rows.{Row, entry}
use Rattle.std.proofs.Common.{ap, arith, refl, sym, ◌∙◌}
use Rattle.std.proofs.Math.Nat.{one-dvd}
use Rattle.std.proofs.lemmas.Int.{ints}
use Rattle.std.proofs.lemmas.List.Elements.{All-cons, All-nil}
use Rattle.std.specs.Prelude.{List, [], length, map, ◌∷◌, ◌≡◌}
use lib.IntN.{pos}
use lib.Signed.{lt_z_yes, ◌<ℤ◌}

-- ---- one site
abbrev site : Row
site = pair (pos 1) greatest

far_primitive : ArePrimitiveRowsOf (map ratios far) far
far_primitive = one_whole site (by_one site 0 refl)

read_sites : AreReadSites (with_sites 2 far one_half) far
read_sites = record {
  rows = record { cols = 2; rows = map ratios far; reads = refl; primitive = far_primitive };
  cols = (refl, tt);
  positive = All-cons (λ q. pos 0 <ℤ entry q 0) site [] (lt_z_yes tt) (All-nil (λ q. pos 0 <ℤ entry q 0));
  few = omega arith;
}

half_fraction : IsFraction (ratio_of (pos 1) (pos 2))
half_fraction = record {
  reduced = record { positive = lt_z_yes tt; coprime = (one-dvd 1, one-dvd 2, λ d p q. p) };
  in_range = (omega (arith, ints), omega (arith, ints));
}

read_heights : AreReadHeights (with_sites 2 far one_half) one_half
read_heights = record { reads = (1, refl); fractions = All-cons IsFraction (ratio_of (pos 1) (pos 2)) [] half_fraction (All-nil IsFraction) }

lost : ReadsLostSites (with_sites 2 far one_half)
lost = record {
  sites = far;
  heights = one_half;
  read_sites = read_sites;
  read_heights = read_heights;
  as_many = refl;
  lost = lost_cells_are_read.lifting_of_row;
}

lost_delaunay : ReadsLostDelaunaySites (with_sites 2 far one_half)
lost_delaunay = record { sites = far; read_sites = read_sites; lost = lost_cells_are_read.raising }

-- ---- no sites
no_sites : (X : List Row) → AreReadSites (with_sites 0 [] []) X → length X ≡ 0
no_sites X s = s.rows.primitive.count ∙ ap length (sym (same_rows 0 s.rows.cols [] s.rows.rows s.rows.reads))

stays : (X : List Row) (W : List Ratio) → length X ≡ 0 → length W ≡ length X → LiftingIsLost 0 X W → ⊥
stays [] [] e f h = lost_cells_are_read.not_lifting h
stays [] (w ∷ W) e f h = omega arith
stays (x ∷ X) W e f h = omega arith

stays_delaunay : (X : List Row) → length X ≡ 0 → RaisingIsLost 0 X → ⊥
stays_delaunay [] e h = lost_cells_are_read.not_raising h
stays_delaunay (x ∷ X) e h = omega arith

not_lost : ReadsLostSites (with_sites 0 [] []) → ⊥
not_lost h = stays h.sites h.heights (no_sites h.sites h.read_sites) h.as_many h.lost

not_lost_delaunay : ReadsLostDelaunaySites (with_sites 0 [] []) → ⊥
not_lost_delaunay h = stays_delaunay h.sites (no_sites h.sites h.read_sites) h.lost

pub lost_sites_are_read : LostSitesAreRead
lost_sites_are_read = record {
  lost = lost;
  lost_delaunay = lost_delaunay;
  not_lost = not_lost;
  not_lost_delaunay = not_lost_delaunay;
  fails = λ e right. (right, whatever_evidence e (ReadsLostSites (with_sites 2 far one_half)) lost);
  not_fails = λ a b h. not_lost h.1;
  fails_delaunay = λ e right. (right, whatever_evidence e (ReadsLostDelaunaySites (with_sites 2 far one_half)) lost_delaunay);
  not_fails_delaunay = λ a b h. not_lost_delaunay h.1;
}
