-- Which parts of a view are lost by wide numbers, and how a wide client that places rays fails.
use Rattle.pm_client.proofs.Lost.{whatever_evidence}
use Rattle.pm_client.proofs.NoRows.{none_primitive}
use Rattle.pm_client.proofs.PrimitiveWholes.{by_one, least_one, numerators_whole, primitive_of_itself, two_whole}
use Rattle.pm_client.proofs.ReadRows.{same_rows}
use Rattle.pm_client.specs.Sound.{ArePartsOf, are_parts}
use Rattle.pm_clients_geom.specs.Hulls.{ReadsLostParts}
use Rattle.pm_clients_geom.specs.LostListExamples.{with_rays}
use Rattle.pm_clients_geom.specs.LostPartsExamples.{LostPartsAreRead}
use Rattle.pm_dd.proofs.LostExamples.{losses_are_read}
use Rattle.pm_dd.proofs.ZeroRows.{no_basis}
use Rattle.pm_dd.specs.Lost.{PartsAreLost}
use Rattle.pm_elim.specs.LostExamples.{one_entry, two_rows}
use Rattle.pm_fraction.proofs.Denominators.{least_unique}
use Rattle.pm_fraction.specs.FractionRows.{ArePrimitiveRowsOf, IsPrimitiveRowOf, numerators_over}
use Rattle.pm_props.specs.declared.property.PropId.TheVariants.{AffineHull, Equations, InputLineality, LinealitySpace, Vertices}
use Rattle.pm_props.specs.declared.property.PropId.{PropId}
use Rattle.pm_types.specs.Views.{ratios}
use Rattle.pm_vector.proofs.DivisorLaws.{primitive_row_unique}
use Rattle.pm_vector.proofs.Spans.{same_span_refl}
use Rattle.pm_vector.specs.Divisors.{IsPrimitive, IsPrimitiveOf}
use Rattle.pm_vector.specs.Numbers.{Ratio}
use Rattle.pm_vector.specs.Rows.{Row}
use Rattle.std.proofs.Common.{ap, arith, inr, refl, subst, sym, true≢false, ◌∙◌}
use Rattle.std.specs.Option.{is_some}
use Rattle.std.specs.Prelude.{List, [], length, map, true, ◌++◌, ◌∷◌, ◌≡◌}

-- ---- the primitive row of the fractions of a primitive row is that row
module _ (x : Row) (primitive : IsPrimitive x) where
  only_primitive : (y : Row) → IsPrimitiveRowOf (ratios x) y → y ≡ x
  only_primitive y h =
      let one : h.denominator ≡ 1 = least_unique (ratios x) (length (ratios x)) h.denominator 1 h.least (least_one x) in
      let whole : IsPrimitiveOf x y = subst (λ (z : Row). IsPrimitiveOf z y) (ap (λ m. numerators_over m (ratios x)) one ∙ numerators_whole x) h.primitive in
      primitive_row_unique x y x whole (primitive_of_itself x primitive)

  only_rows : (ys : List Row) (rows : List (List Ratio)) → rows ≡ ratios x ∷ [] → ArePrimitiveRowsOf rows ys → ys ≡ x ∷ []
  only_rows ys rows e h = at ys (subst (λ (R : List (List Ratio)). ArePrimitiveRowsOf R ys) e h)
    where
      at : (ys : List Row) → ArePrimitiveRowsOf (ratios x ∷ []) ys → ys ≡ x ∷ []
      at [] h = absurd (let c = h.count in omega arith)
      at (y ∷ []) h = ap (λ (z : Row). z ∷ []) (only_primitive y (h.each 0 (omega arith)))
      at (y ∷ z ∷ ys) h = absurd (let c = h.count in omega arith)

no_rows : (L : List Row) (rows : List (List Ratio)) → rows ≡ [] → ArePrimitiveRowsOf rows L → L ≡ []
no_rows [] rows e h = refl
no_rows (x ∷ L) rows e h = absurd (let c = h.count ∙ ap length e in omega arith)

-- ---- the parts
lost : ReadsLostParts (with_rays 2 two_rows)
lost = record {
  lines = [];
  others = two_rows;
  read = record {
    first = LinealitySpace;
    second = Vertices;
    parts = refl;
    read = record {
      first_cols = 0;
      second_cols = 2;
      first_rows = [];
      second_rows = map ratios two_rows;
      reads_first = refl;
      reads_second = refl;
      ys = two_rows;
      first_primitive = none_primitive;
      second_primitive = two_whole _ _ (by_one _ 1 refl) (by_one _ 0 refl);
      added = refl;
    };
  };
  lost = inr (two_rows, record { basis = []; pivots = []; is_basis = record { echelon = no_basis 2; span = same_span_refl [] }; list = refl }, losses_are_read.started);
}

none_lost : (p q : PropId) (L G : List Row) → ArePartsOf (with_rays 1 one_entry) p q L G → are_parts p q ≡ true → PartsAreLost 1 L G → ⊥
none_lost LinealitySpace Vertices L G h parts =
    let none = no_rows L h.first_rows (sym (same_rows 0 h.first_cols [] h.first_rows h.reads_first)) h.first_primitive in
    let one = only_rows _ (by_one _ 0 refl) h.ys h.second_rows (sym (same_rows 1 h.second_cols (map ratios one_entry) h.second_rows h.reads_second)) h.second_primitive in
    let all : G ≡ one_entry = h.added ∙ ap (λ (Z : List Row). Z ++ []) one in
    λ l. losses_are_read.no_parts (subst (λ (Z : List Row). PartsAreLost 1 [] Z) all (subst (λ (Z : List Row). PartsAreLost 1 Z G) none l))
none_lost Equations q L G h parts = absurd (true≢false (sym (ap is_some h.reads_first)))
none_lost InputLineality q L G h parts = absurd (true≢false (sym (ap is_some h.reads_first)))
none_lost AffineHull q L G h parts = absurd (true≢false (sym (ap is_some h.reads_first)))
none_lost p q L G h parts = absurd (true≢false (sym parts))

not_lost : ¬ (ReadsLostParts (with_rays 1 one_entry))
not_lost h = none_lost h.read.first h.read.second h.lines h.others h.read.read h.read.parts h.lost

pub lost_parts_are_read : LostPartsAreRead
lost_parts_are_read = record {
  lost = lost;
  not_lost = not_lost;
  facets_fail = λ e right. (right, whatever_evidence e _ lost);
  not_facets_fail = λ step h. not_lost h.1;
  points_fail = λ e right. (right, whatever_evidence e _ lost);
  not_points_fail = λ step h. not_lost h.1;
  placing_fails = λ e right. (right, whatever_evidence e _ lost);
  not_placing_fails = λ step h. not_lost h.1;
  too_many = λ right. (right, tt);
  of_memory = (tt, tt);
  standard_fails = λ e right. right;
  not_standard_fails = λ h. true≢false (sym h.named);
}
