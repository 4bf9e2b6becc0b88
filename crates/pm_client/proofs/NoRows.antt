-- Two parts of a row list without rows of their own.
use Rattle.pm_client.specs.Sound.{ArePartsOf, ReadsMatrix, added_rows}
use Rattle.pm_fraction.specs.FractionRows.{ArePrimitiveRowsOf}
use Rattle.pm_object.specs.Reading.{ViewSeen}
use Rattle.pm_props.specs.declared.property.PropId.{PropId}
use Rattle.pm_vector.specs.Rows.{Row}
use Rattle.std.proofs.Common.{arith, refl}
use Rattle.std.specs.Prelude.{List, [], ◌≡◌}

pub none_primitive : ArePrimitiveRowsOf [] []
none_primitive = record { count = refl; each = λ i l. absurd (omega arith); multiple = λ i l. absurd (omega arith) }

-- what is added is all
pub parts_without_rows : (v : ViewSeen) (first second : PropId) (G : List Row) → ReadsMatrix v first 0 [] → ReadsMatrix v second 0 [] → G ≡ added_rows v.of v.cols second → ArePartsOf v first second [] G
parts_without_rows v first second G f s all = record {
  first_cols = 0;
  second_cols = 0;
  first_rows = [];
  second_rows = [];
  reads_first = f;
  reads_second = s;
  ys = [];
  first_primitive = none_primitive;
  second_primitive = none_primitive;
  added = all;
}
