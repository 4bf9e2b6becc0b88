-- The examples of too many cells hold.
use Rattle.pm_client.proofs.NoRows.{parts_without_rows}
use Rattle.pm_client.specs.Examples.{CellsAreRead}
use Rattle.pm_props.specs.declared.property.PropId.TheVariants.{LinealitySpace, Vertices}
use Rattle.std.proofs.Common.{ap, arith, refl, sym, true≢false}
use Rattle.std.specs.Option.{is_some}
use Rattle.std.specs.Prelude.{[]}

pub cells_are_read : CellsAreRead
cells_are_read = record {
  crowded = λ front cells m. record {
    named = refl;
    lines = [];
    rays = [];
    read = record {
      first = LinealitySpace;
      second = Vertices;
      parts = refl;
      read = parts_without_rows _ LinealitySpace Vertices [] refl refl refl;
    };
    shown = m;
  };
  few = λ front h. let l = h.shown.1 in omega arith;
  none_read = λ front cells h. true≢false (sym (ap is_some h.read.read.reads_first));
  other_client = λ front cells h. true≢false (sym h.named);
}
