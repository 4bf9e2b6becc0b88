-- What the table of properties says of one property.
use Rattle.std.specs.Prelude.{ℕ, Bool, List}
use Rattle.pm_props.specs.declared.property.Columns.{Columns}
use Rattle.pm_props.specs.declared.property.Describes.{Describes}
use Rattle.pm_props.specs.declared.property.RowTest.{RowTest}
use Rattle.pm_props.specs.declared.property.Tables.{Tables}
use Rattle.pm_props.specs.declared.property.ValueKind.{ValueKind}

-- its number; its names in the tables of polytopes (or programs), of cones and of fans; the form of its values; the
-- tables that have it;
-- whether it speaks of the order of the rays, of the facets; what its rows do to the cone, and whether it is half of
-- a pair that describes the cone; how it is tied to the number of columns; what each row has to pass
pub record RowSeen : Type 0 where
  pub number : ℕ
  pub first_name : List ℕ
  pub cone_name : List ℕ
  pub fan_name : List ℕ
  pub kind : ValueKind
  pub tables : Tables
  pub speaks_of_rays : Bool
  pub speaks_of_facets : Bool
  pub describes : Describes
  pub is_half : Bool
  pub columns : Columns
  pub test : RowTest
