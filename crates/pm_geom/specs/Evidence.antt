-- Evidence that there is no answer, where two lists of rows alone are asked.
use Rattle.pm_vector.specs.Rows.{Row}
use Rattle.pm_geom.specs.declared.evidence.Evidence.{Evidence}
use Rattle.pm_geom.specs.declared.evidence.Evidence.TheVariants.{E1, E2, E3, E4}
use Rattle.pm_vector.specs.Products.{ProductsStay}
use Rattle.std.specs.Prelude.{ℕ}

-- the digit in the name of the evidence: of a step of an elimination, of two extreme rays, of a pivot, of a product;
-- and of too many rays, rows, faces or cells
abbrev pub evidence_number : Evidence → ℕ
evidence_number (E1 step) = 1
evidence_number (E2 front first second column) = 2
evidence_number (E3 basis enter leave row column) = 3
evidence_number (E4 first second) = 4
evidence_number e = 5

-- the product of the two rows leaves the range: one of the products of their entries does, or the sum of the first of
-- these
abbrev pub IsWideProduct : Row → Row → Type 0
IsWideProduct a x = ¬ (ProductsStay a x)
