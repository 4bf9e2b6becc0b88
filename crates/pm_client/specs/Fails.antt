-- Whether a client fails with evidence, and whether this is of a number out of the range.
use Rattle.pm_client.specs.declared.ClientFail.{ClientFail}
use Rattle.pm_client.specs.declared.ClientFail.TheVariants.{Failed, Memory}
use Rattle.pm_geom.specs.declared.evidence.Evidence.{Evidence}
use Rattle.pm_geom.specs.declared.evidence.Evidence.TheVariants.{E5Cells, E5Faces, E5Rays, E5Rows}

-- Q holds where a client fails with evidence, and not for want of memory
abbrev pub IfFailed : ClientFail → Type 0 → Type 0
IfFailed Memory Q = Unit {0}
IfFailed (Failed e) Q = Q

-- Q holds where the evidence is of a number out of the range, and not of too many rays, facets, faces or cells
abbrev pub IfNotMany : Evidence → Type 0 → Type 0
IfNotMany (E5Rays front rays) Q = Unit {0}
IfNotMany (E5Rows places) Q = Unit {0}
IfNotMany (E5Faces faces) Q = Unit {0}
IfNotMany (E5Cells front cells) Q = Unit {0}
IfNotMany e Q = Q

-- Q holds where a client fails with evidence of a number out of the range
abbrev pub IfOutOfRange : ClientFail → Type 0 → Type 0
IfOutOfRange Memory Q = Unit {0}
IfOutOfRange (Failed e) Q = IfNotMany e Q
