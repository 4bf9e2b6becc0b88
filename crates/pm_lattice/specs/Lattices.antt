-- What `faces` answers.
use Rattle.pm_geom.specs.Graphs.{sets_of}
use Rattle.pm_geom.specs.Meets.{AreMeetsByRank, AreTooManyMeets}
use Rattle.pm_geom.specs.declared.evidence.Evidence.{Evidence}
use Rattle.pm_geom.specs.declared.evidence.Evidence.TheVariants.{E5Faces}
use Rattle.pm_lattice.specs.declared.lattice.LatticeFail.{LatticeFail}
use Rattle.pm_lattice.specs.declared.lattice.LatticeFail.TheVariants.{Many, Memory}
use Rattle.pm_types.specs.Values.{IndexSets}
use Rattle.std.specs.Prelude.{ℕ, Bool, List}

-- all meets of the sets, by rank: the face lattice, where the sets hold the vertices of the facets (Ziegler, section
-- 2.2)
abbrev pub IsFaceLattice : IndexSets → List (List (List ℕ)) → Type 0
IsFaceLattice s ranks = AreMeetsByRank s.cols (sets_of s.rows) ranks

-- the evidence is different meets of the sets, more than a lattice may have
abbrev pub ShowsTooMany : ℕ → List (ℕ → Bool) → Evidence → Type 0
ShowsTooMany m sets (E5Faces faces) = AreTooManyMeets m sets faces
ShowsTooMany m sets e = ⊥

-- what a refusal says: too many faces, shown by evidence, or nothing but that memory is lacking
abbrev pub IsShown : IndexSets → LatticeFail → Type 0
IsShown s (Many e) = ShowsTooMany s.cols (sets_of s.rows) e
IsShown s Memory = Unit {0}
