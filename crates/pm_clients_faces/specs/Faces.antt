-- When the client `faces` answers, and how it fails.
use Rattle.pm_client.specs.Sound.{IsCrowdedLattice}
use Rattle.pm_client.specs.declared.ClientFail.{ClientFail}
use Rattle.pm_client.specs.declared.ClientFail.TheVariants.{Failed, Memory}
use Rattle.pm_geom.specs.Meets.{IsSmallLattice}
use Rattle.pm_geom.specs.declared.evidence.Evidence.TheVariants.{E5Faces}
use Rattle.pm_lattice.specs.Lattices.{IsFaceLattice}
use Rattle.pm_object.specs.Reading.{ViewSeen, fact_of}
use Rattle.pm_props.specs.declared.property.PropId.TheVariants.{VerticesInFacets}
use Rattle.pm_types.specs.Values.{IndexSets, sets}
use Rattle.std.specs.Prelude.{ℕ, List, Some, ◌≡◌}

-- the intersections of the sets of the view's VERTICES_IN_FACETS are no more than a lattice may have
pub record HasFewFaces (v : ViewSeen) : Type 0 where
  pub index : IndexSets
  pub reads : fact_of VerticesInFacets v.facts ≡ Some (sets index.rows index.cols)
  pub ranks : List (List (List ℕ))
  pub faces : IsFaceLattice index ranks
  pub small : IsSmallLattice ranks

-- memory is lacking, or the evidence is more intersections of these sets than a lattice may have
abbrev pub FailsForMany : ViewSeen → ClientFail → Type 0
FailsForMany v Memory = Unit {0}
FailsForMany v (Failed (E5Faces faces)) = IsCrowdedLattice v faces
FailsForMany v (Failed e) = ⊥
