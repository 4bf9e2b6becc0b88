-- Where sets hold the vertices of the facets, their meets by rank are the faces by rank.
use Rattle.pm_vector.proofs.Lists.{All_among, Among, Any_among, Contains_among, among_Contains}
use Rattle.pm_geom.specs.FaceCounts.{SamePlaces, at_rank}
use Rattle.pm_geom.specs.Faces.{HasRank}
use Rattle.pm_geom.specs.Graphs.{IsAscending, holds, sets_of}
use Rattle.pm_lattice.proofs.Chains.{one_rank, rank_same}
use Rattle.pm_lattice.proofs.MeetFaces.{meets_are_faces}
use Rattle.pm_lattice.specs.Laws.{LatticeIsHasseDiagram}
use Rattle.std.proofs.Common.{subst}
use Rattle.std.specs.Prelude.{length, ◌≡◌}

pub lattice_is_hasse_diagram : LatticeIsHasseDiagram
lattice_is_hasse_diagram n G L cG cL V F oV oF rows h ranks a = record {
  each = λ k. record {
    each = All_among (λ f. IsAscending (length V) f × HasRank n G L V (holds f) k) (at_rank ranks k) (λ xs i.
        let w = a.each k xs (Contains_among i) in
        (w.0, ((meets_are_faces n G L cG cL V F oV oF rows h (holds xs)).1 k).0 w.1));
    all = λ f r.
        let q = ((meets_are_faces n G L cG cL V F oV oF rows h f).1 k).1 r in
        let w = a.all f q.meet in
        let e : w.0 ≡ k = one_rank (length V) (sets_of rows) (holds w.1) w.0 k (a.each w.0 w.1 w.2).1 (rank_same (length V) (sets_of rows) f (holds w.1) k w.3 q) in
        Any_among (λ g. SamePlaces (length V) f (holds g)) (subst (λ j. Among w.1 (at_rank ranks j)) e (among_Contains (at_rank ranks w.0) w.2)) w.3;
    ordered = a.ordered k;
  };
  full = a.full;
}
