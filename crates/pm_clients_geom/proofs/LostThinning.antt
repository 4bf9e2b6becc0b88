-- Where thinning of what a client reads is lost, or rows from the sets that it reads.
use Rattle.pm_client.specs.Fails.{IfFailed, IfOutOfRange}
use Rattle.pm_client.proofs.Lost.{whatever_evidence}
use Rattle.pm_client.proofs.Failing.{halves_read, parts_of}
use Rattle.pm_client.specs.Sound.{AreRowsOf, AreSetsOf, added_rows, fail_of_thin}
use Rattle.pm_client.specs.declared.ClientFail.TheVariants.{Failed}
use Rattle.pm_clients_geom.specs.Thinned.{ReadsLostRows, ReadsLostSets}
use Rattle.pm_geom.specs.declared.evidence.Evidence.{Evidence}
use Rattle.pm_geom.specs.declared.evidence.Evidence.TheVariants.{E5Rows}
use Rattle.pm_incidence.specs.FromSets.{IsSetsFail, IsTurnedSetsFail}
use Rattle.pm_incidence.specs.Lost.{IfThinWide, SetsAreLost, ThinningIsLost}
use Rattle.pm_incidence.specs.Thinning.{IsFacetsFail, IsThinFail, half_spaces}
use Rattle.pm_incidence.specs.declared.fails.ThinFail.{ThinFail}
use Rattle.pm_incidence.specs.declared.fails.ThinFail.TheVariants.{Many, Memory, Wide}
use Rattle.pm_object.specs.Reading.{ViewSeen}
use Rattle.pm_props.specs.declared.property.PropId.{PropId}
use Rattle.pm_props.specs.declared.property.PropId.TheVariants.{Equations, Facets, Inequalities, InputLineality, Points, Vertices}
use Rattle.pm_vector.specs.Rows.{Row}
use Rattle.std.specs.Prelude.{List, [], ℕ, ◌≡◌}

-- ---- thinning
pub points_lost : (v : ViewSeen) (L G A : List Row) (f : ThinFail) → AreRowsOf v InputLineality L → AreRowsOf v Points G → AreRowsOf v Facets A → added_rows v.of v.cols Points ≡ [] → IsThinFail v.cols G L A f → IfThinWide f (ThinningIsLost v.cols G L A)
    → IfFailed (fail_of_thin f) (ReadsLostRows v InputLineality Points Facets)
points_lost v L G A (Wide e) l g a none shown h = record { lines = L; rows = G; others = A; read = parts_of v InputLineality Points L G l g none; reads_others = a; lost = h }
points_lost v L G A (Many e) l g a none shown h = absurd shown
points_lost v L G A Memory l g a none shown h = tt

-- too many are facets
with_many : (v : ViewSeen) (E A V : List Row) (e : Evidence) (Q : Type 0) → IsFacetsFail v.of v.cols A E V (Many e) → IfOutOfRange (Failed e) Q
with_many v E A V (E5Rows places) Q shown = tt
with_many v E A V e Q shown = absurd shown

pub inequalities_lost : (v : ViewSeen) (E A V : List Row) (f : ThinFail) → AreRowsOf v Equations E → AreRowsOf v Inequalities A → AreRowsOf v Vertices V → IsFacetsFail v.of v.cols A E V f → IfThinWide f (ThinningIsLost v.cols (half_spaces v.of v.cols A) E V)
    → IfOutOfRange (fail_of_thin f) (ReadsLostRows v Equations Inequalities Vertices)
inequalities_lost v E A V (Wide e) l g a shown h = whatever_evidence e (ReadsLostRows v Equations Inequalities Vertices) (record { lines = E; rows = half_spaces v.of v.cols A; others = V; read = halves_read v E A l g; reads_others = a; lost = h })
inequalities_lost v E A V (Many e) l g a shown h = with_many v E A V e (ReadsLostRows v Equations Inequalities Vertices) shown
inequalities_lost v E A V Memory l g a shown h = tt

-- ---- rows from sets
module _ (v : ViewSeen) (first second : PropId) (E A : List Row) (in_sets : List (List ℕ)) (read : AreSetsOf v first second E A in_sets) where
  pub sets_lost : (f : ThinFail) → IsSetsFail v.cols E A in_sets f → IfThinWide f (SetsAreLost v.cols E A in_sets) → IfFailed (fail_of_thin f) (ReadsLostSets v first second)
  sets_lost (Wide e) shown h = record { equations = E; inequalities = A; in_sets = in_sets; read = read; lost = h }
  sets_lost (Many e) shown h = absurd shown
  sets_lost Memory shown h = tt

  pub turned_sets_lost : (f : ThinFail) → IsTurnedSetsFail v.cols E A in_sets f → IfThinWide f (SetsAreLost v.cols E A in_sets) → IfFailed (fail_of_thin f) (ReadsLostSets v first second)
  turned_sets_lost (Wide e) shown h = record { equations = E; inequalities = A; in_sets = in_sets; read = read; lost = h }
  turned_sets_lost (Many e) shown h = absurd shown
  turned_sets_lost Memory shown h = tt
