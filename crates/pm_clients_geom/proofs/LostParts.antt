-- Where double description of the two parts that a client reads is lost, and a client of it, or one that places rays,
-- fails.
use Rattle.pm_client.proofs.Lost.{whatever_evidence}
use Rattle.pm_client.specs.Fails.{IfOutOfRange}
use Rattle.pm_beneath.specs.Placed.{IfPlaceWide, IsShownPlace, ShowsManyCells}
use Rattle.pm_beneath.specs.declared.fails.PlaceFail.{PlaceFail}
use Rattle.pm_beneath.specs.declared.fails.PlaceFail.TheVariants as place
use Rattle.pm_client.specs.Sound.{AreParts, fail_of_double}
use Rattle.pm_client.specs.declared.ClientFail.TheVariants.{Failed}
use Rattle.pm_clients_geom.specs.Hulls.{ReadsLostParts}
use Rattle.pm_clients_geom.specs.PlacedRays.{fail_of_place}
use Rattle.pm_dd.specs.HullRefusals.{IsShownOnParts}
use Rattle.pm_dd.specs.Lost.{IfWide, PartsAreLost}
use Rattle.pm_dd.specs.declared.fails.DdFail.{DdFail}
use Rattle.pm_dd.specs.declared.fails.DdFail.TheVariants.{Many, Memory, Wide}
use Rattle.pm_geom.specs.declared.evidence.Evidence.{Evidence}
use Rattle.pm_geom.specs.declared.evidence.Evidence.TheVariants.{E5Cells, E5Rays}
use Rattle.pm_object.specs.Reading.{ViewSeen}
use Rattle.pm_vector.specs.Rows.{Row}
use Rattle.std.proofs.Common.{inl, inr}
use Rattle.std.specs.Prelude.{List, ℕ}

-- too many are rays
with_many : (n : ℕ) (L G : List Row) (e : Evidence) (Q : Type 0) → IsShownOnParts n L G (Many e) → IfOutOfRange (Failed e) Q
with_many n L G e Q (inl h) = absurd h
with_many n L G (E5Rays front rays) Q (inr (D, list, h)) = tt
with_many n L G e Q (inr (D, list, h)) = absurd h

pub parts_lost : (v : ViewSeen) (L G : List Row) (f : DdFail) → AreParts v L G → IsShownOnParts v.cols L G f → IfWide f (PartsAreLost v.cols L G) → IfOutOfRange (fail_of_double f) (ReadsLostParts v)
parts_lost v L G (Wide e) read shown h = whatever_evidence e (ReadsLostParts v) (record { lines = L; others = G; read = read; lost = h })
parts_lost v L G (Many e) read shown h = with_many v.cols L G e (ReadsLostParts v) shown
parts_lost v L G Memory read shown h = tt

-- or cells
with_cells : (n : ℕ) (L G : List Row) (e : Evidence) (Q : Type 0) → ShowsManyCells n L G e → IfOutOfRange (Failed e) Q
with_cells n L G (E5Cells front cells) Q h = tt
with_cells n L G e Q h = absurd h

pub placing_lost : (v : ViewSeen) (L G : List Row) (f : PlaceFail) → AreParts v L G → IsShownPlace v.cols L G f → IfPlaceWide f (PartsAreLost v.cols L G) → IfOutOfRange (fail_of_place f) (ReadsLostParts v)
placing_lost v L G (place.Wide e) read shown h = whatever_evidence e (ReadsLostParts v) (record { lines = L; others = G; read = read; lost = h })
placing_lost v L G (place.Many e) read (inl shown) h = with_many v.cols L G e (ReadsLostParts v) shown
placing_lost v L G (place.Many e) read (inr shown) h = with_cells v.cols L G e (ReadsLostParts v) shown
placing_lost v L G place.Memory read shown h = tt
