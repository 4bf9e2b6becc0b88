-- Where the cells of sites that a client reads are lost.
use Rattle.pm_client.proofs.Lost.{whatever_evidence}
use Rattle.pm_client.specs.Fails.{IfOutOfRange}
use Rattle.pm_client.specs.declared.ClientFail.TheVariants.{Failed}
use Rattle.pm_clients_lift.specs.LiftedSites.{AreReadHeights, AreReadSites, ReadsLostDelaunaySites, ReadsLostSites, fail_of_lift}
use Rattle.pm_geom.specs.declared.evidence.Evidence.{Evidence}
use Rattle.pm_geom.specs.declared.evidence.Evidence.TheVariants.{E5Rays}
use Rattle.pm_lift.specs.Lost.{IfWideLift, LiftingIsLost, RaisingIsLost}
use Rattle.pm_lift.specs.Refusals.{IsLiftFail, IsRaiseFail, IsRowsFail}
use Rattle.pm_lift.specs.declared.fails.LiftFail.{LiftFail}
use Rattle.pm_lift.specs.declared.fails.LiftFail.TheVariants.{Many, Memory, Wide}
use Rattle.pm_object.specs.Reading.{ViewSeen}
use Rattle.pm_vector.specs.Numbers.{Ratio}
use Rattle.pm_vector.specs.Rows.{Row}
use Rattle.std.proofs.Common.{inl, inr, subst}
use Rattle.std.specs.Prelude.{List, length, ℕ, ◌≡◌}

-- too many are rays
with_many : (n : ℕ) (X : List Row) (e : Evidence) (Q : Type 0) → IsRowsFail n X (Many e) → IfOutOfRange (Failed e) Q
with_many n X e Q (inl h) = absurd h
with_many n X (E5Rays front rays) Q (inr (D, list, h)) = tt
with_many n X e Q (inr (D, list, h)) = absurd h

lifting_many : (n : ℕ) (X : List Row) (W : List Ratio) (e : Evidence) (Q : Type 0) → IsLiftFail n X W (Many e) → IfOutOfRange (Failed e) Q
lifting_many n X W e Q (inl h) = absurd h
lifting_many n X W e Q (inr (Y, rows, h)) = with_many n Y e Q h

raising_many : (n : ℕ) (X : List Row) (e : Evidence) (Q : Type 0) → IsRaiseFail n X (Many e) → IfOutOfRange (Failed e) Q
raising_many n X e Q (inl h) = absurd h
raising_many n X e Q (inr (Y, rows, h)) = with_many n Y e Q h

-- by the columns and the rows that calls gave
pub lifting_as : (n m : ℕ) (Y X : List Row) (W : List Ratio) (f : LiftFail) → n ≡ m → Y ≡ X → IfWideLift f (LiftingIsLost n Y W) → IfWideLift f (LiftingIsLost m X W)
lifting_as n m Y X W f e g h = subst (λ (k : ℕ). IfWideLift f (LiftingIsLost k X W)) e (subst (λ (Z : List Row). IfWideLift f (LiftingIsLost n Z W)) g h)

pub raising_as : (n m : ℕ) (Y X : List Row) (f : LiftFail) → n ≡ m → Y ≡ X → IfWideLift f (RaisingIsLost n Y) → IfWideLift f (RaisingIsLost m X)
raising_as n m Y X f e g h = subst (λ (k : ℕ). IfWideLift f (RaisingIsLost k X)) e (subst (λ (Z : List Row). IfWideLift f (RaisingIsLost n Z)) g h)

pub sites_lost : (v : ViewSeen) (X : List Row) (W : List Ratio) → AreReadSites v X → AreReadHeights v W → length W ≡ length X → (f : LiftFail) → IsLiftFail v.cols X W f → IfWideLift f (LiftingIsLost v.cols X W) → IfOutOfRange (fail_of_lift f) (ReadsLostSites v)
sites_lost v X W s h long (Wide e) shown l = whatever_evidence e (ReadsLostSites v) (record { sites = X; heights = W; read_sites = s; read_heights = h; as_many = long; lost = l })
sites_lost v X W s h long (Many e) shown l = lifting_many v.cols X W e (ReadsLostSites v) shown
sites_lost v X W s h long Memory shown l = tt

pub delaunay_sites_lost : (v : ViewSeen) (X : List Row) → AreReadSites v X → (f : LiftFail) → IsRaiseFail v.cols X f → IfWideLift f (RaisingIsLost v.cols X) → IfOutOfRange (fail_of_lift f) (ReadsLostDelaunaySites v)
delaunay_sites_lost v X s (Wide e) shown l = whatever_evidence e (ReadsLostDelaunaySites v) (record { sites = X; read_sites = s; lost = l })
delaunay_sites_lost v X s (Many e) shown l = raising_many v.cols X e (ReadsLostDelaunaySites v) shown
delaunay_sites_lost v X s Memory shown l = tt
