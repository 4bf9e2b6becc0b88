-- What a view reads, and what is added to it.
use Rattle.pm_client.specs.Fails.{IfFailed, IfNotMany, IfOutOfRange}
use Rattle.pm_client.specs.Sound.{AreParts, ArePartsOf, AreRowsOf, AreSetsOf, IsListOf, added_rows}
use Rattle.pm_client.specs.declared.ClientFail.{ClientFail}
use Rattle.pm_client.specs.declared.ClientFail.TheVariants.{Failed, Memory}
use Rattle.pm_clients_fans.specs.Cones.{ReadsLostCone}
use Rattle.pm_clients_geom.specs.Hulls.{ReadsLostParts}
use Rattle.pm_clients_geom.specs.Lists.{IsLostExtendedList, IsLostList}
use Rattle.pm_clients_geom.specs.Thinned.{ReadsLostRows, ReadsLostSets}
use Rattle.pm_clients_lift.specs.LiftedSites.{ReadsLostDelaunaySites, ReadsLostSites}
use Rattle.pm_elim.proofs.ExtendedLaws.{length-unit}
use Rattle.pm_vector.specs.Evidence.{unit}
use Rattle.pm_geom.specs.declared.evidence.Evidence.{Evidence}
use Rattle.pm_geom.specs.declared.evidence.Evidence.TheVariants.{E1, E2, E3, E4, E5Cells, E5Faces, E5Rays, E5Rows}
use Rattle.pm_minors.specs.Minors.{IsAtMost}
use Rattle.pm_minors.proofs.Rays.{unit_small}
use Rattle.pm_object.specs.Reading.{ViewSeen}
use Rattle.pm_object_type.specs.declared.object_type.ObjectType.{ObjectType}
use Rattle.pm_object_type.specs.declared.object_type.ObjectType.TheVariants.{Cone, Fan, Polytope}
use Rattle.pm_props.specs.declared.property.PropId.{PropId}
use Rattle.pm_props.specs.declared.property.PropId.TheVariants.{Inequalities}
use Rattle.pm_vector.proofs.Lists.{all_at, among_All}
use Rattle.pm_vector.proofs.Spans.{at_place}
use Rattle.pm_vector.specs.Numbers.{Ratio}
use Rattle.pm_vector.specs.Rows.{Row}
use Rattle.pm_laws_fitting.specs.Sizes.{AreAtMost, BothAreAtMost, ConesFit, FitsBySize, FitsDoubled, LiftedFit, PartsFit, RaisedFit}
use Rattle.pm_laws_fitting.proofs.Lifted.{lifted_sized, lifting_kept, raised_sized, raising_kept}
use Rattle.pm_laws_fitting.proofs.Parted.{parts_are_never_lost_by_count}
use Rattle.pm_laws_fitting.proofs.Sized.{Sized, none_lost, sized_append, sized_cols, sized_from, sized_none, sized_one, sized_size}
use Rattle.pm_laws_fitting.proofs.Thinning.{cones_kept, sets_kept, thinning_kept}
use Rattle.std.proofs.Common.{arith, refl, subst, sym, ◌∙◌}
use Rattle.std.specs.Prelude.{List, [], length, suc, ℕ, ◌*◌, ◌++◌, ◌<◌, ◌≤◌, ◌∷◌, ◌≡◌}
use lib.IntN.{pos}
use native.Mathlib.Nat.{mul-le-mul}

-- ---- how a client fails
pub out_map : (f : ClientFail) (Q R : Type 0) → (Q → R) → IfOutOfRange f Q → IfOutOfRange f R
out_map Memory Q R g h = tt
out_map (Failed e) Q R g h = by e h
  where
    by : (e : Evidence) → IfNotMany e Q → IfNotMany e R
    by (E1 step) h = g h
    by (E2 front first second column) h = g h
    by (E3 basis enter leave row column) h = g h
    by (E4 first second) h = g h
    by (E5Rays front rays) h = tt
    by (E5Rows places) h = tt
    by (E5Faces faces) h = tt
    by (E5Cells front cells) h = tt

pub memory_alone : (f : ClientFail) (Q : Type 0) → (Q → ⊥) → IfFailed f Q → f ≡ Memory
memory_alone Memory Q g h = refl
memory_alone (Failed e) Q g h = absurd (g h)

-- ---- rows of a view
rows_sized : (v : ViewSeen) (p : PropId) (M : ℕ) (A : List Row) → AreAtMost p M v → AreRowsOf v p A → Sized v.cols M A
rows_sized v p M A a r = sized_from v.cols M A (a.cols A r) (a.size A r)

pub added_sized : (of : ObjectType) (n : ℕ) (q : PropId) (M : ℕ) → 0 < M → Sized n M (added_rows of n q)
added_sized Polytope n Inequalities M some = sized_one n M (unit n 0) (length-unit n 0, unit_small M n 0 some)
added_sized of n q M some = sized_none n M

pub record PartsSized (v : ViewSeen) (first : PropId) (M : ℕ) (L G : List Row) : Type 0 where
  pub reads : AreRowsOf v first L
  pub lines : Sized v.cols M L
  pub others : Sized v.cols M G

parts_sized : (v : ViewSeen) (first second : PropId) (M : ℕ) (L G : List Row) → BothAreAtMost first second M v → ArePartsOf v first second L G → PartsSized v first M L G
parts_sized v first second M L G b r =
    let reads : AreRowsOf v first L = record { cols = r.first_cols; rows = r.first_rows; reads = r.reads_first; primitive = r.first_primitive } in
    record {
      reads = reads;
      lines = rows_sized v first M L b.firsts reads;
      others = (let e = r.added in rw e (sized_append v.cols M r.ys (added_rows v.of v.cols second)
          (rows_sized v second M r.ys b.seconds (record { cols = r.second_cols; rows = r.second_rows; reads = r.reads_second; primitive = r.second_primitive }))
          (added_sized v.of v.cols second M b.some)));
    }

list_sized : (v : ViewSeen) (first second : PropId) (M : ℕ) (X : List Row) → BothAreAtMost first second M v → IsListOf v first second X → Sized v.cols M X
list_sized v first second M X b r =
    let e = r.listed in
    rw e (sized_append v.cols M (r.xs ++ r.ys) (added_rows v.of v.cols second)
    (sized_append v.cols M r.xs r.ys
    (rows_sized v first M r.xs b.firsts (record { cols = r.first_cols; rows = r.first_rows; reads = r.reads_first; primitive = r.first_primitive }))
    (rows_sized v second M r.ys b.seconds (record { cols = r.second_cols; rows = r.second_rows; reads = r.reads_second; primitive = r.second_primitive })))
    (added_sized v.of v.cols second M b.some))

-- ---- what is not lost
pub parts_fit : (v : ViewSeen) → PartsFit v → ReadsLostParts v → ⊥
parts_fit v fits r =
    let d = fits r.read.first r.read.second r.read.parts in
    let s = parts_sized v r.read.first r.read.second d.most r.lines r.others d.rows r.read.read in
    parts_are_never_lost_by_count v.cols d.most d.lines d.basis r.lines r.others d.rows.some
    (sized_cols v.cols d.most r.lines s.lines) (sized_cols v.cols d.most r.others s.others) (sized_size v.cols d.most r.lines s.lines) (sized_size v.cols d.most r.others s.others)
    (d.few r.lines s.reads) d.minors d.grows d.size r.lost

pub rows_fit : (v : ViewSeen) (first second third : PropId) → FitsBySize first second v → ReadsLostRows v first second third → ⊥
rows_fit v first second third f r =
    let s = parts_sized v first second f.most r.lines r.rows f.rows r.read in
    thinning_kept v.cols f.most r.rows r.lines r.others f.rows.some f.size s.others s.lines r.lost

pub sets_fit : (v : ViewSeen) (first second : PropId) → FitsBySize first second v → ReadsLostSets v first second → ⊥
sets_fit v first second f r =
    sets_kept v.cols f.most r.equations r.inequalities r.in_sets f.rows.some f.size
    (rows_sized v first f.most r.equations f.rows.firsts r.read.equations) (rows_sized v second f.most r.inequalities f.rows.seconds r.read.inequalities) r.lost

pub list_fits : (v : ViewSeen) (first second : PropId) → FitsBySize first second v → IsLostList v first second → ⊥
list_fits v first second f r = (none_lost v.cols f.most r.rows f.rows.some f.size (list_sized v first second f.most r.rows f.rows r.listed)).rows r.lost

pub extended_fits : (v : ViewSeen) (first second : PropId) → FitsBySize first second v → IsLostExtendedList v first second → ⊥
extended_fits v first second f r = (none_lost v.cols f.most r.rows f.rows.some f.size (list_sized v first second f.most r.rows f.rows r.listed)).extended r.lost

pub cones_fit : (v : ViewSeen) → ConesFit v → ReadsLostCone v → ⊥
cones_fit v c r =
    let f = c.fits in
    cones_kept v.cols f.most r.V r.L r.index.rows f.rows.some f.size (rows_sized v _ f.most r.V f.rows.seconds r.read.rays) (rows_sized v _ f.most r.L f.rows.firsts r.read.lines)
    (c.places r.V r.L r.index r.read) r.lost

product_some : (a b : ℕ) → 0 < a → 0 < b → 0 < a * b
product_some a b h k = let m : 1 * 1 ≤ a * b = mul-le-mul h k in omega arith

pub lifted_fit : (v : ViewSeen) → LiftedFit v → ReadsLostSites v → ⊥
lifted_fit v f r =
    lifting_kept v.cols (f.most * f.height) r.sites (product_some f.most f.height f.some f.some_height) f.size r.heights
    (λ j l row p.
    let h = f.heights r.heights r.read_heights j (record { num = pos 0; den = pos 1 }) (let e = r.as_many in omega arith) in
    lifted_sized v.cols f.most f.height _ row _ (all_at (λ (x : Row). length x ≡ v.cols) (at_place r.sites j l) r.read_sites.cols) (among_All (IsAtMost f.most) (at_place r.sites j l) (f.sites r.sites r.read_sites)) h.0 h.1 p)
    r.lost

pub raised_fit : (v : ViewSeen) → RaisedFit v → ReadsLostDelaunaySites v → ⊥
raised_fit v f r =
    raising_kept v.cols (suc v.cols * (f.most * f.most)) r.sites (product_some (suc v.cols) (f.most * f.most) (omega arith) (product_some f.most f.most f.some f.some)) f.size
    (λ j l row p.
    raised_sized v.cols f.most _ row (all_at (λ (x : Row). length x ≡ v.cols) (at_place r.sites j l) r.read_sites.cols) (among_All (IsAtMost f.most) (at_place r.sites j l) (f.sites r.sites r.read_sites)) p)
    r.lost
