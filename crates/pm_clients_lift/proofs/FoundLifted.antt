-- What the clients that lift sites read, that what they put is sound, and how they fail.
use Rattle.pm_client.proofs.PlainValues.{Follows, sound_plain}
use Rattle.pm_client.proofs.Puts.{IsPut}
use Rattle.pm_client.proofs.ReadValues.{all_length, primitive_length, read_right}
use Rattle.pm_client.specs.Sound.{FailsRightly, IsSound}
use Rattle.pm_clients_lift.specs.Laws.{DelaunaySpheresAreEmpty}
use Rattle.pm_clients_lift.specs.LiftedSites.{AreCellsPut, AreDelaunayPut, AreReadHeights, AreReadSites, LiftsSites, RaisesSites, fail_of_lift}
use Rattle.pm_geom.specs.Cells.{AreCells, AreSites, squares}
use Rattle.pm_geom.specs.Faces.{ray}
use Rattle.pm_geom.specs.Graphs.{IsAscending}
use Rattle.pm_geom.specs.Things.{Orders}
use Rattle.pm_geom.specs.declared.evidence.Evidence.TheVariants.{E1, E2, E4, E5Rays}
use Rattle.pm_lift.proofs.LiftedRows.{ratio_at-squares}
use Rattle.pm_lift.proofs.RowsMade.{sites_from}
use Rattle.pm_lift.proofs.Spheres.{cells_have_spheres}
use Rattle.pm_lift.proofs.SameSites.{cells_of_same_sites, direction_back, entry-direction, squares_of_same_sites}
use Rattle.pm_lift.specs.Refusals.{IsLiftFail, IsRaiseFail}
use Rattle.pm_lift.specs.declared.fails.LiftFail.{LiftFail}
use Rattle.pm_lift.specs.declared.fails.LiftFail.TheVariants as lift
use Rattle.pm_fraction.specs.FractionRows.{ArePrimitiveRowsOf}
use Rattle.pm_fraction.specs.Matrices.{IsFraction}
use Rattle.pm_object.specs.Reading.{DraftSeen, ViewSeen, fact_of}
use Rattle.pm_object_type.specs.declared.object_type.ObjectType.{ObjectType}
use Rattle.pm_object_type.specs.declared.object_type.ObjectType.TheVariants.{Cone, Fan, Polytope}
use Rattle.pm_props.specs.declared.property.PropId.TheVariants.{DelaunayCells, RegularCells, SiteHeights, Sites}
use Rattle.pm_props.specs.declared.property.RowTest.TheVariants as test
use Rattle.pm_relations.proofs.Standing.{in_order_at, in_order_length, same_direction, stand_at, stand_length}
use Rattle.pm_types.proofs.Indices.{ascending_sets}
use Rattle.pm_types.proofs.PrimitiveRows.{few_rows}
use Rattle.pm_types.specs.Forms.{FormsIn, first_is_above, is_above_nought, is_matrix_form, is_row, is_row_of_entries, is_sets_form, passes}
use Rattle.pm_types.specs.Right.{Right, RightAll, RowsAreInOrder}
use Rattle.pm_types.specs.Things.{Thing}
use Rattle.pm_types.specs.Values.{IndexSets, matrix, sets}
use Rattle.pm_vector.proofs.Lists.{all_from, among_All}
use Rattle.pm_vector.proofs.Ring.{ring}
use Rattle.pm_vector.proofs.RowLaws.{entry-times}
use Rattle.pm_vector.proofs.Signs.{mul_pos, pos_cancel}
use Rattle.pm_vector.specs.Numbers.{Ratio, SameRatio}
use Rattle.pm_vector.specs.Rows.{Row, SameDirection, Stands, entry, ratio_at}
use Rattle.std.proofs.Common.{ap, arith, inl, inr, refl, subst, sym, true, true≢false, ◌∙◌}
use Rattle.std.proofs.lemmas.Bool.{and_parts, eqb-true}
use Rattle.std.proofs.lemmas.Int.{ints}
use Rattle.std.proofs.lemmas.List.{get_or_default}
use Rattle.std.proofs.lemmas.List.Sums.{AllPass-from_list_all}
use Rattle.std.specs.List.{All, list_all, slice_index_or}
use Rattle.std.specs.Prelude.{List, Some, [], get_or, length, nat_eq, nat_le, suc, zero, ℕ, ◌&&◌, ◌∷◌, ◌≡◌, ◌<◌, ◌≤◌, ◌≢◌, ◌⊎◌}
use lib.IntN.{negsuc, pos, ℤ, ◌*ℤ◌}
use lib.Signed.{◌<ℤ◌}
use Rattle.pm_limits.specs.Limits.{most_rows, most_site_columns}

-- ---- what is read
above : (z : ℤ) → is_above_nought z ≡ true → pos 0 <ℤ z
above (pos zero) h = absurd (true≢false (sym h))
above (pos (suc n)) h = omega (arith, ints)
above (negsuc n) h = absurd (true≢false (sym h))

-- a whole row that stands for a site has a positive first entry
positive_first : (r : List Ratio) (x : Row) → Stands r x → first_is_above r ≡ true → pos 0 <ℤ entry x 0
positive_first [] x s h = absurd (true≢false (sym h))
positive_first (a ∷ r) x s h =
    let up : pos 0 <ℤ (s.q *ℤ a.num) = mul_pos s.q_positive (above a.num h) in
    let product : pos 0 <ℤ (s.p *ℤ (entry x 0 *ℤ a.den)) = subst (λ z. pos 0 <ℤ z) (sym (s.same 0 (omega arith))) up in
    let both : pos 0 <ℤ (entry x 0 *ℤ a.den) = pos_cancel s.p_positive product in
    let turned : entry x 0 *ℤ a.den ≡ a.den *ℤ entry x 0 = simp ring in
    pos_cancel (s.denominators 0 (omega arith)) (subst (λ z. pos 0 <ℤ z) turned both)

-- the test of sites is the same for each type
site_test : (of : ObjectType) (r : List Ratio) → passes of test.Site r ≡ first_is_above r
site_test Polytope r = refl
site_test Cone r = refl
site_test Fan r = refl

pub few_sites : (of : ObjectType) (n m : ℕ) (rows : List (List Ratio)) → FormsIn of n Sites (matrix m rows) → length rows ≤ most_rows
few_sites of n m rows f = few_rows m rows (and_parts (nat_le m most_site_columns) (is_matrix_form m rows) f.formed).1

pub sites_read : (v : ViewSeen) (m : ℕ) (rows : List (List Ratio)) (X : List Row) → fact_of Sites v.facts ≡ Some (matrix m rows) → FormsIn v.of v.cols Sites (matrix m rows) → ArePrimitiveRowsOf rows X → AreReadSites v X
sites_read v m rows X reads f p = record {
  rows = record { cols = m; rows = rows; reads = reads; primitive = p };
  cols = all_from (λ (x : Row). length x ≡ v.cols) X (λ x i. among_All (λ (y : Row). length y ≡ v.cols) i (all_length v.cols X (primitive_length m v.cols rows X form f.columns p)));
  positive = λ i d below. rw (get_or_default X i d [] below) (up i below);
  few = let l = few_rows m rows form in let c = p.count in omega arith;
}
  where
    form : is_matrix_form m rows ≡ true
    form = (and_parts (nat_le m most_site_columns) (is_matrix_form m rows) f.formed).1

    tests : All (λ r. is_row v.of Sites r ≡ true) rows
    tests = AllPass-from_list_all (is_row v.of Sites) rows f.rows

    up : (i : ℕ) → i < length X → pos 0 <ℤ entry (get_or X i []) 0
    up i below =
        let c = p.count in
        let l : i < length rows = omega arith in
        positive_first (get_or rows i []) (get_or X i []) (p.multiple i l) (sym (site_test v.of (get_or rows i [])) ∙ tests i [] l)

-- SITE_HEIGHTS is one row
pub heights_row : (of : ObjectType) (n m : ℕ) (rows : List (List Ratio)) → FormsIn of n SiteHeights (matrix m rows) → length rows ≡ 1
heights_row of n m rows f =
    let few = and_parts (nat_eq (length rows) 1 && nat_le m most_rows) (list_all (is_row_of_entries m) rows) f.formed in
    eqb-true (length rows) 1 (and_parts (nat_eq (length rows) 1) (nat_le m most_rows) few.0).0

-- which is read, and has fractions
pub heights_read : (v : ViewSeen) (m : ℕ) (rows : List (List Ratio)) → fact_of SiteHeights v.facts ≡ Some (matrix m rows) → FormsIn v.of v.cols SiteHeights (matrix m rows) → AreReadHeights v (slice_index_or rows 0 [])
heights_read v m [] reads f = let one = heights_row v.of v.cols m [] f in absurd (omega arith)
heights_read v m (r ∷ []) reads f = record { reads = (m, reads); fractions = f.entries 0 [] (omega arith) }
heights_read v m (r ∷ s ∷ rows) reads f = let one = heights_row v.of v.cols m (r ∷ s ∷ rows) f in absurd (omega arith)

-- ---- sites of the same directions
direction_trans : (x y z : Row) → SameDirection x y → SameDirection y z → SameDirection x z
direction_trans x y z s t = record {
  p = t.p *ℤ s.p;
  q = s.q *ℤ t.q;
  p_positive = mul_pos t.p_positive s.p_positive;
  q_positive = mul_pos s.q_positive t.q_positive;
  same = record { at = λ i. entry-times (t.p *ℤ s.p) x i ∙ alike (entry x i) (entry y i) (entry z i) s.p s.q t.p t.q (entry-direction x y i s) (entry-direction y z i t) ∙ sym (entry-times (s.q *ℤ t.q) z i) };
}
  where
    alike : (a b c p q r s : ℤ) → p *ℤ a ≡ q *ℤ b → r *ℤ b ≡ s *ℤ c → (r *ℤ p) *ℤ a ≡ (q *ℤ s) *ℤ c
    alike a b c p q r s e f =
        let one : (r *ℤ p) *ℤ a ≡ r *ℤ (p *ℤ a) = simp ring in
        let two : r *ℤ (q *ℤ b) ≡ q *ℤ (r *ℤ b) = simp ring in
        let three : q *ℤ (s *ℤ c) ≡ (q *ℤ s) *ℤ c = simp ring in
        one ∙ ap (λ t. r *ℤ t) e ∙ two ∙ ap (λ t. q *ℤ t) f ∙ three

-- squares of sites have positive denominators
squares_positive : (Q : List Row) → ((j : ℕ) → j < length Q → pos 0 <ℤ entry (ray Q j) 0) → (j : ℕ) → j < length Q → pos 0 <ℤ (ratio_at (squares Q) j).den
squares_positive Q up j l = rw (ratio_at-squares Q j l) (mul_pos (up j l) (up j l))

raised_sites : (n : ℕ) (Q : List Row) (W : List Ratio) → AreSites n Q W → AreSites n Q (squares Q)
raised_sites n Q W s = record { cols = s.cols; positive = s.positive; denominators = squares_positive Q s.positive }

module _ (v : ViewSeen) (X : List Row) (s : AreReadSites v X) (t : Thing) (o : Orders) (cols : t.cols ≡ v.cols) (right : RightAll v.facts t o) where
  right_sites : RowsAreInOrder t SameDirection t.sites s.rows.rows
  right_sites = (read_right Sites v.facts (matrix s.rows.cols s.rows.rows) t o s.rows.reads right).1

  pub as_many : length t.sites ≡ length X
  as_many = sym (in_order_length SameDirection t.sites right_sites.xs right_sites.order) ∙ stand_length s.rows.rows right_sites.xs right_sites.stand ∙ sym s.rows.primitive.count

  same_sites : (j : ℕ) → j < length X → SameDirection (ray X j) (ray t.sites j)
  same_sites j l =
      let few = as_many in
      let count = s.rows.primitive.count in
      let long = stand_length s.rows.rows right_sites.xs right_sites.stand in
      direction_trans (ray X j) (ray right_sites.xs j) (ray t.sites j)
      (same_direction (s.rows.primitive.multiple j (omega arith)) (stand_at s.rows.rows right_sites.xs right_sites.stand j (omega arith)))
      (direction_back (ray t.sites j) (ray right_sites.xs j) (in_order_at SameDirection t.sites right_sites.xs right_sites.order j (omega arith)))

  sites_as : AreSites v.cols t.sites t.heights
  sites_as = subst (λ n. AreSites n t.sites t.heights) cols right.thing.sites.each

  -- cells of what was read are cells of the thing
  pub cells_as : (W : List Ratio) (T : List (List ℕ)) → t.heights ≡ W → All IsFraction W → length W ≡ length X → AreCells v.cols X W T → AreCells t.cols t.sites t.heights T
  cells_as W T heights fractions long found =
      let dens : (j : ℕ) → j < length X → pos 0 <ℤ (ratio_at W j).den = λ j l. (fractions j (record { num = pos 0; den = pos 1 }) (omega arith)).reduced.positive in
      subst (λ n. AreCells n t.sites t.heights T) (sym cols)
      (cells_of_same_sites v.cols X t.sites W t.heights T as_many same_sites (λ j l. subst (λ V. SameRatio (ratio_at W j) (ratio_at V j)) (sym heights) refl) (sites_from v.cols X W s.cols s.positive dens) sites_as found)

  pub delaunay_as : (T : List (List ℕ)) → AreCells v.cols X (squares X) T → AreCells t.cols t.sites (squares t.sites) T
  delaunay_as T found =
      let own : AreSites v.cols X (squares X) = sites_from v.cols X (squares X) s.cols s.positive (squares_positive X (λ j l. s.positive j [] l)) in
      subst (λ n. AreCells n t.sites (squares t.sites) T) (sym cols)
      (cells_of_same_sites v.cols X t.sites (squares X) (squares t.sites) T as_many same_sites alike own (raised_sites v.cols t.sites t.heights sites_as) found)
    where
      alike : (j : ℕ) → j < length X → SameRatio (ratio_at (squares X) j) (ratio_at (squares t.sites) j)
      alike j l = let few = as_many in let m : j < length t.sites = omega arith in rw (ratio_at-squares X j l, ratio_at-squares t.sites j m) (squares_of_same_sites (ray X j) (ray t.sites j) (same_sites j l))

-- cells of a thing have empty spheres
pub delaunay_spheres_are_empty : DelaunaySpheresAreEmpty
delaunay_spheres_are_empty t o c thing rows n right = λ k d l.
    cells_have_spheres t.cols t.sites _ thing.some_cols (raised_sites t.cols t.sites t.heights thing.sites.each) (right.1.each k d l).1

-- ---- what is put
-- none, where there are more or fewer heights than sites
pub no_cells : (v : ViewSeen) (X : List Row) (W : List Ratio) → AreReadSites v X → AreReadHeights v W → length W ≢ length X → (c : IndexSets) → c.rows ≡ [] → c.cols ≡ 0 → AreCellsPut v c
no_cells v X W s h other c none nought = record { sites = X; heights = W; read_sites = s; read_heights = h; found = inr (other, none, nought); few = rw none (omega arith) }

ascending_cells : (n : ℕ) (Q : List Row) (W : List Ratio) (T : List (List ℕ)) → AreCells n Q W T → All (IsAscending (length Q)) T
ascending_cells n Q W T c = λ k d l. (c.each k d l).0

pub regular_sound : (v : ViewSeen) (c : IndexSets) (old new : DraftSeen) → AreCellsPut v c → IsPut v RegularCells (sets c.rows c.cols) old new → IsSound v new
regular_sound v c old new w put = sound_plain v RegularCells (sets c.rows c.cols) old new refl refl (formed w.found) put (follows w.found)
  where
    formed : ((length w.heights ≡ length w.sites) × (c.cols ≡ length w.sites) × AreCells v.cols w.sites w.heights c.rows) ⊎ ((length w.heights ≢ length w.sites) × (c.rows ≡ []) × (c.cols ≡ 0)) → is_sets_form c.rows c.cols ≡ true
    formed (inl f) = subst (λ k. is_sets_form c.rows k ≡ true) (sym f.1) (ascending_sets (length w.sites) c.rows w.few w.read_sites.few (ascending_cells v.cols w.sites w.heights c.rows f.2))
    formed (inr f) = rw (f.1, f.2) refl

    follows : ((length w.heights ≡ length w.sites) × (c.cols ≡ length w.sites) × AreCells v.cols w.sites w.heights c.rows) ⊎ ((length w.heights ≢ length w.sites) × (c.rows ≡ []) × (c.cols ≡ 0)) → Follows v RegularCells (sets c.rows c.cols)
    follows f t o of cols right d = by f
      where
        heights : t.heights ≡ w.heights
        heights = sym (same_list ((read_right SiteHeights v.facts (matrix w.read_heights.reads.0 (w.heights ∷ [])) t o w.read_heights.reads.1 right).1))
          where
            same_list : {x y : List Ratio} → x ∷ [] ≡ y ∷ [] → x ≡ y
            same_list e = ap (λ rows. get_or rows 0 []) e

        many : length t.sites ≡ length w.sites
        many = as_many v w.sites w.read_sites t o cols right

        by : ((length w.heights ≡ length w.sites) × (c.cols ≡ length w.sites) × AreCells v.cols w.sites w.heights c.rows) ⊎ ((length w.heights ≢ length w.sites) × (c.rows ≡ []) × (c.cols ≡ 0)) → Right RegularCells (sets c.rows c.cols) t o d
        by (inl g) = (g.1 ∙ sym many, cells_as v w.sites w.read_sites t o cols right w.heights c.rows heights w.read_heights.fractions g.0 g.2)
        by (inr g) = absurd (g.0 (sym (ap length heights) ∙ right.thing.sites.as_many ∙ many))

pub delaunay_sound : (v : ViewSeen) (c : IndexSets) (old new : DraftSeen) → AreDelaunayPut v c → IsPut v DelaunayCells (sets c.rows c.cols) old new → IsSound v new
delaunay_sound v c old new w put = sound_plain v DelaunayCells (sets c.rows c.cols) old new refl refl formed put follows
  where
    formed : is_sets_form c.rows c.cols ≡ true
    formed = subst (λ k. is_sets_form c.rows k ≡ true) (sym w.cols) (ascending_sets (length w.sites) c.rows w.few w.read_sites.few (ascending_cells v.cols w.sites (squares w.sites) c.rows w.found))

    follows : Follows v DelaunayCells (sets c.rows c.cols)
    follows t o of cols right d = (w.cols ∙ sym (as_many v w.sites w.read_sites t o cols right), delaunay_as v w.sites w.read_sites t o cols right c.rows w.found)

-- ---- failures
-- on the way to the lifted rows, or on these, no other evidence is shown
pub fails_by_lifting : (v : ViewSeen) (X : List Row) (W : List Ratio) → LiftsSites v.kind → AreReadSites v X → AreReadHeights v W → (f : LiftFail) → IsLiftFail v.cols X W f → FailsRightly v (fail_of_lift f)
fails_by_lifting v X W kind s h (lift.Wide (E1 step)) shown = inr (inl (record { named = kind.lifts; sites = X; heights = W; reads_sites = s.rows; reads_heights = h.reads; shown = shown }))
fails_by_lifting v X W kind s h (lift.Wide (E2 a b c d)) shown = inr (inl (record { named = kind.lifts; sites = X; heights = W; reads_sites = s.rows; reads_heights = h.reads; shown = shown }))
fails_by_lifting v X W kind s h (lift.Wide (E4 a b)) shown = inr (inr (inr (inl (record { named = kind.lifts; sites = X; heights = W; reads_sites = s.rows; reads_heights = h.reads; shown = shown }))))
fails_by_lifting v X W kind s h (lift.Many (E5Rays a b)) shown = inr (inl (record { named = kind.lifts; sites = X; heights = W; reads_sites = s.rows; reads_heights = h.reads; shown = shown }))
fails_by_lifting v X W kind s h (lift.Wide e) (inl shown) = absurd shown
fails_by_lifting v X W kind s h (lift.Wide e) (inr (Y, rows, shown)) = absurd shown
fails_by_lifting v X W kind s h (lift.Many e) (inl shown) = absurd shown
fails_by_lifting v X W kind s h (lift.Many e) (inr (Y, rows, inl shown)) = absurd shown
fails_by_lifting v X W kind s h (lift.Many e) (inr (Y, rows, inr shown)) = absurd shown.2
fails_by_lifting v X W kind s h lift.Memory shown = tt

pub fails_by_raising : (v : ViewSeen) (X : List Row) → RaisesSites v.kind → AreReadSites v X → (f : LiftFail) → IsRaiseFail v.cols X f → FailsRightly v (fail_of_lift f)
fails_by_raising v X kind s (lift.Wide (E1 step)) shown = inr (inr (record { named = kind.raises; sites = X; reads_sites = s.rows; shown = shown }))
fails_by_raising v X kind s (lift.Wide (E2 a b c d)) shown = inr (inr (record { named = kind.raises; sites = X; reads_sites = s.rows; shown = shown }))
fails_by_raising v X kind s (lift.Wide (E4 a b)) shown = inr (inr (inr (inr (record { named = kind.raises; sites = X; reads_sites = s.rows; shown = shown }))))
fails_by_raising v X kind s (lift.Many (E5Rays a b)) shown = inr (inr (record { named = kind.raises; sites = X; reads_sites = s.rows; shown = shown }))
fails_by_raising v X kind s (lift.Wide e) (inl shown) = absurd shown
fails_by_raising v X kind s (lift.Wide e) (inr (Y, rows, shown)) = absurd shown
fails_by_raising v X kind s (lift.Many e) (inl shown) = absurd shown
fails_by_raising v X kind s (lift.Many e) (inr (Y, rows, inl shown)) = absurd shown
fails_by_raising v X kind s (lift.Many e) (inr (Y, rows, inr shown)) = absurd shown.2
fails_by_raising v X kind s lift.Memory shown = tt
