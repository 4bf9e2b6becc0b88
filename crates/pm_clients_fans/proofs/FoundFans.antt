-- What the clients of fans put is right.
use Rattle.pm_props.specs.declared.property.PropId.{PropId}
use Rattle.pm_fraction.specs.FractionRows.{ArePrimitiveRowsOf}
use Rattle.pm_elim.specs.declared.evidence.ElimFail.TheVariants.{Memory, Wide}
use Rattle.pm_elim.specs.declared.evidence.ElimFail.{ElimFail}
use Rattle.pm_elim.specs.Refusals.{IfWide}
use Rattle.pm_client.proofs.Failing.{fails_by_cone}
use Rattle.pm_vector.proofs.Lists.{Among, among_All, among_Contains, here, there, all_from}
use Rattle.pm_vector.specs.Cones.{InSpan}
use Rattle.pm_vector.specs.Numbers.{Ratio}
use Rattle.pm_vector.specs.Rows.{Row, HasCols}
use Rattle.pm_vector.proofs.Spans.{same_span_trans}
use Rattle.pm_client.proofs.Machine.{cast_back}
use Rattle.pm_client.proofs.PlainValues.{sound_count, sound_counts, sound_truth, sound_whole}
use Rattle.pm_client.proofs.Puts.{IsPut}
use Rattle.pm_client.proofs.ReadValues.{read_right, all_length, primitive_length}
use Rattle.pm_client.specs.Sound.{AreRowsOf, IsSound, FailsRightly, cone_rows, eliminated_by, fail_of}
use Rattle.pm_clients_fans.specs.Cones.{ReadsCones}
use Rattle.pm_clients_fans.specs.Numbers.{IsMost}
use Rattle.pm_fan.specs.Dimensions.{AreDimensions, IsConeEvidence, IsDimension}
use Rattle.pm_fan.specs.Dimensions as dimensions
use Rattle.pm_geom.specs.Cones.{IsExtremeRay, SameModulo}
use Rattle.pm_geom.specs.Faces.{ray}
use Rattle.pm_geom.specs.Things.{AreFanOrders, IsFanThing, Orders}
use Rattle.pm_object.specs.Reading.{DraftSeen, ViewSeen, fact_of}
use Rattle.pm_object_type.specs.declared.object_type.ObjectType.TheVariants.{Fan}
use Rattle.pm_props.specs.declared.property.PropId.TheVariants.{FanDim, LinealityDim, LinealitySpace, MaximalCones, MaximalConesDims, NMaximalCones, Pure, Simplicial, Vertices}
use Rattle.pm_relations.proofs.FanDims.{cone_spans, fan_orders, fan_thing, greatest_right, none_right, pure_right, simplicial_right, size_right}
use Rattle.pm_relations.proofs.PrimitiveStanding.{primitive_stand}
use Rattle.pm_relations.proofs.Standing.{in_order_length, stand_length}
use Rattle.pm_relations.specs.Fans.{AreOne, AreSimplices}
use Rattle.pm_types.specs.Forms.{FormsIn, are_indices, has_64_bits, is_counts_form, is_sets_form, agrees_with, is_formed, is_matrix_form}
use Rattle.pm_types.specs.Right.{AreConeDims, AreConeRays, InLinesOf, InOrder, IsBasis, IsDimOfCone, Right, SameRayOf, StandFor, cone_at, objective_of}
use Rattle.pm_types.specs.Things.{Thing}
use Rattle.pm_types.specs.Values.{IndexSets, counts, matrix, sets, truth, whole}
use Rattle.std.proofs.Common.{arith, of_z, refl, subst, sym, to_z, true, w64, ◌∙◌, true≢false, false}
use Rattle.std.proofs.lemmas.Bool.{and_parts, leb-true}
use Rattle.std.specs.List.{Contains, list_all}
use Rattle.std.specs.Prelude.{Bool, IsTrue, List, Some, [], length, nat_le, ℕ, ◌&&◌, ◌<◌, ◌↔◌, ◌∷◌, ◌≡◌, ◌≤◌, nat_eq, ◌||◌}
use lib.IntN.{negsuc, pos, ℤ}
use Rattle.pm_limits.specs.Limits.{most_rows}

-- ---- forms
pub sets_parts : (rows : List (List ℕ)) (n : ℕ) → is_sets_form rows n ≡ true → (length rows ≤ most_rows) × (n ≤ most_rows) × (list_all (are_indices n 0) rows ≡ true)
sets_parts rows n form =
    let p = and_parts (nat_le (length rows) most_rows && nat_le n most_rows) (list_all (are_indices n 0) rows) form in
    let q = and_parts (nat_le (length rows) most_rows) (nat_le n most_rows) p.0 in
    (leb-true (length rows) most_rows q.0, leb-true n most_rows q.1, p.1)

listed_bits : (ks : List ℤ) → list_all has_64_bits ks ≡ true → (k : ℤ) → Among k ks → has_64_bits k ≡ true
listed_bits [] h k i = elim i [ ]
listed_bits (z ∷ ks) h k here = (and_parts (has_64_bits z) (list_all has_64_bits ks) h).0
listed_bits (z ∷ ks) h k (there i) = listed_bits ks (and_parts (has_64_bits z) (list_all has_64_bits ks) h).1 k i

most_bits : (ks : List ℤ) (k : ℤ) → is_counts_form ks ≡ true → IsMost ks k → has_64_bits k ≡ true
most_bits [] k form h = subst (λ z. has_64_bits z ≡ true) (sym h) refl
most_bits (z ∷ ks) k form h = listed_bits (z ∷ ks) (and_parts (nat_le (length (z ∷ ks)) most_rows) (list_all has_64_bits (z ∷ ks)) form).1 k (among_Contains (z ∷ ks) h.0)

-- ---- the dimension of each cone
module _ (t : Thing) (o : Orders) (h : IsFanThing t.cols t.cones t.lines) (a : AreFanOrders t.cols t.cones t.lines o) (rays lines : List (List Ratio)) (K xs V L : List Row) (basis : IsBasis t.cols (InSpan t.lines) K) (order : InOrder (SameModulo t.cols (InSpan t.lines)) o.rays xs)
    (sx : StandFor rays xs) (sp : StandFor rays V) (sk : StandFor lines K) (sl : StandFor lines L) (m : ℕ) where
  dim_of : (i : ℕ) → Among i o.cones → (set : List ℕ) → are_indices m 0 set ≡ true → ((j : ℕ) → Contains set j ↔ ((j < length o.rays) × IsExtremeRay t.cols (cone_at t i) t.lines (ray o.rays j))) → (k : ℤ) → IsDimension (dimensions.cone_rows V L set) k → (d : ℕ) × (k ≡ pos d) × IsDimOfCone t (cone_at t i) d
  dim_of i listed set asc are (pos d) r = (d, refl, record { basis = r.basis; independent = r.independent; span = same_span_trans r.span (cone_spans t o h a i listed m set asc are rays lines K xs V L basis order sx sp sk sl); as_many = r.as_many })
  dim_of i listed set asc are (negsuc d) r = absurd r

  dims_of : (places : List ℕ) (rows : List (List ℕ)) (ks : List ℤ) → ((i : ℕ) → Among i places → Among i o.cones) → list_all (are_indices m 0) rows ≡ true → AreConeRays t o.rays places rows → AreDimensions V L rows ks → AreConeDims t places ks
  dims_of [] [] [] f asc r d = tt
  dims_of [] [] (k ∷ ks) f asc r d = d
  dims_of [] (x ∷ rows) ks f asc r d = absurd r
  dims_of (i ∷ places) [] ks f asc r d = absurd r
  dims_of (i ∷ places) (x ∷ rows) [] f asc r d = absurd d
  dims_of (i ∷ places) (x ∷ rows) (k ∷ ks) f asc r d =
      let p = and_parts (are_indices m 0 x) (list_all (are_indices m 0) rows) asc in
      (dim_of i (f i here) x p.0 r.0 k d.0, dims_of places rows ks (λ j l. f j (there l)) p.1 r.1 d.1)

-- whole rows for right RAYS and LINEALITY_SPACE give right dimensions of right MAXIMAL_CONES
dims_right : (t : Thing) (o : Orders) → t.of ≡ Fan → IsFanThing t.cols t.cones t.lines → AreFanOrders t.cols t.cones t.lines o → (p q m : ℕ) (rays lines : List (List Ratio)) (rows : List (List ℕ)) (c d e g : List Ratio) → Right Vertices (matrix p rays) t o c → Right LinealitySpace (matrix q lines) t o d → Right MaximalCones (sets rows m) t o e
    → list_all (are_indices m 0) rows ≡ true → (V L : List Row) → StandFor rays V → StandFor lines L → (ks : List ℤ) → (m ≡ length V → AreDimensions V L rows ks) → Right MaximalConesDims (counts ks) t o g
dims_right t o fan h a p q m rays lines rows c d e g rv rl rc asc V L sp sl ks dims =
    let order = subst (λ of. InOrder (SameRayOf of t.cols t.generators t.lines) o.rays rv.xs) fan rv.order in
    let basis = subst (λ of. IsBasis t.cols (InLinesOf of t.generators t.lines) rl.xs) fan rl.basis in
    let lv = stand_length rays V sp in
    let lx = stand_length rays rv.xs rv.stand in
    let lo = in_order_length (SameModulo t.cols (InSpan t.lines)) o.rays rv.xs order in
    dims_of t o h a rays lines rl.xs rv.xs V L basis order rv.stand sp rl.stand sl m o.cones rows ks (λ i j. j) asc rc.1 (dims (rc.0 ∙ sym lo ∙ lx ∙ sym lv))

-- ---- the clients
module _ (v : ViewSeen) (fan : v.of ≡ Fan) (old new : DraftSeen) where
  module _ (rows : List (List ℕ)) (n : ℕ) (read : fact_of MaximalCones v.facts ≡ Some (sets rows n)) (forms : FormsIn v.of v.cols MaximalCones (sets rows n)) where
    pub size_sound : (k : ℕ) → k ≡ length rows → IsPut v NMaximalCones (whole (to_z w64 k)) old new → IsSound v new
    size_sound k e put =
        let few = (sets_parts rows n forms.formed).0 in
        sound_count v NMaximalCones k old new refl (omega arith) put (λ t o of cols right c.
        let (s, value) = read_right MaximalCones v.facts (sets rows n) t o read right in
        subst (λ z. Right NMaximalCones (whole (pos z)) t o c) (sym e) (size_right t o (fan_thing t (of ∙ fan) right.thing) (fan_orders t o (of ∙ fan) right.orders) rows n (objective_of t s) c value))

    pub dims_sound : (V L : List Row) → AreRowsOf v Vertices V → AreRowsOf v LinealitySpace L → (ks : List ℤ) → is_counts_form ks ≡ true → (n ≡ length V → AreDimensions V L rows ks) → IsPut v MaximalConesDims (counts ks) old new → IsSound v new
    dims_sound V L rays lines ks form dims put = sound_counts v MaximalConesDims ks old new refl form put (λ t o of cols right c.
        let (s, value) = read_right MaximalCones v.facts (sets rows n) t o read right in
        let (r, vertices) = read_right Vertices v.facts (matrix rays.cols rays.rows) t o rays.reads right in
        let (q, lineality) = read_right LinealitySpace v.facts (matrix lines.cols lines.rows) t o lines.reads right in
        dims_right t o (of ∙ fan) (fan_thing t (of ∙ fan) right.thing) (fan_orders t o (of ∙ fan) right.orders) rays.cols lines.cols n rays.rows lines.rows rows (objective_of t r) (objective_of t q) (objective_of t s) c vertices lineality value
        (sets_parts rows n forms.formed).2 V L (primitive_stand rays.rows V rays.primitive) (primitive_stand lines.rows L lines.primitive) ks dims)

  module _ (ks : List ℤ) (read : fact_of MaximalConesDims v.facts ≡ Some (counts ks)) (forms : FormsIn v.of v.cols MaximalConesDims (counts ks)) where
    most_right : (ks : List ℤ) (k : ℤ) → IsMost ks k → (t : Thing) (o : Orders) → IsFanThing t.cols t.cones t.lines → AreFanOrders t.cols t.cones t.lines o → (c d : List Ratio) → Right MaximalConesDims (counts ks) t o c → Right FanDim (whole k) t o d
    most_right [] k most t o h a c d r = subst (λ z. Right FanDim (whole z) t o d) (sym most) (none_right t o h a c r d)
    most_right (z ∷ ks) k most t o h a c d r = greatest_right t o h a (z ∷ ks) c r k (among_Contains (z ∷ ks) most.0) most.1 d

    pub dim_sound : (k : ℤ) → IsMost ks k → IsPut v FanDim (whole (to_z w64 (of_z w64 k))) old new → IsSound v new
    dim_sound k most put = sound_whole v FanDim (to_z w64 (of_z w64 k)) k old new refl (cast_back k (most_bits ks k forms.formed most)) (most_bits ks k forms.formed most) put (λ t o of cols right c.
        let (s, value) = read_right MaximalConesDims v.facts (counts ks) t o read right in
        most_right ks k most t o (fan_thing t (of ∙ fan) right.thing) (fan_orders t o (of ∙ fan) right.orders) (objective_of t s) c value)

    pub pure_sound : (b : Bool) → (IsTrue b ↔ AreOne ks) → IsPut v Pure (truth b) old new → IsSound v new
    pure_sound b says put = sound_truth v Pure b old new refl put (λ t o of cols right c.
        let (s, value) = read_right MaximalConesDims v.facts (counts ks) t o read right in
        pure_right t o (fan_thing t (of ∙ fan) right.thing) (fan_orders t o (of ∙ fan) right.orders) ks (objective_of t s) value b says c)

    pub simplicial_sound : (rows : List (List ℕ)) (n : ℕ) → fact_of MaximalCones v.facts ≡ Some (sets rows n) → is_sets_form rows n ≡ true → (l : ℤ) → fact_of LinealityDim v.facts ≡ Some (whole l) → (b : Bool) → (IsTrue b ↔ AreSimplices l rows ks) → IsPut v Simplicial (truth b) old new → IsSound v new
    simplicial_sound rows n cones form l lineality b says put = sound_truth v Simplicial b old new refl put (λ t o of cols right c.
        let (s, value) = read_right MaximalConesDims v.facts (counts ks) t o read right in
        let (r, rays) = read_right MaximalCones v.facts (sets rows n) t o cones right in
        let (q, lines) = read_right LinealityDim v.facts (whole l) t o lineality right in
        simplicial_right t o (fan_thing t (of ∙ fan) right.thing) (fan_orders t o (of ∙ fan) right.orders) (of ∙ fan) rows n ks l b (objective_of t r) (objective_of t s) (objective_of t q) c (sets_parts rows n form).2 rays value lines says)

-- ---- what `fan_dims` reads, and how it fails
-- the properties of rays and lines
abbrev pub is_of_rows : PropId → Bool
is_of_rows Vertices = true
is_of_rows LinealitySpace = true
is_of_rows p = false

matrix_formed : (p : PropId) → is_of_rows p ≡ true → (n m : ℕ) (rows : List (List Ratio)) → (is_formed p (matrix m rows) ≡ is_matrix_form m rows) × (agrees_with n p (matrix m rows) ≡ (nat_eq m 0 || nat_eq m n))
matrix_formed Vertices h n m rows = (refl, refl)
matrix_formed LinealitySpace h n m rows = (refl, refl)
matrix_formed p h n m rows = absurd (true≢false (sym h))

pub rows_cols : (v : ViewSeen) (p : PropId) → is_of_rows p ≡ true → (m : ℕ) (rows : List (List Ratio)) (xs : List Row) → FormsIn v.of v.cols p (matrix m rows) → ArePrimitiveRowsOf rows xs → HasCols v.cols xs
rows_cols v p h m rows xs forms primitive =
    let e = matrix_formed p h v.cols m rows in
    let lengths = all_length v.cols xs (primitive_length m v.cols rows xs (sym e.0 ∙ forms.formed) (sym e.1 ∙ forms.columns) primitive) in
    all_from (λ x. length x ≡ v.cols) xs (λ x i. among_All (λ x. length x ≡ v.cols) i lengths)

pub fails_rightly : (v : ViewSeen) (V L : List Row) (index : IndexSets) (f : ElimFail) → Contains (eliminated_by v.kind) cone_rows → ReadsCones v V L index → IfWide f (IsConeEvidence v.cols V L index.rows) → FailsRightly v (fail_of f)
fails_rightly v V L index (Wide e) takes read h = fails_by_cone v (dimensions.cone_rows V L h.set) (Wide e) takes (record { lines = L; rays = V; reads_lines = read.lines; reads_rays = read.rays; index = index; reads = read.reads; set = h.set; listed = h.listed; rows = refl }) h.shown
fails_rightly v V L index Memory takes read h = tt
