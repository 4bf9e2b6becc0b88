-- Rows in lexicographic order are determined, whatever orders clients chose; and a value fixes its orders.
use Rattle.pm_geom.proofs.Facets.{vanishes_line}
use Rattle.pm_geom.proofs.Reduce.{same_modulo_as}
use Rattle.pm_geom.specs.Cones.{InLineality, IsExtreme, IsExtremeRay, IsOrder, IsValid, SameModulo}
use Rattle.pm_geom.specs.Faces.{ray}
use Rattle.pm_geom.specs.Generators.{IsBefore}
use Rattle.pm_geom.specs.Things.{AreFanOrders, Orders}
use Rattle.pm_laws_normal_fans.proofs.Places.{among_at, place_at}
use Rattle.pm_laws_things.proofs.Renamed.{renaming}
use Rattle.pm_laws_values.proofs.AlikeOrders.{facet_on, ray_back, ray_on}
use Rattle.pm_laws_values.proofs.Rows.{Alike, alike_both, alike_next, bases_one, canonical_same, cols_one, each_at, each_length, placed, ray_row_one, same_count}
use Rattle.pm_laws_values.proofs.Shapes.{matrix_values}
use Rattle.pm_laws_values.proofs.Sorted.{before_never, sorted_same}
use Rattle.pm_laws_values.proofs.Table.{IsFacetLine, facet_alike, facet_stands, ray_alike}
use Rattle.pm_laws_values.specs.OneValue.{IsAnswer}
use Rattle.pm_laws_values.specs.Orders.{FreshIsOne, FreshOrdersAreOne}
use Rattle.pm_fraction.specs.Matrices.{IsFraction}
use Rattle.pm_object_type.specs.declared.object_type.ObjectType.TheVariants.{Cone, Fan, Polytope}
use Rattle.pm_object_type.specs.declared.object_type.ObjectType.{ObjectType}
use Rattle.pm_props.specs.Kinds.{IsFresh}
use Rattle.pm_props.specs.Properties.{facets_tag, rays_tag}
use Rattle.pm_props.specs.declared.kind.Kind.{Kind}
use Rattle.pm_props.specs.declared.property.PropId.TheVariants.{Facets, Vertices}
use Rattle.pm_relations.proofs.Hulls.{zero_line}
use Rattle.pm_relations.proofs.Orders.{Holds, alike_back, holds_set}
use Rattle.pm_relations.proofs.Spans.{thing_cols}
use Rattle.pm_relations.proofs.Standing.{ratios_at, same_direction}
use Rattle.pm_types.specs.Canonical.{AreCanonical, EachIs, IsRayRow, Vanishing}
use Rattle.pm_types.specs.Right.{InLines, InOrder, Right, RowsAreInOrder, SameFacet, SameRay, SameRayOf, StandFor}
use Rattle.pm_types.specs.Things.{AreOrders, AreOrdersOf, IsThing, Thing}
use Rattle.pm_types.specs.Values.{PropertyValue, matrix}
use Rattle.pm_vector.proofs.ConeLaws.{in_cone_set}
use Rattle.pm_vector.proofs.Lists.{Among, among_All, among_Any}
use Rattle.pm_vector.proofs.RowLaws.{entry-plus, entry-times, length-times, times-dot}
use Rattle.pm_vector.specs.Bases.{IsEchelonBasis}
use Rattle.pm_vector.specs.Cones.{InCone, InSpan}
use Rattle.pm_vector.specs.Numbers.{Ratio}
use Rattle.pm_vector.specs.Rows.{HasCols, Row, SameDirection, Stands, times}
use Rattle.std.proofs.Common.{arith, refl, subst, sym, ◌∙◌}
use Rattle.std.proofs.lemmas.Int.{ints}
use Rattle.std.proofs.lemmas.List.{ext_get_or}
use Rattle.std.specs.List.{All, Any}
use Rattle.std.specs.Prelude.{List, [], length, ℕ, ◌<◌, ◌∷◌, ◌≡◌}
use lib.IntN.{pos}

-- ---- a row of one order has its like in another
pub record HasLike (R : Row → Row → Type 0) (V W : List Row) (i : ℕ) : Type 0 where
  pub j : ℕ
  pub within : j < length W
  pub alike : R (ray V i) (ray W j)

cone_like : (n : ℕ) (G L V W : List Row) → IsOrder n (InCone G L) V → IsOrder n (InCone G L) W → (i : ℕ) → i < length V → HasLike (SameModulo n (InCone G L)) V W i
cone_like n G L V W o q i l = let r = renaming n (InCone G L) (in_cone_set G L) V W o q in record { j = r.to i; within = r.to_within i l; alike = r.alike i l }

fan_like : (n : ℕ) (Gs : List (List Row)) (L : List Row) (o q : Orders) → AreFanOrders n Gs L o → AreFanOrders n Gs L q → (i : ℕ) → i < length o.rays → HasLike (SameModulo n (InSpan L)) o.rays q.rays i
fan_like n Gs L o q a b i l =
    let (G, k, e) = among_Any (λ G. IsExtremeRay n G L (ray o.rays i)) Gs (among_All (λ v. Any (λ G. IsExtremeRay n G L v) Gs) (among_at [] o.rays i l) a.each) in
    let (w, m, s) = among_Any (λ w. SameModulo n (InSpan L) (ray o.rays i) w) q.rays (among_All (λ G. (r : Row) → IsExtremeRay n G L r → Any (λ w. SameModulo n (InSpan L) r w) q.rays) k b.all (ray o.rays i) e) in
    let (j, lj, f) = place_at [] q.rays m in
    record { j = j; within = lj; alike = subst (λ z. SameModulo n (InSpan L) (ray o.rays i) z) (sym f) s }

ray_like_of : (of : ObjectType) (n : ℕ) (G L : List Row) (Gs : List (List Row)) (o q : Orders) → AreOrdersOf of n G L Gs o → AreOrdersOf of n G L Gs q → (i : ℕ) → i < length o.rays → HasLike (SameRayOf of n G L) o.rays q.rays i
ray_like_of Polytope n G L Gs o q a b i l = cone_like n G L o.rays q.rays a.rays b.rays i l
ray_like_of Cone n G L Gs o q a b i l = cone_like n G L o.rays q.rays a.rays b.rays i l
ray_like_of Fan n G L Gs o q a b i l = fan_like n Gs L o q a b i l

cone_facet_like : (n : ℕ) (G L F D : List Row) → IsOrder n (IsValid n G L) F → IsOrder n (IsValid n G L) D → (i : ℕ) → i < length F → HasLike (SameModulo n (IsValid n G L)) F D i
cone_facet_like n G L F D o q i l =
    let (w, m, s) = among_Any (λ w. SameModulo n (IsValid n G L) (ray F i) w) D (q.all (ray F i) (among_All (λ f. IsExtreme n (IsValid n G L) f) (among_at [] F i l) o.each)) in
    let (j, lj, f) = place_at [] D m in
    record { j = j; within = lj; alike = subst (λ z. SameModulo n (IsValid n G L) (ray F i) z) (sym f) s }

facet_like_of : (of : ObjectType) (n : ℕ) (G L : List Row) (Gs : List (List Row)) (o q : Orders) → AreOrdersOf of n G L Gs o → AreOrdersOf of n G L Gs q → (i : ℕ) → i < length o.facets → HasLike (SameModulo n (IsValid n G L)) o.facets q.facets i
facet_like_of Polytope n G L Gs o q a b i l = cone_facet_like n G L o.facets q.facets a.facets b.facets i l
facet_like_of Cone n G L Gs o q a b i l = cone_facet_like n G L o.facets q.facets a.facets b.facets i l
facet_like_of Fan n G L Gs o q a b i l = absurd (none o.facets a.facets l)
  where
    none : (F : List Row) → F ≡ [] → i < length F → ⊥
    none [] e l = absurd (omega arith)
    none (f ∷ F) e l = absurd cc

-- ---- two ascending lists of canonical rows
module _ (t : Thing) (Rel : Row → Row → Type 0) (S : Row → Type 0) (is_row : List Ratio → Row → Type 0) (stands : (r : List Ratio) (x : Row) → is_row r x → Stands r x)
    (determined : (r s : List Ratio) (x : Row) → is_row r x → is_row s x → All IsFraction r → All IsFraction s → r ≡ s) (R : List Row) (P : List ℕ) (e : IsEchelonBasis t.cols R P) (alike : (v x : Row) → Rel v x → Alike t.cols R v x) where
  into : (Fresh Other : Type 0) (vs ws : List Row) → ((i : ℕ) → i < length vs → HasLike Rel vs ws i) → (rows others : List (List Ratio)) → RowsAreInOrder t Rel vs rows → RowsAreInOrder t Rel ws others → (c : AreCanonical t.cols S is_row Fresh rows) (d : AreCanonical t.cols S is_row Other others) → c.pivots ≡ P → d.pivots ≡ P → (x : Row) → Among x c.xs → Among x d.xs
  into Fresh Other vs ws like rows others o q c d ec ed x i =
      let (j, lj, f) = place_at [] c.xs i in
      let m = each_length is_row rows c.xs c.each in
      let k = same_count t Rel S is_row stands vs rows o in
      let l : j < length vs = omega arith in
      let h = like j l in
      let a = placed t Rel S is_row stands Fresh R P alike vs rows o c ec j l in
      let b = placed t Rel S is_row stands Other R P alike ws others q d ed h.j h.within in
      let m' = each_length is_row others d.xs d.each in
      let k' = same_count t Rel S is_row stands ws others q in
      let w = h.within in
      let g : Alike t.cols R (ray vs j) (ray d.xs h.j) = alike_next t.cols R (ray vs j) (ray ws h.j) (ray d.xs h.j) (alike (ray vs j) (ray ws h.j) h.alike) b.alike in
      let z : ray c.xs j ≡ ray d.xs h.j = canonical_same t.cols R P e (ray c.xs j) (ray d.xs h.j) a.cols b.cols a.primitive b.primitive a.reduced b.reduced (alike_both t.cols R (ray vs j) (ray c.xs j) (ray d.xs h.j) a.alike g) in
      subst (λ y. Among y d.xs) (sym z ∙ f) (among_at [] d.xs h.j (omega arith))

  rows_of_same : (rows others : List (List Ratio)) (xs : List Row) → EachIs is_row rows xs → EachIs is_row others xs → All (All IsFraction) rows → All (All IsFraction) others → rows ≡ others
  rows_of_same rows others xs a b f g =
      let m = each_length is_row rows xs a in
      let k = each_length is_row others xs b in
      ext_get_or [] rows others (sym m ∙ k) (λ j l. determined (ratios_at rows j) (ratios_at others j) (ray xs j) (each_at is_row rows xs a j l) (each_at is_row others xs b j (omega arith)) (among_All (All IsFraction) (among_at [] rows j l) f) (among_All (All IsFraction) (among_at [] others j (omega arith)) g))

  pub fresh_rows : (Fresh Other : Type 0) → Fresh → Other → (vs ws : List Row) → ((i : ℕ) → i < length vs → HasLike Rel vs ws i) → ((i : ℕ) → i < length ws → HasLike Rel ws vs i) → (rows others : List (List Ratio)) → RowsAreInOrder t Rel vs rows → RowsAreInOrder t Rel ws others → (c : AreCanonical t.cols S is_row Fresh rows) (d : AreCanonical t.cols S is_row Other others) → c.pivots ≡ P → d.pivots ≡ P → All (All IsFraction) rows → All (All IsFraction) others → rows ≡ others
  fresh_rows Fresh Other u v vs ws like back rows others o q c d ec ed f g =
      let z : c.xs ≡ d.xs = sorted_same Row IsBefore before_never c.xs d.xs (c.ascending u) (d.ascending v) (into Fresh Other vs ws like rows others o q c d ec ed) (into Other Fresh ws vs back others rows q o d c ed ec) in
      rows_of_same rows others d.xs (subst (λ xs. EachIs is_row rows xs) z c.each) d.each f g

-- ---- one value fixes the order
module _ (R : Row → Row → Type 0) (n : ℕ) (on : (u v w : Row) → R u v → R u w → R v w) (back : (u v : Row) → R u v → R v u) (direction : (x y : Row) → length x ≡ n → SameDirection x y → R x y) where
  fixed : (vs ws : List Row) (rows : List (List Ratio)) (xs ys : List Row) → HasCols n xs → StandFor rows xs → StandFor rows ys → InOrder R vs xs → InOrder R ws ys → InOrder R vs ws
  fixed [] [] rows xs ys h s t a b = tt
  fixed [] (w ∷ ws) [] [] [] h s t a b = absurd b
  fixed [] (w ∷ ws) (r ∷ rows) [] ys h s t a b = absurd s
  fixed [] (w ∷ ws) [] [] (y ∷ ys) h s t a b = absurd t
  fixed [] (w ∷ ws) rows (x ∷ xs) ys h s t a b = absurd a
  fixed (v ∷ vs) [] [] (x ∷ xs) ys h s t a b = absurd s
  fixed (v ∷ vs) [] (r ∷ rows) (x ∷ xs) [] h s t a b = absurd t
  fixed (v ∷ vs) [] (r ∷ rows) (x ∷ xs) (y ∷ ys) h s t a b = absurd b
  fixed (v ∷ vs) ws rows [] ys h s t a b = absurd a
  fixed (v ∷ vs) (w ∷ ws) [] (x ∷ xs) ys h s t a b = absurd s
  fixed (v ∷ vs) (w ∷ ws) (r ∷ rows) (x ∷ xs) [] h s t a b = absurd t
  fixed (v ∷ vs) (w ∷ ws) (r ∷ rows) (x ∷ xs) (y ∷ ys) h s t a b =
      let d : R x y = direction x y h.0 (same_direction s.0 t.0) in
      (on y v w (on x y v d (back v x a.0)) (back w y b.0), fixed vs ws rows xs ys h.1 s.1 t.1 a.1 b.1)

direction_alike : (n : ℕ) (S : Row → Type 0) (x y : Row) → length x ≡ n → InLineality S (times (pos 0) x) → SameDirection x y → SameModulo n S x y
direction_alike n S x y lx line d = record {
  p = d.q;
  k = d.p;
  w = times (pos 0) x;
  cols = length-times (pos 0) x ∙ lx;
  p_positive = d.q_positive;
  k_positive = d.p_positive;
  line = line;
  same = record { at = λ i. let e = simp entry-times at (d.same.at i) in simp (entry-plus, entry-times) (omega (arith, ints)) };
}

pub ray_direction : (of : ObjectType) (n : ℕ) (G L : List Row) (x y : Row) → length x ≡ n → SameDirection x y → SameRayOf of n G L x y
ray_direction Polytope n G L x y lx d = direction_alike n (InCone G L) x y lx (zero_line G L x) d
ray_direction Cone n G L x y lx d = direction_alike n (InCone G L) x y lx (zero_line G L x) d
ray_direction Fan n G L x y lx d = direction_alike n (InSpan L) x y lx (zero_line [] L x) d

facet_direction : (n : ℕ) (G L : List Row) → HasCols n G → HasCols n L → (x y : Row) → length x ≡ n → SameDirection x y → SameModulo n (IsValid n G L) x y
facet_direction n G L hg hl x y lx d =
    let lz : length (times (pos 0) x) ≡ n = length-times (pos 0) x ∙ lx in
    direction_alike n (IsValid n G L) x y lx ((vanishes_line n G L hg hl (times (pos 0) x) lz).0 (record { cols = lz; holds = λ z lx h. let e = times-dot (pos 0) x z in omega (arith, ints) })) d

facet_back : (n : ℕ) (G L : List Row) (u v : Row) → SameModulo n (IsValid n G L) u v → SameModulo n (IsValid n G L) v u
facet_back n G L u v a = facet_out (alike_back n (Holds n G L) (holds_set n G L) (same_modulo_as n (IsValid n G L) (Holds n G L) (λ a c v. v.holds) (λ a c h. record { cols = c; holds = h }) a))
  where
    facet_out : {x y : Row} → SameModulo n (Holds n G L) x y → SameModulo n (IsValid n G L) x y
    facet_out s = same_modulo_as n (Holds n G L) (IsValid n G L) (λ a c h. record { cols = c; holds = h }) (λ a c v. v.holds) s

module _ (t : Thing) (h : IsThing t) (o q : Orders) (ao : AreOrders t o) (aq : AreOrders t q) where
  rays_fixed : (v : PropertyValue) (c d : List Ratio) → Right Vertices v t o c → Right Vertices v t q d → InOrder (SameRay t) o.rays q.rays
  rays_fixed (matrix n rows) c d x y = fixed (SameRay t) t.cols (ray_on t) (ray_back t) (λ v w lv d. ray_direction t.of t.cols t.generators t.lines v w lv d) o.rays q.rays rows x.xs y.xs x.cols x.stand y.stand x.order y.order
  rays_fixed v c d x y = absurd x

  facets_fixed : (v : PropertyValue) (c d : List Ratio) → Right Facets v t o c → Right Facets v t q d → InOrder (SameFacet t) o.facets q.facets
  facets_fixed (matrix n rows) c d x y =
      let (hg, hl) = thing_cols t h in
      fixed (SameFacet t) t.cols (facet_on t.cols t.generators t.lines) (facet_back t.cols t.generators t.lines) (facet_direction t.cols t.generators t.lines hg hl) o.facets q.facets rows x.xs y.xs x.cols x.stand y.stand x.order y.order
  facets_fixed v c d x y = absurd x

  module _ (one other : Kind) (v w : PropertyValue) (c d : List Ratio) where
    vertices : IsFresh rays_tag one → IsFresh rays_tag other → (k l : List (List Ratio)) (n m : ℕ) → IsAnswer one Vertices (matrix n k) t o c → IsAnswer other Vertices (matrix m l) t q d → matrix n k ≡ matrix m l
    vertices f g k l n m a b =
        let x = a.canonical in
        let y = b.canonical in
        let z = bases_one t.cols (InLines t) y.lines x.lines y.pivots x.pivots y.echelon x.echelon in
        cols_one n m k l a.formed.formed b.formed.formed a.stated b.stated
        (fresh_rows t (SameRay t) (InLines t) (IsRayRow t) (λ r z i. i.stands) (λ r s z. ray_row_one t r s z) x.lines x.pivots x.echelon.echelon (ray_alike t h x.lines x.echelon.basis.spans) (IsFresh rays_tag one) (IsFresh rays_tag other) f g o.rays q.rays
        (ray_like_of t.of t.cols t.generators t.lines t.cones o q ao aq) (ray_like_of t.of t.cols t.generators t.lines t.cones q o aq ao) k l a.right b.right x y refl z.1 a.formed.entries b.formed.entries)

    facets : IsFresh facets_tag one → IsFresh facets_tag other → (k l : List (List Ratio)) (n m : ℕ) → IsAnswer one Facets (matrix n k) t o c → IsAnswer other Facets (matrix m l) t q d → matrix n k ≡ matrix m l
    facets f g k l n m a b =
        let x = a.canonical in
        let y = b.canonical in
        let z = bases_one t.cols (Vanishing t) y.lines x.lines y.pivots x.pivots y.echelon x.echelon in
        cols_one n m k l a.formed.formed b.formed.formed a.stated b.stated
        (fresh_rows t (SameFacet t) (Vanishing t) IsFacetLine facet_stands (λ r s z e f u w. e ∙ sym f) x.lines x.pivots x.echelon.echelon (facet_alike t h x.lines x.echelon.basis.spans) (IsFresh facets_tag one) (IsFresh facets_tag other) f g o.facets q.facets
        (facet_like_of t.of t.cols t.generators t.lines t.cones o q ao aq) (facet_like_of t.of t.cols t.generators t.lines t.cones q o aq ao) k l a.right b.right x y refl z.1 a.formed.entries b.formed.entries)

    fresh_is_one : FreshIsOne t o q one other v w c d
    fresh_is_one = record {
      rays = λ f g a b. matrix_values t o q c d one other Vertices v w a b refl (vertices f g);
      facets = λ f g a b. matrix_values t o q c d one other Facets v w a b refl (facets f g);
    }

pub fresh_orders_are_one : FreshOrdersAreOne
fresh_orders_are_one t h o q ao aq = (record { rays = rays_fixed t h o q ao aq; facets = facets_fixed t h o q ao aq }, λ one other v w c d. fresh_is_one t h o q ao aq one other v w c d)
