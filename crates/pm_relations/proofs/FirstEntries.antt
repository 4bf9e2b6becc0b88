-- First entries tell whether a polytope is bounded, which of its rays are far, and whether 0 is in its interior.
use Rattle.pm_vector.proofs.ConeLaws.{dot_in, in_cone_set, in_divide, in_same, in_to_after}
use Rattle.pm_vector.proofs.Lists.{All_among, Among, all_at, among_All, here, there}
use Rattle.pm_vector.proofs.Ring.{ring}
use Rattle.pm_vector.proofs.RowLaws.{dot-difference, dot-same, dot_comm, entry-difference, entry-opposite, entry-plus, entry-times, length-opposite, length-zeros, plus-dot, times-dot, zeros}
use Rattle.pm_vector.proofs.Signs.{mul_cancel, mul_nonneg, mul_pos, nonneg_cancel, pos_cancel, weaken}
use Rattle.pm_vector.specs.Cones.{InCone, InSpan}
use Rattle.pm_vector.specs.Numbers.{Ratio}
use Rattle.pm_vector.specs.Rows.{HasCols, IsZero, Row, Stands, dot, entry, opposite, plus, ratio_at, times}
use Rattle.pm_geom.proofs.Facets.{opposite-dot}
use Rattle.pm_geom.proofs.Polar.{cut_from}
use Rattle.pm_geom.proofs.ValidRows.{null_in}
use Rattle.pm_geom.specs.Cones.{InLineality, IsExtreme, IsOrder, IsValid, SameModulo, Vanishes}
use Rattle.pm_geom.specs.Faces.{ray}
use Rattle.pm_geom.specs.Things.{IsPolytopeThing}
use Rattle.pm_object_type.specs.declared.object_type.ObjectType.TheVariants.{Cone, Fan, Polytope}
use Rattle.pm_object_type.specs.declared.object_type.ObjectType.{ObjectType}
use Rattle.pm_relations.proofs.Dimensions.{no_rows, zero_rows}
use Rattle.pm_relations.proofs.Spans.{thing_cols}
use Rattle.pm_relations.proofs.Standing.{in_order_at, in_order_length, ratios_at, stand_at, stand_length}
use Rattle.pm_relations.proofs.Twins.{alike_inside, alike_valid, facet_rows_cut_out, in_order_to, lines_of, orders_of, rays_generate, rays_of, valid_from_facets}
use Rattle.pm_relations.proofs.FlatLineality.{polytope_lineality_first}
use Rattle.pm_relations.specs.FirstEntries.{BoundedIsFound, CenteredIsFound, FarFaceIsFound, HasPositiveFirst, HasZeroFirst}
use Rattle.pm_types.specs.Right.{InLines, InOrder, IsBasis, IsCentered, StandFor}
use Rattle.pm_types.specs.Things.{IsOfType}
use Rattle.std.proofs.Common.{ap, arith, refl, subst, sym, ◌∙◌}
use Rattle.std.proofs.lemmas.Int.{by_lt_z, ints}
use Rattle.std.specs.List.{All}
use Rattle.std.specs.Prelude.{List, [], length, suc, zero, ℕ, ◌<◌, ◌↔◌, ◌∷◌, ◌≡◌, ◌≤◌}
use lib.IntN.{neg_ℤ, pos, ℤ, ◌*ℤ◌, ◌+ℤ◌, ◌-ℤ◌}
use lib.Signed.{◌<ℤ◌, ◌≤ℤ◌}

-- ---- the first entry as a product
pub first_dot : (x : Row) → dot (pos 1 ∷ []) x ≡ entry x 0
first_dot [] = refl
first_dot (a ∷ x) = simp ring (omega (arith, ints))

-- a row that is 1 at first and then 0 has as product the first entry
unit_dot : (a e : Row) → entry e 0 ≡ pos 1 → ((i : ℕ) → entry e (suc i) ≡ pos 0) → dot a e ≡ entry a 0
unit_dot a e one none = dot-same a e (pos 1 ∷ []) at ∙ dot_comm a (pos 1 ∷ []) ∙ first_dot a
  where
    at : (i : ℕ) → entry e i ≡ entry (pos 1 ∷ []) i
    at zero = one
    at (suc i) = none i

zeros_entry : (n i : ℕ) → entry (zeros n) i ≡ pos 0
unfolding zeros
zeros_entry zero i = refl
zeros_entry (suc n) zero = refl
zeros_entry (suc n) (suc i) = zeros_entry n i

-- ---- a row whose products with the generators are positive
zero_factor : (p q x g : ℤ) → pos 0 ≤ℤ q → pos 0 <ℤ g → x ≡ pos 0 → pos 0 ≤ℤ (p *ℤ x -ℤ q *ℤ g) → q ≡ pos 0
zero_factor p q x g hq up e h =
    let m = mul_nonneg hq (weaken up) in
    let z : p *ℤ x ≡ pos 0 = rw e (simp ring) in
    mul_cancel up (simp ring (omega (arith, ints)))

-- where a has positive products with the generators and 0 with the lines, a row of the cone with product 0 lies in the span of the lines
pub zero_in_span : (a : Row) (G L : List Row) → ((g : Row) → Among g G → pos 0 <ℤ dot a g) → ((l : Row) → Among l L → dot a l ≡ pos 0) → (x : Row) → InCone G L x → dot a x ≡ pos 0 → InSpan L x
zero_in_span a [] L up null x h e = h
zero_in_span a (g ∷ G) L up null x h e =
    let f = in_to_after G L g x h in
    let s = rw dot-difference at (dot_in a G L (λ b i. weaken (up b (there i))) null f.rest) in
    let q0 = zero_factor f.p f.q (dot a x) (dot a g) f.not_negative (up g here) e s in
    let rest = zero_in_span a G L (λ b i. up b (there i)) null _ f.rest (dot-difference a f.p x f.q g ∙ none f.p f.q (dot a x) (dot a g) e q0) in
    in_divide f.positive (in_same (record { at = λ i. entry-difference f.p x f.q g i ∙ alone f.p f.q (entry x i) (entry g i) q0 ∙ sym (entry-times f.p x i) }) rest)
  where
    none : (p q x g : ℤ) → x ≡ pos 0 → q ≡ pos 0 → p *ℤ x -ℤ q *ℤ g ≡ pos 0
    none p q x g e f = rw (e, f) (simp ring)

    alone : (p q x g : ℤ) → q ≡ pos 0 → p *ℤ x -ℤ q *ℤ g ≡ p *ℤ x
    alone p q x g f = rw f (simp ring (omega (arith, ints)))

-- ---- the sign of the first entry of a row that stands for a row of fractions
product_up : (p q x d m : ℤ) → pos 0 <ℤ p → pos 0 <ℤ q → pos 0 <ℤ d → p *ℤ (x *ℤ d) ≡ q *ℤ m → pos 0 <ℤ x ↔ pos 0 <ℤ m
product_up p q x d m hp hq hd e = (
  λ up. pos_cancel hq (subst (λ z. pos 0 <ℤ z) e (mul_pos hp (mul_pos up hd))),
  λ up. pos_cancel hd (simp ring (pos_cancel hp (subst (λ z. pos 0 <ℤ z) (sym e) (mul_pos hq up)))),
)

product_zero : (p q x d m : ℤ) → pos 0 <ℤ p → pos 0 <ℤ q → pos 0 <ℤ d → p *ℤ (x *ℤ d) ≡ q *ℤ m → x ≡ pos 0 ↔ m ≡ pos 0
product_zero p q x d m hp hq hd e = (
  λ z. mul_cancel hq (sym e ∙ (rw z (simp ring))),
  λ z. mul_cancel hd (mul_cancel hp (let w : p *ℤ (x *ℤ d) ≡ pos 0 = e ∙ (rw z (simp ring)) in simp ring w)),
)

first_positive : (r : List Ratio) (x : Row) → 1 ≤ length x → Stands r x → pos 0 <ℤ entry x 0 ↔ HasPositiveFirst r
first_positive r x l s =
    let below : 0 < length r = (let c = s.cols in omega arith) in
    product_up s.p s.q (entry x 0) (ratio_at r 0).den (ratio_at r 0).num s.p_positive s.q_positive (s.denominators 0 below) (s.same 0 below)

first_zero : (r : List Ratio) (x : Row) → 1 ≤ length x → Stands r x → entry x 0 ≡ pos 0 ↔ HasZeroFirst r
first_zero r x l s =
    let below : 0 < length r = (let c = s.cols in omega arith) in
    product_zero s.p s.q (entry x 0) (ratio_at r 0).den (ratio_at r 0).num s.p_positive s.q_positive (s.denominators 0 below) (s.same 0 below)

-- ---- what is so of rows of fractions, and of the rows that stand for them
module _ (n : ℕ) (some : 1 ≤ n) (P : List Ratio → Type 0) (Q : Row → Type 0) (same : (r : List Ratio) (x : Row) → 1 ≤ length x → Stands r x → Q x ↔ P r) where
  stand_to : (rows : List (List Ratio)) (xs : List Row) → StandFor rows xs → HasCols n xs → ((r : List Ratio) → Among r rows → P r) → (x : Row) → Among x xs → Q x
  stand_to [] [] s c f x i = elim i [ ]
  stand_to [] (y ∷ xs) s c f x i = absurd s
  stand_to (r ∷ rows) [] s c f x i = elim i [ ]
  stand_to (r ∷ rows) (y ∷ xs) s c f x here = (same r y (let l = c.0 in omega arith) s.0).1 (f r here)
  stand_to (r ∷ rows) (y ∷ xs) s c f x (there i) = stand_to rows xs s.1 c.1 (λ q j. f q (there j)) x i

  stand_back : (rows : List (List Ratio)) (xs : List Row) → StandFor rows xs → HasCols n xs → ((x : Row) → Among x xs → Q x) → (r : List Ratio) → Among r rows → P r
  stand_back [] xs s c f r i = elim i [ ]
  stand_back (r ∷ rows) [] s c f q i = absurd s
  stand_back (q ∷ rows) (x ∷ xs) s c f r here = (same q x (let l = c.0 in omega arith) s.0).0 (f x here)
  stand_back (q ∷ rows) (x ∷ xs) s c f r (there i) = stand_back rows xs s.1 c.1 (λ y j. f y (there j)) r i

  stand_all : (rows : List (List Ratio)) (xs : List Row) → StandFor rows xs → HasCols n xs → ((x : Row) → Among x xs → Q x) ↔ All P rows
  stand_all rows xs s c = (λ f. All_among P rows (stand_back rows xs s c f), λ h. stand_to rows xs s c (λ r i. among_All P i h))

-- ---- likeness
-- p x is k v + w
turned : (p x k v w : ℤ) → p *ℤ x ≡ k *ℤ v +ℤ w → x ≡ pos 0 → w ≡ k *ℤ neg_ℤ v
turned p x k v w e z =
    let zero_left : p *ℤ x ≡ pos 0 = rw z (simp ring) in
    simp ring (omega (arith, ints))

kept_zero : (p x k v w : ℤ) → pos 0 <ℤ p → pos 0 <ℤ k → p *ℤ x ≡ k *ℤ v +ℤ w → w ≡ pos 0 → v ≡ pos 0 ↔ x ≡ pos 0
kept_zero p x k v w hp hk e z = (
  λ v0. mul_cancel hp (let m : k *ℤ v ≡ pos 0 = rw v0 (simp ring) in let m' : p *ℤ pos 0 ≡ pos 0 = simp ring in omega (arith, ints)),
  λ x0. mul_cancel hk (let m : p *ℤ x ≡ pos 0 = rw x0 (simp ring) in let m' : k *ℤ pos 0 ≡ pos 0 = simp ring in omega (arith, ints)),
)

-- a row that is alike to an extreme ray is not zero
alike_not_zero : (n : ℕ) (G L : List Row) (v x : Row) → SameModulo n (InCone G L) v x → IsExtreme n (InCone G L) v → ¬ (IsZero x)
alike_not_zero n G L v x s e z =
    e.not_line (in_divide s.k_positive (in_same (record { at = λ i. let q = simp (entry-times, entry-plus) at (s.same.at i) in simp (entry-times, entry-opposite) (turned s.p (entry x i) s.k (entry v i) (entry s.w i) q (z i)) }) s.line.inside))

-- a row that is alike to a facet row does not vanish
alike_not_vanishing : (n : ℕ) (G L : List Row) (a x : Row) → SameModulo n (IsValid n G L) a x → IsExtreme n (IsValid n G L) a → ¬ (Vanishes n G L x)
alike_not_vanishing n G L a x s e v = e.not_line (record { cols = length_opposite; holds = λ y ly h. rw opposite-dot (below y ly h) })
  where
    length_opposite : length (opposite a) ≡ n
    length_opposite = length-opposite a ∙ e.cols

    product : (y : Row) → s.p *ℤ dot x y ≡ s.k *ℤ dot a y +ℤ dot s.w y
    product y = simp (times-dot, plus-dot) at (dot_comm (times s.p x) y ∙ dot-same y (times s.p x) (plus (times s.k a) s.w) s.same.at ∙ dot_comm y (plus (times s.k a) s.w))

    below : (y : Row) → length y ≡ n → InCone G L y → pos 0 ≤ℤ neg_ℤ (dot a y)
    below y ly h =
        let w = s.line.inside.holds y ly h in
        let q = turned s.p (dot x y) s.k (dot a y) (dot s.w y) (product y) (v.holds y ly h) in
        nonneg_cancel s.k_positive (subst (λ z. pos 0 ≤ℤ z) q w)

no_length : (xs : List (List Ratio)) → length xs ≡ 0 → xs ≡ []
no_length [] e = refl
no_length (x ∷ xs) e = absurd (omega arith)

is_positive : (z : ℤ) → pos 0 ≤ℤ z → ¬ (z ≡ pos 0) → pos 0 <ℤ z
is_positive z h n = by_lt_z (pos 0) z (λ up. up) (λ low. absurd (n (omega (arith, ints))))

-- ---- polytopes
polytope_of : (of : ObjectType) (n : ℕ) (G L : List Row) (Gs : List (List Row)) → of ≡ Polytope → IsOfType of n G L Gs → IsPolytopeThing n G L
polytope_of Polytope n G L Gs e h = h.0
polytope_of Cone n G L Gs e h = cc
polytope_of Fan n G L Gs e h = cc

not_a_fan : (of : ObjectType) → of ≡ Polytope → ¬ (of ≡ Fan)
not_a_fan of e f = cc

pub bounded_is_found : BoundedIsFound
bounded_is_found t o thing orders is n m rays lines b c d e rv rl says = (λ y. to (says.0 y), λ f. says.1 (lines_none f, (positive_all.0 (positive f))))
  where
    no_fan : ¬ (t.of ≡ Fan)
    no_fan = not_a_fan t.of is

    polytope : IsPolytopeThing t.cols t.generators t.lines
    polytope = polytope_of t.of t.cols t.generators t.lines t.cones is thing.kind

    positive_all : ((x : Row) → Among x rv.xs → pos 0 <ℤ entry x 0) ↔ All HasPositiveFirst rays
    positive_all = stand_all t.cols thing.some_cols HasPositiveFirst (λ x. pos 0 <ℤ entry x 0) first_positive rays rv.xs rv.stand rv.cols

    basis : IsBasis t.cols (InLineality (InCone t.generators t.lines)) rl.xs
    basis = lines_of t.of t.cols t.generators t.lines rl.xs no_fan rl.basis

    line_first : (l : Row) → Among l rl.xs → entry l 0 ≡ pos 0
    line_first l i = polytope_lineality_first t thing is l (all_at (λ (x : Row). length x ≡ t.cols) i rl.basis.cols) (among_All (InLines t) i rl.basis.inside)

    to : (lines ≡ []) × All HasPositiveFirst rays → (x : Row) → length x ≡ t.cols → InCone t.generators t.lines x → entry x 0 ≡ pos 0 → IsZero x
    to h x lx s z =
        let (hg, hl) = thing_cols t thing in
        let up = positive_all.1 h.1 in
        let rays = (orders_of t.of t.cols t.generators t.lines t.cones o no_fan orders).rays in
        let few : length rl.xs ≡ 0 = stand_length lines rl.xs rl.stand ∙ ap length h.0 in
        no_rows rl.xs few x
        (zero_in_span (pos 1 ∷ []) rv.xs rl.xs (λ g i. rw first_dot (up g i)) (λ l i. first_dot l ∙ line_first l i) x
        ((rays_generate t.cols t.generators t.lines o.rays rv.xs rays (rays_of t.of t.cols t.generators t.lines o.rays rv.xs no_fan rv.order) hg hl rl.xs basis x lx).0 s) (first_dot x ∙ z))

    lines_none : ((x : Row) → length x ≡ t.cols → InCone t.generators t.lines x → entry x 0 ≡ pos 0 → IsZero x) → lines ≡ []
    lines_none f =
        let none = zero_rows rl.xs basis.independent (λ k i. f k (all_at (λ (x : Row). length x ≡ t.cols) i basis.cols) (among_All (InLineality (InCone t.generators t.lines)) i basis.inside).inside (line_first k i)) in
        no_length lines (sym (stand_length lines rl.xs rl.stand) ∙ none)

    positive : ((x : Row) → length x ≡ t.cols → InCone t.generators t.lines x → entry x 0 ≡ pos 0 → IsZero x) → (x : Row) → Among x rv.xs → pos 0 <ℤ entry x 0
    positive f x i =
        in_order_to (SameModulo t.cols (InCone t.generators t.lines)) (IsExtreme t.cols (InCone t.generators t.lines)) (λ y. length y ≡ t.cols → pos 0 <ℤ entry y 0)
        (λ v y s ex ly.
        let inside = alike_inside t.cols (InCone t.generators t.lines) (in_cone_set t.generators t.lines) v y s ex.inside in
        is_positive (entry y 0) (polytope.first y ly inside) (λ z. alike_not_zero t.cols t.generators t.lines v y s ex (f y ly inside z)))
        o.rays rv.xs (rays_of t.of t.cols t.generators t.lines o.rays rv.xs no_fan rv.order)
        (λ v j. among_All (λ u. IsExtreme t.cols (InCone t.generators t.lines) u) j (orders_of t.of t.cols t.generators t.lines t.cones o no_fan orders).rays.each) x i
        (all_at (λ (y : Row). length y ≡ t.cols) i rv.cols)

pub far_face_is_found : FarFaceIsFound
far_face_is_found t o thing orders is n rays js c d rv ascending far = record { js = js; places = refl; ascending = ascending; far = λ j. (λ k. let w = (far j).0 k in back j w.0 w.1, λ w. (far j).1 (to j w.0 w.1)) }
  where
    no_fan : ¬ (t.of ≡ Fan)
    no_fan = not_a_fan t.of is

    order : InOrder (SameModulo t.cols (InCone t.generators t.lines)) o.rays rv.xs
    order = rays_of t.of t.cols t.generators t.lines o.rays rv.xs no_fan rv.order

    polytope : IsPolytopeThing t.cols t.generators t.lines
    polytope = polytope_of t.of t.cols t.generators t.lines t.cones is thing.kind

    as_many : length rv.xs ≡ length o.rays
    as_many = in_order_length (SameModulo t.cols (InCone t.generators t.lines)) o.rays rv.xs order

    all_stand : length rv.xs ≡ length rays
    all_stand = stand_length rays rv.xs rv.stand

    cols_of : (xs : List Row) → HasCols t.cols xs → (j : ℕ) → j < length xs → 1 ≤ length (ray xs j)
    cols_of [] h j l = absurd (omega arith)
    cols_of (x ∷ xs) h zero l = let a = h.0 in let k = thing.some_cols in omega arith
    cols_of (x ∷ xs) h (suc j) l = cols_of xs h.1 j (omega arith)

    both : (a b : ℤ) → pos 0 ≤ℤ a → pos 0 ≤ℤ b → b ≡ neg_ℤ a → a ≡ pos 0
    both a b p q e = omega (arith, ints)

    line_first : (w : Row) → length w ≡ t.cols → InLineality (InCone t.generators t.lines) w → entry w 0 ≡ pos 0
    line_first w lw s = both (entry w 0) (entry (opposite w) 0) (polytope.first w lw s.inside) (polytope.first (opposite w) (length-opposite w ∙ lw) s.opposed) (entry-opposite w 0)

    alike : (j : ℕ) → j < length o.rays → entry (ray o.rays j) 0 ≡ pos 0 ↔ entry (ray rv.xs j) 0 ≡ pos 0
    alike j l =
        let s = in_order_at (SameModulo t.cols (InCone t.generators t.lines)) o.rays rv.xs order j l in
        kept_zero s.p (entry (ray rv.xs j) 0) s.k (entry (ray o.rays j) 0) (entry s.w 0) s.p_positive s.k_positive (simp (entry-times, entry-plus) at (s.same.at 0)) (line_first s.w s.cols s.line)

    stands : (j : ℕ) → j < length rv.xs → entry (ray rv.xs j) 0 ≡ pos 0 ↔ HasZeroFirst (ratios_at rays j)
    stands j l = first_zero (ratios_at rays j) (ray rv.xs j) (cols_of rv.xs rv.cols j l) (stand_at rays rv.xs rv.stand j l)

    to : (j : ℕ) → j < length o.rays → entry (ray o.rays j) 0 ≡ pos 0 → (j < length rays) × HasZeroFirst (ratios_at rays j)
    to j l z = let p = as_many in let q = all_stand in (omega arith, (stands j (omega arith)).0 ((alike j l).0 z))

    back : (j : ℕ) → j < length rays → HasZeroFirst (ratios_at rays j) → (j < length o.rays) × (entry (ray o.rays j) 0 ≡ pos 0)
    back j l z = let p = as_many in let q = all_stand in let k : j < length o.rays = omega arith in (k, (alike j k).1 ((stands j (omega arith)).1 z))

pub centered_is_found : CenteredIsFound
centered_is_found t o thing orders no_fan n m facets hull b c d e rf rh says = (λ y. to (says.0 y), λ w. says.1 (zero_all.0 (zero_first w), positive_all.0 (positive w)))
  where
    facets_are : IsOrder t.cols (IsValid t.cols t.generators t.lines) o.facets
    facets_are = (orders_of t.of t.cols t.generators t.lines t.cones o no_fan orders).facets

    positive_all : ((x : Row) → Among x rf.xs → pos 0 <ℤ entry x 0) ↔ All HasPositiveFirst facets
    positive_all = stand_all t.cols thing.some_cols HasPositiveFirst (λ x. pos 0 <ℤ entry x 0) first_positive facets rf.xs rf.stand rf.cols

    zero_all : ((x : Row) → Among x rh.xs → entry x 0 ≡ pos 0) ↔ All HasZeroFirst hull
    zero_all = stand_all t.cols thing.some_cols HasZeroFirst (λ x. entry x 0 ≡ pos 0) first_zero hull rh.xs rh.stand rh.basis.cols

    vanishing : (h : Row) → Among h rh.xs → Vanishes t.cols t.generators t.lines h
    vanishing h i = among_All (λ a. Vanishes t.cols t.generators t.lines a) i rh.basis.inside

    to : All HasZeroFirst hull × All HasPositiveFirst facets → IsCentered t
    to h = record { inside = inside; positive = positive }
      where
        flat : (x : Row) → Among x rh.xs → entry x 0 ≡ pos 0
        flat = zero_all.1 h.0

        up : (x : Row) → Among x rf.xs → pos 0 <ℤ entry x 0
        up = positive_all.1 h.1

        inside : (u : Row) → length u ≡ t.cols → entry u 0 ≡ pos 1 → ((i : ℕ) → entry u (suc i) ≡ pos 0) → InCone t.generators t.lines u
        inside u lu one none =
            let (hg, hl) = thing_cols t thing in
            (facet_rows_cut_out t.cols t.generators t.lines o.facets rf.xs rf.cols facets_are rf.order hg hl rh.xs rh.basis u lu).1
            (record { inequalities = cut_from rf.xs u (λ a i. rw (unit_dot a u one none) (weaken (up a i))); equations = All_among (λ a. dot a u ≡ pos 0) rh.xs (λ a i. unit_dot a u one none ∙ flat a i) })

        positive : (a : Row) → IsValid t.cols t.generators t.lines a → ¬ (Vanishes t.cols t.generators t.lines a) → pos 0 <ℤ entry a 0
        positive a v not =
            let (hg, hl) = thing_cols t thing in
            let made = valid_from_facets t.cols t.generators t.lines o.facets rf.xs rf.cols facets_are rf.order hg hl rh.xs rh.basis a v in
            let low = rw first_dot at (dot_in (pos 1 ∷ []) rf.xs rh.xs (λ g i. rw first_dot (weaken (up g i))) (λ l i. first_dot l ∙ flat l i) made) in
            is_positive (entry a 0) low (λ z.
            let spanned = zero_in_span (pos 1 ∷ []) rf.xs rh.xs (λ g i. rw first_dot (up g i)) (λ l i. first_dot l ∙ flat l i) a made (first_dot a ∙ z) in
            not (record { cols = v.cols; holds = λ x lx s. dot_comm a x ∙ null_in x [] rh.xs (λ g i. elim i [ ]) (λ h i. dot_comm x h ∙ (vanishing h i).holds x lx s) spanned }))

    -- (1, 0, .., 0)
    unit : (k : ℕ) → 1 ≤ k → (u : Row) × (length u ≡ k) × (entry u 0 ≡ pos 1) × ((i : ℕ) → entry u (suc i) ≡ pos 0)
    unit zero l = absurd (omega arith)
    unit (suc k) l = (pos 1 ∷ zeros k, ap suc (length-zeros k), refl, zeros_entry k)

    zero_first : IsCentered t → (x : Row) → Among x rh.xs → entry x 0 ≡ pos 0
    zero_first w x i = let (u, lu, one, none) = unit t.cols thing.some_cols in sym (unit_dot x u one none) ∙ (vanishing x i).holds u lu (w.inside u lu one none)

    positive : IsCentered t → (x : Row) → Among x rf.xs → pos 0 <ℤ entry x 0
    positive w x i =
        in_order_to (SameModulo t.cols (IsValid t.cols t.generators t.lines)) (IsExtreme t.cols (IsValid t.cols t.generators t.lines)) (λ y. length y ≡ t.cols → pos 0 <ℤ entry y 0)
        (λ a y s ex ly. w.positive y (alike_valid t.cols t.generators t.lines a y ly s ex.inside) (alike_not_vanishing t.cols t.generators t.lines a y s ex))
        o.facets rf.xs rf.order (λ a j. among_All (λ u. IsExtreme t.cols (IsValid t.cols t.generators t.lines) u) j facets_are.each) x i
        (all_at (λ (y : Row). length y ≡ t.cols) i rf.cols)
