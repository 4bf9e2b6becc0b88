-- Fans with the same cones have the same orders, but for the places of the cones.
use Rattle.pm_vector.proofs.Lists.{All_among, Among, Any_among, Contains_among, among_All, among_Any, among_Contains, here, there}
use Rattle.pm_vector.specs.Cones.{InSpan}
use Rattle.pm_vector.specs.Rows.{Row}
use Rattle.pm_geom.proofs.Reduce.{extreme_as, same_modulo_as}
use Rattle.pm_geom.specs.Cones.{IsExtremeRay, SameModulo}
use Rattle.pm_geom.specs.Things.{AreFanOrders, Orders}
use Rattle.pm_laws_normal_fans.proofs.Places.{among_at, by_order, place_at}
use Rattle.pm_laws_normal_fans.specs.Fans.{Fan, InPlace, IsConeAt, IsFan, IsSameFan}
use Rattle.std.proofs.Common.{ap, arith, refl, subst, sym, ◌∙◌}
use Rattle.std.specs.List.{AllPairs, Any, Contains, slice_index_or}
use Rattle.std.specs.Prelude.{List, [], length, suc, zero, ℕ, ◌<◌, ◌∷◌, ◌≡◌}

-- a place for each place of a list, with the same cone
pub record Moved (n : ℕ) (f g : Fan) (is : List ℕ) : Type 0 where
  pub places : List ℕ
  pub as_many : length places ≡ length is
  pub each : (k : ℕ) → k < length is → (slice_index_or places k 0 < length g.cones) × IsConeAt n f (slice_index_or is k 0) (InPlace g (slice_index_or places k 0))

pub record HasOrders (n : ℕ) (f g : Fan) (o : Orders) : Type 0 where
  pub orders : Orders
  pub are : AreFanOrders n g.cones g.lines orders
  pub rays : orders.rays ≡ o.rays
  pub as_many : length orders.cones ≡ length o.cones
  pub cones : (k : ℕ) → k < length o.cones → (slice_index_or orders.cones k 0 < length g.cones) × IsConeAt n f (slice_index_or o.cones k 0) (InPlace g (slice_index_or orders.cones k 0))

module _ (n : ℕ) (f g : Fan) (ff : IsFan n f) (fg : IsFan n g) (same : IsSameFan n f g) where
  moved : (is : List ℕ) → ((i : ℕ) → Among i is → i < length f.cones) → Moved n f g is
  moved [] h = record { places = []; as_many = refl; each = λ k l. absurd (omega arith) }
  moved (i ∷ is) h =
      let (j, l, s) = same.each i (h i here) in
      let r = moved is (λ k a. h k (there a)) in
      record { places = j ∷ r.places; as_many = ap suc r.as_many; each = first j l s r }
    where
      first : (j : ℕ) → j < length g.cones → IsConeAt n f i (InPlace g j) → (r : Moved n f g is) → (k : ℕ) → k < length (i ∷ is) → (slice_index_or (j ∷ r.places) k 0 < length g.cones) × IsConeAt n f (slice_index_or (i ∷ is) k 0) (InPlace g (slice_index_or (j ∷ r.places) k 0))
      first j l s r zero b = (l, s)
      first j l s r (suc k) b = r.each k (omega arith)

  -- two places of g with the cone of one place of f
  one_place : (i j k : ℕ) → j < length g.cones → k < length g.cones → IsConeAt n f i (InPlace g j) → IsConeAt n f i (InPlace g k) → j ≡ k
  one_place i j k lj lk s t = by_order j k
      (λ l. absurd (fg.apart j k lj lk (λ e. absurd (omega arith)) (λ x lx h. (t x lx).0 ((s x lx).1 h))))
      (λ l. absurd (fg.apart j k lj lk (λ e. absurd (omega arith)) (λ x lx h. (t x lx).0 ((s x lx).1 h))))
      (λ e. e)

  one_back : (i j k : ℕ) → i < length f.cones → j < length f.cones → IsConeAt n f i (InPlace g k) → IsConeAt n f j (InPlace g k) → i ≡ j
  one_back i j k li lj s t = by_order i j
      (λ l. absurd (ff.apart i j li lj (λ e. absurd (omega arith)) (λ x lx h. (t x lx).1 ((s x lx).0 h))))
      (λ l. absurd (ff.apart i j li lj (λ e. absurd (omega arith)) (λ x lx h. (t x lx).1 ((s x lx).0 h))))
      (λ e. e)

  module _ (o : Orders) (are : AreFanOrders n f.cones f.lines o) where
    turned : Moved n f g o.cones
    turned = moved o.cones (λ i a. among_All (λ i. i < length f.cones) a are.places)

    within : (k : ℕ) → k < length o.cones → slice_index_or o.cones k 0 < length f.cones
    within k l = among_All (λ i. i < length f.cones) (among_at 0 o.cones k l) are.places

    each : (v : Row) → Among v o.rays → Any (λ H. IsExtremeRay n H g.lines v) g.cones
    each v a =
        let (G, i, e) = among_Any (λ G. IsExtremeRay n G f.lines v) f.cones (among_All (λ v. Any (λ G. IsExtremeRay n G f.lines v) f.cones) a are.each) in
        let (k, lk, is) = place_at [] f.cones i in
        let (j, lj, s) = same.each k lk in
        Any_among (λ H. IsExtremeRay n H g.lines v) (among_at [] g.cones j lj)
        (extreme_as n (InPlace f k) (InPlace g j) (λ x lx h. (s x lx).0 h) (λ x lx h. (s x lx).1 h) (subst (λ D. IsExtremeRay n D f.lines v) (sym is) e))

    all : (H : List Row) → Among H g.cones → (r : Row) → IsExtremeRay n H g.lines r → Any (λ v. SameModulo n (InSpan g.lines) r v) o.rays
    all H i r e =
        let (j, lj, is) = place_at [] g.cones i in
        let (k, lk, s) = same.all j lj in
        let x = extreme_as n (InPlace g j) (InPlace f k) (λ x lx h. (s x lx).1 h) (λ x lx h. (s x lx).0 h) (subst (λ D. IsExtremeRay n D g.lines r) (sym is) e) in
        let (v, a, t) = among_Any (λ v. SameModulo n (InSpan f.lines) r v) o.rays (among_All (λ G. (r : Row) → IsExtremeRay n G f.lines r → Any (λ v. SameModulo n (InSpan f.lines) r v) o.rays) (among_at [] f.cones k lk) are.all r x) in
        Any_among (λ v. SameModulo n (InSpan g.lines) r v) a (same_modulo_as n (InSpan f.lines) (InSpan g.lines) (λ x lx h. (same.lines x lx).0 h) (λ x lx h. (same.lines x lx).1 h) t)

    every : (j : ℕ) → j < length g.cones → Contains turned.places j
    every j lj =
        let (i, li, s) = same.all j lj in
        let (k, lk, e) = place_at 0 o.cones (among_Contains o.cones (are.every i li)) in
        let t = turned.each k lk in
        let q = one_place i (slice_index_or turned.places k 0) j t.0 lj (subst (λ z. IsConeAt n f z (InPlace g (slice_index_or turned.places k 0))) e t.1) s in
        Contains_among (subst (λ z. Among z turned.places) q (among_at 0 turned.places k (let m = turned.as_many in omega arith)))

    apart : AllPairs (λ i j. ¬ (i ≡ j)) turned.places
    apart i j d l m e =
        let am = turned.as_many in
        let lj : j < length o.cones = omega arith in
        let li : i < length o.cones = omega arith in
        let ti = turned.each i li in
        let tj = turned.each j lj in
        let e' : slice_index_or turned.places i 0 ≡ slice_index_or turned.places j 0 = any_default turned.places i 0 d (omega arith) ∙ e ∙ sym (any_default turned.places j 0 d m) in
        are.places_once i j 0 l lj (one_back (slice_index_or o.cones i 0) (slice_index_or o.cones j 0) (slice_index_or turned.places j 0) (within i li) (within j lj) (subst (λ z. IsConeAt n f (slice_index_or o.cones i 0) (InPlace g z)) e' ti.1) tj.1)
      where
        any_default : (xs : List ℕ) (k a b : ℕ) → k < length xs → slice_index_or xs k a ≡ slice_index_or xs k b
        any_default [] k a b l = absurd (omega arith)
        any_default (x ∷ xs) zero a b l = refl
        any_default (x ∷ xs) (suc k) a b l = any_default xs k a b (omega arith)

    pub has_orders : HasOrders n f g o
    has_orders = record {
      orders = record { rays = o.rays; facets = []; cones = turned.places };
      are = record {
        each = All_among (λ v. Any (λ H. IsExtremeRay n H g.lines v) g.cones) o.rays each;
        all = All_among (λ H. (r : Row) → IsExtremeRay n H g.lines r → Any (λ v. SameModulo n (InSpan g.lines) r v) o.rays) g.cones all;
        once = λ i j d l m s. are.once i j d l m (same_modulo_as n (InSpan g.lines) (InSpan f.lines) (λ x lx h. (same.lines x lx).1 h) (λ x lx h. (same.lines x lx).0 h) s);
        facets = refl;
        places = All_among (λ j. j < length g.cones) turned.places (λ j a. let (k, l, e) = place_at 0 turned.places a in subst (λ z. z < length g.cones) e (turned.each k (let m = turned.as_many in omega arith)).0);
        every = every;
        places_once = apart;
      };
      rays = refl;
      as_many = turned.as_many;
      cones = turned.each;
    }
