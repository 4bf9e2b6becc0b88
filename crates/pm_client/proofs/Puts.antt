-- Values that a client puts into an empty draft, in any order and of any number: when the draft is sound.
use Rattle.pm_vector.proofs.Lists.{Among, Contains_among, among_Contains, among_append, among_append_left, among_append_right}
use Rattle.pm_client.proofs.Drafts.{all_answered, all_placed, answer_put, answered, fact_put, facts_of, properties_of, put, targets_drafted}
use Rattle.pm_client.specs.Sound.{IsSound}
use Rattle.pm_geom.specs.Things.{Orders}
use Rattle.pm_types.specs.Things.{Thing}
use Rattle.pm_object.specs.Reading.{DraftSeen, Put, ViewSeen, answer_at, answer_of}
use Rattle.pm_types.specs.Canonical.{IsCanonical}
use Rattle.pm_types.specs.Forms.{FormsIn}
use Rattle.pm_props.specs.Properties.{generators_tag, half_spaces_tag}
use Rattle.pm_types.specs.Right.{Right, RightAll, RightFact, RightPair, RightTogether, objective_of}
use Rattle.pm_types.specs.Runs.{Keeps, MayAnswer, Meets, states_rows}
use Rattle.pm_props.specs.Places.{place_of}
use Rattle.pm_props.specs.Sets.{members, set_of}
use Rattle.pm_types.specs.Values.{Fact, PropertyValue, matrix}
use Rattle.pm_props.specs.declared.kind.Kind.{Kind}
use Rattle.pm_props.specs.declared.property.PropId.{PropId}
use Rattle.pm_props.specs.declared.property.PropId.TheVariants.{Equations, Inequalities, InputLineality, Points}
use Rattle.std.proofs.Common.{ap, append-nil, append_assoc, inl, inr, refl, subst, sym, true≢false, ◌∙◌}
use Rattle.std.specs.List.{AllByRecursion, Contains}
use Rattle.std.specs.Prelude.{Bool, IsTrue, List, Option, [], not, ℕ, ◌&&◌, ◌++◌, ◌∷◌, ◌≡◌}

-- ---- drafts
-- the draft was made for the view, of which its targets are those of the values that were put into it, in this order
pub record ArePut (v : ViewSeen) (puts : List Put) (new : DraftSeen) : Type 0 where
  pub targets : v.kind.targets ≡ set_of (properties_of puts)
  pub draft : new ≡ record { kind = v.kind; values = puts }

-- one value more
pub put_more : (kind : Kind) (puts : List Put) (x : Put) (old new : DraftSeen) → old ≡ record { kind = kind; values = puts } → new ≡ record old { values = old.values ++ x ∷ [] } → new ≡ record { kind = kind; values = puts ++ x ∷ [] }
put_more kind puts x old new before more = more ∙ ap (λ (d : DraftSeen). record d { values = d.values ++ x ∷ [] }) before

-- ---- any number of targets
-- where what was read is right in the orders o, so are both together in some orders, which stay where the kind is not fresh, and the values are canonical
pub record FoundIn (v : ViewSeen) (puts : List Put) (t : Thing) (o : Orders) : Type 0 where
  pub orders : Orders
  pub keeps : Keeps v.kind o orders
  pub right : RightAll (v.facts ++ facts_of v.sub puts) t orders
  pub canonical : AllByRecursion (λ x. IsCanonical v.kind x.property x.value t) puts

-- each value has its form
abbrev pub AreFormed : ViewSeen → List Put → Type 0
AreFormed v puts = AllByRecursion (λ x. FormsIn v.of v.cols x.property x.value × IsTrue (states_rows x.value)) puts

-- the values are so for each thing and all orders for which what was read is right
abbrev pub AreFound : ViewSeen → List Put → Type 0
AreFound v puts = (t : Thing) (o : Orders) → t.of ≡ v.of → t.cols ≡ v.cols → RightAll v.facts t o → Meets v.kind t o → FoundIn v puts t o

-- facts of which each is among others are right with the rest where these are
right_among : (read facts answer : List Fact) (t : Thing) (o : Orders) → ((f : Fact) → Among f answer → Among f facts) → RightAll (read ++ facts) t o → RightAll (read ++ answer) t o
right_among read facts answer t o within right = record { thing = right.thing; orders = right.orders; each = λ x c. right.each x (into x c); together = λ x y c d. right.together x y (into x c) (into y d) }
  where
    into : (x : Fact) → Contains (read ++ answer) x → Contains (read ++ facts) x
    into x c = elim (among_append read answer (among_Contains (read ++ answer) c)) [
      | inl i ↦ Contains_among (among_append_left facts i)
      | inr i ↦ Contains_among (among_append_right read (within x i))
    ]

all_formed : (v : ViewSeen) (puts : List Put) → AreFormed v puts → AllByRecursion (λ x. FormsIn v.of v.cols (fact_put v.sub x).property (fact_put v.sub x).value) puts
all_formed v [] h = tt
all_formed v (x ∷ puts) h = (h.0.0, all_formed v puts h.1)

all_stated : (v : ViewSeen) (puts : List Put) → AreFormed v puts → AllByRecursion (λ x. IsTrue (states_rows (fact_put v.sub x).value)) puts
all_stated v [] h = tt
all_stated v (x ∷ puts) h = (h.0.1, all_stated v puts h.1)

may_answer : (v : ViewSeen) (puts : List Put) → v.kind.targets ≡ set_of (properties_of puts) → AreFormed v puts → AreFound v puts → MayAnswer v.of v.cols v.kind v.sub v.facts (answer_at v.sub (members v.kind.targets) puts)
may_answer v puts targets formed found = record {
  targets = answered v.sub (members v.kind.targets) puts (targets_drafted v.kind.targets puts targets);
  places = all_answered (λ f. f.place ≡ place_of v.sub f.property) v.sub (members v.kind.targets) puts (all_placed v.sub puts);
  formed = all_answered (λ f. FormsIn v.of v.cols f.property f.value) v.sub (members v.kind.targets) puts (all_formed v puts formed);
  stated = all_answered (λ f. IsTrue (states_rows f.value)) v.sub (members v.kind.targets) puts (all_stated v puts formed);
  sound = λ t o of cols right meets.
      let w = found t o of cols right meets in
      record {
        orders = w.orders;
        right = right_among v.facts (facts_of v.sub puts) (answer_at v.sub (members v.kind.targets) puts) t w.orders (answer_put v.sub (members v.kind.targets) puts) w.right;
        keeps = w.keeps;
      };
  canonical = λ t o of cols right meets. all_answered (λ f. IsCanonical v.kind f.property f.value t) v.sub (members v.kind.targets) puts (found t o of cols right meets).canonical;
}

-- a draft of values that are found so is sound
pub sound_puts : (v : ViewSeen) (puts : List Put) (new : DraftSeen) → ArePut v puts new → AreFormed v puts → AreFound v puts → IsSound v new
sound_puts v puts new h formed found =
    subst (λ a. MayAnswer v.of v.cols v.kind v.sub v.facts a) (sym (ap (λ (d : DraftSeen). answer_of v.sub d) h.draft)) (may_answer v puts h.targets formed found)

-- ---- values that are no halves of pairs
-- the property is no half of the pair POINTS with INPUT_LINEALITY, nor of INEQUALITIES with EQUATIONS
abbrev pub is_alone : PropId → Bool
is_alone p = not (generators_tag p) && not (half_spaces_tag p)

abbrev pub AreAlone : List Put → Type 0
AreAlone puts = AllByRecursion (λ x. IsTrue (is_alone x.property)) puts

-- such a value is right with every other
pair_first : (t : Thing) (p : PropId) (v : PropertyValue) (q : PropId) (w : PropertyValue) → IsTrue (is_alone p) → RightPair p v q w t
pair_first t Points (matrix n rows) InputLineality (matrix m lines) h = absurd (true≢false (sym h))
pair_first t Inequalities (matrix n rows) Equations (matrix m equations) h = absurd (true≢false (sym h))
pair_first t p v q w h = tt

pair_second : (t : Thing) (q : PropId) (w : PropertyValue) (p : PropId) (v : PropertyValue) → IsTrue (is_alone p) → RightPair q w p v t
pair_second t Points (matrix n rows) InputLineality (matrix m lines) h = absurd (true≢false (sym h))
pair_second t Inequalities (matrix n rows) Equations (matrix m equations) h = absurd (true≢false (sym h))
pair_second t q w p v h = tt

only_one : {X : Type 0} {x y : X} → Among x (y ∷ []) → x ≡ y
only_one Among.here = refl
only_one (Among.there i) = elim i [ ]

-- where facts are right, so are they with one more that is no half of a pair
right_with : (read : List Fact) (f : Fact) (t : Thing) (o : Orders) → IsTrue (is_alone f.property) → RightAll read t o → RightFact f t o → RightAll (read ++ f ∷ []) t o
right_with read f t o alone right value = record { thing = right.thing; orders = right.orders; each = each; together = together }
  where
    each : (x : Fact) → Contains (read ++ f ∷ []) x → RightFact x t o
    each x c = elim (among_append read (f ∷ []) (among_Contains (read ++ f ∷ []) c)) [
      | inl i ↦ right.each x (Contains_among i)
      | inr i ↦ subst (λ z. RightFact z t o) (sym (only_one i)) value
    ]

    first : (x y : Fact) → x ≡ f → RightTogether t x y
    first x y e = subst (λ z. RightTogether t z y) (sym e) (pair_first t f.property f.value y.property y.value alone)

    second : (x y : Fact) → y ≡ f → RightTogether t x y
    second x y e = subst (λ z. RightTogether t x z) (sym e) (pair_second t x.property x.value f.property f.value alone)

    together : (x y : Fact) → Contains (read ++ f ∷ []) x → Contains (read ++ f ∷ []) y → RightTogether t x y
    together x y c d = elim (among_append read (f ∷ []) (among_Contains (read ++ f ∷ []) c)) [
      | inr i ↦ first x y (only_one i)
      | inl i ↦ elim (among_append read (f ∷ []) (among_Contains (read ++ f ∷ []) d)) [
        | inr j ↦ second x y (only_one j)
        | inl j ↦ right.together x y (Contains_among i) (Contains_among j)
      ]
    ]

-- so are they with any number of them
right_with_all : (sub : Option ℕ) (t : Thing) (o : Orders) (puts : List Put) (read : List Fact) → AreAlone puts → RightAll read t o → AllByRecursion (λ x. RightFact (fact_put sub x) t o) puts → RightAll (read ++ facts_of sub puts) t o
right_with_all sub t o [] read alone right each = subst (λ z. RightAll z t o) (sym (append-nil read)) right
right_with_all sub t o (x ∷ puts) read alone right each =
    subst (λ z. RightAll z t o) (append_assoc read (fact_put sub x ∷ []) (facts_of sub puts))
    (right_with_all sub t o puts (read ++ fact_put sub x ∷ []) alone.1 (right_with read (fact_put sub x) t o alone.0 right each.0) each.1)

-- the value x of p is right and canonical
pub record IsRightPut (v : ViewSeen) (t : Thing) (o : Orders) (x : Put) : Type 0 where
  pub right : Right x.property x.value t o (objective_of t (place_of v.sub x.property))
  pub canonical : IsCanonical v.kind x.property x.value t

-- where what was read is right in the orders o, so is it in some orders, which stay where the kind is not fresh, and so is each value
pub record RightIn (v : ViewSeen) (puts : List Put) (t : Thing) (o : Orders) : Type 0 where
  pub orders : Orders
  pub keeps : Keeps v.kind o orders
  pub read : RightAll v.facts t orders
  pub each : AllByRecursion (IsRightPut v t orders) puts

abbrev pub AreRight : ViewSeen → List Put → Type 0
AreRight v puts = (t : Thing) (o : Orders) → t.of ≡ v.of → t.cols ≡ v.cols → RightAll v.facts t o → Meets v.kind t o → RightIn v puts t o

all_right : (v : ViewSeen) (t : Thing) (o : Orders) (puts : List Put) → AllByRecursion (IsRightPut v t o) puts → AllByRecursion (λ x. RightFact (fact_put v.sub x) t o) puts
all_right v t o [] h = tt
all_right v t o (x ∷ puts) h = (h.0.right, all_right v t o puts h.1)

all_canonical : (v : ViewSeen) (t : Thing) (o : Orders) (puts : List Put) → AllByRecursion (IsRightPut v t o) puts → AllByRecursion (λ x. IsCanonical v.kind x.property x.value t) puts
all_canonical v t o [] h = tt
all_canonical v t o (x ∷ puts) h = (h.0.canonical, all_canonical v t o puts h.1)

pub sound_alone : (v : ViewSeen) (puts : List Put) (new : DraftSeen) → ArePut v puts new → AreAlone puts → AreFormed v puts → AreRight v puts → IsSound v new
sound_alone v puts new h alone formed right =
    sound_puts v puts new h formed (λ t o of cols read meets.
    let w = right t o of cols read meets in
    record {
      orders = w.orders;
      keeps = w.keeps;
      right = right_with_all v.sub t w.orders puts v.facts alone w.read (all_right v t w.orders puts w.each);
      canonical = all_canonical v t w.orders puts w.each;
    })

-- where the kind is fresh in no order that the values speak of, the orders stay
pub same_orders : (v : ViewSeen) (puts : List Put) (t : Thing) (o : Orders) → RightAll v.facts t o → AllByRecursion (IsRightPut v t o) puts → RightIn v puts t o
same_orders v puts t o right each = record { orders = o; keeps = record { rays = λ n. refl; facets = λ n. refl; cones = λ n. refl }; read = right; each = each }

-- ---- one, two and three targets, in any order of their numbers
-- the draft was empty, and then x was put for p
pub record IsPut (v : ViewSeen) (p : PropId) (x : PropertyValue) (old new : DraftSeen) : Type 0 where
  pub targets : v.kind.targets ≡ set_of (p ∷ [])
  pub empty : old ≡ record { kind = v.kind; values = [] }
  pub put : new ≡ record old { values = old.values ++ record { property = p; value = x } ∷ [] }

pub one_put : (v : ViewSeen) (p : PropId) (x : PropertyValue) (old new : DraftSeen) → IsPut v p x old new → ArePut v (put p x ∷ []) new
one_put v p x old new h = record { targets = h.targets; draft = put_more v.kind [] (put p x) old new h.empty h.put }

module _ (v : ViewSeen) (p q : PropId) (x y : PropertyValue) (old mid : DraftSeen) (empty : old ≡ record { kind = v.kind; values = [] }) (first : mid ≡ record old { values = old.values ++ record { property = p; value = x } ∷ [] }) where
  pub two_put : (new : DraftSeen) → v.kind.targets ≡ set_of (p ∷ q ∷ []) → new ≡ record mid { values = mid.values ++ record { property = q; value = y } ∷ [] } → ArePut v (put p x ∷ put q y ∷ []) new
  two_put new targets second = record { targets = targets; draft = put_more v.kind (put p x ∷ []) (put q y) mid new (put_more v.kind [] (put p x) old mid empty first) second }

  pub three_put : (r : PropId) (z : PropertyValue) (most new : DraftSeen) → v.kind.targets ≡ set_of (p ∷ q ∷ r ∷ []) → most ≡ record mid { values = mid.values ++ record { property = q; value = y } ∷ [] }
      → new ≡ record most { values = most.values ++ record { property = r; value = z } ∷ [] } → ArePut v (put p x ∷ put q y ∷ put r z ∷ []) new
  three_put r z most new targets second third = record {
    targets = targets;
    draft = put_more v.kind (put p x ∷ put q y ∷ []) (put r z) most new (put_more v.kind (put p x ∷ []) (put q y) mid most (put_more v.kind [] (put p x) old mid empty first) second) third;
  }

-- one value that is right and canonical in the same orders
pub sound_one : (v : ViewSeen) (p : PropId) (x : PropertyValue) (old new : DraftSeen) → IsPut v p x old new → IsTrue (is_alone p) → FormsIn v.of v.cols p x → IsTrue (states_rows x)
    → ((t : Thing) (o : Orders) → t.of ≡ v.of → t.cols ≡ v.cols → RightAll v.facts t o → Right p x t o (objective_of t (place_of v.sub p)) × IsCanonical v.kind p x t) → IsSound v new
sound_one v p x old new h alone formed stated follows =
    sound_alone v (put p x ∷ []) new (one_put v p x old new h) (alone, tt) ((formed, stated), tt) (λ t o of cols right meets.
    let w = follows t o of cols right in
    same_orders v (put p x ∷ []) t o right (record { right = w.0; canonical = w.1 }, tt))
