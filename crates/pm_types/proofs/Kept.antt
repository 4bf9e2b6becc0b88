-- A right answer leaves all that is held right: where a kind may run on facts, what it may answer can be added to them.
use Rattle.pm_vector.proofs.Filters.{among_filter, among_map, any_from, any_to, filter_among}
use Rattle.pm_vector.proofs.Lists.{Among, Contains_among, among_Contains, among_append, among_append_left, among_append_right}
use Rattle.pm_geom.specs.Things.{Orders}
use Rattle.pm_types.specs.Things.{Thing}
use Rattle.pm_object_type.specs.declared.object_type.ObjectType.{ObjectType}
use Rattle.pm_types.proofs.Frame.{right_in_orders}
use Rattle.pm_props.proofs.Every.{among_every}
use Rattle.pm_props.proofs.Places.{same_place_is, same_place_refl, same_property_is, same_property_refl}
use Rattle.pm_props.specs.Kinds.{IsFresh}
use Rattle.pm_props.specs.Properties.{facets_tag, generators_tag, half_spaces_tag, has_program, rays_tag, every_property}
use Rattle.pm_types.specs.Right.{Right, RightAll, RightFact, RightPair, RightTogether, objective_of}
use Rattle.pm_types.specs.Runs.{Holds, IsFree, MayAnswer, MayRun, Meets, RightAnswer, is_named, missing, shown, stands_at}
use Rattle.pm_props.specs.Places.{place_of, same_place, same_property}
use Rattle.pm_props.specs.Sets.{has, members}
use Rattle.pm_types.specs.Values.{Fact, PropertyValue, matrix, truth}
use Rattle.pm_props.specs.declared.kind.Kind.{Kind}
use Rattle.pm_props.specs.declared.property.PropId.{PropId}
use Rattle.pm_props.specs.declared.property.PropId.TheVariants.{Points, InputLineality, Inequalities, Equations, Feasible, Bounded, Pointed, FullDim, Centered, Simple, Simplicial, Pure}
use Rattle.std.proofs.Common.{arith, false, inl, inr, refl, subst, sym, true, true≢false, ◌∙◌}
use Rattle.std.specs.List.{Contains, list_any}
use Rattle.std.specs.Prelude.{Bool, List, None, Option, [], if◌then◌else◌, not, ℕ, ◌&&◌, ◌++◌, ◌≡◌, ◌⊎◌}
use Rattle.pm_vector.specs.Numbers.{Ratio}
use Rattle.std.proofs.lemmas.Int.{ints}
use lib.IntN.{pos}
use Rattle.std.proofs.lemmas.Bool.{and_from, cases_Bool, not-true}

-- ---- tests
both_true : (a b : Bool) → (a && b) ≡ true → (a ≡ true) × (b ≡ true)
both_true true true h = (refl, refl)
both_true true false h = absurd (true≢false (sym h))
both_true false b h = absurd (true≢false (sym h))

-- ---- what is named, shown and missing
pub named_from : (sub : Option ℕ) (held : List Fact) (f : Fact) → Among f held → f.place ≡ place_of sub f.property → is_named held sub f.property ≡ true
named_from sub held f i e = any_from (stands_at sub f.property) i (and_from (same_property f.property f.property) (same_place f.place (place_of sub f.property)) (same_property_refl f.property) (subst (λ r. same_place f.place r ≡ true) e (same_place_refl f.place)))

pub named_to : (sub : Option ℕ) (held : List Fact) (p : PropId) → is_named held sub p ≡ true → (f : Fact) × Among f held × (f.property ≡ p) × (f.place ≡ place_of sub p)
named_to sub held p h =
    let w = any_to (stands_at sub p) held h in
    let b = both_true (same_property p w.0.property) (same_place w.0.place (place_of sub p)) w.2 in
    (w.0, w.1, sym (same_property_is p w.0.property b.0), same_place_is w.0.place (place_of sub p) b.1)

pub shown_among : (kind : Kind) (sub : Option ℕ) (held : List Fact) {f : Fact} → Among f (shown kind sub held) → Among f held
shown_among kind sub held i = (filter_among (λ f. has kind.sources f.property && same_place f.place (place_of sub f.property)) held i).0

pub among_shown : (kind : Kind) (sub : Option ℕ) (held : List Fact) {f : Fact} → Among f held → has kind.sources f.property ≡ true → f.place ≡ place_of sub f.property → Among f (shown kind sub held)
among_shown kind sub held {f} i h e =
    among_filter (λ g. has kind.sources g.property && same_place g.place (place_of sub g.property)) i
    (and_from (has kind.sources f.property) (same_place f.place (place_of sub f.property)) h (subst (λ r. same_place f.place r ≡ true) e (same_place_refl f.place)))

missing_to : (sub : Option ℕ) (held answer : List Fact) {f : Fact} → Among f (missing sub held answer) → Among f answer × (is_named held sub f.property ≡ false)
missing_to sub held answer {f} i = let w = filter_among (λ g. not (is_named held sub g.property)) answer i in (w.0, not-true (is_named held sub f.property) w.1)

-- ---- fresh tags
-- a kind with a target that has the tag is fresh in it, or some source has it
decide_fresh : (tag : PropId → Bool) (kind : Kind) (p : PropId) → has kind.targets p ≡ true → tag p ≡ true → IsFresh tag kind ⊎ ((s : PropId) × (has kind.sources s ≡ true) × (tag s ≡ true))
decide_fresh tag kind p h e = elim (cases_Bool (list_any (λ q. has kind.sources q && tag q) every_property)) [
  | inl y ↦ inr (let w = any_to (λ q. has kind.sources q && tag q) every_property y in let b = both_true (has kind.sources w.0) (tag w.0) w.2 in (w.0, b.0, b.1))
  | inr n ↦ inl (record {
    target = (p, h, e);
    sources = λ q hq. elim (cases_Bool (tag q)) [
      | inr f ↦ f
      | inl y ↦ absurd (true≢false (sym (any_from (λ r. has kind.sources r && tag r) (among_every q) (and_from (has kind.sources q) (tag q) hq y)) ∙ n))
    ];
  })
]

-- a held fact has not the tag, or the kind is not fresh in it
not_tagged : (tag : PropId → Bool) (kind : Kind) (held : List Fact) {f : Fact} {A : Type 0} (new old : A) → IsFree tag kind held → (¬ (IsFresh tag kind) → new ≡ old) → Among f held → (tag f.property ≡ false) ⊎ (new ≡ old)
not_tagged tag kind held {f} new old free same i = elim (cases_Bool (tag f.property)) [
  | inr n ↦ inl n
  | inl y ↦ inr (same (λ fresh. true≢false (sym y ∙ free.none fresh f (Contains_among i))))
]

-- ---- the two halves of a pair
generator_half : (p : PropId) → generators_tag p ≡ true → (p ≡ Points) ⊎ (p ≡ InputLineality)
generator_half Points h = inl refl
generator_half InputLineality h = inr refl
generator_half p h = absurd (true≢false (sym h))

half_space_half : (p : PropId) → half_spaces_tag p ≡ true → (p ≡ Inequalities) ⊎ (p ≡ Equations)
half_space_half Inequalities h = inl refl
half_space_half Equations h = inr refl
half_space_half p h = absurd (true≢false (sym h))

not_of_programs : (p : PropId) → (generators_tag p ≡ true) ⊎ (half_spaces_tag p ≡ true) → has_program p ≡ false
not_of_programs Points h = refl
not_of_programs InputLineality h = refl
not_of_programs Inequalities h = refl
not_of_programs Equations h = refl
not_of_programs p (inl h) = absurd (true≢false (sym h))
not_of_programs p (inr h) = absurd (true≢false (sym h))

-- of three halves, two that differ from the third are one
two_halves : (tag : PropId → Bool) (u v : PropId) → ((p : PropId) → tag p ≡ true → (p ≡ u) ⊎ (p ≡ v)) → (a b c : PropId) → tag a ≡ true → tag b ≡ true → tag c ≡ true → ¬ (a ≡ c) → ¬ (b ≡ c) → a ≡ b
two_halves tag u v half a b c ha hb hc na nb = by (half a ha) (half b hb) (half c hc)
  where
    by : (a ≡ u) ⊎ (a ≡ v) → (b ≡ u) ⊎ (b ≡ v) → (c ≡ u) ⊎ (c ≡ v) → a ≡ b
    by (inl e) (inl f) g = e ∙ sym f
    by (inr e) (inr f) g = e ∙ sym f
    by (inl e) (inr f) (inl g) = absurd (na (e ∙ sym g))
    by (inl e) (inr f) (inr g) = absurd (nb (f ∙ sym g))
    by (inr e) (inl f) (inr g) = absurd (na (e ∙ sym g))
    by (inr e) (inl f) (inl g) = absurd (nb (f ∙ sym g))

-- facts of which one is no half of the other's pair are right together
halves_only : (t : Thing) (p : PropId) (v : PropertyValue) (q : PropId) (w : PropertyValue) → (generators_tag p ≡ true → generators_tag q ≡ true → RightPair p v q w t) → (half_spaces_tag p ≡ true → half_spaces_tag q ≡ true → RightPair p v q w t) → RightPair p v q w t
halves_only t Points (matrix n rows) InputLineality (matrix m lines) g h = g refl refl
halves_only t Inequalities (matrix n rows) Equations (matrix m equations) g h = h refl refl
halves_only t p v q w g h = tt

module _ (of : ObjectType) (n : ℕ) (kind : Kind) (sub : Option ℕ) (held answer : List Fact) (may : MayRun kind sub n held) (says : MayAnswer of n kind sub (shown kind sub held) answer) where
  target_of : {f : Fact} → Among f answer → has kind.targets f.property ≡ true
  unfolding members
  target_of {f} i = (filter_among (has kind.targets) every_property (subst (λ ps. Among f.property ps) says.targets (among_map (λ g. g.property) i))).1

  -- a held half whose other half is added was read
  half_read : (tag : PropId → Bool) (u v : PropId) → ((p : PropId) → tag p ≡ true → (p ≡ u) ⊎ (p ≡ v)) → ((p : PropId) → tag p ≡ true → has_program p ≡ false) → IsFree tag kind held → {x y : Fact} → Among x held → Among y (missing sub held answer) → tag x.property ≡ true → tag y.property ≡ true → Among x (shown kind sub held)
  half_read tag u v half alone free {x} {y} i j tx ty =
      let (k, unnamed) = missing_to sub held answer j in
      elim (decide_fresh tag kind y.property (target_of k) ty) [
        | inl fresh ↦ absurd (true≢false (sym tx ∙ free.none fresh x (Contains_among i)))
        | inr s ↦
            let at : x.place ≡ place_of sub x.property = placed (alone x.property tx) in
            let source : has kind.sources x.property ≡ true = subst (λ p. has kind.sources p ≡ true) (two_halves tag u v half s.0 x.property y.property s.2 tx ty
            (λ e. true≢false (sym (subst (λ p. is_named held sub p ≡ true) e (may.sources s.0 s.1)) ∙ unnamed))
            (λ e. true≢false (sym (subst (λ p. is_named held sub p ≡ true) e (named_from sub held x i at)) ∙ unnamed))) s.1 in
            among_shown kind sub held i source at
      ]
    where
      placed : has_program x.property ≡ false → x.place ≡ place_of sub x.property
      placed e = (may.placed x (Contains_among i)).alone e ∙ sym (subst (λ b. (if b then sub else None) ≡ None) (sym e) refl)

  -- where the held facts are right, so are they with what the client answers, in orders that it may choose
  pub kept : (t : Thing) (o : Orders) → t.of ≡ of → RightAll held t o → RightAnswer kind held (missing sub held answer) t o
  kept t o eo right = record {
    orders = found.orders;
    right = record {
      thing = found.right.thing;
      orders = found.right.orders;
      each = each;
      together = together;
    };
    keeps = found.keeps;
  }
    where
      cols : t.cols ≡ n
      cols = whole_is t.cols n (right.each _ may.ambient)
        where
          whole_is : (a b : ℕ) → pos b ≡ pos a → a ≡ b
          whole_is a b e = omega (arith, ints)

      read : RightAll (shown kind sub held) t o
      read = record {
        thing = right.thing;
        orders = right.orders;
        each = λ f c. right.each f (Contains_among (shown_among kind sub held (among_Contains (shown kind sub held) c)));
        together = λ x y c d. right.together x y (Contains_among (shown_among kind sub held (among_Contains (shown kind sub held) c))) (Contains_among (shown_among kind sub held (among_Contains (shown kind sub held) d)));
      }

      asked : (p : PropId) (b : Bool) → Holds held sub p (truth b) → Right p (truth b) t o []
      asked p b h = truth_alone p b (objective_of t (place_of sub p)) (right.each _ h)
        where
          truth_alone : (p : PropId) (b : Bool) (c : List Ratio) → Right p (truth b) t o c → Right p (truth b) t o []
          truth_alone Feasible b c r = r
          truth_alone Bounded b c r = r
          truth_alone Pointed b c r = r
          truth_alone FullDim b c r = r
          truth_alone Centered b c r = r
          truth_alone Simple b c r = r
          truth_alone Simplicial b c r = r
          truth_alone Pure b c r = r
          truth_alone p b c r = absurd r

      meets : Meets kind t o
      meets = record { must = λ p h. asked p true (may.must p h); must_not = λ p h. asked p false (may.must_not p h) }

      found : RightAnswer kind (shown kind sub held) answer t o
      found = says.sound t o eo cols read meets

      old : (f : Fact) → Among f held → RightFact f t found.orders
      old f i = right_in_orders f.property f.value t o found.orders (objective_of t f.place)
          (record { rays = not_tagged rays_tag kind held found.orders.rays o.rays may.rays found.keeps.rays i; facets = not_tagged facets_tag kind held found.orders.facets o.facets may.facets found.keeps.facets i; cones = not_tagged facets_tag kind held found.orders.cones o.cones may.facets found.keeps.cones i })
          (right.each f (Contains_among i))

      answered : {f : Fact} → Among f (missing sub held answer) → Contains (shown kind sub held ++ answer) f
      answered i = Contains_among (among_append_right (shown kind sub held) (missing_to sub held answer i).0)

      seen : {f : Fact} → Among f (shown kind sub held) → Contains (shown kind sub held ++ answer) f
      seen i = Contains_among (among_append_left answer i)

      each : (f : Fact) → Contains (held ++ missing sub held answer) f → RightFact f t found.orders
      each f c = elim (among_append held (missing sub held answer) (among_Contains (held ++ missing sub held answer) c)) [ inl i ↦ old f i | inr i ↦ found.right.each f (answered i) ]

      generators : {x y : Fact} → Among x held → Among y (missing sub held answer) → generators_tag x.property ≡ true → generators_tag y.property ≡ true → Among x (shown kind sub held)
      generators = half_read generators_tag Points InputLineality generator_half (λ p h. not_of_programs p (inl h)) may.generators

      half_spaces : {x y : Fact} → Among x held → Among y (missing sub held answer) → half_spaces_tag x.property ≡ true → half_spaces_tag y.property ≡ true → Among x (shown kind sub held)
      half_spaces = half_read half_spaces_tag Inequalities Equations half_space_half (λ p h. not_of_programs p (inr h)) may.half_spaces

      together : (x y : Fact) → Contains (held ++ missing sub held answer) x → Contains (held ++ missing sub held answer) y → RightTogether t x y
      together x y c d = elim (among_append held (missing sub held answer) (among_Contains (held ++ missing sub held answer) c)) [
        | inl i ↦ elim (among_append held (missing sub held answer) (among_Contains (held ++ missing sub held answer) d)) [
          | inl j ↦ right.together x y (Contains_among i) (Contains_among j)
          | inr j ↦ halves_only t x.property x.value y.property y.value (λ g h. found.right.together x y (seen (generators i j g h)) (answered j)) (λ g h. found.right.together x y (seen (half_spaces i j g h)) (answered j))
        ]
        | inr i ↦ elim (among_append held (missing sub held answer) (among_Contains (held ++ missing sub held answer) d)) [
          | inl j ↦ halves_only t x.property x.value y.property y.value (λ g h. found.right.together x y (answered i) (seen (generators j i h g))) (λ g h. found.right.together x y (answered i) (seen (half_spaces j i h g)))
          | inr j ↦ found.right.together x y (answered i) (answered j)
        ]
      ]
