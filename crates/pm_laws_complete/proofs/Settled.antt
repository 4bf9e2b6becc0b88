-- What an object holds once it is settled, where it was given by one description or the first half of one.
use Rattle.std.proofs.Common.{ap, false, inl, inr, refl, subst, sym, true, true≢false, ◌∙◌}
use Rattle.std.proofs.lemmas.Bool.{and_from, and_parts, false_from_ne_true, or_cases, or_left, or_right}
use Rattle.std.proofs.lemmas.List.Elements.{filter-append}
use Rattle.std.proofs.lemmas.List.Sums.{list_all-from_AllPass}
use Rattle.std.specs.List.{Contains, list_any}
use Rattle.std.specs.Option.{is_some, unwrap_or}
use Rattle.std.specs.Prelude.{Bool, List, None, Option, Some, [], if◌then◌else◌, map, not, ℕ, ◌&&◌, ◌++◌, ◌||◌, ◌≡◌, ◌⊎◌, ◌∷◌}
use Rattle.pm_vector.proofs.Lists.{All_among, Among, Contains_among, all_at, among_Contains, among_append, among_append_right, here, there}
use Rattle.pm_client.specs.Starts.{Clients, has_client}
use Rattle.pm_machine.specs.Steps.{settled_object}
use Rattle.pm_object.proofs.Formed.{value_later, value_stays}
use Rattle.pm_object.proofs.Names.{names_held}
use Rattle.pm_object.specs.Formed.{is_placed}
use Rattle.pm_object.specs.State.{HeldValue, State, cols_of, has_rounds, is_disabled, is_held, names_to_settle, only_if, read_at, settled, settled_value, settling, value_of}
use Rattle.pm_props.proofs.Places.{same_property_is, same_property_refl}
use Rattle.pm_props.specs.Places.{place_of, same_place, same_property}
use Rattle.pm_props.specs.Properties.{every_property, has_program}
use Rattle.pm_props.specs.Sets.{has}
use Rattle.pm_props.specs.declared.kind.RuleId.{RuleId}
use Rattle.pm_props.specs.declared.property.PropId.{PropId}
use Rattle.pm_props.specs.declared.property.PropId.TheVariants.{AffineHull, ConeAmbientDim, Equations, Facets, Inequalities, InputLineality, LinealitySpace, Points, Vertices}
use Rattle.pm_rounds.specs.Chains.{held_names, is_barred_on, is_excluded, is_truth, is_wrong}
use Rattle.pm_rules.specs.declared.rule.Rule.{Rule}
use Rattle.pm_types.specs.Values.{PropertyValue}
use Rattle.pm_laws_complete.specs.Completeness.{descriptions, is_tagged}
use Rattle.pm_laws_complete.specs.Given.{FormedAreOwn, IsDescribedBy, SettledHoldsAlone, are_own}

-- ---- what is held of the object itself is read, whoever asks
own_read : (sub : Option ℕ) (p : PropId) → has_program p ≡ false → (held : List HeldValue) → are_own held ≡ true → is_held p held ≡ is_held p (read_at sub held)
own_read sub p own [] h = refl
own_read sub p own (x ∷ held) h = by (same_property p x.property) refl (same_place x.place (place_of sub x.property)) refl (own_read sub p own held parts.1)
  where
    parts : ((has_program x.property || same_place x.place None) ≡ true) × (are_own held ≡ true)
    parts = and_parts (has_program x.property || same_place x.place None) (are_own held) h

    second : (a b : Bool) → (a || b) ≡ true → a ≡ false → b ≡ true
    second true b e f = absurd (true≢false f)
    second false b e f = e

    stands : same_property p x.property ≡ true → same_place x.place (place_of sub x.property) ≡ true
    stands s =
        let k : has_program x.property ≡ false = subst (λ q. has_program q ≡ false) (same_property_is p x.property s) own in
        ap (λ b. same_place x.place (if b then sub else None)) k ∙ second (has_program x.property) (same_place x.place None) parts.0 k

    by : (s : Bool) → same_property p x.property ≡ s → (k : Bool) → same_place x.place (place_of sub x.property) ≡ k → is_held p held ≡ is_held p (read_at sub held)
        → is_some (if s then Some x.value else value_of p held) ≡ is_held p (if k then x ∷ read_at sub held else read_at sub held)
    by true s true q r = sym (ap (λ t. is_some (if t then Some x.value else value_of p (read_at sub held))) s)
    by true s false q r = absurd (true≢false (sym (stands s) ∙ q))
    by false s true q r = r ∙ sym (ap (λ t. is_some (if t then Some x.value else value_of p (read_at sub held))) s)
    by false s false q r = r

-- what is read is held
read_held : (sub : Option ℕ) (p : PropId) (held : List HeldValue) → is_held p (read_at sub held) ≡ true → is_held p held ≡ true
read_held sub p [] h = h
read_held sub p (x ∷ held) h = by (same_property p x.property) refl (same_place x.place (place_of sub x.property)) (read_held sub p held) h
  where
    by : (s : Bool) → same_property p x.property ≡ s → (k : Bool) → (is_held p (read_at sub held) ≡ true → is_held p held ≡ true)
        → is_held p (if k then x ∷ read_at sub held else read_at sub held) ≡ true → is_some (if s then Some x.value else value_of p held) ≡ true
    by true s k r e = refl
    by false s true r e = r (sym (ap (λ t. is_some (if t then Some x.value else value_of p (read_at sub held))) s) ∙ e)
    by false s false r e = r e

held_append : (p : PropId) (xs ys : List HeldValue) → is_held p (xs ++ ys) ≡ (is_held p xs || is_held p ys)
held_append p xs ys = by (value_of p xs) refl
  where
    by : (v : Option PropertyValue) → value_of p xs ≡ v → is_held p (xs ++ ys) ≡ (is_some v || is_held p ys)
    by None e = ap is_some (value_later p xs ys e)
    by (Some v) e = ap is_some (value_stays p xs ys v e)

-- ---- every object is so
own_placed : (k : ℕ) (p : PropId) (place : Option ℕ) → is_placed k p place ≡ true → (has_program p || same_place place None) ≡ true
own_placed k p None h = or_right (has_program p) true refl
own_placed k p (Some s) h = or_left (has_program p) false (and_parts (has_program p) _ h).0

pub formed_are_own : FormedAreOwn
formed_are_own o f =
    list_all-from_AllPass (λ (h : HeldValue). has_program h.property || same_place h.place None) o.held
    (All_among (λ (h : HeldValue). (has_program h.property || same_place h.place None) ≡ true) o.held (λ h i. own_placed _ h.property h.place (f.each h (Contains_among i)).placed))

-- ---- values that settling adds
settled_own : (n : ℕ) (names : List PropId) → are_own (map (settled n) names) ≡ true
settled_own n [] = refl
settled_own n (q ∷ names) = and_from (has_program q || true) (are_own (map (settled n) names)) (or_right (has_program q) true refl) (settled_own n names)

settled_among : (n : ℕ) {q : PropId} (names : List PropId) → Among q names → is_held q (map (settled n) names) ≡ true
settled_among n [] i = elim i [ ]
settled_among n (x ∷ names) here = ap (λ t. is_some (if t then Some (settled_value n x) else value_of x (map (settled n) names))) (same_property_refl x)
settled_among n {q} (x ∷ names) (there i) = by (same_property q x) (settled_among n names i)
  where
    by : (t : Bool) → is_held q (map (settled n) names) ≡ true → is_some (if t then Some (settled_value n x) else value_of q (map (settled n) names)) ≡ true
    by true e = refl
    by false e = e

among_settled : (n : ℕ) (p : PropId) (names : List PropId) → is_held p (map (settled n) names) ≡ true → Among p names
among_settled n p [] h = absurd (true≢false (sym h))
among_settled n p (x ∷ names) h = by (same_property p x) refl (among_settled n p names) h
  where
    by : (t : Bool) → same_property p x ≡ t → (is_held p (map (settled n) names) ≡ true → Among p names)
        → is_some (if t then Some (settled_value n x) else value_of p (map (settled n) names)) ≡ true → Among p (x ∷ names)
    by true e rest k = subst (λ q. Among q (x ∷ names)) (sym (same_property_is p x e)) here
    by false e rest k = there (rest k)

-- the column count and the second half, where they are not held
abbrev two_names : Bool → Bool → PropId → List PropId
two_names c s q = only_if (not c) ConeAmbientDim ++ only_if (not s) q

among_if : (b : Bool) {p q : PropId} → Among p (only_if b q) → p ≡ q
among_if true here = refl
among_if true (there i) = elim i [ ]
among_if false i = elim i [ ]

among_two : (c s : Bool) (p q : PropId) → Among p (two_names c s q) → (p ≡ ConeAmbientDim) ⊎ (p ≡ q)
among_two c s p q i = elim (among_append (only_if (not c) ConeAmbientDim) (only_if (not s) q) i) [ inl j ↦ inl (among_if (not c) j) | inr j ↦ inr (among_if (not s) j) ]

-- ---- what is settled, by which of nine properties are held
abbrev names_by : Bool → Bool → Bool → Bool → Bool → Bool → Bool → Bool → Bool → List PropId
names_by columns points lines inequalities equations vertices space facets hull =
    only_if (not columns) ConeAmbientDim
    ++ only_if (points && not lines) InputLineality
    ++ only_if (inequalities && not equations) Equations
    ++ only_if (vertices && not points && not inequalities
    && not (facets && hull)
    && not space) LinealitySpace
    ++ only_if (facets && not points && not inequalities
    && not vertices && not hull) AffineHull

same_names : (c p pl i e v ls f ah p' i' v' f' : Bool) → p ≡ p' → i ≡ i' → v ≡ v' → f ≡ f' → names_by c p pl i e v ls f ah ≡ names_by c p' pl i' e v' ls f' ah
same_names c p pl i e v ls f ah p' i' v' f' a b d g = rw (a, b, d, g) refl

by_points : (c pl e ls ah : Bool) → names_by c true pl false e false ls false ah ≡ two_names c pl InputLineality
by_points true true e ls ah = refl
by_points true false e ls ah = refl
by_points false true e ls ah = refl
by_points false false e ls ah = refl

by_inequalities : (c pl e ls ah : Bool) → names_by c false pl true e false ls false ah ≡ two_names c e Equations
by_inequalities true pl true ls ah = refl
by_inequalities true pl false ls ah = refl
by_inequalities false pl true ls ah = refl
by_inequalities false pl false ls ah = refl

by_vertices : (c pl e ls ah : Bool) → names_by c false pl false e true ls false ah ≡ two_names c ls LinealitySpace
by_vertices true pl e true ah = refl
by_vertices true pl e false ah = refl
by_vertices false pl e true ah = refl
by_vertices false pl e false ah = refl

by_facets : (c pl e ls ah : Bool) → names_by c false pl false e false ls true ah ≡ two_names c ah AffineHull
by_facets true pl e ls true = refl
by_facets true pl e ls false = refl
by_facets false pl e ls true = refl
by_facets false pl e ls false = refl

differ : (p q : PropId) → same_property p q ≡ false → p ≡ q → ⊥
differ p q f e = true≢false (sym (same_property_refl p) ∙ subst (λ r. same_property p r ≡ false) (sym e) f)

-- ---- an object that is given so
module _ (sub : Option ℕ) (o : State) (own : are_own o.held ≡ true) where
  abbrev held : PropId → Bool
  held p = is_held p o.held

  named : (p : PropId) → has_program p ≡ false → has (held_names sub o) p ≡ held p
  named p k = names_held (read_at sub o.held) p ∙ sym (own_read sub p k o.held own)

  module _ (d : PropId × PropId) (described : IsDescribedBy d (held_names sub o)) where
    present : has_program d.0 ≡ false → held d.0 ≡ true
    present k = sym (named d.0 k) ∙ described.first

    absent : (p : PropId) → has_program p ≡ false → is_tagged p ≡ true → same_property p d.0 ≡ false → same_property p d.1 ≡ false → held p ≡ false
    absent p k tag a b = false_from_ne_true (held p) (λ h. elim (described.no_other p (named p k ∙ h) tag) [ inl e ↦ differ p d.0 a e | inr e ↦ differ p d.1 b e ])

  -- so it is of a description
  abbrev SettlesTwo : PropId × PropId → Type 0
  SettlesTwo d = IsDescribedBy d (held_names sub o) → names_to_settle o.held ≡ two_names (held ConeAmbientDim) (held d.1) d.1

  points_settle : SettlesTwo (Points, InputLineality)
  points_settle given =
      same_names (held ConeAmbientDim) (held Points) (held InputLineality) (held Inequalities) (held Equations) (held Vertices) (held LinealitySpace) (held Facets) (held AffineHull) true false false false
      (present (Points, InputLineality) given refl)
      (absent (Points, InputLineality) given Inequalities refl refl refl refl)
      (absent (Points, InputLineality) given Vertices refl refl refl refl)
      (absent (Points, InputLineality) given Facets refl refl refl refl)
      ∙ by_points (held ConeAmbientDim) (held InputLineality) (held Equations) (held LinealitySpace) (held AffineHull)

  inequalities_settle : SettlesTwo (Inequalities, Equations)
  inequalities_settle given =
      same_names (held ConeAmbientDim) (held Points) (held InputLineality) (held Inequalities) (held Equations) (held Vertices) (held LinealitySpace) (held Facets) (held AffineHull) false true false false
      (absent (Inequalities, Equations) given Points refl refl refl refl)
      (present (Inequalities, Equations) given refl)
      (absent (Inequalities, Equations) given Vertices refl refl refl refl)
      (absent (Inequalities, Equations) given Facets refl refl refl refl)
      ∙ by_inequalities (held ConeAmbientDim) (held InputLineality) (held Equations) (held LinealitySpace) (held AffineHull)

  vertices_settle : SettlesTwo (Vertices, LinealitySpace)
  vertices_settle given =
      same_names (held ConeAmbientDim) (held Points) (held InputLineality) (held Inequalities) (held Equations) (held Vertices) (held LinealitySpace) (held Facets) (held AffineHull) false false true false
      (absent (Vertices, LinealitySpace) given Points refl refl refl refl)
      (absent (Vertices, LinealitySpace) given Inequalities refl refl refl refl)
      (present (Vertices, LinealitySpace) given refl)
      (absent (Vertices, LinealitySpace) given Facets refl refl refl refl)
      ∙ by_vertices (held ConeAmbientDim) (held InputLineality) (held Equations) (held LinealitySpace) (held AffineHull)

  facets_settle : SettlesTwo (Facets, AffineHull)
  facets_settle given =
      same_names (held ConeAmbientDim) (held Points) (held InputLineality) (held Inequalities) (held Equations) (held Vertices) (held LinealitySpace) (held Facets) (held AffineHull) false false false true
      (absent (Facets, AffineHull) given Points refl refl refl refl)
      (absent (Facets, AffineHull) given Inequalities refl refl refl refl)
      (absent (Facets, AffineHull) given Vertices refl refl refl refl)
      (present (Facets, AffineHull) given refl)
      ∙ by_facets (held ConeAmbientDim) (held InputLineality) (held Equations) (held LinealitySpace) (held AffineHull)

  two_settle : (d : PropId × PropId) → Contains descriptions d → SettlesTwo d
  two_settle d listed = all_at SettlesTwo (among_Contains descriptions listed) (points_settle, (inequalities_settle, (vertices_settle, (facets_settle, tt))))

-- no half of a description is of linear programs
abbrev IsOwnPair : PropId × PropId → Type 0
IsOwnPair d = has_program d.1 ≡ false

own_pair : (d : PropId × PropId) → Contains descriptions d → IsOwnPair d
own_pair d listed = all_at IsOwnPair (among_Contains descriptions listed) (refl, (refl, (refl, (refl, tt))))

-- ---- what is read once it is settled
module _ (sub : Option ℕ) (o : State) where
  settled_read : (p : PropId) → has (held_names sub (settled_object o)) p ≡ (has (held_names sub o) p || is_held p (read_at sub (settling o)))
  settled_read p =
      names_held (read_at sub (o.held ++ settling o)) p
      ∙ ap (is_held p) (filter-append (λ (h : HeldValue). same_place h.place (place_of sub h.property)) o.held (settling o))
      ∙ held_append p (read_at sub o.held) (read_at sub (settling o))
      ∙ ap (λ t. t || is_held p (read_at sub (settling o))) (sym (names_held (read_at sub o.held) p))

  pub settled_has : (p : PropId) → has (held_names sub o) p ≡ true → has (held_names sub (settled_object o)) p ≡ true
  settled_has p h = settled_read p ∙ or_left (has (held_names sub o) p) (is_held p (read_at sub (settling o))) h

  settling_is : (names : List PropId) → has_rounds o ≡ false → names_to_settle o.held ≡ names → settling o ≡ map (settled (unwrap_or (cols_of o.held) 1)) names
  settling_is names fresh is = ap (λ t. map (settled (unwrap_or (cols_of o.held) 1)) (if t then [] else names_to_settle o.held)) fresh ∙ ap (map (settled (unwrap_or (cols_of o.held) 1))) is

  -- what is of the object itself is held then, where it was, or is among the names that are settled
  module _ (own : are_own o.held ≡ true) (names : List PropId) (is : settling o ≡ map (settled (unwrap_or (cols_of o.held) 1)) names) where
    now_has : (p : PropId) → has_program p ≡ false → (is_held p o.held ≡ false → Among p names) → has (held_names sub (settled_object o)) p ≡ true
    now_has p k among = by (is_held p o.held) refl
      where
        by : (t : Bool) → is_held p o.held ≡ t → has (held_names sub (settled_object o)) p ≡ true
        by true e = settled_has p (named sub o own p k ∙ e)
        by false e =
            settled_read p ∙ or_right (has (held_names sub o) p) (is_held p (read_at sub (settling o)))
            (ap (λ z. is_held p (read_at sub z)) is ∙ sym (own_read sub p k (map (settled _) names) (settled_own _ names)) ∙ settled_among _ names (among e))

    now_from : (p : PropId) → has (held_names sub (settled_object o)) p ≡ true → (has (held_names sub o) p ≡ true) ⊎ Among p names
    now_from p h = elim (or_cases (has (held_names sub o) p) (is_held p (read_at sub (settling o))) (sym (settled_read p) ∙ h)) [
      | inl k ↦ inl k
      | inr k ↦ inr (among_settled _ p names (sym (ap (is_held p) is) ∙ read_held sub p (settling o) k))
    ]

two_first : (c s : Bool) (q : PropId) → c ≡ false → Among ConeAmbientDim (two_names c s q)
two_first true s q e = absurd (true≢false e)
two_first false s q e = here

two_second : (c s : Bool) (q : PropId) → s ≡ false → Among q (two_names c s q)
two_second c true q e = absurd (true≢false e)
two_second c false q e = among_append_right (only_if (not c) ConeAmbientDim) here

pub settled_holds_alone : SettledHoldsAlone
settled_holds_alone sub o d listed fresh own given = record {
  first = settled_has sub o d.0 given.first;
  second = now_has sub o own names is d.1 (own_pair d listed) (two_second columns second d.1);
  columns = now_has sub o own names is ConeAmbientDim refl (two_first columns second d.1);
  no_other = λ p h tag. elim (now_from sub o own names is p h) [
    | inl k ↦ given.no_other p k tag
    | inr i ↦ elim (among_two columns second p d.1 i) [
      | inl e ↦ absurd (true≢false (sym tag ∙ ap is_tagged e))
      | inr e ↦ inr e
    ]
  ];
}
  where
    columns : Bool
    columns = is_held ConeAmbientDim o.held

    second : Bool
    second = is_held d.1 o.held

    names : List PropId
    names = two_names columns second d.1

    is : settling o ≡ map (settled (unwrap_or (cols_of o.held) 1)) names
    is = settling_is sub o names fresh (two_settle sub o own d listed given)

-- ---- no rule is barred by it
no_truth : (b : Bool) (n : ℕ) (q : PropId) → is_truth b (Some (settled_value n q)) ≡ false
no_truth b n ConeAmbientDim = refl
no_truth b n q = refl

none_true : (b : Bool) (sub : Option ℕ) (p : PropId) (n : ℕ) (names : List PropId) → is_truth b (value_of p (read_at sub (map (settled n) names))) ≡ false
none_true b sub p n [] = refl
none_true b sub p n (q ∷ names) = by (same_place None (place_of sub q)) (none_true b sub p n names)
  where
    rest : List HeldValue
    rest = read_at sub (map (settled n) names)

    by : (k : Bool) → is_truth b (value_of p rest) ≡ false → is_truth b (value_of p (if k then settled n q ∷ rest else rest)) ≡ false
    by true r = first (same_property p q)
      where
        first : (s : Bool) → is_truth b (if s then Some (settled_value n q) else value_of p rest) ≡ false
        first true = no_truth b n q
        first false = r
    by false r = r

truth_stays : (b : Bool) (p : PropId) (xs ys : List HeldValue) → is_truth b (value_of p ys) ≡ false → is_truth b (value_of p (xs ++ ys)) ≡ is_truth b (value_of p xs)
truth_stays b p xs ys none = by (value_of p xs) refl
  where
    by : (v : Option PropertyValue) → value_of p xs ≡ v → is_truth b (value_of p (xs ++ ys)) ≡ is_truth b v
    by None e = ap (is_truth b) (value_later p xs ys e) ∙ none
    by (Some v) e = ap (is_truth b) (value_stays p xs ys v e)

any_same : (f g : PropId → Bool) (ps : List PropId) → ((p : PropId) → f p ≡ g p) → list_any f ps ≡ list_any g ps
any_same f g [] same = refl
any_same f g (p ∷ ps) same = ap (λ t. t || list_any f ps) (same p) ∙ ap (λ t. g p || t) (any_same f g ps same)

module _ (sub : Option ℕ) (o : State) (rule : Rule) where
  wrong_stays : (p : PropId) → is_wrong rule (read_at sub (o.held ++ settling o)) p ≡ is_wrong rule (read_at sub o.held) p
  wrong_stays p =
      ap (λ r. is_wrong rule r p) (filter-append (λ (h : HeldValue). same_place h.place (place_of sub h.property)) o.held (settling o))
      ∙ ap (λ t. has rule.must p && t || has rule.must_not p && is_truth true (value_of p (xs ++ ys))) (truth_stays false p xs ys (none_true false sub p _ _))
      ∙ ap (λ t. has rule.must p && is_truth false (value_of p xs) || has rule.must_not p && t) (truth_stays true p xs ys (none_true true sub p _ _))
    where
      xs : List HeldValue
      xs = read_at sub o.held

      ys : List HeldValue
      ys = read_at sub (settling o)

  pub barred_stays : (clients : Clients) (id : RuleId) → is_barred_on clients (settled_object o) sub id rule ≡ is_barred_on clients o sub id rule
  barred_stays clients id =
      ap (λ t. is_excluded o sub id rule || t || is_disabled rule.label o.disabled || not (has_client rule.kind clients))
      (any_same (is_wrong rule (read_at sub (o.held ++ settling o))) (is_wrong rule (read_at sub o.held)) every_property wrong_stays)
