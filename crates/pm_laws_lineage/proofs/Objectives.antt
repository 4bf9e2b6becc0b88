-- An objective that is given to a linear program leaves an object what it was made of.
use Rattle.pm_geom.specs.Things.{Orders}
use Rattle.pm_laws_lineage.proofs.Facts.{based_append, objectives_append, right_of_fewer}
use Rattle.pm_laws_lineage.proofs.Names.{among_first}
use Rattle.pm_laws_lineage.proofs.Sound.{Sound}
use Rattle.pm_laws_lineage.proofs.Twice.{held_append}
use Rattle.pm_laws_lineage.specs.Provenances.{Provenance, made, objectives, of_its_values}
use Rattle.pm_laws_lineage.specs.Lineages.{Denotes, IsObjectiveOf, with_objectives}
use Rattle.pm_object.proofs.Formed.{first_later, first_stays, only}
use Rattle.pm_object.proofs.Honesty.{facts_append}
use Rattle.pm_object.specs.Honest.{based, facts}
use Rattle.pm_object.specs.State.{HeldValue, State, ambient_in, cols_of, first_cols, given_at, has_rounds, is_held, names_to_settle, only_if, or_else, settled, settling, value_of, with_held}
use Rattle.pm_props.specs.Places.{same_property}
use Rattle.pm_props.specs.declared.property.PropId.{PropId}
use Rattle.pm_props.specs.declared.property.PropId.TheVariants.{AffineHull, ConeAmbientDim, Equations, Facets, Inequalities, InputLineality, LinearObjective, LinealitySpace, Points, Vertices}
use Rattle.pm_types.specs.Forms.{stated_cols}
use Rattle.pm_types.specs.Right.{RightAll, RightFact, RightPair, RightTogether}
use Rattle.pm_types.specs.Things.{Thing}
use Rattle.pm_types.specs.Values.{Fact, PropertyValue, matrix}
use Rattle.pm_vector.proofs.Filters.{among_map}
use Rattle.pm_vector.proofs.Lists.{All_among, Among, Contains_among, among_All, among_Contains, among_append, among_append_left, among_append_right, here, there}
use Rattle.std.proofs.Common.{ap, false, inl, inr, refl, subst, sym, true, true≢false, ◌∙◌}
use Rattle.std.specs.List.{All}
use Rattle.std.specs.Option.{is_some, unwrap_or}
use Rattle.std.specs.Prelude.{Bool, List, None, Option, Some, [], if◌then◌else◌, map, nat_eq, not, ℕ, ◌++◌, ◌||◌, ◌∷◌, ◌≡◌}
use lib.IntN.{pos}
use Rattle.std.proofs.Math.Bool.{or-false}

-- ---- it is no half of a pair, and right in all orders
no_first_half : (v : PropertyValue) (p : PropId) (w : PropertyValue) (t : Thing) → RightPair LinearObjective v p w t
no_first_half v p w t = tt

no_second_half : (p : PropId) (v : PropertyValue) (w : PropertyValue) (t : Thing) → RightPair p v LinearObjective w t
no_second_half Points (matrix n rows) w t = tt
no_second_half Inequalities (matrix n rows) w t = tt
no_second_half p v w t = tt

abbrev objective_fact : ℕ → PropertyValue → Fact
objective_fact s v = record { place = Some s; property = LinearObjective; value = v }

pub one_more : (xs : List Fact) (new : Fact) (t : Thing) (p : Orders) → ((g : Fact) → RightTogether t new g) → ((g : Fact) → RightTogether t g new) → RightAll xs t p → RightFact new t p → RightAll (new ∷ xs) t p
one_more xs new t p before after r right = record {
  thing = r.thing;
  orders = r.orders;
  each = λ f i. first f (among_Contains _ i);
  together = λ f g i j. both f g (among_Contains _ i) (among_Contains _ j);
}
  where
    first : (f : Fact) → Among f (new ∷ xs) → RightFact f t p
    first f here = right
    first f (there i) = r.each f (Contains_among i)

    both : (f g : Fact) → Among f (new ∷ xs) → Among g (new ∷ xs) → RightTogether t f g
    both f g here j = before g
    both f g (there i) here = after f
    both f g (there i) (there j) = r.together f g (Contains_among i) (Contains_among j)

-- ---- what goes without saying is the same
map_append : {A B : Type 0} (f : A → B) (xs ys : List A) → map f (xs ++ ys) ≡ map f xs ++ map f ys
map_append f [] ys = refl
map_append f (x ∷ xs) ys = ap (λ t. f x ∷ t) (map_append f xs ys)

still_held : (p : PropId) (s : ℕ) (v : PropertyValue) (held : List HeldValue) → same_property p LinearObjective ≡ false → is_held p (held ++ given_at (Some s) LinearObjective v ∷ []) ≡ is_held p held
still_held p s v held e =
    held_append p held (given_at (Some s) LinearObjective v ∷ []) ∙ ap (λ t. is_held p held || is_some (if t then Some v else None)) e ∙ or-false (is_held p held)

pub same_names : (s : ℕ) (v : PropertyValue) (held : List HeldValue) → names_to_settle (held ++ given_at (Some s) LinearObjective v ∷ []) ≡ names_to_settle held
same_names s v held =
    let c = still_held ConeAmbientDim s v held refl in
    let p = still_held Points s v held refl in
    let l = still_held InputLineality s v held refl in
    let i = still_held Inequalities s v held refl in
    let e = still_held Equations s v held refl in
    let w = still_held Vertices s v held refl in
    let f = still_held Facets s v held refl in
    let h = still_held AffineHull s v held refl in
    let k = still_held LinealitySpace s v held refl in
    rw (c, p, l, i, e, w, f, h, k) refl

-- only the dimension tells the columns
plain_same : (m n : ℕ) (b : Bool) (p : PropId) → settled m p ≡ settled n p → map (settled m) (only_if b p) ≡ map (settled n) (only_if b p)
plain_same m n true p e = ap (λ z. z ∷ []) e
plain_same m n false p e = refl

both_same : (m n : ℕ) (xs ys : List PropId) → map (settled m) xs ≡ map (settled n) xs → map (settled m) ys ≡ map (settled n) ys → map (settled m) (xs ++ ys) ≡ map (settled n) (xs ++ ys)
both_same m n xs ys e f = map_append (settled m) xs ys ∙ ap (λ z. z ++ map (settled m) ys) e ∙ ap (λ z. map (settled n) xs ++ z) f ∙ sym (map_append (settled n) xs ys)

names_same : (m n : ℕ) (a b c d e : Bool) → a ≡ false
    → map (settled m) (only_if a ConeAmbientDim ++ only_if b InputLineality ++ only_if c Equations ++ only_if d LinealitySpace ++ only_if e AffineHull)
    ≡ map (settled n) (only_if a ConeAmbientDim ++ only_if b InputLineality ++ only_if c Equations ++ only_if d LinealitySpace ++ only_if e AffineHull)
names_same m n true b c d e h = absurd (true≢false h)
names_same m n false b c d e h =
    both_same m n (only_if false ConeAmbientDim ++ only_if b InputLineality ++ only_if c Equations ++ only_if d LinealitySpace) (only_if e AffineHull)
    (both_same m n (only_if false ConeAmbientDim ++ only_if b InputLineality ++ only_if c Equations) (only_if d LinealitySpace)
    (both_same m n (only_if false ConeAmbientDim ++ only_if b InputLineality) (only_if c Equations) (plain_same m n b InputLineality refl) (plain_same m n c Equations refl))
    (plain_same m n d LinealitySpace refl))
    (plain_same m n e AffineHull refl)

-- ---- the columns
value_same : (p : PropId) (s : ℕ) (v : PropertyValue) (held : List HeldValue) → same_property p LinearObjective ≡ false → value_of p (held ++ given_at (Some s) LinearObjective v ∷ []) ≡ value_of p held
value_same p s v [] e = ap (λ t. if t then Some v else None) e
value_same p s v (h ∷ held) e = ap (λ z. if same_property p h.property then Some h.value else z) (value_same p s v held e)

new_columns : (s n m : ℕ) (rows : List (List _)) (v : PropertyValue) (held : List HeldValue) → v ≡ matrix m rows → n ≡ unwrap_or (cols_of held) 1 → n ≡ m → unwrap_or (cols_of (held ++ given_at (Some s) LinearObjective v ∷ [])) 1 ≡ n
new_columns s n m rows v held is e same =
    ap (λ z. unwrap_or (or_else (ambient_in z) (first_cols (held ++ given_at (Some s) LinearObjective v ∷ []))) 1) (value_same ConeAmbientDim s v held refl)
    ∙ by (ambient_in (value_of ConeAmbientDim held)) e
  where
    states : stated_cols LinearObjective v ≡ m
    states = ap (λ z. stated_cols LinearObjective z) is

    at : (t : Bool) → nat_eq m 0 ≡ t → n ≡ 1 → unwrap_or (if t then None else Some m) 1 ≡ n
    at true z one = sym one
    at false z one = sym same

    first : (x : Option ℕ) → first_cols held ≡ x → n ≡ unwrap_or x 1 → unwrap_or (first_cols (held ++ given_at (Some s) LinearObjective v ∷ [])) 1 ≡ n
    first (Some k) f g = ap (λ z. unwrap_or z 1) (first_stays held (given_at (Some s) LinearObjective v ∷ []) k f) ∙ sym g
    first None f g =
        ap (λ z. unwrap_or z 1) (first_later held (given_at (Some s) LinearObjective v ∷ []) f)
        ∙ ap (λ z. unwrap_or (if nat_eq z 0 then None else Some z) 1) states ∙ at (nat_eq m 0) refl g

    by : (x : Option ℕ) → n ≡ unwrap_or (or_else x (first_cols held)) 1 → unwrap_or (or_else x (first_cols (held ++ given_at (Some s) LinearObjective v ∷ []))) 1 ≡ n
    by (Some k) g = sym g
    by None g = first (first_cols held) refl g

-- ---- an objective more
pub same_number : (m n : ℕ) → pos m ≡ pos n → m ≡ n
same_number m n e = cc

settling_same : (o : State) (s : ℕ) (v : PropertyValue) (u : Thing) (p : Orders) (rows : List (List _)) → v ≡ matrix u.cols rows → RightAll (facts (based o.held ++ settling o)) u p
    → settling (with_held o (given_at (Some s) LinearObjective v ∷ [])) ≡ settling o
settling_same o s v u p rows is r = by (has_rounds o) refl
  where
    n : ℕ
    n = unwrap_or (cols_of o.held) 1

    m : ℕ
    m = unwrap_or (cols_of (o.held ++ given_at (Some s) LinearObjective v ∷ [])) 1

    columns : has_rounds o ≡ false → is_held ConeAmbientDim o.held ≡ false → m ≡ n
    columns e h = new_columns s n u.cols rows v o.held is refl (same_number n u.cols right)
      where
        i : Among (settled n ConeAmbientDim) (settling o)
        i = among_map (settled n) (subst (λ t. Among ConeAmbientDim (if t then [] else names_to_settle o.held)) (sym e) (among_first _ _ _ _ _ (ap not h)))

        right : pos n ≡ pos u.cols
        right = r.each (record { place = None; property = ConeAmbientDim; value = (settled n ConeAmbientDim).value }) (Contains_among (among_map (λ (g : HeldValue). record { place = g.place; property = g.property; value = g.value }) (among_append_right (based o.held) i)))

    names : (t : Bool) → is_held ConeAmbientDim o.held ≡ t → has_rounds o ≡ false → map (settled m) (names_to_settle o.held) ≡ map (settled n) (names_to_settle o.held)
    names true h e = names_same m n _ _ _ _ _ (ap not h)
    names false h e = ap (λ z. map (settled z) (names_to_settle o.held)) (columns e h)

    by : (t : Bool) → has_rounds o ≡ t → map (settled m) (if has_rounds o then [] else names_to_settle (o.held ++ given_at (Some s) LinearObjective v ∷ [])) ≡ map (settled n) (if has_rounds o then [] else names_to_settle o.held)
    by true e = ap (λ t. map (settled m) (if t then [] else names_to_settle (o.held ++ given_at (Some s) LinearObjective v ∷ []))) e ∙ sym (ap (λ t. map (settled n) (if t then [] else names_to_settle o.held)) e)
    by false e =
        ap (λ t. map (settled m) (if t then [] else names_to_settle (o.held ++ given_at (Some s) LinearObjective v ∷ []))) e
        ∙ ap (map (settled m)) (same_names s v o.held) ∙ names (is_held ConeAmbientDim o.held) refl e
        ∙ sym (ap (λ t. map (settled n) (if t then [] else names_to_settle o.held)) e)

pub sound_objective : (provenance : Provenance) (o : State) (s : ℕ) (v : PropertyValue) → Sound provenance o → Sound provenance (with_held o (given_at (Some s) LinearObjective v ∷ []))
sound_objective of_its_values o s v sound = tt
sound_objective (made l) o s v sound = λ u d. right u d
  where
    new : HeldValue
    new = given_at (Some s) LinearObjective v

    later : State
    later = with_held o (given_at (Some s) LinearObjective v ∷ [])

    based_more : based (o.held ++ given_at (Some s) LinearObjective v ∷ []) ≡ based o.held ++ given_at (Some s) LinearObjective v ∷ []
    based_more = based_append o.held (given_at (Some s) LinearObjective v ∷ [])

    objectives_more : objectives (based (o.held ++ given_at (Some s) LinearObjective v ∷ [])) ≡ objectives (based o.held) ++ given_at (Some s) LinearObjective v ∷ []
    objectives_more = ap objectives based_more ∙ objectives_append (based o.held) (given_at (Some s) LinearObjective v ∷ [])

    right : (u : Thing) → Denotes (with_objectives l (objectives (based (o.held ++ given_at (Some s) LinearObjective v ∷ [])))) u
        → (u.of ≡ o.of) × (p : Orders) × RightAll (facts (based (o.held ++ given_at (Some s) LinearObjective v ∷ []) ++ settling later)) u p
    right u d =
        let all : Denotes l u × All (IsObjectiveOf u) (objectives (based o.held) ++ given_at (Some s) LinearObjective v ∷ []) = subst (λ z. Denotes l u × All (IsObjectiveOf u) z) objectives_more d in
        let old : All (IsObjectiveOf u) (objectives (based o.held)) =
        All_among (IsObjectiveOf u) (objectives (based o.held)) (λ h i. among_All (IsObjectiveOf u) (among_append_left (given_at (Some s) LinearObjective v ∷ []) i) all.1) in
        let is : IsObjectiveOf u (given_at (Some s) LinearObjective v) = among_All (IsObjectiveOf u) (among_append_right (objectives (based o.held)) here) all.1 in
        let (of, p, r) = sound u (all.0, old) in
        (of, p, more u p is r)
      where
        program : (u : Thing) (is : IsObjectiveOf u (given_at (Some s) LinearObjective v)) → is.program ≡ s
        program u is = let e = is.place in cc

        fact : (u : Thing) (p : Orders) → IsObjectiveOf u (given_at (Some s) LinearObjective v) → RightFact (objective_fact s v) u p
        fact u p is = subst (λ z. RightFact (objective_fact s z) u p) (sym (is.value ∙ ap (λ z. matrix u.cols (u.objective z ∷ [])) (program u is))) refl

        within : (f : Fact) → Among f (facts ((based o.held ++ given_at (Some s) LinearObjective v ∷ []) ++ settling o)) → Among f (objective_fact s v ∷ facts (based o.held ++ settling o))
        within f i = elim (among_append (facts (based o.held ++ given_at (Some s) LinearObjective v ∷ [])) (facts (settling o)) (subst (λ z. Among f z) (facts_append (based o.held ++ given_at (Some s) LinearObjective v ∷ []) (settling o)) i)) [
          | inl j ↦ elim (among_append (facts (based o.held)) (objective_fact s v ∷ []) (subst (λ z. Among f z) (facts_append (based o.held) (given_at (Some s) LinearObjective v ∷ [])) j)) [
            | inl k ↦ there (subst (λ z. Among f z) (sym (facts_append (based o.held) (settling o))) (among_append_left (facts (settling o)) k))
            | inr k ↦ subst (λ z. Among z (objective_fact s v ∷ facts (based o.held ++ settling o))) (sym (only k)) here
          ]
          | inr j ↦ there (subst (λ z. Among f z) (sym (facts_append (based o.held) (settling o))) (among_append_right (facts (based o.held)) j))
        ]

        more : (u : Thing) (p : Orders) → IsObjectiveOf u (given_at (Some s) LinearObjective v) → RightAll (facts (based o.held ++ settling o)) u p
            → RightAll (facts (based (o.held ++ given_at (Some s) LinearObjective v ∷ []) ++ settling later)) u p
        more u p is r =
            let same = settling_same o s v u p (u.objective is.program ∷ []) is.value r in
            subst (λ z. RightAll (facts (z ++ settling later)) u p) (sym based_more)
            (subst (λ z. RightAll (facts ((based o.held ++ given_at (Some s) LinearObjective v ∷ []) ++ z)) u p) (sym same)
            (right_of_fewer (objective_fact s v ∷ facts (based o.held ++ settling o)) _ u p within (one_more (facts (based o.held ++ settling o)) (objective_fact s v) u p (λ g. no_first_half v g.property g.value u) (λ g. no_second_half g.property g.value v u) r (fact u p is))))
