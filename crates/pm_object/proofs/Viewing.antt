-- What stands in a view.
use Rattle.pm_vector.proofs.Filters.{among_map, filter_among, map_among}
use Rattle.pm_vector.proofs.Lists.{Among, Contains_among, among_Contains}
use Rattle.pm_object.proofs.Formed.{value_among}
use Rattle.pm_object.proofs.Settling.{cols_range}
use Rattle.pm_object.specs.Formed.{IsFormed, is_placed}
use Rattle.pm_object.specs.Honest.{facts}
use Rattle.pm_object.specs.Reading.{IsView, IsViewed, fact_of, view_for}
use Rattle.pm_object.specs.State.{HeldValue, State, agrees, cols_of, is_polytope, read_at, value_of}
use Rattle.pm_types.proofs.Kept.{among_shown, named_from, shown_among}
use Rattle.pm_props.proofs.Places.{same_place_is, same_property_is}
use Rattle.pm_types.specs.Forms.{FormsIn, is_dimension}
use Rattle.pm_types.specs.Runs.{is_named, shown}
use Rattle.pm_props.specs.Places.{place_of, same_place, same_property}
use Rattle.pm_props.specs.Properties.{has_program}
use Rattle.pm_props.specs.Sets.{has}
use Rattle.pm_types.specs.Values.{Fact, PropertyValue}
use Rattle.pm_props.specs.declared.kind.Kind.{Kind}
use Rattle.pm_object_type.specs.declared.object_type.ObjectType.TheVariants.{Polytope}
use Rattle.pm_object_type.specs.declared.object_type.ObjectType.{ObjectType}
use Rattle.pm_props.specs.declared.property.PropId.{PropId}
use Rattle.std.proofs.Common.{ap, arith, false, refl, subst, sym, true, true≢false, ◌∙◌}
use Rattle.std.proofs.lemmas.Bool.{and_parts}
use Rattle.std.specs.Option.{is_some, option_map}
use Rattle.std.specs.Prelude.{Bool, IfSome, IsTrue, List, None, Option, Some, [], if◌then◌else◌, length, nat_le, nat_lt, not, ℕ, ◌&&◌, ◌≡◌, ◌∷◌}
use lib.IntN.{pos}
use Rattle.pm_limits.specs.Limits.{most_columns}

-- what is read at a place stands there, and is held
pub among_read : (sub : Option ℕ) (held : List HeldValue) {h : HeldValue} → Among h (read_at sub held) → Among h held × (h.place ≡ place_of sub h.property)
among_read sub held {h} i =
    let (j, k) = filter_among (λ g. same_place g.place (place_of sub g.property)) held i in
    (j, same_place_is h.place (place_of sub h.property) k)

abbrev pub only_source : Bool → Option PropertyValue → Option PropertyValue
only_source b v = if b then v else None

-- the first fact of a property in a view is the value that is read there
pub shown_value : (sub : Option ℕ) (kind : Kind) (p : PropId) (held : List HeldValue) → fact_of p (shown kind sub (facts held)) ≡ only_source (has kind.sources p) (value_of p (read_at sub held))
shown_value sub kind p [] = by (has kind.sources p)
  where
    by : (t : Bool) → None ≡ only_source t None
    by true = refl
    by false = refl
shown_value sub kind p (h ∷ held) =
    by (has kind.sources h.property) refl (same_place h.place (place_of sub h.property)) (same_property p h.property) refl (shown_value sub kind p held)
  where
    first : Fact
    first = record { place = h.place; property = h.property; value = h.value }

    rest : List Fact
    rest = shown kind sub (facts held)

    read : List HeldValue
    read = read_at sub held

    by : (b : Bool) → has kind.sources h.property ≡ b → (k : Bool) → (s : Bool) → same_property p h.property ≡ s → fact_of p rest ≡ only_source (has kind.sources p) (value_of p read)
        → fact_of p (if b && k then first ∷ rest else rest) ≡ only_source (has kind.sources p) (value_of p (if k then h ∷ read else read))
    by true e false s q r = r
    by false e false s q r = r
    by true e true true q r =
        let same : has kind.sources p ≡ true = ap (λ z. has kind.sources z) (same_property_is p h.property q) ∙ e in
        ap (λ t. if t then Some h.value else fact_of p rest) q ∙ sym (ap (λ t. only_source t (Some h.value)) same)
        ∙ sym (ap (λ t. only_source (has kind.sources p) (if t then Some h.value else value_of p read)) q)
    by true e true false q r =
        ap (λ t. if t then Some h.value else fact_of p rest) q ∙ r ∙ sym (ap (λ t. only_source (has kind.sources p) (if t then Some h.value else value_of p read)) q)
    by false e true true q r =
        let same : has kind.sources p ≡ false = ap (λ z. has kind.sources z) (same_property_is p h.property q) ∙ e in
        r ∙ ap (λ t. only_source t (value_of p read)) same ∙ sym (ap (λ t. only_source t (if same_property p h.property then Some h.value else value_of p read)) same)
    by false e true false q r = r ∙ sym (ap (λ t. only_source (has kind.sources p) (if t then Some h.value else value_of p read)) q)

-- a fact of what an object holds
fact_among : (held : List HeldValue) (h : HeldValue) → Among h held → Among (record { place = h.place; property = h.property; value = h.value }) (facts held)
fact_among held h i = among_map (λ g. record { place = g.place; property = g.property; value = g.value }) i

forms_of : (o : State) (n : ℕ) → IsFormed o → cols_of o.held ≡ Some n → (h : HeldValue) → Among h o.held → FormsIn o.of n h.property h.value
forms_of o n f e h i =
    let each = f.each h (Contains_among i) in
    record { formed = each.formed; columns = subst (λ c. agrees c h.property h.value ≡ true) e each.columns; rows = each.rows; entries = each.entries; primitive = each.primitive }

-- the value of a held property has its form
pub value_forms : (o : State) (n : ℕ) (sub : Option ℕ) (p : PropId) (v : PropertyValue) → IsFormed o → cols_of o.held ≡ Some n → value_of p (read_at sub o.held) ≡ Some v → FormsIn o.of n p v
value_forms o n sub p v f e is =
    let (h, i, q, w) = value_among p (read_at sub o.held) v is in
    subst (λ z. FormsIn o.of n p z) w (subst (λ z. FormsIn o.of n z h.value) q (forms_of o n f e h (among_read sub o.held i).0))

-- only a polytope holds a value of a linear program
is_polytope_only : (of : ObjectType) → is_polytope of ≡ true → of ≡ Polytope
is_polytope_only Polytope h = refl
is_polytope_only of h = absurd (true≢false (sym h))

within : (s k : ℕ) → nat_lt s k ≡ true → nat_lt 0 k ≡ true
within s k h = grind arith

of_programs_only : (o : State) → IsFormed o → (h : HeldValue) → is_placed (length o.programs) h.property h.place ≡ true → has_program h.property ≡ true → o.of ≡ Polytope
of_programs_only o f h = by h.place
  where
    by : (place : Option ℕ) → is_placed (length o.programs) h.property place ≡ true → has_program h.property ≡ true → o.of ≡ Polytope
    by None at program = absurd (true≢false (sym at ∙ ap not program))
    by (Some s) at program = is_polytope_only o.of (f.programs.polytope (within s (length o.programs) (and_parts (has_program h.property) (nat_lt s (length o.programs)) at).1))

pub is_view : (o : State) (sub : Option ℕ) (kind : Kind) (n : ℕ) → IsFormed o → IsViewed o sub kind n → IsView (view_for o sub kind n)
is_view o sub kind n f viewed = record {
  some_cols = and_left (nat_le 1 n) (nat_le n most_columns) range;
  few_cols = and_right (nat_le 1 n) (nat_le n most_columns) range;
  sources = λ p h. named p h (value_of p (read_at sub o.held)) refl (viewed.sources p h);
  only = λ g i. source g (among_Contains (shown kind sub (facts o.held)) i);
  placed = λ g i. placed g (among_Contains (shown kind sub (facts o.held)) i);
  programs = λ g i. of_polytope g (shown_among kind sub (facts o.held) (among_Contains (shown kind sub (facts o.held)) i));
  forms = λ g i. formed g (shown_among kind sub (facts o.held) (among_Contains (shown kind sub (facts o.held)) i));
  in_use = viewed.in_use;
}
  where
    range : is_dimension (pos n) ≡ true
    range = cols_range o.of (length o.programs) o.held n (λ g i. f.each g (Contains_among i)) viewed.cols

    and_left : (a b : Bool) → (a && b) ≡ true → a ≡ true
    and_left true b h = refl
    and_left false b h = absurd (true≢false (sym h))

    and_right : (a b : Bool) → (a && b) ≡ true → b ≡ true
    and_right true b h = h
    and_right false b h = absurd (true≢false (sym h))

    shown_as : (g : Fact) → Among g (shown kind sub (facts o.held)) → (has kind.sources g.property && same_place g.place (place_of sub g.property)) ≡ true
    shown_as g i = (filter_among (λ f. has kind.sources f.property && same_place f.place (place_of sub f.property)) (facts o.held) i).1

    source : (g : Fact) → Among g (shown kind sub (facts o.held)) → has kind.sources g.property ≡ true
    source g i = and_left (has kind.sources g.property) (same_place g.place (place_of sub g.property)) (shown_as g i)

    placed : (g : Fact) → Among g (shown kind sub (facts o.held)) → g.place ≡ place_of sub g.property
    placed g i = same_place_is g.place (place_of sub g.property) (and_right (has kind.sources g.property) (same_place g.place (place_of sub g.property)) (shown_as g i))

    named : (p : PropId) → IsTrue (has kind.sources p) → (v : Option PropertyValue) → value_of p (read_at sub o.held) ≡ v → is_some v ≡ true → is_named (shown kind sub (facts o.held)) sub p ≡ true
    named p h None is k = absurd (true≢false (sym k))
    named p h (Some v) is k =
        let (g, i, q, w) = value_among p (read_at sub o.held) v is in
        let (j, at) = among_read sub o.held i in
        let source : has kind.sources g.property ≡ true = ap (λ z. has kind.sources z) q ∙ h in
        let shown' = among_shown kind sub (facts o.held) (fact_among o.held g j) source at in
        subst (λ z. is_named (shown kind sub (facts o.held)) sub z ≡ true) q
        (named_from sub (shown kind sub (facts o.held)) (record { place = g.place; property = g.property; value = g.value }) shown' at)

    of_polytope : (g : Fact) → Among g (facts o.held) → has_program g.property ≡ true → o.of ≡ Polytope
    of_polytope g i program =
        let (h, j, is) = map_among (λ k. record { place = k.place; property = k.property; value = k.value }) o.held i in
        of_programs_only o f h (f.each h (Contains_among j)).placed (subst (λ z. has_program z.property ≡ true) is program)

    formed : (g : Fact) → Among g (facts o.held) → FormsIn o.of n g.property g.value
    formed g i =
        let (h, j, is) = map_among (λ k. record { place = k.place; property = k.property; value = k.value }) o.held i in
        subst (λ z. FormsIn o.of n z.property z.value) (sym is) (forms_of o n f viewed.cols h j)

pub value_forms_if : {B : Type 0} (f : B → PropertyValue) (o : State) (n : ℕ) (sub : Option ℕ) (p : PropId) (r : Option B) → IsFormed o → cols_of o.held ≡ Some n → option_map f r ≡ value_of p (read_at sub o.held) → IfSome r (λ b. FormsIn o.of n p (f b))
value_forms_if f o n sub p None formed e is = tt
value_forms_if f o n sub p (Some b) formed e is = value_forms o n sub p (f b) formed e (sym is)
