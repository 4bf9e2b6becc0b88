-- The client that counts rays, and clients that find one property from one other: which properties they name.
use Rattle.pm_vector.proofs.Filters.{any_from}
use Rattle.pm_vector.proofs.Lists.{Among, Contains_among, among_Contains}
use Rattle.pm_props.proofs.Every.{has-set_of}
use Rattle.pm_props.proofs.Members.{has-empty}
use Rattle.pm_props.proofs.Places.{same_property_is}
use Rattle.pm_props.specs.Kinds.{IsFresh}
use Rattle.pm_props.specs.Properties.{number}
use Rattle.pm_props.specs.Sets.{has, set_of}
use Rattle.pm_props.specs.declared.kind.Kind.{Kind}
use Rattle.pm_props.specs.declared.property.PropId.{PropId}
use Rattle.pm_types.specs.Runs.{IsFree}
use Rattle.pm_types.specs.Values.{Fact}
use Rattle.std.proofs.Common.{ap, refl, subst, sym, true, true≢false, ◌∙◌}
use Rattle.std.specs.List.{Contains, list_any}
use Rattle.std.specs.Prelude.{Bool, IsTrue, List, [], false, nat_eq, ◌||◌, ◌∷◌, ◌≡◌}

pub only_one : {X : Type 0} {x y : X} → Among x (y ∷ []) → x ≡ y
only_one Among.here = refl
only_one (Among.there i) = elim i [ ]

-- elements by their places
pub first_of : {X : Type 0} (x : X) (xs : List X) → Contains (x ∷ xs) x
first_of x xs = Contains_among Among.here

pub second_of : {X : Type 0} (x y : X) (xs : List X) → Contains (x ∷ y ∷ xs) y
second_of x y xs = Contains_among (Among.there Among.here)

pub third_of : {X : Type 0} (x y z : X) (xs : List X) → Contains (x ∷ y ∷ z ∷ xs) z
third_of x y z xs = Contains_among (Among.there (Among.there Among.here))

-- a list of which no element passes the test has no element that does
pub has_none : {X : Type 0} (test : X → Bool) (xs : List X) (x : X) → list_any test xs ≡ false → test x ≡ true → ¬ (Contains xs x)
has_none test xs x none is c = true≢false (sym (any_from test (among_Contains xs c) is) ∙ none)

or_false : (a : Bool) → (a || false) ≡ true → a ≡ true
or_false true h = refl
or_false false h = h

-- ---- sets of one property, and of none
pub one_of : (q p : PropId) → IsTrue (has (set_of (q ∷ [])) p) → q ≡ p
one_of q p h = same_property_is q p (or_false (nat_eq (number q) (number p)) (sym (has-set_of (q ∷ []) p) ∙ h))

pub none_of : (p : PropId) → ¬ (IsTrue (has 0 p))
none_of p h = true≢false (sym h ∙ has-empty p)

-- ---- tags of a client that finds p
pub untagged : (tag : PropId → Bool) (kind : Kind) (p : PropId) → kind.targets ≡ set_of (p ∷ []) → tag p ≡ false → ¬ (IsFresh tag kind)
untagged tag kind p targets none fresh =
    let (q, is, has_tag) = fresh.target in
    true≢false (sym has_tag ∙ ap tag (sym (one_of p q (subst (λ s. IsTrue (has s q)) targets is))) ∙ none)

pub free_of : (tag : PropId → Bool) (kind : Kind) (p : PropId) (held : List Fact) → kind.targets ≡ set_of (p ∷ []) → tag p ≡ false → IsFree tag kind held
free_of tag kind p held targets none = record { none = λ fresh f c. absurd (untagged tag kind p targets none fresh) }

-- a client that finds a property with the tag from one without chooses that order, or that pair
pub chooses : (tag : PropId → Bool) (kind : Kind) (p q : PropId) → IsTrue (has kind.targets p) → kind.sources ≡ set_of (q ∷ []) → tag p ≡ true → tag q ≡ false → IsFresh tag kind
chooses tag kind p q target sources tagged none = record {
  target = (p, target, tagged);
  sources = λ r h. ap tag (sym (one_of q r (subst (λ s. IsTrue (has s r)) sources h))) ∙ none;
}

-- then nothing that is held may have it
pub not_free : (tag : PropId → Bool) (kind : Kind) (held : List Fact) (f : Fact) → IsFresh tag kind → Contains held f → tag f.property ≡ true → ¬ (IsFree tag kind held)
not_free tag kind held f fresh c tagged free = true≢false (sym tagged ∙ free.none fresh f c)
