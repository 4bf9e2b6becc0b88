-- The set of a list of properties that grows by one.
use Rattle.std.proofs.Common.{refl, sym, ap, ◌∙◌, ◌≡◌, ◌++◌, ◌||◌, ℕ, List, [], ◌∷◌, Bool, true, false, arith, eqb}
use Rattle.std.specs.List.{list_any}
use Rattle.std.specs.Prelude.{fold, nat_eq}
use Rattle.pm_props.proofs.Members.{has-empty, has-only, has-union}
use Rattle.pm_props.specs.Places.{same_property}
use Rattle.pm_props.specs.Properties.{number}
use Rattle.pm_props.specs.Sets.{has, only, set_of, union}
use Rattle.pm_props.specs.declared.property.PropId.{PropId}

fold-push : {X Y : Type 0} (f : Y → X → Y) (y : Y) (xs : List X) (x : X) → fold f y (xs ++ x ∷ []) ≡ f (fold f y xs) x
fold-push f y [] x = refl
fold-push f y (z ∷ xs) x = fold-push f (f y z) xs x

pub set_of-more : (ps : List PropId) (p : PropId) → set_of (ps ++ p ∷ []) ≡ union (set_of ps) (only p)
set_of-more ps p = fold-push (λ s q. union s (only q)) 0 ps p

or_assoc : (a b c : Bool) → ((a || b) || c) ≡ (a || (b || c))
or_assoc true b c = refl
or_assoc false b c = refl

or_false : (a : Bool) → a ≡ (a || false)
or_false true = refl
or_false false = refl

same_test : (a b : ℕ) → eqb a b ≡ nat_eq a b
same_test a b = grind arith

has_fold : (s : ℕ) (ps : List PropId) (p : PropId) → has (fold (λ s q. union s (only q)) s ps) p ≡ (has s p || list_any (λ q. same_property q p) ps)
has_fold s [] p = or_false (has s p)
has_fold s (q ∷ ps) p =
    has_fold (union s (only q)) ps p
    ∙ ap (λ t. t || list_any (λ q. same_property q p) ps) (has-union s (only q) p)
    ∙ or_assoc (has s p) (has (only q) p) (list_any (λ q. same_property q p) ps)
    ∙ ap (λ t. has s p || (t || list_any (λ q. same_property q p) ps)) (has-only q p ∙ same_test (number q) (number p))

-- what is in the set is in the list
pub set_of-has : (ps : List PropId) (p : PropId) → has (set_of ps) p ≡ list_any (λ q. same_property q p) ps
set_of-has ps p = has_fold 0 ps p ∙ ap (λ t. t || list_any (λ q. same_property q p) ps) (has-empty p)

-- two tests of which each implies the other give the same answer
pub both_ways : (s t : Bool) → (s ≡ true → t ≡ true) → (t ≡ true → s ≡ true) → s ≡ t
both_ways true t f g = sym (f refl)
both_ways false true f g = g refl
both_ways false false f g = refl
