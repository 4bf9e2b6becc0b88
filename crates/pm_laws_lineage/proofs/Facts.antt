-- Facts of held values: fewer of them, and those of several lists.
use Rattle.pm_geom.specs.Things.{Orders}
use Rattle.pm_laws_lineage.specs.Provenances.{objectives}
use Rattle.pm_object.proofs.Honesty.{facts_append}
use Rattle.pm_object.specs.Honest.{based, facts, is_based}
use Rattle.pm_object.specs.Laws.{computed}
use Rattle.pm_object.specs.State.{HeldValue, settled}
use Rattle.pm_props.specs.declared.property.PropId.{PropId}
use Rattle.pm_types.specs.Right.{RightAll}
use Rattle.pm_types.specs.Things.{Thing}
use Rattle.pm_types.specs.Values.{Fact}
use Rattle.pm_vector.proofs.Lists.{Among, Contains_among, among_Contains, among_append_left}
use Rattle.std.proofs.Common.{ap, refl, subst, sym}
use Rattle.std.proofs.lemmas.List.Elements.{filter-append}
use Rattle.std.specs.Option.{is_some}
use Rattle.std.specs.Prelude.{List, [], map, ℕ, ◌++◌, ◌∷◌, ◌≡◌}

pub right_of_fewer : (xs ys : List Fact) (t : Thing) (p : Orders) → ((f : Fact) → Among f ys → Among f xs) → RightAll xs t p → RightAll ys t p
right_of_fewer xs ys t p within r = record {
  thing = r.thing;
  orders = r.orders;
  each = λ f i. r.each f (Contains_among (within f (among_Contains ys i)));
  together = λ f g i j. r.together f g (Contains_among (within f (among_Contains ys i))) (Contains_among (within g (among_Contains ys j)));
}

pub right_of_first : (xs ys : List HeldValue) (t : Thing) (p : Orders) → RightAll (facts (xs ++ ys)) t p → RightAll (facts xs) t p
right_of_first xs ys t p r = right_of_fewer (facts (xs ++ ys)) (facts xs) t p (λ f i. subst (λ z. Among f z) (sym (facts_append xs ys)) (among_append_left (facts ys) i)) r

pub based_append : (xs ys : List HeldValue) → based (xs ++ ys) ≡ based xs ++ based ys
based_append xs ys = filter-append (λ h. is_based h.origin) xs ys

pub objectives_append : (xs ys : List HeldValue) → objectives (xs ++ ys) ≡ objectives xs ++ objectives ys
objectives_append xs ys = filter-append (λ h. is_some h.place) xs ys

-- ---- what goes without saying
pub settled_based : (n : ℕ) (ps : List PropId) → based (map (settled n) ps) ≡ map (settled n) ps
settled_based n [] = refl
settled_based n (p ∷ ps) = ap (λ z. settled n p ∷ z) (settled_based n ps)

pub settled_objectives : (n : ℕ) (ps : List PropId) → objectives (map (settled n) ps) ≡ []
settled_objectives n [] = refl
settled_objectives n (p ∷ ps) = settled_objectives n ps

-- ---- what is computed
pub computed_based : (ys : List Fact) → based (computed ys) ≡ []
computed_based [] = refl
computed_based (y ∷ ys) = computed_based ys
