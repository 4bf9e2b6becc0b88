-- The worked examples of what is held alone.
use Rattle.std.proofs.Common.{◌≡◌, true, Bool, not, ◌&&◌, ◌||◌, eqb, IsTrue, Option, None, Some, List, [], ◌∷◌, ◌⊎◌, ℕ, zero, suc, inl, inr, refl, true≢false, sym, ap, subst}
use Rattle.std.specs.List.{list_all}
use Rattle.std.specs.Prelude.{slice_get}
use Rattle.std.proofs.lemmas.Bool.{and_from, and_parts, eqb-true, not-true, or_cases}
use Rattle.std.proofs.lemmas.List.Elements.{All-cons, All-head, All-nil, All-tail}
use Rattle.pm_vector.proofs.Lists.{Among, Contains_among, among_Contains, here, there}
use Rattle.pm_props.proofs.Every.{all_properties}
use Rattle.pm_props.proofs.Numbers.{number_is}
use Rattle.std.proofs.lemmas.Option.{same_Some}
use Rattle.std.specs.Option.{is_some}
use Rattle.pm_object.specs.State.{State}
use Rattle.pm_rounds.specs.Chains.{is_barred_on}
use Rattle.pm_standard.specs.declared.standard.StandardClient.TheVariants as client
use Rattle.pm_standard.specs.Book.{standard_rule, standard_rules}
use Rattle.pm_rules.specs.declared.rule.Rule.{Rule}
use Rattle.pm_props.specs.declared.property.PropId.{PropId}
use Rattle.pm_props.specs.declared.property.PropId.TheVariants.{Graph, InputLineality, LinealitySpace, Points, SiteHeights, Sites, Vertices}
use Rattle.pm_props.specs.Properties.{every_property, number}
use Rattle.pm_props.specs.Sets.{has, only, union}
use Rattle.pm_props.specs.declared.set.PropSet.{PropSet}
use Rattle.pm_laws_complete.proofs.Runs.{implied}
use Rattle.pm_laws_complete.specs.Completeness.{descriptions, is_tagged}
use Rattle.pm_laws_complete.specs.Examples.{ObjectsAreRead, all_clients, segment, DescriptionsAreRead, points_and}

vertices_listed : Among (Vertices, LinealitySpace) descriptions
vertices_listed = there (there here)

not_listed : Among (Points, LinealitySpace) descriptions → ⊥
not_listed (there (there (there (there i)))) = elim i [ ]

-- where of these names those that have a tag are the two of points
pub alone_by : (s : PropSet) → list_all (λ p. not (has s p && is_tagged p) || (eqb (number p) 1 || eqb (number p) 2)) every_property ≡ true
    → (p : PropId) → IsTrue (has s p) → IsTrue (is_tagged p) → (p ≡ Points) ⊎ (p ≡ InputLineality)
alone_by s h p held tag = elim (or_cases (eqb (number p) 1) (eqb (number p) 2) (implied (has s p && is_tagged p) (eqb (number p) 1 || eqb (number p) 2) (all_properties (λ q. not (has s q && is_tagged q) || (eqb (number q) 1 || eqb (number q) 2)) h p) (and_from (has s p) (is_tagged p) held tag))) [
  | inl e ↦ inl (number_is p Points (eqb-true (number p) 1 e))
  | inr e ↦ inr (number_is p InputLineality (eqb-true (number p) 2 e))
]

pub graph_is_none : (Graph ≡ Points) ⊎ (Graph ≡ InputLineality) → ⊥
graph_is_none (inl e) = true≢false (ap (λ p. eqb (number p) 28) e)
graph_is_none (inr e) = true≢false (ap (λ p. eqb (number p) 28) e)

pub descriptions_read : DescriptionsAreRead
unfolding only union has
descriptions_read = record {
  vertices = Contains_among vertices_listed;
  no_halves = λ c. not_listed (among_Contains descriptions c);
  graph = refl;
  facets = refl;
  points = refl;
  inequalities = refl;
  dimension = refl;
  lineality = refl;
  hull = refl;
  alone = record { first = refl; second = refl; columns = refl; no_other = alone_by _ refl };
  with_counts = record { first = refl; second = refl; columns = refl; no_other = alone_by _ refl };
  with_graph = λ h. graph_is_none (h.no_other Graph refl refl);
  without_second = λ h. true≢false (sym h.second);
  without_columns = λ h. true≢false (sym h.columns);
  of_polytopes = refl;
  of_cones = refl;
  of_programs = refl;
  not_of_polytopes = refl;
  objective = refl;
  no_objective = λ h. true≢false (sym h);
  none_asked = tt;
  with_heights = All-cons (λ q. IsTrue (has (points_and (Sites ∷ SiteHeights ∷ [])) q)) Sites (SiteHeights ∷ []) refl (All-cons (λ q. IsTrue (has (points_and (Sites ∷ SiteHeights ∷ [])) q)) SiteHeights [] refl (All-nil (λ q. IsTrue (has (points_and (Sites ∷ SiteHeights ∷ [])) q))));
  without_heights = λ h. true≢false (sym (All-head (λ q. IsTrue (has (points_and (Sites ∷ [])) q)) SiteHeights [] (All-tail (λ q. IsTrue (has (points_and (Sites ∷ [])) q)) Sites (SiteHeights ∷ []) h)));
  delaunay = All-cons (λ q. IsTrue (has (points_and (Sites ∷ [])) q)) Sites [] refl (All-nil (λ q. IsTrue (has (points_and (Sites ∷ [])) q)));
  without_sites = λ h. true≢false (sym (All-head (λ q. IsTrue (has (points_and (SiteHeights ∷ [])) q)) Sites [] h));
  no_need = All-nil (λ q. IsTrue (has (points_and []) q));
}

-- ---- an object
abbrev pub is_free : Option ℕ → State → Rule → Bool
is_free sub o rule = not (is_barred_on all_clients o sub (record { 0 = 0 }) rule)

all_free : list_all (is_free None segment) standard_rules ≡ true
unfolding only union has
all_free = refl

all_free_for_program : list_all (is_free (Some 0) segment) standard_rules ≡ true
unfolding only union has
all_free_for_program = refl

pub free_at : (sub : Option ℕ) (o : State) (rules : List Rule) (k : ℕ) (rule : Rule) → slice_get rules k ≡ Some rule → list_all (is_free sub o) rules ≡ true → is_free sub o rule ≡ true
free_at sub o [] k rule at h = absurd (true≢false (sym (ap is_some at)))
free_at sub o (r ∷ rules) zero rule at h = subst (λ q. is_free sub o q ≡ true) (same_Some r rule at) (and_parts (is_free sub o r) (list_all (is_free sub o) rules) h).0
free_at sub o (r ∷ rules) (suc k) rule at h = free_at sub o rules k rule at (and_parts (is_free sub o r) (list_all (is_free sub o) rules) h).1

pub objects_read : ObjectsAreRead
unfolding only union has
objects_read = record {
  alone = record { first = refl; second = refl; columns = refl; no_other = alone_by _ refl };
  free = λ id rule at. not-true (is_barred_on all_clients segment None id rule) (free_at None segment standard_rules id.0 rule at all_free);
  free_for_programs = λ id rule at. not-true (is_barred_on all_clients segment (Some 0) id rule) (free_at (Some 0) segment standard_rules id.0 rule at all_free_for_program);
  disabled = λ h. true≢false (h (record { 0 = 1 }) (standard_rule client.DdFacets) refl);
  no_clients = λ h. true≢false (h (record { 0 = 0 }) (standard_rule client.DdVertices) refl);
}
