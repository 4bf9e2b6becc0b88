-- The worked examples of longer books and of what is given.
use Rattle.std.proofs.Common.{ap, refl, sym, true≢false, ◌∙◌}
use Rattle.std.proofs.lemmas.Bool.{not-true}
use Rattle.std.proofs.lemmas.List.Elements.{All-nil}
use Rattle.std.specs.List.{Contains, list_all}
use Rattle.std.specs.Option.{is_some}
use Rattle.std.specs.Prelude.{Bool, List, None, Some, [], false, slice_get, true, ℕ, ◌≡◌, ◌∷◌}
use Rattle.pm_vector.proofs.Lists.{Among, Contains_among, among_Contains, here}
use Rattle.pm_object_type.specs.declared.object_type.ObjectType.{ObjectType}
use Rattle.pm_object_type.specs.declared.object_type.ObjectType.TheVariants.{Fan, Polytope}
use Rattle.pm_props.specs.Sets.{difference, has, only, union}
use Rattle.pm_props.specs.declared.kind.RuleId.{RuleId}
use Rattle.pm_props.specs.declared.property.PropId.{PropId}
use Rattle.pm_props.specs.declared.property.PropId.TheVariants.{Facets, Graph}
use Rattle.pm_props.specs.declared.set.PropSet.{PropSet}
use Rattle.pm_rounds.specs.Chains.{is_barred_on}
use Rattle.pm_rules.specs.Chains.{LeadsTo}
use Rattle.pm_rules.specs.declared.rule.Rule.{Rule}
use Rattle.pm_standard.specs.Book.{standard_rule, standard_rules}
use Rattle.pm_standard.specs.declared.standard.StandardClient.TheVariants as client
use Rattle.pm_laws_complete.proofs.Examples.{alone_by, descriptions_read, free_at, graph_is_none, is_free, objects_read}
use Rattle.pm_laws_complete.proofs.LongerBooks.{standard_book_is_one, standard_book_leads_as_one}
use Rattle.pm_laws_complete.specs.Completeness.{descriptions}
use Rattle.pm_laws_complete.specs.Examples.{all_clients, by_points, points_and, segment}
use Rattle.pm_laws_complete.specs.GivenExamples.{GivenIsRead, LongerBooksAreRead, failed, failed_round, given_segment}

-- ---- a book without rules
is_none : ObjectType → Bool
is_none Fan = true
is_none of = false

polytope_is_none : Polytope ≡ Fan → ⊥
unfolding is_none
polytope_is_none e = true≢false (sym (ap is_none e))

points_among : Among by_points descriptions
points_among = here

points_listed : Contains descriptions by_points
points_listed = Contains_among points_among

-- a chain of no rules leads to nothing new
nothing_new : (names : PropSet) (barred : List RuleId) (held asked : PropSet) (p : PropId) → has asked p ≡ true → has held p ≡ false → (chain : List RuleId) → LeadsTo [] names barred held asked chain → ⊥
nothing_new names barred held asked p h k [] leads = true≢false (sym (leads.ends p h) ∙ k)
nothing_new names barred held asked p h k (id ∷ chain) leads = let (rule, at, enabled, rest) = leads.enabled in true≢false (sym (ap is_some at))

no_rule : {A : Type 0} (k : ℕ) (rule : Rule) → slice_get [] k ≡ Some rule → A
no_rule k rule at = absurd (true≢false (sym (ap is_some at)))

pub longer_books_read : LongerBooksAreRead
unfolding only union has difference
longer_books_read = record {
  first = refl;
  behind = refl;
  last = refl;
  no_more = refl;
  not_standard = refl;
  complete = standard_book_is_one;
  now = standard_book_leads_as_one;
  empty = λ complete.
      let found = complete None Polytope polytope_is_none by_points points_listed (points_and []) descriptions_read.alone tt [] (λ id rule at. refl) Facets refl (All-nil _) in
      nothing_new _ [] (points_and []) (only Facets) Facets refl refl found.0 found.1;
  empty_now = λ leads.
      let found = leads None (record { object = segment; clients = all_clients }) polytope_is_none by_points points_listed objects_read.alone tt objects_read.free Facets refl (All-nil _) []
      (record { each = λ id rule at. no_rule id.0 rule at }) in
      nothing_new _ [] _ _ Facets refl refl found.0 found.1;
}

-- ---- what is given
all_free : list_all (is_free None given_segment) standard_rules ≡ true
unfolding only union has
all_free = refl

nothing_more : {X : Type 0} (x : X) (xs : List X) → [] ≡ x ∷ xs → ⊥
nothing_more x xs e = cc

one_round : Among failed_round (failed_round ∷ [])
one_round = here

pub given_read : GivenIsRead
unfolding only union has
given_read = record {
  half = record { first = refl; no_other = alone_by _ refl };
  both = record { first = refl; no_other = alone_by _ refl };
  with_graph = λ h. graph_is_none (h.no_other Graph refl refl);
  other_half = λ h. true≢false (sym h.first);
  own = refl;
  objective = refl;
  stray = refl;
  not_before = λ h. true≢false (sym h.second);
  settled = record { first = refl; second = refl; columns = refl; no_other = alone_by _ refl };
  given = record {
    listed = points_listed;
    type = polytope_is_none;
    described = record { first = refl; no_other = alone_by _ refl };
    own = refl;
    objective = tt;
    no_rounds = refl;
    free = λ id rule at. not-true (is_barred_on all_clients given_segment None id rule) (free_at None given_segment standard_rules id.0 rule at all_free);
  };
  by_vertices = λ h. true≢false (sym h.described.first);
  with_round = λ h. true≢false h.no_rounds;
  no_clients = λ h. true≢false (h.free (record { 0 = 0 }) (standard_rule client.DdVertices) refl);
  untouched = record { excluded = refl; disabled = refl; clients = refl; bounded = refl; simplicial = refl };
  with_label = λ h. nothing_more _ _ (sym h.disabled);
  unbounded = λ h. true≢false h.bounded;
  none_there = λ h. true≢false (sym h.clients);
  excluded = record {
    next = failed;
    others = [];
    are = refl;
    rule = standard_rule client.DdFacets;
    is_rule = refl;
    place = refl;
    round = failed_round;
    later = Contains_among one_round;
    ended = refl;
  };
  untold = λ h. elim (among_Contains [] h.later) [ ];
  none = λ h. nothing_more h.next h.others h.are;
}
