-- From each description the rules of the standard book, run in turn, lead to all properties of the table.
use Rattle.std.proofs.Common.{◌≡◌, Bool, true, false, not, ◌&&◌, ◌||◌, IsTrue, Option, None, Some, List, [], ◌∷◌, ◌++◌, ℕ, suc, eqb, inl, inr, refl, sym, subst, ◌∙◌}
use Rattle.std.specs.Prelude.{slice_get}
use Rattle.pm_standard.specs.Table.{standard_clients}
use Rattle.pm_standard.specs.declared.standard.StandardClient.{StandardClient}
use Rattle.std.specs.List.{All, list_all, list_any}
use Rattle.std.proofs.lemmas.Bool.{and_from, and_parts, both_ways, eqb-true, or_cases}
use Rattle.std.proofs.lemmas.List.Elements.{All-cons, All-head, All-nil, All-tail}
use Rattle.pm_vector.proofs.Lists.{Among, among_Contains, here, there}
use Rattle.pm_props.proofs.Every.{all_properties, has-set_of, has-set_of_filter}
use Rattle.pm_props.proofs.Members.{has-only}
use Rattle.pm_props.proofs.Numbers.{number_is}
use Rattle.pm_object_type.specs.declared.object_type.ObjectType.{ObjectType}
use Rattle.pm_object_type.specs.declared.object_type.ObjectType.TheVariants.{Cone, Fan, Polytope}
use Rattle.pm_props.specs.declared.property.PropId.{PropId}
use Rattle.pm_props.specs.declared.property.PropId.TheVariants.{ConeAmbientDim, LinearObjective, SiteHeights, Sites, RegularCells, DelaunayCells}
use Rattle.pm_props.specs.declared.kind.RuleId.{RuleId}
use Rattle.pm_props.specs.declared.set.PropSet.{PropSet}
use Rattle.pm_props.specs.Properties.{every_property, is_in_use, number}
use Rattle.pm_props.specs.Sets.{IsSubset, has, only, set_of, union, intersection}
use Rattle.pm_standard.specs.Book.{standard_rules}
use Rattle.pm_rules.specs.Chains.{LeadsTo, reached}
use Rattle.pm_laws_complete.proofs.Runs.{Found, Stands, all_run, follow, grown, grown_at, implied, runs_at}
use Rattle.pm_laws_complete.specs.Completeness.{BarsNone, HoldsAlone, HoldsObjective, StandardBookIsComplete, descriptions, names_for, needs}

-- the objective of the program that is asked, if one is
abbrev objective_of : Option ℕ → List PropId
objective_of None = []
objective_of (Some s) = LinearObjective ∷ []

-- the names that are known
abbrev known_first : Option ℕ → PropId × PropId → List PropId → List PropId
known_first sub d extra = ConeAmbientDim ∷ d.0 ∷ d.1 ∷ objective_of sub ++ extra

abbrev start : Option ℕ → PropId × PropId → List PropId → PropSet
start sub d extra = set_of (known_first sub d extra)

-- a set of names each of which is held
listed_held : (ps : List PropId) (held : PropSet) (p : PropId) → All (λ q. IsTrue (has held q)) ps → list_any (λ q. eqb (number q) (number p)) ps ≡ true → IsTrue (has held p)
listed_held [] held p h e = absurd (both_ways false refl e)
listed_held (q ∷ ps) held p h e = elim (or_cases (eqb (number q) (number p)) (list_any (λ r. eqb (number r) (number p)) ps) e) [
  | inl same ↦ subst (λ r. IsTrue (has held r)) (number_is q p (eqb-true (number q) (number p) same)) (All-head (λ r. IsTrue (has held r)) q ps h)
  | inr rest ↦ listed_held ps held p (All-tail (λ r. IsTrue (has held r)) q ps h) rest
]

-- each of the first is among the others
abbrev are_among : List PropId → List PropId → Bool
are_among ps qs = list_all (λ p. list_any (λ q. eqb (number q) (number p)) qs) ps

-- each property of the table for which these are enough is known
abbrev covers : Option ℕ → ObjectType → List PropId → PropSet → Bool
covers sub of extra known = list_all (λ p. not (is_in_use sub of p) || (not (are_among (needs p) extra) || has known p)) every_property

-- what a property needs is enough for it
needs_are_enough : (p : PropId) → are_among (needs p) (needs p) ≡ true
needs_are_enough ConeAmbientDim = refl
needs_are_enough p = refl

-- so the law says of one type and one description
abbrev IsCompleteFor : Option ℕ → ObjectType → PropId × PropId → List PropId → Type 0
IsCompleteFor sub of d extra = (held : PropSet) → HoldsAlone d held → HoldsObjective sub held → All (λ q. IsTrue (has held q)) extra → (barred : List RuleId) → BarsNone barred → (p : PropId) → IsTrue (has (names_for sub of) p) → are_among (needs p) extra ≡ true → (chain : List RuleId) × LeadsTo standard_rules (names_for sub of) barred held (only p) chain

-- the objective is held
objective_held : (sub : Option ℕ) (held : PropSet) → HoldsObjective sub held → All (λ r. IsTrue (has held r)) (objective_of sub)
objective_held None held h = All-nil (λ r. IsTrue (has held r))
objective_held (Some s) held h = All-cons (λ r. IsTrue (has held r)) LinearObjective [] h (All-nil (λ r. IsTrue (has held r)))

-- what is held of both lists is held of one after the other
both_held : (held : PropSet) (ps qs : List PropId) → All (λ r. IsTrue (has held r)) ps → All (λ r. IsTrue (has held r)) qs → All (λ r. IsTrue (has held r)) (ps ++ qs)
both_held held [] qs h k = k
both_held held (p ∷ ps) qs h k = All-cons (λ r. IsTrue (has held r)) p (ps ++ qs) (All-head (λ r. IsTrue (has held r)) p ps h) (both_held held ps qs (All-tail (λ r. IsTrue (has held r)) p ps h) k)

-- ---- the book's rules in order, and so again: those that may run and find something new
-- the places of a list, from a number on
abbrev places : {A : Type 0} → List A → ℕ → List ℕ
places [] k = []
places (x ∷ xs) k = k ∷ places xs (suc k)

-- the rule may run, and finds something new
abbrev is_due : Option ℕ → ObjectType → PropSet → Option StandardClient → Bool
is_due sub of known o = not (eqb (grown_at known o) known) && runs_at sub of known o

abbrev next_at : Bool → PropSet → Option StandardClient → PropSet
next_at true known o = grown_at known o
next_at false known o = known

abbrev kept : Bool → ℕ → List ℕ → List ℕ
kept true k ks = k ∷ ks
kept false k ks = ks

-- of these rules those that run in turn
abbrev due : Option ℕ → ObjectType → PropSet → List ℕ → List ℕ
due sub of known [] = []
due sub of known (k ∷ ks) = kept (is_due sub of known (slice_get standard_clients k)) k (due sub of (next_at (is_due sub of known (slice_get standard_clients k)) known (slice_get standard_clients k)) ks)

runs_kept : (sub : Option ℕ) (of : ObjectType) (known : PropSet) (k : ℕ) (ks : List ℕ) (b : Bool) → is_due sub of known (slice_get standard_clients k) ≡ b → ((now : PropSet) → all_run sub of now (due sub of now ks) ≡ true)
    → all_run sub of known (kept b k (due sub of (next_at b known (slice_get standard_clients k)) ks)) ≡ true
runs_kept sub of known k ks true e rest = and_from (runs_at sub of known (slice_get standard_clients k)) (all_run sub of (grown_at known (slice_get standard_clients k)) (due sub of (grown_at known (slice_get standard_clients k)) ks))
    (and_parts (not (eqb (grown_at known (slice_get standard_clients k)) known)) (runs_at sub of known (slice_get standard_clients k)) e).1 (rest (grown_at known (slice_get standard_clients k)))
runs_kept sub of known k ks false e rest = rest known

due_run : (sub : Option ℕ) (of : ObjectType) (ks : List ℕ) (known : PropSet) → all_run sub of known (due sub of known ks) ≡ true
due_run sub of [] known = refl
due_run sub of (k ∷ ks) known = runs_kept sub of known k ks (is_due sub of known (slice_get standard_clients k)) refl (due_run sub of ks)

-- three times the whole book
abbrev turns : List ℕ
turns = places standard_clients 0 ++ places standard_clients 0 ++ places standard_clients 0

abbrev run_from : Option ℕ → ObjectType → PropId × PropId → List PropId → List ℕ
run_from sub of d extra = due sub of (start sub d extra) turns

complete_by : (sub : Option ℕ) (of : ObjectType) (d : PropId × PropId) (extra : List PropId) → has (start sub d extra) d.0 ≡ true → has (start sub d extra) d.1 ≡ true → covers sub of extra (grown (start sub d extra) (run_from sub of d extra)) ≡ true → IsCompleteFor sub of d extra
complete_by sub of d extra first second all held alone objective more barred none p of_table enough = (found.chain, record { enabled = found.enabled; ends = ends })
  where
    each_held : All (λ r. IsTrue (has held r)) (known_first sub d extra)
    each_held =
        All-cons (λ r. IsTrue (has held r)) ConeAmbientDim (d.0 ∷ d.1 ∷ objective_of sub ++ extra) alone.columns
        (All-cons (λ r. IsTrue (has held r)) d.0 (d.1 ∷ objective_of sub ++ extra) alone.first
        (All-cons (λ r. IsTrue (has held r)) d.1 (objective_of sub ++ extra) alone.second (both_held held (objective_of sub) extra (objective_held sub held objective) more)))

    stands : Stands (start sub d extra) held
    stands = record {
      known_held = λ q h. listed_held (known_first sub d extra) held q each_held (sym (has-set_of (known_first sub d extra) q) ∙ h);
      tagged = λ q h tag. elim (alone.no_other q h tag) [
        | inl e ↦ subst (λ r. IsTrue (has (start sub d extra) r)) (sym e) first
        | inr e ↦ subst (λ r. IsTrue (has (start sub d extra) r)) (sym e) second
      ];
    }

    found : Found sub of barred held (grown (start sub d extra) (run_from sub of d extra))
    found = follow sub of barred none (run_from sub of d extra) (start sub d extra) held stands (due_run sub of turns (start sub d extra))

    known : IsTrue (has (grown (start sub d extra) (run_from sub of d extra)) p)
    known =
        implied (are_among (needs p) extra) (has (grown (start sub d extra) (run_from sub of d extra)) p)
        (implied (is_in_use sub of p) (not (are_among (needs p) extra) || has (grown (start sub d extra) (run_from sub of d extra)) p)
        (all_properties (λ q. not (is_in_use sub of q) || (not (are_among (needs q) extra) || has (grown (start sub d extra) (run_from sub of d extra)) q)) all p)
        (sym (has-set_of_filter (is_in_use sub of) p) ∙ of_table))
        enough

    ends : IsSubset (only p) (reached standard_rules held found.chain)
    ends q h = subst (λ r. IsTrue (has (reached standard_rules held found.chain) r)) (number_is p q (eqb-true (number p) (number q) (sym (has-only p q) ∙ h))) (found.ends p known)

-- ---- each description of a type
-- it is known at first, and when the rules have run all of the table is known for which these are enough
abbrev is_covered : Option ℕ → ObjectType → List PropId → PropId × PropId → Bool
is_covered sub of extra d = (has (start sub d extra) d.0 && has (start sub d extra) d.1) && covers sub of extra (grown (start sub d extra) (run_from sub of d extra))

abbrev are_covered : Option ℕ → ObjectType → List PropId → Bool
are_covered sub of extra = list_all (is_covered sub of extra) descriptions

covered_for : (sub : Option ℕ) (of : ObjectType) (extra : List PropId) (ds : List (PropId × PropId)) → list_all (is_covered sub of extra) ds ≡ true → {d : PropId × PropId} → Among d ds → is_covered sub of extra d ≡ true
covered_for sub of extra [] h i = elim i [ ]
covered_for sub of extra (c ∷ ds) h here = (and_parts (is_covered sub of extra c) (list_all (is_covered sub of extra) ds) h).0
covered_for sub of extra (c ∷ ds) h (there i) = covered_for sub of extra ds (and_parts (is_covered sub of extra c) (list_all (is_covered sub of extra) ds) h).1 i

complete_for : (sub : Option ℕ) (of : ObjectType) (extra : List PropId) → are_covered sub of extra ≡ true → (d : PropId × PropId) → Among d descriptions → IsCompleteFor sub of d extra
complete_for sub of extra h d i =
    let both = and_parts (has (start sub d extra) d.0 && has (start sub d extra) d.1) (covers sub of extra (grown (start sub d extra) (run_from sub of d extra))) (covered_for sub of extra descriptions h i) in
    let known = and_parts (has (start sub d extra) d.0) (has (start sub d extra) d.1) both.0 in
    complete_by sub of d extra known.0 known.1 both.1

-- with nothing else, with sites, with heights, and with both
polytopes : (sub : Option ℕ) → are_covered sub Polytope [] ≡ true
unfolding only union intersection has
polytopes None = refl
polytopes (Some s) = refl

polytopes_with_sites : (sub : Option ℕ) → are_covered sub Polytope (Sites ∷ []) ≡ true
unfolding only union intersection has
polytopes_with_sites None = refl
polytopes_with_sites (Some s) = refl

polytopes_with_heights : (sub : Option ℕ) → are_covered sub Polytope (SiteHeights ∷ []) ≡ true
unfolding only union intersection has
polytopes_with_heights None = refl
polytopes_with_heights (Some s) = refl

polytopes_with_both : (sub : Option ℕ) → are_covered sub Polytope (Sites ∷ SiteHeights ∷ []) ≡ true
unfolding only union intersection has
polytopes_with_both None = refl
polytopes_with_both (Some s) = refl

polytopes_for : (sub : Option ℕ) (p : PropId) → are_covered sub Polytope (needs p) ≡ true
polytopes_for sub Sites = polytopes_with_sites sub
polytopes_for sub SiteHeights = polytopes_with_heights sub
polytopes_for sub RegularCells = polytopes_with_both sub
polytopes_for sub DelaunayCells = polytopes_with_sites sub
polytopes_for sub p = polytopes sub

cones : (sub : Option ℕ) → are_covered sub Cone [] ≡ true
unfolding only union intersection has
cones None = refl
cones (Some s) = refl

cones_with_sites : (sub : Option ℕ) → are_covered sub Cone (Sites ∷ []) ≡ true
unfolding only union intersection has
cones_with_sites None = refl
cones_with_sites (Some s) = refl

cones_with_heights : (sub : Option ℕ) → are_covered sub Cone (SiteHeights ∷ []) ≡ true
unfolding only union intersection has
cones_with_heights None = refl
cones_with_heights (Some s) = refl

cones_with_both : (sub : Option ℕ) → are_covered sub Cone (Sites ∷ SiteHeights ∷ []) ≡ true
unfolding only union intersection has
cones_with_both None = refl
cones_with_both (Some s) = refl

-- the table of cones has none of these properties
cones_for : (sub : Option ℕ) (p : PropId) → are_covered sub Cone (needs p) ≡ true
cones_for sub Sites = cones_with_sites sub
cones_for sub SiteHeights = cones_with_heights sub
cones_for sub RegularCells = cones_with_both sub
cones_for sub DelaunayCells = cones_with_sites sub
cones_for sub p = cones sub

pub book_is_complete : StandardBookIsComplete
book_is_complete sub Polytope not_fan d listed held alone objective barred none p of_table more = complete_for sub Polytope (needs p) (polytopes_for sub p) d (among_Contains descriptions listed) held alone objective more barred none p of_table (needs_are_enough p)
book_is_complete sub Cone not_fan d listed held alone objective barred none p of_table more = complete_for sub Cone (needs p) (cones_for sub p) d (among_Contains descriptions listed) held alone objective more barred none p of_table (needs_are_enough p)
book_is_complete sub Fan not_fan d listed held alone objective barred none p of_table more = absurd (not_fan refl)
