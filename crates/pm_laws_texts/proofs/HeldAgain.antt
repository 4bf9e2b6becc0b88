-- Values that are loaded of a file, and saved again.
use Rattle.pm_vector.proofs.Filters.{among_filter, among_map, any_from, any_to, filter_among, map_among}
use Rattle.pm_vector.proofs.Lists.{Among, among_append, among_append_left}
use Rattle.pm_vector.specs.Numbers.{Ratio}
use Rattle.pm_files.specs.Files.{SavedProgram}
use Rattle.pm_filing.proofs.HeldSets.{both_ways, set_of-has}
use Rattle.pm_filing.specs.Filing.{found_names, is_found, is_own_found, loaded_value, objective_held, objective_rows, objective_value, objectives_held, origin_in, own, property_with_value}
use Rattle.pm_filing.specs.Whole.{is_of_one}
use Rattle.pm_laws_texts.proofs.MarksAgain.{places_apart}
use Rattle.pm_object.proofs.Formed.{only}
use Rattle.pm_object.specs.State.{HeldValue, given_at, read_at, value_of}
use Rattle.pm_object.specs.declared.held.Origin.TheVariants as origin
use Rattle.pm_props.proofs.Places.{same_place_refl, same_property_is, same_property_refl}
use Rattle.pm_props.specs.Places.{place_of, same_place, same_property}
use Rattle.pm_props.specs.Sets.{has}
use Rattle.pm_props.specs.declared.property.PropId.{PropId}
use Rattle.pm_props.specs.declared.property.PropId.TheVariants.{LinearObjective}
use Rattle.pm_props.specs.declared.set.PropSet.{PropSet}
use Rattle.pm_types.specs.Values.{PropertyValue}
use Rattle.std.proofs.Common.{ap, arith, false, inl, inr, refl, subst, sym, true, true≢false, ◌∙◌}
use Rattle.std.proofs.lemmas.Bool.{and_parts}
use Rattle.std.proofs.lemmas.List.{append-nil}
use Rattle.std.proofs.lemmas.List.Elements.{filter-append}
use Rattle.std.proofs.lemmas.Option.{same_Some as some_is, none-some as none_some}
use Rattle.std.specs.List.{list_any}
use Rattle.std.specs.Option.{is_none}
use Rattle.std.specs.Prelude.{Bool, List, None, Option, Some, [], filter, if◌then◌else◌, map, slice_get, suc, zero, ℕ, ◌+◌, ◌++◌, ◌<◌, ◌∷◌, ◌≡◌}

abbrev Values : Type 0
Values = List (PropId × PropertyValue)

-- ---- the object's own values
own_kept : (s : PropSet) (vs : Values) → own (map (loaded_value s) vs) ≡ map (loaded_value s) vs
own_kept s [] = refl
own_kept s (v ∷ vs) = ap (λ xs. loaded_value s v ∷ xs) (own_kept s vs)

no_own : (k : ℕ) (ps : List SavedProgram) → own (objectives_held k ps) ≡ []
no_own k [] = refl
no_own k (p ∷ ps) = by p.objective (no_own (suc k) ps)
  where
    by : (o : Option (List (List Ratio))) → own (objectives_held (suc k) ps) ≡ [] → own (objective_held k o ++ objectives_held (suc k) ps) ≡ []
    by None rest = rest
    by (Some rows) rest = rest

seen_again : (s : PropSet) (vs : Values) → map property_with_value (map (loaded_value s) vs) ≡ vs
seen_again s [] = refl
seen_again s (v ∷ vs) = ap (λ xs. v ∷ xs) (seen_again s vs)

pub values_again : (s : PropSet) (vs : Values) (ps : List SavedProgram) → map property_with_value (own (map (loaded_value s) vs ++ objectives_held 0 ps)) ≡ vs
values_again s vs ps =
    ap (map property_with_value) (filter-append (λ h. is_none h.place) (map (loaded_value s) vs) (objectives_held 0 ps) ∙ ap (λ xs. own (map (loaded_value s) vs) ++ xs) (no_own 0 ps) ∙ append-nil (own (map (loaded_value s) vs)) ∙ own_kept s vs)
    ∙ seen_again s vs

-- ---- which were stored
found_is_stored : (s : PropSet) (p : PropId) → is_found (origin_in s p) ≡ has s p
found_is_stored s p = by (has s p)
  where
    by : (t : Bool) → is_found (if t then origin.Stored else origin.Given) ≡ t
    by true = refl
    by false = refl

placed : (k : ℕ) (ps : List SavedProgram) (h : HeldValue) → Among h (objectives_held k ps) → is_none h.place ≡ true → ⊥
placed k [] h i n = elim i [ ]
placed k (p ∷ ps) h i n = elim (among_append (objective_held k p.objective) (objectives_held (suc k) ps) i) [ inl j ↦ by p.objective j | inr j ↦ placed (suc k) ps h j n ]
  where
    by : (o : Option (List (List Ratio))) → Among h (objective_held k o) → ⊥
    by None j = elim j [ ]
    by (Some rows) j = true≢false (sym n ∙ ap (λ (x : HeldValue). is_none x.place) (only j))

pub stored_again : (s : PropSet) (vs : Values) (ps : List SavedProgram) → ((p : PropId) → has s p ≡ true → is_of_one vs p ≡ true) → (p : PropId) → has (found_names (map (loaded_value s) vs ++ objectives_held 0 ps)) p ≡ has s p
stored_again s vs ps named p = set_of-has (map (λ h. h.property) (filter is_own_found held)) p ∙ both_ways (list_any (λ q. same_property q p) (map (λ h. h.property) (filter is_own_found held))) (has s p) to from
  where
    held : List HeldValue
    held = map (loaded_value s) vs ++ objectives_held 0 ps

    to : list_any (λ q. same_property q p) (map (λ h. h.property) (filter is_own_found held)) ≡ true → has s p ≡ true
    to e =
        let (q, i, same) = any_to (λ (r : PropId). same_property r p) (map (λ (h : HeldValue). h.property) (filter is_own_found held)) e in
        let (h, j, is) = map_among (λ (x : HeldValue). x.property) (filter is_own_found held) i in
        let (k, t) = filter_among is_own_found held j in
        let b = and_parts (is_none h.place) (is_found h.origin) t in
        let here_is : p ≡ h.property = sym (same_property_is q p same) ∙ is in
        elim (among_append (map (loaded_value s) vs) (objectives_held 0 ps) k) [
          | inl l ↦ let (v, m, same_value) = map_among (loaded_value s) vs l in
              ap (has s) here_is ∙ ap (λ (x : HeldValue). has s x.property) same_value ∙ sym (found_is_stored s v.0) ∙ ap (λ (x : HeldValue). is_found x.origin) (sym same_value) ∙ b.1
          | inr l ↦ absurd (placed 0 ps h l b.0)
        ]

    from : has s p ≡ true → list_any (λ q. same_property q p) (map (λ h. h.property) (filter is_own_found held)) ≡ true
    from e =
        let (v, i, same) = any_to (λ (w : PropId × PropertyValue). same_property p w.0) vs (named p e) in
        let is : p ≡ v.0 = same_property_is p v.0 same in
        let found : is_own_found (loaded_value s v) ≡ true = found_is_stored s v.0 ∙ ap (has s) (sym is) ∙ e in
        any_from (λ q. same_property q p) (among_map (λ (h : HeldValue). h.property) (among_filter is_own_found (among_append_left (objectives_held 0 ps) (among_map (loaded_value s) i)) found))
        (subst (λ q. same_property q p ≡ true) is (same_property_refl p))

-- ---- objectives
-- no value of the object itself is the objective that a program reads
past_own : (i : ℕ) (s : PropSet) (vs : Values) (rest : List HeldValue) → value_of LinearObjective (read_at (Some i) (map (loaded_value s) vs ++ rest)) ≡ value_of LinearObjective (read_at (Some i) rest)
past_own i s [] rest = refl
past_own i s (v ∷ vs) rest = by (same_property LinearObjective v.0) refl (past_own i s vs rest)
  where
    later : List HeldValue
    later = read_at (Some i) (map (loaded_value s) vs ++ rest)

    unread : (t : Bool) → same_property LinearObjective v.0 ≡ false → value_of LinearObjective (if t then loaded_value s v ∷ later else later) ≡ value_of LinearObjective later
    unread true e = ap (λ b. if b then Some v.1 else value_of LinearObjective later) e
    unread false e = refl

    by : (t : Bool) → same_property LinearObjective v.0 ≡ t → value_of LinearObjective later ≡ value_of LinearObjective (read_at (Some i) rest) → value_of LinearObjective (if same_place None (place_of (Some i) v.0) then loaded_value s v ∷ later else later) ≡ value_of LinearObjective (read_at (Some i) rest)
    by true e tail = ap (λ p. value_of LinearObjective (if same_place None (place_of (Some i) p) then loaded_value s v ∷ later else later)) (sym (same_property_is LinearObjective v.0 e)) ∙ tail
    by false e tail = unread (same_place None (place_of (Some i) v.0)) e ∙ tail

past_one : (k i : ℕ) (o : Option (List (List Ratio))) (rest : List HeldValue) → ¬ (k ≡ i) → read_at (Some i) (objective_held k o ++ rest) ≡ read_at (Some i) rest
past_one k i None rest ne = refl
past_one k i (Some rows) rest ne = ap (λ t. if t then given_at (Some k) LinearObjective (objective_value rows) ∷ read_at (Some i) rest else read_at (Some i) rest) (places_apart k i ne)

none_before : (k i : ℕ) (ps : List SavedProgram) → i < k → read_at (Some i) (objectives_held k ps) ≡ []
none_before k i [] l = refl
none_before k i (p ∷ ps) l = past_one k i p.objective (objectives_held (suc k) ps) (λ e. omega arith) ∙ none_before (suc k) i ps (omega arith)

objective_there : (k i j : ℕ) (ps : List SavedProgram) (p : SavedProgram) → i ≡ k + j → slice_get ps j ≡ Some p → objective_rows (value_of LinearObjective (read_at (Some i) (objectives_held k ps))) ≡ p.objective
objective_there k i j [] p e got = absurd (none_some p got)
objective_there k i zero (q ∷ ps) p e got = by q.objective ∙ ap (λ (r : SavedProgram). r.objective) (some_is q p got)
  where
    rest : List HeldValue
    rest = read_at (Some i) (objectives_held (suc k) ps)

    place : k ≡ i
    place = omega (arith, e)

    by : (o : Option (List (List Ratio))) → objective_rows (value_of LinearObjective (read_at (Some i) (objective_held k o ++ objectives_held (suc k) ps))) ≡ o
    by None = ap (λ xs. objective_rows (value_of LinearObjective xs)) (none_before (suc k) i ps (omega arith))
    by (Some rows) = ap (λ t. objective_rows (value_of LinearObjective (if t then given_at (Some k) LinearObjective (objective_value rows) ∷ rest else rest))) (ap (λ n. same_place (Some k) (Some n)) (sym place) ∙ same_place_refl (Some k))
objective_there k i (suc j) (q ∷ ps) p e got =
    ap (λ xs. objective_rows (value_of LinearObjective xs)) (past_one k i q.objective (objectives_held (suc k) ps) (λ s. omega (arith, e, s)))
    ∙ objective_there (suc k) i j ps p (omega (arith, e)) got

pub objective_again : (i : ℕ) (s : PropSet) (vs : Values) (ps : List SavedProgram) (p : SavedProgram) → slice_get ps i ≡ Some p → objective_rows (value_of LinearObjective (read_at (Some i) (map (loaded_value s) vs ++ objectives_held 0 ps))) ≡ p.objective
objective_again i s vs ps p got = ap objective_rows (past_own i s vs (objectives_held 0 ps)) ∙ objective_there 0 i i ps p (omega arith) got
