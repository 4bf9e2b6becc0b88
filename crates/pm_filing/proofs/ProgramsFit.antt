-- Programs of a file that fit behind those of an object: none is refused, and each takes its objective.
use Rattle.std.proofs.Common.{append-nil, append_assoc, ap, arith, false, refl, subst, sym, true, true≢false, ◌∙◌}
use Rattle.std.proofs.lemmas.Bool.{and_from, and_parts, and_right, not-true, or_from}
use Rattle.std.proofs.lemmas.List.{length-append}
use Rattle.std.proofs.lemmas.List.Folds.{list_all-append}
use Rattle.std.specs.List.{list_all, list_any}
use Rattle.std.specs.Option.{is_some}
use Rattle.std.specs.Prelude.{Bool, IfSome, List, None, Option, Some, [], flat_map, if◌then◌else◌, length, map, nat_eq, nat_le, nat_lt, not, option_map, suc, ℕ, ◌&&◌, ◌+◌, ◌++◌, ◌∷◌, ◌≡◌}
use Rattle.std.specs.Str.{bytes_eq}
use Rattle.pm_vector.proofs.Filters.{among_map}
use Rattle.pm_vector.proofs.Lists.{Among, among_All, among_append_left, among_append_right, here}
use Rattle.pm_vector.specs.Numbers.{Ratio}
use Rattle.pm_files.specs.Files.{SavedFile, SavedProgram}
use Rattle.pm_files.specs.Views.{program_of}
use Rattle.pm_files.specs.declared.file.FileProgram.{FileProgram}
use Rattle.pm_filing.proofs.Fitting.{AreOf, agrees_now, in_middle, map_append, none_of}
use Rattle.pm_filing.proofs.Objectives.{value_of_rows}
use Rattle.pm_filing.proofs.SuitLaws.{all_at}
use Rattle.pm_filing.specs.Filing.{loaded_value, name_told, objective_held, objective_value, property_with_value, with_programs}
use Rattle.pm_filing.specs.ReadingViews.{has_formed_objective, is_formed_objective, matrix_seen}
use Rattle.pm_filing.specs.Views.{AllSuit, Suits}
use Rattle.pm_filing.specs.Whole.{IsWhole, is_place, objective_of}
use Rattle.pm_fraction.specs.Matrices.{FractionMatrix}
use Rattle.pm_object.proofs.Formed.{others_agree}
use Rattle.pm_object.specs.Formed.{ArePrograms, are_different}
use Rattle.pm_object.specs.State.{CanTake, HeldValue, State, agrees, cols_of, empty_object, has_rounds_at, holds_computed_at, is_computed, is_held, is_polytope, is_sealed_at, place_from, program_refusal, read_at, sites_agree, value_of, with_program}
use Rattle.pm_object.specs.declared.held.Excluded.{Excluded}
use Rattle.pm_props.proofs.Places.{same_property_is}
use Rattle.pm_props.specs.NameWords.{is_name}
use Rattle.pm_props.specs.Places.{place_of, same_place, same_property}
use Rattle.pm_props.specs.declared.property.PropId.{PropId}
use Rattle.pm_props.specs.declared.property.PropId.TheVariants.{LinearObjective}
use Rattle.pm_props.specs.declared.set.PropSet.{PropSet}
use Rattle.pm_rules.specs.declared.rule.Rule.{Rule}
use Rattle.pm_types.specs.Forms.{are_rows}
use Rattle.pm_types.specs.Values.{PropertyValue, matrix}
use Rattle.pm_limits.specs.Limits.{most_programs}

-- each value stands in the object itself or in one of its first k programs
abbrev pub AreWithin : ℕ → List HeldValue → Type 0
AreWithin k held = list_all (λ h. is_place k h.place) held ≡ true

-- the names may be those of programs behind the object's own, the objectives suit one column count with what is held, and nothing stands or was started at their places
pub record ProgramsFit (o : State) (ps : List SavedProgram) : Type 0 where
  pub names : ArePrograms o.of (o.programs ++ map name_told ps)
  pub suit : AllSuit o.of (map property_with_value o.held ++ flat_map (λ p. objective_of p.objective) ps)
  pub placed : AreWithin (length o.programs) o.held
  pub rounds : o.rounds ≡ []

-- a reason that is none leaves the next
passed : {E : Type 0} (b : Bool) (e : E) (r : Option E) → b ≡ false → r ≡ None → (if b then Some e else r) ≡ None
passed true e r h k = absurd (true≢false h)
passed false e r h k = k

-- ---- the name
-- of different names one has no place among those before it
no_place : (k : ℕ) (names : List (List ℕ)) (name : List ℕ) (others : List (List ℕ)) → are_different (names ++ name ∷ others) ≡ true → place_from k name names ≡ None
no_place k [] name others d = refl
no_place k (other ∷ names) name others d =
    let both = and_parts (not (list_any (bytes_eq other) (names ++ name ∷ others))) (are_different (names ++ name ∷ others)) d in
    let apart = none_of (bytes_eq other) (names ++ name ∷ others) (not-true (list_any (bytes_eq other) (names ++ name ∷ others)) both.0) (in_middle names name others) in
    ap (λ t. if t then Some k else place_from (suc k) name names) apart ∙ no_place (suc k) names name others both.1

-- the next name is a name
pub program_is_named : (o : State) (p : SavedProgram) (ps : List SavedProgram) → ProgramsFit o (p ∷ ps) → is_name (name_told p) ≡ true
program_is_named o p ps fit = all_at is_name (o.programs ++ name_told p ∷ map name_told ps) fit.names.words (in_middle o.programs (name_told p) (map name_told ps))

some_there : (n m : ℕ) → nat_lt 0 (n + suc m) ≡ true
some_there n m = grind arith

room_left : (n m : ℕ) → nat_le (n + suc m) 4 ≡ true → nat_le 4 n ≡ false
room_left n m h = grind arith

pub program_is_free : (o : State) (p : SavedProgram) (ps : List SavedProgram) → ProgramsFit o (p ∷ ps) → program_refusal o (name_told p) ≡ None
program_is_free o p ps fit =
    let n = length o.programs in
    let m = length (map name_told ps) in
    let all : length (o.programs ++ name_told p ∷ map name_told ps) ≡ n + suc m = length-append o.programs (name_told p ∷ map name_told ps) in
    let polytope : is_polytope o.of ≡ true = fit.names.polytope (ap (nat_lt 0) all ∙ some_there n m) in
    let place = no_place 0 o.programs (name_told p) (map name_told ps) fit.names.different in
    let room = room_left n m (ap (λ k. nat_le k 4) (sym all) ∙ fit.names.few) in
    passed (not (is_polytope o.of)) _ _ (ap not polytope) (passed (is_some (place_from 0 (name_told p) o.programs)) _ _ (ap is_some place) (passed (nat_le most_programs n) _ _ room refl))

-- ---- the objective
stands_before : (k : ℕ) (place : Option ℕ) → is_place k place ≡ true → same_place place (Some k) ≡ false
stands_before k None h = refl
stands_before k (Some s) h = less s k h
  where
    less : (s k : ℕ) → nat_lt s k ≡ true → nat_eq s k ≡ false
    less s k h = grind arith

-- behind all programs no objective is held
no_objective : (k : ℕ) (held : List HeldValue) → AreWithin k held → is_held LinearObjective (read_at (Some k) held) ≡ false
no_objective k [] w = refl
no_objective k (h ∷ held) w =
    let both = and_parts (is_place k h.place) (list_all (λ g. is_place k g.place) held) w in
    by (same_place h.place (place_of (Some k) h.property)) refl (stands_before k h.place both.0) (no_objective k held both.1)
  where
    other : (s : Bool) → same_property LinearObjective h.property ≡ s → same_place h.place (place_of (Some k) h.property) ≡ true → same_place h.place (Some k) ≡ false → same_property LinearObjective h.property ≡ false
    other false is e before = is
    other true is e before = absurd (true≢false (sym (subst (λ p. same_place h.place (place_of (Some k) p) ≡ true) (sym (same_property_is LinearObjective h.property is)) e) ∙ before))

    by : (t : Bool) → same_place h.place (place_of (Some k) h.property) ≡ t → same_place h.place (Some k) ≡ false → is_held LinearObjective (read_at (Some k) held) ≡ false
        → is_held LinearObjective (if t then h ∷ read_at (Some k) held else read_at (Some k) held) ≡ false
    by false e before rest = rest
    by true e before rest =
        ap (λ s. is_some (if s then Some h.value else value_of LinearObjective (read_at (Some k) held))) (other (same_property LinearObjective h.property) refl e before) ∙ rest

-- nor is a computed value
none_computed : (k : ℕ) (held : List HeldValue) → AreWithin k held → holds_computed_at (Some k) held ≡ false
none_computed k [] w = refl
none_computed k (h ∷ held) w =
    let both = and_parts (is_place k h.place) (list_all (λ g. is_place k g.place) held) w in
    or_from (is_computed h.origin && same_place h.place (Some k)) (holds_computed_at (Some k) held) (and_right (is_computed h.origin) (same_place h.place (Some k)) (stands_before k h.place both.0)) (none_computed k held both.1)

held_suit : (o : State) (ps : List SavedProgram) (fit : ProgramsFit o ps) → AreOf o.of fit.suit.0 o.held
held_suit o ps fit h i = among_All (λ (v : PropId × PropertyValue). Suits o.of fit.suit.0 v.0 v.1) (among_append_left (flat_map (λ (p : SavedProgram). objective_of p.objective) ps) (among_map property_with_value i)) fit.suit.1

-- a value that suits the column count is taken where nothing stands
taken_behind : (o : State) (name : List ℕ) (n : ℕ) (v : PropertyValue) → AreOf o.of n o.held → AreWithin (length o.programs) o.held → o.rounds ≡ [] → Suits o.of n LinearObjective v
    → CanTake (with_program o name) (Some (length o.programs)) LinearObjective v
taken_behind o name n v are within rounds fits =
    let k = length o.programs in
    let sealed : is_sealed_at (Some k) (with_program o name) ≡ false =
    or_from (holds_computed_at (Some k) o.held) (has_rounds_at (Some k) o.rounds) (none_computed k o.held within) (ap (has_rounds_at (Some k)) rounds) in
    let columns : agrees (cols_of o.held) LinearObjective v ≡ true = agrees_now o.of n o.held LinearObjective v are fits in (
      passed (is_held LinearObjective (read_at (Some k) o.held)) _ _ (no_objective k o.held within) (passed (is_sealed_at (Some k) (with_program o name)) _ _ sealed
          (passed (not (agrees (cols_of o.held) LinearObjective v)) _ _ (ap not columns)
          (passed (not (sites_agree o.held LinearObjective v)) _ _ (ap not (others_agree LinearObjective v o.held refl refl)) (passed (not (are_rows o.of LinearObjective v)) _ _ (ap not fits.rows) refl)))),
      fits.primitive,
    )

pub objective_is_taken : (o : State) (p : FileProgram) (ps : List SavedProgram) → ProgramsFit o (program_of p ∷ ps) → has_formed_objective p ≡ true
    → IfSome (option_map matrix_seen p.objective) (λ v. CanTake (with_program o (name_told (program_of p))) (Some (length o.programs)) LinearObjective v)
objective_is_taken o p ps fit formed = by p.objective refl formed
  where
    others : List (PropId × PropertyValue)
    others = flat_map (λ (q : SavedProgram). objective_of q.objective) ps

    by : (x : Option FractionMatrix) → p.objective ≡ x → is_formed_objective (option_map matrix_seen x) ≡ true → IfSome (option_map matrix_seen x) (λ v. CanTake (with_program o (name_told (program_of p))) (Some (length o.programs)) LinearObjective v)
    by None is form = tt
    by (Some m) is form =
        let first : Among {X = PropId × PropertyValue} (LinearObjective, objective_value m.rows) (objective_of (program_of p).objective) =
        subst (λ (x : Option FractionMatrix). Among {X = PropId × PropertyValue} (LinearObjective, objective_value m.rows) (objective_of (option_map (λ y. y.rows) x))) (sym is) here in
        let suits = among_All (λ (v : PropId × PropertyValue). Suits o.of fit.suit.0 v.0 v.1) (among_append_right (map property_with_value o.held) (among_append_left others first)) fit.suit.1 in
        taken_behind o (name_told (program_of p)) fit.suit.0 (matrix m.cols m.rows) (held_suit o (program_of p ∷ ps) fit) fit.placed fit.rounds (subst (Suits o.of fit.suit.0 LinearObjective) (value_of_rows m.cols m.rows form) suits)

-- ---- the others
within_more : (k : ℕ) (place : Option ℕ) → is_place k place ≡ true → is_place (suc k) place ≡ true
within_more k None h = refl
within_more k (Some s) h = less s k h
  where
    less : (s k : ℕ) → nat_lt s k ≡ true → nat_lt s (suc k) ≡ true
    less s k h = grind arith

are_within_more : (k : ℕ) (held : List HeldValue) → AreWithin k held → AreWithin (suc k) held
are_within_more k [] w = refl
are_within_more k (h ∷ held) w =
    let both = and_parts (is_place k h.place) (list_all (λ g. is_place k g.place) held) w in
    and_from (is_place (suc k) h.place) (list_all (λ g. is_place (suc k) g.place) held) (within_more k h.place both.0) (are_within_more k held both.1)

objective_within : (k : ℕ) (x : Option (List (List Ratio))) → AreWithin (suc k) (objective_held k x ++ [])
objective_within k None = refl
objective_within k (Some rows) = ap (λ t. t && true) (last k)
  where
    last : (k : ℕ) → nat_lt k (suc k) ≡ true
    last k = grind arith

value_of_objective : (k : ℕ) (x : Option (List (List Ratio))) → map property_with_value (objective_held k x) ≡ objective_of x
value_of_objective k None = refl
value_of_objective k (Some rows) = refl

-- with the first program added the others fit
pub others_fit : (book : List Rule) (o : State) (p : SavedProgram) (ps : List SavedProgram) → ProgramsFit o (p ∷ ps) → ProgramsFit (with_programs book o (p ∷ [])) ps
others_fit book o p ps fit = record {
  names = subst (ArePrograms o.of) (sym (append_assoc o.programs (name_told p ∷ []) (map name_told ps))) fit.names;
  suit = subst (AllSuit o.of) (sym values) fit.suit;
  placed = subst (λ k. AreWithin k (o.held ++ (first ++ []))) (sym more) within;
  rounds = fit.rounds;
}
  where
    n : ℕ
    n = length o.programs

    first : List HeldValue
    first = objective_held n p.objective

    others : List (PropId × PropertyValue)
    others = flat_map (λ (q : SavedProgram). objective_of q.objective) ps

    values : map property_with_value (o.held ++ (first ++ [])) ++ others ≡ map property_with_value o.held ++ (objective_of p.objective ++ others)
    values =
        ap (λ t. map property_with_value (o.held ++ t) ++ others) (append-nil first)
        ∙ ap (λ t. t ++ others) (map_append property_with_value o.held first)
        ∙ append_assoc (map property_with_value o.held) (map property_with_value first) others
        ∙ ap (λ t. map property_with_value o.held ++ (t ++ others)) (value_of_objective n p.objective)

    add : (n : ℕ) → n + 1 ≡ suc n
    add n = omega arith

    more : length (o.programs ++ name_told p ∷ []) ≡ suc n
    more = length-append o.programs (name_told p ∷ []) ∙ add n

    within : AreWithin (suc n) (o.held ++ (first ++ []))
    within =
        list_all-append (λ (h : HeldValue). is_place (suc n) h.place) o.held (first ++ [])
        ∙ and_from (list_all (λ (h : HeldValue). is_place (suc n) h.place) o.held) (list_all (λ (h : HeldValue). is_place (suc n) h.place) (first ++ [])) (are_within_more n o.held fit.placed) (objective_within n p.objective)

-- ---- the whole
loaded_within : (stored : PropSet) (values : List (PropId × PropertyValue)) → AreWithin 0 (map (loaded_value stored) values)
loaded_within stored [] = refl
loaded_within stored (v ∷ values) = loaded_within stored values

values_loaded : (stored : PropSet) (values : List (PropId × PropertyValue)) → map property_with_value (map (loaded_value stored) values) ≡ values
values_loaded stored [] = refl
values_loaded stored (v ∷ values) = ap (λ t. v ∷ t) (values_loaded stored values)

-- the programs of a whole file fit an object of its values alone
pub programs_of_file : (f : SavedFile) (excluded : List Excluded) → IsWhole f → ProgramsFit (record (empty_object f.of) { held = map (loaded_value f.stored) f.values; excluded = excluded }) f.programs
programs_of_file f excluded whole = record {
  names = whole.programs;
  suit = subst (λ values. AllSuit f.of (values ++ flat_map (λ (p : SavedProgram). objective_of p.objective) f.programs)) (sym (values_loaded f.stored f.values)) whole.suit;
  placed = loaded_within f.stored f.values;
  rounds = refl;
}
