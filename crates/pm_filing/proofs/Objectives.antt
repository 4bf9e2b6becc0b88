-- Objectives: rows as values, and programs one after another.
use Rattle.std.proofs.Common.{ap, append-nil, append_assoc, arith, refl, sym, true, false, true≢false, ◌+◌, ◌++◌, ◌≡◌, ◌∙◌, ◌∷◌, ◌&&◌, List, [], Some, ℕ, suc, length}
use Rattle.std.proofs.lemmas.Bool.{and_parts, eqb-true}
use Rattle.std.proofs.lemmas.List.{length-append}
use Rattle.std.specs.List.{list_all}
use Rattle.std.specs.Prelude.{flat_map, map, nat_eq, nat_le}
use Rattle.pm_vector.specs.Numbers.{Ratio}
use Rattle.pm_files.specs.Files.{SavedProgram}
use Rattle.pm_filing.specs.Filing.{entries_of, mark_read, marks_of_programs, name_told, objective_held, objective_rows, objective_value, objectives_held, with_programs}
use Rattle.pm_object.specs.State.{State}
use Rattle.pm_props.specs.Properties.{is_of_matrices, value_kind}
use Rattle.pm_props.specs.declared.property.PropId.TheVariants.{LinearObjective}
use Rattle.pm_rules.specs.declared.rule.Rule.{Rule}
use Rattle.pm_types.specs.Forms.{is_column_count, is_formed, is_matrix_form, is_matrix_of, is_row_of_entries, rows_in}
use Rattle.pm_types.specs.Values.{PropertyValue, counts, edges, extended, lattice, matrix, sets, truth, whole}
use Rattle.pm_limits.specs.Limits.{most_rows}

-- ---- rows as values
row_entries : (n : ℕ) (rows : List (List Ratio)) → is_matrix_of LinearObjective n rows ≡ true → entries_of rows ≡ n
row_entries n [] h = absurd (true≢false (sym h))
row_entries n (r ∷ rows) h =
    let form = (and_parts (nat_eq (length (r ∷ rows)) 1) (is_matrix_form n (r ∷ rows)) h).1 in
    let all = (and_parts (nat_le (length (r ∷ rows)) most_rows && is_column_count (r ∷ rows) n) (list_all (is_row_of_entries n) (r ∷ rows)) form).1 in
    eqb-true (length r) n (and_parts (is_row_of_entries n r) (list_all (is_row_of_entries n) rows) all).0

pub value_of_rows : (n : ℕ) (rows : List (List Ratio)) → is_formed LinearObjective (matrix n rows) ≡ true → objective_value rows ≡ matrix n rows
value_of_rows n rows h = ap (λ k. matrix k rows) (row_entries n rows (and_parts (is_of_matrices (value_kind LinearObjective)) (is_matrix_of LinearObjective n rows) h).1)

-- a value in the form of an objective is that of its rows
pub objective_is : (v : PropertyValue) → is_formed LinearObjective v ≡ true → objective_value (rows_in v) ≡ v
objective_is (matrix n rows) h = value_of_rows n rows h
objective_is (sets rows n) h = absurd (true≢false (sym h))
objective_is (whole k) h = absurd (true≢false (sym h))
objective_is (truth b) h = absurd (true≢false (sym h))
objective_is (extended x) h = absurd (true≢false (sym h))
objective_is (edges rows n) h = absurd (true≢false (sym h))
objective_is (lattice ranks) h = absurd (true≢false (sym h))
objective_is (counts ks) h = absurd (true≢false (sym h))

pub rows_of_objective : (v : PropertyValue) → is_formed LinearObjective v ≡ true → objective_rows (Some v) ≡ Some (rows_in v)
rows_of_objective (matrix n rows) h = refl
rows_of_objective (sets rows n) h = absurd (true≢false (sym h))
rows_of_objective (whole k) h = absurd (true≢false (sym h))
rows_of_objective (truth b) h = absurd (true≢false (sym h))
rows_of_objective (extended x) h = absurd (true≢false (sym h))
rows_of_objective (edges rows n) h = absurd (true≢false (sym h))
rows_of_objective (lattice ranks) h = absurd (true≢false (sym h))
rows_of_objective (counts ks) h = absurd (true≢false (sym h))

-- ---- programs one after another
pub one_program : (book : List Rule) (o : State) (p : SavedProgram)
    → record o { held = o.held ++ objective_held (length o.programs) p.objective; excluded = o.excluded ++ flat_map (mark_read book (Some (length o.programs))) p.failed; programs = o.programs ++ name_told p ∷ [] } ≡ with_programs book o (p ∷ [])
one_program book o p =
    ap (λ t. record o { held = o.held ++ t; excluded = o.excluded ++ flat_map (mark_read book (Some (length o.programs))) p.failed; programs = o.programs ++ name_told p ∷ [] }) (sym (append-nil (objective_held (length o.programs) p.objective)))
    ∙ ap (λ t. record o { held = o.held ++ (objective_held (length o.programs) p.objective ++ []); excluded = o.excluded ++ t; programs = o.programs ++ name_told p ∷ [] }) (sym (append-nil (flat_map (mark_read book (Some (length o.programs))) p.failed)))

pub first_program : (book : List Rule) (o : State) (p : SavedProgram) (ps : List SavedProgram) → with_programs book (with_programs book o (p ∷ [])) ps ≡ with_programs book o (p ∷ ps)
first_program book o p ps =
    let n = length o.programs in
    let more : length (o.programs ++ name_told p ∷ []) ≡ suc n = length-append o.programs (name_told p ∷ []) ∙ add n in
    let first = objective_held n p.objective in
    let marks = flat_map (mark_read book (Some n)) p.failed in
    let names : (o.programs ++ name_told p ∷ []) ++ map name_told ps ≡ o.programs ++ name_told p ∷ map name_told ps = append_assoc o.programs (name_told p ∷ []) (map name_told ps) in
    ap (λ k. record o { held = (o.held ++ (first ++ [])) ++ objectives_held k ps; excluded = (o.excluded ++ (marks ++ [])) ++ marks_of_programs book k ps; programs = (o.programs ++ name_told p ∷ []) ++ map name_told ps }) more
    ∙ ap (λ t. record o { held = t; excluded = (o.excluded ++ (marks ++ [])) ++ marks_of_programs book (suc n) ps; programs = (o.programs ++ name_told p ∷ []) ++ map name_told ps })
    (append_assoc o.held (first ++ []) (objectives_held (suc n) ps) ∙ ap (λ t. o.held ++ (t ++ objectives_held (suc n) ps)) (append-nil first))
    ∙ ap (λ t. record o { held = o.held ++ (first ++ objectives_held (suc n) ps); excluded = t; programs = (o.programs ++ name_told p ∷ []) ++ map name_told ps })
    (append_assoc o.excluded (marks ++ []) (marks_of_programs book (suc n) ps) ∙ ap (λ t. o.excluded ++ (t ++ marks_of_programs book (suc n) ps)) (append-nil marks))
    ∙ ap (λ t. record o { held = o.held ++ (first ++ objectives_held (suc n) ps); excluded = o.excluded ++ (marks ++ marks_of_programs book (suc n) ps); programs = t }) names
  where
    add : (n : ℕ) → n + 1 ≡ suc n
    add n = omega arith

pub no_program : (book : List Rule) (o : State) → with_programs book o [] ≡ o
no_program book o =
    ap (λ t. record o { held = t; excluded = o.excluded ++ []; programs = o.programs ++ [] }) (append-nil o.held) ∙ ap (λ t. record o { excluded = t; programs = o.programs ++ [] }) (append-nil o.excluded)
    ∙ ap (λ t. record o { programs = t }) (append-nil o.programs)
