-- The form of the matrix of numbers of pairs of faces.
use Rattle.pm_vector.specs.Numbers.{InRange, Ratio}
use Rattle.pm_vector.specs.Rows.{HasCols, Row}
use Rattle.pm_clients_faces.proofs.FaceForms.{few_inner, inner_sizes}
use Rattle.pm_clients_faces.specs.Numbers.{f2_table, has_few_ranks}
use Rattle.pm_geom.specs.FaceCounts.{f2_entry, f2_of, inclusion_count, inner, inner_faces, is_within}
use Rattle.pm_graph.specs.Counts.{f2_matrix, whole}
use Rattle.pm_fraction.specs.Matrices.{FractionMatrix}
use Rattle.pm_object_type.specs.declared.object_type.ObjectType.TheVariants.{Cone, Fan, Polytope}
use Rattle.pm_object_type.specs.declared.object_type.ObjectType.{ObjectType}
use Rattle.pm_props.specs.declared.property.PropId.TheVariants.{F2Vector}
use Rattle.pm_types.proofs.WholeRows.{ratios_rows_fractions, ratios_rows_of_entries, ratios_rows_primitive}
use Rattle.pm_types.specs.Forms.{FormsIn, is_lattice_form, is_row, is_row_of_entries}
use Rattle.pm_types.specs.Runs.{states_rows}
use Rattle.pm_types.specs.Values.{matrix}
use Rattle.pm_types.specs.Views.{over_one, ratios}
use Rattle.std.proofs.Common.{ap₂, arith, refl, subst, suc, sym, zero, ◌∙◌}
use Rattle.std.proofs.lemmas.Bool.{and_from, eq-eqb, le-leb}
use Rattle.std.proofs.lemmas.List.{length-map}
use Rattle.std.proofs.lemmas.List.Elements.{All-head, All-map, All-nil, All-tail}
use Rattle.std.proofs.lemmas.List.FromFn.{length-map-range_with_len}
use Rattle.std.proofs.lemmas.List.Sums.{count_by-le-length, sum_by-le}
use Rattle.std.proofs.lemmas.Simd.{map-map}
use Rattle.std.specs.List.{All, count_by, list_all, range_with_len, slice_index_or}
use Rattle.std.specs.Prelude.{Bool, IsTrue, List, [], cond, false, get_or, if◌then◌else◌, length, map, nat_le, nat_lt, true, ℕ, ◌&&◌, ◌<◌, ◌^◌, ◌∷◌, ◌≡◌, ◌≤◌}
use lib.IntN.{pos}
use Rattle.pm_limits.specs.Limits.{most_columns, most_faces, most_rows}

-- ---- how many pairs there are
pairs_few : (lower upper : List (List ℕ)) → length lower ≤ most_faces → length upper ≤ most_faces → inclusion_count lower upper < 2 ^ 127
pairs_few lower upper l u =
    let most = sum_by-le (λ g. count_by (is_within g) upper) most_faces lower (λ i d below. let one = count_by-le-length (is_within (get_or lower i d)) upper in omega arith) in
    omega arith

size_at : (lists : List (List (List ℕ))) → All (λ faces. length faces ≤ most_faces) lists → (i : ℕ) → length (slice_index_or lists i []) ≤ most_faces
size_at [] h i = omega arith
size_at (faces ∷ lists) h zero = All-head (λ fs. length fs ≤ most_faces) faces lists h
size_at (faces ∷ lists) h (suc i) = size_at lists (All-tail (λ fs. length fs ≤ most_faces) faces lists h) i

entry_few : (ranks : List (List (List ℕ))) → All (λ faces. length faces ≤ most_faces) (inner ranks) → (i k : ℕ) → f2_entry ranks i k < 2 ^ 127
entry_few ranks h i k = by (nat_lt i k) (nat_lt k i)
  where
    si : length (inner_faces ranks i) ≤ most_faces
    si = size_at (inner ranks) h i

    sk : length (inner_faces ranks k) ≤ most_faces
    sk = size_at (inner ranks) h k

    by : (a b : Bool) → cond a (inclusion_count (inner_faces ranks i) (inner_faces ranks k)) (cond b (inclusion_count (inner_faces ranks k) (inner_faces ranks i)) (length (inner_faces ranks i))) < 2 ^ 127
    by true b = pairs_few (inner_faces ranks i) (inner_faces ranks k) si sk
    by false true = pairs_few (inner_faces ranks k) (inner_faces ranks i) sk si
    by false false = let l = si in omega arith

-- ---- whole rows
as_ratios : (table : List (List ℕ)) → map (map whole) table ≡ map ratios (map (map pos) table)
as_ratios [] = refl
as_ratios (row ∷ table) = ap₂ (λ r rs. r ∷ rs) (sym (map-map over_one pos row)) (as_ratios table)

row_cols : (d : ℕ) (entry : ℕ → ℕ → ℕ) (places : List ℕ) → HasCols d (map (map pos) (map (λ i. map (entry i) (range_with_len 0 d)) places))
row_cols d entry [] = tt
row_cols d entry (i ∷ places) = (length-map (map (entry i) (range_with_len 0 d)) pos ∙ length-map-range_with_len (entry i) 0 d, row_cols d entry places)

row_range : (d : ℕ) (entry : ℕ → ℕ → ℕ) (places : List ℕ) → ((i k : ℕ) → entry i k < 2 ^ 127) → All (All InRange) (map (map pos) (map (λ i. map (entry i) (range_with_len 0 d)) places))
row_range d entry places few =
    All-map (All InRange) (map pos) (map (λ i. map (entry i) (range_with_len 0 d)) places)
    (All-map (λ row. All InRange (map pos row)) (λ i. map (entry i) (range_with_len 0 d)) places
    (λ x y l. All-map InRange pos (map (entry (get_or places x y)) (range_with_len 0 d)) (All-map (λ k. InRange (pos k)) (entry (get_or places x y)) (range_with_len 0 d) (λ u w m. few (get_or places x y) (get_or (range_with_len 0 d) u w)))))

-- ---- the form of a square matrix
square_states : (d : ℕ) (rows : List (List Ratio)) → length rows ≡ d → IsTrue (states_rows (matrix d rows))
square_states d [] e = eq-eqb d 0 (sym e)
square_states d (r ∷ rows) e = refl

any_row : (of : ObjectType) (r : List Ratio) → is_row of F2Vector r ≡ true
any_row Polytope r = refl
any_row Cone r = refl
any_row Fan r = refl

any_rows : (of : ObjectType) (rows : List (List Ratio)) → list_all (is_row of F2Vector) rows ≡ true
any_rows of [] = refl
any_rows of (r ∷ rows) = and_from (is_row of F2Vector r) (list_all (is_row of F2Vector) rows) (any_row of r) (any_rows of rows)

square_forms : (of : ObjectType) (n d : ℕ) (N : List Row) → length N ≡ d → d ≤ most_columns → HasCols d N → All (All InRange) N → FormsIn of n F2Vector (matrix d (map ratios N)) × IsTrue (states_rows (matrix d (map ratios N)))
square_forms of n d N e few cols range =
    let count = length-map N ratios ∙ e in (
      record {
        formed = and_from (nat_le (length (map ratios N)) most_rows && nat_le d most_columns) (list_all (is_row_of_entries d) (map ratios N))
            (and_from (nat_le (length (map ratios N)) most_rows) (nat_le d most_columns) (le-leb (length (map ratios N)) most_rows (omega arith)) (le-leb d most_columns few)) (ratios_rows_of_entries d N cols);
        columns = refl;
        rows = any_rows of (map ratios N);
        entries = ratios_rows_fractions N range;
        primitive = ratios_rows_primitive N range;
      },
      square_states d (map ratios N) count,
    )

-- ---- the matrix that is put
abbrev HasForm : ObjectType → ℕ → FractionMatrix → Type 0
HasForm of n a = FormsIn of n F2Vector (matrix a.cols a.rows) × IsTrue (states_rows (matrix a.cols a.rows))

pub f2_table_form : (of : ObjectType) (n : ℕ) (ranks : List (List (List ℕ))) → is_lattice_form ranks ≡ true → FormsIn of n F2Vector (matrix (f2_table ranks).cols (f2_table ranks).rows) × IsTrue (states_rows (matrix (f2_table ranks).cols (f2_table ranks).rows))
f2_table_form of n ranks form = by (has_few_ranks ranks) refl
  where
    count : length (map (map pos) (f2_of ranks)) ≡ length (inner ranks)
    count = length-map (f2_of ranks) (map pos) ∙ length-map-range_with_len (λ i. map (f2_entry ranks i) (range_with_len 0 (length (inner ranks)))) 0 (length (inner ranks))

    by : (b : Bool) → has_few_ranks ranks ≡ b → HasForm of n (if b then f2_matrix ranks else record { cols = 0; rows = [] })
    by true few =
        let l = few_inner ranks few in
        let h = square_forms of n (length (inner ranks)) (map (map pos) (f2_of ranks)) count (omega arith) (row_cols (length (inner ranks)) (f2_entry ranks) (range_with_len 0 (length (inner ranks))))
        (row_range (length (inner ranks)) (f2_entry ranks) (range_with_len 0 (length (inner ranks))) (entry_few ranks (inner_sizes ranks form))) in
        subst (λ rows. FormsIn of n F2Vector (matrix (length (inner ranks)) rows) × IsTrue (states_rows (matrix (length (inner ranks)) rows))) (sym (as_ratios (f2_of ranks))) h
    by false many = square_forms of n 0 [] refl (omega arith) tt (All-nil (All InRange))
