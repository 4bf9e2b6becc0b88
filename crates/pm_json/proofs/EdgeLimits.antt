-- Nodes that are read keep the limits, and edges have their form.
use Rattle.std.proofs.Common.{ap, subst, ◌≡◌, ◌≤◌, ◌<◌, ◌+◌, ◌&&◌, ℕ, zero, suc, true, List, [], ◌∷◌, length, map, get_or, Ok, Err, arith, cond, leb, ltb, refl}
use Rattle.std.proofs.lemmas.Bool.{and_from, and_parts, eq-eqb, leb-true, ltb-true}
use Rattle.std.specs.List.{list_all}
use Rattle.std.specs.Prelude.{nat_eq}
use Rattle.serde_json.specs.Data.{Data, Items, no_items, item}
use Rattle.pm_props.specs.Properties.{is_of_edges, value_kind}
use Rattle.pm_props.specs.declared.property.PropId.{PropId}
use Rattle.pm_props.specs.declared.property.ValueKind.TheVariants as kind
use Rattle.pm_types.specs.Forms.{are_indices, are_joined_back, is_edges_form, is_formed, is_sets_form}
use Rattle.pm_types.specs.Values.{PropertyValue, edges}
use Rattle.pm_json.proofs.Parts.{and_then-ok, same_Ok, then-ok}
use Rattle.pm_json.proofs.SetLimits.{all_below_above, form_of, set_keeps_limits}
use Rattle.pm_json.specs.Readings.{Read, above_sets, and_then, before, edges_of, edges_with, items_of, nodes_from, set_from}
use Rattle.pm_json.specs.declared.fail.ValueFail.TheVariants.{Index, Limit, Shape}
use Rattle.pm_limits.specs.Limits.{most_indices, most_rows}

pub record KeepsNodes (k : ℕ) (rows : List (List ℕ)) : Type 0 where
  pub few : k + length rows ≤ most_rows
  pub indices : list_all (are_indices most_indices 0) rows ≡ true

pub nodes_keep_limits : (k : ℕ) (ds : Items) (rows : List (List ℕ)) → k ≤ most_rows → nodes_from k ds ≡ Ok rows → KeepsNodes k rows
nodes_keep_limits k no_items rows h e = subst (KeepsNodes k) (same_Ok [] rows e) (record { few = omega arith; indices = refl })
nodes_keep_limits k (item d ds) rows h e =
    and_then-ok (items_of d) (λ es. cond (ltb k most_rows) (and_then (set_from [] es) (λ set. before set (nodes_from (suc k) ds))) (Err Limit)) rows e
    (λ es _ g. let p = then-ok (ltb k most_rows) (and_then (set_from [] es) (λ set. before set (nodes_from (suc k) ds))) Limit rows g in
    and_then-ok (set_from [] es) (λ set. before set (nodes_from (suc k) ds)) rows p.1
    (λ set is t. and_then-ok (nodes_from (suc k) ds) (λ more. Ok (set ∷ more)) rows t
    (λ more left u.
    let room = ltb-true k most_rows p.0 in
    let rest = nodes_keep_limits (suc k) ds more (omega arith) left in
    let few = rest.few in
    subst (KeepsNodes k) (same_Ok (set ∷ more) rows u)
    (record { few = omega arith; indices = and_from (are_indices most_indices 0 set) (list_all (are_indices most_indices 0) more) (set_keeps_limits [] es set is refl) rest.indices }))))

-- the form of edges, with the number of their nodes
with_nodes : (rows : List (List ℕ)) → is_edges_form rows ≡ true → (is_edges_form rows && nat_eq (length rows) (length rows)) ≡ true
with_nodes rows form = and_from (is_edges_form rows) (nat_eq (length rows) (length rows)) form (eq-eqb (length rows) (length rows) refl)

pub edges_formed : (p : PropId) → value_kind p ≡ kind.Edges → (d : Data) (v : PropertyValue) → edges_of d ≡ Ok v → is_formed p v ≡ true
edges_formed p is d v e =
    and_then-ok (items_of d) (λ ds. and_then (nodes_from 0 ds) edges_with) v e
    (λ ds _ f. and_then-ok (nodes_from 0 ds) edges_with v f
    (λ rows which g.
    let k = nodes_keep_limits 0 ds rows (omega arith) which in
    let few = k.few in
    let joined : Read PropertyValue = cond (are_joined_back rows 0 rows) (Ok (edges rows (length rows))) (Err Shape) in
    let p1 = then-ok (leb (above_sets rows) (length rows)) joined Index v g in
    let p2 = then-ok (are_joined_back rows 0 rows) (Ok (edges rows (length rows))) Shape v p1.1 in
    subst (λ w. is_formed p w ≡ true) (same_Ok (edges rows (length rows)) v p2.1)
    (and_from (is_of_edges (value_kind p)) (is_edges_form rows && nat_eq (length rows) (length rows)) (ap is_of_edges is)
    (with_nodes rows (and_from (is_sets_form rows (length rows)) (are_joined_back rows 0 rows)
    (form_of rows (length rows) (omega arith) (omega arith) (leb-true (above_sets rows) (length rows) p1.0) k.indices) p2.0)))))

-- ---- what was read, as it lies in memory
within_one : (n low : ℕ) (set : List ℕ) → are_indices n low set ≡ true → (k d : ℕ) → k < length set → get_or set k d < n
within_one n low [] h k d room = absurd (omega arith)
within_one n low (j ∷ set) h zero d room =
    let p = and_parts (leb low j && ltb j n) (are_indices n (suc j) set) h in
    ltb-true j n (and_parts (leb low j) (ltb j n) p.0).1
within_one n low (j ∷ set) h (suc k) d room =
    let p = and_parts (leb low j && ltb j n) (are_indices n (suc j) set) h in
    within_one n (suc j) set p.1 k d (omega arith)

within_all : {A : Type 0} (f : A → List ℕ) (n : ℕ) (xs : List A) → list_all (are_indices n 0) (map f xs) ≡ true → (k : ℕ) (d : A) → k < length xs → are_indices n 0 (f (get_or xs k d)) ≡ true
within_all f n [] h k d room = absurd (omega arith)
within_all f n (x ∷ xs) h zero d room = (and_parts (are_indices n 0 (f x)) (list_all (are_indices n 0) (map f xs)) h).0
within_all f n (x ∷ xs) h (suc k) d room = within_all f n xs (and_parts (are_indices n 0 (f x)) (list_all (are_indices n 0) (map f xs)) h).1 k d (omega arith)

-- each index is a node
pub nodes_within : {A : Type 0} (f : A → List ℕ) (n : ℕ) (xs : List A) → above_sets (map f xs) ≤ n → list_all (are_indices most_indices 0) (map f xs) ≡ true
    → (k : ℕ) (d : A) → k < length xs → (i e : ℕ) → i < length (f (get_or xs k d)) → get_or (f (get_or xs k d)) i e < n
nodes_within f n xs above h k d room i e inside =
    within_one n 0 (f (get_or xs k d)) (within_all f n xs (all_below_above n most_rows (map f xs) above h) k d room) i e inside

pub edges_have_form : (p : PropId) (rows : List (List ℕ)) → value_kind p ≡ kind.Edges → length rows ≤ most_rows → above_sets rows ≤ length rows → list_all (are_indices most_indices 0) rows ≡ true
    → are_joined_back rows 0 rows ≡ true → is_formed p (edges rows (length rows)) ≡ true
edges_have_form p rows is few above h joined =
    and_from (is_of_edges (value_kind p)) (is_edges_form rows && nat_eq (length rows) (length rows)) (ap is_of_edges is)
    (with_nodes rows (and_from (is_sets_form rows (length rows)) (are_joined_back rows 0 rows) (form_of rows (length rows) few few above h) joined))
