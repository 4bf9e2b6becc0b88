-- Sets that are read keep the limits.
use Rattle.std.proofs.Common.{refl, sym, subst, ◌≡◌, ◌≤◌, ◌<◌, ◌+◌, ℕ, suc, Bool, true, false, List, [], ◌∷◌, length, Option, Some, None, Ok, Err, arith, cond, eqb, leb, ltb, ◌&&◌}
use Rattle.std.proofs.lemmas.Bool.{and_from, and_parts, or_parts, eqb-false, le-leb, leb-true, lt-ltb, ltb-true, ltb-false, cond_both}
use Rattle.std.proofs.Math.Nat.{le-max_left, le-max_right}
use Rattle.std.specs.List.{list_all}
use Rattle.std.specs.Prelude.{is_some}
use Rattle.serde_json.specs.Data.{Data, Items, no_items, item}
use Rattle.serde_json.specs.Find.{as_object}
use Rattle.pm_types.specs.Forms.{are_indices, is_sets_form}
use Rattle.pm_types.specs.Values.{PropertyValue, sets}
use Rattle.pm_json.proofs.Parts.{same_Ok, err_ok, and_then-ok, then-ok, else-ok, either-ok}
use Rattle.pm_json.specs.Readings.{Read, and_then, cols_member, items_of, whole_number_of, index_below_limit, index_of, with_index, has_index, set_from, count_up_to_limit, count_of, stated_of, SetsSeen, before_sets, stated_last, sets_from, above_set, above_sets, sets_with}
use Rattle.pm_json.specs.declared.fail.ValueFail.TheVariants.{Shape, Index, Limit}
use lib.IntN.{ℤ, pos, negsuc}
use Rattle.pm_limits.specs.Limits.{most_indices, most_rows}

-- ---- one set
three : (a b c : Bool) → a ≡ true → b ≡ true → c ≡ true → (a && b && c) ≡ true
three a b c x y z = and_from (a && b) c (and_from a b x y) z

below_limit : (z : ℤ) (j : ℕ) → index_below_limit z ≡ Ok j → j < most_rows
below_limit (pos k) j e =
    let p = then-ok (ltb k most_rows) (Ok k) Limit j e in
    let same = same_Ok k j p.1 in
    let low = ltb-true k most_rows p.0 in
    omega arith
below_limit (negsuc k) j e = absurd (err_ok Index j e)

pub index_below : (d : Data) (j : ℕ) → index_of d ≡ Ok j → j < most_rows
index_below d j e = and_then-ok (whole_number_of d) index_below_limit j e (λ z _ f. below_limit z j f)

next : (k j : ℕ) → k ≤ j → (k ≡ j → ⊥) → suc k ≤ j
next k j h n = omega (arith, n)

pub indices_put : (n low j : ℕ) (set : List ℕ) → low ≤ j → j < n → has_index j set ≡ false → are_indices n low set ≡ true → are_indices n low (with_index j set) ≡ true
indices_put n low j [] above below other h = three (leb low j) (ltb j n) true (le-leb low j above) (lt-ltb j n below) refl
indices_put n low j (k ∷ set) above below other h =
    let o = or_parts (eqb k j) (has_index j set) other in
    let p = and_parts (leb low k && ltb k n) (are_indices n (suc k) set) h in
    let q = and_parts (leb low k) (ltb k n) p.0 in
    let differs = eqb-false k j o.0 in
    cond_both (ltb j k) (j ∷ k ∷ set) (k ∷ with_index j set) (λ s. are_indices n low s ≡ true)
    (λ less. let first = ltb-true j k less in
    three (leb low j) (ltb j n) (are_indices n (suc j) (k ∷ set)) (le-leb low j above) (lt-ltb j n below)
    (three (leb (suc j) k) (ltb k n) (are_indices n (suc k) set) (le-leb (suc j) k (omega arith)) q.1 p.1))
    (λ more. let after = ltb-false j k more in
    three (leb low k) (ltb k n) (are_indices n (suc k) (with_index j set)) q.0 q.1
    (indices_put n (suc k) j set (next k j after differs) below o.1 p.1))

pub set_keeps_limits : (set : List ℕ) (ds : Items) (out : List ℕ) → set_from set ds ≡ Ok out → are_indices most_indices 0 set ≡ true → are_indices most_indices 0 out ≡ true
set_keeps_limits set no_items out e h = subst (λ s. are_indices most_indices 0 s ≡ true) (same_Ok set out e) h
set_keeps_limits set (item d ds) out e h =
    and_then-ok (index_of d) (λ j. cond (has_index j set) (Err Shape) (set_from (with_index j set) ds)) out e
    (λ j is f. let p = else-ok (has_index j set) (set_from (with_index j set) ds) Shape out f in
    set_keeps_limits (with_index j set) ds out p.1 (indices_put most_rows 0 j set (omega arith) (index_below d j is) p.0 h))

-- ---- all sets
abbrev pub IsCount : Option ℕ → Type 0
IsCount None = Unit {0}
IsCount (Some n) = n ≤ most_rows

pub record KeepsLimits (k : ℕ) (s : SetsSeen) : Type 0 where
  pub few : k + length s.rows ≤ most_rows
  pub indices : list_all (are_indices most_indices 0) s.rows ≡ true
  pub count : IsCount s.stated

count_keeps_limit : (z : ℤ) (n : ℕ) → count_up_to_limit z ≡ Ok n → n ≤ most_rows
count_keeps_limit (pos k) n e =
    let p = then-ok (leb k most_rows) (Ok k) Limit n e in
    let same = same_Ok k n p.1 in
    let low = leb-true k most_rows p.0 in
    omega arith
count_keeps_limit (negsuc k) n e = absurd (err_ok Limit n e)

stated_keeps_limit : (d : Data) (n : ℕ) → stated_of d ≡ Ok n → n ≤ most_rows
stated_keeps_limit d n e =
    and_then-ok (cols_member d) count_of n e
    (λ c _ f. and_then-ok (whole_number_of c) count_up_to_limit n f (λ z _ g. count_keeps_limit z n g))

last_keeps_limits : (k : ℕ) (d : Data) (ds : Items) (s : SetsSeen) → k ≤ most_rows → stated_last d ds ≡ Ok s → KeepsLimits k s
last_keeps_limits k d no_items s h e =
    and_then-ok (stated_of d) (λ n. Ok (record { rows = []; stated = Some n })) s e
    (λ n is g. subst (KeepsLimits k) (same_Ok (record { rows = []; stated = Some n }) s g) (record { few = omega arith; indices = refl; count = stated_keeps_limit d n is }))
last_keeps_limits k d (item x ds) s h e = absurd (err_ok Shape s e)

sets_keep_limits_from : (k : ℕ) (ds : Items) (s : SetsSeen) → k ≤ most_rows → sets_from k ds ≡ Ok s → KeepsLimits k s
sets_keep_limits_from k no_items s h e = subst (KeepsLimits k) (same_Ok (record { rows = []; stated = None }) s e) (record { few = omega arith; indices = refl; count = tt })
sets_keep_limits_from k (item d ds) s h e =
    let others : Read SetsSeen = and_then (items_of d) (λ es. cond (ltb k most_rows) (and_then (set_from [] es) (λ set. before_sets set (sets_from (suc k) ds))) (Err Limit)) in
    either-ok (is_some (as_object d)) (stated_last d ds) others s e
    (λ f. last_keeps_limits k d ds s h f)
    (λ f. and_then-ok (items_of d) (λ es. cond (ltb k most_rows) (and_then (set_from [] es) (λ set. before_sets set (sets_from (suc k) ds))) (Err Limit)) s f
    (λ es _ g. let p = then-ok (ltb k most_rows) (and_then (set_from [] es) (λ set. before_sets set (sets_from (suc k) ds))) Limit s g in
    and_then-ok (set_from [] es) (λ set. before_sets set (sets_from (suc k) ds)) s p.1
    (λ set is t. and_then-ok (sets_from (suc k) ds) (λ more. Ok (record more { rows = set ∷ more.rows })) s t
    (λ more left u.
    let room = ltb-true k most_rows p.0 in
    let rest = sets_keep_limits_from (suc k) ds more (omega arith) left in
    let few = rest.few in
    subst (KeepsLimits k) (same_Ok (record more { rows = set ∷ more.rows }) s u)
    (record {
      few = omega arith;
      indices = and_from (are_indices most_indices 0 set) (list_all (are_indices most_indices 0) more.rows) (set_keeps_limits [] es set is refl) rest.indices;
      count = rest.count;
    })))))

-- ---- the column count
above_set_bound : (m low : ℕ) (set : List ℕ) → are_indices m low set ≡ true → above_set set ≤ m
above_set_bound m low [] h = omega arith
above_set_bound m low (j ∷ set) h =
    let p = and_parts (leb low j && ltb j m) (are_indices m (suc j) set) h in
    let q = and_parts (leb low j) (ltb j m) p.0 in
    let below = ltb-true j m q.1 in
    let rest = above_set_bound m (suc j) set p.1 in
    omega arith

below_above : (n m low : ℕ) (set : List ℕ) → above_set set ≤ n → are_indices m low set ≡ true → are_indices n low set ≡ true
below_above n m low [] a h = refl
below_above n m low (j ∷ set) a h =
    let p = and_parts (leb low j && ltb j m) (are_indices m (suc j) set) h in
    let q = and_parts (leb low j) (ltb j m) p.0 in
    let left = le-max_left (suc j) (above_set set) in
    let right = le-max_right (suc j) (above_set set) in
    three (leb low j) (ltb j n) (are_indices n (suc j) set) q.0 (lt-ltb j n (omega arith)) (below_above n m (suc j) set (omega arith) p.1)

pub above_sets_bound : (m : ℕ) (rows : List (List ℕ)) → list_all (are_indices m 0) rows ≡ true → above_sets rows ≤ m
above_sets_bound m [] h = omega arith
above_sets_bound m (set ∷ rows) h =
    let p = and_parts (are_indices m 0 set) (list_all (are_indices m 0) rows) h in
    let first = above_set_bound m 0 set p.0 in
    let rest = above_sets_bound m rows p.1 in
    omega arith

pub all_below_above : (n m : ℕ) (rows : List (List ℕ)) → above_sets rows ≤ n → list_all (are_indices m 0) rows ≡ true → list_all (are_indices n 0) rows ≡ true
all_below_above n m [] a h = refl
all_below_above n m (set ∷ rows) a h =
    let p = and_parts (are_indices m 0 set) (list_all (are_indices m 0) rows) h in
    let left = le-max_left (above_set set) (above_sets rows) in
    let right = le-max_right (above_set set) (above_sets rows) in
    and_from (are_indices n 0 set) (list_all (are_indices n 0) rows) (below_above n m 0 set (omega arith) p.0) (all_below_above n m rows (omega arith) p.1)

pub form_of : (rows : List (List ℕ)) (n : ℕ) → length rows ≤ most_rows → n ≤ most_rows → above_sets rows ≤ n → list_all (are_indices most_indices 0) rows ≡ true → is_sets_form rows n ≡ true
form_of rows n few count above h = three (leb (length rows) most_rows) (leb n most_rows) (list_all (are_indices n 0) rows) (le-leb (length rows) most_rows few) (le-leb n most_rows count) (all_below_above n most_rows rows above h)

abbrev pub IsSetsValue : PropertyValue → Type 0
IsSetsValue v = (rows : List (List ℕ)) × (n : ℕ) × (v ≡ sets rows n) × (is_sets_form rows n ≡ true)

value_of : (s : SetsSeen) (stated : Option ℕ) (v : PropertyValue) → length s.rows ≤ most_rows → list_all (are_indices most_indices 0) s.rows ≡ true → IsCount stated → sets_with s.rows stated ≡ Ok v → IsSetsValue v
value_of s None v few h count e =
    let bound = above_sets_bound most_rows s.rows h in
    (s.rows, above_sets s.rows, sym (same_Ok (sets s.rows (above_sets s.rows)) v e), form_of s.rows (above_sets s.rows) few bound (omega arith) h)
value_of s (Some n) v few h count e =
    let p = then-ok (leb (above_sets s.rows) n) (Ok (sets s.rows n)) Index v e in
    (s.rows, n, sym (same_Ok (sets s.rows n) v p.1), form_of s.rows n few count (leb-true (above_sets s.rows) n p.0) h)

pub sets_keep_limits : (ds : Items) (s : SetsSeen) (v : PropertyValue) → sets_from 0 ds ≡ Ok s → sets_with s.rows s.stated ≡ Ok v → IsSetsValue v
sets_keep_limits ds s v e f =
    let k = sets_keep_limits_from 0 ds s (omega arith) e in
    value_of s s.stated v (let few = k.few in omega arith) k.indices k.count f

pub above_sets_fits : (ds : Items) (s : SetsSeen) → sets_from 0 ds ≡ Ok s → above_sets s.rows ≤ most_rows
above_sets_fits ds s e = above_sets_bound most_rows s.rows (sets_keep_limits_from 0 ds s (omega arith) e).indices
