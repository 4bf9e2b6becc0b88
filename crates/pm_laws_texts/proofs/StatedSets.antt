-- The first fault of sets whose column count may be stated behind them.
use Rattle.pm_json.proofs.Parts.{and_then-ok, err_ok, same_Ok, then-ok}
use Rattle.pm_json.specs.Readings.{Read, SetsSeen, above_sets, and_then, before_sets, cols_member, count_of, count_up_to_limit, items_of, object_behind, rows_before, set_from, sets_from, sets_of, sets_with, stated_last, stated_of, whole_number_of}
use Rattle.pm_json.specs.declared.fail.ValueFail.{ValueFail}
use Rattle.pm_json.specs.declared.fail.ValueFail.TheVariants.{Index, Limit, Shape}
use Rattle.pm_laws_texts.proofs.FirstOfValue.{AtFirst, AtRest, array_tells, at_items, items_tell, made_tells, moved, same_tells, shape_least, then_tells}
use Rattle.pm_laws_texts.proofs.Lists.{AreReadAs, high_index, no_high_index, one_read}
use Rattle.pm_laws_texts.proofs.Matrices.{AtPlace, FindsLeast, Judges, cols_judges, place_tells, same_order}
use Rattle.pm_laws_texts.proofs.Rows.{before_end, row_then}
use Rattle.pm_laws_texts.proofs.Sets.{listed_tells}
use Rattle.pm_laws_texts.specs.ValueFaults.{HasAbove, IsBeyond, IsCols, NoCols, OfHighIndex, OfListed, OfSets, OfSetsBehind}
use Rattle.pm_laws_texts.specs.Places.{AtItem, CountsFirst, IsFirst, Tells, count, order}
use Rattle.pm_limits.specs.Limits.{most_rows}
use Rattle.pm_types.specs.Values.{sets}
use Rattle.serde_json.specs.Data.{Data, Items, Members, array, boolean, item, no_items, null, number, object, string}
use Rattle.serde_json.specs.Find.{as_object}
use Rattle.std.proofs.Common.{ap, arith, cond, false, inl, inr, ltb, refl, subst, sym, true, ◌∙◌}
use Rattle.std.proofs.lemmas.Bool.{leb-false, leb-true}
use Rattle.std.specs.Prelude.{Bool, Err, List, None, Ok, Option, Some, [], if◌then◌else◌, is_some, nat_le, nat_lt, suc, zero, ℕ, ◌+◌, ◌≡◌, ◌≤◌, ◌⊎◌, ◌∷◌}
use lib.IntN.{ℤ, negsuc, pos}

-- ---- the column count
-- faults of {"cols":n}
abbrev NoCount : Data → ValueFail → Type 0
NoCount d f = NoCols d f ⊎ ((z : ℤ) × IsCols d z × (f ≡ Limit) × IsBeyond 0 most_rows z)

abbrev JudgesCount : Data → Read ℕ → Type 0
JudgesCount d (Ok n) = IsCols d (pos n) × ((z : ℤ) → IsCols d z → z ≡ pos n) × ((g : ValueFail) → ¬ (NoCount d g))
JudgesCount d (Err f) = NoCount d f × ((g : ValueFail) → NoCount d g → order f ≤ order g)

count_judges : (d : Data) → JudgesCount d (stated_of d)
count_judges d = subst (JudgesCount d) (sym (joined (cols_member d))) (go (and_then (cols_member d) whole_number_of) (cols_judges d))
  where
    joined : (read : Read Data) → and_then read count_of ≡ and_then (and_then read whole_number_of) count_up_to_limit
    joined (Ok e) = refl
    joined (Err f) = refl

    at : (z : ℤ) → IsCols d z → ((y : ℤ) → IsCols d y → y ≡ z) → ((g : ValueFail) → ¬ (NoCols d g)) → JudgesCount d (count_up_to_limit z)
    at (negsuc n) is only none = (
      inr (negsuc n, is, refl, tt),
      λ g h. elim h [
        | inl x ↦ absurd (none g x)
        | inr y ↦ same_order Limit g y.2
      ],
    )
    at (pos n) is only none = test (nat_le n most_rows) refl
      where
        test : (b : Bool) → nat_le n most_rows ≡ b → JudgesCount d (if b then Ok n else Err Limit)
        test true e = (
          is,
          only,
          λ g h. elim h [
            | inl x ↦ none g x
            | inr y ↦ elim (subst (IsBeyond 0 most_rows) (only y.0 y.1) y.3) [
              | inl low ↦ omega arith
              | inr high ↦ (let l = leb-true n most_rows e in omega arith)
            ]
          ],
        )
        test false e = (
          inr (pos n, is, refl, inr (leb-false n most_rows e)),
          λ g h. elim h [
            | inl x ↦ absurd (none g x)
            | inr y ↦ same_order Limit g y.2
          ],
        )

    go : (read : Read ℤ) → Judges (IsCols d) (NoCols d) read → JudgesCount d (and_then read count_up_to_limit)
    go (Ok z) (is, only, none) = at z is only none
    go (Err f) (is, only, none) = (
      inl is,
      λ g h. elim h [
        | inl x ↦ same_order f g (only g x)
        | inr y ↦ absurd (none y.0 y.1)
      ],
    )

count_finds : (d : Data) (make : ℕ → SetsSeen) → FindsLeast (NoCount d) (and_then (stated_of d) (λ n. Ok (make n)))
count_finds d make = by (stated_of d) (count_judges d)
  where
    by : (read : Read ℕ) → JudgesCount d read → FindsLeast (NoCount d) (and_then read (λ n. Ok (make n)))
    by (Ok n) (is, only, none) = none
    by (Err f) (is, least) = (is, least)

-- a column count alone
abbrev only_stated : ℕ → SetsSeen
only_stated n = record { rows = []; stated = Some n }

-- ---- sets, and then maybe the column count
abbrev OfSetsFrom : (ℕ → ℕ) → Items → Option Data → List ℕ → ValueFail → Type 0
OfSetsFrom m rows behind r f = AtItem (λ j. OfListed (m j)) rows r f ⊎ OfSetsBehind rows behind r f

never_empty : (m : ℕ → ℕ) (rows : Items) (behind : Option Data) (f : ValueFail) → ¬ (OfSetsFrom m rows behind [] f)
never_empty m rows behind f (inl h) = h
never_empty m rows None f (inr h) = h
never_empty m rows (Some d) f (inr h) = let e = h.0 in cc

split : (m : ℕ → ℕ) (d : Data) (rows : Items) (behind : Option Data) (r : List ℕ) (f : ValueFail) → OfSetsFrom m (item d rows) behind r f → AtFirst (OfListed (m 0) d) r f ⊎ AtRest (OfSetsFrom (λ j. m (suc j)) rows behind) r f
split m d rows behind r f (inl h) = elim (at_items (λ j. OfListed (m j)) d rows r f h) [
  | inl x ↦ inl x
  | inr y ↦ inr (rest_of r y)
]
  where
    rest_of : (r : List ℕ) → AtRest (AtItem (λ j. OfListed (m (suc j))) rows) r f → AtRest (OfSetsFrom (λ j. m (suc j)) rows behind) r f
    rest_of [] y = y
    rest_of (zero ∷ r) y = y
    rest_of (suc i ∷ r) y = inl y
split m d rows None r f (inr h) = absurd h
split m d rows (Some b) r f (inr h) = inr (subst (λ z. AtRest (OfSetsFrom (λ j. m (suc j)) rows (Some b)) z f) (sym h.0) (inr (refl, h.1)))

more : (m : ℕ → ℕ) (d : Data) (rows : Items) (behind : Option Data) (i : ℕ) (r : List ℕ) (f : ValueFail) → OfSetsFrom (λ j. m (suc j)) rows behind (i ∷ r) f → OfSetsFrom m (item d rows) behind (suc i ∷ r) f
more m d rows behind i r f (inl h) = inl h
more m d rows None i r f (inr h) = absurd h
more m d rows (Some b) i r f (inr h) = inr (ap moved h.0, h.1)

object_or : (d : Data) → ((ms : Members) × (d ≡ object ms)) ⊎ (is_some (as_object d) ≡ false)
object_or null = inr refl
object_or (boolean b) = inr refl
object_or (number n) = inr refl
object_or (string s) = inr refl
object_or (array ds) = inr refl
object_or (object ms) = inl (ms, refl)

-- one set and then the rest, where it is no object
one_more : (k : ℕ) (d : Data) (ds rows : Items) (behind : Option Data) (m : ℕ → ℕ) → ((j : ℕ) → m j ≡ k + j) → Tells (OfSetsFrom (λ j. m (suc j)) rows behind) (sets_from (suc k) ds)
    → Tells (OfSetsFrom m (item d rows) behind) (and_then (items_of d) (λ es. if nat_lt k most_rows then and_then (set_from [] es) (λ set. before_sets set (sets_from (suc k) ds)) else Err Limit))
one_more k d ds rows behind m at told =
    let here : k ≡ m 0 = (let e = at 0 in omega arith) in
    subst (λ z. Tells (OfSetsFrom m (item d rows) behind) z) (sym (row_then (items_of d) (nat_lt k most_rows) (set_from []) (λ set. before_sets set (sets_from (suc k) ds))))
    (items_tell (OfListed (m 0) d) (OfSetsFrom (λ j. m (suc j)) rows behind) (OfSetsFrom m (item d rows) behind)
    (and_then (items_of d) (λ es. if nat_lt k most_rows then set_from [] es else Err Limit)) (λ set. before_sets set (sets_from (suc k) ds))
    (split m d rows behind) (λ r f h. inl (d, refl, h)) (more m d rows behind) (never_empty (λ j. m (suc j)) rows behind)
    (subst (λ n. Tells (OfListed n d) (and_then (items_of d) (λ es. if nat_lt k most_rows then set_from [] es else Err Limit))) here (listed_tells k d))
    (λ set is. made_tells (OfSetsFrom (λ j. m (suc j)) rows behind) (sets_from (suc k) ds) (λ (s : SetsSeen). record s { rows = set ∷ s.rows }) told))

-- an object that is not last
object_first : (m : ℕ → ℕ) (ms : Members) (rows : Items) (behind : Option Data) → IsFirst (OfSetsFrom m (item (object ms) rows) behind) (0 ∷ []) Shape
object_first m ms rows behind = record { stands = inl (object ms, refl, inl (refl, refl)); first = λ s g h. first s g (split m (object ms) rows behind s g h) }
  where
    first : (s : List ℕ) (g : ValueFail) → AtFirst (OfListed (m 0) (object ms)) s g ⊎ AtRest (OfSetsFrom (λ j. m (suc j)) rows behind) s g → CountsFirst (0 ∷ []) Shape s g
    first [] g (inl h) = absurd h
    first [] g (inr h) = absurd h
    first (zero ∷ s) g (inr h) = absurd h
    first (suc i ∷ s) g (inl h) = absurd h
    first (suc i ∷ s) g (inr h) = inl (inl (omega arith))
    first (zero ∷ []) g (inl h) = inr (refl, shape_least g)
    first (zero ∷ j ∷ s) g (inl h) = inl (inr (refl, tt))

sets_tell_from : (k : ℕ) (ds : Items) (m : ℕ → ℕ) → ((j : ℕ) → m j ≡ k + j) → Tells (OfSetsFrom m (rows_before ds) (object_behind ds)) (sets_from k ds)
sets_tell_from k no_items m at = none
  where
    none : (r : List ℕ) (f : ValueFail) → ¬ (OfSetsFrom m no_items None r f)
    none [] f (inl h) = h
    none (i ∷ r) f (inl h) = let e = h.1 in cc
    none r f (inr h) = h
sets_tell_from k (item d no_items) m at = elim (object_or d) [
  | inl o ↦ subst (λ e. Tells (OfSetsFrom m (rows_before (item e no_items)) (object_behind (item e no_items))) (sets_from k (item e no_items))) (sym o.1) (last o.0)
  | inr o ↦
      subst (λ b. Tells (OfSetsFrom m (if b then no_items else item d no_items) (if b then Some d else None)) (if b then stated_last d no_items else and_then (items_of d) (λ es. if nat_lt k most_rows then and_then (set_from [] es) (λ set. before_sets set (sets_from (suc k) no_items)) else Err Limit))) (sym o)
      (one_more k d no_items no_items None m at (sets_tell_from (suc k) no_items (λ j. m (suc j)) (λ j. (let e = at (suc j) in omega arith))))
]
  where
    last : (ms : Members) → Tells (OfSetsFrom m no_items (Some (object ms))) (and_then (stated_of (object ms)) (λ n. Ok (only_stated n)))
    last ms =
        same_tells (AtPlace (0 ∷ []) (NoCount (object ms))) (OfSetsFrom m no_items (Some (object ms))) (and_then (stated_of (object ms)) (λ n. Ok (only_stated n)))
        (λ r f h. inr h) back (place_tells (0 ∷ []) (NoCount (object ms)) (and_then (stated_of (object ms)) (λ n. Ok (only_stated n))) (count_finds (object ms) (λ n. only_stated n)))
      where
        back : (r : List ℕ) (f : ValueFail) → OfSetsFrom m no_items (Some (object ms)) r f → AtPlace (0 ∷ []) (NoCount (object ms)) r f
        back [] f (inl h) = absurd h
        back (i ∷ r) f (inl h) = let e = h.1 in cc
        back r f (inr h) = h
sets_tell_from k (item d (item e ds)) m at = elim (object_or d) [
  | inl o ↦ subst (λ c. Tells (OfSetsFrom m (item c (rows_before (item e ds))) (object_behind (item e ds))) (sets_from k (item c (item e ds)))) (sym o.1) (0 ∷ [], object_first m o.0 (rows_before (item e ds)) (object_behind (item e ds)))
  | inr o ↦
      subst (λ b. Tells (OfSetsFrom m (item d (rows_before (item e ds))) (object_behind (item e ds))) (if b then stated_last d (item e ds) else and_then (items_of d) (λ es. if nat_lt k most_rows then and_then (set_from [] es) (λ set. before_sets set (sets_from (suc k) (item e ds))) else Err Limit))) (sym o)
      (one_more k d (item e ds) (rows_before (item e ds)) (object_behind (item e ds)) m at (sets_tell_from (suc k) (item e ds) (λ j. m (suc j)) (λ j. (let f = at (suc j) in omega arith))))
]

-- ---- what was read
abbrev StatesAs : Option Data → Option ℕ → Type 0
StatesAs None None = Unit {0}
StatesAs (Some d) (Some n) = IsCols d (pos n) × ((z : ℤ) → IsCols d z → z ≡ pos n)
StatesAs None (Some n) = ⊥
StatesAs (Some d) None = ⊥

record AreSetsAs (ds : Items) (s : SetsSeen) : Type 0 where
  read : AreReadAs (rows_before ds) s.rows
  states : StatesAs (object_behind ds) s.stated

count_read : (d : Data) (n : ℕ) → stated_of d ≡ Ok n → IsCols d (pos n) × ((z : ℤ) → IsCols d z → z ≡ pos n)
count_read d n e = let (is, only, none) = subst (JudgesCount d) e (count_judges d) in (is, only)

sets_read : (k : ℕ) (ds : Items) (s : SetsSeen) → sets_from k ds ≡ Ok s → AreSetsAs ds s
sets_read k no_items s e = subst (AreSetsAs no_items) (same_Ok (record { rows = []; stated = None }) s e) (record { read = tt; states = tt })
sets_read k (item d no_items) s e = elim (object_or d) [
  | inl o ↦ last o.0 o.1
  | inr o ↦
      let f : and_then (items_of d) (λ es. if nat_lt k most_rows then and_then (set_from [] es) (λ set. before_sets set (sets_from (suc k) no_items)) else Err Limit) ≡ Ok s =
      subst (λ b. (let r : Read SetsSeen = if b then stated_last d no_items else and_then (items_of d) (λ es. if nat_lt k most_rows then and_then (set_from [] es) (λ set. before_sets set (sets_from (suc k) no_items)) else Err Limit) in r) ≡ Ok s) o e in
      and_then-ok (items_of d) (λ es. cond (ltb k most_rows) (and_then (set_from [] es) (λ set. before_sets set (sets_from (suc k) no_items))) (Err Limit)) s f
      (λ es is g. let p = then-ok (ltb k most_rows) (and_then (set_from [] es) (λ set. before_sets set (sets_from (suc k) no_items))) Limit s g in
      and_then-ok (set_from [] es) (λ set. before_sets set (sets_from (suc k) no_items)) s p.1
      (λ set made h.
      subst (AreSetsAs (item d no_items)) (same_Ok (record { rows = set ∷ []; stated = None }) s h)
      (subst (λ b. (let w : SetsSeen = record { rows = set ∷ []; stated = None } in AreReadAs (if b then no_items else item d no_items) w.rows × StatesAs (if b then Some d else None) w.stated → AreSetsAs (item d no_items) w)) o (λ parts. record { read = parts.0; states = parts.1 })
      ((one_read d set (ap (λ r. and_then r (set_from [])) is ∙ made), tt), tt))))
]
  where
    last : (ms : Members) → d ≡ object ms → AreSetsAs (item d no_items) s
    last ms is =
        subst (λ c. AreSetsAs (item c no_items) s) (sym is)
        (and_then-ok (stated_of (object ms)) (λ n. Ok (only_stated n)) s (subst (λ c. sets_from k (item c no_items) ≡ Ok s) is e)
        (λ n told made. subst (AreSetsAs (item (object ms) no_items)) (same_Ok (only_stated n) s made) (record { read = tt; states = count_read (object ms) n told })))
sets_read k (item d (item c ds)) s e = elim (object_or d) [
  | inl o ↦ absurd (err_ok Shape s (subst (λ x. sets_from k (item x (item c ds)) ≡ Ok s) o.1 e))
  | inr o ↦
      let f : and_then (items_of d) (λ es. if nat_lt k most_rows then and_then (set_from [] es) (λ set. before_sets set (sets_from (suc k) (item c ds))) else Err Limit) ≡ Ok s =
      subst (λ b. (let r : Read SetsSeen = if b then stated_last d (item c ds) else and_then (items_of d) (λ es. if nat_lt k most_rows then and_then (set_from [] es) (λ set. before_sets set (sets_from (suc k) (item c ds))) else Err Limit) in r) ≡ Ok s) o e in
      and_then-ok (items_of d) (λ es. cond (ltb k most_rows) (and_then (set_from [] es) (λ set. before_sets set (sets_from (suc k) (item c ds)))) (Err Limit)) s f
      (λ es is g. let p = then-ok (ltb k most_rows) (and_then (set_from [] es) (λ set. before_sets set (sets_from (suc k) (item c ds)))) Limit s g in
      and_then-ok (set_from [] es) (λ set. before_sets set (sets_from (suc k) (item c ds))) s p.1
      (λ set made h. and_then-ok (sets_from (suc k) (item c ds)) (λ (t : SetsSeen). Ok (record t { rows = set ∷ t.rows })) s h
      (λ t left j.
      let rest = sets_read (suc k) (item c ds) t left in
      subst (AreSetsAs (item d (item c ds))) (same_Ok (record t { rows = set ∷ t.rows }) s j)
      (record { read = (one_read d set (ap (λ r. and_then r (set_from [])) is ∙ made), rest.read); states = rest.states }))))
]

-- ---- the last test
high_tells : (rows : Items) (behind : Option Data) (sets_there : List (List ℕ)) (stated : Option ℕ) → AreReadAs rows sets_there → StatesAs behind stated → Tells (OfHighIndex rows behind) (sets_with sets_there stated)
high_tells rows None sets_there None read states = λ r f h. h
high_tells rows None sets_there (Some n) read states = absurd states
high_tells rows (Some d) sets_there None read states = absurd states
high_tells rows (Some d) sets_there (Some n) read states = by (nat_le (above_sets sets_there) n) refl
  where
    by : (b : Bool) → nat_le (above_sets sets_there) n ≡ b → Tells (OfHighIndex rows (Some d)) (if b then Ok (sets sets_there n) else Err Index)
    by true e = λ r f h. (let (m, is, above) = h.2 in let same : m ≡ n = same_pos (states.1 (pos m) is) in no_high_index n rows sets_there read (leb-true (above_sets sets_there) n e) (subst (HasAbove rows) same above))
      where
        same_pos : {i j : ℕ} → pos i ≡ pos j → i ≡ j
        same_pos h = cc
    by false e = (suc (count rows) ∷ [], record { stands = (refl, refl, (n, states.0, high_index n rows sets_there read (leb-false (above_sets sets_there) n e))); first = λ s g h. inr (sym h.0, same_order Index g h.1) })

-- what stands before the last test
before_high : (m : ℕ → ℕ) (rows : Items) (behind : Option Data) (r : List ℕ) (f : ValueFail) (s : List ℕ) (g : ValueFail) → OfSetsFrom m rows behind r f → OfHighIndex rows behind s g → CountsFirst r f s g
before_high m rows None r f s g h k = absurd k
before_high m rows (Some d) r f s g (inl h) k = earlier r (before_end (λ j. OfListed (m j)) rows r f (count rows ∷ []) g h refl)
  where
    first_same : (i j : ℕ) (r s : List ℕ) → i ∷ r ≡ j ∷ s → i ≡ j
    first_same i j r s h = cc

    earlier : (r : List ℕ) → CountsFirst r f (count rows ∷ []) g → CountsFirst r f s g
    earlier [] c = subst (λ z. CountsFirst [] f z g) (sym k.0) (inl tt)
    earlier (i ∷ r) (inl (inl l)) = subst (λ z. CountsFirst (i ∷ r) f z g) (sym k.0) (inl (inl (omega arith)))
    earlier (i ∷ r) (inl (inr e)) = subst (λ z. CountsFirst (i ∷ r) f z g) (sym k.0) (inl (inl (let same = e.0 in omega arith)))
    earlier (i ∷ r) (inr e) = subst (λ z. CountsFirst (i ∷ r) f z g) (sym k.0) (inl (inl (let same : i ≡ count rows = first_same i (count rows) r [] e.0 in omega arith)))
before_high m rows (Some d) r f s g (inr h) k = subst (λ z. CountsFirst z f s g) (sym h.0) (subst (λ z. CountsFirst (count rows ∷ []) f z g) (sym k.0) (inl (inl (omega arith))))

pub sets_tell : (d : Data) → Tells (OfSets d) (sets_of d)
sets_tell d =
    array_tells (λ ds s g. (AtItem OfListed (rows_before ds) s g ⊎ OfSetsBehind (rows_before ds) (object_behind ds) s g) ⊎ OfHighIndex (rows_before ds) (object_behind ds) s g) d (λ ds. and_then (sets_from 0 ds) (λ s. sets_with s.rows s.stated))
    (λ ds is. then_tells (OfSetsFrom (λ j. j) (rows_before ds) (object_behind ds)) (OfHighIndex (rows_before ds) (object_behind ds)) (λ s g. (AtItem OfListed (rows_before ds) s g ⊎ OfSetsBehind (rows_before ds) (object_behind ds) s g) ⊎ OfHighIndex (rows_before ds) (object_behind ds) s g)
    (sets_from 0 ds) (λ s. sets_with s.rows s.stated)
    (record { split = λ r f h. h; first = λ r f h. inl h; rest = λ r f h. inr h; before = before_high (λ j. j) (rows_before ds) (object_behind ds) })
    (sets_tell_from 0 ds (λ j. j) (λ j. omega arith))
    (λ s made. let w = sets_read 0 ds s made in high_tells (rows_before ds) (object_behind ds) s.rows s.stated w.read w.states))
