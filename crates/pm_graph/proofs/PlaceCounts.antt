-- Pairs of faces counted by the columns of their indices.
use Rattle.pm_vector.proofs.Lists.{Among, among_All, here, there}
use Rattle.pm_bits.specs.Sets.{has, member_count}
use Rattle.pm_geom.specs.FaceCounts.{inclusion_count, is_within}
use Rattle.pm_geom.specs.Graphs.{holds}
use Rattle.pm_graph.specs.Counts.{IsMeetOfColumns, lower_count, place_count}
use Rattle.pm_graph.specs.Levels.{AreBelow}
use Rattle.pm_graph.specs.Tables.{AreColumnsOf}
use Rattle.std.proofs.Common.{ap, ap₂, arith, get_or, refl, sym, ◌∙◌}
use Rattle.std.proofs.lemmas.Bool.Decides.{nat_tests}
use Rattle.std.proofs.lemmas.List.{map-append}
use Rattle.std.proofs.lemmas.List.FromFn.{map-range_with_len_more}
use Rattle.std.proofs.lemmas.List.Sums.{count_by-le-length, sum_by-cons, sum_by_more}
use Rattle.std.specs.List.{All, count_by, list_all, range_with_len, slice_index_or, sum_by}
use Rattle.std.specs.Prelude.{Bool, List, [], cond, false, length, map, nat_lt, suc, take, true, zero, ℕ, ◌+◌, ◌++◌, ◌<◌, ◌&&◌, ◌∷◌, ◌≡◌, ◌≤◌}

-- ---- sums and counts of what is equal at each element
sum_agrees : {X : Type 0} (f g : X → ℕ) (xs : List X) → ((x : X) → Among x xs → f x ≡ g x) → sum_by f xs ≡ sum_by g xs
sum_agrees f g [] h = refl
sum_agrees f g (x ∷ xs) h = sum_by-cons f x xs ∙ ap₂ (λ a b. a + b) (h x here) (sum_agrees f g xs (λ y i. h y (there i))) ∙ sym (sum_by-cons g x xs)

count_agrees : {X : Type 0} (p q : X → Bool) (xs : List X) → ((x : X) → Among x xs → p x ≡ q x) → count_by p xs ≡ count_by q xs
count_agrees p q xs h = sum_agrees (λ x. cond (p x) 1 0) (λ x. cond (q x) 1 0) xs (λ x i. ap (λ b. cond b 1 0) (h x i))

all_agrees : {X : Type 0} (p q : X → Bool) (xs : List X) → ((x : X) → Among x xs → p x ≡ q x) → list_all p xs ≡ list_all q xs
all_agrees p q [] h = refl
all_agrees p q (x ∷ xs) h = ap₂ (λ a b. a && b) (h x here) (all_agrees p q xs (λ y i. h y (there i)))

pub range_among : (a n : ℕ) {x : ℕ} → Among x (range_with_len a n) → (a ≤ x) × (x < a + n)
range_among a zero i = elim i [ ]
range_among a (suc n) here = (omega arith, omega arith)
range_among a (suc n) (there i) = let w = range_among (a + 1) n i in ((let l = w.0 in omega arith), (let l = w.1 in omega arith))

-- places of a list counted as its elements
count_of_list : {X : Type 0} (q : X → Bool) (g : ℕ → X) (xs : List X) (a : ℕ) (d : X) → ((i : ℕ) → i < length xs → g (a + i) ≡ get_or xs i d) → count_by (λ x. q (g x)) (range_with_len a (length xs)) ≡ count_by q xs
count_of_list q g [] a d h = refl
count_of_list q g (x ∷ xs) a d h =
    let z : a ≡ a + 0 = omega arith in
    sum_by-cons (λ y. cond (q (g y)) 1 0) a (range_with_len (a + 1) (length xs))
    ∙ ap₂ (λ b n. cond (q b) 1 0 + n) (ap g z ∙ h 0 (omega arith)) (count_of_list q g xs (a + 1) d (λ i l. let e : a + 1 + i ≡ a + suc i = omega arith in ap g e ∙ h (suc i) (omega arith)))
    ∙ sym (sum_by-cons (λ y. cond (q y) 1 0) x xs)

-- ---- the members of a meet of columns
pub meet_count : (columns : List (List Bool)) (face : List ℕ) (row : List Bool) (n : ℕ) → length row ≡ n → IsMeetOfColumns columns face row → member_count row ≡ count_by (λ x. list_all (λ j. has (slice_index_or columns j []) x) face) (range_with_len 0 n)
meet_count columns face row n e m =
    ap (λ k. count_by (has row) (range_with_len 0 k)) e
    ∙ count_agrees (has row) (λ x. list_all (λ j. has (slice_index_or columns j []) x) face) (range_with_len 0 n) (λ x i. m x (let w = range_among 0 n i in let l = w.1 in omega arith))

pub place_count_more : (columns : List (List Bool)) (n k total count : ℕ) (lower : List (List ℕ)) (face : List ℕ) (row : List Bool) → k < length lower → face ≡ slice_index_or lower k [] → total ≡ place_count columns n (take k lower) → length row ≡ n → IsMeetOfColumns columns face row → count ≡ member_count row → total + count ≡ place_count columns n (take (k + 1) lower)
place_count_more columns n k total count lower face row l ef et er m ec =
    let f : List ℕ → ℕ = λ (g : List ℕ). count_by (λ x. list_all (λ j. has (slice_index_or columns j []) x) g) (range_with_len 0 n) in
    ap₂ (λ a b. a + b) et (ec ∙ meet_count columns face row n er m ∙ ap (λ (g : List ℕ). count_by (λ x. list_all (λ j. has (slice_index_or columns j []) x) g) (range_with_len 0 n)) ef)
    ∙ sym (sum_by_more (λ (g : List ℕ). count_by (λ x. list_all (λ j. has (slice_index_or columns j []) x) g) (range_with_len 0 n)) lower k [] l)

length-range : (a n : ℕ) → length (range_with_len a n) ≡ n
length-range a zero = refl
length-range a (suc n) = let h = length-range (a + 1) n in omega arith

pub count_bound : (row : List Bool) (n : ℕ) → length row ≡ n → member_count row ≤ n
count_bound row n e = let a = count_by-le-length (has row) (range_with_len 0 (length row)) in let b = length-range 0 (length row) in omega arith

-- ---- the pairs of faces of two lists
pub places_are_faces : (columns : List (List Bool)) (upper lower : List (List ℕ)) (len : ℕ) → AreColumnsOf len upper columns → AreBelow len lower → place_count columns (length upper) lower ≡ inclusion_count lower upper
places_are_faces columns upper lower len a b = sum_agrees (λ face. count_by (λ x. list_all (λ j. has (slice_index_or columns j []) x) face) (range_with_len 0 (length upper))) (λ g. count_by (is_within g) upper) lower (λ face i.
    count_agrees (λ x. list_all (λ j. has (slice_index_or columns j []) x) face) (λ x. is_within face (slice_index_or upper x [])) (range_with_len 0 (length upper))
    (λ x q. all_agrees (λ j. has (slice_index_or columns j []) x) (holds (slice_index_or upper x [])) face (λ j r. a.bits x j (among_All (λ j. j < len) r (among_All (λ row. All (λ j. j < len) row) i b))))
    ∙ count_of_list (is_within face) (λ x. slice_index_or upper x []) upper 0 [] (λ i l. let e : 0 + i ≡ i = omega arith in ap (λ k. slice_index_or upper k []) e))

below_is : (i k : ℕ) → i < k → nat_lt i k ≡ true
below_is i k l = grind (arith, nat_tests)

not_below_itself : (k : ℕ) → nat_lt k k ≡ false
not_below_itself k = grind (arith, nat_tests)

pub lower_count_below : (lists : List (List (List ℕ))) (k i : ℕ) → i < k → lower_count lists k i ≡ inclusion_count (slice_index_or lists i []) (slice_index_or lists k [])
lower_count_below lists k i l = ap (λ b. cond b (inclusion_count (slice_index_or lists i []) (slice_index_or lists k [])) (length (slice_index_or lists k []))) (below_is i k l)

pub lower_count_itself : (lists : List (List (List ℕ))) (k : ℕ) → lower_count lists k k ≡ length (slice_index_or lists k [])
lower_count_itself lists k = ap (λ b. cond b (inclusion_count (slice_index_or lists k []) (slice_index_or lists k [])) (length (slice_index_or lists k []))) (not_below_itself k)

pub one_count_more : (f : ℕ → ℕ) (i : ℕ) (old new : List ℕ) (x : ℕ) → new ≡ old ++ x ∷ [] → x ≡ f i → old ≡ map f (range_with_len 0 i) → new ≡ map f (range_with_len 0 (i + 1))
one_count_more f i old new x en ex eo = en ∙ ap₂ (λ xs y. xs ++ y ∷ []) eo ex ∙ sym (map-range_with_len_more f 0 i i (omega arith))

-- a count of one rank below another
pub counts_turn : (lists : List (List (List ℕ))) (k i len cnt n : ℕ) (columns seen : List (List Bool)) (upper lower : List (List ℕ)) → i < k → seen ≡ columns → cnt ≡ length upper → AreColumnsOf len upper columns → AreBelow len lower →
    upper ≡ slice_index_or lists k [] → lower ≡ slice_index_or lists i [] → n ≡ place_count seen cnt lower → n ≡ lower_count lists k i
counts_turn lists k i len cnt n columns seen upper lower l es ec a b eu el en =
    en ∙ ap (λ cs. place_count cs cnt lower) es ∙ ap (λ m. place_count columns m lower) ec ∙ places_are_faces columns upper lower len a b ∙ ap₂ (λ xs ys. inclusion_count xs ys) el eu ∙ sym (lower_count_below lists k i l)

pub mapped_more : {X Y : Type 0} (f : X → Y) (g : ℕ → Y) (k : ℕ) (old new : List X) (x : X) → new ≡ old ++ x ∷ [] → f x ≡ g k → map f old ≡ map g (range_with_len 0 k) → map f new ≡ map g (range_with_len 0 (k + 1))
mapped_more f g k old new x n e h = ap (map f) n ∙ map-append f old (x ∷ []) ∙ ap₂ (λ xs y. xs ++ y ∷ []) h e ∙ sym (map-range_with_len_more g 0 k k (omega arith))
