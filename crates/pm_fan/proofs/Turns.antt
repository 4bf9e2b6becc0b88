-- The turns of the loops: one value, one set, one index more.
use Rattle.pm_vector.proofs.Filters.{among_map, map_among}
use Rattle.pm_vector.proofs.Lists.{Among, all_append, all_at, all_from, among_All, among_Contains}
use Rattle.pm_vector.specs.Numbers.{Ratio}
use Rattle.pm_vector.specs.Rows.{HasCols, Row}
use Rattle.pm_vector.proofs.Rank.{independent_are_few}
use Rattle.pm_vector.proofs.Spans.{at_place, span_at, span_to}
use Rattle.pm_vector.specs.Bases.{IsRank}
use Rattle.pm_fan.specs.Dimensions.{AreDimensions, IsDimension, cone_rows}
use Rattle.pm_fan.specs.Fans.{cut, has_members, with_members}
use Rattle.pm_geom.specs.Faces.{ray}
use Rattle.std.proofs.Common.{add-one, ap, append_assoc, arith, drop-cons, false, get_or, refl, subst, sym, to_z, true, true≢false, w64, ◌∙◌}
use Rattle.std.proofs.lemmas.Bool.{eq-eqb, eqb-true}
use Rattle.std.proofs.lemmas.Int.{to_z_pos}
use Rattle.std.proofs.lemmas.List.{length-append, length-map, map-append, take_all}
use Rattle.std.proofs.lemmas.List.FromFn.{map-range_with_len_more}
use Rattle.std.specs.List.{All, list_all, range_with_len}
use Rattle.std.specs.Prelude.{Bool, List, [], cond, nat_eq, drop, length, map, suc, take, zero, ℕ, ◌&&◌, ◌+◌, ◌++◌, ◌-◌, ◌<◌, ◌≤◌, ◌∷◌, ◌≡◌, ◌^◌}
use lib.IntN.{pos, ℤ}

-- ---- lists
pub one_index_more : {X : Type 0} (items : X → List ℕ) (f : ℕ → List ℕ) (k : ℕ) (U more : List X) (x : X) → map items U ≡ map f (range_with_len 0 k) → more ≡ U ++ x ∷ [] → items x ≡ f k → map items more ≡ map f (range_with_len 0 (k + 1))
one_index_more items f k U more x h m is =
    ap (map items) m ∙ map-append items U (x ∷ []) ∙ ap (λ z. z ++ items x ∷ []) h ∙ ap (λ z. map f (range_with_len 0 k) ++ z ∷ []) is ∙ sym (map-range_with_len_more f 0 k k (omega arith))

pub all_map : {X Y : Type 0} (p : Y → Bool) (g : X → Y) (xs : List X) → list_all p (map g xs) ≡ list_all (λ x. p (g x)) xs
all_map p g [] = refl
all_map p g (x ∷ xs) = ap (λ b. p (g x) && b) (all_map p g xs)

pub fails_at : {X : Type 0} (p : X → Bool) (xs : List X) (i : ℕ) (x : X) → i < length xs → x ≡ get_or xs i x → p x ≡ false → list_all p (drop i xs) ≡ false
fails_at p [] i x l e f = absurd (omega arith)
fails_at p (y ∷ xs) zero x l e f = let g : p y ≡ false = ap p (sym e) ∙ f in rw g refl
fails_at p (y ∷ xs) (suc i) x l e f = fails_at p xs i x (omega arith) e f

pub all_passed : {X : Type 0} (p : X → Bool) (xs : List X) (i : ℕ) → length xs ≤ i → list_all p (drop i xs) ≡ true
all_passed p [] zero l = refl
all_passed p [] (suc i) l = refl
all_passed p (y ∷ xs) zero l = absurd (omega arith)
all_passed p (y ∷ xs) (suc i) l = all_passed p xs i (omega arith)

-- ---- rows whose set has members
pub some_members : (set : List ℕ) (n : ℕ) → n ≡ length set → nat_eq n 0 ≡ false → true ≡ has_members set
some_members [] n e h = absurd (true≢false (sym (eq-eqb n 0 e) ∙ h))
some_members (j ∷ set) n e h = refl

pub no_members : (set : List ℕ) (n : ℕ) → n ≡ length set → nat_eq n 0 ≡ true → false ≡ has_members set
no_members [] n e h = refl
no_members (j ∷ set) n e h = let z = eqb-true n 0 h in absurd (omega arith)

-- a slice from place 1 on
pub behind : (r : List Ratio) → take (length r - 1) (drop 1 r) ≡ drop 1 r
behind [] = refl
behind (q ∷ r) = take_all (length (q ∷ r) - 1) r (omega arith)

pub kept_next : {X : Type 0} (items : X → List ℕ) (S : List X) (R : List (List Ratio)) (i : ℕ) (x : X) (r : List Ratio) (all found more : List (List Ratio)) (b : Bool) → i < length S → i < length R → x ≡ get_or S i x → r ≡ get_or R i [] → b ≡ has_members (items x)
    → all ≡ found ++ cut (with_members (map items (drop i S)) (drop i R)) → more ≡ cond b (found ++ drop 1 r ∷ []) found → all ≡ more ++ cut (with_members (map items (drop (i + 1) S)) (drop (i + 1) R))
kept_next items S R i x r all found more b ls lr ex er eb h m =
    let rest = with_members (map items (drop (suc i) S)) (drop (suc i) R) in
    let s : drop i S ≡ x ∷ drop (suc i) S = drop-cons S i x ls ∙ ap (λ y. y ∷ drop (suc i) S) (sym ex) in
    let q : drop i R ≡ r ∷ drop (suc i) R = drop-cons R i [] lr ∙ ap (λ y. y ∷ drop (suc i) R) (sym er) in
    rw (add-one, m) (h ∙ ap (λ z. found ++ cut (with_members (map items z) (drop i R))) s ∙ ap (λ z. found ++ cut (with_members (items x ∷ map items (drop (suc i) S)) z)) q ∙ ap (λ z. found ++ cut (cond z (r ∷ rest) rest)) (sym eb) ∙ joined b rest)
  where
    joined : (b : Bool) (rest : List (List Ratio)) → found ++ cut (cond b (r ∷ rest) rest) ≡ cond b (found ++ drop 1 r ∷ []) found ++ cut rest
    joined true rest = sym (append_assoc found (drop 1 r ∷ []) (cut rest))
    joined false rest = refl

-- ---- the rows of a cone
among_at : {X : Type 0} (xs : List X) (i : ℕ) (x : X) → i < length xs → x ≡ get_or xs i x → Among x xs
among_at xs i x l e = among_Contains xs (i, l, sym e)

-- the set at a place is one of the sets
pub set_among : {X : Type 0} (items : X → List ℕ) (xs : List X) (sets : List (List ℕ)) (i : ℕ) (x : X) → map items xs ≡ sets → i < length xs → x ≡ get_or xs i x → Among (items x) sets
set_among items xs sets i x e l is = subst (λ z. Among (items x) z) e (among_map items (among_at xs i x l is))

pub cone_cols : (n : ℕ) (V L : List Row) (set : List ℕ) → HasCols n V → HasCols n L → All (λ j. j < length V) set → HasCols n (cone_rows V L set)
cone_cols n V L set hv hl below = all_append (λ x. length x ≡ n) L (map (ray V) set) hl (all_from (λ x. length x ≡ n) (map (ray V) set) (λ x i. let (j, a, e) = map_among (ray V) set i in subst (λ z. length z ≡ n) (sym e) (all_at (λ x. length x ≡ n) (at_place V j (among_All (λ j. j < length V) a below)) hv)))

pub cone_length : (V L : List Row) (set : List ℕ) → length (cone_rows V L set) ≡ length L + length set
cone_length V L set = length-append L (map (ray V) set) ∙ ap (λ n. length L + n) (length-map set (ray V))

pub rank_few : (X : List Row) (k : ℕ) → IsRank X k → k ≤ length X
rank_few X k r = let l = independent_are_few r.basis X r.independent (λ i l. span_to r.span (span_at i l)) in let e = r.as_many in omega arith

-- ---- one cone more
pub dims_push : (V L : List Row) (cones : List (List ℕ)) (dims : List ℤ) (set : List ℕ) (d : ℤ) → AreDimensions V L cones dims → IsDimension (cone_rows V L set) d → AreDimensions V L (cones ++ set ∷ []) (dims ++ d ∷ [])
dims_push V L [] [] set d h k = (k, tt)
dims_push V L [] (z ∷ dims) set d h k = absurd h
dims_push V L (s ∷ cones) [] set d h k = absurd h
dims_push V L (s ∷ cones) (z ∷ dims) set d h k = (h.0, dims_push V L cones dims set d h.1 k)

-- the sets up to a place, and the one there
sets_suc : {X : Type 0} (items : X → List ℕ) (xs : List X) (i : ℕ) (x : X) → i < length xs → x ≡ get_or xs i x → take (suc i) (map items xs) ≡ take i (map items xs) ++ items x ∷ []
sets_suc items [] i x l e = absurd (omega arith)
sets_suc items (y ∷ xs) zero x l e = ap (λ z. items z ∷ []) (sym e)
sets_suc items (y ∷ xs) (suc i) x l e = ap (λ z. items y ∷ z) (sets_suc items xs i x (omega arith) e)

pub sets_more : {X : Type 0} (items : X → List ℕ) (xs : List X) (i : ℕ) (x : X) → i < length xs → x ≡ get_or xs i x → take (i + 1) (map items xs) ≡ take i (map items xs) ++ items x ∷ []
sets_more items xs i x l e = rw add-one (sets_suc items xs i x l e)

pub dims_next : (V L : List Row) (before more : List (List ℕ)) (dims new : List ℤ) (set : List ℕ) (k : ℕ) → AreDimensions V L before dims → more ≡ before ++ set ∷ [] → new ≡ dims ++ to_z w64 k ∷ [] → k < 2 ^ 30 → IsRank (cone_rows V L set) k → AreDimensions V L more new
dims_next V L before more dims new set k h m e few r =
    let z : to_z w64 k ≡ pos k = to_z_pos w64 k (omega arith) in
    rw (m, e, z) (dims_push V L before dims set (pos k) h r)
