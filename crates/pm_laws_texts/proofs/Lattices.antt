-- The first fault of a lattice.
use Rattle.pm_json.proofs.Parts.{and_then-ok, else-ok, err_ok, same_Ok, then-ok}
use Rattle.pm_json.specs.Readings.{Read, and_then, before, face_from, faces_from, has_index, index_of, items_of, lattice_of, ranks_from, with_index}
use Rattle.pm_json.specs.declared.fail.ValueFail.{ValueFail}
use Rattle.pm_json.specs.declared.fail.ValueFail.TheVariants.{Limit, Shape}
use Rattle.pm_laws_texts.proofs.FirstOfValue.{array_tells, at_items, items_tell, made_tells, same_tells, shape_first, then_tells}
use Rattle.pm_laws_texts.proofs.Matrices.{place_tells}
use Rattle.pm_laws_texts.proofs.Rows.{limit_tells, row_then, then_then}
use Rattle.pm_laws_texts.proofs.Sets.{Holds, from_start, holds_next, holds_none, index_finds}
use Rattle.pm_laws_texts.specs.ValueFaults.{IsRepeated, NoIndex, NotWhole, OfFace, OfIndex, OfLattice, OfPlace, OfRank, count_in, count_within, first_items, items_in}
use Rattle.pm_laws_texts.specs.Places.{AtItem, CountsFirst, OfArray, OneTooMany, Tells, count, order}
use Rattle.pm_limits.specs.Limits.{most_faces, most_places}
use Rattle.pm_types.specs.Values.{lattice}
use Rattle.serde_json.specs.Data.{Data, Items, array, boolean, item, no_items, null, number, object, string}
use Rattle.serde_json.specs.Find.{get_item}
use Rattle.std.proofs.Common.{ap, arith, cond, false, inl, inr, ltb, refl, subst, sym, true, ◌∙◌}
use Rattle.std.proofs.lemmas.Bool.{ltb-false, ltb-true}
use Rattle.std.proofs.lemmas.List.Sums.{sum_by-cons}
use Rattle.std.specs.List.{sum_by}
use Rattle.std.specs.Prelude.{Bool, Err, List, Ok, Some, [], if◌then◌else◌, length, nat_lt, suc, ℕ, ◌+◌, ◌≡◌, ◌≤◌, ◌⊎◌, ◌∷◌}
use lib.IntN.{negsuc, pos}

-- ---- a face
-- a fault of an index counts before that there are too many
before_limit : (all : Items) (k : ℕ) (d : Data) (f : ValueFail) → (NoIndex d f ⊎ ((f ≡ Shape) × IsRepeated all k d)) → order f ≤ 3
before_limit all k d f (inr h) = subst (λ z. order z ≤ 3) (sym h.0) (omega arith)
before_limit all k d f (inl (inl h)) = whole d h
  where
    whole : (d : Data) → NotWhole d f → order f ≤ 3
    whole null h = subst (λ z. order z ≤ 3) (sym h) (omega arith)
    whole (boolean b) h = subst (λ z. order z ≤ 3) (sym h) (omega arith)
    whole (string s) h = subst (λ z. order z ≤ 3) (sym h) (omega arith)
    whole (array ds) h = subst (λ z. order z ≤ 3) (sym h) (omega arith)
    whole (object ms) h = subst (λ z. order z ≤ 3) (sym h) (omega arith)
    whole (number n) h = subst (λ z. order z ≤ 3) (sym h.0) (omega arith)
before_limit all k d f (inl (inr (pos j, is, h))) = subst (λ z. order z ≤ 3) (sym h.0) (omega arith)
before_limit all k d f (inl (inr (negsuc j, is, h))) = subst (λ z. order z ≤ 3) (sym h) (omega arith)

place_reads : (n : ℕ) (set : List ℕ) (d : Data) → and_then (index_of d) (λ j. if has_index j set then Err Shape else (if nat_lt n most_places then Ok j else Err Limit))
    ≡ and_then (and_then (index_of d) (λ j. if has_index j set then Err Shape else Ok j)) (λ j. if nat_lt n most_places then Ok j else Err Limit)
place_reads n set d = by (index_of d)
  where
    test : (b : Bool) (j : ℕ) → (let r : Read ℕ = if b then Err Shape else (if nat_lt n most_places then Ok j else Err Limit) in r) ≡ and_then (if b then Err Shape else Ok j) (λ i. if nat_lt n most_places then Ok i else Err Limit)
    test true j = refl
    test false j = refl

    by : (read : Read ℕ) → and_then read (λ j. if has_index j set then Err Shape else (if nat_lt n most_places then Ok j else Err Limit)) ≡ and_then (and_then read (λ j. if has_index j set then Err Shape else Ok j)) (λ j. if nat_lt n most_places then Ok j else Err Limit)
    by (Ok j) = test (has_index j set) j
    by (Err f) = refl

place_tells_first : (k : ℕ) (all : Items) (c : ℕ) (set : List ℕ) (d : Data) → Holds all c set
    → Tells (OfPlace k all c d) (and_then (index_of d) (λ j. if has_index j set then Err Shape else (if nat_lt (k + c) most_places then Ok j else Err Limit)))
place_tells_first k all c set d holds =
    subst (λ z. Tells (OfPlace k all c d) z) (sym (place_reads (k + c) set d))
    (then_tells (OfIndex all c d) (OneTooMany most_places (k + c)) (OfPlace k all c d) (and_then (index_of d) (λ j. if has_index j set then Err Shape else Ok j)) (λ j. if nat_lt (k + c) most_places then Ok j else Err Limit)
    (record { split = λ r f h. h; first = λ r f h. inl h; rest = λ r f h. inr h; before = λ r f s g h e. inr (h.0 ∙ sym e.0, subst (λ z. order f ≤ order z) (sym e.1) (before_limit all c d f h.1)) })
    (place_tells [] (λ f. NoIndex d f ⊎ ((f ≡ Shape) × IsRepeated all c d)) (and_then (index_of d) (λ j. if has_index j set then Err Shape else Ok j)) (index_finds all c set d holds))
    (λ j is. limit_tells most_places (k + c) j))

face_then : {B : Type 0} (read : Read ℕ) (b : ℕ → Bool) (c : Bool) (next : ℕ → Read B) → and_then read (λ j. if b j then Err Shape else (if c then next j else Err Limit)) ≡ and_then (and_then read (λ j. if b j then Err Shape else (if c then Ok j else Err Limit))) next
face_then (Ok j) b c next = by (b j) c
  where
    by : (t u : Bool) → (if t then Err Shape else (if u then next j else Err Limit)) ≡ and_then (if t then Err Shape else (if u then Ok j else Err Limit)) next
    by true u = refl
    by false true = refl
    by false false = refl
face_then (Err f) b c next = refl

read_place : (n : ℕ) (set : List ℕ) (d : Data) (j : ℕ) → and_then (index_of d) (λ i. if has_index i set then Err Shape else (if nat_lt n most_places then Ok i else Err Limit)) ≡ Ok j → index_of d ≡ Ok j
read_place n set d j e =
    and_then-ok (index_of d) (λ i. cond (has_index i set) (Err Shape) (cond (ltb n most_places) (Ok i) (Err Limit))) j e
    (λ i is f. let p = else-ok (has_index i set) (cond (ltb n most_places) (Ok i) (Err Limit)) Shape j f in is ∙ (then-ok (ltb n most_places) (Ok i) Limit j p.1).1)

face_tells_from : (k : ℕ) (all : Items) (c n : ℕ) (ds : Items) (m : ℕ → ℕ) → n ≡ k + c → ((i : ℕ) → m i ≡ c + i) → ((i : ℕ) → get_item (c + i) all ≡ get_item i ds) → (set : List ℕ) → Holds all c set
    → Tells (AtItem (λ i. OfPlace k all (m i)) ds) (face_from n set ds)
face_tells_from k all c n no_items m count_is at left set holds = none
  where
    none : (r : List ℕ) (f : ValueFail) → ¬ (AtItem (λ i. OfPlace k all (m i)) no_items r f)
    none [] f h = h
    none (i ∷ r) f h = let e = h.1 in cc
face_tells_from k all c n (item d ds) m count_is at left set holds =
    let here : c ≡ m 0 = (let e = at 0 in omega arith) in
    let there : get_item c all ≡ Some d = ap (λ z. get_item z all) (plus_none c) ∙ left 0 in
    subst (λ z. Tells (AtItem (λ i. OfPlace k all (m i)) (item d ds)) z) (sym (face_then (index_of d) (λ j. has_index j set) (nat_lt n most_places) (λ j. face_from (suc n) (with_index j set) ds)))
    (items_tell (OfPlace k all (m 0) d) (AtItem (λ i. OfPlace k all (m (suc i))) ds) (AtItem (λ i. OfPlace k all (m i)) (item d ds))
    (and_then (index_of d) (λ j. if has_index j set then Err Shape else (if nat_lt n most_places then Ok j else Err Limit))) (λ j. face_from (suc n) (with_index j set) ds)
    (at_items (λ i. OfPlace k all (m i)) d ds) (λ r f h. (d, refl, h)) (λ i r f h. h) (λ f h. h)
    (subst (λ z. Tells (OfPlace k all z d) (and_then (index_of d) (λ j. if has_index j set then Err Shape else (if nat_lt n most_places then Ok j else Err Limit)))) here
    (subst (λ z. Tells (OfPlace k all c d) (and_then (index_of d) (λ j. if has_index j set then Err Shape else (if nat_lt z most_places then Ok j else Err Limit)))) (sym count_is) (place_tells_first k all c set d holds)))
    (λ j is. face_tells_from k all (suc c) (suc n) ds (λ i. m (suc i)) (omega arith) (λ i. (let e = at (suc i) in omega arith)) (λ i. ap (λ z. get_item z all) (one_more c i) ∙ left (suc i)) (with_index j set) (holds_next all c set d j there (read_place n set d j is) holds)))
  where
    plus_none : (c : ℕ) → c ≡ c + 0
    plus_none c = omega arith

    one_more : (c i : ℕ) → suc c + i ≡ c + suc i
    one_more c i = omega arith

face_tells : (k : ℕ) (ds : Items) → Tells (AtItem (OfPlace k ds) ds) (face_from k [] ds)
face_tells k ds = face_tells_from k ds 0 k ds (λ i. i) (omega arith) (λ i. omega arith) (from_start ds) [] (holds_none ds)

-- as many indices as items
with_length : (j : ℕ) (set : List ℕ) → length (with_index j set) ≡ suc (length set)
with_length j [] = refl
with_length j (i ∷ set) = by (nat_lt j i) (with_length j set)
  where
    by : (b : Bool) → length (with_index j set) ≡ suc (length set) → length (if b then j ∷ i ∷ set else i ∷ with_index j set) ≡ suc (suc (length set))
    by true e = refl
    by false e = ap suc e

face_length : (n : ℕ) (set : List ℕ) (ds : Items) (face : List ℕ) → face_from n set ds ≡ Ok face → length face ≡ length set + count ds
face_length n set no_items face e = subst (λ (w : List ℕ). length w ≡ length set + 0) (same_Ok set face e) (omega arith)
face_length n set (item d ds) face e =
    and_then-ok (index_of d) (λ j. cond (has_index j set) (Err Shape) (cond (ltb n most_places) (face_from (suc n) (with_index j set) ds) (Err Limit))) face e
    (λ j is f. let p = else-ok (has_index j set) (cond (ltb n most_places) (face_from (suc n) (with_index j set) ds) (Err Limit)) Shape face f in
    let q = then-ok (ltb n most_places) (face_from (suc n) (with_index j set) ds) Limit face p.1 in
    let rest = face_length (suc n) (with_index j set) ds face q.1 in
    let more = with_length j set in
    omega arith)

-- ---- a face of a rank
face_at_tells : (m k : ℕ) (d : Data) → Tells (OfFace m k d) (and_then (items_of d) (λ es. if nat_lt m most_faces then face_from k [] es else Err Limit))
face_at_tells m k d = by (nat_lt m most_faces) refl
  where
    by : (b : Bool) → nat_lt m most_faces ≡ b → Tells (OfFace m k d) (and_then (items_of d) (λ es. if b then face_from k [] es else Err Limit))
    by true e =
        same_tells (OfArray (λ ds s g. AtItem (OfPlace k ds) ds s g) d) (OfFace m k d) (and_then (items_of d) (face_from k [])) (λ r f h. inl h)
        (λ r f h. elim h [
          | inl x ↦ x
          | inr y ↦ (let l = ltb-true m most_faces e in let n = y.2 in absurd (omega arith))
        ])
        (array_tells (λ ds s g. AtItem (OfPlace k ds) ds s g) d (face_from k []) (λ es is. face_tells k es))
    by false e = too_many d
      where
        many : most_faces ≤ m
        many = ltb-false m most_faces e

        too_many : (d : Data) → Tells (OfFace m k d) (and_then (items_of d) (λ es. let r : Read (List ℕ) = Err Limit in r))
        too_many null = ([], shape_first (OfFace m k null) (inl (refl, refl)))
        too_many (boolean b) = ([], shape_first (OfFace m k (boolean b)) (inl (refl, refl)))
        too_many (number x) = ([], shape_first (OfFace m k (number x)) (inl (refl, refl)))
        too_many (string s) = ([], shape_first (OfFace m k (string s)) (inl (refl, refl)))
        too_many (object ms) = ([], shape_first (OfFace m k (object ms)) (inl (refl, refl)))
        too_many (array es) = ([], record { stands = inr (refl, refl, many); first = first })
          where
            first : (s : List ℕ) (g : ValueFail) → OfFace m k (array es) s g → CountsFirst [] Limit s g
            first [] g (inl h) = absurd h
            first [] g (inr h) = inr (refl, subst (λ z. 3 ≤ order z) (sym h.1) (omega arith))
            first (i ∷ s) g h = inl tt

face_count : (k : ℕ) (d : Data) (es : Items) (face : List ℕ) → items_of d ≡ Ok es → face_from k [] es ≡ Ok face → length face ≡ count (items_in d)
face_count k null es face e f = absurd (err_ok Shape es e)
face_count k (boolean b) es face e f = absurd (err_ok Shape es e)
face_count k (number n) es face e f = absurd (err_ok Shape es e)
face_count k (string s) es face e f = absurd (err_ok Shape es e)
face_count k (object ms) es face e f = absurd (err_ok Shape es e)
face_count k (array ds) es face e f = let l : length face ≡ 0 + count es = face_length k [] es face f in subst (λ z. length face ≡ count z) (sym (same_Ok ds es e)) (omega arith)

-- what was read of a face
face_read : (m k : ℕ) (d : Data) (face : List ℕ) → and_then (items_of d) (λ es. if nat_lt m most_faces then face_from k [] es else Err Limit) ≡ Ok face → length face ≡ count (items_in d)
face_read m k d face e =
    and_then-ok (items_of d) (λ es. cond (ltb m most_faces) (face_from k [] es) (Err Limit)) face e
    (λ es is f. face_count k d es face is (then-ok (ltb m most_faces) (face_from k [] es) Limit face f).1)

faces_tell : (m k : ℕ) (ds : Items) (mf kf : ℕ → ℕ) → ((b : ℕ) → mf b ≡ m + b) → ((b : ℕ) → kf b ≡ k + count_in (first_items b ds)) → Tells (AtItem (λ b. OfFace (mf b) (kf b)) ds) (faces_from m k ds)
faces_tell m k no_items mf kf mat kat = none
  where
    none : (r : List ℕ) (f : ValueFail) → ¬ (AtItem (λ b. OfFace (mf b) (kf b)) no_items r f)
    none [] f h = h
    none (i ∷ r) f h = let e = h.1 in cc
faces_tell m k (item d ds) mf kf mat kat =
    let mhere : m ≡ mf 0 = (let e = mat 0 in omega arith) in
    let khere : k ≡ kf 0 = (let e = kat 0 in omega arith) in
    subst (λ z. Tells (AtItem (λ b. OfFace (mf b) (kf b)) (item d ds)) z) (sym (row_then (items_of d) (nat_lt m most_faces) (face_from k []) (λ face. before face (faces_from (suc m) (k + length face) ds))))
    (items_tell (OfFace (mf 0) (kf 0) d) (AtItem (λ b. OfFace (mf (suc b)) (kf (suc b))) ds) (AtItem (λ b. OfFace (mf b) (kf b)) (item d ds))
    (and_then (items_of d) (λ es. if nat_lt m most_faces then face_from k [] es else Err Limit)) (λ face. before face (faces_from (suc m) (k + length face) ds))
    (at_items (λ b. OfFace (mf b) (kf b)) d ds) (λ r f h. (d, refl, h)) (λ i r f h. h) (λ f h. h)
    (subst (λ z. Tells (OfFace z (kf 0) d) (and_then (items_of d) (λ es. if nat_lt m most_faces then face_from k [] es else Err Limit))) mhere
    (subst (λ z. Tells (OfFace m z d) (and_then (items_of d) (λ es. if nat_lt m most_faces then face_from k [] es else Err Limit))) khere (face_at_tells m k d)))
    (λ face is.
    let wide = face_read m k d face is in
    made_tells (AtItem (λ b. OfFace (mf (suc b)) (kf (suc b))) ds) (faces_from (suc m) (k + length face) ds) (λ rest. face ∷ rest)
    (faces_tell (suc m) (k + length face) ds (λ b. mf (suc b)) (λ b. kf (suc b)) (λ b. (let e = mat (suc b) in omega arith)) (λ b. (let e = kat (suc b) in omega arith)))))

faces_count : (m k : ℕ) (ds : Items) (faces : List (List ℕ)) → faces_from m k ds ≡ Ok faces → (length faces ≡ count ds) × (sum_by length faces ≡ count_in ds)
faces_count m k no_items faces e = subst (λ (w : List (List ℕ)). (length w ≡ 0) × (sum_by length w ≡ 0)) (same_Ok [] faces e) (refl, refl)
faces_count m k (item d ds) faces e =
    and_then-ok (items_of d) (λ es. cond (ltb m most_faces) (and_then (face_from k [] es) (λ face. before face (faces_from (suc m) (k + length face) ds))) (Err Limit)) faces e
    (λ es is f. let p = then-ok (ltb m most_faces) (and_then (face_from k [] es) (λ face. before face (faces_from (suc m) (k + length face) ds))) Limit faces f in
    and_then-ok (face_from k [] es) (λ face. before face (faces_from (suc m) (k + length face) ds)) faces p.1
    (λ face made g. and_then-ok (faces_from (suc m) (k + length face) ds) (λ others. Ok (face ∷ others)) faces g
    (λ others left h.
    let rest = faces_count (suc m) (k + length face) ds others left in
    let rest_length = rest.0 in
    let rest_sum = rest.1 in
    let wide = face_count k d es face is made in
    let total = sum_by-cons length face others in
    subst (λ (w : List (List ℕ)). (length w ≡ suc (count ds)) × (sum_by length w ≡ count (items_in d) + count_in ds)) (same_Ok (face ∷ others) faces h) (omega arith, omega arith))))

-- ---- ranks
rank_tells : (m k : ℕ) (d : Data) → Tells (OfRank m k d) (and_then (items_of d) (faces_from m k))
rank_tells m k d =
    array_tells (λ ds s g. AtItem (λ b. OfFace (m + b) (k + count_in (first_items b ds))) ds s g) d (faces_from m k)
    (λ es is. faces_tell m k es (λ b. m + b) (λ b. k + count_in (first_items b es)) (λ b. refl) (λ b. refl))

rank_read : (m k : ℕ) (d : Data) (faces : List (List ℕ)) → and_then (items_of d) (faces_from m k) ≡ Ok faces → (length faces ≡ count (items_in d)) × (sum_by length faces ≡ count_in (items_in d))
rank_read m k null faces e = absurd (err_ok Shape faces e)
rank_read m k (boolean b) faces e = absurd (err_ok Shape faces e)
rank_read m k (number n) faces e = absurd (err_ok Shape faces e)
rank_read m k (string s) faces e = absurd (err_ok Shape faces e)
rank_read m k (object ms) faces e = absurd (err_ok Shape faces e)
rank_read m k (array ds) faces e = faces_count m k ds faces e

ranks_tell : (m k : ℕ) (ds : Items) (mf kf : ℕ → ℕ) → ((a : ℕ) → mf a ≡ m + count_in (first_items a ds)) → ((a : ℕ) → kf a ≡ k + count_within (first_items a ds)) → Tells (AtItem (λ a. OfRank (mf a) (kf a)) ds) (ranks_from m k ds)
ranks_tell m k no_items mf kf mat kat = none
  where
    none : (r : List ℕ) (f : ValueFail) → ¬ (AtItem (λ a. OfRank (mf a) (kf a)) no_items r f)
    none [] f h = h
    none (i ∷ r) f h = let e = h.1 in cc
ranks_tell m k (item d ds) mf kf mat kat =
    let mhere : m ≡ mf 0 = (let e = mat 0 in omega arith) in
    let khere : k ≡ kf 0 = (let e = kat 0 in omega arith) in
    subst (λ z. Tells (AtItem (λ a. OfRank (mf a) (kf a)) (item d ds)) z) (sym (then_then (items_of d) (faces_from m k) (λ faces. before faces (ranks_from (m + length faces) (k + sum_by length faces) ds))))
    (items_tell (OfRank (mf 0) (kf 0) d) (AtItem (λ a. OfRank (mf (suc a)) (kf (suc a))) ds) (AtItem (λ a. OfRank (mf a) (kf a)) (item d ds))
    (and_then (items_of d) (faces_from m k)) (λ faces. before faces (ranks_from (m + length faces) (k + sum_by length faces) ds))
    (at_items (λ a. OfRank (mf a) (kf a)) d ds) (λ r f h. (d, refl, h)) (λ i r f h. h) (λ f h. h)
    (subst (λ z. Tells (OfRank z (kf 0) d) (and_then (items_of d) (faces_from m k))) mhere
    (subst (λ z. Tells (OfRank m z d) (and_then (items_of d) (faces_from m k))) khere (rank_tells m k d)))
    (λ faces is.
    let wide = rank_read m k d faces is in
    let long = wide.0 in
    let full = wide.1 in
    made_tells (AtItem (λ a. OfRank (mf (suc a)) (kf (suc a))) ds) (ranks_from (m + length faces) (k + sum_by length faces) ds) (λ rest. faces ∷ rest)
    (ranks_tell (m + length faces) (k + sum_by length faces) ds (λ a. mf (suc a)) (λ a. kf (suc a)) (λ a. (let e = mat (suc a) in omega arith)) (λ a. (let e = kat (suc a) in omega arith)))))

pub lattices_tell : (d : Data) → Tells (OfLattice d) (lattice_of d)
lattices_tell d =
    array_tells (λ ds s g. AtItem (λ a. OfRank (count_in (first_items a ds)) (count_within (first_items a ds))) ds s g) d (λ ds. and_then (ranks_from 0 0 ds) (λ ranks. Ok (lattice ranks)))
    (λ ds is. made_tells (AtItem (λ a. OfRank (count_in (first_items a ds)) (count_within (first_items a ds))) ds) (ranks_from 0 0 ds) (λ ranks. lattice ranks)
    (ranks_tell 0 0 ds (λ a. count_in (first_items a ds)) (λ a. count_within (first_items a ds)) (λ a. omega arith) (λ a. omega arith)))
