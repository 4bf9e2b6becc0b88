-- The reading of a face, an index at a time.
use Rattle.std.proofs.Common.{refl, ap, subst, sym, ◌∙◌, ◌≡◌, ◌<◌, ◌≤◌, ◌+◌, ℕ, suc, Bool, true, false, List, [], ◌∷◌, ◌++◌, length, length-append, map, Err, Ok, append-nil, arith, ltb}
use Rattle.std.proofs.lemmas.Bool.{and_from, and_parts, cond_both, le-ltb, lt-ltb}
use Rattle.std.proofs.lemmas.List.{map-append}
use Rattle.std.proofs.lemmas.List.Sums.{sum_by-append}
use Rattle.std.specs.List.{list_all, sum_by}
use Rattle.serde_json.specs.Data.{Data, Items, item, no_items}
use Rattle.pm_types.specs.Forms.{are_indices}
use Rattle.pm_json.proofs.Readings.{with_front-before}
use Rattle.pm_json.proofs.SetLimits.{index_below, indices_put}
use Rattle.pm_json.specs.Readings.{face_from, faces_from, has_index, index_of, items_of, ranks_from, with_front, with_index}
use Rattle.pm_json.specs.declared.fail.ValueFail.{ValueFail}
use Rattle.pm_json.specs.declared.fail.ValueFail.TheVariants.{Limit, Shape}
use Rattle.pm_limits.specs.Limits.{most_faces, most_indices, most_places, most_rows}

length_with : (j : ℕ) (set : List ℕ) → length (with_index j set) ≡ suc (length set)
length_with j [] = refl
length_with j (k ∷ set) =
    cond_both (ltb j k) (j ∷ k ∷ set) (k ∷ with_index j set) (λ s. length s ≡ suc (suc (length set))) (λ less. refl) (λ more. ap suc (length_with j set))

-- the face with one index more
pub record Put (before : ℕ) (face new : List ℕ) (d : Data) (ds : Items) : Type 0 where
  pub goes_on : face_from (before + length face) face (item d ds) ≡ face_from (before + length new) new ds
  pub few : before + length new ≤ most_places
  pub indices : are_indices most_indices 0 new ≡ true

pub put : (before j : ℕ) (face new : List ℕ) (d : Data) (ds : Items) → index_of d ≡ Ok j → has_index j face ≡ false → before + length face < most_places → are_indices most_indices 0 face ≡ true → new ≡ with_index j face
    → Put before face new d ds
put before j face new d ds is other room indices e =
    let long = length_with j face in
    let next : suc (before + length face) ≡ before + length (with_index j face) = omega arith in
    subst (λ (f : List ℕ). Put before face f d ds) (sym e) (record {
      goes_on = rw (is, other, lt-ltb (before + length face) most_places room) (ap (λ (k : ℕ). face_from k (with_index j face) ds) next);
      few = omega arith;
      indices = indices_put most_rows 0 j face (omega arith) (index_below d j is) other indices;
    })

pub face_from-no_index : (k : ℕ) (face : List ℕ) (d : Data) (ds : Items) (fault : ValueFail) → index_of d ≡ Err fault → face_from k face (item d ds) ≡ Err fault
face_from-no_index k face d ds fault is = rw is refl

pub face_from-again : (k j : ℕ) (face : List ℕ) (d : Data) (ds : Items) → index_of d ≡ Ok j → has_index j face ≡ true → face_from k face (item d ds) ≡ Err Shape
face_from-again k j face d ds is again = rw (is, again) refl

pub face_from-full : (k j : ℕ) (face : List ℕ) (d : Data) (ds : Items) → index_of d ≡ Ok j → has_index j face ≡ false → most_places ≤ k → face_from k face (item d ds) ≡ Err Limit
face_from-full k j face d ds is other full = rw (is, other, le-ltb k most_places full) refl

-- ---- the faces of a rank, a face at a time
pub faces_from-item : (front : List (List ℕ)) (face : List ℕ) (m k : ℕ) (d : Data) (es ds : Items) → items_of d ≡ Ok es → m < most_faces → face_from k [] es ≡ Ok face
    → with_front front (faces_from m k (item d ds)) ≡ with_front (front ++ face ∷ []) (faces_from (suc m) (k + length face) ds)
faces_from-item front face m k d es ds items room is = rw (items, lt-ltb m most_faces room, is) (with_front-before front face (faces_from (suc m) (k + length face) ds))

pub faces_from-no_items : (front : List (List ℕ)) (m k : ℕ) (d : Data) (ds : Items) (fault : ValueFail) → items_of d ≡ Err fault → with_front front (faces_from m k (item d ds)) ≡ Err fault
faces_from-no_items front m k d ds fault is = rw is refl

pub faces_from-full : (front : List (List ℕ)) (m k : ℕ) (d : Data) (es ds : Items) → items_of d ≡ Ok es → most_faces ≤ m → with_front front (faces_from m k (item d ds)) ≡ Err Limit
faces_from-full front m k d es ds items full = rw (items, le-ltb m most_faces full) refl

pub faces_from-no_face : (front : List (List ℕ)) (m k : ℕ) (d : Data) (es ds : Items) (fault : ValueFail) → items_of d ≡ Ok es → m < most_faces → face_from k [] es ≡ Err fault
    → with_front front (faces_from m k (item d ds)) ≡ Err fault
faces_from-no_face front m k d es ds fault items room is = rw (items, lt-ltb m most_faces room, is) refl

pub faces_from-end : (front : List (List ℕ)) (m k : ℕ) → with_front front (faces_from m k no_items) ≡ Ok front
faces_from-end front m k = ap (λ l. Ok l) (append-nil front)

-- the faces with one more behind them
pub record PutFace {A : Type 0} (f : A → List ℕ) (m k : ℕ) (rows new : List A) (r : A) (ds : Items) : Type 0 where
  pub goes_on : with_front (map f rows ++ f r ∷ []) (faces_from (suc (m + length rows)) (k + length (f r)) ds) ≡ with_front (map f new) (faces_from (m + length new) (k + length (f r)) ds)
  pub one : length new ≡ suc (length rows)
  pub sum : sum_by length (map f new) ≡ sum_by length (map f rows) + length (f r)
  pub indices : list_all (are_indices most_indices 0) (map f rows) ≡ true → are_indices most_indices 0 (f r) ≡ true → list_all (are_indices most_indices 0) (map f new) ≡ true

sum_one : (xs : List (List ℕ)) (x : List ℕ) → sum_by length (xs ++ x ∷ []) ≡ sum_by length xs + length x
sum_one xs x =
    let all = sum_by-append length xs (x ∷ []) in
    let last : sum_by length (x ∷ []) ≡ 0 + length x = refl in
    omega (arith, all, last)

all_one : (p : List ℕ → Bool) (xs : List (List ℕ)) (x : List ℕ) → list_all p xs ≡ true → p x ≡ true → list_all p (xs ++ x ∷ []) ≡ true
all_one p [] x h k = and_from (p x) true k refl
all_one p (y ∷ ys) x h k = let q = and_parts (p y) (list_all p ys) h in and_from (p y) (list_all p (ys ++ x ∷ [])) q.0 (all_one p ys x q.1 k)

pub put_face : {A : Type 0} (f : A → List ℕ) (m k : ℕ) (rows new : List A) (r : A) (ds : Items) → new ≡ rows ++ r ∷ [] → PutFace f m k rows new r ds
put_face {A} f m k rows new r ds e =
    let long = length-append rows (r ∷ []) in
    let next : suc (m + length rows) ≡ m + length (rows ++ r ∷ []) = omega arith in
    let mapped : map f (rows ++ r ∷ []) ≡ map f rows ++ f r ∷ [] = map-append f rows (r ∷ []) in
    subst (λ (these : List A). PutFace f m k rows these r ds) (sym e) (record {
      goes_on = ap (λ (front : List (List ℕ)). with_front front (faces_from (suc (m + length rows)) (k + length (f r)) ds)) (sym mapped)
          ∙ ap (λ (n : ℕ). with_front (map f (rows ++ r ∷ [])) (faces_from n (k + length (f r)) ds)) next;
      one = omega arith;
      sum = ap (λ (l : List (List ℕ)). sum_by length l) mapped ∙ sum_one (map f rows) (f r);
      indices = λ h i. subst (λ (l : List (List ℕ)). list_all (are_indices most_indices 0) l ≡ true) (sym mapped) (all_one (are_indices most_indices 0) (map f rows) (f r) h i);
    })

-- ---- the ranks, one at a time
pub ranks_from-item : (front : List (List (List ℕ))) (faces : List (List ℕ)) (m k : ℕ) (d : Data) (es ds : Items) → items_of d ≡ Ok es → faces_from m k es ≡ Ok faces
    → with_front front (ranks_from m k (item d ds)) ≡ with_front (front ++ faces ∷ []) (ranks_from (m + length faces) (k + sum_by length faces) ds)
ranks_from-item front faces m k d es ds items is = rw (items, is) (with_front-before front faces (ranks_from (m + length faces) (k + sum_by length faces) ds))

pub ranks_from-no_items : (front : List (List (List ℕ))) (m k : ℕ) (d : Data) (ds : Items) (fault : ValueFail) → items_of d ≡ Err fault → with_front front (ranks_from m k (item d ds)) ≡ Err fault
ranks_from-no_items front m k d ds fault is = rw is refl

pub ranks_from-no_faces : (front : List (List (List ℕ))) (m k : ℕ) (d : Data) (es ds : Items) (fault : ValueFail) → items_of d ≡ Ok es → faces_from m k es ≡ Err fault
    → with_front front (ranks_from m k (item d ds)) ≡ Err fault
ranks_from-no_faces front m k d es ds fault items is = rw (items, is) refl

pub ranks_from-end : (front : List (List (List ℕ))) (m k : ℕ) → with_front front (ranks_from m k no_items) ≡ Ok front
ranks_from-end front m k = ap (λ l. Ok l) (append-nil front)
