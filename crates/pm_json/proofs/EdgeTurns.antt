-- The reading of the neighbours of nodes, a node at a time.
use Rattle.std.proofs.Common.{refl, sym, ap, ◌∙◌, ◌≡◌, ◌<◌, ◌≤◌, ℕ, suc, List, [], ◌∷◌, ◌++◌, length, Ok, Err, length-append, append-nil, map, arith}
use Rattle.std.proofs.lemmas.Bool.{lt-ltb, le-ltb}
use Rattle.std.proofs.lemmas.List.{map-append}
use Rattle.serde_json.specs.Data.{Data, Items, no_items, item}
use Rattle.pm_json.proofs.Readings.{with_front-before}
use Rattle.pm_json.specs.Readings.{items_of, nodes_from, set_from, with_front}
use Rattle.pm_json.specs.declared.fail.ValueFail.{ValueFail}
use Rattle.pm_json.specs.declared.fail.ValueFail.TheVariants.{Limit}
use Rattle.pm_limits.specs.Limits.{most_rows}

pub nodes_from-item : (front : List (List ℕ)) (set : List ℕ) (k : ℕ) (d : Data) (es ds : Items) → items_of d ≡ Ok es → k < most_rows → set_from [] es ≡ Ok set
    → with_front front (nodes_from k (item d ds)) ≡ with_front (front ++ set ∷ []) (nodes_from (suc k) ds)
nodes_from-item front set k d es ds items room is = rw (items, lt-ltb k most_rows room, is) (with_front-before front set (nodes_from (suc k) ds))

pub nodes_from-no_items : (front : List (List ℕ)) (k : ℕ) (d : Data) (ds : Items) (fault : ValueFail) → items_of d ≡ Err fault → with_front front (nodes_from k (item d ds)) ≡ Err fault
nodes_from-no_items front k d ds fault is = rw is refl

pub nodes_from-full : (front : List (List ℕ)) (k : ℕ) (d : Data) (es ds : Items) → items_of d ≡ Ok es → most_rows ≤ k → with_front front (nodes_from k (item d ds)) ≡ Err Limit
nodes_from-full front k d es ds items full = rw (items, le-ltb k most_rows full) refl

pub nodes_from-no_set : (front : List (List ℕ)) (k : ℕ) (d : Data) (es ds : Items) (fault : ValueFail) → items_of d ≡ Ok es → k < most_rows → set_from [] es ≡ Err fault
    → with_front front (nodes_from k (item d ds)) ≡ Err fault
nodes_from-no_set front k d es ds fault items room is = rw (items, lt-ltb k most_rows room, is) refl

pub nodes_from-end : (front : List (List ℕ)) (k : ℕ) → with_front front (nodes_from k no_items) ≡ Ok front
nodes_from-end front k = ap (λ l. Ok l) (append-nil front)

-- the nodes with one more below them
pub nodes_below : {A : Type 0} (f : A → List ℕ) (rows new : List A) (r : A) (ds : Items) → new ≡ rows ++ r ∷ []
    → with_front (map f rows ++ f r ∷ []) (nodes_from (suc (length rows)) ds) ≡ with_front (map f new) (nodes_from (length new) ds)
nodes_below f rows new r ds e =
    let one : suc (length rows) ≡ length (rows ++ r ∷ []) = omega (arith, length-append rows (r ∷ [])) in
    ap (λ front. with_front front (nodes_from (suc (length rows)) ds)) (sym (map-append f rows (r ∷ [])))
    ∙ ap (λ k. with_front (map f (rows ++ r ∷ [])) (nodes_from k ds)) one
    ∙ ap (λ l. with_front (map f l) (nodes_from (length l) ds)) (sym e)
