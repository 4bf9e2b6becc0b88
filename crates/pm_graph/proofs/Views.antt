-- Lists of lists seen through a view of each.
use Rattle.pm_graph.specs.Levels.{AreBelow}
use Rattle.std.proofs.Common.{ap, arith, get_or, refl, subst, sym, ◌∙◌}
use Rattle.std.specs.List.{All, slice_index_or}
use Rattle.std.proofs.lemmas.Bool.{eq-eqb, eqb-true}
use Rattle.std.specs.Prelude.{List, [], drop, false, length, map, suc, take, true, zero, ℕ, ◌==◌, ◌++◌, ◌<◌, ◌∷◌, ◌≡◌}

-- the view of the element at a place
pub view_at : {X : Type 0} (f : X → List ℕ) (xs : List X) (k : ℕ) (x : X) → k < length xs → x ≡ get_or xs k x → f x ≡ slice_index_or (map f xs) k []
view_at f [] k x l e = absurd (omega arith)
view_at f (y ∷ xs) zero x l e = ap f e
view_at f (y ∷ xs) (suc k) x l e = view_at f xs k x (omega arith) e

pub length_view : {X : Type 0} (f : X → List ℕ) (xs : List X) → length (map f xs) ≡ length xs
length_view f [] = refl
length_view f (x ∷ xs) = ap suc (length_view f xs)

row_below : (n : ℕ) (rows : List (List ℕ)) (k : ℕ) → k < length rows → AreBelow n rows → All (λ j. j < n) (slice_index_or rows k [])
row_below n rows k l b = b k [] l

-- what a list of lists has below n, a slice of one of them has
pub slice_below : {X : Type 0} (f : X → List ℕ) (xs : List X) (n m k : ℕ) (x : X) (slice : List ℕ) → k < length xs → x ≡ get_or xs k x → slice ≡ f x → m ≡ n → AreBelow n (map f xs) → All (λ j. j < m) slice
slice_below f xs n m k x slice l e s q b =
    let h = row_below n (map f xs) k (let w = length_view f xs in omega arith) b in
    subst (λ z. All (λ j. j < z) slice) (sym q) (subst (λ ys. All (λ j. j < n) ys) (sym (s ∙ view_at f xs k x l e)) h)

-- what a loan of a whole list gives back
pub written_back : {X : Type 0} (len : ℕ) (new items : List X) → length new ≡ length items → len ≡ length items → take len (new ++ drop (length new) items) ≡ new
written_back len new items e q = back len new (drop (length new) items) (q ∙ sym e)
  where
    back : {X : Type 0} (len : ℕ) (new rest : List X) → len ≡ length new → take len (new ++ rest) ≡ new
    back zero [] rest e = refl
    back (suc len) [] rest e = absurd (omega arith)
    back zero (b ∷ new) rest e = absurd (omega arith)
    back (suc len) (b ∷ new) rest e = ap (λ xs. b ∷ xs) (back len new rest (omega arith))

pub none_of : (xs : List ℕ) (n : ℕ) → n ≡ length xs → true ≡ (n == 0) → xs ≡ []
none_of [] n e t = refl
none_of (x ∷ xs) n e t = absurd (let z = eqb-true n 0 (sym t) in omega arith)

pub some_of : (xs : List ℕ) (n : ℕ) → n ≡ length xs → false ≡ (n == 0) → 0 < length xs
some_of [] n e f = absurd (let t : true ≡ false = sym (eq-eqb n 0 e) ∙ sym f in cc)
some_of (x ∷ xs) n e f = omega arith

-- the same of any view
pub view_in : {X Y : Type 0} (f : X → Y) (xs : List X) (k : ℕ) (x : X) (d : Y) → k < length xs → x ≡ get_or xs k x → f x ≡ slice_index_or (map f xs) k d
view_in f [] k x d l e = absurd (omega arith)
view_in f (y ∷ xs) zero x d l e = ap f e
view_in f (y ∷ xs) (suc k) x d l e = view_in f xs k x d (omega arith) e

pub all_in_view : {X Y : Type 0} (P : Y → Type 0) (f : X → Y) (xs : List X) (k : ℕ) (x : X) → k < length xs → x ≡ get_or xs k x → All P (map f xs) → P (f x)
all_in_view P f xs k x l e h = subst P (sym (view_in f xs k x (f x) l e)) (h k (f x) (let n = length_map xs f in omega arith))
  where
    length_map : {X Y : Type 0} (xs : List X) (f : X → Y) → length (map f xs) ≡ length xs
    length_map [] f = refl
    length_map (x ∷ xs) f = ap suc (length_map xs f)
