-- The JSON of a list, an element at a time.
use Rattle.std.proofs.Common.{ap, arith, length, map, take, ◌++◌, ◌≡◌, ◌≢◌, ◌≤◌, ◌∙◌, ℕ, List, [], ◌∷◌, refl}
use Rattle.std.proofs.lemmas.Bool.{ne_eqb}
use Rattle.std.proofs.lemmas.List.{length-map, take_all}
use Rattle.std.specs.Global.{Vec}
use Rattle.serde_json.proofs.Views.{view-Array}
use Rattle.serde_json.specs.Data.{Data, array}
use Rattle.serde_json.specs.View.{items_of, view}
use Rattle.serde_json.specs.declared.value.Value.{Value, Array}
use Rattle.pm_vector.specs.Numbers.{Ratio}
use Rattle.pm_files.specs.ValueJson.{array_of, cols_json, matrix_json, row_json}

-- the whole list
pub all_made : {X : Type 0} (g : X → Data) (xs : List X) (vs : List Value) (i : ℕ) → map view vs ≡ take i (map g xs) → length xs ≤ i → map view vs ≡ map g xs
all_made g xs vs i h le = let m = length-map xs g in h ∙ take_all i (map g xs) (omega arith)

pub array_made : {X : Type 0} (g : X → Data) (xs : List X) (vs : Vec Value) (i : ℕ) → map view vs.items ≡ take i (map g xs) → length xs ≤ i → view (Array vs) ≡ array_of (map g xs)
array_made g xs vs i h le = view-Array vs ∙ ap (λ ds. array (items_of ds)) (all_made g xs vs.items i h le)

pub array_is : (vs : Vec Value) (ds : List Data) → map view vs.items ≡ ds → view (Array vs) ≡ array_of ds
array_is vs ds e = view-Array vs ∙ ap (λ es. array (items_of es)) e

pub map_twice : {X Y Z : Type 0} (f : X → Y) (g : Y → Z) (xs : List X) → map (λ x. g (f x)) xs ≡ map g (map f xs)
map_twice f g [] = refl
map_twice f g (x ∷ xs) = ap (λ l. g (f x) ∷ l) (map_twice f g xs)

-- a matrix without rows that states its column count, and any other
pub matrix_stated : (n : ℕ) (rows : List (List Ratio)) → length rows ≡ 0 → n ≢ 0 → matrix_json n rows ≡ array_of (map row_json rows ++ cols_json n ∷ [])
matrix_stated n [] empty some = rw (ne_eqb n 0 some) refl
matrix_stated n (r ∷ rows) empty some = absurd (omega arith)

pub matrix_told : (n : ℕ) (rows : List (List Ratio)) → (length rows ≡ 0 → n ≡ 0) → matrix_json n rows ≡ array_of (map row_json rows)
matrix_told n [] told = rw (told refl) refl
matrix_told n (r ∷ rows) told = refl
