-- Lists that grow by one: what is so at each place stays so.
use Rattle.pm_vector.specs.Numbers.{Ratio}
use Rattle.pm_programs.specs.Dictionaries.{HasPlaces, IsNewElsewhere, IsNewHere, IsPivoted, IsRowAfter, at, row_of}
use Rattle.pm_vector.specs.Rows.{ratio_at}
use Rattle.std.proofs.Common.{ap, arith, map, refl, below_more, get_or, length, subst, sym, ◌++◌, ◌+◌, ◌<◌, ◌≡◌, ◌∙◌, ℕ, List, [], ◌∷◌}
use Rattle.std.proofs.lemmas.List.{get_or_append_left, get_or_push, get_or-map, length_push, map_push}

pub pushed : {A : Type 0} (P : ℕ → A → Type 0) (d : A) (xs ys : List A) (x : A) (n : ℕ) → ys ≡ xs ++ x ∷ [] → length xs ≡ n → ((k : ℕ) → k < n → P k (get_or xs k d)) → P n x
    → (k : ℕ) → k < n + 1 → P k (get_or ys k d)
pushed {A} P d xs ys x n e l h p =
    below_more (λ k. P k (get_or ys k d)) n
    (λ k lk. let in_xs : k < length xs = omega arith in moved k (subst (λ z. P k z) (sym (get_or_append_left xs (x ∷ []) d k in_xs)) (h k lk)))
    (moved n (subst (λ z. P n z) (sym (get_or_push xs x d n l)) p))
  where
    moved : (k : ℕ) → P k (get_or (xs ++ x ∷ []) k d) → P k (get_or ys k d)
    moved k q = subst (λ zs. P k (get_or zs k d)) (sym e) q

pub count_pushed : {A : Type 0} (xs ys : List A) (x : A) (n : ℕ) → ys ≡ xs ++ x ∷ [] → length xs ≡ n → length ys ≡ n + 1
count_pushed xs ys x n e l = rw e (length_push xs x ∙ (rw l refl))

pub row_read : {V : Type 0} (items : V → List Ratio) (rows : List V) (i : ℕ) (v : V) → i < length rows → v ≡ get_or rows i v → row_of (map items rows) i ≡ items v
row_read items rows i v l e = get_or-map items rows i v [] l ∙ ap items (sym e)

pub elsewhere_as : (x y x' y' : List Ratio) (j k : ℕ) (b r : Ratio) → x ≡ x' → y ≡ y' → IsNewElsewhere x' y' j k b r → IsNewElsewhere x y j k b r
elsewhere_as x y x' y' j k b r e f h = subst (λ u. IsNewElsewhere u y j k b r) (sym e) (subst (λ u. IsNewElsewhere x' u j k b r) (sym f) h)

pub one_length : (D : List (List Ratio)) (cols l i : ℕ) (x y : List Ratio) → HasPlaces cols D → l < length D → i < length D → row_of D l ≡ x → row_of D i ≡ y → (length y ≡ length x) × (length x ≡ cols)
one_length D cols l i x y h hl hi e f = (sym (ap length f) ∙ h.each i hi ∙ sym (h.each l hl) ∙ ap length e, sym (ap length e) ∙ h.each l hl)

pub here_as : (x x' : List Ratio) (j k : ℕ) (r : Ratio) → x ≡ x' → IsNewHere x' j k r → IsNewHere x j k r
here_as x x' j k r e h = subst (λ u. IsNewHere u j k r) (sym e) h

-- rows that come one after another
module _ {V : Type 0} (items : V → List Ratio) (P : ℕ → List Ratio → Type 0) where
  pub row_pushed : (xs ys : List V) (v : V) (n : ℕ) → ys ≡ xs ++ v ∷ [] → length (map items xs) ≡ n → ((k : ℕ) → k < n → P k (row_of (map items xs) k)) → P n (items v)
      → (k : ℕ) → k < n + 1 → P k (row_of (map items ys) k)
  row_pushed xs ys v n e l h p = pushed P [] (map items xs) (map items ys) (items v) n (ap (map items) e ∙ map_push items xs v) l h p

  pub count_rows : (xs ys : List V) (v : V) (n : ℕ) → ys ≡ xs ++ v ∷ [] → length (map items xs) ≡ n → length (map items ys) ≡ n + 1
  count_rows xs ys v n e l = count_pushed (map items xs) (map items ys) (items v) n (ap (map items) e ∙ map_push items xs v) l

pub pivoted_from : (rows cols : ℕ) (D : List (List Ratio)) (l j : ℕ) (b : List Ratio) (D' : List (List Ratio)) → l < rows → ((k : ℕ) → k < cols → IsNewHere (row_of D l) j k (ratio_at b k))
    → ((i : ℕ) → i < rows → IsRowAfter cols D l j b i (row_of D' i)) → IsPivoted rows cols D l j D'
pivoted_from rows cols D l j b D' hl new after = record {
  here = λ k lk. subst (λ x. IsNewHere (row_of D l) j k (ratio_at x k)) (sym is_b) (new k lk);
  elsewhere = λ i k li ni lk. subst (λ x. IsNewElsewhere (row_of D l) (row_of D i) j k (ratio_at x k) (at D' i k)) (sym is_b) ((after i li).elsewhere ni k lk);
}
  where
    is_b : row_of D' l ≡ b
    is_b = (after l hl).here refl
