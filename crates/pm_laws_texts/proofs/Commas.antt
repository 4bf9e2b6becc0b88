-- Items with commas between them, and with a comma behind each.
use Rattle.std.proofs.Common.{◌≡◌, ◌∙◌, ◌++◌, ℕ, List, [], ◌∷◌, ap, append-nil, append_assoc, codes, refl, sym}
use Rattle.std.specs.List.{flat_map}
use Rattle.pm_books.specs.Grammar.{behind_comma, separated}
use Rattle.pm_laws_texts.specs.BookFaults.{followed}

-- one more item behind a comma
behind_more : (items : List (List (List ℕ))) (item : List (List ℕ)) → flat_map behind_comma (items ++ item ∷ []) ≡ flat_map behind_comma items ++ codes "," ∷ item
behind_more [] item = ap (λ (l : List (List ℕ)). codes "," ∷ l) (append-nil item)
behind_more (x ∷ items) item = ap (λ (l : List (List ℕ)). (codes "," ∷ x) ++ l) (behind_more items item) ∙ sym (append_assoc (codes "," ∷ x) (flat_map behind_comma items) (codes "," ∷ item))

pub separated_more : (items : List (List (List ℕ))) (item : List (List ℕ)) → separated (items ++ item ∷ []) ≡ followed items ++ item
separated_more [] item = append-nil item
separated_more (x ∷ items) item =
    ap (λ (l : List (List ℕ)). x ++ l) (behind_more items item ∙ commas items item)
    ∙ sym (append_assoc x (codes "," ∷ followed items) item)
    ∙ ap (λ (l : List (List ℕ)). l ++ item) (sym (append_assoc x (codes "," ∷ []) (followed items)))
  where
    commas : (items : List (List (List ℕ))) (item : List (List ℕ)) → flat_map behind_comma items ++ codes "," ∷ item ≡ codes "," ∷ (followed items ++ item)
    commas [] item = refl
    commas (x ∷ items) item =
        append_assoc (codes "," ∷ x) (flat_map behind_comma items) (codes "," ∷ item)
        ∙ ap (λ (l : List (List ℕ)). (codes "," ∷ x) ++ l) (commas items item)
        ∙ ap (λ (l : List (List ℕ)). codes "," ∷ l) (sym (append_assoc x (codes "," ∷ followed items) item) ∙ ap (λ (l : List (List ℕ)). l ++ item) (sym (append_assoc x (codes "," ∷ []) (followed items))))

-- and a comma behind the last
pub followed_is : (x : List (List ℕ)) (items : List (List (List ℕ))) → followed (x ∷ items) ≡ separated (x ∷ items) ++ codes "," ∷ []
followed_is x items = append_assoc x (codes "," ∷ []) (followed items) ∙ ap (λ (l : List (List ℕ)). x ++ l) (last items) ∙ sym (append_assoc x (flat_map behind_comma items) (codes "," ∷ []))
  where
    last : (items : List (List (List ℕ))) → codes "," ∷ followed items ≡ flat_map behind_comma items ++ codes "," ∷ []
    last [] = refl
    last (x ∷ items) =
        ap (λ (l : List (List ℕ)). codes "," ∷ l) (append_assoc x (codes "," ∷ []) (followed items) ∙ ap (λ (l : List (List ℕ)). x ++ l) (last items))
        ∙ sym (append_assoc (codes "," ∷ x) (flat_map behind_comma items) (codes "," ∷ []))
