-- Lines that were read, one more, and the tables of all.
use Rattle.std.proofs.Common.{◌≡◌, ℕ, ◌+◌, ◌<◌, ◌≤◌, List, [], ◌∷◌, ◌++◌, length, refl, sym, ap, ◌∙◌, subst, arith, append_assoc, append-nil}
use Rattle.std.specs.Prelude.{All, flat_map}
use Rattle.std.proofs.lemmas.List.Elements.{All-push}
use Rattle.std.proofs.lemmas.Grind.{flat_map-append}

-- a line more is read
pub whole_more : {X : Type 0} (line : X → List ℕ) (text : List ℕ) (xs : List X) (x : X) (rest behind : List ℕ) → text ≡ flat_map line xs ++ rest → rest ≡ line x ++ behind
    → text ≡ flat_map line (xs ++ x ∷ []) ++ behind
whole_more line text xs x rest behind e at =
    e ∙ ap (λ r. flat_map line xs ++ r) at ∙ sym (append_assoc (flat_map line xs) (line x) behind)
    ∙ ap (λ t. t ++ behind) (ap (λ r. flat_map line xs ++ r) (sym (append-nil (line x))) ∙ sym (flat_map-append line xs (x ∷ [])))
