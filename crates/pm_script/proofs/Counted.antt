-- Rounds with their number before them.
use Rattle.std.proofs.Common.{ap, codes, decimal, sym, ◌∙◌, ◌≡◌, ℕ, List, ◌++◌, length, map}
use Rattle.std.proofs.lemmas.List.{length-map}
use Rattle.pm_object.specs.Views.{round_seen}
use Rattle.pm_object.specs.declared.held.Round.{Round}

pub counted : (now word told : List ℕ) (rounds : List Round) → now ≡ word ++ codes " " ++ decimal (length rounds) ++ codes "\n" ++ told → now ≡ word ++ codes " " ++ decimal (length (map round_seen rounds)) ++ codes "\n" ++ told
counted now word told rounds is = is ∙ ap (λ n. word ++ codes " " ++ decimal n ++ codes "\n" ++ told) (sym (length-map rounds round_seen))
