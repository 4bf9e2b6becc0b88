-- What holds of all elements so far, with a bound that rises.
use Rattle.pm_graph.specs.Levels.{AreBelow}
use Rattle.std.proofs.Common.{arith, get_or, subst}
use Rattle.std.proofs.lemmas.List.{take_all}
use Rattle.std.proofs.lemmas.List.Elements.{All-more, All-weaker}
use Rattle.std.specs.List.{All}
use Rattle.std.specs.Prelude.{List, length, take, ℕ, ◌+◌, ◌<◌, ◌≡◌, ◌≤◌}

pub one_more_holds : {X : Type 0} (P Q : X → Type 0) (xs : List X) (k : ℕ) (x : X) → ((y : X) → P y → Q y) → k < length xs → x ≡ get_or xs k x → All P (take k xs) → Q x → All Q (take (k + 1) xs)
one_more_holds P Q xs k x f l e h q = All-more Q xs k x l (All-weaker P Q f (take k xs) h) (subst Q e q)

pub all_hold : {X : Type 0} (P : X → Type 0) (xs : List X) (k : ℕ) → length xs ≤ k → All P (take k xs) → All P xs
all_hold P xs k l h = subst (All P) (take_all k xs l) h

pub below_rises : (m n : ℕ) → m ≤ n → (rows : List (List ℕ)) → AreBelow m rows → AreBelow n rows
below_rises m n l rows h = All-weaker (λ row. All (λ j. j < m) row) (λ row. All (λ j. j < n) row) (λ row a. All-weaker (λ j. j < m) (λ j. j < n) (λ j q. omega arith) row a) rows h
