use Rattle.std.proofs.Common.{arith, refl, rules, tests}
use Rattle.std.proofs.lemmas.Bool.{MatchBool-at_true}
use Rattle.std.proofs.lemmas.Iterator.{YieldsList-from_range, cases_from_all}
use Rattle.std.proofs.lemmas.Iterator.Search.{true_from_All}
use Rattle.std.proofs.lemmas.List.Elements.{All-from_all_within}
use Rattle.std.specs.Prelude.{[], length, slice_index_or, ℕ}
use Rattle.pm_relations.specs.FirstEntries.{HasZeroFirst}
use Rattle.pm_clients_counts.proofs.EachPlace.{places_back, places_to}
use Rattle.pm_clients_counts.proofs.firsts.has_zero_firsts.Goals as goal

pub returns : goal.returns
returns c =
    let rows = c.args.matrix.now.rows in
    let good : ℕ → Type 0 = λ k. HasZeroFirst (slice_index_or rows k []) in
    let bad : ℕ → Type 0 = λ k. good k → ⊥ in
    let r = cases_from_all _ _ _ good bad c.all.ensures.ran (YieldsList-from_range 0 (length rows) (length rows) (rw c.rows.ensures.value refl) (omega arith))
    (λ x q k. search (rules, tests)) (λ x q k. search (rules, tests)) in
    (λ t. places_to HasZeroFirst rows [] (All-from_all_within good _ (MatchBool-at_true _ _ t r)), λ h. true_from_All good bad _ _ (λ k p q. q p) r (places_back HasZeroFirst rows [] h))
