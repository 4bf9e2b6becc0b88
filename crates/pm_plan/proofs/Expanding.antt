-- One move more is followed from a row.
use Rattle.std.proofs.Common.{◌≡◌, ℕ, ◌+◌, Some, List, inl, inr, refl, sym, ap, ◌∙◌, subst, arith, All, Contains}
use Rattle.std.specs.Prelude.{slice_get}
use Rattle.std.proofs.lemmas.Bool.{cases_lt}
use Rattle.std.proofs.lemmas.List.Elements.{All-contains}
use Rattle.pm_props.specs.declared.set.PropSet.{PropSet}
use Rattle.pm_weights.specs.Weights.{IsWeight, plus}
use Rattle.pm_weights.proofs.CostOrder.{below_from_at_most}
use Rattle.pm_rules.specs.declared.table.TableRow.{TableRow}
use Rattle.pm_rules.specs.Steps.{IsOpen}
use Rattle.pm_plan.specs.declared.moves.Move.{Move}
use Rattle.pm_plan.specs.declared.search.Search.{Search}
use Rattle.pm_plan.specs.Moves.{after}
use Rattle.pm_plan.specs.Searches.{Offered, Offers, Expands}
use Rattle.pm_plan.proofs.Options.{same_some, contains_at}
use Rattle.pm_plan.proofs.Order.{below_plus}

module _ (moves : List Move) (asked : PropSet) (row : TableRow) (from : ℕ) (weights : All (λ m. IsWeight m.weight) moves) where
  pub expands_none : (s : Search) → Expands moves 0 asked s s row from
  expands_none s = record { rows = refl; links = refl; offered = λ k m low e opened. absurd (omega arith); keeps = λ other h. h; sound = λ start h there above. h }

  same_move : (n k : ℕ) (m other : Move) → slice_get moves n ≡ Some m → k ≡ n → slice_get moves k ≡ Some other → m ≡ other
  same_move n k m other e same f = same_some m other (sym e ∙ ap (slice_get moves) (sym same) ∙ f)

  pub expands_more : (n : ℕ) (m : Move) (old mid new : Search) → slice_get moves n ≡ Some m → IsOpen m.step row.set → Expands moves n asked old mid row from
      → Offers asked mid new (after row m) (Some (record { from = from; id = m.id })) → Expands moves (n + 1) asked old new row from
  expands_more n m old mid new e opened h o = record {
    rows = o.rows ∙ h.rows;
    links = o.links ∙ h.links;
    offered = λ k other low f open_other. elim (cases_lt k n) [
      | inl l ↦ o.keeps (after row other) (h.offered k other l f open_other)
      | inr l ↦ subst (λ (x : Move). Offered asked new (after row x)) (same_move n k m other e (omega arith) f) o.offered
    ];
    keeps = λ other k. o.keeps other (h.keeps other k);
    sound = λ start sound there above.
        let weight = All-contains (λ (x : Move). IsWeight x.weight) moves m weights (contains_at moves n m e) in
        o.sound moves start (h.sound start sound there above)
        (row, (ap (λ (rows : List TableRow). slice_get rows from) h.rows ∙ there), record { move = m; among = contains_at moves n m e; rule = refl; opened = opened; leads = refl })
        (λ settled s. below_from_at_most settled.cost row.cost (plus row.cost m.weight) (above settled (subst (λ (rows : List TableRow). Contains rows settled) h.rows s)) (below_plus row.cost m.weight weight));
  }

  pub expands_same : (n : ℕ) (m : Move) (old new : Search) → slice_get moves n ≡ Some m → (IsOpen m.step row.set → ⊥) → Expands moves n asked old new row from → Expands moves (n + 1) asked old new row from
  expands_same n m old new e shut h = record {
    rows = h.rows;
    links = h.links;
    offered = λ k other low f open_other. elim (cases_lt k n) [
      | inl l ↦ h.offered k other l f open_other
      | inr l ↦ absurd (shut (subst (λ (x : Move). IsOpen x.step row.set) (sym (same_move n k m other e (omega arith) f)) open_other))
    ];
    keeps = h.keeps;
    sound = h.sound;
  }
