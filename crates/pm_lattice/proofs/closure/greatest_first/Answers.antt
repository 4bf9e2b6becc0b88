-- The copies are sorted and turned round, and are then the rows in another order.
use Rattle.pm_lattice.proofs.closure.greatest_first.Goals as goal
use Rattle.std.proofs.Common.{Bool, List, length, subst, sym, ◌∙◌, ◌≡◌}
use Rattle.std.proofs.lemmas.List.Sorted.{All-permutation, IsPermutation-trans}
use Rattle.std.proofs.lemmas.Result.{IfOk-weaker}
use Rattle.std.specs.List.{All}
use Rattle.std.specs.List.Sorted.{IsPermutation}

pub from_rows-requires : goal.from_rows-requires
from_rows-requires c =
    let len : List Bool → Type 0 = λ row. length row ≡ c.args.rows.now.row_len in
    let sorted = All-permutation len c.in_ok-list.list.items c.sort_unstable.new.self.items c.sort_unstable.ensures.permutation c.in_ok-list.ensures.lengths in
    let turned = All-permutation len c.sort_unstable.new.self.items c.reverse.new.self.items c.reverse.ensures.permutation sorted in
    subst (λ n. All (λ row. length row ≡ n) c.reverse.new.self.items) (sym c.row_len.ensures) turned

pub returns-clause-rows : goal.returns-clause-rows
returns-clause-rows c =
    let turned = IsPermutation-trans c.in_ok-list.list.items c.sort_unstable.new.self.items c.reverse.new.self.items c.sort_unstable.ensures.permutation c.reverse.ensures.permutation in
    let moved = subst (λ rows. IsPermutation rows c.reverse.new.self.items) c.in_ok-list.ensures.rows turned in
    IfOk-weaker c.from_rows.result (λ table. table ≡ record { row_len = c.row_len.result; rows = c.reverse.new.self.items }) (λ table. IsPermutation c.args.rows.now.rows table.rows)
    (λ table e. subst (λ t. IsPermutation c.args.rows.now.rows t.rows) (sym e) moved) c.from_rows.ensures
