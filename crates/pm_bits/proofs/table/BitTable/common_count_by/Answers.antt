use Rattle.std.proofs.Common.{ap, arith, bit_and, inl, inr, sym, ◌<◌, ◌^◌, ◌∙◌, ◌≡◌}
use Rattle.std.specs.Prelude.{count_ones}
use Rattle.std.proofs.lemmas.Nat.{and_le_r, ones_le_self}
use Rattle.pm_bits.proofs.Folds.{none_in_common, short_common, table_folds, table_lens, table_row}
use Rattle.pm_bits.specs.Table.{row_at}
use Rattle.pm_bits.proofs.table.BitTable.common_count_by.Goals as goal

pub returns-then-both-eq0 : goal.returns-then-both-eq0
returns-then-both-eq0 c =
    let folds = table_folds c.args.self.now c.self.inside.len c.self.inside.rows.items c.self.inside.folds.items c.self.view_is c.self.invariant.1 in
    let lens = table_lens c.args.self.now c.self.inside.len c.self.inside.rows.items c.self.view_is c.self.invariant.0 in
    let row = table_row c.args.self.now c.self.inside.folds.items folds c.args.k c.index.result.now c.requires.place c.index.ensures in
    elim c.if-both-eq0.either [
      | inl short ↦ (
          let n = ap (λ t. t.row_len) c.self.view_is in
          let lk = lens c.args.k c.requires.place in
          let small : bit_and c.index.result.now c.args.fold < 2 ^ 64 = omega (arith, and_le_r c.index.result.now c.args.fold, c.ranges.fold.fits) in
          short_common (row_at c.args.self.now c.args.k) c.args.s.now c.index.result.now c.args.fold small (omega arith) (omega arith) row c.requires.fold)
      | inr apart ↦ (let e : count_ones (bit_and c.index.result.now c.args.fold) ≡ 0 = omega (arith, ones_le_self (bit_and c.index.result.now c.args.fold), apart.1) in e) ∙ sym (none_in_common (row_at c.args.self.now c.args.k) c.args.s.now c.index.result.now c.args.fold row c.requires.fold apart.1)
    ]
