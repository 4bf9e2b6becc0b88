use Rattle.std.proofs.Common.{[], ap, arith, bit_or, length, refl, ◌*◌, ◌%◌, ◌<◌, ◌^◌, ◌≡◌, ◌∙◌}
use Rattle.std.specs.Prelude.{slice_index, slice_index_or}
use Rattle.std.proofs.lemmas.List.{get_or_read}
use Rattle.pm_bits.proofs.TableEdits.{bits_set, fold_set, folds_set}
use Rattle.pm_bits.specs.Folds.{IsFold}
use Rattle.pm_bits.proofs.table.BitTable.set.Goals as goal

pub invariant_of-self : goal.invariant_of-self
invariant_of-self c =
    let rows = c.self.inside.rows.items in
    let folds = c.self.inside.folds.items in
    let n = ap (λ t. length t.rows) c.self.view_is in
    let inside : c.args.k < length rows = omega arith in
    let m = c.self.invariant.1.as_many in
    let inside_folds : c.args.k < length folds = omega arith in
    let row : c.index_mut.result.now ≡ slice_index_or rows c.args.k [] = get_or_read rows c.args.k c.index_mut.result.now inside c.index_mut.ensures.value [] in
    let word : c.index_mut-2.result.now ≡ slice_index folds c.args.k = get_or_read folds c.args.k c.index_mut-2.result.now inside_folds c.index_mut-2.ensures.value 0 in
    let old : IsFold c.index_mut.result.now c.index_mut-2.result.now = rw (row, word) (c.self.invariant.1.each c.args.k inside) in
    let new = fold_set c.index_mut.result.now c.set.new.self c.index_mut-2.result.now c.args.i old c.set.ensures.member c.set.ensures.others in
    let len : length c.set.new.self ≡ c.self.inside.len = c.set.ensures.len ∙ ap length row ∙ c.self.invariant.0 c.args.k [] inside in (
      bits_set c.self.inside.len rows _ c.args.k c.set.new.self c.self.invariant.0 inside len refl,
      folds_set rows _ folds _ c.args.k c.set.new.self (bit_or c.index_mut-2.result.now (1 * 2 ^ (c.args.i % 64) % 2 ^ 64)) c.self.invariant.1 inside new refl refl,
    )
