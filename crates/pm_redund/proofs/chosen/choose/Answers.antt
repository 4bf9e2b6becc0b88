use Rattle.pm_redund.proofs.Inserted.{insert_within, inserted}
use Rattle.pm_redund.proofs.chosen.choose.Goals as goal
use Rattle.std.proofs.Common.{[], ap, arith, false, length, sym, true, ◌<◌, ◌∙◌}
use Rattle.std.proofs.lemmas.List.{get_or_default, length-set}

pub insert-requires : goal.insert-requires
insert-requires c =
    let h = c.requires.chosen in
    let w = insert_within c.args.chosen.now.marks.items c.args.rows.now c.args.i h.as_many in
    let e = ap length h.lifted in
    let k = c.args.chosen.now.lifted.ok.0 in
    let n = rw c.deref.ensures.value at c.marked_before-place.ensures in
    omega arith

pub returns-clause-chosen : goal.returns-clause-chosen
returns-clause-chosen c =
    let h = c.requires.chosen in
    let M = c.args.chosen.now.marks.items in
    let rows = c.args.rows.now in
    let i = c.args.i in
    let within : i < length M = (let e = h.as_many in let l = c.requires.place in omega arith) in
    let n = rw c.deref.ensures.value at c.marked_before-place.ensures in
    let item = get_or_default rows i [] c.index-rows-i.result c.requires.place ∙ sym c.index-rows-i.is in
    let off = get_or_default M i false c.index.result.now within ∙ sym c.index.ensures ∙ c.if-index.false in
    record {
      as_many = length-set M i true ∙ h.as_many;
      lifted = rw (c.in_ok-insert.ensures.items, h.lifted, n, c.in_ok-headed.ensures, sym item) (inserted M rows i within c.requires.place off);
    }
