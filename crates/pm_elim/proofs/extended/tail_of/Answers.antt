use Rattle.std.proofs.Common.{arith, drop, length, ◌-◌, ◌∙◌}
use Rattle.std.proofs.lemmas.List.{length-drop, take_all}
use Rattle.pm_elim.proofs.extended.tail_of.Goals as goal

pub slice_bounds-from_slice-count : goal.slice_bounds-from_slice-count
slice_bounds-from_slice-count c = rw c.as_slice.ensures.value c.requires

pub returns : goal.returns
returns c =
    let part = take_all (length c.args.row.now - c.args.from) (drop c.args.from c.args.row.now) (let l = length-drop c.args.from c.args.row.now in omega arith) in
    c.from_vec.ensures ∙ (rw (c.as_slice.ensures.value, part) at c.in_ok-entries.ensures.items)
