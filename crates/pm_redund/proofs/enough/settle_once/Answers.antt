use Rattle.pm_vector.proofs.ConeLaws.{in_generator}
use Rattle.pm_redund.proofs.Inserted.{more_itself, more_set}
use Rattle.pm_redund.proofs.Marked.{marked_at}
use Rattle.pm_redund.proofs.enough.settle_once.Goals as goal
use Rattle.std.proofs.Common.{arith, false, length, sym, ◌<◌, ◌∙◌}
use Rattle.std.proofs.lemmas.List.{get_or_default}

pub returns-then-index-clause-more : goal.returns-then-index-clause-more
returns-then-index-clause-more c = more_itself c.args.enough.now.chosen.marks.items

pub returns-then-index-clause-settled : goal.returns-then-index-clause-settled
returns-then-index-clause-settled c = λ _.
    let M = c.args.enough.now.chosen.marks.items in
    let within : c.args.i < length M = (let e = c.requires.partly.chosen.as_many in let l = c.requires.place in omega arith) in
    in_generator (marked_at M c.args.rows.now c.args.i c.requires.place (get_or_default M c.args.i false c.index.result.now within ∙ sym c.index.ensures ∙ c.if-index.true))

pub returns-in_default-clause-more : goal.returns-in_default-clause-more
returns-in_default-clause-more c = more_itself c.args.enough.now.chosen.marks.items

pub returns-clause-more : goal.returns-clause-more
returns-clause-more c =
    let M = c.args.enough.now.chosen.marks.items in
    rw c.in_ok-choose.ensures.marks (more_set M c.in_ok-met.met.place (let e = c.requires.partly.chosen.as_many in let l = c.in_ok-met.ensures.place in omega arith))
