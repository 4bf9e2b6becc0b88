use Rattle.pm_vector.specs.Rows.{ratio_at}
use Rattle.pm_simplex.proofs.Pushed.{elsewhere_as, one_length, row_read}
use Rattle.pm_simplex.proofs.pivot.new_row.Goals as goal
use Rattle.pm_programs.specs.Dictionaries.{row_of}
use Rattle.std.proofs.Common.{map, sym, ◌∙◌}
use Rattle.std.proofs.lemmas.List.{length-map}

pub new_other_row-requires-clause-cols : goal.new_other_row-requires-clause-cols
new_other_row-requires-clause-cols c =
    let l = row_read (λ r. r.items) c.args.rows.now c.args.l c.index-rows-l.result c.requires.pivot_row c.index-rows-l.is in
    let i = row_read (λ r. r.items) c.args.rows.now c.args.i c.index-rows-i.result c.requires.row c.index-rows-i.is in
    (one_length (map (λ r. r.items) c.args.rows.now) c.args.cols c.args.l c.args.i c.deref.result.now c.deref-2.result.now c.requires.shape (rw length-map c.requires.pivot_row) (rw length-map c.requires.row) (l ∙ sym c.deref.ensures.value) (i ∙ sym c.deref-2.ensures.value)).0

pub returns-in-Ok-clause-elsewhere : goal.returns-in-Ok-clause-elsewhere
returns-in-Ok-clause-elsewhere c =
    let l = row_read (λ r. r.items) c.args.rows.now c.args.l c.index-rows-l.result c.requires.pivot_row c.index-rows-l.is in
    let i = row_read (λ r. r.items) c.args.rows.now c.args.i c.index-rows-i.result c.requires.row c.index-rows-i.is in
    let e = (one_length (map (λ r. r.items) c.args.rows.now) c.args.cols c.args.l c.args.i c.deref.result.now c.deref-2.result.now c.requires.shape (rw length-map c.requires.pivot_row) (rw length-map c.requires.row) (l ∙ sym c.deref.ensures.value) (i ∙ sym c.deref-2.ensures.value)).1 in
    λ ni k lk. elsewhere_as (row_of (map (λ r. r.items) c.args.rows.now) c.args.l) (row_of (map (λ r. r.items) c.args.rows.now) c.args.i) c.deref.result.now c.deref-2.result.now c.args.j k (ratio_at c.args.b.now k) (ratio_at c.in-Ok.row.items k)
    (l ∙ sym c.deref.ensures.value) (i ∙ sym c.deref-2.ensures.value) (c.in-Ok.ensures.ok k (rw e lk))
