use Rattle.pm_graph.proofs.Views.{all_in_view, view_in}
use Rattle.pm_graph.proofs.inclusions.entry.Goals as goal
use Rattle.std.proofs.Common.{[], ap, arith, length, subst, sym, ◌<◌, ◌^◌, ◌∙◌}
use Rattle.std.proofs.lemmas.List.{length-map}
use Rattle.std.specs.List.{All}

pub index-requires : goal.index-requires
index-requires c =
    let v = view_in (λ row. row.items) c.args.counts.now c.args.i c.index-counts-i.result [] c.requires.i_within c.index-counts-i.is in
    let t = c.requires.triangle.lengths c.args.i (let n = length-map c.args.counts.now (λ row. row.items) in let l = c.requires.i_within in omega arith) in
    let e = ap length v ∙ t in
    let b = c.if-k-i.true in
    omega arith

pub index-requires-else-k-i : goal.index-requires-else-k-i
index-requires-else-k-i c =
    let v = view_in (λ row. row.items) c.args.counts.now c.args.k c.index-counts-k.result [] c.requires.k_within c.index-counts-k.is in
    let t = c.requires.triangle.lengths c.args.k (let n = length-map c.args.counts.now (λ row. row.items) in let l = c.requires.k_within in omega arith) in
    let e = ap length v ∙ t in
    let b = c.if-k-i.false in
    omega arith

pub returns-then-k-i-clause-small : goal.returns-then-k-i-clause-small
returns-then-k-i-clause-small c =
    let v = view_in (λ row. row.items) c.args.counts.now c.args.i c.index-counts-i.result [] c.requires.i_within c.index-counts-i.is in
    let t = c.requires.triangle.lengths c.args.i (let n = length-map c.args.counts.now (λ row. row.items) in let l = c.requires.i_within in omega arith) in
    let h = all_in_view (All (λ n. n < 2 ^ 126)) (λ row. row.items) c.args.counts.now c.args.i c.index-counts-i.result c.requires.i_within c.index-counts-i.is c.requires.triangle.small in
    subst (λ n. n < 2 ^ 126) (sym c.index.ensures) (h c.args.k c.index.result.now (let e = ap length v ∙ t in let b = c.if-k-i.true in omega arith))

pub returns-else-k-i-clause-small : goal.returns-else-k-i-clause-small
returns-else-k-i-clause-small c =
    let v = view_in (λ row. row.items) c.args.counts.now c.args.k c.index-counts-k.result [] c.requires.k_within c.index-counts-k.is in
    let t = c.requires.triangle.lengths c.args.k (let n = length-map c.args.counts.now (λ row. row.items) in let l = c.requires.k_within in omega arith) in
    let h = all_in_view (All (λ n. n < 2 ^ 126)) (λ row. row.items) c.args.counts.now c.args.k c.index-counts-k.result c.requires.k_within c.index-counts-k.is c.requires.triangle.small in
    subst (λ n. n < 2 ^ 126) (sym c.index-else-k-i.ensures) (h c.args.i c.index-else-k-i.result.now (let e = ap length v ∙ t in let b = c.if-k-i.false in omega arith))
