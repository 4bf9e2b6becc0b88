use Rattle.pm_vector.specs.Bases.{column}
use Rattle.pm_simplex.proofs.Solutions.{value_found, value_none}
use Rattle.pm_simplex.proofs.dictionary.Dictionary.value.Goals as goal
use Rattle.pm_simplex.specs.Comparisons.{rows_of}
use Rattle.std.proofs.Common.{sym, ◌∙◌}
use Rattle.std.proofs.lemmas.List.{get_or_read, length-map}

pub returns-in-Some : goal.returns-in-Some
returns-in-Some c =
    let s = c.args.self.now in
    c.entry.ensures.value ∙ sym (value_found (column s.others.items c.args.k) c.args.k s.basis.items (rows_of s) c.args.c c.in-Some.i (λ q. c.if-c-index.false (q ∙ sym (get_or_read s.others.items c.args.k c.index.result.now c.requires.place c.index.ensures 0))) c.in-Some.ensures.within (length-map s.rows.items (λ r. r.items) ∙ c.requires.rectangular.count) c.in-Some.ensures.before c.in-Some.ensures.own)

pub returns-in-None : goal.returns-in-None
returns-in-None c =
    let s = c.args.self.now in
    c.zero.ensures ∙ sym (value_none (column s.others.items c.args.k) c.args.k s.basis.items (rows_of s) c.args.c (λ q. c.if-c-index.false (q ∙ sym (get_or_read s.others.items c.args.k c.index.result.now c.requires.place c.index.ensures 0))) (length-map s.rows.items (λ r. r.items) ∙ c.requires.rectangular.count) c.in-None.ensures.none)
