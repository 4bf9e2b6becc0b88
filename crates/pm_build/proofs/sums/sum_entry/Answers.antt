use Rattle.pm_build.proofs.SumLaws.{entry_stays, entry_value, entry_wide}
use Rattle.pm_build.proofs.sums.sum_entry.Goals as goal
use Rattle.pm_vector.proofs.Kept.{kept}
use Rattle.std.proofs.Common.{ap, ◌*ℤ◌, ◌∙◌}

pub returns-clause-value : goal.returns-clause-value
returns-clause-value c =
    let f = kept c.args.f.first c.requires.factors.0 in
    let g = kept c.args.f.second c.requires.factors.1 in
    let x = (rw (f, kept c.get-2.result c.get-2.ensures.in_range) at c.in_ok-x.ensures.value) ∙ ap (λ z. c.args.f.first *ℤ z) c.get-2.ensures.value in
    let y = (rw (g, kept c.get-3.result c.get-3.ensures.in_range) at c.in_ok-y.ensures.value) ∙ ap (λ z. c.args.f.second *ℤ z) c.get-3.ensures.value in
    let s = rw (kept c.in_ok-x.x c.in_ok-x.ensures.in_range, kept c.in_ok-y.y c.in_ok-y.ensures.in_range) at c.plus.ensures.value in
    entry_value c.args.f.first c.args.f.second c.args.v.now c.args.w.now c.args.k c.in_ok-x.x c.in_ok-y.y c.plus.result c.if-k-eq0.false x y s

pub returns-clause-stays : goal.returns-clause-stays
returns-clause-stays c =
    let f = kept c.args.f.first c.requires.factors.0 in
    let g = kept c.args.f.second c.requires.factors.1 in
    let x = (rw (f, kept c.get-2.result c.get-2.ensures.in_range) at c.in_ok-x.ensures.value) ∙ ap (λ z. c.args.f.first *ℤ z) c.get-2.ensures.value in
    let y = (rw (g, kept c.get-3.result c.get-3.ensures.in_range) at c.in_ok-y.ensures.value) ∙ ap (λ z. c.args.f.second *ℤ z) c.get-3.ensures.value in
    let s = rw (kept c.in_ok-x.x c.in_ok-x.ensures.in_range, kept c.in_ok-y.y c.in_ok-y.ensures.in_range) at c.plus.ensures.value in
    entry_stays c.args.f.first c.args.f.second c.args.v.now c.args.w.now c.args.k c.in_ok-x.x c.in_ok-y.y c.plus.result c.if-k-eq0.false x y c.in_ok-x.ensures.in_range c.in_ok-y.ensures.in_range s c.plus.ensures.in_range

pub returns-clause-wide : goal.returns-clause-wide
returns-clause-wide c =
    let f = kept c.args.f.first c.requires.factors.0 in
    let g = kept c.args.f.second c.requires.factors.1 in
    let x = (rw (f, kept c.get-2.result c.get-2.ensures.in_range) at c.in_ok-x.ensures.value) ∙ ap (λ z. c.args.f.first *ℤ z) c.get-2.ensures.value in
    let y = (rw (g, kept c.get-3.result c.get-3.ensures.in_range) at c.in_ok-y.ensures.value) ∙ ap (λ z. c.args.f.second *ℤ z) c.get-3.ensures.value in
    let s = rw (kept c.in_ok-x.x c.in_ok-x.ensures.in_range, kept c.in_ok-y.y c.in_ok-y.ensures.in_range) at c.plus.ensures.wide in
    entry_wide c.args.f.first c.args.f.second c.args.v.now c.args.w.now c.args.k c.in_ok-x.x c.in_ok-y.y c.plus.result c.if-k-eq0.false x y s
