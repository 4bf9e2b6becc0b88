use Rattle.pm_vector.specs.Rows.{entry, ratio_at}
use Rattle.pm_fraction.specs.Fractions.{ratio_of}
use Rattle.pm_optima.proofs.Scales.{is_scale, no_error}
use Rattle.pm_optima.proofs.objective.scale_at.Goals as goal
use Rattle.pm_vector.proofs.Kept.{kept}
use Rattle.std.proofs.Common.{Err, ap, arith, length, pos, ◌<◌, ◌∙◌, ◌≡◌}
use Rattle.std.proofs.lemmas.List.{get_or_read}

pub unreachable-requires : goal.unreachable-requires
unreachable-requires c =
    let l : c.args.i < length c.args.objective.now = (let e = c.requires.stands.cols in let k = c.requires.within in omega arith) in
    let own : c.index-objective-i.result ≡ ratio_at c.args.objective.now c.args.i = get_or_read c.args.objective.now c.args.i c.index-objective-i.result l c.index-objective-i.is (ratio_of (pos 0) (pos 1)) in
    let whole : c.whole.result ≡ ratio_of (entry c.args.row.now c.args.i) (pos 1) = c.whole.ensures ∙ ap (λ z. ratio_of z (pos 1)) (kept c.get.result c.get.ensures.in_range ∙ c.get.ensures.value) in
    let k = rw (own, whole) at c.in_default.ensures in
    no_error c.args.objective.now c.args.row.now c.requires.primitive c.requires.stands c.requires.stays c.args.i c.requires.within c.requires.some c.in_default.field-0
    k.errors (λ e. k.zero.0 (ap (λ z. Err z) e)) (λ e. k.wide (ap (λ z. Err z) e))

pub returns : goal.returns
returns c =
    let l : c.args.i < length c.args.objective.now = (let e = c.requires.stands.cols in let k = c.requires.within in omega arith) in
    let own : c.index-objective-i.result ≡ ratio_at c.args.objective.now c.args.i = get_or_read c.args.objective.now c.args.i c.index-objective-i.result l c.index-objective-i.is (ratio_of (pos 0) (pos 1)) in
    let whole : c.whole.result ≡ ratio_of (entry c.args.row.now c.args.i) (pos 1) = c.whole.ensures ∙ ap (λ z. ratio_of z (pos 1)) (kept c.get.result c.get.ensures.in_range ∙ c.get.ensures.value) in
    let k = rw (own, whole) at c.in-Ok.ensures in
    is_scale c.args.objective.now c.args.row.now c.requires.stands c.args.i c.requires.within c.requires.some c.in-Ok.scale k.ok
