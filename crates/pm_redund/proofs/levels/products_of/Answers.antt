use Rattle.pm_redund.proofs.levels.products_of.Goals as goal
use Rattle.pm_vector.specs.Rows.{dot}
use Rattle.std.proofs.Common.{FitsSigned, [], sym, take, ◌∷◌, ◌≡◌}
use Rattle.std.proofs.lemmas.Int.{fits_signed_from_abs, to_z-of_z}
use Rattle.std.proofs.lemmas.List.{map-append, take_more}
use Rattle.std.specs.Int.{w128}

pub loop-other-preserved : goal.loop-other-preserved
loop-other-preserved c =
    let i = c.loop-other.other-index in
    let fits : FitsSigned w128 c.in-Ok.product = fits_signed_from_abs w128 c.in-Ok.product c.in-Ok.ensures.in_range in
    let value : c.in-Ok.product ≡ dot c.args.row.now c.other-item.result = rw (c.as_slice.ensures.value, c.as_slice-in-loop-other.ensures.value) at c.in-Ok.ensures.value in
    rw (c.in_ok-push-in-Ok.ensures.items, to_z-of_z w128 c.in-Ok.product fits, c.loop-other.invariant, value, take_more c.args.rows.now i c.other-item.result c.loop-other-test.true, ← c.other-item.is)
    (sym (map-append (dot c.args.row.now) (take i c.args.rows.now) (c.other-item.result ∷ [])))
