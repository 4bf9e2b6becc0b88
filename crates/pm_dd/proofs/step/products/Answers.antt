use Rattle.pm_vector.specs.Rows.{dot}
use Rattle.pm_dd.proofs.Building.{entries_more}
use Rattle.pm_dd.proofs.Stands.{stand_in_range}
use Rattle.pm_dd.proofs.step.products.Goals as goal
use Rattle.pm_dd.specs.Building.{StandsFor}
use Rattle.pm_geom.specs.Faces.{ray}
use Rattle.std.specs.Int.{w128}
use Rattle.std.proofs.lemmas.Int.{fits_signed_from_abs, to_z-of_z}
use Rattle.std.proofs.Common.{FitsSigned, ap, arith, length, ◌+◌, ◌<◌, ◌≡◌, ◌∙◌, ℕ}
use Rattle.std.proofs.lemmas.List.{get_or_read, length_push}

pub loop-i-preserved : goal.loop-i-preserved
loop-i-preserved c =
    let within : c.loop-i.i < length c.args.rays.now = omega arith in
    let here : c.index-rays-i.result ≡ ray c.args.rays.now c.loop-i.i = get_or_read c.args.rays.now c.loop-i.i c.index-rays-i.result within c.index-rays-i.is _ in
    let value : StandsFor (dot c.args.row.now (ray c.args.rays.now c.loop-i.i)) c.in-Ok.value = rw here at c.in-Ok.ensures.stands in
    let so_far = c.loop-i.invariant.as_many in
    let f : FitsSigned w128 c.in-Ok.value = fits_signed_from_abs w128 c.in-Ok.value (stand_in_range (dot c.args.row.now (ray c.args.rays.now c.loop-i.i)) c.in-Ok.value value) in
    rw (c.in_ok-push.ensures.items, to_z-of_z w128 c.in-Ok.value f) (record {
      as_many = length_push c.loop-i.made.items c.in-Ok.value ∙ ap (λ (k : ℕ). k + 1) so_far;
      each = entries_more (λ k z. StandsFor (dot c.args.row.now (ray c.args.rays.now k)) z) c.loop-i.made.items c.in-Ok.value c.loop-i.i so_far c.loop-i.invariant.each value;
    })
