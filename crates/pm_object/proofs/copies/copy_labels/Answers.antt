-- Each turn adds one more.
use Rattle.pm_geom.proofs.Copies.{copied}
use Rattle.pm_object.proofs.copies.copy_labels.Goals as goal
use Rattle.std.proofs.Common.{ap, arith, rules, ◌≡◌, ◌∙◌}
use Rattle.std.specs.Prelude.{string_bytes}

pub loop-label-preserved : goal.loop-label-preserved
loop-label-preserved c =
    let same : string_bytes c.in_ok-from_str.field-0 ≡ string_bytes c.label-item.result = search rules in
    rw c.in_ok-push.ensures.items (copied string_bytes c.args.labels.now c.loop-label.copies.items c.in_ok-from_str.field-0 c.loop-label.label-index c.label-item.result c.loop-label.invariant (omega arith) (same ∙ ap string_bytes c.label-item.is))
