-- Each turn puts one mark more behind the others.
use Rattle.pm_files.proofs.Lists.{all_made, array_is, map_twice}
use Rattle.pm_files.specs.Files.{mark_json}
use Rattle.pm_files.proofs.write.marks_json.Goals as goal
use Rattle.pm_geom.proofs.Copies.{made}
use Rattle.serde_json.specs.View.{view}
use Rattle.std.proofs.Common.{ap, arith, map, string_bytes, ◌∙◌}

pub loop-mark-preserved : goal.loop-mark-preserved
loop-mark-preserved c =
    rw c.in_ok-push.ensures.items (made view (λ m. mark_json (string_bytes m.0, m.1)) c.args.failed.now c.loop-mark.marks.items c.in_ok-mark_json.field-0 c.loop-mark.mark-index c.mark-item.result c.loop-mark.invariant (omega arith)
    (c.in_ok-mark_json.ensures ∙ ap (λ m. mark_json (string_bytes m.0, m.1)) c.mark-item.is))

pub returns : goal.returns
returns c =
    array_is c.loop-mark.marks (map mark_json (map (λ m. (string_bytes m.0, m.1)) c.args.failed.now))
    (all_made (λ m. mark_json (string_bytes m.0, m.1)) c.args.failed.now c.loop-mark.marks.items c.loop-mark.mark-index c.loop-mark.invariant c.loop-mark-test.false ∙ map_twice (λ m. (string_bytes m.0, m.1)) mark_json c.args.failed.now)
