-- Each turn puts one program more behind the others.
use Rattle.pm_files.proofs.Lists.{all_made, array_is, map_twice}
use Rattle.pm_files.specs.Files.{program_json}
use Rattle.pm_files.specs.Views.{program_of}
use Rattle.pm_files.proofs.write.programs_json.Goals as goal
use Rattle.pm_geom.proofs.Copies.{made}
use Rattle.serde_json.specs.View.{view}
use Rattle.std.proofs.Common.{ap, arith, map, ◌∙◌}

pub loop-program-preserved : goal.loop-program-preserved
loop-program-preserved c =
    rw c.in_ok-push.ensures.items (made view (λ p. program_json (program_of p)) c.args.programs.now c.loop-program.items.items c.in_ok-program_json.field-0 c.loop-program.program-index c.program-item.result c.loop-program.invariant (omega arith)
    (c.in_ok-program_json.ensures ∙ ap (λ p. program_json (program_of p)) c.program-item.is))

pub returns : goal.returns
returns c =
    array_is c.loop-program.items (map program_json (map program_of c.args.programs.now))
    (all_made (λ p. program_json (program_of p)) c.args.programs.now c.loop-program.items.items c.loop-program.program-index c.loop-program.invariant c.loop-program-test.false ∙ map_twice program_of program_json c.args.programs.now)
