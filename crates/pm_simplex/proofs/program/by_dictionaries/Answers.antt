use Rattle.pm_simplex.proofs.StartDictionary.{start_is_absorbing}
use Rattle.pm_simplex.proofs.program.by_dictionaries.Goals as goal
use Rattle.pm_simplex.specs.Answers.{IsProgram, Program}
use Rattle.pm_simplex.specs.Running.{IsAbsorbing}
use Rattle.std.proofs.Common.{subst, sym}

pub from_start-requires : goal.from_start-requires
from_start-requires g c =
    let s = start_is_absorbing c.args.y c.args.a.now c.args.b.now c.args.c.now c.in_ok-d.d c.requires.1.0 c.requires.1.1.0 c.requires.1.1.1.1.1 c.requires.1.1.1.0 c.requires.1.1.1.1.0 c.in_ok-d.ensures in
    subst (λ (p : Program). IsProgram c.args.y p × IsAbsorbing c.args.y p.system c.in_ok-d.d c.args.y.slacks) (sym c.requires.0)
    (record { cols = c.requires.1.1.1.1.1; equations = s.equations }, s.absorbing)
