use Rattle.pm_simplex.proofs.Absorbing.{absorbing_next, absorbing_skip, zero_num}
use Rattle.pm_simplex.proofs.absorb.absorb_row.Goals as goal

pub returns-in_ok-pivot_or_evidence-in-Some-clause-absorbed : goal.returns-in_ok-pivot_or_evidence-in-Some-clause-absorbed
returns-in_ok-pivot_or_evidence-in-Some-clause-absorbed g c e =
    absorbing_next c.args.y g.system c.args.d.now c.pivot_or_evidence.new.self c.args.n c.in-Some.j c.requires.0 c.requires.1.0 c.requires.1.1 c.in-Some.ensures.within c.in-Some.ensures.free c.in-Some.ensures.depends c.in_ok-pivot_or_evidence-in-Some.ensures.pivoted

pub returns-in-None-clause-absorbed : goal.returns-in-None-clause-absorbed
returns-in-None-clause-absorbed g c e = absorbing_skip c.args.y g.system c.args.d.now c.args.n c.requires.0 c.requires.1.0 c.requires.1.1 c.in-None.ensures.none (zero_num c.is_zero.result c.entry.result _ e c.is_zero.ensures c.entry.ensures.value)
