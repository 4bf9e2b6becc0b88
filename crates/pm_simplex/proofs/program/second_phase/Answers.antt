use Rattle.pm_geom.specs.Programs.{IsOptimal}
use Rattle.pm_simplex.proofs.Answers.{dictionary_dual, optimal, unbounded}
use Rattle.pm_simplex.proofs.program.second_phase.Goals as goal
use Rattle.std.proofs.Common.{subst, sym}

pub returns-in_ok-multipliers-in-Optimal-clause-answer : goal.returns-in_ok-multipliers-in-Optimal-clause-answer
returns-in_ok-multipliers-in-Optimal-clause-answer g c =
    let p = g.program in
    subst (λ v. IsOptimal p.inequalities p.equations p.objective v c.in_ok-values-in-Optimal.field-0.items c.in_ok-multipliers-in-Optimal.field-0.items) (sym c.entry.ensures.value)
    (optimal c.args.y g.program c.improve.new.d c.requires.0 c.in_ok-improve.ensures.state c.in_ok-improve.ensures.arranged (c.in_ok-improve.ensures.without c.requires.1.without) c.in_ok-values-in-Optimal.field-0.items c.in_ok-values-in-Optimal.ensures
    (rw c.in-Optimal.is at c.in_ok-improve.ensures.end) c.in_ok-multipliers-in-Optimal.field-0.items c.in_ok-multipliers-in-Optimal.ensures)

pub returns-in_ok-values-in-Unbounded-2-clause-answer : goal.returns-in_ok-values-in-Unbounded-2-clause-answer
returns-in_ok-values-in-Unbounded-2-clause-answer g c =
    unbounded c.args.y g.program c.improve.new.d c.requires.0 c.in_ok-improve.ensures.state c.in_ok-improve.ensures.arranged (c.in_ok-improve.ensures.without c.requires.1.without) c.in_ok-values-in-Unbounded.field-0.items c.in_ok-values-in-Unbounded.ensures
    c.in-Unbounded.enters (rw c.in-Unbounded.is at c.in_ok-improve.ensures.end) c.in_ok-values-in-Unbounded-2.field-0.items c.in_ok-values-in-Unbounded-2.ensures

pub returns-in_ok-multipliers-in-Optimal-clause-dual : goal.returns-in_ok-multipliers-in-Optimal-clause-dual
returns-in_ok-multipliers-in-Optimal-clause-dual g c =
    dictionary_dual c.args.y g.program c.improve.new.d c.requires.0 c.in_ok-improve.ensures.state c.in_ok-improve.ensures.arranged (c.in_ok-improve.ensures.without c.requires.1.without) c.in_ok-values-in-Optimal.field-0.items c.in_ok-values-in-Optimal.ensures
    (rw c.in-Optimal.is at c.in_ok-improve.ensures.end) c.in_ok-multipliers-in-Optimal.field-0.items c.in_ok-multipliers-in-Optimal.ensures
