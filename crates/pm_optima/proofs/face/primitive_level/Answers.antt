use Rattle.pm_vector.specs.Numbers.{Ratio}
use Rattle.pm_vector.specs.Rows.{ratio_at}
use Rattle.pm_optima.proofs.face.primitive_level.Goals as goal
use Rattle.pm_simplex.specs.OptimumEvidence.{IsLevelRow}
use Rattle.pm_types.proofs.PrimitiveRows.{not_wide}
use Rattle.std.proofs.Common.{inr, pos, ◌≡◌}
use Rattle.std.proofs.lemmas.List.{get_or_read}

pub returns-in-Err-Wide-clause-none : goal.returns-in-Err-Wide-clause-none
returns-in-Err-Wide-clause-none c =
    let zero : Ratio = record { num = pos 0; den = pos 1 } in
    let at : c.index-objective-0.result ≡ ratio_at c.args.objective.now 0 = get_or_read c.args.objective.now 0 c.index-objective-0.result c.requires c.index-objective-0.is zero in
    let row = c.in_ok-fractions.fractions.items in
    let level : IsLevelRow c.args.objective.now c.args.value c.in_ok-fractions.fractions.items = record {
      cols = c.in_ok-fractions.ensures.cols;
      first = rw (c.in_ok-fractions.ensures.first) (rw at at c.in-Ok.ensures.ok);
      others = c.in_ok-fractions.ensures.others;
    } in
    let k = c.in-Err-Wide in
    inr (c.in_ok-fractions.fractions.items, level, λ h. not_wide c.in_ok-fractions.fractions.items k.field-0-0 k.field-0-1 h (rw (k.field-0-is, c.deref.ensures.value) at k.ensures.wide))
