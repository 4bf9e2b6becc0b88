-- After the first properties the next one is ensured, or not found, or in part.
use Rattle.std.proofs.Common.{◌∙◌}
use Rattle.pm_machine.proofs.Ensuring.{end_told, next_told, part_told}
use Rattle.pm_machine.proofs.NarrowBuilding.{one_part_more, tells_one_more}
use Rattle.pm_rounds.proofs.Narrowing.{narrows_more}
use Rattle.pm_machine.proofs.Growth.{still_some}
use Rattle.pm_rounds.proofs.Rounds.{on_err_of}
use Rattle.pm_props.specs.declared.property.PropId.TheVariants.{ConeAmbientDim}
use Rattle.pm_machine.proofs.session.Session.ensure_all.Goals as goal

pub ensure_one-requires : goal.ensure_one-requires
ensure_one-requires g c =
    let t = c.loop-p.invariant.told in
    record { named = still_some _ _ _ t.rounds _ _ c.args.name.now t.ensured c.requires.named }

pub returns-in_err-ending-clause-part : goal.returns-in_err-ending-clause-part
returns-in_err-ending-clause-part g c =
    on_err_of c.from_residual.result (part_told _ _ _ c.loop-p.invariant.book c.args.name.now c.args.ps.now c.loop-p.p-index ConeAmbientDim c.loop-p-test.true _ _ _ _ c.loop-p.invariant.told _ (one_part_more _ _ c.loop-p.invariant.narrows _ _ _ _ c.in_err-ending.ensures.part))

pub returns-in_default-clause-ok : goal.returns-in_default-clause-ok
returns-in_default-clause-ok g c =
    end_told _ _ _ c.loop-p.invariant.book c.args.name.now c.args.ps.now c.loop-p.p-index ConeAmbientDim c.loop-p-test.true _ _ _ _ c.loop-p.invariant.told c.in_ok-ending.ending _ _ c.in_default.not-Found (tells_one_more _ _ c.loop-p.invariant.narrows _ _ _ _ _ _ _ c.in_ok-ending.ensures.ok)

pub loop-p-preserved : goal.loop-p-preserved
loop-p-preserved g c = record {
  told =
      next_told _ _ _ c.loop-p.invariant.book c.args.name.now c.args.ps.now c.loop-p.p-index ConeAmbientDim c.loop-p-test.true _ _ _ _ c.loop-p.invariant.told _ _ (tells_one_more _ _ c.loop-p.invariant.narrows _ _ _ _ _ _ _ (rw c.in-Found.is at c.in_ok-ending.ensures.ok));
  narrows = narrows_more _ _ _ c.loop-p.invariant.narrows c.ensure_one.ensures.narrows;
  book = c.ensure_one.ensures.book ∙ c.loop-p.invariant.book;
  spent = c.ensure_one.ensures.spent ∙ c.loop-p.invariant.spent;
}

pub returns-in_err-ending-clause-narrows : goal.returns-in_err-ending-clause-narrows
returns-in_err-ending-clause-narrows g c = narrows_more _ _ _ c.loop-p.invariant.narrows c.ensure_one.ensures.narrows

pub returns-in_default-clause-narrows : goal.returns-in_default-clause-narrows
returns-in_default-clause-narrows g c = narrows_more _ _ _ c.loop-p.invariant.narrows c.ensure_one.ensures.narrows
