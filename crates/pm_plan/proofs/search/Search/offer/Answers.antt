use Rattle.std.proofs.Common.{Result, Ok, Err}
use Rattle.std.specs.Prelude.{OnOk}
use Rattle.std.proofs.lemmas.Bool.{iff_false}
use Rattle.pm_plan.proofs.Settling.{offers_renewed, offers_goal}
use Rattle.pm_plan.proofs.search.Search.offer.Goals as goal

on_ok_then : {T E P Q : Type 0} (r : Result T E) → OnOk r P → (P → Q) → OnOk r Q
on_ok_then (Ok x) h f = f h
on_ok_then (Err e) h f = h

pub returns-then-not-has_goal : goal.returns-then-not-has_goal
returns-then-not-has_goal c =
    offers_goal c.args.asked c.args.self.now c.args.row.now c.args.link (iff_false c.has_goal.ensures c.if-not-has_goal.true) (c.is_subset.ensures.subset.0 c.if-is_subset.true)

pub returns : goal.returns
returns c =
    on_ok_then c.renew.result c.renew.ensures (λ renews.
    offers_renewed c.args.asked c.args.self.now c.renew.new.self c.args.row.now c.args.link renews (iff_false c.is_known.ensures c.if-is_known.false) (iff_false c.is_subset.ensures.subset c.if-is_subset.false))
