-- The object of the name is written through its reference; the others stay.
use Rattle.std.proofs.Common.{refl}
use Rattle.pm_machine.proofs.BuildNames.{one_part, one_told, whole_part}
use Rattle.pm_machine.proofs.Names.{later_is, written}
use Rattle.pm_rounds.proofs.Rounds.{on_err_of}
use Rattle.pm_machine.proofs.session.Session.ensure_one.Goals as goal

pub returns-in_err-ending-clause-part : goal.returns-in_err-ending-clause-part
returns-in_err-ending-clause-part g c =
    let o = c.in-Some.object.now in
    let o' = c.ensure.new.object in
    let w = written c.args.self.now.objects (c.get_mut.follows.lender o') _ c.args.name.now o o' refl c.in-Some.ensures.value (c.get_mut.follows.holds o').1 (c.get_mut.follows.holds o').3 in
    on_err_of c.from_residual.result (one_part w _ _ _ c.args.p c.of.ensures.value _ _ c.in_err-ending.ensures.err)

pub returns-in_err-later-clause-part : goal.returns-in_err-later-clause-part
returns-in_err-later-clause-part g c =
    let o = c.in-Some.object.now in
    let o' = c.ensure.new.object in
    let w = written c.args.self.now.objects (c.get_mut.follows.lender o') _ c.args.name.now o o' refl c.in-Some.ensures.value (c.get_mut.follows.holds o').1 (c.get_mut.follows.holds o').3 in
    on_err_of c.from_residual-in_err-later.result (whole_part w _ _ _ c.args.p c.of.ensures.value _ _ _ c.in_ok-ending.ensures.ok)

pub returns-in_err-append-clause-part : goal.returns-in_err-append-clause-part
returns-in_err-append-clause-part g c =
    let o = c.in-Some.object.now in
    let o' = c.ensure.new.object in
    let w = written c.args.self.now.objects (c.get_mut.follows.lender o') _ c.args.name.now o o' refl c.in-Some.ensures.value (c.get_mut.follows.holds o').1 (c.get_mut.follows.holds o').3 in
    on_err_of c.from_residual-in_err-append.result (whole_part w _ _ _ c.args.p c.of.ensures.value _ _ _ c.in_ok-ending.ensures.ok)

pub returns-clause-ok : goal.returns-clause-ok
returns-clause-ok g c =
    let o = c.in-Some.object.now in
    let o' = c.ensure.new.object in
    let w = written c.args.self.now.objects (c.get_mut.follows.lender o') _ c.args.name.now o o' refl c.in-Some.ensures.value (c.get_mut.follows.holds o').1 (c.get_mut.follows.holds o').3 in
    one_told w _ _ _ c.args.p c.of.ensures.value _ _ _ c.args.rounds.now.items c.in_ok-later.later.items c.append.new.self.items c.in_ok-ending.ensures.ok c.in_ok-append.ensures.items
    (later_is _ c.rounds-before.result.now o.state o'.state _ refl c.rounds-before.ensures c.in_ok-later.ensures)
