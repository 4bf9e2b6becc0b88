-- The object of the name is written through its reference; the others stay.
use Rattle.std.proofs.Common.{ap, false, refl, sym, true, ◌∙◌, ◌≡◌}
use Rattle.pm_machine.proofs.Names.{disable_done, disable_unknown, stays_with, written}
use Rattle.pm_rounds.proofs.Rounds.{on_err_of}
use Rattle.pm_machine.specs.Steps.{has_label}
use Rattle.pm_machine.proofs.session.Session.do_disable.Goals as goal

pub returns-then-not-has_label-clause-step : goal.returns-then-not-has_label-clause-step
returns-then-not-has_label-clause-step g c =
    let o = c.in-Some.object.now in
    let w = written c.args.self.now.objects (c.get_mut.follows.lender o) _ c.args.name.now o o refl c.in-Some.ensures.value (c.get_mut.follows.holds o).1 (c.get_mut.follows.holds o).3 in
    let none : has_label c.args.label.now c.args.self.now.book ≡ false = sym (ap (λ z. has_label c.args.label.now z) c.rules.ensures.value) ∙ sym c.has_label.ensures ∙ c.if-not-has_label.true in
    rw c.refused-then-not-has_label.ensures (disable_unknown w _ c.args.self.now.book _ none refl)

pub returns-clause-step : goal.returns-clause-step
returns-clause-step g c =
    let o = c.in-Some.object.now in
    let o' = c.disable.new.self in
    let w = written c.args.self.now.objects (c.get_mut.follows.lender o') _ c.args.name.now o o' refl c.in-Some.ensures.value (c.get_mut.follows.holds o').1 (c.get_mut.follows.holds o').3 in
    let known : has_label c.args.label.now c.args.self.now.book ≡ true = sym (ap (λ z. has_label c.args.label.now z) c.rules.ensures.value) ∙ sym c.has_label.ensures ∙ c.if-not-has_label.false in
    rw c.done.ensures (disable_done w _ c.args.self.now.book _ known c.in_ok-disable.ensures.ok)

pub returns-in_err-disable-clause-err : goal.returns-in_err-disable-clause-err
returns-in_err-disable-clause-err g c =
    let o = c.in-Some.object.now in
    let o' = c.disable.new.self in
    let w = written c.args.self.now.objects (c.get_mut.follows.lender o') _ c.args.name.now o o' refl c.in-Some.ensures.value (c.get_mut.follows.holds o').1 (c.get_mut.follows.holds o').3 in
    on_err_of _ (stays_with w _ c.in_err-disable.ensures.err)
