-- The evidence of the object of the name is told, where some rule has the label.
use Rattle.std.proofs.Common.{ap, false, refl, sym, true, true≢false, ◌∙◌, ◌≡◌}
use Rattle.pm_machine.proofs.Names.{evidence_told}
use Rattle.pm_machine.specs.Steps.{has_label, is_refused, no_such_rule}
use Rattle.pm_object.specs.State.{ObjectSeen}
use Rattle.pm_script.specs.Replies.{seen}
use Rattle.std.specs.Option.{is_some, option_map}
use Rattle.pm_machine.proofs.session.Session.do_evidence.Goals as goal

pub returns-then-not-has_label : goal.returns-then-not-has_label
returns-then-not-has_label g c =
    let at = ap (option_map (λ (z : ObjectSeen). z.state)) (sym c.in-Some.ensures.value) in
    let none : has_label c.args.label.now c.args.self.now.book ≡ false = sym (ap (λ z. has_label c.args.label.now z) c.rules.ensures.value) ∙ sym c.has_label.ensures ∙ c.if-not-has_label.true in
    rw c.refused-then-not-has_label.ensures (is_refused (no_such_rule (λ e. true≢false (ap is_some (sym at ∙ e))) none) (record { names = refl; objects = λ q. refl; clients = refl; store = refl }))

pub returns : goal.returns
returns g c =
    let known : has_label c.args.label.now c.args.self.now.book ≡ true = sym (ap (λ z. has_label c.args.label.now z) c.rules.ensures.value) ∙ sym c.has_label.ensures ∙ c.if-not-has_label.false in
    evidence_told seen c.tell_evidence.result _ _ _ _ c.in-Some.object.now.state (ap (option_map (λ (z : ObjectSeen). z.state)) (sym c.in-Some.ensures.value)) known c.tell_evidence.ensures
