-- What is read is ensured, or not found; then the object is made, or a condition fails.
use Rattle.pm_telling.specs.Telling.{rules_told}
use Rattle.std.proofs.Common.{ap, inr, refl, subst, sym, ◌∙◌, ◌≡◌}
use Rattle.std.specs.Prelude.{None, [], false, map, string_bytes}
use Rattle.pm_command.specs.Builders.{builder_of, operands_of}
use Rattle.pm_machine.proofs.BuildSteps.{build_answered, if_broken, of_row, reads_done, stays_with}
use Rattle.pm_making.proofs.Fits.{of_its_type}
use Rattle.pm_machine.proofs.Ensuring.{all_in_part, from_nothing, stays_itself, to_in_part}
use Rattle.pm_rounds.proofs.Rounds.{on_err_of}
use Rattle.pm_machine.specs.Building.{is_crowded, no_chain, no_such_name, other_type, is_refused, no_new_name}
use Rattle.pm_making.specs.Rows.{row_of}
use Rattle.pm_machine.specs.Machines.{IsNewName, shelf}
use Rattle.pm_machine.specs.Sessions.{book_of, machine_of}
use Rattle.pm_object.specs.Views.{round_seen}
use Rattle.pm_script.specs.Replies.{names_seen, remarks, seen}
use Rattle.pm_machine.proofs.session.Session.do_build.Goals as goal

pub returns-then-not-are_named-clause-step : goal.returns-then-not-are_named-clause-step
returns-then-not-are_named-clause-step g c = rw c.refused.ensures (is_refused (no_such_name (sym c.are_named.ensures ∙ c.if-not-are_named.true)) (stays_itself _))

pub returns-in-Some-clause-step : goal.returns-in-Some-clause-step
returns-in-Some-clause-step g c =
    rw c.refused-in-Some.ensures
    (is_refused (no_new_name (sym c.are_named.ensures ∙ c.if-not-are_named.false) (rw c.as_str.ensures.value at c.in-Some.ensures.some)) (stays_itself _))

pub returns-then-not-are_of-clause-step : goal.returns-then-not-are_of-clause-step
returns-then-not-are_of-clause-step g c =
    rw c.refused-then-not-are_of.ensures
    (is_refused (other_type (sym c.are_named.ensures ∙ c.if-not-are_named.false) (subst (IsNewName (shelf (machine_of c.args.self.now []))) c.as_str.ensures.value c.in_default.ensures.none)
    (of_row _ (builder_of c.args.what.now) (machine_of c.args.self.now []) (operands_of c.args.what.now) (c.row_of-row.ensures.of ∙ ap (λ z. (row_of z).of) c.builder.ensures) (sym c.are_of.ensures ∙ c.if-not-are_of.true))) (stays_itself _))

pub ensure_operands-requires : goal.ensure_operands-requires
ensure_operands-requires g c = record { named = (sym c.are_named.ensures ∙ c.if-not-are_named.false) }

pub returns-in_err-ending-clause-part : goal.returns-in_err-ending-clause-part
returns-in_err-ending-clause-part g c = on_err_of c.from_residual.result (inr ((subst (IsNewName (shelf (machine_of c.args.self.now []))) c.as_str.ensures.value c.in_default.ensures.none), (of_row _ (builder_of c.args.what.now) (machine_of c.args.self.now []) (operands_of c.args.what.now) (c.row_of-row.ensures.of ∙ ap (λ z. (row_of z).of) c.builder.ensures) (sym c.are_of.ensures ∙ c.if-not-are_of.false))), c.in_err-ending.ensures.part)

pub returns-in_err-names-clause-part : goal.returns-in_err-names-clause-part
returns-in_err-names-clause-part g c =
    on_err_of c.from_residual-in_err-names.result (
      inr ((subst (IsNewName (shelf (machine_of c.args.self.now []))) c.as_str.ensures.value c.in_default.ensures.none), (of_row _ (builder_of c.args.what.now) (machine_of c.args.self.now []) (operands_of c.args.what.now) (c.row_of-row.ensures.of ∙ ap (λ z. (row_of z).of) c.builder.ensures) (sym c.are_of.ensures ∙ c.if-not-are_of.false))),
      to_in_part _ _ _ c.in_ok-ending.ending _ _ _ _ (from_nothing _ _ _ _ c.in_ok-ending.ending _ _ _ _ refl (λ i. c.in_ok-ending.ending) (ap (map round_seen) c.new-rounds.ensures.items) c.in_ok-ending.ensures.ok) (stays_itself _),
    )

pub build_read-requires-clause-read : goal.build_read-requires-clause-read
build_read-requires-clause-read g c =
    let all = (from_nothing _ _ _ _ _ _ _ _ _ refl c.in-Found.is (ap (map round_seen) c.new-rounds.ensures.items) c.in_ok-ending.ensures.ok) in
    reads_done _ (builder_of c.args.what.now) _ (operands_of c.args.what.now) _ _ _ all (of_row _ (builder_of c.args.what.now) (machine_of c.args.self.now []) (operands_of c.args.what.now) (c.row_of-row.ensures.of ∙ ap (λ z. (row_of z).of) c.builder.ensures) (sym c.are_of.ensures ∙ c.if-not-are_of.false))

pub returns-in-Found-clause-step : goal.returns-in-Found-clause-step
returns-in-Found-clause-step g c =
    let names : names_seen c.in_ok-names.names ≡ rules_told (book_of c.args.self.now) = (c.in_ok-names.ensures ∙ ap rules_told (c.rules.ensures.value ∙ c.ensure_operands.ensures.book)) in
    let all = (from_nothing _ _ _ _ _ _ _ _ _ refl c.in-Found.is (ap (map round_seen) c.new-rounds.ensures.items) c.in_ok-ending.ensures.ok) in
    let types = (of_row _ (builder_of c.args.what.now) (machine_of c.args.self.now []) (operands_of c.args.what.now) (c.row_of-row.ensures.of ∙ ap (λ z. (row_of z).of) c.builder.ensures) (sym c.are_of.ensures ∙ c.if-not-are_of.false)) in
    build_answered _ seen c.build_read.result _ (builder_of c.args.what.now) (operands_of c.args.what.now) (string_bytes c.args.new) _ _ _ _ (machine_of c.ensure_operands.new.self []) (machine_of c.build_read.new.self []) (subst (IsNewName (shelf (machine_of c.args.self.now []))) c.as_str.ensures.value c.in_default.ensures.none) types all
    (ap (λ z. record { rounds = map round_seen c.ensure_operands.new.rounds.items; names = z }) names) (of_its_type (builder_of c.args.what.now)) (reads_done _ (builder_of c.args.what.now) _ (operands_of c.args.what.now) _ _ _ all types) c.build_read.ensures.builds

pub returns-in-Found-clause-part : goal.returns-in-Found-clause-part
returns-in-Found-clause-part g c =
    let all = (from_nothing _ _ _ _ _ _ _ _ _ refl c.in-Found.is (ap (map round_seen) c.new-rounds.ensures.items) c.in_ok-ending.ensures.ok) in
    if_broken c.build_read.result (λ s. (
      inr ((subst (IsNewName (shelf (machine_of c.args.self.now []))) c.as_str.ensures.value c.in_default.ensures.none), (of_row _ (builder_of c.args.what.now) (machine_of c.args.self.now []) (operands_of c.args.what.now) (c.row_of-row.ensures.of ∙ ap (λ z. (row_of z).of) c.builder.ensures) (sym c.are_of.ensures ∙ c.if-not-are_of.false))),
      all_in_part _ _ _ _ _ _ _ all (stays_with _ (machine_of c.ensure_operands.new.self []) (machine_of c.build_read.new.self []) s),
    )) c.build_read.ensures.err

pub returns-in-NoChain-clause-step : goal.returns-in-NoChain-clause-step
returns-in-NoChain-clause-step g c =
    let names : names_seen c.in_ok-names.names ≡ rules_told (book_of c.args.self.now) = (c.in_ok-names.ensures ∙ ap rules_told (c.rules.ensures.value ∙ c.ensure_operands.ensures.book)) in
    rw c.refused_after.ensures (no_chain (record {
      free = (subst (IsNewName (shelf (machine_of c.args.self.now []))) c.as_str.ensures.value c.in_default.ensures.none);
      types = (of_row _ (builder_of c.args.what.now) (machine_of c.args.self.now []) (operands_of c.args.what.now) (c.row_of-row.ensures.of ∙ ap (λ z. (row_of z).of) c.builder.ensures) (sym c.are_of.ensures ∙ c.if-not-are_of.false));
      rounds = map round_seen c.ensure_operands.new.rounds.items;
      ends = (from_nothing _ _ _ _ _ _ _ _ _ refl c.in-NoChain.is (ap (map round_seen) c.new-rounds.ensures.items) c.in_ok-ending.ensures.ok);
      told = ap (λ z. remarks false (map round_seen c.ensure_operands.new.rounds.items) [] None z) names;
    }))

pub returns-in-Crowded-clause-step : goal.returns-in-Crowded-clause-step
returns-in-Crowded-clause-step g c =
    let names : names_seen c.in_ok-names.names ≡ rules_told (book_of c.args.self.now) = (c.in_ok-names.ensures ∙ ap rules_told (c.rules.ensures.value ∙ c.ensure_operands.ensures.book)) in
    rw c.refused_after-in-Crowded.ensures (is_crowded (record {
      free = (subst (IsNewName (shelf (machine_of c.args.self.now []))) c.as_str.ensures.value c.in_default.ensures.none);
      types = (of_row _ (builder_of c.args.what.now) (machine_of c.args.self.now []) (operands_of c.args.what.now) (c.row_of-row.ensures.of ∙ ap (λ z. (row_of z).of) c.builder.ensures) (sym c.are_of.ensures ∙ c.if-not-are_of.false));
      rounds = map round_seen c.ensure_operands.new.rounds.items;
      ends = (from_nothing _ _ _ _ _ _ _ _ _ refl c.in-Crowded.is (ap (map round_seen) c.new-rounds.ensures.items) c.in_ok-ending.ensures.ok);
      told = ap (λ z. remarks false (map round_seen c.ensure_operands.new.rounds.items) [] None z) names;
    }))
