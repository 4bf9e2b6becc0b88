-- What is read of the first object is ensured, and then what is read of the second.
use Rattle.std.proofs.Common.{ap, true, ◌∙◌, ◌≡◌}
use Rattle.std.proofs.lemmas.Bool.{and_parts}
use Rattle.std.specs.Option.{is_some}
use Rattle.std.specs.Prelude.{[], string_bytes, ◌∷◌}
use Rattle.pm_command.specs.Builders.{builder_of}
use Rattle.pm_machine.proofs.BuildNames.{all_parts, all_told, both_parts, both_told, first_parts, first_told}
use Rattle.pm_machine.proofs.NarrowBuilding.{if_ok_tells, on_err_parts}
use Rattle.pm_rounds.proofs.Narrowing.{narrows_more}
use Rattle.pm_machine.proofs.Growth.{still_some}
use Rattle.pm_rounds.proofs.Rounds.{on_err_of}
use Rattle.pm_machine.specs.Building.{are_named}
use Rattle.pm_making.specs.Rows.{row_of}
use Rattle.pm_machine.specs.Sessions.{machine_of}
use Rattle.pm_machine.proofs.session.Session.ensure_operands.Goals as goal
use Rattle.pm_machine.specs.Machines.{shelf}

pub ensure_all-requires : goal.ensure_all-requires
ensure_all-requires g c =
    let m = machine_of c.args.self.now [] in
    let named : are_named (shelf m) (string_bytes c.in-One.name ∷ []) ≡ true = rw c.in-One.is at c.requires.named in
    record { named = rw c.deref.ensures (and_parts (is_some (m.object (string_bytes c.in-One.name))) true named).0 }

pub ensure_all-requires-in-Two : goal.ensure_all-requires-in-Two
ensure_all-requires-in-Two g c =
    let m = machine_of c.args.self.now [] in
    let named : are_named (shelf m) (string_bytes c.in-Two.first ∷ string_bytes c.in-Two.second ∷ []) ≡ true = rw c.in-Two.is at c.requires.named in
    record { named = rw c.deref-in-Two.ensures (and_parts (is_some (m.object (string_bytes c.in-Two.first))) (are_named (shelf m) (string_bytes c.in-Two.second ∷ [])) named).0 }

pub ensure_all-requires-in-Two-2 : goal.ensure_all-requires-in-Two-2
ensure_all-requires-in-Two-2 g c =
    let m = machine_of c.args.self.now [] in
    let named : are_named (shelf m) (string_bytes c.in-Two.first ∷ string_bytes c.in-Two.second ∷ []) ≡ true = rw c.in-Two.is at c.requires.named in
    let second = (and_parts (is_some (m.object (string_bytes c.in-Two.first))) (are_named (shelf m) (string_bytes c.in-Two.second ∷ [])) named).1 in
    let t = rw c.in-Found.is at c.in_ok-ending-in-Two.ensures.ok in
    record { named = rw c.deref-in-Two-2.ensures (still_some _ _ _ t.rounds _ _ (string_bytes c.in-Two.second) t.ensured (and_parts (is_some (m.object (string_bytes c.in-Two.second))) true second).0) }

pub returns-in-One-clause-ok : goal.returns-in-One-clause-ok
returns-in-One-clause-ok g c = rw c.in-One.is (all_told _ _ (string_bytes c.in-One.name) _ _ _ (c.row_of-row.ensures.reads ∙ ap (λ z. (row_of z).reads) c.builder.ensures ∙ ap (λ z. (row_of (builder_of z)).reads) c.in-One.is) c.deref.ensures c.ensure_all.result _ _ _ _ c.ensure_all.ensures.ok)

pub returns-in-One-clause-part : goal.returns-in-One-clause-part
returns-in-One-clause-part g c = rw c.in-One.is (all_parts _ _ (string_bytes c.in-One.name) _ _ _ (c.row_of-row.ensures.reads ∙ ap (λ z. (row_of z).reads) c.builder.ensures ∙ ap (λ z. (row_of (builder_of z)).reads) c.in-One.is) c.deref.ensures c.ensure_all.result _ _ c.ensure_all.ensures.part)

pub returns-in_err-ending-in-Two-clause-part : goal.returns-in_err-ending-in-Two-clause-part
returns-in_err-ending-in-Two-clause-part g c =
    on_err_of c.from_residual.result (rw c.in-Two.is
    (first_parts _ _ (string_bytes c.in-Two.first) _ _ _ (c.row_of-row.ensures.reads ∙ ap (λ z. (row_of z).reads) c.builder.ensures ∙ ap (λ z. (row_of (builder_of z)).reads) c.in-Two.is) c.deref-in-Two.ensures (string_bytes c.in-Two.second) _ _ c.in_err-ending-in-Two.ensures.part))

pub returns-in_default-clause-ok : goal.returns-in_default-clause-ok
returns-in_default-clause-ok g c =
    rw c.in-Two.is
    (first_told _ _ (string_bytes c.in-Two.first) _ _ _ (c.row_of-row.ensures.reads ∙ ap (λ z. (row_of z).reads) c.builder.ensures ∙ ap (λ z. (row_of (builder_of z)).reads) c.in-Two.is) c.deref-in-Two.ensures (string_bytes c.in-Two.second) c.in_ok-ending-in-Two.ending _ _ _ _ c.in_default.not-Found c.in_ok-ending-in-Two.ensures.ok)

pub returns-in-Found-clause-ok : goal.returns-in-Found-clause-ok
returns-in-Found-clause-ok g c =
    rw c.in-Two.is
    (both_told _ _ (string_bytes c.in-Two.first) _ _ _ (c.row_of-row.ensures.reads ∙ ap (λ z. (row_of z).reads) c.builder.ensures ∙ ap (λ z. (row_of (builder_of z)).reads) c.in-Two.is) c.deref-in-Two.ensures (string_bytes c.in-Two.second) _ c.deref-in-Two-2.ensures _ c.ensure_all-in-Two.ensures.book _ _ _ _
    (rw c.in-Found.is at c.in_ok-ending-in-Two.ensures.ok) c.ensure_all-in-Two-2.result _ _ (if_ok_tells _ _ c.ensure_all-in-Two.ensures.narrows _ c.ensure_all-in-Two-2.result _ _ _ _ _ c.ensure_all-in-Two-2.ensures.ok))

pub returns-in-Found-clause-part : goal.returns-in-Found-clause-part
returns-in-Found-clause-part g c =
    rw c.in-Two.is
    (both_parts _ _ (string_bytes c.in-Two.first) _ _ _ (c.row_of-row.ensures.reads ∙ ap (λ z. (row_of z).reads) c.builder.ensures ∙ ap (λ z. (row_of (builder_of z)).reads) c.in-Two.is) c.deref-in-Two.ensures (string_bytes c.in-Two.second) _ c.deref-in-Two-2.ensures _ c.ensure_all-in-Two.ensures.book _ _ _ _
    (rw c.in-Found.is at c.in_ok-ending-in-Two.ensures.ok) c.ensure_all-in-Two-2.result _ (on_err_parts _ _ c.ensure_all-in-Two.ensures.narrows _ c.ensure_all-in-Two-2.result _ _ _ c.ensure_all-in-Two-2.ensures.part))

pub returns-in-Found-clause-narrows : goal.returns-in-Found-clause-narrows
returns-in-Found-clause-narrows g c = narrows_more _ _ _ c.ensure_all-in-Two.ensures.narrows c.ensure_all-in-Two-2.ensures.narrows
