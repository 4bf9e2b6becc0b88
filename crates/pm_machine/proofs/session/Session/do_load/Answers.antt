-- No file is there, or its bytes are read.
use Rattle.std.proofs.Common.{Some, ap, refl, ◌∙◌, sym}
use Rattle.pm_machine.proofs.Beside.{bytes_found, file_answered, none_found}
use Rattle.pm_machine.specs.Machines.{Store}
use Rattle.pm_machine.specs.Steps.{no_such_file, is_refused}
use Rattle.pm_script.specs.Replies.{seen}
use Rattle.std.specs.Option.{option_map}
use Rattle.pm_machine.proofs.session.Session.do_load.Goals as goal

pub returns-in_default-found-clause-step : goal.returns-in_default-found-clause-step
returns-in_default-found-clause-step g c =
    let before : Store = record { files = g.F.Store.files c.args.store.now; faults = g.F.Store.faults c.args.store.now } in
    rw c.refused-in_default-found.ensures (is_refused
    (rw c.as_str.ensures.value at c.in_default.ensures.none)
    (no_such_file (none_found before c.args.file.now (option_map (λ v. v.items) c.in-Ok.found) (ap (option_map (λ v. v.items)) c.in_default-found.is) c.in-Ok.ensures.finds))
    (record { names = refl; objects = λ q. refl; clients = refl; store = record { files = c.get.ensures.stay; faults = c.get.ensures.never_falls } }))

pub returns-clause-step : goal.returns-clause-step
returns-clause-step g c =
    let before : Store = record { files = g.F.Store.files c.args.store.now; faults = g.F.Store.faults c.args.store.now } in
    let after : Store = record { files = g.F.Store.files c.get.new.self; faults = g.F.Store.faults c.get.new.self } in
    file_answered seen c.add_file.result _ _ _ before after _ _ c.args.file.now c.deref.result.now
    (rw c.as_str.ensures.value at c.in_default.ensures.none)
    (bytes_found before c.args.file.now c.deref.result.now (option_map (λ v. v.items) c.in-Ok.found) (ap (option_map (λ v. v.items)) c.in-Some-found.is ∙ ap Some (sym c.deref.ensures.value)) c.in-Ok.ensures.finds)
    (record { files = c.get.ensures.stay; faults = c.get.ensures.never_falls })
    c.add_file.ensures.read
