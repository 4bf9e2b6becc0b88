-- The file of the object is written, whole or in part, or it is too long.
use Rattle.std.proofs.Common.{Some, inr, refl, rules, subst, ◌∙◌, ◌≡◌}
use Rattle.pm_filing.specs.FileReadings.{Reads}
use Rattle.pm_machine.specs.Steps.{is_long, is_saved, store_failed, is_refused}
use Rattle.pm_object.specs.State.{ObjectSeen}
use Rattle.pm_store.specs.Files.{AreTold, IsPut, IsPutInPart}
use Rattle.pm_store.specs.Outside.{Rose}
use Rattle.std.specs.HashMap.{get_by_text}
use Rattle.std.specs.Option.{option_map}
use Rattle.std.specs.Prelude.{length, ◌<◌, ◌≤◌}
use Rattle.pm_machine.proofs.session.Session.do_save.Goals as goal
use Rattle.pm_limits.specs.Limits.{most_file_bytes}

pub returns-then-len-gt-MOST_FILE_BYTES-clause-step : goal.returns-then-len-gt-MOST_FILE_BYTES-clause-step
returns-then-len-gt-MOST_FILE_BYTES-clause-step g c =
    let named : option_map (λ (o : ObjectSeen). o.state) (get_by_text c.args.self.now.objects c.args.name.now) ≡ Some c.in-Some.object.now.state = search rules in
    let long : most_file_bytes < length c.in_ok-bytes.bytes.items = search rules in
    rw c.refused-then-len-gt-MOST_FILE_BYTES.ensures
    (is_refused (is_long c.in-Some.object.now.state named (subst (λ z. most_file_bytes < length z) c.in_ok-bytes.ensures.file long)) (record { names = refl; objects = λ q. refl; clients = refl; store = refl }))

pub returns-in-Ok-clause-step : goal.returns-in-Ok-clause-step
returns-in-Ok-clause-step g c =
    let named : option_map (λ (o : ObjectSeen). o.state) (get_by_text c.args.self.now.objects c.args.name.now) ≡ Some c.in-Some.object.now.state = search rules in
    let short : length c.in_ok-bytes.bytes.items ≤ most_file_bytes = search rules in
    rw c.done.ensures (is_saved c.in-Some.object.now.state refl named (subst (λ z. length z ≤ most_file_bytes) c.in_ok-bytes.ensures.file short)
    (record {
      names = refl;
      objects = λ q. refl;
      clients = refl;
      files = subst (λ z. AreTold (IsPut c.args.file.now z) (g.F.Store.files c.args.store.now) (g.F.Store.files c.put.new.self)) (c.deref.ensures.value ∙ c.in_ok-bytes.ensures.file) c.in-Ok.ensures.puts;
      faults = c.put.ensures.never_falls;
    })
    (let (f, reads, again, same) = c.in_ok-bytes.ensures.again short in (f, subst (λ z. Reads z f) c.in_ok-bytes.ensures.file reads, again)))

pub returns-in-Err-Failed-clause-step : goal.returns-in-Err-Failed-clause-step
returns-in-Err-Failed-clause-step g c =
    let named : option_map (λ (o : ObjectSeen). o.state) (get_by_text c.args.self.now.objects c.args.name.now) ≡ Some c.in-Some.object.now.state = search rules in
    let short : length c.in_ok-bytes.bytes.items ≤ most_file_bytes = search rules in
    let fails : Rose (g.F.Store.faults c.args.store.now) (g.F.Store.faults c.put.new.self) = search rules in
    rw c.refused-in-Err-Failed.ensures (store_failed c.in-Some.object.now.state named (subst (λ z. length z ≤ most_file_bytes) c.in_ok-bytes.ensures.file short) fails
    (record {
      names = refl;
      objects = λ q. refl;
      clients = refl;
      files = subst (λ z. AreTold (IsPutInPart c.args.file.now z) (g.F.Store.files c.args.store.now) (g.F.Store.files c.put.new.self)) (c.deref.ensures.value ∙ c.in_ok-bytes.ensures.file) c.in-Err-Failed.ensures.err;
      faults = c.put.ensures.never_falls;
    }))

pub returns-clause-part : goal.returns-clause-part
returns-clause-part g c =
    let named : option_map (λ (o : ObjectSeen). o.state) (get_by_text c.args.self.now.objects c.args.name.now) ≡ Some c.in-Some.object.now.state = search rules in
    let short : length c.in_ok-bytes.bytes.items ≤ most_file_bytes = search rules in
    inr (
      c.in-Some.object.now.state,
      named,
      subst (λ z. length z ≤ most_file_bytes) c.in_ok-bytes.ensures.file short,
      record {
        names = refl;
        objects = λ q. refl;
        clients = refl;
        files = subst (λ z. AreTold (IsPutInPart c.args.file.now z) (g.F.Store.files c.args.store.now) (g.F.Store.files c.put.new.self)) (c.deref.ensures.value ∙ c.in_ok-bytes.ensures.file) c.in-Err-Memory.ensures.err;
        faults = c.put.ensures.never_falls;
      },
    )
