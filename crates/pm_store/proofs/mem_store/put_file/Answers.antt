use Rattle.std.proofs.Common.{ap, string_bytes}
use Rattle.pm_store.proofs.FileLemmas.{put_absent, put_present}
use Rattle.pm_store.specs.MemStore.{seen_file}
use Rattle.pm_store.specs.declared.mem_store.StoredFile.{StoredFile}
use Rattle.pm_store.proofs.mem_store.put_file.Goals as goal

pub returns-in-Some-clause-ok : goal.returns-in-Some-clause-ok
returns-in-Some-clause-ok c =
    let old = c.index_mut.result.now in
    let new : StoredFile = record { name = old.name; bytes = c.in_ok-content.content } in
    put_present seen_file c.args.files.now.items c.in-Some.place old new c.args.name.now c.args.bytes.now
    (rw c.deref.ensures.value at c.in-Some.ensures) (ap (λ (file : StoredFile). string_bytes file.name) c.index_mut.ensures.value)
    (c.in_ok-content.ensures.items_if_clones_equal (λ x y e. e))

pub returns-in_ok-push-in-None-clause-ok : goal.returns-in_ok-push-in-None-clause-ok
returns-in_ok-push-in-None-clause-ok c =
    let new : StoredFile = record { name = c.in_ok-name-in-None.name; bytes = c.in_ok-content.content } in
    let put = put_absent seen_file c.args.files.now.items new c.args.name.now c.args.bytes.now
    (rw c.deref.ensures.value at c.in-None.ensures) c.in_ok-name-in-None.ensures.ok (c.in_ok-content.ensures.items_if_clones_equal (λ x y e. e)) in
    rw (c.in_ok-push-in-None.ensures.items) put
