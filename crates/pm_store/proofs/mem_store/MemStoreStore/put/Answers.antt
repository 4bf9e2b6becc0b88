use Rattle.std.proofs.Common.{◌≡◌, map, ap, refl, ◌∙◌}
use Rattle.pm_store.proofs.FileLemmas.{put_has, put_others, put_once}
use Rattle.pm_store.specs.MemStore.{StoreState, put_file, seen_file}
use Rattle.pm_store.proofs.mem_store.MemStoreStore.put.Goals as goal

pub invariant_of-self-2 : goal.invariant_of-self-2
invariant_of-self-2 c = rw c.in_ok-put_file.ensures.ok (put_once _ _ _ c.self.invariant)

pub returns-clause-puts : goal.returns-clause-puts
returns-clause-puts c =
    let files_is : map seen_file c.self.inside.files.items ≡ c.args.self.now.files = ap (λ (s : StoreState). s.files) (c.self.view_is ∙ c.in_ok-begin.ensures.after) in
    let puts : map seen_file c.put_file.new.files.items ≡ put_file c.args.self.now.files c.args.name.now c.args.bytes.now = rw files_is at c.in_ok-put_file.ensures.ok in
    let old = c.args.self.now.files in
    let name = c.args.name.now in
    rw puts (_, refl, (put_has old name c.args.bytes.now, put_others old name c.args.bytes.now))

pub returns-clause-once : goal.returns-clause-once
returns-clause-once c = rw c.in_ok-put_file.ensures.ok (put_once _ _ _ c.self.invariant)
