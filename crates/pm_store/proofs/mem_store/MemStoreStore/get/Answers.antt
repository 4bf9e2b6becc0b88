-- The files are those of the call's begin.
use Rattle.std.proofs.Common.{◌≡◌, ℕ, List, Some, map, ap, take, length, min, vec_len, ◌∙◌, sym, refl}
use Rattle.pm_store.proofs.FileLemmas.{found_absent, found_present, take_short}
use Rattle.pm_store.specs.Files.{most_read}
use Rattle.pm_store.specs.MemStore.{StoreState, seen_file}
use Rattle.pm_store.proofs.mem_store.MemStoreStore.get.Goals as goal

pub returns-in_default-clause-finds : goal.returns-in_default-clause-finds
returns-in_default-clause-finds c =
    let files_is : map seen_file c.self.inside.files.items ≡ c.args.self.now.files = ap (λ (s : StoreState). s.files) (c.self.view_is ∙ c.in_ok-begin.ensures.after) in
    let absent = found_absent seen_file c.self.inside.files.items c.args.name.now (rw c.deref.ensures.value at c.in_default.ensures) in
    rw (← files_is, absent) refl

pub returns-clause-finds : goal.returns-clause-finds
returns-clause-finds c =
    let files_is : map seen_file c.self.inside.files.items ≡ c.args.self.now.files = ap (λ (s : StoreState). s.files) (c.self.view_is ∙ c.in_ok-begin.ensures.after) in
    let found = found_present seen_file c.self.inside.files.items c.in-Some.place c.index.result.now c.args.name.now (rw c.deref.ensures.value at c.in-Some.ensures) in
    let file_is = rw (← c.index.ensures) at found in
    let bytes = c.index.result.now.bytes in
    let count_is : vec_len bytes ≡ length bytes.items = sym c.deref-2.ensures.len ∙ ap length c.deref-2.ensures.value in
    let part_is = rw (c.deref-2.ensures.value, c.min-count.ensures, c.len.ensures) at (c.in_ok-part.ensures.items_if_clones_equal (λ x y e. e)) in
    let short = ap (λ n. take (min n most_read) bytes.items) count_is ∙ take_short most_read bytes.items in
    rw (← files_is, file_is, part_is) (ap (λ (b : List ℕ). Some b) short)
