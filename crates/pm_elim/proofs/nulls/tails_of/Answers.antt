use Rattle.std.proofs.Common.{List, arith, drop, length, take, ℕ, ◌-◌, ◌≡◌}
use Rattle.std.proofs.lemmas.List.{length-drop, take_all}
use Rattle.pm_elim.proofs.nulls.tails_of.Goals as goal

part : {X : Type 0} (i : ℕ) (xs : List X) → take (length xs - i) (drop i xs) ≡ drop i xs
part i xs = take_all (length xs - i) (drop i xs) (let l = length-drop i xs in omega arith)

pub slice_bounds-tail_rows-count : goal.slice_bounds-tail_rows-count
slice_bounds-tail_rows-count c =
    let within = rw c.deref.ensures.value at c.place_of-first.ensures.within in
    let as_many = c.requires.as_many in
    rw c.deref-2.ensures.value (omega arith)

pub slice_bounds-columns_from-count : goal.slice_bounds-columns_from-count
slice_bounds-columns_from-count c =
    let within = rw c.deref.ensures.value at c.place_of-first.ensures.within in
    rw c.deref-3.ensures.value within

pub returns : goal.returns
returns c =
    let within = rw c.deref.ensures.value at c.place_of-first.ensures.within in
    let as_many = c.requires.as_many in
    record {
      h = c.place_of-first.result;
      within = omega arith;
      before = rw c.deref.ensures.value at c.place_of-first.ensures.lower;
      first = rw c.deref.ensures.value at c.place_of-first.ensures.upper;
      rows = rw (c.deref-2.ensures.value, part c.place_of-first.result c.args.whole.now.rows.items) at c.in_ok-rows.ensures;
      columns = rw (c.deref-3.ensures.value, part c.place_of-first.result c.args.whole.now.pivots.items) at c.in_ok-pivots.ensures;
    }
