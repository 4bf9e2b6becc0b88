-- The bytes are those of the chunk, and the first LF is the one that the search found.
use Rattle.std.proofs.Common.{◌≡◌, ◌<◌, add-one, ◌++◌, List, ℕ, [], arith, refl, ap, ◌∙◌, false, length, take}
use Rattle.std.proofs.lemmas.List.{drop_all, take_all}
use Rattle.pm_lines.proofs.LineLaws.{at_break, clear_front, clear_whole, ended_line}
use Rattle.pm_lines.proofs.reader.LineReader.take_line.Goals as goal

pub returns-then-end-bytes-clause-unended : goal.returns-then-end-bytes-clause-unended
returns-then-end-bytes-clause-unended c e =
    let bytes = c.self.inside.chunk in
    let n = c.first_break-end.result in
    let size : n ≡ length bytes = rw c.bytes-bytes.ensures at c.if-end-bytes.true in
    let clear = clear_whole n bytes size (rw c.bytes-bytes.ensures at c.first_break-end.ensures.before) in
    let unended : c.self.inside.ended ≡ false = rw (← c.self.view_is) at c.requires in
    let items = rw c.bytes-bytes.ensures at c.in_ok-extend_from_slice.ensures.items in
    let line = items ∙ ap (λ (t : List ℕ). c.self.inside.line.items ++ t) (take_all n bytes (omega arith)) in
    let none : c.skip.new.self ≡ [] = c.skip.ensures ∙ drop_all n bytes (omega arith) in
    rw (← c.self.view_is) (clear, rw (none, line, unended) refl)

pub returns-clause-ended : goal.returns-clause-ended
returns-clause-ended c e =
    let bytes = c.self.inside.chunk in
    let n = c.first_break-end.result in
    let before = rw c.bytes-bytes.ensures at c.first_break-end.ensures.before in
    let within = rw c.bytes-bytes.ensures at c.first_break-end.ensures.within in
    let not_all = rw c.bytes-bytes.ensures at c.if-end-bytes.false in
    let found = rw c.bytes-bytes.ensures at c.first_break-end.ensures.found in
    let items = rw c.bytes-bytes.ensures at c.in_ok-extend_from_slice.ensures.items in
    let below : n < length bytes = omega arith in
    rw (← c.self.view_is) (
      take n bytes,
      record {
        clear = clear_front n bytes within before;
        given = rw (c.skip-2.ensures, add-one) (at_break n bytes below (found below));
        line = ap (λ (t : List ℕ). ended_line t) items;
      },
    )
