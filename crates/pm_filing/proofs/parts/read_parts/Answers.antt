-- Each key's part is read behind the others.
use Rattle.std.proofs.Common.{Err, Ok, ap, map, option_map, string_bytes, sym, ◌∙◌, ◌≡◌}
use Rattle.std.proofs.lemmas.Result.{err_from_is_err_and}
use Rattle.std.specs.Prelude.{option_to_list}
use Rattle.serde_json.specs.View.{members_view, view}
use Rattle.pm_filing.specs.FileParts.{part_at, parts_in}
use Rattle.pm_filing.specs.ReadingViews.{fault_of, is_formed_part, part_seen}
use Rattle.pm_filing.proofs.PartTurns.{all-append, parts-fault, parts-item, with_parts}
use Rattle.pm_filing.proofs.parts.read_parts.Goals as goal

pub loop-key-preserved : goal.loop-key-preserved
loop-key-preserved c =
    let of = c.args.of in
    let front = map part_seen c.loop-key.parts.items in
    let part = option_to_list (option_map part_seen c.in_ok-part.part) in
    let key = string_bytes c.in-Some.key.now in
    let json = view c.in-Some.json.now in
    let at : part_at of key json ≡ Ok part = ap (λ k. part_at of k json) (sym c.as_str.ensures.value) ∙ c.in_ok-part.ensures.ok in
    rw c.in_ok-put_part.ensures (
      c.loop-key.invariant.0
          ∙ ap (λ es. with_parts front (parts_in of (members_view es))) c.in-Some.ensures.steps
          ∙ parts-item of front part key json (members_view c.next.new.self) at,
      all-append is_formed_part front part c.loop-key.invariant.1 c.in_ok-part.ensures.formed,
    )

pub returns-in_err-part-clause-fault : goal.returns-in_err-part-clause-fault
returns-in_err-part-clause-fault c =
    let of = c.args.of in
    let front = map part_seen c.loop-key.parts.items in
    let key = string_bytes c.in-Some.key.now in
    let json = view c.in-Some.json.now in
    let e = c.in_err-part.field-0.0 in
    let p = err_from_is_err_and c.from_residual.result c.from_residual.ensures.1 in
    rw (p.1, p.2) (λ other.
    let at : part_at of key json ≡ Err (fault_of e) = ap (λ k. part_at of k json) (sym c.as_str.ensures.value) ∙ c.in_err-part.ensures.fault other in
    c.loop-key.invariant.0
    ∙ ap (λ es. with_parts front (parts_in of (members_view es))) c.in-Some.ensures.steps
    ∙ parts-fault of front key json (members_view c.next.new.self) (fault_of e) at)
