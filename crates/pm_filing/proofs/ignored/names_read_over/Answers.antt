-- Each turn names the next key where it is read over.
use Rattle.std.proofs.Common.{[], ap, false, map, string_bytes, sym, true, ◌++◌, ◌∙◌, ◌∷◌, ◌≡◌}
use Rattle.std.proofs.lemmas.List.{map-append}
use Rattle.serde_json.specs.View.{members_view, view}
use Rattle.pm_filing.proofs.ReadOver.{name_next, other_next}
use Rattle.pm_filing.specs.FileParts.{is_read_over, names_read_over}
use Rattle.pm_filing.proofs.ignored.names_read_over.Goals as goal

pub loop-key-preserved : goal.loop-key-preserved
loop-key-preserved c =
    let of = c.args.of in
    let front = map string_bytes c.loop-key.names.items in
    let key = string_bytes c.in-Some.key.now in
    let json = view c.in-Some.json.now in
    let other : is_read_over of key json ≡ false = sym (rw c.as_str.ensures.value at c.is_read_over.ensures) ∙ c.if-is_read_over.false in
    c.loop-key.invariant
    ∙ ap (λ es. front ++ names_read_over of (members_view es)) c.in-Some.ensures.steps
    ∙ other_next of key json (members_view c.next.new.self) front other

pub loop-key-preserved-in_ok-push : goal.loop-key-preserved-in_ok-push
loop-key-preserved-in_ok-push c =
    let of = c.args.of in
    let front = map string_bytes c.loop-key.names.items in
    let key = string_bytes c.in-Some.key.now in
    let json = view c.in-Some.json.now in
    let over : is_read_over of key json ≡ true = sym (rw c.as_str.ensures.value at c.is_read_over.ensures) ∙ c.if-is_read_over.true in
    let more = ap (map string_bytes) c.in_ok-push.ensures.items ∙ map-append string_bytes c.loop-key.names.items (c.in_ok-from_str.field-0 ∷ [])
    ∙ ap (λ name. front ++ name ∷ []) (c.in_ok-from_str.ensures.ok ∙ c.as_str-then-is_read_over.ensures.value) in
    rw more (c.loop-key.invariant
    ∙ ap (λ es. front ++ names_read_over of (members_view es)) c.in-Some.ensures.steps
    ∙ name_next of key json (members_view c.next.new.self) front over)
