-- Each turn lists the next key where its value is stored.
use Rattle.std.proofs.Common.{[], ap, false, map, string_bytes, sym, true, ◌++◌, ◌∙◌, ◌∷◌, ◌≡◌}
use Rattle.std.proofs.lemmas.List.{map-append}
use Rattle.serde_json.specs.Data.{string}
use Rattle.serde_json.specs.View.{members_view, view}
use Rattle.pm_files.proofs.StoredKeys.{other_next, stored_next}
use Rattle.pm_files.specs.Files.{is_stored, stored_keys}
use Rattle.pm_files.proofs.write.stored_keys.Goals as goal

pub loop-key-preserved : goal.loop-key-preserved
loop-key-preserved c =
    let of = c.args.of in
    let stored = c.args.stored in
    let front = map view c.loop-key.keys.items in
    let key = string_bytes c.in-Some.key.now in
    let other : is_stored of stored key ≡ false = sym (rw c.as_str.ensures.value at c.is_stored.ensures) ∙ c.if-is_stored.false in
    c.loop-key.invariant
    ∙ ap (λ es. front ++ map string (stored_keys of stored (members_view es))) c.in-Some.ensures.steps
    ∙ other_next of stored key (view c.in-Some.field-0-1.now) (members_view c.next.new.self) front other

pub loop-key-preserved-in_ok-push : goal.loop-key-preserved-in_ok-push
loop-key-preserved-in_ok-push c =
    let of = c.args.of in
    let stored = c.args.stored in
    let front = map view c.loop-key.keys.items in
    let key = string_bytes c.in-Some.key.now in
    let named : is_stored of stored key ≡ true = sym (rw c.as_str.ensures.value at c.is_stored.ensures) ∙ c.if-is_stored.true in
    let more = ap (map view) c.in_ok-push.ensures.items ∙ map-append view c.loop-key.keys.items (c.in_ok-try_from_str.field-0 ∷ [])
    ∙ ap (λ d. front ++ d ∷ []) (c.in_ok-try_from_str.ensures ∙ ap string c.as_str-then-is_stored.ensures.value) in
    rw more (c.loop-key.invariant
    ∙ ap (λ es. front ++ map string (stored_keys of stored (members_view es))) c.in-Some.ensures.steps
    ∙ stored_next of stored key (view c.in-Some.field-0-1.now) (members_view c.next.new.self) front named)
