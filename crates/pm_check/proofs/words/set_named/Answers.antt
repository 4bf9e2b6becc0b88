-- One word more.
use Rattle.pm_check.proofs.NamedSets.{next_named}
use Rattle.pm_props.specs.Names.{property_named}
use Rattle.std.proofs.Common.{ap, drop, map, string_bytes, sym, ◌+◌, ◌∙◌, ◌≡◌}
use Rattle.std.proofs.lemmas.List.{at_drop_more}
use Rattle.std.specs.Prelude.{List, Some, ◌∷◌}
use Rattle.pm_check.proofs.words.set_named.Goals as goal

pub loop-word-preserved : goal.loop-word-preserved
loop-word-preserved c =
    let words = c.args.words.now in
    let i = c.loop-word.word-index in
    let w = c.word-item.result in
    let here : drop i words ≡ w ∷ drop (i + 1) words = at_drop_more (λ l. l) words i w c.loop-word-test.true ∙ ap (λ z. z ∷ drop (i + 1) words) (sym c.word-item.is) in
    let named : property_named (string_bytes w) ≡ Some c.in_ok-named.field-0 = sym (c.named.ensures.value ∙ ap property_named c.as_str.ensures.value) ∙ c.in_ok-named.was in
    next_named c.loop-word.set c.with-set.result (string_bytes w) (map string_bytes (drop i words)) (map string_bytes (drop (i + 1) words)) c.in_ok-named.field-0 _ (ap (map string_bytes) here) named c.with-set.ensures.value c.loop-word.invariant
