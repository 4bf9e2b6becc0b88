use Rattle.pm_fan.proofs.Turns.{all_map, all_passed, fails_at}
use Rattle.pm_fan.proofs.conditions.rows_pass.Goals as goal
use Rattle.pm_props.specs.declared.property.PropId.{PropId}
use Rattle.pm_types.specs.Forms.{are_rows}
use Rattle.pm_types.specs.Values.{PropertyValue}
use Rattle.pm_types.specs.Views.{view_of}
use Rattle.pm_types.specs.declared.value.Value.{Value}
use Rattle.std.proofs.Common.{length, sym, ◌∙◌, ◌<◌, ◌≤◌}

pub returns-then-not-are_rows : goal.returns-then-not-are_rows
returns-then-not-are_rows c =
    let of = c.args.f.now.of in
    let items = c.args.f.now.values.items in
    let i = c.loop-value.value-index in
    let below : i < length items = rw c.deref-value-items.ensures.value at c.loop-value-test.true in
    let is = rw c.deref-value-items.ensures.value at c.value-item.is in
    sym (all_map (λ (v : PropId × PropertyValue). are_rows of v.0 v.1) (λ (v : PropId × Value). (v.0, view_of v.1)) items
    ∙ c.loop-value.invariant
    ∙ fails_at (λ (v : PropId × Value). are_rows of v.0 (view_of v.1)) items i c.value-item.result below is (sym c.are_rows.ensures ∙ c.if-not-are_rows.true))

pub returns : goal.returns
returns c =
    let of = c.args.f.now.of in
    let items = c.args.f.now.values.items in
    let above : length items ≤ c.loop-value.value-index = rw c.deref-value-items.ensures.value at c.loop-value-test.false in
    sym (all_map (λ (v : PropId × PropertyValue). are_rows of v.0 v.1) (λ (v : PropId × Value). (v.0, view_of v.1)) items ∙ c.loop-value.invariant ∙ all_passed (λ (v : PropId × Value). are_rows of v.0 (view_of v.1)) items c.loop-value.value-index above)
