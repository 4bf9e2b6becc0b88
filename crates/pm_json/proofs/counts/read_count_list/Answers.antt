-- Each turn puts the next number behind the others, or ends at the first fault.
use Rattle.std.proofs.Common.{add-one, ap, arith, drop, length, length-append, refl, subst, suc, sym, true, ◌∙◌, ◌<◌, ◌≡◌, ◌≤◌, ◌++◌, List, [], ◌∷◌}
use Rattle.std.proofs.lemmas.List.{drop_all}
use Rattle.std.specs.List.{list_all}
use Rattle.pm_types.specs.Forms.{has_64_bits}
use Rattle.std.proofs.lemmas.Result.{err_from_is_err_and}
use Rattle.pm_json.proofs.CountTurns.{bits_next, counts_form, counts_from-end, counts_from-item, counts_from-long, counts_from-no_number, pushed_is}
use Rattle.pm_json.proofs.Readings.{with_front-nil}
use Rattle.pm_json.proofs.RowEnds.{next_item}
use Rattle.pm_json.specs.Readings.{Read, counts_from, with_front}
use Rattle.serde_json.specs.View.{items_view, view}
use Rattle.serde_json.specs.declared.value.Value.{Value}
use Rattle.pm_json.proofs.counts.read_count_list.Goals as goal
use lib.IntN.{ℤ}
use Rattle.pm_limits.specs.Limits.{most_rows}

-- the whole list, of which vs are left
abbrev left : List ℤ → List Value → Read (List ℤ)
left ks vs = with_front ks (counts_from (length ks) (items_view vs))

pub loop-item-init : goal.loop-item-init
loop-item-init c = rw c.new-counts.ensures.items (sym (with_front-nil (counts_from 0 (items_view c.args.items.now))), omega arith, refl)

pub loop-item-preserved : goal.loop-item-preserved
loop-item-preserved c =
    let ks = c.loop-item.counts.items in
    let vs = c.args.items.now in
    let i = c.loop-item.item-index in
    let room : length ks < most_rows = omega (arith, c.len.ensures, c.loop-item.counts.ok, c.if-len-ge-MOST_ROWS.false) in
    let k = c.in_ok-k.k in
    let new = pushed_is ks c.push.new.self.items k c.in_ok-k.ensures.bits c.in_ok-push.ensures.items in
    let one = length-append ks (k ∷ []) in
    let few : length (ks ++ k ∷ []) ≤ most_rows = omega arith in (
      rw add-one (c.loop-item.invariant.0
          ∙ ap (left ks) (next_item vs i c.item-item.result c.loop-item-test.true c.item-item.is)
          ∙ counts_from-item ks k (view c.item-item.result) (items_view (drop (suc i) vs)) room (sym c.in_ok-k.ensures.value)
          ∙ ap (λ l. with_front l (counts_from (length l) (items_view (drop (suc i) vs)))) (sym new)),
      subst (λ (l : List ℤ). length l ≤ most_rows) (sym new) few,
      subst (λ (l : List ℤ). list_all has_64_bits l ≡ true) (sym new) (bits_next ks k c.loop-item.invariant.2 c.in_ok-k.ensures.bits),
    )

pub returns-then-len-ge-MOST_ROWS-clause-fault : goal.returns-then-len-ge-MOST_ROWS-clause-fault
returns-then-len-ge-MOST_ROWS-clause-fault c memory =
    let ks = c.loop-item.counts.items in
    let vs = c.args.items.now in
    let i = c.loop-item.item-index in
    c.loop-item.invariant.0
    ∙ ap (left ks) (next_item vs i c.item-item.result c.loop-item-test.true c.item-item.is)
    ∙ counts_from-long ks c.in_ok-k.k (view c.item-item.result) (items_view (drop (suc i) vs)) (omega (arith, c.len.ensures, c.loop-item.counts.ok, c.if-len-ge-MOST_ROWS.true)) (sym c.in_ok-k.ensures.value)

pub returns-in_err-k-clause-fault : goal.returns-in_err-k-clause-fault
returns-in_err-k-clause-fault c =
    let ks = c.loop-item.counts.items in
    let vs = c.args.items.now in
    let i = c.loop-item.item-index in
    let p = err_from_is_err_and c.from_residual.result c.from_residual.ensures.1 in
    rw (p.1, p.2) (λ memory. c.loop-item.invariant.0
    ∙ ap (left ks) (next_item vs i c.item-item.result c.loop-item-test.true c.item-item.is)
    ∙ counts_from-no_number ks (length ks) (view c.item-item.result) (items_view (drop (suc i) vs)) c.in_err-k.field-0.0 (sym c.in_err-k.ensures.value))

pub returns-in_err-push-clause-fault : goal.returns-in_err-push-clause-fault
returns-in_err-push-clause-fault c =
    let p = err_from_is_err_and c.from_residual-in_err-push.result c.from_residual-in_err-push.ensures.1 in
    rw p.1 (λ other. absurd (other p.2))

pub returns-clause-ok : goal.returns-clause-ok
returns-clause-ok c =
    let ks = c.loop-item.counts.items in
    c.loop-item.invariant.0
    ∙ ap (left ks) (drop_all c.loop-item.item-index c.args.items.now c.loop-item-test.false)
    ∙ counts_from-end ks

pub returns-clause-form : goal.returns-clause-form
returns-clause-form c = counts_form c.loop-item.counts.items c.loop-item.invariant.1 c.loop-item.invariant.2
