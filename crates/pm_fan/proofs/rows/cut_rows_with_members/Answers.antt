use Rattle.pm_fan.proofs.Turns.{behind, kept_next, no_members, some_members}
use Rattle.pm_fan.proofs.rows.cut_rows_with_members.Goals as goal
use Rattle.pm_fan.proofs.rows.cut_rows_with_members.Goals.{else-not-is_empty, then-not-is_empty+in_ok-put_row}
use Rattle.pm_fan.specs.Fans.{cut, with_members}
use Rattle.std.proofs.Common.{ap, arith, false, get_or, length, map, refl, sym, true, ◌<◌, ◌≡◌, ◌∙◌}
use Rattle.std.specs.Prelude.{◌++◌, ◌∷◌, []}

pub loop-i-preserved : goal.loop-i-preserved
loop-i-preserved c =
    let S = c.args.sets.now in
    let R = c.args.from.now.rows in
    let i = c.loop-i.i in
    let x = c.index-sets-i.result in
    let all = cut (with_members (map (λ s. s.items) S) R) in
    let below : i < length R = (let l = c.loop-i-test.true in let e = c.requires.as_many in omega arith) in
    let count : x.len ≡ length x.items = (let ok = x.ok in omega arith) in
    elim c.if-not-is_empty.branch [
      | then-not-is_empty+in_ok-put_row w ↦
          let made = ap (λ m. m.rows) (w.rows-is ∙ w.in_ok-put_row.ensures) in
          record {
            rows = kept_next (λ s. s.items) S R i x (get_or R i []) all c.loop-i.rows.rows c.if-not-is_empty.rows.rows true c.loop-i-test.true below c.index-sets-i.is refl (some_members x.items x.len count (sym c.is_empty.ensures ∙ w.if-not-is_empty.true)) c.loop-i.invariant.rows ((rw w.row.ensures.value at made) ∙ ap (λ z. c.loop-i.rows.rows ++ z ∷ []) (behind (get_or R i [])));
            cols = ap (λ m. m.cols) (w.rows-is ∙ w.in_ok-put_row.ensures) ∙ c.loop-i.invariant.cols;
          }
      | else-not-is_empty w ↦ record {
        rows = kept_next (λ s. s.items) S R i x (get_or R i []) all c.loop-i.rows.rows c.if-not-is_empty.rows.rows false c.loop-i-test.true below c.index-sets-i.is refl (no_members x.items x.len count (sym c.is_empty.ensures ∙ w.if-not-is_empty.false)) c.loop-i.invariant.rows (ap (λ m. m.rows) w.rows-is);
        cols = ap (λ m. m.cols) w.rows-is ∙ c.loop-i.invariant.cols;
      }
    ]
