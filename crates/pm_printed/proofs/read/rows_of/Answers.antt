use Rattle.std.proofs.Common.{◌≡◌, ◌++◌, List, subst, sym}
use Rattle.std.specs.Prelude.{All, flat_map}
use Rattle.std.proofs.lemmas.List.Elements.{All-push}
use Rattle.pm_rules.specs.declared.table.TableRow.{TableRow}
use Rattle.pm_printed.specs.Printed.{IsRow}
use Rattle.pm_printed.specs.Texts.{row_text}
use Rattle.pm_printed.proofs.Whole.{whole_more}
use Rattle.pm_printed.proofs.read.rows_of.Goals as goal

-- one row more
pub loop-row-preserved : goal.loop-row-preserved
loop-row-preserved c =
    let next = rw c.in-Ok-Some.field-0-is at c.in-Ok-Some.ensures.some in
    let items = c.in_ok-push-in-Ok-Some.ensures.items in
    record {
      each = subst (λ (xs : List TableRow). All IsRow xs) (sym items) (All-push IsRow c.loop-row.rows.items c.in-Ok-Some.row c.loop-row.invariant.each next.0);
      whole = subst (λ (xs : List TableRow). c.args.text.now ≡ flat_map row_text xs ++ c.in-Ok-Some.behind.now) (sym items)
          (whole_more row_text c.args.text.now c.loop-row.rows.items c.in-Ok-Some.row c.loop-row.rest.now c.in-Ok-Some.behind.now c.loop-row.invariant.whole next.1);
    }
