use Rattle.pm_vector.specs.Bases.{row_at}
use Rattle.pm_dd.specs.Tables.{IsZeroSet}
use Rattle.pm_incidence.proofs.Appended.{appended, length_more}
use Rattle.pm_elim.proofs.BasisLaws.{row_length}
use Rattle.pm_incidence.proofs.ThinFails.{product_of_list}
use Rattle.pm_incidence.proofs.zeros.zero_rows.Goals as goal
use Rattle.std.proofs.Common.{Bool, List, [], ap, length, subst, sym, ℕ, ◌∙◌, ◌≡◌}
use Rattle.std.proofs.lemmas.List.{get_or_default}
use Rattle.std.proofs.lemmas.List.Elements.{Contains-get_or}
use Rattle.std.proofs.lemmas.Result.{err_from_is_err_and}
use Rattle.std.specs.List.{Contains}

pub loop-row-preserved : goal.loop-row-preserved
loop-row-preserved c =
    let h = c.loop-row.invariant in
    let P : ℕ → List Bool → Type 0 = λ k z. IsZeroSet c.args.cuts.now (length c.args.cuts.now) (row_at c.args.rows.now k) z in
    let i = c.loop-row.row-index in
    let item = c.row-item.result in
    let here : IsZeroSet c.args.cuts.now (length c.args.cuts.now) (row_at c.args.rows.now i) c.in_ok-zero_row_by.field-0 = rw (get_or_default c.args.rows.now i [] item c.loop-row-test.true ∙ sym c.row-item.is) c.in_ok-zero_row_by.ensures.zeros in
    let all = appended P [] c.loop-row.zeros.rows c.push.new.self.rows c.in_ok-zero_row_by.field-0 c.loop-row.row-index h.many c.in-Ok.ensures.ok h.each here in
    record {
      len = c.push.ensures.row_len ∙ h.len;
      many = length_more c.loop-row.zeros.rows c.push.new.self.rows c.in_ok-zero_row_by.field-0 c.loop-row.row-index h.many c.in-Ok.ensures.ok;
      each = all;
    }

pub zero_row_by-requires-clause-cols : goal.zero_row_by-requires-clause-cols
zero_row_by-requires-clause-cols c =
    let i = c.loop-row.row-index in
    let here : c.row-item.result ≡ row_at c.args.rows.now i = c.row-item.is ∙ get_or_default c.args.rows.now i c.row-item.result [] c.loop-row-test.true in
    rw (ap length here ∙ row_length c.args.cols c.args.rows.now i c.requires.row_cols c.loop-row-test.true) c.requires.cut_cols

pub returns-in_err-zero_row_by-clause-failed : goal.returns-in_err-zero_row_by-clause-failed
returns-in_err-zero_row_by-clause-failed c =
    let p = err_from_is_err_and c.from_residual.result c.from_residual.ensures.1 in
    let listed = subst (Contains c.args.rows.now) (sym c.row-item.is) (Contains-get_or c.args.rows.now c.loop-row.row-index c.row-item.result c.loop-row-test.true) in
    rw (p.1, p.2) (product_of_list c.args.rows.now c.args.cuts.now c.row-item.result c.in_err-zero_row_by.field-0.0 listed c.in_err-zero_row_by.ensures.failed)
