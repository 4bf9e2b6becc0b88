use Rattle.std.proofs.Common.{sym, ◌∙◌}
use Rattle.pm_run.proofs.Books.{is_standard, left_out, taken_in}
use Rattle.pm_run.proofs.book.add_kind.Goals as goal

pub returns-in_ok-push : goal.returns-in_ok-push
returns-in_ok-push c =
    c.in_ok-push.ensures.items
    ∙ taken_in c.args.kinds.now.items c.args.kind (sym (is_standard c.args.standard.now c.args.kind c.requires) ∙ sym c.has_name.ensures ∙ c.if-not-has_name.true)

pub returns-else-not-has_name : goal.returns-else-not-has_name
returns-else-not-has_name c =
    left_out c.args.kinds.now.items c.args.kind (sym (is_standard c.args.standard.now c.args.kind c.requires) ∙ sym c.has_name.ensures ∙ c.if-not-has_name.false)
