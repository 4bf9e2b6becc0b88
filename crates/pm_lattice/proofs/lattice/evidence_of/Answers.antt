use Rattle.pm_lattice.proofs.Ends.{short_rows, too_many}
use Rattle.pm_lattice.proofs.lattice.evidence_of.Goals as goal
use Rattle.std.proofs.Common.{◌∙◌}

pub member_lists-requires : goal.member_lists-requires
member_lists-requires c = short_rows c.args.rows.now.row_len c.args.faces.now c.requires.few c.requires.meets.lengths

pub returns : goal.returns
returns c = too_many c.args.rows.now.row_len c.args.rows.now.rows c.args.faces.now c.from_vec.result (c.from_vec.ensures ∙ c.in_ok-member_lists.ensures) c.requires.meets c.requires.many
