use Rattle.pm_lattice.proofs.Ends.{few_at, first_small, lattice_at, some_face, top_is}
use Rattle.pm_lattice.proofs.lattice.lattice_of.Goals as goal
use Rattle.std.proofs.Common.{arith, length, ◌∙◌}

pub index-requires : goal.index-requires
index-requires c = let k = c.in_ok-ranks.ranks.ok in omega (arith, c.in_ok-ranks.ensures.len, some_face c.args.rows.now.row_len c.args.rows.now.rows c.args.faces.now c.requires.closed)

pub by_rank-requires-clause-top : goal.by_rank-requires-clause-top
by_rank-requires-clause-top c = omega (
  arith,
  c.requires.few,
  first_small c.args.rows.now.row_len c.args.rows.now.rows c.args.faces.now c.in_ok-ranks.ranks.items c.index.result.now c.requires.closed c.in_ok-ranks.ensures.ranks
      (top_is c.in_ok-ranks.ranks.items (length c.args.faces.now) c.index.result.now (some_face c.args.rows.now.row_len c.args.rows.now.rows c.args.faces.now c.requires.closed) c.in_ok-ranks.ensures.len c.index.ensures),
)

pub returns-clause-lattice : goal.returns-clause-lattice
returns-clause-lattice c = lattice_at c.args.rows.now.row_len c.args.rows.now.rows c.args.faces.now c.in_ok-ranks.ranks.items c.deref.result.now c.index.result.now c.from_vec.result
    c.requires.closed c.in_ok-ranks.ensures.ranks c.in_ok-ranks.ensures.len c.deref.ensures.value c.index.ensures (c.from_vec.ensures ∙ c.in_ok-by_rank.ensures)

pub returns-clause-small : goal.returns-clause-small
returns-clause-small c = few_at c.args.rows.now.row_len c.args.rows.now.rows c.args.faces.now c.in_ok-ranks.ranks.items c.deref.result.now c.index.result.now c.from_vec.result
    c.requires.closed c.in_ok-ranks.ensures.ranks c.in_ok-ranks.ensures.len c.deref.ensures.value c.index.ensures (c.from_vec.ensures ∙ c.in_ok-by_rank.ensures) c.requires.limits
