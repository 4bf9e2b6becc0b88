use Rattle.pm_lattice.proofs.Closing.{member_count_le}
use Rattle.pm_lattice.proofs.RankTurns.{rank_allowed, rank_found}
use Rattle.pm_lattice.proofs.ranks.known_rank.Goals as goal
use Rattle.std.proofs.Common.{List, Bool, arith, length, ◌≡◌}
use Rattle.std.proofs.lemmas.List.Elements.{All-contains}

pub offset_bounds-sizes-size : goal.offset_bounds-sizes-size
offset_bounds-sizes-size c = omega (arith, c.requires.few, c.requires.size, member_count_le c.args.face.now, All-contains (λ (f : List Bool). length f ≡ c.args.rows.now.row_len) c.args.faces.now c.args.face.now c.requires.closed.lengths c.requires.after.there)

pub bounds : goal.bounds
bounds c = omega (arith, c.requires.each_size, c.requires.size, member_count_le c.args.face.now, All-contains (λ (f : List Bool). length f ≡ c.args.rows.now.row_len) c.args.faces.now c.args.face.now c.requires.closed.lengths c.requires.after.there)

pub returns-in-All : goal.returns-in-All
returns-in-All c = rank_allowed c.args.rows.now.row_len c.args.rows.now.rows c.args.faces.now c.args.ranks.now c.args.place c.requires.known c.args.face.now c.requires.after c.args.sizes.now c.requires.allowed c.args.size c.in-All.rank c.requires.size c.in-All.is

pub returns : goal.returns
returns c = rank_found c.args.rows.now.row_len c.args.rows.now.rows c.args.faces.now c.args.ranks.now c.args.place c.requires.known c.args.face.now c.requires.after c.place_of.result c.place_of.ensures.within c.place_of.ensures.place
