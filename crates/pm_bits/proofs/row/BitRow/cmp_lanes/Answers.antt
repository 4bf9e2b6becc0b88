use Rattle.pm_bits.proofs.Members.{IsRowOf-seen, same_room, order_of_rows}
use Rattle.pm_bits.proofs.Differences.{Equal-means, Less-means, Greater-means}
use Rattle.pm_bits.proofs.row.BitRow.cmp_lanes.Goals as goal

pub compare-requires : goal.compare-requires
compare-requires c =
    let row = IsRowOf-seen c.args.self.now c.deref.result.now c.self.inside.words.items c.self.inside.len c.self.view_is c.self.invariant c.deref.ensures.value in
    let other = IsRowOf-seen c.args.o.now c.deref-2.result.now c.o.inside.words.items c.o.inside.len c.o.view_is c.o.invariant c.deref-2.ensures.value in
    same_room c.args.self.now c.args.o.now c.deref.result.now c.deref-2.result.now row other c.requires

pub returns-clause-equal : goal.returns-clause-equal
returns-clause-equal c =
    let row = IsRowOf-seen c.args.self.now c.deref.result.now c.self.inside.words.items c.self.inside.len c.self.view_is c.self.invariant c.deref.ensures.value in
    let other = IsRowOf-seen c.args.o.now c.deref-2.result.now c.o.inside.words.items c.o.inside.len c.o.view_is c.o.invariant c.deref-2.ensures.value in
    Equal-means c.compare.result c.args.self.now c.args.o.now c.requires (order_of_rows c.compare.result c.args.self.now c.args.o.now c.deref.result.now c.deref-2.result.now row other c.requires c.compare.ensures)

pub returns-clause-less : goal.returns-clause-less
returns-clause-less c =
    let row = IsRowOf-seen c.args.self.now c.deref.result.now c.self.inside.words.items c.self.inside.len c.self.view_is c.self.invariant c.deref.ensures.value in
    let other = IsRowOf-seen c.args.o.now c.deref-2.result.now c.o.inside.words.items c.o.inside.len c.o.view_is c.o.invariant c.deref-2.ensures.value in
    Less-means c.compare.result c.args.self.now c.args.o.now c.requires (order_of_rows c.compare.result c.args.self.now c.args.o.now c.deref.result.now c.deref-2.result.now row other c.requires c.compare.ensures)

pub returns-clause-greater : goal.returns-clause-greater
returns-clause-greater c =
    let row = IsRowOf-seen c.args.self.now c.deref.result.now c.self.inside.words.items c.self.inside.len c.self.view_is c.self.invariant c.deref.ensures.value in
    let other = IsRowOf-seen c.args.o.now c.deref-2.result.now c.o.inside.words.items c.o.inside.len c.o.view_is c.o.invariant c.deref-2.ensures.value in
    Greater-means c.compare.result c.args.self.now c.args.o.now c.requires (order_of_rows c.compare.result c.args.self.now c.args.o.now c.deref.result.now c.deref-2.result.now row other c.requires c.compare.ensures)
