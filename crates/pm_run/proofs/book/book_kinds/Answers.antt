-- Client by client.
use Rattle.pm_run.proofs.Books.{kinds_begin, kinds_end, kinds_next}
use Rattle.pm_run.proofs.book.book_kinds.Goals as goal

pub loop-client-init : goal.loop-client-init
loop-client-init g c = kinds_begin c.in_ok-kinds.kinds.items _ c.in_ok-kinds.ensures

pub loop-client-preserved : goal.loop-client-preserved
loop-client-preserved g c =
    kinds_next _ c.args.clients.now c.loop-client.client-index c.client-item.result c.kind_of.result c.loop-client.kinds.items _ c.loop-client-test.true c.client-item.is c.kind_of.ensures
    c.in_ok-add_kind.ensures c.loop-client.invariant

pub returns : goal.returns
returns g c = kinds_end _ c.args.clients.now c.loop-client.client-index c.loop-client.kinds.items c.loop-client-test.false c.loop-client.invariant
