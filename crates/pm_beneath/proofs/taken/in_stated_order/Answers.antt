use Rattle.pm_beneath.proofs.FrontLaws.{stated_within}
use Rattle.pm_beneath.proofs.taken.in_stated_order.Goals as goal
use Rattle.pm_laws_placing.specs.Placing.{places_marked, stated_places}
use Rattle.std.proofs.Common.{ap, length, true, ◌≡◌, ◌∙◌}

pub rows_of-requires : goal.rows_of-requires
rows_of-requires c =
    let first : c.in_ok-first.first.items ≡ places_marked true c.args.marks.now 0 = rw c.new.ensures.items at c.in_ok-first.ensures in
    let all : c.in_ok-places.places.items ≡ stated_places c.args.marks.now = rw first at c.in_ok-places.ensures in
    rw (c.deref.ensures.value, all) (stated_within c.args.marks.now (length c.args.rays.now) c.requires.as_many)

pub returns-clause-places : goal.returns-clause-places
returns-clause-places c =
    let first : c.in_ok-first.first.items ≡ places_marked true c.args.marks.now 0 = rw c.new.ensures.items at c.in_ok-first.ensures in
    rw first at c.in_ok-places.ensures

pub returns-clause-rows : goal.returns-clause-rows
returns-clause-rows c =
    let first : c.in_ok-first.first.items ≡ places_marked true c.args.marks.now 0 = rw c.new.ensures.items at c.in_ok-first.ensures in
    let all : c.in_ok-places.places.items ≡ stated_places c.args.marks.now = rw first at c.in_ok-places.ensures in
    rw (c.deref.ensures.value, all) at c.in_ok-rows.ensures

pub returns-clause-start : goal.returns-clause-start
returns-clause-start c =
    let first : c.in_ok-first.first.items ≡ places_marked true c.args.marks.now 0 = rw c.new.ensures.items at c.in_ok-first.ensures in
    c.len-start.ensures ∙ c.in_ok-first.first.ok.0 ∙ ap length first
