use Rattle.pm_laws_normal_fans.proofs.Places.{map_length}
use Rattle.pm_refine.proofs.Found.{found_new, found_with, next_cone, next_pair, placed_with}
use Rattle.pm_refine.proofs.Indexed.{item, mapped_at}
use Rattle.pm_refine.proofs.Outcomes.{pair_fail, wide_fail}
use Rattle.pm_refine.proofs.pairs.with_cone.Goals as goal
use Rattle.pm_refine.specs.CutRows.{IsSmall, cut_rows, intersection_of}
use Rattle.std.proofs.Common.{[], arith, map, refl, ◌+◌, ◌++◌, ◌∷◌}
use Rattle.std.proofs.lemmas.Result.{err_from_is_err_and}

pub intersection-requires-clause-first : goal.intersection-requires-clause-first
intersection-requires-clause-first c = item (IsSmall c.args.cols) cut_rows c.args.firsts.now c.args.i c.index-firsts-i.result c.requires.within c.index-firsts-i.is c.requires.firsts

pub intersection-requires-clause-second : goal.intersection-requires-clause-second
intersection-requires-clause-second c = item (IsSmall c.args.cols) cut_rows c.args.seconds.now c.loop-j.j c.index-seconds-j.result c.loop-j-test.true c.index-seconds-j.is c.requires.seconds

pub returns-in_err-found-clause-failed : goal.returns-in_err-found-clause-failed
returns-in_err-found-clause-failed c =
    let q = err_from_is_err_and c.from_residual.result c.from_residual.ensures.1 in
    let e = map_length cut_rows c.args.firsts.now in
    let d = map_length cut_rows c.args.seconds.now in
    let l = c.requires.within in
    let m = c.loop-j-test.true in
    rw (q.1, q.2) (pair_fail c.args.cols (map cut_rows c.args.firsts.now) (map cut_rows c.args.seconds.now) (cut_rows c.index-firsts-i.result) (cut_rows c.index-seconds-j.result) c.args.i c.loop-j.j (omega arith) (omega arith)
    (mapped_at cut_rows c.args.firsts.now c.args.i c.index-firsts-i.result (record { facets = []; hull = [] }) c.requires.within c.index-firsts-i.is)
    (mapped_at cut_rows c.args.seconds.now c.loop-j.j c.index-seconds-j.result (record { facets = []; hull = [] }) c.loop-j-test.true c.index-seconds-j.is) c.in_err-found.field-0.0 c.in_err-found.ensures.failed)

pub keep-requires-clause-listed : goal.keep-requires-clause-listed
keep-requires-clause-listed c =
    let e = map_length cut_rows c.args.firsts.now in
    let d = map_length cut_rows c.args.seconds.now in
    let l = c.requires.within in
    let m = c.loop-j-test.true in
    placed_with c.args.cols (map cut_rows c.args.firsts.now) (map cut_rows c.args.seconds.now) c.args.i c.loop-j.j c.loop-j.lineality.items c.in_ok-found.found.lineality.items c.in_ok-found.found.rays.items (map intersection_of c.loop-j.cones.items) (cut_rows c.index-firsts-i.result) (cut_rows c.index-seconds-j.result) (omega arith) (omega arith)
    (mapped_at cut_rows c.args.firsts.now c.args.i c.index-firsts-i.result (record { facets = []; hull = [] }) c.requires.within c.index-firsts-i.is)
    (mapped_at cut_rows c.args.seconds.now c.loop-j.j c.index-seconds-j.result (record { facets = []; hull = [] }) c.loop-j-test.true c.index-seconds-j.is) c.loop-j.invariant c.in_ok-found.ensures.generators

pub returns-in_err-cones-clause-failed : goal.returns-in_err-cones-clause-failed
returns-in_err-cones-clause-failed c =
    let q = err_from_is_err_and c.from_residual-in_err-cones.result c.from_residual-in_err-cones.ensures.1 in
    let e = map_length cut_rows c.args.firsts.now in
    let d = map_length cut_rows c.args.seconds.now in
    let l = c.requires.within in
    let m = c.loop-j-test.true in
    rw (q.1, q.2) (wide_fail c.args.cols (map cut_rows c.args.firsts.now) (map cut_rows c.args.seconds.now) (map intersection_of c.loop-j.cones.items ++ (record { first = c.args.i; second = c.loop-j.j; rays = c.in_ok-found.found.rays.items }) ∷ []) (found_with c.args.cols (map cut_rows c.args.firsts.now) (map cut_rows c.args.seconds.now) c.args.i c.loop-j.j c.loop-j.lineality.items c.in_ok-found.found.lineality.items c.in_ok-found.found.rays.items (map intersection_of c.loop-j.cones.items) (cut_rows c.index-firsts-i.result) (cut_rows c.index-seconds-j.result) (omega arith) (omega arith)
    (mapped_at cut_rows c.args.firsts.now c.args.i c.index-firsts-i.result (record { facets = []; hull = [] }) c.requires.within c.index-firsts-i.is)
    (mapped_at cut_rows c.args.seconds.now c.loop-j.j c.index-seconds-j.result (record { facets = []; hull = [] }) c.loop-j-test.true c.index-seconds-j.is) c.loop-j.invariant c.in_ok-found.ensures.generators)
    c.in_err-cones.field-0.0 c.in_err-cones.ensures.failed)

pub loop-j-preserved : goal.loop-j-preserved
loop-j-preserved c =
    let e = map_length cut_rows c.args.firsts.now in
    let d = map_length cut_rows c.args.seconds.now in
    let l = c.requires.within in
    let m = c.loop-j-test.true in
    next_pair c.args.cols (map cut_rows c.args.firsts.now) (map cut_rows c.args.seconds.now) c.args.i c.loop-j.j (c.loop-j.j + 1) c.loop-j.lineality.items c.in_ok-found.found.lineality.items (map intersection_of c.loop-j.cones.items) (map intersection_of c.in_ok-cones.cones.items) (record { first = c.args.i; second = c.loop-j.j; rays = c.in_ok-found.found.rays.items }) refl refl refl c.loop-j.invariant
    (found_new c.args.cols (map cut_rows c.args.firsts.now) (map cut_rows c.args.seconds.now) c.args.i c.loop-j.j c.loop-j.lineality.items c.in_ok-found.found.lineality.items c.in_ok-found.found.rays.items (map intersection_of c.loop-j.cones.items) (cut_rows c.index-firsts-i.result) (cut_rows c.index-seconds-j.result) (omega arith) (omega arith)
    (mapped_at cut_rows c.args.firsts.now c.args.i c.index-firsts-i.result (record { facets = []; hull = [] }) c.requires.within c.index-firsts-i.is)
    (mapped_at cut_rows c.args.seconds.now c.loop-j.j c.index-seconds-j.result (record { facets = []; hull = [] }) c.loop-j-test.true c.index-seconds-j.is) c.loop-j.invariant c.in_ok-found.ensures.generators) c.in_ok-cones.ensures.kept

pub returns-clause-kept : goal.returns-clause-kept
returns-clause-kept c =
    let d = map_length cut_rows c.args.seconds.now in
    let m = c.loop-j-test.false in
    next_cone c.args.cols (map cut_rows c.args.firsts.now) (map cut_rows c.args.seconds.now) c.args.i c.loop-j.j c.loop-j.lineality.items (map intersection_of c.loop-j.cones.items) (omega arith) c.loop-j.invariant
