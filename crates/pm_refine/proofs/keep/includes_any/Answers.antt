use Rattle.pm_laws_normal_fans.proofs.Places.{map_length}
use Rattle.pm_refine.proofs.Indexed.{any_next, any_no, any_yes, item, mapped_among, some_row}
use Rattle.pm_refine.proofs.Outcomes.{test_as}
use Rattle.pm_refine.proofs.keep.includes_any.Goals as goal
use Rattle.pm_refine.specs.CutRows.{IsRowOf, IsSmall, IsSomeRow, cut_rows, intersection_of}
use Rattle.pm_refine.specs.Steps.{IsPlaced}
use Rattle.std.proofs.Common.{arith, map, [], ◌∷◌, ◌⊎◌}
use Rattle.std.proofs.lemmas.Result.{err_from_is_err_and}

pub bounds-firsts-k : goal.bounds-firsts-k
bounds-firsts-k c =
    let p = item (IsPlaced c.args.cols (map cut_rows c.args.firsts.now) (map cut_rows c.args.seconds.now)) intersection_of c.args.kept.now c.loop-k.k-index c.k-item.result c.loop-k-test.true c.k-item.is c.requires.kept in
    let l = p.first in
    let e = map_length cut_rows c.args.firsts.now in
    omega arith

pub bounds-seconds-k : goal.bounds-seconds-k
bounds-seconds-k c =
    let p = item (IsPlaced c.args.cols (map cut_rows c.args.firsts.now) (map cut_rows c.args.seconds.now)) intersection_of c.args.kept.now c.loop-k.k-index c.k-item.result c.loop-k-test.true c.k-item.is c.requires.kept in
    let l = p.second in
    let e = map_length cut_rows c.args.seconds.now in
    omega arith

pub is_within-requires-clause-rays : goal.is_within-requires-clause-rays
is_within-requires-clause-rays c = c.requires.new.cols

pub is_within-requires-clause-first : goal.is_within-requires-clause-first
is_within-requires-clause-first c =
    let p = item (IsPlaced c.args.cols (map cut_rows c.args.firsts.now) (map cut_rows c.args.seconds.now)) intersection_of c.args.kept.now c.loop-k.k-index c.k-item.result c.loop-k-test.true c.k-item.is c.requires.kept in
    let l = p.first in
    let e = map_length cut_rows c.args.firsts.now in
    item (IsSmall c.args.cols) cut_rows c.args.firsts.now c.k-item.result.first c.index-firsts-k.result (omega arith) c.index-firsts-k.is c.requires.firsts

pub is_within-requires-clause-second : goal.is_within-requires-clause-second
is_within-requires-clause-second c =
    let p = item (IsPlaced c.args.cols (map cut_rows c.args.firsts.now) (map cut_rows c.args.seconds.now)) intersection_of c.args.kept.now c.loop-k.k-index c.k-item.result c.loop-k-test.true c.k-item.is c.requires.kept in
    let l = p.second in
    let e = map_length cut_rows c.args.seconds.now in
    item (IsSmall c.args.cols) cut_rows c.args.seconds.now c.k-item.result.second c.index-seconds-k.result (omega arith) c.index-seconds-k.is c.requires.seconds

pub returns-in_err-within-clause-failed : goal.returns-in_err-within-clause-failed
returns-in_err-within-clause-failed c =
    let q = err_from_is_err_and c.from_residual.result c.from_residual.ensures.1 in
    let p = item (IsPlaced c.args.cols (map cut_rows c.args.firsts.now) (map cut_rows c.args.seconds.now)) intersection_of c.args.kept.now c.loop-k.k-index c.k-item.result c.loop-k-test.true c.k-item.is c.requires.kept in
    let l = p.first in
    let m = p.second in
    let e = map_length cut_rows c.args.firsts.now in
    let d = map_length cut_rows c.args.seconds.now in
    rw (q.1, q.2) (test_as (intersection_of c.args.new.now ∷ []) (λ r. IsRowOf (cut_rows c.index-firsts-k.result) r ⊎ IsRowOf (cut_rows c.index-seconds-k.result) r) (IsSomeRow (map cut_rows c.args.firsts.now) (map cut_rows c.args.seconds.now))
    (some_row (map cut_rows c.args.firsts.now) (map cut_rows c.args.seconds.now) (cut_rows c.index-firsts-k.result) (cut_rows c.index-seconds-k.result)
    (mapped_among cut_rows c.args.firsts.now c.k-item.result.first c.index-firsts-k.result (omega arith) c.index-firsts-k.is)
    (mapped_among cut_rows c.args.seconds.now c.k-item.result.second c.index-seconds-k.result (omega arith) c.index-seconds-k.is)) c.in_err-within.field-0.0 c.in_err-within.ensures.failed)

pub returns-then-within-clause-any : goal.returns-then-within-clause-any
returns-then-within-clause-any c =
    let p = item (IsPlaced c.args.cols (map cut_rows c.args.firsts.now) (map cut_rows c.args.seconds.now)) intersection_of c.args.kept.now c.loop-k.k-index c.k-item.result c.loop-k-test.true c.k-item.is c.requires.kept in
    let l = p.first in
    let m = p.second in
    let e = map_length cut_rows c.args.firsts.now in
    let d = map_length cut_rows c.args.seconds.now in
    any_yes _ _ _ c.in_ok-within.within c.if-within.true
    (any_next cut_rows intersection_of c.args.firsts.now c.args.seconds.now c.args.kept.now (intersection_of c.args.new.now) c.loop-k.k-index c.k-item.result c.index-firsts-k.result c.index-seconds-k.result c.in_ok-within.within c.loop-k-test.true c.k-item.is (omega arith) (omega arith) c.index-firsts-k.is c.index-seconds-k.is c.in_ok-within.ensures.within)
    c.loop-k.invariant

pub loop-k-preserved : goal.loop-k-preserved
loop-k-preserved c =
    let p = item (IsPlaced c.args.cols (map cut_rows c.args.firsts.now) (map cut_rows c.args.seconds.now)) intersection_of c.args.kept.now c.loop-k.k-index c.k-item.result c.loop-k-test.true c.k-item.is c.requires.kept in
    let l = p.first in
    let m = p.second in
    let e = map_length cut_rows c.args.firsts.now in
    let d = map_length cut_rows c.args.seconds.now in
    any_no _ _ _ c.in_ok-within.within c.if-within.false
    (any_next cut_rows intersection_of c.args.firsts.now c.args.seconds.now c.args.kept.now (intersection_of c.args.new.now) c.loop-k.k-index c.k-item.result c.index-firsts-k.result c.index-seconds-k.result c.in_ok-within.within c.loop-k-test.true c.k-item.is (omega arith) (omega arith) c.index-firsts-k.is c.index-seconds-k.is c.in_ok-within.ensures.within)
    c.loop-k.invariant
