use Rattle.pm_vector.proofs.Lists.{among_append_left, among_append_right}
use Rattle.pm_laws_normal_fans.proofs.Places.{map_length}
use Rattle.pm_refine.proofs.Indexed.{all_cols, all_last, all_left, item, kept_next, map_last, mapped_among, mapped_at, some_row}
use Rattle.pm_refine.proofs.Outcomes.{test_as, tests_more}
use Rattle.pm_refine.proofs.keep.keep.Goals as goal
use Rattle.pm_refine.specs.CutRows.{IsRowOf, IsSmall, IsSomeRow, cut_rows, intersection_of}
use Rattle.pm_refine.specs.Steps.{IsPlaced}
use Rattle.std.proofs.Common.{[], ap, arith, map, ◌++◌, ◌∷◌, ◌∙◌, ◌⊎◌}
use Rattle.std.proofs.lemmas.Result.{err_from_is_err_and}

pub includes_any-requires-clause-kept : goal.includes_any-requires-clause-kept
includes_any-requires-clause-kept c = rw c.deref.ensures.value (all_left (IsPlaced c.args.cols (map cut_rows c.args.firsts.now) (map cut_rows c.args.seconds.now)) (map intersection_of c.args.kept.items) (intersection_of c.args.new) c.requires.listed)

pub includes_any-requires-clause-new : goal.includes_any-requires-clause-new
includes_any-requires-clause-new c = all_last (IsPlaced c.args.cols (map cut_rows c.args.firsts.now) (map cut_rows c.args.seconds.now)) (map intersection_of c.args.kept.items) (intersection_of c.args.new) c.requires.listed

pub returns-in_err-included-clause-failed : goal.returns-in_err-included-clause-failed
returns-in_err-included-clause-failed c =
    let q = err_from_is_err_and c.from_residual.result c.from_residual.ensures.1 in
    rw (q.1, q.2) (tests_more (intersection_of c.args.new ∷ []) (map intersection_of c.args.kept.items ++ intersection_of c.args.new ∷ []) (IsSomeRow (map cut_rows c.args.firsts.now) (map cut_rows c.args.seconds.now))
    (λ a i. among_append_right (map intersection_of c.args.kept.items) i) c.in_err-included.field-0.0 c.in_err-included.ensures.failed)

pub bounds-firsts-new : goal.bounds-firsts-new
bounds-firsts-new c =
    let p = all_last (IsPlaced c.args.cols (map cut_rows c.args.firsts.now) (map cut_rows c.args.seconds.now)) (map intersection_of c.args.kept.items) (intersection_of c.args.new) c.requires.listed in
    let l = p.first in
    let e = map_length cut_rows c.args.firsts.now in
    omega arith

pub bounds-seconds-new : goal.bounds-seconds-new
bounds-seconds-new c =
    let p = all_last (IsPlaced c.args.cols (map cut_rows c.args.firsts.now) (map cut_rows c.args.seconds.now)) (map intersection_of c.args.kept.items) (intersection_of c.args.new) c.requires.listed in
    let l = p.second in
    let e = map_length cut_rows c.args.seconds.now in
    omega arith

pub without_included-requires-clause-kept : goal.without_included-requires-clause-kept
without_included-requires-clause-kept c = all_cols intersection_of c.args.cols (map cut_rows c.args.firsts.now) (map cut_rows c.args.seconds.now) c.args.kept.items (intersection_of c.args.new) c.requires.listed

pub without_included-requires-clause-first : goal.without_included-requires-clause-first
without_included-requires-clause-first c =
    let p = all_last (IsPlaced c.args.cols (map cut_rows c.args.firsts.now) (map cut_rows c.args.seconds.now)) (map intersection_of c.args.kept.items) (intersection_of c.args.new) c.requires.listed in
    let l = p.first in
    let e = map_length cut_rows c.args.firsts.now in
    item (IsSmall c.args.cols) cut_rows c.args.firsts.now c.args.new.first c.index-firsts-new.result (omega arith) c.index-firsts-new.is c.requires.firsts

pub without_included-requires-clause-second : goal.without_included-requires-clause-second
without_included-requires-clause-second c =
    let p = all_last (IsPlaced c.args.cols (map cut_rows c.args.firsts.now) (map cut_rows c.args.seconds.now)) (map intersection_of c.args.kept.items) (intersection_of c.args.new) c.requires.listed in
    let l = p.second in
    let e = map_length cut_rows c.args.seconds.now in
    item (IsSmall c.args.cols) cut_rows c.args.seconds.now c.args.new.second c.index-seconds-new.result (omega arith) c.index-seconds-new.is c.requires.seconds

pub returns-in_err-left-clause-failed : goal.returns-in_err-left-clause-failed
returns-in_err-left-clause-failed c =
    let q = err_from_is_err_and c.from_residual-in_err-left.result c.from_residual-in_err-left.ensures.1 in
    let p = all_last (IsPlaced c.args.cols (map cut_rows c.args.firsts.now) (map cut_rows c.args.seconds.now)) (map intersection_of c.args.kept.items) (intersection_of c.args.new) c.requires.listed in
    let l = p.first in
    let m = p.second in
    let e = map_length cut_rows c.args.firsts.now in
    let d = map_length cut_rows c.args.seconds.now in
    rw (q.1, q.2) (tests_more (map intersection_of c.args.kept.items) (map intersection_of c.args.kept.items ++ intersection_of c.args.new ∷ []) (IsSomeRow (map cut_rows c.args.firsts.now) (map cut_rows c.args.seconds.now))
    (λ a i. among_append_left (intersection_of c.args.new ∷ []) i) c.in_err-left.field-0.0
    (test_as (map intersection_of c.args.kept.items) (λ r. IsRowOf (cut_rows c.index-firsts-new.result) r ⊎ IsRowOf (cut_rows c.index-seconds-new.result) r) (IsSomeRow (map cut_rows c.args.firsts.now) (map cut_rows c.args.seconds.now))
    (some_row (map cut_rows c.args.firsts.now) (map cut_rows c.args.seconds.now) (cut_rows c.index-firsts-new.result) (cut_rows c.index-seconds-new.result)
    (mapped_among cut_rows c.args.firsts.now c.args.new.first c.index-firsts-new.result (omega arith) c.index-firsts-new.is)
    (mapped_among cut_rows c.args.seconds.now c.args.new.second c.index-seconds-new.result (omega arith) c.index-seconds-new.is)) c.in_err-left.field-0.0 c.in_err-left.ensures.failed))

pub returns-clause-kept : goal.returns-clause-kept
returns-clause-kept c =
    let p = all_last (IsPlaced c.args.cols (map cut_rows c.args.firsts.now) (map cut_rows c.args.seconds.now)) (map intersection_of c.args.kept.items) (intersection_of c.args.new) c.requires.listed in
    let l = p.first in
    let m = p.second in
    let e = map_length cut_rows c.args.firsts.now in
    let d = map_length cut_rows c.args.seconds.now in
    let all = ap (map intersection_of) c.in_ok-push.ensures.items ∙ map_last intersection_of c.in_ok-left.left.items c.args.new in
    kept_next (map cut_rows c.args.firsts.now) (map cut_rows c.args.seconds.now) (map intersection_of c.args.kept.items) (map intersection_of c.in_ok-left.left.items) (map intersection_of c.push.new.self.items) (intersection_of c.args.new) (cut_rows c.index-firsts-new.result) (cut_rows c.index-seconds-new.result) c.in_ok-included.included
    (mapped_at cut_rows c.args.firsts.now c.args.new.first c.index-firsts-new.result (record { facets = []; hull = [] }) (omega arith) c.index-firsts-new.is)
    (mapped_at cut_rows c.args.seconds.now c.args.new.second c.index-seconds-new.result (record { facets = []; hull = [] }) (omega arith) c.index-seconds-new.is)
    (rw c.deref.ensures.value at c.in_ok-included.ensures.any) c.if-included.false c.in_ok-left.ensures.left all
