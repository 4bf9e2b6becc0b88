use Rattle.pm_dd.proofs.Moving.{kept_end, kept_no, kept_yes, moved_first, moved_last, moved_length, moved_more, moved_skip}
use Rattle.pm_dd.proofs.Stands.{below_of, from_of, stand_in_range, zeros_of_stand}
use Rattle.pm_dd.proofs.step.kept_rays.Goals as goal
use Rattle.pm_dd.specs.Building.{NextZeros}
use Rattle.pm_vector.specs.Rows.{dot, entry}
use Rattle.pm_vector.specs.Bases.{row_at}
use Rattle.pm_dd.specs.Tables.{zero_set}
use Rattle.pm_geom.specs.Faces.{ray}
use Rattle.std.specs.Int.{w128}
use Rattle.std.proofs.Common.{FitsSigned, ap, arith, length, refl, sym, ◌+◌, ◌<◌, ◌∙◌, ℕ}
use Rattle.std.proofs.lemmas.Int.{fits_signed_from_abs, ints, to_z-of_z}
use lib.IntN.{pos}
use lib.Signed.{◌<ℤ◌, ◌≤ℤ◌}

pub loop-i-init : goal.loop-i-init
loop-i-init c = record {
  row_len = c.requires.row_len;
  count = refl;
  moved = moved_first c.args.cols c.args.equations.now c.args.rows.now c.args.front c.requires.within c.args.rays.rows.items c.args.rays.zeros.rows c.requires.table;
}

pub loop-i-preserved-then-value-lt0 : goal.loop-i-preserved-then-value-lt0
loop-i-preserved-then-value-lt0 c =
    let m = c.requires.stand.as_many in
    let l : c.loop-i.i < length c.args.values.now = omega arith in
    let li : c.loop-i.i < length c.args.rays.rows.items = omega arith in
    let t = c.if-value-lt0.true in
    let down : entry c.args.values.now c.loop-i.i <ℤ pos 0 = omega (arith, ints) in
    record {
      row_len = c.loop-i.invariant.row_len;
      count = c.loop-i.invariant.count ∙ sym (kept_no c.args.values.now c.loop-i.i l down);
      moved = moved_skip c.args.cols c.args.equations.now c.args.rows.now c.args.front c.requires.within c.args.rays.rows.items c.args.rays.zeros.rows c.requires.table c.loop-i.i c.loop-i.kept li c.loop-i.made.items c.loop-i.zeros.rows c.loop-i.invariant.moved
          (below_of (dot (row_at c.args.rows.now c.args.front) (ray c.args.rays.rows.items c.loop-i.i)) (entry c.args.values.now c.loop-i.i) (c.requires.stand.each c.loop-i.i li) down);
    }

pub mark_zero-requires-clause-place : goal.mark_zero-requires-clause-place
mark_zero-requires-clause-place c = let m = c.requires.stand.as_many in let z = c.loop-i.invariant.moved.zeros_many in omega arith

pub mark_zero-requires-clause-front : goal.mark_zero-requires-clause-front
mark_zero-requires-clause-front c = let l = c.requires.within in let e = c.loop-i.invariant.row_len in omega arith

pub loop-i-preserved : goal.loop-i-preserved
loop-i-preserved c =
    let m = c.requires.stand.as_many in
    let l : c.loop-i.i < length c.args.values.now = omega arith in
    let li : c.loop-i.i < length c.args.rays.rows.items = omega arith in
    let t = c.if-value-lt0.false in
    let up : pos 0 ≤ℤ entry c.args.values.now c.loop-i.i = omega (arith, ints) in
    let z = dot (row_at c.args.rows.now c.args.front) (ray c.args.rays.rows.items c.loop-i.i) in
    let s = c.requires.stand.each c.loop-i.i li in
    let fit : FitsSigned w128 (entry c.args.values.now c.loop-i.i) = fits_signed_from_abs w128 (entry c.args.values.now c.loop-i.i) (stand_in_range z (entry c.args.values.now c.loop-i.i) s) in
    let zeros : NextZeros (zero_set c.loop-i.zeros.rows c.loop-i.i) c.args.front (entry c.args.values.now c.loop-i.i) (zero_set c.mark_zero.new.zeros.rows c.loop-i.i) = rw (to_z-of_z w128 (entry c.args.values.now c.loop-i.i) fit) at c.mark_zero.ensures.next in
    let nz = zeros_of_stand z (entry c.args.values.now c.loop-i.i) s (zero_set c.loop-i.zeros.rows c.loop-i.i) c.args.front (zero_set c.mark_zero.new.zeros.rows c.loop-i.i) zeros in
    record {
      row_len = c.swap-in-loop-i.ensures.row_len ∙ c.mark_zero.ensures.row_len ∙ c.loop-i.invariant.row_len;
      count = ap (λ (k : ℕ). k + 1) c.loop-i.invariant.count ∙ sym (kept_yes c.args.values.now c.loop-i.i l up);
      moved = rw (c.swap.ensures.items, c.swap-in-loop-i.ensures.rows) (moved_more c.args.cols c.args.equations.now c.args.rows.now c.args.front c.requires.within c.args.rays.rows.items c.args.rays.zeros.rows c.requires.table c.loop-i.i c.loop-i.kept li c.loop-i.made.items c.loop-i.zeros.rows c.loop-i.invariant.moved
          (from_of z (entry c.args.values.now c.loop-i.i) s up) c.mark_zero.new.zeros.rows c.mark_zero.ensures.as_many nz c.mark_zero.ensures.others);
    }

pub returns-clause-count : goal.returns-clause-count
returns-clause-count c =
    let m = c.requires.stand.as_many in
    rw c.truncate.ensures.items
    (moved_length c.args.cols c.args.equations.now c.args.rows.now c.args.front c.requires.within c.args.rays.rows.items c.args.rays.zeros.rows c.requires.table c.loop-i.i c.loop-i.kept c.loop-i.made.items c.loop-i.zeros.rows (omega arith) c.loop-i.invariant.moved
    ∙ c.loop-i.invariant.count ∙ kept_end c.args.values.now c.loop-i.i (omega arith))

pub returns-clause-built : goal.returns-clause-built
returns-clause-built c =
    let m = c.requires.stand.as_many in
    rw (c.truncate.ensures.items, c.truncate-2.ensures.rows)
    (moved_last c.args.cols c.args.equations.now c.args.rows.now c.args.front c.requires.within c.args.rays.rows.items c.args.rays.zeros.rows c.requires.table c.loop-i.i c.loop-i.kept c.loop-i.made.items c.loop-i.zeros.rows (omega arith) c.loop-i.invariant.moved)
