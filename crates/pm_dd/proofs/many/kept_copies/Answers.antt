use Rattle.pm_dd.proofs.Moving.{kept_end, kept_no, kept_yes, listed_first, listed_more, listed_skip}
use Rattle.pm_dd.proofs.Stands.{below_of, from_of}
use Rattle.pm_dd.proofs.many.kept_copies.Goals as goal
use Rattle.pm_vector.specs.Rows.{dot, entry}
use Rattle.pm_vector.specs.Bases.{row_at}
use Rattle.pm_geom.specs.Faces.{ray}
use Rattle.std.proofs.Common.{[], ap, arith, length, refl, sym, ◌+◌, ◌<◌, ◌≡◌, ◌∙◌, ℕ}
use Rattle.std.proofs.lemmas.Int.{ints}
use lib.IntN.{pos}
use lib.Signed.{◌<ℤ◌, ◌≤ℤ◌}
use Rattle.std.proofs.lemmas.List.{get_or_read, length_push}

pub loop-i-init : goal.loop-i-init
loop-i-init c = record {
  count = rw c.new-made.ensures.items refl;
  listed = rw c.new-made.ensures.items (listed_first c.args.cols c.args.equations.now c.args.rows.now c.args.front c.requires.within c.args.rays.now.rows.items c.args.rays.now.zeros.rows c.requires.table);
}

pub loop-i-preserved-then-values-i-lt0 : goal.loop-i-preserved-then-values-i-lt0
loop-i-preserved-then-values-i-lt0 c =
    let m = c.requires.stand.as_many in
    let l : c.loop-i.i < length c.args.values.now = omega arith in
    let li : c.loop-i.i < length c.args.rays.now.rows.items = omega arith in
    let t = c.if-values-i-lt0.true in
    let down : entry c.args.values.now c.loop-i.i <ℤ pos 0 = omega (arith, ints) in
    record {
      count = c.loop-i.invariant.count ∙ sym (kept_no c.args.values.now c.loop-i.i l down);
      listed = listed_skip c.args.cols c.args.equations.now c.args.rows.now c.args.front c.requires.within c.args.rays.now.rows.items c.args.rays.now.zeros.rows c.requires.table c.loop-i.i c.loop-i.made.items c.loop-i.invariant.listed
          (below_of (dot (row_at c.args.rows.now c.args.front) (ray c.args.rays.now.rows.items c.loop-i.i)) (entry c.args.values.now c.loop-i.i) (c.requires.stand.each c.loop-i.i li) down);
    }

pub loop-i-preserved : goal.loop-i-preserved
loop-i-preserved c =
    let m = c.requires.stand.as_many in
    let l : c.loop-i.i < length c.args.values.now = omega arith in
    let li : c.loop-i.i < length c.args.rays.now.rows.items = omega arith in
    let t = c.if-values-i-lt0.false in
    let up : pos 0 ≤ℤ entry c.args.values.now c.loop-i.i = omega (arith, ints) in
    let here : c.in_ok-copy.copy ≡ ray c.args.rays.now.rows.items c.loop-i.i = c.in_ok-copy.ensures ∙ get_or_read c.args.rays.now.rows.items c.loop-i.i c.index.result.now li c.index.ensures [] in
    record {
      count = ap length c.in_ok-push.ensures.items ∙ length_push c.loop-i.made.items c.in_ok-copy.copy ∙ ap (λ (k : ℕ). k + 1) c.loop-i.invariant.count ∙ sym (kept_yes c.args.values.now c.loop-i.i l up);
      listed = rw (c.in_ok-push.ensures.items, here) (listed_more c.args.cols c.args.equations.now c.args.rows.now c.args.front c.requires.within c.args.rays.now.rows.items c.args.rays.now.zeros.rows c.requires.table c.loop-i.i c.loop-i.made.items c.loop-i.invariant.listed li
          (from_of (dot (row_at c.args.rows.now c.args.front) (ray c.args.rays.now.rows.items c.loop-i.i)) (entry c.args.values.now c.loop-i.i) (c.requires.stand.each c.loop-i.i li) up));
    }

pub returns-clause-count : goal.returns-clause-count
returns-clause-count c = c.loop-i.invariant.count ∙ kept_end c.args.values.now c.loop-i.i (omega arith)

pub returns-clause-listed : goal.returns-clause-listed
returns-clause-listed c =
    let m = c.requires.stand.as_many in
    let last : length c.args.rays.now.rows.items ≡ c.loop-i.i = omega arith in
    rw last c.loop-i.invariant.listed
