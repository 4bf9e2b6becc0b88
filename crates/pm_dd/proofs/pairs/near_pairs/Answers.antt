use Rattle.pm_vector.specs.Rows.{Row, dot, entry}
use Rattle.pm_vector.specs.Bases.{row_at}
use Rattle.pm_dd.proofs.Building.{front_cols, no_pair, pair_made, pairs_all, pairs_first, pairs_none_row, pairs_skip_row}
use Rattle.pm_bits.specs.Sets.{common_count}
use Rattle.pm_dd.proofs.FarRays.{far_ahead, far_behind}
use Rattle.pm_dd.proofs.Moving.{kept_few}
use Rattle.pm_dd.proofs.Negatives.{IsRowBuilt, row_end, row_more, row_next, row_skip, row_start}
use Rattle.pm_dd.proofs.Stands.{above_of, below_of, to_of}
use Rattle.pm_dd.proofs.StepFails.{pair_fail, pair_lost}
use Rattle.pm_dd.proofs.pairs.near_pairs.Goals as goal
use Rattle.pm_dd.proofs.pairs.near_pairs.Goals.{After-index-rows-front}
use Rattle.pm_dd.specs.Building.{IsMade, IsNoPair, IsPairRay, IsPassed}
use Rattle.pm_dd.specs.Description.{pair}
use Rattle.pm_dd.specs.Tables.{zero_set}
use Rattle.pm_geom.specs.Faces.{ray}
use Rattle.std.specs.Prelude.{Bool, List, pos, ◌<ℤ◌}
use Rattle.std.proofs.Common.{[], ◌∷◌, arith, drop, get_or, length, refl, sym, ◌+◌, ◌-◌, ◌<◌, ◌≡◌, ◌≤◌, ◌∙◌}
use Rattle.std.proofs.lemmas.List.{get_or_read}
use Rattle.std.proofs.lemmas.Int.{ints}
use Rattle.std.proofs.lemmas.Result.{err_from_is_err_and}

-- ---- what holds at each pair
front_row : (c : After-index-rows-front) → c.index-rows-front.result ≡ row_at c.args.rows.now c.args.front
front_row c = get_or_read c.args.rows.now c.args.front c.index-rows-front.result c.requires.within c.index-rows-front.is []

is_ahead : (c : After-index-rows-front) → pos 0 <ℤ dot (row_at c.args.rows.now c.args.front) (ray c.args.rays.now.rows.items c.loop-i.i)
is_ahead c =
    let l : c.loop-i.i < length c.args.rays.now.rows.items = omega arith in
    let t = c.if-values-i-le0.false in
    above_of (dot (row_at c.args.rows.now c.args.front) (ray c.args.rays.now.rows.items c.loop-i.i)) (entry c.args.values.now c.loop-i.i) (c.requires.stand.each c.loop-i.i l) (omega (arith, ints))

row_here : (c : After-index-rows-front) → IsRowBuilt c.args.cols c.args.equations.now c.args.rows.now c.args.front c.args.rays.now.rows.items c.args.values.now c.loop-i.i (get_or c.args.negatives.now c.loop-k.k 0 ∷ drop (c.loop-k.k + 1) c.args.negatives.now) c.loop-k.made.rows.items c.loop-k.made.zeros.rows
row_here c =
    let l : c.loop-k.k < length c.args.negatives.now = omega arith in
    row_next c.args.cols c.args.equations.now c.args.rows.now c.args.front c.args.rays.now.rows.items c.args.values.now c.loop-i.i c.args.negatives.now c.loop-k.made.rows.items c.loop-k.made.zeros.rows c.loop-k.k (get_or c.args.negatives.now c.loop-k.k 0) l refl c.loop-k.invariant.built

is_behind : (c : After-index-rows-front) → dot (row_at c.args.rows.now c.args.front) (ray c.args.rays.now.rows.items (get_or c.args.negatives.now c.loop-k.k 0)) <ℤ pos 0
is_behind c =
    let left = (row_here c).left.0 in
    below_of (dot (row_at c.args.rows.now c.args.front) (ray c.args.rays.now.rows.items (get_or c.args.negatives.now c.loop-k.k 0))) (entry c.args.values.now (get_or c.args.negatives.now c.loop-k.k 0)) (c.requires.stand.each (get_or c.args.negatives.now c.loop-k.k 0) left.within) left.negative

is_made : (c : After-index-rows-front) → (w : Row) (y : List Bool) → IsPairRay (row_at c.args.rows.now c.args.front) c.args.rays.now.rows.items c.args.rays.now.zeros c.loop-i.i (get_or c.args.negatives.now c.loop-k.k 0) c.args.front w y → IsMade c.args.cols c.args.equations.now c.args.rows.now c.args.front c.args.rays.now.rows.items (pair c.loop-i.i (get_or c.args.negatives.now c.loop-k.k 0)) w y
is_made c w y p =
    let l : c.loop-i.i < length c.args.rays.now.rows.items = omega arith in
    pair_made c.args.cols c.args.equations.now c.args.rows.now c.args.front c.requires.within c.args.rays.now.rows.items c.args.rays.now.zeros c.requires.table c.requires.equation_cols c.requires.row_cols c.requires.old_len c.loop-i.i (get_or c.args.negatives.now c.loop-k.k 0) l (row_here c).left.0.within c.requires.spanned (is_ahead c) (is_behind c) w y p

-- ---- the goals
pub loop-i-preserved-then-values-i-le0 : goal.loop-i-preserved-then-values-i-le0
loop-i-preserved-then-values-i-le0 c =
    let l : c.loop-i.i < length c.args.rays.now.rows.items = omega arith in
    let t = c.if-values-i-le0.true in
    let low = to_of (dot (row_at c.args.rows.now c.args.front) (ray c.args.rays.now.rows.items c.loop-i.i)) (entry c.args.values.now c.loop-i.i) (c.requires.stand.each c.loop-i.i l) (omega (arith, ints)) in
    record {
      both_len = c.loop-i.invariant.both_len;
      row_len = c.loop-i.invariant.row_len;
      few = c.loop-i.invariant.few;
      built = pairs_skip_row c.args.cols c.args.equations.now c.args.rows.now c.args.front c.args.rays.now.rows.items c.loop-i.i c.loop-i.made.rows.items c.loop-i.made.zeros.rows c.loop-i.invariant.built low;
    }

pub loop-i-preserved-then-common_count_with-need : goal.loop-i-preserved-then-common_count_with-need
loop-i-preserved-then-common_count_with-need c =
    let n = c.common_count_with.ensures in
    let t = c.if-common_count_with-need.true in
    let few : common_count (zero_set c.args.rays.now.zeros.rows c.loop-i.i) c.args.unions.now.behind < c.args.need = omega arith in
    record {
      both_len = c.loop-i.invariant.both_len;
      row_len = c.loop-i.invariant.row_len;
      few = c.loop-i.invariant.few;
      built = pairs_none_row c.args.cols c.args.equations.now c.args.rows.now c.args.front c.args.rays.now.rows.items c.loop-i.i c.loop-i.made.rows.items c.loop-i.made.zeros.rows c.loop-i.invariant.built
          (far_ahead c.args.cols c.args.equations.now c.args.rows.now c.args.front c.args.rays.now.rows.items c.args.rays.now.zeros c.requires.table c.requires.equation_cols c.requires.row_cols c.args.values.now c.requires.stand c.args.rank c.requires.rank c.args.need c.requires.need c.args.unions.now.behind c.requires.behind c.loop-i.i few);
    }

pub pair_ray-requires-clause-second : goal.pair_ray-requires-clause-second
pair_ray-requires-clause-second c =
    let at = (goal.at.pair_ray-requires-clause-second c).After-index-rows-front in
    let row = row_here at in
    row.left.0.within

pub pair_ray-requires-clause-cols : goal.pair_ray-requires-clause-cols
pair_ray-requires-clause-cols c =
    let at = (goal.at.pair_ray-requires-clause-cols c).After-index-rows-front in
    let next = front_row at in
    rw next (front_cols c.args.cols c.args.equations.now c.args.rows.now c.args.front c.requires.within c.requires.row_cols c.args.rays.now.rows.items c.args.rays.now.zeros.rows c.requires.table)

pub pair_ray-requires-clause-stand : goal.pair_ray-requires-clause-stand
pair_ray-requires-clause-stand c =
    let at = (goal.at.pair_ray-requires-clause-stand c).After-index-rows-front in
    let next = front_row at in
    rw next c.requires.stand

pub pair_ray-requires-clause-up : goal.pair_ray-requires-clause-up
pair_ray-requires-clause-up c =
    let at = (goal.at.pair_ray-requires-clause-up c).After-index-rows-front in
    let next = front_row at in
    rw next (is_ahead at)

pub loop-k-init : goal.loop-k-init
loop-k-init c = record {
  both_len = c.loop-i.invariant.both_len;
  row_len = c.loop-i.invariant.row_len;
  few = c.loop-i.invariant.few;
  built = row_start c.args.cols c.args.equations.now c.args.rows.now c.args.front c.args.rays.now.rows.items c.args.values.now c.requires.stand c.loop-i.i (IsPassed c.args.rays.now.zeros c.args.values.now c.args.unions.now.ahead c.args.need)
      (far_behind c.args.cols c.args.equations.now c.args.rows.now c.args.front c.args.rays.now.rows.items c.args.rays.now.zeros c.requires.table c.requires.equation_cols c.requires.row_cols c.args.values.now c.requires.stand c.args.rank c.requires.rank c.args.need c.requires.need c.args.unions.now.ahead c.requires.ahead)
      c.args.negatives.now c.loop-i.made.rows.items c.loop-i.made.zeros.rows c.requires.negatives c.loop-i.invariant.built;
}

pub loop-k-preserved-in-None : goal.loop-k-preserved-in-None
loop-k-preserved-in-None c =
    let at = (goal.at.loop-k-preserved-in-None c).After-index-rows-front in
    let li : c.loop-i.i < length c.args.rays.now.rows.items = omega arith in
    let row = row_here at in
    let o : IsNoPair c.args.rays.now.zeros c.loop-i.i (get_or c.args.negatives.now c.loop-k.k 0) (c.args.rank - length c.args.equations.now - 2) = rw (c.in-None.is, c.requires.need) at c.in_ok-ray.ensures.none in
    let never = no_pair c.args.cols c.args.equations.now c.args.rows.now c.args.front c.requires.within c.args.rays.now.rows.items c.args.rays.now.zeros c.requires.table c.requires.equation_cols c.requires.row_cols c.requires.old_len c.loop-i.i (get_or c.args.negatives.now c.loop-k.k 0) li row.left.0.within c.args.rank c.requires.rank o in
    record {
      both_len = c.pair_ray.ensures.both ∙ c.loop-k.invariant.both_len;
      row_len = c.loop-k.invariant.row_len;
      few = c.loop-k.invariant.few;
      built = row_skip c.args.cols c.args.equations.now c.args.rows.now c.args.front c.args.rays.now.rows.items c.args.values.now c.requires.stand c.loop-i.i (get_or c.args.negatives.now c.loop-k.k 0) (drop (c.loop-k.k + 1) c.args.negatives.now) c.loop-k.made.rows.items c.loop-k.made.zeros.rows row never;
    }

pub loop-k-preserved : goal.loop-k-preserved
loop-k-preserved c =
    let at = (goal.at.loop-k-preserved c).After-index-rows-front in
    let next = front_row at in
    let row = row_here at in
    let p : IsPairRay (row_at c.args.rows.now c.args.front) c.args.rays.now.rows.items c.args.rays.now.zeros c.loop-i.i (get_or c.args.negatives.now c.loop-k.k 0) c.args.front c.in-Some.ray.row c.in-Some.ray.zeros = rw (c.in-Some.is, next) at c.in_ok-ray.ensures.some in
    let made = is_made at c.in-Some.ray.row c.in-Some.ray.zeros p in
    record {
      both_len = c.pair_ray.ensures.both ∙ c.loop-k.invariant.both_len;
      row_len = c.in_ok-add.ensures.row_len ∙ c.loop-k.invariant.row_len;
      few = let t = c.if-kept-len-gt-MOST_ROWS.false in let n = c.len.ensures in let whole = c.add.new.self.rows.ok.0 in omega arith;
      built = rw (c.in_ok-add.ensures.rows, c.in_ok-add.ensures.zeros) (row_more c.args.cols c.args.equations.now c.args.rows.now c.args.front c.args.rays.now.rows.items c.args.values.now c.requires.stand c.loop-i.i (get_or c.args.negatives.now c.loop-k.k 0) (drop (c.loop-k.k + 1) c.args.negatives.now) c.loop-k.made.rows.items c.loop-k.made.zeros.rows row c.in-Some.ray.row c.in-Some.ray.zeros made);
    }

pub loop-i-preserved : goal.loop-i-preserved
loop-i-preserved c =
    let last : length c.args.negatives.now ≤ c.loop-k.k = omega arith in
    record {
      both_len = c.loop-k.invariant.both_len;
      row_len = c.loop-k.invariant.row_len;
      few = c.loop-k.invariant.few;
      built = row_end c.args.cols c.args.equations.now c.args.rows.now c.args.front c.args.rays.now.rows.items c.args.values.now c.requires.stand c.loop-i.i c.args.negatives.now c.loop-k.k c.loop-k.made.rows.items c.loop-k.made.zeros.rows last c.loop-k.invariant.built;
    }

pub returns-clause-built : goal.returns-clause-built
returns-clause-built c =
    let last : length c.args.rays.now.rows.items ≤ c.loop-i.i = omega arith in
    pairs_all c.args.cols c.args.equations.now c.args.rows.now c.args.front c.args.rays.now.rows.items c.loop-i.i last c.loop-i.made.rows.items c.loop-i.made.zeros.rows c.loop-i.invariant.built

pub loop-i-init : goal.loop-i-init
loop-i-init c = record {
  both_len = c.in_ok-both.ensures.len;
  row_len = c.new-made.ensures.row_len;
  few = let f = kept_few c.args.values.now in let m = c.requires.stand.as_many in let l = c.requires.few in let e = c.count_kept-kept.ensures in rw c.new-made.ensures.rows (omega arith);
  built = rw (c.new-made.ensures.rows, c.new-made.ensures.zeros) (pairs_first c.args.cols c.args.equations.now c.args.rows.now c.args.front c.args.rays.now.rows.items);
}

pub returns-in_err-ray-clause-wide : goal.returns-in_err-ray-clause-wide
returns-in_err-ray-clause-wide c =
    let at = (goal.at.returns-in_err-ray-clause-wide c).After-index-rows-front in
    let next = front_row at in
    let li : c.loop-i.i < length c.args.rays.now.rows.items = omega arith in
    let up = is_ahead at in
    let row = row_here at in
    let down = is_behind at in
    let p = err_from_is_err_and c.from_residual-in_err-ray.result c.from_residual-in_err-ray.ensures.1 in
    rw (p.1, p.2) (pair_fail c.args.cols c.args.equations.now c.args.rows.now c.args.front c.args.rays.now.rows.items c.args.rays.now.zeros c.requires.table c.loop-i.i (get_or c.args.negatives.now c.loop-k.k 0) li row.left.0.within up down c.in_err-ray.field-0.0 (rw next at c.in_err-ray.ensures.wide))

pub returns-in_err-ray-clause-lost : goal.returns-in_err-ray-clause-lost
returns-in_err-ray-clause-lost c = λ e.
    let at = (goal.at.returns-in_err-ray-clause-lost c).After-index-rows-front in
    let next = front_row at in
    let li : c.loop-i.i < length c.args.rays.now.rows.items = omega arith in
    let up = is_ahead at in
    let row = row_here at in
    let down = is_behind at in
    let p = err_from_is_err_and c.from_residual-in_err-ray.result c.from_residual-in_err-ray.ensures.1 in
    rw (p.1, p.2) (pair_lost c.args.cols c.args.equations.now c.args.rows.now c.args.front c.args.rays.now.rows.items c.args.rays.now.zeros c.requires.table c.loop-i.i (get_or c.args.negatives.now c.loop-k.k 0) li row.left.0.within up down c.in_err-ray.field-0.0 (rw next at (c.in_err-ray.ensures.lost e)))

pub too_many-requires-clause-listed : goal.too_many-requires-clause-listed
too_many-requires-clause-listed c =
    let at = (goal.at.too_many-requires-clause-listed c).After-index-rows-front in
    let next = front_row at in
    let row = row_here at in
    let p : IsPairRay (row_at c.args.rows.now c.args.front) c.args.rays.now.rows.items c.args.rays.now.zeros c.loop-i.i (get_or c.args.negatives.now c.loop-k.k 0) c.args.front c.in-Some.ray.row c.in-Some.ray.zeros = rw (c.in-Some.is, next) at c.in_ok-ray.ensures.some in
    let made = is_made at c.in-Some.ray.row c.in-Some.ray.zeros p in
    let more = row_more c.args.cols c.args.equations.now c.args.rows.now c.args.front c.args.rays.now.rows.items c.args.values.now c.requires.stand c.loop-i.i (get_or c.args.negatives.now c.loop-k.k 0) (drop (c.loop-k.k + 1) c.args.negatives.now) c.loop-k.made.rows.items c.loop-k.made.zeros.rows row c.in-Some.ray.row c.in-Some.ray.zeros made in
    (c.loop-i.i, more.start, (c.add.new.self.zeros.rows, rw (c.in_ok-add.ensures.rows, c.in_ok-add.ensures.zeros) more.built))

pub returns-clause-few : goal.returns-clause-few
returns-clause-few c = rw (sym c.count_kept-kept.ensures) c.loop-i.invariant.few

pub pair_ray-requires-clause-as_many : goal.pair_ray-requires-clause-as_many
pair_ray-requires-clause-as_many c = sym c.requires.table.as_many

pub pair_ray-requires-clause-front : goal.pair_ray-requires-clause-front
pair_ray-requires-clause-front c = rw c.requires.old_len c.requires.within

pub pair_ray-requires-clause-both : goal.pair_ray-requires-clause-both
pair_ray-requires-clause-both c = c.loop-k.invariant.both_len ∙ sym c.requires.old_len

pub add-requires : goal.add-requires
add-requires c =
    let next = front_row (goal.at.add-requires c).After-index-rows-front in
    let p : IsPairRay (row_at c.args.rows.now c.args.front) c.args.rays.now.rows.items c.args.rays.now.zeros c.loop-i.i (get_or c.args.negatives.now c.loop-k.k 0) c.args.front c.in-Some.ray.row c.in-Some.ray.zeros = rw (c.in-Some.is, next) at c.in_ok-ray.ensures.some in
    p.zeros.as_many ∙ p.cols ∙ c.requires.old_len ∙ sym c.loop-k.invariant.row_len

pub too_many-requires-clause-many : goal.too_many-requires-clause-many
too_many-requires-clause-many c =
    let t = c.if-kept-len-gt-MOST_ROWS.true in
    let n = c.len.ensures in
    let whole = c.add.new.self.rows.ok.0 in
    let k = c.count_kept-kept.ensures in
    omega arith
