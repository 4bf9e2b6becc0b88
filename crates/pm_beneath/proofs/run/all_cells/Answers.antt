use Rattle.pm_beneath.proofs.FrontLaws.{few_first, first_ascending, next_same, run_more, run_start}
use Rattle.pm_beneath.proofs.RunOutcomes.{crowd_fail}
use Rattle.std.proofs.lemmas.Result.{err_from_is_err_and}
use Rattle.pm_beneath.proofs.run.all_cells.Goals as goal
use Rattle.pm_beneath.specs.Runs.{below}
use Rattle.pm_geom.specs.Graphs.{IsAscending}
use Rattle.std.proofs.Common.{All, arith, length, map, subst, ◌≡◌, ℕ}

pub loop-front-init : goal.loop-front-init
loop-front-init c = record {
  from = omega arith;
  row_len = c.requires.row_len;
  few = c.requires.few;
  few_cells = few_first (λ s. s.items) c.in_ok-cells.cells.items (below c.args.start) c.in_ok-cells.ensures;
  reduced = c.requires.reduced;
  table = c.requires.table;
  ascending = first_ascending c.args.start (map (λ s. s.items) c.in_ok-cells.cells.items) c.in_ok-cells.ensures;
  run = run_start c.args.cols c.args.equations.now c.args.rows.now c.args.start (map (λ s. s.items) c.in_ok-cells.cells.items) c.in_ok-cells.ensures;
}

pub next_front-requires-clause-cells : goal.next_front-requires-clause-cells
next_front-requires-clause-cells c = rw c.deref.ensures.value c.loop-front.invariant.ascending

pub returns-in_err-few-clause-fail : goal.returns-in_err-few-clause-fail
returns-in_err-few-clause-fail c =
    let next = rw c.deref.ensures.value at c.in_ok-next.ensures.cells in
    let p = err_from_is_err_and c.from_residual-in_err-few.result c.from_residual-in_err-few.ensures.1 in
    rw (p.1, p.2) (crowd_fail c.args.cols c.args.equations.now c.args.rows.now c.args.start c.loop-front.front c.loop-front.rays.rows.items (map (λ s. s.items) c.loop-front.cells.items) (map (λ s. s.items) c.in_ok-next.next.cells.items) c.in_err-few.field-0.0 c.loop-front-test.true c.loop-front.invariant.run
    c.loop-front.invariant.table.order next c.in_err-few.ensures.crowd)

pub loop-front-preserved : goal.loop-front-preserved
loop-front-preserved c =
    let all = rw c.deref.ensures.value at c.in_ok-next.ensures.cells in
    let next = next_same c.args.rows.now c.loop-front.rays.rows.items c.loop-front.front (map (λ s. s.items) c.loop-front.cells.items) (map (λ s. s.items) c.in_ok-next.next.cells.items) (map (λ s. s.items) c.in_ok-few.few.items) c.in_ok-few.ensures.same all in
    record {
      from = (let a = c.loop-front.invariant.from in omega arith);
      row_len = c.in_ok-next.ensures.row_len;
      few = c.in_ok-next.ensures.few;
      few_cells = c.in_ok-few.ensures.few;
      reduced = c.in_ok-next.ensures.reduced;
      table = c.in_ok-next.ensures.table;
      ascending = next.ascending;
      run = run_more c.args.cols c.args.equations.now c.args.rows.now c.args.start c.loop-front.front c.loop-front.rays.rows.items (map (λ s. s.items) c.loop-front.cells.items) (map (λ s. s.items) c.in_ok-few.few.items) c.loop-front.invariant.run c.loop-front.invariant.table.order next;
    }

pub returns-clause-ascending : goal.returns-clause-ascending
returns-clause-ascending c =
    let e : c.loop-front.front ≡ length c.args.rows.now = (let a = c.loop-front-test.false in let b = c.loop-front.invariant.table.within in omega arith) in
    subst (λ (k : ℕ). All (IsAscending k) (map (λ s. s.items) c.loop-front.cells.items)) e c.loop-front.invariant.ascending
