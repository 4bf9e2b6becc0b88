use Rattle.pm_geom.specs.FaceCounts.{inner}
use Rattle.pm_graph.proofs.TableRows.{AreCountsOf, count_is, is_triangle, matrix_is, row_more}
use Rattle.pm_graph.proofs.inclusions.f2_vector.Goals as goal
use Rattle.pm_graph.specs.Counts.{IsTriangle, lower_counts, mirrored, whole}
use Rattle.pm_types.specs.Lists.{lists_of}
use Rattle.std.proofs.Common.{ap, arith, length, map, subst, sym, ◌≡◌, ◌∙◌}
use Rattle.std.proofs.lemmas.List.{length-map}
use Rattle.std.proofs.lemmas.List.FromFn.{length-map-range_with_len}
use Rattle.std.specs.List.{range_with_len}

pub table_row-requires-clause-within : goal.table_row-requires-clause-within
table_row-requires-clause-within c =
    let v : AreCountsOf (map lists_of c.inner_ranks-ranks.result.now) (map (λ row. row.items) c.in_ok-counts.counts.items) = record { rows_are = c.in_ok-counts.ensures.counts ∙ ap (λ n. map (lower_counts (map lists_of c.inner_ranks-ranks.result.now)) (range_with_len 0 n)) (sym (length-map c.inner_ranks-ranks.result.now lists_of)); small = c.in_ok-counts.ensures.small } in
    let a = count_is (map lists_of c.inner_ranks-ranks.result.now) (map (λ row. row.items) c.in_ok-counts.counts.items) v in
    let b = length-map c.in_ok-counts.counts.items (λ row. row.items) in
    let d = length-map c.inner_ranks-ranks.result.now lists_of in
    let e = ap length c.deref.ensures.value in
    let l = c.loop-i-test.true in
    omega arith

pub table_row-requires-clause-triangle : goal.table_row-requires-clause-triangle
table_row-requires-clause-triangle c =
    let v : AreCountsOf (map lists_of c.inner_ranks-ranks.result.now) (map (λ row. row.items) c.in_ok-counts.counts.items) = record { rows_are = c.in_ok-counts.ensures.counts ∙ ap (λ n. map (lower_counts (map lists_of c.inner_ranks-ranks.result.now)) (range_with_len 0 n)) (sym (length-map c.inner_ranks-ranks.result.now lists_of)); small = c.in_ok-counts.ensures.small } in
    subst (λ xs. IsTriangle (map (λ row. row.items) xs)) (sym c.deref.ensures.value) (is_triangle (map lists_of c.inner_ranks-ranks.result.now) (map (λ row. row.items) c.in_ok-counts.counts.items) v)

pub push_row-requires : goal.push_row-requires
push_row-requires c =
    let v : AreCountsOf (map lists_of c.inner_ranks-ranks.result.now) (map (λ row. row.items) c.in_ok-counts.counts.items) = record { rows_are = c.in_ok-counts.ensures.counts ∙ ap (λ n. map (lower_counts (map lists_of c.inner_ranks-ranks.result.now)) (range_with_len 0 n)) (sym (length-map c.inner_ranks-ranks.result.now lists_of)); small = c.in_ok-counts.ensures.small } in
    let a = count_is (map lists_of c.inner_ranks-ranks.result.now) (map (λ row. row.items) c.in_ok-counts.counts.items) v in
    let b = length-map c.in_ok-counts.counts.items (λ row. row.items) in
    let d = length-map c.inner_ranks-ranks.result.now lists_of in
    let e = ap length c.deref.ensures.value in
    let n : length c.deref.result.now ≡ length c.inner_ranks-ranks.result.now = omega arith in
    let m = c.loop-i.invariant.cols in
    ap length (c.deref-in-loop-i.ensures.value ∙ c.in_ok-row.ensures) ∙ length-map-range_with_len (λ k. whole (mirrored (map (λ row. row.items) c.deref.result.now) c.loop-i.i k)) 0 (length c.deref.result.now) ∙ n ∙ sym m

pub loop-i-preserved : goal.loop-i-preserved
loop-i-preserved c =
    let v : AreCountsOf (map lists_of c.inner_ranks-ranks.result.now) (map (λ row. row.items) c.in_ok-counts.counts.items) = record { rows_are = c.in_ok-counts.ensures.counts ∙ ap (λ n. map (lower_counts (map lists_of c.inner_ranks-ranks.result.now)) (range_with_len 0 n)) (sym (length-map c.inner_ranks-ranks.result.now lists_of)); small = c.in_ok-counts.ensures.small } in
    let a = count_is (map lists_of c.inner_ranks-ranks.result.now) (map (λ row. row.items) c.in_ok-counts.counts.items) v in
    let b = length-map c.in_ok-counts.counts.items (λ row. row.items) in
    let d = length-map c.inner_ranks-ranks.result.now lists_of in
    let e = ap length c.deref.ensures.value in
    let n : length c.deref.result.now ≡ length c.inner_ranks-ranks.result.now = omega arith in
    record {
      cols = c.in_ok-push_row.ensures.cols ∙ c.loop-i.invariant.cols;
      rows = row_more (map (λ row. row.items) c.in_ok-counts.counts.items) (length c.inner_ranks-ranks.result.now) (length c.deref.result.now) c.loop-i.i c.loop-i.matrix.rows c.push_row.new.matrix.rows c.in_ok-row.row.items c.deref-in-loop-i.result.now n c.deref-in-loop-i.ensures.value (c.in_ok-row.ensures ∙ ap (λ xs. map (λ k. whole (mirrored (map (λ row. row.items) xs) c.loop-i.i k)) (range_with_len 0 (length c.deref.result.now))) c.deref.ensures.value) c.in_ok-push_row.ensures.rows c.loop-i.invariant.rows;
    }

pub returns : goal.returns
returns c =
    let v : AreCountsOf (map lists_of c.inner_ranks-ranks.result.now) (map (λ row. row.items) c.in_ok-counts.counts.items) = record { rows_are = c.in_ok-counts.ensures.counts ∙ ap (λ n. map (lower_counts (map lists_of c.inner_ranks-ranks.result.now)) (range_with_len 0 n)) (sym (length-map c.inner_ranks-ranks.result.now lists_of)); small = c.in_ok-counts.ensures.small } in
    let q = c.inner_ranks-ranks.ensures ∙ ap inner c.ranks.ensures in
    let w = subst (λ ls. AreCountsOf ls (map (λ row. row.items) c.in_ok-counts.counts.items)) q v in
    matrix_is c.args.l.now (map (λ row. row.items) c.in_ok-counts.counts.items) w c.loop-i.matrix (length c.inner_ranks-ranks.result.now) c.loop-i.i (sym (length-map c.inner_ranks-ranks.result.now lists_of) ∙ ap length q) (omega arith) c.loop-i.invariant.cols c.loop-i.invariant.rows
