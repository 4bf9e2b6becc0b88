use Rattle.pm_incidence.proofs.Described.{if_ok, units_echelon}
use Rattle.pm_object_type.specs.declared.object_type.ObjectType.TheVariants.{Polytope}
use Rattle.pm_redund.proofs.HalfSpaces.{facets_of, last_marked, many_facets, no_facets}
use Rattle.pm_redund.proofs.Refusals.{if_err, rows_of_halves}
use Rattle.pm_redund.proofs.halves.thin_rows.Goals as goal
use Rattle.pm_redund.proofs.halves.thin_rows.Goals.{else-eq-via-then-eq+else-is_last_marked, else-eq-via-else-eq}
use Rattle.pm_redund.specs.Redundancy.{LeavesNoPoint}
use Rattle.std.proofs.Common.{false, rules, true, ◌≡◌, ◌≢◌}
use Rattle.std.specs.List.{range_with_len}

pub returns-then-is_last_marked-clause-facets : goal.returns-then-is_last_marked-clause-facets
returns-then-is_last_marked-clause-facets c = λ G L hG hL cut.
    let polytope : c.args.of ≡ Polytope = search rules in
    let marked = rw (c.deref.ensures.value, c.in_ok-halves.ensures) at c.in_ok-lines.ensures.marked in
    let last = rw c.deref-then-eq.ensures.value at (c.is_last_marked.ensures.0 c.if-is_last_marked.true) in
    let none = (last_marked c.args.cols c.requires.some_columns c.args.rows.now c.args.equations.now c.requires.row_cols c.requires.equation_cols c.args.of c.in_ok-lines.lines.marks.items polytope marked).0 last in
    rw (c.new.ensures.items, c.in_ok-unit_rows.ensures) (no_facets c.args.cols c.requires.some_columns c.args.rows.now c.args.equations.now c.requires.row_cols c.requires.equation_cols c.args.of (polytope, none) G L cut)

pub returns-then-is_last_marked-clause-echelon : goal.returns-then-is_last_marked-clause-echelon
returns-then-is_last_marked-clause-echelon c = (range_with_len 0 c.args.cols, rw c.in_ok-unit_rows.ensures (units_echelon c.args.cols))

pub returns-clause-facets : goal.returns-clause-facets
returns-clause-facets c =
    let marked = rw (c.deref.ensures.value, c.in_ok-halves.ensures) at c.in_ok-lines.ensures.marked in
    let point : ¬ (LeavesNoPoint c.args.of c.args.cols c.args.rows.now c.args.equations.now) = λ h. elim c.else-eq.branch [
      | else-eq-via-then-eq+else-is_last_marked w ↦
          let last = (last_marked c.args.cols c.requires.some_columns c.args.rows.now c.args.equations.now c.requires.row_cols c.requires.equation_cols c.args.of c.in_ok-lines.lines.marks.items h.0 marked).1 h.1 in
          let e : false ≡ true = rw w.if-is_last_marked.false at (w.is_last_marked.ensures.1 (rw w.deref-then-eq.ensures.value last)) in
          cc
      | else-eq-via-else-eq w ↦ let never : c.args.of ≢ Polytope = search rules in never h.0
    ] in
    if_ok c.thin_halves.result
    (λ f g G L hG hL cut. facets_of c.args.cols c.requires.some_columns c.args.rows.now c.args.equations.now c.requires.row_cols c.requires.equation_cols G L hG hL c.args.of point cut f.facets.items f.hull.items g)
    (rw (c.deref-2.ensures.value, c.in_ok-halves.ensures) at c.thin_halves.ensures.generators)

pub returns-clause-failed : goal.returns-clause-failed
returns-clause-failed c =
    let marked = rw (c.deref.ensures.value, c.in_ok-halves.ensures) at c.in_ok-lines.ensures.marked in
    let point : ¬ (LeavesNoPoint c.args.of c.args.cols c.args.rows.now c.args.equations.now) = λ h. elim c.else-eq.branch [
      | else-eq-via-then-eq+else-is_last_marked w ↦
          let last = (last_marked c.args.cols c.requires.some_columns c.args.rows.now c.args.equations.now c.requires.row_cols c.requires.equation_cols c.args.of c.in_ok-lines.lines.marks.items h.0 marked).1 h.1 in
          let e : false ≡ true = rw w.if-is_last_marked.false at (w.is_last_marked.ensures.1 (rw w.deref-then-eq.ensures.value last)) in
          cc
      | else-eq-via-else-eq w ↦ let never : c.args.of ≢ Polytope = search rules in never h.0
    ] in
    if_err c.thin_halves.result
    (rows_of_halves c.args.of c.args.cols c.args.rows.now c.args.equations.now (many_facets c.args.cols c.requires.some_columns c.args.rows.now c.args.equations.now c.requires.row_cols c.requires.equation_cols c.args.of point))
    (rw (c.deref-2.ensures.value, c.in_ok-halves.ensures) at c.thin_halves.ensures.failed)
