-- A turn puts in the part that the row opens, if it opens one.
use Rattle.pm_lattice.proofs.Opening.{Opening, opening_end, opening_more, opening_passed, opening_start}
use Rattle.pm_lattice.proofs.closure.open_parts.Goals as goal
use Rattle.pm_lattice.proofs.closure.open_parts.Goals.{then-opens+in_ok-next+in_ok-insert, else-opens}
use Rattle.std.proofs.Common.{ap, arith, length, refl, subst, sym, true, ◌+◌, ◌∙◌, ◌≡◌}
use Rattle.std.specs.BTreeMap.{keys}

pub loop-place-init : goal.loop-place-init
loop-place-init c = record {
  part_len = c.requires.part_len;
  opening = opening_start c.args.rows.now c.args.face.now c.args.pending.now.entries c.args.from c.requires.from c.requires.open;
}

pub loop-place-preserved : goal.loop-place-preserved
loop-place-preserved c =
    let old = c.loop-place.pending.entries in
    elim c.if-opens.branch [
      | then-opens+in_ok-next+in_ok-insert w ↦ record {
        part_len = ap length w.part-is ∙ ap length w.replace.ensures.after ∙ w.in_ok-next.ensures.len ∙ w.len.ensures ∙ c.requires.face_len;
        opening = opening_more c.args.rows.now c.args.face.now (keys c.args.pending.now) old c.loop-place.place c.loop-place.invariant.opening
            c.opens.new.part c.if-opens.pending.entries (c.opens.ensures.opened w.if-opens.true)
            (ap (λ p. p.entries) w.pending-is ∙ (rw w.replace.ensures.value at w.in_ok-insert.ensures.entries));
      }
      | else-opens w ↦ record {
        part_len = ap length w.part-is ∙ c.opens.ensures.part_len;
        opening = subst (λ p. Opening c.args.rows.now c.args.face.now (keys c.args.pending.now) p.entries (c.loop-place.place + 1)) (sym w.pending-is)
            (opening_passed c.args.rows.now c.args.face.now (keys c.args.pending.now) old c.loop-place.place c.loop-place.invariant.opening
            (λ o. let t : c.opens.result ≡ true = c.opens.ensures.passed o in let f = w.if-opens.false in cc));
      }
    ]

pub returns-clause-opens : goal.returns-clause-opens
returns-clause-opens c = opening_end c.args.rows.now c.args.face.now (keys c.args.pending.now) c.loop-place.pending.entries c.loop-place.place (omega (arith, c.len-place-end.ensures)) c.loop-place.invariant.opening
