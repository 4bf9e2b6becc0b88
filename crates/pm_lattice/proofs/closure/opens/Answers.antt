-- What the row and the face share is the part that is opened.
use Rattle.pm_bits.specs.Sets.{IsIntersection, IsSubset}
use Rattle.pm_lattice.proofs.Parts.{first_opened, part_opened}
use Rattle.pm_lattice.proofs.closure.opens.Goals as goal
use Rattle.std.proofs.Common.{subst, sym, true, ◌∙◌, ◌≡◌}

pub returns-clause-opened : goal.returns-clause-opened
returns-clause-opened c t =
    let same = c.row-row.ensures.value in
    part_opened c.args.rows.now c.args.face.now c.meet_into.new.out c.args.place
    (subst (λ r. IsIntersection c.meet_into.new.out r c.args.face.now) same c.meet_into.ensures.members)
    c.requires.place c.requires.face_len (c.meet_into.ensures.len ∙ c.requires.part_len)
    (λ s. let u : c.contains.result ≡ true = c.contains.ensures.1 (subst (λ r. IsSubset c.args.face.now r) (sym same) s) in let f = c.if-contains.false in cc)
    (c.implies.ensures.0 t)
