-- A part fits, and what is left decides; or it does not.
use Rattle.std.proofs.Common.{List, ap, drop, map, sym, ◌+◌, ◌∙◌, ◌&&◌}
use Rattle.pm_filing.proofs.SiteTurns.{part_and_others}
use Rattle.pm_filing.proofs.TestTurns.{next_seen}
use Rattle.pm_filing.specs.FileParts.{Part}
use Rattle.pm_filing.specs.FileReadings.{fits_sites, named_values}
use Rattle.pm_filing.specs.ReadingViews.{part_seen}
use Rattle.pm_types.specs.Views.{view_of}
use Rattle.pm_filing.proofs.tests_of_parts.fits_sites.Goals as goal

pub loop-part-preserved : goal.loop-part-preserved
loop-part-preserved c =
    let of = c.args.of in
    let v = view_of c.args.v.now in
    let later = map part_seen (drop (c.loop-part.part-index + 1) c.args.tied.now) in
    let step = next_seen part_seen c.args.tied.now c.loop-part.part-index c.part-item.result c.loop-part-test.true c.part-item.is in
    c.loop-part.invariant
    ∙ ap (λ (ps : List Part). fits_sites (named_values of ps) c.args.p v) step
    ∙ part_and_others of (part_seen c.part-item.result) later c.args.p v
    ∙ ap (λ b. b && fits_sites (named_values of later) c.args.p v) (sym c.fits_part.ensures ∙ c.if-not-fits_part.false)

pub returns-then-not-fits_part : goal.returns-then-not-fits_part
returns-then-not-fits_part c =
    let of = c.args.of in
    let v = view_of c.args.v.now in
    let later = map part_seen (drop (c.loop-part.part-index + 1) c.args.tied.now) in
    let step = next_seen part_seen c.args.tied.now c.loop-part.part-index c.part-item.result c.loop-part-test.true c.part-item.is in
    sym (c.loop-part.invariant
    ∙ ap (λ (ps : List Part). fits_sites (named_values of ps) c.args.p v) step
    ∙ part_and_others of (part_seen c.part-item.result) later c.args.p v
    ∙ ap (λ b. b && fits_sites (named_values of later) c.args.p v) (sym c.fits_part.ensures ∙ c.if-not-fits_part.true))
