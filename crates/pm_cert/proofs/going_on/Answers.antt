use Rattle.std.proofs.Common.{◌≡◌, Some, length, refl, arith}
use Rattle.std.specs.Prelude.{slice_get}
use Rattle.std.proofs.lemmas.Option.{slice_get_read}
use Rattle.pm_cert.specs.Claims.{GoesOn}
use Rattle.pm_cert.proofs.Standing.{up_to_more}
use Rattle.pm_cert.proofs.going_on.Goals as goal

pub loop-i-preserved : goal.loop-i-preserved
loop-i-preserved c =
    let rows = c.args.rows.now in
    let item = c.index-rows-i.result in
    let there : slice_get rows c.loop-i.i ≡ Some item = slice_get_read rows (length rows) c.loop-i.i item refl (omega (arith, c.requires.some, c.loop-i-test.true)) c.index-rows-i.is in
    up_to_more (GoesOn rows c.args.c c.args.step.now c.args.weight) rows c.loop-i.i item there (c.goes_on.ensures.0 c.if-not-goes_on.false) c.loop-i.invariant
