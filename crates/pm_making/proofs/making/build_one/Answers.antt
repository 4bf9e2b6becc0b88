-- What is read is readable, and the builder's answer is by the row.
use Rattle.pm_command.specs.declared.building.Unary.TheVariants.{FaceFan, NormalFan, Polar, Pyramid}
use Rattle.pm_making.proofs.Fits.{built_one_fits, makes_if, readable, unfit_if}
use Rattle.pm_making.proofs.making.build_one.Goals as goal

pub polar-requires : goal.polar-requires
polar-requires c = readable _ _ c.of-of.ensures.formed (rw c.in-Polar.is at c.requires)

pub returns-in-Polar-clause-made : goal.returns-in-Polar-clause-made
returns-in-Polar-clause-made c = rw c.in-Polar.is (makes_if c.polar.result _ _ c.polar.ensures.built c.polar.ensures.fits)

pub returns-in-Polar-clause-fitting : goal.returns-in-Polar-clause-fitting
returns-in-Polar-clause-fitting c =
    built_one_fits Polar c.args.object.now.state c.polar.result c.of-of.ensures.formed (rw c.in-Polar.is at c.requires) (makes_if c.polar.result _ _ c.polar.ensures.built c.polar.ensures.fits)

pub returns-in-Polar-clause-unfit : goal.returns-in-Polar-clause-unfit
returns-in-Polar-clause-unfit c = rw c.in-Polar.is (unfit_if c.polar.result _ c.polar.ensures.refused)

pub pyramid-requires : goal.pyramid-requires
pyramid-requires c = readable _ _ c.of-of.ensures.formed (rw c.in-Pyramid.is at c.requires)

pub returns-in-Pyramid-clause-made : goal.returns-in-Pyramid-clause-made
returns-in-Pyramid-clause-made c = rw c.in-Pyramid.is (makes_if c.pyramid.result _ _ c.pyramid.ensures.built c.pyramid.ensures.fits)

pub returns-in-Pyramid-clause-fitting : goal.returns-in-Pyramid-clause-fitting
returns-in-Pyramid-clause-fitting c =
    built_one_fits Pyramid c.args.object.now.state c.pyramid.result c.of-of.ensures.formed (rw c.in-Pyramid.is at c.requires) (makes_if c.pyramid.result _ _ c.pyramid.ensures.built c.pyramid.ensures.fits)

pub returns-in-Pyramid-clause-unfit : goal.returns-in-Pyramid-clause-unfit
returns-in-Pyramid-clause-unfit c = rw c.in-Pyramid.is (unfit_if c.pyramid.result _ c.pyramid.ensures.refused)

pub normal_fan-requires : goal.normal_fan-requires
normal_fan-requires c = readable _ _ c.of-of.ensures.formed (rw c.in-NormalFan.is at c.requires)

pub returns-in-NormalFan-clause-made : goal.returns-in-NormalFan-clause-made
returns-in-NormalFan-clause-made c = rw c.in-NormalFan.is (makes_if c.normal_fan.result _ _ c.normal_fan.ensures.built c.normal_fan.ensures.fits)

pub returns-in-NormalFan-clause-fitting : goal.returns-in-NormalFan-clause-fitting
returns-in-NormalFan-clause-fitting c =
    built_one_fits NormalFan c.args.object.now.state c.normal_fan.result c.of-of.ensures.formed (rw c.in-NormalFan.is at c.requires) (makes_if c.normal_fan.result _ _ c.normal_fan.ensures.built c.normal_fan.ensures.fits)

pub returns-in-NormalFan-clause-unfit : goal.returns-in-NormalFan-clause-unfit
returns-in-NormalFan-clause-unfit c = rw c.in-NormalFan.is (unfit_if c.normal_fan.result _ c.normal_fan.ensures.refused)

pub face_fan-requires : goal.face_fan-requires
face_fan-requires c = readable _ _ c.of-of.ensures.formed (rw c.in-FaceFan.is at c.requires)

pub returns-in-FaceFan-clause-made : goal.returns-in-FaceFan-clause-made
returns-in-FaceFan-clause-made c = rw c.in-FaceFan.is (makes_if c.face_fan.result _ _ c.face_fan.ensures.built c.face_fan.ensures.fits)

pub returns-in-FaceFan-clause-fitting : goal.returns-in-FaceFan-clause-fitting
returns-in-FaceFan-clause-fitting c =
    built_one_fits FaceFan c.args.object.now.state c.face_fan.result c.of-of.ensures.formed (rw c.in-FaceFan.is at c.requires) (makes_if c.face_fan.result _ _ c.face_fan.ensures.built c.face_fan.ensures.fits)

pub returns-in-FaceFan-clause-unfit : goal.returns-in-FaceFan-clause-unfit
returns-in-FaceFan-clause-unfit c = rw c.in-FaceFan.is (unfit_if c.face_fan.result _ c.face_fan.ensures.refused)
