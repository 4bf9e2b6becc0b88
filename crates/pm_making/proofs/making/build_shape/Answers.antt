-- The values fit by the laws of standard polytopes.
use Rattle.pm_command.specs.Commands.{cross_shape, cube_shape, cyclic_shape, simplex_shape}
use Rattle.pm_making.proofs.Fits.{built_shape_fits}
use Rattle.pm_making.proofs.making.build_shape.Goals as goal

pub returns-in-Cube-clause-fitting : goal.returns-in-Cube-clause-fitting
returns-in-Cube-clause-fitting c = built_shape_fits (cube_shape c.in-Cube.d) c.cube.result c.cube.ensures.built c.cube.ensures.fits

pub returns-in-Simplex-clause-fitting : goal.returns-in-Simplex-clause-fitting
returns-in-Simplex-clause-fitting c = built_shape_fits (simplex_shape c.in-Simplex.d) c.simplex.result c.simplex.ensures.built c.simplex.ensures.fits

pub returns-in-Cross-clause-fitting : goal.returns-in-Cross-clause-fitting
returns-in-Cross-clause-fitting c = built_shape_fits (cross_shape c.in-Cross.d) c.cross.result c.cross.ensures.built c.cross.ensures.fits

pub returns-in-Cyclic-clause-fitting : goal.returns-in-Cyclic-clause-fitting
returns-in-Cyclic-clause-fitting c = built_shape_fits (cyclic_shape c.in-Cyclic.d c.in-Cyclic.n) c.cyclic.result c.cyclic.ensures.built c.cyclic.ensures.fits
