-- What is read is readable, and the builder's answer is by the row.
use Rattle.pm_making.proofs.Fits.{makes_if, product_fitting, readable, readable_fan, refinement_fitting, refinement_made, refinement_unbuilt, still_made, still_unbuilt, sum_fitting, sum_made, sum_unbuilt, unfit_if}
use Rattle.pm_making.proofs.making.build_two.Goals as goal

-- ---- the product
pub product-requires-clause-first : goal.product-requires-clause-first
product-requires-clause-first c = readable _ _ c.of-first.ensures.formed (rw c.in-Product.is at c.requires.first)

pub product-requires-clause-second : goal.product-requires-clause-second
product-requires-clause-second c = readable _ _ c.of-second.ensures.formed (rw c.in-Product.is at c.requires.second)

pub returns-in-Product-clause-made : goal.returns-in-Product-clause-made
returns-in-Product-clause-made c = rw (c.of_built.ensures, c.in-Product.is) (still_made c.product.result _ (makes_if c.product.result _ _ c.product.ensures.built c.product.ensures.fits))

pub returns-in-Product-clause-fitting : goal.returns-in-Product-clause-fitting
returns-in-Product-clause-fitting c =
    rw c.of_built.ensures (product_fitting c.args.a.now.state c.args.b.now.state c.product.result c.of-first.ensures.formed c.of-second.ensures.formed (rw c.in-Product.is at c.requires.first) (rw c.in-Product.is at c.requires.second)
    (makes_if c.product.result _ _ c.product.ensures.built c.product.ensures.fits))

pub returns-in-Product-clause-unbuilt : goal.returns-in-Product-clause-unbuilt
returns-in-Product-clause-unbuilt c = rw (c.of_built.ensures, c.in-Product.is) (still_unbuilt c.product.result _ _ (unfit_if c.product.result _ c.product.ensures.refused))

-- ---- the sum
pub minkowski-requires-clause-first : goal.minkowski-requires-clause-first
minkowski-requires-clause-first c = readable _ _ c.of-first.ensures.formed (rw c.in-Minkowski.is at c.requires.first)

pub minkowski-requires-clause-second : goal.minkowski-requires-clause-second
minkowski-requires-clause-second c = readable _ _ c.of-second.ensures.formed (rw c.in-Minkowski.is at c.requires.second)

pub returns-in-Minkowski-clause-made : goal.returns-in-Minkowski-clause-made
returns-in-Minkowski-clause-made c = rw (c.of_sum.ensures, c.in-Minkowski.is) (sum_made c.args.a.now.state c.args.b.now.state c.minkowski.result c.minkowski.ensures.built c.minkowski.ensures.fits)

pub returns-in-Minkowski-clause-fitting : goal.returns-in-Minkowski-clause-fitting
returns-in-Minkowski-clause-fitting c =
    rw c.of_sum.ensures (sum_fitting c.args.a.now.state c.args.b.now.state c.minkowski.result c.of-first.ensures.formed c.of-second.ensures.formed (rw c.in-Minkowski.is at c.requires.first) (rw c.in-Minkowski.is at c.requires.second)
    c.minkowski.ensures.built c.minkowski.ensures.fits)

pub returns-in-Minkowski-clause-unbuilt : goal.returns-in-Minkowski-clause-unbuilt
returns-in-Minkowski-clause-unbuilt c = rw (c.of_sum.ensures, c.in-Minkowski.is) (sum_unbuilt c.args.a.now.state c.args.b.now.state c.minkowski.result c.minkowski.ensures.refused)

-- ---- the refinement
pub refine-requires-clause-first : goal.refine-requires-clause-first
refine-requires-clause-first c = readable_fan _ c.of-first.ensures.formed (rw c.in-Refine.is at c.requires.first)

pub refine-requires-clause-second : goal.refine-requires-clause-second
refine-requires-clause-second c = readable_fan _ c.of-second.ensures.formed (rw c.in-Refine.is at c.requires.second)

pub returns-in-Refine-clause-made : goal.returns-in-Refine-clause-made
returns-in-Refine-clause-made c = rw (c.of_refinement.ensures, c.in-Refine.is) (refinement_made c.args.a.now.state c.args.b.now.state c.refine.result c.refine.ensures.built c.refine.ensures.fits)

pub returns-in-Refine-clause-fitting : goal.returns-in-Refine-clause-fitting
returns-in-Refine-clause-fitting c = rw c.of_refinement.ensures (refinement_fitting c.args.a.now.state c.args.b.now.state c.refine.result c.refine.ensures.built c.refine.ensures.forms)

pub returns-in-Refine-clause-unbuilt : goal.returns-in-Refine-clause-unbuilt
returns-in-Refine-clause-unbuilt c = rw (c.of_refinement.ensures, c.in-Refine.is) (refinement_unbuilt c.args.a.now.state c.args.b.now.state c.refine.result c.refine.ensures.refused)
