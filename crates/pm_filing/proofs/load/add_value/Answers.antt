-- The value agrees with what is held.
use Rattle.pm_vector.proofs.Lists.{Contains_among}
use Rattle.pm_filing.proofs.Fitting.{agrees_now}
use Rattle.pm_types.specs.Views.{view_of}
use Rattle.pm_filing.proofs.load.add_value.Goals as goal

pub add_stored-requires-clause-columns : goal.add_stored-requires-clause-columns
add_stored-requires-clause-columns c =
    let (n, fits, held) = c.requires.suits in
    agrees_now c.args.object.now.state.of n c.args.object.now.state.held c.args.p (view_of c.args.v) (λ h i. held h (Contains_among i)) fits

pub add_given-requires-clause-columns : goal.add_given-requires-clause-columns
add_given-requires-clause-columns c =
    let (n, fits, held) = c.requires.suits in
    agrees_now c.args.object.now.state.of n c.args.object.now.state.held c.args.p (view_of c.args.v) (λ h i. held h (Contains_among i)) fits
