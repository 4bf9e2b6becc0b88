use Rattle.std.proofs.Common.{ap, rules, ◌∙◌, ◌≡◌}
use Rattle.pm_object.proofs.Names.{names_held}
use Rattle.pm_object.specs.State.{names_of, read_at}
use Rattle.pm_props.specs.Sets.{has}
use Rattle.pm_object.proofs.object.Object.names.Goals as goal

pub returns-clause-members : goal.returns-clause-members
returns-clause-members c =
    let is : c.names_of.result ≡ names_of (read_at c.args.sub c.args.self.now.state.held) = search rules in
    λ p. ap (λ s. has s p) is ∙ names_held (read_at c.args.sub c.args.self.now.state.held) p
