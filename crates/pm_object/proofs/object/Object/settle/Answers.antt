use Rattle.std.proofs.Common.{rules, refl, ◌≡◌, ◌++◌}
use Rattle.pm_object.proofs.Settling.{formed_settled, settled_dimension_of}
use Rattle.pm_object.specs.Views.{held_seen}
use Rattle.pm_object.proofs.object.Object.settle.Goals as goal

pub invariant_of-self-2 : goal.invariant_of-self-2
invariant_of-self-2 c =
    let all : c.append.new.self.items ≡ c.self.inside.held.items ++ c.in_ok-more.more.items = search rules in
    formed_settled _ held_seen c.self.inside.held.items c.in_ok-more.more.items c.append.new.self.items refl all (search rules) c.self.invariant

pub returns-clause-dimension : goal.returns-clause-dimension
returns-clause-dimension c =
    let all : c.append.new.self.items ≡ c.self.inside.held.items ++ c.in_ok-more.more.items = search rules in
    settled_dimension_of _ held_seen c.self.inside.held.items c.in_ok-more.more.items c.append.new.self.items refl all (search rules) c.self.invariant
