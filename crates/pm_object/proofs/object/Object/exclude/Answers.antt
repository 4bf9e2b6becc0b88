use Rattle.std.proofs.Common.{rules, subst, sym, ◌≡◌, ◌++◌, ◌∷◌, []}
use Rattle.pm_object.proofs.Formed.{formed_excluded}
use Rattle.pm_object.specs.Formed.{IsFormed}
use Rattle.pm_object.specs.State.{State}
use Rattle.pm_object.specs.Views.{held_seen, round_seen}
use Rattle.pm_object.specs.declared.held.Excluded.{Excluded}
use Rattle.std.specs.Prelude.{List, map, string_bytes}
use Rattle.pm_object.proofs.object.Object.exclude.Goals as goal

pub invariant_of-self-2 : goal.invariant_of-self-2
invariant_of-self-2 c =
    let all : c.push.new.self.items ≡ c.self.inside.excluded.items ++ c.args.e ∷ [] = search rules in
    rw all (formed_excluded _ c.args.e c.self.invariant c.requires.numbered)
