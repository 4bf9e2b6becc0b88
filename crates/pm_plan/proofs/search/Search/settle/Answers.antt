use Rattle.std.proofs.Common.{refl, None}
use Rattle.pm_plan.proofs.Places.{other_place}
use Rattle.pm_plan.proofs.search.Search.settle.Goals as goal

pub returns : goal.returns
returns c = record {
  rows = c.in_ok-push.ensures.items;
  links = c.in_ok-push-2.ensures.items;
  here = c.remove.ensures.updates.1;
  others = λ other apart. other_place c.args.self.now.waiting c.remove.new.self c.args.row.now other None c.remove.ensures.updates apart;
  known = λ set. refl;
  goal = refl;
}
