use Rattle.pm_client.proofs.example_starts.Goals as goal
use Rattle.std.proofs.Common.{refl}

pub returns : goal.returns
returns c = record {
  same = refl;
  other_sources = refl;
  other_name = refl;
  first = refl;
  second = refl;
  from_five = refl;
  none = refl;
  some = refl;
  kind = refl;
  beyond = refl;
  started = refl;
  started_second = refl;
  started_none = refl;
  once = refl;
  greatest = refl;
}
