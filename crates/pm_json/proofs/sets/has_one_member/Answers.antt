use Rattle.serde_json.specs.View.{view}
use Rattle.pm_json.proofs.Readings.{has_one_member-length}
use Rattle.pm_json.proofs.sets.has_one_member.Goals as goal

pub returns-in-Some : goal.returns-in-Some
returns-in-Some c = rw c.len.ensures.len (has_one_member-length (view c.args.v.now) c.in-Some.members.now.entries c.in-Some.ensures)
