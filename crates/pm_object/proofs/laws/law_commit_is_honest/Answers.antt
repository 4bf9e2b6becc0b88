use Rattle.pm_object.proofs.Honesty.{commit_is_honest}
use Rattle.pm_object.proofs.laws.law_commit_is_honest.Goals as goal

pub returns : goal.returns
returns c = commit_is_honest
