use Rattle.pm_json.proofs.Examples.{set_texts}
use Rattle.pm_json.proofs.example_sets.Goals as goal

pub returns : goal.returns
returns c = set_texts
