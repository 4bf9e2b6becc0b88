use Rattle.std.proofs.Common.{◌∙◌}
use Rattle.pm_printed.proofs.Back.{number_back}
use Rattle.pm_printed.proofs.number.number_of.Goals as goal

pub returns : goal.returns
returns c = λ n small e. c.ok.ensures.value ∙ number_back c.args.text.now c.parse.result n small e c.parse.ensures.value.0
