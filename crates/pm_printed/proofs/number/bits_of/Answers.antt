use Rattle.std.proofs.Common.{◌∙◌}
use Rattle.pm_printed.proofs.Back.{bits_back}
use Rattle.pm_printed.proofs.number.bits_of.Goals as goal

pub returns : goal.returns
returns c = λ s small e. c.ok.ensures.value ∙ bits_back c.args.text.now c.from_str_radix.result s small e c.from_str_radix.ensures.value
