use Rattle.std.proofs.Common.{◌∙◌, List, ap, filter}
use Rattle.pm_props.specs.declared.property.PropId.{PropId}
use Rattle.pm_props.specs.Sets.{has, set_of}
use Rattle.pm_printed.proofs.Back.{set_back}
use Rattle.pm_printed.proofs.number.set_of_bits.Goals as goal

pub returns : goal.returns
returns c = λ fits. set_back c.args.bits c.set_among.result (c.set_among.ensures ∙ ap (λ (list : List PropId). set_of (filter (has c.args.bits) list)) c.every.ensures) fits
