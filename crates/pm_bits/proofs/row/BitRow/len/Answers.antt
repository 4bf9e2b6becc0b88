use Rattle.std.proofs.Common.{ap, sym, ◌∙◌, length, List, Bool}
use Rattle.pm_bits.proofs.Members.{length-bits_below}
use Rattle.pm_bits.proofs.row.BitRow.len.Goals as goal

pub returns : goal.returns
returns c =
    sym (ap (λ (row : List Bool). length row) (sym c.self.view_is) ∙ length-bits_below c.self.inside.words.items c.self.inside.len)
