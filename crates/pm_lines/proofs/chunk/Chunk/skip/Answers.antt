use Rattle.std.proofs.Common.{◌≤◌, ◌+◌, ◌-◌, arith, drop, length-take}
use Rattle.pm_lines.proofs.LineLaws.{skip_front}
use Rattle.pm_lines.proofs.chunk.Chunk.skip.Goals as goal

pub returns : goal.returns
returns c =
    let at = c.self.inside.at in
    let end = c.self.inside.end in
    let bytes = c.self.inside.bytes in
    let room = rw (← c.self.view_is) at c.requires in
    let within : at + c.args.count ≤ end = omega (arith, length-take (end - at) (drop at bytes)) in
    rw (← c.self.view_is) (skip_front at end c.args.count bytes within)
