use Rattle.pm_bits.proofs.words.members.Goals as goal
use Rattle.pm_bits.specs.Words.{has_bit}
use Rattle.std.proofs.Common.{arith, length, ◌*◌}
use Rattle.std.proofs.lemmas.List.FromFn.{length-range_with_len}
use Rattle.std.proofs.lemmas.List.Sums.{count_by-le-length}
use Rattle.std.specs.List.{range_with_len}

pub count-requires : goal.count-requires
count-requires c =
    let bits = length c.args.words.now * 64 in
    omega (arith, c.requires, count_by-le-length (has_bit c.args.words.now) (range_with_len 0 bits), length-range_with_len 0 bits)
