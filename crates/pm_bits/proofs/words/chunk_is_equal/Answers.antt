use Rattle.pm_bits.proofs.Chunks.{tests_same}
use Rattle.pm_bits.proofs.words.chunk_is_equal.Goals as goal

pub returns : goal.returns
returns c =
    tests_same _ c.args.start _ c.args.a.now c.args.b.now _ _ c.requires.in_a c.requires.in_b c.lanes_at.ensures c.lanes_at-2.ensures c.lanes_are_equal.ensures
