use Rattle.pm_bits.proofs.Chunks.{tests_within}
use Rattle.pm_bits.proofs.words.chunk_contains.Goals as goal

pub returns : goal.returns
returns c =
    tests_within _ c.args.start _ c.args.a.now c.args.b.now _ _ c.requires.in_a c.requires.in_b c.lanes_at.ensures c.lanes_at-2.ensures c.lanes_contain.ensures
