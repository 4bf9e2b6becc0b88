use Rattle.std.proofs.Common.{length, refl}
use Rattle.pm_bits.specs.Words.{IsWithin}
use Rattle.pm_bits.proofs.Chunks.{EachWord-join}
use Rattle.pm_bits.proofs.Bits.{bits_within, words_within}
use Rattle.pm_bits.proofs.words.contain.Goals as goal

pub returns-then-chunks_contain : goal.returns-then-chunks_contain
returns-then-chunks_contain c = (
  λ is. bits_within c.args.a.now c.args.b.now c.requires (EachWord-join IsWithin 0 _ (length c.args.a.now) c.args.a.now c.args.b.now (c.if-chunks_contain.ensures.0 refl) (c.rest_contains.ensures.0 is)),
  λ h. c.rest_contains.ensures.1 (words_within c.args.a.now c.args.b.now (λ k. (c.type_inv.b k).fits) h _ _),
)

pub returns-else-chunks_contain : goal.returns-else-chunks_contain
returns-else-chunks_contain c = (
  λ is. absurd (cc),
  λ h. c.chunks_contain.ensures.1 (words_within c.args.a.now c.args.b.now (λ k. (c.type_inv.b k).fits) h _ _),
)
