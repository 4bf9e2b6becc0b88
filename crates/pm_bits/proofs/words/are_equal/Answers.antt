use Rattle.std.proofs.Common.{◌≡◌, length, refl, ap, List, ℕ, arith}
use Rattle.pm_bits.specs.Words.{has_bit}
use Rattle.pm_bits.proofs.Chunks.{EachWord-join}
use Rattle.pm_bits.proofs.Bits.{same_words}
use Rattle.pm_bits.proofs.Firsts.{same_from_each_word, each_word_from_same}
use Rattle.pm_bits.proofs.words.are_equal.Goals as goal

pub returns-then-chunks_are_equal : goal.returns-then-chunks_are_equal
returns-then-chunks_are_equal c = (
  λ is i. ap (λ (ws : List ℕ). has_bit ws i) (same_from_each_word c.args.a.now c.args.b.now (length c.args.a.now) c.requires (omega arith)
      (EachWord-join (λ x y. x ≡ y) 0 _ (length c.args.a.now) c.args.a.now c.args.b.now (c.if-chunks_are_equal.ensures.0 refl) (c.rest_is_equal.ensures.0 is))),
  λ h. c.rest_is_equal.ensures.1 (each_word_from_same c.args.a.now c.args.b.now _ _ (same_words c.args.a.now c.args.b.now c.requires (λ k. (c.type_inv.a k).fits) (λ k. (c.type_inv.b k).fits) h)),
)

pub returns-else-chunks_are_equal : goal.returns-else-chunks_are_equal
returns-else-chunks_are_equal c = (
  λ is. absurd (cc),
  λ h. c.chunks_are_equal.ensures.1 (each_word_from_same c.args.a.now c.args.b.now _ _ (same_words c.args.a.now c.args.b.now c.requires (λ k. (c.type_inv.a k).fits) (λ k. (c.type_inv.b k).fits) h)),
)
