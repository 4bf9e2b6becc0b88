use Rattle.std.proofs.Common.{◌≡◌, ◌∙◌, sym, arith, ap, List, ℕ, ◌+◌}
use Rattle.std.specs.Prelude.{sum_by, count_ones}
use Rattle.std.proofs.lemmas.List.{take_all}
use Rattle.std.proofs.lemmas.List.Sums.{sum_by_more, sum_by-take-le}
use Rattle.pm_bits.specs.Words.{bit_count}
use Rattle.pm_bits.proofs.Counts.{ones_of_words}
use Rattle.pm_bits.proofs.words.count.Goals as goal

pub overflow_add-ones : goal.overflow_add-ones
overflow_add-ones c =
    let total : bit_count c.args.words.now ≡ sum_by count_ones c.args.words.now = ones_of_words c.args.words.now (λ k. (c.type_inv.words k).fits) in
    let next = sum_by_more count_ones c.args.words.now c.loop-word.word-index 0 (omega arith) in
    let part = sum_by-take-le count_ones c.args.words.now (c.loop-word.word-index + 1) in
    record { fits = omega (arith, total, next, part, c.loop-word.invariant) }

pub returns : goal.returns
returns c =
    c.loop-word.invariant
    ∙ ap (λ (ws : List ℕ). sum_by count_ones ws) (take_all c.loop-word.word-index c.args.words.now (omega arith))
    ∙ sym (ones_of_words c.args.words.now (λ k. (c.type_inv.words k).fits))
