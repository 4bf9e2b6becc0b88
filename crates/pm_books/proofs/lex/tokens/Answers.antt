use Rattle.std.proofs.Common.{◌≡◌, ◌≤◌, length, map, ap, ◌∙◌, arith, eqb, false, rules}
use Rattle.std.proofs.lemmas.List.{map-append}
use Rattle.pm_books.specs.Tokens.{tokens_of}
use Rattle.pm_books.specs.Seen.{seen}
use Rattle.pm_books.proofs.Lexing.{tokens_step}
use Rattle.pm_books.proofs.lex.tokens.Goals as goal

pub tokens-preserved : goal.tokens-preserved
tokens-preserved c =
    let begun = c.after_gap-begun.result.now in
    let text = c.args.text.now in
    let some : eqb (length begun) 0 ≡ false = search rules in
    let back : length c.split_at.result.1.now ≤ length begun = search rules in
    record {
      left = tokens_step (length text) (map seen c.tokens.tokens.items) (map seen c.push.new.self.items) (tokens_of text) c.tokens.rest.now begun c.split_at.result.0.now c.split_at.result.1.now
          c.token_len.result c.tokens.invariant.left c.after_gap-begun.ensures.rest some c.token_len.ensures.value c.split_at.ensures.front c.split_at.ensures.back
          (ap (map seen) c.in_ok-push.ensures.items ∙ map-append seen c.tokens.tokens.items _);
      within = omega arith;
    }
