use Rattle.std.proofs.Common.{◌≡◌, ◌≤◌, ◌++◌, length, map}
use Rattle.pm_books.specs.Tokens.{tokens_left, tokens_of}
use Rattle.pm_books.specs.Seen.{seen}
use Rattle.pm_books.proofs.lex.tokens.Given as goal

-- the tokens so far, and those of what is left, are those of the text
abbrev pub invariant-tokens : goal.invariant-tokens
invariant-tokens l = record {
  left : map seen l.tokens.items ++ tokens_left (length l.text) (length l.rest) l.rest ≡ tokens_of l.text;
  within : length l.rest ≤ length l.text;
}

abbrev pub decreases-tokens : goal.decreases-tokens
decreases-tokens l = length l.rest
