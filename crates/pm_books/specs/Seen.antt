-- Tokens as the code has them.
use Rattle.std.specs.Prelude.{List, map}
use Rattle.std.specs.Borrow.{Bor}
use Rattle.pm_books.specs.declared.token.Token.{Token as CodeToken}
use Rattle.pm_books.specs.declared.parts.Conditions.{Conditions as CodeConditions}
use Rattle.pm_books.specs.Tokens.{Token}
use Rattle.pm_books.specs.Reading.{Conditions}

-- the token without where its bytes lie in memory
abbrev pub seen : CodeToken → Token
seen t = record { place = t.place; text = t.text.now }

-- the tokens of a slice
abbrev pub seen_rest : Bor (List CodeToken) → List Token
seen_rest ts = map seen ts.now

-- conditions
abbrev pub conditions_seen : CodeConditions → Conditions
conditions_seen c = record { must = c.must; must_not = c.must_not }
