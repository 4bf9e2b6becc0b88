-- Parts of rules as the code has them.
use Rattle.pm_books.specs.declared.read.Head.{Head as CodeHead}
use Rattle.pm_books.specs.declared.read.Body.{Body as CodeBody}
use Rattle.pm_books.specs.declared.read.Tail.{Tail as CodeTail}
use Rattle.pm_books.specs.Seen.{seen_rest, conditions_seen}
use Rattle.pm_books.specs.Reading.{Head, Body, Tail}

abbrev pub head_seen : CodeHead → Head
head_seen h = record { label = h.label; targets = h.targets; sources = h.sources; rest = seen_rest h.rest }

abbrev pub body_seen : CodeBody → Body
body_seen b = record { kind = b.kind; weight = b.weight; rest = seen_rest b.rest }

abbrev pub tail_seen : CodeTail → Tail
tail_seen t = record { conditions = conditions_seen t.conditions; past = t.past; rest = seen_rest t.rest }
