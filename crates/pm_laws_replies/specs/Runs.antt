-- What a run showed is told by its script and the bytes that it wrote.
use Rattle.pm_client.specs.Meanings.{unsaid}
use Rattle.std.specs.Prelude.{◌≡◌, ◌⊎◌, Bool, List, Option, ℕ, map}
use Rattle.pm_books.specs.Grammar.{IsBookText}
use Rattle.pm_client.specs.Starts.{Clients}
use Rattle.pm_command.specs.Lines.{Line}
use Rattle.pm_laws_replies.specs.Told.{value_shown_if}
use Rattle.pm_machine.specs.Machines.{Files, Machine}
use Rattle.pm_props.specs.declared.kind.Kind.{Kind}
use Rattle.pm_rules.specs.declared.rule.Rule.{Rule}
use Rattle.pm_script.specs.Replies.{ReplySeen}
use Rattle.pm_standard.specs.Book.{standard_rules}
use Rattle.pm_machine.specs.Run.{Run, Starts, replies_text, text_if}

-- the rules are the standard ones, or those that some text spells: so are those of each book that a run goes by
abbrev pub AreOfABook : List Rule → Type 0
AreOfABook book = (book ≡ standard_rules)
    ⊎ ((kinds : List Kind) × (bytes : List ℕ) × IsBookText kinds bytes book)

-- Two runs over the same lines by one book, the standard one or one that was read, that began with no object and wrote
-- the same text, whatever their clients and files were, have replies with the same texts and show the same values,
-- line by line.
abbrev pub RunsAreToldApart : Type 0
RunsAreToldApart = (book : List Rule) (trace : Bool) (lines : List Line)
    (clients rivals : Clients) (files papers : Option Files) (old new start end : Machine)
    (replies others : List (Option ReplySeen)) → AreOfABook book
    → Starts clients files old → Starts rivals papers start
    → Run unsaid book old lines replies new → Run unsaid book start lines others end
    → replies_text trace replies ≡ replies_text trace others
    → (map (text_if trace) replies ≡ map (text_if trace) others)
    × (map value_shown_if replies ≡ map value_shown_if others)
