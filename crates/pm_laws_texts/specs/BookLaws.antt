-- The fault that is answered for the text of a book is its first.
use Rattle.std.specs.Prelude.{◌≡◌, ℕ, List, Result, Err, Ok}
use Rattle.pm_books.specs.Reading.{book_of}
use Rattle.pm_books.specs.declared.fail.BookFail.{BookFail}
use Rattle.pm_laws_texts.specs.BookFaults.{HasFault, IsFirstFault}
use Rattle.pm_props.specs.declared.kind.Kind.{Kind}
use Rattle.pm_rules.specs.declared.rule.Rule.{Rule}

-- what a reading tells of the faults of a text: where it is Ok there is none, and else its fault is the first
abbrev pub Tells : List Kind → List ℕ → Result (List Rule) BookFail → Type 0
Tells kinds text (Ok rules) = (f : BookFail) → ¬ (HasFault kinds text f)
Tells kinds text (Err f) = IsFirstFault kinds text f

abbrev pub FirstFaultIsRead : Type 0
FirstFaultIsRead = (kinds : List Kind) (text : List ℕ) → Tells kinds text (book_of kinds text)

-- and no other is the first
abbrev pub FirstFaultIsOne : Type 0
FirstFaultIsOne = (kinds : List Kind) (text : List ℕ) (f g : BookFail)
    → IsFirstFault kinds text f → IsFirstFault kinds text g → f ≡ g
