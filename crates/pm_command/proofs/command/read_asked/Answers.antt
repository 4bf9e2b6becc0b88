-- The text asks where each word is a property word and at most four are different.
use Rattle.pm_command.proofs.Asked.{are, are_many, are_not}
use Rattle.pm_command.proofs.command.read_asked.Goals as goal
use Rattle.pm_command.proofs.command.read_asked.Goals.{else-are_property_words-via-then-are_property_words+in_ok-are_few+else-branch, else-are_property_words-via-else-are_property_words}

pub returns-then-branch-clause-asked : goal.returns-then-branch-clause-asked
returns-then-branch-clause-asked c =
    are (λ w. w.now) c.in_ok-words.words.items c.deref.result.now _ c.are_property_words.result c.deref.ensures.value c.in_ok-words.ensures c.are_property_words.ensures
    c.deref-then-are_property_words.result.now c.in_ok-are_few.field-0 c.deref-then-are_property_words.ensures.value c.in_ok-are_few.ensures c.if-are_property_words.true c.if-branch.true

pub returns-clause-refused : goal.returns-clause-refused
returns-clause-refused c = λ _. elim c.else-are_property_words.branch [
  | else-are_property_words-via-then-are_property_words+in_ok-are_few+else-branch w ↦
      are_many (λ v. v.now) c.in_ok-words.words.items c.deref.result.now _ c.are_property_words.result c.deref.ensures.value c.in_ok-words.ensures c.are_property_words.ensures
      w.deref-then-are_property_words.result.now w.in_ok-are_few.field-0 w.deref-then-are_property_words.ensures.value w.in_ok-are_few.ensures w.if-branch.false
  | else-are_property_words-via-else-are_property_words w ↦
      are_not (λ v. v.now) c.in_ok-words.words.items c.deref.result.now _ c.are_property_words.result c.deref.ensures.value c.in_ok-words.ensures c.are_property_words.ensures w.if-are_property_words.false
]
