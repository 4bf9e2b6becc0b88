-- What the program answers, worked by hand: what holds, and what does not.
use Rattle.std.specs.Prelude.{◌≡◌, ℕ, true, false, Some, None, List, [], ◌∷◌, codes}
use Rattle.pm_object_type.specs.declared.object_type.ObjectType.TheVariants.{Cone, Fan}
use Rattle.pm_props.specs.Sets.{IsSubset}
use Rattle.pm_rules.specs.declared.rule.Rule.{Rule}
use Rattle.pm_weights.specs.Weights.{no_cost}
use Rattle.pm_books.specs.declared.fail.BookFail.TheVariants.{Syntax, SameLabel}
use Rattle.pm_printed.specs.declared.judge.Verdict.TheVariants as verdict
use Rattle.pm_printed.specs.declared.question.Question.{Question}
use Rattle.pm_rules.specs.Books.{IsBook}
use Rattle.pm_check.specs.Words.{PlanSaid, asked_by}
use Rattle.pm_check.specs.Words.Asked.{of_book, of_plan}
use Rattle.pm_check.specs.Books.{column_at, count_text, fault_text, line_at}
use Rattle.pm_check.specs.Questions.{Tells, question_of, verdict_text}
use Rattle.pm_check.specs.Ends.{Ended, World}
use Rattle.pm_check.specs.declared.status.Status.TheVariants.{BadWords, Right, SinkFault, SourceFault, Wrong}

abbrev pub check_plan : List ℕ
check_plan = codes "check-plan"

abbrev pub pure : List ℕ
pure = codes "PURE"

-- a fan of which PURE is held and asked
abbrev pub of_fan : PlanSaid
of_fan = record { program = false; book = None; of = Fan; held = pure ∷ []; asked = pure ∷ []; barred = [] }

-- `check-plan Fan PURE : PURE`
abbrev pub fan_words : List (List ℕ)
fan_words = check_plan ∷ codes "Fan" ∷ pure ∷ codes ":" ∷ pure ∷ []

pub record WordsAsk : Type 0 where
  pub plan : asked_by fan_words ≡ Some (of_plan of_fan)
  pub nothing_held : asked_by (check_plan ∷ codes "Fan" ∷ codes ":" ∷ pure ∷ [])
      ≡ Some (of_plan (record of_fan { held = [] }))
  pub program : asked_by (check_plan ∷ codes "--program" ∷ codes "Fan" ∷ pure ∷ codes ":" ∷ pure ∷ [])
      ≡ Some (of_plan (record of_fan { program = true }))
  pub by_book : asked_by
      (check_plan ∷ codes "--rules" ∷ codes "b" ∷ codes "Fan" ∷ pure ∷ codes ":" ∷ pure ∷ [])
      ≡ Some (of_plan (record of_fan { book = Some (codes "b") }))
  pub barred : asked_by
      (check_plan ∷ codes "Cone" ∷ codes ":" ∷ pure ∷ codes "!" ∷ codes "r" ∷ codes "s" ∷ [])
      ≡ Some (of_plan (record of_fan { of = Cone; held = []; barred = codes "r" ∷ codes "s" ∷ [] }))
  pub book : asked_by (codes "check-book" ∷ codes "b" ∷ []) ≡ Some (of_book (codes "b"))
  pub no_words : asked_by [] ≡ None
  pub other_word : asked_by (codes "check" ∷ codes "b" ∷ []) ≡ None
  pub no_type : asked_by (check_plan ∷ codes "Ball" ∷ codes ":" ∷ pure ∷ []) ≡ None
  pub no_colon : asked_by (check_plan ∷ codes "Fan" ∷ pure ∷ []) ≡ None
  pub nothing_asked : asked_by (check_plan ∷ codes "Fan" ∷ pure ∷ codes ":" ∷ []) ≡ None
  pub only_barred : asked_by (check_plan ∷ codes "Fan" ∷ codes ":" ∷ codes "!" ∷ codes "r" ∷ []) ≡ None
  pub two_books : asked_by (codes "check-book" ∷ codes "a" ∷ codes "b" ∷ []) ≡ None

-- `NAMES` is no property, and a book without rules has no label
pub record WordsAskNothing : Type 0 where
  pub unknown_held : question_of [] (record of_fan { held = codes "NAMES" ∷ [] }) ≡ None
  pub unknown_asked : question_of [] (record of_fan { asked = codes "NAMES" ∷ [] }) ≡ None
  pub unknown_rule : question_of [] (record of_fan { barred = codes "r" ∷ [] }) ≡ None

-- the first byte of a text stands at line 1, column 1; an LF is the last of its line
pub record PlacesAreTold : Type 0 where
  pub first : (line_at 0 (codes "a\nbc") ≡ 1) × (column_at 0 (codes "a\nbc") ≡ 1)
  pub end_of_line : (line_at 1 (codes "a\nbc") ≡ 1) × (column_at 1 (codes "a\nbc") ≡ 2)
  pub next_line : (line_at 2 (codes "a\nbc") ≡ 2) × (column_at 2 (codes "a\nbc") ≡ 1)
  pub last : (line_at 3 (codes "a\nbc") ≡ 2) × (column_at 3 (codes "a\nbc") ≡ 2)
  pub syntax : fault_text (Syntax 3) (codes "a\nbc") ≡ codes "Syntax at line 2, column 2\n"
  pub label : fault_text (SameLabel 2) (codes "a\nbc") ≡ codes "SameLabel at line 2, column 1\n"
  pub count : count_text 3 ≡ codes "ok 3\n"

-- the text `plan 0` tells that nothing is to be done: that is so exactly where all that is asked is held
pub record VerdictsAreTold (book : List Rule) (q : Question) : Type 0 where
  pub least : verdict_text (verdict.Least no_cost) ≡ codes "least 0\n"
  pub none : verdict_text verdict.NoChain ≡ codes "no chain\n"
  pub fault : verdict_text (verdict.Fault 2) ≡ codes "no 2\n"
  pub unread : verdict_text (verdict.Unread 2) ≡ codes "no 2\n"
  pub held : IsSubset q.asked q.held → Tells book q (codes "plan 0\n") (codes "least 0\n") true
  pub other_weight : Tells book q (codes "plan 0\n") (codes "least 1\n") true → ⊥
  pub no_yes : IsSubset q.asked q.held → Tells book q (codes "plan 0\n") (codes "least 0\n") false → ⊥
  pub not_held : ¬ (IsSubset q.asked q.held) → Tells book q (codes "plan 0\n") (codes "least 0\n") true → ⊥

abbrev pub VerdictsOfBooks : Type 0
VerdictsOfBooks = (book : List Rule) (q : Question) → IsBook book → VerdictsAreTold book q

-- `check-book b`
abbrev pub book_words : List (List ℕ)
book_words = codes "check-book" ∷ codes "b" ∷ []

-- the file `b` has these bytes, the source nothing, and the sink has this line
abbrev pub world : List ℕ → List ℕ → World
world file line = record {
  given = Some [];
  had = Some [];
  has = Some line;
  files = Some ((codes "b", file) ∷ []);
}

-- how a run ends
pub record RunsEnd : Type 0 where
  -- a text without rules is a book of none
  pub book : Ended (asked_by book_words) Right (world [] (codes "ok 0\n"))
  pub other_count : Ended (asked_by book_words) Right (world [] (codes "ok 1\n")) → ⊥
  pub other_status : Ended (asked_by book_words) Wrong (world [] (codes "ok 0\n")) → ⊥
  -- the byte 255 is no text
  pub no_text : Ended (asked_by book_words) Wrong (world (255 ∷ []) (codes "no text\n"))
  pub is_no_book : Ended (asked_by book_words) Right (world (255 ∷ []) (codes "ok 0\n")) → ⊥
  -- words that are none have no answer, and nothing is written
  pub bad_words : Ended (asked_by []) BadWords (world [] [])
  pub written : Ended (asked_by []) BadWords (world [] (codes "no\n")) → ⊥
  pub answered : Ended (asked_by []) Right (world [] (codes "least 0\n")) → ⊥
  pub of_words : Ended (asked_by book_words) BadWords (world [] []) → ⊥
  -- where the source failed, nothing is written either
  pub source_fault : Ended (asked_by fan_words) SourceFault (world [] [])
  pub after_fault : Ended (asked_by fan_words) SourceFault (world [] (codes "least 0\n")) → ⊥
  -- where the sink fails, it took a part of the line
  pub in_part : Ended (asked_by book_words) SinkFault (world [] (codes "ok"))
  pub whole : Ended (asked_by book_words) SinkFault (world [] (codes "ok 0\n")) → ⊥
