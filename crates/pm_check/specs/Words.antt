-- The words of the program, behind its name: `check-plan [--program] [--rules BOOK] TYPE [HELD ..] : ASKED .. [!
-- BARRED ..]` and `check-book FILE`.
use Rattle.std.specs.Prelude.{ℕ, ◌+◌, Bool, true, false, if◌then◌else◌, Option, Some, None, List, [], ◌∷◌, codes, drop, position, take}
use Rattle.std.specs.Option.{option_and_then, option_map, unwrap_or}
use Rattle.std.specs.Str.{bytes_eq}
use Rattle.pm_object_type.specs.declared.object_type.ObjectType.{ObjectType}
use Rattle.pm_object_type.specs.declared.object_type.ObjectType.TheVariants.{Polytope, Cone, Fan}
use Rattle.pm_props.specs.declared.property.PropId.{PropId}
use Rattle.pm_props.specs.declared.set.PropSet.{PropSet}
use Rattle.pm_props.specs.Names.{property_named}
use Rattle.pm_props.specs.Sets.{set_of}

-- what the words of `check-plan` say: whether the reply is of a linear program, the name of the book if it is not the
-- standard one, what the object is, the names of the held and of the asked properties, and the labels of the barred
-- rules
pub record PlanSaid : Type 0 where
  pub program : Bool
  pub book : Option (List ℕ)
  pub of : ObjectType
  pub held : List (List ℕ)
  pub asked : List (List ℕ)
  pub barred : List (List ℕ)

-- what is asked: a verdict on a printed plan, or on the book of this name
pub data Asked : Type 0 where
  of_plan : PlanSaid → Asked
  of_book : List ℕ → Asked

-- the words before the first that is this mark, and those behind it
abbrev pub cut : List ℕ → List (List ℕ) → Option (List (List ℕ) × List (List ℕ))
cut mark words =
    option_map (λ k. (take k words, drop (k + 1) words)) (position (λ word. bytes_eq word mark) words)

abbrev pub type_named : List ℕ → Option ObjectType
type_named word =
    if bytes_eq word (codes "Polytope") then Some Polytope
    else if bytes_eq word (codes "Cone") then Some Cone
    else if bytes_eq word (codes "Fan") then Some Fan
    else None

-- the words before the first `!` and those behind it; all words, where there is no `!`
abbrev pub asked_and_barred : List (List ℕ) → List (List ℕ) × List (List ℕ)
asked_and_barred words = unwrap_or (cut (codes "!") words) (words, [])

-- what is said with these asked names, of which there is one at least, and these barred labels
abbrev pub with_asked : Bool → Option (List ℕ) → ObjectType → List (List ℕ) → List (List ℕ) × List (List ℕ)
    → Option PlanSaid
with_asked program book of held ([], barred) = None
with_asked program book of held (name ∷ names, barred) =
    Some (record {
      program = program;
      book = book;
      of = of;
      held = held;
      asked = name ∷ names;
      barred = barred;
    })

-- `[HELD ..] : ASKED .. [! BARRED ..]`
abbrev pub with_type : Bool → Option (List ℕ) → ObjectType → List (List ℕ) → Option PlanSaid
with_type program book of words =
    option_and_then (λ both. with_asked program book of both.0 (asked_and_barred both.1))
    (cut (codes ":") words)

-- `TYPE [HELD ..] : ASKED .. [! BARRED ..]`
abbrev pub typed_plan : Bool → Option (List ℕ) → List (List ℕ) → Option PlanSaid
typed_plan program book [] = None
typed_plan program book (first ∷ words) =
    option_and_then (λ of. with_type program book of words) (type_named first)

-- the same behind the name of a book
abbrev pub with_book : Bool → List (List ℕ) → Option PlanSaid
with_book program [] = None
with_book program (name ∷ words) = typed_plan program (Some name) words

-- the same behind `--rules BOOK`, or without it
abbrev pub named_plan : Bool → List (List ℕ) → Option PlanSaid
named_plan program [] = None
named_plan program (first ∷ words) = if bytes_eq first (codes "--rules") then with_book program words
    else typed_plan program None (first ∷ words)

-- the same behind `--program`, or without it
abbrev pub plan_words : List (List ℕ) → Option PlanSaid
plan_words [] = None
plan_words (first ∷ words) = if bytes_eq first (codes "--program") then named_plan true words
    else named_plan false (first ∷ words)

-- the name of a book, and nothing else
abbrev pub book_words : List (List ℕ) → Option (List ℕ)
book_words [] = None
book_words (name ∷ []) = Some name
book_words (name ∷ next ∷ words) = None

-- what the words ask, if they are words of the program
abbrev pub asked_by : List (List ℕ) → Option Asked
asked_by [] = None
asked_by (first ∷ words) =
    if bytes_eq first (codes "check-plan") then option_map of_plan (plan_words words)
    else if bytes_eq first (codes "check-book") then option_map of_book (book_words words)
    else None

-- ---- names of properties
-- the properties of all words, or none where one names none
abbrev pub all_named : List (List ℕ) → Option (List PropId)
all_named [] = Some []
all_named (word ∷ words) = option_and_then (λ p. option_map (λ ps. p ∷ ps) (all_named words))
    (property_named word)

-- the same as a set
abbrev pub named : List (List ℕ) → Option PropSet
named words = option_map set_of (all_named words)
