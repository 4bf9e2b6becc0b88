-- What a function returned, as the grammar has it.
use Rattle.std.specs.Prelude.{◌≡◌, ℕ, Bool, false, IsTrue, Result, Ok, Err, List, [], ◌∷◌}
use Rattle.pm_books.specs.declared.fail.BookFail.{BookFail}
use Rattle.pm_books.specs.declared.fail.BookFail.TheVariants.{Syntax, UnknownProperty, UnknownClient, SignatureMismatch, SameLabel, WeightRange, TooManyRules, Memory}
use Rattle.pm_books.specs.Tokens.{Token}
use Rattle.pm_books.specs.Reading.{◌>>=◌, is_comma, Conditions, condition_of, with_condition, conditions_from}
use Rattle.pm_books.specs.Reading.Due.{condition, comma}

-- it is what is read, seen by view, the fault too
abbrev pub IsReadingOf : {X Y : Type 0} → (X → Y) → Result X BookFail → Result Y BookFail → Type 0
IsReadingOf view (Ok x) read = read ≡ Ok (view x)
IsReadingOf view (Err e) read = read ≡ Err e

abbrev pub FailsAs : {Y : Type 0} → BookFail → Result Y BookFail → Type 0
FailsAs Memory read = Unit {0}
FailsAs (Syntax k) read = read ≡ Err (Syntax k)
FailsAs (UnknownProperty k) read = read ≡ Err (UnknownProperty k)
FailsAs (UnknownClient k) read = read ≡ Err (UnknownClient k)
FailsAs (SignatureMismatch k) read = read ≡ Err (SignatureMismatch k)
FailsAs (SameLabel k) read = read ≡ Err (SameLabel k)
FailsAs (WeightRange k) read = read ≡ Err (WeightRange k)
FailsAs (TooManyRules k) read = read ≡ Err (TooManyRules k)

-- the same, unless memory ran out
abbrev pub GivesAs : {X Y : Type 0} → (X → Y) → Result X BookFail → Result Y BookFail → Type 0
GivesAs view (Ok x) read = read ≡ Ok (view x)
GivesAs view (Err e) read = FailsAs e read

-- these are the tokens behind a comma
abbrev pub IsBehindComma : List Token → List Token → Type 0
IsBehindComma [] rest = ⊥
IsBehindComma (t ∷ ts) rest = IsTrue (is_comma t) × (ts ≡ rest)

-- no comma comes next
abbrev pub HasNoComma : List Token → Type 0
HasNoComma [] = Unit {0}
HasNoComma (t ∷ ts) = is_comma t ≡ false

-- the tokens end before the name of a condition
abbrev pub EndsBefore : List Token → Type 0
EndsBefore ts = (found : Conditions) (end : ℕ) → conditions_from condition found end ts ≡ Err (Syntax end)

-- a condition comes next: this name, behind `!` or not, and then the rest
abbrev pub HasCondition : List Token → Bool → Token → List Token → Type 0
HasCondition ts negated t rest = (found : Conditions) (end : ℕ)
    → conditions_from condition found end ts
    ≡ (condition_of found t >>= λ p. conditions_from comma (with_condition found negated p) end rest)
