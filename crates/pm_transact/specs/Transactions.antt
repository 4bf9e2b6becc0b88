-- A transaction, as contracts see it.
use Rattle.std.specs.Prelude.{ℕ, Option, List, [], ◌∷◌, ◌++◌, ◌-◌, length}
use Rattle.pm_object.specs.Reading.{Put, answer_of}
use Rattle.pm_props.specs.Sets.{members}
use Rattle.pm_props.specs.declared.kind.Kind.{Kind}
use Rattle.pm_types.specs.Values.{Fact}

-- the kind of the rule, the program that is asked if one is, the values that were added, in order, and for how many
-- more there is room
pub record TransactionSeen : Type 0 where
  pub kind : Kind
  pub sub : Option ℕ
  pub values : List Put
  pub room : ℕ

-- how many targets the kind has
abbrev pub targets_of : Kind → ℕ
targets_of kind = length (members kind.targets)

-- nothing was added, and there is room for as many values as the kind has targets
abbrev pub begun : Option ℕ → Kind → TransactionSeen
begun sub kind = record { kind = kind; sub = sub; values = []; room = targets_of kind }

-- the transaction with a value more
abbrev pub with_value : TransactionSeen → Put → TransactionSeen
with_value t x = record t { values = t.values ++ x ∷ []; room = t.room - 1 }

-- the added values as facts, in the order of the properties' numbers
abbrev pub answer : TransactionSeen → List Fact
answer t = answer_of t.sub (record { kind = t.kind; values = t.values })
