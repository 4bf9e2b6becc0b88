-- Which texts are printed, of which plan or refusal; and the first line that is not read where a text is not.
use Rattle.std.specs.Prelude.{◌≡◌, ℕ, ◌+◌, ◌^◌, ◌<◌, ◌⊎◌, ◌&&◌, Bool, IsTrue, List, [], ◌++◌, length, nat_le, All}
use Rattle.std.specs.List.{list_all}
use Rattle.pm_props.specs.declared.kind.RuleId.{RuleId}
use Rattle.pm_props.specs.Properties.{count}
use Rattle.pm_weights.specs.declared.Cost.{Cost}
use Rattle.pm_rules.specs.declared.rule.Rule.{Rule}
use Rattle.pm_rules.specs.declared.table.TableRow.{TableRow}
use Rattle.pm_printed.specs.Texts.{barred_text, head_text, plan_text, refusal_text, refused_text, row_text, rule_text}

-- ---- what may be printed
-- both parts of a cost are below 2^64
pub record IsCost (cost : Cost) : Type 0 where
  pub class : cost.class < 2 ^ 64
  pub minor : cost.minor < 2 ^ 64

-- a row has a cost and a set of properties
pub record IsRow (row : TableRow) : Type 0 where
  pub cost : IsCost row.cost
  pub set : row.set < 2 ^ count

-- the book has a rule of this number
abbrev pub IsOfBook : List Rule → RuleId → Type 0
IsOfBook book id = id.0 < length book

-- letters, digits, signs and spaces of ASCII
abbrev pub is_plain : List ℕ → Bool
is_plain line = list_all (λ b. nat_le 32 b && nat_le b 126) line

-- a rule of the book, and a reason
pub record IsBarred (book : List Rule) (x : RuleId × List ℕ) : Type 0 where
  pub rule : IsOfBook book x.0
  pub why : IsTrue (is_plain x.1)

-- the weight is a cost, the rules are those of the book, and the rows are such
pub record IsPlan (book : List Rule) (weight : Cost) (chain : List RuleId) (rows : List TableRow)
    : Type 0 where
  pub cost : IsCost weight
  pub rules : All (IsOfBook book) chain
  pub table : All IsRow rows

-- the same of a refusal
pub record IsRefusal (book : List Rule) (told : List (RuleId × List ℕ)) (rows : List TableRow) : Type 0 where
  pub rules : All (IsBarred book) told
  pub table : All IsRow rows

-- ---- printed texts
-- the text is printed of this plan
abbrev pub IsPlanText : List Rule → List ℕ → Cost → List RuleId → List TableRow → Type 0
IsPlanText book text weight chain rows = IsPlan book weight chain rows
    × (text ≡ plan_text book weight chain rows)

-- the text is printed of this refusal
abbrev pub IsRefusalText : List Rule → List ℕ → List (RuleId × List ℕ) → List TableRow → Type 0
IsRefusalText book text told rows = IsRefusal book told rows × (text ≡ refusal_text book told rows)

-- the text is printed of a plan or of a refusal
abbrev pub IsPrinted : List Rule → List ℕ → Type 0
IsPrinted book text =
    ((weight : Cost) × (chain : List RuleId) × (rows : List TableRow)
    × IsPlanText book text weight chain rows)
    ⊎ ((told : List (RuleId × List ℕ)) × (rows : List TableRow) × IsRefusalText book text told rows)

-- ---- texts that are not
-- the text begins with none of these lines
abbrev pub BeginsNone : {X : Type 0} → (X → Type 0) → (X → List ℕ) → List ℕ → Type 0
BeginsNone {X} Is line text = (x : X) (rest : List ℕ) → Is x → text ≡ line x ++ rest → ⊥

-- the text does not begin with the head of a refusal
abbrev pub BeginsNoRefusal : List ℕ → Type 0
BeginsNoRefusal text = (rest : List ℕ) → text ≡ refused_text ++ rest → ⊥

-- This line is the first that is not read. The first line is no head; or the text begins with these lines of a plan,
-- of which there is one less, it does not end there, and behind them is no row, nor, where no row came yet, a rule;
-- or so with a refusal and barred rules.
pub data IsUnread (book : List Rule) (text : List ℕ) (n : ℕ) : Type 0 where
  head : n ≡ 1 → BeginsNone IsCost head_text text → BeginsNoRefusal text → IsUnread book text n
  plan : (weight : Cost) (chain : List RuleId) (rows : List TableRow) (rest : List ℕ)
      → n ≡ 2 + length chain + length rows
      → IsPlan book weight chain rows → text ≡ plan_text book weight chain rows ++ rest → 0 < length rest
      → BeginsNone IsRow row_text rest → (rows ≡ [] → BeginsNone (IsOfBook book) (rule_text book) rest)
      → IsUnread book text n
  refusal : (told : List (RuleId × List ℕ)) (rows : List TableRow) (rest : List ℕ)
      → n ≡ 2 + length told + length rows
      → IsRefusal book told rows → text ≡ refusal_text book told rows ++ rest → 0 < length rest
      → BeginsNone IsRow row_text rest → (rows ≡ [] → BeginsNone (IsBarred book) (barred_text book) rest)
      → IsUnread book text n
