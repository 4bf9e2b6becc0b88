-- What a printed text proves, and which of its lines is the first that does not stand.
use Rattle.std.specs.Prelude.{◌≡◌, ℕ, ◌+◌, ◌<◌, Some, List, ◌++◌, length, map, take, slice_get, Contains}
use Rattle.pm_props.specs.declared.kind.RuleId.{RuleId}
use Rattle.pm_props.specs.declared.set.PropSet.{PropSet}
use Rattle.pm_props.specs.Sets.{IsSubset}
use Rattle.pm_weights.specs.declared.Cost.{Cost}
use Rattle.pm_weights.specs.Weights.{no_cost}
use Rattle.pm_rules.specs.declared.rule.Rule.{Rule}
use Rattle.pm_rules.specs.declared.table.TableRow.{TableRow}
use Rattle.pm_rules.specs.declared.table.Claim.{Claim}
use Rattle.pm_rules.specs.declared.table.Claim.TheVariants.{Least, NoChain}
use Rattle.pm_rules.specs.Books.{IsBook}
use Rattle.pm_rules.specs.Chains.{IsChain, IsLeast, LeadsTo, HasNoChain, reached, weigh}
use Rattle.pm_rules.specs.Certificates.{Within, IsCertificate}
use Rattle.pm_cert.specs.Claims.{StandsIn, UpTo}
use Rattle.pm_printed.specs.declared.question.Question.{Question}
use Rattle.pm_printed.specs.declared.judge.Verdict.{Verdict}
use Rattle.pm_printed.specs.declared.judge.Verdict.TheVariants as verdict
use Rattle.pm_printed.specs.Texts.{plan_text, refusal_text}
use Rattle.pm_printed.specs.Printed.{IsPlan, IsPlanText, IsPrinted, IsRefusal, IsRefusalText, IsUnread}

-- ---- what is proved
-- the chain leads from the held names to the asked ones, it weighs as much as is said, and the table is a certificate
-- that none weighs less
pub record ProvesPlan (book : List Rule) (q : Question) (weight : Cost) (chain : List RuleId)
    (rows : List TableRow) : Type 0 where
  pub leads : LeadsTo book q.names q.barred.items q.held q.asked chain
  pub weighs : weigh book chain ≡ weight
  pub certificate : IsCertificate book q.names q.barred.items q.held q.asked (Least weight) rows

-- the rules that are barred by the question or by the text
abbrev pub all_barred : Question → List (RuleId × List ℕ) → List RuleId
all_barred q told = q.barred.items ++ map (λ x. x.0) told

-- the table is a certificate that no chain leads there that avoids all these
abbrev pub ProvesNone : List Rule → Question → List (RuleId × List ℕ) → List TableRow → Type 0
ProvesNone book q told rows = IsCertificate book q.names (all_barred q told) q.held q.asked NoChain rows

-- ---- what does not stand
-- the weight is that of the chain, all that is asked is among what the chain finds and what is held, and the table
-- has its start
pub record HeadStands (book : List Rule) (q : Question) (weight : Cost) (chain : List RuleId)
    (rows : List TableRow) : Type 0 where
  pub weighs : weigh book chain ≡ weight
  pub ends : IsSubset q.asked (reached book q.held chain)
  pub start : Within (Least weight) no_cost → Contains rows (record { set = q.held; cost = no_cost })

-- the first k rules are enabled in turn, and with the next one they are not
pub record StopsAt (book : List Rule) (q : Question) (chain : List RuleId) (k : ℕ) : Type 0 where
  pub within : k < length chain
  pub before : IsChain book q.names q.barred.items q.held (take k chain)
  pub next : IsChain book q.names q.barred.items q.held (take (k + 1) chain) → ⊥

-- the first k rows stand, and the next one does not
pub record FallsAt (book : List Rule) (q : Question) (barred : List RuleId) (claim : Claim)
    (rows : List TableRow) (k : ℕ) : Type 0 where
  pub within : k < length rows
  pub before : UpTo k (StandsIn book q.names barred q.asked rows claim) rows
  pub next : (row : TableRow) → slice_get rows k ≡ Some row
      → StandsIn book q.names barred q.asked rows claim row → ⊥

-- the number of the first line of a plan that does not stand: the head, then the rules of the chain, then the rows
pub data IsFaultOfPlan (book : List Rule) (q : Question) (weight : Cost) (chain : List RuleId)
    (rows : List TableRow) (n : ℕ) : Type 0 where
  head : n ≡ 1 → (HeadStands book q weight chain rows → ⊥) → IsFaultOfPlan book q weight chain rows n
  rule : (k : ℕ) → n ≡ 2 + k → HeadStands book q weight chain rows → StopsAt book q chain k
      → IsFaultOfPlan book q weight chain rows n
  row : (k : ℕ) → n ≡ 2 + length chain + k → HeadStands book q weight chain rows
      → IsChain book q.names q.barred.items q.held chain
      → FallsAt book q q.barred.items (Least weight) rows k → IsFaultOfPlan book q weight chain rows n

-- that of a refusal: its first line, where the table lacks its start, then the rows
pub data IsFaultOfRefusal (book : List Rule) (q : Question) (told : List (RuleId × List ℕ))
    (rows : List TableRow) (n : ℕ) : Type 0 where
  start : n ≡ 1 → (Contains rows (record { set = q.held; cost = no_cost }) → ⊥)
      → IsFaultOfRefusal book q told rows n
  row : (k : ℕ) → n ≡ 2 + length told + k → Contains rows (record { set = q.held; cost = no_cost })
      → FallsAt book q (all_barred q told) NoChain rows k → IsFaultOfRefusal book q told rows n

-- ---- the verdict on what is printed
-- the plan proves itself least; or it does not, and this line is the first that does not stand
abbrev pub JudgesPlan : List Rule → Question → Cost → List RuleId → List TableRow → Verdict → Type 0
JudgesPlan book q weight chain rows (verdict.Least w) = (w ≡ weight) × ProvesPlan book q weight chain rows
JudgesPlan book q weight chain rows (verdict.Fault n) = IsFaultOfPlan book q weight chain rows n
    × (ProvesPlan book q weight chain rows → ⊥)
JudgesPlan book q weight chain rows verdict.NoChain = ⊥
JudgesPlan book q weight chain rows (verdict.Unread n) = ⊥

-- the table proves that there is no chain; or it does not, and this line is the first that does not stand
abbrev pub JudgesRefusal : List Rule → Question → List (RuleId × List ℕ) → List TableRow → Verdict → Type 0
JudgesRefusal book q told rows (verdict.Least w) = ⊥
JudgesRefusal book q told rows (verdict.Fault n) = IsFaultOfRefusal book q told rows n
    × (ProvesNone book q told rows → ⊥)
JudgesRefusal book q told rows verdict.NoChain = ProvesNone book q told rows
JudgesRefusal book q told rows (verdict.Unread n) = ⊥

-- the text is printed of a plan or of a refusal on which this is the verdict; or it is printed of neither, and this
-- line is the first that is not read
pub data Judges (book : List Rule) (q : Question) (text : List ℕ) : Verdict → Type 0 where
  of_plan : {v : Verdict} (weight : Cost) (chain : List RuleId) (rows : List TableRow)
      → IsPlanText book text weight chain rows
      → JudgesPlan book q weight chain rows v → Judges book q text v
  of_refusal : {v : Verdict} (told : List (RuleId × List ℕ)) (rows : List TableRow)
      → IsRefusalText book text told rows
      → JudgesRefusal book q told rows v → Judges book q text v
  unread : (n : ℕ) → (IsPrinted book text → ⊥) → IsUnread book text n → Judges book q text (verdict.Unread n)

-- ---- laws
-- a plan that proves itself least is least
abbrev pub ProvedPlansAreLeast : Type 0
ProvedPlansAreLeast = (book : List Rule) (q : Question) (weight : Cost) (chain : List RuleId)
    (rows : List TableRow) → ProvesPlan book q weight chain rows
    → IsLeast book q.names q.barred.items q.held q.asked chain

-- where a refusal proves it, no chain leads there that avoids the barred rules
abbrev pub ProvedRefusalsExclude : Type 0
ProvedRefusalsExclude = (book : List Rule) (q : Question) (told : List (RuleId × List ℕ))
    (rows : List TableRow) → ProvesNone book q told rows
    → HasNoChain book q.names (all_barred q told) q.held q.asked

-- A plan is read back as it was printed: no other plan and no refusal has its text, and it is not unread. So what is
-- printed of a plan that proves itself least is found least.
abbrev pub PrintedPlansAreAccepted : Type 0
PrintedPlansAreAccepted = (book : List Rule) (q : Question) (weight : Cost) (chain : List RuleId)
    (rows : List TableRow) (v : Verdict) → IsBook book
    → IsPlan book weight chain rows → ProvesPlan book q weight chain rows
    → Judges book q (plan_text book weight chain rows) v → v ≡ verdict.Least weight

-- and what is printed of a refusal that proves it, that there is no chain
abbrev pub PrintedRefusalsAreAccepted : Type 0
PrintedRefusalsAreAccepted = (book : List Rule) (q : Question) (told : List (RuleId × List ℕ))
    (rows : List TableRow) (v : Verdict) → IsBook book
    → IsRefusal book told rows → ProvesNone book q told rows → Judges book q (refusal_text book told rows) v
    → v ≡ verdict.NoChain
