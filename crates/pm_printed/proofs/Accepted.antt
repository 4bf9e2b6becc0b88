-- What is printed of a plan that proves itself, or of a refusal that does, is accepted.
use Rattle.std.proofs.Common.{◌≡◌, ℕ, Some, List, [], ◌++◌, length, refl, sym, ap, ◌∙◌, subst, append-nil, inl, inr}
use Rattle.pm_props.specs.declared.kind.RuleId.{RuleId}
use Rattle.pm_weights.specs.declared.Cost.{Cost}
use Rattle.pm_rules.specs.declared.rule.Rule.{Rule}
use Rattle.pm_rules.specs.declared.table.TableRow.{TableRow}
use Rattle.pm_rules.specs.Books.{IsBook}
use Rattle.pm_printed.specs.declared.question.Question.{Question}
use Rattle.pm_printed.specs.declared.judge.Verdict.{Verdict}
use Rattle.pm_printed.specs.declared.judge.Verdict.TheVariants.{Least, NoChain, Fault, Unread}
use Rattle.pm_printed.specs.Judging.{Judges, JudgesPlan, JudgesRefusal, PrintedPlansAreAccepted, PrintedRefusalsAreAccepted, ProvesNone, ProvesPlan}
use Rattle.pm_printed.specs.Judging.Judges.{of_plan, of_refusal, unread}
use Rattle.pm_printed.specs.Printed.{IsPlan, IsPlanText, IsRefusal, IsRefusalText}
use Rattle.pm_printed.specs.Texts.{plan_text, refusal_text}
use Rattle.pm_printed.proofs.Unread.{plan_ends, plan_no_refusal, plan_same, refusal_ends, refusal_same, with_nil}

by_plan : (book : List Rule) (q : Question) (weight : Cost) (chain : List RuleId) (rows : List TableRow) (v : Verdict) → ProvesPlan book q weight chain rows
    → JudgesPlan book q weight chain rows v → v ≡ Least weight
by_plan book q weight chain rows (Least w) proves j = ap Least j.0
by_plan book q weight chain rows NoChain proves j = absurd j
by_plan book q weight chain rows (Fault n) proves j = absurd (j.1 proves)
by_plan book q weight chain rows (Unread n) proves j = absurd j

by_refusal : (book : List Rule) (q : Question) (told : List (RuleId × List ℕ)) (rows : List TableRow) (v : Verdict) → ProvesNone book q told rows
    → JudgesRefusal book q told rows v → v ≡ NoChain
by_refusal book q told rows (Least w) proves j = absurd j
by_refusal book q told rows NoChain proves j = refl
by_refusal book q told rows (Fault n) proves j = absurd (j.1 proves)
by_refusal book q told rows (Unread n) proves j = absurd j

plan_back : (book : List Rule) (q : Question) (text : List ℕ) (weight : Cost) (chain : List RuleId) (rows : List TableRow) (v : Verdict) → IsBook book → IsPlanText book text weight chain rows
    → ProvesPlan book q weight chain rows → Judges book q text v → v ≡ Least weight
plan_back book q text weight chain rows v is of proves (of_plan w c r other j) =
    let same = plan_same book is weight w chain c rows r [] [] of.0 other.0 (plan_ends book rows) (plan_ends book r)
    (sym (with_nil text (plan_text book weight chain rows) of.1) ∙ with_nil text (plan_text book w c r) other.1) in
    let on_chain = subst (λ (x : Cost). JudgesPlan book q x c r v) (sym same.weights) j in
    let on_rows = subst (λ (x : List RuleId). JudgesPlan book q weight x r v) (sym same.chains) on_chain in
    by_plan book q weight chain rows v proves (subst (λ (x : List TableRow). JudgesPlan book q weight chain x v) (sym same.tables) on_rows)
plan_back book q text weight chain rows v is of proves (of_refusal t r other j) =
    absurd (plan_no_refusal book weight chain rows t r [] [] (sym (with_nil text (plan_text book weight chain rows) of.1) ∙ with_nil text (refusal_text book t r) other.1))
plan_back book q text weight chain rows v is of proves (unread n none first) = absurd (none (inl (weight, chain, rows, of)))

refusal_back : (book : List Rule) (q : Question) (text : List ℕ) (told : List (RuleId × List ℕ)) (rows : List TableRow) (v : Verdict) → IsBook book → IsRefusalText book text told rows
    → ProvesNone book q told rows → Judges book q text v → v ≡ NoChain
refusal_back book q text told rows v is of proves (of_plan w c r other j) =
    absurd (plan_no_refusal book w c r told rows [] [] (sym (with_nil text (plan_text book w c r) other.1) ∙ with_nil text (refusal_text book told rows) of.1))
refusal_back book q text told rows v is of proves (of_refusal t r other j) =
    let same = refusal_same book is told t rows r [] [] of.0 other.0 (refusal_ends book rows) (refusal_ends book r)
    (sym (with_nil text (refusal_text book told rows) of.1) ∙ with_nil text (refusal_text book t r) other.1) in
    let on_rows = subst (λ (x : List (RuleId × List ℕ)). JudgesRefusal book q x r v) (sym same.barred) j in
    by_refusal book q told rows v proves (subst (λ (x : List TableRow). JudgesRefusal book q told x v) (sym same.tables) on_rows)
refusal_back book q text told rows v is of proves (unread n none first) = absurd (none (inr (told, rows, of)))

-- ---- laws
pub printed_plans_are_accepted : PrintedPlansAreAccepted
printed_plans_are_accepted = λ book q weight chain rows v is plan proves judged. plan_back book q (plan_text book weight chain rows) weight chain rows v is (plan, refl) proves judged

pub printed_refusals_are_accepted : PrintedRefusalsAreAccepted
printed_refusals_are_accepted = λ book q told rows v is refusal proves judged. refusal_back book q (refusal_text book told rows) told rows v is (refusal, refl) proves judged
