-- What a yes proves, and what is told of printed plans and refusals that prove themselves.
use Rattle.std.proofs.Common.{◌≡◌, ◌∙◌, ℕ, true, List, Option, Some, None, ap, inl, inr, subst, sym}
use Rattle.pm_props.specs.declared.kind.RuleId.{RuleId}
use Rattle.pm_weights.specs.declared.Cost.{Cost}
use Rattle.pm_rules.specs.declared.rule.Rule.{Rule}
use Rattle.pm_rules.specs.declared.table.TableRow.{TableRow}
use Rattle.pm_printed.specs.declared.judge.Verdict.{Verdict}
use Rattle.pm_printed.specs.declared.judge.Verdict.TheVariants as verdict
use Rattle.pm_printed.specs.declared.question.Question.{Question}
use Rattle.pm_printed.specs.Judging.{Judges, JudgesPlan, JudgesRefusal}
use Rattle.pm_printed.specs.Judging.Judges.{of_plan as plan_judged, of_refusal as refusal_judged, unread}
use Rattle.pm_printed.specs.Printed.{IsRefusalText}
use Rattle.pm_printed.proofs.Accepted.{printed_plans_are_accepted, printed_refusals_are_accepted}
use Rattle.pm_printed.proofs.Verdicts.{proved_plans_are_least, proved_refusals_exclude}
use Rattle.pm_check.specs.Words.{Asked, PlanSaid}
use Rattle.pm_check.specs.Words.Asked.{of_book, of_plan}
use Rattle.pm_check.specs.Questions.{is_yes, least_text, seen_question, verdict_text}
use Rattle.pm_check.specs.Ends.{AnswersPlan, Ended, World}
use Rattle.pm_check.specs.Proved.{LeastPlansAreTold, PlanIsTrue, Proved, RefusalsAreTold, TellsTrue}
use Rattle.pm_check.specs.declared.status.Status.TheVariants.{Right}

plan_true : (book : List Rule) (q : Question) (text line : List ℕ) (weight : Cost) (chain : List RuleId) (rows : List TableRow) (v : Verdict) → JudgesPlan book q weight chain rows v
    → line ≡ verdict_text v → true ≡ is_yes v → TellsTrue book (seen_question q) text line
plan_true book q text line weight chain rows (verdict.Least w) j says right = inl (record {
  chain = chain;
  least = proved_plans_are_least book q weight chain rows j.1;
  says = says ∙ ap least_text (j.0 ∙ sym j.1.weighs);
})
plan_true book q text line weight chain rows verdict.NoChain j says right = absurd j
plan_true book q text line weight chain rows (verdict.Fault n) j says right = cc
plan_true book q text line weight chain rows (verdict.Unread n) j says right = absurd j

refusal_true : (book : List Rule) (q : Question) (text line : List ℕ) (told : List (RuleId × List ℕ)) (rows : List TableRow) (v : Verdict) → IsRefusalText book text told rows
    → JudgesRefusal book q told rows v → line ≡ verdict_text v → true ≡ is_yes v → TellsTrue book (seen_question q) text line
refusal_true book q text line told rows (verdict.Least w) of j says right = absurd j
refusal_true book q text line told rows verdict.NoChain of j says right = inr (record {
  told = told;
  rows = rows;
  printed = of;
  none = proved_refusals_exclude book q told rows j;
  says = says;
})
refusal_true book q text line told rows (verdict.Fault n) of j says right = cc
refusal_true book q text line told rows (verdict.Unread n) of j says right = absurd j

judged_true : (book : List Rule) (q : Question) (text line : List ℕ) (v : Verdict) → Judges book q text v → line ≡ verdict_text v → true ≡ is_yes v → TellsTrue book (seen_question q) text line
judged_true book q text line v (plan_judged weight chain rows of j) says right = plan_true book q text line weight chain rows v j says right
judged_true book q text line v (refusal_judged told rows of j) says right = refusal_true book q text line told rows v of j says right
judged_true book q text line v (unread n none first) says right = cc

answer_true : (said : PlanSaid) (given : Option (List ℕ)) (files : Option (List (List ℕ × List ℕ))) (line : List ℕ) → AnswersPlan said given files line true → PlanIsTrue said given files line
answer_true said given files line a = record {
  bytes = a.bytes;
  read = a.read;
  rules = a.rules;
  by = a.by;
  question = seen_question a.answer.question;
  asks = a.answer.asks;
  tells = judged_true a.rules a.answer.question a.bytes line a.answer.tells.told a.answer.tells.judges a.answer.tells.says a.answer.tells.proves;
}

-- a run that ended with a yes has proved it
pub ended_proved : (asked : Option Asked) (w : World) → Ended asked Right w → Proved asked w
ended_proved None w e = absurd e.1
ended_proved (Some (of_book name)) w e = tt
ended_proved (Some (of_plan said)) w e = (e.0, e.2, answer_true said w.given w.files e.0 e.1)

-- ---- laws
pub least_plans_are_told : LeastPlansAreTold
least_plans_are_told = λ book q weight chain rows text line is of proves right t.
    let v = printed_plans_are_accepted book q weight chain rows t.told is of.0 proves (subst (λ (x : List ℕ). Judges book q x t.told) of.1 t.judges) in
    (t.says ∙ ap verdict_text v, t.proves ∙ ap is_yes v)

pub refusals_are_told : RefusalsAreTold
refusals_are_told = λ book q told rows text line is of proves right t.
    let v = printed_refusals_are_accepted book q told rows t.told is of.0 proves (subst (λ (x : List ℕ). Judges book q x t.told) of.1 t.judges) in
    (t.says ∙ ap verdict_text v, t.proves ∙ ap is_yes v)
