use Rattle.std.proofs.Common.{◌≡◌, List, Some, ℕ, string_bytes, subst, sym}
use Rattle.pm_rules.specs.declared.rule.Rule.{Rule}
use Rattle.pm_check.specs.Questions.{Tells, question_of, seen_question}
use Rattle.pm_check.specs.Seen.{seen_plan}
use Rattle.pm_check.proofs.plan.plan_answer.Goals as goal

-- the bytes that were read, by the book that is named, for the question that was made of the words
pub returns-clause-found : goal.returns-clause-found
returns-clause-found g c =
    let said = seen_plan c.args.words.now in
    let asks = rw c.in-Some.is at c.in_ok-q.ensures in
    record {
      bytes = c.in-Ok-read_text.bytes.items;
      read = c.in-Ok-read_text.ensures.all;
      short = c.in-Ok-read_text.ensures.short;
      rules = c.in-Ok.book;
      by = c.in-Ok.ensures.found;
      answer = record {
        question = c.in-Some.q;
        asks = subst (λ (rules : List Rule). question_of rules said ≡ Some (seen_question c.in-Some.q)) c.rules.ensures.value (sym asks);
        tells = subst (λ (t : List ℕ). Tells c.in-Ok.book c.in-Some.q t (string_bytes c.in_ok-judged.field-0.0) c.in_ok-judged.field-0.1) c.deref.ensures.value c.in_ok-judged.ensures;
      };
    }
