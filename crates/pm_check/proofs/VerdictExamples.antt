-- Verdicts on a plan without rules and rows, worked by hand.
use Rattle.std.proofs.Common.{◌≡◌, ◌∙◌, ℕ, true, false, List, [], ◌++◌, ap, arith, get_or, inl, inr, ltb, refl, subst, sym}
use Rattle.std.specs.Prelude.{codes}
use Rattle.std.specs.Fmt.{decimal}
use Rattle.std.proofs.lemmas.Bool.{ltb-true}
use Rattle.std.proofs.lemmas.Fmt.{decimal_digit}
use Rattle.std.proofs.lemmas.List.Elements.{All-nil}
use Rattle.pm_props.specs.declared.kind.RuleId.{RuleId}
use Rattle.pm_props.specs.Sets.{IsSubset}
use Rattle.pm_weights.specs.declared.Cost.{Cost}
use Rattle.pm_weights.specs.Weights.{IsBelow, no_cost}
use Rattle.pm_rules.specs.declared.rule.Rule.{Rule}
use Rattle.pm_rules.specs.declared.table.TableRow.{TableRow}
use Rattle.pm_rules.specs.Books.{IsBook}
use Rattle.pm_rules.specs.Chains.{reached}
use Rattle.pm_printed.specs.declared.judge.Verdict.{Verdict}
use Rattle.pm_printed.specs.declared.judge.Verdict.TheVariants as verdict
use Rattle.pm_printed.specs.declared.question.Question.{Question}
use Rattle.pm_printed.specs.Judging.{Judges, ProvesPlan}
use Rattle.pm_printed.specs.Judging.Judges.{of_plan, of_refusal, unread}
use Rattle.pm_printed.specs.Printed.{IsOfBook, IsPlan, IsPlanText, IsRow}
use Rattle.pm_printed.specs.Texts.{plan_text}
use Rattle.pm_printed.proofs.Accepted.{printed_plans_are_accepted}
use Rattle.pm_printed.proofs.Unread.{SamePlan, plan_ends, plan_same, with_nil}
use Rattle.pm_check.specs.Questions.{Tells, is_yes, least_text, none_text, verdict_text}
use Rattle.pm_check.specs.Examples.{VerdictsOfBooks}

pub differ : (a b : ℕ) → ltb a b ≡ true → a ≡ b → ⊥
differ a b below e = omega (arith, ltb-true a b below)

zero_digit : decimal 0 ≡ codes "0"
zero_digit = decimal_digit 0 (omega arith)

text_is_printed : (book : List Rule) → plan_text book no_cost [] [] ≡ codes "plan 0\n"
text_is_printed book = ap (λ (w : List ℕ). codes "plan " ++ w ++ codes "\n" ++ [] ++ []) zero_digit

least_is_told : least_text no_cost ≡ codes "least 0\n"
least_is_told = ap (λ (w : List ℕ). codes "least " ++ w ++ codes "\n") zero_digit

-- the third byte of `least 0` and `no chain`
least_is_no_none : codes "least 0\n" ≡ none_text → ⊥
least_is_no_none e = differ 108 110 refl (ap (λ (l : List ℕ). get_or l 0 0) e)

other_is_no_none : codes "least 1\n" ≡ none_text → ⊥
other_is_no_none e = differ 108 110 refl (ap (λ (l : List ℕ). get_or l 0 0) e)

other_is_no_least : codes "least 1\n" ≡ codes "least 0\n" → ⊥
other_is_no_least e = differ 48 49 refl (sym (ap (λ (l : List ℕ). get_or l 6 0) e))

module _ (book : List Rule) (q : Question) (is : IsBook book) where
  empty : IsPlan book no_cost [] []
  empty = record { cost = record { class = omega arith; minor = omega arith }; rules = All-nil (IsOfBook book); table = All-nil IsRow }

  not_below : IsBelow no_cost no_cost → ⊥
  not_below (inl below) = omega arith
  not_below (inr both) = let below = both.1 in omega arith

  proves : IsSubset q.asked q.held → ProvesPlan book q no_cost [] []
  proves within = record {
    leads = record { enabled = tt; ends = within };
    weighs = refl;
    certificate = record { start = λ below. absurd (not_below below); steps = All-nil _; ends = All-nil _ };
  }

  judged : IsSubset q.asked q.held → Judges book q (codes "plan 0\n") (verdict.Least no_cost)
  judged within = of_plan no_cost [] [] (empty, sym (text_is_printed book)) (refl, proves within)

  -- of a text that is printed of a plan, that one
  same : (weight : Cost) (chain : List RuleId) (rows : List TableRow) → IsPlanText book (codes "plan 0\n") weight chain rows → SamePlan no_cost weight [] chain [] rows [] []
  same weight chain rows of =
      plan_same book is no_cost weight [] chain [] rows [] [] empty of.0 (plan_ends book []) (plan_ends book rows)
      (sym (with_nil (codes "plan 0\n") (plan_text book no_cost [] []) (sym (text_is_printed book))) ∙ with_nil (codes "plan 0\n") (plan_text book weight chain rows) of.1)

  -- the verdict on it tells the weight 0, or no weight
  weight_told : (v : Verdict) (line : List ℕ) → Judges book q (codes "plan 0\n") v → line ≡ verdict_text v → true ≡ is_yes v → (line ≡ none_text → ⊥) → line ≡ codes "least 0\n"
  weight_told (verdict.Least w) line (of_plan weight chain rows of j) says right no_none =
      says ∙ ap least_text (j.0 ∙ sym (same weight chain rows of).weights) ∙ least_is_told
  weight_told (verdict.Least w) line (of_refusal told rows of j) says right no_none = absurd j
  weight_told verdict.NoChain line j says right no_none = absurd (no_none says)
  weight_told (verdict.Fault n) line j says right no_none = cc
  weight_told (verdict.Unread n) line j says right no_none = cc

  other_weight : Tells book q (codes "plan 0\n") (codes "least 1\n") true → ⊥
  other_weight t = other_is_no_least (weight_told t.told (codes "least 1\n") t.judges t.says t.proves other_is_no_none)

  no_yes : IsSubset q.asked q.held → Tells book q (codes "plan 0\n") (codes "least 0\n") false → ⊥
  no_yes within t =
      let v = printed_plans_are_accepted book q no_cost [] [] t.told is empty (proves within) (subst (λ (x : List ℕ). Judges book q x t.told) (sym (text_is_printed book)) t.judges) in
      let told = t.proves ∙ ap is_yes v in
      cc

  -- of a plan without rules what is asked is held
  held_where_least : (w : Cost) → Judges book q (codes "plan 0\n") (verdict.Least w) → IsSubset q.asked q.held
  held_where_least w (of_plan weight chain rows of j) =
      subst (λ (c : List RuleId). IsSubset q.asked (reached book q.held c)) (sym (same weight chain rows of).chains) j.1.leads.ends
  held_where_least w (of_refusal told rows of j) = absurd j

  held_where_told : (v : Verdict) → Judges book q (codes "plan 0\n") v → codes "least 0\n" ≡ verdict_text v → true ≡ is_yes v → IsSubset q.asked q.held
  held_where_told (verdict.Least w) j says right = held_where_least w j
  held_where_told verdict.NoChain j says right = absurd (least_is_no_none says)
  held_where_told (verdict.Fault n) j says right = cc
  held_where_told (verdict.Unread n) j says right = cc

pub verdicts_of_books : VerdictsOfBooks
verdicts_of_books = λ book q is. record {
  least = least_is_told;
  none = refl;
  fault = ap (λ (w : List ℕ). codes "no " ++ w ++ codes "\n") (decimal_digit 2 (omega arith));
  unread = ap (λ (w : List ℕ). codes "no " ++ w ++ codes "\n") (decimal_digit 2 (omega arith));
  held = λ within. record { told = verdict.Least no_cost; judges = judged book q is within; says = sym least_is_told; proves = refl };
  other_weight = other_weight book q is;
  no_yes = no_yes book q is;
  not_held = λ outside t. outside (held_where_told book q is t.told t.judges t.says t.proves);
}
