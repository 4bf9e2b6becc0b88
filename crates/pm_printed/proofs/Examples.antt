-- What is printed and judged, worked by hand over a book of one rule: what holds, and what does not. `hull` finds the property of number 5 of that of number 2, at the weight 1.2.
use Rattle.std.proofs.Common.{◌≡◌, ℕ, ◌+◌, ◌<◌, ◌≤◌, ◌^◌, true, false, IsTrue, Some, None, List, [], ◌∷◌, ◌++◌, length, get_or, refl, ap, ap₂, sym, ◌∙◌, subst, arith, inl, inr, ltb, append_assoc}
use Rattle.std.specs.Prelude.{All, codes}
use Rattle.std.specs.Fmt.{decimal, digits}
use Rattle.std.proofs.lemmas.Bool.{ltb-true}
use Rattle.std.proofs.lemmas.Fmt.{decimal_digit, hex_one_digit}
use Rattle.std.proofs.lemmas.List.Elements.{All-nil}
use Rattle.pm_props.specs.declared.kind.RuleId.{RuleId}
use Rattle.pm_weights.specs.declared.Cost.{Cost}
use Rattle.pm_weights.specs.Weights.{cost_text, no_cost}
use Rattle.pm_rules.specs.declared.rule.Rule.{Rule}
use Rattle.pm_rules.specs.declared.table.TableRow.{TableRow}
use Rattle.pm_rules.specs.declared.table.Claim.TheVariants.{NoChain}
use Rattle.pm_printed.specs.declared.question.Question.{Question}
use Rattle.pm_printed.specs.declared.judge.Verdict.TheVariants as verdict
use Rattle.pm_printed.specs.Labels.{labelled}
use Rattle.pm_printed.specs.Judging.{FallsAt, HeadStands, IsFaultOfRefusal, JudgesPlan, JudgesRefusal, ProvesNone, ProvesPlan, StopsAt, all_barred}
use Rattle.pm_printed.specs.Judging.IsFaultOfRefusal.{start}
use Rattle.pm_printed.specs.Printed.{BeginsNone, IsBarred, IsCost, IsOfBook, IsPlan, IsPlanText, IsPrinted, IsRow, IsUnread, is_plain}
use Rattle.pm_printed.specs.Printed.IsUnread.{head, plan, refusal}
use Rattle.pm_printed.specs.Texts.{barred_line, barred_text, half_text, head_line, head_text, label_in, plan_text, refusal_text, refused_text, row_line, rule_line, set_text, weight_in}

hull : Rule
hull = record { label = codes "hull"; kind = record { name = codes "hull"; targets = 32; sources = 4; must = 0; must_not = 0 }; weight = record { class = 1; minor = 2 }; must = 0; must_not = 0 }

abbrev rule_at_place : ℕ → RuleId
rule_at_place n = record { 0 = n }

abbrev one_two : Cost
one_two = record { class = 1; minor = 2 }

abbrev row_of : ℕ → Cost → TableRow
row_of s c = record { set = s; cost = c }

differ : (a b : ℕ) → ltb a b ≡ true → a ≡ b → ⊥
differ a b below e = omega (arith, ltb-true a b below)

-- ---- numbers and sets
zero_digit : decimal 0 ≡ codes "0"
zero_digit = decimal_digit 0 (omega arith)

-- the minor alone where the class is 0, else the class, a point and the minor
minor_is_printed : cost_text no_cost ≡ codes "0"
minor_is_printed = zero_digit

cost_is_printed : cost_text one_two ≡ codes "1.2"
cost_is_printed = rw (decimal_digit 1 (omega arith), decimal_digit 2 (omega arith)) refl

-- 16 digits, of which the last are those of the number
half_is_printed : half_text 10 ≡ codes "000000000000000a"
half_is_printed = rw (hex_one_digit false 10 (omega arith)) refl

none_is_printed : half_text 0 ≡ codes "0000000000000000"
none_is_printed = rw (hex_one_digit false 0 (omega arith)) refl

-- the greater half comes first
set_is_printed : set_text 10 ≡ codes "0000000000000000000000000000000a"
set_is_printed = ap₂ (λ (a b : List ℕ). a ++ b) none_is_printed half_is_printed

great_set_is_printed : set_text (2 ^ 64) ≡ codes "00000000000000010000000000000000"
great_set_is_printed = ap₂ (λ (a b : List ℕ). a ++ b) (let one : half_text 1 ≡ codes "0000000000000001" = rw (hex_one_digit false 1 (omega arith)) refl in one) none_is_printed

no_31_digits : set_text 10 ≡ codes "000000000000000000000000000000a" → ⊥
no_31_digits e = differ 31 32 refl (ap length (sym e ∙ set_is_printed))

-- ---- lines
row_is_printed : row_line (row_of 10 no_cost) ≡ codes "row 0 0000000000000000000000000000000a"
row_is_printed = ap₂ (λ (a b : List ℕ). codes "row " ++ a ++ codes " " ++ b) minor_is_printed set_is_printed

rule_is_printed : rule_line (hull ∷ []) (rule_at_place 0) ≡ codes "rule hull 1.2"
unfolding hull
rule_is_printed = ap (λ (w : List ℕ). codes "rule hull " ++ w) cost_is_printed

-- of a rule that is none neither label nor weight is told
no_rule_is_printed : rule_line (hull ∷ []) (rule_at_place 1) ≡ codes "rule  "
no_rule_is_printed = refl

barred_is_printed : barred_line (hull ∷ []) (rule_at_place 0, codes "failed E2") ≡ codes "barred hull failed E2"
unfolding hull
barred_is_printed = refl

plan_is_printed : plan_text (hull ∷ []) no_cost [] [] ≡ codes "plan 0\n"
plan_is_printed = ap (λ (w : List ℕ). codes "plan " ++ w ++ codes "\n" ++ [] ++ []) minor_is_printed

-- the rules come before the rows
rules_first : plan_text (hull ∷ []) one_two (rule_at_place 0 ∷ []) [] ≡ codes "plan 1.2\nrule hull 1.2\n"
unfolding hull
rules_first = ap (λ (w : List ℕ). codes "plan " ++ w ++ codes "\n" ++ ((codes "rule hull " ++ w ++ codes "\n") ++ []) ++ []) cost_is_printed

refusal_is_printed : refusal_text (hull ∷ []) ((rule_at_place 0, codes "disabled") ∷ []) [] ≡ codes "no 10 NoChain\nbarred hull disabled\n"
unfolding hull
refusal_is_printed = refl

-- ---- what may be printed
cost_may : IsCost one_two
cost_may = record { class = omega arith; minor = omega arith }

cost_may_not : IsCost (record { class = 2 ^ 64; minor = 0 }) → ⊥
cost_may_not h = let below = h.class in omega arith

minor_may_not : IsCost (record { class = 0; minor = 2 ^ 64 }) → ⊥
minor_may_not h = let below = h.minor in omega arith

row_may_not : IsRow (row_of (2 ^ 64) no_cost) → ⊥
row_may_not h = let below = h.set in omega arith

rule_may : IsOfBook (hull ∷ []) (rule_at_place 0)
rule_may = omega arith

rule_may_not : IsOfBook (hull ∷ []) (rule_at_place 1) → ⊥
rule_may_not h = omega arith

reason_may : is_plain (codes "failed E2") ≡ true
reason_may = refl

reason_may_not : is_plain (codes "failed\nrow") ≡ false
reason_may_not = refl

-- ---- labels
label_is_found : labelled (hull ∷ []) (codes "hull") ≡ Some (rule_at_place 0)
unfolding hull
label_is_found = refl

label_is_not_found : labelled (hull ∷ []) (codes "hulls") ≡ None
unfolding hull
label_is_not_found = refl

-- ---- texts that are not printed
-- its first line is no head
no_head : IsUnread (hull ∷ []) (codes "x\n") 1
no_head = head refl (λ c rest is e. differ 112 120 refl (sym (ap (λ (l : List ℕ). get_or l 0 0) e))) (λ rest e. differ 110 120 refl (sym (ap (λ (l : List ℕ). get_or l 0 0) e)))

empty_plan : IsPlanText (hull ∷ []) (codes "plan 0\n") no_cost [] []
empty_plan = (record { cost = record { class = omega arith; minor = omega arith }; rules = All-nil (IsOfBook (hull ∷ [])); table = All-nil IsRow }, sym plan_is_printed)

-- a head is not unread
head_is_read : IsUnread (hull ∷ []) (codes "plan 0\n") 1 → ⊥
head_is_read (head first none none₂) = none no_cost [] (record { class = omega arith; minor = omega arith }) (sym plan_is_printed ∙ append_assoc (head_text no_cost) [] [])
head_is_read (plan w c r rest at h e some no_row no_rule) = omega arith
head_is_read (refusal t r rest at h e some no_row no_barred) = omega arith

-- what is behind the head is neither a rule nor a row: it is the second line
no_line : IsUnread (hull ∷ []) (codes "plan 0\nx") 2
no_line = plan no_cost [] [] (codes "x") refl empty_plan.0 (ap (λ (t : List ℕ). t ++ codes "x") (sym plan_is_printed)) (omega arith)
    (λ row rest is e. differ 114 120 refl (sym (ap (λ (l : List ℕ). get_or l 0 0) e))) (λ none id rest is e. differ 114 120 refl (sym (ap (λ (l : List ℕ). get_or l 0 0) e)))

-- ---- verdicts
module _ (q : Question) where
  -- the head does not stand where the weight is another one than the chain's
  other_weight : HeadStands (hull ∷ []) q no_cost (rule_at_place 0 ∷ []) [] → ⊥
  unfolding hull
  other_weight h = differ 0 1 refl (sym (ap (λ (c : Cost). c.class) h.weighs))

  -- nor where the table lacks the row of what is held
  lacks_start : HeadStands (hull ∷ []) q one_two (rule_at_place 0 ∷ []) [] → ⊥
  lacks_start h = absurd (let at = h.start (inl (omega arith)) in omega (arith, at.1))

  -- a plan has no other weight than its own as a verdict, and is never unread
  own_weight : (chain : List RuleId) (rows : List TableRow) → JudgesPlan (hull ∷ []) q one_two chain rows (verdict.Least no_cost) → ⊥
  own_weight chain rows h = differ 0 1 refl (ap (λ (c : Cost). c.class) h.0)

  never_unread : (chain : List RuleId) (rows : List TableRow) → JudgesPlan (hull ∷ []) q one_two chain rows (verdict.Unread 1) → ⊥
  never_unread chain rows h = h

  no_refusal : (chain : List RuleId) (rows : List TableRow) → JudgesPlan (hull ∷ []) q one_two chain rows verdict.NoChain → ⊥
  no_refusal chain rows h = h

  -- a refusal without rows proves nothing, and its first line is at fault
  no_rows : ProvesNone (hull ∷ []) q [] [] → ⊥
  no_rows h = let at = h.start tt in omega (arith, at.1)

  first_line : IsFaultOfRefusal (hull ∷ []) q [] [] 1
  first_line = start refl (λ at. omega (arith, at.1))

  -- what is told to be barred is barred beside what the question bars
  barred_too : all_barred q ((rule_at_place 0, codes "disabled") ∷ []) ≡ q.barred.items ++ rule_at_place 0 ∷ []
  barred_too = refl
