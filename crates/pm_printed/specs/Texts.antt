-- The lines that `explain` prints: of a plan, and of a refusal where no chain leads there.
use Rattle.std.specs.Prelude.{ℕ, ◌-◌, ◌/◌, ◌%◌, ◌^◌, false, Option, Some, None, List, [], ◌∷◌, ◌++◌, flat_map, length, replicate, codes}
use Rattle.std.specs.Fmt.{digits}
use Rattle.pm_props.specs.declared.kind.RuleId.{RuleId}
use Rattle.pm_props.specs.declared.set.PropSet.{PropSet}
use Rattle.pm_weights.specs.declared.Cost.{Cost}
use Rattle.pm_weights.specs.Weights.{cost_text, weight_text}
use Rattle.pm_rules.specs.declared.rule.Rule.{Rule}
use Rattle.pm_rules.specs.declared.table.TableRow.{TableRow}
use Rattle.pm_rules.specs.Rules.{rule_at}

-- a number below 2^64 as 16 hexadecimal digits
abbrev pub half_text : ℕ → List ℕ
half_text n = replicate (16 - length (digits 16 false n)) 48 ++ digits 16 false n

-- a set as 32 hexadecimal digits, of which bit k stands for the property of number k
abbrev pub set_text : PropSet → List ℕ
set_text s = half_text (s / 2 ^ 64) ++ half_text (s % 2 ^ 64)

-- `row COST SET`
abbrev pub row_line : TableRow → List ℕ
row_line row = codes "row " ++ cost_text row.cost ++ codes " " ++ set_text row.set

abbrev pub row_text : TableRow → List ℕ
row_text row = row_line row ++ codes "\n"

-- the label of a rule, and its weight
abbrev pub label_in : Option Rule → List ℕ
label_in None = []
label_in (Some rule) = rule.label

abbrev pub weight_in : Option Rule → List ℕ
weight_in None = []
weight_in (Some rule) = weight_text rule.weight

-- `rule LABEL WEIGHT`
abbrev pub rule_line : List Rule → RuleId → List ℕ
rule_line book id = codes "rule " ++ label_in (rule_at book id) ++ codes " " ++ weight_in (rule_at book id)

abbrev pub rule_text : List Rule → RuleId → List ℕ
rule_text book id = rule_line book id ++ codes "\n"

-- `barred LABEL WHY`
abbrev pub barred_line : List Rule → RuleId × List ℕ → List ℕ
barred_line book x = codes "barred " ++ label_in (rule_at book x.0) ++ codes " " ++ x.1

abbrev pub barred_text : List Rule → RuleId × List ℕ → List ℕ
barred_text book x = barred_line book x ++ codes "\n"

-- `plan W`
abbrev pub head_line : Cost → List ℕ
head_line weight = codes "plan " ++ cost_text weight

abbrev pub head_text : Cost → List ℕ
head_text weight = head_line weight ++ codes "\n"

-- `no 10 NoChain`
abbrev pub refused_line : List ℕ
refused_line = codes "no 10 NoChain"

abbrev pub refused_text : List ℕ
refused_text = refused_line ++ codes "\n"

-- a plan: its weight, the rules of the chain, and the rows of the table
abbrev pub plan_text : List Rule → Cost → List RuleId → List TableRow → List ℕ
plan_text book weight chain rows = head_text weight ++ flat_map (rule_text book) chain
    ++ flat_map row_text rows

-- a refusal: the barred rules with their reasons, and the rows of the table
abbrev pub refusal_text : List Rule → List (RuleId × List ℕ) → List TableRow → List ℕ
refusal_text book told rows = refused_text ++ flat_map (barred_text book) told ++ flat_map row_text rows
