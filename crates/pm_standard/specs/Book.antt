-- The standard book: a rule for each standard client. And the wide one.
use Rattle.std.specs.Prelude.{List, map, ◌++◌}
use Rattle.pm_rules.specs.declared.rule.Rule.{Rule}
use Rattle.pm_standard.specs.Table.{standard_clients, standard_row, wide_clients}
use Rattle.pm_standard.specs.declared.standard.StandardClient.{StandardClient}
use Rattle.pm_standard.specs.declared.standard.StandardRule.{StandardRule}

-- the rule of a standard client, under its name, with the conditions of its kind
abbrev pub rule_of : StandardRule → Rule
rule_of r = record {
  label = r.kind.name;
  kind = r.kind;
  weight = record { class = 0; minor = r.weight };
  must = r.kind.must;
  must_not = r.kind.must_not;
}

abbrev pub standard_rule : StandardClient → Rule
standard_rule c = rule_of (standard_row c)

-- the rules of the standard book
abbrev pub standard_rules : List Rule
standard_rules = map standard_rule standard_clients

-- the rules of the wide book, as the file wide.rules has them: the standard ones, and behind them the wide ones
abbrev pub wide_rules : List Rule
wide_rules = standard_rules ++ map standard_rule wide_clients
