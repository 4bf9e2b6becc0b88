-- Which rules are barred matters only of those in use: two lists that bar the same of these have the same chains and certificates.
use Rattle.std.proofs.Common.{◌≡◌, ◌∙◌, Some, List, [], ◌∷◌, sym}
use Rattle.pm_props.specs.declared.property.PropId.{PropId}
use Rattle.pm_props.specs.declared.set.PropSet.{PropSet}
use Rattle.pm_props.specs.declared.kind.RuleId.{RuleId}
use Rattle.pm_props.specs.Sets.{union}
use Rattle.pm_rules.specs.Certificates.{IsCertificate}
use Rattle.pm_rules.specs.Chains.{IsChain, IsUseful, Needed}
use Rattle.pm_rules.specs.Chains.Needed.{is_asked, is_read}
use Rattle.pm_rules.specs.Rules.{IsEnabled, IsInUse, is_barred, rule_at}
use Rattle.pm_rules.specs.declared.rule.Rule.{Rule}
use Rattle.pm_rules.specs.declared.table.Claim.{Claim}
use Rattle.pm_rules.specs.declared.table.TableRow.{TableRow}

-- of the rules in use both lists bar the same
pub record BarSame (book : List Rule) (names : PropSet) (first second : List RuleId) : Type 0 where
  pub each : (id : RuleId) (rule : Rule) → rule_at book id ≡ Some rule → IsInUse names rule → is_barred first id ≡ is_barred second id

pub turned_round : (book : List Rule) (names : PropSet) (first second : List RuleId) → BarSame book names first second → BarSame book names second first
turned_round book names first second same = record { each = λ id rule at in_use. sym (same.each id rule at in_use) }

module _ (book : List Rule) (names : PropSet) (first second : List RuleId) (same : BarSame book names first second) where
  enabled_too : (held : PropSet) (id : RuleId) (rule : Rule) → rule_at book id ≡ Some rule → IsEnabled names first held id rule → IsEnabled names second held id rule
  enabled_too held id rule at e = record {
    in_use = e.in_use;
    allowed = sym (same.each id rule at e.in_use) ∙ e.allowed;
    given = e.given;
    fresh = e.fresh;
    more = e.more;
  }

  pub chain_too : (held : PropSet) (chain : List RuleId) → IsChain book names first held chain → IsChain book names second held chain
  chain_too held [] h = tt
  chain_too held (id ∷ chain) (rule, at, enabled, rest) = (rule, at, enabled_too held id rule at enabled, chain_too (union held rule.kind.targets) chain rest)

  needed_too : (asked : PropSet) (p : PropId) → Needed book names first asked p → Needed book names second asked p
  needed_too asked p (is_asked has) = is_asked has
  needed_too asked p (is_read id rule target at in_use allowed finds needed reads) =
      is_read id rule target at in_use (sym (same.each id rule at in_use) ∙ allowed) finds (needed_too asked target needed) reads

  pub useful_too : (asked : PropSet) (id : RuleId) (rule : Rule) → rule_at book id ≡ Some rule → IsUseful book names first asked id rule → IsUseful book names second asked id rule
  useful_too asked id rule at u = record {
    in_use = u.in_use;
    allowed = sym (same.each id rule at u.in_use) ∙ u.allowed;
    target = (u.target.0, u.target.1, needed_too asked u.target.0 u.target.2);
  }

module _ (book : List Rule) (names : PropSet) (first second : List RuleId) (same : BarSame book names first second) where
  back : BarSame book names second first
  back = turned_round book names first second same

  pub certificate_too : (held asked : PropSet) (claim : Claim) (rows : List TableRow) → IsCertificate book names first held asked claim rows → IsCertificate book names second held asked claim rows
  certificate_too held asked claim rows h = record {
    start = h.start;
    steps = λ k d l within id rule at useful enabled. h.steps k d l within id rule at (useful_too book names second first back asked id rule at useful) (enabled_too book names second first back _ id rule at enabled);
    ends = h.ends;
  }
