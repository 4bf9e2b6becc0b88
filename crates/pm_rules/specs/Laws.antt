-- Laws on chains and certificates.
use Rattle.std.specs.Prelude.{List}
use Rattle.pm_props.specs.declared.set.PropSet.{PropSet}
use Rattle.pm_props.specs.declared.kind.RuleId.{RuleId}
use Rattle.pm_weights.specs.declared.Cost.{Cost}
use Rattle.pm_weights.specs.Weights.{IsAtMost}
use Rattle.pm_rules.specs.declared.rule.Rule.{Rule}
use Rattle.pm_rules.specs.declared.table.TableRow.{TableRow}
use Rattle.pm_rules.specs.declared.table.Claim.TheVariants.{Least, NoChain}
use Rattle.pm_rules.specs.Chains.{LeadsTo, HasNoChain, IsUsefulPart, weigh}
use Rattle.pm_rules.specs.Certificates.{IsCertificate}

-- a chain without the rules that are not useful leads to the same names, and weighs no more
abbrev pub UsefulPartLeads : Type 0
UsefulPartLeads = (book : List Rule) (names : PropSet) (barred : List RuleId) (held asked : PropSet)
    (chain kept : List RuleId)
    → LeadsTo book names barred held asked chain → IsUsefulPart book names barred asked chain kept
    → LeadsTo book names barred held asked kept × IsAtMost (weigh book kept) (weigh book chain)

-- no chain, also of rules that are not useful, weighs less than a certificate says
abbrev pub CertificateBounds : Type 0
CertificateBounds = (book : List Rule) (names : PropSet) (barred : List RuleId) (held asked : PropSet)
    (least : Cost) (table : List TableRow)
    → IsCertificate book names barred held asked (Least least) table
    → (chain : List RuleId) → LeadsTo book names barred held asked chain → IsAtMost least (weigh book chain)

-- there is no chain where a certificate says so
abbrev pub CertificateExcludes : Type 0
CertificateExcludes = (book : List Rule) (names : PropSet) (barred : List RuleId) (held asked : PropSet)
    (table : List TableRow)
    → IsCertificate book names barred held asked NoChain table → HasNoChain book names barred held asked
