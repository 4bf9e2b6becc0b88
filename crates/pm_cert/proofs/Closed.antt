-- The passes over rules and rows, and what they say of the table as a whole.
use Rattle.std.proofs.Common.{◌≡◌, ℕ, ◌+◌, ◌<◌, Bool, ◌↔◌, IsTrue, Some, List, inl, inr, All, Contains, sym, ap, ◌∙◌, subst, arith}
use Rattle.std.specs.Prelude.{slice_get}
use Rattle.std.proofs.lemmas.Bool.{cases_lt}
use Rattle.pm_props.specs.declared.property.PropId.{PropId}
use Rattle.pm_props.specs.declared.set.PropSet.{PropSet}
use Rattle.pm_props.specs.declared.kind.RuleId.{RuleId}
use Rattle.pm_props.specs.Sets.{has, IsSubset}
use Rattle.pm_weights.specs.Weights.{no_cost}
use Rattle.pm_rules.specs.declared.rule.Rule.{Rule}
use Rattle.pm_rules.specs.declared.table.TableRow.{TableRow}
use Rattle.pm_rules.specs.declared.table.Claim.{Claim}
use Rattle.pm_rules.specs.declared.table.Claim.TheVariants.{Least, NoChain}
use Rattle.pm_rules.specs.Rules.{rule_at}
use Rattle.pm_rules.specs.Steps.{step_of}
use Rattle.pm_rules.specs.Chains.{Needed}
use Rattle.pm_rules.specs.Useful.{FindsOne}
use Rattle.pm_rules.specs.Certificates.{Within, IsCertificate}
use Rattle.pm_rules.proofs.NeededNames.{useful_exactly}
use Rattle.pm_rules.proofs.Opens.{enabled_from_open, open_from_enabled}
use Rattle.pm_rules.proofs.Refutes.{refuted, bounded}
use Rattle.pm_cert.specs.Claims.{IsTrueClaim, GoesOn}

-- the first n rules go on from each row
abbrev pub FirstGoOn : List Rule → PropSet → List RuleId → PropSet → List TableRow → Claim → ℕ → Type 0
FirstGoOn rules names barred needed rows claim n = (id : RuleId) (rule : Rule) → id.0 < n → rule_at rules id ≡ Some rule → FindsOne names barred needed id rule
    → All (GoesOn rows claim (step_of rule) rule.weight) rows

some_same : {X : Type 0} (x y : X) → Some x ≡ Some y → x ≡ y
some_same x y e = cc

module _ (rules : List Rule) (names : PropSet) (barred : List RuleId) (needed : PropSet) (rows : List TableRow) (claim : Claim) where
  pub first_more : (i : ℕ) (item : Rule) → slice_get rules i ≡ Some item
      → (FindsOne names barred needed (record { 0 = i }) item → All (GoesOn rows claim (step_of item) item.weight) rows)
      → FirstGoOn rules names barred needed rows claim i → FirstGoOn rules names barred needed rows claim (i + 1)
  first_more i item there here h = λ id rule low e finds. elim (cases_lt id.0 i) [
    | inl l ↦ h id rule l e finds
    | inr l ↦
        let same : id.0 ≡ i = omega arith in
        let is : item ≡ rule = some_same item rule (sym there ∙ ap (slice_get rules) (sym same) ∙ e) in
        subst (λ (r : Rule). All (GoesOn rows claim (step_of r) r.weight) rows) is
        (here (subst (λ (r : Rule). FindsOne names barred needed (record { 0 = i }) r) (sym is) (subst (λ (n : ℕ). FindsOne names barred needed (record { 0 = n }) rule) same finds)))
  ]

-- ---- the whole table
module _ (book : List Rule) (names : PropSet) (barred : List RuleId) (held asked needed : PropSet) (claim : Claim) (rows : List TableRow)
    (exact : (p : PropId) → IsTrue (has needed p) ↔ Needed book names barred asked p) where
  -- the last of the tests says whether the table is a certificate, where it has its start and no row that holds all that is asked
  pub certificate_exactly : (d : Bool) → (Within claim no_cost → Contains rows (record { set = held; cost = no_cost }))
      → All (λ row. Within claim row.cost → IsSubset asked row.set → ⊥) rows
      → IsTrue d ↔ ((id : RuleId) (rule : Rule) → rule_at book id ≡ Some rule → FindsOne names barred needed id rule → All (GoesOn rows claim (step_of rule) rule.weight) rows)
      → IsTrue d ↔ IsCertificate book names barred held asked claim rows
  certificate_exactly d start ends is_d = (
    (λ h. record {
      start = start;
      steps = λ k r l within id rule e useful enabled.
          (is_d.0 h id rule e ((useful_exactly book names barred asked needed id rule exact).1 useful) k r l).onward within (open_from_enabled names barred _ id rule enabled);
      ends = ends;
    }),
    (λ h. is_d.1 (λ id rule e finds k r l. record {
      onward = λ within opened. h.steps k r l within id rule e ((useful_exactly book names barred asked needed id rule exact).0 finds)
          (enabled_from_open names barred _ id rule finds.in_use finds.allowed opened);
    })),
  )

pub claim_holds : (book : List Rule) (names : PropSet) (barred : List RuleId) (held asked : PropSet) (claim : Claim) (rows : List TableRow)
    → IsCertificate book names barred held asked claim rows → IsTrueClaim book names barred held asked claim
claim_holds book names barred held asked (Least least) rows h = bounded book names barred held asked least rows h
claim_holds book names barred held asked NoChain rows h = λ chain leads. refuted book names barred held asked NoChain rows h chain leads tt
