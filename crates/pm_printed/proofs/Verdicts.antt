-- What stands and what falls of a plan, and what it proves.
use Rattle.std.proofs.Common.{◌≡◌, ℕ, ◌+◌, ◌≤◌, Some, List, length, get_or, sym, ◌∙◌, subst, arith, Contains}
use Rattle.std.specs.Prelude.{Err, IfOk, Ok, Result, slice_get}
use Rattle.std.proofs.lemmas.Option.{same_Some, slice_get-get_or, slice_get_within}
use Rattle.pm_props.specs.declared.kind.RuleId.{RuleId}
use Rattle.pm_weights.specs.declared.Cost.{Cost}
use Rattle.pm_rules.specs.declared.rule.Rule.{Rule}
use Rattle.pm_rules.specs.declared.table.TableRow.{TableRow}
use Rattle.pm_rules.specs.declared.table.Claim.{Claim}
use Rattle.pm_rules.specs.declared.table.Claim.TheVariants.{Least, NoChain}
use Rattle.pm_weights.specs.Weights.{no_cost, IsAtMost}
use Rattle.pm_rules.specs.Chains.{IsChain, weigh}
use Rattle.pm_rules.proofs.Refutes.{bounded, refuted}
use Rattle.pm_printed.proofs.Chains.{chain_front}
use Rattle.pm_rules.specs.Certificates.{Within, IsCertificate}
use Rattle.pm_cert.specs.Claims.{StandsIn, UpTo}
use Rattle.pm_printed.specs.declared.judge.Verdict.{Verdict}
use Rattle.pm_printed.specs.declared.question.Question.{Question}
use Rattle.pm_printed.specs.Judging.Judges.{of_refusal}
use Rattle.pm_printed.specs.Printed.{IsRefusalText}
use Rattle.pm_printed.specs.Judging.{FallsAt, HeadStands, Judges, JudgesRefusal, ProvedPlansAreLeast, ProvedRefusalsExclude, ProvesPlan, StopsAt, all_barred}

-- in a certificate each row stands
pub stands_from_certificate : (book : List Rule) (q : Question) (barred : List RuleId) (claim : Claim) (rows : List TableRow) (k : ℕ) (row : TableRow) → slice_get rows k ≡ Some row
    → IsCertificate book q.names barred q.held q.asked claim rows → StandsIn book q.names barred q.asked rows claim row
stands_from_certificate book q barred claim rows k row e h =
    let within = slice_get_within rows k row e in
    let at : get_or rows k row ≡ row = same_Some (get_or rows k row) row (sym (slice_get-get_or rows k row within) ∙ e) in
    subst (λ (r : TableRow). StandsIn book q.names barred q.asked rows claim r) at (record { onward = h.steps k row within; ends = h.ends k row within })

-- a row that falls is in no certificate
pub none_where_row_falls : (book : List Rule) (q : Question) (barred : List RuleId) (claim : Claim) (rows : List TableRow) (k : ℕ) → FallsAt book q barred claim rows k
    → IsCertificate book q.names barred q.held q.asked claim rows → ⊥
none_where_row_falls book q barred claim rows k falls h =
    let d : TableRow = record { set = 0; cost = no_cost } in
    let there : slice_get rows k ≡ Some (get_or rows k d) = slice_get-get_or rows k d falls.within in
    falls.next (get_or rows k d) there (stands_from_certificate book q barred claim rows k (get_or rows k d) there h)

-- rows that all stand, with the start, are a certificate
pub certificate_where_all_stand : (book : List Rule) (q : Question) (barred : List RuleId) (claim : Claim) (rows : List TableRow) (n : ℕ)
    → (Within claim no_cost → Contains rows (record { set = q.held; cost = no_cost })) → length rows ≤ n → UpTo n (StandsIn book q.names barred q.asked rows claim) rows
    → IsCertificate book q.names barred q.held q.asked claim rows
certificate_where_all_stand book q barred claim rows n start all stand = record {
  start = start;
  steps = λ k row l. (stand k (get_or rows k row) (omega arith) (slice_get-get_or rows k row l)).onward;
  ends = λ k row l. (stand k (get_or rows k row) (omega arith) (slice_get-get_or rows k row l)).ends;
}

-- a plan proves itself least where all stands
pub proves_where_all_stand : (book : List Rule) (q : Question) (weight : Cost) (chain : List RuleId) (rows : List TableRow) (n : ℕ) → HeadStands book q weight chain rows
    → IsChain book q.names q.barred.items q.held chain → length rows ≤ n → UpTo n (StandsIn book q.names q.barred.items q.asked rows (Least weight)) rows → ProvesPlan book q weight chain rows
proves_where_all_stand book q weight chain rows n head follows all stand = record {
  leads = record { enabled = follows; ends = head.ends };
  weighs = head.weighs;
  certificate = certificate_where_all_stand book q q.barred.items (Least weight) rows n head.start all stand;
}

pub head_from_proof : (book : List Rule) (q : Question) (weight : Cost) (chain : List RuleId) (rows : List TableRow) → ProvesPlan book q weight chain rows → HeadStands book q weight chain rows
head_from_proof book q weight chain rows h = record { weighs = h.weighs; ends = h.leads.ends; start = h.certificate.start }

-- a chain that stops is none
pub none_where_chain_stops : (book : List Rule) (q : Question) (weight : Cost) (chain : List RuleId) (rows : List TableRow) (k : ℕ) → StopsAt book q chain k → ProvesPlan book q weight chain rows → ⊥
none_where_chain_stops book q weight chain rows k stops h = stops.next (chain_front book q.names q.barred.items q.held (k + 1) chain h.leads.enabled)

-- a verdict on what was read is one on the text
pub refused : {E : Type 0} (r : Result Verdict E) (book : List Rule) (q : Question) (text : List ℕ) (told : List (RuleId × List ℕ)) (rows : List TableRow) → IsRefusalText book text told rows
    → IfOk r (JudgesRefusal book q told rows) → IfOk r (Judges book q text)
refused (Ok v) book q text told rows e h = of_refusal told rows e h
refused (Err x) book q text told rows e h = tt

-- ---- laws
pub proved_plans_are_least : ProvedPlansAreLeast
proved_plans_are_least = λ book q weight chain rows h. record {
  leads = h.leads;
  least = λ other leads. subst (λ (c : Cost). IsAtMost c (weigh book other)) (sym h.weighs) (bounded book q.names q.barred.items q.held q.asked weight rows h.certificate other leads);
}

pub proved_refusals_exclude : ProvedRefusalsExclude
proved_refusals_exclude = λ book q told rows h chain leads. refuted book q.names (all_barred q told) q.held q.asked NoChain rows h chain leads tt
