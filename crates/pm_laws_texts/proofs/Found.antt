-- Replies of `explain` as printed plans and refusals.
use Rattle.std.proofs.Common.{◌≡◌, ◌∙◌, ◌++◌, ℕ, ◌<◌, ◌^◌, Bool, Option, Some, None, List, [], ◌∷◌, ap, ap₂, arith, option_map, refl, subst, sym}
use Rattle.std.specs.Prelude.{All, codes, flat_map, map, slice_get, slice_index_or}
use Rattle.std.proofs.lemmas.List.Elements.{All-contains_itself, All-map}
use Rattle.std.proofs.lemmas.Option.{slice_get-map}
use Rattle.pm_client.specs.Starts.{Clients}
use Rattle.pm_machine.specs.Steps.{Explains}
use Rattle.pm_telling.specs.Telling.{names_told}
use Rattle.pm_machine.specs.Steps.Explains.{is_planned, no_chain}
use Rattle.pm_object.specs.Formed.{IsFormed}
use Rattle.pm_object.specs.State.{State, read_at}
use Rattle.pm_props.specs.declared.kind.RuleId.{RuleId}
use Rattle.pm_props.specs.declared.set.PropSet.{PropSet}
use Rattle.pm_props.specs.Properties.{count}
use Rattle.pm_plan.specs.Plans.{IsPlan}
use Rattle.pm_printed.specs.Judging.{Judges, ProvesPlan, all_barred}
use Rattle.pm_printed.specs.Printed.{IsBarred, IsPlanText, IsRefusalText, IsRow}
use Rattle.pm_printed.specs.Printed as printed
use Rattle.pm_printed.specs.Texts as text
use Rattle.pm_printed.specs.declared.judge.Verdict.{Verdict}
use Rattle.pm_printed.specs.declared.judge.Verdict.TheVariants as verdict
use Rattle.pm_printed.specs.declared.question.Question.{Question}
use Rattle.pm_printed.proofs.Accepted.{printed_plans_are_accepted, printed_refusals_are_accepted}
use Rattle.pm_rounds.specs.Chains.{AreBarred, held_names, table}
use Rattle.pm_rules.specs.Books.{IsBook}
use Rattle.pm_rules.specs.Certificates.{IsCertificate, IsTable}
use Rattle.pm_rules.specs.Chains.{LeadsTo}
use Rattle.pm_rules.specs.declared.rule.Rule.{Rule}
use Rattle.pm_rules.specs.declared.table.Claim.{Claim}
use Rattle.pm_rules.specs.declared.table.Claim.TheVariants.{Least, NoChain}
use Rattle.pm_rules.specs.declared.table.TableRow.{TableRow}
use Rattle.pm_script.specs.Replies.{NamesSeen, bar_text, barred_text, explained, label_in, planned, refused, reply_text, rule_text, table_row_text, weight_in}
use Rattle.pm_script.specs.declared.names.Bar.{Bar}
use Rattle.pm_script.specs.declared.refusal.Refusal.TheVariants as refusal
use Rattle.pm_weights.specs.Weights.{cost_text}
use Rattle.pm_weights.specs.declared.Cost.{Cost}
use Rattle.pm_laws_texts.specs.Explained.{Asks, PlansAreFoundLeast, PlansArePrinted, RefusalsAreFound, RefusalsArePrinted, told_text}
use Rattle.pm_laws_texts.proofs.Bounds.{cost_fits, of_book, reached_below, set_below}
use Rattle.pm_laws_texts.proofs.Reasons.{barred_may, told_bar_same}
use Rattle.pm_laws_texts.proofs.OtherBars.{BarSame, certificate_too, chain_too}

-- ---- texts
label_of : (x : Option Rule) → label_in (option_map (λ (rule : Rule). (rule.label, rule.weight)) x) ≡ text.label_in x
label_of None = refl
label_of (Some rule) = refl

weight_of : (x : Option Rule) → weight_in (option_map (λ (rule : Rule). (rule.label, rule.weight)) x) ≡ text.weight_in x
weight_of None = refl
weight_of (Some rule) = refl

module _ (book : List Rule) (o : State) where
  label_is : (id : RuleId) → label_in (slice_get (names_told book o).rules id.0) ≡ text.label_in (slice_get book id.0)
  label_is id = ap label_in (slice_get-map (λ (rule : Rule). (rule.label, rule.weight)) book id.0) ∙ label_of (slice_get book id.0)

  weight_is : (id : RuleId) → weight_in (slice_get (names_told book o).rules id.0) ≡ text.weight_in (slice_get book id.0)
  weight_is id = ap weight_in (slice_get-map (λ (rule : Rule). (rule.label, rule.weight)) book id.0) ∙ weight_of (slice_get book id.0)

  rule_is : (id : RuleId) → rule_text (names_told book o) id ≡ text.rule_text book id
  rule_is id = ap₂ (λ (a b : List ℕ). codes "rule " ++ a ++ codes " " ++ b ++ codes "\n") (label_is id) (weight_is id)

  rules_are : (chain : List RuleId) → flat_map (rule_text (names_told book o)) chain ≡ flat_map (text.rule_text book) chain
  rules_are [] = refl
  rules_are (id ∷ chain) = ap₂ (λ (a b : List ℕ). a ++ b) (rule_is id) (rules_are chain)

  row_is : (row : TableRow) → table_row_text row ≡ text.row_text row
  row_is row = refl

  rows_are : (rows : List TableRow) → flat_map table_row_text rows ≡ flat_map text.row_text rows
  rows_are [] = refl
  rows_are (row ∷ rows) = ap₂ (λ (a b : List ℕ). a ++ b) (row_is row) (rows_are rows)

  plan_is : (chain : List RuleId) (weight : Cost) (rows : List TableRow) (trace : Bool) → reply_text trace (explained chain weight rows (names_told book o)) ≡ text.plan_text book weight chain rows
  plan_is chain weight rows trace =
      ap₂ (λ (a b : List ℕ). codes "plan " ++ cost_text weight ++ codes "\n" ++ a ++ b) (rules_are chain) (rows_are rows)

  barred_is : (x : RuleId × Bar) → barred_text (names_told book o) x ≡ text.barred_text book (x.0, bar_text x.1)
  barred_is x = ap (λ (a : List ℕ). codes "barred " ++ a ++ codes " " ++ bar_text x.1 ++ codes "\n") (label_is x.0)

  told_are : (told : List (RuleId × Bar)) → flat_map (barred_text (names_told book o)) told ≡ flat_map (text.barred_text book) (told_text told)
  told_are [] = refl
  told_are (x ∷ told) = ap₂ (λ (a b : List ℕ). a ++ b) (barred_is x) (told_are told)

  refusal_is : (told : List (RuleId × Bar)) (rows : List TableRow) (trace : Bool) → reply_text trace (refused refusal.NoChain (planned told rows (names_told book o))) ≡ text.refusal_text book (told_text told) rows
  refusal_is told rows trace = ap₂ (λ (a b : List ℕ). text.refused_text ++ a ++ b) (told_are told) (rows_are rows)

-- ---- what may be printed
module _ (book : List Rule) (is : IsBook book) (o : State) (sub : Option ℕ) (asked : PropSet) (barred : List RuleId) where
  held_below : held_names sub o < 2 ^ count
  held_below = set_below 0 (map (λ h. h.property) (read_at sub o.held)) (omega arith)

  rows_may : (claim : Claim) (rows : List TableRow) → IsTable book (table sub o.of) barred (held_names sub o) asked claim rows → All IsRow rows
  rows_may claim rows h = λ k d l.
      let at = h.reached k d l in
      let chain = at.1.0 in
      let reaches = at.1.1 in
      record {
        cost = subst printed.IsCost reaches.cost (cost_fits book is (table sub o.of) barred (held_names sub o) chain reaches.enabled);
        set = subst (λ (s : PropSet). s < 2 ^ count) reaches.set (reached_below book is (table sub o.of) barred (held_names sub o) chain held_below reaches.enabled);
      }

  plan_may : (chain : List RuleId) (weight : Cost) (rows : List TableRow) → IsPlan book (table sub o.of) barred (held_names sub o) asked chain weight rows → printed.IsPlan book weight chain rows
  plan_may chain weight rows h = record {
    cost = subst printed.IsCost (sym h.weighs) (cost_fits book is (table sub o.of) barred (held_names sub o) chain h.least.leads.enabled);
    rules = of_book book is (table sub o.of) barred (held_names sub o) chain h.least.leads.enabled;
    table = rows_may (Least weight) rows h.exact;
  }

pub plans_are_printed : PlansArePrinted
plans_are_printed = λ book clients o sub asked chain weight rows names trace is e. by book clients o sub asked chain weight rows names trace is e
  where
    by : (book : List Rule) (clients : Clients) (o : State) (sub : Option ℕ) (asked : PropSet) (chain : List RuleId) (weight : Cost) (rows : List TableRow) (names : NamesSeen) (trace : Bool)
        → IsBook book → Explains book clients o sub asked (explained chain weight rows names) → IsPlanText book (reply_text trace (explained chain weight rows names)) weight chain rows
    by book clients o sub asked chain weight rows names trace is (is_planned barred bars plan named) = (
      plan_may book is o sub asked barred chain weight rows plan,
      ap (λ (n : NamesSeen). reply_text trace (explained chain weight rows n)) named ∙ plan_is book o chain weight rows trace,
    )

-- ---- what is found
-- two lists of what is barred for an object bar the same
same_bars : (book : List Rule) (clients : Clients) (o : State) (sub : Option ℕ) (names : PropSet) (first second : List RuleId) → AreBarred book clients o sub first → AreBarred book clients o sub second
    → BarSame book names first second
same_bars book clients o sub names first second a b = record { each = λ id rule at in_use. a.each id rule at ∙ sym (b.each id rule at) }

module _ (book : List Rule) (o : State) (sub : Option ℕ) (asked : PropSet) (q : Question) (asks : Asks o sub asked q) where
  leads_for : (bars : List RuleId) (chain : List RuleId) → LeadsTo book (table sub o.of) bars (held_names sub o) asked chain → LeadsTo book q.names bars q.held q.asked chain
  leads_for bars chain h =
      subst (λ (a : PropSet). LeadsTo book q.names bars q.held a chain) (sym asks.wanted)
      (subst (λ (s : PropSet). LeadsTo book q.names bars s asked chain) (sym asks.held)
      (subst (λ (n : PropSet). LeadsTo book n bars (held_names sub o) asked chain) (sym asks.names) h))

  certificate_for : (bars : List RuleId) (claim : Claim) (rows : List TableRow) → IsCertificate book (table sub o.of) bars (held_names sub o) asked claim rows
      → IsCertificate book q.names bars q.held q.asked claim rows
  certificate_for bars claim rows h =
      subst (λ (a : PropSet). IsCertificate book q.names bars q.held a claim rows) (sym asks.wanted)
      (subst (λ (s : PropSet). IsCertificate book q.names bars s asked claim rows) (sym asks.held)
      (subst (λ (n : PropSet). IsCertificate book n bars (held_names sub o) asked claim rows) (sym asks.names) h))

  plan_proves : (barred : List RuleId) (chain : List RuleId) (weight : Cost) (rows : List TableRow) → BarSame book (table sub o.of) barred q.barred.items
      → IsPlan book (table sub o.of) barred (held_names sub o) asked chain weight rows → ProvesPlan book q weight chain rows
  plan_proves barred chain weight rows same h = record {
    leads = leads_for q.barred.items chain (record {
      enabled = chain_too book (table sub o.of) barred q.barred.items same (held_names sub o) chain h.least.leads.enabled;
      ends = h.least.leads.ends;
    });
    weighs = sym h.weighs;
    certificate = certificate_for q.barred.items (Least weight) rows (certificate_too book (table sub o.of) barred q.barred.items same (held_names sub o) asked (Least weight) rows h.certificate);
  }

pub plans_are_found_least : PlansAreFoundLeast
plans_are_found_least = λ book clients o sub asked chain weight rows names trace is e q asks bars v j. by book clients o sub asked chain weight rows names trace is e q asks bars v j
  where
    by : (book : List Rule) (clients : Clients) (o : State) (sub : Option ℕ) (asked : PropSet) (chain : List RuleId) (weight : Cost) (rows : List TableRow) (names : NamesSeen) (trace : Bool)
        → IsBook book → Explains book clients o sub asked (explained chain weight rows names) → (q : Question) → Asks o sub asked q → AreBarred book clients o sub q.barred.items
        → (v : Verdict) → Judges book q (reply_text trace (explained chain weight rows names)) v → v ≡ verdict.Least weight
    by book clients o sub asked chain weight rows names trace is (is_planned barred are plan named) q asks bars v j =
        let printed = plans_are_printed book clients o sub asked chain weight rows names trace is (is_planned barred are plan named) in
        let proves = plan_proves book o sub asked q asks barred chain weight rows (same_bars book clients o sub (table sub o.of) barred q.barred.items are bars) plan in
        printed_plans_are_accepted book q weight chain rows v is printed.0 proves (subst (λ (t : List ℕ). Judges book q t v) printed.1 j)

-- ---- refusals
pub refusals_are_printed : RefusalsArePrinted
refusals_are_printed = λ book clients o sub asked told rows names trace is formed e. by book clients o sub asked told rows names trace is formed e
  where
    by : (book : List Rule) (clients : Clients) (o : State) (sub : Option ℕ) (asked : PropSet) (told : List (RuleId × Bar)) (rows : List TableRow) (names : NamesSeen) (trace : Bool)
        → IsBook book → IsFormed o → Explains book clients o sub asked (refused refusal.NoChain (planned told rows names)) → IsRefusalText book (reply_text trace (refused refusal.NoChain (planned told rows names))) (told_text told) rows
    by book clients o sub asked told rows names trace is formed (no_chain barred are none reasons named) = (
      record {
        rules = All-map (IsBarred book) (λ (x : RuleId × Bar). (x.0, bar_text x.1)) told (λ k d l. barred_may book clients o sub formed told reasons (slice_index_or told k d) (All-contains_itself told k d l));
        table = rows_may book is o sub asked barred NoChain rows none.exact;
      },
      ap (λ (n : NamesSeen). reply_text trace (refused refusal.NoChain (planned told rows n))) named ∙ refusal_is book o told rows trace,
    )

ids_are : (told : List (RuleId × Bar)) → map (λ x. x.0) (told_text told) ≡ map (λ x. x.0) told
ids_are [] = refl
ids_are (x ∷ told) = ap (λ (l : List RuleId). x.0 ∷ l) (ids_are told)

pub refusals_are_found : RefusalsAreFound
refusals_are_found = λ book clients o sub asked told rows names trace is formed e q asks none v j. by book clients o sub asked told rows names trace is formed e q asks none v j
  where
    by : (book : List Rule) (clients : Clients) (o : State) (sub : Option ℕ) (asked : PropSet) (told : List (RuleId × Bar)) (rows : List TableRow) (names : NamesSeen) (trace : Bool)
        → IsBook book → IsFormed o → Explains book clients o sub asked (refused refusal.NoChain (planned told rows names)) → (q : Question) → Asks o sub asked q → q.barred.items ≡ []
        → (v : Verdict) → Judges book q (reply_text trace (refused refusal.NoChain (planned told rows names))) v → v ≡ verdict.NoChain
    by book clients o sub asked told rows names trace is formed (no_chain barred are none reasons named) q asks no_more v j =
        let printed = refusals_are_printed book clients o sub asked told rows names trace is formed (no_chain barred are none reasons named) in
        let ids : all_barred q (told_text told) ≡ map (λ x. x.0) told = ap (λ (l : List RuleId). l ++ map (λ x. x.0) (told_text told)) no_more ∙ ids_are told in
        let same = told_bar_same book clients o sub formed told reasons barred (all_barred q (told_text told)) are ids in
        let proves = certificate_for book o sub asked q asks (all_barred q (told_text told)) NoChain rows
        (certificate_too book (table sub o.of) barred (all_barred q (told_text told)) same (held_names sub o) asked NoChain rows none.certificate) in
        printed_refusals_are_accepted book q (told_text told) rows v is printed.0 proves (subst (λ (t : List ℕ). Judges book q t v) printed.1 j)
