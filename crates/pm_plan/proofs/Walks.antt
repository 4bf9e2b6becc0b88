-- Chains of useful rules are the ways that moves lead.
use Rattle.std.proofs.Common.{◌≡◌, ℕ, zero, suc, ◌+◌, ◌<◌, ◌≤◌, Option, Some, None, List, [], ◌∷◌, ◌++◌, length, take, refl, sym, ap, ◌∙◌, subst, arith, unwrap_or, option_map, All}
use Rattle.std.specs.Prelude.{slice_get}
use Rattle.std.proofs.lemmas.List.Elements.{All-contains}
use Rattle.std.proofs.lemmas.List.Sums.{sum_by-cons}
use Rattle.std.proofs.lemmas.Option.{slice_get-get_or, slice_get_within}
use Rattle.pm_props.specs.declared.set.PropSet.{PropSet}
use Rattle.pm_props.specs.declared.kind.RuleId.{RuleId}
use Rattle.pm_weights.specs.declared.Weight.{Weight}
use Rattle.pm_weights.specs.declared.Cost.{Cost}
use Rattle.pm_props.specs.Sets.{union}
use Rattle.pm_weights.specs.Weights.{IsWeight, plus, no_cost, IsBelow, IsAtMost}
use Rattle.pm_weights.proofs.CostOrder.{at_most_itself, at_most_from_below, at_most_trans}
use Rattle.pm_rules.specs.declared.rule.Rule.{Rule}
use Rattle.pm_rules.specs.declared.step.Step.{Step}
use Rattle.pm_rules.specs.declared.table.TableRow.{TableRow}
use Rattle.pm_rules.specs.Rules.{rule_at, IsEnabled}
use Rattle.pm_rules.specs.Steps.{step_of, IsOpen}
use Rattle.pm_rules.specs.Chains.{IsChain, weight_at, reached, weigh, IsUseful, AreUseful}
use Rattle.pm_rules.specs.Certificates.{Reaches}
use Rattle.pm_rules.proofs.Opens.{enabled_from_open, open_from_enabled}
use Rattle.pm_rules.proofs.Followed.{targets_at_is}
use Rattle.pm_plan.specs.declared.moves.Move.{Move}
use Rattle.pm_plan.specs.declared.track.Link.{Link}
use Rattle.pm_plan.specs.Moves.{move_of, after, IsMove, AreMoves}
use Rattle.pm_plan.specs.Tracks.{Makes, LinksTo, AreLinked, Leads, GoesBack, IsTrack}
use Rattle.pm_plan.specs.Tracks.IsTrack.{begun, onward}
use Rattle.pm_plan.proofs.Options.{same_some, if_some_from, get_taken, get_in_front}
use Rattle.pm_rules.proofs.RowOrder.{same_cost, same_row}
use Rattle.pm_plan.proofs.Order.{below_plus}

-- ---- one step more
pub leads_snoc : (moves : List Move) (row mid end : TableRow) (chain : List RuleId) (id : RuleId) → Leads moves row chain mid → Makes moves id mid end → Leads moves row (chain ++ id ∷ []) end
leads_snoc moves row mid end [] id h makes = (end, subst (λ (r : TableRow). Makes moves id r end) (sym h) makes, refl)
leads_snoc moves row mid end (first ∷ chain) id (next, step, rest) makes = (next, step, leads_snoc moves next mid end chain id rest makes)

links_whole : (moves : List Move) (start : TableRow) (rows : List TableRow) (n : ℕ) (link : Option Link) (row : TableRow) → LinksTo moves start (take n rows) link row → LinksTo moves start rows link row
links_whole moves start rows n None row h = h
links_whole moves start rows n (Some link) row (before, there, makes) = (before, (get_taken rows n link.from before there).1, makes)

links_shorter : (moves : List Move) (start : TableRow) (rows : List TableRow) (m n : ℕ) (link : Option Link) (row : TableRow) → m ≤ n → LinksTo moves start (take m rows) link row
    → LinksTo moves start (take n rows) link row
links_shorter moves start rows m n None row h e = e
links_shorter moves start rows m n (Some link) row h (before, there, makes) =
    let at = get_taken rows m link.from before there in
    (before, get_in_front rows n link.from before (omega arith) at.1, makes)

-- ---- what the links say
pub track_leads : (moves : List Move) (start : TableRow) (rows : List TableRow) (links : List (Option Link)) → AreLinked moves start rows links
    → {last : Option Link} {chain : List RuleId} → IsTrack links last chain → (row : TableRow) → LinksTo moves start rows last row → Leads moves start chain row
track_leads moves start rows links h begun row e = sym e
track_leads moves start rows links h (onward {chain} link before at track) row (mid, there, makes) =
    leads_snoc moves start mid row chain link.id
    (track_leads moves start rows links h track mid (links_whole moves start rows link.from before mid (h.linked link.from mid before there at))) makes

pub linked_leads : (moves : List Move) (start : TableRow) (rows : List TableRow) (links : List (Option Link)) → AreLinked moves start rows links
    → (n : ℕ) (link : Option Link) (row : TableRow) → LinksTo moves start (take n rows) link row → (chain : List RuleId) × Leads moves start chain row
linked_leads moves start rows links h n None row e = ([], sym e)
linked_leads moves start rows links h zero (Some link) row (mid, there, makes) = absurd (let at = get_taken rows 0 link.from mid there in omega arith)
linked_leads moves start rows links h (suc n) (Some link) row (mid, there, makes) =
    let at = get_taken rows (suc n) link.from mid there in
    let within = slice_get_within rows link.from mid at.1 in
    let before = slice_get-get_or links link.from None (omega (arith, h.paired)) in
    let back = h.linked link.from mid _ at.1 before in
    let chain = linked_leads moves start rows links h n _ mid (links_shorter moves start rows link.from n _ mid (omega arith) back) in
    (chain.0 ++ link.id ∷ [], leads_snoc moves start mid row chain.0 link.id chain.1 makes)

pub row_leads : (moves : List Move) (start : TableRow) (rows : List TableRow) (links : List (Option Link)) → AreLinked moves start rows links
    → (i : ℕ) (row : TableRow) → slice_get rows i ≡ Some row → (chain : List RuleId) × Leads moves start chain row
row_leads moves start rows links h i row e =
    let within = slice_get_within rows i row e in
    let link = slice_get-get_or links i None (omega (arith, h.paired)) in
    linked_leads moves start rows links h i _ row (h.linked i row _ e link)

pub link_leads : (moves : List Move) (start : TableRow) (rows : List TableRow) (links : List (Option Link)) → AreLinked moves start rows links
    → (link : Option Link) (row : TableRow) → LinksTo moves start rows link row → (chain : List RuleId) × Leads moves start chain row
link_leads moves start rows links h None row e = ([], sym e)
link_leads moves start rows links h (Some link) row (mid, there, makes) =
    let chain = row_leads moves start rows links h link.from mid there in
    (chain.0 ++ link.id ∷ [], leads_snoc moves start mid row chain.0 link.id chain.1 makes)

pub goes_back : (moves : List Move) (start : TableRow) (rows : List TableRow) (links : List (Option Link)) (last : Option Link) (row : TableRow) → AreLinked moves start rows links
    → LinksTo moves start rows last row → GoesBack links last
goes_back moves start rows links last row h l = record {
  here = if_some_from last (λ link. link.from < length links) (λ link e.
      let at = subst (λ (o : Option Link). LinksTo moves start rows o row) e l in
      let within = slice_get_within rows link.from at.0 at.1 in
      omega (arith, h.paired));
  each = λ i link at.
      let within = slice_get_within links i (Some link) at in
      let there = slice_get-get_or rows i start (omega (arith, h.paired)) in
      let linked = h.linked i _ (Some link) there at in
      (get_taken rows i link.from linked.0 linked.1).0;
}

-- ---- costs rise along the way
module _ (moves : List Move) (weights : All (λ m. IsWeight m.weight) moves) where
  pub makes_dearer : (id : RuleId) (row next : TableRow) → Makes moves id row next → IsBelow row.cost next.cost
  makes_dearer id row next makes =
      subst (λ (r : TableRow). IsBelow row.cost r.cost) (sym makes.leads)
      (below_plus row.cost makes.move.weight (All-contains (λ (x : Move). IsWeight x.weight) moves makes.move weights makes.among))

  pub leads_dearer : (chain : List RuleId) (row end : TableRow) → Leads moves row chain end → IsAtMost row.cost end.cost
  leads_dearer [] row end e = subst (λ (r : TableRow). IsAtMost row.cost r.cost) e (at_most_itself row.cost)
  leads_dearer (id ∷ chain) row end (next, makes, rest) =
      at_most_trans row.cost next.cost end.cost (at_most_from_below row.cost next.cost (makes_dearer id row next makes)) (leads_dearer chain next end rest)

-- ---- chains of useful rules
-- what is spent, and then what the chain weighs
spent : List Rule → Cost → List RuleId → Cost
spent book cost chain = record { class = cost.class + (weigh book chain).class; minor = cost.minor + (weigh book chain).minor }

weight_at_is : (book : List Rule) (id : RuleId) (rule : Rule) → rule_at book id ≡ Some rule → weight_at book id ≡ rule.weight
weight_at_is book id rule e = ap (λ (o : Option Rule). unwrap_or (option_map (λ (r : Rule). r.weight) o) (record { class = 0; minor = 0 })) e

spent-none : (book : List Rule) (cost : Cost) → spent book cost [] ≡ cost
unfolding spent
spent-none book cost = same_cost (spent book cost []) cost (omega arith) (omega arith)

spent-cons : (book : List Rule) (cost : Cost) (id : RuleId) (chain : List RuleId) → spent book cost (id ∷ chain) ≡ spent book (plus cost (weight_at book id)) chain
unfolding spent
spent-cons book cost id chain =
    let classes = sum_by-cons (λ (i : RuleId). (weight_at book i).class) id chain in
    let minors = sum_by-cons (λ (i : RuleId). (weight_at book i).minor) id chain in
    same_cost (spent book cost (id ∷ chain)) (spent book (plus cost (weight_at book id)) chain) (omega arith) (omega arith)

spent-from_none : (book : List Rule) (chain : List RuleId) → spent book no_cost chain ≡ weigh book chain
unfolding spent
spent-from_none book chain = same_cost (spent book no_cost chain) (weigh book chain) (omega arith) (omega arith)

module _ (book : List Rule) (names : PropSet) (barred : List RuleId) (asked : PropSet) (moves : List Move) (are : AreMoves book names barred asked moves) where
  -- the rule of a move that is made
  pub record MadeBy (id : RuleId) (row next : TableRow) : Type 0 where
    pub rule : Rule
    pub there : rule_at book id ≡ Some rule
    pub useful : IsUseful book names barred asked id rule
    pub enabled : IsEnabled names barred row.set id rule
    pub set : next.set ≡ union row.set rule.kind.targets
    pub cost : next.cost ≡ plus row.cost rule.weight

  pub made_by : (id : RuleId) (row next : TableRow) → Makes moves id row next → MadeBy id row next
  made_by id row next makes =
      let is = All-contains (IsMove book names barred asked) moves makes.move are.each makes.among in
      let there : rule_at book id ≡ Some is.rule = subst (λ (i : RuleId). rule_at book i ≡ Some is.rule) makes.rule is.there in
      let useful : IsUseful book names barred asked id is.rule = subst (λ (i : RuleId). IsUseful book names barred asked i is.rule) makes.rule is.useful in
      let step : makes.move.step ≡ step_of is.rule = ap (λ (m : Move). m.step) is.same in
      let weight : makes.move.weight ≡ is.rule.weight = ap (λ (m : Move). m.weight) is.same in
      record {
        rule = is.rule;
        there = there;
        useful = useful;
        enabled = enabled_from_open names barred row.set id is.rule useful.in_use useful.allowed (subst (λ (s : Step). IsOpen s row.set) step makes.opened);
        set = ap (λ (r : TableRow). r.set) makes.leads ∙ ap (λ (s : Step). union row.set s.targets) step;
        cost = ap (λ (r : TableRow). r.cost) makes.leads ∙ ap (plus row.cost) weight;
      }

  leads_chain : (chain : List RuleId) (row end : TableRow) → Leads moves row chain end
      → IsChain book names barred row.set chain × AreUseful book names barred asked chain × (reached book row.set chain ≡ end.set) × (spent book row.cost chain ≡ end.cost)
  leads_chain [] row end e = (tt, tt, ap (λ (r : TableRow). r.set) e, spent-none book row.cost ∙ ap (λ (r : TableRow). r.cost) e)
  leads_chain (id ∷ chain) row end (next, makes, rest) =
      let by = made_by id row next makes in
      let more = leads_chain chain next end rest in (
        (by.rule, by.there, by.enabled, subst (λ (s : PropSet). IsChain book names barred s chain) by.set more.0),
        ((λ rule e. subst (IsUseful book names barred asked id) (same_some by.rule rule (sym by.there ∙ e)) by.useful), more.1),
        ap (λ (s : PropSet). reached book s chain) (ap (union row.set) (targets_at_is book id by.rule by.there) ∙ sym by.set) ∙ more.2,
        spent-cons book row.cost id chain ∙ ap (λ (c : Cost). spent book c chain) (ap (plus row.cost) (weight_at_is book id by.rule by.there) ∙ sym by.cost) ∙ more.3,
      )

  chain_leads : (chain : List RuleId) (row : TableRow) → IsChain book names barred row.set chain → AreUseful book names barred asked chain
      → Leads moves row chain (record { set = reached book row.set chain; cost = spent book row.cost chain })
  chain_leads [] row h u = same_row row (record { set = row.set; cost = spent book row.cost [] }) refl (sym (spent-none book row.cost))
  chain_leads (id ∷ chain) row (rule, e, enabled, rest) u =
      let next : TableRow = after row (move_of id rule) in
      let same : record { set = reached book next.set chain; cost = spent book next.cost chain } ≡ record { set = reached book row.set (id ∷ chain); cost = spent book row.cost (id ∷ chain) } =
      same_row (record { set = reached book next.set chain; cost = spent book next.cost chain }) (record { set = reached book row.set (id ∷ chain); cost = spent book row.cost (id ∷ chain) })
      (ap (λ (s : PropSet). reached book (union row.set s) chain) (sym (targets_at_is book id rule e)))
      (ap (λ (w : Weight). spent book (plus row.cost w) chain) (sym (weight_at_is book id rule e)) ∙ sym (spent-cons book row.cost id chain)) in (
        next,
        record { move = move_of id rule; among = are.whole id rule e (u.0 rule e); rule = refl; opened = open_from_enabled names barred row.set id rule enabled; leads = refl },
        subst (Leads moves next chain) same (chain_leads chain next rest u.1),
      )

  pub reaches_leads : (held : PropSet) (row : TableRow) (chain : List RuleId) → Reaches book names barred held asked row chain → Leads moves (record { set = held; cost = no_cost }) chain row
  reaches_leads held row chain h =
      subst (Leads moves (record { set = held; cost = no_cost }) chain)
      (same_row (record { set = reached book held chain; cost = spent book no_cost chain }) row h.set (spent-from_none book chain ∙ h.cost))
      (chain_leads chain (record { set = held; cost = no_cost }) h.enabled h.useful)

  pub leads_reaches : (held : PropSet) (row : TableRow) (chain : List RuleId) → Leads moves (record { set = held; cost = no_cost }) chain row → Reaches book names barred held asked row chain
  leads_reaches held row chain h =
      let parts = leads_chain chain (record { set = held; cost = no_cost }) row h in
      record { enabled = parts.0; useful = parts.1; set = parts.2; cost = sym (spent-from_none book chain) ∙ parts.3 }
