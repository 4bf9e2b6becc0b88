-- What chains of a book lead to, they lead to by each book that begins with it.
use Rattle.std.proofs.Common.{ap, append-nil, refl, subst, sym, true≢false, ◌∙◌}
use Rattle.std.proofs.lemmas.Bool.{and_parts}
use Rattle.std.proofs.lemmas.List.Elements.{All-cons, All-head, All-nil, All-tail}
use Rattle.std.specs.List.{All}
use Rattle.std.specs.Option.{is_some}
use Rattle.std.specs.Prelude.{List, Some, [], false, map, not, slice_get, suc, true, zero, ℕ, ◌++◌, ◌∷◌, ◌≡◌}
use Rattle.pm_props.proofs.Every.{has-set_of_filter}
use Rattle.pm_props.proofs.Members.{has-difference}
use Rattle.pm_props.specs.declared.kind.RuleId.{RuleId}
use Rattle.pm_props.specs.declared.set.PropSet.{PropSet}
use Rattle.pm_props.specs.Properties.{is_in_use}
use Rattle.pm_props.specs.Sets.{has, only, union}
use Rattle.pm_rounds.specs.Chains.{held_names}
use Rattle.pm_rules.proofs.Followed.{targets_at_is}
use Rattle.pm_rules.specs.Chains.{IsChain, reached}
use Rattle.pm_rules.specs.Rules.{IsEnabled, is_barred}
use Rattle.pm_rules.specs.declared.rule.Rule.{Rule}
use Rattle.pm_standard.specs.Book.{standard_rule, standard_rules}
use Rattle.pm_standard.specs.Table.{wide_clients}
use Rattle.pm_laws_complete.proofs.Complete.{book_is_complete}
use Rattle.pm_laws_complete.specs.Comes.{StandardChainLeadsNow}
use Rattle.pm_laws_complete.specs.Completeness.{BarsNone, StandardBookIsComplete}
use Rattle.pm_laws_complete.specs.LongerBooks.{ChainsStay, IsComplete, LeadsNow, LongerBooksAreComplete, LongerBooksLeadNow, WideBookIsComplete, WideChainLeadsNow}

-- ---- a rule of the first book has its place in the longer one
rule_stays : (book more : List Rule) (k : ℕ) (rule : Rule) → slice_get book k ≡ Some rule → slice_get (book ++ more) k ≡ Some rule
rule_stays [] more k rule at = absurd (true≢false (sym (ap is_some at)))
rule_stays (r ∷ book) more zero rule at = at
rule_stays (r ∷ book) more (suc k) rule at = rule_stays book more k rule at

module _ (book more : List Rule) (names : PropSet) (barred later : List RuleId) where
  abbrev Free : List RuleId → Type 0
  Free chain = All (λ id. is_barred later id ≡ false) chain

  enabled_there : (held : PropSet) (id : RuleId) (rule : Rule) → is_barred later id ≡ false → IsEnabled names barred held id rule → IsEnabled names later held id rule
  enabled_there held id rule free e = record { in_use = e.in_use; allowed = free; given = e.given; fresh = e.fresh; more = e.more }

  chain_stays : (held : PropSet) (chain : List RuleId) → IsChain book names barred held chain → Free chain → IsChain (book ++ more) names later held chain
  chain_stays held [] h free = tt
  chain_stays held (id ∷ chain) (rule, at, enabled, rest) free = (
    rule,
    rule_stays book more id.0 rule at,
    enabled_there held id rule (All-head (λ x. is_barred later x ≡ false) id chain free) enabled,
    chain_stays (union held rule.kind.targets) chain rest (All-tail (λ x. is_barred later x ≡ false) id chain free),
  )

  reached_stays : (held : PropSet) (chain : List RuleId) → IsChain book names barred held chain → reached (book ++ more) held chain ≡ reached book held chain
  reached_stays held [] h = refl
  reached_stays held (id ∷ chain) (rule, at, enabled, rest) =
      ap (λ t. reached (book ++ more) (union held t) chain) (targets_at_is (book ++ more) id rule (rule_stays book more id.0 rule at))
      ∙ reached_stays (union held rule.kind.targets) chain rest
      ∙ sym (ap (λ t. reached book (union held t) chain) (targets_at_is book id rule at))

pub chains_stay : ChainsStay
chains_stay book more names barred later held asked chain leads free = record {
  enabled = chain_stays book more names barred later held chain leads.enabled free;
  ends = λ p h. subst (λ s. has s p ≡ true) (sym (reached_stays book more names barred later held chain leads.enabled)) (leads.ends p h);
}

-- no rule of a chain is barred
free_chain : (book : List Rule) (names : PropSet) (barred : List RuleId) (held : PropSet) (chain : List RuleId) → IsChain book names barred held chain → All (λ id. is_barred barred id ≡ false) chain
free_chain book names barred held [] h = All-nil (λ id. is_barred barred id ≡ false)
free_chain book names barred held (id ∷ chain) (rule, at, enabled, rest) =
    All-cons (λ x. is_barred barred x ≡ false) id chain enabled.allowed (free_chain book names barred (union held rule.kind.targets) chain rest)

-- ---- books that begin with the standard rules
pub longer_books_are_complete : LongerBooksAreComplete
longer_books_are_complete more sub of not_fan d listed held alone objective barred none p of_table needed =
    let found = book_is_complete sub of not_fan d listed held alone objective barred none p of_table needed in
    (found.0, chains_stay standard_rules more _ barred barred held (only p) found.0 found.1 (free_chain standard_rules _ barred held found.0 found.1.enabled))

pub longer_books_lead_now : LongerBooksLeadNow
longer_books_lead_now more sub c not_fan d listed alone objective nothing p of_table needed barred are =
    let free : BarsNone barred = λ id rule at. are.each id rule (rule_stays standard_rules more id.0 rule at) ∙ nothing id rule at in
    let found = longer_books_are_complete more sub c.object.of not_fan d listed (held_names sub c.object) alone objective barred free p (has-set_of_filter (is_in_use sub c.object.of) p ∙ of_table) needed in (
      found.0,
      record {
        enabled = found.1.enabled;
        ends = λ q h. found.1.ends q (and_parts (has (only p) q) (not (has (held_names sub c.object) q)) (sym (has-difference (only p) (held_names sub c.object) q) ∙ h)).0;
      },
    )

-- the wide book is one
pub wide_book_is_complete : WideBookIsComplete
wide_book_is_complete = longer_books_are_complete (map standard_rule wide_clients)

pub wide_chain_leads_now : WideChainLeadsNow
wide_chain_leads_now = longer_books_lead_now (map standard_rule wide_clients)

-- and the standard one, with nothing behind it
pub standard_book_is_one : LongerBooksAreComplete → StandardBookIsComplete
standard_book_is_one longer = subst IsComplete (append-nil standard_rules) (longer [])

pub standard_book_leads_as_one : LongerBooksLeadNow → StandardChainLeadsNow
standard_book_leads_as_one longer = subst LeadsNow (append-nil standard_rules) (longer [])
