-- Rules are gone along as they are read.
use Rattle.std.proofs.Common.{◌≡◌, ◌∙◌, ◌++◌, ◌+◌, ◌<◌, ◌≤◌, ◌&&◌, ◌⊎◌, ℕ, zero, suc, Bool, true, false, Some, Result, Ok, Err, List, [], ◌∷◌, ap, append-nil, append_assoc, arith, codes, cond, eqb, find, inl, inr, length, length-append, refl, subst, sym}
use Rattle.std.specs.Str.{bytes_eq}
use Rattle.std.proofs.lemmas.Bool.{and_from, and_parts, both_ways, eq-eqb, eqb-true}
use Rattle.std.proofs.lemmas.Slice.Eq.{bytes_eq-Decides}
use Rattle.pm_books.specs.Grammar.{AddConditions, AreNames, Condition, Written}
use Rattle.pm_books.specs.Reading.{◌>>=◌, Body, Conditions, Head, Tail, after, agrees, begins_with, body_from, close_from, conditions_from, head_from, is_within, kind_from, label_from, made_rule, mismatch, names_from, no_conditions, preconditions_from, rule_from, rules_from, tail_from, token_where, weight_from}
use Rattle.pm_books.specs.Reading.{Due as Coming}
use Rattle.pm_books.specs.Tokens.{Token}
use Rattle.pm_books.specs.declared.fail.BookFail.{BookFail}
use Rattle.pm_books.proofs.ReadBooks.{within_from_test}
use Rattle.pm_limits.specs.Limits.{most_rules}
use Rattle.pm_props.specs.Sets.{IsWithin, intersection}
use Rattle.pm_props.specs.declared.kind.Kind.{Kind}
use Rattle.pm_props.specs.declared.set.PropSet.{PropSet}
use Rattle.pm_rules.specs.Words.{is_label, precondition_word}
use Rattle.pm_rules.specs.declared.rule.Rule.{Rule}
use Rattle.pm_weights.specs.declared.Weight.{Weight}
use Rattle.pm_laws_texts.specs.BookFaults.{Differs}
use Rattle.pm_laws_texts.proofs.Along.{label_is_other}
use Rattle.pm_laws_texts.proofs.Going.{First, Goes, IsFine, IsPlain, Stopped, Went, goes_on, one_first, stopped_behind, then_went, went_as}
use Rattle.pm_laws_texts.proofs.Named.{one_conditions, one_set}
use Rattle.pm_laws_texts.proofs.NamesRead.{HasConditions, HasNames, IsNaming, NoComma, conditions_read, names_read}
use Rattle.pm_laws_texts.proofs.PartsRead.{AreLabelled, IsLast, IsStart, Parted, after_went, close_went, kind_went, label_went, weight_went}
use Rattle.pm_laws_texts.proofs.Walks.{State, at, has_none, labelled, step, some_is, when, with_client, with_conditions, with_sources, with_targets, with_weight}
use Rattle.pm_laws_texts.proofs.Walks.Due.{behind, client, closing, colon, condition, conditions_on, ending, label, opening, ruled, source, sources_on, target, targets_on, weighing, weight}

-- ---- what is had of a rule
pub record HasHead (had : List Rule) (written : List Written) (x : Head) (t : State) : Type 0 where
  pub targets : List (List ℕ)
  pub sources : List (List ℕ)
  pub state : t ≡ at sources_on written (with_sources (with_targets (labelled x.label) targets) sources)
  pub are_targets : AreNames targets x.targets
  pub are_sources : AreNames sources x.sources
  pub last : NoComma x.rest
  pub room : length had < most_rules

pub record HasBody (kinds : List Kind) (written : List Written) (w : Written) (x : Body) (t : State) : Type 0 where
  pub client : List ℕ
  pub weight : List ℕ
  pub state : t ≡ at ending written (with_weight (with_client w client) weight)
  pub is_kind : find (λ (k : Kind). bytes_eq k.name client) kinds ≡ Some x.kind

pub record HasTail (written : List Written) (w : Written) (x : Tail) (taken : List Token) (t : State) : Type 0 where
  pub conditions : List Condition
  pub state : t ≡ at behind written (with_conditions w conditions)
  pub added : AddConditions conditions no_conditions x.conditions
  pub last : IsLast taken x.past
  pub parted : Parted (with_conditions w conditions) x.rest

module _ (kinds : List Kind) (end : ℕ) where
  -- plain states
  plain_colon : (had : List Written) (w : Written) → IsPlain kinds (at colon had w)
  plain_colon had w = record { none = λ word k f h. h; inside = λ e. cc; midway = λ rules h. h }

  plain_ruled : (had : List Written) (w : Written) → IsPlain kinds (at ruled had w)
  plain_ruled had w = record { none = λ word k f h. h; inside = λ e. cc; midway = λ rules h. h }

  plain_targets : (had : List Written) (w : Written) → IsPlain kinds (at targets_on had w)
  plain_targets had w = record { none = λ word k f h. h; inside = λ e. cc; midway = λ rules h. h }

  plain_sources : (had : List Written) (w : Written) → IsPlain kinds (at sources_on had w)
  plain_sources had w = record { none = λ word k f h. h; inside = λ e. cc; midway = λ rules h. h }

  plain_closing : (had : List Written) (w : Written) → IsPlain kinds (at closing had w)
  plain_closing had w = record { none = λ word k f h. h; inside = λ e. cc; midway = λ rules h. h }

  plain_weighing : (had : List Written) (w : Written) → IsPlain kinds (at weighing had w)
  plain_weighing had w = record { none = λ word k f h. h; inside = λ e. cc; midway = λ rules h. h }

  plain_ending : (had : List Written) (w : Written) → IsPlain kinds (at ending had w)
  plain_ending had w = record { none = λ word k f h. h; inside = λ e. cc; midway = λ rules h. h }

  plain_opening : (had : List Written) (w : Written) → IsPlain kinds (at opening had w)
  plain_opening had w = record { none = λ word k f h. h; inside = λ e. cc; midway = λ rules h. h }

  plain_conditions : (had : List Written) (w : Written) → IsPlain kinds (at conditions_on had w)
  plain_conditions had w = record { none = λ word k f h. h; inside = λ e. cc; midway = λ rules h. h }

  naming_targets : (had : List Written) (w : Written) → IsNaming kinds (λ names. at target had (with_targets w names)) (λ names. at targets_on had (with_targets w names))
  naming_targets had w = record {
    name = λ names word. refl;
    comma = λ names word e. ap (λ (b : Bool). cond b (Some (at target had (with_targets w names))) (when (bytes_eq word (codes ":")) (at source had (with_sources (with_targets w names) [])))) e;
    of_due = λ names word k f h. h;
    due_of = λ names word k f h. h;
    inside = λ names e. cc;
    midway = λ names rules h. h;
    plain = λ names. plain_targets had (with_targets w names);
  }

  naming_sources : (had : List Written) (w : Written) → IsNaming kinds (λ names. at source had (with_sources w names)) (λ names. at sources_on had (with_sources w names))
  naming_sources had w = record {
    name = λ names word. refl;
    comma = λ names word e. ap (λ (b : Bool). cond b (Some (at source had (with_sources w names))) (when (bytes_eq word (codes "{")) (at client had (with_sources w names)))) e;
    of_due = λ names word k f h. h;
    due_of = λ names word k f h. h;
    inside = λ names e. cc;
    midway = λ names rules h. h;
    plain = λ names. plain_sources had (with_sources w names);
  }

  -- the first token passes wherever it is one
  each_first : (P : Token → Type 0) (ts : List Token) → ((t : Token) → P t) → First P ts
  each_first P [] each = tt
  each_first P (t ∷ ts) each = each t

  first_as : (P Q : Token → Type 0) (ts : List Token) → ((t : Token) → P t → Q t) → First P ts → First Q ts
  first_as P Q [] to h = tt
  first_as P Q (t ∷ ts) to h = to t h

  -- what is read from an equal state
  from_same : {X : Type 0} (s t : State) (ts : List Token) (rest : X → List Token) (Is : X → List Token → State → Type 0) (r : Result X BookFail) → t ≡ s → Went kinds end s ts rest Is r → Went kinds end t ts rest Is r
  from_same s t ts rest Is r e h = subst (λ (x : State). Went kinds end x ts rest Is r) (sym e) h

  -- behind a text that is due
  behind_text : {X : Type 0} (text : List ℕ) (s u : State) (ts : List Token) (rest : X → List Token) (Is : X → State → Type 0) (f : List Token → Result X BookFail) → IsPlain kinds s
      → First (λ t. step s t.text ≡ when (bytes_eq t.text text) u) ts → ((more : List Token) → Went kinds end u more rest (λ x l v. Is x v) (f more)) → Went kinds end s ts rest (λ x l v. Is x v) (after text end ts >>= f)
  behind_text text s u ts rest Is f plain steps next =
      then_went kinds end s ts (λ (x : List Token). x) (λ x taken t. t ≡ u) rest (λ x l v. Is x v) (after text end ts) f (after_went kinds end text s u ts plain steps)
      (λ more taken t e. from_same u t more rest (λ x l v. Is x v) (f more) e (next more))

  -- ---- heads
  head_went : (had : List Rule) (written : List Written) (s : State) (t : Token) (ts : List Token) → IsStart kinds s written (t ∷ ts) → AreLabelled had written
      → Went kinds end s (t ∷ ts) (λ (x : Head). x.rest) (λ x l u. HasHead had written x u) (head_from had end (t ∷ ts))
  unfolding head_from
  head_went had written s t ts start same =
      then_went kinds end s (t ∷ ts) (λ (x : List ℕ × List Token). x.1) (λ x l u. (u ≡ at colon written (labelled x.0)) × (length had < most_rules)) (λ (x : Head). x.rest) (λ x l u. HasHead had written x u)
      (label_from had end (t ∷ ts)) _ (label_went kinds end had written s t ts start same)
      (λ x l u is. from_same (at colon written (labelled x.0)) u x.1 (λ (y : Head). y.rest) (λ y l v. HasHead had written y v) _ is.0 (
      behind_text (codes ":") (at colon written (labelled x.0)) (at ruled written (labelled x.0)) x.1 (λ (y : Head). y.rest) (λ y v. HasHead had written y v) _ (plain_colon written (labelled x.0)) (each_first _ x.1 (λ t. refl)) (λ begun.
      behind_text (codes "rule") (at ruled written (labelled x.0)) (at target written (labelled x.0)) begun (λ (y : Head). y.rest) (λ y v. HasHead had written y v) _ (plain_ruled written (labelled x.0)) (each_first _ begun (λ t. refl)) (λ named.
      then_went kinds end (at target written (labelled x.0)) named (λ (y : PropSet × List Token). y.1) (λ y l v. HasNames (λ names. at targets_on written (with_targets (labelled x.0) names)) y.0 y.1 v)
      (λ (y : Head). y.rest) (λ y l v. HasHead had written y v) (names_from true 0 end named) _
      (names_read kinds end (λ names. at target written (with_targets (labelled x.0) names)) (λ names. at targets_on written (with_targets (labelled x.0) names)) (naming_targets written (labelled x.0)) named)
      (λ targets l v is'.
      let w : Written = with_targets (labelled x.0) is'.names in
      from_same (at targets_on written w) v targets.1 (λ (y : Head). y.rest) (λ y l v. HasHead had written y v) _ is'.state (
      behind_text (codes ":") (at targets_on written w) (at source written w) targets.1 (λ (y : Head). y.rest) (λ y v. HasHead had written y v) _ (plain_targets written w)
      (first_as _ _ targets.1 (λ t e. ap (λ (b : Bool). cond b (Some (at target written w)) (when (bytes_eq t.text (codes ":")) (at source written w))) e) is'.last) (λ parted.
      then_went kinds end (at source written w) parted (λ (y : PropSet × List Token). y.1) (λ y l v. HasNames (λ names. at sources_on written (with_sources w names)) y.0 y.1 v)
      (λ (y : Head). y.rest) (λ y l v. HasHead had written y v) (names_from true 0 end parted) _
      (names_read kinds end (λ names. at source written (with_sources w names)) (λ names. at sources_on written (with_sources w names)) (naming_sources written w) parted)
      (λ sources l v is''. record {
        taken = [];
        state = v;
        split = refl;
        goes = refl;
        is = record {
          targets = is'.names;
          sources = is''.names;
          state = is''.state;
          are_targets = (is'.some, is'.added);
          are_sources = (is''.some, is''.added);
          last = is''.last;
          room = is.1;
        };
      }))))))))

  -- ---- bodies
  body_went : (written : List Written) (w : Written) (ts : List Token) → NoComma ts → Went kinds end (at sources_on written w) ts (λ (x : Body). x.rest) (λ x l u. HasBody kinds written w x u) (body_from kinds end ts)
  unfolding body_from
  body_went written w ts last =
      behind_text (codes "{") (at sources_on written w) (at client written w) ts (λ (y : Body). y.rest) (λ y v. HasBody kinds written w y v) _ (plain_sources written w)
      (first_as _ _ ts (λ t e. ap (λ (b : Bool). cond b (Some (at source written w)) (when (bytes_eq t.text (codes "{")) (at client written w))) e) last) (λ opened.
      then_went kinds end (at client written w) opened (λ (y : Kind × List Token). y.1)
      (λ y l v. (word : List ℕ) × (v ≡ at closing written (with_client w word)) × (find (λ (k : Kind). bytes_eq k.name word) kinds ≡ Some y.0)) (λ (y : Body). y.rest) (λ y l v. HasBody kinds written w y v)
      (kind_from kinds end opened) _ (kind_went kinds end written w opened)
      (λ kind l v is.
      let named : Written = with_client w is.0 in
      from_same (at closing written named) v kind.1 (λ (y : Body). y.rest) (λ y l v. HasBody kinds written w y v) _ is.1 (
      behind_text (codes "}") (at closing written named) (at weighing written named) kind.1 (λ (y : Body). y.rest) (λ y v. HasBody kinds written w y v) _ (plain_closing written named) (each_first _ kind.1 (λ t. refl)) (λ closed.
      behind_text (codes "weight") (at weighing written named) (at weight written named) closed (λ (y : Body). y.rest) (λ y v. HasBody kinds written w y v) _ (plain_weighing written named) (each_first _ closed (λ t. refl)) (λ weighed.
      then_went kinds end (at weight written named) weighed (λ (y : Weight × List Token). y.1) (λ y l v. (word : List ℕ) × (v ≡ at ending written (with_weight named word))) (λ (y : Body). y.rest) (λ y l v. HasBody kinds written w y v)
      (weight_from end weighed) _ (weight_went kinds end written named weighed)
      (λ weight l v it. record { taken = []; state = v; split = refl; goes = refl; is = record { client = is.0; weight = it.0; state = it.1; is_kind = is.2 } }))))))

  -- ---- ends of rules
  last_behind : (taken more : List Token) (past : ℕ) → IsLast more past → IsLast (taken ++ more) past
  last_behind taken more past is = record {
    before = taken ++ is.before;
    last = is.last;
    split = ap (λ (l : List Token). taken ++ l) is.split ∙ sym (append_assoc taken is.before (is.last ∷ []));
    place = is.place;
  }

  -- the preconditions behind their word
  listed_from : List Token → Result Tail BookFail
  listed_from ts = after (codes ":") end ts >>= λ listed. conditions_from Coming.condition no_conditions end listed >>= λ found. close_from end found.1 >>= λ closed.
      Ok (record { conditions = found.0; past = closed.0; rest = closed.1 })

  begun_with_word : (t : Token) (ts : List Token) → bytes_eq t.text precondition_word ≡ true → preconditions_from end (t ∷ ts) ≡ listed_from ts
  unfolding preconditions_from listed_from after token_where
  begun_with_word t ts e = rw e refl

  listed_went : (written : List Written) (w : Written) (ts : List Token) → Went kinds end (at opening written w) ts (λ (x : Tail). x.rest) (λ x l u. HasTail written w x l u) (listed_from ts)
  unfolding listed_from
  listed_went written w ts =
      then_went kinds end (at opening written w) ts (λ (x : List Token). x) (λ x taken t. t ≡ at condition written (with_conditions w [])) (λ (x : Tail). x.rest) (λ x l u. HasTail written w x l u) (after (codes ":") end ts) _
      (after_went kinds end (codes ":") (at opening written w) (at condition written (with_conditions w [])) ts (plain_opening written w) (each_first _ ts (λ t. refl)))
      (λ listed l1 t1 e. from_same (at condition written (with_conditions w [])) t1 listed (λ (x : Tail). x.rest) (λ x l u. HasTail written w x (l1 ++ l) u) _ e (
      then_went kinds end (at condition written (with_conditions w [])) listed (λ (x : Conditions × List Token). x.1) (λ x l u. HasConditions written w x.0 x.1 u) (λ (x : Tail). x.rest) (λ x l u. HasTail written w x (l1 ++ l) u)
      (conditions_from Coming.condition no_conditions end listed) _ (conditions_read kinds end written w listed)
      (λ found l2 t2 is.
      let all : Written = with_conditions w is.conditions in
      from_same (at conditions_on written all) t2 found.1 (λ (x : Tail). x.rest) (λ x l u. HasTail written w x (l1 ++ (l2 ++ l)) u) _ is.state (
      then_went kinds end (at conditions_on written all) found.1 (λ (x : ℕ × List Token). x.1) (λ x taken t. (t ≡ at behind written all) × IsLast taken x.0) (λ (x : Tail). x.rest) (λ x l u. HasTail written w x (l1 ++ (l2 ++ l)) u)
      (close_from end found.1) _ (close_went kinds end (at conditions_on written all) (at behind written all) found.1 (plain_conditions written all)
      (first_as _ _ found.1 (λ t e. ap (λ (b : Bool). cond b (Some (at condition written all)) (when (bytes_eq t.text (codes ";")) (at behind written all))) e) is.last))
      (λ closed l3 t3 it. record {
        taken = [];
        state = t3;
        split = refl;
        goes = refl;
        is = record {
          conditions = is.conditions;
          state = it.0;
          added = is.added;
          last = subst (λ (l : List Token). IsLast (l1 ++ (l2 ++ l)) closed.0) (sym (append-nil l3)) (last_behind l1 (l2 ++ l3) closed.0 (last_behind l2 l3 closed.0 it.1));
          parted = each_first _ closed.1 (λ t. no_more is.conditions t.text is.some);
        };
      })))))
    where
      no_more : (cs : List Condition) (word : List ℕ) → 0 < length cs → (bytes_eq word precondition_word && has_none cs) ≡ false
      no_more [] word some = absurd (omega arith)
      no_more (c ∷ cs) word some = by (bytes_eq word precondition_word)
        where
          by : (b : Bool) → (b && false) ≡ false
          by true = refl
          by false = refl

  tail_went : (written : List Written) (w : Written) (ts : List Token) → Went kinds end (at ending written w) ts (λ (x : Tail). x.rest) (λ x l u. HasTail written w x l u) (tail_from end ts)
  unfolding tail_from
  tail_went written w ts =
      then_went kinds end (at ending written w) ts (λ (x : ℕ × List Token). x.1) (λ x taken t. (t ≡ at behind written (with_conditions w [])) × IsLast taken x.0) (λ (x : Tail). x.rest) (λ x l u. HasTail written w x l u)
      (close_from end ts) _ (close_went kinds end (at ending written w) (at behind written (with_conditions w [])) ts (plain_ending written w) (each_first _ ts (λ t. refl)))
      (λ closed l1 t1 is. from_same (at behind written (with_conditions w [])) t1 closed.1 (λ (x : Tail). x.rest) (λ x l u. HasTail written w x (l1 ++ l) u) _ is.0 (by closed.0 l1 is.1 closed.1))
    where
      nothing : (past : ℕ) (l1 : List Token) → IsLast l1 past → (rest : List Token) → Parted (with_conditions w []) rest
          → Went kinds end (at behind written (with_conditions w [])) rest (λ (x : Tail). x.rest) (λ x l u. HasTail written w x (l1 ++ l) u) (Ok (record { conditions = no_conditions; past = past; rest = rest }))
      nothing past l1 last rest parted = record {
        taken = [];
        state = at behind written (with_conditions w []);
        split = refl;
        goes = refl;
        is = record { conditions = []; state = refl; added = refl; last = subst (λ (l : List Token). IsLast l past) (sym (append-nil l1)) last; parted = parted };
      }

      word : (t : Token) → bytes_eq t.text precondition_word ≡ true → IsFine kinds (at behind written (with_conditions w [])) t.text
      word t e = record {
        none = λ k f h. both_ways (bytes_eq t.text precondition_word) (label_is_other t.text h.0) e;
        agreed = λ b. absurd (b.1 refl ((bytes_eq-Decides t.text precondition_word).0 e));
      }

      by : (past : ℕ) (l1 : List Token) → IsLast l1 past → (rest : List Token)
          → Went kinds end (at behind written (with_conditions w [])) rest (λ (x : Tail). x.rest) (λ x l u. HasTail written w x (l1 ++ l) u)
          (cond (begins_with precondition_word rest) (preconditions_from end rest) (Ok (record { conditions = no_conditions; past = past; rest = rest })))
      by past l1 last [] = nothing past l1 last [] tt
      by past l1 last (t ∷ rest) = go (bytes_eq t.text precondition_word) refl
        where
          go : (b : Bool) → bytes_eq t.text precondition_word ≡ b
              → Went kinds end (at behind written (with_conditions w [])) (t ∷ rest) (λ (x : Tail). x.rest) (λ x l u. HasTail written w x (l1 ++ l) u)
              (cond b (preconditions_from end (t ∷ rest)) (Ok (record { conditions = no_conditions; past = past; rest = t ∷ rest })))
          go false e = nothing past l1 last (t ∷ rest) (ap (λ (b : Bool). b && true) e)
          go true e = subst (Went kinds end (at behind written (with_conditions w [])) (t ∷ rest) (λ (x : Tail). x.rest) (λ x l u. HasTail written w x (l1 ++ l) u)) (sym (begun_with_word t rest e))
              (one_first kinds end (at behind written (with_conditions w [])) (at opening written (with_conditions w [])) t rest (λ (x : Tail). x.rest) (λ x l u. HasTail written w x (l1 ++ l) u) (listed_from rest)
              (ap (λ (b : Bool). cond (b && true) (Some (at opening written (with_conditions w []))) (when (is_label t.text) (at colon (written ++ with_conditions w [] ∷ []) (labelled t.text)))) e) (word t e)
              (went_as kinds end (at opening written (with_conditions w [])) rest (λ (x : Tail). x.rest) (λ x l u. HasTail written (with_conditions w []) x l u) (λ x l u. HasTail written w x (l1 ++ (t ∷ l)) u) (listed_from rest)
              (λ x l u h. record { conditions = h.conditions; state = h.state; added = h.added; last = last_behind l1 (t ∷ l) x.past (last_behind (t ∷ []) l x.past h.last); parted = h.parted })
              (listed_went written (with_conditions w []) rest)))

-- ---- rules
-- a rule that was read agrees with its kind
pub record RuleRead (kinds : List Kind) (s : State) (ts : List Token) (had : List Rule) (written : List Written) (x : Rule × List Token) : Type 0 where
  pub taken : List Token
  pub w : Written
  pub split : ts ≡ taken ++ x.1
  pub goes : Goes kinds s taken (at behind written w)
  pub agrees : ¬ (Differs kinds w)
  pub parted : Parted w x.1
  pub label : x.0.label ≡ w.label
  pub room : length had < most_rules

-- the tokens go to the end of a rule that does not
pub record Mismatched (kinds : List Kind) (s : State) (ts : List Token) (f : BookFail) : Type 0 where
  pub before : List Token
  pub last : Token
  pub rest : List Token
  pub written : List Written
  pub w : Written
  pub split : ts ≡ (before ++ last ∷ []) ++ rest
  pub goes : Goes kinds s (before ++ last ∷ []) (at behind written w)
  pub parted : Parted w rest
  pub differs : Differs kinds w
  pub fault : f ≡ mismatch (last.place + 1) rest

mismatched_behind : (kinds : List Kind) (s t : State) (taken rest : List Token) (f : BookFail) → Goes kinds s taken t → Mismatched kinds t rest f → Mismatched kinds s (taken ++ rest) f
mismatched_behind kinds s t taken rest f goes h = record {
  before = taken ++ h.before;
  last = h.last;
  rest = h.rest;
  written = h.written;
  w = h.w;
  split = ap (λ (l : List Token). taken ++ l) h.split ∙ sym (append_assoc taken (h.before ++ h.last ∷ []) h.rest) ∙ ap (λ (l : List Token). l ++ h.rest) (sym (append_assoc taken h.before (h.last ∷ [])));
  goes = subst (λ (l : List Token). Goes kinds s l (at behind h.written h.w)) (sym (append_assoc taken h.before (h.last ∷ []))) (goes_on kinds s t (at behind h.written h.w) taken (h.before ++ h.last ∷ []) goes h.goes);
  parted = h.parted;
  differs = h.differs;
  fault = h.fault;
}

-- what a text is stopped by
abbrev pub Faulty : List Kind → ℕ → State → List Token → BookFail → Type 0
Faulty kinds end s ts f = Stopped kinds end s ts f ⊎ Mismatched kinds s ts f

faulty_behind : (kinds : List Kind) (end : ℕ) (s t : State) (taken rest : List Token) (f : BookFail) → Goes kinds s taken t → Faulty kinds end t rest f → Faulty kinds end s (taken ++ rest) f
faulty_behind kinds end s t taken rest f goes (inl h) = inl (stopped_behind kinds end s t taken rest f goes h)
faulty_behind kinds end s t taken rest f goes (inr h) = inr (mismatched_behind kinds s t taken rest f goes h)

abbrev RuleWent : List Kind → ℕ → State → List Token → List Rule → List Written → Result (Rule × List Token) BookFail → Type 0
RuleWent kinds end s ts had written (Ok x) = RuleRead kinds s ts had written x
RuleWent kinds end s ts had written (Err f) = Faulty kinds end s ts f

-- ---- kinds
agrees_is : (kind : Kind) (head : Head) (found : Conditions) → agrees kind head found ≡ true
    → (head.targets ≡ kind.targets) × (head.sources ≡ kind.sources) × IsWithin kind.must found.must × IsWithin kind.must_not found.must_not
agrees_is kind head found fits =
    let first = and_parts (eqb head.targets kind.targets) (eqb head.sources kind.sources && (is_within kind.must found.must && is_within kind.must_not found.must_not)) fits in
    let second = and_parts (eqb head.sources kind.sources) (is_within kind.must found.must && is_within kind.must_not found.must_not) first.1 in
    let third = and_parts (is_within kind.must found.must) (is_within kind.must_not found.must_not) second.1 in
    (eqb-true head.targets kind.targets first.0, eqb-true head.sources kind.sources second.0, within_from_test kind.must found.must third.0, within_from_test kind.must_not found.must_not third.1)

is_agrees : (kind : Kind) (head : Head) (found : Conditions) → head.targets ≡ kind.targets → head.sources ≡ kind.sources → IsWithin kind.must found.must → IsWithin kind.must_not found.must_not
    → agrees kind head found ≡ true
is_agrees kind head found targets sources must must_not =
    and_from (eqb head.targets kind.targets) (eqb head.sources kind.sources && (is_within kind.must found.must && is_within kind.must_not found.must_not)) (eq-eqb head.targets kind.targets targets)
    (and_from (eqb head.sources kind.sources) (is_within kind.must found.must && is_within kind.must_not found.must_not) (eq-eqb head.sources kind.sources sources)
    (and_from (is_within kind.must found.must) (is_within kind.must_not found.must_not) (eq-eqb (intersection kind.must found.must) kind.must must) (eq-eqb (intersection kind.must_not found.must_not) kind.must_not must_not)))

module _ (kinds : List Kind) (w : Written) (kind : Kind) (head : Head) (found : Conditions) (is_kind : find (λ (k : Kind). bytes_eq k.name w.client) kinds ≡ Some kind) (are_targets : AreNames w.targets head.targets)
    (are_sources : AreNames w.sources head.sources) (added : AddConditions w.conditions no_conditions found) where
  no_difference : agrees kind head found ≡ true → ¬ (Differs kinds w)
  no_difference fits d =
      let is = agrees_is kind head found fits in
      let same_kind : kind ≡ d.kind = some_is (sym is_kind ∙ d.is_kind) in
      let same_targets : head.targets ≡ d.targets = one_set w.targets 0 head.targets d.targets are_targets.1 d.are_targets.1 in
      let same_sources : head.sources ≡ d.sources = one_set w.sources 0 head.sources d.sources are_sources.1 d.are_sources.1 in
      let same_found : found ≡ d.conditions = one_conditions w.conditions no_conditions found d.conditions added d.are_conditions in
      d.other (
        sym same_targets ∙ is.0 ∙ ap (λ (k : Kind). k.targets) same_kind,
        sym same_sources ∙ is.1 ∙ ap (λ (k : Kind). k.sources) same_kind,
        subst (λ (k : Kind). IsWithin k.must d.conditions.must) same_kind (subst (λ (c : Conditions). IsWithin kind.must c.must) same_found is.2),
        subst (λ (k : Kind). IsWithin k.must_not d.conditions.must_not) same_kind (subst (λ (c : Conditions). IsWithin kind.must_not c.must_not) same_found is.3),
      )

  difference : agrees kind head found ≡ false → Differs kinds w
  difference none = record {
    kind = kind;
    targets = head.targets;
    sources = head.sources;
    conditions = found;
    is_kind = is_kind;
    are_targets = are_targets;
    are_sources = are_sources;
    are_conditions = added;
    other = λ is. both_ways (agrees kind head found) none (is_agrees kind head found is.0 is.1 is.2 is.3);
  }

-- ---- one rule
module _ (kinds : List Kind) (end : ℕ) (had : List Rule) (written : List Written) where
  rule_behind : (s t : State) (taken rest : List Token) (r : Result (Rule × List Token) BookFail) → Goes kinds s taken t → RuleWent kinds end t rest had written r → RuleWent kinds end s (taken ++ rest) had written r
  rule_behind s t taken rest (Err f) goes h = faulty_behind kinds end s t taken rest f goes h
  rule_behind s t taken rest (Ok x) goes h = record {
    taken = taken ++ h.taken;
    w = h.w;
    split = ap (λ (l : List Token). taken ++ l) h.split ∙ sym (append_assoc taken h.taken x.1);
    goes = goes_on kinds s t (at behind written h.w) taken h.taken goes h.goes;
    agrees = h.agrees;
    parted = h.parted;
    label = h.label;
    room = h.room;
  }

  then_rule : {A : Type 0} (s : State) (ts : List Token) (rest : A → List Token) (Is : A → List Token → State → Type 0) (r : Result A BookFail) (f : A → Result (Rule × List Token) BookFail) → Went kinds end s ts rest Is r
      → ((x : A) (taken : List Token) (t : State) → Is x taken t → RuleWent kinds end t (rest x) had written (f x)) → RuleWent kinds end s ts had written (r >>= f)
  then_rule s ts rest Is (Err e) f h next = inl h
  then_rule s ts rest Is (Ok x) f h next =
      subst (λ (l : List Token). RuleWent kinds end s l had written (f x)) (sym h.split) (rule_behind s h.state h.taken (rest x) (f x) h.goes (next x h.taken h.state h.is))

  -- the end of a rule
  last_rule : (w : Written) (head : Head) (body : Body) (ts : List Token) (r : Result Tail BookFail) → find (λ (k : Kind). bytes_eq k.name w.client) kinds ≡ Some body.kind → AreNames w.targets head.targets
      → AreNames w.sources head.sources → head.label ≡ w.label → length had < most_rules → Went kinds end (at ending written w) ts (λ (x : Tail). x.rest) (λ x l u. HasTail written w x l u) r
      → RuleWent kinds end (at ending written w) ts had written (r >>= λ tail. cond (agrees body.kind head tail.conditions) (Ok (made_rule head body tail, tail.rest)) (Err (mismatch tail.past tail.rest)))
  last_rule w head body ts (Err e) is_kind are_targets are_sources labelled room h = inl h
  last_rule w head body ts (Ok tail) is_kind are_targets are_sources labelled room h = by (agrees body.kind head tail.conditions) refl
    where
      by : (b : Bool) → agrees body.kind head tail.conditions ≡ b
          → RuleWent kinds end (at ending written w) ts had written (cond b (Ok (made_rule head body tail, tail.rest)) (Err (mismatch tail.past tail.rest)))
      by true fits = record {
        taken = h.taken;
        w = with_conditions w h.is.conditions;
        split = h.split;
        goes = subst (Goes kinds (at ending written w) h.taken) h.is.state h.goes;
        agrees = no_difference kinds (with_conditions w h.is.conditions) body.kind head tail.conditions is_kind are_targets are_sources h.is.added fits;
        parted = h.is.parted;
        label = labelled;
        room = room;
      }
      by false none = inr (record {
        before = h.is.last.before;
        last = h.is.last.last;
        rest = tail.rest;
        written = written;
        w = with_conditions w h.is.conditions;
        split = h.split ∙ ap (λ (l : List Token). l ++ tail.rest) h.is.last.split;
        goes = subst (λ (l : List Token). Goes kinds (at ending written w) l (at behind written (with_conditions w h.is.conditions))) h.is.last.split (subst (Goes kinds (at ending written w) h.taken) h.is.state h.goes);
        parted = h.is.parted;
        differs = difference kinds (with_conditions w h.is.conditions) body.kind head tail.conditions is_kind are_targets are_sources h.is.added none;
        fault = ap (λ (k : ℕ). mismatch k tail.rest) h.is.last.place;
      })

  rule_same : (s t : State) (ts : List Token) (r : Result (Rule × List Token) BookFail) → t ≡ s → RuleWent kinds end s ts had written r → RuleWent kinds end t ts had written r
  rule_same s t ts r e h = subst (λ (x : State). RuleWent kinds end x ts had written r) (sym e) h

  rule_went : (s : State) (t : Token) (ts : List Token) → IsStart kinds s written (t ∷ ts) → AreLabelled had written → RuleWent kinds end s (t ∷ ts) had written (rule_from kinds had end (t ∷ ts))
  unfolding rule_from
  rule_went s t ts start same =
      then_rule s (t ∷ ts) (λ (x : Head). x.rest) (λ x l u. HasHead had written x u) (head_from had end (t ∷ ts)) _ (head_went kinds end had written s t ts start same)
      (λ head l1 t1 is.
      let w : Written = with_sources (with_targets (labelled head.label) is.targets) is.sources in
      rule_same (at sources_on written w) t1 head.rest _ is.state (
      then_rule (at sources_on written w) head.rest (λ (x : Body). x.rest) (λ x l u. HasBody kinds written w x u) (body_from kinds end head.rest) _ (body_went kinds end written w head.rest is.last)
      (λ body l2 t2 it.
      let v : Written = with_weight (with_client w it.client) it.weight in
      rule_same (at ending written v) t2 body.rest _ it.state
      (last_rule v head body body.rest (tail_from end body.rest) it.is_kind is.are_targets is.are_sources refl is.room (tail_went kinds end written v body.rest)))))

-- ---- all rules
abbrev pub AllWent : List Kind → ℕ → State → List Token → Result (List Rule) BookFail → Type 0
AllWent kinds end s ts (Ok rules) = (t : State) × (written : List Written) × Goes kinds s ts t × IsStart kinds t written []
AllWent kinds end s ts (Err f) = Faulty kinds end s ts f

all_behind : (kinds : List Kind) (end : ℕ) (s t : State) (taken rest : List Token) (r : Result (List Rule) BookFail) → Goes kinds s taken t → AllWent kinds end t rest r → AllWent kinds end s (taken ++ rest) r
all_behind kinds end s t taken rest (Err f) goes h = faulty_behind kinds end s t taken rest f goes h
all_behind kinds end s t taken rest (Ok rules) goes (u, written, more, start) = (u, written, goes_on kinds s t u taken rest goes more, start)

labelled_more : (had : List Rule) (written : List Written) (rule : Rule) (w : Written) → AreLabelled had written → rule.label ≡ w.label → AreLabelled (had ++ rule ∷ []) (written ++ w ∷ [])
labelled_more [] [] rule w same e = (e, tt)
labelled_more [] (v ∷ written) rule w same e = absurd same
labelled_more (r ∷ had) [] rule w same e = absurd same
labelled_more (r ∷ had) (v ∷ written) rule w (one, more) e = (one, labelled_more had written rule w more e)

pub rules_went : (kinds : List Kind) (end : ℕ) (n : ℕ) (had : List Rule) (written : List Written) (s : State) (ts : List Token) → IsStart kinds s written ts → AreLabelled had written → n + length had ≡ most_rules + 1
    → length had ≤ most_rules → AllWent kinds end s ts (rules_from n kinds had end ts)
unfolding rules_from
rules_went kinds end n had written s [] start same count few = (s, written, refl, start)
rules_went kinds end zero had written s (t ∷ ts) start same count few = absurd (omega arith)
rules_went kinds end (suc n) had written s (t ∷ ts) start same count few =
    by (λ x h.
    let next : State = at behind written h.w in
    let more = rules_went kinds end n (had ++ x.0 ∷ []) (written ++ h.w ∷ []) next x.1 (record { ready = refl; agrees = λ e. h.agrees; parted = λ e. h.parted })
    (labelled_more had written x.0 h.w same h.label) (omega (arith, length-append had (x.0 ∷ []))) (omega (arith, length-append had (x.0 ∷ []), h.room)) in
    subst (λ (l : List Token). AllWent kinds end s l (rules_from n kinds (had ++ x.0 ∷ []) end x.1)) (sym h.split) (all_behind kinds end s next h.taken x.1 (rules_from n kinds (had ++ x.0 ∷ []) end x.1) h.goes more))
    (rule_from kinds had end (t ∷ ts)) (rule_went kinds end had written s t ts start same)
  where
    by : ((x : Rule × List Token) → RuleRead kinds s (t ∷ ts) had written x → AllWent kinds end s (t ∷ ts) (rules_from n kinds (had ++ x.0 ∷ []) end x.1)) → (r : Result (Rule × List Token) BookFail)
        → RuleWent kinds end s (t ∷ ts) had written r → AllWent kinds end s (t ∷ ts) (r >>= λ found. rules_from n kinds (had ++ found.0 ∷ []) end found.1)
    by next (Err f) h = h
    by next (Ok x) h = next x h
