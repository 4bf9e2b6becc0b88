-- Labels, clients, weights and the ends of rules are gone along as they are read.
use Rattle.std.proofs.Common.{◌≡◌, ◌∙◌, ◌++◌, ◌+◌, ◌<◌, ◌≤◌, ◌&&◌, ℕ, Bool, true, false, Any, Option, None, Some, Result, Ok, Err, List, [], ◌∷◌, ap, append-nil, arith, codes, cond, find, inl, inr, leb, length, ltb, refl, subst, sym}
use Rattle.std.specs.List.{AllZip, list_any}
use Rattle.std.specs.Str.{bytes_eq}
use Rattle.std.proofs.lemmas.Bool.{and_from, both_ways, le-leb, lt-ltb, ltb-false, ltb-true, or_cases, or_parts}
use Rattle.std.proofs.lemmas.Slice.Eq.{bytes_eq-Decides}
use Rattle.pm_books.specs.Grammar.{Written}
use Rattle.pm_books.specs.Reading.{◌>>=◌, after, close_from, is_number, is_weight, kind_from, known_kind, label_from, token_where, weight_from, weight_of}
use Rattle.pm_books.specs.Tokens.{Token}
use Rattle.pm_books.specs.declared.fail.BookFail.{BookFail}
use Rattle.pm_books.specs.declared.fail.BookFail.TheVariants.{SameLabel, Syntax, TooManyRules, UnknownClient, WeightRange}
use Rattle.pm_books.proofs.ReadBooks.{weight_from_test}
use Rattle.pm_limits.specs.Limits.{most_rules, most_weight}
use Rattle.pm_props.specs.declared.kind.Kind.{Kind}
use Rattle.pm_rules.specs.Words.{is_label, is_word, precondition_word}
use Rattle.pm_rules.specs.declared.rule.Rule.{Rule}
use Rattle.pm_weights.specs.Weights.{IsWeight}
use Rattle.pm_weights.specs.declared.Weight.{Weight}
use Rattle.pm_laws_texts.specs.BookFaults.{Differs, OfLabel, order}
use Rattle.pm_laws_texts.proofs.Along.{IsReady, IsReadyAt, label_step}
use Rattle.pm_laws_texts.proofs.Going.{First, HasAgreed, IsPlain, Went, halted, then_went, token_went}
use Rattle.pm_laws_texts.proofs.Going.Halts.{no_step, too_soon, wrong}
use Rattle.pm_laws_texts.proofs.Named.{any_cases, any_here, any_none, any_there}
use Rattle.pm_laws_texts.proofs.Standing.{OfState, label_ready, ready_label}
use Rattle.pm_laws_texts.proofs.Walks.{Due, State, at, has_none, labelled, step, step_at, when, with_client, with_weight}
use Rattle.pm_laws_texts.proofs.Walks.Due.{behind, client, closing, colon, ending, label, opening, weight}

-- ---- labels
abbrev pub AreLabelled : List Rule → List Written → Type 0
AreLabelled had written = AllZip (λ (rule : Rule) (w : Written). rule.label ≡ w.label) had written

label_there : (had : List Rule) (written : List Written) (word : List ℕ) → AreLabelled had written → list_any (λ (rule : Rule). bytes_eq rule.label word) had ≡ true → Any (λ (w : Written). w.label ≡ word) written
label_there [] [] word same e = cc
label_there [] (w ∷ written) word same e = absurd same
label_there (rule ∷ had) [] word same e = absurd same
label_there (rule ∷ had) (w ∷ written) word (one, more) e = elim (or_cases (bytes_eq rule.label word) (list_any (λ (r : Rule). bytes_eq r.label word) had) e) [
  | inl it ↦ any_here (λ (x : Written). x.label ≡ word) w written (sym one ∙ (bytes_eq-Decides rule.label word).0 it)
  | inr later ↦ any_there (λ (x : Written). x.label ≡ word) w written (label_there had written word more later)
]

label_missing : (had : List Rule) (written : List Written) (word : List ℕ) → AreLabelled had written → list_any (λ (rule : Rule). bytes_eq rule.label word) had ≡ false → ¬ (Any (λ (w : Written). w.label ≡ word) written)
label_missing [] [] word same e any = any_none (λ (x : Written). x.label ≡ word) any
label_missing [] (w ∷ written) word same e any = absurd same
label_missing (rule ∷ had) [] word same e any = absurd same
label_missing (rule ∷ had) (w ∷ written) word (one, more) e any =
    let parts = or_parts (bytes_eq rule.label word) (list_any (λ (r : Rule). bytes_eq r.label word) had) e in
    elim (any_cases (λ (x : Written). x.label ≡ word) w written any) [
      | inl it ↦ both_ways (bytes_eq rule.label word) parts.0 ((bytes_eq-Decides rule.label word).1 (one ∙ it))
      | inr later ↦ label_missing had written word more parts.1 later
    ]

pub as_many : (had : List Rule) (written : List Written) → AreLabelled had written → length had ≡ length written
as_many [] [] same = refl
as_many [] (w ∷ written) same = absurd same
as_many (rule ∷ had) [] same = absurd same
as_many (rule ∷ had) (w ∷ written) (one, more) = omega (arith, as_many had written more)

-- the last of the tokens is at the place before this
pub record IsLast (taken : List Token) (past : ℕ) : Type 0 where
  pub before : List Token
  pub last : Token
  pub split : taken ≡ before ++ last ∷ []
  pub place : past ≡ last.place + 1

-- no rule goes on with the first of these tokens
abbrev pub Parted : Written → List Token → Type 0
Parted w ts = First (λ t. (bytes_eq t.text precondition_word && has_none w.conditions) ≡ false) ts

-- between rules, of which each agrees with its kind
pub record IsStart (kinds : List Kind) (s : State) (written : List Written) (ts : List Token) : Type 0 where
  pub ready : IsReady s written
  pub agrees : s.due ≡ behind → ¬ (Differs kinds s.now)
  pub parted : s.due ≡ behind → Parted s.now ts

pub no_label : (due : Due) (had : List Written) (now : Written) (rules : List Written) (word : List ℕ) → IsReadyAt due had now rules → (due ≡ behind → (bytes_eq word precondition_word && has_none now.conditions) ≡ false)
    → is_label word ≡ false → step_at due had now word ≡ None
no_label label had now rules word ready parted e = ap (λ (b : Bool). when b (at colon had (labelled word))) e
no_label behind had now rules word ready parted e =
    ap (λ (b : Bool). cond b (Some (at opening had now)) (when (is_label word) (at colon (had ++ now ∷ []) (labelled word)))) (parted refl) ∙ ap (λ (b : Bool). when b (at colon (had ++ now ∷ []) (labelled word))) e
no_label due had now rules word ready parted e = absurd ready

module _ (kinds : List Kind) (end : ℕ) where
  abbrev pub LabelWent : List Rule → List Written → State → List Token → Result (List ℕ × List Token) BookFail → Type 0
  LabelWent had written s ts r = Went kinds end s ts (λ (x : List ℕ × List Token). x.1) (λ x taken u. (u ≡ at colon written (labelled x.0)) × (length had < most_rules)) r

  pub label_went : (had : List Rule) (written : List Written) (s : State) (t : Token) (ts : List Token) → IsStart kinds s written (t ∷ ts) → AreLabelled had written
      → LabelWent had written s (t ∷ ts) (label_from had end (t ∷ ts))
  unfolding label_from token_where
  label_went had written s t ts start same = by (is_label t.text) refl
    where
      agreed : HasAgreed kinds s t.text
      agreed b = start.agrees b.0

      steps : is_label t.text ≡ true → step s t.text ≡ Some (at colon written (labelled t.text))
      steps e = label_step s.due s.had s.now written t.text start.ready e

      of_label : (k : ℕ) (f : BookFail) → OfState kinds s t.text k f → OfLabel written t.text k f
      of_label k f h = label_ready kinds s.due s.had s.now written t.text k f start.ready h

      label_of : (k : ℕ) (f : BookFail) → OfLabel written t.text k f → OfState kinds s t.text k f
      label_of k f h = ready_label kinds s.due s.had s.now written t.text k f start.ready h

      room : is_label t.text ≡ true → list_any (λ (rule : Rule). bytes_eq rule.label t.text) had ≡ false → (b : Bool) → ltb (length had) most_rules ≡ b → LabelWent had written s (t ∷ ts) (cond b (Ok (t.text, ts)) (Err (TooManyRules t.place)))
      room e new true l = record {
        taken = t ∷ [];
        state = at colon written (labelled t.text);
        split = refl;
        goes = (
          at colon written (labelled t.text),
          steps e,
          record {
            none = λ k f h. elim (of_label k f h).1 [
              | inl again ↦ label_missing had written t.text same new again.1
              | inr many ↦ (let few = ltb-true (length had) most_rules l in omega (arith, as_many had written same, many.1))
            ];
            agreed = agreed;
          },
          refl,
        );
        is = (refl, ltb-true (length had) most_rules l);
      }
      room e new false l = halted kinds end s (t ∷ ts) (TooManyRules t.place)
          (wrong t ts (TooManyRules t.place) (at colon written (labelled t.text)) (steps e)
          (label_of t.place (TooManyRules t.place) (e, inr (refl, (let many = ltb-false (length had) most_rules l in omega (arith, as_many had written same, many)))))
          (λ g h. elim (of_label t.place g h).1 [
            | inl again ↦ absurd (label_missing had written t.text same new again.1)
            | inr many ↦ subst (λ (x : BookFail). 6 ≤ order x) (sym many.0) (omega arith)
          ]) agreed)

      fresh : is_label t.text ≡ true → (b : Bool) → list_any (λ (rule : Rule). bytes_eq rule.label t.text) had ≡ b
          → LabelWent had written s (t ∷ ts) (cond b (Err (SameLabel t.place)) (cond (ltb (length had) most_rules) (Ok (t.text, ts)) (Err (TooManyRules t.place))))
      fresh e true there = halted kinds end s (t ∷ ts) (SameLabel t.place)
          (wrong t ts (SameLabel t.place) (at colon written (labelled t.text)) (steps e) (label_of t.place (SameLabel t.place) (e, inl (refl, label_there had written t.text same there)))
          (λ g h. elim (of_label t.place g h).1 [
            | inl again ↦ subst (λ (x : BookFail). 4 ≤ order x) (sym again.0) (omega arith)
            | inr many ↦ subst (λ (x : BookFail). 4 ≤ order x) (sym many.0) (omega arith)
          ]) agreed)
      fresh e false new = room e new (ltb (length had) most_rules) refl

      by : (b : Bool) → is_label t.text ≡ b
          → LabelWent had written s (t ∷ ts) ((let r : Result (Token × List Token) BookFail = cond b (Ok (t, ts)) (Err (Syntax t.place)) in r) >>= λ found. cond (list_any (λ (rule : Rule). bytes_eq rule.label found.0.text) had) (Err (SameLabel found.0.place))
          (cond (ltb (length had) most_rules) (Ok (found.0.text, found.1)) (Err (TooManyRules found.0.place))))
      by true e = fresh e (list_any (λ (rule : Rule). bytes_eq rule.label t.text) had) refl
      by false e = halted kinds end s (t ∷ ts) (Syntax t.place) (no_step t ts (no_label s.due s.had s.now written t.text start.ready start.parted e) agreed)

  -- ---- words that are due
  pub after_went : (text : List ℕ) (s u : State) (ts : List Token) → IsPlain kinds s → First (λ t. step s t.text ≡ when (bytes_eq t.text text) u) ts
      → Went kinds end s ts (λ (x : List Token). x) (λ x taken t. t ≡ u) (after text end ts)
  unfolding after
  after_went text s u ts plain steps =
      then_went kinds end s ts (λ (x : Token × List Token). x.1) (λ x taken t. (t ≡ u) × (bytes_eq x.0.text text ≡ true) × (taken ≡ x.0 ∷ [])) (λ (x : List Token). x) (λ x taken t. t ≡ u)
      (token_where (λ word. bytes_eq word text) end ts) (λ found. Ok found.1) (token_went kinds end s (λ word. bytes_eq word text) (λ word. u) ts plain steps)
      (λ x taken t is. record { taken = []; state = t; split = refl; goes = refl; is = is.0 })

  pub close_went : (s u : State) (ts : List Token) → IsPlain kinds s → First (λ t. step s t.text ≡ when (bytes_eq t.text (codes ";")) u) ts
      → Went kinds end s ts (λ (x : ℕ × List Token). x.1) (λ x taken t. (t ≡ u) × IsLast taken x.0) (close_from end ts)
  unfolding close_from
  close_went s u ts plain steps =
      then_went kinds end s ts (λ (x : Token × List Token). x.1) (λ x taken t. (t ≡ u) × (bytes_eq x.0.text (codes ";") ≡ true) × (taken ≡ x.0 ∷ [])) (λ (x : ℕ × List Token). x.1) (λ x taken t. (t ≡ u) × IsLast taken x.0)
      (token_where (λ word. bytes_eq word (codes ";")) end ts) (λ found. Ok (found.0.place + 1, found.1)) (token_went kinds end s (λ word. bytes_eq word (codes ";")) (λ word. u) ts plain steps)
      (λ x taken t is. record {
        taken = [];
        state = t;
        split = refl;
        goes = refl;
        is = (is.0, record { before = []; last = x.0; split = append-nil taken ∙ is.2; place = refl });
      })

  -- ---- clients and weights
  abbrev pub KindWent : List Written → Written → List Token → Result (Kind × List Token) BookFail → Type 0
  KindWent had w ts r =
      Went kinds end (at client had w) ts (λ (x : Kind × List Token). x.1) (λ x taken u. (word : List ℕ) × (u ≡ at closing had (with_client w word)) × (find (λ (k : Kind). bytes_eq k.name word) kinds ≡ Some x.0)) r

  pub kind_went : (had : List Written) (w : Written) (ts : List Token)
      → KindWent had w ts (kind_from kinds end ts)
  unfolding kind_from token_where
  kind_went had w [] = halted kinds end (at client had w) [] (Syntax end) (too_soon (λ rules h. h))
  kind_went had w (t ∷ ts) = by (is_word t.text) refl
    where
      agreed : HasAgreed kinds (at client had w) t.text
      agreed b = let due = b.0 in cc

      steps : is_word t.text ≡ true → step (at client had w) t.text ≡ Some (at closing had (with_client w t.text))
      steps e = ap (λ (b : Bool). when b (at closing had (with_client w t.text))) e

      known : is_word t.text ≡ true → (o : Option Kind) → find (λ (k : Kind). bytes_eq k.name t.text) kinds ≡ o → KindWent had w (t ∷ ts) (known_kind t.place o >>= λ kind. Ok (kind, ts))
      known e None none = halted kinds end (at client had w) (t ∷ ts) (UnknownClient t.place)
          (wrong t ts (UnknownClient t.place) (at closing had (with_client w t.text)) (steps e) (e, refl, none) (λ g h. subst (λ (x : BookFail). 2 ≤ order x) (sym h.1) (omega arith)) agreed)
      known e (Some kind) is = record {
        taken = t ∷ [];
        state = at closing had (with_client w t.text);
        split = refl;
        goes = (at closing had (with_client w t.text), steps e, record { none = λ k f h. (let none = h.2 in cc); agreed = agreed }, refl);
        is = (t.text, refl, is);
      }

      by : (b : Bool) → is_word t.text ≡ b
          → KindWent had w (t ∷ ts) ((let r : Result (Token × List Token) BookFail = cond b (Ok (t, ts)) (Err (Syntax t.place)) in r)
          >>= λ found. known_kind found.0.place (find (λ (k : Kind). bytes_eq k.name found.0.text) kinds) >>= λ kind. Ok (kind, found.1))
      by true e = known e (find (λ (k : Kind). bytes_eq k.name t.text) kinds) refl
      by false e = halted kinds end (at client had w) (t ∷ ts) (Syntax t.place) (no_step t ts (ap (λ (b : Bool). when b (at closing had (with_client w t.text))) e) agreed)

  weight_test : (w : Weight) → IsWeight w → is_weight w ≡ true
  weight_test w h =
      and_from (leb w.class most_weight) (leb w.minor most_weight && ltb 0 (w.class + w.minor)) (le-leb w.class most_weight h.class)
      (and_from (leb w.minor most_weight) (ltb 0 (w.class + w.minor)) (le-leb w.minor most_weight h.minor) (lt-ltb 0 (w.class + w.minor) h.some))

  abbrev pub WeightWent : List Written → Written → List Token → Result (Weight × List Token) BookFail → Type 0
  WeightWent had w ts r = Went kinds end (at weight had w) ts (λ (x : Weight × List Token). x.1) (λ x taken u. (word : List ℕ) × (u ≡ at ending had (with_weight w word))) r

  pub weight_went : (had : List Written) (w : Written) (ts : List Token)
      → WeightWent had w ts (weight_from end ts)
  unfolding weight_from token_where
  weight_went had w [] = halted kinds end (at weight had w) [] (Syntax end) (too_soon (λ rules h. h))
  weight_went had w (t ∷ ts) = by (is_number t.text) refl
    where
      agreed : HasAgreed kinds (at weight had w) t.text
      agreed b = let due = b.0 in cc

      steps : is_number t.text ≡ true → step (at weight had w) t.text ≡ Some (at ending had (with_weight w t.text))
      steps e = ap (λ (b : Bool). when b (at ending had (with_weight w t.text))) e

      range : is_number t.text ≡ true → (b : Bool) → is_weight (weight_of t.text) ≡ b → WeightWent had w (t ∷ ts) (cond b (Ok (weight_of t.text, ts)) (Err (WeightRange t.place)))
      range e true is = record {
        taken = t ∷ [];
        state = at ending had (with_weight w t.text);
        split = refl;
        goes = (at ending had (with_weight w t.text), steps e, record { none = λ k f h. h.2 (weight_from_test (weight_of t.text) is); agreed = agreed }, refl);
        is = (t.text, refl);
      }
      range e false none = halted kinds end (at weight had w) (t ∷ ts) (WeightRange t.place)
          (wrong t ts (WeightRange t.place) (at ending had (with_weight w t.text)) (steps e) (e, refl, λ is. both_ways (is_weight (weight_of t.text)) none (weight_test (weight_of t.text) is))
          (λ g h. subst (λ (x : BookFail). 5 ≤ order x) (sym h.1) (omega arith)) agreed)

      by : (b : Bool) → is_number t.text ≡ b
          → WeightWent had w (t ∷ ts) ((let r : Result (Token × List Token) BookFail = cond b (Ok (t, ts)) (Err (Syntax t.place)) in r)
          >>= λ found. cond (is_weight (weight_of found.0.text)) (Ok (weight_of found.0.text, found.1)) (Err (WeightRange found.0.place)))
      by true e = range e (is_weight (weight_of t.text)) refl
      by false e = halted kinds end (at weight had w) (t ∷ ts) (Syntax t.place) (no_step t ts (ap (λ (b : Bool). when b (at ending had (with_weight w t.text))) e) agreed)
