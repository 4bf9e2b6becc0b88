-- Lists of names and of conditions are gone along as they are read.
use Rattle.std.proofs.Common.{◌≡◌, ◌≢◌, ◌∙◌, ◌++◌, ◌<◌, ◌≤◌, ◌⊎◌, ℕ, Bool, true, false, Any, Option, None, Some, Result, Ok, Err, List, [], ◌∷◌, ap, arith, codes, cond, inl, inr, length, length-append, refl, subst, sym}
use Rattle.std.specs.Str.{bytes_eq}
use Rattle.std.proofs.lemmas.Bool.{both_ways}
use Rattle.pm_books.specs.Grammar.{AddConditions, AddNames, Condition, Written}
use Rattle.pm_books.specs.Reading.{◌>>=◌, Conditions, condition_of, conditions_from, is_comma, is_not, is_truth, name_of, names_from, new_name, no_conditions, with_condition}
use Rattle.pm_books.specs.Reading.{Due as Coming}
use Rattle.pm_books.specs.Tokens.{Token}
use Rattle.pm_books.specs.declared.fail.BookFail.{BookFail}
use Rattle.pm_books.specs.declared.fail.BookFail.TheVariants.{Syntax, UnknownProperty}
use Rattle.pm_props.proofs.NameLemmas.{named_exactly}
use Rattle.pm_props.proofs.Members.{has-empty}
use Rattle.pm_props.specs.Names.{IsNameOf, property_named}
use Rattle.pm_props.specs.Properties.{value_kind}
use Rattle.pm_props.specs.Sets.{has, only, union}
use Rattle.pm_props.specs.declared.kind.Kind.{Kind}
use Rattle.pm_props.specs.declared.property.PropId.{PropId}
use Rattle.pm_props.specs.declared.property.ValueKind.{ValueKind}
use Rattle.pm_props.specs.declared.property.ValueKind.TheVariants as value
use Rattle.pm_props.specs.declared.set.PropSet.{PropSet}
use Rattle.pm_rules.proofs.Followed.{in_union_cases}
use Rattle.pm_rules.specs.Words.{is_word}
use Rattle.pm_laws_texts.specs.BookFaults.{OfCondition, OfName, order}
use Rattle.pm_laws_texts.proofs.Along.{IsReady, word_is_other}
use Rattle.pm_laws_texts.proofs.Going.{First, HasAgreed, IsFine, IsPlain, Went, halted, one_first, plain_fine}
use Rattle.pm_laws_texts.proofs.Going.Halts.{no_step, too_soon, wrong}
use Rattle.pm_laws_texts.proofs.Named.{both, condition_added, conditions_have, have_conditions, have_names, name_added, names_have, names_in, one_property}
use Rattle.pm_laws_texts.proofs.Standing.{OfState}
use Rattle.pm_laws_texts.proofs.Walks.{State, at, step, when, with_conditions}
use Rattle.pm_laws_texts.proofs.Walks.Due.{behind, condition, conditions_on, negated}

-- ---- one name
-- what a word is as a name that is not in the set
data Named (set : PropSet) (t : Token) : Result PropId BookFail → Type 0 where
  no_word : is_word t.text ≡ false → Named set t (Err (Syntax t.place))
  unknown : is_word t.text ≡ true → ((p : PropId) → ¬ (IsNameOf t.text p)) → Named set t (Err (UnknownProperty t.place))
  repeated : is_word t.text ≡ true → (p : PropId) → IsNameOf t.text p → has set p ≡ true → Named set t (Err (Syntax t.place))
  fresh : is_word t.text ≡ true → (p : PropId) → IsNameOf t.text p → has set p ≡ false → Named set t (Ok p)

new_named : (set : PropSet) (t : Token) → is_word t.text ≡ true → (o : Option PropId) → property_named t.text ≡ o → Named set t (new_name t.place set o)
new_named set t word None e = unknown word (λ p is. let some = (named_exactly t.text p).1 is in cc)
new_named set t word (Some p) e = by (has set p) refl
  where
    by : (b : Bool) → has set p ≡ b → Named set t (cond b (Err (Syntax t.place)) (Ok p))
    by true h = repeated word p ((named_exactly t.text p).0 e) h
    by false h = fresh word p ((named_exactly t.text p).0 e) h

named : (set : PropSet) (t : Token) → Named set t (name_of set t)
unfolding name_of
named set t = by (is_word t.text) refl
  where
    by : (b : Bool) → is_word t.text ≡ b → Named set t (cond b (new_name t.place set (property_named t.text)) (Err (Syntax t.place)))
    by false e = no_word e
    by true e = new_named set t e (property_named t.text) refl

-- the names of the list are those of the set
pub record AreThose (names : List (List ℕ)) (set : PropSet) : Type 0 where
  pub to : (p : PropId) → has set p ≡ true → Any (λ name. IsNameOf name p) names
  pub back : (p : PropId) → Any (λ name. IsNameOf name p) names → has set p ≡ true

-- a name that is new has no fault
no_name_fault : (names : List (List ℕ)) (set : PropSet) (word : List ℕ) (p : PropId) (k : ℕ) (f : BookFail) → AreThose names set → IsNameOf word p → has set p ≡ false → ¬ (OfName names word k f)
no_name_fault names set word p k f those is new h = elim h.1 [
  | inl none ↦ none.1 p is
  | inr again ↦ both_ways (has set p) new (those.back p (subst (λ (q : PropId). Any (λ name. IsNameOf name q) names) (one_property word again.1.0 p again.1.1 is) again.1.2))
]

-- ---- names of targets and of sources
pub record IsNaming (kinds : List Kind) (due on : List (List ℕ) → State) : Type 0 where
  pub name : (names : List (List ℕ)) (word : List ℕ) → step (due names) word ≡ when (is_word word) (on (names ++ word ∷ []))
  pub comma : (names : List (List ℕ)) (word : List ℕ) → bytes_eq word (codes ",") ≡ true → step (on names) word ≡ Some (due names)
  pub of_due : (names : List (List ℕ)) (word : List ℕ) (k : ℕ) (f : BookFail) → OfState kinds (due names) word k f → OfName names word k f
  pub due_of : (names : List (List ℕ)) (word : List ℕ) (k : ℕ) (f : BookFail) → OfName names word k f → OfState kinds (due names) word k f
  pub inside : (names : List (List ℕ)) → (due names).due ≢ behind
  pub midway : (names : List (List ℕ)) (rules : List Written) → ¬ (IsReady (due names) rules)
  pub plain : (names : List (List ℕ)) → IsPlain kinds (on names)

-- what is had of them, and no comma comes next
abbrev pub NoComma : List Token → Type 0
NoComma ts = First (λ t. is_comma t ≡ false) ts

pub record HasNames (on : List (List ℕ) → State) (set : PropSet) (rest : List Token) (t : State) : Type 0 where
  pub names : List (List ℕ)
  pub state : t ≡ on names
  pub added : AddNames names 0 set
  pub some : 0 < length names
  pub last : NoComma rest

those_of : (names : List (List ℕ)) (set : PropSet) → AddNames names 0 set → AreThose names set
those_of names set added = record {
  to = λ p e. elim (names_have names 0 set p added e) [
    | inl none ↦ absurd (both_ways (has 0 p) (has-empty p) none)
    | inr any ↦ any
  ];
  back = λ p any. have_names names 0 set p added any;
}

some_more : {A : Type 0} (xs : List A) (x : A) → 0 < length (xs ++ x ∷ [])
some_more xs x = omega (arith, length-append xs (x ∷ []))

module _ (kinds : List Kind) (end : ℕ) (due on : List (List ℕ) → State) (is : IsNaming kinds due on) where
  abbrev Is : PropSet × List Token → List Token → State → Type 0
  Is x taken t = HasNames on x.0 x.1 t

  -- with true a name is due, and else a comma may follow
  names_went : (true_due : Bool) (names : List (List ℕ)) (set : PropSet) (ts : List Token) → AddNames names 0 set → (true_due ≡ false → 0 < length names)
      → Went kinds end (cond true_due (due names) (on names)) ts (λ x. x.1) (λ x taken t. HasNames on x.0 x.1 t) (names_from true_due set end ts)
  unfolding names_from
  names_went true names set [] added some = halted kinds end (due names) [] (Syntax end) (too_soon (is.midway names))
  names_went true names set (t ∷ ts) added some =
      by (λ p says new. names_went false (names ++ t.text ∷ []) (union set (only p)) ts (name_added names 0 set t.text p added says new) (λ _. some_more names t.text)) (name_of set t) (named set t)
    where
      agreed : HasAgreed kinds (due names) t.text
      agreed b = absurd (is.inside names b.0)

      to_next : is_word t.text ≡ true → step (due names) t.text ≡ Some (on (names ++ t.text ∷ []))
      to_next e = is.name names t.text ∙ ap (λ (b : Bool). when b (on (names ++ t.text ∷ []))) e

      by : ((p : PropId) → IsNameOf t.text p → has set p ≡ false
          → Went kinds end (on (names ++ t.text ∷ [])) ts (λ x. x.1) (λ x taken u. HasNames on x.0 x.1 u) (names_from false (union set (only p)) end ts))
          → (r : Result PropId BookFail) → Named set t r → Went kinds end (due names) (t ∷ ts) (λ x. x.1) (λ x taken u. HasNames on x.0 x.1 u) (r >>= λ p. names_from false (union set (only p)) end ts)
      by next r (no_word e) = halted kinds end (due names) (t ∷ ts) (Syntax t.place) (no_step t ts (is.name names t.text ∙ ap (λ (b : Bool). when b (on (names ++ t.text ∷ []))) e) agreed)
      by next r (unknown e none) = halted kinds end (due names) (t ∷ ts) (UnknownProperty t.place)
          (wrong t ts (UnknownProperty t.place) (on (names ++ t.text ∷ [])) (to_next e) (is.due_of names t.text t.place (UnknownProperty t.place) (e, inl (refl, none)))
          (λ g h. elim (is.of_due names t.text t.place g h).1 [
            | inl same ↦ subst (λ (x : BookFail). 1 ≤ order x) (sym same.0) (omega arith)
            | inr again ↦ absurd (none again.1.0 again.1.1)
          ]) agreed)
      by next r (repeated e p says there) = halted kinds end (due names) (t ∷ ts) (Syntax t.place)
          (wrong t ts (Syntax t.place) (on (names ++ t.text ∷ [])) (to_next e) (is.due_of names t.text t.place (Syntax t.place) (e, inr (refl, (p, says, (those_of names set added).to p there))))
          (λ g h. omega arith) agreed)
      by next r (fresh e p says new) = one_first kinds end (due names) (on (names ++ t.text ∷ [])) t ts (λ x. x.1) (λ x taken u. HasNames on x.0 x.1 u) (names_from false (union set (only p)) end ts) (to_next e)
          (record { none = λ k f h. no_name_fault names set t.text p k f (those_of names set added) says new (is.of_due names t.text k f h); agreed = agreed })
          (next p says new)
  names_went false names set [] added some = record { taken = []; state = on names; split = refl; goes = refl; is = record { names = names; state = refl; added = added; some = some refl; last = tt } }
  names_went false names set (t ∷ ts) added some = by (names_went true names set ts added (λ e. cc)) (is_comma t) refl
    where
      by : Went kinds end (due names) ts (λ x. x.1) (λ x taken u. HasNames on x.0 x.1 u) (names_from true set end ts) → (b : Bool) → is_comma t ≡ b
          → Went kinds end (on names) (t ∷ ts) (λ x. x.1) (λ x taken u. HasNames on x.0 x.1 u) (cond b (names_from true set end ts) (Ok (set, t ∷ ts)))
      by next true e = one_first kinds end (on names) (due names) t ts (λ x. x.1) (λ x taken u. HasNames on x.0 x.1 u) (names_from true set end ts) (is.comma names t.text e)
          (plain_fine kinds (on names) t.text (is.plain names)) next
      by next false e = record { taken = []; state = on names; split = refl; goes = refl; is = record { names = names; state = refl; added = added; some = some refl; last = e } }

  pub names_read : (ts : List Token) → Went kinds end (due []) ts (λ x. x.1) (λ x taken t. HasNames on x.0 x.1 t) (names_from true 0 end ts)
  names_read ts = names_went true [] 0 ts refl (λ e. cc)

-- ---- one condition
data Conditional (found : Conditions) (t : Token) : Result PropId BookFail → Type 0 where
  no_word : is_word t.text ≡ false → Conditional found t (Err (Syntax t.place))
  unknown : is_word t.text ≡ true → ((p : PropId) → ¬ (IsNameOf t.text p)) → Conditional found t (Err (UnknownProperty t.place))
  repeated : is_word t.text ≡ true → (p : PropId) → IsNameOf t.text p → has (both found) p ≡ true → Conditional found t (Err (Syntax t.place))
  no_truth : is_word t.text ≡ true → (p : PropId) → IsNameOf t.text p → value_kind p ≢ value.Bool → Conditional found t (Err (Syntax t.place))
  fresh : is_word t.text ≡ true → (p : PropId) → IsNameOf t.text p → has (both found) p ≡ false → value_kind p ≡ value.Bool → Conditional found t (Ok p)

truth_is : (k : ValueKind) → (k ≢ value.Bool) × (is_truth k ≡ false) ⊎ (k ≡ value.Bool) × (is_truth k ≡ true)
truth_is value.Bool = inr (refl, refl)
truth_is value.Mat = inl (λ e. cc, refl)
truth_is value.Sets = inl (λ e. cc, refl)
truth_is value.Int = inl (λ e. cc, refl)
truth_is value.Number = inl (λ e. cc, refl)
truth_is value.Edges = inl (λ e. cc, refl)
truth_is value.Lattice = inl (λ e. cc, refl)
truth_is value.Counts = inl (λ e. cc, refl)

conditional : (found : Conditions) (t : Token) → Conditional found t (condition_of found t)
unfolding condition_of
conditional found t = by (name_of (both found) t) (named (both found) t)
  where
    by : (r : Result PropId BookFail) → Named (both found) t r → Conditional found t (r >>= λ p. cond (is_truth (value_kind p)) (Ok p) (Err (Syntax t.place)))
    by r (Named.no_word e) = no_word e
    by r (Named.unknown e none) = unknown e none
    by r (Named.repeated e p is there) = repeated e p is there
    by r (Named.fresh e p is new) = elim (truth_is (value_kind p)) [
      | inl other ↦ subst (λ (b : Bool). Conditional found t (cond b (Ok p) (Err (Syntax t.place)))) (sym other.1) (no_truth e p is other.0)
      | inr flag ↦ subst (λ (b : Bool). Conditional found t (cond b (Ok p) (Err (Syntax t.place)))) (sym flag.1) (fresh e p is new flag.0)
    ]

-- ---- conditions
pub record HasConditions (had : List Written) (w : Written) (found : Conditions) (rest : List Token) (t : State) : Type 0 where
  pub conditions : List Condition
  pub state : t ≡ at conditions_on had (with_conditions w conditions)
  pub added : AddConditions conditions no_conditions found
  pub some : 0 < length conditions
  pub last : NoComma rest

conditions_those : (cs : List Condition) (found : Conditions) → AddConditions cs no_conditions found → AreThose (names_in cs) (both found)
conditions_those cs found added = record {
  to = λ p e. elim (conditions_have cs no_conditions found p added e) [
    | inl none ↦ absurd (nothing p none)
    | inr any ↦ any
  ];
  back = λ p any. have_conditions cs no_conditions found p added any;
}
  where
    nothing : (p : PropId) → ¬ (has (both no_conditions) p ≡ true)
    nothing p e = elim (in_union_cases 0 0 p e) [
      | inl h ↦ both_ways (has 0 p) (has-empty p) h
      | inr h ↦ both_ways (has 0 p) (has-empty p) h
    ]

module _ (kinds : List Kind) (end : ℕ) (had : List Written) (w : Written) where
  abbrev due_with : List Condition → State
  due_with cs = at condition had (with_conditions w cs)

  abbrev denied_with : List Condition → State
  denied_with cs = at negated had (with_conditions w cs)

  abbrev on_with : List Condition → State
  on_with cs = at conditions_on had (with_conditions w cs)

  abbrev with_name : List Condition → Bool → List ℕ → List Condition
  with_name cs sign name = cs ++ record { negated = sign; name = name } ∷ []

  on_plain : (cs : List Condition) → IsPlain kinds (on_with cs)
  on_plain cs = record { none = λ word k f h. h; inside = λ e. cc; midway = λ rules h. h }

  -- one condition, where the state takes its name
  one_condition : (s : State) (sign : Bool) (cs : List Condition) (found : Conditions) (t : Token) (ts : List Token) → AddConditions cs no_conditions found → ((rules : List Written) → ¬ (IsReady s rules)) → s.due ≢ behind
      → (is_word t.text ≡ true → step s t.text ≡ Some (on_with (with_name cs sign t.text))) → (is_word t.text ≡ false → step s t.text ≡ None)
      → ((k : ℕ) (f : BookFail) → OfState kinds s t.text k f → OfCondition cs t.text k f) → ((k : ℕ) (f : BookFail) → OfCondition cs t.text k f → OfState kinds s t.text k f)
      → (next : PropId → Result (Conditions × List Token) BookFail)
      → ((p : PropId) → AddConditions (with_name cs sign t.text) no_conditions (with_condition found sign p) → Went kinds end (on_with (with_name cs sign t.text)) ts (λ x. x.1) (λ x taken u. HasConditions had w x.0 x.1 u) (next p))
      → Went kinds end s (t ∷ ts) (λ x. x.1) (λ x taken u. HasConditions had w x.0 x.1 u) (condition_of found t >>= next)
  one_condition s sign cs found t ts added midway inside good bad of_state state_of next more = by (condition_of found t) (conditional found t)
    where
      agreed : HasAgreed kinds s t.text
      agreed b = absurd (inside b.0)

      by : (r : Result PropId BookFail) → Conditional found t r → Went kinds end s (t ∷ ts) (λ x. x.1) (λ x taken u. HasConditions had w x.0 x.1 u) (r >>= next)
      by r (no_word e) = halted kinds end s (t ∷ ts) (Syntax t.place) (no_step t ts (bad e) agreed)
      by r (unknown e none) = halted kinds end s (t ∷ ts) (UnknownProperty t.place)
          (wrong t ts (UnknownProperty t.place) (on_with (with_name cs sign t.text)) (good e) (state_of t.place (UnknownProperty t.place) (inl (e, inl (refl, none))))
          (λ g h. elim (of_state t.place g h) [
            | inl name ↦ elim name.1 [
              | inl same ↦ subst (λ (x : BookFail). 1 ≤ order x) (sym same.0) (omega arith)
              | inr again ↦ absurd (none again.1.0 again.1.1)
            ]
            | inr other ↦ absurd (none other.2.0 other.2.1)
          ]) agreed)
      by r (repeated e p is there) = halted kinds end s (t ∷ ts) (Syntax t.place)
          (wrong t ts (Syntax t.place) (on_with (with_name cs sign t.text)) (good e) (state_of t.place (Syntax t.place) (inl (e, inr (refl, (p, is, (conditions_those cs found added).to p there))))) (λ g h. omega arith) agreed)
      by r (no_truth e p is other) = halted kinds end s (t ∷ ts) (Syntax t.place)
          (wrong t ts (Syntax t.place) (on_with (with_name cs sign t.text)) (good e) (state_of t.place (Syntax t.place) (inr (e, refl, (p, is, other)))) (λ g h. omega arith) agreed)
      by r (fresh e p is new flag) = one_first kinds end s (on_with (with_name cs sign t.text)) t ts (λ x. x.1) (λ x taken u. HasConditions had w x.0 x.1 u) (next p) (good e)
          (record {
            none = λ k f h. elim (of_state k f h) [
              | inl name ↦ no_name_fault (names_in cs) (both found) t.text p k f (conditions_those cs found added) is new name
              | inr other ↦ other.2.2 (subst (λ (q : PropId). value_kind q ≡ value.Bool) (one_property t.text p other.2.0 is other.2.1) flag)
            ];
            agreed = agreed;
          }) (more p (condition_added cs no_conditions found (record { negated = sign; name = t.text }) p added is flag new))

  abbrev state_at : Coming → List Condition → State
  state_at Coming.condition cs = due_with cs
  state_at Coming.name cs = denied_with cs
  state_at Coming.comma cs = on_with cs

  no_sign : (cs : List Condition) (t : Token) → is_not t ≡ true → IsFine kinds (due_with cs) t.text
  no_sign cs t e = record {
    none = λ k f h. elim h [
      | inl name ↦ both_ways (is_not t) (word_is_other t.text name.0) e
      | inr other ↦ both_ways (is_not t) (word_is_other t.text other.0) e
    ];
    agreed = λ b. (let due = b.0 in cc);
  }

  conditions_went : (next : Coming) (cs : List Condition) (found : Conditions) (ts : List Token) → AddConditions cs no_conditions found → (next ≡ Coming.comma → 0 < length cs)
      → Went kinds end (state_at next cs) ts (λ x. x.1) (λ x taken t. HasConditions had w x.0 x.1 t) (conditions_from next found end ts)
  unfolding conditions_from
  conditions_went Coming.condition cs found [] added some = halted kinds end (due_with cs) [] (Syntax end) (too_soon (λ rules h. h))
  conditions_went Coming.condition cs found (t ∷ ts) added some =
      by (conditions_went Coming.name cs found ts added (λ e. cc))
      (λ p more. conditions_went Coming.comma (with_name cs false t.text) (with_condition found false p) ts more (λ _. some_more cs (record { negated = false; name = t.text }))) (is_not t) refl
    where
      by : Went kinds end (denied_with cs) ts (λ x. x.1) (λ x taken u. HasConditions had w x.0 x.1 u) (conditions_from Coming.name found end ts)
          → ((p : PropId) → AddConditions (with_name cs false t.text) no_conditions (with_condition found false p)
          → Went kinds end (on_with (with_name cs false t.text)) ts (λ x. x.1) (λ x taken u. HasConditions had w x.0 x.1 u) (conditions_from Coming.comma (with_condition found false p) end ts))
          → (b : Bool) → is_not t ≡ b → Went kinds end (due_with cs) (t ∷ ts) (λ x. x.1) (λ x taken u. HasConditions had w x.0 x.1 u)
          (cond b (conditions_from Coming.name found end ts) (condition_of found t >>= λ p. conditions_from Coming.comma (with_condition found false p) end ts))
      by denied more true e = one_first kinds end (due_with cs) (denied_with cs) t ts (λ x. x.1) (λ x taken u. HasConditions had w x.0 x.1 u) (conditions_from Coming.name found end ts)
          (ap (λ (b : Bool). cond b (Some (denied_with cs)) (when (is_word t.text) (on_with (with_name cs false t.text)))) e) (no_sign cs t e) denied
      by denied more false e = one_condition (due_with cs) false cs found t ts added (λ rules h. h) (λ e. cc)
          (λ g. ap (λ (b : Bool). cond b (Some (denied_with cs)) (when (is_word t.text) (on_with (with_name cs false t.text)))) e ∙ ap (λ (b : Bool). when b (on_with (with_name cs false t.text))) g)
          (λ g. ap (λ (b : Bool). cond b (Some (denied_with cs)) (when (is_word t.text) (on_with (with_name cs false t.text)))) e ∙ ap (λ (b : Bool). when b (on_with (with_name cs false t.text))) g)
          (λ k f h. h) (λ k f h. h) (λ p. conditions_from Coming.comma (with_condition found false p) end ts) more
  conditions_went Coming.name cs found [] added some = halted kinds end (denied_with cs) [] (Syntax end) (too_soon (λ rules h. h))
  conditions_went Coming.name cs found (t ∷ ts) added some = one_condition (denied_with cs) true cs found t ts added (λ rules h. h) (λ e. cc)
      (λ g. ap (λ (b : Bool). when b (on_with (with_name cs true t.text))) g) (λ g. ap (λ (b : Bool). when b (on_with (with_name cs true t.text))) g)
      (λ k f h. h) (λ k f h. h) (λ p. conditions_from Coming.comma (with_condition found true p) end ts)
      (λ p more. conditions_went Coming.comma (with_name cs true t.text) (with_condition found true p) ts more (λ _. some_more cs (record { negated = true; name = t.text })))
  conditions_went Coming.comma cs found [] added some =
      record { taken = []; state = on_with cs; split = refl; goes = refl; is = record { conditions = cs; state = refl; added = added; some = some refl; last = tt } }
  conditions_went Coming.comma cs found (t ∷ ts) added some = by (conditions_went Coming.condition cs found ts added (λ e. cc)) (is_comma t) refl
    where
      by : Went kinds end (due_with cs) ts (λ x. x.1) (λ x taken u. HasConditions had w x.0 x.1 u) (conditions_from Coming.condition found end ts) → (b : Bool) → is_comma t ≡ b
          → Went kinds end (on_with cs) (t ∷ ts) (λ x. x.1) (λ x taken u. HasConditions had w x.0 x.1 u) (cond b (conditions_from Coming.condition found end ts) (Ok (found, t ∷ ts)))
      by next true e = one_first kinds end (on_with cs) (due_with cs) t ts (λ x. x.1) (λ x taken u. HasConditions had w x.0 x.1 u) (conditions_from Coming.condition found end ts)
          (ap (λ (b : Bool). cond b (Some (due_with cs)) (when (bytes_eq t.text (codes ";")) (at behind had (with_conditions w cs)))) e) (plain_fine kinds (on_with cs) t.text (on_plain cs)) next
      by next false e = record { taken = []; state = on_with cs; split = refl; goes = refl; is = record { conditions = cs; state = refl; added = added; some = some refl; last = e } }

  pub conditions_read : (ts : List Token) → Went kinds end (at condition had (with_conditions w [])) ts (λ x. x.1) (λ x taken t. HasConditions had w x.0 x.1 t) (conditions_from Coming.condition no_conditions end ts)
  conditions_read ts = conditions_went Coming.condition [] no_conditions ts refl (λ e. cc)
