-- The fault at which the tokens of a text stop is its first.
use Rattle.std.proofs.Common.{◌≡◌, ◌∙◌, ◌++◌, ◌+◌, ◌<◌, ◌≤◌, ◌&&◌, ◌⊎◌, ℕ, Bool, true, false, not, All, None, Some, Result, Ok, Err, List, [], ◌∷◌, ap, append-nil, append_assoc, arith, cond, eqb, inl, inr, length, map, refl, subst, sym}
use Rattle.std.specs.List.{flat_map}
use Rattle.std.specs.Str.{bytes_eq}
use Rattle.std.proofs.lemmas.Bool.{and_parts, both_ways, cases_Bool, eq-eqb, eqb-false, eqb-true, not-true}
use Rattle.std.proofs.lemmas.List.Concat.{flat_map-append}
use Rattle.std.proofs.lemmas.List.Elements.{All-cons, All-head, All-nil, All-tail}
use Rattle.std.proofs.lemmas.Slice.Eq.{bytes_eq-Decides}
use Rattle.pm_books.specs.Grammar.{Condition, Written, texts, words_of}
use Rattle.pm_books.specs.Reading.{book_of, mismatch, rules_from}
use Rattle.pm_books.specs.Tokens.{Token, tokens_of}
use Rattle.pm_books.specs.declared.fail.BookFail.{BookFail}
use Rattle.pm_books.specs.declared.fail.BookFail.TheVariants.{SameLabel, SignatureMismatch, Syntax, TooManyRules}
use Rattle.pm_limits.specs.Limits.{most_rules}
use Rattle.pm_props.specs.declared.kind.Kind.{Kind}
use Rattle.pm_rules.specs.Words.{is_label, precondition_word}
use Rattle.pm_rules.specs.declared.rule.Rule.{Rule}
use Rattle.pm_laws_texts.specs.BookFaults.{AreRules, Begin, CountsFirst, Differs, HasFault, HasForm, IsAt, IsEnd, IsFirstFault, OfCondition, OfLabel, OfName, OfWord, Spot, order, place}
use Rattle.pm_laws_texts.specs.BookFaults.HasFault.{ends_too_soon, no_such_word, of_rule, of_word}
use Rattle.pm_laws_texts.specs.BookLaws.{FirstFaultIsRead, Tells}
use Rattle.pm_laws_texts.proofs.Along.{IsReady, label_step, rule_walk, rules_from_start, rules_walk}
use Rattle.pm_laws_texts.proofs.Ends.{rules_behind, walk_begins}
use Rattle.pm_laws_texts.proofs.Going.{Goes, HasAgreed, Halts, IsFine, goes_walk}
use Rattle.pm_laws_texts.proofs.Going.Halts.{no_step, too_soon, wrong}
use Rattle.pm_laws_texts.proofs.Had.{Had, walked}
use Rattle.pm_laws_texts.proofs.PartsRead.{IsStart, Parted, no_label}
use Rattle.pm_laws_texts.proofs.Rising.{Meets, Rises, meets, rises_at, tokens_rise}
use Rattle.pm_laws_texts.proofs.Rising.Meets.{beyond, here, inside}
use Rattle.pm_laws_texts.proofs.RulesRead.{AllWent, Faulty, rules_went}
use Rattle.pm_laws_texts.proofs.Standing.{OfDue, OfState, due_of_spot, spot_of_due}
use Rattle.pm_laws_texts.proofs.Walks.{Due, State, Walks, at, first_step, has_none, joined, labelled, parted, same_end, start, step, stepped}
use Rattle.pm_laws_texts.proofs.Walks.Due.{behind, client, colon, condition, label, negated, source, target, weight}

-- ---- tokens
texts_more : (before : List Token) (t : Token) → texts (before ++ t ∷ []) ≡ texts before ++ t.text ∷ []
texts_more [] t = refl
texts_more (x ∷ before) t = ap (λ l. x.text ∷ l) (texts_more before t)

-- what is gone along is gone along up to each of its tokens
record Passed (kinds : List Kind) (s : State) (before : List Token) (t : Token) (after : List Token) (end : State) : Type 0 where
  at_it : State
  behind_it : State
  goes : Goes kinds s before at_it
  steps : step at_it t.text ≡ Some behind_it
  fine : IsFine kinds at_it t.text
  more : Goes kinds behind_it after end

passed : (kinds : List Kind) (s : State) (before : List Token) (t : Token) (after : List Token) (end : State) → Goes kinds s (before ++ t ∷ after) end → Passed kinds s before t after end
passed kinds s [] t after end (u, e, fine, more) = record { at_it = s; behind_it = u; goes = refl; steps = e; fine = fine; more = more }
passed kinds s (x ∷ before) t after end (u, e, fine, more) =
    let it = passed kinds u before t after end more in
    record { at_it = it.at_it; behind_it = it.behind_it; goes = (u, e, fine, it.goes); steps = it.steps; fine = it.fine; more = it.more }

one_step_more : (s t u : State) (before : List (List ℕ)) (word : List ℕ) → Walks s before t → step t word ≡ Some u → Walks s (before ++ word ∷ []) u
one_step_more s t u before word h e = joined s t u before (word ∷ []) h (stepped t u u word [] e refl)

-- what begins rules is walked along
begun_walks : (words : List (List ℕ)) → Begin words → (t : State) × Walks start words t
begun_walks words (rules, more, are) =
    let all = rules_from_start rules (words ++ more) are in
    let part = parted start all.0 words more all.1 in
    (part.0, part.1)

-- the last of some rules
all_init : {A : Type 0} (P : A → Type 0) (xs : List A) (x : A) → All P (xs ++ x ∷ []) → All P xs × P x
all_init P [] x all = (All-nil P, All-head P x [] all)
all_init P (y ∷ xs) x all = let rest = all_init P xs x (All-tail P y (xs ++ x ∷ []) all) in (All-cons P y xs (All-head P y (xs ++ x ∷ []) all) rest.0, rest.1)

last_walk : (had : List Written) (w : Written) (words : List (List ℕ)) → AreRules (had ++ w ∷ []) words → Walks start words (at behind had w)
last_walk had w words are =
    let forms = all_init HasForm had w are.form in
    let before = rules_walk start [] had refl forms.0 in
    let all : Walks start (flat_map words_of had ++ words_of w) (at behind had w) = joined start before.0 (at behind had w) (flat_map words_of had) (words_of w) before.1 (rule_walk had w before.0 before.2 forms.1) in
    let same : flat_map words_of had ++ words_of w ≡ words =
    ap (λ (l : List (List ℕ)). flat_map words_of had ++ l) (sym (append-nil (words_of w))) ∙ sym (flat_map-append words_of had (w ∷ [])) ∙ sym are.words in
    subst (λ (l : List (List ℕ)). Walks start l (at behind had w)) same all

ready_rules : (s : State) (rules : List Written) (words : List (List ℕ)) → IsReady s rules → Had s words → AreRules rules words
ready_rules s rules words ready h = by s.due s.had s.now ready h
  where
    by : (due : Due) (had : List Written) (now : Written) → IsReady (at due had now) rules → Had (at due had now) words → AreRules rules words
    by label had now r h = subst (λ (l : List Written). AreRules l words) (sym r) (record { form = h.form; words = h.words ∙ append-nil (flat_map words_of had) })
    by behind had now r h = subst (λ (l : List Written). AreRules l words) (sym r) (rules_behind had now words h)
    by due had now r h = absurd r

-- a fault of a word stands at it
place_of_name : (names : List (List ℕ)) (word : List ℕ) (k : ℕ) (f : BookFail) → OfName names word k f → place f ≡ k
place_of_name names word k f h = elim h.1 [
  | inl none ↦ ap place none.0
  | inr again ↦ ap place again.0
]

place_of_label : (had : List Written) (word : List ℕ) (k : ℕ) (f : BookFail) → OfLabel had word k f → place f ≡ k
place_of_label had word k f h = elim h.1 [
  | inl again ↦ ap place again.0
  | inr many ↦ ap place many.0
]

place_of_condition : (w : Written) (word : List ℕ) (k : ℕ) (f : BookFail) → OfCondition w.conditions word k f → place f ≡ k
place_of_condition w word k f (inl name) = place_of_name (map (λ c. c.name) w.conditions) word k f name
place_of_condition w word k f (inr other) = ap place other.1

place_is : (kinds : List Kind) (due : Due) (had : List Written) (now : Written) (word : List ℕ) (k : ℕ) (f : BookFail) → OfDue kinds due had now word k f → place f ≡ k
place_is kinds label had now word k f h = place_of_label had word k f h
place_is kinds behind had now word k f h = place_of_label (had ++ now ∷ []) word k f h
place_is kinds target had now word k f h = place_of_name now.targets word k f h
place_is kinds source had now word k f h = place_of_name now.sources word k f h
place_is kinds client had now word k f h = ap place h.1
place_is kinds weight had now word k f h = ap place h.1
place_is kinds condition had now word k f h = place_of_condition now word k f h
place_is kinds negated had now word k f h = place_of_condition now word k f h
place_is kinds due had now word k f h = absurd h

-- ---- what was gone along has no fault
module _ (kinds : List Kind) (taken : List Token) (s : State) (goes : Goes kinds start taken s) where
  walk : Walks start (texts taken) s
  walk = goes_walk kinds start s taken goes

  no_word_inside : (before : List Token) (u : Token) (more : List Token) → taken ≡ before ++ u ∷ more → Begin (texts before ++ u.text ∷ [])
  no_word_inside before u more e =
      let it = passed kinds start before u more s (subst (λ (l : List Token). Goes kinds start l s) e goes) in
      walk_begins it.behind_it (texts before ++ u.text ∷ []) (one_step_more start it.at_it it.behind_it (texts before) u.text (goes_walk kinds start it.at_it before it.goes) it.steps)

  no_fault_inside : (before : List Token) (u : Token) (more : List Token) (x : Spot) (had : List Written) (w : Written) (f : BookFail) → taken ≡ before ++ u ∷ more → IsAt x had w (texts before) → ¬ (OfWord kinds x had w u.text u.place f)
  no_fault_inside before u more x had w f e is of =
      let it = passed kinds start before u more s (subst (λ (l : List Token). Goes kinds start l s) e goes) in
      let due = due_of_spot kinds x had w (texts before) u.text u.place f is of in
      let same = same_end start due.0 it.at_it (texts before) due.1 (goes_walk kinds start it.at_it before it.goes) in
      it.fine.none u.place f (subst (λ (t : State). OfState kinds t u.text u.place f) same due.2)

  -- a rule that ends before one of these tokens agrees
  no_rule_inside : (before : List Token) (last next : Token) (more after : List Token) (had : List Written) (w : Written) → taken ≡ before ++ last ∷ next ∷ more → AreRules (had ++ w ∷ []) (texts (before ++ last ∷ []))
      → IsEnd w (next.text ∷ texts after) → ¬ (Differs kinds w)
  no_rule_inside before last next more after had w e are is_end differs =
      let e' : taken ≡ (before ++ last ∷ []) ++ next ∷ more = e ∙ sym (append_assoc before (last ∷ []) (next ∷ more)) in
      let it = passed kinds start (before ++ last ∷ []) next more s (subst (λ (l : List Token). Goes kinds start l s) e' goes) in
      let same : at behind had w ≡ it.at_it =
      same_end start (at behind had w) it.at_it (texts (before ++ last ∷ [])) (last_walk had w (texts (before ++ last ∷ [])) are) (goes_walk kinds start it.at_it (before ++ last ∷ []) it.goes) in
      let agreed : HasAgreed kinds (at behind had w) next.text = subst (λ (t : State). HasAgreed kinds t next.text) (sym same) it.fine.agreed in
      agreed (refl, is_end) differs

  -- a rule that ends with them is the one that is had
  rule_at_end : (before : List Token) (last : Token) (had : List Written) (w : Written) → taken ≡ before ++ last ∷ [] → AreRules (had ++ w ∷ []) (texts (before ++ last ∷ [])) → s ≡ at behind had w
  rule_at_end before last had w e are =
      same_end start s (at behind had w) (texts (before ++ last ∷ [])) (subst (λ (l : List Token). Walks start (texts l) s) e walk) (last_walk had w (texts (before ++ last ∷ [])) are)

  -- a word behind them that cannot come next
  not_begun : (t : Token) → step s t.text ≡ None → ¬ (Begin (texts taken ++ t.text ∷ []))
  not_begun t none begin =
      let all = begun_walks (texts taken ++ t.text ∷ []) begin in
      let two = parted start all.0 (texts taken) (t.text ∷ []) all.1 in
      let same : two.0 ≡ s = same_end start two.0 s (texts taken) two.1 walk in
      let one = first_step s all.0 t.text [] (subst (λ (x : State). Walks x (t.text ∷ []) all.0) same two.2) in
      let some = one.1 in cc

  begun_with : (t : Token) (u : State) → step s t.text ≡ Some u → Begin (texts taken ++ t.text ∷ [])
  begun_with t u e = walk_begins u (texts taken ++ t.text ∷ []) (one_step_more start s u (texts taken) t.text walk e)

  -- a fault of a word behind them
  fault_behind : (t : Token) (x : Spot) (had : List Written) (w : Written) (f : BookFail) → IsAt x had w (texts taken) → OfWord kinds x had w t.text t.place f → OfState kinds s t.text t.place f
  fault_behind t x had w f is of =
      let due = due_of_spot kinds x had w (texts taken) t.text t.place f is of in
      subst (λ (y : State). OfState kinds y t.text t.place f) (same_end start due.0 s (texts taken) due.1 walk) due.2

-- ---- what stops a text has a fault
-- the first of the tokens behind a rule is none of it
ends_there : (w : Written) (rest : List Token) → Parted w rest → IsEnd w (texts rest)
ends_there w [] h = tt
ends_there w (t ∷ rest) h = λ none same.
    let word : bytes_eq t.text precondition_word ≡ true = (bytes_eq-Decides t.text precondition_word).1 same in
    both_ways (bytes_eq t.text precondition_word && has_none w.conditions) h (ap (λ (b : Bool). b && has_none w.conditions) word ∙ ap (λ (cs : List Condition). true && has_none cs) none)

module _ (kinds : List Kind) (text : List ℕ) (taken rest : List Token) (s : State) (goes : Goes kinds start taken s) (split : tokens_of text ≡ taken ++ rest) where
  walks : Walks start (texts taken) s
  walks = goes_walk kinds start s taken goes

  rising : (before : List Token) (u : Token) (after : List Token) → tokens_of text ≡ before ++ u ∷ after → Rises 0 (before ++ u ∷ after) (length text)
  rising before u after e = subst (λ (l : List Token). Rises 0 l (length text)) e (tokens_rise text)

  meeting : (before : List Token) (u : Token) (after : List Token) → tokens_of text ≡ before ++ u ∷ after → Meets taken rest before u after
  meeting before u after e = meets 0 (length text) taken rest before u after (sym split ∙ e) (rising before u after e)

  all_taken : rest ≡ [] → tokens_of text ≡ taken
  all_taken e = split ∙ ap (λ (l : List Token). taken ++ l) e ∙ append-nil taken

  below_end : (t : Token) (more : List Token) → rest ≡ t ∷ more → t.place < length text
  below_end t more e =
      let cut : tokens_of text ≡ taken ++ t ∷ more = split ∙ ap (λ (l : List Token). taken ++ l) e in
      (rises_at 0 (length text) taken t more (rising taken t more cut)).1

  -- there are no rules but whole ones
  rules_ready : (rules : List Written) → rest ≡ [] → AreRules rules (texts (tokens_of text)) → IsReady s rules
  rules_ready rules e are =
      let all = rules_from_start rules (texts (tokens_of text)) are in
      let same : all.0 ≡ s = same_end start all.0 s (texts taken) (subst (λ (l : List Token). Walks start (texts l) all.0) (all_taken e) all.1) walks in
      subst (λ (t : State). IsReady t rules) same all.2

  -- the fault stands
  stands : (f : BookFail) → Halts kinds (length text) s rest f → HasFault kinds text f
  stands f h = by rest f refl h
    where
      by : (left : List Token) (f : BookFail) → rest ≡ left → Halts kinds (length text) s left f → HasFault kinds text f
      by left f e (too_soon midway) = ends_too_soon (subst (λ (l : List Token). Begin (texts l)) (sym (all_taken e)) (walk_begins s (texts taken) walks)) (λ rules are. midway rules (rules_ready rules e are))
      by left f e (no_step t more none agreed) = no_such_word taken t more (split ∙ ap (λ (l : List Token). taken ++ l) e) (walk_begins s (texts taken) walks) (not_begun kinds taken s goes t none)
      by left f e (wrong t more g u steps of least agreed) =
          let it = spot_of_due kinds s (texts taken) t.text t.place g walks of in
          of_word taken t more it.0 it.1 it.2 g (split ∙ ap (λ (l : List Token). taken ++ l) e) it.3 it.4

  -- a fault of a word stands at the word
  word_place : (before : List Token) (u : Token) (x : Spot) (had : List Written) (w : Written) (g : BookFail) → IsAt x had w (texts before) → OfWord kinds x had w u.text u.place g → place g ≡ u.place
  word_place before u x had w g is of =
      let due = due_of_spot kinds x had w (texts before) u.text u.place g is of in
      place_is kinds due.0.due due.0.had due.0.now u.text u.place g due.2

  -- what counts behind a rule that ends with the tokens
  abbrev Ended : BookFail → Type 0
  Ended f = (before : List Token) (last : Token) (had : List Written) (w : Written) → taken ≡ before ++ last ∷ [] → s ≡ at behind had w → IsEnd w (texts rest) → Differs kinds w → CountsFirst f (SignatureMismatch (last.place + 1))

  -- the rules that end in the tokens
  rule_inside : (f : BookFail) → Ended f → (before : List Token) (last : Token) (after : List Token) (had : List Written) (w : Written) (more : List Token) → taken ≡ before ++ last ∷ more → after ≡ more ++ rest
      → AreRules (had ++ w ∷ []) (texts (before ++ last ∷ [])) → IsEnd w (texts after) → Differs kinds w → CountsFirst f (SignatureMismatch (last.place + 1))
  rule_inside f ended before last after had w [] e g are is_end differs =
      ended before last had w e (rule_at_end kinds taken s goes before last had w e are) (subst (λ (l : List Token). IsEnd w (texts l)) g is_end) differs
  rule_inside f ended before last after had w (next ∷ more) e g are is_end differs =
      absurd (no_rule_inside kinds taken s goes before last next more (more ++ rest) had w e are (subst (λ (l : List Token). IsEnd w (texts l)) g is_end) differs)

  -- where no tokens are left
  counts_end : (f : BookFail) → rest ≡ [] → (((rules : List Written) → ¬ (AreRules rules (texts (tokens_of text)))) → CountsFirst f (Syntax (length text))) → Ended f → (g : BookFail) → HasFault kinds text g → CountsFirst f g
  counts_end f e at_end ended g (no_such_word before u after cut begin not) = elim (meeting before u after cut) [
    | inside more a b ↦ absurd (not (no_word_inside kinds taken s goes before u more a))
    | here a b ↦ (let none = sym e ∙ b in cc)
    | beyond t more a b ↦ (let none = sym e ∙ a in cc)
  ]
  counts_end f e at_end ended g (ends_too_soon begin none) = at_end none
  counts_end f e at_end ended g (of_word before u after x had w h cut is of) = elim (meeting before u after cut) [
    | inside more a b ↦ absurd (no_fault_inside kinds taken s goes before u more x had w h a is of)
    | here a b ↦ (let none = sym e ∙ b in cc)
    | beyond t more a b ↦ (let none = sym e ∙ a in cc)
  ]
  counts_end f e at_end ended g (of_rule before last after had w cut are is_end differs) = elim (meeting before last after cut) [
    | inside more a b ↦ rule_inside f ended before last after had w more a b are is_end differs
    | here a b ↦ (let none = sym e ∙ b in cc)
    | beyond t more a b ↦ (let none = sym e ∙ a in cc)
  ]

  head_is : (t u : Token) (more after : List Token) → rest ≡ t ∷ more → rest ≡ u ∷ after → t ≡ u
  head_is t u more after a b = let same = sym a ∙ b in cc

  -- where a token is left, at the fault's place or beyond it
  counts_at : (f : BookFail) (t : Token) (more : List Token) → rest ≡ t ∷ more → place f ≤ t.place → (¬ (Begin (texts taken ++ t.text ∷ [])) → CountsFirst f (Syntax t.place))
      → ((g : BookFail) → OfState kinds s t.text t.place g → CountsFirst f g) → Ended f → (g : BookFail) → HasFault kinds text g → CountsFirst f g
  counts_at f t more e low word_here fault_here ended g (no_such_word before u after cut begin not) = elim (meeting before u after cut) [
    | inside in' a b ↦ absurd (not (no_word_inside kinds taken s goes before u in' a))
    | here a b ↦ (let same = head_is t u more after e b in
        subst (λ (x : Token). CountsFirst f (Syntax x.place)) same (word_here (λ begins. not (subst (λ (x : Token). Begin (texts before ++ x.text ∷ [])) same (subst (λ (l : List Token). Begin (texts l ++ t.text ∷ [])) (sym a) begins)))))
    | beyond x xs a b ↦ inl (let same = ap (λ (y : Token). y.place) (head_is t x more xs e a) in omega arith)
  ]
  counts_at f t more e low word_here fault_here ended g (ends_too_soon begin none) = inl (let below = below_end t more e in omega arith)
  counts_at f t more e low word_here fault_here ended g (of_word before u after x had w h cut is of) = elim (meeting before u after cut) [
    | inside in' a b ↦ absurd (no_fault_inside kinds taken s goes before u in' x had w h a is of)
    | here a b ↦ (let same = head_is t u more after e b in
        fault_here h (fault_behind kinds taken s goes t x had w h (subst (λ (l : List Token). IsAt x had w (texts l)) a is) (subst (λ (y : Token). OfWord kinds x had w y.text y.place h) (sym same) of)))
    | beyond y ys a b ↦ inl (let same = ap (λ (z : Token). z.place) (head_is t y more ys e a) in let stands = word_place before u x had w h is of in omega arith)
  ]
  counts_at f t more e low word_here fault_here ended g (of_rule before last after had w cut are is_end differs) = elim (meeting before last after cut) [
    | inside in' a b ↦ rule_inside f ended before last after had w in' a b are is_end differs
    | here a b ↦ inl (let same = ap (λ (z : Token). z.place) (head_is t last more after e b) in omega arith)
    | beyond y ys a b ↦ inl (let same = ap (λ (z : Token). z.place) (head_is t y more ys e a) in omega arith)
  ]

  -- a rule before agrees
  agreed_ended : (f : BookFail) (t : Token) (more : List Token) → rest ≡ t ∷ more → HasAgreed kinds s t.text → Ended f
  agreed_ended f t more e agreed before last had w cut same is_end differs =
      let here : HasAgreed kinds (at behind had w) t.text = subst (λ (x : State). HasAgreed kinds x t.text) same agreed in
      let not_more : IsEnd w (t.text ∷ texts more) = subst (λ (l : List Token). IsEnd w (texts l)) e is_end in
      absurd (here (refl, not_more) differs)

  counts : (f : BookFail) → Halts kinds (length text) s rest f → (g : BookFail) → HasFault kinds text g → CountsFirst f g
  counts f h = by rest f refl h
    where
      by : (left : List Token) (f : BookFail) → rest ≡ left → Halts kinds (length text) s left f → (g : BookFail) → HasFault kinds text g → CountsFirst f g
      by left f e (too_soon midway) = counts_end (Syntax (length text)) e (λ none. inr (refl, omega arith))
          (λ before last had w cut same is_end differs. absurd (midway (had ++ w ∷ []) (subst (λ (x : State). IsReady x (had ++ w ∷ [])) (sym same) refl)))
      by left f e (no_step t more none agreed) = counts_at (Syntax t.place) t more e (omega arith) (λ not. inr (refl, omega arith))
          (λ g of. inr (sym (place_is kinds s.due s.had s.now t.text t.place g of), omega arith)) (agreed_ended (Syntax t.place) t more e agreed)
      by left f e (wrong t more h u steps of least agreed) =
          let at_it = place_is kinds s.due s.had s.now t.text t.place h of in
          counts_at h t more e (omega arith) (λ not. absurd (not (begun_with kinds taken s goes t u steps))) (λ g other. inr (at_it ∙ sym (place_is kinds s.due s.had s.now t.text t.place g other), least g other))
          (agreed_ended h t more e agreed)

  stopped_first : (f : BookFail) → Halts kinds (length text) s rest f → IsFirstFault kinds text f
  stopped_first f h = record { stands = stands f h; first = counts f h }

-- ---- a rule that does not agree
module _ (kinds : List Kind) (text : List ℕ) (before : List Token) (last : Token) (rest : List Token) (written : List Written) (w : Written) (goes : Goes kinds start (before ++ last ∷ []) (at behind written w))
    (split : tokens_of text ≡ (before ++ last ∷ []) ++ rest) (parted_here : Parted w rest) (differs : Differs kinds w) where
  stands_there : HasFault kinds text (SignatureMismatch (last.place + 1))
  stands_there = of_rule before last rest written w (split ∙ append_assoc before (last ∷ []) rest)
      (rules_behind written w (texts (before ++ last ∷ [])) (walked (at behind written w) (texts (before ++ last ∷ [])) (goes_walk kinds start (at behind written w) (before ++ last ∷ []) goes)))
      (ends_there w rest parted_here) differs

  -- the last token of the rule is one
  last_is : (front : List Token) (x : Token) → before ++ last ∷ [] ≡ front ++ x ∷ [] → last ≡ x
  last_is front x e = by before front e
    where
      by : (before front : List Token) → before ++ last ∷ [] ≡ front ++ x ∷ [] → last ≡ x
      by [] [] e = cc
      by [] (y ∷ []) e = cc
      by [] (y ∷ z ∷ front) e = cc
      by (y ∷ []) [] e = cc
      by (y ∷ z ∷ before) [] e = cc
      by (y ∷ before) (z ∷ front) e = by before front (let more : before ++ last ∷ [] ≡ front ++ x ∷ [] = cc in more)

  same_rule : (f : BookFail) → place f ≡ last.place + 1 → order f ≤ 3 → (front : List Token) (x : Token) (had : List Written) (v : Written) → before ++ last ∷ [] ≡ front ++ x ∷ [] → CountsFirst f (SignatureMismatch (x.place + 1))
  same_rule f at_it low front x had v e = inr (at_it ∙ ap (λ (y : Token). y.place + 1) (last_is front x e), low)

  beyond_rule : (t : Token) (more : List Token) → rest ≡ t ∷ more → last.place + 1 ≤ t.place
  beyond_rule t more e =
      let cut : tokens_of text ≡ before ++ last ∷ t ∷ more = split ∙ append_assoc before (last ∷ []) rest ∙ ap (λ (l : List Token). before ++ last ∷ l) e in
      let rises = rises_at 0 (length text) before last (t ∷ more) (subst (λ (l : List Token). Rises 0 l (length text)) cut (tokens_rise text)) in
      rises.2.0

  none_left : rest ≡ [] → IsFirstFault kinds text (SignatureMismatch (last.place + 1))
  none_left e = record {
    stands = stands_there;
    first = counts_end kinds text (before ++ last ∷ []) rest (at behind written w) goes split (SignatureMismatch (last.place + 1)) e
        (λ none. absurd (none (written ++ w ∷ []) (subst (λ (l : List Token). AreRules (written ++ w ∷ []) (texts l)) (sym (all_taken kinds text (before ++ last ∷ []) rest (at behind written w) goes split e))
        (rules_behind written w (texts (before ++ last ∷ [])) (walked (at behind written w) (texts (before ++ last ∷ [])) (goes_walk kinds start (at behind written w) (before ++ last ∷ []) goes))))))
        (λ front x had v cut same is_end d. same_rule (SignatureMismatch (last.place + 1)) refl (omega arith) front x had v cut);
  }

  -- a token that can begin no rule stands behind it
  syntax_here : (t : Token) (more : List Token) → rest ≡ t ∷ more → t.place ≡ last.place + 1 → is_label t.text ≡ false → IsFirstFault kinds text (Syntax (last.place + 1))
  syntax_here t more e same none =
      let no : step (at behind written w) t.text ≡ None = no_label behind written w (written ++ w ∷ []) t.text refl (λ _. subst (λ (l : List Token). Parted w l) e parted_here) none in
      subst (λ (k : ℕ). IsFirstFault kinds text (Syntax k)) same (record {
        stands = no_such_word (before ++ last ∷ []) t more (split ∙ ap (λ (l : List Token). (before ++ last ∷ []) ++ l) e)
            (walk_begins (at behind written w) (texts (before ++ last ∷ [])) (goes_walk kinds start (at behind written w) (before ++ last ∷ []) goes))
            (not_begun kinds (before ++ last ∷ []) (at behind written w) goes t no);
        first = counts_at kinds text (before ++ last ∷ []) rest (at behind written w) goes split (Syntax t.place) t more e (omega arith) (λ not. inr (refl, omega arith))
            (λ g of. inr (sym (place_is kinds behind written w t.text t.place g of), omega arith))
            (λ front x had v cut is is_end d. same_rule (Syntax t.place) same (omega arith) front x had v cut);
      })

  mismatch_here : (t : Token) (more : List Token) → rest ≡ t ∷ more → (t.place ≡ last.place + 1 → is_label t.text ≡ true) → IsFirstFault kinds text (SignatureMismatch (last.place + 1))
  mismatch_here t more e only = record {
    stands = stands_there;
    first = counts_at kinds text (before ++ last ∷ []) rest (at behind written w) goes split (SignatureMismatch (last.place + 1)) t more e low
        (λ not. elim (nearer (last.place + 1) t.place low) [
          | inl less ↦ inl less
          | inr same ↦ absurd (not (begun_with kinds (before ++ last ∷ []) (at behind written w) goes t (at colon (written ++ w ∷ []) (labelled t.text))
              (label_step behind written w (written ++ w ∷ []) t.text refl (only (sym same)))))
        ])
        (λ g of. elim of.1 [
          | inl again ↦ label_counts g (SameLabel t.place) again.0 refl (omega arith)
          | inr many ↦ label_counts g (TooManyRules t.place) many.0 refl (omega arith)
        ])
        (λ front x had v cut is is_end d. same_rule (SignatureMismatch (last.place + 1)) refl (omega arith) front x had v cut);
  }
    where
      low : last.place + 1 ≤ t.place
      low = beyond_rule t more e

      nearer : (a b : ℕ) → a ≤ b → (a < b) ⊎ (a ≡ b)
      nearer a b l = elim (cases_Bool (eqb a b)) [
        | inl same ↦ inr (eqb-true a b same)
        | inr other ↦ inl (let ne = eqb-false a b other in omega arith)
      ]

      label_counts : (g h : BookFail) → g ≡ h → place h ≡ t.place → 3 ≤ order h → CountsFirst (SignatureMismatch (last.place + 1)) g
      label_counts g h same there high = subst (CountsFirst (SignatureMismatch (last.place + 1))) (sym same) (elim (nearer (last.place + 1) (place h) (omega (arith, low, there))) [
        | inl less ↦ inl less
        | inr equal ↦ inr (equal, high)
      ])

  mismatched_first : (f : BookFail) → f ≡ mismatch (last.place + 1) rest → IsFirstFault kinds text f
  mismatched_first f e = subst (IsFirstFault kinds text) (sym e) (by rest refl)
    where
      is_true : (t : Token) → t.place ≡ last.place + 1 → (eqb t.place (last.place + 1) && not (is_label t.text)) ≡ false → is_label t.text ≡ true
      is_true t same neither = go (is_label t.text) (ap (λ (b : Bool). b && not (is_label t.text)) (sym (eq-eqb t.place (last.place + 1) same)) ∙ neither)
        where
          go : (b : Bool) → (true && not b) ≡ false → b ≡ true
          go true e = refl
          go false e = cc

      by : (left : List Token) → rest ≡ left → IsFirstFault kinds text (mismatch (last.place + 1) left)
      by [] e = none_left e
      by (t ∷ more) e = elim (cases_Bool (eqb t.place (last.place + 1) && not (is_label t.text))) as (λ x. IsFirstFault kinds text (cond (eqb t.place (last.place + 1) && not (is_label t.text)) (Syntax (last.place + 1)) (SignatureMismatch (last.place + 1)))) [
        | inl both ↦ (let parts = and_parts (eqb t.place (last.place + 1)) (not (is_label t.text)) both in
            subst (λ (b : Bool). IsFirstFault kinds text (cond b (Syntax (last.place + 1)) (SignatureMismatch (last.place + 1)))) (sym both)
            (syntax_here t more e (eqb-true t.place (last.place + 1) parts.0) (not-true (is_label t.text) parts.1)))
        | inr neither ↦ subst (λ (b : Bool). IsFirstFault kinds text (cond b (Syntax (last.place + 1)) (SignatureMismatch (last.place + 1)))) (sym neither) (mismatch_here t more e (λ same. is_true t same neither))
      ]

-- ---- the law
faulty_first : (kinds : List Kind) (text : List ℕ) (f : BookFail) → Faulty kinds (length text) start (tokens_of text) f → IsFirstFault kinds text f
faulty_first kinds text f (inl h) = stopped_first kinds text h.taken h.rest h.state h.goes h.split f h.halts
faulty_first kinds text f (inr h) = mismatched_first kinds text h.before h.last h.rest h.written h.w h.goes h.split h.parted h.differs f h.fault

-- tokens that are gone along to the end of a rule have no fault
none_stands : (kinds : List Kind) (text : List ℕ) (t : State) (written : List Written) → Goes kinds start (tokens_of text) t → IsStart kinds t written [] → (f : BookFail) → ¬ (HasFault kinds text f)
none_stands kinds text t written goes is f (no_such_word before u after cut begin not) = not (no_word_inside kinds (tokens_of text) t goes before u after cut)
none_stands kinds text t written goes is f (ends_too_soon begin none) =
    none written (ready_rules t written (texts (tokens_of text)) is.ready (walked t (texts (tokens_of text)) (goes_walk kinds start t (tokens_of text) goes)))
none_stands kinds text t written goes is f (of_word before u after x had w g cut at_it of) = no_fault_inside kinds (tokens_of text) t goes before u after x had w g cut at_it of
none_stands kinds text t written goes is f (of_rule before last after had w cut are is_end differs) = by after cut is_end
  where
    by : (after : List Token) → tokens_of text ≡ before ++ last ∷ after → IsEnd w (texts after) → ⊥
    by [] cut end' =
        let same = rule_at_end kinds (tokens_of text) t goes before last had w cut are in
        let agrees : ¬ (Differs kinds w) = subst (λ (x : State). x.due ≡ behind → ¬ (Differs kinds x.now)) same is.agrees refl in
        agrees differs
    by (next ∷ more) cut end' = no_rule_inside kinds (tokens_of text) t goes before last next more more had w cut are end' differs

all_tell : (kinds : List Kind) (text : List ℕ) (r : Result (List Rule) BookFail) → AllWent kinds (length text) start (tokens_of text) r → Tells kinds text r
all_tell kinds text (Ok rules) (t, written, goes, is) = none_stands kinds text t written goes is
all_tell kinds text (Err f) h = faulty_first kinds text f h

pub first_fault_is_read : FirstFaultIsRead
unfolding book_of
first_fault_is_read kinds text =
    all_tell kinds text (rules_from (most_rules + 1) kinds [] (length text) (tokens_of text))
    (rules_went kinds (length text) (most_rules + 1) [] [] start (tokens_of text) (record { ready = refl; agrees = λ e. cc; parted = λ e. cc }) tt (omega arith) (omega arith))
