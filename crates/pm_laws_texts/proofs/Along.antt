-- Rules and what is begun of one are walked along.
use Rattle.std.proofs.Common.{◌≡◌, ◌∙◌, ◌++◌, ◌&&◌, ◌<◌, ℕ, Bool, true, false, not, nat_eq, IsTrue, Some, List, [], ◌∷◌, All, ap, append-nil, append_assoc, arith, codes, cond, leb, length, map, refl, subst, sym}
use Rattle.std.specs.List.{flat_map, list_all}
use Rattle.std.specs.Str.{bytes_eq}
use Rattle.std.proofs.lemmas.Bool.{and_parts, not-true}
use Rattle.std.proofs.lemmas.List.Elements.{All-head, All-tail}
use Rattle.std.proofs.lemmas.Slice.Eq.{bytes_eq-Decides}
use Rattle.pm_books.specs.Grammar.{Condition, Written, behind_comma, condition_item, name_item, precondition_words, separated, words_of}
use Rattle.pm_rules.specs.Words.{is_label, is_word, precondition_word}
use Rattle.pm_laws_texts.specs.BookFaults.{AreRules, AreWords, HasForm, IsAt, IsBegun, Spot, followed, to_client, to_conditions, to_sources, words_before}
use Rattle.pm_laws_texts.proofs.Walks.{Due, State, Walks, at, has_none, joined, labelled, start, step, step_at, stepped, when, with_client, with_conditions, with_sources, with_targets, with_weight}
use Rattle.pm_laws_texts.proofs.Walks.Due.{behind, client, closing, colon, condition, conditions_on, ending, label, negated, opening, source, sources_on, target, targets_on, weight}

-- ---- between rules
-- these whole rules are had, and none is begun
abbrev pub IsReadyAt : Due → List Written → Written → List Written → Type 0
IsReadyAt label had now rules = rules ≡ had
IsReadyAt behind had now rules = rules ≡ had ++ now ∷ []
IsReadyAt due had now rules = ⊥

abbrev pub IsReady : State → List Written → Type 0
IsReady s rules = IsReadyAt s.due s.had s.now rules

pub label_is_other : (word : List ℕ) → is_label word ≡ true → bytes_eq word precondition_word ≡ false
label_is_other word e =
    let one = and_parts (is_word word) (leb (length word) 32 && (list_all (λ b. not (nat_eq b 46)) word && not (bytes_eq word precondition_word))) e in
    let two = and_parts (leb (length word) 32) (list_all (λ b. not (nat_eq b 46)) word && not (bytes_eq word precondition_word)) one.1 in
    let three = and_parts (list_all (λ b. not (nat_eq b 46)) word) (not (bytes_eq word precondition_word)) two.1 in
    not-true (bytes_eq word precondition_word) three.1

pub label_step : (due : Due) (had : List Written) (now : Written) (rules : List Written) (word : List ℕ) → IsReadyAt due had now rules → is_label word ≡ true → step_at due had now word ≡ Some (at colon rules (labelled word))
label_step label had now rules word ready e = ap (λ (b : Bool). when b (at colon had (labelled word))) e ∙ ap (λ (l : List Written). Some (at colon l (labelled word))) (sym ready)
label_step behind had now rules word ready e =
    ap (λ (b : Bool). cond (b && has_none now.conditions) (Some (at opening had now)) (when (is_label word) (at colon (had ++ now ∷ []) (labelled word)))) (label_is_other word e)
    ∙ ap (λ (b : Bool). when b (at colon (had ++ now ∷ []) (labelled word))) e ∙ ap (λ (l : List Written). Some (at colon l (labelled word))) (sym ready)
label_step due had now rules word ready e = absurd ready

-- ---- lists
one_word : (s t : State) (word : List ℕ) → step s word ≡ Some t → Walks s (word ∷ []) t
one_word s t word e = stepped s t t word [] e refl

module _ (A : Type 0) (item : A → List (List ℕ)) (good : A → Bool) (due on : List A → State)
    (one : (xs : List A) (x : A) → good x ≡ true → Walks (due xs) (item x) (on (xs ++ x ∷ []))) (comma : (xs : List A) → step (on xs) (codes ",") ≡ Some (due xs)) where
  behind_on : (xs rest : List A) → list_all good rest ≡ true → Walks (on xs) (flat_map behind_comma (map item rest)) (on (xs ++ rest))
  behind_on xs [] all = ap (λ (l : List A). Some (on l)) (sym (append-nil xs))
  behind_on xs (x ∷ rest) all =
      let parts = and_parts (good x) (list_all good rest) all in
      let more : Walks (on (xs ++ x ∷ [])) (flat_map behind_comma (map item rest)) (on (xs ++ x ∷ rest)) =
      subst (λ (l : List A). Walks (on (xs ++ x ∷ [])) (flat_map behind_comma (map item rest)) (on l)) (append_assoc xs (x ∷ []) rest) (behind_on (xs ++ x ∷ []) rest parts.1) in
      stepped (on xs) (due xs) (on (xs ++ x ∷ rest)) (codes ",") (item x ++ flat_map behind_comma (map item rest)) (comma xs)
      (joined (due xs) (on (xs ++ x ∷ [])) (on (xs ++ x ∷ rest)) (item x) (flat_map behind_comma (map item rest)) (one xs x parts.0) more)

  pub separated_on : (rest : List A) → 0 < length rest → list_all good rest ≡ true → Walks (due []) (separated (map item rest)) (on rest)
  separated_on [] some all = absurd (omega arith)
  separated_on (x ∷ rest) some all =
      let parts = and_parts (good x) (list_all good rest) all in
      joined (due []) (on (x ∷ [])) (on (x ∷ rest)) (item x) (flat_map behind_comma (map item rest)) (one [] x parts.0) (behind_on (x ∷ []) rest parts.1)

  followed_from : (xs rest : List A) → list_all good rest ≡ true → Walks (due xs) (followed (map item rest)) (due (xs ++ rest))
  followed_from xs [] all = ap (λ (l : List A). Some (due l)) (sym (append-nil xs))
  followed_from xs (x ∷ rest) all =
      let parts = and_parts (good x) (list_all good rest) all in
      let more : Walks (due (xs ++ x ∷ [])) (followed (map item rest)) (due (xs ++ x ∷ rest)) =
      subst (λ (l : List A). Walks (due (xs ++ x ∷ [])) (followed (map item rest)) (due l)) (append_assoc xs (x ∷ []) rest) (followed_from (xs ++ x ∷ []) rest parts.1) in
      joined (due xs) (due (xs ++ x ∷ [])) (due (xs ++ x ∷ rest)) (item x ++ codes "," ∷ []) (followed (map item rest))
      (joined (due xs) (on (xs ++ x ∷ [])) (due (xs ++ x ∷ [])) (item x) (codes "," ∷ []) (one xs x parts.0) (one_word (on (xs ++ x ∷ [])) (due (xs ++ x ∷ [])) (codes ",") (comma (xs ++ x ∷ [])))) more

  pub followed_on : (rest : List A) → list_all good rest ≡ true → Walks (due []) (followed (map item rest)) (due rest)
  followed_on rest all = followed_from [] rest all

-- ---- the parts of a rule
abbrev pub with_label_of : Written → Written
with_label_of w = labelled w.label

abbrev pub with_targets_of : Written → Written
with_targets_of w = with_targets (with_label_of w) w.targets

abbrev pub with_sources_of : Written → Written
with_sources_of w = with_sources (with_targets_of w) w.sources

abbrev pub with_client_of : Written → Written
with_client_of w = with_client (with_sources_of w) w.client

abbrev pub with_weight_of : Written → Written
with_weight_of w = with_weight (with_client_of w) w.weight

pub word_is_other : (word : List ℕ) → is_word word ≡ true → bytes_eq word (codes "!") ≡ false
word_is_other word good = by (bytes_eq word (codes "!")) refl
  where
    by : (b : Bool) → bytes_eq word (codes "!") ≡ b → b ≡ false
    by false e = refl
    by true e = (let same : is_word (codes "!") ≡ true = subst (λ (l : List ℕ). is_word l ≡ true) ((bytes_eq-Decides word (codes "!")).0 e) good in cc)

module _ (had : List Written) (w : Written) where
  targets_due : List (List ℕ) → State
  targets_due names = at target had (with_targets (with_label_of w) names)

  targets_had : List (List ℕ) → State
  targets_had names = at targets_on had (with_targets (with_label_of w) names)

  one_target : (names : List (List ℕ)) (name : List ℕ) → is_word name ≡ true → Walks (targets_due names) (name_item name) (targets_had (names ++ name ∷ []))
  unfolding targets_due targets_had
  one_target names name e = one_word (targets_due names) (targets_had (names ++ name ∷ [])) name (ap (λ (b : Bool). when b (targets_had (names ++ name ∷ []))) e)

  sources_due : List (List ℕ) → State
  sources_due names = at source had (with_sources (with_targets_of w) names)

  sources_had : List (List ℕ) → State
  sources_had names = at sources_on had (with_sources (with_targets_of w) names)

  one_source : (names : List (List ℕ)) (name : List ℕ) → is_word name ≡ true → Walks (sources_due names) (name_item name) (sources_had (names ++ name ∷ []))
  unfolding sources_due sources_had
  one_source names name e = one_word (sources_due names) (sources_had (names ++ name ∷ [])) name (ap (λ (b : Bool). when b (sources_had (names ++ name ∷ []))) e)

  conditions_due : List Condition → State
  conditions_due cs = at condition had (with_conditions (with_weight_of w) cs)

  conditions_had : List Condition → State
  conditions_had cs = at conditions_on had (with_conditions (with_weight_of w) cs)

  one_condition : (cs : List Condition) (c : Condition) → is_word c.name ≡ true → Walks (conditions_due cs) (condition_item c) (conditions_had (cs ++ c ∷ []))
  unfolding conditions_due conditions_had
  one_condition cs c e = by c.negated
    where
      by : (b : Bool) → Walks (conditions_due cs) (condition_item (record { negated = b; name = c.name })) (conditions_had (cs ++ record { negated = b; name = c.name } ∷ []))
      by true = stepped (conditions_due cs) (at negated had (with_conditions (with_weight_of w) cs)) (conditions_had (cs ++ record { negated = true; name = c.name } ∷ [])) (codes "!") (c.name ∷ []) refl
          (one_word (at negated had (with_conditions (with_weight_of w) cs)) (conditions_had (cs ++ record { negated = true; name = c.name } ∷ [])) c.name
          (ap (λ (b : Bool). when b (conditions_had (cs ++ record { negated = true; name = c.name } ∷ []))) e))
      by false = one_word (conditions_due cs) (conditions_had (cs ++ record { negated = false; name = c.name } ∷ [])) c.name
          (ap (λ (b : Bool). cond b (Some (at negated had (with_conditions (with_weight_of w) cs))) (when (is_word c.name) (conditions_had (cs ++ record { negated = false; name = c.name } ∷ [])))) (word_is_other c.name e)
          ∙ ap (λ (b : Bool). when b (conditions_had (cs ++ record { negated = false; name = c.name } ∷ []))) e)

  module _ (s : State) (ready : IsReady s had) (good : IsTrue (is_label w.label)) where
    to_target : Walks s (w.label ∷ codes ":" ∷ codes "rule" ∷ []) (at target had (with_label_of w))
    to_target = stepped s (at colon had (labelled w.label)) (at target had (with_label_of w)) w.label (codes ":" ∷ codes "rule" ∷ []) (label_step s.due s.had s.now had w.label ready good) refl

    target_walk : IsTrue (list_all is_word w.targets) → Walks s (words_before Spot.target w) (at target had (with_targets_of w))
    unfolding targets_due targets_had
    target_walk all = joined s (at target had (with_label_of w)) (at target had (with_targets_of w)) (w.label ∷ codes ":" ∷ codes "rule" ∷ []) (followed (map name_item w.targets)) to_target
        (followed_on (List ℕ) name_item is_word targets_due targets_had one_target (λ names. refl) w.targets all)

    module _ (targets : AreWords w.targets) where
      sources_walk : (more : List (List ℕ)) (u : State) → Walks (at source had (with_targets_of w)) more u → Walks s (to_sources w more) u
      unfolding targets_due targets_had
      sources_walk more u walks = joined s (at target had (with_label_of w)) u (w.label ∷ codes ":" ∷ codes "rule" ∷ []) (separated (map name_item w.targets) ++ codes ":" ∷ more) to_target
          (joined (at target had (with_label_of w)) (at targets_on had (with_targets_of w)) u (separated (map name_item w.targets)) (codes ":" ∷ more)
          (separated_on (List ℕ) name_item is_word targets_due targets_had one_target (λ names. refl) w.targets targets.0 targets.1)
          (stepped (at targets_on had (with_targets_of w)) (at source had (with_targets_of w)) u (codes ":") more refl walks))

      source_walk : IsTrue (list_all is_word w.sources) → Walks s (words_before Spot.source w) (at source had (with_sources_of w))
      unfolding sources_due sources_had
      source_walk all = sources_walk (followed (map name_item w.sources)) (at source had (with_sources_of w))
          (followed_on (List ℕ) name_item is_word sources_due sources_had one_source (λ names. refl) w.sources all)

      module _ (sources : AreWords w.sources) where
        client_walk : (more : List (List ℕ)) (u : State) → Walks (at client had (with_sources_of w)) more u → Walks s (to_client w more) u
        unfolding sources_due sources_had
        client_walk more u walks = sources_walk (separated (map name_item w.sources) ++ codes "{" ∷ more) u
            (joined (at source had (with_targets_of w)) (at sources_on had (with_sources_of w)) u (separated (map name_item w.sources)) (codes "{" ∷ more)
            (separated_on (List ℕ) name_item is_word sources_due sources_had one_source (λ names. refl) w.sources sources.0 sources.1)
            (stepped (at sources_on had (with_sources_of w)) (at client had (with_sources_of w)) u (codes "{") more refl walks))

        weight_walk : (more : List (List ℕ)) (u : State) → IsTrue (is_word w.client) → Walks (at weight had (with_client_of w)) more u → Walks s (to_client w (w.client ∷ codes "}" ∷ codes "weight" ∷ more)) u
        weight_walk more u is_client walks = client_walk (w.client ∷ codes "}" ∷ codes "weight" ∷ more) u
            (stepped (at client had (with_sources_of w)) (at closing had (with_client_of w)) u w.client (codes "}" ∷ codes "weight" ∷ more) (ap (λ (b : Bool). when b (at closing had (with_client_of w))) is_client) walks)

  module _ (s : State) (ready : IsReady s had) (form : HasForm w) where
    ending_walk : (more : List (List ℕ)) (u : State) → Walks (at behind had (with_weight_of w)) more u → Walks s (to_client w (w.client ∷ codes "}" ∷ codes "weight" ∷ w.weight ∷ codes ";" ∷ more)) u
    ending_walk more u walks = weight_walk s ready form.label form.targets form.sources (w.weight ∷ codes ";" ∷ more) u form.client
        (stepped (at weight had (with_client_of w)) (at ending had (with_weight_of w)) u w.weight (codes ";" ∷ more) (ap (λ (b : Bool). when b (at ending had (with_weight_of w))) form.weight) walks)

    conditions_walk : (more : List (List ℕ)) (u : State) → Walks (at condition had (with_weight_of w)) more u → Walks s (to_conditions w more) u
    conditions_walk more u walks = ending_walk (precondition_word ∷ codes ":" ∷ more) u walks

    condition_walk : Walks s (words_before Spot.condition w) (at condition had w)
    unfolding conditions_due conditions_had
    condition_walk = conditions_walk (followed (map condition_item w.conditions)) (at condition had w)
        (followed_on Condition condition_item (λ c. is_word c.name) conditions_due conditions_had one_condition (λ cs. refl) w.conditions form.conditions)

    negated_walk : Walks s (words_before Spot.negated w) (at negated had w)
    unfolding conditions_due conditions_had
    negated_walk = conditions_walk (followed (map condition_item w.conditions) ++ codes "!" ∷ []) (at negated had w)
        (joined (at condition had (with_weight_of w)) (at condition had w) (at negated had w) (followed (map condition_item w.conditions)) (codes "!" ∷ [])
        (followed_on Condition condition_item (λ c. is_word c.name) conditions_due conditions_had one_condition (λ cs. refl) w.conditions form.conditions) refl)

    -- a whole rule
    pub rule_walk : Walks s (words_of w) (at behind had w)
    unfolding conditions_due conditions_had
    rule_walk = ending_walk (precondition_words w.conditions) (at behind had w) (by w.conditions form.conditions)
      where
        by : (cs : List Condition) → list_all (λ c. is_word c.name) cs ≡ true → Walks (at behind had (with_weight_of w)) (precondition_words cs) (at behind had (with_conditions w cs))
        by [] all = refl
        by (c ∷ cs) all = joined (at condition had (with_weight_of w)) (at conditions_on had (with_conditions w (c ∷ cs))) (at behind had (with_conditions w (c ∷ cs)))
            (separated (map condition_item (c ∷ cs))) (codes ";" ∷ []) (separated_on Condition condition_item (λ c. is_word c.name) conditions_due conditions_had one_condition (λ cs. refl) (c ∷ cs) (omega arith) all) refl

-- ---- whole rules
pub rules_walk : (s : State) (had rules : List Written) → IsReady s had → All HasForm rules → (t : State) × Walks s (flat_map words_of rules) t × IsReady t (had ++ rules)
rules_walk s had [] ready form = (s, refl, subst (IsReady s) (sym (append-nil had)) ready)
rules_walk s had (w ∷ rules) ready form =
    let more = rules_walk (at behind had w) (had ++ w ∷ []) rules refl (All-tail HasForm w rules form) in (
      more.0,
      joined s (at behind had w) more.0 (words_of w) (flat_map words_of rules) (rule_walk had w s ready (All-head HasForm w rules form)) more.1,
      subst (IsReady more.0) (append_assoc had (w ∷ []) rules) more.2,
    )

pub rules_from_start : (rules : List Written) (words : List (List ℕ)) → AreRules rules words → (t : State) × Walks start words t × IsReady t rules
rules_from_start rules words are =
    let all = rules_walk start [] rules refl are.form in
    (all.0, subst (λ (l : List (List ℕ)). Walks start l all.0) (sym are.words) all.1, all.2)

-- ---- spots
-- the state before a spot
abbrev pub IsSpot : Spot → List Written → Written → State → Type 0
IsSpot Spot.label had w t = IsReady t had
IsSpot Spot.target had w t = t ≡ at target had (with_targets_of w)
IsSpot Spot.source had w t = t ≡ at source had (with_sources_of w)
IsSpot Spot.client had w t = t ≡ at client had (with_sources_of w)
IsSpot Spot.weight had w t = t ≡ at weight had (with_client_of w)
IsSpot Spot.condition had w t = t ≡ at condition had w
IsSpot Spot.negated had w t = t ≡ at negated had w

spot_walk : (x : Spot) (had : List Written) (w : Written) (s : State) → IsReady s had → IsBegun x w → (t : State) × Walks s (words_before x w) t × IsSpot x had w t
spot_walk Spot.label had w s ready begun = (s, refl, ready)
spot_walk Spot.target had w s ready begun = (at target had (with_targets_of w), target_walk had w s ready begun.0 begun.1, refl)
spot_walk Spot.source had w s ready begun = (at source had (with_sources_of w), source_walk had w s ready begun.0 begun.1 begun.2, refl)
spot_walk Spot.client had w s ready begun = (at client had (with_sources_of w), client_walk had w s ready begun.0 begun.1 begun.2 [] (at client had (with_sources_of w)) refl, refl)
spot_walk Spot.weight had w s ready begun = (at weight had (with_client_of w), weight_walk had w s ready begun.0 begun.1 begun.2 [] (at weight had (with_client_of w)) begun.3 refl, refl)
spot_walk Spot.condition had w s ready begun = (at condition had w, condition_walk had w s ready begun, refl)
spot_walk Spot.negated had w s ready begun = (at negated had w, negated_walk had w s ready begun, refl)

pub spot_from_start : (x : Spot) (had : List Written) (w : Written) (before : List (List ℕ)) → IsAt x had w before → (t : State) × Walks start before t × IsSpot x had w t
spot_from_start x had w before is =
    let whole = rules_walk start [] had refl is.form in
    let more = spot_walk x had w whole.0 whole.2 is.begun in
    (more.0, subst (λ (l : List (List ℕ)). Walks start l more.0) (sym is.words) (joined start whole.0 more.0 (flat_map words_of had) (words_before x w) whole.1 more.1), more.2)
