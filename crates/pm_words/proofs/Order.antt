-- Words are options in any order, each at most once.
use Rattle.std.proofs.Common.{◌≡◌, ◌≤◌, ◌+◌, ◌-◌, ◌∙◌, ◌⊎◌, ℕ, zero, suc, Bool, true, false, List, [], ◌∷◌, ◌++◌, append-nil, length, Option, Some, None, ap, arith, inl, inr, refl, subst, sym, codes, ◌&&◌}
use Rattle.std.proofs.lemmas.Bool.{and_parts, cases_Bool, cond-true, cond-false, le-leb, leb-true}
use Rattle.std.proofs.lemmas.Slice.Eq.{bytes_eq-Decides}
use Rattle.std.specs.Prelude.{nat_le}
use Rattle.std.specs.Str.{bytes_eq}
use Rattle.pm_words.proofs.Taken.{FirstItem, demo_apart, demo_joined, first_item, rules_apart, rules_joined, traces}
use Rattle.pm_words.specs.Order.{AreDemoWords, AreOptions, AreRulesWords, AreTraceWords, InSomeOrder, WordsAreOptions, abc, acb, bac, bca, cab, cba, digit}
use Rattle.pm_words.specs.Words.{WordsSeen, demo_number, nothing_said, with_demo, with_rules, with_trace, with_word, words_of}

-- ---- orders of three lists
swapped : (a b c words : List (List ℕ)) → InSomeOrder a b c words → InSomeOrder b a c words
swapped a b c words (abc e) = bac e
swapped a b c words (acb e) = bca e
swapped a b c words (bac e) = abc e
swapped a b c words (bca e) = acb e
swapped a b c words (cab e) = cba e
swapped a b c words (cba e) = cab e

turned : (a b c words : List (List ℕ)) → InSomeOrder a b c words → InSomeOrder c a b words
turned a b c words (abc e) = bca e
turned a b c words (acb e) = bac e
turned a b c words (bac e) = cba e
turned a b c words (bca e) = cab e
turned a b c words (cab e) = abc e
turned a b c words (cba e) = acb e

-- where the first is empty the others stand one after another
two_left : (b c words : List (List ℕ)) → InSomeOrder [] b c words → (words ≡ b ++ c) ⊎ (words ≡ c ++ b)
two_left b c words (abc e) = inl e
two_left b c words (acb e) = inr e
two_left b c words (bac e) = inl e
two_left b c words (bca e) = inl (e ∙ ap (λ (t : List (List ℕ)). b ++ t) (append-nil c))
two_left b c words (cab e) = inr e
two_left b c words (cba e) = inr (e ∙ ap (λ (t : List (List ℕ)). c ++ t) (append-nil b))

-- so a list in front of them is the first of three
in_front : (own a b c words : List (List ℕ)) → a ≡ [] → InSomeOrder a b c words → InSomeOrder own b c (own ++ words)
in_front own a b c words none order = elim (two_left b c words (subst (λ (t : List (List ℕ)). InSomeOrder t b c words) none order)) [
  | inl e ↦ abc (ap (λ (t : List (List ℕ)). own ++ t) e)
  | inr e ↦ acb (ap (λ (t : List (List ℕ)). own ++ t) e)
]

-- ---- from what is said to options
no_trace : (said : WordsSeen) (words : List (List ℕ)) → said.trace ≡ false → AreTraceWords said.trace words → words ≡ []
no_trace said words e h = subst (λ b. AreTraceWords b words) e h

no_rules : (said : WordsSeen) (words : List (List ℕ)) → said.rules ≡ None → AreRulesWords said.rules words → words ≡ []
no_rules said words e h = subst (λ o. AreRulesWords o words) e h

no_demo : (said : WordsSeen) (words : List (List ℕ)) → said.demo ≡ None → AreDemoWords said.demo words → words ≡ []
no_demo said words e h = subst (λ o. AreDemoWords o words) e h

with_trace_words : (words : List (List ℕ)) (other : WordsSeen) → other.trace ≡ false → AreOptions words other → AreOptions (codes "--trace" ∷ words) (record other { trace = true })
with_trace_words words other once m = record {
  trace = codes "--trace" ∷ [];
  rules = m.rules;
  demo = m.demo;
  trace_words = refl;
  rules_words = m.rules_words;
  demo_words = m.demo_words;
  order = in_front (codes "--trace" ∷ []) m.trace m.rules m.demo words (no_trace other m.trace once m.trace_words) m.order;
}

with_rules_words : (own words : List (List ℕ)) (name : List ℕ) (other : WordsSeen) → other.rules ≡ None → AreRulesWords (Some name) own → AreOptions words other → AreOptions (own ++ words) (record other { rules = Some name })
with_rules_words own words name other once named m = record {
  trace = m.trace;
  rules = own;
  demo = m.demo;
  trace_words = m.trace_words;
  rules_words = named;
  demo_words = m.demo_words;
  order =
      swapped own m.trace m.demo (own ++ words)
      (in_front own m.rules m.trace m.demo words (no_rules other m.rules once m.rules_words) (swapped m.trace m.rules m.demo words m.order));
}

with_demo_words : (own words : List (List ℕ)) (n : ℕ) (other : WordsSeen) → other.demo ≡ None → AreDemoWords (Some n) own → AreOptions words other → AreOptions (own ++ words) (record other { demo = Some n })
with_demo_words own words n other once named m = record {
  trace = m.trace;
  rules = m.rules;
  demo = own;
  trace_words = m.trace_words;
  rules_words = m.rules_words;
  demo_words = named;
  order =
      turned m.rules own m.trace (own ++ words) (swapped own m.rules m.trace (own ++ words)
      (in_front own m.demo m.rules m.trace words (no_demo other m.demo once m.demo_words)
      (swapped m.rules m.demo m.trace words (turned m.demo m.trace m.rules words (turned m.trace m.rules m.demo words m.order)))));
}

-- the text of a demo's number is a digit
record IsDigit (text : List ℕ) (n : ℕ) : Type 0 where
  text_is : text ≡ digit n
  low : 1 ≤ n
  high : n ≤ 8

digit_of : (text : List ℕ) (n : ℕ) → demo_number text ≡ Some n → IsDigit text n
digit_of [] n h = cc
digit_of (b ∷ c ∷ text) n h = cc
digit_of (b ∷ []) n h = elim (cases_Bool (nat_le 49 b && nat_le b 56)) [
  | inl t ↦
      let some = cond-true (nat_le 49 b && nat_le b 56) (Some (b - 48)) None t in
      let parts = and_parts (nat_le 49 b) (nat_le b 56) t in
      let low = leb-true 49 b parts.0 in
      let high = leb-true b 56 parts.1 in
      let is : b - 48 ≡ n = cc in
      record { text_is = (let e : b ≡ 48 + n = omega arith in ap (λ (x : ℕ). x ∷ []) e); low = omega arith; high = omega arith }
  | inr f ↦ let none = cond-false (nat_le 49 b && nat_le b 56) (Some (b - 48)) None f in cc
]

demo_written : (text : List ℕ) (n : ℕ) → IsDigit text n → AreDemoWords (Some n) (codes "--demo" ∷ text ∷ []) × AreDemoWords (Some n) ((codes "--demo=" ++ text) ∷ [])
demo_written text n d = (
  (d.low, d.high, inl (ap (λ (t : List ℕ). codes "--demo" ∷ t ∷ []) d.text_is)),
  (d.low, d.high, inr (ap (λ (t : List ℕ). (codes "--demo=" ++ t) ∷ []) d.text_is)),
)

of_nothing : (said : WordsSeen) → Some nothing_said ≡ Some said → nothing_said ≡ said
of_nothing said e = cc

meant : (k : ℕ) (words : List (List ℕ)) (said : WordsSeen) → length words ≤ k → words_of words ≡ Some said → AreOptions words said
meant k [] said l e = subst (AreOptions []) (of_nothing said e) (record { trace = []; rules = []; demo = []; trace_words = refl; rules_words = refl; demo_words = refl; order = abc refl })
meant zero (word ∷ rest) said l e = absurd (omega arith)
meant (suc k) (word ∷ rest) said l e = by (first_item word rest said e) (λ others other n i. meant k others other n i)
  where
    by : FirstItem (word ∷ rest) said → ((others : List (List ℕ)) (other : WordsSeen) → length others ≤ k → words_of others ≡ Some other → AreOptions others other) → AreOptions (word ∷ rest) said
    by (traces others is b) shorter =
        let n : suc (length rest) ≡ suc (length others) = ap length is in
        let m = shorter others b.other (omega arith) b.other_is in
        subst (λ (t : List (List ℕ)). AreOptions t said) (sym is) (subst (AreOptions (codes "--trace" ∷ others)) (sym b.said_is) (with_trace_words others b.other b.once m))
    by (rules_joined name others is b) shorter =
        let n : suc (length rest) ≡ suc (length others) = ap length is in
        let m = shorter others b.other (omega arith) b.other_is in
        subst (λ (t : List (List ℕ)). AreOptions t said) (sym is) (subst (AreOptions ((codes "--rules=" ++ name) ∷ others)) (sym b.said_is) (with_rules_words ((codes "--rules=" ++ name) ∷ []) others name b.other b.once (b.named, inr refl) m))
    by (rules_apart name others is b) shorter =
        let n : suc (length rest) ≡ suc (suc (length others)) = ap length is in
        let m = shorter others b.other (omega arith) b.other_is in
        subst (λ (t : List (List ℕ)). AreOptions t said) (sym is) (subst (AreOptions (codes "--rules" ∷ name ∷ others)) (sym b.said_is) (with_rules_words (codes "--rules" ∷ name ∷ []) others name b.other b.once (b.named, inl refl) m))
    by (demo_joined text others is b) shorter =
        let n : suc (length rest) ≡ suc (length others) = ap length is in
        let m = shorter others b.other (omega arith) b.other_is in
        subst (λ (t : List (List ℕ)). AreOptions t said) (sym is) (subst (AreOptions ((codes "--demo=" ++ text) ∷ others)) (sym b.said_is) (with_demo_words ((codes "--demo=" ++ text) ∷ []) others b.number b.other b.once (demo_written text b.number (digit_of text b.number b.numbered)).1 m))
    by (demo_apart text others is b) shorter =
        let n : suc (length rest) ≡ suc (suc (length others)) = ap length is in
        let m = shorter others b.other (omega arith) b.other_is in
        subst (λ (t : List (List ℕ)). AreOptions t said) (sym is) (subst (AreOptions (codes "--demo" ∷ text ∷ others)) (sym b.said_is) (with_demo_words (codes "--demo" ∷ text ∷ []) others b.number b.other b.once (demo_written text b.number (digit_of text b.number b.numbered)).0 m))

-- ---- from options to what is said
-- what an option adds to what is said beside it
abbrev add_trace : Bool → Option WordsSeen → Option WordsSeen
add_trace true o = with_trace o
add_trace false o = o

abbrev add_rules : Option (List ℕ) → Option WordsSeen → Option WordsSeen
add_rules (Some name) o = with_rules name o
add_rules None o = o

abbrev add_demo : Option ℕ → Option WordsSeen → Option WordsSeen
add_demo (Some n) o = with_demo (digit n) o
add_demo None o = o

unequal : (a b : List ℕ) → (a ≡ b → ⊥) → bytes_eq a b ≡ false
unequal a b f = elim (cases_Bool (bytes_eq a b)) [ inl h ↦ absurd (f ((bytes_eq-Decides a b).0 h)) | inr h ↦ h ]

-- a word that is no option with its value behind it
one_word : (word : List ℕ) (rest : List (List ℕ)) → bytes_eq word (codes "--rules") ≡ false → bytes_eq word (codes "--demo") ≡ false → words_of (word ∷ rest) ≡ with_word word (words_of rest)
one_word word [] a b = refl
one_word word (next ∷ rest) a b = rw (a, b) refl

rules_word : (name : List ℕ) (o : Option WordsSeen) → with_word (codes "--rules=" ++ name) o ≡ with_rules name o
rules_word name o = refl

demo_word : (text : List ℕ) (o : Option WordsSeen) → with_word (codes "--demo=" ++ text) o ≡ with_demo text o
demo_word text o = refl

trace_first : (b : Bool) (own rest : List (List ℕ)) → AreTraceWords b own → words_of (own ++ rest) ≡ add_trace b (words_of rest)
trace_first true own [] h = rw h refl
trace_first true own (next ∷ rest) h = rw h refl
trace_first false own rest h = rw h refl

rules_first : (r : Option (List ℕ)) (own rest : List (List ℕ)) → AreRulesWords r own → words_of (own ++ rest) ≡ add_rules r (words_of rest)
rules_first None own rest h = rw h refl
rules_first (Some name) own rest (file, inl e) = rw e refl
rules_first (Some name) own rest (file, inr e) =
    let word = codes "--rules=" ++ name in
    rw e
    (one_word word rest (unequal word (codes "--rules") (λ e. let l = ap length e in omega arith)) (unequal word (codes "--demo") (λ e. let l = ap length e in omega arith)) ∙ rules_word name (words_of rest))

demo_first : (d : Option ℕ) (own rest : List (List ℕ)) → AreDemoWords d own → words_of (own ++ rest) ≡ add_demo d (words_of rest)
demo_first None own rest h = rw h refl
demo_first (Some n) own rest (low, high, inl e) = rw e refl
demo_first (Some n) own rest (low, high, inr e) =
    let word = codes "--demo=" ++ digit n in
    rw e
    (one_word word rest (unequal word (codes "--rules") (λ e. let l = ap length e in omega arith)) (unequal word (codes "--demo") (λ e. let l = ap length e in omega arith)) ∙ demo_word (digit n) (words_of rest))

-- what is added to words that do not say it
trace_added : (b : Bool) (s : WordsSeen) → s.trace ≡ false → add_trace b (Some s) ≡ Some (record s { trace = b })
trace_added true s e = rw e refl
trace_added false s e = ap (λ (t : Bool). Some (record s { trace = t })) e

rules_added : (r : Option (List ℕ)) (own : List (List ℕ)) (s : WordsSeen) → AreRulesWords r own → s.rules ≡ None → add_rules r (Some s) ≡ Some (record s { rules = r })
rules_added (Some name) own s h e = rw (e, h.0) refl
rules_added None own s h e = ap (λ (t : Option (List ℕ)). Some (record s { rules = t })) e

number_is : (n : ℕ) → 1 ≤ n → n ≤ 8 → demo_number (digit n) ≡ Some n
number_is n low high =
    let a : nat_le 49 (48 + n) ≡ true = le-leb 49 (48 + n) (omega arith) in
    let b : nat_le (48 + n) 56 ≡ true = le-leb (48 + n) 56 (omega arith) in
    let c : (48 + n) - 48 ≡ n = omega arith in
    rw (a, b) (ap (λ (k : ℕ). Some k) c)

demo_added : (d : Option ℕ) (own : List (List ℕ)) (s : WordsSeen) → AreDemoWords d own → s.demo ≡ None → add_demo d (Some s) ≡ Some (record s { demo = d })
demo_added (Some n) own s h e = rw (number_is n h.0 h.1, e) refl
demo_added None own s h e = ap (λ (t : Option ℕ). Some (record s { demo = t })) e

module _ (said : WordsSeen) (T R D : List (List ℕ)) (t : AreTraceWords said.trace T) (r : AreRulesWords said.rules R) (d : AreDemoWords said.demo D) where
  trace_last : words_of T ≡ add_trace said.trace (Some nothing_said)
  trace_last = ap words_of (sym (append-nil T)) ∙ trace_first said.trace T [] t

  rules_last : words_of R ≡ add_rules said.rules (Some nothing_said)
  rules_last = ap words_of (sym (append-nil R)) ∙ rules_first said.rules R [] r

  demo_last : words_of D ≡ add_demo said.demo (Some nothing_said)
  demo_last = ap words_of (sym (append-nil D)) ∙ demo_first said.demo D [] d

  told : (words : List (List ℕ)) → InSomeOrder T R D words → words_of words ≡ Some said
  told words (abc e) =
      ap words_of e ∙ trace_first said.trace T (R ++ D) t
      ∙ ap (add_trace said.trace) (rules_first said.rules R D r ∙ ap (add_rules said.rules) (demo_last ∙ demo_added said.demo D nothing_said d refl) ∙ rules_added said.rules R (record nothing_said { demo = said.demo }) r refl)
      ∙ trace_added said.trace (record nothing_said { rules = said.rules; demo = said.demo }) refl
  told words (acb e) =
      ap words_of e ∙ trace_first said.trace T (D ++ R) t
      ∙ ap (add_trace said.trace) (demo_first said.demo D R d ∙ ap (add_demo said.demo) (rules_last ∙ rules_added said.rules R nothing_said r refl) ∙ demo_added said.demo D (record nothing_said { rules = said.rules }) d refl)
      ∙ trace_added said.trace (record nothing_said { rules = said.rules; demo = said.demo }) refl
  told words (bac e) =
      ap words_of e ∙ rules_first said.rules R (T ++ D) r
      ∙ ap (add_rules said.rules) (trace_first said.trace T D t ∙ ap (add_trace said.trace) (demo_last ∙ demo_added said.demo D nothing_said d refl) ∙ trace_added said.trace (record nothing_said { demo = said.demo }) refl)
      ∙ rules_added said.rules R (record nothing_said { trace = said.trace; demo = said.demo }) r refl
  told words (bca e) =
      ap words_of e ∙ rules_first said.rules R (D ++ T) r
      ∙ ap (add_rules said.rules) (demo_first said.demo D T d ∙ ap (add_demo said.demo) (trace_last ∙ trace_added said.trace nothing_said refl) ∙ demo_added said.demo D (record nothing_said { trace = said.trace }) d refl)
      ∙ rules_added said.rules R (record nothing_said { trace = said.trace; demo = said.demo }) r refl
  told words (cab e) =
      ap words_of e ∙ demo_first said.demo D (T ++ R) d
      ∙ ap (add_demo said.demo) (trace_first said.trace T R t ∙ ap (add_trace said.trace) (rules_last ∙ rules_added said.rules R nothing_said r refl) ∙ trace_added said.trace (record nothing_said { rules = said.rules }) refl)
      ∙ demo_added said.demo D (record nothing_said { trace = said.trace; rules = said.rules }) d refl
  told words (cba e) =
      ap words_of e ∙ demo_first said.demo D (R ++ T) d
      ∙ ap (add_demo said.demo) (rules_first said.rules R T r ∙ ap (add_rules said.rules) (trace_last ∙ trace_added said.trace nothing_said refl) ∙ rules_added said.rules R (record nothing_said { trace = said.trace }) r refl)
      ∙ demo_added said.demo D (record nothing_said { trace = said.trace; rules = said.rules }) d refl

pub words_are_options : WordsAreOptions
words_are_options words said = (
  λ e. meant (length words) words said (omega arith) e,
  λ m. told said m.trace m.rules m.demo m.trace_words m.rules_words m.demo_words words m.order,
)
