-- The words of a walk are those that its end has had.
use Rattle.std.proofs.Common.{◌≡◌, ◌∙◌, ◌++◌, ◌&&◌, ◌<◌, ℕ, Bool, true, false, IsTrue, Some, List, [], ◌∷◌, All, ap, append-nil, append_assoc, arith, codes, cond, length, map, refl, subst, sym}
use Rattle.std.specs.List.{flat_map, list_all}
use Rattle.std.specs.Str.{bytes_eq}
use Rattle.std.proofs.lemmas.Bool.{and_parts}
use Rattle.std.proofs.lemmas.List.Elements.{All-nil, All-push}
use Rattle.std.proofs.lemmas.List.Concat.{flat_map-append}
use Rattle.std.proofs.lemmas.List.Folds.{list_all-append}
use Rattle.std.proofs.lemmas.Slice.Eq.{bytes_eq-Decides}
use Rattle.pm_books.specs.Grammar.{Condition, Written, condition_item, name_item, precondition_words, separated, words_of}
use Rattle.pm_books.specs.Reading.{is_number}
use Rattle.pm_rules.specs.Words.{is_label, is_word, precondition_word}
use Rattle.pm_laws_texts.specs.BookFaults.{AreWords, HasForm, followed, to_client, to_conditions, to_sources}
use Rattle.pm_laws_texts.proofs.Commas.{followed_is, separated_more}
use Rattle.pm_laws_texts.proofs.Walks.{Due, State, Walks, at, first_step, has_none, labelled, one_more, some_is, start, step_at, when, when_is, with_client, with_conditions, with_sources, with_targets, with_weight}
use Rattle.pm_laws_texts.proofs.Walks.Due.{behind, client, closing, colon, condition, conditions_on, ending, label, negated, opening, ruled, source, sources_on, target, targets_on, weighing, weight}

-- the words of the rule that is begun
abbrev pub so_far : Due → Written → List (List ℕ)
so_far label w = []
so_far colon w = w.label ∷ []
so_far ruled w = w.label ∷ codes ":" ∷ []
so_far target w = w.label ∷ codes ":" ∷ codes "rule" ∷ followed (map name_item w.targets)
so_far targets_on w = w.label ∷ codes ":" ∷ codes "rule" ∷ separated (map name_item w.targets)
so_far source w = to_sources w (followed (map name_item w.sources))
so_far sources_on w = to_sources w (separated (map name_item w.sources))
so_far client w = to_client w []
so_far closing w = to_client w (w.client ∷ [])
so_far weighing w = to_client w (w.client ∷ codes "}" ∷ [])
so_far weight w = to_client w (w.client ∷ codes "}" ∷ codes "weight" ∷ [])
so_far ending w = to_client w (w.client ∷ codes "}" ∷ codes "weight" ∷ w.weight ∷ [])
so_far behind w = words_of w
so_far opening w = to_client w (w.client ∷ codes "}" ∷ codes "weight" ∷ w.weight ∷ codes ";" ∷ precondition_word ∷ [])
so_far condition w = to_conditions w (followed (map condition_item w.conditions))
so_far negated w = to_conditions w (followed (map condition_item w.conditions) ++ codes "!" ∷ [])
so_far conditions_on w = to_conditions w (separated (map condition_item w.conditions))

-- they can stand where they do
abbrev pub IsSoFar : Due → Written → Type 0
IsSoFar label w = Unit {0}
IsSoFar colon w = IsTrue (is_label w.label)
IsSoFar ruled w = IsTrue (is_label w.label)
IsSoFar target w = IsTrue (is_label w.label) × IsTrue (list_all is_word w.targets)
IsSoFar targets_on w = IsTrue (is_label w.label) × AreWords w.targets
IsSoFar source w = IsTrue (is_label w.label) × AreWords w.targets × IsTrue (list_all is_word w.sources)
IsSoFar sources_on w = IsTrue (is_label w.label) × AreWords w.targets × AreWords w.sources
IsSoFar client w = IsTrue (is_label w.label) × AreWords w.targets × AreWords w.sources
IsSoFar closing w = IsTrue (is_label w.label) × AreWords w.targets × AreWords w.sources × IsTrue (is_word w.client)
IsSoFar weighing w = IsTrue (is_label w.label) × AreWords w.targets × AreWords w.sources × IsTrue (is_word w.client)
IsSoFar weight w = IsTrue (is_label w.label) × AreWords w.targets × AreWords w.sources × IsTrue (is_word w.client)
IsSoFar ending w = IsTrue (is_label w.label) × AreWords w.targets × AreWords w.sources × IsTrue (is_word w.client) × IsTrue (is_number w.weight)
IsSoFar behind w = HasForm w
IsSoFar opening w = HasForm w
IsSoFar condition w = HasForm w
IsSoFar negated w = HasForm w
IsSoFar conditions_on w = HasForm w × (0 < length w.conditions)

pub record Had (s : State) (all : List (List ℕ)) : Type 0 where
  pub form : All HasForm s.had
  pub now : IsSoFar s.due s.now
  pub words : all ≡ flat_map words_of s.had ++ so_far s.due s.now

-- ---- one word more
is_text : (word text : List ℕ) → bytes_eq word text ≡ true → word ≡ text
is_text word text e = (bytes_eq-Decides word text).0 e

more_words : (names : List (List ℕ)) (word : List ℕ) → IsTrue (list_all is_word names) → IsTrue (is_word word) → AreWords (names ++ word ∷ [])
more_words names word all one = (some names, list_all-append is_word names (word ∷ []) ∙ both (list_all is_word names) (list_all is_word (word ∷ [])) all (both (is_word word) true one refl))
  where
    both : (a b : Bool) → a ≡ true → b ≡ true → (a && b) ≡ true
    both a b e f = ap (λ (x : Bool). x && b) e ∙ f

    some : (names : List (List ℕ)) → 0 < length (names ++ word ∷ [])
    some [] = omega arith
    some (n ∷ names) = omega arith

map_more : {A B : Type 0} (f : A → B) (xs : List A) (x : A) → map f (xs ++ x ∷ []) ≡ map f xs ++ f x ∷ []
map_more f [] x = refl
map_more f (y ∷ xs) x = ap (λ l. f y ∷ l) (map_more f xs x)

list_more : {A : Type 0} (item : A → List (List ℕ)) (xs : List A) (x : A) → separated (map item (xs ++ x ∷ [])) ≡ followed (map item xs) ++ item x
list_more item xs x = ap separated (map_more item xs x) ∙ separated_more (map item xs) (item x)

list_on : {A : Type 0} (item : A → List (List ℕ)) (xs : List A) → 0 < length xs → followed (map item xs) ≡ separated (map item xs) ++ codes "," ∷ []
list_on item [] some = absurd (omega arith)
list_on item (x ∷ xs) some = followed_is (item x) (map item xs)

sources_more : (w : Written) (more rest : List (List ℕ)) → to_sources w more ++ rest ≡ to_sources w (more ++ rest)
sources_more w more rest = ap (λ (l : List (List ℕ)). w.label ∷ codes ":" ∷ codes "rule" ∷ l) (append_assoc (separated (map name_item w.targets)) (codes ":" ∷ more) rest)

client_more : (w : Written) (more rest : List (List ℕ)) → to_client w more ++ rest ≡ to_client w (more ++ rest)
client_more w more rest =
    sources_more w (separated (map name_item w.sources) ++ codes "{" ∷ more) rest ∙ ap (to_sources w) (append_assoc (separated (map name_item w.sources)) (codes "{" ∷ more) rest)

conditions_more_of : (w : Written) (more rest : List (List ℕ)) → to_conditions w more ++ rest ≡ to_conditions w (more ++ rest)
conditions_more_of w more rest = client_more w (w.client ∷ codes "}" ∷ codes "weight" ∷ w.weight ∷ codes ";" ∷ precondition_word ∷ codes ":" ∷ more) rest

none_is : (cs : List Condition) → has_none cs ≡ true → cs ≡ []
none_is [] e = refl
none_is (c ∷ cs) e = cc

preconditions_are : (cs : List Condition) → 0 < length cs → precondition_words cs ≡ precondition_word ∷ codes ":" ∷ (separated (map condition_item cs) ++ codes ";" ∷ [])
preconditions_are [] some = absurd (omega arith)
preconditions_are (c ∷ cs) some = refl

words_more : (front before after words : List (List ℕ)) (word : List ℕ) → words ≡ front ++ before → after ≡ before ++ word ∷ [] → words ++ word ∷ [] ≡ front ++ after
words_more front before after words word e f =
    ap (λ (l : List (List ℕ)). l ++ word ∷ []) e ∙ append_assoc front before (word ∷ []) ∙ ap (λ (l : List (List ℕ)). front ++ l) (sym f)

-- the state t has one word more than s
More : State → List ℕ → State → Type 0
More s word t = (words : List (List ℕ)) → Had s words → Had t (words ++ word ∷ [])

-- with the same whole rules
on : (due after : Due) (had : List Written) (now new : Written) (word : List ℕ) → (IsSoFar due now → IsSoFar after new) → (IsSoFar due now → so_far after new ≡ so_far due now ++ word ∷ [])
    → More (at due had now) word (at after had new)
unfolding More
on due after had now new word form same words h = record {
  form = h.form;
  now = form h.now;
  words = words_more (flat_map words_of had) (so_far due now) (so_far after new) words word h.words (same h.now);
}

-- a test that is passed makes one step
passes : (b : Bool) (s t u : State) (word : List ℕ) → (b ≡ true → More s word u) → when b u ≡ Some t → More s word t
unfolding More
passes b s t u word more e = let test = when_is b u t e in subst (λ (x : State). More s word x) test.1 (more test.0)

-- a first test, and then another
either : (b c : Bool) (s t u v : State) (word : List ℕ) → (b ≡ true → More s word u) → (c ≡ true → More s word v) → cond b (Some u) (when c v) ≡ Some t → More s word t
either true c s t u v word first second e = subst (λ (x : State). More s word x) (some_is e) (first refl)
either false c s t u v word first second e = passes c s t v word second e

module _ (had : List Written) (now : Written) (word : List ℕ) where
  text_on : (due after : Due) (new : Written) (text : List ℕ) → (IsSoFar due now → IsSoFar after new) → (IsSoFar due now → so_far after new ≡ so_far due now ++ text ∷ [])
      → bytes_eq word text ≡ true → More (at due had now) word (at after had new)
  text_on due after new text form same e =
      on due after had now new word form (λ h. same h ∙ ap (λ (x : List ℕ). so_far due now ++ x ∷ []) (sym (is_text word text e)))

  more_from_behind : is_label word ≡ true → More (at behind had now) word (at colon (had ++ now ∷ []) (labelled word))
  unfolding More
  more_from_behind e words h = record {
    form = All-push HasForm had now h.form h.now;
    now = e;
    words = ap (λ (l : List (List ℕ)). l ++ word ∷ []) (h.words ∙ ap (λ (l : List (List ℕ)). flat_map words_of had ++ l) (sym (append-nil (words_of now))) ∙ sym (flat_map-append words_of had (now ∷ [])));
  }

  more_conditions : (sign : Bool) → IsTrue (is_word word) → HasForm now → IsSoFar conditions_on (one_more now sign word)
  more_conditions sign good h = (
    record {
      label = h.label;
      targets = h.targets;
      sources = h.sources;
      client = h.client;
      weight = h.weight;
      conditions = list_all-append (λ (c : Condition). is_word c.name) now.conditions (record { negated = sign; name = word } ∷ [])
          ∙ ap (λ (b : Bool). b && (is_word word && true)) h.conditions ∙ ap (λ (b : Bool). b && true) good;
    },
    some now.conditions,
  )
    where
      some : (cs : List Condition) → 0 < length (cs ++ record { negated = sign; name = word } ∷ [])
      some [] = omega arith
      some (c ∷ cs) = omega arith

  conditions_more : (more rest : List (List ℕ)) → to_conditions now more ++ rest ≡ to_conditions now (more ++ rest)
  conditions_more more rest = conditions_more_of now more rest

  without_conditions : HasForm now → HasForm (with_conditions now [])
  without_conditions h = record { label = h.label; targets = h.targets; sources = h.sources; client = h.client; weight = h.weight; conditions = refl }

  one_step : (due : Due) (t : State) → step_at due had now word ≡ Some t → More (at due had now) word t
  one_step label t e = passes _ (at label had now) t _ word (λ g. on label colon had now (labelled word) word (λ h. g) (λ h. refl)) e
  one_step colon t e = passes _ (at colon had now) t _ word (text_on colon ruled now (codes ":") (λ h. h) (λ h. refl)) e
  one_step ruled t e = passes _ (at ruled had now) t _ word (text_on ruled target (with_targets now []) (codes "rule") (λ h. (h, refl)) (λ h. refl)) e
  one_step target t e = passes _ (at target had now) t _ word (λ g. on target targets_on had now (with_targets now (now.targets ++ word ∷ [])) word (λ h. (h.0, more_words now.targets word h.1 g))
      (λ h. ap (λ (l : List (List ℕ)). now.label ∷ codes ":" ∷ codes "rule" ∷ l) (list_more name_item now.targets word))) e
  one_step targets_on t e = either _ _ (at targets_on had now) t _ _ word
      (text_on targets_on target now (codes ",") (λ h. (h.0, h.1.1)) (λ h. ap (λ (l : List (List ℕ)). now.label ∷ codes ":" ∷ codes "rule" ∷ l) (list_on name_item now.targets h.1.0)))
      (text_on targets_on source (with_sources now []) (codes ":") (λ h. (h.0, h.1, refl)) (λ h. refl)) e
  one_step source t e = passes _ (at source had now) t _ word (λ g. on source sources_on had now (with_sources now (now.sources ++ word ∷ [])) word (λ h. (h.0, h.1, more_words now.sources word h.2 g))
      (λ h. ap (to_sources now) (list_more name_item now.sources word) ∙ sym (sources_more now (followed (map name_item now.sources)) (word ∷ [])))) e
  one_step sources_on t e = either _ _ (at sources_on had now) t _ _ word
      (text_on sources_on source now (codes ",") (λ h. (h.0, h.1, h.2.1))
      (λ h. ap (to_sources now) (list_on name_item now.sources h.2.0) ∙ sym (sources_more now (separated (map name_item now.sources)) (codes "," ∷ []))))
      (text_on sources_on client now (codes "{") (λ h. h) (λ h. sym (sources_more now (separated (map name_item now.sources)) (codes "{" ∷ [])))) e
  one_step client t e = passes _ (at client had now) t _ word (λ g. on client closing had now (with_client now word) word (λ h. (h.0, h.1, h.2, g)) (λ h. sym (client_more now [] (word ∷ [])))) e
  one_step closing t e = passes _ (at closing had now) t _ word (text_on closing weighing now (codes "}") (λ h. h) (λ h. sym (client_more now (now.client ∷ []) (codes "}" ∷ [])))) e
  one_step weighing t e = passes _ (at weighing had now) t _ word (text_on weighing weight now (codes "weight") (λ h. h) (λ h. sym (client_more now (now.client ∷ codes "}" ∷ []) (codes "weight" ∷ [])))) e
  one_step weight t e = passes _ (at weight had now) t _ word (λ g. on weight ending had now (with_weight now word) word (λ h. (h.0, h.1, h.2, h.3, g))
      (λ h. sym (client_more now (now.client ∷ codes "}" ∷ codes "weight" ∷ []) (word ∷ [])))) e
  one_step ending t e = passes _ (at ending had now) t _ word (text_on ending behind (with_conditions now []) (codes ";")
      (λ h. record { label = h.0; targets = h.1; sources = h.2; client = h.3; weight = h.4; conditions = refl })
      (λ h. sym (client_more now (now.client ∷ codes "}" ∷ codes "weight" ∷ now.weight ∷ []) (codes ";" ∷ [])))) e
  one_step behind t e = either _ _ (at behind had now) t _ _ word
      (λ g. let parts = and_parts (bytes_eq word precondition_word) (has_none now.conditions) g in
      text_on behind opening now precondition_word (λ h. h)
      (λ h. sym (ap (λ (l : List (List ℕ)). l ++ precondition_word ∷ []) (ap (λ (cs : List Condition). to_client now (now.client ∷ codes "}" ∷ codes "weight" ∷ now.weight ∷ codes ";" ∷ precondition_words cs)) (none_is now.conditions parts.1))
      ∙ client_more now (now.client ∷ codes "}" ∷ codes "weight" ∷ now.weight ∷ codes ";" ∷ []) (precondition_word ∷ []))) parts.0)
      more_from_behind e
  one_step opening t e = passes _ (at opening had now) t _ word (text_on opening condition (with_conditions now []) (codes ":") without_conditions
      (λ h. sym (client_more now (now.client ∷ codes "}" ∷ codes "weight" ∷ now.weight ∷ codes ";" ∷ precondition_word ∷ []) (codes ":" ∷ [])))) e
  one_step condition t e = either _ _ (at condition had now) t _ _ word
      (text_on condition negated now (codes "!") (λ h. h) (λ h. sym (conditions_more (followed (map condition_item now.conditions)) (codes "!" ∷ []))))
      (λ g. on condition conditions_on had now (one_more now false word) word (more_conditions false g)
      (λ h. ap (to_conditions now) (list_more condition_item now.conditions (record { negated = false; name = word })) ∙ sym (conditions_more (followed (map condition_item now.conditions)) (word ∷ [])))) e
  one_step negated t e = passes _ (at negated had now) t _ word (λ g. on negated conditions_on had now (one_more now true word) word (more_conditions true g)
      (λ h. ap (to_conditions now) (list_more condition_item now.conditions (record { negated = true; name = word })
      ∙ sym (append_assoc (followed (map condition_item now.conditions)) (codes "!" ∷ []) (word ∷ [])))
      ∙ sym (conditions_more (followed (map condition_item now.conditions) ++ codes "!" ∷ []) (word ∷ [])))) e
  one_step conditions_on t e = either _ _ (at conditions_on had now) t _ _ word
      (text_on conditions_on condition now (codes ",") (λ h. h.0)
      (λ h. ap (to_conditions now) (list_on condition_item now.conditions h.1) ∙ sym (conditions_more (separated (map condition_item now.conditions)) (codes "," ∷ []))))
      (text_on conditions_on behind now (codes ";") (λ h. h.0)
      (λ h. ap (λ (l : List (List ℕ)). to_client now (now.client ∷ codes "}" ∷ codes "weight" ∷ now.weight ∷ codes ";" ∷ l)) (preconditions_are now.conditions h.1)
      ∙ sym (conditions_more (separated (map condition_item now.conditions)) (codes ";" ∷ [])))) e

-- ---- walks
nothing_had : Had start []
nothing_had = record { form = All-nil HasForm; now = tt; words = refl }

had_on : (s t : State) (before words : List (List ℕ)) → Had s before → Walks s words t → Had t (before ++ words)
unfolding More
had_on s t before [] h e = subst (λ (x : State). Had x (before ++ [])) (some_is e) (subst (Had s) (sym (append-nil before)) h)
had_on s t before (word ∷ words) h e =
    let one = first_step s t word words e in
    subst (Had t) (append_assoc before (word ∷ []) words) (had_on one.0 t (before ++ word ∷ []) words (one_step s.had s.now word s.due one.0 one.1 before h) one.2)

-- from the start
pub walked : (t : State) (words : List (List ℕ)) → Walks start words t → Had t words
walked t words e = had_on start t [] words nothing_had e
