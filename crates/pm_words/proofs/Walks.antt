-- The walk of the program's command over words, option by option.
use Rattle.std.proofs.Common.{◌≡◌, ◌≢◌, ℕ, Bool, true, false, List, [], ◌∷◌, ◌++◌, Option, Some, None, codes, refl, ap, ◌∙◌, nat_eq, arith, inl, inr}
use Rattle.std.proofs.lemmas.Bool.{cases_Bool}
use Rattle.std.proofs.lemmas.Grind.{common_steps}
use Rattle.std.proofs.lemmas.List.{append-nil}
use Rattle.std.proofs.lemmas.List.Folds.{list_any-append}
use Rattle.std.specs.Str.{bytes_eq}
use Rattle.clap.proofs.OnLiterals.{clap_on_literals}
use Rattle.clap.specs.Simple.{Shape, built, filled}
use Rattle.clap.specs.Takes.{settle_passes, turn_passes}
use Rattle.clap.specs.Walk.{Held, Row, Rule, Text, Walk, at_row, has_row, idle, more_values, option, reading_by, settled_rows, walked, with_values, without}
use Rattle.clap.specs.declared.parser.matches.ValueSource.TheVariants.{CommandLine}
use Rattle.pm_words.specs.Command.{demo_rule, rules_rule, trace_rule, words_app}

abbrev pub shape : Shape
shape = (built words_app).top

-- what is held: the rows so far, and the option whose value was the last word
abbrev pub holds : List Row → Option (Text × List Text) → ℕ → Held
holds rows pending skip = record { rows = rows; pending = pending; skip = skip }

-- a walk between two options
abbrev pub between : List Row → Option (Text × List Text) → ℕ → Walk
between rows pending skip = record { held = holds rows pending skip; waiting = idle; position = 1; is_trailing = false; stopped = None }

-- the rows once the last value is counted
abbrev pub settled_at : List Row → Option (Text × List Text) → List Row
settled_at rows pending = settled_rows shape.rules pending rows

-- the last value may be counted
abbrev pub settles : List Row → Option (Text × List Text) → ℕ → Bool
settles rows pending skip = settle_passes shape.rules shape.args_override_self (holds rows pending skip)

-- ---- rows
at_row-absent : (id : Text) (change : Row → List Row) (missing rows : List Row) → has_row id rows ≡ false → at_row id change missing rows ≡ rows ++ missing
at_row-absent id change missing [] h = refl
at_row-absent id change missing (r ∷ rows) h = elim (cases_Bool (bytes_eq r.id id)) [
  | inl e ↦ let t : true ≡ false = rw e at h in cc
  | inr e ↦ let t : has_row id rows ≡ false = rw e at h in rw e (ap (λ (z : List Row). r ∷ z) (at_row-absent id change missing rows t))
]

-- a row of one use
abbrev pub new_row : Rule → List Text → Row
new_row a values = record { id = a.id; values = values; count = None; source = Some CommandLine; reading = reading_by a }

used_once : (a : Rule) (values : List Text) (rows : List Row) → has_row a.id rows ≡ false → with_values a.id (reading_by a) CommandLine values (without a.id rows) ≡ rows ++ new_row a values ∷ []
used_once a values rows h =
    ap (with_values a.id (reading_by a) CommandLine values) (at_row-absent a.id (λ _. []) [] rows h ∙ append-nil rows)
    ∙ at_row-absent a.id (more_values CommandLine values) (new_row a values ∷ []) rows h

pub has_row-new : (id : Text) (rows : List Row) (a : Rule) (values : List Text) → has_row id rows ≡ false → bytes_eq a.id id ≡ false → has_row id (rows ++ new_row a values ∷ []) ≡ false
has_row-new id rows a values h other = list_any-append (λ (r : Row). bytes_eq r.id id) rows (new_row a values ∷ []) ∙ rw (h, other) refl

-- a walk in which an option waits for its value
abbrev pub waits_for : Text → List Row → ℕ → Walk
waits_for id rows skip = record { held = holds rows (Some (id, [])) skip; waiting = option id; position = 1; is_trailing = false; stopped = None }

-- ---- `--trace`
abbrev pub traced : Rule
traced = filled trace_rule

pub trace_turn : (rows : List Row) (p : Option (Text × List Text)) (k : ℕ) → settles rows p k ≡ true → has_row (codes "trace") (settled_at rows p) ≡ false
    → turn_passes shape [] (between rows p k) (codes "--trace") ≡ true
unfolding clap_on_literals
trace_turn rows p k s f = rw (s, f) refl

pub trace_next : (rows : List Row) (p : Option (Text × List Text)) (k : ℕ) → has_row (codes "trace") (settled_at rows p) ≡ false
    → walked shape.rules [] (between rows p k) (codes "--trace") ≡ between (settled_at rows p ++ new_row traced (codes "true" ∷ []) ∷ []) None k
unfolding clap_on_literals
trace_next rows p k f = ap (λ (z : List Row). between z None k) (used_once traced (codes "true" ∷ []) (settled_at rows p) f)

-- ---- `--rules`
abbrev pub ruled : Rule
ruled = filled rules_rule

pub rules_turn : (rows : List Row) (p : Option (Text × List Text)) (k : ℕ) (text : List ℕ) → settles rows p k ≡ true → has_row (codes "rules") (settled_at rows p) ≡ false
    → turn_passes shape [] (between rows p k) (codes "--rules=" ++ text) ≡ true
unfolding clap_on_literals
rules_turn rows p k text s f = rw (s, f) refl

pub rules_next : (rows : List Row) (p : Option (Text × List Text)) (k : ℕ) (text : List ℕ) → has_row (codes "rules") (settled_at rows p) ≡ false
    → walked shape.rules [] (between rows p k) (codes "--rules=" ++ text) ≡ between (settled_at rows p ++ new_row ruled (text ∷ []) ∷ []) None k
unfolding clap_on_literals
rules_next rows p k text f = ap (λ (z : List Row). between z None k) (used_once ruled (text ∷ []) (settled_at rows p) f)

pub rules_word_turn : (rows : List Row) (p : Option (Text × List Text)) (k : ℕ) → settles rows p k ≡ true → turn_passes shape [] (between rows p k) (codes "--rules") ≡ true
unfolding clap_on_literals
rules_word_turn rows p k s = rw s refl

pub rules_word_next : (rows : List Row) (p : Option (Text × List Text)) (k : ℕ) → walked shape.rules [] (between rows p k) (codes "--rules") ≡ waits_for (codes "rules") (settled_at rows p) k
unfolding clap_on_literals
rules_word_next rows p k = refl

pub rules_value_turn : (rows : List Row) (k b : ℕ) (text : List ℕ) → b ≢ 45 → turn_passes shape [] (waits_for (codes "rules") rows k) (b ∷ text) ≡ true
unfolding clap_on_literals
rules_value_turn rows k b text h = let t : nat_eq b 45 ≡ false = grind (arith, common_steps) in simp t refl

pub rules_value_next : (rows : List Row) (k b : ℕ) (text : List ℕ) → b ≢ 45 → walked shape.rules [] (waits_for (codes "rules") rows k) (b ∷ text) ≡ between rows (Some (codes "rules", (b ∷ text) ∷ [])) k
unfolding clap_on_literals
rules_value_next rows k b text h = let t : nat_eq b 45 ≡ false = grind (arith, common_steps) in simp t refl

pub rules_settles : (rows : List Row) (k : ℕ) (text : List ℕ) → has_row (codes "rules") rows ≡ false → settles rows (Some (codes "rules", text ∷ [])) k ≡ true
unfolding clap_on_literals
rules_settles rows k text f = rw f refl

pub rules_settled : (rows : List Row) (text : List ℕ) → has_row (codes "rules") rows ≡ false → settled_at rows (Some (codes "rules", text ∷ [])) ≡ rows ++ new_row ruled (text ∷ []) ∷ []
unfolding clap_on_literals
rules_settled rows text f = used_once ruled (text ∷ []) rows f

-- ---- `--demo`
abbrev pub shown : Rule
shown = filled demo_rule

pub demo_turn : (rows : List Row) (p : Option (Text × List Text)) (k : ℕ) (text : List ℕ) → settles rows p k ≡ true → has_row (codes "demo") (settled_at rows p) ≡ false
    → turn_passes shape [] (between rows p k) (codes "--demo=" ++ text) ≡ true
unfolding clap_on_literals
demo_turn rows p k text s f = rw (s, f) refl

pub demo_next : (rows : List Row) (p : Option (Text × List Text)) (k : ℕ) (text : List ℕ) → has_row (codes "demo") (settled_at rows p) ≡ false
    → walked shape.rules [] (between rows p k) (codes "--demo=" ++ text) ≡ between (settled_at rows p ++ new_row shown (text ∷ []) ∷ []) None k
unfolding clap_on_literals
demo_next rows p k text f = ap (λ (z : List Row). between z None k) (used_once shown (text ∷ []) (settled_at rows p) f)

pub demo_word_turn : (rows : List Row) (p : Option (Text × List Text)) (k : ℕ) → settles rows p k ≡ true → turn_passes shape [] (between rows p k) (codes "--demo") ≡ true
unfolding clap_on_literals
demo_word_turn rows p k s = rw s refl

pub demo_word_next : (rows : List Row) (p : Option (Text × List Text)) (k : ℕ) → walked shape.rules [] (between rows p k) (codes "--demo") ≡ waits_for (codes "demo") (settled_at rows p) k
unfolding clap_on_literals
demo_word_next rows p k = refl

pub demo_value_turn : (rows : List Row) (k b : ℕ) (text : List ℕ) → b ≢ 45 → turn_passes shape [] (waits_for (codes "demo") rows k) (b ∷ text) ≡ true
unfolding clap_on_literals
demo_value_turn rows k b text h = let t : nat_eq b 45 ≡ false = grind (arith, common_steps) in simp t refl

pub demo_value_next : (rows : List Row) (k b : ℕ) (text : List ℕ) → b ≢ 45 → walked shape.rules [] (waits_for (codes "demo") rows k) (b ∷ text) ≡ between rows (Some (codes "demo", (b ∷ text) ∷ [])) k
unfolding clap_on_literals
demo_value_next rows k b text h = let t : nat_eq b 45 ≡ false = grind (arith, common_steps) in simp t refl

pub demo_settles : (rows : List Row) (k : ℕ) (text : List ℕ) → has_row (codes "demo") rows ≡ false → settles rows (Some (codes "demo", text ∷ [])) k ≡ true
unfolding clap_on_literals
demo_settles rows k text f = rw f refl

pub demo_settled : (rows : List Row) (text : List ℕ) → has_row (codes "demo") rows ≡ false → settled_at rows (Some (codes "demo", text ∷ [])) ≡ rows ++ new_row shown (text ∷ []) ∷ []
unfolding clap_on_literals
demo_settled rows text f = used_once shown (text ∷ []) rows f
