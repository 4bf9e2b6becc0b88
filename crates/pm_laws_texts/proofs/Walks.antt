-- Words of rules are walked along one after the other: what may come next is told by what is due, and what is had so far.
use Rattle.std.proofs.Common.{◌≡◌, ◌∙◌, ◌++◌, ◌&&◌, ℕ, Bool, true, false, Option, None, Some, List, [], ◌∷◌, ap, codes, cond, refl, subst, sym}
use Rattle.std.specs.Str.{bytes_eq}
use Rattle.pm_books.specs.Grammar.{Condition, Written}
use Rattle.pm_books.specs.Reading.{is_number}
use Rattle.pm_rules.specs.Words.{is_label, is_word, precondition_word}

-- ---- what is due
pub data Due : Type 0 where
  label : Due
  colon : Due
  ruled : Due
  target : Due
  targets_on : Due
  source : Due
  sources_on : Due
  client : Due
  closing : Due
  weighing : Due
  weight : Due
  ending : Due
  behind : Due
  opening : Due
  condition : Due
  negated : Due
  conditions_on : Due

-- the whole rules, the rule that is begun, or behind the last `;` the last of them, and what is due
pub record State : Type 0 where
  pub due : Due
  pub had : List Written
  pub now : Written

abbrev pub at : Due → List Written → Written → State
at due had now = record { due = due; had = had; now = now }

abbrev pub blank : Written
blank = record { label = []; targets = []; sources = []; client = []; weight = []; conditions = [] }

abbrev pub labelled : List ℕ → Written
labelled word = record blank { label = word }

abbrev pub with_targets : Written → List (List ℕ) → Written
with_targets w names = record w { targets = names }

abbrev pub with_sources : Written → List (List ℕ) → Written
with_sources w names = record w { sources = names }

abbrev pub with_client : Written → List ℕ → Written
with_client w word = record w { client = word }

abbrev pub with_weight : Written → List ℕ → Written
with_weight w word = record w { weight = word }

abbrev pub with_conditions : Written → List Condition → Written
with_conditions w conditions = record w { conditions = conditions }

abbrev pub one_more : Written → Bool → List ℕ → Written
one_more w sign word = with_conditions w (w.conditions ++ record { negated = sign; name = word } ∷ [])

abbrev pub has_none : List Condition → Bool
has_none [] = true
has_none (c ∷ cs) = false

abbrev pub when : Bool → State → Option State
when b s = cond b (Some s) None

abbrev pub step_at : Due → List Written → Written → List ℕ → Option State
step_at label had now word = when (is_label word) (at colon had (labelled word))
step_at colon had now word = when (bytes_eq word (codes ":")) (at ruled had now)
step_at ruled had now word = when (bytes_eq word (codes "rule")) (at target had (with_targets now []))
step_at target had now word = when (is_word word) (at targets_on had (with_targets now (now.targets ++ word ∷ [])))
step_at targets_on had now word = cond (bytes_eq word (codes ",")) (Some (at target had now)) (when (bytes_eq word (codes ":")) (at source had (with_sources now [])))
step_at source had now word = when (is_word word) (at sources_on had (with_sources now (now.sources ++ word ∷ [])))
step_at sources_on had now word = cond (bytes_eq word (codes ",")) (Some (at source had now)) (when (bytes_eq word (codes "{")) (at client had now))
step_at client had now word = when (is_word word) (at closing had (with_client now word))
step_at closing had now word = when (bytes_eq word (codes "}")) (at weighing had now)
step_at weighing had now word = when (bytes_eq word (codes "weight")) (at weight had now)
step_at weight had now word = when (is_number word) (at ending had (with_weight now word))
step_at ending had now word = when (bytes_eq word (codes ";")) (at behind had (with_conditions now []))
step_at behind had now word = cond (bytes_eq word precondition_word && has_none now.conditions) (Some (at opening had now)) (when (is_label word) (at colon (had ++ now ∷ []) (labelled word)))
step_at opening had now word = when (bytes_eq word (codes ":")) (at condition had (with_conditions now []))
step_at condition had now word = cond (bytes_eq word (codes "!")) (Some (at negated had now)) (when (is_word word) (at conditions_on had (one_more now false word)))
step_at negated had now word = when (is_word word) (at conditions_on had (one_more now true word))
step_at conditions_on had now word = cond (bytes_eq word (codes ",")) (Some (at condition had now)) (when (bytes_eq word (codes ";")) (at behind had now))

abbrev pub step : State → List ℕ → Option State
step s word = step_at s.due s.had s.now word

-- nothing is had
abbrev pub start : State
start = at label [] blank

-- ---- walks
abbrev pub go_on : Option State → (State → Option State) → Option State
go_on None f = None
go_on (Some s) f = f s

abbrev pub walk : State → List (List ℕ) → Option State
walk s [] = Some s
walk s (word ∷ words) = go_on (step s word) (λ t. walk t words)

abbrev pub Walks : State → List (List ℕ) → State → Type 0
Walks s words t = walk s words ≡ Some t

pub some_is : {X : Type 0} {x y : X} → Some x ≡ Some y → x ≡ y
some_is e = cc

pub stepped : (s t u : State) (word : List ℕ) (words : List (List ℕ)) → step s word ≡ Some t → Walks t words u → Walks s (word ∷ words) u
stepped s t u word words e h = ap (λ (o : Option State). go_on o (λ x. walk x words)) e ∙ h

-- a walk begins with a step
pub first_step : (s u : State) (word : List ℕ) (words : List (List ℕ)) → Walks s (word ∷ words) u → (t : State) × (step s word ≡ Some t) × Walks t words u
first_step s u word words h = by (step s word) refl h
  where
    by : (o : Option State) → step s word ≡ o → go_on o (λ x. walk x words) ≡ Some u → (t : State) × (step s word ≡ Some t) × Walks t words u
    by None e g = cc
    by (Some t) e g = (t, e, g)

pub joined : (s t u : State) (first rest : List (List ℕ)) → Walks s first t → Walks t rest u → Walks s (first ++ rest) u
joined s t u [] rest h k = subst (λ (x : State). Walks x rest u) (sym (some_is h)) k
joined s t u (word ∷ first) rest h k =
    let one = first_step s t word first h in
    stepped s one.0 u word (first ++ rest) one.1 (joined one.0 t u first rest one.2 k)

pub parted : (s u : State) (first rest : List (List ℕ)) → Walks s (first ++ rest) u → (t : State) × Walks s first t × Walks t rest u
parted s u [] rest h = (s, refl, h)
parted s u (word ∷ first) rest h =
    let one = first_step s u word (first ++ rest) h in
    let more = parted one.0 u first rest one.2 in
    (more.0, stepped s one.0 more.0 word first one.1 more.1, more.2)

-- two walks along the same words end alike
pub same_end : (s t u : State) (words : List (List ℕ)) → Walks s words t → Walks s words u → t ≡ u
same_end s t u words h k = some_is (sym h ∙ k)

-- a step that is made has met its test
pub when_is : (b : Bool) (s t : State) → when b s ≡ Some t → (b ≡ true) × (s ≡ t)
when_is true s t e = (refl, some_is e)
when_is false s t e = cc
