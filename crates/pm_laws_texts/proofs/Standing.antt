-- Faults of a word by what is due.
use Rattle.std.proofs.Common.{◌≡◌, ◌∙◌, ◌++◌, ℕ, IsTrue, None, List, [], ◌∷◌, append-nil, find, subst, sym}
use Rattle.std.specs.List.{flat_map}
use Rattle.std.specs.Str.{bytes_eq}
use Rattle.pm_books.specs.Grammar.{Written, words_of}
use Rattle.pm_books.specs.Reading.{is_number, weight_of}
use Rattle.pm_books.specs.declared.fail.BookFail.{BookFail}
use Rattle.pm_books.specs.declared.fail.BookFail.TheVariants.{UnknownClient, WeightRange}
use Rattle.pm_props.specs.declared.kind.Kind.{Kind}
use Rattle.pm_rules.specs.Words.{is_word}
use Rattle.pm_weights.specs.Weights.{IsWeight}
use Rattle.pm_laws_texts.specs.BookFaults.{IsAt, OfCondition, OfLabel, OfName, OfWord, Spot}
use Rattle.pm_laws_texts.proofs.Along.{IsReady, IsSpot, spot_from_start}
use Rattle.pm_laws_texts.proofs.Ends.{rules_behind}
use Rattle.pm_laws_texts.proofs.Had.{Had, walked}
use Rattle.pm_laws_texts.proofs.Walks.{Due, State, Walks, at, start}
use Rattle.pm_laws_texts.proofs.Walks.Due.{behind, client, condition, label, negated, source, target, weight}

abbrev pub OfDue : List Kind → Due → List Written → Written → List ℕ → ℕ → BookFail → Type 0
OfDue kinds label had now word k f = OfLabel had word k f
OfDue kinds behind had now word k f = OfLabel (had ++ now ∷ []) word k f
OfDue kinds target had now word k f = OfName now.targets word k f
OfDue kinds source had now word k f = OfName now.sources word k f
OfDue kinds client had now word k f = IsTrue (is_word word) × (f ≡ UnknownClient k) × (find (λ kind. bytes_eq kind.name word) kinds ≡ None)
OfDue kinds weight had now word k f = IsTrue (is_number word) × (f ≡ WeightRange k) × ¬ (IsWeight (weight_of word))
OfDue kinds condition had now word k f = OfCondition now.conditions word k f
OfDue kinds negated had now word k f = OfCondition now.conditions word k f
OfDue kinds due had now word k f = ⊥

abbrev pub OfState : List Kind → State → List ℕ → ℕ → BookFail → Type 0
OfState kinds s word k f = OfDue kinds s.due s.had s.now word k f

-- ---- from spots
pub ready_label : (kinds : List Kind) (due : Due) (had : List Written) (now : Written) (rules : List Written) (word : List ℕ) (k : ℕ) (f : BookFail) → IsReady (at due had now) rules → OfLabel rules word k f
    → OfDue kinds due had now word k f
ready_label kinds label had now rules word k f ready h = subst (λ (l : List Written). OfLabel l word k f) ready h
ready_label kinds behind had now rules word k f ready h = subst (λ (l : List Written). OfLabel l word k f) ready h
ready_label kinds due had now rules word k f ready h = absurd ready

pub label_ready : (kinds : List Kind) (due : Due) (had : List Written) (now : Written) (rules : List Written) (word : List ℕ) (k : ℕ) (f : BookFail) → IsReady (at due had now) rules → OfDue kinds due had now word k f
    → OfLabel rules word k f
label_ready kinds label had now rules word k f ready h = subst (λ (l : List Written). OfLabel l word k f) (sym ready) h
label_ready kinds behind had now rules word k f ready h = subst (λ (l : List Written). OfLabel l word k f) (sym ready) h
label_ready kinds due had now rules word k f ready h = absurd ready

of_spot : (kinds : List Kind) (x : Spot) (had : List Written) (w : Written) (t : State) (word : List ℕ) (k : ℕ) (f : BookFail) → IsSpot x had w t → OfWord kinds x had w word k f → OfState kinds t word k f
of_spot kinds Spot.label had w t word k f is h = ready_label kinds t.due t.had t.now had word k f is h
of_spot kinds Spot.target had w t word k f is h = subst (λ (s : State). OfState kinds s word k f) (sym is) h
of_spot kinds Spot.source had w t word k f is h = subst (λ (s : State). OfState kinds s word k f) (sym is) h
of_spot kinds Spot.client had w t word k f is h = subst (λ (s : State). OfState kinds s word k f) (sym is) h
of_spot kinds Spot.weight had w t word k f is h = subst (λ (s : State). OfState kinds s word k f) (sym is) h
of_spot kinds Spot.condition had w t word k f is h = subst (λ (s : State). OfState kinds s word k f) (sym is) h
of_spot kinds Spot.negated had w t word k f is h = subst (λ (s : State). OfState kinds s word k f) (sym is) h

pub due_of_spot : (kinds : List Kind) (x : Spot) (had : List Written) (w : Written) (before : List (List ℕ)) (word : List ℕ) (k : ℕ) (f : BookFail) → IsAt x had w before → OfWord kinds x had w word k f
    → (t : State) × Walks start before t × OfState kinds t word k f
due_of_spot kinds x had w before word k f is h =
    let walk = spot_from_start x had w before is in
    (walk.0, walk.1, of_spot kinds x had w walk.0 word k f walk.2 h)

-- ---- and back
record Spotted (kinds : List Kind) (before : List (List ℕ)) (word : List ℕ) (k : ℕ) (f : BookFail) : Type 0 where
  spot : Spot
  had : List Written
  w : Written
  is_at : IsAt spot had w before
  of_word : OfWord kinds spot had w word k f

spotted : (kinds : List Kind) (due : Due) (had : List Written) (now : Written) (before : List (List ℕ)) (word : List ℕ) (k : ℕ) (f : BookFail) → Had (at due had now) before → OfDue kinds due had now word k f
    → Spotted kinds before word k f
spotted kinds label had now before word k f h o =
    record { spot = Spot.label; had = had; w = now; is_at = record { form = h.form; begun = tt; words = h.words }; of_word = o }
spotted kinds behind had now before word k f h o =
    let rules = rules_behind had now before h in
    record { spot = Spot.label; had = had ++ now ∷ []; w = now; is_at = record { form = rules.form; begun = tt; words = rules.words ∙ sym (append-nil (flat_map words_of (had ++ now ∷ []))) }; of_word = o }
spotted kinds target had now before word k f h o =
    record { spot = Spot.target; had = had; w = now; is_at = record { form = h.form; begun = h.now; words = h.words }; of_word = o }
spotted kinds source had now before word k f h o =
    record { spot = Spot.source; had = had; w = now; is_at = record { form = h.form; begun = h.now; words = h.words }; of_word = o }
spotted kinds client had now before word k f h o =
    record { spot = Spot.client; had = had; w = now; is_at = record { form = h.form; begun = h.now; words = h.words }; of_word = o }
spotted kinds weight had now before word k f h o =
    record { spot = Spot.weight; had = had; w = now; is_at = record { form = h.form; begun = h.now; words = h.words }; of_word = o }
spotted kinds condition had now before word k f h o =
    record { spot = Spot.condition; had = had; w = now; is_at = record { form = h.form; begun = h.now; words = h.words }; of_word = o }
spotted kinds negated had now before word k f h o =
    record { spot = Spot.negated; had = had; w = now; is_at = record { form = h.form; begun = h.now; words = h.words }; of_word = o }
spotted kinds due had now before word k f h o = absurd o

pub spot_of_due : (kinds : List Kind) (s : State) (before : List (List ℕ)) (word : List ℕ) (k : ℕ) (f : BookFail) → Walks start before s → OfState kinds s word k f
    → (x : Spot) × (had : List Written) × (w : Written) × IsAt x had w before × OfWord kinds x had w word k f
spot_of_due kinds s before word k f walks o =
    let is = spotted kinds s.due s.had s.now before word k f (walked s before walks) o in
    (is.spot, is.had, is.w, is.is_at, is.of_word)
