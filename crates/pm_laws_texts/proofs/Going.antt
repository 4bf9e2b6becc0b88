-- Tokens that are gone along without a fault, and where that stops.
use Rattle.std.proofs.Common.{◌≡◌, ◌≢◌, ◌∙◌, ◌++◌, ◌+◌, ◌≤◌, ℕ, Bool, true, false, None, Some, Result, Ok, Err, List, [], ◌∷◌, ap, append_assoc, cond, refl, subst, sym}
use Rattle.pm_books.specs.Grammar.{Written, texts}
use Rattle.pm_books.specs.Reading.{◌>>=◌, token_where}
use Rattle.pm_books.specs.Tokens.{Token}
use Rattle.pm_books.specs.declared.fail.BookFail.{BookFail}
use Rattle.pm_books.specs.declared.fail.BookFail.TheVariants.{Syntax}
use Rattle.pm_props.specs.declared.kind.Kind.{Kind}
use Rattle.pm_rules.specs.Words.{precondition_word}
use Rattle.pm_laws_texts.specs.BookFaults.{Differs, order}
use Rattle.pm_laws_texts.proofs.Along.{IsReady}
use Rattle.pm_laws_texts.proofs.Standing.{OfState}
use Rattle.pm_laws_texts.proofs.Walks.{State, Walks, step, stepped, when}
use Rattle.pm_laws_texts.proofs.Walks.Due.{behind}

-- a rule has ended before this word
abbrev pub IsBetween : State → List ℕ → Type 0
IsBetween s word = (s.due ≡ behind) × (s.now.conditions ≡ [] → word ≢ precondition_word)

-- if one has, it agrees with its kind
abbrev pub HasAgreed : List Kind → State → List ℕ → Type 0
HasAgreed kinds s word = IsBetween s word → ¬ (Differs kinds s.now)

-- the word has no fault, nor the rule before it
pub record IsFine (kinds : List Kind) (s : State) (word : List ℕ) : Type 0 where
  pub none : (k : ℕ) (f : BookFail) → ¬ (OfState kinds s word k f)
  pub agreed : HasAgreed kinds s word

abbrev pub Goes : List Kind → State → List Token → State → Type 0
Goes kinds s [] t = s ≡ t
Goes kinds s (x ∷ xs) t = (u : State) × (step s x.text ≡ Some u) × IsFine kinds s x.text × Goes kinds u xs t

-- what stops it: the end comes too soon, a word that cannot come next, or one with a fault
pub data Halts (kinds : List Kind) (end : ℕ) (s : State) : List Token → BookFail → Type 0 where
  too_soon : ((rules : List Written) → ¬ (IsReady s rules)) → Halts kinds end s [] (Syntax end)
  no_step : (t : Token) (rest : List Token) → step s t.text ≡ None → HasAgreed kinds s t.text → Halts kinds end s (t ∷ rest) (Syntax t.place)
  wrong : (t : Token) (rest : List Token) (f : BookFail) (u : State) → step s t.text ≡ Some u → OfState kinds s t.text t.place f
      → ((g : BookFail) → OfState kinds s t.text t.place g → order f ≤ order g) → HasAgreed kinds s t.text → Halts kinds end s (t ∷ rest) f

pub record Stopped (kinds : List Kind) (end : ℕ) (s : State) (ts : List Token) (f : BookFail) : Type 0 where
  pub taken : List Token
  pub rest : List Token
  pub state : State
  pub split : ts ≡ taken ++ rest
  pub goes : Goes kinds s taken state
  pub halts : Halts kinds end state rest f

-- what is read: these tokens were taken, and those of `rest` are left
pub record Got {X : Type 0} (kinds : List Kind) (s : State) (ts : List Token) (rest : X → List Token) (Is : X → List Token → State → Type 0) (x : X) : Type 0 where
  pub taken : List Token
  pub state : State
  pub split : ts ≡ taken ++ rest x
  pub goes : Goes kinds s taken state
  pub is : Is x taken state

abbrev pub Went : {X : Type 0} → List Kind → ℕ → State → List Token → (X → List Token) → (X → List Token → State → Type 0) → Result X BookFail → Type 0
Went kinds end s ts rest Is (Ok x) = Got kinds s ts rest Is x
Went kinds end s ts rest Is (Err f) = Stopped kinds end s ts f

-- ---- one after the other
pub goes_on : (kinds : List Kind) (s t u : State) (first more : List Token) → Goes kinds s first t → Goes kinds t more u → Goes kinds s (first ++ more) u
goes_on kinds s t u [] more h k = subst (λ (x : State). Goes kinds x more u) (sym h) k
goes_on kinds s t u (x ∷ first) more (v, e, fine, h) k = (v, e, fine, goes_on kinds v t u first more h k)

pub goes_walk : (kinds : List Kind) (s t : State) (ts : List Token) → Goes kinds s ts t → Walks s (texts ts) t
goes_walk kinds s t [] h = ap (λ (x : State). Some x) h
goes_walk kinds s t (x ∷ ts) (u, e, fine, h) = stepped s u t x.text (texts ts) e (goes_walk kinds u t ts h)

pub stopped_behind : (kinds : List Kind) (end : ℕ) (s t : State) (taken rest : List Token) (f : BookFail) → Goes kinds s taken t → Stopped kinds end t rest f → Stopped kinds end s (taken ++ rest) f
stopped_behind kinds end s t taken rest f goes h = record {
  taken = taken ++ h.taken;
  rest = h.rest;
  state = h.state;
  split = ap (λ (l : List Token). taken ++ l) h.split ∙ sym (append_assoc taken h.taken h.rest);
  goes = goes_on kinds s t h.state taken h.taken goes h.goes;
  halts = h.halts;
}

-- ---- one token
-- a state between whose words no rule ends, and in which no word has a fault of its own
pub record IsPlain (kinds : List Kind) (s : State) : Type 0 where
  pub none : (word : List ℕ) (k : ℕ) (f : BookFail) → ¬ (OfState kinds s word k f)
  pub inside : s.due ≢ behind
  pub midway : (rules : List Written) → ¬ (IsReady s rules)

pub plain_fine : (kinds : List Kind) (s : State) (word : List ℕ) → IsPlain kinds s → IsFine kinds s word
plain_fine kinds s word plain = record { none = plain.none word; agreed = λ b. absurd (plain.inside b.0) }

-- the first of the tokens passes
abbrev pub First : (Token → Type 0) → List Token → Type 0
First P [] = Unit {0}
First P (t ∷ ts) = P t

module _ (kinds : List Kind) (end : ℕ) where
  pub went_behind : {X : Type 0} (s t : State) (taken more : List Token) (rest : X → List Token) (Is : X → List Token → State → Type 0) (r : Result X BookFail) → Goes kinds s taken t
      → Went kinds end t more rest (λ x l u. Is x (taken ++ l) u) r → Went kinds end s (taken ++ more) rest Is r
  went_behind s t taken more rest Is (Err f) goes h = stopped_behind kinds end s t taken more f goes h
  went_behind s t taken more rest Is (Ok x) goes h = record {
    taken = taken ++ h.taken;
    state = h.state;
    split = ap (λ (l : List Token). taken ++ l) h.split ∙ sym (append_assoc taken h.taken (rest x));
    goes = goes_on kinds s t h.state taken h.taken goes h.goes;
    is = h.is;
  }

  pub then_went : {A B : Type 0} (s : State) (ts : List Token) (rest : A → List Token) (Is : A → List Token → State → Type 0) (left : B → List Token) (Are : B → List Token → State → Type 0) (r : Result A BookFail) (f : A → Result B BookFail)
      → Went kinds end s ts rest Is r → ((x : A) (taken : List Token) (t : State) → Is x taken t → Went kinds end t (rest x) left (λ y l u. Are y (taken ++ l) u) (f x)) → Went kinds end s ts left Are (r >>= f)
  then_went s ts rest Is left Are (Err e) f h next = h
  then_went s ts rest Is left Are (Ok x) f h next =
      subst (λ (l : List Token). Went kinds end s l left Are (f x)) (sym h.split) (went_behind s h.state h.taken (rest x) left Are (f x) h.goes (next x h.taken h.state h.is))

  -- with one token before
  pub one_first : {X : Type 0} (s u : State) (t : Token) (ts : List Token) (rest : X → List Token) (Is : X → List Token → State → Type 0) (r : Result X BookFail) → step s t.text ≡ Some u → IsFine kinds s t.text
      → Went kinds end u ts rest (λ x l v. Is x (t ∷ l) v) r → Went kinds end s (t ∷ ts) rest Is r
  one_first s u t ts rest Is r e fine h = went_behind s u (t ∷ []) ts rest Is r (u, e, fine, refl) h

  pub halted : (s : State) (ts : List Token) (f : BookFail) → Halts kinds end s ts f → Stopped kinds end s ts f
  halted s ts f h = record { taken = []; rest = ts; state = s; split = refl; goes = refl; halts = h }

  -- what is read says more of itself
  pub went_as : {X : Type 0} (s : State) (ts : List Token) (rest : X → List Token) (Is Are : X → List Token → State → Type 0) (r : Result X BookFail) → ((x : X) (taken : List Token) (t : State) → Is x taken t → Are x taken t)
      → Went kinds end s ts rest Is r → Went kinds end s ts rest Are r
  went_as s ts rest Is Are (Err f) as' h = h
  went_as s ts rest Is Are (Ok x) as' h = record { taken = h.taken; state = h.state; split = h.split; goes = h.goes; is = as' x h.taken h.state h.is }

  pub token_went : (s : State) (test : List ℕ → Bool) (next : List ℕ → State) (ts : List Token) → IsPlain kinds s → First (λ t. step s t.text ≡ when (test t.text) (next t.text)) ts
      → Went kinds end s ts (λ (x : Token × List Token). x.1) (λ x taken t. (t ≡ next x.0.text) × (test x.0.text ≡ true) × (taken ≡ x.0 ∷ [])) (token_where test end ts)
  unfolding token_where
  token_went s test next [] plain steps = halted s [] (Syntax end) (too_soon plain.midway)
  token_went s test next (t ∷ ts) plain steps = by (test t.text) refl
    where
      by : (b : Bool) → test t.text ≡ b → Went kinds end s (t ∷ ts) (λ (x : Token × List Token). x.1) (λ x taken u. (u ≡ next x.0.text) × (test x.0.text ≡ true) × (taken ≡ x.0 ∷ [])) (cond b (Ok (t, ts)) (Err (Syntax t.place)))
      by true e = record {
        taken = t ∷ [];
        state = next t.text;
        split = refl;
        goes = (next t.text, steps ∙ ap (λ (c : Bool). when c (next t.text)) e, plain_fine kinds s t.text plain, refl);
        is = (refl, e, refl);
      }
      by false e = halted s (t ∷ ts) (Syntax t.place) (no_step t ts (steps ∙ ap (λ (c : Bool). when c (next t.text)) e) (λ b. absurd (plain.inside b.0)))
