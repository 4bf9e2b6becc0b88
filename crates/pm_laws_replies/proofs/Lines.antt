-- Texts of whole lines: where a reply begins is told by the lines alone, from the last reply backwards.
use Rattle.std.proofs.Common.{ap, append_assoc, refl, subst, sym, true≢false, ℕ, List, [], ◌∷◌, ◌++◌, Bool, true, false, not, ◌≡◌, ◌∙◌, eqb}
use Rattle.std.proofs.lemmas.Bool.{and_parts}
use Rattle.pm_laws_replies.specs.Told.{is_in_line, is_one_line}

-- whole lines
pub data Whole : List ℕ → Type 0 where
  none : {text : List ℕ} → text ≡ [] → Whole text
  more : {text : List ℕ} (line rest : List ℕ) → text ≡ line ++ 10 ∷ rest → is_one_line line ≡ true → Whole rest → Whole text

-- whole lines, none of which opens, with what stands after it
pub data Later (opens : List ℕ → Bool) : List ℕ → Type 0 where
  no_line : {text : List ℕ} → text ≡ [] → Later opens text
  a_line : {text : List ℕ} (line rest : List ℕ) → text ≡ line ++ 10 ∷ rest → is_one_line line ≡ true → opens text ≡ false
      → Later opens rest → Later opens text

-- a line that opens, and later ones
pub record Block (opens : List ℕ → Bool) (text : List ℕ) : Type 0 where
  pub line : List ℕ
  pub rest : List ℕ
  pub whole : text ≡ line ++ 10 ∷ rest
  pub one : is_one_line line ≡ true
  pub opening : opens text ≡ true
  pub later : Later opens rest

pub whole_later : {opens : List ℕ → Bool} {text : List ℕ} → Later opens text → Whole text
whole_later (no_line e) = none e
whole_later (a_line line rest e o f l) = more line rest e o (whole_later l)

pub whole_block : {opens : List ℕ → Bool} {text : List ℕ} → Block opens text → Whole text
whole_block b = more b.line b.rest b.whole b.one (whole_later b.later)

pub whole_append : {a b : List ℕ} → Whole a → Whole b → Whole (a ++ b)
whole_append {b = b} (none e) w = subst (λ z. Whole (z ++ b)) (sym e) w
whole_append {b = b} (more line rest e o w) v = more line (rest ++ b) (ap (λ z. z ++ b) e ∙ append_assoc line (10 ∷ rest) b) o (whole_append w v)

no_lf : (b : Bool) → b ≡ true → not b ≡ true → ⊥
no_lf b e f = true≢false (sym f ∙ ap not e)

first_apart : (c : ℕ) (xs ys zs : List ℕ) → is_one_line (c ∷ xs) ≡ true → 10 ∷ ys ≡ c ∷ zs → ⊥
first_apart c xs ys zs o e =
    let same : 10 ≡ c = cc in
    no_lf (eqb c 10) (ap (λ z. eqb z 10) (sym same)) (and_parts (is_in_line c) (is_one_line xs) o).0

-- a text has one first line
pub split_first : (a b x y : List ℕ) → is_one_line a ≡ true → is_one_line b ≡ true → a ++ 10 ∷ x ≡ b ++ 10 ∷ y → (a ≡ b) × (x ≡ y)
split_first [] [] x y o p e = (refl, cc)
split_first [] (c ∷ b) x y o p e = absurd (first_apart c b x (b ++ 10 ∷ y) p e)
split_first (c ∷ a) [] x y o p e = absurd (first_apart c a y (a ++ 10 ∷ x) o (sym e))
split_first (c ∷ a) (d ∷ b) x y o p e =
    let same : c ≡ d = cc in
    let tails : a ++ 10 ∷ x ≡ b ++ 10 ∷ y = cc in
    let r = split_first a b x y (and_parts (is_in_line c) (is_one_line a) o).1 (and_parts (is_in_line d) (is_one_line b) p).1 tails in
    let s = r.0 in
    (cc, r.1)

no_open : (opens : List ℕ → Bool) (t : List ℕ) → opens t ≡ true → opens t ≡ false → ⊥
no_open opens t e f = true≢false (sym e ∙ f)

empty_end : (line rest front : List ℕ) → [] ≡ front ++ (line ++ 10 ∷ rest) → ⊥
empty_end [] rest [] e = cc
empty_end (c ∷ line) rest [] e = cc
empty_end line rest (c ∷ front) e = cc

-- no later line begins a block that goes on to the end
pub none_later : {opens : List ℕ → Bool} {text : List ℕ} (front back : List ℕ) → Later opens text → Whole front → Block opens back → text ≡ front ++ back → ⊥
none_later front back (no_line e) w b is = empty_end b.line b.rest front (sym e ∙ is ∙ ap (λ z. front ++ z) b.whole)
none_later {opens = opens} {text = text} front back (a_line line rest e o f l) (none g) b is =
    let same : text ≡ back = is ∙ ap (λ z. z ++ back) g in
    no_open opens back b.opening (ap opens (sym same) ∙ f)
none_later front back (a_line line rest e o f l) (more first others g p w) b is =
    let r = split_first line first rest (others ++ back) o p (sym e ∙ is ∙ ap (λ z. z ++ back) g ∙ append_assoc first (10 ∷ others) back) in
    none_later others back l w b r.1

-- nor does one of a block
pub none_inside : {opens : List ℕ → Bool} {text : List ℕ} (front back first others : List ℕ) → Block opens text → is_one_line first ≡ true → front ≡ first ++ 10 ∷ others → Whole others → Block opens back → text ≡ front ++ back → ⊥
none_inside front back first others t p g w b is =
    let r = split_first t.line first t.rest (others ++ back) t.one p (sym t.whole ∙ is ∙ ap (λ z. z ++ back) g ∙ append_assoc first (10 ∷ others) back) in
    none_later others back t.later w b r.1

-- two blocks of one kind, each behind whole lines, that end together begin together
pub same_front : {opens : List ℕ → Bool} {a b t s : List ℕ} → Whole a → Whole b → Block opens t → Block opens s → a ++ t ≡ b ++ s → (a ≡ b) × (t ≡ s)
same_front {opens = opens} {a = a} {b = b} {t = t} {s = s} (none e) (none f) x y is = (e ∙ sym f, ap (λ z. z ++ t) (sym e) ∙ is ∙ ap (λ z. z ++ s) f)
same_front {opens = opens} {a = a} {b = b} {t = t} {s = s} (none e) (more line rest f o w) x y is = absurd (none_inside b s line rest x o f w y (ap (λ z. z ++ t) (sym e) ∙ is))
same_front {opens = opens} {a = a} {b = b} {t = t} {s = s} (more line rest f o w) (none e) x y is = absurd (none_inside a t line rest y o f w x (ap (λ z. z ++ s) (sym e) ∙ sym is))
same_front {opens = opens} {a = a} {b = b} {t = t} {s = s} (more line rest f o w) (more first others g p v) x y is =
    let r = split_first line first (rest ++ t) (others ++ s) o p (sym (append_assoc line (10 ∷ rest) t) ∙ ap (λ z. z ++ t) (sym f) ∙ is ∙ ap (λ z. z ++ s) g ∙ append_assoc first (10 ∷ others) s) in
    let q = same_front w v x y r.1 in
    (f ∙ joined r.0 q.0 ∙ sym g, q.1)
  where
    joined : {c d u w : List ℕ} → c ≡ d → u ≡ w → c ++ 10 ∷ u ≡ d ++ 10 ∷ w
    joined e h = cc
