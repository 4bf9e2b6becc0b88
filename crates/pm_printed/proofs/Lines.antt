-- Lines of one kind, one after another: what a text begins with is found in one way.
use Rattle.std.proofs.Common.{◌≡◌, ℕ, zero, suc, ◌+◌, ◌<◌, ◌≤◌, ◌^◌, IsTrue, true, Some, None, List, [], ◌∷◌, ◌++◌, length, get_or, refl, sym, ap, ap₂, ◌∙◌, subst, arith, append_assoc, append-nil, inl, inr}
use Rattle.std.specs.Prelude.{All, codes, flat_map, slice_get}
use Rattle.std.proofs.lemmas.List.Elements.{All-head, All-tail}
use Rattle.pm_printed.specs.Cuts.{Lacks}
use Rattle.pm_printed.specs.Printed.{BeginsNone}
use Rattle.pm_printed.proofs.Values.{cut_same, no_cut}

-- what begins with two of these begins with one, and has one rest
abbrev pub IsPrefixCode : {X : Type 0} → (X → Type 0) → (X → List ℕ) → Type 0
IsPrefixCode {X} Is line = (x y : X) (r s : List ℕ) → Is x → Is y → line x ++ r ≡ line y ++ s → (x ≡ y) × (r ≡ s)

-- lines that an LF ends, and that have none before
pub code_of_lines : {X : Type 0} (Is : X → Type 0) (body : X → List ℕ) → ((x : X) → Is x → Lacks 10 (body x)) → ((x y : X) → Is x → Is y → body x ≡ body y → x ≡ y)
    → IsPrefixCode Is (λ x. body x ++ codes "\n")
code_of_lines Is body lacks injective x y r s is js e =
    let cut : body x ++ 10 ∷ r ≡ body y ++ 10 ∷ s = sym (append_assoc (body x) (10 ∷ []) r) ∙ e ∙ append_assoc (body y) (10 ∷ []) s in
    let same = cut_same 10 (body x) r (body y) s (lacks x is) (lacks y js) cut in
    (injective x y is js same.0, same.1)

pub reads_same : {X : Type 0} (Is : X → Type 0) (line : X → List ℕ) → IsPrefixCode Is line → (xs ys : List X) (r s : List ℕ) → All Is xs → All Is ys
    → flat_map line xs ++ r ≡ flat_map line ys ++ s → BeginsNone Is line r → BeginsNone Is line s → (xs ≡ ys) × (r ≡ s)
reads_same Is line code [] [] r s is js e none nor = (refl, e)
reads_same Is line code [] (y ∷ ys) r s is js e none nor = absurd (none y (flat_map line ys ++ s) (All-head Is y ys js) (e ∙ append_assoc (line y) (flat_map line ys) s))
reads_same Is line code (x ∷ xs) [] r s is js e none nor = absurd (nor x (flat_map line xs ++ r) (All-head Is x xs is) (sym e ∙ append_assoc (line x) (flat_map line xs) r))
reads_same Is line code (x ∷ xs) (y ∷ ys) r s is js e none nor =
    let cut : line x ++ (flat_map line xs ++ r) ≡ line y ++ (flat_map line ys ++ s) = sym (append_assoc (line x) (flat_map line xs) r) ∙ e ∙ append_assoc (line y) (flat_map line ys) s in
    let first = code x y (flat_map line xs ++ r) (flat_map line ys ++ s) (All-head Is x xs is) (All-head Is y ys js) cut in
    let others = reads_same Is line code xs ys r s (All-tail Is x xs is) (All-tail Is y ys js) first.1 none nor in
    (ap₂ (λ a b. a ∷ b) first.0 others.0, others.1)

-- the first line is none of these, so the text begins with none of them
pub none_by_line : {X : Type 0} (Is : X → Type 0) (body : X → List ℕ) (text line behind : List ℕ) → ((x : X) → Is x → Lacks 10 (body x)) → Lacks 10 line → text ≡ line ++ 10 ∷ behind
    → ((x : X) → Is x → line ≡ body x → ⊥) → BeginsNone Is (λ x. body x ++ codes "\n") text
none_by_line Is body text line behind lacks has e none = λ x rest is at.
    let cut : line ++ 10 ∷ behind ≡ body x ++ 10 ∷ rest = sym e ∙ at ∙ append_assoc (body x) (10 ∷ []) rest in
    none x is (cut_same 10 line behind (body x) rest has (lacks x is) cut).0

pub none_without_line : {X : Type 0} (Is : X → Type 0) (body : X → List ℕ) (text : List ℕ) → Lacks 10 text → BeginsNone Is (λ x. body x ++ codes "\n") text
none_without_line Is body text lacks = λ x rest is at. no_cut 10 text (body x) rest lacks (at ∙ append_assoc (body x) (10 ∷ []) rest)

-- a line that was read, and its LF
pub line_with_end : (text line behind body : List ℕ) → text ≡ line ++ 10 ∷ behind → line ≡ body → text ≡ (body ++ codes "\n") ++ behind
line_with_end text line behind body e at = e ∙ ap (λ l. l ++ 10 ∷ behind) at ∙ sym (append_assoc body (10 ∷ []) behind)

pub line_behind : (text line behind : List ℕ) → text ≡ line ++ 10 ∷ behind → length behind < length text
line_behind text [] behind e = omega (arith, ap length e)
line_behind [] (x ∷ line) behind e = cc
line_behind (t ∷ text) (x ∷ line) behind e = let rest = line_behind text line behind (let others : text ≡ line ++ 10 ∷ behind = cc in others) in omega arith
