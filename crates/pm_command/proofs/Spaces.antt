-- Words of a line at its spaces.
use Rattle.std.proofs.Common.{refl, ap, subst, ◌∙◌, ◌≡◌, inl, inr, ℕ, Bool, true, false, List, [], ◌∷◌, ◌++◌, length, Option, Some, None, option_map, codes, append_assoc, length-append, arith, cond, eqb, leb, ◌&&◌, not}
use Rattle.std.proofs.lemmas.Bool.{and_parts, and_from, false≢true}
use Rattle.std.proofs.lemmas.Option.{none-some, same_Some}
use Rattle.std.proofs.lemmas.Slice.Eq.{bytes_eq-Decides}
use Rattle.std.specs.Char.{is_ascii_alphabetic}
use Rattle.std.specs.List.{list_all}
use Rattle.std.specs.Str.{bytes_eq}
use Rattle.pm_command.proofs.Splits.{lacks, before_first-lacks, after_first-lacks, split_first, other_byte, lacks-passes}
use Rattle.pm_command.specs.Words.{first_word, rest, is_name_byte, is_name}

-- ---- names
pub name_lacks : (c : ℕ) (w : List ℕ) → is_ascii_alphabetic c ≡ false → is_name_byte c ≡ false → is_name w ≡ true → lacks c w ≡ true
name_lacks c [] a n h = refl
name_lacks c (b ∷ w) a n h =
    let p = and_parts (is_ascii_alphabetic b && list_all is_name_byte w) (leb (length (b ∷ w)) 32) h in
    let q = and_parts (is_ascii_alphabetic b) (list_all is_name_byte w) p.0 in
    and_from (not (eqb b c)) (lacks c w) (rw (other_byte is_ascii_alphabetic c b a q.0) refl) (lacks-passes is_name_byte c w n q.1)

pub name_is_some : (name : List ℕ) → is_name name ≡ true → name ≡ [] → ⊥
name_is_some name h none = false≢true (subst (λ w. is_name w ≡ true) none h)

pub name_of_two : (name w : List ℕ) → is_name name ≡ true → first_word (name ++ 32 ∷ w) ≡ name
name_of_two name w h = before_first-lacks 32 name w refl (name_lacks 32 name refl refl h)

pub rest_of_name : (name w : List ℕ) → is_name name ≡ true → rest (name ++ 32 ∷ w) ≡ w
rest_of_name name w h = after_first-lacks 32 name w refl (name_lacks 32 name refl refl h)

-- ---- what stands behind a first word
-- what stands behind the first word, where that is something
pub behind : (text : List ℕ) → (rest text ≡ [] → ⊥) → text ≡ first_word text ++ 32 ∷ rest text
behind text some = elim (split_first 32 text) as (λ _. text ≡ first_word text ++ 32 ∷ rest text) [ inl none ↦ absurd (some none) | inr split ↦ split ]

pub split_is_some : (words v w : List ℕ) → words ≡ v ++ 32 ∷ w → words ≡ [] → ⊥
split_is_some words v w e none = let l = ap length e in let n = ap length none in let a = length-append v (32 ∷ w) in omega arith

-- the line, from its first word and what was read behind it
pub whole_line : (text first v w : List ℕ) → first_word text ≡ first → rest text ≡ v ++ 32 ∷ w → text ≡ first ++ 32 ∷ (v ++ 32 ∷ w)
whole_line text first v w f e = behind text (split_is_some (rest text) v w e) ∙ ap (λ x. x ++ 32 ∷ rest text) f ∙ ap (λ x. first ++ 32 ∷ x) e

pub regroup : (front v w : List ℕ) → front ++ v ++ codes " " ++ w ≡ front ++ (v ++ 32 ∷ w)
regroup front v w = simp append_assoc

pub regroup_take : (front v w x : List ℕ) → front ++ v ++ codes " " ++ w ++ codes " " ++ x ≡ front ++ (v ++ 32 ∷ (w ++ 32 ∷ x))
regroup_take front v w x = simp append_assoc

-- ---- cases
pub cond_either : {A P : Type 0} (b : Bool) (x y : A) (z : A) → cond b x y ≡ z → (b ≡ true → x ≡ z → P) → (b ≡ false → y ≡ z → P) → P
cond_either true x y z e f g = f refl e
cond_either false x y z e f g = g refl e

pub option_map_some : {A B : Type 0} (f : A → B) (o : Option A) (y : B) → option_map f o ≡ Some y → (x : A) × (o ≡ Some x) × (f x ≡ y)
option_map_some f None y e = absurd (none-some y e)
option_map_some f (Some x) y e = (x, refl, same_Some (f x) y e)

pub same_bytes : (a b : List ℕ) → bytes_eq a b ≡ true → a ≡ b
same_bytes a b e = (bytes_eq-Decides a b).0 e
