-- Lines that make objects, or build one of others.
use Rattle.std.proofs.Common.{refl, sym, ap, subst, ◌∙◌, ◌≡◌, ℕ, false, true, List, [], ◌∷◌, ◌++◌, Option, Some, None, option_map, codes, decimal, cond, ◌&&◌}
use Rattle.std.proofs.lemmas.Bool.{and_parts, and_from}
use Rattle.std.proofs.lemmas.Option.{none-some, cond_some, option_and_then_some, same_Some}
use Rattle.std.specs.Prelude.{find, option_and_then}
use Rattle.std.specs.Str.{IsUtf8, bytes_eq}
use Rattle.pm_command.proofs.Numbers.{decimal_lacks_space, number_is, number_of-decimal}
use Rattle.pm_command.proofs.Spaces.{behind, cond_either, name_is_some, name_of_two, option_map_some, regroup, rest_of_name, same_bytes, split_is_some, whole_line}
use Rattle.pm_command.proofs.Splits.{after_first-lacks, before_first-lacks}
use Rattle.pm_command.specs.Commands.{ShapeSeen, Spoken, build_line, build_object, built_line, cross_shape, cube_shape, cyclic_of, cyclic_shape, line_of, make_line, make_object, of_names, of_three_names, shape_of, simplex_shape, two_names}
use Rattle.pm_command.specs.Builders.{builder_named, every_builder, word_of}
use Rattle.pm_command.specs.Lines.{is_silent}
use Rattle.pm_command.specs.declared.building.Binary.{Binary}
use Rattle.pm_command.specs.declared.building.Binary.TheVariants.{Minkowski, Product, Refine}
use Rattle.pm_command.specs.declared.building.Builder.{Builder}
use Rattle.pm_command.specs.declared.building.Builder.TheVariants.{One, Two}
use Rattle.pm_command.specs.declared.building.Unary.{Unary}
use Rattle.pm_command.specs.declared.building.Unary.TheVariants.{FaceFan, NormalFan, Polar, Pyramid}
use Rattle.pm_command.specs.Grammar.{Speaks, is_made_number, is_shape, shape_text}
use Rattle.pm_command.specs.Words.{first_word, is_name, number_of, rest}

-- ---- lines as they are spoken
cyclic_spoken : (d n : ℕ) → (is_made_number d && is_made_number n) ≡ true → cyclic_of (number_of (first_word (decimal d ++ 32 ∷ decimal n))) (number_of (rest (decimal d ++ 32 ∷ decimal n))) ≡ Some (cyclic_shape d n)
cyclic_spoken d n h =
    let p = and_parts (is_made_number d) (is_made_number n) h in
    let clear = decimal_lacks_space d p.0 in
    let front = ap number_of (before_first-lacks 32 (decimal d) (decimal n) refl clear) ∙ number_of-decimal d p.0 in
    let back = ap number_of (after_first-lacks 32 (decimal d) (decimal n) refl clear) ∙ number_of-decimal n p.1 in
    ap (λ (x : Option ℕ). cyclic_of x (number_of (rest (decimal d ++ 32 ∷ decimal n)))) front ∙ ap (cyclic_of (Some d)) back

shape_spoken : (shape : ShapeSeen) → is_shape shape ≡ true → shape_of (first_word (shape_text shape)) (rest (shape_text shape)) ≡ Some shape
shape_spoken (cube_shape d) h = ap (option_map cube_shape) (number_of-decimal d h)
shape_spoken (simplex_shape d) h = ap (option_map simplex_shape) (number_of-decimal d h)
shape_spoken (cross_shape d) h = ap (option_map cross_shape) (number_of-decimal d h)
shape_spoken (cyclic_shape d n) h = ap (λ (t : List ℕ). shape_of (first_word t) (rest t)) (regroup (codes "cyclic ") (decimal d) (decimal n)) ∙ cyclic_spoken d n h

pub make_spoken : (new : List ℕ) (shape : ShapeSeen) → is_name new ≡ true → is_shape shape ≡ true → make_line (new ++ 32 ∷ shape_text shape) ≡ Some (make_object new shape)
make_spoken new shape n s = rw (name_of_two new (shape_text shape) n, rest_of_name new (shape_text shape) n, n, shape_spoken shape s) refl

two_spoken : (name new : List ℕ) → is_name name ≡ true → is_name new ≡ true → two_names (name ++ 32 ∷ new) ≡ Some (name, new)
two_spoken name new n t = rw (name_of_two name new n, rest_of_name name new n, n, t) refl

pub names_spoken : (speak : List ℕ → List ℕ → Spoken) (name new : List ℕ) → is_name name ≡ true → is_name new ≡ true → of_names speak (two_names (name ++ 32 ∷ new)) ≡ Some (speak name new)
names_spoken speak name new n t = ap (of_names speak) (two_spoken name new n t)

three_spoken : (speak : List ℕ → List ℕ → List ℕ → Spoken) (first second new : List ℕ) → is_name first ≡ true → is_name second ≡ true → is_name new ≡ true
    → of_three_names speak (first_word (first ++ 32 ∷ (second ++ 32 ∷ new))) (two_names (rest (first ++ 32 ∷ (second ++ 32 ∷ new)))) ≡ Some (speak first second new)
three_spoken speak first second new f s n = rw (name_of_two first (second ++ 32 ∷ new) f, rest_of_name first (second ++ 32 ∷ new) f, f) (names_spoken (speak first) second new s n)

-- the words of a line of this builder, behind its own
abbrev pub line_behind : Builder → List ℕ → List ℕ
line_behind b words = word_of b ++ 32 ∷ words

-- it is read by the builder of its word
pub record IsOfBuilder (b : Builder) (words : List ℕ) : Type 0 where
  pub sounds : is_silent (line_behind b words) ≡ false
  pub no_rules : bytes_eq (line_behind b words) (codes "rules") ≡ false
  pub line : line_of (first_word (line_behind b words)) (rest (line_behind b words)) ≡ built_line b words

pub of_builder : (b : Builder) (words : List ℕ) → IsOfBuilder b words
of_builder (One Polar) words = record { sounds = refl; no_rules = refl; line = refl }
of_builder (One Pyramid) words = record { sounds = refl; no_rules = refl; line = refl }
of_builder (One NormalFan) words = record { sounds = refl; no_rules = refl; line = refl }
of_builder (One FaceFan) words = record { sounds = refl; no_rules = refl; line = refl }
of_builder (Two Product) words = record { sounds = refl; no_rules = refl; line = refl }
of_builder (Two Minkowski) words = record { sounds = refl; no_rules = refl; line = refl }
of_builder (Two Refine) words = record { sounds = refl; no_rules = refl; line = refl }

pub one_spoken : (what : Unary) (name new : List ℕ) → (is_name name && is_name new) ≡ true → built_line (One what) (name ++ 32 ∷ new) ≡ Some (build_object (One what) (name ∷ []) new)
one_spoken what name new h = let p = and_parts (is_name name) (is_name new) h in names_spoken (λ name new. build_object (One what) (name ∷ []) new) name new p.0 p.1

pub two_are_spoken : (what : Binary) (first second new : List ℕ) → (is_name first && is_name second && is_name new) ≡ true
    → built_line (Two what) (first ++ 32 ∷ (second ++ 32 ∷ new)) ≡ Some (build_object (Two what) (first ∷ second ∷ []) new)
two_are_spoken what first second new h =
    let p = and_parts (is_name first && is_name second) (is_name new) h in
    let q = and_parts (is_name first) (is_name second) p.0 in
    three_spoken (λ first second new. build_object (Two what) (first ∷ second ∷ []) new) first second new q.0 q.1 p.1

-- ---- lines as they are read
record Numbered (word : List ℕ) (make : ℕ → ShapeSeen) (others : List ℕ) (shape : ShapeSeen) : Type 0 where
  number : ℕ
  line : others ≡ word ++ 32 ∷ decimal number
  made : is_made_number number ≡ true
  is : make number ≡ shape

-- what is behind a space is not nothing, where it is a number
number_is_some : (word : List ℕ) (n : ℕ) → number_of word ≡ Some n → word ≡ [] → ⊥
number_is_some word n e none = let bad : number_of [] ≡ Some n = subst (λ (w : List ℕ). number_of w ≡ Some n) none e in none-some n bad

numbered : (word : List ℕ) (make : ℕ → ShapeSeen) (others : List ℕ) (shape : ShapeSeen) → first_word others ≡ word → option_map make (number_of (rest others)) ≡ Some shape → Numbered word make others shape
numbered word make others shape f e =
    let p = option_map_some make (number_of (rest others)) shape e in
    let q = number_is (rest others) p.0 p.1 in
    record {
      number = p.0;
      line = behind others (number_is_some (rest others) p.0 p.1) ∙ ap (λ (w : List ℕ). w ++ 32 ∷ rest others) f ∙ ap (λ (w : List ℕ). word ++ 32 ∷ w) q.0;
      made = q.1;
      is = p.2;
    }

abbrev IsShapeText : List ℕ → ShapeSeen → Type 0
IsShapeText others shape = (others ≡ shape_text shape) × (is_shape shape ≡ true)

cyclic_read : (others : List ℕ) (shape : ShapeSeen) → first_word others ≡ codes "cyclic" → cyclic_of (number_of (first_word (rest others))) (number_of (rest (rest others))) ≡ Some shape → IsShapeText others shape
cyclic_read others shape f e =
    let numbers : List ℕ = rest others in
    option_and_then_some (λ d. option_map (cyclic_shape d) (number_of (rest numbers))) (number_of (first_word numbers)) shape e
    (λ d first g. let p = option_map_some (cyclic_shape d) (number_of (rest numbers)) shape g in
    let q = number_is (first_word numbers) d first in
    let r = number_is (rest numbers) p.0 p.1 in
    let inner : numbers ≡ decimal d ++ 32 ∷ decimal p.0 =
    behind numbers (number_is_some (rest numbers) p.0 p.1) ∙ ap (λ (w : List ℕ). w ++ 32 ∷ rest numbers) q.0 ∙ ap (λ (w : List ℕ). decimal d ++ 32 ∷ w) r.0 in
    subst (IsShapeText others) p.2
    (whole_line others (codes "cyclic") (decimal d) (decimal p.0) f inner ∙ sym (regroup (codes "cyclic ") (decimal d) (decimal p.0)), and_from (is_made_number d) (is_made_number p.0) q.1 r.1))

shape_read : (others : List ℕ) (shape : ShapeSeen) → shape_of (first_word others) (rest others) ≡ Some shape → IsShapeText others shape
shape_read others shape e =
    let word : List ℕ = first_word others in
    let number : Option ℕ = number_of (rest others) in
    let cyclic : Option ShapeSeen = cond (bytes_eq word (codes "cyclic")) (cyclic_of (number_of (first_word (rest others))) (number_of (rest (rest others)))) None in
    let cross : Option ShapeSeen = cond (bytes_eq word (codes "cross")) (option_map cross_shape number) cyclic in
    let simplex : Option ShapeSeen = cond (bytes_eq word (codes "simplex")) (option_map simplex_shape number) cross in
    cond_either (bytes_eq word (codes "cube")) (option_map cube_shape number) simplex (Some shape) e
    (λ is f. let b = numbered (codes "cube") cube_shape others shape (same_bytes word (codes "cube") is) f in subst (IsShapeText others) b.is (b.line, b.made))
    (λ _ f. cond_either (bytes_eq word (codes "simplex")) (option_map simplex_shape number) cross (Some shape) f
    (λ is g. let b = numbered (codes "simplex") simplex_shape others shape (same_bytes word (codes "simplex") is) g in subst (IsShapeText others) b.is (b.line, b.made))
    (λ _ g. cond_either (bytes_eq word (codes "cross")) (option_map cross_shape number) cyclic (Some shape) g
    (λ is h. let b = numbered (codes "cross") cross_shape others shape (same_bytes word (codes "cross") is) h in subst (IsShapeText others) b.is (b.line, b.made))
    (λ _ h. cond_either (bytes_eq word (codes "cyclic")) (cyclic_of (number_of (first_word (rest others))) (number_of (rest (rest others)))) None (Some shape) h
    (λ is k. cyclic_read others shape (same_bytes word (codes "cyclic") is) k)
    (λ _ k. absurd (none-some shape k)))))

-- a shape is written as something
shape_is_some : (shape : ShapeSeen) → shape_text shape ≡ [] → ⊥
shape_is_some (cube_shape d) e = cc
shape_is_some (simplex_shape d) e = cc
shape_is_some (cross_shape d) e = cc
shape_is_some (cyclic_shape d n) e = cc

make_read : (text : List ℕ) (s : Spoken) → IsUtf8 text → first_word text ≡ codes "make" → make_line (rest text) ≡ Some s → Speaks text s
make_read text s u f e =
    let words : List ℕ = rest text in
    cond_either (is_name (first_word words)) (option_map (make_object (first_word words)) (shape_of (first_word (rest words)) (rest (rest words)))) None (Some s) e
    (λ n g. let p = option_map_some (make_object (first_word words)) (shape_of (first_word (rest words)) (rest (rest words))) s g in
    let q = shape_read (rest words) p.0 p.1 in
    let line : words ≡ first_word words ++ 32 ∷ shape_text p.0 = behind words (λ none. shape_is_some p.0 (sym q.0 ∙ none)) ∙ ap (λ (w : List ℕ). first_word words ++ 32 ∷ w) q.0 in
    subst (Speaks text) p.2 (record {
      utf8 = u;
      same = whole_line text (codes "make") (first_word words) (shape_text p.0) f line ∙ sym (regroup (codes "make ") (first_word words) (shape_text p.0));
      allowed = and_from (is_name (first_word words)) (is_shape p.0) n q.1;
    }))
    (λ _ g. absurd (none-some s g))

record TwoNames (words name new : List ℕ) : Type 0 where
  line : words ≡ name ++ 32 ∷ new
  are : (is_name name && is_name new) ≡ true

two_read : (words : List ℕ) (n : List ℕ × List ℕ) → two_names words ≡ Some n → TwoNames words n.0 n.1
two_read words n e =
    let q = cond_some (is_name (first_word words) && is_name (rest words)) (first_word words, rest words) n e in
    let p = and_parts (is_name (first_word words)) (is_name (rest words)) q.0 in
    subst (λ (x : List ℕ × List ℕ). TwoNames words x.0 x.1) q.1 (record { line = behind words (name_is_some (rest words) p.1); are = q.0 })

record NamesRead (speak : List ℕ → List ℕ → Spoken) (words : List ℕ) (s : Spoken) : Type 0 where
  name : List ℕ
  new : List ℕ
  two : TwoNames words name new
  is : speak name new ≡ s

names_read : (speak : List ℕ → List ℕ → Spoken) (words : List ℕ) (s : Spoken) → of_names speak (two_names words) ≡ Some s → NamesRead speak words s
names_read speak words s e =
    let p = option_map_some (λ (n : List ℕ × List ℕ). speak n.0 n.1) (two_names words) s e in
    record { name = p.0.0; new = p.0.1; two = two_read words p.0 p.1; is = p.2 }

one_read : (what : Unary) (text : List ℕ) (s : Spoken) → IsUtf8 text → first_word text ≡ word_of (One what) → built_line (One what) (rest text) ≡ Some s → Speaks text s
one_read what text s u f e =
    let b = names_read (λ name new. build_object (One what) (name ∷ []) new) (rest text) s e in
    subst (Speaks text) b.is (record { utf8 = u; same = whole_line text (word_of (One what)) b.name b.new f b.two.line; allowed = b.two.are })

two_are_read : (what : Binary) (text : List ℕ) (s : Spoken) → IsUtf8 text → first_word text ≡ word_of (Two what) → built_line (Two what) (rest text) ≡ Some s → Speaks text s
two_are_read what text s u f e =
    let words : List ℕ = rest text in
    let first : List ℕ = first_word words in
    let speak : (List ℕ → List ℕ → Spoken) = λ second new. build_object (Two what) (first ∷ second ∷ []) new in
    cond_either (is_name first) (of_names speak (two_names (rest words))) None (Some s) e
    (λ n g. let b = names_read speak (rest words) s g in
    let p = and_parts (is_name b.name) (is_name b.new) b.two.are in
    let line : words ≡ first ++ 32 ∷ (b.name ++ 32 ∷ b.new) = behind words (split_is_some (rest words) b.name b.new b.two.line) ∙ ap (λ (w : List ℕ). first ++ 32 ∷ w) b.two.line in
    subst (Speaks text) b.is (record {
      utf8 = u;
      same = whole_line text (word_of (Two what)) first (b.name ++ 32 ∷ b.new) f line;
      allowed = and_from (is_name first && is_name b.name) (is_name b.new) (and_from (is_name first) (is_name b.name) n p.0) p.1;
    }))
    (λ _ g. absurd (none-some s g))

builder_read : (b : Builder) (text : List ℕ) (s : Spoken) → IsUtf8 text → first_word text ≡ word_of b → built_line b (rest text) ≡ Some s → Speaks text s
builder_read (One what) text s u f e = one_read what text s u f e
builder_read (Two what) text s u f e = two_are_read what text s u f e

-- the builder that is found is that of the word
found_is_named : (word : List ℕ) (bs : List Builder) (b : Builder) → find (λ b. bytes_eq word (word_of b)) bs ≡ Some b → word ≡ word_of b
found_is_named word [] b e = absurd (none-some b e)
found_is_named word (c ∷ bs) b e =
    cond_either (bytes_eq word (word_of c)) (Some c) (find (λ b. bytes_eq word (word_of b)) bs) (Some b) e
    (λ is f. same_bytes word (word_of c) is ∙ ap word_of (same_Some c b f))
    (λ _ f. found_is_named word bs b f)

pub built_read : (text : List ℕ) (s : Spoken) → IsUtf8 text → build_line (first_word text) (rest text) ≡ Some s → Speaks text s
built_read text s u e =
    let first : List ℕ = first_word text in
    let words : List ℕ = rest text in
    cond_either (bytes_eq first (codes "make")) (make_line words) (option_and_then (λ b. built_line b words) (builder_named first)) (Some s) e
    (λ is f. make_read text s u (same_bytes first (codes "make") is) f)
    (λ _ f. option_and_then_some (λ b. built_line b words) (builder_named first) s f
    (λ b named g. builder_read b text s u (found_is_named first every_builder b named) g))
