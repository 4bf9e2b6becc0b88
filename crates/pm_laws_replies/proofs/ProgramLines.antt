-- The line by which `show` tells a linear program is no line of a value.
use Rattle.std.proofs.Common.{ap, append_assoc, codes, eqb, refl, sym, true≢false, ℕ, List, [], ◌∷◌, ◌++◌, Bool, true, false, ◌≡◌, ◌∙◌, ◌||◌, Option, Some, None}
use Rattle.std.specs.List.{list_all}
use Rattle.std.proofs.lemmas.Bool.{and_parts, and_from}
use Rattle.std.proofs.lemmas.List.Folds.{list_all-append}
use Rattle.pm_command.specs.Commands.{RefSeen}
use Rattle.pm_command.specs.Grammar.{is_ref, is_sub, part_text, ref_text}
use Rattle.pm_command.specs.Words.{is_name, is_name_byte}
use Rattle.pm_files.specs.ValueJson.{value_text}
use Rattle.pm_script.specs.Replies.{held_lines, name_shown}
use Rattle.pm_laws_replies.specs.Told.{ProgramLinesShowNoValue}
use Rattle.pm_laws_replies.proofs.Words.{all_more, name_bytes}
use Rattle.pm_laws_replies.proofs.Replied.{unspaced_ref}
use Rattle.pm_laws_replies.proofs.ToldApart.{split_space}

abbrev is_ref_byte : ℕ → Bool
is_ref_byte b = is_name_byte b || eqb b 46

name_byte_first : (b : ℕ) → is_name_byte b ≡ true → is_ref_byte b ≡ true
name_byte_first b h = by (is_name_byte b) (eqb b 46) h
  where
    by : (c d : Bool) → c ≡ true → (c || d) ≡ true
    by true d h = refl
    by false d h = absurd (true≢false (sym h))

name_in_ref : (name : List ℕ) → is_name name ≡ true → list_all is_ref_byte name ≡ true
name_in_ref [] h = refl
name_in_ref (b ∷ name) h =
    let bytes = name_bytes b name h in
    and_from (is_ref_byte b) (list_all is_ref_byte name) (name_byte_first b bytes.0) (all_more is_name_byte is_ref_byte name_byte_first name bytes.1)

ref_append : (a b : List ℕ) → list_all is_ref_byte a ≡ true → list_all is_ref_byte b ≡ true → list_all is_ref_byte (a ++ b) ≡ true
ref_append a b h k = list_all-append is_ref_byte a b ∙ and_from (list_all is_ref_byte a) (list_all is_ref_byte b) h k

ref_bytes : (ref : RefSeen) → is_ref ref ≡ true → list_all is_ref_byte (ref_text ref) ≡ true
ref_bytes ref h = by ref.sub (and_parts (is_name ref.name) (is_sub ref.sub) h).1
  where
    own : list_all is_ref_byte ref.name ≡ true
    own = name_in_ref ref.name (and_parts (is_name ref.name) (is_sub ref.sub) h).0

    by : (sub : Option (List ℕ)) → is_sub sub ≡ true → list_all is_ref_byte (part_text ref.name sub) ≡ true
    by None k = own
    by (Some sub) k = ref_append (ref.name ++ codes ".") sub (ref_append ref.name (codes ".") own refl) (name_in_ref sub k)

no_colon : (ref : RefSeen) → is_ref ref ≡ true → codes "program:" ≡ ref_text ref → ⊥
no_colon ref h e = true≢false (sym (ap (list_all is_ref_byte) e ∙ ref_bytes ref h))

regroup_line : (name s a t b n c d : List ℕ) → name ++ s ++ a ++ t ++ b ++ n ++ c ++ d ≡ name ++ (s ++ (a ++ t ++ b ++ n ++ c ++ d))
regroup_line name s a t b n c d = simp append_assoc

regroup_word : (word a b c : List ℕ) → word ++ a ++ b ++ c ≡ word ++ (a ++ b ++ c)
regroup_word word a b c = simp append_assoc

pub no_value_line : ProgramLinesShowNoValue
no_value_line of on held name ref p v behind beyond h e =
    let rest = name ++ held_lines on held ++ behind in
    let tail = name_shown of p ++ codes " " ++ value_text p v ++ codes "\n" ++ [] ++ beyond in
    let begins : codes "program:" ++ 32 ∷ rest ≡ ref_text ref ++ 32 ∷ tail =
    sym (regroup_word (codes "program: ") name (held_lines on held) behind) ∙ e ∙ regroup_line (ref_text ref) (codes " ") (name_shown of p) (codes " ") (value_text p v) (codes "\n") [] beyond in
    no_colon ref h (split_space (codes "program:") (ref_text ref) rest tail refl (unspaced_ref ref h) begins).0
