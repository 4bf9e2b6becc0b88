-- The examples of files hold.
use Rattle.std.proofs.Common.{◌≡◌, ℕ, zero, suc, take, get_or, arith, ◌≢◌, List, ◌∷◌, Bool, false, Some, ap, refl, sym, ◌∙◌, inl, inr, cond, codes}
use Rattle.std.proofs.lemmas.Bool.{cases_Bool}
use Rattle.std.proofs.lemmas.Slice.Eq.{bytes_eq-Decides}
use Rattle.std.specs.Str.{bytes_eq}
use Rattle.pm_store.specs.Files.{IsInPart, file_of}
use Rattle.pm_store.specs.Examples.{FilesAreFound, FilesArePut, WordsNameFiles, cut, files, lost, rewritten}

pub files_are_found : FilesAreFound
files_are_found = record {
  first = refl;
  second = refl;
  nowhere = refl;
  once = (refl, (refl, tt));
  twice = λ h. let e = h.0 in cc;
}

pub words_name_files : WordsNameFiles
words_name_files = record {
  plain = refl;
  one_letter = refl;
  inner_points = refl;
  empty = refl;
  above = refl;
  option = refl;
  folder = refl;
  sixty_four = refl;
  sixty_five = refl;
}

-- of a name that is not `a` the file is that of `b` alone, wherever `a` stands
not_a : (q : List ℕ) → q ≢ codes "a" → bytes_eq (codes "a") q ≡ false
not_a q ne = elim (cases_Bool (bytes_eq (codes "a") q)) [
  | inl e ↦ absurd (ne (sym ((bytes_eq-Decides (codes "a") q).0 e)))
  | inr e ↦ e
]

first_a : (bytes : List ℕ) (rest : List (List ℕ × List ℕ)) (q : List ℕ) → q ≢ codes "a" → file_of ((codes "a", bytes) ∷ rest) q ≡ file_of rest q
first_a bytes rest q ne = let other = not_a q ne in ap (λ (b : Bool). cond b (Some bytes) (file_of rest q)) other

cut_others : (q : List ℕ) → q ≢ codes "a" → file_of cut q ≡ file_of files q
cut_others q ne = simp (not_a q ne)

-- the first byte, if there is one
abbrev first : List ℕ → ℕ
first bytes = get_or bytes 0 0

t_is_not_o : ◌≡◌ {A = ℕ} 116 111 → ⊥
t_is_not_o e = omega arith

a_is_not_b : ◌≡◌ {A = ℕ} 98 97 → ⊥
a_is_not_b e = omega arith

one_is_not_two : (n : ℕ) → Some (codes "two") ≡ Some (take n (codes "one")) → ⊥
one_is_not_two zero e = cc
one_is_not_two (suc n) e = let bytes : codes "two" ≡ take (suc n) (codes "one") = cc in t_is_not_o (ap first bytes)

not_in_part : IsInPart (codes "one") (Some (codes "three")) (Some (codes "two")) → ⊥
not_in_part (inl e) = cc
not_in_part (inr (inl e)) = cc
not_in_part (inr (inr h)) = one_is_not_two h.0 h.1

b_is_not_a : codes "b" ≢ codes "a"
b_is_not_a e = a_is_not_b (ap first e)

pub files_are_put : FilesArePut
files_are_put = record {
  anew = (rewritten, refl, (refl, λ q ne. first_a (codes "three") lost q ne ∙ sym (first_a (codes "one") lost q ne)));
  beside = λ h. let e = h.1 (codes "b") b_is_not_a in cc;
  kept = λ h. let e = h.0 in cc;
  hidden = λ h. let e = h.1 in cc;
  as_before = (inl refl, λ q ne. refl);
  absent = (inr (inl refl), λ q ne. sym (first_a (codes "one") lost q ne));
  in_part = (inr (inr (1, refl)), cut_others);
  other_bytes = λ h. not_in_part h.0;
}
