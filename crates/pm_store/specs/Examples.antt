-- Files and their words, worked by hand: what holds, and what does not.
use Rattle.std.specs.Prelude.{◌≡◌, ℕ, List, [], ◌∷◌, Some, None, true, false, codes}
use Rattle.pm_store.specs.FileWords.{is_file_word}
use Rattle.pm_store.specs.Files.{AreTold, HasNamesOnce, IsPut, IsPutInPart, file_of}

-- two files
abbrev pub files : List (List ℕ × List ℕ)
files = (codes "a", codes "one") ∷ (codes "b", codes "two") ∷ []

-- the same with `a` written anew, and with `a` lost
abbrev pub rewritten : List (List ℕ × List ℕ)
rewritten = (codes "a", codes "three") ∷ (codes "b", codes "two") ∷ []

abbrev pub lost : List (List ℕ × List ℕ)
lost = (codes "b", codes "two") ∷ []

-- all but the first byte of the new ones is missing
abbrev pub cut : List (List ℕ × List ℕ)
cut = (codes "b", codes "two") ∷ (codes "a", codes "t") ∷ []

-- another file changed beside
abbrev pub changed : List (List ℕ × List ℕ)
changed = (codes "a", codes "three") ∷ (codes "b", codes "2") ∷ []

pub record FilesAreFound : Type 0 where
  pub first : file_of files (codes "a") ≡ Some (codes "one")
  pub second : file_of files (codes "b") ≡ Some (codes "two")
  pub nowhere : file_of files (codes "c") ≡ None
  pub once : HasNamesOnce files
  pub twice : ¬ (HasNamesOnce ((codes "a", codes "one") ∷ (codes "a", codes "two") ∷ []))

pub record FilesArePut : Type 0 where
  pub anew : AreTold (IsPut (codes "a") (codes "three")) (Some files) (Some rewritten)
  pub beside : ¬ (IsPut (codes "a") (codes "three") files changed)
  pub kept : ¬ (IsPut (codes "a") (codes "three") files files)
  pub hidden : ¬ (AreTold (IsPut (codes "a") (codes "three")) (Some files) None)
  pub as_before : IsPutInPart (codes "a") (codes "three") files files
  pub absent : IsPutInPart (codes "a") (codes "three") files lost
  pub in_part : IsPutInPart (codes "a") (codes "three") files cut
  pub other_bytes : ¬ (IsPutInPart (codes "a") (codes "one") rewritten ((codes "a", codes "two") ∷ lost))

pub record WordsNameFiles : Type 0 where
  pub plain : is_file_word (codes "book-1.txt") ≡ true
  pub one_letter : is_file_word (codes "a") ≡ true
  pub inner_points : is_file_word (codes "_..a") ≡ true
  pub empty : is_file_word [] ≡ false
  pub above : is_file_word (codes "..") ≡ false
  pub option : is_file_word (codes "-a") ≡ false
  pub folder : is_file_word (codes "a/b") ≡ false
  pub sixty_four : is_file_word (codes "0123456789012345678901234567890123456789012345678901234567890123")
      ≡ true
  pub sixty_five : is_file_word (codes "01234567890123456789012345678901234567890123456789012345678901234")
      ≡ false
