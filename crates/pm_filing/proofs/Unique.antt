-- Bytes are read as one file, or refused for one fault.
use Rattle.std.proofs.Common.{sym, ap, subst, ◌∙◌, ◌≡◌, inl, inr, ℕ, List, [], ◌∷◌, Option, None, Ok, Err, Bool, true, false, true≢false}
use Rattle.pm_object_type.specs.declared.object_type.ObjectType.{ObjectType}
use Rattle.pm_filing.specs.FileParts.{FileFault, FileRead, bad_row}
use Rattle.pm_files.specs.Files.{SavedFile}
use Rattle.pm_filing.specs.FileReadings.{ArePassed, IsFirstBad, Named, Reads, ReadsSeen, Refuses, RefusesSeen, Seen, cols_after, named_values, seen, tied_values}
use Rattle.pm_filing.specs.Profiles.{file_in}
use Rattle.pm_filing.specs.ReadingLaws.{ReadingsAreUnique}

abbrev or_that : {A : Type 0} → A → FileRead A → A
or_that a (Ok b) = b
or_that a (Err fault) = a

same_ok : {A : Type 0} (a b : A) (r : FileRead A) → r ≡ Ok a → r ≡ Ok b → a ≡ b
same_ok a b r h g = ap (or_that a) (sym h ∙ g)

abbrev fault_or : {A : Type 0} → FileFault → FileRead A → FileFault
fault_or fault (Ok a) = fault
fault_or fault (Err e) = e

same_err : {A : Type 0} (e f : FileFault) (r : FileRead A) → r ≡ Err e → r ≡ Err f → e ≡ f
same_err e f r h g = ap (fault_or e) (sym h ∙ g)

abbrev is_read : {A : Type 0} → FileRead A → Bool
is_read (Ok a) = true
is_read (Err fault) = false

not_both_ways : {A : Type 0} (a : A) (e : FileFault) (r : FileRead A) → r ≡ Ok a → r ≡ Err e → ⊥
not_both_ways a e r h g = true≢false (ap is_read (sym h ∙ g))

-- ---- the tests of rows
passed_not_bad : (of : ObjectType) (tied : List Named) (n : Option ℕ) (xs : List Named) (name : List ℕ) → ArePassed of tied n xs → IsFirstBad of tied n xs name → ⊥
passed_not_bad of tied n [] name p b = b
passed_not_bad of tied n (x ∷ xs) name (p, ps) (inl (e, fails)) = fails p
passed_not_bad of tied n (x ∷ xs) name (p, ps) (inr (q, b)) = passed_not_bad of tied (cols_after n x.property x.value) xs name ps b

one_bad : (of : ObjectType) (tied : List Named) (n : Option ℕ) (xs : List Named) (a b : List ℕ) → IsFirstBad of tied n xs a → IsFirstBad of tied n xs b → a ≡ b
one_bad of tied n [] a b h g = absurd h
one_bad of tied n (x ∷ xs) a b (inl (e, fails)) (inl (d, fails')) = e ∙ sym d
one_bad of tied n (x ∷ xs) a b (inl (e, fails)) (inr (q, g)) = absurd (fails q)
one_bad of tied n (x ∷ xs) a b (inr (p, h)) (inl (d, fails)) = absurd (fails p)
one_bad of tied n (x ∷ xs) a b (inr (p, h)) (inr (q, g)) = one_bad of tied (cols_after n x.property x.value) xs a b h g

-- ---- what was seen
one_fault_seen : (s : Seen) (a b : FileFault) → RefusesSeen s a → RefusesSeen s b → a ≡ b
one_fault_seen s a b (inl (n, is, h)) (inl (m, js, g)) = is ∙ ap bad_row (one_bad s.of (tied_values s) None (named_values s.of s.parts) n m h g) ∙ sym js
one_fault_seen s a b (inl (n, is, h)) (inr (passed, d)) = absurd (passed_not_bad s.of (tied_values s) None (named_values s.of s.parts) n passed h)
one_fault_seen s a b (inr (passed, e)) (inl (m, js, g)) = absurd (passed_not_bad s.of (tied_values s) None (named_values s.of s.parts) m passed g)
one_fault_seen s a b (inr (passed, e)) (inr (passed', d)) = same_err a b (file_in s.of s.top s.parts) e d

not_seen_both : (s : Seen) (f : SavedFile) (e : FileFault) → ReadsSeen s f → RefusesSeen s e → ⊥
not_seen_both s f e r (inl (n, is, h)) = passed_not_bad s.of (tied_values s) None (named_values s.of s.parts) n r.0 h
not_seen_both s f e r (inr (passed, d)) = not_both_ways f e (file_in s.of s.top s.parts) r.1 d

-- ---- bytes
one_file : (bytes : List ℕ) (f g : SavedFile) → Reads bytes f → Reads bytes g → f ≡ g
one_file bytes f g (s, e, r) (t, d, q) =
    let r' : ReadsSeen t f = subst (λ (x : Seen). ReadsSeen x f) (same_ok s t (seen bytes) e d) r in
    same_ok f g (file_in t.of t.top t.parts) r'.1 q.1

one_fault : (bytes : List ℕ) (a b : FileFault) → Refuses bytes a → Refuses bytes b → a ≡ b
one_fault bytes a b (inl e) (inl d) = same_err a b (seen bytes) e d
one_fault bytes a b (inl e) (inr (t, d, q)) = absurd (not_both_ways t a (seen bytes) d e)
one_fault bytes a b (inr (s, e, r)) (inl d) = absurd (not_both_ways s b (seen bytes) e d)
one_fault bytes a b (inr (s, e, r)) (inr (t, d, q)) = one_fault_seen t a b (subst (λ (x : Seen). RefusesSeen x a) (same_ok s t (seen bytes) e d) r) q

not_both : (bytes : List ℕ) (f : SavedFile) (e : FileFault) → Reads bytes f → Refuses bytes e → ⊥
not_both bytes f e (s, h, r) (inl d) = not_both_ways s e (seen bytes) h d
not_both bytes f e (s, h, r) (inr (t, d, q)) = not_seen_both t f e (subst (λ (x : Seen). ReadsSeen x f) (same_ok s t (seen bytes) h d) r) q

pub readings_are_unique : ReadingsAreUnique
readings_are_unique = record { one_file = one_file; one_fault = one_fault; not_both = not_both }
