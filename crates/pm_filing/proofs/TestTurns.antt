-- The tests of columns and rows, some values at a time.
use Rattle.std.proofs.Common.{add-one, refl, sym, ap, drop, drop-cons, get_or, length, map, suc, ◌+◌, ◌<◌, ◌∙◌, ◌≡◌, ◌++◌, inl, inr, ℕ, List, [], ◌∷◌, Option}
use Rattle.pm_object_type.specs.declared.object_type.ObjectType.{ObjectType}
use Rattle.pm_filing.specs.FileParts.{FileFault}
use Rattle.pm_filing.specs.FileReadings.{ArePassed, HasBadRow, IsFirstBad, Named, cols_after, cols_after_all}
use Rattle.pm_filing.specs.ReadingViews.{HaveFractions}

cols-append : (n : Option ℕ) (xs ys : List Named) → cols_after_all n (xs ++ ys) ≡ cols_after_all (cols_after_all n xs) ys
cols-append n [] ys = refl
cols-append n (x ∷ xs) ys = cols-append (cols_after n x.property x.value) xs ys

passed-append : (of : ObjectType) (tied : List Named) (n : Option ℕ) (xs ys : List Named) → ArePassed of tied n xs → ArePassed of tied (cols_after_all n xs) ys → ArePassed of tied n (xs ++ ys)
passed-append of tied n [] ys h k = k
passed-append of tied n (x ∷ xs) ys h k = (h.0, passed-append of tied (cols_after n x.property x.value) xs ys h.1 k)

bad-front : (of : ObjectType) (tied : List Named) (n : Option ℕ) (xs ys : List Named) (name : List ℕ) → IsFirstBad of tied n xs name → IsFirstBad of tied n (xs ++ ys) name
bad-front of tied n [] ys name h = absurd h
bad-front of tied n (x ∷ xs) ys name (inl h) = inl h
bad-front of tied n (x ∷ xs) ys name (inr (p, h)) = inr (p, bad-front of tied (cols_after n x.property x.value) xs ys name h)

bad-behind : (of : ObjectType) (tied : List Named) (n : Option ℕ) (xs ys : List Named) (name : List ℕ) → ArePassed of tied n xs → IsFirstBad of tied (cols_after_all n xs) ys name → IsFirstBad of tied n (xs ++ ys) name
bad-behind of tied n [] ys name h k = k
bad-behind of tied n (x ∷ xs) ys name h k = inr (h.0, bad-behind of tied (cols_after n x.property x.value) xs ys name h.1 k)

fractions-append : (xs ys : List Named) → HaveFractions xs → HaveFractions ys → HaveFractions (xs ++ ys)
fractions-append [] ys h k = k
fractions-append (x ∷ xs) ys h k = (h.0, fractions-append xs ys h.1 k)

-- of all values these are left, where m is the column count that is known before them
pub record Left (of : ObjectType) (tied : List Named) (n : Option ℕ) (all : List Named) (m : Option ℕ) (rest : List Named) : Type 0 where
  pub cols : cols_after_all n all ≡ cols_after_all m rest
  pub passed : ArePassed of tied m rest → ArePassed of tied n all
  pub bad : (name : List ℕ) → IsFirstBad of tied m rest name → IsFirstBad of tied n all name
  pub fractions : HaveFractions rest → HaveFractions all

pub left-all : (of : ObjectType) (tied : List Named) (n : Option ℕ) (all : List Named) → Left of tied n all n all
left-all of tied n all = record { cols = refl; passed = λ h. h; bad = λ name h. h; fractions = λ h. h }

pub left-turn : (of : ObjectType) (tied : List Named) (n : Option ℕ) (all : List Named) (m : Option ℕ) (xs ys : List Named) → Left of tied n all m (xs ++ ys) → ArePassed of tied m xs → HaveFractions xs → Left of tied n all (cols_after_all m xs) ys
left-turn of tied n all m xs ys l p f = record {
  cols = l.cols ∙ cols-append m xs ys;
  passed = λ h. l.passed (passed-append of tied m xs ys p h);
  bad = λ name h. l.bad name (bad-behind of tied m xs ys name p h);
  fractions = λ h. l.fractions (fractions-append xs ys f h);
}

pub left-bad : (of : ObjectType) (tied : List Named) (n : Option ℕ) (all : List Named) (m : Option ℕ) (xs ys : List Named) (fault : FileFault) → Left of tied n all m (xs ++ ys) → HasBadRow of tied m xs fault → HasBadRow of tied n all fault
left-bad of tied n all m xs ys fault l (name, is, h) = (name, is, l.bad name (bad-front of tied m xs ys name h))

-- the element that comes next, before those that follow
pub next_seen : {X Y : Type 0} (f : X → Y) (xs : List X) (i : ℕ) (x : X) → i < length xs → x ≡ get_or xs i x → map f (drop i xs) ≡ f x ∷ map f (drop (i + 1) xs)
next_seen f xs i x within is = rw add-one (ap (map f) (drop-cons xs i x within ∙ ap (λ y. y ∷ drop (suc i) xs) (sym is)))
