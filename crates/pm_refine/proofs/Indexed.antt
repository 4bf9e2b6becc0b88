-- Elements of lists that are seen through a function.
use Rattle.pm_vector.proofs.Filters.{among_map}
use Rattle.pm_vector.proofs.Lists.{All_among, Among, Any_among, among_All, among_append_left, among_append_right, here}
use Rattle.pm_vector.specs.Rows.{HasCols, Row}
use Rattle.pm_laws_normal_fans.proofs.Places.{among_at, map_at, map_length}
use Rattle.pm_laws_normal_fans.specs.Refinements.{Intersection}
use Rattle.pm_refine.specs.CutRows.{CutRows, IsRowOf, IsSomeRow, are_within, cuts_at}
use Rattle.pm_refine.specs.Steps.{ArePlaced, IsPlaced, includes_any_of, keep_one, not_included_in}
use Rattle.std.proofs.Common.{ap, arith, inl, inr, refl, subst, sym, ◌∙◌}
use Rattle.std.proofs.lemmas.List.{drop_more}
use Rattle.std.specs.List.{All, slice_index_or}
use Rattle.std.specs.Prelude.{Bool, List, [], cond, drop, false, get_or, length, map, true, ℕ, ◌+◌, ◌++◌, ◌<◌, ◌||◌, ◌∷◌, ◌≡◌, ◌⊎◌}

pub mapped_at : {X Y : Type 0} (f : X → Y) (xs : List X) (k : ℕ) (x : X) (d : Y) → k < length xs → x ≡ get_or xs k x → slice_index_or (map f xs) k d ≡ f x
mapped_at f xs k x d l e = map_at f x d xs k l ∙ ap f (sym e)

pub mapped_among : {X Y : Type 0} (f : X → Y) (xs : List X) (k : ℕ) (x : X) → k < length xs → x ≡ get_or xs k x → Among (f x) (map f xs)
mapped_among f xs k x l e = let n = map_length f xs in subst (λ z. Among z (map f xs)) (mapped_at f xs k x (f x) l e) (among_at (f x) (map f xs) k (omega arith))

pub item : {X Y : Type 0} (P : Y → Type 0) (f : X → Y) (xs : List X) (k : ℕ) (x : X) → k < length xs → x ≡ get_or xs k x → All P (map f xs) → P (f x)
item P f xs k x l e h = among_All P (mapped_among f xs k x l e) h

pub all_left : {X : Type 0} (P : X → Type 0) (xs : List X) (y : X) → All P (xs ++ y ∷ []) → All P xs
all_left P xs y h = All_among P xs (λ x i. among_All P (among_append_left (y ∷ []) i) h)

pub all_last : {X : Type 0} (P : X → Type 0) (xs : List X) (y : X) → All P (xs ++ y ∷ []) → P y
all_last P xs y h = among_All P (among_append_right xs here) h

pub map_last : {X Y : Type 0} (f : X → Y) (xs : List X) (y : X) → map f (xs ++ y ∷ []) ≡ map f xs ++ f y ∷ []
map_last f [] y = refl
map_last f (x ∷ xs) y = ap (λ zs. f x ∷ zs) (map_last f xs y)

pub some_row : (C D : List CutRows) (c d : CutRows) → Among c C → Among d D → (r : Row) → IsRowOf c r ⊎ IsRowOf d r → IsSomeRow C D r
some_row C D c d ic id r (inl h) = inl (Any_among (λ c. IsRowOf c r) ic h)
some_row C D c d ic id r (inr h) = inr (Any_among (λ c. IsRowOf c r) id h)

pub all_cols : {X : Type 0} (f : X → Intersection) (n : ℕ) (C D : List CutRows) (xs : List X) (y : Intersection) → ArePlaced n C D (map f xs ++ y ∷ []) → All (λ x. HasCols n (f x).rays) xs
all_cols f n C D xs y h = All_among (λ x. HasCols n (f x).rays) xs (λ x i. (among_All (IsPlaced n C D) (among_append_left (y ∷ []) (among_map f i)) h).cols)

-- ---- whether a new one is included in those from place k on
module _ {A X : Type 0} (cut : A → CutRows) (f : X → Intersection) (firsts seconds : List A) (xs : List X) (c : Intersection) where
  abbrev from : ℕ → Bool
  from k = includes_any_of (map cut firsts) (map cut seconds) (map f (drop k xs)) c

  pub any_next : (k : ℕ) (x : X) (a b : A) (t : Bool) → k < length xs → x ≡ get_or xs k x → (f x).first < length firsts → (f x).second < length seconds → a ≡ get_or firsts (f x).first a → b ≡ get_or seconds (f x).second b → t ≡ are_within (cut a) (cut b) c.rays → from k ≡ (t || from (k + 1))
  any_next k x a b t l e la lb ea eb h =
      ap (λ ys. includes_any_of (map cut firsts) (map cut seconds) (map f ys) c) (drop_more xs k x l ∙ ap (λ z. z ∷ drop (k + 1) xs) (sym e))
      ∙ ap (λ z. z || from (k + 1)) (sym (h ∙ test))
    where
      test : are_within (cut a) (cut b) c.rays ≡ are_within (cuts_at (map cut firsts) (f x).first) (cuts_at (map cut seconds) (f x).second) c.rays
      test = ap (λ z. are_within z (cut b) c.rays) (sym (mapped_at cut firsts (f x).first a (record { facets = []; hull = [] }) la ea))
          ∙ ap (λ z. are_within (cuts_at (map cut firsts) (f x).first) z c.rays) (sym (mapped_at cut seconds (f x).second b (record { facets = []; hull = [] }) lb eb))

pub any_yes : (whole now rest t : Bool) → t ≡ true → now ≡ (t || rest) → now ≡ whole → true ≡ whole
any_yes whole now rest true e h i = sym h ∙ i
any_yes whole now rest false e h i = absurd cc

pub any_no : (whole now rest t : Bool) → t ≡ false → now ≡ (t || rest) → now ≡ whole → rest ≡ whole
any_no whole now rest true e h i = absurd cc
any_no whole now rest false e h i = sym h ∙ i

-- ---- the kept ones after a new one that is included in none
pub kept_next : (C D : List CutRows) (kept left all : List Intersection) (c : Intersection) (a b : CutRows) (t : Bool) → cuts_at C c.first ≡ a → cuts_at D c.second ≡ b → t ≡ includes_any_of C D kept c → t ≡ false → left ≡ not_included_in a b kept → all ≡ left ++ c ∷ [] → all ≡ keep_one C D kept c
kept_next C D kept left all c a b t ea eb h e l w = w ∙ ap (λ z. z ++ c ∷ []) (l ∙ ap (λ z. not_included_in z b kept) (sym ea) ∙ ap (λ z. not_included_in (cuts_at C c.first) z kept) (sym eb))
    ∙ ap (λ z. cond z kept (not_included_in (cuts_at C c.first) (cuts_at D c.second) kept ++ c ∷ [])) (sym e ∙ h)
