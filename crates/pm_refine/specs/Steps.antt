-- Keeping the maximal intersections, one after another.
use Rattle.pm_vector.specs.Rows.{HasCols, Row}
use Rattle.pm_geom.specs.Generators.{AreGenerators}
use Rattle.pm_laws_normal_fans.specs.Refinements.{InHalfSpaces, Intersection, IsEarlier}
use Rattle.pm_refine.specs.CutRows.{CutRows, are_within, cuts_at}
use Rattle.std.specs.List.{All, AllPairs, Any}
use Rattle.std.specs.Prelude.{Bool, List, [], false, filter, if◌then◌else◌, length, not, ℕ, ◌++◌, ◌<◌, ◌||◌, ◌∷◌, ◌≡◌, ◌⊎◌}

-- the places of an intersection are places of C and of D, and its rays have n entries
pub record IsPlaced (n : ℕ) (C D : List CutRows) (a : Intersection) : Type 0 where
  pub first : a.first < length C
  pub second : a.second < length D
  pub cols : HasCols n a.rays

abbrev pub ArePlaced : ℕ → List CutRows → List CutRows → List Intersection → Type 0
ArePlaced n C D kept = All (IsPlaced n C D) kept

-- whether c is included in a kept one
abbrev pub includes_any_of : List CutRows → List CutRows → List Intersection → Intersection → Bool
includes_any_of C D [] c = false
includes_any_of C D (a ∷ kept) c =
    are_within (cuts_at C a.first) (cuts_at D a.second) c.rays || includes_any_of C D kept c

-- those that are not included in the cones that c and d cut out
abbrev pub not_included_in : CutRows → CutRows → List Intersection → List Intersection
not_included_in c d kept = filter (λ a. not (are_within c d a.rays)) kept

-- the kept ones after c
abbrev pub keep_one : List CutRows → List CutRows → List Intersection → Intersection → List Intersection
keep_one C D kept c = if includes_any_of C D kept c then kept
    else not_included_in (cuts_at C c.first) (cuts_at D c.second) kept ++ c ∷ []

-- the kept ones after all of a list
abbrev pub keep_all : List CutRows → List CutRows → List Intersection → List Intersection → List Intersection
keep_all C D kept [] = kept
keep_all C D kept (c ∷ listed) = keep_all C D (keep_one C D kept c) listed

-- ---- the intersections of the pairs so far
-- the rays and the lines K are the generators, in canonical form, of what the rows at both places cut out
pub record IsCutOutBy (n : ℕ) (C D : List CutRows) (K : List Row) (a : Intersection) : Type 0 where
  pub first : a.first < length C
  pub second : a.second < length D
  pub generators
      : AreGenerators n (InHalfSpaces ((cuts_at C a.first).facets ++ (cuts_at D a.second).facets)
      ((cuts_at C a.first).hull ++ (cuts_at D a.second).hull)) a.rays K

-- the pair a, b comes before the pair i, j
abbrev pub IsPairBefore : ℕ → ℕ → ℕ → ℕ → Type 0
IsPairBefore a b i j = (a < i) ⊎ ((a ≡ i) × (b < j))

-- the intersections of the pairs before i, j, in order; the lines of one of them, and none where there is no pair; and
-- what is kept of them
pub record AreKeptBefore (n : ℕ) (C D : List CutRows) (i j : ℕ) (K : List Row) (kept : List Intersection)
    : Type 0 where
  pub listed : List Intersection
  pub each : All (λ a. (L : List Row) × IsCutOutBy n C D L a) listed
  pub all : (a b : ℕ) → a < length C → b < length D → IsPairBefore a b i j
      → Any (λ m. (m.first ≡ a) × (m.second ≡ b)) listed
  pub before : All (λ m. IsPairBefore m.first m.second i j) listed
  pub ordered : AllPairs IsEarlier listed
  pub lines : ((listed ≡ []) × (K ≡ [])) ⊎ Any (IsCutOutBy n C D K) listed
  pub left : kept ≡ keep_all C D [] listed
