-- Meets of small sets of indices.
use Rattle.pm_vector.proofs.Lists.{Among, Contains_among, among_Contains, here, there}
use Rattle.pm_geom.specs.FaceCounts.{SamePlaces}
use Rattle.pm_geom.specs.Graphs.{holds, sets_of}
use Rattle.pm_geom.specs.Meets.{HasMeetChain, HasMeetRank, IsMeet}
use Rattle.pm_lattice.proofs.Chains.{meet_more, meet_same}
use Rattle.pm_lattice.specs.Parts.{both}
use Rattle.std.proofs.Common.{arith, inl, inr, refl, subst, sym, ◌∙◌}
use Rattle.std.specs.List.{Contains}
use Rattle.std.specs.Prelude.{Bool, IsTrue, List, [], false, suc, true, ℕ, ◌<◌, ◌≤◌, ◌∷◌, ◌≡◌, ◌⊎◌}

-- a set with the places of a meet is one
pub meet_with : (m : ℕ) (sets : List (ℕ → Bool)) (f g : ℕ → Bool) → IsMeet m sets f → SamePlaces m g f → IsMeet m sets g
meet_with m sets f g w e = meet_same m sets f g (λ j l. sym (e j l)) w

pub below : (m : ℕ) (P : ℕ → Type 0) → ((j : ℕ) → j < m → P j) → P m → (j : ℕ) → j < suc m → P j
below m P h p j l = elim (cases m j l) [ inl e ↦ subst P (sym e) p | inr s ↦ h j s ]
  where
    cases : (m j : ℕ) → j < suc m → (j ≡ m) ⊎ (j < m)
    cases m j l = grind arith

pub below_three : (P : ℕ → Type 0) → P 0 → P 1 → P 2 → (j : ℕ) → j < 3 → P j
below_three P a b c = below 2 P (below 1 P (below 0 P (λ j l. absurd (omega arith)) a) b) c

pub below_four : (P : ℕ → Type 0) → P 0 → P 1 → P 2 → P 3 → (j : ℕ) → j < 4 → P j
below_four P a b c d = below 3 P (below_three P a b c) d

pub all_places : (m : ℕ) (rows : List (List ℕ)) → IsMeet m (sets_of rows) (λ j. true)
all_places m rows = record { some = []; among = λ r i. elim (among_Contains [] i) [ ]; places = λ j l. ((λ t k d q. absurd (omega arith)), (λ a. refl)) }

row_at : (rows : List (List ℕ)) (i : ℕ) (r : List ℕ) → Among r rows → Contains (sets_of rows) (holds r)
row_at rows i r a = Contains_among (go rows r a)
  where
    go : (rows : List (List ℕ)) (r : List ℕ) → Among r rows → Among (holds r) (sets_of rows)
    go [] r a = elim a [ ]
    go (q ∷ rows) r here = here
    go (q ∷ rows) r (there a) = there (go rows r a)

pub one_row : (m : ℕ) (rows : List (List ℕ)) (r : List ℕ) → Among r rows → IsMeet m (sets_of rows) (both (λ j. true) (holds r))
one_row m rows r a = meet_more m (sets_of rows) (λ j. true) (holds r) (all_places m rows) (row_at rows 0 r a)

pub two_rows : (m : ℕ) (rows : List (List ℕ)) (r q : List ℕ) → Among r rows → Among q rows → IsMeet m (sets_of rows) (both (both (λ j. true) (holds r)) (holds q))
two_rows m rows r q a b = meet_more m (sets_of rows) (both (λ j. true) (holds r)) (holds q) (one_row m rows r a) (row_at rows 0 q b)

-- a chain and a size that no longer one has
pub ranked : (m : ℕ) (rows : List (ℕ → Bool)) (f : ℕ → Bool) (k n : ℕ) → IsMeet m rows f → HasMeetChain m rows k f → ((x : HasMeetChain m rows (suc k) f) → suc k ≤ n) → n < suc k → HasMeetRank m rows f k
ranked m rows f k n w x h l = record { meet = w; chain = x; greatest = λ y. let b = h y in omega arith }

pub lacks_by : (b : Bool) → b ≡ false → ¬ (IsTrue b)
lacks_by b e t = let x : true ≡ false = sym t ∙ e in cc
