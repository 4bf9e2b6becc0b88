-- Three sites on a line, and no site: affine functions, lower faces and cells.
use Rattle.pm_vector.proofs.Lists.{All_among, AllPairs_cons, Among, Any_among, here, there}
use Rattle.pm_vector.proofs.Ring.{ring}
use Rattle.pm_vector.specs.Numbers.{Ratio}
use Rattle.pm_vector.specs.Rows.{Row, dot, entry, ratio_at}
use Rattle.pm_geom.specs.FaceCounts.{IsLexBefore, SamePlaces}
use Rattle.pm_geom.specs.Faces.{ray}
use Rattle.pm_geom.specs.Graphs.{IsAscending, holds}
use Rattle.pm_geom.specs.Cells.{AreCells, IsCell, IsLowerFace, IsUnder, Touches}
use Rattle.pm_lift.specs.Examples.{CellsAreRead, LowerFacesAreRead, SitesAreRead, flat, pair, peak, slope, three_sites}
use Rattle.std.proofs.Common.{arith, refl, sym, true≢false}
use Rattle.std.proofs.lemmas.Int.{ints}
use Rattle.std.specs.List.{AllPairs}
use Rattle.std.specs.Prelude.{Bool, IsTrue, List, [], false, length, suc, true, zero, ℕ, ◌<◌, ◌↔◌, ◌∷◌, ◌≡◌}
use lib.IntN.{negsuc, pos, ℤ, ◌*ℤ◌, ◌+ℤ◌}
use lib.Signed.{le_z_yes, lt_z_yes, ◌<ℤ◌, ◌≤ℤ◌}

-- ---- what holds at three places
pub at_three : (P : ℕ → Type 0) → P 0 → P 1 → P 2 → (j : ℕ) → j < 3 → P j
at_three P a b c zero l = a
at_three P a b c (suc zero) l = b
at_three P a b c (suc (suc zero)) l = c
at_three P a b c (suc (suc (suc k))) l = absurd (omega arith)

pub no_pairs : (s : List ℕ) → AllPairs IsLexBefore (s ∷ [])
no_pairs s = AllPairs_cons IsLexBefore s [] (λ y i. elim i [ ]) (λ i j d l m. absurd (omega arith))

pub same_bool : (b c : Bool) → (IsTrue b → IsTrue c) → (IsTrue c → IsTrue b) → b ≡ c
same_bool true true f g = refl
same_bool true false f g = sym (f refl)
same_bool false true f g = g refl
same_bool false false f g = refl

-- two places rise
pub rising : (n i j : ℕ) → i < j → j < n → IsAscending n (i ∷ j ∷ [])
rising n i j h k = (
  All_among (λ x. x < n) (i ∷ j ∷ []) below,
  AllPairs_cons (λ (x y : ℕ). x < y) i (j ∷ []) later (AllPairs_cons (λ (x y : ℕ). x < y) j [] (λ y a. elim a [ ]) (λ x y d l m. absurd (omega arith))),
)
  where
    below : (x : ℕ) → Among x (i ∷ j ∷ []) → x < n
    below x here = omega arith
    below x (there here) = omega arith
    below x (there (there a)) = elim a [ ]

    later : (x : ℕ) → Among x (j ∷ []) → i < x
    later x here = omega arith
    later x (there a) = elim a [ ]

-- ---- the numbers of a function at 0, 1 and 2
line_at : (b : Row) → length b ≡ 2 → (a : ℤ) × (c : ℤ) × (dot b (pos 1 ∷ pos 0 ∷ []) ≡ a) × (dot b (pos 1 ∷ pos 1 ∷ []) ≡ a +ℤ c) × (dot b (pos 1 ∷ pos 2 ∷ []) ≡ a +ℤ (c +ℤ c))
line_at (a ∷ c ∷ []) l = (a, c, simp ring (omega (arith, ints)), simp ring (omega (arith, ints)), simp ring (omega (arith, ints)))
line_at [] l = absurd (omega arith)
line_at (a ∷ []) l = absurd (omega arith)
line_at (a ∷ c ∷ d ∷ e) l = absurd (omega arith)

abbrev IsBelow : List Ratio → Row → ℤ → ℕ → Type 0
IsBelow W b m j = (dot b (ray three_sites j) *ℤ (ratio_at W j).den) ≤ℤ (m *ℤ (entry (ray three_sites j) 0 *ℤ (ratio_at W j).num))

-- a function that is not above the ends is below the peak
below_peak : (b : Row) (m : ℤ) → length b ≡ 2 → pos 0 <ℤ m → IsBelow peak b m 0 → IsBelow peak b m 2 → Touches three_sites peak b m 1 → ⊥
below_peak b m l up e f g =
    let w = line_at b l in
    let x = simp (w.2, ring) at e in
    let y = simp (w.4, ring) at f in
    let z = simp (w.3, ring) at g in
    omega (arith, ints)

-- one with the number 5 at 0 and 0 at 2 is above the height 0 at 1
above_middle : (b : Row) (m : ℤ) → length b ≡ 2 → pos 0 <ℤ m → Touches three_sites slope b m 0 → IsBelow slope b m 1 → Touches three_sites slope b m 2 → ⊥
above_middle b m l up e f g =
    let w = line_at b l in
    let x = simp (w.2, ring) at e in
    let y = simp (w.3, ring) at f in
    let z = simp (w.4, ring) at g in
    omega (arith, ints)

-- one with the number 0 at the ends has it in the middle
through_middle : (b : Row) (m : ℤ) → length b ≡ 2 → Touches three_sites flat b m 0 → Touches three_sites flat b m 2 → Touches three_sites flat b m 1
through_middle b m l e g =
    let w = line_at b l in
    let x = simp (w.2, ring) at e in
    let z = simp (w.4, ring) at g in
    simp (w.3, ring) (omega (arith, ints))

-- ---- sites and functions
zero_under : IsUnder 2 three_sites peak (pair (pos 0) (pos 0)) (pos 1)
zero_under = record { cols = refl; positive = lt_z_yes tt; below = at_three (IsBelow peak (pair (pos 0) (pos 0)) (pos 1)) (le_z_yes tt) (le_z_yes tt) (le_z_yes tt) }

pub sites_are_read : SitesAreRead
sites_are_read = record {
  three = record {
    cols = at_three (λ j. length (ray three_sites j) ≡ 2) refl refl refl;
    positive = at_three (λ j. pos 0 <ℤ entry (ray three_sites j) 0) (lt_z_yes tt) (lt_z_yes tt) (lt_z_yes tt);
    denominators = at_three (λ j. pos 0 <ℤ (ratio_at peak j).den) (lt_z_yes tt) (lt_z_yes tt) (lt_z_yes tt);
  };
  not_of_three = λ s. let e = s.cols 0 (omega arith) in omega arith;
  not_a_direction = λ s. let e = s.positive 0 (omega arith) in omega (arith, ints);
  no_height = λ s. let e = s.denominators 0 (omega arith) in omega (arith, ints);
  under = zero_under;
  at_end = refl;
  not_between = λ e. omega (arith, ints);
  not_above = λ u. let e = u.below 2 (omega arith) in omega (arith, ints);
  not_by_zero = λ u. let e = u.positive in omega (arith, ints);
  not_shorter = λ u. let e = u.cols in omega arith;
  at_half = refl;
  not_at_half = λ e. omega (arith, ints);
}

-- ---- lower faces
pub on : {f : Bool} {t : Type 0} → IsTrue f → t → IsTrue f ↔ t
on f t = (λ x. t, λ x. f)

pub off : {t : Type 0} → (t → ⊥) → IsTrue false ↔ t
off f = (λ x. absurd (true≢false (sym x)), λ t. absurd (f t))

ends_face : IsLowerFace 2 three_sites peak (holds (0 ∷ 2 ∷ []))
ends_face = record {
  b = pair (pos 0) (pos 0);
  m = pos 1;
  function = zero_under;
  places = at_three (λ j. IsTrue (holds (0 ∷ 2 ∷ []) j) ↔ Touches three_sites peak (pair (pos 0) (pos 0)) (pos 1) j) (on refl refl) (off (λ e. omega (arith, ints))) (on refl refl);
}

-- by the function -x
end_face : IsLowerFace 2 three_sites peak (holds (0 ∷ []))
end_face = record {
  b = pair (pos 0) (negsuc 0);
  m = pos 1;
  function = record { cols = refl; positive = lt_z_yes tt; below = at_three (IsBelow peak (pair (pos 0) (negsuc 0)) (pos 1)) (le_z_yes tt) (le_z_yes tt) (le_z_yes tt) };
  places = at_three (λ j. IsTrue (holds (0 ∷ []) j) ↔ Touches three_sites peak (pair (pos 0) (negsuc 0)) (pos 1) j) (on refl refl) (off (λ e. omega (arith, ints))) (off (λ e. omega (arith, ints)));
}

flat_face : IsLowerFace 2 three_sites flat (holds (0 ∷ 1 ∷ 2 ∷ []))
flat_face = record {
  b = pair (pos 0) (pos 0);
  m = pos 1;
  function = record { cols = refl; positive = lt_z_yes tt; below = at_three (IsBelow flat (pair (pos 0) (pos 0)) (pos 1)) (le_z_yes tt) (le_z_yes tt) (le_z_yes tt) };
  places = at_three (λ j. IsTrue (holds (0 ∷ 1 ∷ 2 ∷ []) j) ↔ Touches three_sites flat (pair (pos 0) (pos 0)) (pos 1) j) (on refl refl) (on refl refl) (on refl refl);
}

-- by the function 5 - 5 x
slope_face : IsLowerFace 2 three_sites slope (holds (0 ∷ 1 ∷ []))
slope_face = record {
  b = pair (pos 5) (negsuc 4);
  m = pos 1;
  function = record { cols = refl; positive = lt_z_yes tt; below = at_three (IsBelow slope (pair (pos 5) (negsuc 4)) (pos 1)) (le_z_yes tt) (le_z_yes tt) (le_z_yes tt) };
  places = at_three (λ j. IsTrue (holds (0 ∷ 1 ∷ []) j) ↔ Touches three_sites slope (pair (pos 5) (negsuc 4)) (pos 1) j) (on refl refl) (on refl refl) (off (λ e. omega (arith, ints)));
}

not_with_peak : (f : ℕ → Bool) → IsTrue (f 1) → IsLowerFace 2 three_sites peak f → ⊥
not_with_peak f t h = below_peak h.b h.m h.function.cols h.function.positive (h.function.below 0 (omega arith)) (h.function.below 2 (omega arith)) ((h.places 1 (omega arith)).0 t)

not_without_middle : IsLowerFace 2 three_sites flat (holds (0 ∷ 2 ∷ [])) → ⊥
not_without_middle h =
    true≢false (sym ((h.places 1 (omega arith)).1 (through_middle h.b h.m h.function.cols ((h.places 0 (omega arith)).0 refl) ((h.places 2 (omega arith)).0 refl))))

not_on_slope : IsLowerFace 2 three_sites slope (holds (0 ∷ 2 ∷ [])) → ⊥
not_on_slope h = above_middle h.b h.m h.function.cols h.function.positive ((h.places 0 (omega arith)).0 refl) (h.function.below 1 (omega arith)) ((h.places 2 (omega arith)).0 refl)

pub lower_faces_are_read : LowerFacesAreRead
lower_faces_are_read = record {
  ends = ends_face;
  end = end_face;
  not_upper = not_with_peak (holds (0 ∷ 1 ∷ [])) refl;
  not_peak = not_with_peak (holds (1 ∷ [])) refl;
  not_all = not_with_peak (holds (0 ∷ 1 ∷ 2 ∷ [])) refl;
  all_flat = flat_face;
  not_without_middle = not_without_middle;
  on_slope = slope_face;
  not_on_slope = not_on_slope;
}

-- ---- cells
face_in_ends : (f : ℕ → Bool) → IsLowerFace 2 three_sites peak f → (j : ℕ) → j < 3 → IsTrue (f j) → IsTrue (holds (0 ∷ 2 ∷ []) j)
face_in_ends f h = at_three (λ j. IsTrue (f j) → IsTrue (holds (0 ∷ 2 ∷ []) j)) (λ t. refl) (λ t. absurd (not_with_peak f t h)) (λ t. refl)

ends_cell : IsCell 2 three_sites peak (holds (0 ∷ 2 ∷ []))
ends_cell = record { face = ends_face; maximal = λ g h sub. face_in_ends g h }

not_end : IsCell 2 three_sites peak (holds (0 ∷ [])) → ⊥
not_end c = true≢false (sym (c.maximal (holds (0 ∷ 2 ∷ [])) ends_face within 2 (omega arith) refl))
  where
    within : (j : ℕ) → j < 3 → IsTrue (holds (0 ∷ []) j) → IsTrue (holds (0 ∷ 2 ∷ []) j)
    within = at_three (λ j. IsTrue (holds (0 ∷ []) j) → IsTrue (holds (0 ∷ 2 ∷ []) j)) (λ t. refl) (λ t. t) (λ t. refl)

three_cells : AreCells 2 three_sites peak ((0 ∷ 2 ∷ []) ∷ [])
three_cells = record {
  each = All_among (λ set. IsAscending 3 set × IsCell 2 three_sites peak (holds set)) ((0 ∷ 2 ∷ []) ∷ []) each;
  all = λ f c. Any_among (λ set. SamePlaces 3 f (holds set)) (here {xs = []}) (λ j l. same_bool (f j) (holds (0 ∷ 2 ∷ []) j) (face_in_ends f c.face j l) (c.maximal (holds (0 ∷ 2 ∷ [])) ends_face (face_in_ends f c.face) j l));
  ordered = no_pairs (0 ∷ 2 ∷ []);
}
  where
    each : (set : List ℕ) → Among set ((0 ∷ 2 ∷ []) ∷ []) → IsAscending 3 set × IsCell 2 three_sites peak (holds set)
    each set here = (rising 3 0 2 (omega arith) (omega arith), ends_cell)
    each set (there i) = elim i [ ]

none_cell : IsCell 2 [] [] (holds [])
none_cell = record {
  face = record { b = pair (pos 0) (pos 0); m = pos 1; function = record { cols = refl; positive = lt_z_yes tt; below = λ j l. absurd (omega arith) }; places = λ j l. absurd (omega arith) };
  maximal = λ g h sub j l t. absurd (omega arith);
}

no_sites : AreCells 2 [] [] ([] ∷ [])
no_sites = record {
  each = All_among (λ set. IsAscending 0 set × IsCell 2 [] [] (holds set)) ([] ∷ []) each;
  all = λ f c. Any_among (λ set. SamePlaces 0 f (holds set)) (here {xs = []}) (λ j l. absurd (omega arith));
  ordered = no_pairs [];
}
  where
    each : (set : List ℕ) → Among set ([] ∷ []) → IsAscending 0 set × IsCell 2 [] [] (holds set)
    each set here = ((λ k d l. absurd (omega arith), λ i j d l m. absurd (omega arith)), none_cell)
    each set (there i) = elim i [ ]

twice : IsLexBefore (0 ∷ 2 ∷ []) (0 ∷ 2 ∷ []) → ⊥
twice e = absurd cc

pub cells_are_read : CellsAreRead
cells_are_read = record {
  ends = ends_cell;
  not_end = not_end;
  not_upper = λ c. not_with_peak (holds (0 ∷ 1 ∷ [])) refl c.face;
  cells = three_cells;
  not_with_peak = λ c. not_with_peak (holds (0 ∷ 1 ∷ 2 ∷ [])) refl (c.each 0 [] (omega arith)).1.face;
  not_none = λ c. let a = c.all (holds (0 ∷ 2 ∷ [])) ends_cell in let l = a.2 in omega arith;
  not_end_too = λ c. not_end (c.each 0 [] (omega arith)).1;
  not_falling = λ c. let l = (c.each 0 [] (omega arith)).0.1 0 1 0 (omega arith) (omega arith) in omega arith;
  not_twice = λ c. twice (c.ordered 0 1 [] (omega arith) (omega arith));
  no_sites = no_sites;
  not_no_cell = λ c. let a = c.all (holds []) none_cell in let l = a.2 in omega arith;
}
