-- Faces that cover what each of them shares with the rows are all intersections.
use Rattle.pm_vector.proofs.Lists.{All_among, Among, Contains_among, among_All, among_Contains, here, there}
use Rattle.pm_bits.specs.Sets.{has}
use Rattle.pm_geom.specs.FaceCounts.{SamePlaces}
use Rattle.pm_geom.specs.Meets.{IsMeet}
use Rattle.pm_lattice.specs.Closures.{bit_sets}
use Rattle.pm_lattice.specs.Parts.{Covers, IsIn, IsOpening, both, row_of}
use Rattle.pm_geom.specs.Faces.{IsStrictlyIn}
use Rattle.pm_lattice.proofs.Chains.{Outside, and_both, and_left, and_right, in_or_outside, meet_more, outside_not_in}
use Rattle.pm_lattice.proofs.Subsets.{subset_from_in}
use Rattle.pm_lattice.proofs.Sizes.{size, size_le, size_less}
use Rattle.std.proofs.Common.{ap, arith, inl, inr, refl, subst, sym, ◌∙◌}
use Rattle.std.specs.List.{Contains}
use Rattle.std.specs.Prelude.{Bool, IsTrue, List, [], false, length, suc, true, zero, ℕ, ◌+◌, ◌<◌, ◌≤◌, ◌∷◌, ◌≡◌, ◌⊎◌}

pub among_tests : (rows : List (List Bool)) (t : ℕ → Bool) → Among t (bit_sets rows) → (r : List Bool) × Among r rows × (has r ≡ t)
among_tests [] t i = elim i [ ]
among_tests (r ∷ rows) t here = (r, here, refl)
among_tests (r ∷ rows) t (there i) = let w = among_tests rows t i in (w.0, there w.1, w.2)

pub tests_among : (rows : List (List Bool)) (r : List Bool) → Among r rows → Among (has r) (bit_sets rows)
tests_among [] r i = elim i [ ]
tests_among (q ∷ rows) r here = here
tests_among (q ∷ rows) r (there i) = there (tests_among rows r i)

pub same_bool : (a b : Bool) → (IsTrue a → IsTrue b) → (IsTrue b → IsTrue a) → a ≡ b
same_bool true true h k = refl
same_bool false false h k = refl
same_bool true false h k = sym (h refl)
same_bool false true h k = k refl

pub both_ways : (m : ℕ) (f g : ℕ → Bool) → IsIn m f g → IsIn m g f → SamePlaces m f g
both_ways m f g h k j l = same_bool (f j) (g j) (h j l) (k j l)

-- the row at a place, and that a row stands at one
pub row_among : (rows : List (List Bool)) (j : ℕ) → j < length rows → Among (row_of rows j) rows
row_among [] j l = absurd (omega arith)
row_among (r ∷ rows) zero l = here
row_among (r ∷ rows) (suc j) l = there (row_among rows j (omega arith))

pub among_row : (rows : List (List Bool)) (r : List Bool) → Among r rows → (j : ℕ) × (j < length rows) × (row_of rows j ≡ r)
among_row [] r i = elim i [ ]
among_row (q ∷ rows) r here = (zero, omega arith, refl)
among_row (q ∷ rows) r (there i) = let w = among_row rows r i in (suc w.0, (let l = w.1 in omega arith), w.2)

module _ (m : ℕ) (rows : List (List Bool)) (g : ℕ → Bool) where
  -- what the first k rows share that contain g
  hull_next : (h : ℕ → Bool) (r : List Bool) → (IsIn m g (has r) ⊎ Outside m g (has r)) → ℕ → Bool
  hull_next h r (inl c) = both h (has r)
  hull_next h r (inr o) = h

  hull : ℕ → ℕ → Bool
  hull zero = λ x. true
  hull (suc k) = hull_next (hull k) (row_of rows k) (in_or_outside m g (has (row_of rows k)))

  next_meet : (h : ℕ → Bool) (r : List Bool) (d : IsIn m g (has r) ⊎ Outside m g (has r)) → Among r rows → IsMeet m (bit_sets rows) h → IsMeet m (bit_sets rows) (hull_next h r d)
  unfolding hull_next
  next_meet h r (inl c) i w = meet_more m (bit_sets rows) h (has r) w (Contains_among (tests_among rows r i))
  next_meet h r (inr o) i w = w

  hull_meet : (k : ℕ) → k ≤ length rows → IsMeet m (bit_sets rows) (hull k)
  unfolding hull
  hull_meet zero l = record { some = []; among = λ r i. elim (among_Contains [] i) [ ]; places = λ j l. ((λ t. All_among (λ r. IsTrue (r j)) [] (λ r i. elim i [ ])), (λ a. refl)) }
  hull_meet (suc k) l = next_meet (hull k) (row_of rows k) (in_or_outside m g (has (row_of rows k))) (row_among rows k (omega arith)) (hull_meet k (omega arith))

  next_above : (h : ℕ → Bool) (r : List Bool) (d : IsIn m g (has r) ⊎ Outside m g (has r)) → IsIn m g h → IsIn m g (hull_next h r d)
  unfolding hull_next
  next_above h r (inl c) u = λ j l t. and_both (h j) (has r j) (u j l t) (c j l t)
  next_above h r (inr o) u = u

  hull_above : (k : ℕ) → IsIn m g (hull k)
  unfolding hull
  hull_above zero = λ j l t. refl
  hull_above (suc k) = next_above (hull k) (row_of rows k) (in_or_outside m g (has (row_of rows k))) (hull_above k)

  next_under : (h : ℕ → Bool) (r : List Bool) (d : IsIn m g (has r) ⊎ Outside m g (has r)) → IsIn m (hull_next h r d) h
  unfolding hull_next
  next_under h r (inl c) j l t = and_left (h j) (has r j) t
  next_under h r (inr o) j l t = t

  next_row : (h : ℕ → Bool) (r : List Bool) (d : IsIn m g (has r) ⊎ Outside m g (has r)) → IsIn m g (has r) → IsIn m (hull_next h r d) (has r)
  unfolding hull_next
  next_row h r (inl c) i = λ j l t. and_right (h j) (has r j) t
  next_row h r (inr o) i = absurd (outside_not_in m g (has r) o i)

  -- it lies in each of these rows
  hull_in : (k i : ℕ) → i < k → IsIn m g (has (row_of rows i)) → IsIn m (hull k) (has (row_of rows i))
  unfolding hull
  hull_in zero i l c = absurd (omega arith)
  hull_in (suc k) i l c = elim (which i k l) [
    | inl e ↦ subst (λ q. IsIn m g (has (row_of rows q)) → IsIn m (hull_next (hull k) (row_of rows k) (in_or_outside m g (has (row_of rows k)))) (has (row_of rows q))) (sym e) (next_row (hull k) (row_of rows k) (in_or_outside m g (has (row_of rows k)))) c
    | inr s ↦ (λ j lj t. hull_in k i s c j lj (next_under (hull k) (row_of rows k) (in_or_outside m g (has (row_of rows k))) j lj t))
  ]
    where
      which : (i k : ℕ) → i < suc k → (i ≡ k) ⊎ (i < k)
      which i k l = grind arith

  next_has : (h : ℕ → Bool) (r : List Bool) (d : IsIn m g (has r) ⊎ Outside m g (has r)) (x : ℕ) → IsTrue (h x) → (IsIn m g (has r) → IsTrue (has r x)) → IsTrue (hull_next h r d x)
  unfolding hull_next
  next_has h r (inl c) x t u = and_both (h x) (has r x) t (u c)
  next_has h r (inr o) x t u = t

  -- and has each place that all of them have
  hull_has : (k x : ℕ) → ((i : ℕ) → i < k → IsIn m g (has (row_of rows i)) → IsTrue (has (row_of rows i) x)) → IsTrue (hull k x)
  unfolding hull
  hull_has zero x u = refl
  hull_has (suc k) x u = next_has (hull k) (row_of rows k) (in_or_outside m g (has (row_of rows k))) x (hull_has k x (λ i l. u i (omega arith))) (u k (omega arith))

  next_same : (h : ℕ → Bool) (r : List Bool) (d : IsIn m g (has r) ⊎ Outside m g (has r)) → IsIn m (hull_next h r d) g → Outside m h g → IsIn m g (has r) × IsIn m (both h (has r)) g
  unfolding hull_next
  next_same h r (inl c) u o = (c, u)
  next_same h r (inr q) u o = absurd (outside_not_in m h g o u)

  hull_same : (k : ℕ) → IsIn m (hull (suc k)) g → Outside m (hull k) g → IsIn m g (has (row_of rows k)) × IsIn m (both (hull k) (has (row_of rows k))) g
  unfolding hull
  hull_same k u o = next_same (hull k) (row_of rows k) (in_or_outside m g (has (row_of rows k))) u o

  -- an intersection is all places, or there is a first row that it lacks nothing of
  record Parent : Type 0 where
    j : ℕ
    inside : j < length rows
    row : IsIn m g (has (row_of rows j))
    more : Outside m (hull j) g
    both_in : IsIn m (both (hull j) (has (row_of rows j))) g

  zero_all : (j : ℕ) → IsTrue (hull zero j)
  unfolding hull
  zero_all j = refl

  parent : (k : ℕ) → k ≤ length rows → IsIn m (hull k) g → SamePlaces m g (λ x. true) ⊎ Parent
  parent zero l u = inl (λ j lj. u j lj (zero_all j))
  parent (suc k) l u = elim (in_or_outside m (hull k) g) [
    | inl c ↦ parent k (omega arith) c
    | inr o ↦ (let s = hull_same k u o in inr (record { j = k; inside = omega arith; row = s.0; more = o; both_in = s.1 }))
  ]

  whole_hull : IsMeet m (bit_sets rows) g → IsIn m (hull (length rows)) g
  whole_hull w x l t = (w.places x l).1 (All_among (λ r. IsTrue (r x)) w.some (λ r i.
      let q = among_tests rows r (among_Contains (bit_sets rows) (w.among r (Contains_among i))) in
      let p = among_row rows q.0 q.1 in
      let c : IsIn m g r = λ j lj tj. among_All (λ r. IsTrue (r j)) i ((w.places j lj).0 tj) in
      let e : has (row_of rows p.0) ≡ r = ap has p.2 ∙ q.2 in
      let b = hull_in (length rows) p.0 p.1 (subst (λ z. IsIn m g z) (sym e) c) x l t in
      subst (λ z. IsTrue (z x)) e b))

module _ (m : ℕ) (rows faces : List (List Bool)) (lengths : (f : List Bool) → Contains faces f → length f ≡ m) (cover : (f : List Bool) → Contains faces f → Covers m rows faces f) (whole : List Bool) (known : Contains faces whole) (full : (j : ℕ) → j < m → IsTrue (has whole j)) where
  reached : (n : ℕ) (g : ℕ → Bool) → IsMeet m (bit_sets rows) g → m < n + size m g → (f : List Bool) × Contains faces f × SamePlaces m g (has f)
  reached zero g w l = absurd (let b = size_le m g in omega arith)
  reached (suc n) g w l = elim (parent m rows g (length rows) (omega arith) (whole_hull m rows g w)) [
    | inl e ↦ (whole, known, (λ j lj. e j lj ∙ sym (full j lj)))
    | inr p ↦ (
        let h = hull m rows g p.j in
        let up : IsStrictlyIn m g h = record { included = hull_above m rows g p.j; j = p.more.j; below = p.more.below; has = p.more.has; lacks = p.more.lacks } in
        let f = reached n h (hull_meet m rows g p.j (let l = p.inside in omega arith)) (let s = size_less m g h up in omega arith) in
        let c = cover f.0 f.1 p.j (opening g p f.0 (lengths f.0 f.1) f.2) in (
          c.0,
          c.1,
          both_ways m g (has c.0)
              (λ x lx t. sym (c.2 x lx) ∙ and_both (has f.0 x) (has (row_of rows p.j) x) (sym (f.2 x lx) ∙ hull_above m rows g p.j x lx t) (p.row x lx t))
              (λ x lx t. let b = c.2 x lx ∙ t in p.both_in x lx (and_both (h x) (has (row_of rows p.j) x) (f.2 x lx ∙ and_left (has f.0 x) (has (row_of rows p.j) x) b) (and_right (has f.0 x) (has (row_of rows p.j) x) b))),
        ))
  ]
    where
      opening : (g : ℕ → Bool) (p : Parent m rows g) (f : List Bool) → length f ≡ m → SamePlaces m (hull m rows g p.j) (has f) → IsOpening m rows f p.j
      opening g p f ef e = record {
        inside = p.inside;
        not_in = λ s. outside_not_in m (hull m rows g p.j) g p.more (λ x lx t. p.both_in x lx (and_both (hull m rows g p.j x) (has (row_of rows p.j) x) t (s x (sym (e x lx) ∙ t))));
        first = λ i l s. subset_from_in m f (row_of rows i) ef (λ x lx t. hull_in m rows g p.j i l (λ y ly q. s y ly (and_both (has f y) (has (row_of rows p.j) y) (sym (e y ly) ∙ hull_above m rows g p.j y ly q) (p.row y ly q))) x lx (e x lx ∙ t));
        hull = λ x lx u. sym (e x lx) ∙ hull_has m rows g p.j x (λ i l c. u i l (subset_from_in m f (row_of rows i) ef (λ y ly q. hull_in m rows g p.j i l c y ly (e y ly ∙ q))));
      }

  -- with the set of all places among them, each intersection is one
  pub all_reached : (g : ℕ → Bool) → IsMeet m (bit_sets rows) g → (f : List Bool) × Contains faces f × SamePlaces m g (has f)
  all_reached g w = reached (suc m) g w (omega arith)
