-- What is kept, one intersection after another, are the maximal ones.
use Rattle.pm_vector.proofs.Lists.{All_among, Among, Any_among, among_All, among_Any, among_Contains, among_append, here, there}
use Rattle.pm_vector.specs.Rows.{Row}
use Rattle.pm_laws_normal_fans.proofs.KeptSteps.{kept_with, kept_without}
use Rattle.pm_laws_normal_fans.proofs.Places.{no_pairs, pairs_head, pairs_tail}
use Rattle.pm_laws_normal_fans.proofs.RefinedRays.{inclusion_by_products}
use Rattle.pm_laws_normal_fans.specs.Fans.{Fan, IsFan}
use Rattle.pm_laws_normal_fans.specs.Refinements.{AreKeptIntersections, Intersection, IsCutAt, IsEarlier, IsIntersection, IsWithin, Tells}
use Rattle.pm_refine.proofs.Tests.{within_of, within_to}
use Rattle.pm_refine.specs.CutRows.{CutRows, are_within, cuts_at}
use Rattle.pm_refine.specs.Steps.{includes_any_of, keep_all, keep_one, not_included_in}
use Rattle.std.proofs.Common.{inl, inr, refl, subst, sym}
use Rattle.std.proofs.lemmas.Bool.{both_ways, not-false, not-true, or_cases, or_left, or_right}
use Rattle.std.proofs.lemmas.List.{append-nil, append_assoc}
use Rattle.std.specs.List.{All, AllPairs, Any, Contains}
use Rattle.std.specs.Prelude.{Bool, List, [], cond, false, length, not, true, ℕ, ◌++◌, ◌<◌, ◌∷◌, ◌≡◌, ◌⊎◌}

only_one : {X : Type 0} {y x : X} → Among x (y ∷ []) → x ≡ y
only_one here = refl
only_one (there i) = elim i [ ]

-- what is kept was kept before, or is the new one
not_included_from : (c d : CutRows) (kept : List Intersection) {a : Intersection} → Among a (not_included_in c d kept) → Among a kept
not_included_from c d [] i = i
not_included_from c d (b ∷ kept) {a} i = by (not (are_within c d b.rays)) i (λ j. not_included_from c d kept j)
  where
    first : {z : Intersection} → Among z (b ∷ not_included_in c d kept) → (Among z (not_included_in c d kept) → Among z kept) → Among z (b ∷ kept)
    first here f = here
    first (there j) f = there (f j)

    by : (t : Bool) → Among a (cond t (b ∷ not_included_in c d kept) (not_included_in c d kept)) → (Among a (not_included_in c d kept) → Among a kept) → Among a (b ∷ kept)
    by true j f = first j f
    by false j f = there (f j)

one_from : (C D : List CutRows) (kept : List Intersection) (c : Intersection) {a : Intersection} → Among a (keep_one C D kept c) → Among a kept ⊎ (a ≡ c)
one_from C D kept c {a} i = by (includes_any_of C D kept c) i
  where
    by : (t : Bool) → Among a (cond t kept (not_included_in (cuts_at C c.first) (cuts_at D c.second) kept ++ c ∷ [])) → Among a kept ⊎ (a ≡ c)
    by true j = inl j
    by false j = elim (among_append (not_included_in (cuts_at C c.first) (cuts_at D c.second) kept) (c ∷ []) j) [
      | inl k ↦ inl (not_included_from (cuts_at C c.first) (cuts_at D c.second) kept k)
      | inr k ↦ inr (only_one k)
    ]

pub all_from : (C D : List CutRows) (kept listed : List Intersection) {a : Intersection} → Among a (keep_all C D kept listed) → Among a kept ⊎ Among a listed
all_from C D kept [] i = inl i
all_from C D kept (c ∷ listed) {a} i = elim (all_from C D (keep_one C D kept c) listed i) [
  | inl j ↦ elim (one_from C D kept c j) [ inl k ↦ inl k | inr e ↦ inr (subst (λ z. Among z (c ∷ listed)) (sym e) here) ]
  | inr j ↦ inr (there j)
]

-- the last of a list is kept last
pub keep_last : (C D : List CutRows) (kept listed : List Intersection) (c : Intersection) → keep_all C D kept (listed ++ c ∷ []) ≡ keep_one C D (keep_all C D kept listed) c
keep_last C D kept [] c = refl
keep_last C D kept (b ∷ listed) c = keep_last C D (keep_one C D kept b) listed c

-- ---- where the rows cut out the cones of two fans
module _ (n : ℕ) (f g : Fan) (K : List Row) (C D : List CutRows) (ff : IsFan n f) (fg : IsFan n g)
    (cf : (i : ℕ) → i < length f.cones → IsCutAt n f i (cuts_at C i).facets (cuts_at C i).hull) (cg : (j : ℕ) → j < length g.cones → IsCutAt n g j (cuts_at D j).facets (cuts_at D j).hull) where
  abbrev Is : Intersection → Type 0
  Is a = IsIntersection n f g K a

  test_to : (a b : Intersection) → Is a → Is b → are_within (cuts_at C b.first) (cuts_at D b.second) a.rays ≡ true → IsWithin n f g a b
  test_to a b ma mb e = (inclusion_by_products n f g K a b (cuts_at C b.first).facets (cuts_at C b.first).hull (cuts_at D b.second).facets (cuts_at D b.second).hull ff fg ma mb (cf b.first mb.first) (cg b.second mb.second)).1
      (within_to (cuts_at C b.first) (cuts_at D b.second) a.rays e)

  test_of : (a b : Intersection) → Is a → Is b → IsWithin n f g a b → are_within (cuts_at C b.first) (cuts_at D b.second) a.rays ≡ true
  test_of a b ma mb w = within_of (cuts_at C b.first) (cuts_at D b.second) a.rays
      ((inclusion_by_products n f g K a b (cuts_at C b.first).facets (cuts_at C b.first).hull (cuts_at D b.second).facets (cuts_at D b.second).hull ff fg ma mb (cf b.first mb.first) (cg b.second mb.second)).0 w)

  any_to : (c : Intersection) (kept : List Intersection) → Is c → ((a : Intersection) → Among a kept → Is a) → includes_any_of C D kept c ≡ true → Any (IsWithin n f g c) kept
  any_to c [] m ms e = absurd cc
  any_to c (a ∷ kept) m ms e = elim (or_cases (are_within (cuts_at C a.first) (cuts_at D a.second) c.rays) (includes_any_of C D kept c) e) [
    | inl h ↦ Any_among (IsWithin n f g c) here (test_to c a m (ms a here) h)
    | inr h ↦ (let (b, ib, w) = among_Any (IsWithin n f g c) kept (any_to c kept m (λ b i. ms b (there i)) h) in Any_among (IsWithin n f g c) (there ib) w)
  ]

  any_at : (c a : Intersection) (kept : List Intersection) → Is c → Is a → Among a kept → IsWithin n f g c a → includes_any_of C D kept c ≡ true
  any_at c a [] m ma i w = elim i [ ]
  any_at c a (b ∷ kept) m ma i w = at i ma w (λ j. any_at c a kept m ma j w)
    where
      at : {a : Intersection} → Among a (b ∷ kept) → Is a → IsWithin n f g c a → (Among a kept → includes_any_of C D kept c ≡ true) → includes_any_of C D (b ∷ kept) c ≡ true
      at here ma w f = or_left (are_within (cuts_at C b.first) (cuts_at D b.second) c.rays) (includes_any_of C D kept c) (test_of c b m ma w)
      at (there j) ma w f = or_right (are_within (cuts_at C b.first) (cuts_at D b.second) c.rays) (includes_any_of C D kept c) (f j)

  any_of : (c : Intersection) (kept : List Intersection) → Is c → ((a : Intersection) → Among a kept → Is a) → Any (IsWithin n f g c) kept → includes_any_of C D kept c ≡ true
  any_of c kept m ms w = let (a, ia, h) = among_Any (IsWithin n f g c) kept w in any_at c a kept m (ms a ia) ia h

  abbrev stays : Intersection → Intersection → Bool
  stays c a = not (are_within (cuts_at C c.first) (cuts_at D c.second) a.rays)

  tells : (c : Intersection) (kept : List Intersection) → Is c → ((a : Intersection) → Among a kept → Is a) → Tells n f g c kept (stays c)
  tells c kept m ms = record {
    yes = All_among (λ a. stays c a ≡ true → ¬ (IsWithin n f g a c)) kept (λ a ia e w. both_ways (are_within (cuts_at C c.first) (cuts_at D c.second) a.rays) (not-true (are_within (cuts_at C c.first) (cuts_at D c.second) a.rays) e) (test_of a c (ms a ia) m w));
    no = All_among (λ a. stays c a ≡ false → IsWithin n f g a c) kept (λ a ia e. test_to a c (ms a ia) m (not-false (are_within (cuts_at C c.first) (cuts_at D c.second) a.rays) e));
  }

  step : (seen kept : List Intersection) (c : Intersection) → AreKeptIntersections n f g seen kept → All (λ b. IsEarlier b c) seen → Is c → ((a : Intersection) → Among a seen → Is a) → AreKeptIntersections n f g (seen ++ c ∷ []) (keep_one C D kept c)
  step seen kept c are later m ms = by (includes_any_of C D kept c) refl
    where
      mk : (a : Intersection) → Among a kept → Is a
      mk a i = ms a (among_Contains seen (among_All (Contains seen) i are.some))

      by : (t : Bool) → includes_any_of C D kept c ≡ t → AreKeptIntersections n f g (seen ++ c ∷ []) (cond t kept (not_included_in (cuts_at C c.first) (cuts_at D c.second) kept ++ c ∷ []))
      by true e = kept_without n f g seen kept c are later (any_to c kept m mk e)
      by false e = kept_with n f g seen kept c (stays c) are later (λ w. both_ways (includes_any_of C D kept c) e (any_of c kept m mk w)) (tells c kept m mk)

  steps : (seen kept rest : List Intersection) → AreKeptIntersections n f g seen kept → ((b c : Intersection) → Among b seen → Among c rest → IsEarlier b c) → AllPairs IsEarlier rest → ((a : Intersection) → Among a seen → Is a) → ((a : Intersection) → Among a rest → Is a)
      → AreKeptIntersections n f g (seen ++ rest) (keep_all C D kept rest)
  steps seen kept [] are early pairs ms mr = rw (append-nil seen) are
  steps seen kept (c ∷ rest) are early pairs ms mr =
      subst (λ z. AreKeptIntersections n f g z (keep_all C D (keep_one C D kept c) rest)) (append_assoc seen (c ∷ []) rest)
      (steps (seen ++ c ∷ []) (keep_one C D kept c) rest (step seen kept c are (All_among (λ b. IsEarlier b c) seen (λ b i. early b c i here)) (mr c here) ms)
      (λ b d ib id. elim (among_append seen (c ∷ []) ib) [ inl j ↦ early b d j (there id) | inr j ↦ subst (λ z. IsEarlier z d) (sym (only_one j)) (pairs_head IsEarlier c rest pairs id) ])
      (pairs_tail IsEarlier c rest pairs)
      (λ a i. elim (among_append seen (c ∷ []) i) [ inl j ↦ ms a j | inr j ↦ subst Is (sym (only_one j)) (mr c here) ])
      (λ a i. mr a (there i)))

  none : AreKeptIntersections n f g [] []
  none = record {
    some = All_among (Contains []) [] (λ a i. elim i [ ]);
    cover = All_among (λ b. Any (λ a. IsWithin n f g b a × (IsWithin n f g a b → ¬ (IsEarlier b a))) []) [] (λ b i. elim i [ ]);
    once = no_pairs (λ a b. IsEarlier a b × ¬ (IsWithin n f g a b) × ¬ (IsWithin n f g b a));
  }

  pub kept_all : (listed : List Intersection) → AllPairs IsEarlier listed → ((a : Intersection) → Among a listed → Is a) → AreKeptIntersections n f g listed (keep_all C D [] listed)
  kept_all listed pairs ms = steps [] [] listed none (λ b c i j. elim i [ ]) pairs (λ a i. elim i [ ]) ms
