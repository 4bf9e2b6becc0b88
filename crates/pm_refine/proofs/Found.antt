-- The intersections that are found, one pair after another, and what is kept of them all.
use Rattle.pm_vector.proofs.Lists.{All_among, Among, Any_among, among_All, among_Any, among_append, among_append_left, among_append_right, here, there}
use Rattle.pm_vector.specs.Rows.{Row}
use Rattle.pm_geom.proofs.Spans.{order_cols}
use Rattle.pm_geom.specs.Generators.{AreGenerators}
use Rattle.pm_laws_normal_fans.proofs.IntersectionRows.{cut_both, generators_as, same_basis}
use Rattle.pm_laws_normal_fans.proofs.Places.{among_at, no_pairs}
use Rattle.pm_laws_normal_fans.proofs.Refinements.{kept_are_refinement}
use Rattle.pm_laws_normal_fans.specs.Fans.{Fan, InIntersection, IsFan}
use Rattle.pm_laws_normal_fans.specs.Refinements.{AreAllIntersections, AreKeptIntersections, InHalfSpaces, Intersection, IsEarlier, IsIntersection}
use Rattle.pm_refine.proofs.Cuts.{cut_at_place}
use Rattle.pm_refine.proofs.Kept.{all_from, keep_last, kept_all}
use Rattle.pm_refine.specs.CutRows.{AreFacetsOf, CutRows, IsSmallFan, cuts_at}
use Rattle.pm_refine.specs.Refined.{AreRefined}
use Rattle.pm_refine.specs.Steps.{AreKeptBefore, ArePlaced, IsCutOutBy, IsPairBefore, IsPlaced, keep_all, keep_one}
use Rattle.std.proofs.Common.{arith, inl, inr, refl, subst, sym, ◌∙◌}
use Rattle.std.proofs.lemmas.Bool.{cases_order}
use Rattle.std.proofs.lemmas.List.Quantifiers.{all_pairs_push}
use Rattle.std.specs.List.{Any, slice_index_or}
use Rattle.std.specs.Prelude.{List, [], length, suc, ℕ, ◌+◌, ◌++◌, ◌<◌, ◌≤◌, ◌∷◌, ◌≡◌, ◌⊎◌}

only : {X : Type 0} {y x : X} → Among x (y ∷ []) → x ≡ y
only here = refl
only (there i) = elim i [ ]

-- ---- one pair after another
module _ (n : ℕ) (C D : List CutRows) where
  abbrev Found : Intersection → Type 0
  Found a = (L : List Row) × IsCutOutBy n C D L a

  pub start : AreKeptBefore n C D 0 0 [] []
  start = record {
    listed = [];
    each = All_among Found [] (λ a i. elim i [ ]);
    all = λ a b la lb p. absurd (elim p [ inl h ↦ omega arith | inr h ↦ (let q = h.1 in omega arith) ]);
    before = All_among (λ m. IsPairBefore m.first m.second 0 0) [] (λ a i. elim i [ ]);
    ordered = no_pairs IsEarlier;
    lines = inl (refl, refl);
    left = refl;
  }

  -- after the pairs with the cone at place i come those with the next cone
  pub next_cone : (i j : ℕ) (K : List Row) (kept : List Intersection) → length D ≤ j → AreKeptBefore n C D i j K kept → AreKeptBefore n C D (suc i) 0 K kept
  next_cone i j K kept end k = record {
    listed = k.listed;
    each = k.each;
    all = λ a b la lb p. k.all a b la lb (into a b lb p);
    before = All_among (λ m. IsPairBefore m.first m.second (suc i) 0) k.listed (λ m im. beyond m (among_All (λ m. IsPairBefore m.first m.second i j) im k.before));
    ordered = k.ordered;
    lines = k.lines;
    left = k.left;
  }
    where
      into : (a b : ℕ) → b < length D → IsPairBefore a b (suc i) 0 → IsPairBefore a b i j
      into a b lb (inl h) = elim (cases_order a i) [ inl e ↦ inr (e, omega arith) | inr w ↦ elim w [ inl l ↦ inl l | inr l ↦ absurd (omega arith) ] ]
      into a b lb (inr h) = let q = h.1 in absurd (omega arith)

      beyond : (m : Intersection) → IsPairBefore m.first m.second i j → IsPairBefore m.first m.second (suc i) 0
      beyond m (inl h) = inl (omega arith)
      beyond m (inr h) = let e = h.0 in inl (omega arith)

  -- after the pair i, j comes the next pair
  pub next_pair : (i j next : ℕ) (K L : List Row) (kept left : List Intersection) (c : Intersection) → next ≡ j + 1 → c.first ≡ i → c.second ≡ j → AreKeptBefore n C D i j K kept → IsCutOutBy n C D L c → left ≡ keep_one C D kept c → AreKeptBefore n C D i next L left
  next_pair i j next K L kept left c e ei ej k found kl = record {
    listed = k.listed ++ c ∷ [];
    each = All_among Found (k.listed ++ c ∷ []) (λ a ia. elim (among_append k.listed (c ∷ []) ia) [ inl p ↦ among_All Found p k.each | inr p ↦ subst Found (sym (only p)) (L, found) ]);
    all = all;
    before = All_among (λ m. IsPairBefore m.first m.second i next) (k.listed ++ c ∷ []) (λ m im. elim (among_append k.listed (c ∷ []) im) [
      | inl p ↦ further m (among_All (λ m. IsPairBefore m.first m.second i j) p k.before)
      | inr p ↦ subst (λ z. IsPairBefore z.first z.second i next) (sym (only p)) (inr (ei, omega arith))
    ]);
    ordered = all_pairs_push IsEarlier k.listed c k.ordered (λ p d l. last (slice_index_or k.listed p d) (among_All (λ m. IsPairBefore m.first m.second i j) (among_at d k.listed p l) k.before));
    lines = inr (Any_among (IsCutOutBy n C D L) (among_append_right k.listed here) found);
    left = kl ∙ subst (λ z. keep_one C D z c ≡ keep_all C D [] (k.listed ++ c ∷ [])) (sym k.left) (sym (keep_last C D [] k.listed c));
  }
    where
      further : (m : Intersection) → IsPairBefore m.first m.second i j → IsPairBefore m.first m.second i next
      further m (inl h) = inl h
      further m (inr h) = let q = h.1 in inr (h.0, omega arith)

      last : (m : Intersection) → IsPairBefore m.first m.second i j → IsEarlier m c
      last m (inl h) = inl (omega arith)
      last m (inr h) = let p = h.0 in let q = h.1 in inr (omega arith, omega arith)

      is_new : (a b : ℕ) → a ≡ i → b ≡ j → Any (λ m. (m.first ≡ a) × (m.second ≡ b)) (k.listed ++ c ∷ [])
      is_new a b ea eb = Any_among (λ m. (m.first ≡ a) × (m.second ≡ b)) (among_append_right k.listed here) (omega arith, omega arith)

      old : (a b : ℕ) → Any (λ m. (m.first ≡ a) × (m.second ≡ b)) k.listed → Any (λ m. (m.first ≡ a) × (m.second ≡ b)) (k.listed ++ c ∷ [])
      old a b w = let (m, im, h) = among_Any (λ m. (m.first ≡ a) × (m.second ≡ b)) k.listed w in Any_among (λ m. (m.first ≡ a) × (m.second ≡ b)) (among_append_left (c ∷ []) im) h

      all : (a b : ℕ) → a < length C → b < length D → IsPairBefore a b i next → Any (λ m. (m.first ≡ a) × (m.second ≡ b)) (k.listed ++ c ∷ [])
      all a b la lb (inl h) = old a b (k.all a b la lb (inl h))
      all a b la lb (inr h) = let p = h.0 in let q = h.1 in elim (cases_order b j) [
        | inl eb ↦ is_new a b p eb
        | inr w ↦ elim w [ inl l ↦ old a b (k.all a b la lb (inr (p, l))) | inr l ↦ absurd (omega arith) ]
      ]

  -- what is kept has its places, and rays of n entries
  pub placed : (i j : ℕ) (K : List Row) (kept : List Intersection) → AreKeptBefore n C D i j K kept → ArePlaced n C D kept
  placed i j K kept k = All_among (IsPlaced n C D) kept (λ a ia. elim (all_from C D [] k.listed (subst (Among a) k.left ia)) [
    | inl p ↦ elim p [ ]
    | inr p ↦ (let (L, c) = among_All Found p k.each in record { first = c.first; second = c.second; cols = order_cols n _ a.rays c.generators.order })
  ])

  pub found_kept : (i j : ℕ) (K : List Row) (kept : List Intersection) → AreKeptBefore n C D i j K kept → (a : Intersection) → Among a kept → Found a
  found_kept i j K kept k a ia = elim (all_from C D [] k.listed (subst (Among a) k.left ia)) [ inl p ↦ elim p [ ] | inr p ↦ among_All Found p k.each ]

-- ---- of two fans
module _ (n : ℕ) (f g : Fan) (C D : List CutRows) (sf : IsSmallFan n f) (sg : IsSmallFan n g) (af : AreFacetsOf n f C) (ag : AreFacetsOf n g D) where
  pub is_intersection : (K : List Row) (a : Intersection) → IsCutOutBy n C D K a → IsIntersection n f g K a
  is_intersection K a c = record {
    first = first;
    second = second;
    generators = generators_as n _ (InIntersection f g a.first a.second) a.rays K
        (cut_both n f g a.first a.second (cuts_at C a.first).facets (cuts_at C a.first).hull (cuts_at D a.second).facets (cuts_at D a.second).hull (cut_at_place n f C sf af a.first first) (cut_at_place n g D sg ag a.second second)) c.generators;
  }
    where
      first : a.first < length f.cones
      first = let e = af.as_many in let l = c.first in omega arith

      second : a.second < length g.cones
      second = let e = ag.as_many in let l = c.second in omega arith

  module _ (p : ℕ) (K : List Row) (kept : List Intersection) (ends : p ≡ length C) (k : AreKeptBefore n C D p 0 K kept) (ff : IsFan n f) (fg : IsFan n g) where
    is_any : (a : Intersection) → Among a k.listed → (L : List Row) × IsIntersection n f g L a
    is_any a i = let (L, c) = among_All (Found n C D) i k.each in (L, is_intersection L a c)

    is : (a : Intersection) → Among a k.listed → IsIntersection n f g K a
    is a i = let (L, m) = is_any a i in by L m k.lines
      where
        by : (L : List Row) → IsIntersection n f g L a → ((k.listed ≡ []) × (K ≡ [])) ⊎ Any (IsCutOutBy n C D K) k.listed → IsIntersection n f g K a
        by L m (inl e) = elim (subst (Among a) e.0 i) [ ]
        by L m (inr w) = let (b, ib, c) = among_Any (IsCutOutBy n C D K) k.listed w in subst (λ z. IsIntersection n f g z a) (same_basis n f g ff fg a b L K m (is_intersection K b c)) m

    all : AreAllIntersections n f g K k.listed
    all = record {
      each = All_among (IsIntersection n f g K) k.listed is;
      all = λ i j li lj. let e = af.as_many in let d = ag.as_many in k.all i j (omega arith) (omega arith) (inl (omega arith));
      ordered = k.ordered;
    }

    maximal : AreKeptIntersections n f g k.listed kept
    maximal = subst (AreKeptIntersections n f g k.listed) (sym k.left) (kept_all n f g K C D ff fg (cut_at_place n f C sf af) (cut_at_place n g D sg ag) k.listed k.ordered is)

    lines : k.listed ≡ [] → K ≡ []
    lines e = by k.lines
      where
        by : ((k.listed ≡ []) × (K ≡ [])) ⊎ Any (IsCutOutBy n C D K) k.listed → K ≡ []
        by (inl h) = h.1
        by (inr w) = let (b, ib, c) = among_Any (IsCutOutBy n C D K) k.listed w in elim (subst (Among b) e ib) [ ]

    pub refined : AreRefined n f g K kept
    refined = record { listed = k.listed; all = all; maximal = maximal; lines = lines; refined = kept_are_refinement n f g K k.listed kept ff fg all maximal lines }

-- ---- the intersection of the next pair
module _ (n : ℕ) (C D : List CutRows) (i j : ℕ) (K L rays : List Row) (kept : List Intersection) (c d : CutRows) (li : i < length C) (lj : j < length D) (ec : cuts_at C i ≡ c) (ed : cuts_at D j ≡ d) (k : AreKeptBefore n C D i j K kept)
    (g : AreGenerators n (InHalfSpaces (c.facets ++ d.facets) (c.hull ++ d.hull)) rays L) where
  abbrev new : Intersection
  new = record { first = i; second = j; rays = rays }

  pub found_new : IsCutOutBy n C D L (record { first = i; second = j; rays = rays })
  found_new = record {
    first = li;
    second = lj;
    generators = subst (λ z. AreGenerators n (InHalfSpaces (z.facets ++ (cuts_at D j).facets) (z.hull ++ (cuts_at D j).hull)) rays L) (sym ec)
        (subst (λ z. AreGenerators n (InHalfSpaces (c.facets ++ z.facets) (c.hull ++ z.hull)) rays L) (sym ed) g);
  }

  pub found_with : (a : Intersection) → Among a (kept ++ record { first = i; second = j; rays = rays } ∷ []) → Found n C D a
  found_with a ia = elim (among_append kept (new ∷ []) ia) [ inl p ↦ found_kept n C D i j K kept k a p | inr p ↦ subst (Found n C D) (sym (only p)) (L, found_new) ]

  pub placed_with : ArePlaced n C D (kept ++ record { first = i; second = j; rays = rays } ∷ [])
  placed_with = All_among (IsPlaced n C D) (kept ++ new ∷ []) (λ a ia. let (M, f) = found_with a ia in record { first = f.first; second = f.second; cols = order_cols n _ a.rays f.generators.order })
