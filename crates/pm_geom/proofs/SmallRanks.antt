-- Ranks of the faces of a segment, inclusions of sets of places, and rows in lexicographic order.
use Rattle.pm_vector.proofs.ConeLaws.{dot_in}
use Rattle.pm_vector.specs.Rows.{Row, dot, entry}
use Rattle.pm_geom.proofs.Apart.{not_below, not_below_at, products}
use Rattle.pm_geom.specs.Cones.{IsValid}
use Rattle.pm_geom.specs.Examples.{pair, segment}
use Rattle.pm_geom.specs.Faces.{HasChain, IsFace, IsStrictlyIn, ray}
use Rattle.pm_geom.specs.Generators.{IsBefore}
use Rattle.pm_geom.specs.FaceExamples.{InclusionsAreRead, OrderIsRead, RanksAreRead, every, none, only}
use Rattle.std.proofs.Common.{T, arith, lit<, refl, subst, sym}
use Rattle.std.proofs.lemmas.Int.{ints}
use Rattle.std.specs.Prelude.{Bool, IsTrue, false, true, [], length, suc, zero, ℕ, ◌<◌, ◌↔◌, ◌∷◌, ◌≡◌}
use lib.IntN.{pos}
use lib.Signed.{lt_z_yes, ◌<ℤ◌}

not_true : ¬ (IsTrue false)
not_true h = let e : false ≡ true = h in cc

-- ---- inclusions
pub not_itself : (m : ℕ) (f : ℕ → Bool) → ¬ (IsStrictlyIn m f f)
not_itself m f s = s.lacks s.has

none_above : (m : ℕ) (f : ℕ → Bool) → ¬ (IsStrictlyIn m f none)
none_above m f s = not_true s.has

pub first_in : IsStrictlyIn 2 (only 0) every
first_in = record { included = λ j l h. refl; j = 1; below = lit< tt; has = refl; lacks = λ h. not_true h }

pub none_in : IsStrictlyIn 2 none (only 0)
none_in = record { included = λ j l h. absurd (not_true h); j = 0; below = lit< tt; has = refl; lacks = λ h. not_true h }

pub inclusions_are_read : InclusionsAreRead
inclusions_are_read = record { included = first_in; not_turned = not_turned; not_itself = not_itself; beyond = beyond }
  where
    not_turned : ¬ (IsStrictlyIn 2 every (only 0))
    not_turned s = s.lacks refl

    beyond : ¬ (IsStrictlyIn 1 (only 0) every)
    beyond s = s.lacks (at_first s.j s.below)
      where
        at_first : (j : ℕ) → j < 1 → IsTrue (only 0 j)
        at_first zero l = refl
        at_first (suc j) l = absurd (omega arith)

-- ---- the faces of a segment
valid_at : (a : Row) → length a ≡ 2 → T (products not_below a segment) → IsValid 2 segment [] a
valid_at a l t = record { cols = l; holds = λ x lx h. dot_in a segment [] (λ g i. not_below_at a i t) (λ k i. elim i [ ]) h }

face_none : IsFace 2 segment [] segment none
face_none = record { a = pair 1 0; valid = valid_at (pair 1 0) refl tt; places = places }
  where
    places : (j : ℕ) → j < 2 → IsTrue (none j) ↔ (dot (pair 1 0) (ray segment j) ≡ pos 0)
    places zero l = (λ h. absurd (not_true h), λ e. absurd (omega (arith, ints)))
    places (suc zero) l = (λ h. absurd (not_true h), λ e. absurd (omega (arith, ints)))
    places (suc (suc j)) l = absurd (omega arith)

face_first : IsFace 2 segment [] segment (only 0)
face_first = record { a = pair 0 1; valid = valid_at (pair 0 1) refl tt; places = places }
  where
    places : (j : ℕ) → j < 2 → IsTrue (only 0 j) ↔ (dot (pair 0 1) (ray segment j) ≡ pos 0)
    places zero l = (λ h. refl, λ e. refl)
    places (suc zero) l = (λ h. absurd (not_true h), λ e. absurd (omega (arith, ints)))
    places (suc (suc j)) l = absurd (omega arith)

face_every : IsFace 2 segment [] segment every
face_every = record { a = pair 0 0; valid = valid_at (pair 0 0) refl tt; places = places }
  where
    places : (j : ℕ) → j < 2 → IsTrue (every j) ↔ (dot (pair 0 0) (ray segment j) ≡ pos 0)
    places zero l = (λ h. refl, λ e. refl)
    places (suc zero) l = (λ h. refl, λ e. refl)
    places (suc (suc j)) l = absurd (omega arith)

abbrev chain : ℕ → (ℕ → Bool) → Type 0
chain k f = HasChain 2 segment [] segment k f

-- below {0} stands {} alone, and below all only sets that lack a place
chain_first : chain 1 (only 0)
chain_first = (none, face_none, none_in, tt)

chain_every : chain 2 every
chain_every = (only 0, face_first, first_in, chain_first)

-- a set strictly in {0} has neither place
under_first : (g : ℕ → Bool) → IsStrictlyIn 2 g (only 0) → (j : ℕ) → j < 2 → ¬ (IsTrue (g j))
under_first g s zero l h = at s.j s.below s.has s.lacks
  where
    at : (j : ℕ) → j < 2 → IsTrue (only 0 j) → ¬ (IsTrue (g j)) → ⊥
    at zero l' t n = n h
    at (suc zero) l' t n = not_true t
    at (suc (suc j)) l' t n = absurd (omega arith)
under_first g s (suc zero) l h = not_true (s.included 1 l h)
under_first g s (suc (suc j)) l h = absurd (omega arith)

nothing_under : (g f : ℕ → Bool) → ((j : ℕ) → j < 2 → ¬ (IsTrue (g j))) → ¬ (IsStrictlyIn 2 f g)
nothing_under g f n s = n s.j s.below s.has

no_chain_first : ¬ (chain 2 (only 0))
no_chain_first (g, fg, s, (h, fh, t, u)) = nothing_under g h (under_first g s) t

-- three sets, each strictly in the next and the last in {0, 1}, would have three places below 2
no_chain_every : ¬ (chain 3 every)
no_chain_every (g, fg, s, (h, fh, t, (k, fk, u, w))) = deep s.j s.below s.lacks t.j t.below t.has t.lacks u.j u.below u.has u.lacks
  where
    -- a place that g lacks, one of g that h lacks, one of h that k lacks: the three differ
    deep : (a : ℕ) → a < 2 → ¬ (IsTrue (g a)) → (b : ℕ) → b < 2 → IsTrue (g b) → ¬ (IsTrue (h b)) → (c : ℕ) → c < 2 → IsTrue (h c) → ¬ (IsTrue (k c)) → ⊥
    deep a la na b lb gb nb c lc hc nc =
        let gc : IsTrue (g c) = t.included c lc hc in
        let ab : ¬ (a ≡ b) = (λ e. na (subst (λ i. IsTrue (g i)) (sym e) gb)) in
        let ac : ¬ (a ≡ c) = (λ e. na (subst (λ i. IsTrue (g i)) (sym e) gc)) in
        let bc : ¬ (b ≡ c) = (λ e. nb (subst (λ i. IsTrue (h i)) (sym e) hc)) in
        absurd (omega arith)

pub ranks_are_read : RanksAreRead
ranks_are_read = record {
  empty = record { face = face_none; chain = tt; greatest = λ c. none_above 2 c.0 c.2 };
  vertex = record { face = face_first; chain = chain_first; greatest = no_chain_first };
  whole = record { face = face_every; chain = chain_every; greatest = no_chain_every };
  not_less = λ r. r.greatest chain_first;
  not_more = λ r. no_chain_first r.chain;
  whole_not_less = λ r. r.greatest chain_every;
}

-- ---- lexicographic order
before : IsBefore (pair 0 1) (pair 1 0)
before = record { place = 0; within = lit< tt; same = λ i l. absurd (omega arith); below = lt_z_yes tt }

second : IsBefore (pair 1 0) (pair 1 2)
second = record { place = 1; within = lit< tt; same = same; below = lt_z_yes tt }
  where
    same : (i : ℕ) → i < 1 → entry (pair 1 0) i ≡ entry (pair 1 2) i
    same zero l = refl
    same (suc i) l = absurd (omega arith)

not_turned : ¬ (IsBefore (pair 1 0) (pair 0 1))
not_turned b = at b.place b.same b.below
  where
    at : (k : ℕ) → ((i : ℕ) → i < k → entry (pair 1 0) i ≡ entry (pair 0 1) i) → entry (pair 1 0) k <ℤ entry (pair 0 1) k → ⊥
    at zero s l = absurd l.lt
    at (suc k) s l = let e : pos 1 ≡ pos 0 = s 0 (omega arith) in omega (arith, ints)

not_before_itself : (x : Row) → ¬ (IsBefore x x)
not_before_itself x b = let l = b.below in omega (arith, ints)

not_longer : ¬ (IsBefore (pos 1 ∷ []) (pair 1 2))
not_longer b = at b.place b.within b.below
  where
    at : (k : ℕ) → k < 1 → entry (pos 1 ∷ []) k <ℤ entry (pair 1 2) k → ⊥
    at zero w l = absurd l.lt
    at (suc k) w l = absurd (omega arith)

pub order_is_read : OrderIsRead
order_is_read = record { before = before; second = second; not_turned = not_turned; not_itself = not_before_itself; not_longer = not_longer }
