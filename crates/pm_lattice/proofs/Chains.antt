-- Chains of intersections: what decides the rank of one.
use Rattle.pm_vector.proofs.Lists.{Among, Contains_among, among_All, among_Contains, here, there, All_among}
use Rattle.pm_geom.specs.FaceCounts.{SamePlaces}
use Rattle.pm_geom.specs.Faces.{IsStrictlyIn}
use Rattle.pm_geom.specs.Meets.{HasMeetChain, HasMeetRank, IsMeet}
use Rattle.pm_lattice.specs.Parts.{IsIn, both}
use Rattle.std.proofs.Common.{arith, inl, inr, refl, sym, subst, ◌∙◌}
use Rattle.std.specs.List.{All, Contains}
use Rattle.std.specs.Prelude.{Bool, IsTrue, List, [], false, suc, true, zero, ℕ, ◌&&◌, ◌<◌, ◌≤◌, ◌∷◌, ◌≡◌, ◌⊎◌}

pub true_or_not : (b : Bool) → IsTrue b ⊎ ¬ (IsTrue b)
true_or_not true = inl refl
true_or_not false = inr (λ h. cc)

pub and_left : (a b : Bool) → IsTrue (a && b) → IsTrue a
and_left true b h = refl
and_left false b h = h

pub and_right : (a b : Bool) → IsTrue (a && b) → IsTrue b
and_right true b h = h
and_right false b h = absurd cc

pub and_both : (a b : Bool) → IsTrue a → IsTrue b → IsTrue (a && b)
and_both true b h k = k
and_both false b h k = h

-- a place of f that g has not
pub record Outside (m : ℕ) (f g : ℕ → Bool) : Type 0 where
  pub j : ℕ
  pub below : j < m
  pub has : IsTrue (f j)
  pub lacks : ¬ (IsTrue (g j))

in_more : (m : ℕ) (f g : ℕ → Bool) → IsIn m f g → (IsTrue (f m) → IsTrue (g m)) → IsIn (suc m) f g
in_more m f g h k j l t = elim (cases m j l) [ inl e ↦ (let e' = sym e in subst (λ i. IsTrue (g i)) e' (k (subst (λ i. IsTrue (f i)) e t))) | inr s ↦ h j s t ]
  where
    cases : (m j : ℕ) → j < suc m → (j ≡ m) ⊎ (j < m)
    cases m j l = grind arith

pub in_or_outside : (m : ℕ) (f g : ℕ → Bool) → IsIn m f g ⊎ Outside m f g
in_or_outside zero f g = inl (λ j l h. absurd (omega arith))
in_or_outside (suc m) f g = elim (in_or_outside m f g) [
  | inr w ↦ inr (record { j = w.j; below = (let l = w.below in omega arith); has = w.has; lacks = w.lacks })
  | inl h ↦ elim (true_or_not (f m)) [
    | inr n ↦ inl (in_more m f g h (λ t. absurd (n t)))
    | inl t ↦ elim (true_or_not (g m)) [
      | inl k ↦ inl (in_more m f g h (λ q. k))
      | inr k ↦ inr (record { j = m; below = omega arith; has = t; lacks = k })
    ]
  ]
]

pub outside_not_in : (m : ℕ) (f g : ℕ → Bool) → Outside m f g → ¬ (IsIn m f g)
outside_not_in m f g w h = w.lacks (h w.j w.below w.has)

pub strictly_up : (m : ℕ) (g f c : ℕ → Bool) → IsStrictlyIn m g f → IsIn m f c → IsStrictlyIn m g c
strictly_up m g f c s h = record { included = λ j l t. h j l (s.included j l t); j = s.j; below = s.below; has = h s.j s.below s.has; lacks = s.lacks }

-- all bit_sets of a list hold at a place, or one fails there
all_or_fails : (R : List (ℕ → Bool)) (j : ℕ) → All (λ r. IsTrue (r j)) R ⊎ ((r : ℕ → Bool) × Among r R × ¬ (IsTrue (r j)))
all_or_fails [] j = inl (All_among (λ r. IsTrue (r j)) [] (λ r i. elim i [ ]))
all_or_fails (r ∷ R) j = elim (all_or_fails R j) [
  | inr w ↦ inr (w.0, there w.1, w.2)
  | inl h ↦ elim (true_or_not (r j)) [
    | inl k ↦ inl (All_among (λ r. IsTrue (r j)) (r ∷ R) (both_hold k h))
    | inr k ↦ inr (r, here, k)
  ]
]
  where
    both_hold : IsTrue (r j) → All (λ r. IsTrue (r j)) R → (q : ℕ → Bool) → Among q (r ∷ R) → IsTrue (q j)
    both_hold k h q here = k
    both_hold k h q (there i) = among_All (λ r. IsTrue (r j)) i h

module _ (m : ℕ) (rows : List (ℕ → Bool)) where
  pub chain_up : (k : ℕ) (f c : ℕ → Bool) → IsIn m f c → HasMeetChain m rows k f → HasMeetChain m rows k c
  chain_up zero f c h x = tt
  chain_up (suc k) f c h x = (x.0, x.1, strictly_up m x.0 f c x.2 h, x.3)

  chain_shorter : (k : ℕ) (f : ℕ → Bool) → HasMeetChain m rows (suc k) f → HasMeetChain m rows k f
  chain_shorter zero f x = tt
  chain_shorter (suc k) f x = (x.0, x.1, x.2, chain_shorter k x.0 x.3)

  pub chain_less : (k l : ℕ) (f : ℕ → Bool) → k ≤ l → HasMeetChain m rows l f → HasMeetChain m rows k f
  chain_less k zero f h x = subst (λ i. HasMeetChain m rows i f) (let e : zero ≡ k = omega arith in e) tt
  chain_less k (suc l) f h x = elim (cases k l h) [
    | inl e ↦ subst (λ i. HasMeetChain m rows i f) e x
    | inr s ↦ chain_less k l f s (chain_shorter l f x)
  ]
    where
      cases : (k l : ℕ) → k ≤ suc l → (suc l ≡ k) ⊎ (k ≤ l)
      cases k l h = grind arith

  -- a row that contains the intersection g and not f, of which g is a strict part
  pub out_row : (g f : ℕ → Bool) → IsMeet m rows g → IsStrictlyIn m g f → (r : ℕ → Bool) × Contains rows r × IsIn m g r × Outside m f r
  out_row g f w s = elim (all_or_fails w.some s.j) [
    | inl h ↦ absurd (s.lacks ((w.places s.j s.below).1 h))
    | inr u ↦ (
      u.0,
      w.among u.0 (Contains_among u.1),
      (λ j l t. among_All (λ r. IsTrue (r j)) u.1 ((w.places j l).0 t)),
      record { j = s.j; below = s.below; has = s.has; lacks = u.2 },
    )
  ]

  -- the intersection of one more row
  pub meet_more : (f r : ℕ → Bool) → IsMeet m rows f → Contains rows r → IsMeet m rows (both f r)
  meet_more f r w c = record {
    some = r ∷ w.some;
    among = λ q i. among_more q (among_Contains (r ∷ w.some) i);
    places = λ j l. (
      λ t. All_among (λ q. IsTrue (q j)) (r ∷ w.some) (each j l t),
      λ h. and_both (f j) (r j) ((w.places j l).1 (All_among (λ q. IsTrue (q j)) w.some (λ q i. among_All (λ q. IsTrue (q j)) (there i) h))) (let i : Among r (r ∷ w.some) = here in among_All (λ q. IsTrue (q j)) i h),
    );
  }
    where
      among_more : (q : ℕ → Bool) → Among q (r ∷ w.some) → Contains rows q
      among_more q here = c
      among_more q (there i) = w.among q (Contains_among i)

      each : (j : ℕ) → j < m → IsTrue (f j && r j) → (q : ℕ → Bool) → Among q (r ∷ w.some) → IsTrue (q j)
      each j l t q here = and_right (f j) (r j) t
      each j l t q (there i) = among_All (λ q. IsTrue (q j)) i ((w.places j l).0 (and_left (f j) (r j) t))

  -- a chain below the part that f shares with a row that does not contain it goes on to f
  pub chain_step : (k : ℕ) (f r : ℕ → Bool) → IsMeet m rows f → Contains rows r → Outside m f r → HasMeetChain m rows k (both f r) → HasMeetChain m rows (suc k) f
  chain_step k f r w c o x = (
    both f r,
    meet_more f r w c,
    record { included = λ j l t. and_left (f j) (r j) t; j = o.j; below = o.below; has = o.has; lacks = λ t. o.lacks (and_right (f o.j) (r o.j) t) },
    x,
  )

  -- a chain that cannot be had below any such part is no shorter than each chain below f
  pub rank_is : (f : ℕ → Bool) (k : ℕ) → IsMeet m rows f → HasMeetChain m rows k f → ((r : ℕ → Bool) → Contains rows r → Outside m f r → ¬ (HasMeetChain m rows k (both f r))) → HasMeetRank m rows f k
  rank_is f k w x none = record {
    meet = w;
    chain = x;
    greatest = λ y.
        let u = out_row y.0 f y.1 y.2 in
        none u.0 u.1 u.3 (chain_up k y.0 (both f u.0) (λ j l t. and_both (f j) (u.0 j) (y.2.included j l t) (u.2 j l t)) y.3);
  }

  -- two intersections of one rank: neither is a strict part of the other
  pub same_rank_apart : (f g : ℕ → Bool) (k : ℕ) → HasMeetRank m rows f k → HasMeetRank m rows g k → ¬ (IsStrictlyIn m g f)
  same_rank_apart f g k a b s = a.greatest (g, b.meet, s, b.chain)

  -- an intersection has one rank
  pub one_rank : (f : ℕ → Bool) (k l : ℕ) → HasMeetRank m rows f k → HasMeetRank m rows f l → k ≡ l
  one_rank f k l a b = elim (cases k l) [
    | inl s ↦ absurd (a.greatest (chain_less (suc k) l f s b.chain))
    | inr (inl s) ↦ absurd (b.greatest (chain_less (suc l) k f s a.chain))
    | inr (inr e) ↦ e
  ]
    where
      cases : (k l : ℕ) → (suc k ≤ l) ⊎ ((suc l ≤ k) ⊎ (k ≡ l))
      cases k l = grind arith

  -- a set with the places of a meet is one
  pub meet_same : (f g : ℕ → Bool) → SamePlaces m f g → IsMeet m rows f → IsMeet m rows g
  meet_same f g e w = record { some = w.some; among = w.among; places = λ j l. ((λ t. (w.places j l).0 (e j l ∙ t)), (λ h. sym (e j l) ∙ (w.places j l).1 h)) }

  -- and has its rank
  pub rank_same : (f g : ℕ → Bool) (k : ℕ) → SamePlaces m f g → HasMeetRank m rows f k → HasMeetRank m rows g k
  rank_same f g k e r = record {
    meet = meet_same f g e r.meet;
    chain = chain_up k f g (λ j l t. sym (e j l) ∙ t) r.chain;
    greatest = λ x. r.greatest (chain_up (suc k) g f (λ j l t. e j l ∙ t) x);
  }
