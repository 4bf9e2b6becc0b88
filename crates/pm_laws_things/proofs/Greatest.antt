-- The greatest of a list under an order that is decided.
use Rattle.pm_vector.proofs.Lists.{AllPairs_cons, Among, here, there}
use Rattle.pm_laws_normal_fans.proofs.Places.{no_pairs, pairs_head, pairs_tail}
use Rattle.std.proofs.Common.{inl, inr}
use Rattle.std.specs.List.{AllPairs}
use Rattle.std.specs.Prelude.{List, [], ◌∷◌, ◌⊎◌}

-- P holds of all, or not of one
pub all_or_one : {X : Type 0} (P : X → Type 0) (xs : List X) → ((x : X) → Among x xs → P x ⊎ ¬ (P x)) → ((x : X) → Among x xs → P x) ⊎ ((x : X) × Among x xs × ¬ (P x))
all_or_one P [] d = inl (λ x i. elim i [ ])
all_or_one {X} P (x ∷ xs) d = elim (d x here) [
  | inr fails ↦ inr (x, here, fails)
  | inl holds ↦ elim (all_or_one P xs (λ y i. d y (there i))) [ inr w ↦ inr (w.0, there w.1, w.2) | inl all ↦ inl (each holds all) ]
]
  where
    each : P x → ((y : X) → Among y xs → P y) → (y : X) → Among y (x ∷ xs) → P y
    each h f y here = h
    each h f y (there i) = f y i

module _ (X : Type 0) (R : X → X → Type 0) where
  abbrev pub IsApart : X → X → Type 0
  IsApart a b = ¬ (R a b) × ¬ (R b a)

  -- some are kept, so that each is below a kept one, and no kept one is below another
  pub record HasGreatest (xs : List X) : Type 0 where
    pub kept : List X
    pub some : (x : X) → Among x kept → Among x xs
    pub cover : (x : X) → Among x xs → (y : X) × Among y kept × R x y
    pub once : AllPairs IsApart kept

  -- those that are not below x
  record HasOthers (x : X) (ks : List X) : Type 0 where
    rest : List X
    some : (y : X) → Among y rest → Among y ks × ¬ (R y x)
    cover : (y : X) → Among y ks → Among y rest ⊎ R y x
    once : AllPairs IsApart rest

  let_go : (x k : X) (ks : List X) → R k x → HasOthers x ks → HasOthers x (k ∷ ks)
  let_go x k ks r o = record { rest = o.rest; some = λ y i. let s = o.some y i in (there s.0, s.1); cover = cover; once = o.once }
    where
      cover : (y : X) → Among y (k ∷ ks) → Among y o.rest ⊎ R y x
      cover y here = inr r
      cover y (there i) = o.cover y i

  hold : (x k : X) (ks : List X) → ¬ (R k x) → ((y : X) → Among y ks → IsApart k y) → HasOthers x ks → HasOthers x (k ∷ ks)
  hold x k ks fails apart o = record { rest = k ∷ o.rest; some = some; cover = cover; once = AllPairs_cons IsApart k o.rest (λ y i. apart y (o.some y i).0) o.once }
    where
      some : (y : X) → Among y (k ∷ o.rest) → Among y (k ∷ ks) × ¬ (R y x)
      some y here = (here, fails)
      some y (there i) = let s = o.some y i in (there s.0, s.1)

      cover : (y : X) → Among y (k ∷ ks) → Among y (k ∷ o.rest) ⊎ R y x
      cover y here = inl here
      cover y (there i) = elim (o.cover y i) [ inl j ↦ inl (there j) | inr r ↦ inr r ]

  others : (x : X) (ks : List X) → ((y : X) → Among y ks → R y x ⊎ ¬ (R y x)) → AllPairs IsApart ks → HasOthers x ks
  others x [] d h = record { rest = []; some = λ y i. elim i [ ]; cover = λ y i. elim i [ ]; once = no_pairs IsApart }
  others x (k ∷ ks) d h = elim (d k here) [
    | inl r ↦ let_go x k ks r (others x ks (λ y i. d y (there i)) (pairs_tail IsApart k ks h))
    | inr fails ↦ hold x k ks fails (λ y i. pairs_head IsApart k ks h i) (others x ks (λ y i. d y (there i)) (pairs_tail IsApart k ks h))
  ]

  one_or_none : (x : X) (ks : List X) → ((y : X) → Among y ks → R x y ⊎ ¬ (R x y)) → ((y : X) × Among y ks × R x y) ⊎ ((y : X) → Among y ks → ¬ (R x y))
  one_or_none x [] d = inr (λ y i. elim i [ ])
  one_or_none x (k ∷ ks) d = elim (d k here) [
    | inl r ↦ inl (k, here, r)
    | inr fails ↦ elim (one_or_none x ks (λ y i. d y (there i))) [ inl w ↦ inl (w.0, there w.1, w.2) | inr none ↦ inr (each fails none) ]
  ]
    where
      each : ¬ (R x k) → ((y : X) → Among y ks → ¬ (R x y)) → (y : X) → Among y (k ∷ ks) → ¬ (R x y)
      each fails none y here = fails
      each fails none y (there i) = none y i

  module _ (same : (x : X) → R x x) (through : (x y z : X) → R x y → R y z → R x z) where
    below_kept : (x : X) (xs : List X) (g : HasGreatest xs) → (y : X) → Among y g.kept → R x y → HasGreatest (x ∷ xs)
    below_kept x xs g y iy r = record { kept = g.kept; some = λ z i. there (g.some z i); cover = cover; once = g.once }
      where
        cover : (z : X) → Among z (x ∷ xs) → (y : X) × Among y g.kept × R z y
        cover z here = (y, iy, r)
        cover z (there i) = g.cover z i

    kept_too : (x : X) (xs : List X) (g : HasGreatest xs) → ((y : X) → Among y g.kept → ¬ (R x y)) → HasOthers x g.kept → HasGreatest (x ∷ xs)
    kept_too x xs g none o = record { kept = x ∷ o.rest; some = some; cover = cover; once = AllPairs_cons IsApart x o.rest (λ y i. let s = o.some y i in (none y s.0, s.1)) o.once }
      where
        some : (z : X) → Among z (x ∷ o.rest) → Among z (x ∷ xs)
        some z here = here
        some z (there i) = there (g.some z (o.some z i).0)

        cover : (z : X) → Among z (x ∷ xs) → (y : X) × Among y (x ∷ o.rest) × R z y
        cover z here = (x, here, same x)
        cover z (there i) = let w = g.cover z i in elim (o.cover w.0 w.1) [ inl j ↦ (w.0, there j, w.2) | inr r ↦ (x, here, through z w.0 x w.2 r) ]

    pub greatest : (xs : List X) → ((x y : X) → Among x xs → Among y xs → R x y ⊎ ¬ (R x y)) → HasGreatest xs
    greatest [] d = record { kept = []; some = λ x i. elim i [ ]; cover = λ x i. elim i [ ]; once = no_pairs IsApart }
    greatest (x ∷ xs) d =
        let g = greatest xs (λ y z i j. d y z (there i) (there j)) in
        elim (one_or_none x g.kept (λ y i. d x y here (there (g.some y i)))) [
          | inl w ↦ below_kept x xs g w.0 w.1 w.2
          | inr none ↦ kept_too x xs g none (others x g.kept (λ y i. d y x (there (g.some y i)) here) g.once)
        ]
