-- Lists of rows of n entries of at most M.
use Rattle.pm_minors.specs.Laws.{IsEnough, MinorsAreAtMost, NoneAreLost}
use Rattle.pm_minors.specs.Minors.{IsAtMost}
use Rattle.pm_minors.proofs.Bounds.{bound_entries}
use Rattle.pm_minors.proofs.Fits.{fit}
use Rattle.pm_minors.proofs.Laws.{elimination_is_never_lost}
use Rattle.pm_minors.proofs.Rays.{unit_small}
use Rattle.pm_vector.proofs.Filters.{filter_among, map_among}
use Rattle.pm_vector.proofs.Lists.{All_among, Among, all_at, all_from, among_All, among_append, here}
use Rattle.pm_vector.specs.Rows.{HasCols, Row}
use Rattle.pm_elim.proofs.ExtendedLaws.{length-unit}
use Rattle.pm_vector.specs.Evidence.{unit}
use Rattle.pm_laws_fitting.specs.Sizes.{IsSizeFor}
use Rattle.std.proofs.Common.{arith, inl, inr, subst, sym}
use Rattle.std.specs.List.{All}
use Rattle.std.specs.Prelude.{Bool, List, [], filter, length, map, suc, ℕ, ◌++◌, ◌<◌, ◌^◌, ◌∷◌, ◌≡◌, ◌≤◌}

abbrev pub IsSized : ℕ → ℕ → Row → Type 0
IsSized n M r = (length r ≡ n) × IsAtMost M r

pub record Sized (n M : ℕ) (X : List Row) : Type 0 where
  pub each : (r : Row) → Among r X → IsSized n M r

pub sized_from : (n M : ℕ) (X : List Row) → HasCols n X → All (IsAtMost M) X → Sized n M X
sized_from n M X cols size = record { each = λ r m. (all_at (λ (x : Row). length x ≡ n) m cols, among_All (IsAtMost M) m size) }

pub sized_cols : (n M : ℕ) (X : List Row) → Sized n M X → HasCols n X
sized_cols n M X s = all_from (λ (x : Row). length x ≡ n) X (λ r m. (s.each r m).0)

pub sized_size : (n M : ℕ) (X : List Row) → Sized n M X → All (IsAtMost M) X
sized_size n M X s = All_among (IsAtMost M) X (λ r m. (s.each r m).1)

pub sized_none : (n M : ℕ) → Sized n M []
sized_none n M = record { each = λ r m. elim m [ ] }

pub sized_one : (n M : ℕ) (x : Row) → IsSized n M x → Sized n M (x ∷ [])
sized_one n M x h = record { each = λ r m. one r m }
  where
    one : (r : Row) → Among r (x ∷ []) → IsSized n M r
    one r m = elim (among_append (x ∷ []) [] m) [ inl i ↦ all_at (IsSized n M) i (h, tt) | inr i ↦ elim i [ ] ]

pub sized_append : (n M : ℕ) (X Y : List Row) → Sized n M X → Sized n M Y → Sized n M (X ++ Y)
sized_append n M X Y s t = record { each = λ r m. elim (among_append X Y m) [ inl i ↦ s.each r i | inr i ↦ t.each r i ] }

pub sized_filter : (n M : ℕ) (p : Row → Bool) (X : List Row) → Sized n M X → Sized n M (filter p X)
sized_filter n M p X s = record { each = λ r m. s.each r (filter_among p X m).0 }

pub sized_units : (n M : ℕ) (P : List ℕ) → 0 < M → Sized n M (map (unit n) P)
sized_units n M P some = record { each = λ r m. let w = map_among (unit n) P m in subst (IsSized n M) (sym w.2) (length-unit n w.0, unit_small M n w.0 some) }

-- ---- what is never lost
pub none_lost : (n M : ℕ) (X : List Row) → 0 < M → IsSizeFor n M → Sized n M X → NoneAreLost n X
none_lost n M X some (b, m, small) s = elimination_is_never_lost n M b X some (sized_cols n M X s) (sized_size n M X s) m small

-- a size for rows of some columns is itself in the range
pub size_in_range : (n M : ℕ) → 0 < M → IsSizeFor (suc n) M → (K : ℕ) × (M ≤ K) × (K < 2 ^ 127)
size_in_range n M some (b, m, small) =
    let t = fit M (suc n) b some m in
    let e = bound_entries t.bound (suc n) (omega arith) in
    (b, (let s = t.same in let l = t.low in omega arith), small)
