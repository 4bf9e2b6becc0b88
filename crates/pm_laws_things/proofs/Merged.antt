-- Two lists without rows that are alike, put together without such rows.
use Rattle.pm_vector.proofs.Lists.{Among, here, there}
use Rattle.pm_vector.specs.Rows.{Row}
use Rattle.std.proofs.Common.{inl, inr}
use Rattle.std.specs.Prelude.{List, [], ◌∷◌, ◌⊎◌}

-- R is decided between rows with P, holds of equal rows, and goes on
module _ (P : Row → Type 0) (R : Row → Row → Type 0) (same : (v : Row) → P v → R v v) (on : (u v w : Row) → R u v → R v w → R u w) (decided : (v w : Row) → P v → P w → R v w ⊎ ¬ (R v w)) where
  -- no two rows are alike, the first before the second
  abbrev pub Apart : List Row → Type 0
  Apart [] = Unit {0}
  Apart (v ∷ V) = ((w : Row) → Among w V → ¬ (R v w)) × Apart V

  abbrev pub Partner : Row → List Row → Type 0
  Partner v W = (w : Row) × Among w W × R v w

  -- V' has the rows of V and of W, but none that is like another
  pub record IsMerged (V W : List Row) : Type 0 where
    pub rows : List Row
    pub apart : Apart rows
    pub from : (v : Row) → Among v rows → Among v V ⊎ Among v W
    pub first : (v : Row) → Among v V → Partner v rows
    pub second : (w : Row) → Among w W → Partner w rows

  find : (w : Row) → P w → (V : List Row) → ((v : Row) → Among v V → P v) → Partner w V ⊎ ((v : Row) → Among v V → ¬ (R w v))
  find w pw [] pv = inr (λ v i. elim i [ ])
  find w pw (v ∷ V) pv = elim (decided w v pw (pv v here)) [
    | inl r ↦ inl (v, here, r)
    | inr n ↦ elim (find w pw V (λ u i. pv u (there i))) [
      | inl p ↦ inl (p.0, there p.1, p.2)
      | inr none ↦ inr (all_of n none)
    ]
  ]
    where
      all_of : ¬ (R w v) → ((u : Row) → Among u V → ¬ (R w u)) → (u : Row) → Among u (v ∷ V) → ¬ (R w u)
      all_of n none u here = n
      all_of n none u (there i) = none u i

  pub merged : (V W : List Row) → ((v : Row) → Among v V → P v) → ((w : Row) → Among w W → P w) → Apart V → IsMerged V W
  merged V [] pv pw a = record { rows = V; apart = a; from = λ v i. inl i; first = λ v i. (v, i, same v (pv v i)); second = λ w i. elim i [ ] }
  merged V (w ∷ W) pv pw a = elim (find w (pw w here) V pv) [ inl p ↦ old p (merged V W pv (λ u i. pw u (there i)) a) | inr none ↦ new (merged (w ∷ V) W more (λ u i. pw u (there i)) (none, a)) ]
    where
      more : (v : Row) → Among v (w ∷ V) → P v
      more v here = pw w here
      more v (there i) = pv v i

      behind : {v : Row} → Among v V ⊎ Among v W → Among v V ⊎ Among v (w ∷ W)
      behind (inl i) = inl i
      behind (inr i) = inr (there i)

      moved : {v : Row} → Among v (w ∷ V) ⊎ Among v W → Among v V ⊎ Among v (w ∷ W)
      moved (inl here) = inr here
      moved (inl (there i)) = inl i
      moved (inr i) = inr (there i)

      old : Partner w V → IsMerged V W → IsMerged V (w ∷ W)
      old p m = record { rows = m.rows; apart = m.apart; from = λ v i. behind (m.from v i); first = m.first; second = each }
        where
          each : (u : Row) → Among u (w ∷ W) → Partner u m.rows
          each u here = let q = m.first p.0 p.1 in (q.0, q.1, on w p.0 q.0 p.2 q.2)
          each u (there i) = m.second u i

      new : IsMerged (w ∷ V) W → IsMerged V (w ∷ W)
      new m = record { rows = m.rows; apart = m.apart; from = λ v i. moved (m.from v i); first = λ v i. m.first v (there i); second = each }
        where
          each : (u : Row) → Among u (w ∷ W) → Partner u m.rows
          each u here = m.first w here
          each u (there i) = m.second u i
