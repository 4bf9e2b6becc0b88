-- Rows in order, cut in two, and what cannot stand between the first and the last of them.
use Rattle.std.proofs.Common.{◌≡◌, ℕ, zero, suc, ◌+◌, ◌-◌, ◌<◌, ◌≤◌, ◌⊎◌, List, take, drop, length, get_or, AllPairs, inl, inr, refl, sym, ap, false, true≢false, ◌∙◌, subst, arith}
use Rattle.std.specs.Prelude.{◌==◌}
use Rattle.std.specs.List.{AllAdjacentBelow}
use Rattle.std.proofs.lemmas.Bool.{cases_lt, cases_eq}
use Rattle.std.proofs.lemmas.List.{length-drop, length-take-le, get_or-take, get_or-drop, get_or_default}
use Rattle.pm_props.specs.declared.set.PropSet.{PropSet}
use Rattle.pm_weights.specs.declared.Cost.{Cost}
use Rattle.pm_weights.specs.Weights.{IsBelow, IsAtMost}
use Rattle.pm_weights.proofs.CostOrder.{at_most_itself, at_most_trans, not_below_and_at_most, at_most_or_below}
use Rattle.pm_rules.specs.declared.table.TableRow.{TableRow}
use Rattle.pm_rules.specs.Certificates.{HasRow, IsTableRowBefore}
use Rattle.pm_rules.proofs.RowOrder.{both_at_most, before_at_most, before_trans, below_itself}
use Rattle.pm_cert.specs.Outside.{IsOutside}

-- ---- two parts of a list
module _ (rows : List TableRow) (n : ℕ) (within : n ≤ length rows) where
  pub front_in_order : AllPairs IsTableRowBefore rows → AllPairs IsTableRowBefore (take n rows)
  front_in_order h i j d l k =
      let below : j < n = omega (arith, k, length-take-le n rows within) in
      let first = get_or-take n rows i d (omega arith) in
      let second = get_or-take n rows j d below in
      rw (first, second) (h i j d l (omega arith))

  pub back_in_order : AllPairs IsTableRowBefore rows → AllPairs IsTableRowBefore (drop n rows)
  back_in_order h i j d l k =
      let below : n + j < length rows = omega (arith, k, length-drop n rows) in
      rw (get_or-drop n rows i d, get_or-drop n rows j d) (h (n + i) (n + j) d (omega arith) below)

  pub row_of_front : (set : PropSet) (cost : Cost) → HasRow (take n rows) set cost → HasRow rows set cost
  row_of_front set cost h =
      let low : h.0 < n = omega (arith, h.2, length-take-le n rows within) in
      (h.0, h.1, (omega arith), sym (get_or-take n rows h.0 h.1 low) ∙ h.3, h.4)

  pub row_of_back : (set : PropSet) (cost : Cost) → HasRow (drop n rows) set cost → HasRow rows set cost
  row_of_back set cost h = (n + h.0, h.1, (omega (arith, h.2, length-drop n rows)), sym (get_or-drop n rows h.0 h.1) ∙ h.3, h.4)

  pub row_of_a_part : (set : PropSet) (cost : Cost) → HasRow rows set cost → HasRow (take n rows) set cost ⊎ HasRow (drop n rows) set cost
  row_of_a_part set cost h = elim (cases_lt h.0 n) [
    | inl l ↦ inl (h.0, h.1, (omega (arith, length-take-le n rows within)), get_or-take n rows h.0 h.1 l ∙ h.3, h.4)
    | inr l ↦
        let place : n + (h.0 - n) ≡ h.0 = omega arith in
        inr (h.0 - n, h.1, (omega (arith, h.2, length-drop n rows)), get_or-drop n rows (h.0 - n) h.1 ∙ ap (λ (i : ℕ). get_or rows i h.1) place ∙ h.3, h.4)
  ]

-- ---- the first and the last row
-- the first of the rows, or one behind it
from_first : (rows : List TableRow) (i : ℕ) (d : TableRow) → AllPairs IsTableRowBefore rows → i < length rows → (get_or rows 0 d ≡ get_or rows i d) ⊎ IsTableRowBefore (get_or rows 0 d) (get_or rows i d)
from_first rows zero d h l = inl refl
from_first rows (suc i) d h l = inr (h 0 (suc i) d (omega arith) l)

to_last : (rows : List TableRow) (i : ℕ) (d : TableRow) → AllPairs IsTableRowBefore rows → i < length rows
    → (get_or rows i d ≡ get_or rows (length rows - 1) d) ⊎ IsTableRowBefore (get_or rows i d) (get_or rows (length rows - 1) d)
to_last rows i d h l = elim (cases_eq i (length rows - 1)) [
  | inl e ↦ inl (ap (λ (k : ℕ). get_or rows k d) e)
  | inr n ↦ inr (h i (length rows - 1) d (omega (arith, n)) (omega arith))
]

cost_at_most : (a b : TableRow) → (a ≡ b) ⊎ IsTableRowBefore a b → IsAtMost a.cost b.cost
cost_at_most a b (inl e) = subst (λ (r : TableRow). IsAtMost a.cost r.cost) e (at_most_itself a.cost)
cost_at_most a b (inr h) = before_at_most a b h

-- of two rows of one cost, the later one has the set that is the greater number
set_at_most : (a b : TableRow) → a.cost ≡ b.cost → (a ≡ b) ⊎ IsTableRowBefore a b → a.set ≤ b.set
set_at_most a b same (inl e) = let sets : a.set ≡ b.set = ap (λ (r : TableRow). r.set) e in omega arith
set_at_most a b same (inr (inl h)) = absurd (below_itself b.cost (subst (λ (c : Cost). IsBelow c b.cost) same h))
set_at_most a b same (inr (inr h)) = omega (arith, h.1)

-- no row between two has a set that is outside
between : (first row last : TableRow) (set : PropSet) (cost : Cost) → (first ≡ row) ⊎ IsTableRowBefore first row → (row ≡ last) ⊎ IsTableRowBefore row last → IsOutside first last set cost
    → row.set ≡ set → IsAtMost row.cost cost → ⊥
between first row last set cost low high (inl h) same k = not_below_and_at_most cost first.cost h (at_most_trans first.cost row.cost cost (cost_at_most first row low) k)
between first row last set cost low high (inr h) same k =
    let up : IsAtMost row.cost first.cost = subst (λ (c : Cost). IsAtMost row.cost c) (sym h.0) (cost_at_most row last high) in
    let equal : first.cost ≡ row.cost = both_at_most first.cost row.cost (cost_at_most first row low) up in
    let below = set_at_most first row equal low in
    let above = set_at_most row last (sym equal ∙ h.0) high in
    elim h.1 [
      | inl l ↦ absurd (omega arith)
      | inr l ↦ absurd (omega arith)
    ]

pub none_outside : (rows : List TableRow) (first last : TableRow) (set : PropSet) (cost : Cost) → AllPairs IsTableRowBefore rows → first ≡ get_or rows 0 first → last ≡ get_or rows (length rows - 1) last
    → IsOutside first last set cost → HasRow rows set cost → ⊥
none_outside rows first last set cost order is_first is_last outside h =
    let some : h.0 < length rows = h.2 in
    let d = h.1 in
    let start : first ≡ get_or rows 0 d = is_first ∙ get_or_default rows 0 first d (omega arith) in
    let end : last ≡ get_or rows (length rows - 1) d = is_last ∙ get_or_default rows (length rows - 1) last d (omega arith) in
    let low = subst (λ (r : TableRow). (first ≡ r) ⊎ IsTableRowBefore first r) h.3 (subst (λ (r : TableRow). (r ≡ get_or rows h.0 d) ⊎ IsTableRowBefore r (get_or rows h.0 d)) (sym start) (from_first rows h.0 d order some)) in
    let high = subst (λ (r : TableRow). (r ≡ last) ⊎ IsTableRowBefore r last) h.3 (subst (λ (r : TableRow). (get_or rows h.0 d ≡ r) ⊎ IsTableRowBefore (get_or rows h.0 d) r) (sym end) (to_last rows h.0 d order some)) in
    between first h.1 last set cost low high outside h.4.0 h.4.1

-- the only row has the set and costs no more, if it is not outside
pub one_inside : (rows : List TableRow) (first last : TableRow) (set : PropSet) (cost : Cost) → length rows ≡ 1 → first ≡ get_or rows 0 first → last ≡ get_or rows (length rows - 1) last
    → (IsOutside first last set cost → ⊥) → HasRow rows set cost
one_inside rows first last set cost one is_first is_last inside =
    let at : get_or rows (length rows - 1) last ≡ get_or rows 0 first = ap (λ (k : ℕ). get_or rows (k - 1) last) one ∙ get_or_default rows 0 last first (omega arith) in
    let same : last ≡ first = is_last ∙ at ∙ sym is_first in
    let low : (first.set ≤ set) = elim (cases_lt set first.set) [
      | inl l ↦ absurd (inside (inr (ap (λ (r : TableRow). r.cost) (sym same), inl l)))
      | inr l ↦ l
    ] in
    let high : (set ≤ first.set) = elim (cases_lt first.set set) [
      | inl l ↦ absurd (inside (inr (ap (λ (r : TableRow). r.cost) (sym same), inr (subst (λ (r : TableRow). r.set < set) (sym same) l))))
      | inr l ↦ l
    ] in (
      0,
      first,
      (omega arith),
      sym is_first,
      (
        (omega arith),
        elim (at_most_or_below first.cost cost) [
          | inl k ↦ k
          | inr k ↦ absurd (inside (inl k))
        ],
      ),
    )

-- ---- rows in order, from neighbours
pub in_order_from_neighbours : (rows : List TableRow) → AllAdjacentBelow IsTableRowBefore rows (length rows) → AllPairs IsTableRowBefore rows
in_order_from_neighbours rows h i zero d l k = absurd (omega arith)
in_order_from_neighbours rows h i (suc j) d l k = elim (cases_lt i j) [
  | inl m ↦ before_trans (get_or rows i d) (get_or rows j d) (get_or rows (suc j) d) (in_order_from_neighbours rows h i j d m (omega arith)) (step j k)
  | inr m ↦
      let same : j ≡ i = omega arith in
      subst (λ (a : ℕ). IsTableRowBefore (get_or rows a d) (get_or rows (suc j) d)) same (step j k)
]
  where
    step : (a : ℕ) → suc a < length rows → IsTableRowBefore (get_or rows a d) (get_or rows (suc a) d)
    step a m =
        let next : a + 1 ≡ suc a = omega arith in
        subst (λ (b : ℕ). IsTableRowBefore (get_or rows a d) (get_or rows b d)) next (h a d (omega arith))

pub not_zero : (n : ℕ) → false ≡ (n == 0) → 0 < n
not_zero zero e = absurd (true≢false (sym e))
not_zero (suc n) e = omega arith
