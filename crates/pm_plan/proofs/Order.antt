-- Places of sets: what is not above a row. Costs and rows are equal or not.
use Rattle.std.proofs.Common.{◌≡◌, ℕ, ◌<◌, false, ◌⊎◌, inl, inr, refl, sym, ap, ap₂, arith}
use Rattle.std.specs.declared.cmp.Ordering.{Ordering}
use Rattle.std.specs.declared.cmp.Ordering.TheVariants.{Less, Equal, Greater}
use Rattle.std.specs.Ordering.{nat_cmp, ordering_then, is_gt, MatchOrdering}
use Rattle.std.proofs.lemmas.Bool.{cases_eq}
use Rattle.std.proofs.lemmas.Cmp.{ranked}
use Rattle.pm_weights.specs.declared.Weight.{Weight}
use Rattle.pm_weights.specs.declared.Cost.{Cost}
use Rattle.pm_weights.specs.Weights.{IsWeight, plus, IsBelow}
use Rattle.pm_rules.specs.declared.table.TableRow.{TableRow}
use Rattle.pm_rules.specs.Certificates.{IsTableRowBefore}
use Rattle.pm_rules.proofs.RowOrder.{same_cost, same_row}
use Rattle.pm_plan.specs.declared.search.Place.{Place}
use Rattle.pm_plan.specs.Searches.{place_cmp, place_of}

-- ---- costs
pub below_plus : (c : Cost) (w : Weight) → IsWeight w → IsBelow c (plus c w)
below_plus c w h = elim (cases_eq w.class 0) [
  | inl e ↦ inr (omega arith, omega (arith, h.some))
  | inr n ↦ inl (omega arith)
]

pub same_or_not : (a b : Cost) → (a ≡ b) ⊎ (a ≡ b → ⊥)
same_or_not a b = elim (cases_eq a.class b.class) [
  | inl e ↦ elim (cases_eq a.minor b.minor) [
    | inl f ↦ inl (same_cost a b e f)
    | inr n ↦ inr (λ same. n (ap (λ (c : Cost). c.minor) same))
  ]
  | inr n ↦ inr (λ same. n (ap (λ (c : Cost). c.class) same))
]

-- ---- rows
pub row_or_not : (a b : TableRow) → (a ≡ b) ⊎ (a ≡ b → ⊥)
row_or_not a b = elim (cases_eq a.set b.set) [
  | inl e ↦ elim (same_or_not a.cost b.cost) [
    | inl f ↦ inl (same_row a b e f)
    | inr n ↦ inr (λ same. n (ap (λ (r : TableRow). r.cost) same))
  ]
  | inr n ↦ inr (λ same. n (ap (λ (r : TableRow). r.set) same))
]

-- ---- places
then_equal : (a b : Ordering) → ordering_then a b ≡ Equal → (a ≡ Equal) × (b ≡ Equal)
then_equal Less b e = cc
then_equal Equal b e = (refl, e)
then_equal Greater b e = cc

nat_equal : (a b : ℕ) → nat_cmp a b ≡ Equal → a ≡ b
nat_equal a b e = let h = ranked a b Equal (sym e) in h

pub place_exact : (a b : Place) → place_cmp a b ≡ Equal → a ≡ b
place_exact a b e =
    let parts = then_equal (ordering_then (nat_cmp a.cost.class b.cost.class) (nat_cmp a.cost.minor b.cost.minor)) (nat_cmp a.set b.set) e in
    let costs = then_equal (nat_cmp a.cost.class b.cost.class) (nat_cmp a.cost.minor b.cost.minor) parts.0 in
    ap₂ (λ (c : Cost) (s : ℕ). record { cost = c; set = s })
    (same_cost a.cost b.cost (nat_equal a.cost.class b.cost.class costs.0) (nat_equal a.cost.minor b.cost.minor costs.1))
    (nat_equal a.set b.set parts.1)

-- what is not above a row is the row, or comes after it
ranked_rows : (a b : TableRow) (x y z : Ordering) → MatchOrdering x (a.cost.class < b.cost.class) (a.cost.class ≡ b.cost.class) (b.cost.class < a.cost.class)
    → MatchOrdering y (a.cost.minor < b.cost.minor) (a.cost.minor ≡ b.cost.minor) (b.cost.minor < a.cost.minor) → MatchOrdering z (a.set < b.set) (a.set ≡ b.set) (b.set < a.set)
    → is_gt (ordering_then (ordering_then x y) z) ≡ false → (a ≡ b) ⊎ IsTableRowBefore a b
ranked_rows a b Less y z h k l e = inr (inl (inl h))
ranked_rows a b Greater y z h k l e = cc
ranked_rows a b Equal Less z h k l e = inr (inl (inr (h, k)))
ranked_rows a b Equal Greater z h k l e = cc
ranked_rows a b Equal Equal Less h k l e = inr (inr (same_cost a.cost b.cost h k, l))
ranked_rows a b Equal Equal Greater h k l e = cc
ranked_rows a b Equal Equal Equal h k l e = inl (same_row a b l (same_cost a.cost b.cost h k))

pub not_above : (a b : TableRow) → is_gt (place_cmp (place_of a) (place_of b)) ≡ false → (a ≡ b) ⊎ IsTableRowBefore a b
not_above a b e =
    ranked_rows a b (nat_cmp a.cost.class b.cost.class) (nat_cmp a.cost.minor b.cost.minor) (nat_cmp a.set b.set)
    (ranked a.cost.class b.cost.class (nat_cmp a.cost.class b.cost.class) refl) (ranked a.cost.minor b.cost.minor (nat_cmp a.cost.minor b.cost.minor) refl)
    (ranked a.set b.set (nat_cmp a.set b.set) refl) e
