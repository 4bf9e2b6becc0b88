-- The order of the rows of tables: by cost, and then by the set as a number.
use Rattle.std.proofs.Common.{◌≡◌, ℕ, inl, inr, sym, ap, ap₂, ◌∙◌, subst, arith}
use Rattle.pm_weights.specs.declared.Cost.{Cost}
use Rattle.pm_weights.specs.Weights.{IsBelow, IsAtMost}
use Rattle.pm_weights.proofs.CostOrder.{at_most_from_below, not_below_and_at_most, at_most_itself}
use Rattle.pm_rules.specs.declared.table.TableRow.{TableRow}
use Rattle.pm_rules.specs.Certificates.{IsTableRowBefore}

-- ---- costs
pub below_itself : (a : Cost) → IsBelow a a → ⊥
below_itself a h = not_below_and_at_most a a h (at_most_itself a)

pub below_trans : (a b c : Cost) → IsBelow a b → IsAtMost b c → IsBelow a c
below_trans a b c (inl h) (inl k) = inl (omega arith)
below_trans a b c (inl h) (inr k) = inl (omega arith)
below_trans a b c (inr h) (inl k) = inl (omega arith)
below_trans a b c (inr h) (inr k) = inr (omega arith, omega arith)

pub same_cost : (a b : Cost) → a.class ≡ b.class → a.minor ≡ b.minor → a ≡ b
same_cost a b e f = ap₂ (λ (n m : ℕ). record { class = n; minor = m }) e f

pub both_at_most : (a b : Cost) → IsAtMost a b → IsAtMost b a → a ≡ b
both_at_most a b (inl h) (inl k) = absurd (omega arith)
both_at_most a b (inl h) (inr k) = absurd (omega arith)
both_at_most a b (inr h) (inl k) = absurd (omega arith)
both_at_most a b (inr h) (inr k) = same_cost a b h.0 (omega arith)

-- ---- rows
pub same_row : (a b : TableRow) → a.set ≡ b.set → a.cost ≡ b.cost → a ≡ b
same_row a b e f = ap₂ (λ (s : ℕ) (c : Cost). record { set = s; cost = c }) e f

pub before_at_most : (a b : TableRow) → IsTableRowBefore a b → IsAtMost a.cost b.cost
before_at_most a b (inl h) = at_most_from_below a.cost b.cost h
before_at_most a b (inr h) = inr (ap (λ (c : Cost). c.class) h.0, (let e = ap (λ (c : Cost). c.minor) h.0 in omega arith))

pub before_itself : (a b : TableRow) → a ≡ b → IsTableRowBefore a b → ⊥
before_itself a b e (inl h) = below_itself b.cost (subst (λ (r : TableRow). IsBelow r.cost b.cost) e h)
before_itself a b e (inr h) = let same = ap (λ (r : TableRow). r.set) e in omega (arith, h.1)

pub before_trans : (a b c : TableRow) → IsTableRowBefore a b → IsTableRowBefore b c → IsTableRowBefore a c
before_trans a b c (inl h) k = inl (below_trans a.cost b.cost c.cost h (before_at_most b c k))
before_trans a b c (inr h) (inl k) = inl (subst (λ (x : Cost). IsBelow x c.cost) (sym h.0) k)
before_trans a b c (inr h) (inr k) = inr (h.0 ∙ k.0, omega arith)
