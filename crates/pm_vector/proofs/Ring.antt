-- The laws of the product of whole numbers, and `ring`, by which `simp ring (omega (arith, ints))` proves polynomial identities.
use Rattle.std.proofs.Common.{ap, arith, sym, ◌∙◌}
use Rattle.std.proofs.lemmas.Int.{ints}
use Rattle.std.specs.Prelude.{suc, ℕ, ◌*◌, ◌+◌, ◌≡◌}
use borrow.Author.Differences.{down, neg_is, product_is, same_in, sum_is_lem, up}
use lib.IntN.{*ℤ-zero, *ℤ_comm, neg_ℤ, negsuc, pos, zero-*ℤ, ℤ, ◌*ℤ◌, ◌+ℤ◌}

up-mul : (a b : ℤ) → up (a *ℤ b) ≡ up a * up b + down a * down b
up-mul a b = (product_is a b).0

down-mul : (a b : ℤ) → down (a *ℤ b) ≡ up a * down b + down a * up b
down-mul a b = (product_is a b).1

up-neg : (b : ℤ) → up (neg_ℤ b) ≡ down b
up-neg b = (neg_is b).0

down-neg : (b : ℤ) → down (neg_ℤ b) ≡ up b
down-neg b = (neg_is b).1

pub mul_assoc : (a b c : ℤ) → (a *ℤ b) *ℤ c ≡ a *ℤ (b *ℤ c)
mul_assoc a b c = same_in _ _ (simp (up-mul, down-mul) (omega arith))

-- the products of a sum, in parts
scaled : (u s t p q x y : ℕ) → s + p + q ≡ t + x + y → u * s + u * p + u * q ≡ u * t + u * x + u * y
scaled u s t p q x y e = omega (arith, ap (λ z. u * z) e)

pub mul-add : (a b c : ℤ) → a *ℤ (b +ℤ c) ≡ a *ℤ b +ℤ a *ℤ c
mul-add a b c =
    same_in _ _ (omega (arith, ints, product_is a (b +ℤ c), product_is a b, product_is a c, scaled (up a) _ _ _ _ _ _ (sum_is_lem b c), scaled (down a) _ _ _ _ _ _ (sum_is_lem b c)))

pub add-mul : (a b c : ℤ) → (a +ℤ b) *ℤ c ≡ a *ℤ c +ℤ b *ℤ c
add-mul a b c = *ℤ_comm (a +ℤ b) c ∙ mul-add c a b ∙ ap (λ x. x +ℤ c *ℤ b) (*ℤ_comm c a) ∙ ap (λ x. a *ℤ c +ℤ x) (*ℤ_comm c b)

pub neg-mul : (a b : ℤ) → neg_ℤ a *ℤ b ≡ neg_ℤ (a *ℤ b)
neg-mul a b = same_in _ _ (simp (up-mul, down-mul, up-neg, down-neg) (omega arith))

pub mul-neg : (a b : ℤ) → a *ℤ neg_ℤ b ≡ neg_ℤ (a *ℤ b)
mul-neg a b = *ℤ_comm a (neg_ℤ b) ∙ neg-mul b a ∙ ap neg_ℤ (*ℤ_comm b a)

pub left_comm : (a b c : ℤ) → a *ℤ (b *ℤ c) ≡ b *ℤ (a *ℤ c)
left_comm a b c = sym (mul_assoc a b c) ∙ ap (λ x. x *ℤ c) (*ℤ_comm a b) ∙ mul_assoc b a c

pub one_mul : (a : ℤ) → pos 1 *ℤ a ≡ a
one_mul (pos n) = ap pos (omega arith)
one_mul (negsuc n) = same_in _ _ (omega (arith, neg_is (pos (1 * suc n))))

pub mul_one : (a : ℤ) → a *ℤ pos 1 ≡ a
mul_one a = *ℤ_comm a (pos 1) ∙ one_mul a

-- `simp ring (omega (arith, ints))` proves polynomial identities
pub ruleset ring = (zero-*ℤ, *ℤ-zero, one_mul, mul_one, mul_assoc, mul-add, add-mul, neg-mul, mul-neg, left_comm, *ℤ_comm)

pub neg_one_mul : (a : ℤ) → negsuc 0 *ℤ a ≡ neg_ℤ a
neg_one_mul a = neg-mul (pos 1) a ∙ ap neg_ℤ (one_mul a)
