-- Weights of rules and costs of chains: pairs of a class and a minor, compared by class and then by minor.
use Rattle.std.specs.Prelude.{◌≡◌, ℕ, ◌+◌, ◌<◌, ◌≤◌, ◌⊎◌, ◌==◌, if◌then◌else◌, List, ◌∷◌, ◌++◌}
use Rattle.std.specs.Fmt.{decimal}
use Rattle.pm_weights.specs.declared.Weight.{Weight}
use Rattle.pm_weights.specs.declared.Cost.{Cost}
use Rattle.pm_limits.specs.Limits.{most_weight}

-- each part is from 0 to most_weight, and not both are 0
pub record IsWeight (w : Weight) : Type 0 where
  pub class : w.class ≤ most_weight
  pub minor : w.minor ≤ most_weight
  pub some : 0 < w.class + w.minor

-- the cost of a chain without rules
abbrev pub no_cost : Cost
no_cost = record { class = 0; minor = 0 }

-- the cost with a weight added to it
abbrev pub plus : Cost → Weight → Cost
plus c w = record { class = c.class + w.class; minor = c.minor + w.minor }

-- the first cost is less: its class is, or the classes are equal and its minor is
abbrev pub IsBelow : Cost → Cost → Type 0
IsBelow a b = (a.class < b.class) ⊎ ((a.class ≡ b.class) × (a.minor < b.minor))

-- it is less or equal
abbrev pub IsAtMost : Cost → Cost → Type 0
IsAtMost a b = (a.class < b.class) ⊎ ((a.class ≡ b.class) × (a.minor ≤ b.minor))

-- a pair of numbers as it is printed; 46 is the point
abbrev pub pair_text : ℕ → ℕ → List ℕ
pair_text class minor = if class == 0 then decimal minor else decimal class ++ 46 ∷ decimal minor

-- a weight as it is printed: the minor alone where the class is 0, else CLASS.MINOR
abbrev pub weight_text : Weight → List ℕ
weight_text w = pair_text w.class w.minor

-- a cost, printed so
abbrev pub cost_text : Cost → List ℕ
cost_text c = pair_text c.class c.minor
