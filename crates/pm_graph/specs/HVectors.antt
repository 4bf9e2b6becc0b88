-- When an f-vector has an h-vector of numbers of 64 bits.
use Rattle.pm_geom.specs.FaceCounts.{binom, f_before, h_of}
use Rattle.std.specs.Int.RustNames.{FitsSigned}
use Rattle.std.specs.List.{All}
use Rattle.std.specs.Prelude.{ℕ, ◌-◌, ◌≤◌, ◌≡◌, List, length}
use lib.IntN.{ℤ, pos, ◌*ℤ◌}
use mir.Syntax.{w64}
use Rattle.pm_limits.specs.Limits.{most_dimensions}

-- each number of the h-vector fits 64 bits
abbrev pub HaveFit : List ℤ → ℕ → Type 0
HaveFit f d = All (FitsSigned w64) (h_of f d)

-- f has as many entries as d, d is at most 32, and each number of the h-vector fits 64 bits
pub record HasHVector (f : List ℤ) (d : ℕ) : Type 0 where
  pub few : d ≤ most_dimensions
  pub entries : length f ≡ d
  pub fit : HaveFit f d

-- the numbers are the h-vector of dimension d, where there is one
abbrev pub AreHNumbers : List ℤ → ℤ → List ℤ → Type 0
AreHNumbers f d h = (n : ℕ) → d ≡ pos n → HasHVector f n → h ≡ h_of f n

-- there is none of dimension d
abbrev pub HasNoHVector : List ℤ → ℤ → Type 0
HasNoHVector f d = (n : ℕ) → d ≡ pos n → ¬ (HasHVector f n)

-- the term of i in h_k without its sign
abbrev pub plain_term : List ℤ → ℕ → ℕ → ℕ → ℤ
plain_term f d k i = pos (binom (d - i) (d - k)) *ℤ f_before f i
