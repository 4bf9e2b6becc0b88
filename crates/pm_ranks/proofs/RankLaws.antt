-- Chains and ranks of faces: a face has one rank, and ranks rise with the faces.
use Rattle.pm_vector.specs.Rows.{Row}
use Rattle.pm_geom.specs.Faces.{HasChain, HasRank}
use Rattle.pm_ranks.proofs.Ranks.{shorten}
use Rattle.pm_ranks.specs.Laws.{RanksDescend, RanksRise}
use Rattle.std.proofs.Common.{arith, inl, inr}
use Rattle.std.proofs.lemmas.Bool.{cases_lt}
use Rattle.std.specs.Prelude.{Bool, List, suc, ℕ, ◌-◌, ◌≡◌}

pub ranks_descend : RanksDescend
ranks_descend n G L V f k r = (r.chain.0, r.chain.2, record { face = r.chain.1; chain = r.chain.3; greatest = λ c. r.greatest (r.chain.0, r.chain.1, r.chain.2, c) })

pub ranks_rise : RanksRise
ranks_rise n G L V f g k t r s i = elim (cases_lt k t) [
  | inl l ↦ l
  | inr h ↦
      let c : HasChain n G L V (suc k) g = (f, r.face, i, r.chain) in
      absurd (s.greatest (shorten n G L V (k - t) (suc t) (suc k) g (omega arith) c))
]

-- a face has one rank
pub rank_is_one : (n : ℕ) (G L V : List Row) (f : ℕ → Bool) (k t : ℕ) → HasRank n G L V f k → HasRank n G L V f t → k ≡ t
rank_is_one n G L V f k t r s = elim (cases_lt k t) [
  | inl l ↦ absurd (r.greatest (shorten n G L V (t - suc k) (suc k) t f (omega arith) s.chain))
  | inr h ↦ elim (cases_lt t k) [ inl l ↦ absurd (s.greatest (shorten n G L V (k - suc t) (suc t) k f (omega arith) r.chain)) | inr g ↦ omega arith ]
]
