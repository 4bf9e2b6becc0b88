-- Sets whose meets are not graded, read.
use Rattle.pm_vector.proofs.Lists.{Among, here, there}
use Rattle.pm_geom.specs.FaceCounts.{SamePlaces}
use Rattle.pm_geom.specs.Faces.{IsStrictlyIn}
use Rattle.pm_geom.specs.Graphs.{holds, sets_of}
use Rattle.pm_geom.specs.Meets.{HasMeetChain, HasMeetRank, IsMeet}
use Rattle.pm_lattice.proofs.Chains.{one_rank}
use Rattle.pm_lattice.proofs.Ends.{chain_size}
use Rattle.pm_lattice.proofs.SmallMeets.{all_places, below_three, lacks_by, meet_with, one_row, ranked, two_rows}
use Rattle.pm_lattice.specs.Parts.{both}
use Rattle.std.proofs.Common.{arith, refl}
use Rattle.std.specs.Prelude.{IsTrue, List, [], false, true, ℕ, ◌<◌, ◌∷◌, ◌≡◌}
use Rattle.pm_lattice.specs.Examples.{UnevenIsRead, uneven}

uneven_none : IsMeet 3 (sets_of uneven) (holds [])
uneven_none = meet_with 3 (sets_of uneven) (both (both (λ j. true) (holds (0 ∷ []))) (holds (2 ∷ []))) (holds []) (two_rows 3 uneven (0 ∷ []) (2 ∷ []) (there here) (there (there (there here)))) (below_three (λ j. holds [] j ≡ both (both (λ j. true) (holds (0 ∷ []))) (holds (2 ∷ [])) j) refl refl refl)

uneven_row : (r : List ℕ) → Among r uneven → SamePlaces 3 (holds r) (both (λ j. true) (holds r)) → IsMeet 3 (sets_of uneven) (holds r)
uneven_row r a e = meet_with 3 (sets_of uneven) (both (λ j. true) (holds r)) (holds r) (one_row 3 uneven r a) e

uneven_all : IsMeet 3 (sets_of uneven) (holds (0 ∷ 1 ∷ 2 ∷ []))
uneven_all = meet_with 3 (sets_of uneven) (λ j. true) (holds (0 ∷ 1 ∷ 2 ∷ [])) (all_places 3 uneven) (below_three (λ j. holds (0 ∷ 1 ∷ 2 ∷ []) j ≡ true) refl refl refl)

strict_three : (f g : List ℕ) (j : ℕ) → j < 3 → (holds f 0 ≡ true → holds g 0 ≡ true) → (holds f 1 ≡ true → holds g 1 ≡ true) → (holds f 2 ≡ true → holds g 2 ≡ true) → holds g j ≡ true → holds f j ≡ false → IsStrictlyIn 3 (holds f) (holds g)
strict_three f g j l a b c t n = record { included = below_three (λ j. IsTrue (holds f j) → IsTrue (holds g j)) a b c; j = j; below = l; has = t; lacks = lacks_by (holds f j) n }

left_chain : HasMeetChain 3 (sets_of uneven) 1 (holds (0 ∷ []))
left_chain = (holds [], uneven_none, strict_three [] (0 ∷ []) 0 (omega arith) (λ t. refl) (λ t. absurd cc) (λ t. absurd cc) refl refl, tt)

long_chain : HasMeetChain 3 (sets_of uneven) 2 (holds (0 ∷ 1 ∷ []))
long_chain = (
  holds (0 ∷ []),
  uneven_row (0 ∷ []) (there here) (below_three (λ j. holds (0 ∷ []) j ≡ both (λ j. true) (holds (0 ∷ [])) j) refl refl refl),
  strict_three (0 ∷ []) (0 ∷ 1 ∷ []) 1 (omega arith) (λ t. refl) (λ t. absurd cc) (λ t. absurd cc) refl refl,
  left_chain,
)

pair_meet : IsMeet 3 (sets_of uneven) (holds (0 ∷ 1 ∷ []))
pair_meet = uneven_row (0 ∷ 1 ∷ []) here (below_three (λ j. holds (0 ∷ 1 ∷ []) j ≡ both (λ j. true) (holds (0 ∷ 1 ∷ [])) j) refl refl refl)

pub uneven_is_read : UnevenIsRead
uneven_is_read = record {
  long = ranked 3 (sets_of uneven) (holds (0 ∷ 1 ∷ [])) 2 2 pair_meet long_chain (λ y. chain_size 3 (sets_of uneven) 3 (holds (0 ∷ 1 ∷ [])) y) (omega arith);
  short = ranked 3 (sets_of uneven) (holds (2 ∷ [])) 1 1 (uneven_row (2 ∷ []) (there (there (there here))) (below_three (λ j. holds (2 ∷ []) j ≡ both (λ j. true) (holds (2 ∷ [])) j) refl refl refl))
      (holds [], uneven_none, strict_three [] (2 ∷ []) 2 (omega arith) (λ t. absurd cc) (λ t. absurd cc) (λ t. refl) refl refl, tt) (λ y. chain_size 3 (sets_of uneven) 2 (holds (2 ∷ [])) y) (omega arith);
  all = uneven_rank;
  not_shortest = λ r. let e = one_rank 3 (sets_of uneven) (holds (0 ∷ 1 ∷ 2 ∷ [])) 2 3 r uneven_rank in cc;
}
  where
    uneven_rank : HasMeetRank 3 (sets_of uneven) (holds (0 ∷ 1 ∷ 2 ∷ [])) 3
    uneven_rank = ranked 3 (sets_of uneven) (holds (0 ∷ 1 ∷ 2 ∷ [])) 3 3 uneven_all (
      holds (0 ∷ 1 ∷ []),
      pair_meet,
      strict_three (0 ∷ 1 ∷ []) (0 ∷ 1 ∷ 2 ∷ []) 2 (omega arith) (λ t. refl) (λ t. refl) (λ t. absurd cc) refl refl,
      long_chain,
    ) (λ y. chain_size 3 (sets_of uneven) 4 (holds (0 ∷ 1 ∷ 2 ∷ [])) y) (omega arith)
