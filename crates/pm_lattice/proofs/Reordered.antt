-- The meets of rows do not go by the order of the rows.
use Rattle.pm_vector.proofs.Lists.{All_among, Contains_among, among_All, among_Contains}
use Rattle.pm_bits.specs.Sets.{has}
use Rattle.pm_bits.specs.Table.{Table}
use Rattle.pm_geom.specs.Meets.{IsMeet}
use Rattle.pm_lattice.proofs.Reached.{among_tests, tests_among}
use Rattle.pm_lattice.specs.Closures.{IsClosureOf, bit_sets}
use Rattle.pm_lattice.specs.declared.closure.Closure.{Closure}
use Rattle.pm_lattice.specs.declared.closure.Closure.TheVariants as closure
use Rattle.std.proofs.Common.{subst, sym, ◌≡◌}
use Rattle.std.proofs.lemmas.List.Sorted.{Contains-permutation, IsPermutation-sym}
use Rattle.std.specs.List.{All, Contains}
use Rattle.std.specs.List.Sorted.{IsPermutation}
use Rattle.std.specs.Prelude.{Bool, List, ℕ}

test_moved : (rows others : List (List Bool)) → IsPermutation rows others → (r : ℕ → Bool) → Contains (bit_sets rows) r → Contains (bit_sets others) r
test_moved rows others p r c =
    let w = among_tests rows r (among_Contains (bit_sets rows) c) in
    let i = among_Contains others (Contains-permutation rows others w.0 p (Contains_among w.1)) in
    subst (λ q. Contains (bit_sets others) q) w.2 (Contains_among (tests_among others w.0 i))

meet_moved : (m : ℕ) (rows others : List (List Bool)) → IsPermutation rows others → (f : ℕ → Bool) → IsMeet m (bit_sets rows) f → IsMeet m (bit_sets others) f
meet_moved m rows others p f w = record { some = w.some; among = λ r c. test_moved rows others p r (w.among r c); places = w.places }

all_moved : (m : ℕ) (rows others faces : List (List Bool)) → IsPermutation rows others → All (λ f. IsMeet m (bit_sets rows) (has f)) faces → All (λ f. IsMeet m (bit_sets others) (has f)) faces
all_moved m rows others faces p h = All_among (λ f. IsMeet m (bit_sets others) (has f)) faces (λ f i. meet_moved m rows others p (has f) (among_All (λ f. IsMeet m (bit_sets rows) (has f)) i h))

pub closure_moved : (t u : Table) (c : Closure) → u.row_len ≡ t.row_len → IsPermutation t.rows u.rows → IsClosureOf u c → IsClosureOf t c
closure_moved t u (closure.All faces) e p w =
    let back = IsPermutation-sym t.rows u.rows p in
    let here = subst (λ m. IsClosureOf (record { row_len = m; rows = u.rows }) (closure.All faces)) e w in (
      record {
        each = all_moved t.row_len u.rows t.rows faces.items back here.0.each;
        all = λ g i. here.0.all g (meet_moved t.row_len t.rows u.rows p g i);
        lengths = here.0.lengths;
        ordered = here.0.ordered;
      },
      here.1,
    )
closure_moved t u (closure.Many faces) e p w =
    let back = IsPermutation-sym t.rows u.rows p in
    let here = subst (λ m. IsClosureOf (record { row_len = m; rows = u.rows }) (closure.Many faces)) e w in (
      record { each = all_moved t.row_len u.rows t.rows faces.items back here.0.each; lengths = here.0.lengths; ordered = here.0.ordered },
      here.1,
    )
