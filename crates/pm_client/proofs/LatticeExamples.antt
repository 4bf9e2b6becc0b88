-- The examples of too many faces hold.
use Rattle.pm_client.specs.Examples.{LatticesAreRead, two_sets, with_sets}
use Rattle.pm_client.specs.Sound.{IsCrowdedLattice}
use Rattle.pm_geom.specs.Graphs.{sets_of}
use Rattle.pm_geom.specs.Meets.{AreTooManyMeets}
use Rattle.pm_types.specs.Values.{IndexSets, PropertyValue, sets}
use Rattle.std.proofs.Common.{ap, arith, inl, inr, refl, subst, sym, true≢false}
use Rattle.std.specs.Option.{is_some}
use Rattle.std.specs.Prelude.{List, Option, Some, [], codes, ℕ, ◌∷◌, ◌≡◌}

-- the sets of a value of sets
index_of : Option PropertyValue → IndexSets
index_of (Some (sets rows cols)) = record { rows = rows; cols = cols }
index_of v = record { rows = []; cols = 0 }

read_sets : (index : IndexSets) (faces : List (List ℕ)) → IsCrowdedLattice (with_sets (codes "faces") index) faces → AreTooManyMeets index.cols (sets_of index.rows) faces
unfolding index_of
read_sets index faces h = let e : index ≡ h.index = ap index_of h.reads in subst (λ i. AreTooManyMeets i.cols (sets_of i.rows) faces) (sym e) h.shown

pub lattices_are_read : LatticesAreRead
lattices_are_read = record {
  crowded = λ index faces m. record { named = refl; index = index; reads = refl; shown = m };
  these_sets = read_sets;
  few = λ h. elim (read_sets two_sets ([] ∷ (0 ∷ []) ∷ []) h).many [ inl m ↦ omega arith | inr m ↦ omega arith ];
  none_read = λ faces h. true≢false (sym (ap is_some h.reads));
  other_client = λ index faces h. true≢false (sym h.named);
  many = λ e. refl;
  memory = refl;
}
