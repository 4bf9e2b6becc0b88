-- The turns of the loop that opens the parts of a face.
use Rattle.pm_bits.specs.Sets.{has, row_cmp}
use Rattle.pm_bits.specs.Table.{Table}
use Rattle.pm_geom.specs.FaceCounts.{SamePlaces}
use Rattle.pm_lattice.specs.Parts.{AreOpen, HasOpened, IsOpening, IsPartOf, Opens, OpensFrom, both, row_of}
use Rattle.pm_lattice.proofs.Keys.{entries_inserted, inserted_from, inserted_new, inserted_old, keys_inserted}
use Rattle.pm_lattice.proofs.Parts.{below_next}
use Rattle.std.proofs.Common.{arith, inl, inr, subst, sym}
use Rattle.std.specs.BTreeMap.{insert_entry}
use Rattle.std.specs.List.{Contains}
use Rattle.std.specs.Map.{keys_of}
use Rattle.std.specs.Prelude.{Bool, IsTrue, List, ℕ, ◌+◌, ◌<◌, ◌≤◌, ◌≡◌, ◌⊎◌, length}

-- some key has the places that a face shares with the row at j
abbrev pub HasKey : Table → List Bool → List (List Bool × ℕ) → ℕ → Type 0
HasKey t f entries j = IsOpening t.row_len t.rows f j
    → (c : List Bool) × Contains (keys_of entries) c × SamePlaces t.row_len (both (has f) (has (row_of t.rows j))) (has c)

-- the parts that rows before the place open are among the keys, which are parts of the face beside those of the start
pub record Opening (t : Table) (f : List Bool) (start : List (List Bool)) (entries : List (List Bool × ℕ)) (place : ℕ) : Type 0 where
  pub places : AreOpen t entries
  pub kept : (k : List Bool) → Contains start k → Contains (keys_of entries) k
  pub added : (k : List Bool) → Contains (keys_of entries) k → Contains start k ⊎ IsPartOf t.rows f k
  pub covers : (j : ℕ) → j < place → HasKey t f entries j

module _ (t : Table) (f : List Bool) where
  pub opening_start : (entries : List (List Bool × ℕ)) (from : ℕ) → OpensFrom t f from → AreOpen t entries → Opening t f (keys_of entries) entries from
  opening_start entries from h a = record { places = a; kept = λ k i. i; added = λ k i. inl i; covers = λ j l o. absurd (let g = h j o in omega arith) }

  module _ (start : List (List Bool)) (entries : List (List Bool × ℕ)) (place : ℕ) (p : Opening t f start entries place) where
    pub opening_passed : ¬ (IsOpening t.row_len t.rows f place) → Opening t f start entries (place + 1)
    opening_passed n = record { places = p.places; kept = p.kept; added = p.added; covers = below_next (HasKey t f entries) place p.covers (λ o. absurd (n o)) }

    pub opening_more : (c : List Bool) (new : List (List Bool × ℕ)) → HasOpened t f place c → new ≡ insert_entry row_cmp entries c (place + 1) → Opening t f start new (place + 1)
    opening_more c new o e =
        let keys = keys_inserted entries new c (place + 1) e in
        let old = inserted_old (keys_of entries) (keys_of new) c keys in
        record {
          places = entries_inserted (OpensFrom t) entries new c (place + 1) e o.later p.places;
          kept = λ k i. old k (p.kept k i);
          added = λ k i. elim (inserted_from (keys_of entries) (keys_of new) c keys k i) [ inl j ↦ p.added k j | inr s ↦ inr (subst (λ y. IsPartOf t.rows f y) (sym s) o.part) ];
          covers = below_next (HasKey t f new) place (λ j l w. let q = p.covers j l w in (q.0, old q.0 q.1, q.2)) (λ w. (c, inserted_new (keys_of entries) (keys_of new) c keys, o.shared));
        }

  -- after the last row
  pub opening_end : (start : List (List Bool)) (entries : List (List Bool × ℕ)) (place : ℕ) → length t.rows ≤ place → Opening t f start entries place → Opens t.row_len t.rows f start (keys_of entries)
  opening_end start entries place l p = record { kept = p.kept; added = p.added; covers = λ j o. p.covers j (let i = o.inside in omega arith) o }
