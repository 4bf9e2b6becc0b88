-- The parts of a face: what it shares with the rows that do not contain it.
use Rattle.pm_bits.specs.Sets.{IsIntersection, IsSubset, has}
use Rattle.pm_bits.specs.Table.{Table}
use Rattle.pm_lattice.specs.Parts.{HasOpened, IsOpening, IsPartOf, OpensFrom, both, row_of}
use Rattle.pm_geom.specs.Faces.{IsStrictlyIn}
use Rattle.pm_lattice.proofs.Chains.{and_both, and_left, and_right, in_or_outside}
use Rattle.pm_lattice.proofs.Subsets.{below_length, subset_from_in}
use Rattle.std.proofs.Common.{arith, inl, inr, refl, subst, sym, ◌∙◌}
use Rattle.std.proofs.lemmas.Bool.{cases_lt}
use Rattle.std.specs.List.{Contains}
use Rattle.std.specs.Prelude.{Bool, IsTrue, List, [], false, length, suc, true, zero, ℕ, ◌&&◌, ◌+◌, ◌<◌, ◌∷◌, ◌≡◌, ◌⊎◌}

pub part_strict : (m : ℕ) (rows : List (List Bool)) (f c : List Bool) → length f ≡ m → IsPartOf rows f c → IsStrictlyIn m (has c) (has f)
part_strict m rows f c e p = elim (in_or_outside m (has f) (has p.row)) [
  | inl h ↦ absurd (p.not_in (subset_from_in m f p.row e h))
  | inr o ↦ record {
    included = λ j l t. and_right (has p.row j) (has f j) (sym (p.shared j) ∙ t);
    j = o.j;
    below = o.below;
    has = o.has;
    lacks = λ t. o.lacks (and_left (has p.row o.j) (has f o.j) (sym (p.shared o.j) ∙ t));
  }
]

-- ---- the part that a row opens
pub below_next : (P : ℕ → Type 0) (i : ℕ) → ((k : ℕ) → k < i → P k) → P i → (k : ℕ) → k < i + 1 → P k
below_next P i h p k l = elim (cases k i l) [ inl s ↦ h k s | inr e ↦ subst P (sym e) p ]
  where
    cases : (k i : ℕ) → k < i + 1 → (k < i) ⊎ (k ≡ i)
    cases k i l = grind arith

and_turned : (a b : Bool) → (a && b) ≡ (b && a)
and_turned true true = refl
and_turned true false = refl
and_turned false true = refl
and_turned false false = refl

row_there : (rows : List (List Bool)) (j : ℕ) → j < length rows → Contains rows (row_of rows j)
row_there [] j l = absurd (omega arith)
row_there (q ∷ rows) zero l = (0, omega arith, refl)
row_there (q ∷ rows) (suc j) l = let w = row_there rows j (omega arith) in (suc w.0, (let b = w.1 in omega arith), w.2)

module _ (t : Table) (f c : List Bool) (j : ℕ) (w : IsIntersection c (row_of t.rows j) f) where
  in_part : (x : ℕ) → IsTrue (has f x) → IsTrue (has (row_of t.rows j) x) → IsTrue (has c x)
  in_part x a b = w x ∙ and_both (has (row_of t.rows j) x) (has f x) b a

  in_row : (x : ℕ) → IsTrue (has c x) → IsTrue (has (row_of t.rows j) x)
  in_row x a = and_left (has (row_of t.rows j) x) (has f x) (sym (w x) ∙ a)

  -- where an earlier row that contains the part contains the face, no row up to this one opens a part of the part
  opens_later : length f ≡ t.row_len → ¬ (IsSubset f (row_of t.rows j)) → ((i : ℕ) → i < j → IsSubset c (row_of t.rows i) → IsSubset f (row_of t.rows i)) → OpensFrom t c (j + 1)
  opens_later e out first k o = elim (cases_lt j k) [
    | inl l ↦ omega arith
    | inr g ↦ absurd (out (λ x a. in_row x (o.hull x (below_length f t.row_len x e a) (λ i l s. first i (omega arith) s x a))))
  ]

  pub part_opened : j < length t.rows → length f ≡ t.row_len → length c ≡ t.row_len → ¬ (IsSubset f (row_of t.rows j)) → ((i : ℕ) → i < j → IsSubset c (row_of t.rows i) → IsSubset f (row_of t.rows i)) → HasOpened t f j c
  part_opened l e k out first = record {
    part = record { row = row_of t.rows j; among = row_there t.rows j l; not_in = out; len = k ∙ sym e; shared = w };
    shared = λ x b. and_turned (has f x) (has (row_of t.rows j) x) ∙ sym (w x);
    later = opens_later e out first;
  }

  -- a row that opens a part: an earlier row that has the part contains the face
  pub first_opened : length f ≡ t.row_len → IsOpening t.row_len t.rows f j → (i : ℕ) → i < j → IsSubset c (row_of t.rows i) → IsSubset f (row_of t.rows i)
  first_opened e o i l s = o.first i l (λ x b a. s x (in_part x (and_left (has f x) (has (row_of t.rows j) x) a) (and_right (has f x) (has (row_of t.rows j) x) a)))
