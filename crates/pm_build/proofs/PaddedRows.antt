-- Rows with zeros behind them, or behind their first entries: what stands for them, and products with them.
use Rattle.pm_vector.proofs.Ring.{ring}
use Rattle.pm_vector.specs.Numbers.{Ratio}
use Rattle.pm_vector.specs.Rows.{Row, Stands, dot, entry, ratio_at}
use Rattle.pm_build.specs.Objects.{padded, spread, zeros}
use Rattle.pm_types.specs.Right.{StandFor}
use Rattle.pm_types.specs.Views.{over_one}
use Rattle.std.proofs.Common.{ap, arith, refl, ◌∙◌}
use Rattle.std.proofs.lemmas.Int.{ints}
use Rattle.std.proofs.lemmas.List.{length-append, length-replicate}
use Rattle.std.specs.Prelude.{List, [], drop, length, map, replicate, suc, take, zero, ℕ, ◌++◌, ◌<◌, ◌∷◌, ◌≡◌, ◌⊎◌}
use Rattle.std.proofs.Common.{inl, inr}
use lib.IntN.{pos, ℤ, ◌*ℤ◌, ◌+ℤ◌}
use lib.Signed.{◌<ℤ◌}

-- whole rows, as rows of fractions are padded and spread
abbrev pub nothing : ℕ → Row
nothing k = replicate k (pos 0)

abbrev pub padded_whole : ℕ → Row → Row
padded_whole k x = x ++ nothing k

abbrev pub spread_whole : ℕ → Row → Row
spread_whole k [] = []
spread_whole k (a ∷ x) = a ∷ nothing k ++ x

-- ---- entries
pub nothing_at : (k i : ℕ) → entry (nothing k) i ≡ pos 0
nothing_at zero i = refl
nothing_at (suc k) zero = refl
nothing_at (suc k) (suc i) = nothing_at k i

pub zeros_at : (k i : ℕ) → ratio_at (zeros k) i ≡ over_one (pos 0)
zeros_at zero i = refl
zeros_at (suc k) zero = refl
zeros_at (suc k) (suc i) = zeros_at k i

-- an entry of a padded row is one of the row, or 0
padded_at : (k : ℕ) (r : List Ratio) (x : Row) (i : ℕ) → length x ≡ length r → ((i < length r) × (ratio_at (padded k r) i ≡ ratio_at r i) × (entry (padded_whole k x) i ≡ entry x i)) ⊎ ((ratio_at (padded k r) i ≡ over_one (pos 0)) × (entry (padded_whole k x) i ≡ pos 0))
padded_at k [] [] i e = inr (zeros_at k i, nothing_at k i)
padded_at k [] (a ∷ x) i e = absurd (omega arith)
padded_at k (q ∷ r) [] i e = absurd (omega arith)
padded_at k (q ∷ r) (a ∷ x) zero e = inl (omega arith, refl, refl)
padded_at k (q ∷ r) (a ∷ x) (suc i) e = elim (padded_at k r x i (omega arith)) [
  | inl w ↦ inl (let l = w.0 in omega arith, w.1, w.2)
  | inr w ↦ inr w
]

one_above : pos 0 <ℤ pos 1
one_above = omega (arith, ints)

both_nought : (p q : ℤ) → p *ℤ (pos 0 *ℤ pos 1) ≡ q *ℤ pos 0
both_nought p q = simp ring refl

pub padded_stands : (k : ℕ) (r : List Ratio) (x : Row) → Stands r x → Stands (padded k r) (padded_whole k x)
padded_stands k r x s = record {
  p = s.p;
  q = s.q;
  p_positive = s.p_positive;
  q_positive = s.q_positive;
  cols = length-append x (nothing k) ∙ (rw (s.cols, length-replicate, length-append r (zeros k), length-replicate) refl);
  denominators = λ i h. elim (padded_at k r x i s.cols) [ inl w ↦ rw w.1 (s.denominators i w.0) | inr w ↦ rw w.0 one_above ];
  same = λ i h. elim (padded_at k r x i s.cols) [ inl w ↦ rw (w.1, w.2) (s.same i w.0) | inr w ↦ rw (w.0, w.1) (both_nought s.p s.q) ];
}

-- one zero behind the first entry
one_spread : (q : Ratio) (r : List Ratio) (a : ℤ) (x : Row) → Stands (q ∷ r) (a ∷ x) → Stands (q ∷ over_one (pos 0) ∷ r) (a ∷ pos 0 ∷ x)
one_spread q r a x s = record {
  p = s.p;
  q = s.q;
  p_positive = s.p_positive;
  q_positive = s.q_positive;
  cols = ap suc s.cols;
  denominators = denominators;
  same = same;
}
  where
    denominators : (i : ℕ) → i < suc (suc (length r)) → pos 0 <ℤ (ratio_at (q ∷ over_one (pos 0) ∷ r) i).den
    denominators zero h = s.denominators zero (omega arith)
    denominators (suc zero) h = one_above
    denominators (suc (suc i)) h = s.denominators (suc i) (omega arith)

    same : (i : ℕ) → i < suc (suc (length r)) → s.p *ℤ (entry (a ∷ pos 0 ∷ x) i *ℤ (ratio_at (q ∷ over_one (pos 0) ∷ r) i).den) ≡ s.q *ℤ (ratio_at (q ∷ over_one (pos 0) ∷ r) i).num
    same zero h = s.same zero (omega arith)
    same (suc zero) h = both_nought s.p s.q
    same (suc (suc i)) h = s.same (suc i) (omega arith)

head_spread : (k : ℕ) (q : Ratio) (r : List Ratio) (a : ℤ) (x : Row) → Stands (q ∷ r) (a ∷ x) → Stands (q ∷ zeros k ++ r) (a ∷ nothing k ++ x)
head_spread zero q r a x s = s
head_spread (suc k) q r a x s = one_spread q (zeros k ++ r) a (nothing k ++ x) (head_spread k q r a x s)

pub spread_stands : (k : ℕ) (r : List Ratio) (x : Row) → Stands r x → Stands (spread k r) (spread_whole k x)
spread_stands k [] [] s = s
spread_stands k [] (a ∷ x) s = absurd (let e = s.cols in omega arith)
spread_stands k (q ∷ r) [] s = absurd (let e = s.cols in omega arith)
spread_stands k (q ∷ r) (a ∷ x) s = head_spread k q r a x s

pub padded_stand : (k : ℕ) (rows : List (List Ratio)) (X : List Row) → StandFor rows X → StandFor (map (padded k) rows) (map (padded_whole k) X)
padded_stand k [] [] h = tt
padded_stand k [] (x ∷ X) h = absurd h
padded_stand k (r ∷ rows) [] h = absurd h
padded_stand k (r ∷ rows) (x ∷ X) h = (padded_stands k r x h.0, padded_stand k rows X h.1)

pub spread_stand : (k : ℕ) (rows : List (List Ratio)) (X : List Row) → StandFor rows X → StandFor (map (spread k) rows) (map (spread_whole k) X)
spread_stand k [] [] h = tt
spread_stand k [] (x ∷ X) h = absurd h
spread_stand k (r ∷ rows) [] h = absurd h
spread_stand k (r ∷ rows) (x ∷ X) h = (spread_stands k r x h.0, spread_stand k rows X h.1)

pub stand_append : (rows others : List (List Ratio)) (X Y : List Row) → StandFor rows X → StandFor others Y → StandFor (rows ++ others) (X ++ Y)
stand_append [] others [] Y h g = g
stand_append [] others (x ∷ X) Y h g = absurd h
stand_append (r ∷ rows) others [] Y h g = absurd h
stand_append (r ∷ rows) others (x ∷ X) Y h g = (h.0, stand_append rows others X Y h.1 g)

-- ---- products
pub nothing_dot : (k : ℕ) (y : Row) → dot (nothing k) y ≡ pos 0
nothing_dot zero y = refl
nothing_dot (suc k) [] = refl
nothing_dot (suc k) (b ∷ y) = let e = nothing_dot k y in simp ring (omega (arith, ints))

-- a padded row sees the first columns
pub dot_padded : (k : ℕ) (a z : Row) → dot (padded_whole k a) z ≡ dot a (take (length a) z)
dot_padded k [] z = nothing_dot k z
dot_padded k (b ∷ a) [] = refl
dot_padded k (b ∷ a) (c ∷ z) = ap (λ w. b *ℤ c +ℤ w) (dot_padded k a z)

dot_behind : (k : ℕ) (a z : Row) → dot (nothing k ++ a) z ≡ dot a (drop k z)
dot_behind zero a z = refl
dot_behind (suc k) [] [] = refl
dot_behind (suc k) (b ∷ a) [] = refl
dot_behind (suc k) a (c ∷ z) = let e = dot_behind k a z in simp ring (omega (arith, ints))

-- a spread row sees the first column and those behind the k next
pub dot_spread : (k : ℕ) (a z : Row) → dot (spread_whole k a) z ≡ dot a (entry z 0 ∷ drop (suc k) z)
dot_spread k [] z = refl
dot_spread k (b ∷ a) [] = against a
  where
    against : (a : Row) → pos 0 ≡ b *ℤ pos 0 +ℤ dot a []
    against [] = simp ring refl
    against (c ∷ a) = simp ring refl
dot_spread k (b ∷ a) (c ∷ z) = ap (λ w. b *ℤ c +ℤ w) (dot_behind k a z)

pub stand_length : (rows : List (List Ratio)) (X : List Row) → StandFor rows X → length X ≡ length rows
stand_length [] [] h = refl
stand_length [] (x ∷ X) h = absurd h
stand_length (r ∷ rows) [] h = absurd h
stand_length (r ∷ rows) (x ∷ X) h = ap suc (stand_length rows X h.1)
