-- The rays of an order: they differ, and for each there is a valid row that is 0 on it alone.
use Rattle.pm_vector.proofs.ConeLaws.{in_generator, in_line, in_line_opposite}
use Rattle.pm_vector.proofs.Lists.{Among, among_All, here}
use Rattle.pm_vector.specs.Cones.{InCone}
use Rattle.pm_vector.specs.Rows.{HasCols, Row, dot}
use Rattle.pm_vector.proofs.Spans.{at_place}
use Rattle.pm_geom.proofs.Polar.{cols_at}
use Rattle.pm_geom.specs.Cones.{IsExtreme, IsOrder, IsValid, SameModulo}
use Rattle.pm_geom.specs.Faces.{ray}
use Rattle.pm_geom.specs.Graphs.{IsEdge, pair_of}
use Rattle.pm_ranks.proofs.Alike.{alike_sym, line_of, on_line_alike}
use Rattle.pm_ranks.proofs.Edges.{EdgeRow}
use Rattle.pm_ranks.proofs.Sharp.{above_all, valid_fewer_lines, valid_line}
use Rattle.pm_ranks.proofs.Tests.{at_pair, pair_at}
use Rattle.std.proofs.Common.{arith, inl, inr, subst, sym}
use Rattle.std.proofs.lemmas.Bool.{cases_lt}
use Rattle.std.proofs.lemmas.Int.{ints}
use Rattle.std.specs.Prelude.{IsTrue, List, [], length, ℕ, ◌<◌, ◌∷◌, ◌≡◌, ◌⊎◌}
use lib.IntN.{pos}
use lib.Signed.{◌<ℤ◌}

module _ (n : ℕ) (V K : List Row) (hv : HasCols n V) (hk : HasCols n K) (o : IsOrder n (InCone V K) V) where
  pub extreme_in : (v : Row) → Among v V → IsExtreme n (InCone V K) v
  extreme_in v i = among_All (λ v. IsExtreme n (InCone V K) v) i o.each

  -- places with like rays are equal
  pub distinct : (i j : ℕ) → i < length V → j < length V → SameModulo n (InCone V K) (ray V i) (ray V j) → i ≡ j
  distinct i j li lj t = elim (cases_lt i j) [
    | inl l ↦ absurd (o.once i j [] l lj t)
    | inr g ↦ elim (cases_lt j i) [ inl l ↦ absurd (o.once j i [] l li (alike_sym n V K t)) | inr h ↦ omega arith ]
  ]

  -- a row that is 0 on the ray at s and positive on the others
  pub record Alone (s : ℕ) : Type 0 where
    pub a : Row
    pub valid : IsValid n V K a
    pub zero_at : dot a (ray V s) ≡ pos 0
    pub others : (v : Row) → Among v V → SameModulo n (InCone V K) (ray V s) v ⊎ (pos 0 <ℤ dot a v)

  pub alone : (s : ℕ) → s < length V → Alone s
  alone s ls =
      let er = extreme_in (ray V s) (at_place V s ls) in
      let up = above_all n V (ray V s ∷ K) hv (er.cols, hk) V (λ y i. (cols_at i hv, in_generator i)) in
      record {
        a = up.a;
        valid = valid_fewer_lines n V K (ray V s) up.a up.valid;
        zero_at = valid_line n V (ray V s ∷ K) up.a up.valid (ray V s) er.cols (record { inside = in_line here; opposed = in_line_opposite here });
        others = λ v i. elim (up.above v i) [
          | inl h ↦ inl (on_line_alike n V K (ray V s) er v (extreme_in v i).not_line (line_of n V K (ray V s) er v (cols_at i hv) (record { inside = in_generator i; opposed = h })))
          | inr h ↦ inr h
        ];
      }

  pub edge : (i j : ℕ) (li : i < length V) → j < length V → ¬ (i ≡ j) → EdgeRow n V K hv hk extreme_in (ray V i) (at_place V i li) (ray V j) → IsEdge n V K V i j
  edge i j li lj ne w = record { first = li; second = lj; apart = ne; face = record { a = w.a; valid = w.valid; places = λ h lh. (to h, from h lh) } }
    where
      to : (h : ℕ) → IsTrue (pair_of i j h) → dot w.a (ray V h) ≡ pos 0
      to h t = elim (at_pair i j h t) [ inl e ↦ subst (λ x. dot w.a (ray V x) ≡ pos 0) (sym e) w.first | inr e ↦ subst (λ x. dot w.a (ray V x) ≡ pos 0) (sym e) w.second ]

      from : (h : ℕ) → h < length V → dot w.a (ray V h) ≡ pos 0 → IsTrue (pair_of i j h)
      from h lh z = elim (w.others (ray V h) (at_place V h lh)) [
        | inl (inl t) ↦ pair_at i j h (inr (distinct h j lh lj t))
        | inl (inr t) ↦ pair_at i j h (inl (distinct h i lh li t))
        | inr up ↦ absurd (omega (arith, ints))
      ]
