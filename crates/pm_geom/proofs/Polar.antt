-- Membership, Farkas, the bipolar theorem, and: a cone that finitely many rows cut out is generated.
use Rattle.pm_vector.proofs.ConeLaws.{dot_in, in_generator}
use Rattle.pm_vector.proofs.Lists.{Among, all_at, all_from, here, there}
use Rattle.pm_vector.proofs.RowLaws.{dot_comm}
use Rattle.pm_vector.specs.Cones.{InCone}
use Rattle.pm_vector.specs.Rows.{HasCols, Row, dot}
use Rattle.pm_geom.proofs.Cuts.{CutBy}
use Rattle.pm_geom.proofs.Generated.{cut_in}
use Rattle.pm_geom.specs.Cones.{CutOut, IsValid}
use Rattle.pm_geom.specs.Laws.{Bipolar, CutIsGenerated, Farkas, GeneratedIsCut, MembershipDecided}
use Rattle.std.proofs.Common.{arith, inl, inr}
use Rattle.std.proofs.lemmas.Int.{by_lt_z, ints}
use Rattle.std.specs.Prelude.{List, [], length, ℕ, ◌∷◌, ◌≡◌, ◌⊎◌}
use lib.IntN.{pos}
use lib.Signed.{◌<ℤ◌, ◌≤ℤ◌}

pub cut_at : {B : List Row} {b : Row} (x : Row) → Among b B → CutOut B x → pos 0 ≤ℤ dot b x
cut_at x i h = all_at (λ (b : Row). pos 0 ≤ℤ dot b x) i h

pub cut_from : (B : List Row) (x : Row) → ((b : Row) → Among b B → pos 0 ≤ℤ dot b x) → CutOut B x
cut_from B x f = all_from (λ b. pos 0 ≤ℤ dot b x) B f

pub cols_at : {n : ℕ} {B : List Row} {b : Row} → Among b B → HasCols n B → length b ≡ n
cols_at {n} i h = all_at (λ (b : Row). length b ≡ n) i h

-- each product is at least 0, or one is below
pub cut_or_below : (B : List Row) (x : Row) → CutOut B x ⊎ ((b : Row) × Among b B × (dot b x <ℤ pos 0))
cut_or_below [] x = inl tt
cut_or_below (b ∷ B) x =
    by_lt_z (dot b x) (pos 0)
    (λ h. inr (b, here, h))
    (λ h. elim (cut_or_below B x) [ inl k ↦ inl (h, k) | inr w ↦ inr (w.0, there w.1, w.2) ])

pub generated_is_cut : GeneratedIsCut
generated_is_cut n G L hg hl = let c = cut_in n G L hg hl in (c.rows, c.cols, λ x l. (c.valid x l, c.enough x l))

module _ (n : ℕ) (G L : List Row) (hg : HasCols n G) (hl : HasCols n L) where
  valid_row : {b : Row} → Among b (cut_in n G L hg hl).rows → IsValid n G L b
  valid_row i = let c = cut_in n G L hg hl in record { cols = cols_at i c.cols; holds = λ x l h. cut_at x i (c.valid x l h) }

  pub in_or_apart : (x : Row) → length x ≡ n → InCone G L x ⊎ ((a : Row) × IsValid n G L a × (dot a x <ℤ pos 0))
  in_or_apart x l =
      let c = cut_in n G L hg hl in
      elim (cut_or_below c.rows x) [ inl h ↦ inl (c.enough x l h) | inr w ↦ inr (w.0, valid_row w.1, w.2) ]

pub membership_decided : MembershipDecided
membership_decided n G L hg hl x l =
    elim (in_or_apart n G L hg hl x l) [ inl h ↦ inl h | inr w ↦ inr (λ h. let k = w.1.holds x l h in let g = w.2 in omega (arith, ints)) ]

pub farkas : Farkas
farkas n G L hg hl x l no_in = elim (in_or_apart n G L hg hl x l) [ inl h ↦ absurd (no_in h) | inr w ↦ w ]

pub bipolar : Bipolar
bipolar n G L hg hl x l f =
    elim (in_or_apart n G L hg hl x l) [ inl h ↦ h | inr w ↦ absurd (let k = f w.0 w.1 in let g = w.2 in omega (arith, ints)) ]

-- the rows that cut out cone(A) generate the cone that A cuts out
pub cut_is_generated : CutIsGenerated
cut_is_generated n A ha = (c.rows, c.cols, λ x l. (to_cut x, from_cut x l))
  where
    c : CutBy n (InCone A [])
    c = cut_in n A [] ha tt

    e : CutBy n (InCone c.rows [])
    e = cut_in n c.rows [] c.cols tt

    to_cut : (x : Row) → InCone c.rows [] x → CutOut A x
    to_cut x h = cut_from A x (λ a i. dot_in a c.rows [] (λ b j. rw dot_comm (cut_at a j (c.valid a (cols_at i ha) (in_generator i)))) (λ l j. elim j [ ]) h)

    from_cut : (x : Row) → length x ≡ n → CutOut A x → InCone c.rows [] x
    from_cut x l h =
        e.enough x l (cut_from e.rows x (λ d i.
        rw dot_comm (
        let member : InCone A [] d = c.enough d (cols_at i e.cols) (cut_from c.rows d (λ b j. rw dot_comm (cut_at b i (e.valid b (cols_at j c.cols) (in_generator j))))) in
        dot_in x A [] (λ a j. rw dot_comm (cut_at x j h)) (λ l j. elim j [ ]) member)))
