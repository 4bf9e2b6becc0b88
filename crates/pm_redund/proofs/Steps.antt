-- One turn of each loop over rows and their marks.
use Rattle.pm_vector.proofs.ConeLaws.{in_generator, in_line, in_line_opposite, in_through}
use Rattle.pm_vector.proofs.Lists.{Among}
use Rattle.pm_vector.specs.Cones.{InCone}
use Rattle.pm_vector.specs.Rows.{Row, opposite}
use Rattle.pm_vector.proofs.Spans.{place_of}
use Rattle.pm_vector.specs.Bases.{row_at}
use Rattle.pm_geom.specs.StatedOrder.{rows_marked}
use Rattle.pm_redund.proofs.Marked.{at_marked, cone_of_marked, marked_at, more_cone, set_keeps, set_kept, set_less, set_more, set_off}
use Rattle.pm_redund.specs.Keeping.{IsMore, IsNeeded}
use Rattle.pm_redund.specs.Redundancy.{IsEnough, IsKeptRow, IsRedundant, IsThinnedTo}
use Rattle.pm_simplex.specs.Lineality.{MarkLines}
use Rattle.std.proofs.Common.{arith, inl, inr, refl, subst, sym, ◌∙◌}
use Rattle.std.proofs.lemmas.Bool.{cases_eq}
use Rattle.std.proofs.lemmas.List.{get_or-set_same, length-set, set-set}
use Rattle.std.specs.Prelude.{Bool, IsTrue, List, false, get_or, length, not, slice_set, true, ℕ, ◌+◌, ◌<◌, ◌↔◌, ◌≡◌}

-- ---- rows that are enough
module _ (G L : List Row) where
  pub settled_more : (M N : List Bool) (i : ℕ) → IsMore M N → InCone (rows_marked true N G) L (row_at G i) → ((k : ℕ) → k < i → InCone (rows_marked true M G) L (row_at G k)) → (k : ℕ) → k < i + 1 → InCone (rows_marked true N G) L (row_at G k)
  settled_more M N i more here all k l = elim (cases_eq k i) [
    | inl e ↦ subst (λ (j : ℕ). InCone (rows_marked true N G) L (row_at G j)) (sym e) here
    | inr ne ↦ more_cone M N G L more (all k (omega arith))
  ]

  pub grown_enough : (M : List Bool) → length M ≡ length G → ((k : ℕ) → k < length G → InCone (rows_marked true M G) L (row_at G k)) → IsEnough G L M
  grown_enough M many all = record {
    as_many = many;
    all = λ x h. in_through (rows_marked true M G) L G L
        (λ g i. let p = place_of i in subst (λ (y : Row). InCone (rows_marked true M G) L y) p.2 (all p.0 p.1))
        (λ l i. (in_line i, in_line_opposite i)) h;
  }

  pub lines_marked : (E lines : List Bool) → IsEnough G L E → length lines ≡ length G → ((k : ℕ) → k < length G → IsTrue (get_or lines k false) ↔ InCone (rows_marked true E G) L (opposite (row_at G k))) → MarkLines G L lines
  lines_marked E lines enough many each = record {
    as_many = many;
    each = λ i l. let h = each i l in (λ t. cone_of_marked E G L (h.0 t), λ o. h.1 (enough.all (opposite (row_at G i)) o));
  }

  -- ---- redundant rows taken away
  module _ (lines : List Bool) where
    pub thinned_none : (M : List Bool) → IsEnough G L M → IsThinnedTo G L lines 0 M
    thinned_none M e = record { enough = e; needed = λ k l h. absurd (omega arith) }

    pub thinned_skip : (M : List Bool) (i : ℕ) → ¬ (IsKeptRow lines M i) → IsThinnedTo G L lines i M → IsThinnedTo G L lines (i + 1) M
    thinned_skip M i never t = record {
      enough = t.enough;
      needed = λ k l h. elim (cases_eq k i) [
        | inl e ↦ absurd (never (subst (λ (j : ℕ). IsKeptRow lines M j) e h))
        | inr ne ↦ t.needed k (omega arith) h
      ];
    }

    pub thinned_needed : (M : List Bool) (i : ℕ) → IsNeeded G L i → IsThinnedTo G L lines i M → IsThinnedTo G L lines (i + 1) M
    thinned_needed M i needed t = record {
      enough = t.enough;
      needed = λ k l h. elim (cases_eq k i) [
        | inl e ↦ subst (λ (j : ℕ). ¬ (IsRedundant G L M j)) (sym e) (needed M)
        | inr ne ↦ t.needed k (omega arith) h
      ];
    }

    module _ (M : List Bool) (i : ℕ) (l : i < length G) (kept : IsKeptRow lines M i) (t : IsThinnedTo G L lines i M) where
      below : i < length M
      below = let e = t.enough.as_many in omega arith

      dropped : InCone (rows_marked true (slice_set M i false) G) L (row_at G i) → IsThinnedTo G L lines (i + 1) (slice_set M i false)
      dropped h = record {
        enough = record { as_many = length-set M i false ∙ t.enough.as_many; all = λ x k. in_through (rows_marked true (slice_set M i false) G) L (rows_marked true M G) L each (λ l j. (in_line j, in_line_opposite j)) (t.enough.all x k) };
        needed = needed;
      }
        where
          each : (g : Row) → Among g (rows_marked true M G) → InCone (rows_marked true (slice_set M i false) G) L g
          each g j =
              let p = at_marked M G j in
              subst (λ (y : Row). InCone (rows_marked true (slice_set M i false) G) L y) p.is (elim (cases_eq p.i i) [
                | inl e ↦ subst (λ (k : ℕ). InCone (rows_marked true (slice_set M i false) G) L (row_at G k)) (sym e) h
                | inr ne ↦ in_generator (marked_at (slice_set M i false) G p.i p.within (set_keeps M i p.i false ne p.marked))
              ])

          needed : (k : ℕ) → k < i + 1 → IsKeptRow lines (slice_set M i false) k → ¬ (InCone (rows_marked true (slice_set (slice_set M i false) k false) G) L (row_at G k))
          needed k lk hk r = elim (cases_eq k i) [
            | inl e ↦ set_off M i below (subst (λ (j : ℕ). IsTrue (get_or (slice_set M i false) j false)) e hk.0)
            | inr ne ↦
                let long = length-set M i false in
                t.needed k (omega arith) (set_kept M i k false ne hk.0, hk.1) (more_cone (slice_set (slice_set M i false) k false) (slice_set M k false) G L (set_more (slice_set M i false) M k (let b = below in omega arith) (set_less M i below)) r)
          ]

      stayed : ¬ (InCone (rows_marked true (slice_set M i false) G) L (row_at G i)) → IsThinnedTo G L lines (i + 1) (slice_set M i true)
      unfolding IsMore
      stayed never = record {
        enough = record { as_many = length-set M i true ∙ t.enough.as_many; all = λ x k. more_cone M (slice_set M i true) G L up (t.enough.all x k) };
        needed = needed;
      }
        where
          up : IsMore M (slice_set M i true)
          up j h = elim (cases_eq j i) [
            | inl e ↦ subst (λ (k : ℕ). IsTrue (get_or (slice_set M i true) k false)) (sym e) (get_or-set_same M i true false below)
            | inr ne ↦ set_keeps M i j true ne h
          ]

          down : IsMore (slice_set M i true) M
          down j h = elim (cases_eq j i) [
            | inl e ↦ subst (λ (k : ℕ). IsTrue (get_or M k false)) (sym e) kept.0
            | inr ne ↦ set_kept M i j true ne h
          ]

          needed : (k : ℕ) → k < i + 1 → IsKeptRow lines (slice_set M i true) k → ¬ (InCone (rows_marked true (slice_set (slice_set M i true) k false) G) L (row_at G k))
          needed k lk hk r = elim (cases_eq k i) [
            | inl e ↦ never (subst (λ (N : List Bool). InCone (rows_marked true N G) L (row_at G i)) (set-set M i true false) (subst (λ (j : ℕ). InCone (rows_marked true (slice_set (slice_set M i true) j false) G) L (row_at G j)) e r))
            | inr ne ↦
                let long = length-set M i true in
                t.needed k (omega arith) (set_kept M i k true ne hk.0, hk.1) (more_cone (slice_set (slice_set M i true) k false) (slice_set M k false) G L (set_more (slice_set M i true) M k (let b = below in omega arith) down) r)
          ]

      pub thinned_try : (b : Bool) (N : List Bool) → N ≡ slice_set M i (not b) → (IsTrue b ↔ InCone (rows_marked true (slice_set M i false) G) L (row_at G i)) → IsThinnedTo G L lines (i + 1) N
      thinned_try true N is h = rw is (dropped (h.0 refl))
      thinned_try false N is h = rw is (stayed (λ r. let e : false ≡ true = h.1 r in cc))
