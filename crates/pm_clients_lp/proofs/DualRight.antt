-- The rows of the dual of an optimum are facet rows of different directions, in order, which bound the objective by its greatest value.
use Rattle.pm_geom.proofs.Permuted.{pairs_permuted}
use Rattle.pm_vector.proofs.ConeLaws.{dot_combination_lines, in_combination_lines, in_line, in_line_opposite}
use Rattle.pm_vector.proofs.Filters.{map_among}
use Rattle.pm_vector.proofs.Lists.{AllPairs_cons, All_among, Among, all_from, all_at}
use Rattle.pm_vector.proofs.RowLaws.{dot-same, dot_comm, entry-plus}
use Rattle.pm_vector.specs.Cones.{InCone, combination}
use Rattle.pm_vector.specs.Divisors.{IsPrimitive}
use Rattle.pm_vector.specs.Numbers.{Ratio}
use Rattle.pm_vector.specs.Rows.{HasCols, Row, dot, entry, ratio_at}
use Rattle.pm_clients_lp.proofs.WeightedRows.{IsWeight, IsWeighted, kept_weighted, multiples_length, multiples_stand, multiples_times, scaled, total_permuted, weighted_at, weighted_total, whole_is}
use Rattle.pm_clients_lp.proofs.Greatest.{fit, fit_length, fit_same}
use Rattle.pm_clients_lp.specs.Programs.{AreMultiples, AreWeighted, weighted}
use Rattle.pm_dd.proofs.Ascending.{ascending}
use Rattle.pm_dd.proofs.StepLaws.{at_place}
use Rattle.pm_geom.proofs.Independent.{combination_append}
use Rattle.pm_geom.specs.Cones.{IsFacetRow, Vanishes}
use Rattle.pm_geom.specs.Faces.{ray}
use Rattle.pm_geom.specs.Programs.{IsOptimal}
use Rattle.pm_types.specs.Right.{AreFacetDirections, IsBoundBy, total}
use Rattle.pm_types.specs.Things.{Thing}
use Rattle.std.proofs.Common.{ap, arith, subst, suc, sym, ◌∙◌}
use Rattle.std.proofs.lemmas.Int.{ints}
use Rattle.std.proofs.lemmas.List.{get_or-map, length-map}
use Rattle.std.specs.List.{AllPairs}
use Rattle.std.specs.Prelude.{Bool, List, [], drop, false, get_or, if◌then◌else◌, int_lt, length, map, true, ℕ, ◌++◌, ◌<◌, ◌∷◌, ◌≡◌, ◌≤◌}
use lib.IntN.{pos, ℤ, ◌*ℤ◌, ◌+ℤ◌}
use lib.Signed.{◌<ℤ◌}

-- ---- no two of the kept rows are the same where no two of all are
abbrev pub Differ : List Row → Type 0
Differ A = (i j : ℕ) → i < j → j < length A → ¬ (ray A i ≡ ray A j)

abbrev pub OtherRows : Row × Ratio → Row × Ratio → Type 0
OtherRows v w = ¬ (v.0 ≡ w.0)

weighted_differ : (A : List Row) (y : List Ratio) → Differ A → AllPairs OtherRows (weighted A y)
weighted_differ [] y h = λ i j d l m. absurd (omega arith)
weighted_differ (a ∷ A) [] h = λ i j d l m. absurd (omega arith)
weighted_differ (a ∷ A) (q ∷ y) h = by (weighted_differ A y (λ i j l m. h (suc i) (suc j) (omega arith) (omega arith))) (int_lt (pos 0) q.num)
  where
    by : AllPairs OtherRows (weighted A y) → (b : Bool) → AllPairs OtherRows (if b then (a, q) ∷ weighted A y else weighted A y)
    by rest true = AllPairs_cons OtherRows (a, q) (weighted A y) (λ z i. let w = weighted_at A y z i in λ e. h 0 (suc w.place) (omega arith) (let l = w.within in omega arith) (e ∙ w.row)) rest
    by rest false = rest

-- ---- the dual
module _ (t : Thing) (A E : List Row) (c : List Ratio) (v : Ratio) (p y : List Ratio) (optimal : IsOptimal A E c v p y) (kept : List (Row × Ratio)) (w : AreWeighted A y kept) (rows : List (List Ratio)) (m : AreMultiples kept rows) where
  abbrev k : ℤ
  k = optimal.dual.k

  abbrev Y : Row
  Y = optimal.dual.coefficients

  as_many : length Y ≡ length y
  as_many = optimal.dual.coefficients_times.cols

  fits : length A ≤ length y
  fits = let e = optimal.dual.multipliers.as_many in omega arith

  -- each kept pair is a row with its multiplier
  kept_at : (x : Row × Ratio) → Among x kept → IsWeighted A y x
  kept_at x i = kept_weighted A y kept w x i

  weights : (x : Row × Ratio) → Among x kept → IsWeight k x.1
  weights x i =
      let h = kept_at x i in
      let l : h.place < length y = (let a = h.within in let b = fits in omega arith) in
      let den = optimal.dual.coefficients_times.denominators h.place l in
      let same = optimal.dual.coefficients_times.same h.place l in
      subst (IsWeight k) (sym h.multiplier)
      (record { num = subst (λ z. pos 0 <ℤ z.num) h.multiplier h.positive; den = den; same = ap (λ z. z *ℤ (ratio_at y h.place).den) (whole_is k (entry Y h.place) (ratio_at y h.place) den same) ∙ same })

  module _ (cols : HasCols t.cols A) (facets : (i : ℕ) → i < length A → IsFacetRow t.cols t.generators t.lines (ray A i)) (differ : Differ A) (primitive : (i : ℕ) → i < length A → IsPrimitive (ray A i)) where
    abbrev firsts : List Row
    firsts = map (λ x. x.0) kept

    each : (P : Row → Type 0) → ((i : ℕ) → i < length A → P (ray A i)) → (x : Row) → Among x firsts → P x
    each P h x i = let (z, j, e) = map_among (λ x. x.0) kept i in let k = kept_at z j in subst P (sym (e ∙ k.row)) (h k.place k.within)

    first_at : (i : ℕ) → i < length firsts → ray firsts i ≡ (get_or kept i ([], record { num = pos 0; den = pos 1 })).0
    first_at i l = let n = length-map kept (λ x. x.0) in get_or-map (λ x. x.0) kept i ([], record { num = pos 0; den = pos 1 }) [] (omega arith)

    apart : (i j : ℕ) → i < j → j < length firsts → ¬ (ray firsts i ≡ ray firsts j)
    apart i j l b e =
        let n = length-map kept (λ x. x.0) in
        pairs_permuted OtherRows (weighted A y) kept (λ x z h q. h (sym q)) w.permutation (weighted_differ A y differ) i j ([], record { num = pos 0; den = pos 1 }) l (omega arith)
        (sym (first_at i (omega arith)) ∙ e ∙ first_at j b)

    pub directions : AreFacetDirections t rows
    directions = record {
      xs = firsts;
      stand = multiples_stand k optimal.dual.coefficients_times.positive kept rows m weights;
      facets = All_among (IsFacetRow t.cols t.generators t.lines) firsts (each (IsFacetRow t.cols t.generators t.lines) facets);
      primitive = All_among IsPrimitive firsts (each IsPrimitive primitive);
      ascending = ascending t.cols firsts (all_from (λ (x : Row). length x ≡ t.cols) firsts (each (λ x. length x ≡ t.cols) (λ i l. all_at (λ (x : Row). length x ≡ t.cols) (at_place A i l) cols))) w.sorted apart;
    }

  module _ (cols : HasCols t.cols E) (vanish : (e : Row) → Among e E → Vanishes t.cols t.generators t.lines e) where
    abbrev Z : Row
    Z = combination (drop (length A) Y) E

    spanned : InCone [] E Z
    spanned = in_combination_lines [] E (drop (length A) Y) E (λ e i. (in_line i, in_line_opposite i))

    zero : (x : Row) → length x ≡ t.cols → InCone t.generators t.lines x → dot (fit t.cols Z) x ≡ pos 0
    zero x lx h =
        dot_comm (fit t.cols Z) x ∙ sym (dot-same x Z (fit t.cols Z) (fit_same t.cols [] E tt cols Z spanned).at)
        ∙ dot_combination_lines x (drop (length A) Y) E (λ e i. dot_comm x e ∙ (vanish e i).holds x lx h)

    sums : (j : ℕ) → entry (total (map (scaled k) kept)) j +ℤ entry (fit t.cols Z) j ≡ entry (combination Y (A ++ E)) j
    sums j =
        let a = total_permuted (scaled k) (weighted A y) kept w.permutation j in
        let b = weighted_total k A y Y fits as_many optimal.dual.coefficients_times.denominators optimal.dual.coefficients_times.same optimal.dual.multipliers.not_negative j in
        let z = (fit_same t.cols [] E tt cols Z spanned).at j in
        let s = combination_append A E Y j in
        omega (arith, ints)

    pub bound : IsBoundBy t c v rows
    bound = record {
      k = k;
      objective = optimal.dual.objective;
      xs = map (scaled k) kept;
      rest = fit t.cols Z;
      constant = optimal.dual.constant;
      objective_times = optimal.dual.objective_times;
      as_many = length-map kept (scaled k) ∙ sym (multiples_length kept rows m);
      times = multiples_times k optimal.dual.coefficients_times.positive kept rows m weights;
      vanishes = record { cols = fit_length t.cols Z; holds = zero };
      constant_times = optimal.dual.constant_times;
      sum = record {
        at = λ j.
            entry-plus optimal.dual.objective _ j ∙ ap (λ z. entry optimal.dual.objective j +ℤ z) (entry-plus (total (map (scaled k) kept)) (fit t.cols Z) j ∙ sums j) ∙ sym (entry-plus optimal.dual.objective (combination Y (A ++ E)) j)
            ∙ optimal.dual.sum.at j;
      };
    }
