-- The rays of the next front are built from their sources, one by one.
use Rattle.std.specs.Prelude.{ℕ, suc, ◌+◌, ◌-◌, ◌≡◌, ◌<◌, ◌≤◌, ◌⊎◌, ◌↔◌, ◌&&◌, Bool, true, false, IsTrue, List, [], ◌∷◌, ◌++◌, length, get_or, take, drop}
use Rattle.std.specs.List.{All}
use Rattle.std.proofs.Common.{arith, refl, sym, subst, ap, ◌∙◌, inl, inr}
use Rattle.std.proofs.lemmas.Bool.{cases_lt}
use Rattle.std.proofs.lemmas.Int.{ints}
use Rattle.std.proofs.lemmas.List.{ext_get_or, get_or-append-add, get_or-append_right, get_or-drop, get_or-take, get_or_append_left, get_or_default, get_or_push, length-append, length-drop, length-take-le, length_push}
use Rattle.pm_vector.specs.Cones.{InSpan, IsConeSet}
use Rattle.pm_vector.specs.Divisors.{IsPrimitive}
use Rattle.pm_vector.specs.Rows.{Row, dot, entry, times, HasCols, IsZero, Same}
use Rattle.pm_vector.proofs.Ring.{ring}
use Rattle.pm_vector.proofs.Signs.{mul_cancel}
use Rattle.pm_vector.proofs.Lists.{all_from, among_All}
use Rattle.pm_vector.proofs.RowLaws.{dot-same, dot-times, entry-opposite, entry-plus, entry-times, length-times}
use Rattle.pm_vector.specs.Bases.{IsRank, row_at}
use Rattle.pm_bits.specs.Table.{Table}
use Rattle.pm_bits.specs.Sets.{has, IsIntersection}
use Rattle.pm_elim.specs.Duals.{IsDualBasis}
use Rattle.pm_geom.specs.Cones.{CutOut, IsExtreme, IsOrder, SameModulo}
use Rattle.pm_geom.specs.Faces.{ray}
use Rattle.pm_geom.proofs.Facets.{order_as}
use Rattle.pm_geom.proofs.Polar.{cols_at}
use Rattle.pm_geom.proofs.Reduce.{extreme_as, same_modulo_as}
use Rattle.pm_geom.proofs.Independent.{decide_zero}
use Rattle.pm_dd.specs.Description.{Adjacent, combined, Source, kept, pair, IsSource, IsRayStep, AreDualRays}
use Rattle.pm_dd.specs.Form.{KeepForm}
use Rattle.pm_dd.specs.Fronts.{both_signs, HalfSpaces}
use Rattle.pm_dd.specs.StepFails.{AreTooMany}
use Rattle.pm_dd.specs.Tables.{IsRayTable, IsZeroSet, zero_set}
use Rattle.pm_dd.specs.Building.{AllBut, IsBuilt, IsCombination, IsMade, IsNoPair, IsPair, IsPairRay, NextSet, NextZeros, SeenKept, SeenPairs}
use Rattle.pm_dd.proofs.AlikeLaws.{alike_sym, alike_trans}
use Rattle.pm_dd.proofs.Description.{cut_cone_set}
use Rattle.pm_dd.proofs.Next.{not_line}
use Rattle.pm_dd.proofs.Thin.{extreme_alike}
use Rattle.pm_dd.proofs.StepLaws.{at_place, dot-combined, entry-combined, place_of}
use Rattle.pm_dd.proofs.Fronts.{cut_front, dual_with_equations, next_with_equations, signs_cut_out, step_with_equations, take_cols}
use Rattle.pm_dd.proofs.Tables.{count_filter, scan_is_right, zero_set_of_pair, zero_sets_grow}
use native.Mathlib.Decide.{ℕ_discrete}
use lib.IntN.{ℤ, pos}
use lib.Signed.{◌<ℤ◌, ◌≤ℤ◌, lt_z_yes}
use Rattle.pm_limits.specs.Limits.{most_rows}

pub halves_cone_set : (E J : List Row) → IsConeSet (HalfSpaces E J)
halves_cone_set E J = record {
  same = λ s h. (signs_cut_out E J _).0 (cs.same s ((signs_cut_out E J _).1 h));
  sum = λ h k. (signs_cut_out E J _).0 (cs.sum ((signs_cut_out E J _).1 h) ((signs_cut_out E J _).1 k));
  multiple = λ hk h. (signs_cut_out E J _).0 (cs.multiple hk ((signs_cut_out E J _).1 h));
  part = λ hk h. (signs_cut_out E J _).0 (cs.part hk ((signs_cut_out E J _).1 h));
}
  where
    cs : IsConeSet (CutOut (both_signs E ++ J))
    cs = cut_cone_set (both_signs E ++ J)

-- ---- a row with the members of a zero set, and a ray with the zeros of another
zeros_as : {J : List Row} {f : ℕ} {r : Row} {z : List Bool} (y : List Bool) → IsZeroSet J f r z → length y ≡ length z → ((p : ℕ) → has y p ≡ has z p) → IsZeroSet J f r y
zeros_as y s l e = record { as_many = l ∙ s.as_many; exact = λ p. (λ h. (s.exact p).0 (sym (e p) ∙ h), λ w. e p ∙ (s.exact p).1 w) }

zeros_of : {J : List Row} {f : ℕ} {r : Row} {z : List Bool} (w : Row) → IsZeroSet J f r z → ((b : Row) → dot b r ≡ pos 0 ↔ dot b w ≡ pos 0) → IsZeroSet J f w z
zeros_of {J} w s e = record { as_many = s.as_many; exact = λ p. (λ h. let g = (s.exact p).0 h in (g.0, (e (row_at J p)).0 g.1), λ g. (s.exact p).1 (g.0, (e (row_at J p)).1 g.1)) }

-- a positive multiple is alike
pub multiple_alike : (n : ℕ) (S : Row → Type 0) → IsConeSet S → (r w : Row) (m : ℤ) → length r ≡ n → pos 0 <ℤ m → S r → Same r (times m w) → SameModulo n S r w
multiple_alike n S cs r w m lr hm hr s = record {
  p = m;
  k = pos 1;
  w = times (pos 0) r;
  cols = length-times (pos 0) r ∙ lr;
  p_positive = hm;
  k_positive = lt_z_yes tt;
  line = record { inside = z; opposed = cs.same (record { at = λ i. simp (entry-opposite, entry-times, ring) }) z };
  same = record { at = λ i. let e = simp entry-times at (s.at i) in simp (entry-plus, entry-times, ring) (omega (arith, ints)) };
}
  where
    z : S (times (pos 0) r)
    z = let h : pos 0 ≤ℤ pos 0 = omega (arith, ints) in cs.multiple h hr

module _ (n : ℕ) (E J : List Row) (f : ℕ) (lf : f < length J) (V : List Row) (Z : List (List Bool)) (t : IsRayTable n E J f V Z) where
  ray_extreme : (k : ℕ) → k < length V → IsExtreme n (HalfSpaces E (take f J)) (ray V k)
  ray_extreme k l = among_All (λ v. IsExtreme n (HalfSpaces E (take f J)) v) (at_place V k l) t.order.each

  pub made_kept : (k : ℕ) → k < length V → pos 0 ≤ℤ dot (row_at J f) (ray V k) → (y : List Bool) → NextZeros (zero_set Z k) f (dot (row_at J f) (ray V k)) y → IsMade n E J f V (kept k) (ray V k) y
  made_kept k lk up y nz =
      let e = ray_extreme k lk in
      let hr : NextSet E J f (ray V k) = (e.inside.0, (up, e.inside.1)) in
      record {
        source = (lk, up);
        cols = e.cols;
        alike = multiple_alike n (NextSet E J f) (halves_cone_set E (row_at J f ∷ take f J)) (ray V k) (ray V k) (pos 1) e.cols (lt_z_yes tt) hr (record { at = λ i. simp (entry-times, ring) });
        inside = hr;
        form = record { primitive = λ h. among_All IsPrimitive (at_place V k lk) h; zeros = λ c h. among_All (λ (v : Row). entry v c ≡ pos 0) (at_place V k lk) h };
        zeros = elim (decide_zero (dot (row_at J f) (ray V k))) [
          | inl z ↦ (zero_sets_grow J f).on (ray V k) (zero_set Z k) y lf (t.zeros k lk) z nz.as_many (nz.on z) (λ p np. nz.others p (λ q. absurd (np q)))
          | inr nq ↦ zeros_as y ((zero_sets_grow J f).away (ray V k) (zero_set Z k) lf (t.zeros k lk) nq) nz.as_many (λ p. nz.others p (λ q. nq))
        ];
      }

  module _ (hE : HasCols n E) (hJ : HasCols n J) (s : InSpan (E ++ take f J) (row_at J f)) where
    a : Row
    a = row_at J f

    la : length (row_at J f) ≡ n
    la = cols_at (at_place J f lf) hJ

    step : IsRayStep n (NextSet E J f) (take f J) (row_at J f) V
    step = step_with_equations n E (take f J) (row_at J f) hE (take_cols n f J hJ) la s V t.order

    pub made_pair : (i j : ℕ) → i < length V → j < length V → pos 0 <ℤ dot (row_at J f) (ray V i) → dot (row_at J f) (ray V j) <ℤ pos 0 → Adjacent (take f J) V i j →
        (w : Row) → IsCombination (row_at J f) (ray V i) (ray V j) w → (both y : List Bool) → length both ≡ length J → IsIntersection both (zero_set Z i) (zero_set Z j) → NextZeros both f (pos 0) y → IsMade n E J f V (pair i j) w y
    made_pair i j li lj up down adj w c both y lb m nz = from c.divided
      where
        src : IsSource (take f J) (row_at J f) V (pair i j)
        src = (li, lj, up, down, adj)

        e : IsExtreme n (NextSet E J f) (combined (row_at J f) (ray V i) (ray V j))
        e = step.each (pair i j) src

        cs : IsConeSet (NextSet E J f)
        cs = halves_cone_set E (row_at J f ∷ take f J)

        never_zero : ¬ (IsZero (combined (row_at J f) (ray V i) (ray V j)))
        never_zero q = e.not_line (cs.same (record { at = λ k. let u = q k in simp (entry-opposite, u) refl }) e.inside)

        zero_column : (g : ℤ) → pos 0 <ℤ g → Same (combined (row_at J f) (ray V i) (ray V j)) (times g w) → (e : ℕ) → All (λ v. entry v e ≡ pos 0) V → entry w e ≡ pos 0
        zero_column g hg s2 e h =
            let zi = among_All (λ (v : Row). entry v e ≡ pos 0) (at_place V i li) h in
            let zj = among_All (λ (v : Row). entry v e ≡ pos 0) (at_place V j lj) h in
            mul_cancel hg (sym (simp entry-times at (s2.at e)) ∙ entry-combined (row_at J f) (ray V i) (ray V j) e ∙ simp (zi, zj, ring))

        made_of : (g : ℤ) → pos 0 <ℤ g → Same (combined (row_at J f) (ray V i) (ray V j)) (times g w) → IsPrimitive w → IsMade n E J f V (pair i j) w y
        made_of g hg whole prim =
            let both_zero : IsZeroSet J f (combined (row_at J f) (ray V i) (ray V j)) both = zero_set_of_pair E J f lf (ray V i) (ray V j) (ray_extreme i li).inside (ray_extreme j lj).inside up down (zero_set Z i) (zero_set Z j) both (t.zeros i li) (t.zeros j lj) lb m in
            let level : dot (row_at J f) (combined (row_at J f) (ray V i) (ray V j)) ≡ pos 0 = rw dot-combined (simp ring (omega (arith, ints))) in
            record {
              source = src;
              cols = c.cols ∙ e.cols;
              alike = multiple_alike n (NextSet E J f) cs (combined (row_at J f) (ray V i) (ray V j)) w g e.cols hg e.inside whole;
              inside = cs.part hg (cs.same whole e.inside);
              form = record { primitive = λ h. prim; zeros = zero_column g hg whole };
              zeros = zeros_of w ((zero_sets_grow J f).on (combined (row_at J f) (ray V i) (ray V j)) both y lf both_zero level nz.as_many (nz.on refl) (λ p np. nz.others p (λ q. absurd (np q))))
                  (λ b. let d = dot-same b (combined (row_at J f) (ray V i) (ray V j)) (times g w) whole.at ∙ dot-times b g w in (λ u. mul_cancel hg (sym d ∙ u ∙ simp ring), λ u. d ∙ simp (u, ring)));
            }

        from : (IsZero (combined (row_at J f) (ray V i) (ray V j)) × IsZero w) ⊎ ((g : ℤ) × (pos 0 <ℤ g) × Same (combined (row_at J f) (ray V i) (ray V j)) (times g w) × IsPrimitive w) → IsMade n E J f V (pair i j) w y
        from (inl q) = absurd (never_zero q.0)
        from (inr q) = made_of q.0 q.1 q.2 q.3

    -- ---- rows that were made are extreme, and no two are alike
    signs : List Row
    signs = both_signs E ++ row_at J f ∷ take f J

    to_signs : (x : Row) → NextSet E J f x → CutOut (both_signs E ++ row_at J f ∷ take f J) x
    to_signs x h = (signs_cut_out E (row_at J f ∷ take f J) x).1 h

    of_signs : (x : Row) → CutOut (both_signs E ++ row_at J f ∷ take f J) x → NextSet E J f x
    of_signs x h = (signs_cut_out E (row_at J f ∷ take f J) x).0 h

    made_extreme : (q : Source) (w : Row) (y : List Bool) → IsMade n E J f V q w y → IsExtreme n (NextSet E J f) w
    made_extreme q w y m =
        let e = extreme_as n (NextSet E J f) (CutOut (both_signs E ++ row_at J f ∷ take f J)) (λ x lx. to_signs x) (λ x lx. of_signs x) (step.each q m.source) in
        let t = same_modulo_as n (NextSet E J f) (CutOut (both_signs E ++ row_at J f ∷ take f J)) (λ x lx. to_signs x) (λ x lx. of_signs x) m.alike in
        extreme_as n (CutOut (both_signs E ++ row_at J f ∷ take f J)) (NextSet E J f) (λ x lx. of_signs x) (λ x lx. to_signs x)
        (extreme_alike n (both_signs E ++ row_at J f ∷ take f J) m.cols (to_signs w m.inside) (not_line n (both_signs E ++ row_at J f ∷ take f J) e t) e t)

    made_once : (p q : Source) (v w : Row) (x y : List Bool) → IsMade n E J f V p v x → IsMade n E J f V q w y → SameModulo n (NextSet E J f) v w → p ≡ q
    made_once p q v w x y m o t =
        let cs = halves_cone_set E (row_at J f ∷ take f J) in
        step.once p q m.source o.source (alike_trans n (NextSet E J f) cs (alike_trans n (NextSet E J f) cs m.alike t) (alike_sym n (NextSet E J f) cs o.alike))

    to_next : (x : Row) → length x ≡ n → NextSet E J f x → HalfSpaces E (take (suc f) J) x
    to_next x lx h = (h.0, (cut_front J f lf x).1 h.1)

    of_next : (x : Row) → length x ≡ n → HalfSpaces E (take (suc f) J) x → NextSet E J f x
    of_next x lx h = (h.0, (cut_front J f lf x).0 h.1)

    pub built_many : (seen : Source → Type 0) (W : List Row) (Y : List (List Bool)) → IsBuilt n E J f V seen W Y → most_rows < length W → AreTooMany n (HalfSpaces E (take (suc f) J)) W
    built_many seen W Y b many = record {
      extreme = λ k d l. rw (get_or_default W k d [] l) (extreme_as n (NextSet E J f) (HalfSpaces E (take (suc f) J)) to_next of_next (made_extreme (get_or b.sources k (kept 0)) (ray W k) (zero_set Y k) (b.made k l)));
      apart = λ i j d l m t.
          let li : i < length W = omega arith in
          let u = rw (get_or_default W i d [] li, get_or_default W j d [] m) at t in
          b.once i j l m (made_once (get_or b.sources i (kept 0)) (get_or b.sources j (kept 0)) (ray W i) (ray W j) (zero_set Y i) (zero_set Y j) (b.made i li) (b.made j m) (same_modulo_as n (HalfSpaces E (take (suc f) J)) (NextSet E J f) of_next to_next u));
      many = many;
    }

    -- ---- when all sources were seen, the next table is there
    pub built_table : (seen : Source → Type 0) (W : List Row) (Y : List (List Bool)) → ((q : Source) → IsSource (take f J) (row_at J f) V q → seen q) → IsBuilt n E J f V seen W Y → IsRayTable n E J (f + 1) W Y
    built_table seen W Y all b = record {
      within = omega arith;
      order = subst (λ (k : ℕ). IsOrder n (HalfSpaces E (take k J)) W) next order;
      as_many = b.zeros_many;
      zeros = λ k l. subst (λ (g : ℕ). IsZeroSet J g (ray W k) (zero_set Y k)) next (b.made k l).zeros;
    }
      where
        next : suc f ≡ f + 1
        next = omega arith

        order : IsOrder n (HalfSpaces E (take (suc f) J)) W
        order = order_as n (NextSet E J f) (HalfSpaces E (take (suc f) J)) (λ x lx h. (h.0, (cut_front J f lf x).1 h.1)) (λ x lx h. (h.0, (cut_front J f lf x).0 h.1))
            (next_with_equations n E (take f J) (row_at J f) hE (take_cols n f J hJ) la s V t.order W b.sources (record {
              as_many = sym b.as_many;
              cols = all_from (λ (x : Row). length x ≡ n) W (λ x i. let w = place_of i in subst (λ (r : Row). length r ≡ n) w.2 (b.made w.0 w.1).cols);
              given = λ k l. ((b.made k l).source, (b.made k l).alike);
              inside = λ k l. (b.made k l).inside;
              every = λ q p. b.every q p (all q p);
              once = b.once;
            }))

-- ---- the rows that were made keep the form
pub built_form : (n : ℕ) (E J : List Row) (f : ℕ) (V : List Row) (seen : Source → Type 0) (W : List Row) (Y : List (List Bool)) → IsBuilt n E J f V seen W Y → KeepForm V W
built_form n E J f V seen W Y b = λ k d l. rw (get_or_default W k d [] l) ((b.made k l).form)

-- ---- sources are seen one by one
module _ (n : ℕ) (E J : List Row) (f : ℕ) (V : List Row) where
  pub built_none : (seen : Source → Type 0) → ((q : Source) → ¬ (seen q)) → IsBuilt n E J f V seen [] []
  built_none seen none' = record {
    sources = [];
    as_many = refl;
    zeros_many = refl;
    made = λ k l. absurd (omega arith);
    only = λ k l. absurd (omega arith);
    every = λ q p h. absurd (none' q h);
    once = λ i j l m. absurd (omega arith);
  }

  pub built_same : (seen seen' : Source → Type 0) (W : List Row) (Y : List (List Bool)) → ((q : Source) → seen q → seen' q) → ((q : Source) → IsSource (take f J) (row_at J f) V q → seen' q → seen q) → IsBuilt n E J f V seen W Y → IsBuilt n E J f V seen' W Y
  built_same seen seen' W Y to from b = record { sources = b.sources; as_many = b.as_many; zeros_many = b.zeros_many; made = b.made; only = λ k l. to (get_or b.sources k (kept 0)) (b.only k l); every = λ q p h. b.every q p (from q p h); once = b.once }

  module _ (seen seen' : Source → Type 0) (W : List Row) (Y : List (List Bool)) (b : IsBuilt n E J f V seen W Y) (q : Source) (w : Row) (y : List Bool) (m : IsMade n E J f V q w y) (new : ¬ (seen q)) (now : seen' q) (to : (r : Source) → seen r → seen' r)
      (from : (r : Source) → IsSource (take f J) (row_at J f) V r → seen' r → seen r ⊎ (r ≡ q)) where
    long : length (W ++ w ∷ []) ≡ length W + 1
    long = length_push W w

    old_source : (k : ℕ) → k < length W → get_or (b.sources ++ q ∷ []) k (kept 0) ≡ get_or b.sources k (kept 0)
    old_source k l = get_or_append_left b.sources (q ∷ []) (kept 0) k (let e = b.as_many in omega arith)

    last_source : get_or (b.sources ++ q ∷ []) (length W) (kept 0) ≡ q
    last_source = get_or_push b.sources q (kept 0) (length W) b.as_many

    old_made : (k : ℕ) → k < length W → IsMade n E J f V (get_or (b.sources ++ q ∷ []) k (kept 0)) (ray (W ++ w ∷ []) k) (zero_set (Y ++ y ∷ []) k)
    old_made k l = let e = b.zeros_many in rw (old_source k l, get_or_append_left W (w ∷ []) [] k l, get_or_append_left Y (y ∷ []) [] k (omega arith)) (b.made k l)

    last_made : IsMade n E J f V (get_or (b.sources ++ q ∷ []) (length W) (kept 0)) (ray (W ++ w ∷ []) (length W)) (zero_set (Y ++ y ∷ []) (length W))
    last_made = rw (last_source, get_or_push W w [] (length W) refl, get_or_push Y y [] (length W) b.zeros_many) m

    by_place : (P : ℕ → Type 0) → ((k : ℕ) → k < length W → P k) → P (length W) → (k : ℕ) → k < length (W ++ w ∷ []) → P k
    by_place P old last k l = elim (ℕ_discrete k (length W)) [ yes e ↦ subst P (sym e) last | no ne ↦ old k (let e = long in omega arith) ]

    pub built_more : IsBuilt n E J f V seen' (W ++ w ∷ []) (Y ++ y ∷ [])
    built_more = record {
      sources = b.sources ++ q ∷ [];
      as_many = length_push b.sources q ∙ ap (λ (k : ℕ). k + 1) b.as_many ∙ sym long;
      zeros_many = length_push Y y ∙ ap (λ (k : ℕ). k + 1) b.zeros_many ∙ sym long;
      made = by_place (λ k. IsMade n E J f V (get_or (b.sources ++ q ∷ []) k (kept 0)) (ray (W ++ w ∷ []) k) (zero_set (Y ++ y ∷ []) k)) old_made last_made;
      only = by_place (λ k. seen' (get_or (b.sources ++ q ∷ []) k (kept 0))) (λ k l. subst seen' (sym (old_source k l)) (to (get_or b.sources k (kept 0)) (b.only k l))) (subst seen' (sym last_source) now);
      every = λ r p h. elim (from r p h) [
        | inl old ↦ let g = b.every r p old in (g.0, (let l = g.1 in let e = long in omega arith), old_source g.0 g.1 ∙ g.2)
        | inr e ↦ (length W, (let k = long in omega arith), last_source ∙ sym e)
      ];
      once = λ i j l lj e. elim (ℕ_discrete j (length W)) [
        | yes last ↦ (let g = long in
            let li : i < length W = omega arith in
            let e1 = sym (old_source i li) ∙ e ∙ ap (λ (k : ℕ). get_or (b.sources ++ q ∷ []) k (kept 0)) last ∙ last_source in
            new (subst seen e1 (b.only i li)))
        | no ne ↦ (let g = long in
            let lj' : j < length W = omega arith in
            let li : i < length W = omega arith in
            b.once i j l lj' (sym (old_source i li) ∙ e ∙ old_source j lj'))
      ];
    }

  -- ---- the two loops
  kept_back : (i : ℕ) (r : Source) → SeenKept (i + 1) r → SeenKept i r ⊎ (r ≡ kept i)
  kept_back i (kept k) h = elim (ℕ_discrete k i) [ yes e ↦ inr (ap kept e) | no ne ↦ inl (omega arith) ]
  kept_back i (pair k l) h = absurd h

  kept_on : (i : ℕ) (r : Source) → SeenKept i r → SeenKept (i + 1) r
  kept_on i (kept k) h = omega arith
  kept_on i (pair k l) h = absurd h

  pub kept_first : (q : Source) → ¬ (SeenKept 0 q)
  kept_first (kept k) h = omega arith
  kept_first (pair k l) h = h

  pub kept_more : (i : ℕ) (W : List Row) (Y : List (List Bool)) → IsBuilt n E J f V (SeenKept i) W Y → (w : Row) (y : List Bool) → IsMade n E J f V (kept i) w y → IsBuilt n E J f V (SeenKept (i + 1)) (W ++ w ∷ []) (Y ++ y ∷ [])
  kept_more i W Y b w y m = built_more (SeenKept i) (SeenKept (i + 1)) W Y b (kept i) w y m (λ h. omega arith) (omega arith) (kept_on i) (λ r p h. kept_back i r h)

  pub kept_skip : (i : ℕ) (W : List Row) (Y : List (List Bool)) → IsBuilt n E J f V (SeenKept i) W Y → dot (row_at J f) (ray V i) <ℤ pos 0 → IsBuilt n E J f V (SeenKept (i + 1)) W Y
  kept_skip i W Y b down = built_same (SeenKept i) (SeenKept (i + 1)) W Y (kept_on i) back b
    where
      back : (r : Source) → IsSource (take f J) (row_at J f) V r → SeenKept (i + 1) r → SeenKept i r
      back (kept k) p h = elim (ℕ_discrete k i) [ yes e ↦ absurd (let u = p.1 in let v : dot (row_at J f) (ray V k) <ℤ pos 0 = subst (λ (m : ℕ). dot (row_at J f) (ray V m) <ℤ pos 0) (sym e) down in omega (arith, ints)) | no ne ↦ omega arith ]
      back (pair k l) p h = h

  pub pairs_first : IsBuilt n E J f V (SeenPairs 0 0) [] []
  pairs_first = built_none (SeenPairs 0 0) none'
    where
      none' : (q : Source) → ¬ (SeenPairs 0 0 q)
      none' (kept k) h = h
      none' (pair k l) (inl h) = omega arith
      none' (pair k l) (inr h) = (let q = h.1 in omega arith)

  pairs_on : (i j : ℕ) (r : Source) → SeenPairs i j r → SeenPairs i (j + 1) r
  pairs_on i j (kept k) h = h
  pairs_on i j (pair k l) (inl h) = inl h
  pairs_on i j (pair k l) (inr h) = inr (h.0, (let q = h.1 in omega arith))

  pairs_back : (i j : ℕ) (r : Source) → SeenPairs i (j + 1) r → SeenPairs i j r ⊎ (r ≡ pair i j)
  pairs_back i j (kept k) h = inl h
  pairs_back i j (pair k l) (inl h) = inl (inl h)
  pairs_back i j (pair k l) (inr h) = elim (ℕ_discrete l j) [ yes e ↦ inr (both h.0 e) | no ne ↦ inl (inr (h.0, (let q = h.1 in omega arith))) ]
    where
      both : k ≡ i → l ≡ j → pair k l ≡ pair i j
      both e g = ap (λ (m : ℕ). pair m l) e ∙ ap (λ (m : ℕ). pair i m) g

  pair_new : (i j : ℕ) → ¬ (SeenPairs i j (pair i j))
  pair_new i j (inl h) = omega arith
  pair_new i j (inr h) = (let q = h.1 in omega arith)

  pub pairs_more : (i j : ℕ) (W : List Row) (Y : List (List Bool)) → IsBuilt n E J f V (SeenPairs i j) W Y → (w : Row) (y : List Bool) → IsMade n E J f V (pair i j) w y → IsBuilt n E J f V (SeenPairs i (j + 1)) (W ++ w ∷ []) (Y ++ y ∷ [])
  pairs_more i j W Y b w y m = built_more (SeenPairs i j) (SeenPairs i (j + 1)) W Y b (pair i j) w y m (pair_new i j) (inr (refl, omega arith)) (pairs_on i j) (λ r p h. pairs_back i j r h)

  pub pairs_skip : (i j : ℕ) (W : List Row) (Y : List (List Bool)) → IsBuilt n E J f V (SeenPairs i j) W Y → ¬ (IsSource (take f J) (row_at J f) V (pair i j)) → IsBuilt n E J f V (SeenPairs i (j + 1)) W Y
  pairs_skip i j W Y b never = built_same (SeenPairs i j) (SeenPairs i (j + 1)) W Y (pairs_on i j) (λ r p h. elim (pairs_back i j r h) [ inl g ↦ g | inr e ↦ absurd (never (subst (λ (q : Source). IsSource (take f J) (row_at J f) V q) e p)) ]) b

  pub pairs_row : (i : ℕ) (W : List Row) (Y : List (List Bool)) → IsBuilt n E J f V (SeenPairs i (length V)) W Y → IsBuilt n E J f V (SeenPairs (i + 1) 0) W Y
  pairs_row i W Y b = built_same (SeenPairs i (length V)) (SeenPairs (i + 1) 0) W Y to back b
    where
      to : (r : Source) → SeenPairs i (length V) r → SeenPairs (i + 1) 0 r
      to (kept k) h = h
      to (pair k l) (inl h) = inl (omega arith)
      to (pair k l) (inr h) = inl (let q = h.0 in omega arith)

      back : (r : Source) → IsSource (take f J) (row_at J f) V r → SeenPairs (i + 1) 0 r → SeenPairs i (length V) r
      back (kept k) p h = h
      back (pair k l) p (inl h) = elim (ℕ_discrete k i) [ yes e ↦ inr (e, p.1) | no ne ↦ inl (omega arith) ]
      back (pair k l) p (inr h) = absurd (let q = h.1 in omega arith)

  -- a ray that is in no pair is passed over
  pub pairs_none_row : (i : ℕ) (W : List Row) (Y : List (List Bool)) → IsBuilt n E J f V (SeenPairs i 0) W Y → ((l : ℕ) → ¬ (IsSource (take f J) (row_at J f) V (pair i l))) → IsBuilt n E J f V (SeenPairs (i + 1) 0) W Y
  pairs_none_row i W Y b none = built_same (SeenPairs i 0) (SeenPairs (i + 1) 0) W Y to back b
    where
      to : (r : Source) → SeenPairs i 0 r → SeenPairs (i + 1) 0 r
      to (kept k) h = h
      to (pair k l) (inl h) = inl (omega arith)
      to (pair k l) (inr h) = absurd (let q = h.1 in omega arith)

      back : (r : Source) → IsSource (take f J) (row_at J f) V r → SeenPairs (i + 1) 0 r → SeenPairs i 0 r
      back (kept k) p h = h
      back (pair k l) p (inl h) = elim (ℕ_discrete k i) [ yes e ↦ absurd (none l (subst (λ (m : ℕ). IsSource (take f J) (row_at J f) V (pair m l)) e p)) | no ne ↦ inl (omega arith) ]
      back (pair k l) p (inr h) = absurd (let q = h.1 in omega arith)

  pub pairs_skip_row : (i : ℕ) (W : List Row) (Y : List (List Bool)) → IsBuilt n E J f V (SeenPairs i 0) W Y → dot (row_at J f) (ray V i) ≤ℤ pos 0 → IsBuilt n E J f V (SeenPairs (i + 1) 0) W Y
  pairs_skip_row i W Y b low = pairs_none_row i W Y b (λ l p. let u = p.2 in omega (arith, ints))

  -- all pairs were seen
  pub pairs_all : (i : ℕ) → length V ≤ i → (W : List Row) (Y : List (List Bool)) → IsBuilt n E J f V (SeenPairs i 0) W Y → IsBuilt n E J f V IsPair W Y
  pairs_all i le W Y = built_same (SeenPairs i 0) IsPair W Y to back
    where
      to : (r : Source) → SeenPairs i 0 r → IsPair r
      to (kept k) h = h
      to (pair k l) h = tt

      back : (r : Source) → IsSource (take f J) (row_at J f) V r → IsPair r → SeenPairs i 0 r
      back (kept k) p h = h
      back (pair k l) p h = inl (let u = p.0 in omega arith)

  -- ---- the kept rays, and after them combinations
  module _ (seen seen' : Source → Type 0) (apart : (q : Source) → seen q → ¬ (seen' q)) (W W' : List Row) (Y Y' : List (List Bool)) (b : IsBuilt n E J f V seen W Y) (c : IsBuilt n E J f V seen' W' Y') where
    long_both : length (W ++ W') ≡ length W + length W'
    long_both = length-append W W'

    first_source : (k : ℕ) → k < length W → get_or (b.sources ++ c.sources) k (kept 0) ≡ get_or b.sources k (kept 0)
    first_source k l = get_or_append_left b.sources c.sources (kept 0) k (let e = b.as_many in omega arith)

    later_source : (k : ℕ) → length W ≤ k → get_or (b.sources ++ c.sources) k (kept 0) ≡ get_or c.sources (k - length W) (kept 0)
    later_source k past = get_or-append_right b.sources c.sources (length W) k (kept 0) b.as_many past

    both_made : (k : ℕ) → k < length (W ++ W') → IsMade n E J f V (get_or (b.sources ++ c.sources) k (kept 0)) (ray (W ++ W') k) (zero_set (Y ++ Y') k)
    both_made k l = elim (cases_lt k (length W)) [
      | inl before ↦ (let e = b.zeros_many in rw (first_source k before, get_or_append_left W W' [] k before, get_or_append_left Y Y' [] k (omega arith)) (b.made k before))
      | inr past ↦ rw (later_source k past, get_or-append_right W W' (length W) k [] refl past, get_or-append_right Y Y' (length W) k [] b.zeros_many past) (c.made (k - length W) (let g = long_both in omega arith))
    ]

    both_only : (k : ℕ) → k < length (W ++ W') → seen (get_or (b.sources ++ c.sources) k (kept 0)) ⊎ seen' (get_or (b.sources ++ c.sources) k (kept 0))
    both_only k l = elim (cases_lt k (length W)) [
      | inl before ↦ inl (subst seen (sym (first_source k before)) (b.only k before))
      | inr past ↦ inr (subst seen' (sym (later_source k past)) (c.only (k - length W) (let g = long_both in omega arith)))
    ]

    both_every : (q : Source) → IsSource (take f J) (row_at J f) V q → seen q ⊎ seen' q → (k : ℕ) × (k < length (W ++ W')) × (get_or (b.sources ++ c.sources) k (kept 0) ≡ q)
    both_every q p (inl h) = let g = b.every q p h in (g.0, (let l = g.1 in let e = long_both in omega arith), first_source g.0 g.1 ∙ g.2)
    both_every q p (inr h) = let g = c.every q p h in (length b.sources + g.0, (let l = g.1 in let e = long_both in let m = b.as_many in omega arith), get_or-append-add b.sources c.sources g.0 (kept 0) ∙ g.2)

    both_once : (i j : ℕ) → i < j → j < length (W ++ W') → ¬ (get_or (b.sources ++ c.sources) i (kept 0) ≡ get_or (b.sources ++ c.sources) j (kept 0))
    both_once i j l m e = elim (cases_lt j (length W)) [
      | inl before ↦ (let li : i < length W = omega arith in b.once i j l before (sym (first_source i li) ∙ e ∙ first_source j before))
      | inr past ↦ elim (cases_lt i (length W)) [
        | inl li ↦ (let same = sym (first_source i li) ∙ e ∙ later_source j past in
            apart (get_or b.sources i (kept 0)) (b.only i li) (subst seen' (sym same) (c.only (j - length W) (let g = long_both in omega arith))))
        | inr from ↦ c.once (i - length W) (j - length W) (omega arith) (let g = long_both in omega arith) (sym (later_source i from) ∙ e ∙ later_source j past)
      ]
    ]

    pub built_both : IsBuilt n E J f V (λ q. seen q ⊎ seen' q) (W ++ W') (Y ++ Y')
    built_both = record {
      sources = b.sources ++ c.sources;
      as_many = length-append b.sources c.sources ∙ (let e = b.as_many in let g = c.as_many in let h = long_both in omega arith);
      zeros_many = length-append Y Y' ∙ (let e = b.zeros_many in let g = c.zeros_many in let h = long_both in omega arith);
      made = both_made;
      only = both_only;
      every = both_every;
      once = both_once;
    }

  -- no kept ray is a pair
  pub kept_no_pair : (i : ℕ) (q : Source) → SeenKept i q → ¬ (IsPair q)
  kept_no_pair i (kept k) h g = g
  kept_no_pair i (pair k l) h g = h

  pub kept_unpaired : (m i j : ℕ) (q : Source) → SeenKept m q → ¬ (SeenPairs i j q)
  kept_unpaired m i j (kept k) h g = g
  kept_unpaired m i j (pair k l) h g = h

  -- each source is a kept ray or a pair
  pub kept_or_pair : (q : Source) → IsSource (take f J) (row_at J f) V q → SeenKept (length V) q ⊎ IsPair q
  kept_or_pair (kept k) p = inl p.0
  kept_or_pair (pair k l) p = inr tt

-- ---- one more entry
pub entries_more : (P : ℕ → ℤ → Type 0) (v : List ℤ) (x : ℤ) (i : ℕ) → length v ≡ i → ((k : ℕ) → k < i → P k (entry v k)) → P i x → (k : ℕ) → k < i + 1 → P k (entry (v ++ x ∷ []) k)
entries_more P v x i e old last k l = elim (ℕ_discrete k i) [
  | yes q ↦ subst (λ (m : ℕ). P m (entry (v ++ x ∷ []) m)) (sym q) (subst (P i) (sym (get_or_push v x (pos 0) i e)) last)
  | no nq ↦ subst (P k) (sym (get_or_append_left v (x ∷ []) (pos 0) k (omega arith))) (old k (omega arith))
]

pub and_same : (b : Bool) → (b && b) ≡ b
and_same true = refl
and_same false = refl

-- ---- a pair of the loop
module _ (n : ℕ) (E J : List Row) (f : ℕ) (lf : f < length J) (V : List Row) (table : Table) (t : IsRayTable n E J f V table.rows) (hE : HasCols n E) (hJ : HasCols n J) (len : table.row_len ≡ length J) (i j : ℕ) (li : i < length V) (lj : j < length V) where
  pub no_pair : (d : ℕ) → IsRank (E ++ take f J) d → IsNoPair table i j (d - length E - 2) → ¬ (IsSource (take f J) (row_at J f) V (pair i j))
  no_pair d rd o p = elim o.dropped [
    | inl few ↦ count_filter n E J f V table.rows hE hJ t d rd i j li lj o.both (o.cols ∙ len) o.meet (omega arith) p.4
    | inr other ↦ (scan_is_right n E J f V table.rows t i j li lj o.both o.meet table refl).0 p.4 other
  ]

  pub pair_made : InSpan (E ++ take f J) (row_at J f) → pos 0 <ℤ dot (row_at J f) (ray V i) → dot (row_at J f) (ray V j) <ℤ pos 0 → (w : Row) (y : List Bool) → IsPairRay (row_at J f) V table i j f w y → IsMade n E J f V (pair i j) w y
  pair_made s up down w y p =
      made_pair n E J f lf V table.rows t hE hJ s i j li lj up down ((scan_is_right n E J f V table.rows t i j li lj p.both p.meet table refl).1 p.alone)
      w p.combination p.both y (p.cols ∙ len) p.meet p.zeros

-- the rays of a table have n entries
pub table_cols : (n : ℕ) (E J : List Row) (f : ℕ) (V : List Row) (Z : List (List Bool)) → IsRayTable n E J f V Z → HasCols n V
table_cols n E J f V Z t = all_from (λ (x : Row). length x ≡ n) V (λ x i. (among_All (λ v. IsExtreme n (HalfSpaces E (take f J)) v) i t.order.each).cols)

-- and so has the next row
pub front_cols : (n : ℕ) (E J : List Row) (f : ℕ) → f < length J → HasCols n J → (V : List Row) (Z : List (List Bool)) → IsRayTable n E J f V Z → HasCols (length (row_at J f)) V
front_cols n E J f lf hJ V Z t = rw (cols_at (at_place J f lf) hJ) (table_cols n E J f V Z t)

-- ---- the start: the dual rows of the inequalities
pub start_table : (n : ℕ) (E J D : List Row) (start : ℕ) (W : List Row) (Z : List (List Bool)) → IsDualBasis n (E ++ take start J) D → HasCols n (E ++ take start J) → start ≤ length J → length W ≡ start → length Z ≡ start →
    ((k : ℕ) → k < start → ray W k ≡ ray D (length E + k)) → ((k : ℕ) → k < start → AllBut (length J) start k (zero_set Z k)) → IsRayTable n E J start W Z
start_table n E J D start W Z d hc le lw lz rows sets = record {
  within = le;
  order = subst (λ (V : List Row). IsOrder n (HalfSpaces E (take start J)) V) (sym same) (dual_with_equations n E (take start J) D dual);
  as_many = lz ∙ sym lw;
  zeros = λ k l. record { as_many = (sets k (omega arith)).as_many; exact = λ p. (to k (omega arith) p, from k (omega arith) p) };
}
  where
    len : length (E ++ take start J) ≡ length E + start
    len = length-append E (take start J) ∙ ap (λ (k : ℕ). length E + k) (length-take-le start J le)

    dual : AreDualRays n (E ++ take start J) D
    dual = record {
      rows_cols = hc;
      dual_cols = all_from (λ (x : Row). length x ≡ n) D (λ x i. let w = place_of i in let q = w.1 in let m = d.as_many in subst (λ (r : Row). length r ≡ n) w.2 (d.each w.0 (omega arith)).cols);
      as_many = d.as_many;
      apart = λ i j li lj ne. (d.each j lj).others i li ne;
      own = λ i li. (d.each i li).own;
    }

    same : W ≡ drop (length E) D
    same = ext_get_or [] W (drop (length E) D) (lw ∙ (let a = length-drop (length E) D in let b = d.as_many in let c = len in omega arith)) (λ k l. rows k (omega arith) ∙ sym (get_or-drop (length E) D k []))

    at : (p : ℕ) → p < start → row_at J p ≡ row_at (E ++ take start J) (length E + p)
    at p l = sym (get_or-take start J p [] l) ∙ sym (get_or-append-add E (take start J) p [])

    to : (k : ℕ) → k < start → (p : ℕ) → IsTrue (has (zero_set Z k) p) → (p < start) × (dot (row_at J p) (ray W k) ≡ pos 0)
    to k l p h =
        let s = ((sets k l).exact p).0 h in
        let c = len in
        let sl = s.0 in
        (s.0, rw (at p s.0, rows k l) (dual.apart (length E + p) (length E + k) (omega arith) (omega arith) (λ e. s.1 (omega arith))))

    from : (k : ℕ) → k < start → (p : ℕ) → (p < start) × (dot (row_at J p) (ray W k) ≡ pos 0) → IsTrue (has (zero_set Z k) p)
    from k l p h = ((sets k l).exact p).1 (
      h.0,
      (λ e. let c = len in let own = dual.own (length E + k) (omega arith) in
          let z : dot (row_at (E ++ take start J) (length E + k)) (ray D (length E + k)) ≡ pos 0 = subst (λ (r : Row). dot r (ray D (length E + k)) ≡ pos 0) (at k l) (subst (λ (r : Row). dot (row_at J k) r ≡ pos 0) (rows k l) (subst (λ (q : ℕ). dot (row_at J q) (ray W k) ≡ pos 0) e h.1)) in
          omega (arith, ints)),
    )

pub places_more : {X : Type 0} (d : X) (P : ℕ → X → Type 0) (v : List X) (x : X) (i : ℕ) → length v ≡ i → ((k : ℕ) → k < i → P k (get_or v k d)) → P i x → (k : ℕ) → k < i + 1 → P k (get_or (v ++ x ∷ []) k d)
places_more d P v x i e old last k l = elim (ℕ_discrete k i) [
  | yes q ↦ subst (λ (m : ℕ). P m (get_or (v ++ x ∷ []) m d)) (sym q) (subst (P i) (sym (get_or_push v x d i e)) last)
  | no nq ↦ subst (P k) (sym (get_or_append_left v (x ∷ []) d k (omega arith))) (old k (omega arith))
]
