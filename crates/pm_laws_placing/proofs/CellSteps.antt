-- One step of the placing triangulation keeps that the cells carry the least sums, and that each spans the cone.
use Rattle.pm_vector.proofs.ConeLaws.{in_generator, in_line}
use Rattle.pm_vector.proofs.Lists.{All_among, Among, Contains_among, all_append, all_from, among_All, among_Any, among_Contains, among_append, among_append_left, among_append_right, here, there}
use Rattle.pm_vector.specs.Cones.{InSpan}
use Rattle.pm_vector.specs.Rows.{HasCols, Row, dot}
use Rattle.pm_vector.proofs.Spans.{span_of}
use Rattle.pm_laws_placing.proofs.CellMasks.{At, Without, among_holds, among_rows_at, at_among, at_below, at_has, at_of, at_ray, cell_free, has_at, holds_among, holds_not, length_rows_at, mask, rows_at_among, without}
use Rattle.pm_laws_placing.proofs.FacetSpans.{exchanged_span, facet_span, on_lines}
use Rattle.pm_laws_placing.proofs.FullSums.{Full, Spans, full}
use Rattle.pm_laws_placing.proofs.LeastSums.{exchanged, nonneg_at, nonneg_from}
use Rattle.pm_laws_placing.proofs.PlacingStep.{dot_parts_zero, parts_zero, placing_step}
use Rattle.pm_laws_placing.specs.LeastSums.{IsLeastCell, IsLeastList, IsPlaced, Walls, Within, at, has}
use Rattle.pm_laws_placing.specs.Placing.{IsExchange, IsNextCells, IsOnlyOff}
use Rattle.pm_geom.specs.Triangulations.{rows_at}
use Rattle.pm_geom.proofs.Facets.{facet_rows_cut_out}
use Rattle.pm_geom.proofs.Independent.{decide_zero}
use Rattle.pm_geom.proofs.Lineality.{facet_order_cuts_out}
use Rattle.pm_geom.proofs.Polar.{cols_at}
use Rattle.pm_geom.proofs.ValidRows.{null_in}
use Rattle.pm_geom.specs.Cones.{IsFacetRow, IsOrder, IsValid, Vanishes}
use Rattle.pm_geom.specs.Faces.{ray}
use Rattle.std.specs.Prelude.{ℕ, zero, suc, ◌<◌, ◌≡◌, ◌⊎◌, Bool, true, false, List, [], ◌∷◌, ◌++◌, length, map}
use Rattle.std.specs.List.{Contains}
use Rattle.std.proofs.Common.{arith, ap, refl, sym, subst, ◌∙◌, inl, inr}
use Rattle.std.proofs.lemmas.Int.{ints}
use native.Mathlib.Decide.{ℕ_discrete}
use lib.IntN.{ℤ, pos}
use lib.Signed.{◌<ℤ◌, ◌≤ℤ◌}
use Rattle.std.proofs.lemmas.Bool.{cases_Bool}

pub map_among : {A B : Type 0} (f : A → B) (xs : List A) {y : B} → Among y (map f xs) → (x : A) × Among x xs × (f x ≡ y)
map_among f [] i = elim i [ ]
map_among f (x ∷ xs) here = (x, here, refl)
map_among f (x ∷ xs) (there i) = let r = map_among f xs i in (r.0, there r.1, r.2)

pub among_map : {A B : Type 0} (f : A → B) {x : A} {xs : List A} → Among x xs → Among (f x) (map f xs)
among_map f here = here
among_map f (there i) = there (among_map f i)

-- the part of a sum on the rows on which a is 0
record FlatPart (a : Row) (c : List ℤ) (W : List Row) : Type 0 where
  e : List ℤ
  as_many : length e ≡ length W
  not_negative : (q : ℕ) → pos 0 ≤ℤ at e q
  zero_or : (q : ℕ) → (at e q ≡ pos 0) ⊎ (dot a (ray W q) ≡ pos 0)
  kept : (q : ℕ) → q < length W → dot a (ray W q) ≡ pos 0 → at e q ≡ at c q
  below : (q : ℕ) → at c q ≡ pos 0 → at e q ≡ pos 0

flat_part : (a : Row) (c : List ℤ) (W : List Row) → length c ≡ length W → ((q : ℕ) → pos 0 ≤ℤ at c q) → FlatPart a c W
flat_part a [] [] l h = record { e = []; as_many = refl; not_negative = h; zero_or = λ q. inl refl; kept = λ q m z. refl; below = λ q z. refl }
flat_part a [] (w ∷ W) l h = absurd (omega arith)
flat_part a (k ∷ c) [] l h = absurd (omega arith)
flat_part a (k ∷ c) (w ∷ W) l h =
    let r = flat_part a c W (omega arith) (λ q. h (suc q)) in
    elim (decide_zero (dot a w)) [
      | inl z ↦ record { e = k ∷ r.e; as_many = ap suc r.as_many; not_negative = first_sign r; zero_or = first_zero r z; kept = first_kept r; below = first_below r }
      | inr nz ↦ record { e = pos 0 ∷ r.e; as_many = ap suc r.as_many; not_negative = other_sign r; zero_or = other_zero r; kept = other_kept r nz; below = other_below r }
    ]
  where
    first_sign : (r : FlatPart a c W) → (q : ℕ) → pos 0 ≤ℤ at (k ∷ r.e) q
    first_sign r zero = h 0
    first_sign r (suc q) = r.not_negative q

    first_zero : (r : FlatPart a c W) → dot a w ≡ pos 0 → (q : ℕ) → (at (k ∷ r.e) q ≡ pos 0) ⊎ (dot a (ray (w ∷ W) q) ≡ pos 0)
    first_zero r z zero = inr z
    first_zero r z (suc q) = r.zero_or q

    first_kept : (r : FlatPart a c W) → (q : ℕ) → q < length (w ∷ W) → dot a (ray (w ∷ W) q) ≡ pos 0 → at (k ∷ r.e) q ≡ at (k ∷ c) q
    first_kept r zero m z = refl
    first_kept r (suc q) m z = r.kept q (omega arith) z

    first_below : (r : FlatPart a c W) → (q : ℕ) → at (k ∷ c) q ≡ pos 0 → at (k ∷ r.e) q ≡ pos 0
    first_below r zero z = z
    first_below r (suc q) z = r.below q z

    other_sign : (r : FlatPart a c W) → (q : ℕ) → pos 0 ≤ℤ at (pos 0 ∷ r.e) q
    other_sign r zero = omega (arith, ints)
    other_sign r (suc q) = r.not_negative q

    other_zero : (r : FlatPart a c W) → (q : ℕ) → (at (pos 0 ∷ r.e) q ≡ pos 0) ⊎ (dot a (ray (w ∷ W) q) ≡ pos 0)
    other_zero r zero = inl refl
    other_zero r (suc q) = r.zero_or q

    other_kept : (r : FlatPart a c W) → ¬ (dot a w ≡ pos 0) → (q : ℕ) → q < length (w ∷ W) → dot a (ray (w ∷ W) q) ≡ pos 0 → at (pos 0 ∷ r.e) q ≡ at (k ∷ c) q
    other_kept r nz zero m z = absurd (nz z)
    other_kept r nz (suc q) m z = r.kept q (omega arith) z

    other_below : (r : FlatPart a c W) → (q : ℕ) → at (k ∷ c) q ≡ pos 0 → at (pos 0 ∷ r.e) q ≡ pos 0
    other_below r zero z = refl
    other_below r (suc q) z = r.below q z

-- a is 0 on all rays of a cell, or not on one
off_or_flat : (G : List Row) (a : Row) (t : List ℕ) → ((k : ℕ) → Among k t → dot a (ray G k) ≡ pos 0) ⊎ ((i : ℕ) × Among i t × ¬ (dot a (ray G i) ≡ pos 0))
off_or_flat G a [] = inl (λ k i. elim i [ ])
off_or_flat G a (j ∷ t) = elim (decide_zero (dot a (ray G j))) [
  | inr nz ↦ inr (j, here, nz)
  | inl z ↦ elim (off_or_flat G a t) [ inr w ↦ inr (w.0, there w.1, w.2) | inl f ↦ inl (flat z f) ]
]
  where
    flat : dot a (ray G j) ≡ pos 0 → ((k : ℕ) → Among k t → dot a (ray G k) ≡ pos 0) → (k : ℕ) → Among k (j ∷ t) → dot a (ray G k) ≡ pos 0
    flat z f k here = z
    flat z f k (there i) = f k i

-- the cells T over the places P carry the least sums, hold places of P alone, and span the cone
pub record Carried (G L : List Row) (P : List ℕ) (T : List (List ℕ)) : Type 0 where
  pub least : IsLeastList (rows_at G P) L (map (mask P) T)
  pub inside : (s : List ℕ) → Among s T → (j : ℕ) → Among j s → Among j P
  pub spans : (s : List ℕ) → Among s T → (p : ℕ) → Among p P → InSpan (rows_at G s ++ L) (ray G p)

-- the rows of an order of the facet rows are walls
pub walls : (n : ℕ) (W L F : List Row) → HasCols n W → HasCols n L → IsOrder n (IsValid n W L) F → Walls n W L F
walls n W L F hW hL order = record {
  above = λ a w ca cw. (facet a ca).inside.holds w (cols_at (among_Contains W cw) hW) (in_generator (among_Contains W cw));
  flat = λ a l ca cl. on_lines n W L hL a (facet a ca).inside l (among_Contains L cl);
  enough = λ x lx hx cut.
      let (F0, E, hE, order0, van, gen0, cut0) = facet_rows_cut_out n W L hW hL in
      ((facet_order_cuts_out n W L hW hL F E hE order van).1 x lx).1 (cut, All_among (λ e. dot e x ≡ pos 0) E (λ e i. null e ((van e (cols_at i hE)).1 (in_line i)) x hx));
}
  where
    facet : (a : Row) → Contains F a → IsFacetRow n W L a
    facet a c = among_All (λ a. IsFacetRow n W L a) (among_Contains F c) order.each

    null : (e : Row) → Vanishes n W L e → (x : Row) → InSpan (W ++ L) x → dot e x ≡ pos 0
    null e van x hx = null_in e [] (W ++ L) (λ g i. elim i [ ]) (λ l i. elim (among_append W L i) [ inl j ↦ van.holds l (cols_at j hW) (in_generator j) | inr j ↦ van.holds l (cols_at j hL) (in_line j) ]) hx

module _ (n : ℕ) (G L : List Row) (P : List ℕ) (T U : List (List ℕ)) (F : List Row) (j : ℕ) (hW : HasCols n (rows_at G P)) (hL : HasCols n L) (lv : length (ray G j) ≡ n) (order : IsOrder n (IsValid n (rows_at G P) L) F) (hv : InSpan (rows_at G P ++ L) (ray G j)) (fresh : ¬ (Among j P)) (next : IsNextCells G F j T U) (carried : Carried G L P T) where
  facet : (a : Row) → Contains F a → IsFacetRow n (rows_at G P) L a
  facet a c = among_All (λ a. IsFacetRow n (rows_at G P) L a) (among_Contains F c) order.each

  cell_of : (s : List ℕ) → Among s T → IsLeastCell (rows_at G P) L (mask P s)
  cell_of s i = among_All (λ m. IsLeastCell (rows_at G P) L m) (among_map (mask P) i) carried.least.cells

  cols_of : (p : ℕ) → Among p P → length (ray G p) ≡ n
  cols_of p i = cols_at (among_rows_at G P p i) hW

  in_whole : (p : ℕ) → Among p P → InSpan (rows_at G P ++ L) (ray G p)
  in_whole p i = in_line (among_append_left L (among_rows_at G P p i))

  above : (a : Row) → Contains F a → (w : Row) → Among w (rows_at G P) → pos 0 ≤ℤ dot a w
  above a c w i = (facet a c).inside.holds w (cols_at i hW) (in_generator i)

  flat : (a : Row) → Contains F a → (l : Row) → Among l L → dot a l ≡ pos 0
  flat a c l i = on_lines n (rows_at G P) L hL a (facet a c).inside l i

  -- the whole span, in that of a cell
  in_cell_span : (s : List ℕ) → Among s T → {x : Row} → InSpan (rows_at G P ++ L) x → InSpan (rows_at G s ++ L) x
  in_cell_span s is h = span_of (rows_at G s ++ L) (rows_at G P ++ L) each h
    where
      each : (r : Row) → Among r (rows_at G P ++ L) → InSpan (rows_at G s ++ L) r
      each r i = elim (among_append (rows_at G P) L i) [
        | inl k ↦ let w = rows_at_among G P r k in subst (λ (x : Row). InSpan (rows_at G s ++ L) x) w.2 (carried.spans s is w.0 w.1)
        | inr k ↦ in_line (among_append_right (rows_at G s) k)
      ]

  masked : (s : List ℕ) → Among s T → mask (j ∷ P) s ≡ false ∷ mask P s
  masked s is = ap (λ (b : Bool). b ∷ mask P s) (holds_not s j (λ k. fresh (carried.inside s is j k)))

  -- ---- each cell is an old one, or one on a wall
  each_cell : (m : List Bool) → Contains (map (mask (j ∷ P)) U) m → ((s : List Bool) × Contains (map (mask P) T) s × (m ≡ false ∷ s))
      ⊎ ((s : List Bool) × (a : Row) × (t : List Bool) × Contains (map (mask P) T) s × Contains F a × (dot a (ray G j) <ℤ pos 0) × (m ≡ true ∷ t) × ((q : ℕ) → has t q ≡ true → (has s q ≡ true) × (dot a (ray (rows_at G P) q) ≡ pos 0)))
  each_cell m c =
      let r = map_among (mask (j ∷ P)) U (among_Contains (map (mask (j ∷ P)) U) c) in
      let u = r.0 in
      elim (next.each r.0 (Contains_among r.1)) [
        | inl old ↦ (let i = among_Contains T old in inl (mask P r.0, Contains_among (among_map (mask P) i), sym r.2 ∙ masked r.0 i))
        | inr w ↦ inr (mask P w.1, w.0, mask P r.0, Contains_among (among_map (mask P) (among_Contains T w.5)), w.3, w.4, sym r.2 ∙ ap (λ (b : Bool). b ∷ mask P r.0) (among_holds r.0 j (among_Contains r.0 ((w.7.same j).1 (inr refl)))), λ q h. on_wall w.0 w.1 w.2 r.0 w.6 w.7 q h)
      ]
    where
      on_wall : (a : Row) (s : List ℕ) (i : ℕ) (u : List ℕ) → IsOnlyOff G a s i → IsExchange s i j u → (q : ℕ) → has (mask P u) q ≡ true → (has (mask P s) q ≡ true) × (dot a (ray (rows_at G P) q) ≡ pos 0)
      on_wall a s i u off ex q h =
          let w = has_at u P q h in
          elim ((ex.same w.0).0 (Contains_among w.2)) [
            | inl k ↦ (at_has s w.1 ∙ among_holds s w.0 (among_Contains s k.0), ap (λ (x : Row). dot a x) (at_ray G w.1) ∙ off.others w.0 k.0 k.1)
            | inr e ↦ absurd (fresh (subst (λ (p : ℕ). Among p P) e (at_among w.1)))
          ]

  kept_cell : (m : List Bool) → Contains (map (mask P) T) m → Contains (map (mask (j ∷ P)) U) (false ∷ m)
  kept_cell m c =
      let r = map_among (mask P) T (among_Contains (map (mask P) T) c) in
      let i = among_Contains U (next.kept r.0 (Contains_among r.1)) in
      subst (λ (x : List Bool). Contains (map (mask (j ∷ P)) U) (false ∷ x)) r.2 (subst (λ (x : List Bool). Contains (map (mask (j ∷ P)) U) x) (masked r.0 r.1) (Contains_among (among_map (mask (j ∷ P)) i)))

  -- ---- a cell on a facet row that j is below lies in one of which exactly one ray is off
  module _ (a : Row) (ca : Contains F a) (below : dot a (ray G j) <ℤ pos 0) (s : List ℕ) (is : Among s T) where
    part : FlatPart a (cell_of s is).c (rows_at G P)
    part = flat_part a (cell_of s is).c (rows_at G P) (cell_of s is).is_least.as_many (nonneg_at (cell_of s is).c (cell_of s is).is_least.not_negative)

    most : Full n (rows_at G P) L a part.e
    most = full n (rows_at G P) L hW hL a (facet a ca).cols (above a ca) (flat a ca) part.e
        (exchanged (rows_at G P) L (cell_of s is).c (cell_of s is).is_least part.e part.as_many (nonneg_from part.e part.not_negative) part.below)
        (dot_parts_zero a part.e (rows_at G P) part.zero_or)

    module _ (t : List ℕ) (it : Among t T) (within : Within (mask P t) most.e) where
      -- the places with a positive number stand in t, on the row
      positive_at : (p q : ℕ) → At p q P → pos 0 <ℤ at most.e q → Among p t × (dot a (ray G p) ≡ pos 0)
      positive_at p q i h = (
        elim (cases_Bool (has (mask P t) q)) [
          | inl e ↦ holds_among t p (sym (at_has t i) ∙ e)
          | inr e ↦ absurd (let z = within q e in omega (arith, ints))
        ],
        elim (parts_zero a most.e (rows_at G P) most.is_least.not_negative (above a ca) most.flat q (subst (λ (k : ℕ). q < k) (sym (length_rows_at G P)) (at_below i))) [
          | inl z ↦ absurd (omega (arith, ints))
          | inr z ↦ ap (λ (x : Row). dot a x) (sym (at_ray G i)) ∙ z
        ],
      )

      rows_cols : (r : List ℕ) → ((k : ℕ) → Among k r → Among k t) → HasCols n (rows_at G r)
      rows_cols r f = all_from (λ (x : Row). length x ≡ n) (rows_at G r) (λ x i. let w = rows_at_among G r x i in subst (λ (y : Row). length y ≡ n) w.2 (cols_of w.0 (carried.inside t it w.0 (f w.0 w.1))))

      one_off : (i : ℕ) → Among i t → ¬ (dot a (ray G i) ≡ pos 0) → (k : ℕ) → Among k t → ¬ (k ≡ i) → dot a (ray G k) ≡ pos 0
      unfolding Spans
      one_off i it' ni k kt ne = elim (decide_zero (dot a (ray G k))) [ inl z ↦ z | inr nk ↦ absurd (two nk) ]
        where
          rest : Without k t
          rest = without k t

          cols : HasCols n (rows_at G rest.rest)
          cols = rows_cols rest.rest (λ p m. (rest.to p m).0)

          found : ¬ (dot a (ray G k) ≡ pos 0) → (q : ℕ) → q < length (rows_at G P) → pos 0 <ℤ at most.e q → Among (ray (rows_at G P) q) (rows_at G rest.rest)
          found nk q l h =
              let w = at_of P q (subst (λ (m : ℕ). q < m) (length_rows_at G P) l) in
              let p = positive_at w.0 q w.1 h in
              subst (λ (x : Row). Among x (rows_at G rest.rest)) (sym (at_ray G w.1)) (among_rows_at G rest.rest w.0 (rest.from w.0 p.0 (λ e. nk (ap (λ (m : ℕ). dot a (ray G m)) (sym e) ∙ p.1))))

          two : ¬ (dot a (ray G k) ≡ pos 0) → ⊥
          two nk =
              let ip = carried.inside t it i it' in
              let kp = carried.inside t it k kt in
              cell_free G L P t (carried.inside t it) (cell_of t it) k kt rest
              (facet_span n (rows_at G P) L hW hL a (ray G i) (cols_of i ip) (facet a ca) (in_whole i ip) ni (rows_at G rest.rest ++ L)
              (all_append (λ (x : Row). length x ≡ n) (rows_at G rest.rest) L cols hL)
              (λ g ig z. most.spans (rows_at G rest.rest) cols (found nk) g ig z)
              (λ l il. in_line (among_append_right (rows_at G rest.rest) il))
              (in_line (among_append_left L (among_rows_at G rest.rest i (rest.from i it' (λ e. ne (sym e))))))
              (ray G k) (cols_of k kp) (in_whole k kp))

      some_off : (i : ℕ) × Among i t × ¬ (dot a (ray G i) ≡ pos 0)
      some_off = elim (off_or_flat G a t) [
        | inr w ↦ w
        | inl f ↦ absurd (
            let z = null_in a [] (rows_at G t ++ L) (λ g i. elim i [ ]) (λ l i. elim (among_append (rows_at G t) L i) [ inl k ↦ (let w = rows_at_among G t l k in subst (λ (x : Row). dot a x ≡ pos 0) w.2 (f w.0 w.1)) | inr k ↦ flat a ca l k ]) (in_cell_span t it hv) in
            let b = below in
            omega (arith, ints))
      ]

      only_off : IsOnlyOff G a t some_off.0
      only_off = record { member = Contains_among some_off.1; off = some_off.2; others = λ k c ne. one_off some_off.0 some_off.1 some_off.2 k (among_Contains t c) ne }

      new_cell : (m : List Bool) × Contains (map (mask (j ∷ P)) U) (true ∷ m) × ((q : ℕ) → has (mask P s) q ≡ true → dot a (ray (rows_at G P) q) ≡ pos 0 → has m q ≡ true)
      new_cell =
          let w = next.joined a t some_off.0 ca below (Contains_among it) only_off in (
            mask P w.0,
            subst (λ (b : Bool). Contains (map (mask (j ∷ P)) U) (b ∷ mask P w.0)) (among_holds w.0 j (among_Contains w.0 ((w.2.same j).1 (inr refl)))) (Contains_among (among_map (mask (j ∷ P)) (among_Contains U w.1))),
            λ q h z. holds_part w.0 w.2 q h z,
          )
        where
          holds_part : (u : List ℕ) → IsExchange t some_off.0 j u → (q : ℕ) → has (mask P s) q ≡ true → dot a (ray (rows_at G P) q) ≡ pos 0 → has (mask P u) q ≡ true
          holds_part u ex q h z =
              let w = has_at s P q h in
              let l = subst (λ (k : ℕ). q < k) (sym (length_rows_at G P)) (at_below w.1) in
              let c = (cell_of s is).positive q h in
              let e = part.kept q l z in
              let p = positive_at w.0 q w.1 (most.more q (omega (arith, ints))) in
              at_has u w.1 ∙ among_holds u w.0 (among_Contains u ((ex.same w.0).1 (inl (Contains_among p.0, λ i. some_off.2 (ap (λ (m : ℕ). dot a (ray G m)) (sym i) ∙ p.1)))))

    joined_cell : (m : List Bool) × Contains (map (mask (j ∷ P)) U) (true ∷ m) × ((q : ℕ) → has (mask P s) q ≡ true → dot a (ray (rows_at G P) q) ≡ pos 0 → has m q ≡ true)
    joined_cell =
        let w = among_Any (λ m. Within m most.e) (map (mask P) T) (carried.least.all most.e most.is_least) in
        let r = map_among (mask P) T w.1 in
        new_cell r.0 r.1 (subst (λ (m : List Bool). Within m most.e) (sym r.2) w.2)

  placed : IsPlaced (rows_at G P) F (ray G j) (map (mask P) T) (map (mask (j ∷ P)) U)
  placed = record {
    each = each_cell;
    kept = kept_cell;
    joined = λ m a cm ca below.
        let r = map_among (mask P) T (among_Contains (map (mask P) T) cm) in
        subst (λ (x : List Bool). (t : List Bool) × Contains (map (mask (j ∷ P)) U) (true ∷ t) × ((q : ℕ) → has x q ≡ true → dot a (ray (rows_at G P) q) ≡ pos 0 → has t q ≡ true)) r.2 (joined_cell a ca below r.0 r.1);
  }

  -- ---- what is carried on
  inside_next : (u : List ℕ) → Among u U → (k : ℕ) → Among k u → Among k (j ∷ P)
  inside_next u iu k ku = elim (next.each u (Contains_among iu)) [
    | inl old ↦ there (carried.inside u (among_Contains T old) k ku)
    | inr w ↦ elim ((w.7.same k).0 (Contains_among ku)) [
      | inl m ↦ there (carried.inside w.1 (among_Contains T w.5) k (among_Contains w.1 m.0))
      | inr e ↦ subst (λ (p : ℕ). Among p (j ∷ P)) (sym e) here
    ]
  ]

  module _ (u : List ℕ) (a : Row) (s : List ℕ) (i : ℕ) (ca : Contains F a) (below : dot a (ray G j) <ℤ pos 0) (is : Among s T) (off : IsOnlyOff G a s i) (ex : IsExchange s i j u) where
    other : Without i s
    other = without i s

    Y : List Row
    Y = rows_at G other.rest ++ L

    null_Y : (z : Row) → Among z Y → dot a z ≡ pos 0
    unfolding Y
    null_Y z iz = elim (among_append (rows_at G other.rest) L iz) [
      | inl k ↦ (let w = rows_at_among G other.rest z k in let q = other.to w.0 w.1 in subst (λ (x : Row). dot a x ≡ pos 0) w.2 (off.others w.0 (Contains_among q.0) q.1))
      | inr k ↦ flat a ca z k
    ]

    -- the span of the cell, by the ray that is off and the others
    apart : {x : Row} → InSpan (rows_at G s ++ L) x → InSpan (ray G i ∷ Y) x
    unfolding Y
    apart h = span_of (ray G i ∷ Y) (rows_at G s ++ L) each h
      where
        each : (r : Row) → Among r (rows_at G s ++ L) → InSpan (ray G i ∷ Y) r
        each r k = elim (among_append (rows_at G s) L k) [
          | inr m ↦ in_line (there (among_append_right (rows_at G other.rest) m))
          | inl m ↦ let w = rows_at_among G s r m in subst (λ (x : Row). InSpan (ray G i ∷ Y) x) w.2 (elim (ℕ_discrete w.0 i) [
            | yes e ↦ subst (λ (p : ℕ). InSpan (ray G i ∷ Y) (ray G p)) (sym e) (in_line here)
            | no ne ↦ in_line (there (among_append_left L (among_rows_at G other.rest w.0 (other.from w.0 w.1 ne))))
          ])
        ]

    new_span : {x : Row} → InSpan (rows_at G s ++ L) x → InSpan (rows_at G u ++ L) x
    unfolding Y
    new_span {x} h = span_of (rows_at G u ++ L) (ray G i ∷ Y) each (apart h)
      where
        new_ray : InSpan (rows_at G u ++ L) (ray G j)
        new_ray = in_line (among_append_left L (among_rows_at G u j (among_Contains u ((ex.same j).1 (inr refl)))))

        rest_in : (r : Row) → Among r Y → InSpan (rows_at G u ++ L) r
        rest_in r k = elim (among_append (rows_at G other.rest) L k) [
          | inr m ↦ in_line (among_append_right (rows_at G u) m)
          | inl m ↦ let w = rows_at_among G other.rest r m in let q = other.to w.0 w.1 in subst (λ (x : Row). InSpan (rows_at G u ++ L) x) w.2 (in_line (among_append_left L (among_rows_at G u w.0 (among_Contains u ((ex.same w.0).1 (inl (Contains_among q.0, q.1)))))))
        ]

        old_ray : InSpan (rows_at G u ++ L) (ray G i)
        old_ray = span_of (rows_at G u ++ L) (ray G j ∷ Y) both (exchanged_span a (ray G i) (ray G j) Y null_Y (λ e. let b = below in omega (arith, ints)) (apart (in_cell_span s is hv)))
          where
            both : (r : Row) → Among r (ray G j ∷ Y) → InSpan (rows_at G u ++ L) r
            both r here = new_ray
            both r (there k) = rest_in r k

        each : (r : Row) → Among r (ray G i ∷ Y) → InSpan (rows_at G u ++ L) r
        each r here = old_ray
        each r (there k) = rest_in r k

    new_spans : (p : ℕ) → Among p (j ∷ P) → InSpan (rows_at G u ++ L) (ray G p)
    new_spans p here = new_span (in_cell_span s is hv)
    new_spans p (there k) = new_span (carried.spans s is p k)

  spans_next : (u : List ℕ) → Among u U → (p : ℕ) → Among p (j ∷ P) → InSpan (rows_at G u ++ L) (ray G p)
  spans_next u iu p ip = elim (next.each u (Contains_among iu)) [
    | inl old ↦ old_spans (among_Contains T old) p ip
    | inr w ↦ new_spans u w.0 w.1 w.2 w.3 w.4 (among_Contains T w.5) w.6 w.7 p ip
  ]
    where
      old_spans : Among u T → (p : ℕ) → Among p (j ∷ P) → InSpan (rows_at G u ++ L) (ray G p)
      old_spans i p here = in_cell_span u i hv
      old_spans i p (there k) = carried.spans u i p k

  pub carried_on : Carried G L (j ∷ P) U
  carried_on = record {
    least = placing_step n (rows_at G P) L F (ray G j) hW hL lv hv (walls n (rows_at G P) L F hW hL order) (map (mask P) T) (map (mask (j ∷ P)) U) placed carried.least;
    inside = inside_next;
    spans = spans_next;
  }
