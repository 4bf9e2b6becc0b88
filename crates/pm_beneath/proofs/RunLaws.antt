-- The cells of all fronts, as double description takes the rows, are those of the placing.
use Rattle.pm_vector.proofs.Filters.{among_map, map_among}
use Rattle.pm_vector.proofs.Lists.{All_among, Among, Contains_among, all_append, all_from, among_All, among_Contains, among_append, among_append_left, among_append_right, here, there}
use Rattle.pm_vector.proofs.RowLaws.{dot_comm, length-opposite}
use Rattle.pm_vector.specs.Rows.{HasCols, Row}
use Rattle.pm_vector.specs.Bases.{row_at}
use Rattle.pm_beneath.proofs.FrontLaws.{among_below, below_among, below_ascending}
use Rattle.pm_beneath.proofs.NameLaws.{in_named, named_ascending, named_in, names_keep_steps}
use Rattle.pm_laws_placing.proofs.Places.{in_list, length_stated, nth_append, stated_below, stated_fresh, take_among, take_append}
use Rattle.pm_laws_placing.proofs.Sequences.{difference_of, length_both, row_first, row_past, row_place}
use Rattle.pm_beneath.specs.CellLists.{AreNextCells}
use Rattle.pm_beneath.specs.Names.{AreNames, RunIsPlacing, named}
use Rattle.pm_laws_placing.specs.Placing.{IsCellStep, IsFirstCell, IsNextCells, IsPlacing, places_marked, stated_places}
use Rattle.pm_beneath.specs.Runs.{IsRun, below}
use Rattle.pm_geom.specs.Triangulations.{rows_at}
use Rattle.pm_dd.proofs.Fronts.{signs_cut_out}
use Rattle.pm_dd.specs.Arrangement.{alternating}
use Rattle.pm_dd.specs.Fronts.{HalfSpaces, both_signs}
use Rattle.pm_vector.specs.Enlarging.{MarkEnlarging}
use Rattle.pm_vector.specs.Evidence.{IsBasisOf}
use Rattle.pm_geom.proofs.Facets.{facet_rows_cut_out, order_as, valid_by_products}
use Rattle.pm_geom.proofs.Polar.{cols_at, cut_at, cut_from}
use Rattle.pm_vector.proofs.ConeLaws.{in_generator}
use Rattle.pm_geom.specs.Cones.{IsOrder, IsValid}
use Rattle.pm_geom.specs.Faces.{ray}
use Rattle.pm_geom.specs.Graphs.{IsAscending}
use Rattle.std.specs.Prelude.{ℕ, zero, suc, ◌+◌, ◌-◌, ◌<◌, ◌≤◌, ◌≡◌, ◌⊎◌, ◌↔◌, Bool, true, false, List, [], ◌∷◌, ◌++◌, length, map, take}
use Rattle.std.specs.List.{All, Contains, slice_index_or}
use Rattle.std.proofs.Common.{arith, ap, refl, subst, sym, ◌∙◌, inl, inr}
use Rattle.std.proofs.lemmas.Bool.{cases_lt}

-- ---- the cells of each front of a run
abbrev pick : {X : Type 0} → ℕ → ℕ → X → X → X
pick zero d x y = x
pick (suc e) zero x y = y
pick (suc e) (suc d) x y = pick e d x y

pick_low : {X : Type 0} (e d : ℕ) (x y : X) → e ≤ d → pick e d x y ≡ x
pick_low zero d x y l = refl
pick_low (suc e) zero x y l = absurd (omega arith)
pick_low (suc e) (suc d) x y l = pick_low e d x y (omega arith)

pick_high : {X : Type 0} (e d : ℕ) (x y : X) → d < e → pick e d x y ≡ y
pick_high zero d x y l = absurd (omega arith)
pick_high (suc e) zero x y l = refl
pick_high (suc e) (suc d) x y l = pick_high e d x y (omega arith)

module _ (n : ℕ) (E J : List Row) (start : ℕ) where
  abbrev run_cells : (d : ℕ) (T : List (List ℕ)) → IsRun n E J start d T → ℕ → List (List ℕ)
  run_cells zero T r e = T
  run_cells (suc d) U r e = pick e d (run_cells d r.0 r.1 e) U

  run_last : (d : ℕ) (T : List (List ℕ)) (r : IsRun n E J start d T) → run_cells d T r d ≡ T
  run_last zero T r = refl
  run_last (suc d) U r = pick_high (suc d) d (run_cells d r.0 r.1 (suc d)) U (omega arith)

  run_first : (d : ℕ) (T : List (List ℕ)) (r : IsRun n E J start d T) → run_cells d T r 0 ≡ below start ∷ []
  run_first zero T r = r
  run_first (suc d) U r = run_first d r.0 r.1

  abbrev RunStep : ℕ → List (List ℕ) → List (List ℕ) → Type 0
  RunStep e T U = (V : List Row) × IsOrder n (HalfSpaces E (take (start + e) J)) V × AreNextCells J V (start + e) T U

  run_step : (d : ℕ) (T : List (List ℕ)) (r : IsRun n E J start d T) (e : ℕ) → e < d → RunStep e (run_cells d T r e) (run_cells d T r (suc e))
  run_step zero T r e l = absurd (omega arith)
  run_step (suc d) U r e l = elim (cases_lt e d) [
    | inl m ↦ subst (λ (A : List (List ℕ)). RunStep e A (run_cells (suc d) U r (suc e))) (sym (pick_low e d (run_cells d r.0 r.1 e) U (omega arith)))
        (subst (λ (A : List (List ℕ)). RunStep e (run_cells d r.0 r.1 e) A) (sym (pick_low (suc e) d (run_cells d r.0 r.1 (suc e)) U (omega arith))) (run_step d r.0 r.1 e m))
    | inr m ↦
        let same : d ≡ e = omega arith in
        subst (λ (k : ℕ). RunStep k (run_cells (suc d) U r k) (run_cells (suc d) U r (suc k))) same
        (subst (λ (A : List (List ℕ)). RunStep d A (run_cells (suc d) U r (suc d))) (sym (pick_low d d (run_cells d r.0 r.1 d) U (omega arith) ∙ run_last d r.0 r.1))
        (subst (λ (A : List (List ℕ)). RunStep d r.0 A) (sym (run_last (suc d) U r)) r.2))
  ]

  run_up : (d : ℕ) (T : List (List ℕ)) (r : IsRun n E J start d T) (e : ℕ) → e ≤ d → All (IsAscending (start + e)) (run_cells d T r e)
  run_up d T r zero l = subst (λ (A : List (List ℕ)). All (IsAscending (start + 0)) A) (sym (run_first d T r)) (let z : start ≡ start + 0 = omega arith in subst (λ (k : ℕ). All (IsAscending k) (below start ∷ [])) z (All_among (IsAscending start) (below start ∷ []) each))
    where
      each : (s : List ℕ) → Among s (below start ∷ []) → IsAscending start s
      each s here = below_ascending start
      each s (there i) = elim i [ ]
  run_up d T r (suc e) l = let z : start + e + 1 ≡ start + suc e = omega arith in subst (λ (k : ℕ). All (IsAscending k) (run_cells d T r (suc e))) z (run_step d T r e (omega arith)).2.ascending

-- ---- the places in the list of the lines both ways, and the rays
abbrev evens : List Row → ℕ → List ℕ
evens [] i = []
evens (l ∷ B) i = i ∷ evens B (suc (suc i))

evens_in : (B : List Row) (i p : ℕ) → Among p (evens B i) → p + 1 < i + length (both_signs B)
evens_in [] i p a = elim a [ ]
evens_in (l ∷ B) i p here = omega arith
evens_in (l ∷ B) i p (there a) = let h = evens_in B (suc (suc i)) p a in omega arith

evens_all : (B : List Row) (i q : ℕ) → q < length (both_signs B) → Among (i + q) (evens B i) ⊎ Among (i + q) (evens B (suc i))
evens_all [] i q l = absurd (omega arith)
evens_all (x ∷ B) i zero l = let e : i ≡ i + 0 = omega arith in inl (subst (λ (k : ℕ). Among k (i ∷ evens B (suc (suc i)))) e here)
evens_all (x ∷ B) i (suc zero) l = let e : suc i ≡ i + 1 = omega arith in inr (subst (λ (k : ℕ). Among k (suc i ∷ evens B (suc (suc (suc i))))) e here)
evens_all (x ∷ B) i (suc (suc q)) l = let e : suc (suc i) + q ≡ i + suc (suc q) = omega arith in elim (evens_all B (suc (suc i)) q (omega arith)) [
  | inl a ↦ inl (there (subst (λ (k : ℕ). Among k (evens B (suc (suc i)))) e a))
  | inr a ↦ inr (there (subst (λ (k : ℕ). Among k (evens B (suc (suc (suc i))))) e a))
]

evens_many : (B : List Row) (i : ℕ) → length (evens B i) ≡ length B
evens_many [] i = refl
evens_many (l ∷ B) i = ap suc (evens_many B (suc (suc i)))

signs_many : (B : List Row) → length (both_signs B) ≡ length B + length B
signs_many [] = refl
signs_many (l ∷ B) = let h = signs_many B in omega arith

marks_many : (B : List Row) (m : List Bool) → length (alternating B ++ m) ≡ length (both_signs B) + length m
marks_many [] m = omega arith
marks_many (l ∷ B) m = let h = marks_many B m in omega arith

true_split : (B : List Row) (m : List Bool) (i q : ℕ) → q ≡ i + length (both_signs B) → places_marked true (alternating B ++ m) i ≡ evens B i ++ places_marked true m q
true_split [] m i q e = let f : i ≡ q = omega arith in ap (λ (k : ℕ). places_marked true m k) f
true_split (l ∷ B) m i q e = ap (λ (Z : List ℕ). i ∷ Z) (true_split B m (suc (suc i)) q (omega arith))

false_split : (B : List Row) (m : List Bool) (i q : ℕ) → q ≡ i + length (both_signs B) → places_marked false (alternating B ++ m) i ≡ evens B (suc i) ++ places_marked false m q
false_split [] m i q e = let f : i ≡ q = omega arith in ap (λ (k : ℕ). places_marked false m k) f
false_split (l ∷ B) m i q e = ap (λ (Z : List ℕ). suc i ∷ Z) (false_split B m (suc (suc i)) q (omega arith))

shifted : (b : Bool) (m : List Bool) (c i q : ℕ) → q ≡ c + i → places_marked b m q ≡ map (λ k. c + k) (places_marked b m i)
shifted b [] c i q e = refl
shifted true (true ∷ m) c i q e = ap (λ (k : ℕ). k ∷ places_marked true m (suc q)) e ∙ ap (λ (Z : List ℕ). (c + i) ∷ Z) (shifted true m c (suc i) (suc q) (omega arith))
shifted true (false ∷ m) c i q e = shifted true m c (suc i) (suc q) (omega arith)
shifted false (false ∷ m) c i q e = ap (λ (k : ℕ). k ∷ places_marked false m (suc q)) e ∙ ap (λ (Z : List ℕ). (c + i) ∷ Z) (shifted false m c (suc i) (suc q) (omega arith))
shifted false (true ∷ m) c i q e = shifted false m c (suc i) (suc q) (omega arith)

take_map : {X Y : Type 0} (f : X → Y) (xs : List X) (k : ℕ) → take k (map f xs) ≡ map f (take k xs)
take_map f [] zero = refl
take_map f [] (suc k) = refl
take_map f (x ∷ xs) zero = refl
take_map f (x ∷ xs) (suc k) = ap (λ Z. f x ∷ Z) (take_map f xs k)

nth_map : (c : ℕ) (xs : List ℕ) (k : ℕ) → k < length xs → slice_index_or (map (λ j. c + j) xs) k 0 ≡ c + slice_index_or xs k 0
nth_map c [] k l = absurd (omega arith)
nth_map c (x ∷ xs) zero l = refl
nth_map c (x ∷ xs) (suc k) l = nth_map c xs k (omega arith)

len_map : {X Y : Type 0} (f : X → Y) (xs : List X) → length (map f xs) ≡ length xs
len_map f [] = refl
len_map f (x ∷ xs) = ap suc (len_map f xs)

len_append : (A B : List ℕ) → length (A ++ B) ≡ length A + length B
len_append [] B = omega arith
len_append (a ∷ A) B = let h = len_append A B in omega arith

nth_left : (A B : List ℕ) (k : ℕ) → k < length A → slice_index_or (A ++ B) k 0 ≡ slice_index_or A k 0
nth_left [] B k l = absurd (omega arith)
nth_left (a ∷ A) B zero l = refl
nth_left (a ∷ A) B (suc k) l = nth_left A B k (omega arith)

in_front : (xs : List ℕ) (i k : ℕ) → i < k → i < length xs → Among (slice_index_or xs i 0) (take k xs)
in_front [] i k m l = absurd (omega arith)
in_front (x ∷ xs) i zero m l = absurd (omega arith)
in_front (x ∷ xs) zero (suc k) m l = here
in_front (x ∷ xs) (suc i) (suc k) m l = there (in_front xs i k (omega arith) (omega arith))

front_in : (xs : List ℕ) (k p : ℕ) → Among p (take k xs) → (i : ℕ) × (i < k) × (i < length xs) × (slice_index_or xs i 0 ≡ p)
front_in [] zero p a = elim a [ ]
front_in [] (suc k) p a = elim a [ ]
front_in (x ∷ xs) zero p a = elim a [ ]
front_in (x ∷ xs) (suc k) p here = (0, omega arith, omega arith, refl)
front_in (x ∷ xs) (suc k) p (there a) = let r = front_in xs k p a in (suc r.0, (let l = r.1 in omega arith), (let l = r.2 in omega arith), r.3)

-- ---- the placing
module _ (n : ℕ) (L G B : List Row) (P : List ℕ) (m : List Bool) (hL : HasCols n L) (hG : HasCols n G) (b : IsBasisOf n L B P) (en : MarkEnlarging (both_signs B ++ G) (alternating B ++ m)) where
  abbrev K : List Row
  K = both_signs B

  abbrev c : ℕ
  c = length (both_signs B)

  abbrev O : List ℕ
  O = stated_places m

  abbrev start : ℕ
  start = length (places_marked true m 0)

  m_many : length m ≡ length G
  m_many = let a = marks_many B m in let e = en.as_many in let l = length_both (both_signs B) G in omega arith

  o_many : length (stated_places m) ≡ length G
  o_many = length_stated m ∙ m_many

  pub names : AreNames (length G) (stated_places m)
  names = record {
    within = λ k l. let q = stated_below m (slice_index_or (stated_places m) k 0) (in_list (stated_places m) k l) in let e = m_many in omega arith;
    once = λ i k li lk e. elim (cases_lt i k) [
      | inl l ↦ absurd (stated_fresh m k (let q = length_stated m in omega arith) (subst (λ (z : ℕ). Among z (take k (stated_places m))) e (in_front (stated_places m) i k l li)))
      | inr l ↦ elim (cases_lt k i) [
        | inl h ↦ absurd (stated_fresh m i (let q = length_stated m in omega arith) (subst (λ (z : ℕ). Among z (take i (stated_places m))) (sym e) (in_front (stated_places m) k i h lk)))
        | inr h ↦ omega arith
      ]
    ];
  }

  -- the stated order of the list: the lines, the rays that enlarge the span, the lines' opposites, and the other rays
  abbrev TT : List ℕ
  TT = map (λ k. c + k) (places_marked true m 0)

  abbrev FF : List ℕ
  FF = map (λ k. c + k) (places_marked false m 0)

  true_list : places_marked true (alternating B ++ m) 0 ≡ evens B 0 ++ TT
  true_list = true_split B m 0 (length (both_signs B)) (omega arith) ∙ ap (λ (Z : List ℕ). evens B 0 ++ Z) (shifted true m (length (both_signs B)) 0 (length (both_signs B)) (omega arith))

  false_list : places_marked false (alternating B ++ m) 0 ≡ evens B 1 ++ FF
  false_list = false_split B m 0 (length (both_signs B)) (omega arith) ∙ ap (λ (Z : List ℕ). evens B 1 ++ Z) (shifted false m (length (both_signs B)) 0 (length (both_signs B)) (omega arith))

  abbrev stated : List ℕ
  stated = stated_places (alternating B ++ m)

  stated_list : stated_places (alternating B ++ m) ≡ (evens B 0 ++ TT) ++ (evens B 1 ++ FF)
  stated_list = ap (λ (Z : List ℕ). Z ++ places_marked false (alternating B ++ m) 0) true_list ∙ ap (λ (Z : List ℕ). (evens B 0 ++ TT) ++ Z) false_list

  first_many : length (evens B 0 ++ TT) ≡ length B + start
  first_many = let a = len_append (evens B 0) TT in let e = evens_many B 0 in let h = len_map (λ k. c + k) (places_marked true m 0) in omega arith

  true_many : length (places_marked true (alternating B ++ m) 0) ≡ length B + start
  true_many = ap length true_list ∙ first_many

  c_many : c ≡ length B + length B
  c_many = signs_many B

  -- a front from the last line on
  late : (e : ℕ) → take (c + (start + e)) (stated_places (alternating B ++ m)) ≡ (evens B 0 ++ TT) ++ (evens B 1 ++ take e FF)
  late e =
      let h : c + (start + e) ≡ length (evens B 0 ++ TT) + (length (evens B 1) + e) = (let a = first_many in let q = evens_many B 1 in let z = c_many in omega arith) in
      ap (λ (k : ℕ). take k (stated_places (alternating B ++ m))) h ∙ ap (λ (Z : List ℕ). take (length (evens B 0 ++ TT) + (length (evens B 1) + e)) Z) stated_list
      ∙ take_append (evens B 0 ++ TT) (evens B 1 ++ FF) (length (evens B 1) + e) ∙ ap (λ (Z : List ℕ). (evens B 0 ++ TT) ++ Z) (take_append (evens B 1) FF e)

  late_place : (e : ℕ) → start + e < length G → slice_index_or (stated_places (alternating B ++ m)) (c + (start + e)) 0 ≡ c + slice_index_or (stated_places m) (start + e) 0
  late_place e l =
      let h : c + (start + e) ≡ length (evens B 0 ++ TT) + (length (evens B 1) + e) = (let a = first_many in let q = evens_many B 1 in let z = c_many in omega arith) in
      let le : e < length (places_marked false m 0) = (let a = len_append (places_marked true m 0) (places_marked false m 0) in let o = o_many in omega arith) in
      ap (λ (k : ℕ). slice_index_or (stated_places (alternating B ++ m)) k 0) h ∙ ap (λ (Z : List ℕ). slice_index_or Z (length (evens B 0 ++ TT) + (length (evens B 1) + e)) 0) stated_list
      ∙ nth_append (evens B 0 ++ TT) (evens B 1 ++ FF) (length (evens B 1) + e) ∙ nth_append (evens B 1) FF e ∙ nth_map c (places_marked false m 0) e le
      ∙ ap (λ (z : ℕ). c + z) (sym (nth_append (places_marked true m 0) (places_marked false m 0) e))

  front_rays : (e : ℕ) → take (start + e) (stated_places m) ≡ places_marked true m 0 ++ take e (places_marked false m 0)
  front_rays e = take_append (places_marked true m 0) (places_marked false m 0) e

  -- the rows of such a front are the lines both ways and the first rays
  late_member : (e p : ℕ) → Among p (take (c + (start + e)) (stated_places (alternating B ++ m))) → (p < c) ⊎ ((j : ℕ) × Among j (take (start + e) (stated_places m)) × (p ≡ c + j))
  late_member e p i = elim (among_append (evens B 0 ++ TT) (evens B 1 ++ take e FF) (subst (λ (Z : List ℕ). Among p Z) (late e) i)) [
    | inl j ↦ elim (among_append (evens B 0) TT j) [
      | inl k ↦ inl (let h = evens_in B 0 p k in omega arith)
      | inr k ↦ let r = map_among (λ k. c + k) (places_marked true m 0) k in inr (r.0, subst (λ (Z : List ℕ). Among r.0 Z) (sym (front_rays e)) (among_append_left (take e (places_marked false m 0)) r.1), r.2)
    ]
    | inr j ↦ elim (among_append (evens B 1) (take e FF) j) [
      | inl k ↦ inl (let h = evens_in B 1 p k in omega arith)
      | inr k ↦ let r = map_among (λ k. c + k) (take e (places_marked false m 0)) (subst (λ (Z : List ℕ). Among p Z) (take_map (λ k. c + k) (places_marked false m 0) e) k) in
          inr (r.0, subst (λ (Z : List ℕ). Among r.0 Z) (sym (front_rays e)) (among_append_right (places_marked true m 0) r.1), r.2)
    ]
  ]

  member_line : (e p : ℕ) → p < length (both_signs B) → Among p (take (c + (start + e)) (stated_places (alternating B ++ m)))
  member_line e p l =
      let z : 0 + p ≡ p = omega arith in
      subst (λ (Z : List ℕ). Among p Z) (sym (late e)) (elim (evens_all B 0 p l) [
        | inl a ↦ among_append_left (evens B 1 ++ take e FF) (among_append_left TT (subst (λ (k : ℕ). Among k (evens B 0)) z a))
        | inr a ↦ among_append_right (evens B 0 ++ TT) (among_append_left (take e FF) (subst (λ (k : ℕ). Among k (evens B 1)) z a))
      ])

  member_ray : (e j : ℕ) → Among j (take (start + e) (stated_places m)) → Among (c + j) (take (c + (start + e)) (stated_places (alternating B ++ m)))
  member_ray e j i = subst (λ (Z : List ℕ). Among (c + j) Z) (sym (late e)) (elim (among_append (places_marked true m 0) (take e (places_marked false m 0)) (subst (λ (Z : List ℕ). Among j Z) (front_rays e) i)) [
    | inl a ↦ among_append_left (evens B 1 ++ take e FF) (among_append_right (evens B 0) (among_map (λ k. c + k) a))
    | inr a ↦ among_append_right (evens B 0 ++ TT) (among_append_right (evens B 1) (subst (λ (Z : List ℕ). Among (c + j) Z) (sym (take_map (λ k. c + k) (places_marked false m 0) e)) (among_map (λ k. c + k) a)))
  ])

  abbrev rows : ℕ → List Row
  rows k = map (row_at (both_signs B ++ G)) (take k (stated_places (alternating B ++ m)))

  signs_cols : (E : List Row) → HasCols n E → HasCols n (both_signs E)
  signs_cols [] h = tt
  signs_cols (l ∷ E) h = (h.0, (length-opposite l ∙ h.0, signs_cols E h.1))

  rows_cols : (k : ℕ) → HasCols n (rows k)
  rows_cols k = all_from (λ (x : Row). length x ≡ n) (rows k) (λ x i.
      let r = map_among (row_at (both_signs B ++ G)) (take k (stated_places (alternating B ++ m))) i in
      let l = stated_below (alternating B ++ m) r.0 (take_among (stated_places (alternating B ++ m)) k r.0 r.1) in
      let e = en.as_many in
      ap length r.2 ∙ cols_at (row_in (both_signs B ++ G) r.0 (omega arith)) (all_append (λ (x : Row). length x ≡ n) (both_signs B) G (signs_cols B b.echelon.basis.cols) hG))
    where
      row_in : (X : List Row) (k : ℕ) → k < length X → Among (row_at X k) X
      row_in [] k l = absurd (omega arith)
      row_in (x ∷ X) zero l = here
      row_in (x ∷ X) (suc k) l = there (row_in X k (omega arith))

  rays_front : (e : ℕ) → take (start + e) (rows_at G (stated_places m)) ≡ map (ray G) (take (start + e) (stated_places m))
  rays_front e = take_map (ray G) (stated_places m) (start + e)

  rows_to : (e : ℕ) (x : Row) → Among x (rows (c + (start + e))) → Among x (both_signs B ++ take (start + e) (rows_at G (stated_places m)))
  rows_to e x i =
      let r = map_among (row_at (both_signs B ++ G)) (take (c + (start + e)) (stated_places (alternating B ++ m))) i in
      subst (λ (y : Row). Among y (both_signs B ++ take (start + e) (rows_at G (stated_places m)))) (sym r.2) (elim (late_member e r.0 r.1) [
        | inl l ↦ among_append_left (take (start + e) (rows_at G (stated_places m))) (row_first (both_signs B) G r.0 l)
        | inr (j, a, q) ↦ among_append_right (both_signs B) (subst (λ (y : Row). Among y (take (start + e) (rows_at G (stated_places m)))) (sym (ap (λ (k : ℕ). row_at (both_signs B ++ G) k) q ∙ row_past (both_signs B) G j)) (subst (λ (Z : List Row). Among (ray G j) Z) (sym (rays_front e)) (among_map (ray G) a)))
      ])

  rows_of : (e : ℕ) (x : Row) → Among x (both_signs B ++ take (start + e) (rows_at G (stated_places m))) → Among x (rows (c + (start + e)))
  rows_of e x i = elim (among_append (both_signs B) (take (start + e) (rows_at G (stated_places m))) i) [
    | inl a ↦ let r = row_place (both_signs B) G x a in subst (λ (y : Row). Among y (rows (c + (start + e)))) r.2 (among_map (row_at (both_signs B ++ G)) (member_line e r.0 r.1))
    | inr a ↦
        let r = map_among (ray G) (take (start + e) (stated_places m)) (subst (λ (Z : List Row). Among x Z) (rays_front e) a) in
        subst (λ (y : Row). Among y (rows (c + (start + e)))) (row_past (both_signs B) G r.0 ∙ sym r.2) (among_map (row_at (both_signs B ++ G)) (member_ray e r.0 r.1))
  ]

  valid_of : (e : ℕ) (a : Row) → length a ≡ n → HalfSpaces B (take (start + e) (rows_at G (stated_places m))) a → IsValid n (rows (c + (start + e))) [] a
  valid_of e a la h =
      let cut = (signs_cut_out B (take (start + e) (rows_at G (stated_places m))) a).1 h in
      valid_by_products n (rows (c + (start + e))) [] (rows_cols (c + (start + e))) tt a la (λ g i. rw dot_comm (cut_at a (rows_to e g i) cut)) (λ l i. elim i [ ])

  valid_to : (e : ℕ) (a : Row) → length a ≡ n → IsValid n (rows (c + (start + e))) [] a → HalfSpaces B (take (start + e) (rows_at G (stated_places m))) a
  valid_to e a la v = (signs_cut_out B (take (start + e) (rows_at G (stated_places m))) a).0
      (cut_from (both_signs B ++ take (start + e) (rows_at G (stated_places m))) a (λ g i. rw dot_comm (v.holds g (cols_at (rows_of e g i) (rows_cols (c + (start + e)))) (in_generator (rows_of e g i)))))

  module _ (d : ℕ) (ld : length (places_marked true m 0) + d < length G + 1) (T : List (List ℕ)) (run : IsRun n B (rows_at G (stated_places m)) (length (places_marked true m 0)) d T) where
    abbrev J : List Row
    J = rows_at G (stated_places m)

    abbrev cs : ℕ → List (List ℕ)
    cs e = run_cells n B (rows_at G (stated_places m)) (length (places_marked true m 0)) d T run e

    abbrev cells : ℕ → List (List ℕ)
    cells k = map (named (length G) (stated_places m)) (cs (k - (c + start)))

    line_step : (k : ℕ) → length B + start ≤ k → k < c + start → IsCellStep n (length (both_signs B)) (both_signs B ++ G) G (take k (stated_places (alternating B ++ m))) (slice_index_or (stated_places (alternating B ++ m)) k 0) (cells k) (cells (suc k))
    line_step k lo hi =
        let (F, E, he, o, van, gen, cut) = facet_rows_cut_out n (rows k) [] (rows_cols k) tt in
        record {
          facets = F;
          order = o;
          line = λ l s. subst (λ (A : List (List ℕ)). Contains A s ↔ Contains (cells k) s) same (λ h. h, λ h. h);
          ray_placed = λ j e. absurd (let h = low in omega arith);
        }
      where
        same : cells k ≡ cells (suc k)
        same = let e : k - (c + start) ≡ suc k - (c + start) = omega arith in ap (λ (q : ℕ). map (named (length G) (stated_places m)) (cs q)) e

        past : (j : ℕ) × (k ≡ length (evens B 0 ++ TT) + j)
        past = difference_of (length (evens B 0 ++ TT)) k (let h = first_many in omega arith)

        low : slice_index_or (stated_places (alternating B ++ m)) k 0 < length (both_signs B)
        low =
            let lj : past.0 < length (evens B 1) = (let e = past.1 in let h = first_many in let z = c_many in let q = evens_many B 1 in omega arith) in
            let e = ap (λ (q : ℕ). slice_index_or (stated_places (alternating B ++ m)) q 0) past.1 ∙ ap (λ (Z : List ℕ). slice_index_or Z (length (evens B 0 ++ TT) + past.0) 0) stated_list ∙ nth_append (evens B 0 ++ TT) (evens B 1 ++ FF) past.0 ∙ nth_left (evens B 1) FF past.0 lj in
            let h = evens_in B 1 (slice_index_or (evens B 1) past.0 0) (in_list (evens B 1) past.0 lj) in
            omega arith

    all_below : (f : ℕ) (A : List (List ℕ)) → All (IsAscending f) A → All (λ s. All (λ k. k < f) s) A
    all_below f A h = All_among (λ s. All (λ k. k < f) s) A (λ s i. (among_All (IsAscending f) i h).0)

    ray_step : (e : ℕ) → e < d → IsCellStep n (length (both_signs B)) (both_signs B ++ G) G (take (c + (start + e)) (stated_places (alternating B ++ m))) (slice_index_or (stated_places (alternating B ++ m)) (c + (start + e)) 0)
        (map (named (length G) (stated_places m)) (cs e)) (map (named (length G) (stated_places m)) (cs (suc e)))
    ray_step e l =
        let (V, o, q) = run_step n B (rows_at G (stated_places m)) (length (places_marked true m 0)) d T run e l in
        let lg : start + e < length G = omega arith in
        let p = late_place e lg in
        let old = all_below (start + e) (cs e) (run_up n B (rows_at G (stated_places m)) (length (places_marked true m 0)) d T run e (omega arith)) in
        let new = all_below (start + e + 1) (cs (suc e)) q.ascending in
        record {
          facets = V;
          order = order_as n (HalfSpaces B (take (start + e) (rows_at G (stated_places m)))) (IsValid n (rows (c + (start + e))) []) (valid_of e) (valid_to e) o;
          line = λ h s. absurd (omega arith);
          ray_placed = λ j h. let z : slice_index_or (stated_places m) (start + e) 0 ≡ j = omega arith in
              subst (λ (i : ℕ). IsNextCells G V i (map (named (length G) (stated_places m)) (cs e)) (map (named (length G) (stated_places m)) (cs (suc e)))) z
              (names_keep_steps G V (stated_places m) names (start + e) (let h = o_many in omega arith) (cs e) (cs (suc e)) old (wider new) q.next);
        }
      where
        wider : All (λ s. All (λ k. k < start + e + 1) s) (cs (suc e)) → All (λ s. All (λ k. k < length (stated_places m)) s) (cs (suc e))
        wider h = All_among (λ s. All (λ k. k < length (stated_places m)) s) (cs (suc e)) (λ s i. All_among (λ k. k < length (stated_places m)) s (λ k j. let w = among_All (λ k. k < start + e + 1) j (among_All (λ s. All (λ k. k < start + e + 1) s) i h) in let z = o_many in omega arith))

    first_cell : IsFirstCell (length (both_signs B)) (take (length (places_marked true (alternating B ++ m) 0)) (stated_places (alternating B ++ m))) (named (length G) (stated_places m) (below start))
    first_cell = record { same = λ j. (λ h. Contains_among (to j (among_Contains (named (length G) (stated_places m) (below start)) h)), λ h. Contains_among (from j (among_Contains (take (length (places_marked true (alternating B ++ m) 0)) (stated_places (alternating B ++ m))) h))) }
      where
        front : take (length (places_marked true (alternating B ++ m) 0)) (stated_places (alternating B ++ m)) ≡ evens B 0 ++ TT
        front = front_of (places_marked true (alternating B ++ m) 0) (places_marked false (alternating B ++ m) 0) ∙ true_list
          where
            front_of : (A Z : List ℕ) → take (length A) (A ++ Z) ≡ A
            front_of [] [] = refl
            front_of [] (z ∷ Z) = refl
            front_of (a ∷ A) Z = ap (λ (Y : List ℕ). a ∷ Y) (front_of A Z)

        to : (j : ℕ) → Among j (named (length G) (stated_places m) (below start)) → Among (length (both_signs B) + j) (take (length (places_marked true (alternating B ++ m) 0)) (stated_places (alternating B ++ m)))
        to j i =
            let r = named_in (length G) (stated_places m) names (below start) j i in
            let l = below_among start r.0 r.1 in
            let e = nth_left (places_marked true m 0) (places_marked false m 0) r.0 l in
            subst (λ (Z : List ℕ). Among (length (both_signs B) + j) Z) (sym front) (among_append_right (evens B 0) (among_map (λ k. c + k) (subst (λ (z : ℕ). Among z (places_marked true m 0)) (sym e ∙ r.2) (in_list (places_marked true m 0) r.0 l))))

        from : (j : ℕ) → Among (length (both_signs B) + j) (take (length (places_marked true (alternating B ++ m) 0)) (stated_places (alternating B ++ m))) → Among j (named (length G) (stated_places m) (below start))
        from j i = elim (among_append (evens B 0) TT (subst (λ (Z : List ℕ). Among (length (both_signs B) + j) Z) front i)) [
          | inl k ↦ absurd (let h = evens_in B 0 (length (both_signs B) + j) k in omega arith)
          | inr k ↦
              let r = map_among (λ k. c + k) (places_marked true m 0) k in
              let e : r.0 ≡ j = (let h = r.2 in omega arith) in
              let w = front_in (stated_places m) start r.0 (subst (λ (Z : List ℕ). Among r.0 Z) (sym (front_of2 (places_marked true m 0) (places_marked false m 0))) r.1) in
              subst (λ (z : ℕ). Among z (named (length G) (stated_places m) (below start))) (w.3 ∙ e) (in_named (length G) (stated_places m) names (below start) w.0 (among_below start w.0 w.1) w.2)
        ]
          where
            front_of2 : (A Z : List ℕ) → take (length A) (A ++ Z) ≡ A
            front_of2 [] [] = refl
            front_of2 [] (z ∷ Z) = refl
            front_of2 (a ∷ A) Z = ap (λ (Y : List ℕ). a ∷ Y) (front_of2 A Z)

    up : (k : ℕ) → k ≤ c + (start + d) → All (IsAscending (length G)) (cells k)
    up k l = All_among (IsAscending (length G)) (map (named (length G) (stated_places m)) (cs (k - (c + start)))) (λ s i. let r = map_among (named (length G) (stated_places m)) (cs (k - (c + start))) i in subst (λ (z : List ℕ). IsAscending (length G) z) (sym r.2) (named_ascending (length G) (stated_places m) r.0))

    step : (k : ℕ) → length (places_marked true (alternating B ++ m) 0) ≤ k → k < length (both_signs B) + (length (places_marked true m 0) + d) → IsCellStep n (length (both_signs B)) (both_signs B ++ G) G (take k (stated_places (alternating B ++ m))) (slice_index_or (stated_places (alternating B ++ m)) k 0) (cells k) (cells (suc k))
    step k lo hi = elim (cases_lt k (c + start)) [
      | inl l ↦ line_step k (let h = true_many in omega arith) l
      | inr l ↦
          let r = difference_of (c + start) k l in
          let e : c + (start + r.0) ≡ k = (let h = r.1 in omega arith) in
          let o : r.0 ≡ k - (c + start) = (let h = r.1 in omega arith) in
          let s : suc r.0 ≡ suc k - (c + start) = (let h = r.1 in omega arith) in
          subst (λ (q : ℕ). IsCellStep n (length (both_signs B)) (both_signs B ++ G) G (take q (stated_places (alternating B ++ m))) (slice_index_or (stated_places (alternating B ++ m)) q 0) (cells k) (cells (suc k))) e
          (subst (λ (q : ℕ). IsCellStep n (length (both_signs B)) (both_signs B ++ G) G (take (c + (start + r.0)) (stated_places (alternating B ++ m))) (slice_index_or (stated_places (alternating B ++ m)) (c + (start + r.0)) 0) (map (named (length G) (stated_places m)) (cs q)) (cells (suc k))) o
          (subst (λ (q : ℕ). IsCellStep n (length (both_signs B)) (both_signs B ++ G) G (take (c + (start + r.0)) (stated_places (alternating B ++ m))) (slice_index_or (stated_places (alternating B ++ m)) (c + (start + r.0)) 0) (map (named (length G) (stated_places m)) (cs r.0)) (map (named (length G) (stated_places m)) (cs q))) s
          (ray_step r.0 (let h = r.1 in omega arith))))
    ]

    placing : IsPlacing n (both_signs B) G (length (both_signs B) + (length (places_marked true m 0) + d)) (map (named (length G) (stated_places m)) T)
    placing = record {
      marks = alternating B ++ m;
      enlarging = en;
      cells = cells;
      first = named (length G) (stated_places m) (below start);
      is_first = first_cell;
      start = (let z : length (places_marked true (alternating B ++ m) 0) - (c + start) ≡ 0 = (let h = true_many in let q = c_many in omega arith) in
          ap (λ (q : ℕ). map (named (length G) (stated_places m)) (cs q)) z ∙ ap (λ (A : List (List ℕ)). map (named (length G) (stated_places m)) A) (run_first n B (rows_at G (stated_places m)) (length (places_marked true m 0)) d T run));
      step = step;
      enough = (let h = true_many in let q = c_many in omega arith);
      within = (let h = length_both (both_signs B) G in omega arith);
      ascending = λ k lo hi. up k hi;
      last = (let z : length (both_signs B) + (length (places_marked true m 0) + d) - (c + start) ≡ d = omega arith in
          ap (λ (q : ℕ). map (named (length G) (stated_places m)) (cs q)) z ∙ ap (λ (A : List (List ℕ)). map (named (length G) (stated_places m)) A) (run_last n B (rows_at G (stated_places m)) (length (places_marked true m 0)) d T run));
    }

pub run_is_placing : RunIsPlacing
run_is_placing n L G B P m hL hG b en d ld T run = placing n L G B P m hL hG b en d ld T run
