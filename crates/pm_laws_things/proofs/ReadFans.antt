-- The values that are read of a fan, as a fan by rows: it has the same cones.
use Rattle.pm_vector.proofs.ConeLaws.{in_cone_set, in_generator, in_line, in_of, in_through, in_zero, lines_opposite}
use Rattle.pm_vector.proofs.Filters.{among_map, any_from, any_to, map_among}
use Rattle.pm_vector.proofs.Lists.{All_among, Among, Contains_among, all_at, all_from, among_All, among_Any, among_Contains, here, there}
use Rattle.pm_vector.proofs.RowLaws.{entry-opposite, entry-plus, length-opposite, length-zeros, zeros}
use Rattle.pm_vector.specs.Cones.{InCone, InSpan}
use Rattle.pm_vector.specs.Numbers.{Ratio}
use Rattle.pm_vector.specs.Rows.{HasCols, Row, Stands, entry, opposite, times}
use Rattle.pm_dd.proofs.AlikeLaws.{alike_trans}
use Rattle.pm_geom.specs.Cones.{InLineality, IsExtremeRay, IsOrder, SameModulo}
use Rattle.pm_geom.specs.Faces.{ray}
use Rattle.pm_geom.specs.Things.{AreFanOrders, IsConeThing, IsFanThing, Orders}
use Rattle.pm_laws_normal_fans.proofs.Places.{among_at, by_order, map_at, map_length, place_at}
use Rattle.pm_laws_normal_fans.proofs.SumLaws.{entry-zeros}
use Rattle.pm_laws_normal_fans.specs.Fans.{Fan, InPlace, IsConeAt, IsFan, IsSameFan}
use Rattle.pm_refine.specs.CutRows.{fan_from}
use Rattle.pm_refine.specs.ObjectFans.{rays_at}
use Rattle.pm_relations.proofs.FanCones.{alike_in_cone, in_order_set, set_order}
use Rattle.pm_relations.proofs.Standing.{in_order_length, same_direction}
use Rattle.pm_relations.proofs.StandingSpans.{stand_for_span}
use Rattle.pm_relations.proofs.Twins.{rays_generate}
use Rattle.pm_types.specs.Forms.{are_indices}
use Rattle.pm_types.specs.Right.{AreConeRays, InOrder, IsBasis, StandFor}
use Rattle.pm_types.specs.Things.{Thing}
use Rattle.pm_geom.specs.Graphs.{holds}
use Rattle.std.proofs.Common.{ap, arith, false, inl, inr, refl, subst, suc, sym, true, true≢false, zero, ◌∙◌}
use Rattle.std.proofs.lemmas.Bool.{cases_lt, eqb-true}
use Rattle.std.proofs.lemmas.Int.{ints}
use Rattle.std.specs.List.{Any, Contains, slice_index_or}
use Rattle.std.specs.Prelude.{Bool, List, [], if◌then◌else◌, length, map, nat_eq, nat_le, nat_lt, ℕ, ◌&&◌, ◌+◌, ◌<◌, ◌≤◌, ◌↔◌, ◌∷◌, ◌≡◌, ◌⊎◌}
use lib.IntN.{pos}
use lib.Signed.{lt_z_yes}

-- ---- rows that stand for the same fractions
-- p y = q x
alike_stands : (n : ℕ) (L : List Row) (r : List Ratio) (x y : Row) → Stands r x → Stands r y → SameModulo n (InSpan L) x y
alike_stands n L r x y s t =
    let d = same_direction t s in
    record {
      p = d.p;
      k = d.q;
      w = zeros n;
      cols = length-zeros n;
      p_positive = d.p_positive;
      k_positive = d.q_positive;
      line = record { inside = in_zero (λ i. entry-zeros n i); opposed = in_zero (λ i. no_opposite n i) };
      same = record { at = λ i. let e = d.same.at i in let a = entry-plus (times d.q x) (zeros n) i in let z = entry-zeros n i in omega (arith, ints) };
    }
  where
    no_opposite : (n i : ℕ) → entry (opposite (zeros n)) i ≡ pos 0
    no_opposite n i = let z = entry-zeros n i in simp (entry-opposite, z)

pub alike_self : (n : ℕ) (L : List Row) (x : Row) → SameModulo n (InSpan L) x x
alike_self n L x = record {
  p = pos 1;
  k = pos 1;
  w = zeros n;
  cols = length-zeros n;
  p_positive = lt_z_yes tt;
  k_positive = lt_z_yes tt;
  line = record { inside = in_zero (λ i. entry-zeros n i); opposed = in_zero (λ i. let z = entry-zeros n i in simp (entry-opposite, z)) };
  same = record { at = λ i. let a = entry-plus (times (pos 1) x) (zeros n) i in let z = entry-zeros n i in omega (arith, ints) };
}

order_stands : (n : ℕ) (L : List Row) (V xs ys : List Row) (rows : List (List Ratio)) → InOrder (SameModulo n (InSpan L)) V xs → StandFor rows xs → StandFor rows ys → InOrder (SameModulo n (InSpan L)) V ys
order_stands n L [] [] [] rows o s t = tt
order_stands n L [] [] (y ∷ ys) [] o s t = absurd t
order_stands n L [] [] (y ∷ ys) (r ∷ rows) o s t = absurd s
order_stands n L [] (x ∷ xs) ys rows o s t = absurd o
order_stands n L (v ∷ V) [] ys rows o s t = absurd o
order_stands n L (v ∷ V) (x ∷ xs) ys [] o s t = absurd s
order_stands n L (v ∷ V) (x ∷ xs) [] (r ∷ rows) o s t = absurd t
order_stands n L (v ∷ V) (x ∷ xs) (y ∷ ys) (r ∷ rows) o s t = (alike_trans n (InSpan L) (in_cone_set [] L) o.0 (alike_stands n L r x y s.0 t.0), order_stands n L V xs ys rows o.1 s.1 t.1)

-- ---- right sets, by places
record AreRightSets (t : Thing) (V : List Row) (places : List ℕ) (rows : List (List ℕ)) : Type 0 where
  as_many : length rows ≡ length places
  each : (k : ℕ) → k < length places → (j : ℕ) → Contains (slice_index_or rows k []) j ↔ ((j < length V) × IsExtremeRay t.cols (slice_index_or t.cones (slice_index_or places k 0) []) t.lines (ray V j))

right_sets : (t : Thing) (V : List Row) (places : List ℕ) (rows : List (List ℕ)) → AreConeRays t V places rows → AreRightSets t V places rows
right_sets t V [] [] h = record { as_many = refl; each = λ k l. absurd (omega arith) }
right_sets t V [] (r ∷ rows) h = absurd h
right_sets t V (i ∷ places) [] h = absurd h
right_sets t V (i ∷ places) (r ∷ rows) h =
    let w = right_sets t V places rows h.1 in
    record { as_many = ap suc w.as_many; each = λ k l. by w k l }
  where
    by : AreRightSets t V places rows → (k : ℕ) → k < length (i ∷ places) → (j : ℕ) → Contains (slice_index_or (r ∷ rows) k []) j ↔ ((j < length V) × IsExtremeRay t.cols (slice_index_or t.cones (slice_index_or (i ∷ places) k 0) []) t.lines (ray V j))
    by w zero l = h.0
    by w (suc k) l = w.each k (omega arith)

-- ---- the places of a set, ascending
pick : (ℕ → Bool) → ℕ → ℕ → List ℕ
pick f low zero = []
pick f low (suc c) = if f low then low ∷ pick f (suc low) c else pick f (suc low) c

leb-from : (a b : ℕ) → a ≤ b → nat_le a b ≡ true
leb-from a b h = grind arith

ltb-from : (a b : ℕ) → a < b → nat_lt a b ≡ true
ltb-from a b h = grind arith

same_test : (j : ℕ) → nat_eq j j ≡ true
same_test j = grind arith

index_first : (m b low : ℕ) (rest : Bool) → b ≤ low → low < m → rest ≡ true → (nat_le b low && nat_lt low m && rest) ≡ true
index_first m b low rest h l e = let p : nat_le b low ≡ true = leb-from b low h in let q : nat_lt low m ≡ true = ltb-from low m l in rw (p, q, e) refl

pick_ascends : (f : ℕ → Bool) (m b low c : ℕ) → b ≤ low → low + c ≤ m → are_indices m b (pick f low c) ≡ true
unfolding pick
pick_ascends f m b low zero h l = refl
pick_ascends f m b low (suc c) h l = by (f low) (index_first m b low _ h (omega arith) (pick_ascends f m (suc low) (suc low) c (omega arith) (omega arith))) (pick_ascends f m b (suc low) c (omega arith) (omega arith))
  where
    by : (t : Bool) → are_indices m b (low ∷ pick f (suc low) c) ≡ true → are_indices m b (pick f (suc low) c) ≡ true → are_indices m b (if t then low ∷ pick f (suc low) c else pick f (suc low) c) ≡ true
    by true x y = x
    by false x y = y

first_pick : (f : ℕ → Bool) (low j : ℕ) (xs : List ℕ) → f low ≡ true → (Among j xs → f j ≡ true) → Among j (low ∷ xs) → f j ≡ true
first_pick f low _ xs e rest here = e
first_pick f low j xs e rest (there i) = rest i

pick_holds : (f : ℕ → Bool) (low c j : ℕ) → Among j (pick f low c) → f j ≡ true
unfolding pick
pick_holds f low zero j a = elim a [ ]
pick_holds f low (suc c) j a = by (f low) refl (λ i. pick_holds f (suc low) c j i) a
  where
    by : (t : Bool) → f low ≡ t → (Among j (pick f (suc low) c) → f j ≡ true) → Among j (if t then low ∷ pick f (suc low) c else pick f (suc low) c) → f j ≡ true
    by true e rest i = first_pick f low j (pick f (suc low) c) e rest i
    by false e rest i = rest i

pick_has : (f : ℕ → Bool) (low c j : ℕ) → f j ≡ true → low ≤ j → j < low + c → Among j (pick f low c)
unfolding pick
pick_has f low zero j e h l = absurd (omega arith)
pick_has f low (suc c) j e h l = by (f low) refl (λ lt. pick_has f (suc low) c j e (omega arith) (omega arith)) (elim (cases_lt low j) [ inl lt ↦ inr lt | inr ge ↦ inl (omega arith) ])
  where
    by : (t : Bool) → f low ≡ t → (low < j → Among j (pick f (suc low) c)) → (low ≡ j) ⊎ (low < j) → Among j (if t then low ∷ pick f (suc low) c else pick f (suc low) c)
    by true k later (inl same) = subst (λ z. Among z (low ∷ pick f (suc low) c)) same here
    by true k later (inr lt) = there (later lt)
    by false k later (inl same) = absurd (true≢false (sym e ∙ ap f (sym same) ∙ k))
    by false k later (inr lt) = later lt

among_held : (set : List ℕ) (j : ℕ) → Among j set → holds set j ≡ true
among_held set j a = any_from (λ i. nat_eq i j) a (same_test j)

held_among : (set : List ℕ) (j : ℕ) → holds set j ≡ true → Among j set
held_among set j h = let (i, a, e) = any_to (λ i. nat_eq i j) set h in subst (λ z. Among z set) (eqb-true i j e) a

-- ---- a fan, and rows that are right for it
module _ (t : Thing) (o : Orders) (n : ℕ) (tn : t.cols ≡ n) (fan : IsFanThing n t.cones t.lines) (orders : AreFanOrders n t.cones t.lines o) (rays lines : List (List Ratio)) (xs K V L : List Row) (sets : List (List ℕ))
    (order : InOrder (SameModulo n (InSpan t.lines)) o.rays xs) (xs_stand : StandFor rays xs) (V_stand : StandFor rays V) (V_cols : HasCols n V)
    (basis : IsBasis n (InSpan t.lines) K) (K_stand : StandFor lines K) (L_stand : StandFor lines L) (L_cols : HasCols n L)
    (right : AreConeRays t o.rays o.cones sets) where
  abbrev f : Fan
  f = fan_from (map (rays_at V) sets) L

  abbrev g : Fan
  g = record { cones = t.cones; lines = t.lines }

  by_places : AreRightSets t o.rays o.cones sets
  by_places = right_sets t o.rays o.cones sets right

  alike : InOrder (SameModulo n (InSpan t.lines)) o.rays V
  alike = order_stands n t.lines o.rays xs V rays order xs_stand V_stand

  -- the lines
  span_of_lines : (x : Row) → InSpan t.lines x → length x ≡ n → InSpan L x
  span_of_lines x h l = in_through [] L [] K (λ g i. elim i [ ]) (λ k i. let s = in_lines k i in (s, lines_opposite L k s)) (basis.spans x l h)
    where
      in_lines : (k : Row) → Among k K → InSpan L k
      in_lines k i = stand_for_span L lines L K L_stand K_stand (λ l j. in_line j) k i

  lines_in_span : (x : Row) → InSpan L x → InSpan t.lines x
  lines_in_span x h = in_through [] t.lines [] L (λ g i. elim i [ ]) (λ l i. let s = inside l i in (s, lines_opposite t.lines l s)) h
    where
      inside : (l : Row) → Among l L → InSpan t.lines l
      inside l i = stand_for_span t.lines lines K L K_stand L_stand (λ k j. among_All (InSpan t.lines) j basis.inside) l i

  -- the cone at a place of the order
  abbrev place : ℕ → ℕ
  place k = slice_index_or o.cones k 0

  abbrev cone : ℕ → List Row
  cone k = slice_index_or t.cones (place k) []

  abbrev set : ℕ → List ℕ
  set k = slice_index_or sets k []

  place_within : (k : ℕ) → k < length o.cones → place k < length t.cones
  place_within k l = among_All (λ i. i < length t.cones) (among_at 0 o.cones k l) orders.places

  generators : (k : ℕ) → k < length o.cones → HasCols n (cone k)
  generators k l = (among_All (λ G. IsConeThing n G t.lines) (among_at [] t.cones (place k) (place_within k l)) fan.cones).generators

  own : (k : ℕ) → k < length o.cones → (x : Row) → length x ≡ n → InLineality (InCone (cone k) t.lines) x → InSpan t.lines x
  own k l = among_All (λ G. (x : Row) → length x ≡ n → InLineality (InCone G t.lines) x → InSpan t.lines x) (among_at [] t.cones (place k) (place_within k l)) fan.lineality

  ray_cols : (v : Row) → Among v o.rays → length v ≡ n
  ray_cols v i = by (among_All (λ v. Any (λ G. IsExtremeRay n G t.lines v) t.cones) i orders.each)
    where
      by : Any (λ G. IsExtremeRay n G t.lines v) t.cones → length v ≡ n
      by w = let (G, j, e) = among_Any (λ G. IsExtremeRay n G t.lines v) t.cones w in e.cols

  module _ (k : ℕ) (l : k < length o.cones) where
    are : (j : ℕ) → Contains (set k) j ↔ ((j < length o.rays) × IsExtremeRay n (cone k) t.lines (ray o.rays j))
    are j = subst (λ c. Contains (set k) j ↔ ((j < length o.rays) × IsExtremeRay c (cone k) t.lines (ray o.rays j))) tn (by_places.each k l j)

    -- the same places, ascending and each once
    sorted : List ℕ
    sorted = pick (holds (set k)) 0 (length o.rays)

    ascends : are_indices (length o.rays) 0 (pick (holds (set k)) 0 (length o.rays)) ≡ true
    ascends = pick_ascends (holds (set k)) (length o.rays) 0 0 (length o.rays) (omega arith) (omega arith)

    from_sorted : (j : ℕ) → Among j (pick (holds (set k)) 0 (length o.rays)) → Among j (set k)
    from_sorted j a = held_among (set k) j (pick_holds (holds (set k)) 0 (length o.rays) j a)

    to_sorted : (j : ℕ) → Among j (set k) → Among j (pick (holds (set k)) 0 (length o.rays))
    to_sorted j a = let l = ((are j).0 (Contains_among a)).0 in pick_has (holds (set k)) 0 (length o.rays) j (among_held (set k) j a) (omega arith) (omega arith)

    are_sorted : (j : ℕ) → Contains (pick (holds (set k)) 0 (length o.rays)) j ↔ ((j < length o.rays) × IsExtremeRay n (cone k) t.lines (ray o.rays j))
    are_sorted j = (λ c. (are j).0 (Contains_among (from_sorted j (among_Contains _ c))), λ e. Contains_among (to_sorted j (among_Contains _ ((are j).1 e))))

    every : (r : Row) → IsExtremeRay n (cone k) t.lines r → Any (λ v. SameModulo n (InSpan t.lines) r v) o.rays
    every = among_All (λ G. (r : Row) → IsExtremeRay n G t.lines r → Any (λ v. SameModulo n (InSpan t.lines) r v) o.rays) (among_at [] t.cones (place k) (place_within k l)) orders.all

    own_order : IsOrder n (InCone (cone k) t.lines) (map (ray o.rays) (pick (holds (set k)) 0 (length o.rays)))
    own_order = set_order n (cone k) t.lines (own k l) o.rays ray_cols every orders.once (length o.rays) (pick (holds (set k)) 0 (length o.rays)) ascends are_sorted

    below : (j : ℕ) → Among j (set k) → j < length o.rays
    below j a = ((are j).0 (Contains_among a)).0

    in_cone : (V xs : List Row) → InOrder (SameModulo n (InSpan t.lines)) V xs → InOrder (SameModulo n (InCone (cone k) t.lines)) V xs
    in_cone [] [] o = tt
    in_cone [] (x ∷ xs) o = absurd o
    in_cone (v ∷ V) [] o = absurd o
    in_cone (v ∷ V) (x ∷ xs) o = (alike_in_cone n (cone k) t.lines (own k l) o.0, in_cone V xs o.1)

    own_alike : InOrder (SameModulo n (InCone (cone k) t.lines)) (map (ray o.rays) (pick (holds (set k)) 0 (length o.rays))) (rays_at V (pick (holds (set k)) 0 (length o.rays)))
    own_alike = in_order_set (SameModulo n (InCone (cone k) t.lines)) o.rays V (pick (holds (set k)) 0 (length o.rays)) (in_cone o.rays V alike) (λ j a. below j (from_sorted j a))

    own_basis : IsBasis n (InLineality (InCone (cone k) t.lines)) K
    own_basis = record {
      cols = basis.cols;
      inside = All_among (InLineality (InCone (cone k) t.lines)) K (λ x i. let h = among_All (InSpan t.lines) i basis.inside in record { inside = in_of (cone k) [] t.lines (λ g j. elim j [ ]) h; opposed = in_of (cone k) [] t.lines (λ g j. elim j [ ]) (lines_opposite t.lines x h) });
      independent = basis.independent;
      spans = λ x lx h. basis.spans x lx (own k l x lx h);
    }

    -- rays at places of the one list generate what those of the other do
    more_rays : (r s : List ℕ) → ((j : ℕ) → Among j r → Among j s) → {x : Row} → InCone (rays_at V r) K x → InCone (rays_at V s) K x
    more_rays r s f h = in_through (rays_at V s) K (rays_at V r) K
        (λ g i. let (j, a, e) = map_among (ray V) r i in in_generator (subst (λ z. Among z (rays_at V s)) (sym e) (among_map (ray V) (f j a))))
        (λ y i. let s' = in_of (rays_at V s) [] K (λ g j. elim j [ ]) (in_line i) in (s', lines_opposed y i)) h
      where
        lines_opposed : (y : Row) → Among y K → InCone (rays_at V s) K (opposite y)
        lines_opposed y i = in_of (rays_at V s) [] K (λ g j. elim j [ ]) (lines_opposite K y (in_line i))

    generated : (x : Row) → length x ≡ n → InCone (cone k) t.lines x ↔ InCone (rays_at V (set k)) K x
    generated x lx =
        let w = rays_generate n (cone k) t.lines (map (ray o.rays) (pick (holds (set k)) 0 (length o.rays))) (rays_at V (pick (holds (set k)) 0 (length o.rays))) own_order own_alike (generators k l) fan.lines K own_basis x lx in
        (λ h. more_rays (pick (holds (set k)) 0 (length o.rays)) (set k) from_sorted (w.0 h), λ h. w.1 (more_rays (set k) (pick (holds (set k)) 0 (length o.rays)) to_sorted h))

    -- the same with the lines L
    same_cone : (x : Row) → length x ≡ n → InCone (cone k) t.lines x ↔ InCone (rays_at V (set k)) L x
    same_cone x lx = (λ h. to_lines ((generated x lx).0 h), λ h. (generated x lx).1 (from_lines h))
      where
        X : List Row
        X = rays_at V (set k)

        in_lines : (y : Row) → Among y K → InSpan L y
        in_lines y i = stand_for_span L lines L K L_stand K_stand (λ l j. in_line j) y i

        in_basis : (y : Row) → Among y L → InSpan K y
        in_basis y i = stand_for_span K lines K L K_stand L_stand (λ l j. in_line j) y i

        lift : (M : List Row) (y : Row) → InSpan M y → InCone X M y
        lift M y h = in_of X [] M (λ g j. elim j [ ]) h

        to_lines : InCone X K x → InCone X L x
        to_lines h = in_through X L X K (λ g i. in_generator i) (λ y i. let s = in_lines y i in (lift L y s, lift L (opposite y) (lines_opposite L y s))) h

        from_lines : InCone X L x → InCone X K x
        from_lines h = in_through X K X L (λ g i. in_generator i) (λ y i. let s = in_basis y i in (lift K y s, lift K (opposite y) (lines_opposite K y s))) h

  -- ---- the fan by rows
  many : length f.cones ≡ length o.cones
  many = map_length (rays_at V) sets ∙ by_places.as_many

  at : (k : ℕ) → k < length o.cones → slice_index_or f.cones k [] ≡ rays_at V (set k)
  at k l = map_at (rays_at V) [] [] sets k (let e = by_places.as_many in omega arith)

  pub cone_same : (k : ℕ) → k < length o.cones → (x : Row) → length x ≡ n → InCone (cone k) t.lines x ↔ InPlace f k x
  cone_same k l x lx = subst (λ G. InCone (cone k) t.lines x ↔ InCone G L x) (sym (at k l)) (same_cone k l x lx)

  pub same_fan : IsSameFan n g f
  same_fan = record {
    lines = λ x lx. (λ h. span_of_lines x h lx, λ h. lines_in_span x h);
    each = λ i li. by i (place_at 0 o.cones (among_Contains o.cones (orders.every i li)));
    all = λ k lk. let l : k < length o.cones = (let e = many in omega arith) in (place k, place_within k l, λ x lx. cone_same k l x lx);
  }
    where
      by : (i : ℕ) → (k : ℕ) × (k < length o.cones) × (slice_index_or o.cones k 0 ≡ i) → (j : ℕ) × (j < length f.cones) × IsConeAt n g i (InPlace f j)
      by i w = (w.0, (let e = many in let l = w.1 in omega arith), subst (λ z. IsConeAt n g z (InPlace f w.0)) w.2 (λ x lx. cone_same w.0 w.1 x lx))

  pub is_fan : IsFan n f
  is_fan = record {
    lines = L_cols;
    cones = All_among (λ G. IsConeThing n G L) f.cones (λ G i. let (s, j, e) = map_among (rays_at V) sets i in subst (λ H. IsConeThing n H L) (sym e) (record { generators = set_cols s j; lines = L_cols }));
    lineality = All_among (λ G. (x : Row) → length x ≡ n → InLineality (InCone G L) x → InSpan L x) f.cones (λ G i. own_lines G (place_at [] f.cones i));
    apart = λ i j li lj d h.
        let ki : i < length o.cones = (let e = many in omega arith) in
        let kj : j < length o.cones = (let e = many in omega arith) in
        fan.apart (place i) (place j) (place_within i ki) (place_within j kj) (other i j ki kj d) (λ x lx w. (cone_same j kj x lx).1 (h x lx ((cone_same i ki x lx).0 w)));
  }
    where
      set_cols : (s : List ℕ) → Among s sets → HasCols n (rays_at V s)
      set_cols s i = all_from (λ x. length x ≡ n) (rays_at V s) (λ x j. let (k, a, e) = map_among (ray V) s j in subst (λ y. length y ≡ n) (sym e) (all_at (λ (y : Row). length y ≡ n) (among_at [] V k (within s i k a)) V_cols))
        where
          count : length V ≡ length o.rays
          count = in_order_length (SameModulo n (InSpan t.lines)) o.rays V alike

          within : (s : List ℕ) → Among s sets → (k : ℕ) → Among k s → k < length V
          within s i k a =
              let (q, lq, e) = place_at [] sets i in
              let c = count in
              let am = by_places.as_many in
              let b = below q (omega arith) k (subst (λ z. Among k z) (sym e) a) in
              omega arith

      own_lines : (G : List Row) → (k : ℕ) × (k < length f.cones) × (slice_index_or f.cones k [] ≡ G) → (x : Row) → length x ≡ n → InLineality (InCone G L) x → InSpan L x
      own_lines G w x lx h =
          let l : w.0 < length o.cones = (let e = many in let b = w.1 in omega arith) in
          let h' : InLineality (InPlace f w.0) x = subst (λ H. InLineality (InCone H L) x) (sym w.2) h in
          span_of_lines x (own w.0 l x lx (record { inside = (cone_same w.0 l x lx).1 h'.inside; opposed = (cone_same w.0 l (opposite x) (length-opposite x ∙ lx)).1 h'.opposed })) lx

      other : (i j : ℕ) → i < length o.cones → j < length o.cones → ¬ (i ≡ j) → ¬ (place i ≡ place j)
      other i j li lj d e = by_order i j (λ l. orders.places_once i j 0 l lj e) (λ l. orders.places_once j i 0 l li (sym e)) d
