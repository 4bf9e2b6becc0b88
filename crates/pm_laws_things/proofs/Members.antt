-- Sets of places, and the rows that stand at the sets with members.
use Rattle.pm_laws_normal_fans.proofs.Lifts.{entry-rest, length-rest}
use Rattle.pm_geom.specs.Cones.{SameModulo}
use Rattle.pm_vector.specs.Cones.{InSpan}
use Rattle.pm_vector.proofs.RowLaws.{entry-plus, entry-times}
use Rattle.pm_vector.proofs.ConeLaws.{lines_opposite}
use Rattle.pm_vector.proofs.Filters.{any_from, any_to}
use Rattle.pm_vector.proofs.Lists.{AllPairs_cons, Among, Any_among, Contains_among, among_Any, among_Contains, here, there}
use Rattle.pm_vector.specs.Numbers.{Ratio}
use Rattle.pm_vector.specs.Rows.{HasCols, Row, Stands, dot}
use Rattle.pm_fan.specs.Fans.{cut, has_members, holders_from, with_members}
use Rattle.pm_geom.specs.Faces.{ray}
use Rattle.pm_geom.specs.Graphs.{holds}
use Rattle.pm_laws_normal_fans.proofs.Places.{among_at, no_pairs, pairs_head, pairs_tail, place_at}
use Rattle.pm_laws_normal_fans.specs.Shadows.{rest, rests}
use Rattle.pm_types.specs.Right.{InOrder, IsIncidence, StandFor}
use Rattle.std.proofs.Common.{Bool, ap, arith, cond, false, refl, subst, sym, true}
use Rattle.std.proofs.lemmas.Bool.{eq-eqb, eqb-true}
use Rattle.std.specs.List.{AllPairs, Any, Contains, slice_index_or}
use Rattle.std.specs.Prelude.{List, [], drop, filter, length, suc, zero, ℕ, ◌+◌, ◌<◌, ◌==◌, ◌↔◌, ◌∷◌, ◌≡◌}
use lib.IntN.{pos}

-- ---- what a set holds
pub holds_among : (set : List ℕ) (k : ℕ) → holds set k ≡ true → Among k set
holds_among set k h = let (i, a, e) = any_to (λ i. i == k) set h in subst (λ z. Among z set) (eqb-true i k e) a

pub among_holds : (set : List ℕ) (k : ℕ) → Among k set → holds set k ≡ true
among_holds set k a = any_from (λ i. i == k) a (eq-eqb k k refl)

some_member : (set : List ℕ) {k : ℕ} → Among k set → has_members set ≡ true
some_member [] i = elim i [ ]
some_member (j ∷ set) i = refl

-- ---- the rows at the sets with members
abbrev pub kept_rows : List (List ℕ) → List Row → List Row
kept_rows [] X = []
kept_rows (set ∷ sets) [] = []
kept_rows (set ∷ sets) (x ∷ X) = cond (has_members set) (x ∷ kept_rows sets X) (kept_rows sets X)

pub kept_among : (sets : List (List ℕ)) (X : List Row) {x : Row} → Among x (kept_rows sets X) → Among x X
kept_among [] X i = elim i [ ]
kept_among (set ∷ sets) [] i = elim i [ ]
kept_among ([] ∷ sets) (y ∷ X) i = there (kept_among sets X i)
kept_among ((j ∷ set) ∷ sets) (y ∷ X) here = here
kept_among ((j ∷ set) ∷ sets) (y ∷ X) (there i) = there (kept_among sets X i)

pub kept_once : (R : Row → Row → Type 0) (sets : List (List ℕ)) (X : List Row) → AllPairs R X → AllPairs R (kept_rows sets X)
kept_once R [] X h = no_pairs R
kept_once R (set ∷ sets) [] h = no_pairs R
kept_once R ([] ∷ sets) (x ∷ X) h = kept_once R sets X (pairs_tail R x X h)
kept_once R ((j ∷ set) ∷ sets) (x ∷ X) h = AllPairs_cons R x (kept_rows sets X) (λ y i. pairs_head R x X h (kept_among sets X i)) (kept_once R sets X (pairs_tail R x X h))

pub kept_cols : (n : ℕ) (sets : List (List ℕ)) (X : List Row) → HasCols n X → HasCols n (kept_rows sets X)
kept_cols n [] X h = tt
kept_cols n (set ∷ sets) [] h = tt
kept_cols n ([] ∷ sets) (x ∷ X) h = kept_cols n sets X h.1
kept_cols n ((j ∷ set) ∷ sets) (x ∷ X) h = (h.0, kept_cols n sets X h.1)

pub kept_order : (R : Row → Row → Type 0) (sets : List (List ℕ)) (V X : List Row) → InOrder R V X → InOrder R (kept_rows sets V) (kept_rows sets X)
kept_order R [] V X o = tt
kept_order R (set ∷ sets) [] [] o = tt
kept_order R (set ∷ sets) [] (x ∷ X) o = absurd o
kept_order R (set ∷ sets) (v ∷ V) [] o = absurd o
kept_order R ([] ∷ sets) (v ∷ V) (x ∷ X) o = kept_order R sets V X o.1
kept_order R ((j ∷ set) ∷ sets) (v ∷ V) (x ∷ X) o = (o.0, kept_order R sets V X o.1)

pub kept_stand : (sets : List (List ℕ)) (rows : List (List Ratio)) (X : List Row) → StandFor rows X → StandFor (with_members sets rows) (kept_rows sets X)
kept_stand [] rows X s = tt
kept_stand (set ∷ sets) [] [] s = tt
kept_stand (set ∷ sets) [] (x ∷ X) s = absurd s
kept_stand (set ∷ sets) (r ∷ rows) [] s = absurd s
kept_stand ([] ∷ sets) (r ∷ rows) (x ∷ X) s = kept_stand sets rows X s.1
kept_stand ((j ∷ set) ∷ sets) (r ∷ rows) (x ∷ X) s = (s.0, kept_stand sets rows X s.1)

-- ---- without the first entry
cut_stands : (r : List Ratio) (x : Row) → Stands r x → Stands (drop 1 r) (rest x)
cut_stands [] [] s = s
cut_stands [] (b ∷ x) s = absurd (let l = s.cols in omega arith)
cut_stands (q ∷ r) [] s = absurd (let l = s.cols in omega arith)
cut_stands (q ∷ r) (b ∷ x) s = record {
  p = s.p;
  q = s.q;
  p_positive = s.p_positive;
  q_positive = s.q_positive;
  cols = (let l = s.cols in omega arith);
  denominators = λ i l. s.denominators (suc i) (omega arith);
  same = λ i l. s.same (suc i) (omega arith);
}

pub cut_stand : (rows : List (List Ratio)) (X : List Row) → StandFor rows X → StandFor (cut rows) (rests X)
cut_stand [] [] s = tt
cut_stand [] (x ∷ X) s = absurd s
cut_stand (r ∷ rows) [] s = absurd s
cut_stand (r ∷ rows) (x ∷ X) s = (cut_stands r x s.0, cut_stand rows X s.1)

pub stand_length : (rows : List (List Ratio)) (X : List Row) → StandFor rows X → length X ≡ length rows
stand_length [] [] s = refl
stand_length [] (x ∷ X) s = absurd s
stand_length (r ∷ rows) [] s = absurd s
stand_length (r ∷ rows) (x ∷ X) s = ap suc (stand_length rows X s.1)

pub order_length : (R : Row → Row → Type 0) (V X : List Row) → InOrder R V X → length V ≡ length X
order_length R [] [] o = refl
order_length R [] (x ∷ X) o = absurd o
order_length R (v ∷ V) [] o = absurd o
order_length R (v ∷ V) (x ∷ X) o = ap suc (order_length R V X o.1)

-- rows that are alike modulo a part that, without its first entry, is in the lines, are alike without their first entries
pub rests_alike : (m : ℕ) (S : Row → Type 0) (lines : List Row) (v x : Row) → (s : SameModulo (suc m) S v x) → InSpan lines (rest s.w) → SameModulo m (InSpan lines) (rest v) (rest x)
rests_alike m S lines v x s l = record {
  p = s.p;
  k = s.k;
  w = rest s.w;
  cols = length-rest m s.w s.cols;
  p_positive = s.p_positive;
  k_positive = s.k_positive;
  line = record { inside = l; opposed = lines_opposite lines (rest s.w) l };
  same = record { at = λ i. let e = simp (entry-times, entry-plus) at (s.same.at (suc i)) in let a = entry-rest v i in let c = entry-rest x i in let d = entry-rest s.w i in simp (entry-times, entry-plus, a, c, d, e) };
}

pub rests_order : (R Q : Row → Row → Type 0) → ((v x : Row) → R v x → Q (rest v) (rest x)) → (V X : List Row) → InOrder R V X → InOrder Q (rests V) (rests X)
rests_order R Q f [] [] o = tt
rests_order R Q f [] (x ∷ X) o = absurd o
rests_order R Q f (v ∷ V) [] o = absurd o
rests_order R Q f (v ∷ V) (x ∷ X) o = (f v x o.0, rests_order R Q f V X o.1)

-- ---- incidence
-- the set at place d of those with members is that of the row there
pub record IsHeldAt (V U : List Row) (fs : List (List ℕ)) : Type 0 where
  pub as_many : length fs ≡ length U
  pub each : (d : ℕ) → d < length U → (k : ℕ) → (holds (slice_index_or fs d []) k ≡ true) ↔ ((k < length V) × (dot (ray U d) (ray V k) ≡ pos 0))

pub held_at_sets : (F V : List Row) (sets : List (List ℕ)) → IsIncidence F V sets → IsHeldAt V (kept_rows sets F) (filter has_members sets)
held_at_sets [] V [] h = record { as_many = refl; each = λ d l. absurd (omega arith) }
held_at_sets [] V (set ∷ sets) h = absurd h
held_at_sets (f ∷ F) V [] h = absurd h
held_at_sets (f ∷ F) V ([] ∷ sets) h = held_at_sets F V sets h.1
held_at_sets (f ∷ F) V ((j ∷ set) ∷ sets) h =
    let r = held_at_sets F V sets h.1 in
    record { as_many = ap suc r.as_many; each = by r }
  where
    by : IsHeldAt V (kept_rows sets F) (filter has_members sets) → (d : ℕ) → d < suc (length (kept_rows sets F)) → (k : ℕ) → (holds (slice_index_or ((j ∷ set) ∷ filter has_members sets) d []) k ≡ true) ↔ ((k < length V) × (dot (ray (f ∷ kept_rows sets F) d) (ray V k) ≡ pos 0))
    by r zero l k = (λ t. (h.0 k).0 (Contains_among (holds_among (j ∷ set) k t)), λ z. among_holds (j ∷ set) k (among_Contains (j ∷ set) ((h.0 k).1 z)))
    by r (suc d) l k = r.each d (omega arith) k

pub used_each : (F V : List Row) (sets : List (List ℕ)) → IsIncidence F V sets → (b : Row) → Among b (kept_rows sets F) → Any (λ a. dot b a ≡ pos 0) V
used_each [] V [] h b i = elim i [ ]
used_each [] V (set ∷ sets) h b i = absurd h
used_each (f ∷ F) V [] h b i = elim i [ ]
used_each (f ∷ F) V ([] ∷ sets) h b i = used_each F V sets h.1 b i
used_each (f ∷ F) V ((j ∷ set) ∷ sets) h b here = let z = (h.0 j).0 (Contains_among here) in Any_among (λ a. dot b a ≡ pos 0) (among_at [] V j z.0) z.1
used_each (f ∷ F) V ((j ∷ set) ∷ sets) h b (there i) = used_each F V sets h.1 b i

pub used_all : (F V : List Row) (sets : List (List ℕ)) → IsIncidence F V sets → (b : Row) → Among b F → Any (λ a. dot b a ≡ pos 0) V → Among b (kept_rows sets F)
used_all [] V [] h b i z = elim i [ ]
used_all [] V (set ∷ sets) h b i z = absurd h
used_all (f ∷ F) V [] h b i z = absurd h
used_all (f ∷ F) V ([] ∷ sets) h b here z =
    let (a, ia, o) = among_Any (λ a. dot b a ≡ pos 0) V z in
    let (k, lk, e) = place_at [] V ia in
    absurd (let i = among_Contains [] ((h.0 k).1 (lk, subst (λ y. dot b y ≡ pos 0) (sym e) o)) in elim i [ ])
used_all (f ∷ F) V ([] ∷ sets) h b (there i) z = used_all F V sets h.1 b i z
used_all (f ∷ F) V ((j ∷ set) ∷ sets) h b here z = here
used_all (f ∷ F) V ((j ∷ set) ∷ sets) h b (there i) z = there (used_all F V sets h.1 b i z)

-- ---- the places of the sets that hold k
record IsHolder (i : ℕ) (fs : List (List ℕ)) (k j : ℕ) : Type 0 where
  d : ℕ
  is : j ≡ i + d
  below : d < length fs
  has : holds (slice_index_or fs d []) k ≡ true

holder_next : (i : ℕ) (set : List ℕ) (fs : List (List ℕ)) (k j : ℕ) → IsHolder (suc i) fs k j → IsHolder i (set ∷ fs) k j
holder_next i set fs k j h = record { d = suc h.d; is = (let e = h.is in omega arith); below = (let l = h.below in omega arith); has = h.has }

holder_to : (i : ℕ) (fs : List (List ℕ)) (k j : ℕ) → Among j (holders_from i fs k) → IsHolder i fs k j
holder_to i [] k j a = elim a [ ]
holder_to i (set ∷ fs) k j a = by (holds set k) refl a (holder_to (suc i) fs k j)
  where
    first : holds set k ≡ true → {y : ℕ} → Among y (i ∷ holders_from (suc i) fs k) → (Among y (holders_from (suc i) fs k) → IsHolder (suc i) fs k y) → IsHolder i (set ∷ fs) k y
    first e here more = record { d = 0; is = omega arith; below = omega arith; has = e }
    first e {y} (there b) more = holder_next i set fs k y (more b)

    by : (t : Bool) → holds set k ≡ t → Among j (cond t (i ∷ holders_from (suc i) fs k) (holders_from (suc i) fs k)) → (Among j (holders_from (suc i) fs k) → IsHolder (suc i) fs k j) → IsHolder i (set ∷ fs) k j
    by true e b more = first e b more
    by false e b more = holder_next i set fs k j (more b)

holder_from : (i : ℕ) (fs : List (List ℕ)) (k d : ℕ) → d < length fs → holds (slice_index_or fs d []) k ≡ true → Among (i + d) (holders_from i fs k)
holder_from i [] k d l e = absurd (omega arith)
holder_from i (set ∷ fs) k zero l e = subst (λ t. Among (i + 0) (cond t (i ∷ holders_from (suc i) fs k) (holders_from (suc i) fs k))) (sym e) (let z : i ≡ i + 0 = omega arith in subst (λ y. Among y (i ∷ holders_from (suc i) fs k)) z here)
holder_from i (set ∷ fs) k (suc d) l e = by (holds set k) (let z : suc i + d ≡ i + suc d = omega arith in subst (λ y. Among y (holders_from (suc i) fs k)) z (holder_from (suc i) fs k d (omega arith) e))
  where
    by : (t : Bool) → Among (i + suc d) (holders_from (suc i) fs k) → Among (i + suc d) (cond t (i ∷ holders_from (suc i) fs k) (holders_from (suc i) fs k))
    by true b = there b
    by false b = b

pub holders_are : (fs : List (List ℕ)) (k j : ℕ) → Contains (holders_from 0 fs k) j ↔ ((j < length fs) × (holds (slice_index_or fs j []) k ≡ true))
holders_are fs k j = (
  λ c. let h = holder_to 0 fs k j (among_Contains (holders_from 0 fs k) c) in let e : h.d ≡ j = (let q = h.is in omega arith) in subst (λ d. (d < length fs) × (holds (slice_index_or fs d []) k ≡ true)) e (h.below, h.has),
  λ p. let e : 0 + j ≡ j = omega arith in Contains_among (subst (λ y. Among y (holders_from 0 fs k)) e (holder_from 0 fs k j p.0 p.1)),
)
