-- The listed cells are those of the next front.
use Rattle.pm_vector.proofs.Filters.{among_filter, filter_among}
use Rattle.pm_vector.proofs.Lists.{AllPairs_cons, All_among, Among, Contains_among, among_All, among_Contains, among_append, among_append_left, among_append_right, here, there}
use Rattle.pm_vector.specs.Rows.{Row, dot, entry}
use Rattle.pm_laws_placing.proofs.Places.{Distinct, Rising, rising_distinct, rising_of}
use Rattle.pm_beneath.specs.CellLists.{IsFacetTable, ListedCellsAreNext, cells_below, joined_cells}
use Rattle.pm_laws_placing.specs.Placing.{IsExchange, IsNextCells, IsOnlyOff}
use Rattle.pm_bits.specs.Sets.{has}
use Rattle.pm_geom.specs.Faces.{ray}
use Rattle.pm_geom.specs.Graphs.{IsAscending}
use Rattle.std.specs.Prelude.{ℕ, zero, suc, ◌+◌, ◌<◌, ◌≤◌, ◌==◌, ◌≡◌, ◌⊎◌, Bool, true, false, cond, List, [], ◌∷◌, ◌++◌, length}
use Rattle.std.specs.List.{All, AllPairs, Contains, filter, slice_index_or}
use Rattle.std.proofs.Common.{T, arith, ap, refl, sym, subst, inl, inr}
use Rattle.std.proofs.lemmas.Bool.{cases_Bool, eq-eqb, eqb-true}
use lib.IntN.{ℤ, pos}
use lib.Signed.{◌<ℤ◌, lt_z, lt_z_yes}

-- ---- lists of which a test passes all but one
filter_length : (p : ℕ → Bool) (s : List ℕ) → length (filter p s) ≤ length s
filter_length p [] = omega arith
filter_length p (x ∷ s) = by (p x) (filter_length p s)
  where
    by : (b : Bool) → length (filter p s) ≤ length s → length (cond b (x ∷ filter p s) (filter p s)) ≤ suc (length s)
    by true h = omega arith
    by false h = omega arith

kept_by : (p : ℕ → Bool) (x : ℕ) (s : List ℕ) (b : Bool) → p x ≡ b → length (cond b (x ∷ filter p s) (filter p s)) ≡ suc (length s) → length (filter p s) ≤ length s → (length (filter p s) ≡ length s → (k : ℕ) → Among k s → p k ≡ true) → (k : ℕ) → Among k (x ∷ s) → p k ≡ true
kept_by p x s true t e l more k here = t
kept_by p x s true t e l more k (there j) = more (omega arith) k j
kept_by p x s false t e l more k j = absurd (omega arith)

all_kept : (p : ℕ → Bool) (s : List ℕ) → length (filter p s) ≡ length s → (k : ℕ) → Among k s → p k ≡ true
all_kept p [] e k i = elim i [ ]
all_kept p (x ∷ s) e k i = kept_by p x s (p x) refl e (filter_length p s) (λ f m j. all_kept p s f m j) k i

kept_all : (p : ℕ → Bool) (s : List ℕ) → ((k : ℕ) → Among k s → p k ≡ true) → length (filter p s) ≡ length s
kept_all p [] f = refl
kept_all p (x ∷ s) f = by (p x) (f x here) (kept_all p s (λ k i. f k (there i)))
  where
    by : (b : Bool) → b ≡ true → length (filter p s) ≡ length s → length (cond b (x ∷ filter p s) (filter p s)) ≡ suc (length s)
    by true t e = ap suc e
    by false t e = absurd cc

record OneOut (p : ℕ → Bool) (s : List ℕ) : Type 0 where
  i : ℕ
  member : Among i s
  out : p i ≡ false
  others : (k : ℕ) → Among k s → ¬ (k ≡ i) → p k ≡ true

one_out : (p : ℕ → Bool) (s : List ℕ) → length (filter p s) + 1 ≡ length s → OneOut p s
one_out p [] e = absurd (omega arith)
one_out p (x ∷ s) e = by (p x) refl e (one_out p s) (λ f. all_kept p s f)
  where
    by : (b : Bool) → p x ≡ b → length (cond b (x ∷ filter p s) (filter p s)) + 1 ≡ suc (length s) → (length (filter p s) + 1 ≡ length s → OneOut p s) → (length (filter p s) ≡ length s → (k : ℕ) → Among k s → p k ≡ true) → OneOut p (x ∷ s)
    by true t e more all = let r = more (omega arith) in record { i = r.i; member = there r.member; out = r.out; others = go r }
      where
        go : (r : OneOut p s) → (k : ℕ) → Among k (x ∷ s) → ¬ (k ≡ r.i) → p k ≡ true
        go r k here n = t
        go r k (there j) n = r.others k j n
    by false t e more all = record { i = x; member = here; out = t; others = go (all (omega arith)) }
      where
        go : ((k : ℕ) → Among k s → p k ≡ true) → (k : ℕ) → Among k (x ∷ s) → ¬ (k ≡ x) → p k ≡ true
        go f k here n = absurd (n refl)
        go f k (there j) n = f k j

out_one : (p : ℕ → Bool) (s : List ℕ) (i : ℕ) → Distinct s → Among i s → p i ≡ false → ((k : ℕ) → Among k s → ¬ (k ≡ i) → p k ≡ true) → length (filter p s) + 1 ≡ length s
unfolding Distinct
out_one p [] i d m o f = elim m [ ]
out_one p (x ∷ s) i d here o f = by (p x) o (kept_all p s (λ k j. f k (there j) (λ e. d.0 (subst (λ (z : ℕ). Among z s) e j))))
  where
    by : (b : Bool) → b ≡ false → length (filter p s) ≡ length s → length (cond b (x ∷ filter p s) (filter p s)) + 1 ≡ suc (length s)
    by true t e = absurd cc
    by false t e = omega arith
out_one p (x ∷ s) i d (there m) o f = by (p x) (f x here (λ e. d.0 (subst (λ (z : ℕ). Among z s) (sym e) m))) (out_one p s i d.1 m o (λ k j. f k (there j)))
  where
    by : (b : Bool) → b ≡ true → length (filter p s) + 1 ≡ length s → length (cond b (x ∷ filter p s) (filter p s)) + 1 ≡ suc (length s)
    by true t e = omega arith
    by false t e = absurd cc

-- ---- the listed cells
record Joined (z : List Bool) (j : ℕ) (T : List (List ℕ)) (u : List ℕ) : Type 0 where
  s : List ℕ
  member : Among s T
  all_but : length (filter (has z) s) + 1 ≡ length s
  made : filter (has z) s ++ j ∷ [] ≡ u

older : {z : List Bool} {j : ℕ} {C : List (List ℕ)} {s u : List ℕ} → Joined z j C u → Joined z j (s ∷ C) u
older r = record { s = r.s; member = there r.member; all_but = r.all_but; made = r.made }

joined_by : (z : List Bool) (j : ℕ) (C : List (List ℕ)) (s : List ℕ) (b : Bool) → (length (filter (has z) s) + 1 == length s) ≡ b → ((u : List ℕ) → Among u (joined_cells z j C) → Joined z j C u) → (u : List ℕ) → Among u (cond b ((filter (has z) s ++ j ∷ []) ∷ joined_cells z j C) (joined_cells z j C)) → Joined z j (s ∷ C) u
joined_by z j C s true t more u here = record { s = s; member = here; all_but = eqb-true (length (filter (has z) s) + 1) (length s) t; made = refl }
joined_by z j C s true t more u (there k) = older (more u k)
joined_by z j C s false t more u k = older (more u k)

joined_among : (z : List Bool) (j : ℕ) (C : List (List ℕ)) (u : List ℕ) → Among u (joined_cells z j C) → Joined z j C u
joined_among z j [] u i = elim i [ ]
joined_among z j (s ∷ C) u i = joined_by z j C s (length (filter (has z) s) + 1 == length s) refl (λ v k. joined_among z j C v k) u i

among_joined : (z : List Bool) (j : ℕ) (T : List (List ℕ)) (s : List ℕ) → Among s T → length (filter (has z) s) + 1 ≡ length s → Among (filter (has z) s ++ j ∷ []) (joined_cells z j T)
among_joined z j [] s i e = elim i [ ]
among_joined z j (s ∷ T) s2 here e = by (length (filter (has z) s) + 1 == length s) (eq-eqb (length (filter (has z) s) + 1) (length s) e)
  where
    by : (b : Bool) → b ≡ true → Among (filter (has z) s ++ j ∷ []) (cond b ((filter (has z) s ++ j ∷ []) ∷ joined_cells z j T) (joined_cells z j T))
    by true t = here
    by false t = absurd cc
among_joined z j (t ∷ T) s (there i) e = by (length (filter (has z) t) + 1 == length t) (among_joined z j T s i e)
  where
    by : (b : Bool) → Among (filter (has z) s ++ j ∷ []) (joined_cells z j T) → Among (filter (has z) s ++ j ∷ []) (cond b ((filter (has z) t ++ j ∷ []) ∷ joined_cells z j T) (joined_cells z j T))
    by true k = there k
    by false k = k

record Below (vs : List ℤ) (Z : List (List Bool)) (j : ℕ) (C : List (List ℕ)) (u : List ℕ) : Type 0 where
  i : ℕ
  within : i < length vs
  negative : entry vs i <ℤ pos 0
  joined : Among u (joined_cells (slice_index_or Z i []) j C)

below_among : (vs : List ℤ) (Z : List (List Bool)) (j : ℕ) (C : List (List ℕ)) (u : List ℕ) → Among u (cells_below vs Z j C) → Below vs Z j C u
below_among [] Z j C u i = elim i [ ]
below_among (v ∷ vs) [] j C u i = elim i [ ]
below_among (v ∷ vs) (z ∷ Z) j C u i = by (lt_z v (pos 0)) refl (below_among vs Z j C u) i
  where
    later : Below vs Z j C u → Below (v ∷ vs) (z ∷ Z) j C u
    later r = record { i = suc r.i; within = (let l = r.within in omega arith); negative = r.negative; joined = r.joined }

    by : (b : Bool) → lt_z v (pos 0) ≡ b → (Among u (cells_below vs Z j C) → Below vs Z j C u) → Among u (cond b (joined_cells z j C ++ cells_below vs Z j C) (cells_below vs Z j C)) → Below (v ∷ vs) (z ∷ Z) j C u
    by true t more k = elim (among_append (joined_cells z j C) (cells_below vs Z j C) k) [
      | inl m ↦ record { i = 0; within = omega arith; negative = lt_z_yes (subst (λ (c : Bool). T c) (sym t) tt); joined = m }
      | inr m ↦ later (more m)
    ]
    by false t more k = later (more k)

t_true : (b : Bool) → T b → b ≡ true
t_true true t = refl
t_true false t = absurd t

among_below : (vs : List ℤ) (Z : List (List Bool)) (j : ℕ) (C : List (List ℕ)) (u : List ℕ) (i : ℕ) → i < length vs → length Z ≡ length vs → entry vs i <ℤ pos 0 → Among u (joined_cells (slice_index_or Z i []) j C) → Among u (cells_below vs Z j C)
among_below [] Z j C u i l e n k = absurd (omega arith)
among_below (v ∷ vs) [] j C u i l e n k = absurd (omega arith)
among_below (v ∷ vs) (z ∷ Z) j C u zero l e n k = by (lt_z v (pos 0)) (t_true (lt_z v (pos 0)) n.lt)
  where
    by : (b : Bool) → b ≡ true → Among u (cond b (joined_cells z j C ++ cells_below vs Z j C) (cells_below vs Z j C))
    by true t = among_append_left (cells_below vs Z j C) k
    by false t = absurd cc
among_below (v ∷ vs) (z ∷ Z) j C u (suc i) l e n k = by (lt_z v (pos 0)) (among_below vs Z j C u i (omega arith) (omega arith) n k)
  where
    by : (b : Bool) → Among u (cells_below vs Z j C) → Among u (cond b (joined_cells z j C ++ cells_below vs Z j C) (cells_below vs Z j C))
    by true m = among_append_right (joined_cells z j C) m
    by false m = m

ray_among : (F : List Row) (i : ℕ) → i < length F → Among (ray F i) F
ray_among [] i l = absurd (omega arith)
ray_among (a ∷ F) zero l = here
ray_among (a ∷ F) (suc i) l = there (ray_among F i (omega arith))

among_ray : (F : List Row) (a : Row) → Among a F → (i : ℕ) × (i < length F) × (ray F i ≡ a)
among_ray [] a i = elim i [ ]
among_ray (b ∷ F) a here = (0, omega arith, refl)
among_ray (b ∷ F) a (there i) = let r = among_ray F a i in (suc r.0, (let l = r.1 in omega arith), r.2)

pairs : (s : List ℕ) → Rising s → AllPairs (λ i j. i < j) s
unfolding Rising
pairs [] r = λ i j d l m. absurd (omega arith)
pairs (x ∷ s) r = AllPairs_cons (λ i j. i < j) x s r.0 (pairs s r.1)

clash : {b : Bool} → b ≡ true → b ≡ false → ⊥
clash p q = cc

pub rising_filter : (p : ℕ → Bool) (s : List ℕ) → Rising s → Rising (filter p s)
unfolding Rising
rising_filter p [] r = tt
rising_filter p (x ∷ s) r = by (p x) (rising_filter p s r.1)
  where
    by : (b : Bool) → Rising (filter p s) → Rising (cond b (x ∷ filter p s) (filter p s))
    by true h = (λ y i. r.0 y (filter_among p s i).0, h)
    by false h = h

module _ (J F : List Row) (vs : List ℤ) (Z : List (List Bool)) (f : ℕ) (T : List (List ℕ)) (t : IsFacetTable J F vs Z f) (up : All (IsAscending f) T) where
  cell_up : (s : List ℕ) → Among s T → IsAscending f s
  cell_up s i = among_All (IsAscending f) i up

  below_f : (s : List ℕ) → Among s T → (k : ℕ) → Among k s → k < f
  below_f s i k j = among_All (λ k. k < f) j (cell_up s i).0

  distinct : (s : List ℕ) → Among s T → Distinct s
  distinct s i = rising_distinct s (rising_of s (cell_up s i).1)

  -- a place that is set is on the facet
  on_facet : (i : ℕ) → i < length F → (s : List ℕ) → Among s T → (k : ℕ) → Among k s → has (slice_index_or Z i []) k ≡ true → dot (ray F i) (ray J k) ≡ pos 0
  on_facet i l s is k ks h = (t.zeros i k l (below_f s is k ks)).0 h

  off_facet : (i : ℕ) → i < length F → (s : List ℕ) → Among s T → (k : ℕ) → Among k s → has (slice_index_or Z i []) k ≡ false → ¬ (dot (ray F i) (ray J k) ≡ pos 0)
  off_facet i l s is k ks h z = clash ((t.zeros i k l (below_f s is k ks)).1 z) h

  exchanged : (z : List Bool) (s : List ℕ) (i : ℕ) → Among i s → has z i ≡ false → ((k : ℕ) → Among k s → ¬ (k ≡ i) → has z k ≡ true) → IsExchange s i f (filter (has z) s ++ f ∷ [])
  exchanged z s i m o others = record { same = λ k. (λ c. to k (among_append (filter (has z) s) (f ∷ []) (among_Contains (filter (has z) s ++ f ∷ []) c)), λ w. Contains_among (from k w)) }
    where
      last : (k : ℕ) → Among k (f ∷ []) → k ≡ f
      last k here = refl
      last k (there i) = elim i [ ]

      to : (k : ℕ) → Among k (filter (has z) s) ⊎ Among k (f ∷ []) → (Contains s k × ¬ (k ≡ i)) ⊎ (k ≡ f)
      to k (inl j) = let w = filter_among (has z) s j in inl (Contains_among w.0, λ e. clash (subst (λ (q : ℕ). has z q ≡ true) e w.1) o)
      to k (inr j) = inr (last k j)

      from : (k : ℕ) → ((Contains s k × ¬ (k ≡ i)) ⊎ (k ≡ f)) → Among k (filter (has z) s ++ f ∷ [])
      from k (inl w) = let j = among_Contains s w.0 in among_append_left (f ∷ []) (among_filter (has z) j (others k j w.1))
      from k (inr e) = among_append_right (filter (has z) s) (subst (λ (q : ℕ). Among q (f ∷ [])) (sym e) here)

  next : IsNextCells J F f T (T ++ cells_below vs Z f T)
  next = record {
    each = λ u c. elim (among_append T (cells_below vs Z f T) (among_Contains (T ++ cells_below vs Z f T) c)) [ inl i ↦ inl (Contains_among i) | inr i ↦ inr (new u (below_among vs Z f T u i)) ];
    kept = λ s c. Contains_among (among_append_left (cells_below vs Z f T) (among_Contains T c));
    joined = λ a s i ca below cs off. joined a s i (among_Contains F ca) below (among_Contains T cs) off;
  }
    where
      new : (u : List ℕ) → Below vs Z f T u → (a : Row) × (s : List ℕ) × (i : ℕ) × Contains F a × (dot a (ray J f) <ℤ pos 0) × Contains T s × IsOnlyOff J a s i × IsExchange s i f u
      new u b =
          let l : b.i < length F = (let e = t.values_many in let w = b.within in omega arith) in
          let r = joined_among (slice_index_or Z b.i []) f T u b.joined in
          let o = one_out (has (slice_index_or Z b.i [])) r.s r.all_but in (
            ray F b.i,
            r.s,
            o.i,
            Contains_among (ray_among F b.i l),
            (t.values b.i l).0 b.negative,
            Contains_among r.member,
            record { member = Contains_among o.member; off = off_facet b.i l r.s r.member o.i o.member o.out; others = λ k c n. on_facet b.i l r.s r.member k (among_Contains r.s c) (o.others k (among_Contains r.s c) n) },
            subst (λ (z : List ℕ). IsExchange r.s o.i f z) r.made (exchanged (slice_index_or Z b.i []) r.s o.i o.member o.out o.others),
          )

      unset : (i : ℕ) → i < length F → (s : List ℕ) → Among s T → (k : ℕ) → Among k s → ¬ (dot (ray F i) (ray J k) ≡ pos 0) → has (slice_index_or Z i []) k ≡ false
      unset i l s is k ks n = elim (cases_Bool (has (slice_index_or Z i []) k)) [ inl h ↦ absurd (n (on_facet i l s is k ks h)) | inr h ↦ h ]

      joined_at : (q : ℕ) → q < length F → (s : List ℕ) (i : ℕ) → dot (ray F q) (ray J f) <ℤ pos 0 → Among s T → IsOnlyOff J (ray F q) s i → (u : List ℕ) × Contains (T ++ cells_below vs Z f T) u × IsExchange s i f u
      joined_at q l s i below is off =
          let m = among_Contains s off.member in
          let o = unset q l s is i m off.off in
          let others : (k : ℕ) → Among k s → ¬ (k ≡ i) → has (slice_index_or Z q []) k ≡ true = λ k j n. (t.zeros q k l (below_f s is k j)).1 (off.others k (Contains_among j) n) in (
            filter (has (slice_index_or Z q [])) s ++ f ∷ [],
            Contains_among (among_append_right T (among_below vs Z f T (filter (has (slice_index_or Z q [])) s ++ f ∷ []) q (let e = t.values_many in omega arith) (let e = t.values_many in let g = t.zeros_many in omega arith) ((t.values q l).1 below) (among_joined (slice_index_or Z q []) f T s is (out_one (has (slice_index_or Z q [])) s i (distinct s is) m o others)))),
            exchanged (slice_index_or Z q []) s i m o others,
          )

      joined : (a : Row) (s : List ℕ) (i : ℕ) → Among a F → dot a (ray J f) <ℤ pos 0 → Among s T → IsOnlyOff J a s i → (u : List ℕ) × Contains (T ++ cells_below vs Z f T) u × IsExchange s i f u
      joined a s i ia below is off =
          let w = among_ray F a ia in
          joined_at w.0 w.1 s i (subst (λ (b : Row). dot b (ray J f) <ℤ pos 0) (sym w.2) below) is (subst (λ (b : Row). IsOnlyOff J b s i) (sym w.2) off)

  -- ---- the new lists rise
  rising_last : (s : List ℕ) → ((k : ℕ) → Among k s → k < f) → Rising s → Rising (s ++ f ∷ [])
  unfolding Rising
  rising_last [] b r = (λ y i. elim i [ ], tt)
  rising_last (x ∷ s) b r = (λ y i. elim (among_append s (f ∷ []) i) [ inl j ↦ r.0 y j | inr j ↦ at_last y j ], rising_last s (λ k i. b k (there i)) r.1)
    where
      at_last : (y : ℕ) → Among y (f ∷ []) → x < y
      at_last y here = b x here
      at_last y (there j) = elim j [ ]

  ascending_of : (s : List ℕ) → Rising s → ((k : ℕ) → Among k s → k < f + 1) → IsAscending (f + 1) s
  ascending_of s r b = (All_among (λ k. k < f + 1) s b, pairs s r)

  ascending : All (IsAscending (f + 1)) (T ++ cells_below vs Z f T)
  ascending = All_among (IsAscending (f + 1)) (T ++ cells_below vs Z f T) (λ u i. elim (among_append T (cells_below vs Z f T) i) [ inl j ↦ old u j | inr j ↦ new u (below_among vs Z f T u j) ])
    where
      old : (u : List ℕ) → Among u T → IsAscending (f + 1) u
      old u i = ascending_of u (rising_of u (cell_up u i).1) (λ k j. let l = below_f u i k j in omega arith)

      new : (u : List ℕ) → Below vs Z f T u → IsAscending (f + 1) u
      new u b =
          let r = joined_among (slice_index_or Z b.i []) f T u b.joined in
          subst (λ (z : List ℕ). IsAscending (f + 1) z) r.made
          (ascending_of (filter (has (slice_index_or Z b.i [])) r.s ++ f ∷ [])
          (rising_last (filter (has (slice_index_or Z b.i [])) r.s) (λ k i. below_f r.s r.member k (filter_among (has (slice_index_or Z b.i [])) r.s i).0) (rising_filter (has (slice_index_or Z b.i [])) r.s (rising_of r.s (cell_up r.s r.member).1)))
          (λ k i. elim (among_append (filter (has (slice_index_or Z b.i [])) r.s) (f ∷ []) i) [ inl j ↦ (let l = below_f r.s r.member k (filter_among (has (slice_index_or Z b.i [])) r.s j).0 in omega arith) | inr j ↦ at_last k j ]))
        where
          at_last : (k : ℕ) → Among k (f ∷ []) → k < f + 1
          at_last k here = omega arith
          at_last k (there j) = elim j [ ]

pub listed_cells_are_next : ListedCellsAreNext
listed_cells_are_next J F vs Z f T t up = record { next = next J F vs Z f T t up; ascending = ascending J F vs Z f T t up }
