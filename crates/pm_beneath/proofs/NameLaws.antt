-- Cells under other names.
use Rattle.pm_vector.proofs.Filters.{among_filter, among_map, any_from, any_to, filter_among, map_among}
use Rattle.pm_vector.proofs.Lists.{All_among, Among, Contains_among, among_All, among_Contains, here, there}
use Rattle.pm_vector.specs.Rows.{Row, dot}
use Rattle.pm_beneath.proofs.FrontLaws.{among_below, below_among, rising_below, rising_pairs}
use Rattle.pm_beneath.proofs.ListedCells.{rising_filter}
use Rattle.pm_laws_placing.proofs.Places.{Rising, rising_of}
use Rattle.pm_beneath.specs.Names.{AreNames, NamesKeepSteps, named, named_by}
use Rattle.pm_laws_placing.specs.Placing.{IsExchange, IsNextCells, IsOnlyOff}
use Rattle.pm_beneath.specs.Runs.{below}
use Rattle.pm_geom.specs.Triangulations.{rows_at}
use Rattle.pm_geom.specs.Faces.{ray}
use Rattle.pm_geom.specs.Graphs.{IsAscending}
use Rattle.std.specs.Prelude.{ℕ, zero, suc, ◌==◌, ◌<◌, ◌≤◌, ◌≡◌, ◌⊎◌, List, [], ◌∷◌, length, map}
use Rattle.std.specs.List.{All, AllPairs, Contains, slice_index_or}
use Rattle.std.proofs.lemmas.List.{get_or-map, length-map}
use Rattle.std.proofs.Common.{arith, ap, refl, subst, sym, ◌∙◌, inl, inr}
use Rattle.std.proofs.lemmas.Bool.{eq-eqb, eqb-true}
use lib.IntN.{pos}
use lib.Signed.{◌<ℤ◌}

pub ray_named : (G : List Row) (O : List ℕ) (k : ℕ) → k < length O → ray (rows_at G O) k ≡ ray G (slice_index_or O k 0)
ray_named G [] k l = absurd (omega arith)
ray_named G (o ∷ O) zero l = refl
ray_named G (o ∷ O) (suc k) l = ray_named G O k (omega arith)

module _ (m : ℕ) (O : List ℕ) (a : AreNames m O) where
  pub named_in : (s : List ℕ) (j : ℕ) → Among j (named m O s) → (k : ℕ) × Among k s × (slice_index_or O k 0 ≡ j)
  named_in s j i =
      let w = filter_among (named_by O s) (below m) i in
      let r = any_to (λ (k : ℕ). slice_index_or O k 0 == j) s w.1 in
      (r.0, r.1, eqb-true (slice_index_or O r.0 0) j r.2)

  pub in_named : (s : List ℕ) (k : ℕ) → Among k s → k < length O → Among (slice_index_or O k 0) (named m O s)
  in_named s k i l = among_filter (named_by O s) (among_below m (slice_index_or O k 0) (a.within k l)) (any_from (λ (q : ℕ). slice_index_or O q 0 == slice_index_or O k 0) i (eq-eqb (slice_index_or O k 0) (slice_index_or O k 0) refl))

  -- by injectivity a name tells its place
  pub place_in : (s : List ℕ) (k : ℕ) → ((p : ℕ) → Among p s → p < length O) → k < length O → Among (slice_index_or O k 0) (named m O s) → Among k s
  place_in s k b l i = let r = named_in s (slice_index_or O k 0) i in subst (λ (q : ℕ). Among q s) (a.once r.0 k (b r.0 r.1) l r.2) r.1

pub named_ascending : (m : ℕ) (O s : List ℕ) → IsAscending m (named m O s)
named_ascending m O s = (
  All_among (λ j. j < m) (named m O s) (λ j i. below_among m j (filter_among (named_by O s) (below m) i).0),
  rising_pairs (named m O s) (rising_filter (named_by O s) (below m) (rising_below m)),
)

module _ (G F : List Row) (O : List ℕ) (a : AreNames (length G) O) (f : ℕ) (lf : f < length O) where
  at_ray : (b : Row) (k : ℕ) → k < length O → dot b (ray (rows_at G O) k) ≡ dot b (ray G (slice_index_or O k 0))
  at_ray b k l = ap (λ (x : Row). dot b x) (ray_named G O k l)

  off_to : (b : Row) (s : List ℕ) (i : ℕ) → ((p : ℕ) → Among p s → p < length O) → IsOnlyOff (rows_at G O) b s i → IsOnlyOff G b (named (length G) O s) (slice_index_or O i 0)
  off_to b s i bs o = record {
    member = Contains_among (in_named (length G) O a s i (among_Contains s o.member) (bs i (among_Contains s o.member)));
    off = λ z. o.off (at_ray b i (bs i (among_Contains s o.member)) ∙ z);
    others = λ q c n.
        let r = named_in (length G) O a s q (among_Contains (named (length G) O s) c) in
        let z = o.others r.0 (Contains_among r.1) (λ e. n (sym r.2 ∙ ap (λ (k : ℕ). slice_index_or O k 0) e)) in
        ap (λ (k : ℕ). dot b (ray G k)) (sym r.2) ∙ sym (at_ray b r.0 (bs r.0 r.1)) ∙ z;
  }

  off_of : (b : Row) (s : List ℕ) (i : ℕ) → ((p : ℕ) → Among p s → p < length O) → Among i s → IsOnlyOff G b (named (length G) O s) (slice_index_or O i 0) → IsOnlyOff (rows_at G O) b s i
  off_of b s i bs mi o = record {
    member = Contains_among mi;
    off = λ z. o.off (sym (at_ray b i (bs i mi)) ∙ z);
    others = λ k c n.
        let j = among_Contains s c in
        at_ray b k (bs k j) ∙ o.others (slice_index_or O k 0) (Contains_among (in_named (length G) O a s k j (bs k j))) (λ e. n (a.once k i (bs k j) (bs i mi) e));
  }

  exchange_to : (s u : List ℕ) (i : ℕ) → ((p : ℕ) → Among p s → p < length O) → ((p : ℕ) → Among p u → p < length O) → Among i s → IsExchange s i f u → IsExchange (named (length G) O s) (slice_index_or O i 0) (slice_index_or O f 0) (named (length G) O u)
  exchange_to s u i bs bu mi x = record { same = λ q. (λ c. to q (among_Contains (named (length G) O u) c), λ h. Contains_among (from q h)) }
    where
      to : (q : ℕ) → Among q (named (length G) O u) → (Contains (named (length G) O s) q × ¬ (q ≡ slice_index_or O i 0)) ⊎ (q ≡ slice_index_or O f 0)
      to q c =
          let r = named_in (length G) O a u q c in
          elim ((x.same r.0).0 (Contains_among r.1)) [
            | inl w ↦ let j = among_Contains s w.0 in inl (Contains_among (subst (λ (p : ℕ). Among p (named (length G) O s)) r.2 (in_named (length G) O a s r.0 j (bs r.0 j))), λ e. w.1 (a.once r.0 i (bs r.0 j) (bs i mi) (r.2 ∙ e)))
            | inr e ↦ inr (sym r.2 ∙ ap (λ (k : ℕ). slice_index_or O k 0) e)
          ]

      from : (q : ℕ) → (Contains (named (length G) O s) q × ¬ (q ≡ slice_index_or O i 0)) ⊎ (q ≡ slice_index_or O f 0) → Among q (named (length G) O u)
      from q (inl w) =
          let r = named_in (length G) O a s q (among_Contains (named (length G) O s) w.0) in
          let j = among_Contains u ((x.same r.0).1 (inl (Contains_among r.1, λ e. w.1 (sym r.2 ∙ ap (λ (k : ℕ). slice_index_or O k 0) e)))) in
          subst (λ (p : ℕ). Among p (named (length G) O u)) r.2 (in_named (length G) O a u r.0 j (bu r.0 j))
      from q (inr e) = let j = among_Contains u ((x.same f).1 (inr refl)) in subst (λ (p : ℕ). Among p (named (length G) O u)) (sym e) (in_named (length G) O a u f j lf)

  module _ (T U : List (List ℕ)) (hT : All (λ s. All (λ k. k < f) s) T) (hU : All (λ s. All (λ k. k < length O) s) U) (c : IsNextCells (rows_at G O) F f T U) where
    old_below : (s : List ℕ) → Among s T → (p : ℕ) → Among p s → p < length O
    old_below s i p j = let l = among_All (λ k. k < f) j (among_All (λ s. All (λ k. k < f) s) i hT) in omega arith

    new_below : (u : List ℕ) → Among u U → (p : ℕ) → Among p u → p < length O
    new_below u i p j = among_All (λ k. k < length O) j (among_All (λ s. All (λ k. k < length O) s) i hU)

    nm : List ℕ → List ℕ
    nm s = named (length G) O s

    named_next : IsNextCells G F (slice_index_or O f 0) (map (named (length G) O) T) (map (named (length G) O) U)
    named_next = record {
      each = λ v k. let w = map_among (named (length G) O) U (among_Contains (map (named (length G) O) U) k) in each v w.0 w.1 w.2;
      kept = λ v k. let w = map_among (named (length G) O) T (among_Contains (map (named (length G) O) T) k) in
          subst (λ (z : List ℕ). Contains (map (named (length G) O) U) z) (sym w.2) (Contains_among (among_map (named (length G) O) (among_Contains U (c.kept w.0 (Contains_among w.1)))));
      joined = λ b v q fb down k off. let w = map_among (named (length G) O) T (among_Contains (map (named (length G) O) T) k) in joined b v q fb down w.0 w.1 w.2 off;
    }
      where
        each : (v u : List ℕ) → Among u U → v ≡ named (length G) O u → Contains (map (named (length G) O) T) v ⊎ ((b : Row) × (s : List ℕ) × (i : ℕ) × Contains F b × (dot b (ray G (slice_index_or O f 0)) <ℤ pos 0) × Contains (map (named (length G) O) T) s × IsOnlyOff G b s i × IsExchange s i (slice_index_or O f 0) v)
        each v u iu e = elim (c.each u (Contains_among iu)) [
          | inl k ↦ inl (subst (λ (z : List ℕ). Contains (map (named (length G) O) T) z) (sym e) (Contains_among (among_map (named (length G) O) (among_Contains T k))))
          | inr (b, s, i, fb, down, ks, off, x) ↦
              let is = among_Contains T ks in
              let mi = among_Contains s off.member in
              inr (
                b,
                named (length G) O s,
                slice_index_or O i 0,
                fb,
                subst (λ z. z <ℤ pos 0) (at_ray b f lf) down,
                Contains_among (among_map (named (length G) O) is),
                off_to b s i (old_below s is) off,
                subst (λ (z : List ℕ). IsExchange (named (length G) O s) (slice_index_or O i 0) (slice_index_or O f 0) z) (sym e) (exchange_to s u i (old_below s is) (new_below u iu) mi x),
              )
        ]

        joined : (b : Row) (v : List ℕ) (q : ℕ) → Contains F b → dot b (ray G (slice_index_or O f 0)) <ℤ pos 0 → (s : List ℕ) → Among s T → v ≡ named (length G) O s → IsOnlyOff G b v q → (u : List ℕ) × Contains (map (named (length G) O) U) u × IsExchange v q (slice_index_or O f 0) u
        joined b v q fb down s is e off =
            let off2 : IsOnlyOff G b (named (length G) O s) q = subst (λ (z : List ℕ). IsOnlyOff G b z q) e off in
            let r = named_in (length G) O a s q (among_Contains (named (length G) O s) off2.member) in
            let off3 : IsOnlyOff G b (named (length G) O s) (slice_index_or O r.0 0) = subst (λ (z : ℕ). IsOnlyOff G b (named (length G) O s) z) (sym r.2) off2 in
            let w = c.joined b s r.0 fb (subst (λ z. z <ℤ pos 0) (sym (at_ray b f lf)) down) (Contains_among is) (off_of b s r.0 (old_below s is) r.1 off3) in
            let iu = among_Contains U w.1 in
            let x = exchange_to s w.0 r.0 (old_below s is) (new_below w.0 iu) r.1 w.2 in (
              named (length G) O w.0,
              Contains_among (among_map (named (length G) O) iu),
              subst (λ (z : List ℕ). IsExchange z q (slice_index_or O f 0) (named (length G) O w.0)) (sym e) (subst (λ (p : ℕ). IsExchange (named (length G) O s) p (slice_index_or O f 0) (named (length G) O w.0)) r.2 x),
            )

pub names_keep_steps : NamesKeepSteps
names_keep_steps G F O a f lf T U hT hU c = named_next G F O a f lf T U hT hU c

-- ---- cells that differ have names that differ
first_or : (x y : ℕ) (t : List ℕ) → Rising (y ∷ t) → Among x (y ∷ t) → (x ≡ y) ⊎ (y < x)
unfolding Rising
first_or x y t r here = inl refl
first_or x y t r (there i) = inr (r.0 x i)

past_first : (k y : ℕ) (t : List ℕ) → Among k (y ∷ t) → ¬ (k ≡ y) → Among k t
past_first k y t here n = absurd (n refl)
past_first k y t (there i) n = i

rising_same : (s t : List ℕ) → Rising s → Rising t → ((k : ℕ) → Among k s → Among k t) → ((k : ℕ) → Among k t → Among k s) → s ≡ t
unfolding Rising
rising_same [] [] r q f g = refl
rising_same [] (y ∷ t) r q f g = elim (g y here) [ ]
rising_same (x ∷ s) [] r q f g = elim (f x here) [ ]
rising_same (x ∷ s) (y ∷ t) r q f g =
    let e : x ≡ y = firsts (first_or x y t q (f x here)) (first_or y x s r (g y here)) in
    let h : s ≡ t = rising_same s t r.1 q.1
    (λ k i. past_first k y t (f k (there i)) (λ d. let l = r.0 k i in absurd (omega arith)))
    (λ k i. past_first k x s (g k (there i)) (λ d. let l = q.0 k i in absurd (omega arith))) in
    ap (λ (z : ℕ). z ∷ s) e ∙ ap (λ (z : List ℕ). y ∷ z) h
  where
    firsts : (x ≡ y) ⊎ (y < x) → (y ≡ x) ⊎ (x < y) → x ≡ y
    firsts (inl e) b = e
    firsts (inr l) (inl e) = sym e
    firsts (inr l) (inr m) = absurd (omega arith)

pub named_same : (m : ℕ) (O : List ℕ) → AreNames m O → (f : ℕ) → f ≤ length O → (s t : List ℕ) → IsAscending f s → IsAscending f t → named m O s ≡ named m O t → s ≡ t
named_same m O a f lf s t hs ht e = rising_same s t (rising_of s hs.1) (rising_of t ht.1) (λ k i. go s t hs ht e k i) (λ k i. go t s ht hs (sym e) k i)
  where
    low : (s : List ℕ) → IsAscending f s → (k : ℕ) → Among k s → k < length O
    low s h k i = let l = among_All (λ j. j < f) i h.0 in omega arith

    go : (s t : List ℕ) → IsAscending f s → IsAscending f t → named m O s ≡ named m O t → (k : ℕ) → Among k s → Among k t
    go s t h g e k i = place_in m O a t k (low t g) (low s h k i) (subst (λ (z : List ℕ). Among (slice_index_or O k 0) z) e (in_named m O a s k i (low s h k i)))

pub named_apart : (m : ℕ) (O : List ℕ) → AreNames m O → (f : ℕ) → f ≤ length O → (T : List (List ℕ)) → All (IsAscending f) T → AllPairs (λ s t. ¬ (s ≡ t)) T → AllPairs (λ s t. ¬ (s ≡ t)) (map (named m O) T)
named_apart m O a f lf T up h = λ i j d l q.
    let lj : j < length T = (let e = length-map T (named m O) in omega arith) in
    let li : i < length T = omega arith in
    let ei = get_or-map (named m O) T i [] d li in
    let ej = get_or-map (named m O) T j [] d lj in
    λ e. h i j [] l lj (named_same m O a f lf (slice_index_or T i []) (slice_index_or T j []) (up i [] li) (up j [] lj) (sym ei ∙ e ∙ ej))
