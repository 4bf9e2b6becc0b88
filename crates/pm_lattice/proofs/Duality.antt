-- A table turned: the faces that the meets of its rows share are the meets of the table's rows.
use Rattle.pm_vector.proofs.Lists.{All_among, Among, Contains_among, among_All, among_Contains, here, there}
use Rattle.pm_bits.specs.Sets.{IsSubset, has}
use Rattle.pm_bits.specs.Table.{Table, row_at}
use Rattle.pm_geom.specs.FaceCounts.{SamePlaces}
use Rattle.pm_geom.specs.Meets.{IsMeet}
use Rattle.pm_lattice.proofs.Chains.{and_both, and_left, and_right}
use Rattle.pm_lattice.proofs.Places.{contains_at}
use Rattle.pm_lattice.proofs.Ranking.{before_not}
use Rattle.pm_lattice.proofs.Reached.{among_row, among_tests, both_ways, row_among, same_bool, tests_among}
use Rattle.pm_lattice.proofs.Sorted.{sorted_rows}
use Rattle.pm_lattice.proofs.Subsets.{below_length}
use Rattle.pm_lattice.specs.Closures.{AreMeets, IsRowBefore, IsClosed, bit_sets}
use Rattle.pm_lattice.specs.Parts.{row_of}
use Rattle.pm_lattice.specs.Turned.{AreShared, IsShared, IsTurned}
use Rattle.std.proofs.Common.{ap, arith, get_or, refl, subst, sym, ◌∙◌}
use Rattle.std.proofs.lemmas.List.Sorted.{All-permutation, Contains-permutation, length_permutation}
use Rattle.std.proofs.lemmas.List.{ext_get_or, get_or_default}
use Rattle.std.specs.List.{All, AllPairs, Contains}
use Rattle.std.specs.Prelude.{Bool, IsTrue, List, [], false, length, suc, true, zero, ℕ, ◌&&◌, ◌<◌, ◌∷◌, ◌≡◌}

-- ---- the rows at the places of a set
put : Bool → (ℕ → Bool) → List (ℕ → Bool) → List (ℕ → Bool)
put true q rest = q ∷ rest
put false q rest = rest

chosen : (ℕ → Bool) → List (List Bool) → List (ℕ → Bool)
chosen p [] = []
chosen p (r ∷ rows) = put (p 0) (has r) (chosen (λ i. p (suc i)) rows)

record Chosen (p : ℕ → Bool) (rows : List (List Bool)) (q : ℕ → Bool) : Type 0 where
  place : ℕ
  inside : place < length rows
  picked : IsTrue (p place)
  row : has (row_of rows place) ≡ q

put_from : (b : Bool) (q x : ℕ → Bool) (rest : List (ℕ → Bool)) (P : (ℕ → Bool) → Type 0) → (IsTrue b → P q) → ((y : ℕ → Bool) → Among y rest → P y) → Among x (put b q rest) → P x
unfolding put
put_from true q x rest P f g i = go q P (f refl) g i
  where
    go : (q : ℕ → Bool) (P : (ℕ → Bool) → Type 0) → P q → ((y : ℕ → Bool) → Among y rest → P y) → Among x (q ∷ rest) → P x
    go q P f g here = f
    go q P f g (there i) = g x i
put_from false q x rest P f g i = g x i

put_first : (b : Bool) (q : ℕ → Bool) (rest : List (ℕ → Bool)) → IsTrue b → Among q (put b q rest)
unfolding put
put_first true q rest t = here
put_first false q rest t = absurd cc

put_rest : (b : Bool) (q x : ℕ → Bool) (rest : List (ℕ → Bool)) → Among x rest → Among x (put b q rest)
unfolding put
put_rest true q x rest i = there i
put_rest false q x rest i = i

chosen_from : (p : ℕ → Bool) (rows : List (List Bool)) (q : ℕ → Bool) → Among q (chosen p rows) → Chosen p rows q
unfolding chosen
chosen_from p [] q i = elim i [ ]
chosen_from p (r ∷ rows) q i = put_from (p 0) (has r) q (chosen (λ i. p (suc i)) rows) (Chosen p (r ∷ rows))
    (λ t. record { place = zero; inside = omega arith; picked = t; row = refl })
    (λ y j. let w = chosen_from (λ i. p (suc i)) rows y j in record { place = suc w.place; inside = (let l = w.inside in omega arith); picked = w.picked; row = w.row })
    i

chosen_has : (p : ℕ → Bool) (rows : List (List Bool)) (i : ℕ) → i < length rows → IsTrue (p i) → Among (has (row_of rows i)) (chosen p rows)
unfolding chosen
chosen_has p [] i l t = absurd (omega arith)
chosen_has p (r ∷ rows) zero l t = put_first (p 0) (has r) (chosen (λ i. p (suc i)) rows) t
chosen_has p (r ∷ rows) (suc i) l t = put_rest (p 0) (has r) (has (row_of rows i)) (chosen (λ i. p (suc i)) rows) (chosen_has (λ i. p (suc i)) rows i (omega arith) t)

chosen_among : (p : ℕ → Bool) (rows : List (List Bool)) (q : ℕ → Bool) → Contains (chosen p rows) q → Contains (bit_sets rows) q
chosen_among p rows q c =
    let w = chosen_from p rows q (among_Contains (chosen p rows) c) in
    subst (λ x. Contains (bit_sets rows) x) w.row (Contains_among (tests_among rows (row_of rows w.place) (row_among rows w.place w.inside)))

-- the places at which all tests of a list hold
all_hold : List (ℕ → Bool) → ℕ → Bool
all_hold [] j = true
all_hold (r ∷ rs) j = r j && all_hold rs j

hold_all : (rs : List (ℕ → Bool)) (j : ℕ) → IsTrue (all_hold rs j) → (r : ℕ → Bool) → Among r rs → IsTrue (r j)
unfolding all_hold
hold_all [] j t q i = elim i [ ]
hold_all (r ∷ rs) j t q here = and_left (r j) (all_hold rs j) t
hold_all (r ∷ rs) j t q (there i) = hold_all rs j (and_right (r j) (all_hold rs j) t) q i

all_hold_from : (rs : List (ℕ → Bool)) (j : ℕ) → ((r : ℕ → Bool) → Among r rs → IsTrue (r j)) → IsTrue (all_hold rs j)
unfolding all_hold
all_hold_from [] j h = refl
all_hold_from (r ∷ rs) j h = and_both (r j) (all_hold rs j) (h r here) (all_hold_from rs j (λ q i. h q (there i)))

-- ---- a table and the table turned
module _ (t u : Table) (turn : IsTurned t u) where
  turned_to : (i a : ℕ) → a < t.row_len → IsTrue (has (row_at u a) i) → IsTrue (has (row_at t i) a)
  turned_to i a l h = sym (turn.has i a l) ∙ h

  turned_back : (i a : ℕ) → a < t.row_len → IsTrue (has (row_at t i) a) → IsTrue (has (row_at u a) i)
  turned_back i a l h = turn.has i a l ∙ h

  inside_turned : (a : ℕ) → a < t.row_len → a < length u.rows
  inside_turned a l = let e = turn.rows in omega arith

  -- what a set of rows shares is a meet of rows
  shared_meet : (s f : List Bool) → length s ≡ u.row_len → IsShared u s f → IsMeet t.row_len (bit_sets t.rows) (has f)
  shared_meet s f ls h = record {
    some = chosen (has s) t.rows;
    among = chosen_among (has s) t.rows;
    places = λ a l. (
      λ x. All_among (λ r. IsTrue (r a)) (chosen (has s) t.rows) (λ r n.
          let w = chosen_from (has s) t.rows r n in
          subst (λ q. IsTrue (q a)) w.row (turned_to w.place a l ((h.places a (inside_turned a l)).0 x w.place w.picked))),
      λ x. (h.places a (inside_turned a l)).1 (λ i y.
          let li : i < length t.rows = (let b = below_length s u.row_len i ls y in let e = turn.row_len in omega arith) in
          turned_back i a l (among_All (λ r. IsTrue (r a)) (chosen_has (has s) t.rows i li y) x)),
    );
  }

  -- a meet of rows is what the rows share that contain it
  module _ (g : ℕ → Bool) where
    abbrev above : ℕ → Bool
    above = all_hold (chosen g u.rows)

    above_meet : IsMeet u.row_len (bit_sets u.rows) above
    above_meet = record {
      some = chosen g u.rows;
      among = chosen_among g u.rows;
      places = λ i l. (λ x. All_among (λ r. IsTrue (r i)) (chosen g u.rows) (hold_all (chosen g u.rows) i x), λ x. all_hold_from (chosen g u.rows) i (λ r n. among_All (λ r. IsTrue (r i)) n x));
    }

    above_to : (i a : ℕ) → a < t.row_len → IsTrue (g a) → IsTrue (above i) → IsTrue (has (row_at u a) i)
    above_to i a l x y = hold_all (chosen g u.rows) i y (has (row_at u a)) (chosen_has g u.rows a (inside_turned a l) x)

    above_from : (i : ℕ) → ((a : ℕ) → a < t.row_len → IsTrue (g a) → IsTrue (has (row_at t i) a)) → IsTrue (above i)
    above_from i h = all_hold_from (chosen g u.rows) i (λ r n.
        let w = chosen_from g u.rows r n in
        let l : w.place < t.row_len = (let b = w.inside in let e = turn.rows in omega arith) in
        subst (λ q. IsTrue (q i)) w.row (turned_back i w.place l (h w.place l w.picked)))

    shared_same : IsMeet t.row_len (bit_sets t.rows) g → (s f : List Bool) → length s ≡ u.row_len → SamePlaces u.row_len above (has s) → IsShared u s f → SamePlaces t.row_len g (has f)
    shared_same w s f ls same h = both_ways t.row_len g (has f)
        (λ a l x. (h.places a (inside_turned a l)).1 (λ i y. above_to i a l x (same i (below_length s u.row_len i ls y) ∙ y)))
        (λ a l x. (w.places a l).1 (All_among (λ r. IsTrue (r a)) w.some (λ r n.
        let q = among_tests t.rows r (among_Contains (bit_sets t.rows) (w.among r (Contains_among n))) in
        let p = among_row t.rows q.0 q.1 in
        let e : has (row_at t p.0) ≡ r = ap has p.2 ∙ q.2 in
        let lp : p.0 < u.row_len = (let b = p.1 in let d = turn.row_len in omega arith) in
        let there : IsTrue (above p.0) = above_from p.0 (λ b lb y. subst (λ z. IsTrue (z b)) (sym e) (among_All (λ r. IsTrue (r b)) n ((w.places b lb).0 y))) in
        subst (λ z. IsTrue (z a)) e (turned_to p.0 a l ((h.places a (inside_turned a l)).0 x p.0 (sym (same p.0 lp) ∙ there))))))

  -- sets of rows that are meets and share the same are the same
  shared_within : (s q f : List Bool) → length s ≡ u.row_len → length q ≡ u.row_len → IsMeet u.row_len (bit_sets u.rows) (has q) → IsShared u s f → IsShared u q f → (i : ℕ) → i < u.row_len → IsTrue (has s i) → IsTrue (has q i)
  shared_within s q f ls lq w hs hq i li x = (w.places i li).1 (All_among (λ r. IsTrue (r i)) w.some (λ r n.
      let y = among_tests u.rows r (among_Contains (bit_sets u.rows) (w.among r (Contains_among n))) in
      let p = among_row u.rows y.0 y.1 in
      let e : has (row_at u p.0) ≡ r = ap has p.2 ∙ y.2 in
      let within : IsSubset q (row_at u p.0) = λ k z. subst (λ v. IsTrue (v k)) (sym e) (among_All (λ r. IsTrue (r k)) n ((w.places k (below_length q u.row_len k lq z)).0 z)) in
      subst (λ v. IsTrue (v i)) e ((hs.places p.0 p.1).0 ((hq.places p.0 p.1).1 within) i x)))

  shared_once : (s q f : List Bool) → length s ≡ u.row_len → length q ≡ u.row_len → IsMeet u.row_len (bit_sets u.rows) (has s) → IsMeet u.row_len (bit_sets u.rows) (has q) → IsShared u s f → IsShared u q f → s ≡ q
  shared_once s q f ls lq ws wq hs hq = ext_get_or false s q (ls ∙ sym lq) (λ i l. same_bool (has s i) (has q i) (shared_within s q f ls lq wq hs hq i (omega arith)) (shared_within q s f lq ls ws hq hs i (omega arith)))

  -- ---- all of them
  module _ (sets faces : List (List Bool)) (w : AreMeets u.row_len u.rows sets) (h : AreShared u sets faces) where
    set_len : (k : ℕ) → k < length sets → length (get_or sets k []) ≡ u.row_len
    set_len k l = w.lengths k [] l

    list_meets : All (λ f. IsMeet t.row_len (bit_sets t.rows) (has f)) h.list
    list_meets k d l =
        let lk : k < length sets = (let e = h.as_many in omega arith) in
        subst (λ f. IsMeet t.row_len (bit_sets t.rows) (has f)) (get_or_default h.list k [] d l) (shared_meet (get_or sets k []) (get_or h.list k []) (set_len k lk) (h.each k lk))

    list_lengths : All (λ f. length f ≡ t.row_len) h.list
    list_lengths k d l =
        let lk : k < length sets = (let e = h.as_many in omega arith) in
        subst (λ f. length f ≡ t.row_len) (get_or_default h.list k [] d l) ((h.each k lk).len ∙ turn.rows)

    list_differ : AllPairs (λ x y. ¬ (x ≡ y)) h.list
    list_differ i j d l m e =
        let lj : j < length sets = (let n = h.as_many in omega arith) in
        let li : i < length sets = omega arith in
        let same : get_or h.list i [] ≡ get_or h.list j [] = get_or_default h.list i [] d (omega arith) ∙ e ∙ sym (get_or_default h.list j [] d m) in
        let once = shared_once (get_or sets i []) (get_or sets j []) (get_or h.list j []) (set_len i li) (set_len j lj) (w.each i [] li) (w.each j [] lj) (subst (λ f. IsShared u (get_or sets i []) f) same (h.each i li)) (h.each j lj) in
        before_not (get_or sets j []) (subst (λ x. IsRowBefore x (get_or sets j [])) once (w.ordered i j [] l lj))

    pub shared_meets : AreMeets t.row_len t.rows faces
    shared_meets = record {
      each = All-permutation (λ f. IsMeet t.row_len (bit_sets t.rows) (has f)) h.list faces h.moved list_meets;
      lengths = All-permutation (λ f. length f ≡ t.row_len) h.list faces h.moved list_lengths;
      ordered = λ i j d l m.
          let b = sorted_rows h.list faces list_differ h.moved h.sorted i j l m in
          let li : i < length faces = omega arith in
          subst (λ x. IsRowBefore x (get_or faces j d)) (get_or_default faces i [] d li) (subst (λ y. IsRowBefore (get_or faces i []) y) (get_or_default faces j [] d m) b);
    }

    pub shared_count : length faces ≡ length sets
    shared_count = length_permutation h.list faces h.moved ∙ h.as_many

    shared_all : ((g : ℕ → Bool) → IsMeet u.row_len (bit_sets u.rows) g → (s : List Bool) × Contains sets s × SamePlaces u.row_len g (has s)) → (g : ℕ → Bool) → IsMeet t.row_len (bit_sets t.rows) g → (f : List Bool) × Contains faces f × SamePlaces t.row_len g (has f)
    shared_all all g m =
        let s = all (above g) (above_meet g) in
        let k = s.1.0 in
        let lk : k < length sets = s.1.1 in
        let e : get_or sets k [] ≡ s.0 = get_or_default sets k [] s.0 lk ∙ s.1.2 in (
          get_or h.list k [],
          Contains-permutation h.list faces (get_or h.list k []) h.moved (contains_at h.list k (let n = h.as_many in omega arith)),
          shared_same g m (get_or sets k []) (get_or h.list k []) (set_len k lk) (subst (λ x. SamePlaces u.row_len (above g) (has x)) (sym e) s.2) (h.each k lk),
        )

  -- where the sets are all meets of the rows turned, the faces are all meets of the rows
  pub shared_closed : (sets faces : List (List Bool)) → IsClosed u.row_len u.rows sets → AreShared u sets faces → IsClosed t.row_len t.rows faces
  shared_closed sets faces w h =
      let m = shared_meets sets faces (record { each = w.each; lengths = w.lengths; ordered = w.ordered }) h in
      record { each = m.each; all = shared_all sets faces (record { each = w.each; lengths = w.lengths; ordered = w.ordered }) h w.all; lengths = m.lengths; ordered = m.ordered }
