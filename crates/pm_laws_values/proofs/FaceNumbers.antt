-- A cone has as many faces of each rank, and as many inclusions, in all orders of its rays.
use Rattle.pm_geom.proofs.Facets.{opposite-dot}
use Rattle.pm_geom.proofs.Holds.{among_holds, holds_among}
use Rattle.pm_geom.proofs.Incidence.{same_zero}
use Rattle.pm_geom.specs.Cones.{IsExtreme, IsOrder, IsValid, SameModulo}
use Rattle.pm_geom.specs.FaceCounts.{IsHasseDiagram, IsLexBefore, at_rank, f2_entry, f2_of, f_of, inclusion_count, inner, inner_faces, is_within, table_of}
use Rattle.pm_geom.specs.Faces.{HasChain, HasRank, IsFace, IsStrictlyIn, ray}
use Rattle.pm_geom.specs.Graphs.{IsAscending, holds}
use Rattle.pm_laws_normal_fans.proofs.Places.{among_at, map_length, pairs_head, pairs_tail}
use Rattle.pm_laws_things.proofs.Renamed.{IsRenaming, renamed_back, renaming}
use Rattle.pm_laws_values.proofs.Pairing.{Once, length_sum, sums_same}
use Rattle.pm_laws_values.proofs.Sorted.{lex_never, sets_same}
use Rattle.pm_ranks.proofs.Diagrams.{face_among, face_at}
use Rattle.pm_vector.proofs.ConeLaws.{in_cone_set}
use Rattle.pm_vector.proofs.Lists.{Among, among_All, here, there}
use Rattle.pm_vector.proofs.Ring.{ring}
use Rattle.pm_vector.proofs.RowLaws.{entry-plus, entry-times, length-opposite, length-times, times-dot}
use Rattle.pm_vector.specs.Cones.{InCone}
use Rattle.pm_vector.specs.Rows.{Row, dot, times}
use Rattle.std.proofs.Common.{ap, ap₂, arith, false, inl, inr, refl, subst, sym, true, ◌∙◌}
use Rattle.std.proofs.lemmas.Bool.{and_from, and_parts, cases_lt}
use Rattle.std.proofs.lemmas.Int.{ints}
use Rattle.std.proofs.lemmas.List.{drop-map, get_or-drop, get_or-take, get_or_past, length-take, take-map}
use Rattle.std.proofs.lemmas.List.Elements.{All-head, All-tail}
use Rattle.std.proofs.lemmas.List.Sums.{sum_by-cons}
use Rattle.std.specs.List.{All, AllPairs, count_by, list_all, range_with_len, sum_by}
use Rattle.std.specs.Prelude.{Bool, List, [], cond, drop, length, map, nat_lt, suc, take, zero, ℕ, ◌+◌, ◌-◌, ◌<◌, ◌∷◌, ◌↔◌, ◌≡◌, ◌≤◌}
use lib.IntN.{pos}
use lib.Signed.{lt_z_yes, ◌≤ℤ◌}

-- ---- faces in two orders
-- the test f on places of the first order is the test g on those of the second
abbrev Matches : ℕ → (ℕ → ℕ) → (ℕ → Bool) → (ℕ → Bool) → Type 0
Matches m to f g = (i : ℕ) → i < m → f i ≡ g (to i)

self_alike : (n : ℕ) (G L : List Row) (a : Row) → IsValid n G L a → SameModulo n (IsValid n G L) a a
self_alike n G L a v = record {
  p = pos 1;
  k = pos 1;
  w = times (pos 0) a;
  cols = length-times (pos 0) a ∙ v.cols;
  p_positive = lt_z_yes tt;
  k_positive = lt_z_yes tt;
  line = record {
    inside = record { cols = length-times (pos 0) a ∙ v.cols; holds = λ x lx h. none x };
    opposed = record { cols = length-opposite (times (pos 0) a) ∙ length-times (pos 0) a ∙ v.cols; holds = λ x lx h. rw opposite-dot (let e = zero_dot x in omega (arith, ints)) };
  };
  same = record { at = λ i. simp (entry-times, entry-plus, ring) (omega (arith, ints)) };
}
  where
    zero_dot : (x : Row) → dot (times (pos 0) a) x ≡ pos 0
    zero_dot x = times-dot (pos 0) a x ∙ (simp ring)

    none : (x : Row) → pos 0 ≤ℤ dot (times (pos 0) a) x
    none x = let e = zero_dot x in omega (arith, ints)

module _ (n : ℕ) (G L V W : List Row) (oV : IsOrder n (InCone G L) V) (r : IsRenaming n (InCone G L) V W) where
  vanish_as : (a : Row) → IsValid n G L a → (i : ℕ) → i < length V → dot a (ray V i) ≡ pos 0 ↔ dot a (ray W (r.to i)) ≡ pos 0
  vanish_as a v i l =
      let e = among_All (λ v. IsExtreme n (InCone G L) v) (among_at [] V i l) oV.each in
      same_zero n G L a (ray V i) a (ray W (r.to i)) (r.alike i l) (self_alike n G L a v) v e.cols e.inside

  -- at a place of the second order
  at_second : (f g : ℕ → Bool) → Matches (length V) r.to f g → (j : ℕ) → j < length W → f (r.back j) ≡ g j
  at_second f g m j l = m (r.back j) (r.back_within j l) ∙ ap g (r.to_back j l)

  pub face_to : (f g : ℕ → Bool) → Matches (length V) r.to f g → IsFace n G L V f → IsFace n G L W g
  face_to f g m h = record {
    a = h.a;
    valid = h.valid;
    places = λ j l.
        let i = r.back j in
        let li = r.back_within j l in
        let e = at_second f g m j l in (
          λ t. subst (λ z. dot h.a (ray W z) ≡ pos 0) (r.to_back j l) ((vanish_as h.a h.valid i li).0 ((h.places i li).0 (e ∙ t))),
          λ z. sym e ∙ (h.places i li).1 ((vanish_as h.a h.valid i li).1 (subst (λ k. dot h.a (ray W k) ≡ pos 0) (sym (r.to_back j l)) z)),
        );
  }

  strict_to : (f g f' g' : ℕ → Bool) → Matches (length V) r.to f g → Matches (length V) r.to f' g' → IsStrictlyIn (length V) f f' → IsStrictlyIn (length W) g g'
  strict_to f g f' g' m m' s = record {
    included = λ j l t. sym (at_second f' g' m' j l) ∙ s.included (r.back j) (r.back_within j l) (at_second f g m j l ∙ t);
    j = r.to s.j;
    below = r.to_within s.j s.below;
    has = sym (m' s.j s.below) ∙ s.has;
    lacks = λ t. s.lacks (m s.j s.below ∙ t);
  }

  chain_to : (k : ℕ) (f g : ℕ → Bool) → Matches (length V) r.to f g → HasChain n G L V k f → HasChain n G L W k g
  chain_to zero f g m c = tt
  chain_to (suc k) f g m c =
      let h' : ℕ → Bool = λ j. c.0 (r.back j) in
      let mh : Matches (length V) r.to c.0 h' = λ i l. ap c.0 (sym (r.back_to i l)) in
      (h', face_to c.0 h' mh c.1, strict_to c.0 h' f g mh m c.2, chain_to k c.0 h' mh c.3)

module _ (n : ℕ) (G L V W : List Row) (oV : IsOrder n (InCone G L) V) (oW : IsOrder n (InCone G L) W) (r : IsRenaming n (InCone G L) V W) where
  pub rank_to : (k : ℕ) (f g : ℕ → Bool) → Matches (length V) r.to f g → HasRank n G L V f k → HasRank n G L W g k
  rank_to k f g m h = record {
    face = face_to n G L V W oV r f g m h.face;
    chain = chain_to n G L V W oV r k f g m h.chain;
    greatest = λ c. h.greatest (chain_to n G L W V oW (renamed_back n (InCone G L) (in_cone_set G L) r) (suc k) g f (λ j l. sym (at_second n G L V W oV r f g m j l)) c);
  }

-- ---- lists of faces
once_of : (faces : List (List ℕ)) → AllPairs IsLexBefore faces → Once faces
once_of [] h = tt
once_of (f ∷ faces) h = (λ g i e. let b = pairs_head IsLexBefore f faces h i in lex_never f f (subst (λ z. IsLexBefore f z) (sym e) b) (subst (λ z. IsLexBefore f z) (sym e) b), once_of faces (pairs_tail IsLexBefore f faces h))

all_to : (p : ℕ → Bool) (xs : List ℕ) → list_all p xs ≡ true → (j : ℕ) → Among j xs → p j ≡ true
all_to p [] h j i = elim i [ ]
all_to p (x ∷ xs) h j here = (and_parts (p x) (list_all p xs) h).0
all_to p (x ∷ xs) h j (there i) = all_to p xs (and_parts (p x) (list_all p xs) h).1 j i

all_from : (p : ℕ → Bool) (xs : List ℕ) → ((j : ℕ) → Among j xs → p j ≡ true) → list_all p xs ≡ true
all_from p [] f = refl
all_from p (x ∷ xs) f = and_from (p x) (list_all p xs) (f x here) (all_from p xs (λ j i. f j (there i)))

same_bool : (a b : Bool) → (a ≡ true → b ≡ true) → (b ≡ true → a ≡ true) → a ≡ b
same_bool true b f g = sym (f refl)
same_bool false true f g = g refl
same_bool false false f g = refl

module _ (n : ℕ) (G L V W : List Row) (oV : IsOrder n (InCone G L) V) (oW : IsOrder n (InCone G L) W) (ranks others : List (List (List ℕ))) (H : IsHasseDiagram n G L V ranks) (K : IsHasseDiagram n G L W others) where
  r : IsRenaming n (InCone G L) V W
  r = renaming n (InCone G L) (in_cone_set G L) V W oV oW

  b : IsRenaming n (InCone G L) W V
  b = renamed_back n (InCone G L) (in_cone_set G L) r

  -- a face in both orders
  record AreOne (x y : List ℕ) : Type 0 where
    first : IsAscending (length V) x
    second : IsAscending (length W) y
    same : Matches (length V) r.to (holds x) (holds y)

  right : (x y z : List ℕ) → AreOne x y → AreOne x z → y ≡ z
  right x y z p q = sets_same (length W) y z p.second q.second (λ j l. sym (at_second n G L V W oV r (holds x) (holds y) p.same j l) ∙ at_second n G L V W oV r (holds x) (holds z) q.same j l)

  left : (x y z : List ℕ) → AreOne x z → AreOne y z → x ≡ y
  left x y z p q = sets_same (length V) x y p.first q.first (λ i l. p.same i l ∙ sym (q.same i l))

  to : (k : ℕ) (x : List ℕ) → Among x (at_rank ranks k) → (y : List ℕ) × Among y (at_rank others k) × AreOne x y
  to k x i =
      let a = face_at n G L V ranks H k x i in
      let g : ℕ → Bool = λ j. holds x (r.back j) in
      let m : Matches (length V) r.to (holds x) g = λ i l. ap (holds x) (sym (r.back_to i l)) in
      let (y, j, s) = face_among n G L W others K k g (rank_to n G L V W oV oW r k (holds x) g m a.1) in
      (y, j, record { first = a.0; second = (face_at n G L W others K k y j).0; same = λ i l. m i l ∙ s (r.to i) (r.to_within i l) })

  from : (k : ℕ) (y : List ℕ) → Among y (at_rank others k) → (x : List ℕ) × Among x (at_rank ranks k) × AreOne x y
  unfolding b
  from k y i =
      let a = face_at n G L W others K k y i in
      let f : ℕ → Bool = λ j. holds y (r.to j) in
      let (x, j, s) = face_among n G L V ranks H k f (rank_to n G L W V oW oV b k (holds y) f (λ j l. ap (holds y) (sym (r.to_back j l))) a.1) in
      (x, j, record { first = (face_at n G L V ranks H k x j).0; second = a.0; same = λ i l. sym (s i l) })

  sums : (f g : List ℕ → ℕ) → ((x y : List ℕ) → AreOne x y → f x ≡ g y) → (k : ℕ) → sum_by f (at_rank ranks k) ≡ sum_by g (at_rank others k)
  sums f g s k = sums_same (List ℕ) (List ℕ) AreOne right left f g s (at_rank ranks k) (at_rank others k) (once_of (at_rank ranks k) (H.each k).ordered) (once_of (at_rank others k) (K.each k).ordered) (to k) (from k)

  pub as_many : (k : ℕ) → length (at_rank ranks k) ≡ length (at_rank others k)
  as_many k = length_sum (at_rank ranks k) ∙ sums (λ x. 1) (λ y. 1) (λ x y e. refl) k ∙ sym (length_sum (at_rank others k))

  within : (x y x' y' : List ℕ) → AreOne x y → AreOne x' y' → is_within x x' ≡ is_within y y'
  within x y x' y' p q = same_bool (is_within x x') (is_within y y')
      (λ h. all_from (holds y') y (λ j i.
      let l = among_All (λ j. j < length W) i p.second.0 in
      let t = at_second n G L V W oV r (holds x) (holds y) p.same j l ∙ among_holds y j i in
      sym (at_second n G L V W oV r (holds x') (holds y') q.same j l) ∙ all_to (holds x') x h (r.back j) (holds_among x (r.back j) t)))
      (λ h. all_from (holds x') x (λ j i.
      let l = among_All (λ j. j < length V) i p.first.0 in
      let t = sym (p.same j l) ∙ among_holds x j i in
      q.same j l ∙ all_to (holds y') y h (r.to j) (holds_among y (r.to j) t)))

  pub inclusions : (k m : ℕ) → inclusion_count (at_rank ranks k) (at_rank ranks m) ≡ inclusion_count (at_rank others k) (at_rank others m)
  inclusions k m = sums (λ x. count_by (is_within x) (at_rank ranks m)) (λ y. count_by (is_within y) (at_rank others m)) (λ x y e.
      sums (λ z. cond (is_within x z) 1 0) (λ z. cond (is_within y z) 1 0) (λ z w q. ap (λ t. cond t 1 0) (within x y z w e q)) m) k

  -- ---- all ranks
  pub counts_same : map length ranks ≡ map length others
  counts_same = by ranks others H.full K.full as_many
    where
      none : {X : Type 0} (xs : List X) → 0 ≡ length xs → xs ≡ []
      none [] e = refl
      none (x ∷ xs) e = absurd (omega arith)

      by : (xs ys : List (List (List ℕ))) → All (λ l. ¬ (l ≡ [])) xs → All (λ l. ¬ (l ≡ [])) ys → ((k : ℕ) → length (at_rank xs k) ≡ length (at_rank ys k)) → map length xs ≡ map length ys
      by [] [] a b e = refl
      by [] (y ∷ ys) a b e = absurd (All-head (λ l. ¬ (l ≡ [])) y ys b (none y (e 0)))
      by (x ∷ xs) [] a b e = absurd (All-head (λ l. ¬ (l ≡ [])) x xs a (none x (sym (e 0))))
      by (x ∷ xs) (y ∷ ys) a b e = ap₂ (λ z zs. z ∷ zs) (e 0) (by xs ys (All-tail (λ l. ¬ (l ≡ [])) x xs a) (All-tail (λ l. ¬ (l ≡ [])) y ys b) (λ k. e (suc k)))

  lengths : length ranks ≡ length others
  lengths = sym (map_length length ranks) ∙ ap length counts_same ∙ map_length length others

  f_by_counts : (xs : List (List (List ℕ))) → f_of xs ≡ take (length xs - 2) (drop 1 (map length xs))
  f_by_counts xs = sym (ap (take (length xs - 2)) (drop-map length 1 xs) ∙ take-map length (length xs - 2) (drop 1 xs))

  pub f_same : f_of ranks ≡ f_of others
  f_same = f_by_counts ranks ∙ ap₂ (λ k l. take (k - 2) (drop 1 l)) lengths counts_same ∙ sym (f_by_counts others)

  inner_in : (xs : List (List (List ℕ))) (i : ℕ) → i < length xs - 2 → inner_faces xs i ≡ at_rank xs (1 + i)
  inner_in xs i l = get_or-take (length xs - 2) (drop 1 xs) i [] l ∙ get_or-drop 1 xs i []

  inner_length : (xs : List (List (List ℕ))) → length (inner xs) ≤ length xs - 2
  inner_length xs = simp (length-take) (omega arith)

  inner_past : (xs : List (List (List ℕ))) (i : ℕ) → length xs - 2 ≤ i → inner_faces xs i ≡ []
  inner_past xs i l = get_or_past (inner xs) i [] (let e = inner_length xs in omega arith)

  inner_counts : (i : ℕ) → length (inner_faces ranks i) ≡ length (inner_faces others i)
  inner_counts i = elim (cases_lt i (length ranks - 2)) [
    | inl l ↦ ap length (inner_in ranks i l) ∙ as_many (1 + i) ∙ sym (ap length (inner_in others i (let e = lengths in omega arith)))
    | inr l ↦ ap length (inner_past ranks i l) ∙ sym (ap length (inner_past others i (let e = lengths in omega arith)))
  ]

  no_upper : (lower : List (List ℕ)) → inclusion_count lower [] ≡ 0
  no_upper [] = refl
  no_upper (f ∷ lower) = let e = no_upper lower in let u = sum_by-cons (λ g. count_by (is_within g) []) f lower in omega arith

  inner_inclusions : (i k : ℕ) → inclusion_count (inner_faces ranks i) (inner_faces ranks k) ≡ inclusion_count (inner_faces others i) (inner_faces others k)
  inner_inclusions i k = elim (cases_lt i (length ranks - 2)) [
    | inl l ↦ elim (cases_lt k (length ranks - 2)) [
      | inl m ↦ ap₂ inclusion_count (inner_in ranks i l) (inner_in ranks k m) ∙ inclusions (1 + i) (1 + k) ∙ sym (ap₂ inclusion_count (inner_in others i (let e = lengths in omega arith)) (inner_in others k (let e = lengths in omega arith)))
      | inr m ↦ ap (inclusion_count (inner_faces ranks i)) (inner_past ranks k m) ∙ no_upper (inner_faces ranks i) ∙ sym (ap (inclusion_count (inner_faces others i)) (inner_past others k (let e = lengths in omega arith)) ∙ no_upper (inner_faces others i))
    ]
    | inr l ↦ ap (λ z. inclusion_count z (inner_faces ranks k)) (inner_past ranks i l) ∙ sym (ap (λ z. inclusion_count z (inner_faces others k)) (inner_past others i (let e = lengths in omega arith)))
  ]

  entry_same : (i k : ℕ) → f2_entry ranks i k ≡ f2_entry others i k
  entry_same i k = ap₂ (λ z w. cond (nat_lt i k) z w) (inner_inclusions i k) (ap₂ (λ z w. cond (nat_lt k i) z w) (inner_inclusions k i) (inner_counts i))

  pub f2_same : f2_of ranks ≡ f2_of others
  f2_same = ap (λ d. table_of d (f2_entry ranks)) (sym (map_length length (inner ranks)) ∙ ap length f_same ∙ map_length length (inner others)) ∙ table_as (length (inner others))
    where
      map_as : {X Y : Type 0} (f g : X → Y) → ((x : X) → f x ≡ g x) → (xs : List X) → map f xs ≡ map g xs
      map_as f g h [] = refl
      map_as f g h (x ∷ xs) = ap₂ (λ z zs. z ∷ zs) (h x) (map_as f g h xs)

      table_as : (d : ℕ) → table_of d (f2_entry ranks) ≡ table_of d (f2_entry others)
      table_as d = map_as _ _ (λ i. map_as (f2_entry ranks i) (f2_entry others i) (entry_same i) (range_with_len 0 d)) (range_with_len 0 d)
