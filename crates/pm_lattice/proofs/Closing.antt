-- The turns of the loop that closes rows under intersection.
use Rattle.pm_vector.proofs.Lists.{All_among, Among, Contains_among, among_All, among_Contains, among_append, among_append_left, among_append_right, here, there}
use Rattle.pm_bits.specs.Sets.{has, member_count}
use Rattle.pm_geom.specs.Meets.{IsMeet}
use Rattle.pm_lattice.specs.Closures.{AreMeets, IsRowBefore, IsClosed, bit_sets, place_count}
use Rattle.pm_lattice.specs.Parts.{Covers, IsPartOf, Opens, both}
use Rattle.pm_lattice.proofs.Chains.{meet_more}
use Rattle.pm_lattice.proofs.Keys.{before_trans, part_after}
use Rattle.pm_lattice.proofs.Reached.{all_reached, tests_among}
use Rattle.std.proofs.Common.{ap, arith, inl, inr, refl, subst, sym, ◌∙◌}
use Rattle.std.proofs.lemmas.List.FromFn.{length-range_with_len}
use Rattle.std.proofs.lemmas.List.Sums.{count_by-le-length, sum_by_push}
use Rattle.std.specs.List.{range_with_len}
use Rattle.std.proofs.lemmas.List.Quantifiers.{all_pairs_push}
use Rattle.std.proofs.lemmas.List.{append-nil}
use Rattle.std.specs.List.{All, AllPairs, Contains}
use Rattle.std.specs.Prelude.{Bool, IsTrue, List, [], false, length, true, ℕ, ◌&&◌, ◌+◌, ◌++◌, ◌<◌, ◌≤◌, ◌∷◌, ◌≡◌, ◌⊎◌}

-- between two turns of the loop: the faces in order, and after them those that are open; the parts of the faces are there
pub record Closing (m : ℕ) (rows faces open' : List (List Bool)) : Type 0 where
  pub meets : All (λ f. IsMeet m (bit_sets rows) (has f)) (faces ++ open')
  pub lengths : All (λ f. length f ≡ m) (faces ++ open')
  pub ordered : AllPairs IsRowBefore faces
  pub after : All (λ f. All (IsRowBefore f) open') faces
  pub covered : All (Covers m rows (faces ++ open')) faces
  pub whole : (w : List Bool) × Contains (faces ++ open') w × ((j : ℕ) → j < m → IsTrue (has w j))

only_one : {X : Type 0} {x y : X} → Among x (y ∷ []) → x ≡ y
only_one here = refl
only_one (there i) = elim i [ ]

module _ (m : ℕ) (rows : List (List Bool)) where
  -- a set with the places of an intersection is one
  meet_as : (f g : ℕ → Bool) → IsMeet m (bit_sets rows) f → ((j : ℕ) → g j ≡ f j) → IsMeet m (bit_sets rows) g
  meet_as f g w e = record { some = w.some; among = w.among; places = λ j l. ((λ t. (w.places j l).0 (sym (e j) ∙ t)), (λ h. e j ∙ (w.places j l).1 h)) }

  pub whole_meet : (f : ℕ → Bool) → ((j : ℕ) → j < m → IsTrue (f j)) → IsMeet m (bit_sets rows) f
  whole_meet f h = record { some = []; among = λ r i. elim (among_Contains [] i) [ ]; places = λ j l. ((λ t. All_among (λ r. IsTrue (r j)) [] (λ r i. elim i [ ])), (λ a. h j l)) }

  and_turned : (a b : Bool) → (a && b) ≡ (b && a)
  and_turned true true = refl
  and_turned true false = refl
  and_turned false true = refl
  and_turned false false = refl

  pub part_meet : (f c : List Bool) → IsMeet m (bit_sets rows) (has f) → IsPartOf rows f c → IsMeet m (bit_sets rows) (has c)
  part_meet f c w p = meet_as (both (has f) (has p.row)) (has c) (meet_more m (bit_sets rows) (has f) (has p.row) w (Contains_among (tests_among rows p.row (among_Contains rows p.among)))) (λ j. p.shared j ∙ and_turned (has p.row j) (has f j))

  pub closing_start : (w : List Bool) (keys : List (List Bool)) → keys ≡ w ∷ [] → length w ≡ m → ((j : ℕ) → j < m → IsTrue (has w j)) → Closing m rows [] keys
  closing_start w keys e l h = subst (λ ks. Closing m rows [] ks) (sym e) (record {
    meets = All_among (λ f. IsMeet m (bit_sets rows) (has f)) (w ∷ []) (λ f i. subst (λ g. IsMeet m (bit_sets rows) (has g)) (sym (only_one i)) (whole_meet (has w) h));
    lengths = All_among (λ f. length f ≡ m) (w ∷ []) (λ f i. ap length (only_one i) ∙ l);
    ordered = λ i j d a b. absurd (omega arith);
    after = All_among (λ f. All (IsRowBefore f) (w ∷ [])) [] (λ f i. elim i [ ]);
    covered = All_among (Covers m rows (w ∷ [])) [] (λ f i. elim i [ ]);
    whole = (w, (let i : Among w (w ∷ []) = here in Contains_among i), h);
  })

  covers_more : (old new : List (List Bool)) (f : List Bool) → ((x : List Bool) → Among x old → Among x new) → Covers m rows old f → Covers m rows new f
  covers_more old new f h v j o = let w = v j o in (w.0, Contains_among (h w.0 (among_Contains old w.1)), w.2)

  module _ (faces : List (List Bool)) (f : List Bool) (rest new : List (List Bool)) (o : Opens m rows f rest new) where
    still : (x : List Bool) → Among x (faces ++ f ∷ rest) → Among x (faces ++ f ∷ [] ++ new)
    still x i = elim (among_append faces (f ∷ rest) i) [
      | inl j ↦ among_append_left new (among_append_left (f ∷ []) j)
      | inr j ↦ go x j
    ]
      where
        go : (x : List Bool) → Among x (f ∷ rest) → Among x (faces ++ f ∷ [] ++ new)
        go x here = among_append_left new (let j : Among f (f ∷ []) = here in among_append_right faces j)
        go x (there j) = among_append_right (faces ++ f ∷ []) (among_Contains new (o.kept x (Contains_among j)))

    -- where a member of the next lists comes from
    from : (x : List Bool) → Among x (faces ++ f ∷ [] ++ new) → Among x (faces ++ f ∷ rest) ⊎ IsPartOf rows f x
    from x i = elim (among_append (faces ++ f ∷ []) new i) [
      | inl j ↦ elim (among_append faces (f ∷ []) j) [
        | inl k ↦ inl (among_append_left (f ∷ rest) k)
        | inr k ↦ inl (among_append_right faces (subst (λ y. Among y (f ∷ rest)) (sym (only_one k)) here))
      ]
      | inr j ↦ elim (o.added x (Contains_among j)) [
        | inl k ↦ inl (among_append_right faces (there (among_Contains rest k)))
        | inr p ↦ inr p
      ]
    ]

    f_in : Among f (faces ++ f ∷ rest)
    f_in = let i : Among f (f ∷ rest) = here in among_append_right faces i

    module _ (c : Closing m rows faces (f ∷ rest)) (above : All (IsRowBefore f) rest) where
      meet_of : (x : List Bool) → Among x (faces ++ f ∷ rest) → IsMeet m (bit_sets rows) (has x)
      meet_of x i = among_All (λ g. IsMeet m (bit_sets rows) (has g)) i c.meets

      length_of : (x : List Bool) → Among x (faces ++ f ∷ rest) → length x ≡ m
      length_of x i = among_All (λ g. length g ≡ m) i c.lengths

      before_f : (g : List Bool) → Among g faces → IsRowBefore g f
      before_f g i = let j : Among f (f ∷ rest) = here in among_All (IsRowBefore g) j (among_All (λ h. All (IsRowBefore h) (f ∷ rest)) i c.after)

      f_before : (k : List Bool) → Among k new → IsRowBefore f k
      f_before k i = elim (o.added k (Contains_among i)) [
        | inl j ↦ among_All (IsRowBefore f) (among_Contains rest j) above
        | inr p ↦ part_after m rows f k (length_of f f_in) p
      ]

      after_next : (g : List Bool) → Among g (faces ++ f ∷ []) → All (IsRowBefore g) new
      after_next g i = elim (among_append faces (f ∷ []) i) [
        | inl j ↦ All_among (IsRowBefore g) new (λ k n. before_trans g f k (before_f g j) (f_before k n))
        | inr j ↦ subst (λ h. All (IsRowBefore h) new) (sym (only_one j)) (All_among (IsRowBefore f) new f_before)
      ]

      covered_next : (g : List Bool) → Among g (faces ++ f ∷ []) → Covers m rows (faces ++ f ∷ [] ++ new) g
      covered_next g i = elim (among_append faces (f ∷ []) i) [
        | inl j ↦ covers_more (faces ++ f ∷ rest) (faces ++ f ∷ [] ++ new) g still (among_All (Covers m rows (faces ++ f ∷ rest)) j c.covered)
        | inr j ↦ subst (λ h. Covers m rows (faces ++ f ∷ [] ++ new) h) (sym (only_one j)) (covers_more new (faces ++ f ∷ [] ++ new) f (λ x n. among_append_right (faces ++ f ∷ []) n) o.covers)
      ]

      pub next_turn : Closing m rows (faces ++ f ∷ []) new
      next_turn = record {
        meets = All_among (λ g. IsMeet m (bit_sets rows) (has g)) (faces ++ f ∷ [] ++ new) (λ x i. elim (from x i) [ inl j ↦ meet_of x j | inr p ↦ part_meet f x (meet_of f f_in) p ]);
        lengths = All_among (λ g. length g ≡ m) (faces ++ f ∷ [] ++ new) (λ x i. elim (from x i) [ inl j ↦ length_of x j | inr p ↦ p.len ∙ length_of f f_in ]);
        ordered = all_pairs_push IsRowBefore faces f c.ordered (λ k d l. (λ (a : All (λ g. IsRowBefore g f) faces). a k d l) (All_among (λ g. IsRowBefore g f) faces before_f));
        after = All_among (λ g. All (IsRowBefore g) new) (faces ++ f ∷ []) after_next;
        covered = All_among (Covers m rows (faces ++ f ∷ [] ++ new)) (faces ++ f ∷ []) covered_next;
        whole = (c.whole.0, Contains_among (still c.whole.0 (among_Contains (faces ++ f ∷ rest) c.whole.1)), c.whole.2);
      }

  pub closing_turn : (faces keys : List (List Bool)) (f : List Bool) (rest new next : List (List Bool)) → keys ≡ f ∷ rest → next ≡ faces ++ f ∷ [] → Closing m rows faces keys → All (IsRowBefore f) rest → Opens m rows f rest new → Closing m rows next new
  closing_turn faces keys f rest new next e n c above o = subst (λ fs. Closing m rows fs new) (sym n) (next_turn faces f rest new o (subst (λ ks. Closing m rows faces ks) e c) above)

  closed_end : (faces : List (List Bool)) → Closing m rows faces [] → IsClosed m rows faces
  closed_end faces c =
      let same : faces ++ [] ≡ faces = append-nil faces in
      let whole = subst (λ fs. Contains fs c.whole.0) same c.whole.1 in
      let covered = subst (λ fs. All (Covers m rows fs) faces) same c.covered in
      record {
        each = subst (λ fs. All (λ f. IsMeet m (bit_sets rows) (has f)) fs) same c.meets;
        all = all_reached m rows faces (λ f i. among_All (λ f. length f ≡ m) (among_Contains faces i) (subst (λ fs. All (λ f. length f ≡ m) fs) same c.lengths)) (λ f i. among_All (Covers m rows faces) (among_Contains faces i) covered) c.whole.0 whole c.whole.2;
        lengths = subst (λ fs. All (λ f. length f ≡ m) fs) same c.lengths;
        ordered = c.ordered;
      }

  pub closing_end : (faces keys : List (List Bool)) → length keys ≡ 0 → Closing m rows faces keys → IsClosed m rows faces
  closing_end faces [] e c = closed_end faces c
  closing_end faces (k ∷ keys) e c = absurd (omega arith)

  pub first_length : (faces keys : List (List Bool)) (f : List Bool) (rest : List (List Bool)) → keys ≡ f ∷ rest → Closing m rows faces keys → length f ≡ m
  first_length faces keys f rest e c =
      let i : Among f (f ∷ rest) = here in
      let lengths = subst (λ ks. All (λ g. length g ≡ m) (faces ++ ks)) e c.lengths in
      among_All (λ g. length g ≡ m) (among_append_right faces i) lengths

  pub closing_many : (faces keys : List (List Bool)) → Closing m rows faces keys → AreMeets m rows faces
  closing_many faces keys c = record {
    each = All_among (λ f. IsMeet m (bit_sets rows) (has f)) faces (λ f i. among_All (λ f. IsMeet m (bit_sets rows) (has f)) (among_append_left keys i) c.meets);
    lengths = All_among (λ f. length f ≡ m) faces (λ f i. among_All (λ f. length f ≡ m) (among_append_left keys i) c.lengths);
    ordered = c.ordered;
  }

pub member_count_le : (row : List Bool) → member_count row ≤ length row
member_count_le row = omega (arith, count_by-le-length (has row) (range_with_len 0 (length row)), length-range_with_len 0 (length row))

pub place_count_pushed : (faces new : List (List Bool)) (f : List Bool) → new ≡ faces ++ f ∷ [] → place_count new ≡ place_count faces + member_count f
place_count_pushed faces new f e = ap place_count e ∙ sum_by_push member_count faces f
