-- Ranks from the last face to the first: the parts of a face come after it, and its rank is one more than their greatest.
use Rattle.pm_vector.proofs.Lists.{Among, Contains_among, among_All, among_Contains, here, there}
use Rattle.pm_bits.specs.Laws.{row_cmp_total}
use Rattle.pm_bits.specs.Sets.{has, member_count}
use Rattle.pm_geom.specs.FaceCounts.{SamePlaces}
use Rattle.pm_geom.specs.Meets.{HasMeetChain, HasMeetRank, IsMeet}
use Rattle.pm_lattice.specs.Closures.{IsRowBefore, IsClosed, bit_sets}
use Rattle.pm_lattice.specs.Parts.{IsIn, IsPartOf, both}
use Rattle.pm_lattice.specs.Ranks.{AreHeights, face_at, rank_at}
use Rattle.pm_geom.specs.Faces.{IsStrictlyIn}
use Rattle.pm_lattice.proofs.Chains.{Outside, and_both, and_left, and_right, chain_less, chain_step, chain_up, in_or_outside, outside_not_in, rank_is}
use Rattle.pm_lattice.proofs.Closing.{part_meet}
use Rattle.pm_lattice.proofs.Keys.{before_trans, part_after}
use Rattle.pm_lattice.proofs.Subsets.{subset_from_in}
use Rattle.pm_lattice.proofs.Reached.{among_tests, tests_among}
use Rattle.pm_lattice.proofs.Sizes.{one_if, size, size_less}
use Rattle.std.proofs.Common.{ap, arith, inl, inr, refl, subst, sym, ◌∙◌}
use Rattle.std.proofs.lemmas.Cmp.{tied_itself}
use Rattle.std.proofs.lemmas.List.Sums.{sum_by-append}
use Rattle.std.proofs.lemmas.List.{ext_get_or}
use Rattle.std.specs.List.{AllPairs, Contains, range_with_len}
use Rattle.std.specs.Prelude.{Bool, List, [], cond, count_by, false, length, suc, true, zero, ℕ, ◌+◌, ◌<◌, ◌≤◌, ◌∷◌, ◌≡◌, ◌⊎◌}
use Rattle.std.specs.declared.cmp.Ordering.TheVariants.{Less, Equal}
use Rattle.pm_bits.proofs.Counts.{range_with_len-add}

-- no chain of n meets goes up to what f shares with r, where r does not contain f
abbrev pub Bars : ℕ → List (List Bool) → List Bool → ℕ → List Bool → Type 0
Bars m rows f n r = ¬ (IsIn m (has f) (has r)) → ¬ (HasMeetChain m (bit_sets rows) n (both (has f) (has r)))

-- ---- sizes
one_if_cond : (b : Bool) → cond b 1 0 ≡ one_if b
one_if_cond true = refl
one_if_cond false = refl

size_count : (m : ℕ) (f : ℕ → Bool) → count_by f (range_with_len 0 m) ≡ size m f
size_count zero f = refl
size_count (suc m) f =
    let e : m + 1 ≡ suc m = omega arith in
    let split : count_by f (range_with_len 0 (m + 1)) ≡ count_by f (range_with_len 0 m) + count_by f (range_with_len (0 + m) 1) =
    ap (count_by f) (range_with_len-add 0 m 1) ∙ sum_by-append (λ k. cond (f k) 1 0) (range_with_len 0 m) (range_with_len (0 + m) 1) in
    let last : count_by f (range_with_len (0 + m) 1) ≡ one_if (f m) = (let z : 0 + m ≡ m = omega arith in rw z (omega (arith, one_if_cond (f m)))) in
    let rest = size_count m f in
    subst (λ n. count_by f (range_with_len 0 n) ≡ size (suc m) f) e (omega arith)

pub count_less : (m : ℕ) (f g : List Bool) → length f ≡ m → length g ≡ m → IsStrictlyIn m (has f) (has g) → member_count f < member_count g
count_less m f g ef eg s =
    let a = size_count m (has f) in
    let b = size_count m (has g) in
    let l = size_less m (has f) (has g) s in
    rw (ef, eg) (omega arith)

-- ---- places
pub before_not : (x : List Bool) → ¬ (IsRowBefore x x)
before_not x h = let e : Less ≡ Equal = sym h ∙ tied_itself row_cmp_total x in cc

module _ (faces : List (List Bool)) (ordered : AllPairs IsRowBefore faces) where
  pub after_place : (k i : ℕ) (s : List Bool) → k < length faces → i < length faces → face_at faces k ≡ s → IsRowBefore (face_at faces i) s → i < k
  after_place k i s lk li e h = elim (cases k i) [
    | inl l ↦ l
    | inr (inl same) ↦ absurd (before_not s (subst (λ y. IsRowBefore y s) (ap (face_at faces) same ∙ e) h))
    | inr (inr l) ↦ absurd (before_not s (before_trans s (face_at faces i) s (subst (λ y. IsRowBefore y (face_at faces i)) e (ordered k i [] l li)) h))
  ]
    where
      cases : (k i : ℕ) → (i < k) ⊎ ((i ≡ k) ⊎ (k < i))
      cases k i = grind arith

  pub before_place : (k i : ℕ) (s : List Bool) → k < length faces → i < length faces → face_at faces k ≡ s → IsRowBefore s (face_at faces i) → k < i
  before_place k i s lk li e h = elim (cases k i) [
    | inl l ↦ l
    | inr (inl same) ↦ absurd (before_not s (subst (λ y. IsRowBefore s y) (ap (face_at faces) same ∙ e) h))
    | inr (inr l) ↦ absurd (before_not s (before_trans s (face_at faces i) s h (subst (λ y. IsRowBefore (face_at faces i) y) e (ordered i k [] l lk))))
  ]
    where
      cases : (k i : ℕ) → (k < i) ⊎ ((i ≡ k) ⊎ (i < k))
      cases k i = grind arith

-- ---- ranks
module _ (m : ℕ) (rows faces : List (List Bool)) (closed : IsClosed m rows faces) where
  face_len : (f : List Bool) → Contains faces f → length f ≡ m
  face_len f c = among_All (λ g. length g ≡ m) (among_Contains faces c) closed.lengths

  face_meet : (f : List Bool) → Contains faces f → IsMeet m (bit_sets rows) (has f)
  face_meet f c = among_All (λ g. IsMeet m (bit_sets rows) (has g)) (among_Contains faces c) closed.each

  -- a row of bits of an intersection is a face
  pub meet_there : (c : List Bool) → length c ≡ m → IsMeet m (bit_sets rows) (has c) → Contains faces c
  meet_there c e w =
      let f = closed.all (has c) w in
      let same : f.0 ≡ c = ext_get_or false f.0 c (face_len f.0 f.1 ∙ sym e) (λ i l. sym (f.2 i (subst (λ n. i < n) (face_len f.0 f.1) l))) in
      subst (λ g. Contains faces g) same f.1

  module _ (f c : List Bool) (known : Contains faces f) (p : IsPartOf rows f c) where
    pub part_there : Contains faces c
    part_there = meet_there c (p.len ∙ face_len f known) (part_meet m rows f c (face_meet f known) p)

    pub part_later : (i k : ℕ) → i < length faces → k < length faces → face_at faces i ≡ f → face_at faces k ≡ c → i < k
    part_later i k li lk e h = after_place faces closed.ordered k i c lk li h (subst (λ g. IsRowBefore g c) (sym e) (part_after m rows f c (face_len f known) p))

    shared_in : IsIn m (both (has f) (has p.row)) (has c)
    shared_in j l t = p.shared j ∙ and_both (has p.row j) (has f j) (and_right (has f j) (has p.row j) t) (and_left (has f j) (has p.row j) t)

    in_shared : IsIn m (has c) (both (has f) (has p.row))
    in_shared j l t =
        let b = sym (p.shared j) ∙ t in
        and_both (has f j) (has p.row j) (and_right (has p.row j) (has f j) b) (and_left (has p.row j) (has f j) b)

    -- a part of rank q bars longer chains, and its chain goes on to the face
    pub bars_at : (q n : ℕ) → HasMeetRank m (bit_sets rows) (has c) q → q < n → Bars m rows f n p.row
    bars_at q n r l out h = r.greatest (chain_less m (bit_sets rows) (suc q) n (has c) l (chain_up m (bit_sets rows) n (both (has f) (has p.row)) (has c) shared_in h))

    pub chain_on : (q : ℕ) → HasMeetRank m (bit_sets rows) (has c) q → HasMeetChain m (bit_sets rows) (suc q) (has f)
    chain_on q r = elim (in_or_outside m (has f) (has p.row)) [
      | inl h ↦ absurd (p.not_in (subset_from_in m f p.row (face_len f known) h))
      | inr o ↦ chain_step m (bit_sets rows) q (has f) (has p.row) (face_meet f known) (Contains_among (tests_among rows p.row (among_Contains rows p.among))) o (chain_up m (bit_sets rows) q (has c) (both (has f) (has p.row)) in_shared r.chain)
    ]

  pub bars_more : (f r : List Bool) (n k : ℕ) → n ≤ k → Bars m rows f n r → Bars m rows f k r
  bars_more f r n k l b out h = b out (chain_less m (bit_sets rows) n k (both (has f) (has r)) l h)

  -- where each row bars a longer chain, the face has the rank
  pub rank_at_end : (f : List Bool) (n k : ℕ) → Contains faces f → k ≡ length rows → HasMeetChain m (bit_sets rows) n (has f) → ((i : ℕ) → i < k → Bars m rows f n (face_at rows i)) → HasMeetRank m (bit_sets rows) (has f) n
  rank_at_end f n k known e x h = rank_is m (bit_sets rows) (has f) n (face_meet f known) x (λ r i o. let w = among_tests rows r (among_Contains (bit_sets rows) i) in bar_of w.0 w.1 r w.2 o)
    where
      all_bar : (r : List Bool) → Among r rows → Bars m rows f n r
      all_bar r i = at rows k e h r i
        where
          at : (qs : List (List Bool)) (k : ℕ) → k ≡ length qs → ((i : ℕ) → i < k → Bars m rows f n (face_at qs i)) → (r : List Bool) → Among r qs → Bars m rows f n r
          at [] k e h r i = elim i [ ]
          at (q ∷ qs) k e h r here = h 0 (omega arith)
          at (q ∷ qs) k e h r (there i) = at qs (length qs) refl (λ j l. h (suc j) (omega arith)) r i

      bar_of : (q : List Bool) → Among q rows → (r : ℕ → Bool) → has q ≡ r → Outside m (has f) r → ¬ (HasMeetChain m (bit_sets rows) n (both (has f) r))
      bar_of q i r e o y = all_bar q i (outside_not_in m (has f) (has q) (subst (λ t. Outside m (has f) t) (sym e) o)) (subst (λ t. HasMeetChain m (bit_sets rows) n (both (has f) t)) (sym e) y)

  -- ---- heights
  module _ (heights : List ℕ) (high : AreHeights m faces heights) where
    pub chain_height : (k : ℕ) (f : List Bool) → Contains faces f → HasMeetChain m (bit_sets rows) k (has f) → k ≤ rank_at heights (member_count f)
    chain_height zero f known x = omega arith
    chain_height (suc k) f known x =
        let g = closed.all x.0 x.1 in
        let s = strict_as x.0 (has g.0) (has f) g.2 x.2 in
        let below = chain_height k g.0 g.1 (chain_up m (bit_sets rows) k x.0 (has g.0) (λ j l t. sym (g.2 j l) ∙ t) x.3) in
        let rise = high.rise g.0 f g.1 known (count_less m g.0 f (face_len g.0 g.1) (face_len f known) s) in
        omega arith
      where
        strict_as : (a b c : ℕ → Bool) → SamePlaces m a b → IsStrictlyIn m a c → IsStrictlyIn m b c
        strict_as a b c e s = record { included = λ j l t. s.included j l (e j l ∙ t); j = s.j; below = s.below; has = s.has; lacks = λ t. s.lacks (e s.j s.below ∙ t) }

    -- a part that is too small bars longer chains
    pub bars_low : (f c : List Bool) (known : Contains faces f) (p : IsPartOf rows f c) (n : ℕ) → rank_at heights (member_count c) < n → Bars m rows f n p.row
    bars_low f c known p n l out h =
        let b = chain_height n c (part_there f c known p) (chain_up m (bit_sets rows) n (both (has f) (has p.row)) (has c) (shared_in f c known p) h) in
        omega arith

    -- a chain as long as the height is the longest
    pub rank_at_height : (f : List Bool) (n : ℕ) → Contains faces f → n ≡ rank_at heights (member_count f) → HasMeetChain m (bit_sets rows) n (has f) → HasMeetRank m (bit_sets rows) (has f) n
    rank_at_height f n known e x = record { meet = face_meet f known; chain = x; greatest = λ y. let b = chain_height (suc n) f known y in omega arith }

    pub rank_small : (f : List Bool) (n : ℕ) → Contains faces f → HasMeetRank m (bit_sets rows) (has f) n → n ≤ m
    rank_small f n known r = let b = chain_height n f known r.chain in let s = high.small (member_count f) in omega arith
