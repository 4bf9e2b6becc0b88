-- The turns of the loop that finds the rank of a face.
use Rattle.pm_bits.specs.Sets.{IsIntersection, IsSubset, has, member_count}
use Rattle.pm_geom.specs.Meets.{HasMeetChain, HasMeetRank}
use Rattle.pm_lattice.specs.Closures.{IsClosed, bit_sets}
use Rattle.pm_lattice.specs.Parts.{IsPartOf}
use Rattle.pm_lattice.specs.Ranks.{Allows, AreAllowedFrom, AreHeights, AreRanksFrom, StandsAfter, face_at, rank_at}
use Rattle.pm_lattice.specs.declared.ranks.SizeRank.{SizeRank}
use Rattle.pm_lattice.specs.declared.ranks.SizeRank.TheVariants.{All, Unseen}
use Rattle.pm_lattice.proofs.Parts.{below_next}
use Rattle.pm_lattice.proofs.Places.{contains_at, face_is}
use Rattle.pm_lattice.proofs.Ranking.{Bars, bars_at, bars_low, bars_more, chain_on, part_later, part_there, rank_at_end, rank_at_height, rank_small}
use Rattle.std.proofs.Common.{ap, arith, get_or, inl, inr, refl, subst, sym, ◌∙◌}
use Rattle.std.proofs.lemmas.Bool.{cases_eq}
use Rattle.std.proofs.lemmas.List.{get_or-set_other, get_or-set_same, get_or_default}
use Rattle.std.specs.List.{Contains, slice_index_or}
use Rattle.std.specs.Prelude.{Bool, List, [], length, slice_set, suc, ℕ, ◌+◌, ◌<◌, ◌≤◌, ◌≡◌, ◌⊎◌}

module _ (m : ℕ) (rows faces : List (List Bool)) (closed : IsClosed m rows faces) (heights : List ℕ) (high : AreHeights m faces heights) (place : ℕ) (inside : place < length faces) where
  f_known : Contains faces (face_at faces place)
  f_known = contains_at faces place inside

  pub len_at : (f0 : List Bool) → f0 ≡ get_or faces place f0 → length f0 ≡ m
  len_at f0 e = subst (λ g. length g ≡ m) (sym e) (closed.lengths place f0 inside)

  pub at_height : (f0 : List Bool) → f0 ≡ get_or faces place f0 → (n count : ℕ) → count ≡ member_count f0 → n ≡ rank_at heights count → HasMeetChain m (bit_sets rows) n (has (face_at faces place)) → HasMeetRank m (bit_sets rows) (has (face_at faces place)) n
  at_height f0 e n count ec en x = rank_at_height m rows faces closed heights high (face_at faces place) n f_known (en ∙ ap (rank_at heights) (ec ∙ ap member_count (sym (face_is faces place f0 inside e)))) x

  pub at_end : (n k : ℕ) → k ≡ length rows → HasMeetChain m (bit_sets rows) n (has (face_at faces place)) → ((i : ℕ) → i < k → Bars m rows (face_at faces place) n (face_at rows i)) → HasMeetRank m (bit_sets rows) (has (face_at faces place)) n
  at_end n k e x h = rank_at_end m rows faces closed (face_at faces place) n k f_known e x h

  -- a row that contains the face bars every chain
  pub contained : (f0 r : List Bool) → f0 ≡ get_or faces place f0 → (i n : ℕ) → r ≡ face_at rows i → IsSubset f0 r → ((k : ℕ) → k < i → Bars m rows (face_at faces place) n (face_at rows k)) → (k : ℕ) → k < i + 1 → Bars m rows (face_at faces place) n (face_at rows k)
  contained f0 r e i n er h b = below_next (λ k. Bars m rows (face_at faces place) n (face_at rows k)) i b (subst (λ q. Bars m rows (face_at faces place) n q) er (subst (λ g. Bars m rows g n r) (sym (face_is faces place f0 inside e)) (λ out x. out (λ j l t. h j t))))

  module _ (f0 r p : List Bool) (e : f0 ≡ get_or faces place f0) (i : ℕ) (li : i < length rows) (er : r ≡ face_at rows i) (out : ¬ (IsSubset f0 r)) (len : length p ≡ length f0) (met : IsIntersection p r f0) where
    row_among : Contains rows r
    row_among = subst (λ q. Contains rows q) (sym er) (contains_at rows i li)

    same_face : face_at faces place ≡ f0
    same_face = face_is faces place f0 inside e

    abbrev part : IsPartOf rows (face_at faces place) p
    part = record {
      row = r;
      among = row_among;
      not_in = λ s. out (subst (λ g. IsSubset g r) same_face s);
      len = len ∙ ap length (sym same_face);
      shared = subst (λ g. IsIntersection p r g) (sym same_face) met;
    }

    bars_here : (n : ℕ) → Bars m rows (face_at faces place) n r → Bars m rows (face_at faces place) n (face_at rows i)
    bars_here n b = subst (λ q. Bars m rows (face_at faces place) n q) er b

    pub there : Contains faces p
    there = part_there m rows faces closed (face_at faces place) p f_known part

    pub after : StandsAfter faces place p
    after = record { there = there; later = λ k l same. part_later m rows faces closed (face_at faces place) p f_known part place k inside l refl same }

    pub low : (n count : ℕ) → count ≡ member_count p → rank_at heights count < n → ((k : ℕ) → k < i → Bars m rows (face_at faces place) n (face_at rows k)) → (k : ℕ) → k < i + 1 → Bars m rows (face_at faces place) n (face_at rows k)
    low n count ec l b = below_next (λ k. Bars m rows (face_at faces place) n (face_at rows k)) i b (bars_here n (bars_low m rows faces closed heights high (face_at faces place) p f_known part n (subst (λ s. rank_at heights s < n) ec l)))

    module _ (q : ℕ) (known : HasMeetRank m (bit_sets rows) (has p) q) where
      pub below : (n : ℕ) → q < n → ((k : ℕ) → k < i → Bars m rows (face_at faces place) n (face_at rows k)) → (k : ℕ) → k < i + 1 → Bars m rows (face_at faces place) n (face_at rows k)
      below n l b = below_next (λ k. Bars m rows (face_at faces place) n (face_at rows k)) i b (bars_here n (bars_at m rows faces closed (face_at faces place) p f_known part q n known l))

      pub up : (n : ℕ) → n ≤ q → ((k : ℕ) → k < i → Bars m rows (face_at faces place) n (face_at rows k)) → (k : ℕ) → k < i + 1 → Bars m rows (face_at faces place) (q + 1) (face_at rows k)
      up n l b = below (q + 1) (omega arith) (λ k lk. bars_more m rows faces closed (face_at faces place) (face_at rows k) n (q + 1) (omega arith) (b k lk))

      pub chain_up_to : HasMeetChain m (bit_sets rows) (q + 1) (has (face_at faces place))
      chain_up_to = subst (λ n. HasMeetChain m (bit_sets rows) n (has (face_at faces place))) (let s : suc q ≡ q + 1 = omega arith in s) (chain_on m rows faces closed (face_at faces place) p f_known part q known)

      pub small : q + 1 ≤ m + 1
      small = let s = rank_small m rows faces closed heights high p q there known in omega arith

-- ---- the rank of a face that stands after a place
module _ (m : ℕ) (rows faces : List (List Bool)) (ranks : List ℕ) (place : ℕ) (known : AreRanksFrom m rows faces ranks (place + 1)) (p : List Bool) (after : StandsAfter faces place p) where
  pub rank_found : (k : ℕ) → k < length faces → face_at faces k ≡ p → HasMeetRank m (bit_sets rows) (has p) (rank_at ranks k)
  rank_found k l same = let s = after.later k l same in subst (λ g. HasMeetRank m (bit_sets rows) (has g) (rank_at ranks k)) same (known k (omega arith) l)

  pub rank_allowed : (sizes : List SizeRank) → AreAllowedFrom faces ranks sizes (place + 1) → (size q : ℕ) → size ≡ member_count p → slice_index_or sizes size Unseen ≡ All q → HasMeetRank m (bit_sets rows) (has p) q
  rank_allowed sizes allowed size q es e =
      let k = after.there.0 in
      let l : k < length faces = after.there.1 in
      let same : face_at faces k ≡ p = get_or_default faces k [] p l ∙ after.there.2 in
      let s = after.later k l same in
      let a = subst (λ f. Allows (slice_index_or sizes (member_count f) Unseen) (rank_at ranks k)) same (allowed k (omega arith) l) in
      let b = subst (λ x. Allows x (rank_at ranks k)) (ap (λ n. slice_index_or sizes n Unseen) (sym es) ∙ e) a in
      subst (λ n. HasMeetRank m (bit_sets rows) (has p) n) b (rank_found k l same)

-- one more face, with its size
pub allowed_more : (faces : List (List Bool)) (old new : List ℕ) (sizes next : List SizeRank) (i j rank size : ℕ) (was now : SizeRank) → i ≡ j + 1 → j < length old → size < length sizes → size ≡ member_count (face_at faces j) → new ≡ slice_set old j rank → next ≡ slice_set sizes size now → was ≡ slice_index_or sizes size was
    → Allows now rank → ((k : ℕ) → Allows was k → Allows now k) → AreAllowedFrom faces old sizes i → AreAllowedFrom faces new next j
allowed_more faces old new sizes next i j rank size was now ei lj ls es en ex ew new_one old_ones h k lk lf =
    subst (λ rs. Allows (slice_index_or next (member_count (face_at faces k)) Unseen) (rank_at rs k)) (sym en) (
    subst (λ xs. Allows (slice_index_or xs (member_count (face_at faces k)) Unseen) (rank_at (slice_set old j rank) k)) (sym ex) (elim (which k lk) [
      | inl b ↦ subst (λ q. Allows (slice_index_or (slice_set sizes size now) (member_count (face_at faces q)) Unseen) (rank_at (slice_set old j rank) q)) b (
          subst (λ n. Allows (slice_index_or (slice_set sizes size now) n Unseen) (rank_at (slice_set old j rank) j)) es (
          subst (λ x. Allows x (rank_at (slice_set old j rank) j)) (sym (get_or-set_same sizes size now Unseen ls)) (
          subst (λ n. Allows now n) (sym (get_or-set_same old j rank 0 lj)) new_one)))
      | inr b ↦ subst (λ n. Allows (slice_index_or (slice_set sizes size now) (member_count (face_at faces k)) Unseen) n) (sym (get_or-set_other old j k rank 0 (λ q. let s = q in omega arith))) (at_size (h k (omega arith) lf))
    ]))
  where
    which : (k : ℕ) → j ≤ k → (j ≡ k) ⊎ (j < k)
    which k l = grind arith

    at_size : Allows (slice_index_or sizes (member_count (face_at faces k)) Unseen) (rank_at old k) → Allows (slice_index_or (slice_set sizes size now) (member_count (face_at faces k)) Unseen) (rank_at old k)
    at_size a = elim (cases_eq (member_count (face_at faces k)) size) [
      | inl e ↦ subst (λ n. Allows (slice_index_or (slice_set sizes size now) n Unseen) (rank_at old k)) (sym e) (
          subst (λ x. Allows x (rank_at old k)) (sym (get_or-set_same sizes size now Unseen ls)) (
          old_ones (rank_at old k) (subst (λ x. Allows x (rank_at old k)) (ap (λ n. slice_index_or sizes n Unseen) e ∙ get_or_default sizes size Unseen was ls ∙ sym ew) a)))
      | inr n ↦ subst (λ x. Allows x (rank_at old k)) (sym (get_or-set_other sizes size (member_count (face_at faces k)) now Unseen n)) a
    ]
