-- What `faces` answers, from the faces as rows of bits.
use Rattle.pm_vector.proofs.Lists.{All_among, Among, among_All, here, there}
use Rattle.pm_bits.specs.Sets.{has, member_count, members}
use Rattle.pm_geom.specs.Graphs.{IsAscending, holds, sets_of}
use Rattle.pm_geom.specs.Meets.{AreMeetsByRank, AreTooManyMeets, HasMeetChain, HasMeetRank, IsMeet, IsSmallLattice}
use Rattle.pm_lattice.specs.Closures.{AreFew, IsRowBefore, IsClosed, AreMany, AreMeets, place_count, bit_sets}
use Rattle.pm_lattice.specs.Lattices.{IsFaceLattice, ShowsTooMany}
use Rattle.pm_lattice.specs.Ranks.{AreRanksFrom, face_at, levels_to, rank_at}
use Rattle.pm_lattice.proofs.Closing.{whole_meet}
use Rattle.pm_lattice.proofs.Levels.{is_lattice, same_test, top_rank}
use Rattle.pm_lattice.proofs.Totals.{few_levels}
use Rattle.pm_lattice.proofs.MemberLists.{holds_members, length-members, members_ascend}
use Rattle.pm_lattice.proofs.Ranking.{before_not}
use Rattle.pm_lattice.proofs.Sizes.{size, size_le, size_less}
use Rattle.pm_geom.specs.declared.evidence.Evidence.{Evidence}
use Rattle.pm_types.specs.Values.{IndexSets}
use Rattle.std.proofs.Common.{ap, arith, get_or, inl, inr, refl, subst, sym, ◌∙◌}
use Rattle.std.proofs.lemmas.List.{ext_get_or, get_or_default, length-map}
use Rattle.std.proofs.lemmas.List.Sums.{sum_by-cons}
use Rattle.std.specs.List.{All, sum_by}
use Rattle.std.specs.Prelude.{Bool, List, [], false, length, map, suc, true, zero, ℕ, ◌+◌, ◌^◌, ◌<◌, ◌≤◌, ◌∷◌, ◌≡◌}

-- ---- ranks are small
pub chain_size : (m : ℕ) (rows : List (ℕ → Bool)) (k : ℕ) (f : ℕ → Bool) → HasMeetChain m rows k f → k ≤ size m f
chain_size m rows zero f x = omega arith
chain_size m rows (suc k) f x = let a = chain_size m rows k x.0 x.3 in let b = size_less m x.0 f x.2 in omega arith

pub rank_le : (m : ℕ) (rows : List (ℕ → Bool)) (f : ℕ → Bool) (k : ℕ) → HasMeetRank m rows f k → k ≤ m
rank_le m rows f k r = let a = chain_size m rows k f r.chain in let b = size_le m f in omega arith

-- ---- too many
place_count_sum : (faces : List (List Bool)) → sum_by length (map members faces) ≡ place_count faces
place_count_sum [] = refl
place_count_sum (f ∷ faces) =
    let a = sum_by-cons (length {A = ℕ}) (members f) (map members faces) in
    let b = sum_by-cons member_count f faces in
    let c = length-members f in
    let d = place_count_sum faces in
    omega arith

among_map : (faces : List (List Bool)) (xs : List ℕ) → Among xs (map members faces) → (f : List Bool) × Among f faces × (xs ≡ members f)
among_map [] xs i = elim i [ ]
among_map (f ∷ faces) xs i = go (members f) (map members faces) refl (λ j. among_map faces xs j) i
  where
    go : (ms : List ℕ) (rest : List (List ℕ)) → ms ≡ members f → (Among xs rest → (g : List Bool) × Among g faces × (xs ≡ members g)) → Among xs (ms ∷ rest) → (g : List Bool) × Among g (f ∷ faces) × (xs ≡ members g)
    go ms rest e again here = (f, here, e)
    go ms rest e again (there j) = let w = again j in (w.0, there w.1, w.2)

same_members : (m : ℕ) (f g : List Bool) → length f ≡ m → length g ≡ m → members f ≡ members g → f ≡ g
same_members m f g ef eg e = ext_get_or false f g (ef ∙ sym eg) (λ j l. sym (holds_members f j) ∙ ap (λ xs. holds xs j) e ∙ holds_members g j)

map_at : (faces : List (List Bool)) (i : ℕ) (d : List ℕ) → i < length faces → get_or (map members faces) i d ≡ members (get_or faces i [])
map_at [] i d l = absurd (omega arith)
map_at (f ∷ faces) zero d l = refl
map_at (f ∷ faces) (suc i) d l = map_at faces i d (omega arith)

pub too_many : (m : ℕ) (rows faces : List (List Bool)) (lists : List (List ℕ)) → lists ≡ map members faces → AreMeets m rows faces → AreMany faces → AreTooManyMeets m (bit_sets rows) lists
too_many m rows faces lists e t much = subst (λ ls. AreTooManyMeets m (bit_sets rows) ls) (sym e) (record {
  each = All_among (λ xs. IsAscending m xs × IsMeet m (bit_sets rows) (holds xs)) (map members faces) (λ xs i.
      let w = among_map faces xs i in
      let len : length w.0 ≡ m = among_All (λ f. length f ≡ m) w.1 t.lengths in
      let meet = among_All (λ f. IsMeet m (bit_sets rows) (has f)) w.1 t.each in
      subst (λ ys. IsAscending m ys × IsMeet m (bit_sets rows) (holds ys)) (sym w.2) (
        members_ascend m w.0 len,
        subst (λ f. IsMeet m (bit_sets rows) f) (sym (same_test w.0)) meet,
      ));
  different = λ i j d l k q.
      let n = length-map faces members in
      let lj : j < length faces = omega arith in
      let li : i < length faces = omega arith in
      let eq = sym (map_at faces i d li) ∙ q ∙ map_at faces j d lj in
      let rows_equal = same_members m (get_or faces i []) (get_or faces j []) (t.lengths i [] li) (t.lengths j [] lj) eq in
      before_not (get_or faces j []) (subst (λ x. IsRowBefore x (get_or faces j [])) rows_equal (t.ordered i j [] l lj));
  many = elim much [
    | inl h ↦ inl (let n = length-map faces members in omega arith)
    | inr h ↦ inr (let n = place_count_sum faces in omega arith)
  ];
})

-- ---- the lattice
pub some_face : (m : ℕ) (rows faces : List (List Bool)) → IsClosed m rows faces → 0 < length faces
some_face m rows faces closed = let f = closed.all (λ j. true) (whole_meet m rows (λ j. true) (λ j l. refl)) in let l = f.1.1 in omega arith

pub first_small : (m : ℕ) (rows faces : List (List Bool)) (ranks : List ℕ) (top : ℕ) → IsClosed m rows faces → AreRanksFrom m rows faces ranks 0 → top ≡ rank_at ranks 0 → top ≤ m
first_small m rows faces ranks top closed known e = let b = rank_le m (bit_sets rows) (has (face_at faces 0)) (rank_at ranks 0) (known 0 (omega arith) (some_face m rows faces closed)) in omega arith

pub short_rows : (m : ℕ) (faces : List (List Bool)) → m < 2 ^ 32 → All (λ f. length f ≡ m) faces → All (λ f. length f < 2 ^ 32) faces
short_rows m faces l h k d lk = let e = h k d lk in omega arith

pub top_is : (ranks : List ℕ) (n top : ℕ) → 0 < n → length ranks ≡ n → top ≡ get_or ranks 0 top → top ≡ rank_at ranks 0
top_is ranks n top l e h = h ∙ get_or_default ranks 0 top 0 (omega arith)

pub lattice_at : (m : ℕ) (rows faces : List (List Bool)) (ranks slice : List ℕ) (top : ℕ) (levels : List (List (List ℕ))) → IsClosed m rows faces → AreRanksFrom m rows faces ranks 0 → length ranks ≡ length faces → slice ≡ ranks → top ≡ get_or ranks 0 top
    → levels ≡ levels_to top faces slice → AreMeetsByRank m (bit_sets rows) levels
lattice_at m rows faces ranks slice top levels closed known as_many es et e =
    let t : top ≡ rank_at ranks 0 = top_is ranks (length faces) top (some_face m rows faces closed) as_many et in
    is_lattice m rows faces ranks closed known as_many levels (subst (λ rs. levels ≡ levels_to (rank_at ranks 0) faces rs) es (subst (λ t. levels ≡ levels_to t faces slice) t e))

pub few_at : (m : ℕ) (rows faces : List (List Bool)) (ranks slice : List ℕ) (top : ℕ) (levels : List (List (List ℕ))) → IsClosed m rows faces → AreRanksFrom m rows faces ranks 0 → length ranks ≡ length faces → slice ≡ ranks → top ≡ get_or ranks 0 top
    → levels ≡ levels_to top faces slice → AreFew faces → IsSmallLattice levels
few_at m rows faces ranks slice top levels closed known as_many es et e few =
    let t : top ≡ rank_at ranks 0 = top_is ranks (length faces) top (some_face m rows faces closed) as_many et in
    few_levels (top + 1) faces ranks levels (subst (λ rs. levels ≡ levels_to top faces rs) es e) as_many
    (λ i l. let b = (top_rank m rows faces ranks closed known as_many).1 i l in omega arith) few

-- ---- a table in place of its sets
pub of_sets : (s : IndexSets) (m : ℕ) (sets : List (ℕ → Bool)) (ranks : List (List (List ℕ))) → m ≡ s.cols → sets ≡ sets_of s.rows → AreMeetsByRank m sets ranks → IsFaceLattice s ranks
of_sets s m sets ranks em es w = subst (λ rs. AreMeetsByRank s.cols rs ranks) es (subst (λ n. AreMeetsByRank n sets ranks) em w)

pub shown_of_sets : (s : IndexSets) (m : ℕ) (sets : List (ℕ → Bool)) (e : Evidence) → m ≡ s.cols → sets ≡ sets_of s.rows → ShowsTooMany m sets e → ShowsTooMany s.cols (sets_of s.rows) e
shown_of_sets s m sets e em es w = subst (λ rs. ShowsTooMany s.cols rs e) es (subst (λ n. ShowsTooMany n sets e) em w)
