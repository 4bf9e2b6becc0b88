-- Heights: for each size how many smaller sizes are seen.
use Rattle.pm_bits.specs.Sets.{has, member_count}
use Rattle.pm_geom.specs.Meets.{HasMeetRank}
use Rattle.pm_lattice.specs.Closures.{bit_sets}
use Rattle.pm_lattice.specs.Ranks.{AreHeights, AreRanksFrom, face_at, is_seen, rank_at}
use Rattle.pm_lattice.proofs.Closing.{member_count_le}
use Rattle.pm_lattice.proofs.Places.{face_is}
use Rattle.std.proofs.Common.{ap, arith, get_or, inl, inr, refl, subst, sym, ◌∙◌}
use Rattle.std.proofs.lemmas.Bool.{cases_eq, cases_lt}
use Rattle.std.proofs.lemmas.List.Elements.{All-contains}
use Rattle.std.proofs.lemmas.List.{get_or-set_other, get_or-set_same, get_or_default, get_or_past}
use Rattle.std.specs.List.{All}
use Rattle.std.specs.Prelude.{Bool, IsTrue, List, [], false, length, slice_set, suc, true, zero, ℕ, ◌+◌, ◌++◌, ◌<◌, ◌≤◌, ◌∷◌, ◌≡◌, ◌⊎◌}

pub record Rising (seen : List Bool) (heights : List ℕ) (height n : ℕ) : Type 0 where
  pub low : height ≤ n
  pub small : (s : ℕ) → s < n → rank_at heights s ≤ s
  pub under : (s : ℕ) → s < n → IsTrue (is_seen seen s) → rank_at heights s < height
  pub over : (s : ℕ) → s < n → rank_at heights s ≤ height
  pub rise : (s t : ℕ) → s < t → t < n → IsTrue (is_seen seen s) → rank_at heights s < rank_at heights t

pub at_old : (xs : List ℕ) (h s : ℕ) → s < length xs → rank_at (xs ++ h ∷ []) s ≡ rank_at xs s
at_old [] h s l = absurd (omega arith)
at_old (x ∷ xs) h zero l = refl
at_old (x ∷ xs) h (suc s) l = at_old xs h s (omega arith)

pub at_new : (xs : List ℕ) (h : ℕ) → rank_at (xs ++ h ∷ []) (length xs) ≡ h
at_new [] h = refl
at_new (x ∷ xs) h = at_new xs h

module _ (seen : List Bool) (old : List ℕ) (height n : ℕ) (len : length old ≡ n) (r : Rising seen old height n) where
  at_n : rank_at (old ++ height ∷ []) n ≡ height
  at_n = subst (λ k. rank_at (old ++ height ∷ []) k ≡ height) len (at_new old height)

  before_n : (s : ℕ) → s < n → rank_at (old ++ height ∷ []) s ≡ rank_at old s
  before_n s l = at_old old height s (omega arith)

  cases : (s : ℕ) → s < n + 1 → (s < n) ⊎ (s ≡ n)
  cases s l = grind arith

  rising_more : (next : ℕ) → height ≤ next → next ≤ n + 1 → (IsTrue (is_seen seen n) → height < next) → Rising seen (old ++ height ∷ []) next (n + 1)
  rising_more next l u s = record {
    low = u;
    small = λ i li. elim (cases i li) [
      | inl b ↦ (let e = before_n i b in let q = r.small i b in omega arith)
      | inr b ↦ subst (λ k. rank_at (old ++ height ∷ []) k ≤ k) (sym b) (let e = at_n in let q = r.low in omega arith)
    ];
    under = λ i li t. elim (cases i li) [
      | inl b ↦ (let e = before_n i b in let q = r.under i b t in omega arith)
      | inr b ↦ subst (λ k. rank_at (old ++ height ∷ []) k < next) (sym b) (let e = at_n in let q = s (subst (λ k. IsTrue (is_seen seen k)) b t) in omega arith)
    ];
    over = λ i li. elim (cases i li) [
      | inl b ↦ (let e = before_n i b in let q = r.over i b in omega arith)
      | inr b ↦ subst (λ k. rank_at (old ++ height ∷ []) k ≤ next) (sym b) (let e = at_n in omega arith)
    ];
    rise = λ i j lij lj t. elim (cases j lj) [
      | inl b ↦ (let e = before_n i (omega arith) in let f = before_n j b in let q = r.rise i j lij b t in omega arith)
      | inr b ↦ (
          let li : i < n = omega arith in
          subst (λ k. rank_at (old ++ height ∷ []) i < rank_at (old ++ height ∷ []) k) (sym b) (let e = before_n i li in let f = at_n in let q = r.under i li t in omega arith))
    ];
  }

pub rising_start : (seen : List Bool) (heights : List ℕ) → Rising seen heights 0 0
rising_start seen heights = record { low = omega arith; small = λ s l. absurd (omega arith); under = λ s l t. absurd (omega arith); over = λ s l. absurd (omega arith); rise = λ s t l m i. absurd (omega arith) }

pub rising_seen : (seen : List Bool) (old new : List ℕ) (height next n : ℕ) → length old ≡ n → new ≡ old ++ height ∷ [] → next ≡ height + 1 → Rising seen old height n → Rising seen new next (n + 1)
rising_seen seen old new height next n len e en r = subst (λ hs. Rising seen hs next (n + 1)) (sym e) (rising_more seen old height n len r next (omega arith) (let q = r.low in omega arith) (λ t. omega arith))

pub rising_unseen : (seen : List Bool) (old new : List ℕ) (height next n : ℕ) (s : Bool) → length old ≡ n → new ≡ old ++ height ∷ [] → next ≡ height → s ≡ is_seen seen n → s ≡ false → Rising seen old height n → Rising seen new next (n + 1)
rising_unseen seen old new height next n s len e en es f r = subst (λ hs. Rising seen hs next (n + 1)) (sym e) (rising_more seen old height n len r next (omega arith) (let q = r.low in omega arith) (λ t. absurd (let x : false ≡ true = sym f ∙ es ∙ t in cc)))

-- ---- sizes
pub seen_more : (faces : List (List Bool)) (old new : List Bool) (n c : ℕ) (f : List Bool) → n < length faces → f ≡ get_or faces n f → c ≡ member_count f → c < length old → new ≡ slice_set old c true → ((k : ℕ) → k < n → IsTrue (is_seen old (member_count (face_at faces k)))) → (k : ℕ) → k < n + 1 → IsTrue (is_seen new (member_count (face_at faces k)))
seen_more faces old new n c f ln ef ec lc en h k l = subst (λ xs. IsTrue (is_seen xs (member_count (face_at faces k)))) (sym en) (elim (which k l) [
  | inl b ↦ kept (member_count (face_at faces k)) (h k b)
  | inr b ↦ subst (λ s. IsTrue (is_seen (slice_set old c true) s)) (ec ∙ ap member_count (sym (face_is faces n f ln ef) ∙ ap (face_at faces) (sym b))) (get_or-set_same old c true false lc)
])
  where
    which : (k : ℕ) → k < n + 1 → (k < n) ⊎ (k ≡ n)
    which k l = grind arith

    kept : (s : ℕ) → IsTrue (is_seen old s) → IsTrue (is_seen (slice_set old c true) s)
    kept s t = elim (same s) [
      | inl e ↦ subst (λ q. IsTrue (is_seen (slice_set old c true) q)) (sym e) (get_or-set_same old c true false lc)
      | inr n ↦ get_or-set_other old c s true false n ∙ t
    ]
      where
        same : (s : ℕ) → (s ≡ c) ⊎ (s ≡ c → ⊥)
        same s = cases_eq s c

pub all_seen : (faces : List (List Bool)) (seen : List Bool) (n : ℕ) → length faces ≤ n → ((k : ℕ) → k < n → IsTrue (is_seen seen (member_count (face_at faces k)))) → All (λ f. IsTrue (is_seen seen (member_count f))) faces
all_seen faces seen n l h k d lk = subst (λ f. IsTrue (is_seen seen (member_count f))) (get_or_default faces k [] d lk) (h k (omega arith))

pub heights_high : (m : ℕ) (faces : List (List Bool)) (seen : List Bool) (heights : List ℕ) → length seen ≡ m + 1 → length heights ≡ length seen → All (λ f. length f ≡ m) faces → All (λ f. IsTrue (is_seen seen (member_count f))) faces → ((s : ℕ) → s < length seen → rank_at heights s ≤ s)
    → ((s t : ℕ) → s < t → t < length seen → IsTrue (is_seen seen s) → rank_at heights s < rank_at heights t) → AreHeights m faces heights
heights_high m faces seen heights es eh lengths known small rise = record {
  len = eh ∙ es;
  small = λ s. elim (cases_lt s (length seen)) [
    | inl l ↦ (let q = small s l in omega arith)
    | inr l ↦ (let q : rank_at heights s ≡ 0 = get_or_past heights s 0 (omega arith) in omega arith)
  ];
  rise = λ f g cf cg l. rise (member_count f) (member_count g) l (let b = member_count_le g in let e = All-contains (λ x. length x ≡ m) faces g lengths cg in omega arith) (All-contains (λ x. IsTrue (is_seen seen (member_count x))) faces f known cf);
}

-- ---- the ranks from one place on
pub ranks_more : (m : ℕ) (rows faces : List (List Bool)) (old new : List ℕ) (i j r : ℕ) → i ≡ j + 1 → j < length old → new ≡ slice_set old j r → AreRanksFrom m rows faces old i → HasMeetRank m (bit_sets rows) (has (face_at faces j)) r → AreRanksFrom m rows faces new j
ranks_more m rows faces old new i j r e l en h w k lk lf = subst (λ xs. HasMeetRank m (bit_sets rows) (has (face_at faces k)) (rank_at xs k)) (sym en) (elim (which k lk) [
  | inl b ↦ subst (λ q. HasMeetRank m (bit_sets rows) (has (face_at faces q)) (rank_at (slice_set old j r) q)) b (subst (λ x. HasMeetRank m (bit_sets rows) (has (face_at faces j)) x) (sym (get_or-set_same old j r 0 l)) w)
  | inr b ↦ subst (λ x. HasMeetRank m (bit_sets rows) (has (face_at faces k)) x) (sym (get_or-set_other old j k r 0 (λ q. let s = q in omega arith))) (h k (omega arith) lf)
])
  where
    which : (k : ℕ) → j ≤ k → (j ≡ k) ⊎ (j < k)
    which k l = grind arith

pub len_item : (faces : List (List Bool)) (m n : ℕ) (f : List Bool) → n < length faces → f ≡ get_or faces n f → All (λ g. length g ≡ m) faces → length f ≡ m
len_item faces m n f l e h = subst (λ g. length g ≡ m) (sym e) (h n f l)

-- the same through the slices that were handed on
pub heights_high_at : (m n : ℕ) (faces : List (List Bool)) (seen seen' : List Bool) (heights heights' : List ℕ) → n ≡ m → seen' ≡ seen → heights' ≡ heights → length seen ≡ n + 1 → length heights ≡ length seen' → All (λ f. length f ≡ m) faces → All (λ f. IsTrue (is_seen seen (member_count f))) faces
    → ((s : ℕ) → s < length seen' → rank_at heights s ≤ s) → ((s t : ℕ) → s < t → t < length seen' → IsTrue (is_seen seen' s) → rank_at heights s < rank_at heights t) → AreHeights m faces heights'
heights_high_at m n faces seen seen' heights heights' en es eh ls lh lengths known small rise =
    subst (λ hs. AreHeights m faces hs) (sym eh) (heights_high m faces seen' heights (ap length es ∙ ls ∙ ap (λ k. k + 1) en) lh lengths (subst (λ xs. All (λ f. IsTrue (is_seen xs (member_count f))) faces) (sym es) known) small rise)
