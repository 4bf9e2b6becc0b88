-- What the code of rows from sets keeps: pivot columns found in a basis, the lists that it eliminates, its refusals.
use Rattle.pm_vector.proofs.Filters.{among_map, filter_among, map_among}
use Rattle.pm_vector.proofs.Lists.{Among, Contains_among, all_append, all_from, among_Contains, here, there}
use Rattle.pm_vector.proofs.RowLaws.{length-opposite}
use Rattle.pm_vector.specs.Rows.{HasCols, Row, entry}
use Rattle.pm_vector.proofs.Spans.{at_place}
use Rattle.pm_vector.specs.Bases.{IsEchelonBasis, column, row_at}
use Rattle.pm_elim.proofs.ExtendedLaws.{length-unit}
use Rattle.pm_elim.proofs.PrefixLaws.{at_most_columns}
use Rattle.pm_elim.specs.Refusals.{IfWide}
use Rattle.pm_vector.specs.Evidence.{IsEvidence, unit}
use Rattle.pm_elim.specs.Lost.{IsLostOnExtended}
use Rattle.pm_vector.specs.NullSpaces.{IsNullBasis}
use Rattle.pm_elim.specs.declared.evidence.ElimFail.{ElimFail}
use Rattle.pm_elim.specs.declared.evidence.ElimFail.TheVariants as elimination
use Rattle.pm_geom.proofs.Polar.{cols_at}
use Rattle.pm_geom.specs.declared.evidence.Evidence.TheVariants.{E1, E4}
use Rattle.pm_incidence.proofs.Determined.{AreFound, found_more}
use Rattle.pm_incidence.specs.Fails.{thin_fail_of}
use Rattle.pm_incidence.specs.FromSets.{IsDetermining, IsSetsFail, determining, rows_at}
use Rattle.pm_incidence.specs.Lost.{IfThinWide}
use Rattle.pm_incidence.specs.SetRows.{IsFound, IsTurned, IsWideWith}
use Rattle.pm_incidence.specs.declared.fails.ThinFail.{ThinFail}
use Rattle.pm_incidence.specs.declared.fails.ThinFail.TheVariants.{Many, Memory, Wide}
use Rattle.std.proofs.Common.{ap, arith, get_or, inl, inr, refl, subst, sym, true, ◌∙◌}
use Rattle.std.proofs.lemmas.Bool.{cases_lt}
use Rattle.std.proofs.lemmas.Int.{ints}
use Rattle.std.proofs.lemmas.List.{get_or_default, get_or_past, length-append, length-map, map-append, take_all, take_more}
use Rattle.std.proofs.lemmas.List.Elements.{Contains-get_or}
use Rattle.std.proofs.lemmas.List.Sums.{count_by-le-length, length-filter}
use Rattle.std.specs.List.{Contains}
use Rattle.std.specs.Prelude.{Bool, List, [], filter, length, map, nat_lt, take, ℕ, ◌++◌, ◌+◌, ◌<◌, ◌≤◌, ◌∷◌, ◌≡◌, ◌^◌}
use lib.IntN.{pos}

-- ---- the pivot column of a row of an echelon basis
leading_is : (n : ℕ) (K : List Row) (P : List ℕ) → IsEchelonBasis n K P → (i : ℕ) → i < length K → (c : ℕ) → ((d : ℕ) → d < c → entry (row_at K i) d ≡ pos 0) → (c < length (row_at K i) → ¬ (entry (row_at K i) c ≡ pos 0)) → c ≡ column P i
leading_is n K P e i l c before leads =
    let up = e.positive i l in
    elim (cases_lt (column P i) c) [
      | inl less ↦ absurd (let z = before (column P i) less in omega (arith, ints))
      | inr more ↦ elim (cases_lt c (column P i)) [
        | inl less ↦ absurd (elim (cases_lt (column P i) (length (row_at K i))) [
          | inl within ↦ leads (omega arith) (e.before i c l less)
          | inr past ↦ (let z : entry (row_at K i) (column P i) ≡ pos 0 = get_or_past (row_at K i) (column P i) (pos 0) past in omega (arith, ints))
        ])
        | inr same ↦ omega arith
      ]
    ]

pub pivots_more : (n : ℕ) (K : List Row) (P : List ℕ) → IsEchelonBasis n K P → (i : ℕ) → i < length K → (x : Row) → x ≡ get_or K i x → (c : ℕ) → ((d : ℕ) → d < c → entry x d ≡ pos 0) → (c < length x → ¬ (entry x c ≡ pos 0)) → (found more : List ℕ) → found ≡ take i P → more ≡ found ++ c ∷ [] → more ≡ take (i + 1) P
pivots_more n K P e i l x is c before leads found more h m =
    let same : x ≡ row_at K i = is ∙ get_or_default K i x [] l in
    let at : c ≡ column P i = leading_is n K P e i l c (subst (λ (y : Row). (d : ℕ) → d < c → entry y d ≡ pos 0) same before) (subst (λ (y : Row). c < length y → ¬ (entry y c ≡ pos 0)) same leads) in
    rw (m, h, at, take_more P i 0 (let a = e.as_many in omega arith)) refl

pub pivots_all : (n : ℕ) (K : List Row) (P : List ℕ) → IsEchelonBasis n K P → (i : ℕ) → length K ≤ i → (found : List ℕ) → found ≡ take i P → found ≡ P
pivots_all n K P e i l found h = h ∙ take_all i P (let a = e.as_many in omega arith)

pub pivots_of : (n : ℕ) (X Y K : List Row) (P : List ℕ) → X ≡ Y → (Q : List ℕ) × IsNullBasis n X K Q → ((m : ℕ) (Q : List ℕ) → IsEchelonBasis m K Q → P ≡ Q) → (lines : List Row) × IsNullBasis n Y lines P
pivots_of n X Y K P is (Q, b) f = (K, rw (← is, f n Q b.echelon) b)

-- ---- the rows that are eliminated
rows_at_cols : (n : ℕ) (A : List Row) (set : List ℕ) → HasCols n A → HasCols n (rows_at A set)
rows_at_cols n A set h = all_from (λ (x : Row). length x ≡ n) (rows_at A set) (λ x i.
    let (k, j, is) = map_among (row_at A) (filter (λ k. nat_lt k (length A)) set) i in
    let l = below (length A) k (filter_among (λ k. nat_lt k (length A)) set j).1 in
    rw is (cols_at (at_place A k l) h))
  where
    below : (m k : ℕ) → nat_lt k m ≡ true → k < m
    below m k t = grind arith

unit_cols : (n : ℕ) (P : List ℕ) → HasCols n (map (unit n) P)
unit_cols n [] = tt
unit_cols n (c ∷ P) = (length-unit n c, unit_cols n P)

pub joined_cols : (n : ℕ) (E A : List Row) → HasCols n E → HasCols n A → HasCols n (E ++ A)
joined_cols n E A hE hA = all_append (λ (x : Row). length x ≡ n) E A hE hA

pub determining_cols : (n : ℕ) (E A : List Row) (set P : List ℕ) → HasCols n E → HasCols n A → HasCols n (determining n E A set P)
determining_cols n E A set P hE hA = joined_cols n (E ++ rows_at A set) (map (unit n) P) (joined_cols n E (rows_at A set) hE (rows_at_cols n A set hA)) (unit_cols n P)

kept_few : {X : Type 0} (p : X → Bool) (xs : List X) → length (filter p xs) ≤ length xs
kept_few p xs = let e = length-filter p xs in let l = count_by-le-length p xs in omega arith

pub determining_few : (n : ℕ) (E A : List Row) (set P : List ℕ) → length E < 2 ^ 30 → length set < 2 ^ 30 → length P < 2 ^ 30 → length (determining n E A set P) < 2 ^ 32
determining_few n E A set P e s p =
    let a = length-append (E ++ rows_at A set) (map (unit n) P) in
    let b = length-append E (rows_at A set) in
    let c = length-map (filter (λ k. nat_lt k (length A)) set) (row_at A) in
    let d = kept_few (λ k. nat_lt k (length A)) set in
    let f = length-map P (unit n) in
    omega arith

pub pivots_few : (n : ℕ) (X K : List Row) (P : List ℕ) → IsNullBasis n X K P → n < 2 ^ 30 → length P < 2 ^ 30
pivots_few n X K P b few = let l = at_most_columns n K P b.echelon in let a = b.echelon.as_many in omega arith

-- ---- one set on
pub sets_next : {X : Type 0} (items : X → List ℕ) (n : ℕ) (E A : List Row) (P : List ℕ) (S : List X) (i : ℕ) (x : X) → i < length S → x ≡ get_or S i x → (U more : List Row) (u : Row) → HasCols n U × AreFound n E A P (map items (take i S)) U → more ≡ U ++ u ∷ [] → length u ≡ n → IsFound n E A P (items x) u
    → HasCols n more × AreFound n E A P (map items (take (i + 1) S)) more
sets_next items n E A P S i x within is U more u h m l f =
    let sets : map items (take (i + 1) S) ≡ map items (take i S) ++ items x ∷ [] = ap (map items) (take_more S i x within ∙ ap (λ y. take i S ++ y ∷ []) (sym is)) ∙ map-append items (take i S) (x ∷ []) in
    rw (m, sets) (joined_cols n U (u ∷ []) h.0 (l, tt), found_more n E A P (map items (take i S)) U (items x) u h.1 f)

pub listed_set : {X : Type 0} (items : X → List ℕ) (S : List X) (i : ℕ) (x : X) → i < length S → x ≡ get_or S i x → Contains (map items S) (items x)
listed_set items S i x within is = Contains_among (among_map items (among_Contains S (subst (Contains S) (sym is) (Contains-get_or S i x within))))

-- ---- refusals
pub first_fail : (n : ℕ) (E A : List Row) (sets : List (List ℕ)) (X : List Row) → X ≡ E ++ A → (f : ElimFail) → IfWide f (λ e. IsEvidence n X e) → IsSetsFail n E A sets (thin_fail_of f)
first_fail n E A sets X is (elimination.Wide e) h = record { rows = X; listed = inl is; shown = h }
first_fail n E A sets X is elimination.Memory h = tt

pub first_lost : (n : ℕ) (X Y : List Row) → X ≡ Y → (f : ElimFail) → IfWide f (λ _. IsLostOnExtended n X) → IfThinWide (thin_fail_of f) (IsLostOnExtended n Y)
first_lost n X Y is (elimination.Wide e) h = rw (← is) h
first_lost n X Y is elimination.Memory h = tt

module _ (n : ℕ) (E A : List Row) (set P : List ℕ) (lines : List Row) (b : IsNullBasis n (E ++ A) lines P) where
  pub set_fail : (X : List Row) → X ≡ determining n E A set P → (f : ElimFail) → IfWide f (λ e. IsEvidence n X e) → IsSetsFail n E A (set ∷ []) (thin_fail_of f)
  set_fail X is (elimination.Wide e) h = record { rows = X; listed = inr (record { lines = lines; pivots = P; lineality = b; set = set; listed = (0, omega arith, refl); rows = is }); shown = h }
  set_fail X is elimination.Memory h = tt

  pub sign_fail : (X : List Row) → X ≡ determining n E A set P → (x : Row) (Q : List ℕ) → IsNullBasis n X (x ∷ []) Q → (f : ThinFail) → IsWideWith x A f → IsSetsFail n E A (set ∷ []) f
  sign_fail X is x Q g (Wide (E4 first second)) h = record {
    rows = X;
    determining = record { lines = lines; pivots = P; lineality = b; set = set; listed = (0, omega arith, refl); rows = is };
    column = Q;
    found_alone = subst (λ (y : Row). IsNullBasis n X (y ∷ []) Q) (sym h.0) g;
    listed = h.1;
    wide = h.2;
  }
  sign_fail X is x Q g (Wide e) h = absurd h
  sign_fail X is x Q g (Many e) h = absurd h
  sign_fail X is x Q g Memory h = tt

turned_length : (n : ℕ) (A : List Row) (x u : Row) → length x ≡ n → IsTurned A x u → length u ≡ n
turned_length n A x u l (inl t) = rw t.1 (length-opposite x ∙ l)
turned_length n A x u l (inr t) = rw t.1 l

-- the only row of a null basis has n entries, and so has the turned one
pub only_length : (n : ℕ) (A X N : List Row) (x : Row) → (P : List ℕ) × IsNullBasis n X N P → N ≡ x ∷ [] → (u : Row) → IsTurned A x u → length u ≡ n
only_length n A X N x (P, b) is u t = turned_length n A x u (let h = subst (λ (Z : List Row). HasCols n Z) is b.echelon.cols in h.0) t

one_of : {X : Type 0} {x y : X} → Among y (x ∷ []) → y ≡ x
one_of here = refl
one_of (there i) = elim i [ ]

module _ (n : ℕ) (E A : List Row) (sets : List (List ℕ)) (set : List ℕ) (c : Contains sets set) where
  determining_more : (X : List Row) → IsDetermining n E A (set ∷ []) X → IsDetermining n E A sets X
  determining_more X d = record {
    lines = d.lines;
    pivots = d.pivots;
    lineality = d.lineality;
    set = d.set;
    listed = subst (Contains sets) (sym (one_of (among_Contains (set ∷ []) d.listed))) c;
    rows = d.rows;
  }

  pub fail_more : (f : ThinFail) → IsSetsFail n E A (set ∷ []) f → IsSetsFail n E A sets f
  fail_more (Wide (E1 step)) h = record { rows = h.rows; listed = elim h.listed [ inl e ↦ inl e | inr d ↦ inr (determining_more h.rows d) ]; shown = h.shown }
  fail_more (Wide (E4 first second)) h = record { rows = h.rows; determining = determining_more h.rows h.determining; column = h.column; found_alone = h.found_alone; listed = h.listed; wide = h.wide }
  fail_more (Wide e) h = absurd h
  fail_more (Many e) h = absurd h
  fail_more Memory h = tt
