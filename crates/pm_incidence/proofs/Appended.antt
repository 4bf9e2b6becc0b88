-- Lists that grow by one element.
use Rattle.std.specs.Prelude.{ℕ, suc, ◌+◌, ◌≡◌, ◌<◌, ◌≤◌, List, [], ◌∷◌, ◌++◌, get_or, length}
use Rattle.std.specs.List.{All, AllPairs, Contains}
use Rattle.std.proofs.Common.{ap, arith, inl, inr, subst, sym, ◌∙◌}
use Rattle.std.proofs.Math.Seq.{get_or-append_seam}
use Rattle.std.proofs.lemmas.List.{get_or_append_left, length-append}
use Rattle.pm_vector.proofs.Lists.{AllPairs_cons, All_among, Among, Contains_among, among_All, among_Contains, among_append, among_append_left, among_append_right, here, there}
use native.Mathlib.Decide.{ℕ_discrete}

pub length_more : {X : Type 0} (xs more : List X) (x : X) (k : ℕ) → length xs ≡ k → more ≡ xs ++ x ∷ [] → length more ≡ k + 1
length_more xs more x k e m = ap length m ∙ length-append xs (x ∷ []) ∙ omega arith

-- what holds at each place holds with one element more
pub appended : {X : Type 0} (P : ℕ → X → Type 0) (d : X) (xs more : List X) (x : X) (k : ℕ) → length xs ≡ k → more ≡ xs ++ x ∷ [] → ((i : ℕ) → i < k → P i (get_or xs i d)) → P k x → (i : ℕ) → i < k + 1 → P i (get_or more i d)
appended P d xs more x k e m f p i l = elim (ℕ_discrete i k) [
  | yes q ↦ rw (m, q) (subst (λ (j : ℕ). P k (get_or (xs ++ x ∷ []) j d)) e (rw (get_or-append_seam xs x [] d) p))
  | no ne ↦
      let li : i < k = omega arith in
      rw m (rw (get_or_append_left xs (x ∷ []) d i (let q = e in omega arith)) (f i li))
]

each_at : {X : Type 0} (Q : X → Type 0) (d : X) (xs : List X) → ((k : ℕ) → k < length xs → Q (get_or xs k d)) → {w : X} → Among w xs → Q w
each_at Q d [] g i = elim i [ ]
each_at Q d (v ∷ vs) g here = g 0 (omega arith)
each_at Q d (v ∷ vs) g (there i) = each_at Q d vs (λ k l. g (suc k) (omega arith)) i

first_with : {X : Type 0} (R : X → X → Type 0) (y : X) (xs : List X) → AllPairs R (y ∷ xs) → {w : X} → Among w xs → R y w
first_with R y xs h i = each_at (R y) y xs (λ k l. h 0 (suc k) y (omega arith) (omega arith)) i

first_with_last : {X : Type 0} (R : X → X → Type 0) (y x : X) → R y x → (w : X) → Among w (x ∷ []) → R y w
first_with_last R y x r w here = r
first_with_last R y x r w (there i) = elim i [ ]

pub pairs_append : {X : Type 0} (R : X → X → Type 0) (xs : List X) (x : X) → ((y : X) → Among y xs → R y x) → AllPairs R xs → AllPairs R (xs ++ x ∷ [])
pairs_append R [] x f h = AllPairs_cons R x [] (λ y i. elim i [ ]) h
pairs_append R (y ∷ xs) x f h = AllPairs_cons R y (xs ++ x ∷ [])
    (λ w i. elim (among_append xs (x ∷ []) i) [ inl j ↦ first_with R y xs h j | inr j ↦ first_with_last R y x (f y here) w j ])
    (pairs_append R xs x (λ w i. f w (there i)) (λ i j d l m. h (suc i) (suc j) d (omega arith) (omega arith)))

-- the places below a bound at which K holds, with one place more
pub record AreBelow (K : ℕ → Type 0) (i : ℕ) (xs : List ℕ) : Type 0 where
  pub each : All (λ (p : ℕ). (p < i) × K p) xs
  pub every : (p : ℕ) → p < i → K p → Contains xs p
  pub ascending : AllPairs (λ (p q : ℕ). p < q) xs
  pub few : length xs ≤ i

weaker : (K : ℕ → Type 0) (i : ℕ) (xs : List ℕ) → All (λ (p : ℕ). (p < i) × K p) xs → All (λ (p : ℕ). (p < i + 1) × K p) xs
weaker K i xs h = All_among (λ (p : ℕ). (p < i + 1) × K p) xs (λ p j. let q = among_All (λ (p : ℕ). (p < i) × K p) j h in ((let l = q.0 in omega arith), q.1))

pub below_more : (K : ℕ → Type 0) (i : ℕ) (xs more : List ℕ) → more ≡ xs ++ i ∷ [] → AreBelow K i xs → K i → AreBelow K (i + 1) more
below_more K i xs more m h k = record {
  each = rw m (All_among (λ (p : ℕ). (p < i + 1) × K p) (xs ++ i ∷ []) (λ p j. elim (among_append xs (i ∷ []) j) [ inl a ↦ among_All (λ (p : ℕ). (p < i + 1) × K p) a (weaker K i xs h.each) | inr a ↦ single a ]));
  every = λ p l kp. rw m (elim (ℕ_discrete p i) [
    | yes e ↦ Contains_among (subst (λ (q : ℕ). Among q (xs ++ i ∷ [])) (sym e) (among_append_right xs here))
    | no ne ↦ Contains_among (among_append_left (i ∷ []) (among_Contains xs (h.every p (omega arith) kp)))
  ]);
  ascending = rw m (pairs_append (λ (p q : ℕ). p < q) xs i (λ y j. (among_All (λ (p : ℕ). (p < i) × K p) j h.each).0) h.ascending);
  few = rw (m, length-append xs (i ∷ [])) (let f = h.few in omega arith);
}
  where
    single : {p : ℕ} → Among p (i ∷ []) → (p < i + 1) × K p
    single here = (omega arith, k)
    single (there j) = elim j [ ]

pub below_skip : (K : ℕ → Type 0) (i : ℕ) (xs : List ℕ) → AreBelow K i xs → ¬ (K i) → AreBelow K (i + 1) xs
below_skip K i xs h no' = record {
  each = weaker K i xs h.each;
  every = λ p l kp. elim (ℕ_discrete p i) [
    | yes e ↦ absurd (no' (subst K e kp))
    | no ne ↦ h.every p (omega arith) kp
  ];
  ascending = h.ascending;
  few = let f = h.few in omega arith;
}

pub below_none : (K : ℕ → Type 0) → AreBelow K 0 []
below_none K = record { each = λ k d l. absurd (omega arith); every = λ p l k. absurd (omega arith); ascending = λ i j d l m. absurd (omega arith); few = omega arith }

-- the same list, below as many as there are
pub below_all : (K : ℕ → Type 0) (i n : ℕ) (xs : List ℕ) → n ≤ i → i ≤ n → AreBelow K i xs → All (λ (p : ℕ). (p < n) × K p) xs × ((p : ℕ) → p < n → K p → Contains xs p)
below_all K i n xs l m h = (
  All_among (λ (p : ℕ). (p < n) × K p) xs (λ p j. let q = among_All (λ (p : ℕ). (p < i) × K p) j h.each in ((let w = q.0 in omega arith), q.1)),
  λ p w k. h.every p (omega arith) k,
)
