-- The turns of the loops that find the neighbours of rows.
use Rattle.pm_vector.proofs.Lists.{All_among, Contains_among}
use Rattle.pm_bits.specs.Sets.{IsIntersection, has}
use Rattle.pm_bits.specs.Table.{OtherContains, Table, row_at}
use Rattle.pm_geom.specs.Graphs.{IsAscending, IsGraph}
use Rattle.pm_graph.specs.Edges.{AreRowNeighbours, IsRowEdge, NoThirdRow}
use Rattle.std.proofs.Common.{arith, inl, inr, refl, subst, sym, ◌∙◌}
use Rattle.std.proofs.lemmas.List.Elements.{Contains-append_left, Contains-push, Contains-push_cases}
use Rattle.std.proofs.lemmas.List.Quantifiers.{all_pairs_push}
use Rattle.std.specs.List.{All, Contains, slice_index_or}
use Rattle.std.specs.Prelude.{Bool, IsTrue, List, [], false, length, map, suc, true, zero, ℕ, ◌&&◌, ◌+◌, ◌++◌, ◌<◌, ◌∷◌, ◌≡◌, ◌⊎◌}

and_both : (a b : Bool) → IsTrue a → IsTrue b → IsTrue (a && b)
and_both true b h k = k
and_both false b h k = h

and_first : (a b : Bool) → IsTrue (a && b) → IsTrue a
and_first true b h = refl
and_first false b h = h

and_second : (a b : Bool) → IsTrue (a && b) → IsTrue b
and_second true b h = h
and_second false b h = absurd cc

-- by a row that has what both share
pub alone_from : (t : Table) (i k : ℕ) (one other s : List Bool) → one ≡ row_at t i → other ≡ row_at t k → IsIntersection s one other → ¬ (OtherContains t s i k) → NoThirdRow t i k
alone_from t i k one other s e1 e2 w n l ll ni nk h = n (
  l,
  ll,
  ni,
  nk,
  λ x q.
      let both : IsTrue (has one x && has other x) = sym (w x) ∙ q in
      h x (subst (λ r. IsTrue (has r x)) e1 (and_first (has one x) (has other x) both)) (subst (λ r. IsTrue (has r x)) e2 (and_second (has one x) (has other x) both)),
)

pub not_alone : (t : Table) (i k : ℕ) (one other s : List Bool) → one ≡ row_at t i → other ≡ row_at t k → IsIntersection s one other → OtherContains t s i k → ¬ (NoThirdRow t i k)
not_alone t i k one other s e1 e2 w o none = none o.0 o.1 o.2 o.3 (λ x a b. o.4 x (w x ∙ and_both (has one x) (has other x) (subst (λ r. IsTrue (has r x)) (sym e1) a) (subst (λ r. IsTrue (has r x)) (sym e2) b)))

pub none_yet : (t : Table) (i : ℕ) (list : List ℕ) → list ≡ [] → AreRowNeighbours t i 0 list
none_yet t i list e = subst (λ xs. AreRowNeighbours t i 0 xs) (sym e) (record { members = λ k. ((λ c. absurd (let l = c.1 in omega arith)), (λ w. absurd (let l = w.0 in omega arith))); ascending = λ a b d l m. absurd (omega arith) })

which : (j k : ℕ) → j < k + 1 → (j < k) ⊎ (j ≡ k)
which j k l = grind arith

pub passed_by : (t : Table) (i k : ℕ) (list : List ℕ) → (k ≡ i) ⊎ ¬ (NoThirdRow t i k) → AreRowNeighbours t i k list → AreRowNeighbours t i (k + 1) list
passed_by t i k list why a = record {
  members = λ j. (
    λ c. let w = (a.members j).0 c in (let l = w.0 in omega arith, w.1, w.2),
    λ w. elim (which j k w.0) [
      | inl l ↦ (a.members j).1 (l, w.1, w.2)
      | inr e ↦ elim why [ inl same ↦ absurd (w.1 (e ∙ same)) | inr apart ↦ absurd (apart (subst (λ q. NoThirdRow t i q) e w.2)) ]
    ],
  );
  ascending = a.ascending;
}

pub one_more : (t : Table) (i k : ℕ) (list new : List ℕ) → ¬ (k ≡ i) → NoThirdRow t i k → new ≡ list ++ k ∷ [] → AreRowNeighbours t i k list → AreRowNeighbours t i (k + 1) new
one_more t i k list new n h e a = subst (λ xs. AreRowNeighbours t i (k + 1) xs) (sym e) (record {
  members = λ j. (
    λ c. elim (Contains-push_cases list k j c) [
      | inl m ↦ (let w = (a.members j).0 m in (let l = w.0 in omega arith, w.1, w.2))
      | inr q ↦ (let s = q in omega arith, (λ x. n (q ∙ x)), subst (λ z. NoThirdRow t i z) q h)
    ],
    λ w. elim (which j k w.0) [
      | inl l ↦ Contains-append_left list (k ∷ []) j ((a.members j).1 (l, w.1, w.2))
      | inr q ↦ subst (λ x. Contains (list ++ k ∷ []) x) (sym q) (Contains-push list k)
    ],
  );
  ascending = all_pairs_push (λ x y. x < y) list k a.ascending (λ p d l. (λ (b : All (λ x. x < k) list). b p d l) (All_among (λ x. x < k) list (λ x m. let w = (a.members x).0 (Contains_among m) in w.0)));
})

-- ---- the lists of all rows
pub lists_more : {X : Type 0} (f : X → List ℕ) (t : Table) (n i : ℕ) (old new : List X) (x : X) → length old ≡ i → new ≡ old ++ x ∷ [] → AreRowNeighbours t i n (f x) → ((k : ℕ) → k < i → AreRowNeighbours t k n (slice_index_or (map f old) k [])) → (k : ℕ) → k < i + 1 → AreRowNeighbours t k n (slice_index_or (map f new) k [])
lists_more f t n i old new x en e a h k l = subst (λ xs. AreRowNeighbours t k n (slice_index_or (map f xs) k [])) (sym e) (elim (which k i l) [
  | inl lk ↦ subst (λ y. AreRowNeighbours t k n y) (sym (at_first f old x k (omega arith))) (h k lk)
  | inr q ↦ subst (λ y. AreRowNeighbours t y n (slice_index_or (map f (old ++ x ∷ [])) y [])) (sym q) (subst (λ y. AreRowNeighbours t i n y) (sym (at_last f old x i en)) a)
])
  where
    at_first : {X : Type 0} (f : X → List ℕ) (xs : List X) (x : X) (k : ℕ) → k < length xs → slice_index_or (map f (xs ++ x ∷ [])) k [] ≡ slice_index_or (map f xs) k []
    at_first f [] x k l = absurd (omega arith)
    at_first f (y ∷ xs) x zero l = refl
    at_first f (y ∷ xs) x (suc k) l = at_first f xs x k (omega arith)

    at_last : {X : Type 0} (f : X → List ℕ) (xs : List X) (x : X) (k : ℕ) → length xs ≡ k → slice_index_or (map f (xs ++ x ∷ [])) k [] ≡ f x
    at_last f [] x zero e = refl
    at_last f [] x (suc k) e = absurd (omega arith)
    at_last f (y ∷ xs) x zero e = absurd (omega arith)
    at_last f (y ∷ xs) x (suc k) e = at_last f xs x k (omega arith)

at_default : (rows : List (List ℕ)) (k : ℕ) (d : List ℕ) → k < length rows → slice_index_or rows k d ≡ slice_index_or rows k []
at_default [] k d l = absurd (omega arith)
at_default (r ∷ rows) zero d l = refl
at_default (r ∷ rows) (suc k) d l = at_default rows k d (omega arith)

ascends : (t : Table) (n : ℕ) (rows : List (List ℕ)) → ((k : ℕ) → k < n → AreRowNeighbours t k n (slice_index_or rows k [])) → (k : ℕ) → k < n → IsAscending n (slice_index_or rows k [])
ascends t n rows h k l = (All_among (λ j. j < n) (slice_index_or rows k []) (λ j i. (((h k l).members j).0 (Contains_among i)).0), (h k l).ascending)

pub graph_from_lists : (t : Table) (n : ℕ) (rows : List (List ℕ)) → n ≡ length t.rows → length rows ≡ n → ((k : ℕ) → k < n → AreRowNeighbours t k n (slice_index_or rows k [])) → IsGraph n (IsRowEdge t) rows
graph_from_lists t n rows en er h = record {
  nodes = er;
  ascending = λ k d l. subst (λ xs. IsAscending n xs) (sym (at_default rows k d l)) (ascends t n rows h k (omega arith));
  edges = λ i j l. (
    λ c. (let w = ((h i l).members j).0 c in record { first = omega arith; second = (let q = w.0 in omega arith); apart = λ e. w.1 (sym e); alone = w.2 }),
    λ e. ((h i l).members j).1 ((let q = e.second in omega arith), (λ q. e.apart (sym q)), e.alone),
  );
}
