-- Sets turned: for each column the places of the sets that have it. The sets of the rows of V are found from those of the rows of F.
use Rattle.pm_vector.proofs.Filters.{among_map, any_from, any_to, map_among}
use Rattle.pm_vector.proofs.Lists.{All_among, Among, among_All, Contains_among, among_Contains, here, there}
use Rattle.pm_vector.proofs.RowLaws.{dot_comm}
use Rattle.pm_vector.specs.Rows.{Row, dot}
use Rattle.pm_geom.specs.Faces.{ray}
use Rattle.pm_incidence.specs.FromSets.{holders_from, turned}
use Rattle.pm_types.specs.Right.{IsIncidence}
use Rattle.pm_types.specs.Values.{IndexSets}
use Rattle.std.proofs.Common.{add-one, add-zero, ap, append_assoc, arith, cond, drop, drop-cons, false, get_or, inl, inr, refl, subst, sym, true, ◌∙◌}
use Rattle.std.proofs.lemmas.Bool.{cases_Bool, eq-eqb, eqb-true}
use Rattle.std.proofs.lemmas.List.{length-map, map-append}
use Rattle.std.proofs.lemmas.List.FromFn.{length-map-range_with_len, map-range_with_len_more}
use Rattle.std.specs.List.{All, Contains, list_any, range_with_len}
use Rattle.std.specs.Prelude.{Bool, List, [], length, map, nat_eq, suc, zero, ℕ, ◌++◌, ◌+◌, ◌<◌, ◌≤◌, ◌∷◌, ◌≡◌, ◌↔◌, ◌⊎◌, ◌^◌}
use lib.IntN.{pos}

-- ---- a set has an index exactly where the test finds it
test_to : (set : List ℕ) (j : ℕ) → list_any (λ k. nat_eq k j) set ≡ true → Contains set j
test_to set j t = let (x, i, e) = any_to (λ k. nat_eq k j) set t in subst (Contains set) (eqb-true x j e) (Contains_among i)

test_from : (set : List ℕ) (j : ℕ) → Contains set j → list_any (λ k. nat_eq k j) set ≡ true
test_from set j c = any_from (λ k. nat_eq k j) (among_Contains set c) (eq-eqb j j refl)

-- ---- the places of the sets that have an index are those of the rows that vanish
abbrev IsHolder : ℕ → Row → List Row → ℕ → Type 0
IsHolder i v F x = (k : ℕ) × (x ≡ i + k) × (k < length F) × (dot v (ray F k) ≡ pos 0)

first_or_later : {x y : ℕ} {xs : List ℕ} → Among x (y ∷ xs) → (x ≡ y) ⊎ Among x xs
first_or_later here = inl refl
first_or_later (there i) = inr i

later_holder : (i : ℕ) (v f : Row) (F : List Row) (x : ℕ) → IsHolder (suc i) v F x → IsHolder i v (f ∷ F) x
later_holder i v f F x (k, e, l, z) = (suc k, omega arith, omega arith, z)

module _ (V : List Row) (j : ℕ) (within : j < length V) where
  among_holders : (i : ℕ) (F : List Row) (S : List (List ℕ)) → IsIncidence F V S → (x : ℕ) → Among x (holders_from i S j) → IsHolder i (ray V j) F x
  among_holders i [] [] h x a = elim a [ ]
  among_holders i [] (set ∷ S) h x a = absurd h
  among_holders i (f ∷ F) [] h x a = absurd h
  among_holders i (f ∷ F) (set ∷ S) h x a = elim (cases_Bool (list_any (λ k. nat_eq k j) set)) [
    | inl t ↦ elim (first_or_later (rw t at a)) [
      | inl same ↦ (0, same ∙ sym (add-zero i), omega arith, dot_comm (ray V j) f ∙ ((h.0 j).0 (test_to set j t)).1)
      | inr later ↦ later_holder i (ray V j) f F x (among_holders (suc i) F S h.1 x later)
    ]
    | inr t ↦ later_holder i (ray V j) f F x (among_holders (suc i) F S h.1 x (rw t at a))
  ]

  holder_among : (i : ℕ) (F : List Row) (S : List (List ℕ)) → IsIncidence F V S → (k x : ℕ) → x ≡ i + k → k < length F → dot (ray V j) (ray F k) ≡ pos 0 → Among x (holders_from i S j)
  holder_among i [] S h k x e l z = absurd (omega arith)
  holder_among i (f ∷ F) [] h k x e l z = absurd h
  holder_among i (f ∷ F) (set ∷ S) h zero x e l z =
      let t = test_from set j ((h.0 j).1 (within, dot_comm f (ray V j) ∙ z)) in
      let same : x ≡ i = omega arith in
      rw (t, same) here
  holder_among i (f ∷ F) (set ∷ S) h (suc k) x e l z =
      let later = holder_among (suc i) F S h.1 k x (omega arith) (omega arith) z in
      elim (cases_Bool (list_any (λ k. nat_eq k j) set)) [
        | inl t ↦ rw t (there later)
        | inr t ↦ rw t later
      ]

  holders_right : (F : List Row) (S : List (List ℕ)) → IsIncidence F V S → (x : ℕ) → Contains (holders_from 0 S j) x ↔ ((x < length F) × (dot (ray V j) (ray F x) ≡ pos 0))
  holders_right F S h x = (
    λ c.
        let p = among_holders 0 F S h x (among_Contains (holders_from 0 S j) c) in
        let e : p.0 ≡ x = let q = p.1 in omega arith in
        subst (λ k. (k < length F) × (dot (ray V j) (ray F k) ≡ pos 0)) e (p.2, p.3),
    λ q. Contains_among (holder_among 0 F S h x x (omega arith) q.0 q.1),
  )

-- ---- the sets of all rows of V
incidence_from : (F : List Row) (g : ℕ → List ℕ) (V : List Row) (a : ℕ) → ((j : ℕ) → j < length V → (x : ℕ) → Contains (g (a + j)) x ↔ ((x < length F) × (dot (ray V j) (ray F x) ≡ pos 0))) → IsIncidence V F (map g (range_with_len a (length V)))
incidence_from F g [] a h = tt
incidence_from F g (v ∷ V) a h = (
  subst (λ k. (x : ℕ) → Contains (g k) x ↔ ((x < length F) × (dot v (ray F x) ≡ pos 0))) (add-zero a) (h 0 (omega arith)),
  incidence_from F g V (a + 1) (λ j l.
      let e : a + suc j ≡ a + 1 + j = omega arith in
      subst (λ k. (x : ℕ) → Contains (g k) x ↔ ((x < length F) × (dot (ray V j) (ray F x) ≡ pos 0))) e (h (suc j) (omega arith))),
)

pub turned_incidence : (F V : List Row) (s : IndexSets) → s.cols ≡ length V → IsIncidence F V s.rows → IsIncidence V F (turned s)
turned_incidence F V s e h = rw e (incidence_from F (holders_from 0 s.rows) V 0 (λ j l.
    let start : j ≡ 0 + j = omega arith in
    subst (λ k. (x : ℕ) → Contains (holders_from 0 s.rows k) x ↔ ((x < length F) × (dot (ray V j) (ray F x) ≡ pos 0))) start (holders_right V j l F s.rows h)))

-- ---- a set is at most as long as the sets are many
holders_few : (i : ℕ) (S : List (List ℕ)) (j : ℕ) → length (holders_from i S j) ≤ length S
holders_few i [] j = omega arith
holders_few i (set ∷ S) j =
    let h = holders_few (suc i) S j in
    elim (cases_Bool (list_any (λ k. nat_eq k j) set)) [
      | inl t ↦ rw t (omega arith)
      | inr t ↦ rw t (omega arith)
    ]

pub turned_few : {X : Type 0} (items : X → List ℕ) (s : IndexSets) (xs : List X) → map items xs ≡ turned s → length s.rows < 2 ^ 30 → All (λ x. length (items x) < 2 ^ 30) xs
turned_few items s xs e l = All_among (λ x. length (items x) < 2 ^ 30) xs (λ x i.
    let (j, k, is) = map_among (holders_from 0 s.rows) (range_with_len 0 s.cols) (subst (Among (items x)) e (among_map items i)) in
    let h = holders_few 0 s.rows j in
    rw is (omega arith))

pub items_few : {X : Type 0} (items : X → List ℕ) (sets : List (List ℕ)) (xs : List X) → map items xs ≡ sets → All (λ set. length set < 2 ^ 30) sets → All (λ x. length (items x) < 2 ^ 30) xs
items_few items sets xs e few = All_among (λ x. length (items x) < 2 ^ 30) xs (λ x i. among_All (λ set. length set < 2 ^ 30) (subst (Among (items x)) e (among_map items i)) few)

pub length_turned : {X : Type 0} (items : X → List ℕ) (s : IndexSets) (xs : List X) → map items xs ≡ turned s → length xs ≡ s.cols
length_turned items s xs e = sym (length-map xs items) ∙ ap length e ∙ length-map-range_with_len (holders_from 0 s.rows) 0 s.cols

-- ---- one set on
pub holders_next : {X : Type 0} (items : X → List ℕ) (S : List X) (j i : ℕ) (x : X) (all found more : List ℕ) (t : Bool) → i < length S → x ≡ get_or S i x → t ≡ list_any (λ k. nat_eq k j) (items x) → all ≡ found ++ holders_from i (map items (drop i S)) j
    → more ≡ cond t (found ++ i ∷ []) found → all ≡ more ++ holders_from (i + 1) (map items (drop (i + 1) S)) j
holders_next items S j i x all found more t within is test h e =
    let rest = holders_from (suc i) (map items (drop (suc i) S)) j in
    rw (add-one, e) (h ∙ ap (λ xs. found ++ holders_from i (map items xs) j) (drop-cons S i x within ∙ ap (λ y. y ∷ drop (suc i) S) (sym is)) ∙ ap (λ z. found ++ cond z (i ∷ rest) rest) (sym test) ∙ joined t rest)
  where
    joined : (t : Bool) (rest : List ℕ) → found ++ cond t (i ∷ rest) rest ≡ cond t (found ++ i ∷ []) found ++ rest
    joined true rest = sym (append_assoc found (i ∷ []) rest)
    joined false rest = refl

-- ---- one column on
pub columns_next : {X : Type 0} (items : X → List ℕ) (S : List (List ℕ)) (k : ℕ) (U more : List X) (x : X) → map items U ≡ map (holders_from 0 S) (range_with_len 0 k) → more ≡ U ++ x ∷ [] → items x ≡ holders_from 0 S k → map items more ≡ map (holders_from 0 S) (range_with_len 0 (k + 1))
columns_next items S k U more x h m is =
    ap (map items) m ∙ map-append items U (x ∷ []) ∙ ap (λ z. z ++ items x ∷ []) h ∙ ap (λ z. map (holders_from 0 S) (range_with_len 0 k) ++ z ∷ []) is ∙ sym (map-range_with_len_more (holders_from 0 S) 0 k k (omega arith))
