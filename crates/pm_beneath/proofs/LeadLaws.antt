-- The marks of the list of the lines both ways and the rays.
use Rattle.pm_vector.proofs.ConeLaws.{in_line_opposite}
use Rattle.pm_vector.proofs.Lists.{Among, among_append, among_append_right, here, there}
use Rattle.pm_vector.proofs.RowLaws.{dot_comm, entry-opposite}
use Rattle.pm_vector.specs.Cones.{InSpan}
use Rattle.pm_vector.specs.Rows.{Row, entry, opposite}
use Rattle.pm_vector.specs.Bases.{column, row_at}
use Rattle.pm_laws_placing.specs.Placing.{places_marked, stated_places}
use Rattle.pm_geom.specs.Triangulations.{rows_at}
use Rattle.pm_dd.proofs.LeadingLaws.{arrangement}
use Rattle.pm_dd.specs.Arrangement.{IsArrangement, Leads, alternating}
use Rattle.pm_dd.specs.Fronts.{both_signs}
use Rattle.pm_vector.proofs.DotLaws.{dot-unit}
use Rattle.pm_vector.specs.Enlarging.{MarkEnlarging}
use Rattle.pm_vector.specs.Evidence.{IsBasisOf, unit}
use Rattle.pm_geom.proofs.ValidRows.{null_in}
use Rattle.pm_geom.specs.Faces.{ray}
use Rattle.pm_geom.specs.StatedOrder.{rows_marked}
use Rattle.std.specs.Prelude.{ℕ, zero, suc, ◌+◌, ◌*◌, ◌<◌, ◌≡◌, ◌↔◌, Bool, IsTrue, true, false, List, [], ◌∷◌, ◌++◌, drop, length, map, take}
use Rattle.std.specs.List.{slice_index_or}
use Rattle.std.proofs.Common.{arith, ap, refl, subst, sym, ◌∙◌, inl, inr}
use Rattle.std.proofs.lemmas.Int.{ints}
use Rattle.std.proofs.lemmas.List.{append_assoc, length-drop}
use lib.IntN.{pos}
use lib.Signed.{◌<ℤ◌}
use Rattle.std.proofs.lemmas.Bool.{cases_Bool}

-- ---- rows with a mark are the rows at the places with it
head_at : (G X : List Row) (x : Row) (i : ℕ) → ((k : ℕ) → k < length (x ∷ G) → ray X (i + k) ≡ row_at (x ∷ G) k) → ray X i ≡ x
head_at G X x i h = let e : i ≡ i + 0 = omega arith in ap (λ (k : ℕ). ray X k) e ∙ h 0 (omega arith)

tail_at : (G X : List Row) (x : Row) (i : ℕ) → ((k : ℕ) → k < length (x ∷ G) → ray X (i + k) ≡ row_at (x ∷ G) k) → (k : ℕ) → k < length G → ray X (suc i + k) ≡ row_at G k
tail_at G X x i h k l = let e : suc i + k ≡ i + suc k = omega arith in ap (λ (j : ℕ). ray X j) e ∙ h (suc k) (omega arith)

pub marked_at : (b : Bool) (m : List Bool) (G X : List Row) (i : ℕ) → length m ≡ length G → ((k : ℕ) → k < length G → ray X (i + k) ≡ row_at G k) → rows_marked b m G ≡ map (ray X) (places_marked b m i)
marked_at b [] G X i l h = refl
marked_at b (a ∷ m) [] X i l h = absurd (omega arith)
marked_at true (true ∷ m) (x ∷ G) X i l h = ap (λ (y : Row). y ∷ rows_marked true m G) (sym (head_at G X x i h)) ∙ ap (λ (Z : List Row). ray X i ∷ Z) (marked_at true m G X (suc i) (omega arith) (tail_at G X x i h))
marked_at true (false ∷ m) (x ∷ G) X i l h = marked_at true m G X (suc i) (omega arith) (tail_at G X x i h)
marked_at false (false ∷ m) (x ∷ G) X i l h = ap (λ (y : Row). y ∷ rows_marked false m G) (sym (head_at G X x i h)) ∙ ap (λ (Z : List Row). ray X i ∷ Z) (marked_at false m G X (suc i) (omega arith) (tail_at G X x i h))
marked_at false (true ∷ m) (x ∷ G) X i l h = marked_at false m G X (suc i) (omega arith) (tail_at G X x i h)

-- ---- each row of B is outside of the span of those before it, taken both ways
abbrev Fresh : List Row → List Row → Type 0
Fresh A [] = Unit {0}
Fresh A (l ∷ B) = ¬ (InSpan A l) × Fresh (A ++ l ∷ opposite l ∷ []) B

append-nil : (A : List Row) → A ++ [] ≡ A
append-nil [] = refl
append-nil (a ∷ A) = ap (λ (Z : List Row). a ∷ Z) (append-nil A)

no_second : (A : List Row) (l : Row) → InSpan (A ++ l ∷ []) (opposite l)
no_second A l = in_line_opposite (among_append_right A (here {xs = []}))

true_of : (b : Bool) → IsTrue b → b ≡ true
true_of true h = refl
true_of false h = absurd cc

pub lead : (A B G : List Row) (marks : List Bool) → Fresh A B → length marks ≡ length (both_signs B ++ G) → ((i : ℕ) → i < length (both_signs B ++ G) → IsTrue (slice_index_or marks i false) ↔ ¬ (InSpan (A ++ take i (both_signs B ++ G)) (row_at (both_signs B ++ G) i))) → marks ≡ alternating B ++ drop (2 * length B) marks
lead A [] G marks f l x = let e : 0 ≡ 2 * 0 = omega arith in ap (λ (k : ℕ). drop k marks) e
lead A (b ∷ B) G [] f l x = absurd (omega arith)
lead A (b ∷ B) G (m ∷ []) f l x = absurd (omega arith)
lead A (b ∷ B) G (m ∷ k ∷ marks) f l x =
    let e : suc (suc (2 * length B)) ≡ 2 * suc (length B) = omega arith in
    let first : m ≡ true = true_of m ((x 0 (omega arith)).1 (λ h. f.0 (subst (λ (Z : List Row). InSpan Z b) (append-nil A) h))) in
    let second : k ≡ false = elim (cases_Bool k) [ inl t ↦ absurd ((x 1 (omega arith)).0 t (no_second A b)) | inr n ↦ n ] in
    let rest = lead (A ++ b ∷ opposite b ∷ []) B G marks f.1 (omega arith) (λ i li. let w = x (suc (suc i)) (omega arith) in let q = append_assoc A (b ∷ opposite b ∷ []) (take i (both_signs B ++ G)) in
    (λ t h. w.0 t (subst (λ (Z : List Row). InSpan Z (row_at (both_signs B ++ G) i)) q h), λ n. w.1 (λ h. n (subst (λ (Z : List Row). InSpan Z (row_at (both_signs B ++ G) i)) (sym q) h)))) in
    ap (λ (z : Bool). z ∷ k ∷ marks) first ∙ ap (λ (z : Bool). true ∷ z ∷ marks) second ∙ ap (λ (Z : List Bool). true ∷ false ∷ Z) rest ∙ ap (λ (j : ℕ). true ∷ false ∷ (alternating B ++ drop j (m ∷ k ∷ marks))) e

-- ---- an echelon basis
zero_in : (A : List Row) (x : Row) (c : ℕ) → ((a : Row) → Among a A → entry a c ≡ pos 0) → InSpan A x → entry x c ≡ pos 0
zero_in A x c z h = sym (dot-unit x (suc c) c (omega arith)) ∙ dot_comm x (unit (suc c) c) ∙ null_in (unit (suc c) c) [] A (λ g i. elim i [ ]) (λ a i. dot_comm (unit (suc c) c) a ∙ dot-unit a (suc c) c (omega arith) ∙ z a i) h

at_two : (l a : Row) (c : ℕ) → Among a (l ∷ opposite l ∷ []) → entry l c ≡ pos 0 → entry a c ≡ pos 0
at_two l a c here e = e
at_two l a c (there here) e = let q = entry-opposite l c in omega (arith, ints)
at_two l a c (there (there i)) e = elim i [ ]

fresh_from : (A B : List Row) (col : ℕ → ℕ) → ((j : ℕ) → j < length B → pos 0 <ℤ entry (row_at B j) (col j)) → ((i j : ℕ) → i < length B → j < length B → ¬ (i ≡ j) → entry (row_at B i) (col j) ≡ pos 0) → ((a : Row) → Among a A → (j : ℕ) → j < length B → entry a (col j) ≡ pos 0) → Fresh A B
fresh_from A [] col p z o = tt
fresh_from A (l ∷ B) col p z o = (
  λ h. let e = zero_in A l (col 0) (λ a i. o a i 0 (omega arith)) h in let q : pos 0 <ℤ entry l (col 0) = p 0 (omega arith) in omega (arith, ints),
  fresh_from (A ++ l ∷ opposite l ∷ []) B (λ j. col (suc j)) (λ j lj. p (suc j) (omega arith)) (λ i j li lj n. z (suc i) (suc j) (omega arith) (omega arith) (λ e. n (omega arith)))
      (λ a i j lj. elim (among_append A (l ∷ opposite l ∷ []) i) [ inl k ↦ o a k (suc j) (omega arith) | inr k ↦ at_two l a (col (suc j)) k (z 0 (suc j) (omega arith) (omega arith) (λ e. absurd (omega arith))) ]),
)

pub drop_signs : (B G : List Row) (k : ℕ) → k ≡ 2 * length B → drop k (both_signs B ++ G) ≡ G
drop_signs [] G k e = let f : k ≡ 0 = omega arith in ap (λ (j : ℕ). drop j G) f
drop_signs (l ∷ B) G zero e = absurd (omega arith)
drop_signs (l ∷ B) G (suc zero) e = absurd (omega arith)
drop_signs (l ∷ B) G (suc (suc k)) e = drop_signs B G k (omega arith)

pub signs_long : (B G : List Row) → length (both_signs B ++ G) ≡ 2 * length B + length G
signs_long [] G = omega arith
signs_long (l ∷ B) G = let h = signs_long B G in omega arith

pub leads : (n : ℕ) (L B G : List Row) (P : List ℕ) (marks : List Bool) → IsBasisOf n L B P → MarkEnlarging (both_signs B ++ G) marks → Leads (both_signs B ++ G) marks B
leads n L B G P marks b m = record {
  within = let h = signs_long B G in omega arith;
  rows = ap (λ (Z : List Row). both_signs B ++ Z) (sym (drop_signs B G (2 * length B) refl));
  marked = lead [] B G marks (fresh_from [] B (column P) b.echelon.positive b.echelon.reduced (λ a i j l. elim i [ ])) m.as_many m.exact;
}

-- ---- the rays in the stated order, and the arrangement that double description runs on
map_append : (f : ℕ → Row) (A B : List ℕ) → map f (A ++ B) ≡ map f A ++ map f B
map_append f [] B = refl
map_append f (a ∷ A) B = ap (λ (Z : List Row). f a ∷ Z) (map_append f A B)

row_map_long : (f : ℕ → Row) (xs : List ℕ) → length (map f xs) ≡ length xs
row_map_long f [] = refl
row_map_long f (x ∷ xs) = ap suc (row_map_long f xs)

module _ (E G : List Row) (marks : List Bool) (en : MarkEnlarging (both_signs E ++ G) marks) (s : Leads (both_signs E ++ G) marks E) where
  abbrev own : List Bool
  own = drop (2 * length E) marks

  own_many : length (drop (2 * length E) marks) ≡ length G
  own_many = length-drop (2 * length E) marks ∙ (let h = signs_long E G in let e = en.as_many in omega arith)

  marked : (b : Bool) → rows_marked b (drop (2 * length E) marks) G ≡ rows_at G (places_marked b (drop (2 * length E) marks) 0)
  marked b = marked_at b (drop (2 * length E) marks) G G 0 own_many (λ k l. let e : 0 + k ≡ k = omega arith in ap (λ (j : ℕ). ray G j) e)

  pub taken_arranged : IsArrangement (both_signs E ++ G) E (rows_at G (stated_places (drop (2 * length E) marks))) (length (places_marked true (drop (2 * length E) marks) 0))
  taken_arranged =
      let a = arrangement (both_signs E ++ G) marks E en s in
      let d = drop_signs E G (2 * length E) refl in
      let rows : rows_marked true (drop (2 * length E) marks) G ++ rows_marked false (drop (2 * length E) marks) G ≡ rows_at G (stated_places (drop (2 * length E) marks)) =
      ap (λ (Z : List Row). Z ++ rows_marked false (drop (2 * length E) marks) G) (marked true) ∙ ap (λ (Z : List Row). rows_at G (places_marked true (drop (2 * length E) marks) 0) ++ Z) (marked false) ∙ sym (map_append (ray G) (places_marked true (drop (2 * length E) marks) 0) (places_marked false (drop (2 * length E) marks) 0)) in
      let many : length (rows_marked true (drop (2 * length E) marks) G) ≡ length (places_marked true (drop (2 * length E) marks) 0) = ap length (marked true) ∙ row_map_long (ray G) (places_marked true (drop (2 * length E) marks) 0) in
      let a2 : IsArrangement (both_signs E ++ G) E (rows_marked true (drop (2 * length E) marks) G ++ rows_marked false (drop (2 * length E) marks) G) (length (rows_marked true (drop (2 * length E) marks) G)) =
      subst (λ (Z : List Row). IsArrangement (both_signs E ++ G) E (rows_marked true (drop (2 * length E) marks) Z ++ rows_marked false (drop (2 * length E) marks) Z) (length (rows_marked true (drop (2 * length E) marks) Z))) d a in
      subst (λ (Z : List Row). IsArrangement (both_signs E ++ G) E Z (length (places_marked true (drop (2 * length E) marks) 0))) rows (subst (λ (k : ℕ). IsArrangement (both_signs E ++ G) E (rows_marked true (drop (2 * length E) marks) G ++ rows_marked false (drop (2 * length E) marks) G) k) many a2)
