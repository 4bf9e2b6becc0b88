-- The row of the sum of two points: its factors, its entries one by one, and the first number that leaves the range.
use Rattle.pm_vector.specs.Numbers.{InRange, Ratio}
use Rattle.pm_vector.specs.Rows.{Row, entry}
use Rattle.pm_build.specs.Objects.{put_below}
use Rattle.pm_build.specs.Points.{pairs, pairs_with}
use Rattle.pm_build.specs.SumSteps.{ColumnStays, IsSumRow, NumbersStay, SumStays, sum_entry}
use Rattle.pm_build.specs.Sums.{AreSums, AreSumsBelow, IsFirstWide, IsWideAmong, IsWideSum}
use Rattle.pm_build.specs.declared.fails.SumFail.{SumFail}
use Rattle.pm_build.specs.declared.fails.SumFail.TheVariants.{Memory, NotFit, Wide}
use Rattle.pm_fraction.specs.Matrices.{FractionMatrix}
use Rattle.std.proofs.Common.{add-one, ap, arith, below_more, refl, subst, suc, sym, zero, ◌∙◌}
use Rattle.std.proofs.lemmas.List.{append-nil, append_assoc, get_or_append_left, get_or_push, length_push}
use Rattle.std.proofs.lemmas.List.Elements.{All-append, All-cons, All-nil}
use Rattle.std.specs.List.{All}
use Rattle.std.specs.Prelude.{Err, IfOk, List, Ok, OnErr, OnOk, Result, [], drop, get_or, length, take, ℕ, ◌+◌, ◌++◌, ◌<◌, ◌∷◌, ◌≡◌}
use lib.IntN.{pos, ℤ, ◌*ℤ◌, ◌+ℤ◌}

-- ---- one entry
pub column_rest : (p q : ℤ) (v w : Row) (k : ℕ) → ¬ (k ≡ 0) → InRange (p *ℤ entry v k) → InRange (q *ℤ entry w k) → InRange (p *ℤ entry v k +ℤ q *ℤ entry w k) → ColumnStays p q v w k
column_rest p q v w zero n a b c = absurd (n refl)
column_rest p q v w (suc k) n a b c = (a, b, c)

pub rest_column : (p q : ℤ) (v w : Row) (k : ℕ) → ¬ (k ≡ 0) → ColumnStays p q v w k → InRange (p *ℤ entry v k) × InRange (q *ℤ entry w k) × InRange (p *ℤ entry v k +ℤ q *ℤ entry w k)
rest_column p q v w zero n h = absurd (n refl)
rest_column p q v w (suc k) n h = h

pub entry_rest : (p q : ℤ) (v w : Row) (k : ℕ) → ¬ (k ≡ 0) → p *ℤ entry v k +ℤ q *ℤ entry w k ≡ sum_entry p q v w k
entry_rest p q v w zero n = absurd (n refl)
entry_rest p q v w (suc k) n = refl

-- what is known of the sum of x = p v_k and y = q w_k is known of entry k
module _ (p q : ℤ) (v w : Row) (k : ℕ) (x y : ℤ) {E : Type 0} (r : Result ℤ E) (n : ¬ (k ≡ 0)) (ex : x ≡ p *ℤ entry v k) (ey : y ≡ q *ℤ entry w k) where
  pub entry_value : IfOk r (λ z. z ≡ x +ℤ y) → IfOk r (λ z. z ≡ sum_entry p q v w k)
  entry_value h = by r h
    where
      by : (r : Result ℤ E) → IfOk r (λ z. z ≡ x +ℤ y) → IfOk r (λ z. z ≡ sum_entry p q v w k)
      by (Ok z) h = h ∙ ap (λ t. t +ℤ y) ex ∙ ap (λ t. p *ℤ entry v k +ℤ t) ey ∙ entry_rest p q v w k n
      by (Err e) h = tt

  pub entry_stays : InRange x → InRange y → IfOk r (λ z. z ≡ x +ℤ y) → IfOk r InRange → OnOk r (ColumnStays p q v w k)
  entry_stays rx ry h s = by r h s
    where
      by : (r : Result ℤ E) → IfOk r (λ z. z ≡ x +ℤ y) → IfOk r InRange → OnOk r (ColumnStays p q v w k)
      by (Ok z) h s = column_rest p q v w k n (subst InRange ex rx) (subst InRange ey ry) (subst InRange (h ∙ ap (λ t. t +ℤ y) ex ∙ ap (λ t. p *ℤ entry v k +ℤ t) ey) s)
      by (Err e) h s = tt

  pub entry_wide : OnErr r (InRange (x +ℤ y) → ⊥) → OnErr r (ColumnStays p q v w k → ⊥)
  entry_wide h = by r h
    where
      by : (r : Result ℤ E) → OnErr r (InRange (x +ℤ y) → ⊥) → OnErr r (ColumnStays p q v w k → ⊥)
      by (Ok z) h = tt
      by (Err e) h = λ s. h (subst InRange (sym (ap (λ t. t +ℤ y) ex ∙ ap (λ t. p *ℤ entry v k +ℤ t) ey)) (rest_column p q v w k n s).2)

-- one entry more
pub entries_more : (p q : ℤ) (v w row new : Row) (x : ℤ) (k : ℕ) → new ≡ row ++ x ∷ [] → length row ≡ k → ((i : ℕ) → i < k → entry row i ≡ sum_entry p q v w i) → x ≡ sum_entry p q v w k → NumbersStay p q v w k → ColumnStays p q v w k
    → (length new ≡ k + 1) × ((i : ℕ) → i < k + 1 → entry new i ≡ sum_entry p q v w i) × NumbersStay p q v w (k + 1)
entries_more p q v w row new x k is e h last numbers column = (
  ap length is ∙ length_push row x ∙ ap (λ (j : ℕ). j + 1) e,
  below_more (λ (i : ℕ). entry new i ≡ sum_entry p q v w i) k
      (λ i l. ap (λ (y : Row). entry y i) is ∙ get_or_append_left row (x ∷ []) (pos 0) i (omega arith) ∙ h i l)
      (ap (λ (y : Row). entry y k) is ∙ get_or_push row x (pos 0) k e ∙ last),
  record { stay = below_more (ColumnStays p q v w) k numbers.stay column },
)

-- ---- pairs
with_next : (v : Row) (W : List Row) (i : ℕ) (w : Row) → i < length W → w ≡ get_or W i w → pairs_with v (take (suc i) W) ≡ pairs_with v (take i W) ++ (v, w) ∷ []
with_next v [] i w l e = absurd (omega arith)
with_next v (x ∷ W) zero w l e = ap (λ z. (v, z) ∷ []) (sym e)
with_next v (x ∷ W) (suc i) w l e = ap (λ z. (v, x) ∷ z) (with_next v W i w (omega arith) e)

pub with_more : (v : Row) (W : List Row) (i : ℕ) (w : Row) → i < length W → w ≡ get_or W i w → pairs_with v (take (i + 1) W) ≡ pairs_with v (take i W) ++ (v, w) ∷ []
with_more v W i w l e = rw add-one (with_next v W i w l e)

pub with_split : (v : Row) (W : List Row) (i : ℕ) (w : Row) → i < length W → w ≡ get_or W i w → pairs_with v W ≡ pairs_with v (take i W) ++ (v, w) ∷ pairs_with v (drop (suc i) W)
with_split v [] i w l e = absurd (omega arith)
with_split v (x ∷ W) zero w l e = ap (λ z. (v, z) ∷ pairs_with v W) (sym e)
with_split v (x ∷ W) (suc i) w l e = ap (λ z. (v, x) ∷ z) (with_split v W i w (omega arith) e)

pairs_next : (V W : List Row) (i : ℕ) (v : Row) → i < length V → v ≡ get_or V i v → pairs (take (suc i) V) W ≡ pairs (take i V) W ++ pairs_with v W
pairs_next [] W i v l e = absurd (omega arith)
pairs_next (x ∷ V) W zero v l e = append-nil (pairs_with x W) ∙ ap (λ z. pairs_with z W) (sym e)
pairs_next (x ∷ V) W (suc i) v l e = ap (λ z. pairs_with x W ++ z) (pairs_next V W i v (omega arith) e) ∙ sym (append_assoc (pairs_with x W) (pairs (take i V) W) (pairs_with v W))

pub pairs_more : (V W : List Row) (i : ℕ) (v : Row) → i < length V → v ≡ get_or V i v → pairs (take (i + 1) V) W ≡ pairs (take i V) W ++ pairs_with v W
pairs_more V W i v l e = rw add-one (pairs_next V W i v l e)

pub pairs_split : (V W : List Row) (i : ℕ) (v : Row) → i < length V → v ≡ get_or V i v → pairs V W ≡ pairs (take i V) W ++ (pairs_with v W ++ pairs (drop (suc i) V) W)
pairs_split [] W i v l e = absurd (omega arith)
pairs_split (x ∷ V) W zero v l e = ap (λ z. pairs_with z W ++ pairs V W) (sym e)
pairs_split (x ∷ V) W (suc i) v l e = ap (λ z. pairs_with x W ++ z) (pairs_split V W i v (omega arith) e) ∙ sym (append_assoc (pairs_with x W) (pairs (take i V) W) (pairs_with v W ++ pairs (drop (suc i) V) W))

-- ---- rows below others
sums_append : (P Q : List (Row × Row)) (R S : List (List Ratio)) → AreSums P R → AreSums Q S → AreSums (P ++ Q) (R ++ S)
sums_append [] Q [] S h g = g
sums_append [] Q (r ∷ R) S h g = absurd h
sums_append (p ∷ P) Q [] S h g = absurd h
sums_append (p ∷ P) Q (r ∷ R) S h g = (h.0, sums_append P Q R S h.1 g)

pub none_below : (m : FractionMatrix) → AreSumsBelow m [] m
none_below m = record { rows = []; sums = tt; put = ap (λ z. record { cols = m.cols; rows = z }) (sym (append-nil m.rows)) }

pub more_below : (m now made : FractionMatrix) (P Q all : List (Row × Row)) → AreSumsBelow m P now → AreSumsBelow now Q made → all ≡ P ++ Q → AreSumsBelow m all made
more_below m now made P Q all h g e = subst (λ z. AreSumsBelow m z made) (sym e) (record {
  rows = h.rows ++ g.rows;
  sums = sums_append P Q h.rows g.rows h.sums g.sums;
  put = g.put ∙ ap (λ z. put_below z g.rows) h.put ∙ ap (λ z. record { cols = m.cols; rows = z }) (append_assoc m.rows h.rows g.rows);
})

pub one_below : (now made : FractionMatrix) (v w : Row) (r : List Ratio) → IsSumRow v w r → made ≡ put_below now (r ∷ []) → AreSumsBelow now ((v, w) ∷ []) made
one_below now made v w r h e = record { rows = r ∷ []; sums = (h, tt); put = e }

sums_stay : (P : List (Row × Row)) (R : List (List Ratio)) → AreSums P R → All (λ p. SumStays p.0 p.1) P
sums_stay [] [] h = All-nil (λ (p : Row × Row). SumStays p.0 p.1)
sums_stay [] (r ∷ R) h = absurd h
sums_stay (p ∷ P) [] h = absurd h
sums_stay (p ∷ P) (r ∷ R) h = All-cons (λ (p : Row × Row). SumStays p.0 p.1) p P (record { p = h.0.p; q = h.0.q; factors = h.0.factors; numbers = h.0.before.numbers }) (sums_stay P R h.1)

-- ---- the first that is too wide
pub wide_with : (P done after : List (Row × Row)) (v w : Row) (f : SumFail) (m now : FractionMatrix) → P ≡ done ++ (v, w) ∷ after → AreSumsBelow m done now → IsWideSum v w f → IsWideAmong P f
wide_with P done after v w (NotFit c) m now e h g = absurd g
wide_with P done after v w Memory m now e h g = tt
wide_with P done after v w (Wide x y k) m now e h g =
    subst (λ z. IsFirstWide P z y k) (sym g.0) (subst (λ z. IsFirstWide P v z k) (sym g.1) (record { before = done; after = after; place = e; stay = sums_stay done h.rows h.sums; wide = g.2 }))

pub wide_later : (P done Q after : List (Row × Row)) (f : SumFail) (m now : FractionMatrix) → P ≡ done ++ (Q ++ after) → AreSumsBelow m done now → IsWideAmong Q f → IsWideAmong P f
wide_later P done Q after (NotFit c) m now e h g = absurd g
wide_later P done Q after Memory m now e h g = tt
wide_later P done Q after (Wide x y k) m now e h g = record {
  before = done ++ g.before;
  after = g.after ++ after;
  place = e ∙ ap (λ z. done ++ (z ++ after)) g.place ∙ ap (λ z. done ++ z) (append_assoc g.before ((x, y) ∷ g.after) after) ∙ sym (append_assoc done g.before ((x, y) ∷ (g.after ++ after)));
  stay = All-append (λ p. SumStays p.0 p.1) done g.before (sums_stay done h.rows h.sums) g.stay;
  wide = g.wide;
}
