-- From the four lanes of a chunk to the words that they were loaded from.
use Rattle.std.proofs.Common.{◌≡◌, ◌↔◌, ℕ, ◌+◌, ◌-◌, ◌<◌, ◌≤◌, inl, inr, List, length, get_or, take, drop, bit_and, arith, ap, ap₂, sym, ◌∙◌, refl, subst}
use Rattle.std.specs.Simd.Lanes.{zip2, chunk, put_chunk}
use borrow.Rule.Slice.PartMut.{put_mid}
use Rattle.std.proofs.lemmas.List.{ext_get_or, get_or-append_right, get_or_append_left, length-take, length-drop, length-take-le}
use Rattle.std.proofs.lemmas.Simd.{length-chunk, get_or-chunk, get_or-zip2, length-zip2, put_chunk_whole}
use Rattle.std.proofs.lemmas.Bool.{cases_lt}
use Rattle.pm_bits.specs.Words.{EachWord, IsWithin, AreMade, StayAsTheyWere}

-- what holds of the words of a chunk, counted from its start, holds of the words of the rows
pub EachWord-shift : (R : ℕ → ℕ → Type 0) (start n : ℕ) (a b : List ℕ) → ((j : ℕ) → j < n → R (get_or a (start + j) 0) (get_or b (start + j) 0)) → EachWord R start (start + n) a b
EachWord-shift R start n a b h k low high =
    let e : start + (k - start) ≡ k = omega arith in
    let P : ℕ → Type 0 = λ m. R (get_or a m 0) (get_or b m 0) in
    subst P e (h (k - start) (omega arith))

get_or-lanes : (op : ℕ → ℕ → ℕ) (start n : ℕ) (a b : List ℕ) (j : ℕ) → start + n ≤ length a → start + n ≤ length b → j < n
    → get_or (zip2 op (chunk start n a) (chunk start n b)) j 0 ≡ op (get_or a (start + j) 0) (get_or b (start + j) 0)
get_or-lanes op start n a b j in_a in_b below =
    let long_a = length-chunk start n a in_a in
    let long_b = length-chunk start n b in_b in
    get_or-zip2 op (chunk start n a) (chunk start n b) j 0 0 0 (omega arith) (omega arith)
    ∙ (rw (get_or-chunk start n a j 0 below, get_or-chunk start n b j 0 below) refl)

pub within_from_lanes : (start n : ℕ) (a b : List ℕ) → start + n ≤ length a → start + n ≤ length b
    → zip2 bit_and (chunk start n a) (chunk start n b) ≡ chunk start n b → EachWord IsWithin start (start + n) a b
within_from_lanes start n a b in_a in_b e =
    EachWord-shift IsWithin start n a b (λ j below. sym (get_or-lanes bit_and start n a b j in_a in_b below) ∙ ap (λ (ws : List ℕ). get_or ws j 0) e ∙ get_or-chunk start n b j 0 below)

pub lanes_from_within : (start n : ℕ) (a b : List ℕ) → start + n ≤ length a → start + n ≤ length b
    → EachWord IsWithin start (start + n) a b → zip2 bit_and (chunk start n a) (chunk start n b) ≡ chunk start n b
lanes_from_within start n a b in_a in_b h =
    let long_a = length-chunk start n a in_a in
    let long_b = length-chunk start n b in_b in
    let long = length-zip2 bit_and (chunk start n a) (chunk start n b) (long_a ∙ sym long_b) in
    ext_get_or 0 _ _ (long ∙ long_a ∙ sym long_b)
    (λ j below. let inside : j < n = omega arith in get_or-lanes bit_and start n a b j in_a in_b inside ∙ h (start + j) (omega arith) (omega arith) ∙ sym (get_or-chunk start n b j 0 inside))

pub same_from_chunks : (start n : ℕ) (a b : List ℕ) → chunk start n a ≡ chunk start n b → EachWord (λ x y. x ≡ y) start (start + n) a b
same_from_chunks start n a b e =
    EachWord-shift (λ x y. x ≡ y) start n a b (λ j below. sym (get_or-chunk start n a j 0 below) ∙ ap (λ (ws : List ℕ). get_or ws j 0) e ∙ get_or-chunk start n b j 0 below)

pub chunks_from_same : (start n : ℕ) (a b : List ℕ) → start + n ≤ length a → start + n ≤ length b → EachWord (λ x y. x ≡ y) start (start + n) a b → chunk start n a ≡ chunk start n b
chunks_from_same start n a b in_a in_b h =
    let long_a = length-chunk start n a in_a in
    let long_b = length-chunk start n b in_b in
    ext_get_or 0 _ _ (long_a ∙ sym long_b)
    (λ j below. let inside : j < n = omega arith in get_or-chunk start n a j 0 inside ∙ h (start + j) (omega arith) (omega arith) ∙ sym (get_or-chunk start n b j 0 inside))

-- a test of the lanes of two chunks tests the words
pub tests_within : (P : Type 0) (start n : ℕ) (a b x y : List ℕ) → start + n ≤ length a → start + n ≤ length b → x ≡ chunk start n a → y ≡ chunk start n b
    → (P ↔ (zip2 bit_and x y ≡ y)) → (P ↔ EachWord IsWithin start (start + n) a b)
tests_within P start n a b x y in_a in_b x_is y_is t = (
  λ p. within_from_lanes start n a b in_a in_b (sym (ap₂ (zip2 bit_and) x_is y_is) ∙ t.0 p ∙ y_is),
  λ h. t.1 (ap₂ (zip2 bit_and) x_is y_is ∙ lanes_from_within start n a b in_a in_b h ∙ sym y_is),
)

pub tests_same : (P : Type 0) (start n : ℕ) (a b x y : List ℕ) → start + n ≤ length a → start + n ≤ length b → x ≡ chunk start n a → y ≡ chunk start n b
    → (P ↔ (x ≡ y)) → (P ↔ EachWord (λ v w. v ≡ w) start (start + n) a b)
tests_same P start n a b x y in_a in_b x_is y_is t = (
  λ p. same_from_chunks start n a b (sym x_is ∙ t.0 p ∙ y_is),
  λ h. t.1 (x_is ∙ chunks_from_same start n a b in_a in_b h ∙ sym y_is),
)

-- what holds up to a place and from it on holds throughout
pub EachWord-join : (R : ℕ → ℕ → Type 0) (start mid end : ℕ) (a b : List ℕ) → EachWord R start mid a b → EachWord R mid end a b → EachWord R start end a b
EachWord-join R start mid end a b h h' k low high = elim (cases_lt k mid) [ inl below ↦ h k low below | inr above ↦ h' k above high ]

-- ---- a store

get_or_stored : (start n m : ℕ) (out v : List ℕ) (j : ℕ) → m ≡ n → length v ≡ n → start + n ≤ length out → j < n
    → get_or (put_mid start m out (put_chunk 0 (take m (drop start out)) v)) (start + j) 0 ≡ get_or v j 0
get_or_stored start n m out v j e long room below =
    let whole : length (take m (drop start out)) ≡ length v = omega (arith, length-take m (drop start out), length-drop start out) in
    let front : length (take start out) ≡ start = length-take-le start out (omega arith) in
    let place : start + j - start ≡ j = omega arith in
    rw (put_chunk_whole (take m (drop start out)) v whole)
    (get_or-append_right (take start out) _ start (start + j) 0 front (omega arith) ∙ (rw place (get_or_append_left v _ 0 j (omega arith))))

pub made_from_store : (op : ℕ → ℕ → ℕ) (start n m : ℕ) (a b out v : List ℕ) → m ≡ n → v ≡ zip2 op (chunk start n a) (chunk start n b) → start + n ≤ length a → start + n ≤ length b → start + n ≤ length out
    → AreMade op start (start + n) a b (put_mid start m out (put_chunk 0 (take m (drop start out)) v))
made_from_store op start n m a b out v m_is v_is in_a in_b in_out k low high =
    let long_a = length-chunk start n a in_a in
    let long_b = length-chunk start n b in_b in
    let long : length v ≡ n = ap length v_is ∙ length-zip2 op (chunk start n a) (chunk start n b) (long_a ∙ sym long_b) ∙ long_a in
    let below : k - start < n = omega arith in
    let made = get_or_stored start n m out v (k - start) m_is long in_out below ∙ ap (λ (ws : List ℕ). get_or ws (k - start) 0) v_is ∙ get_or-lanes op start n a b (k - start) in_a in_b below in
    let e : start + (k - start) ≡ k = omega arith in
    let P : ℕ → Type 0 = λ i. get_or (put_mid start m out (put_chunk 0 (take m (drop start out)) v)) i 0 ≡ op (get_or a i 0) (get_or b i 0) in
    subst P e made

-- two stores, one after the other
pub AreMade-join : (op : ℕ → ℕ → ℕ) (mid end : ℕ) (a b out out' : List ℕ) → AreMade op 0 mid a b out → StayAsTheyWere 0 mid out out' → AreMade op mid end a b out' → AreMade op 0 end a b out'
AreMade-join op mid end a b out out' made stay made' k low high = elim (cases_lt k mid) [ inl below ↦ stay k low below ∙ made k low below | inr above ↦ made' k above high ]
