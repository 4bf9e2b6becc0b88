-- Rows, matrices and sets of JSON, an item at a time.
use Rattle.std.proofs.Common.{refl, sym, ap, ◌∙◌, ◌≡◌, ◌<◌, ℕ, suc, List, [], ◌∷◌, ◌++◌, length, Some, Ok, Err, false, String, Global, append_assoc, length-append, arith, eqb}
use Rattle.std.proofs.lemmas.Bool.{true≢false, eqb-true, lt-ltb, ne_eqb}
use Rattle.std.proofs.lemmas.Option.{none-some, same_Some}
use Rattle.std.specs.Prelude.{IfErr, IfOk, true}
use Rattle.serde_json.specs.Data.{Data, null, boolean, number, string, array, object, Items, item}
use Rattle.serde_json.specs.Find.{as_object}
use Rattle.serde_json.specs.View.{items_view, members_view}
use Rattle.serde_json.specs.declared.value.Value.{Value}
use Rattle.pm_vector.specs.Numbers.{Ratio}
use Rattle.pm_json.specs.Readings.{Read, and_then, before, entry_of, items_of, later_row_from, later_rows_from, has_one_member, SetsSeen, before_sets, stated_last, stated_of, with_front}
use Rattle.pm_json.specs.declared.fail.ValueFail.TheVariants.{Shape}
use Rattle.pm_limits.specs.Limits.{most_rows}

abbrev pub Entry : Type 0
Entry = String Global × Value

abbrev pub with_front_sets : List (List ℕ) → Read SetsSeen → Read SetsSeen
with_front_sets front others = and_then others (λ s. Ok (record s { rows = front ++ s.rows }))

pub with_front-before : {A : Type 0} (front : List A) (a : A) (others : Read (List A)) → with_front front (before a others) ≡ with_front (front ++ a ∷ []) others
with_front-before front a (Ok others) = ap (λ x. Ok x) (sym (append_assoc front (a ∷ []) others))
with_front-before front a (Err fault) = refl

pub with_front_sets-before : (front : List (List ℕ)) (set : List ℕ) (others : Read SetsSeen) → with_front_sets front (before_sets set others) ≡ with_front_sets (front ++ set ∷ []) others
with_front_sets-before front set (Ok s) = ap (λ x. Ok (record s { rows = x })) (sym (append_assoc front (set ∷ []) s.rows))
with_front_sets-before front set (Err fault) = refl

pub with_front-nil : {A : Type 0} (others : Read (List A)) → with_front [] others ≡ others
with_front-nil (Ok others) = refl
with_front-nil (Err fault) = refl

pub with_front_sets-nil : (others : Read SetsSeen) → with_front_sets [] others ≡ others
with_front_sets-nil (Ok s) = refl
with_front_sets-nil (Err fault) = refl

-- a later row, an entry at a time
pub later_row_from-item : (n : ℕ) (front : List Ratio) (z : Ratio) (d : Data) (ds : Items) → length front < n → entry_of d ≡ Ok z
    → with_front front (later_row_from n (length front) (item d ds)) ≡ with_front (front ++ z ∷ []) (later_row_from n (length (front ++ z ∷ [])) ds)
later_row_from-item n front z d ds room is =
    let one : suc (length front) ≡ length (front ++ z ∷ []) = omega (arith, length-append front (z ∷ [])) in
    rw (lt-ltb (length front) n room, is) (with_front-before front z (later_row_from n (suc (length front)) ds) ∙ ap (λ k. with_front (front ++ z ∷ []) (later_row_from n k ds)) one)

-- the later rows, a row at a time
pub later_rows_from-item : (n : ℕ) (front : List (List Ratio)) (r : List Ratio) (d : Data) (es ds : Items) → length front < most_rows → items_of d ≡ Ok es → later_row_from n 0 es ≡ Ok r
    → with_front front (later_rows_from n (length front) (item d ds)) ≡ with_front (front ++ r ∷ []) (later_rows_from n (length (front ++ r ∷ [])) ds)
later_rows_from-item n front r d es ds room listed is =
    let one : suc (length front) ≡ length (front ++ r ∷ []) = omega (arith, length-append front (r ∷ [])) in
    rw (listed, lt-ltb (length front) most_rows room, is) (with_front-before front r (later_rows_from n (suc (length front)) ds) ∙ ap (λ k. with_front (front ++ r ∷ []) (later_rows_from n k ds)) one)

-- an object with one member
one_member : (es : List Entry) → eqb (length es) 1 ≡ has_one_member (object (members_view es))
one_member [] = refl
one_member (e ∷ []) = refl
one_member (e ∷ f ∷ es) = ne_eqb (length (e ∷ f ∷ es)) 1 (λ h. omega arith)

pub has_one_member-length : (d : Data) (es : List Entry) → Some (members_view es) ≡ as_object d → eqb (length es) 1 ≡ has_one_member d
has_one_member-length (object ms) es e = one_member es ∙ ap (λ m. has_one_member (object m)) (same_Some (members_view es) ms e)
has_one_member-length null es e = absurd (none-some (members_view es) (sym e))
has_one_member-length (boolean b) es e = absurd (none-some (members_view es) (sym e))
has_one_member-length (number n) es e = absurd (none-some (members_view es) (sym e))
has_one_member-length (string s) es e = absurd (none-some (members_view es) (sym e))
has_one_member-length (array ds) es e = absurd (none-some (members_view es) (sym e))

-- nothing may stand behind the column count
pub stated_last-more : (d : Data) (vs : List Value) → eqb (length vs) 0 ≡ false → stated_last d (items_view vs) ≡ Err Shape
stated_last-more d [] h = absurd (true≢false h)
stated_last-more d (v ∷ vs) h = refl

pub stated_last-ok : (r : Read ℕ) (d : Data) (vs : List Value) → eqb (length vs) 0 ≡ true → r ≡ stated_of d → IfOk r (λ n. stated_last d (items_view vs) ≡ Ok (record { rows = []; stated = Some n }))
stated_last-ok (Ok n) d [] h e = rw (sym e) refl
stated_last-ok (Err f) d [] h e = tt
stated_last-ok r d (v ∷ vs) h e = absurd (let q = eqb-true (suc (length vs)) 0 h in omega arith)

pub stated_last-fault : (r : Read ℕ) (d : Data) (vs : List Value) → eqb (length vs) 0 ≡ true → r ≡ stated_of d → IfErr r (λ f. stated_last d (items_view vs) ≡ Err f)
stated_last-fault (Ok n) d [] h e = tt
stated_last-fault (Err f) d [] h e = rw (sym e) refl
stated_last-fault r d (v ∷ vs) h e = absurd (let q = eqb-true (suc (length vs)) 0 h in omega arith)
