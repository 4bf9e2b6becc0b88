-- What printed parts are read as.
use Rattle.std.proofs.Common.{◌≡◌, ◌≢◌, ℕ, ◌+◌, ◌-◌, ◌/◌, ◌%◌, ◌<◌, ◌^◌, Bool, true, Some, None, Ok, Err, List, [], ◌∷◌, ◌++◌, length, get_or, replicate, eqb, leb, refl, sym, ap, ◌∙◌, subst, arith, inl, inr, Bor, length-append, filter, fold, false}
use Rattle.std.specs.Prelude.{OkIff}
use Rattle.std.specs.Prelude.{Option, Result}
use Rattle.std.specs.Result.{result_ok}
use Rattle.std.specs.Option.{option_map}
use Rattle.std.specs.Fmt.{decimal, digits}
use Rattle.std.specs.Str.Parse.{AllDigits, ParsesUnsigned, digits_value, without_leading_plus}
use Rattle.std.proofs.lemmas.Bool.{cases_Bool, eqb-true, false_from_ne_true, lt-ltb}
use Rattle.std.proofs.lemmas.List.Quantifiers.{position-Some}
use Rattle.std.proofs.lemmas.List.Sums.{position_or_len_is}
use Rattle.std.proofs.lemmas.Slice.Eq.{bytes_eq-Decides}
use Rattle.std.proofs.lemmas.Option.{same_Some, slice_get-get_or}
use Rattle.std.specs.Prelude.{position}
use Rattle.std.specs.List.{list_all, position_or_len}
use Rattle.std.specs.Str.{bytes_eq}
use Rattle.std.proofs.lemmas.Fmt.{parse-decimal, digits_is_IsNumeral}
use Rattle.std.proofs.lemmas.Str.Parse.{without_leading_plus_none}
use Rattle.std.proofs.lemmas.Str.Pattern.{IsSplitOnceResult, split_after, split_parts}
use Rattle.pm_weights.specs.declared.Cost.{Cost}
use Rattle.pm_weights.specs.Weights.{cost_text}
use Rattle.pm_props.specs.declared.property.PropId.{PropId}
use Rattle.pm_props.specs.Properties.{count, every_property}
use Rattle.pm_props.specs.Sets.{has, only, set_of, union}
use Rattle.pm_props.proofs.Every.{has-set_of_filter}
use Rattle.pm_props.proofs.Members.{only_below, same_members, union_below}
use Rattle.pm_printed.specs.Cuts.{Lacks}
use Rattle.pm_props.specs.declared.kind.RuleId.{RuleId}
use Rattle.pm_rules.specs.declared.rule.Rule.{Rule}
use Rattle.pm_rules.specs.Books.{IsBook}
use Rattle.pm_rules.specs.Rules.{rule_at}
use Rattle.pm_printed.specs.Labels.{labelled, rule_number}
use Rattle.pm_printed.specs.Printed.{IsCost, IsOfBook}
use Rattle.pm_printed.specs.Texts.{half_text, set_text}
use Rattle.pm_printed.proofs.Plain.{digit_bounds, lacks_what_fails, set_digits}
use Rattle.pm_printed.proofs.Values.{decimal_lacks_point, no_cut, set_value}

-- ---- numbers
pub number_back : {E : Type 0} (bs : List ℕ) (r : Result ℕ E) (n : ℕ) → n < 2 ^ 64 → bs ≡ decimal n → ParsesUnsigned 64 10 bs r → result_ok r ≡ Some n
number_back bs r n small e h = ap result_ok (parse-decimal 64 n bs r small small e h)

no_plus : (ds : List ℕ) → AllDigits 16 ds → get_or ds 0 0 ≢ 43
no_plus [] h = λ e. cc
no_plus (d ∷ ds) h = λ e. let bounds = digit_bounds d h.0 in omega (arith, e)

half_some : (n : ℕ) → n < 2 ^ 64 → 0 < length (half_text n)
half_some n h =
    let small : n < 16 ^ 64 = omega arith in
    let some = (digits_is_IsNumeral 16 false (omega arith) (omega arith) n small).0.0 in
    omega (arith, length-append (replicate (16 - length (digits 16 false n)) 48) (digits 16 false n))

set_some : (s : ℕ) → s < 2 ^ 64 → 0 < length (set_text s)
set_some s h = omega (arith, length-append (half_text (s / 2 ^ 64)) (half_text (s % 2 ^ 64)), half_some (s / 2 ^ 64) (omega arith))

pub bits_back : {E : Type 0} (bs : List ℕ) (r : Result ℕ E) (s : ℕ) → s < 2 ^ 64 → bs ≡ set_text s → ParsesUnsigned 64 16 bs r → result_ok r ≡ Some s
bits_back {E} bs r s small e h =
    let ds : AllDigits 16 bs = rw e (set_digits s small) in
    let plain : without_leading_plus bs ≡ bs = without_leading_plus_none bs (no_plus bs ds) in
    let value : digits_value 16 bs ≡ s = ap (digits_value 16) e ∙ set_value s small in
    let some : 0 < length bs = omega (arith, ap length e, set_some s small) in
    of_result r (digits_value 16 (without_leading_plus bs)) (ap (digits_value 16) plain ∙ value) h
    (rw plain (some, ds), omega (arith, ap (digits_value 16) plain, value))
  where
    of_result : {E : Type 0} {P : Type 0} (r : Result ℕ E) (v : ℕ) → v ≡ s → OkIff r P v → P → result_ok r ≡ Some s
    of_result (Ok x) v is k p = ap (λ (n : ℕ). Some n) (k.1 ∙ is)
    of_result (Err x) v is k p = absurd (k p)

-- ---- costs
pub cost_unsplit : (bs : List ℕ) (r : Option (Bor (List ℕ) × Bor (List ℕ))) → IsSplitOnceResult 46 bs r → r ≡ None → (c : Cost) → IsCost c → bs ≡ cost_text c → (0 ≡ c.class) × (bs ≡ decimal c.minor)
cost_unsplit bs r h none c is e = elim (cases_Bool (eqb c.class 0)) [
  | inl p ↦ (sym (eqb-true c.class 0 p), rw p at e)
  | inr p ↦ absurd (
      let e₁ : bs ≡ decimal c.class ++ 46 ∷ decimal c.minor = rw p at e in
      let cut = split_after 46 bs (decimal c.class) (decimal c.minor) r h (omega arith) e₁ (decimal_lacks_point c.class is.class) in
      rw none at cut
      )
]

pub cost_split : (bs : List ℕ) (r : Option (Bor (List ℕ) × Bor (List ℕ))) → IsSplitOnceResult 46 bs r → (a b : Bor (List ℕ)) → r ≡ Some (a, b) → (c : Cost) → IsCost c → bs ≡ cost_text c
    → (a.now ≡ decimal c.class) × (b.now ≡ decimal c.minor)
cost_split bs r h a b some c is e = elim (cases_Bool (eqb c.class 0)) [
  | inl p ↦ absurd (
      let e₁ : bs ≡ decimal c.minor = rw p at e in
      let parts = split_parts 46 bs r h (omega arith) in
      let at = rw some at parts in
      no_cut 46 (decimal c.minor) a.now b.now (decimal_lacks_point c.minor is.minor) (sym e₁ ∙ at.0)
      )
  | inr p ↦ (
      let e₁ : bs ≡ decimal c.class ++ 46 ∷ decimal c.minor = rw p at e in
      let cut = split_after 46 bs (decimal c.class) (decimal c.minor) r h (omega arith) e₁ (decimal_lacks_point c.class is.class) in
      rw some at cut
      )
]

-- ---- sets
below_from : (ps : List PropId) (s : ℕ) → s < 2 ^ count → fold (λ t p. union t (only p)) s ps < 2 ^ count
below_from [] s h = h
below_from (p ∷ ps) s h = below_from ps (union s (only p)) (union_below s (only p) h (only_below p))

pub set_back : (bits set : ℕ) → set ≡ set_of (filter (has bits) every_property) → bits < 2 ^ count → set ≡ bits
set_back bits set e fits =
    let below : set < 2 ^ count = subst (λ s. s < 2 ^ count) (sym e) (below_from (filter (has bits) every_property) 0 (omega arith)) in
    same_members set bits below fits (λ p. ap (λ s. has s p) e ∙ has-set_of_filter (has bits) p)

-- ---- words
pub solid : (w : List ℕ) → list_all (λ b. leb 33 b) w ≡ true → Lacks 32 w
solid w h = lacks_what_fails (λ b. leb 33 b) 32 w refl h

-- ---- labels
abbrev has_label : List ℕ → Rule → Bool
has_label label rule = bytes_eq rule.label label

-- the rule of a label is found: no rule before it has that label
pub labelled_back : (book : List Rule) → IsBook book → (id : RuleId) (rule : Rule) → IsOfBook book id → rule_at book id ≡ Some rule → (label : List ℕ) → label ≡ rule.label → labelled book label ≡ Some id
labelled_back book is id rule of at label e =
    let there : (d : Rule) → get_or book id.0 d ≡ rule = λ d. same_Some (get_or book id.0 d) rule (sym (slice_get-get_or book id.0 d of) ∙ at) in
    let here : has_label label (get_or book id.0 rule) ≡ true = (bytes_eq-Decides (get_or book id.0 rule).label label).1 (ap (λ (r : Rule). r.label) (there rule) ∙ sym e) in
    let before : (k : ℕ) → k < id.0 → has_label label (get_or book k rule) ≡ false = λ k less. false_from_ne_true (has_label label (get_or book k rule)) (λ t.
    is.labels k id.0 rule less of ((bytes_eq-Decides (get_or book k rule).label label).0 t ∙ e ∙ sym (ap (λ (r : Rule). r.label) (there rule)))) in
    let place : position_or_len (has_label label) book ≡ id.0 = position_or_len_is (has_label label) book id.0 rule (omega arith) before (λ l. here) in
    let found : position (has_label label) book ≡ Some id.0 = rw (place, lt-ltb id.0 (length book) of) refl in
    rw found refl

pub place_within : (p : Rule → Bool) (xs : List Rule) (i : ℕ) → position p xs ≡ Some i → i < length xs
place_within p [] i h = cc
place_within p (x ∷ xs) i h = (position-Some p (x ∷ xs) i x h).0

fits_from : (book : List Rule) (label : List ℕ) (id : RuleId) (o : Option ℕ) → position (has_label label) book ≡ o → option_map rule_number o ≡ Some id → id.0 < length book
fits_from book label id None p h = cc
fits_from book label id (Some i) p h =
    let same : i ≡ id.0 = ap (λ (r : RuleId). r.0) (same_Some (rule_number i) id h) in
    let below : i < length book = place_within (has_label label) book i p in
    omega arith

pub labelled_fits : (book : List Rule) (label : List ℕ) (id : RuleId) → labelled book label ≡ Some id → IsOfBook book id
labelled_fits book label id e = fits_from book label id (position (has_label label) book) refl e
