-- What is loaded again of a small cone, value by value and mark by mark.
use Rattle.std.proofs.Common.{ap, refl, subst, sym, true, ◌≡◌, ◌∙◌, None, [], ◌∷◌, ℕ, arith, inl, inr}
use Rattle.std.specs.Prelude.{IsTrue, List, length}
use Rattle.std.specs.List.{Contains}
use Rattle.pm_vector.proofs.Lists.{Among, Contains_among, among_Contains, here, there}
use Rattle.pm_examples_objects.proofs.Filing.{files_are_loaded}
use Rattle.pm_examples_objects.specs.Filing.{excluded_second, small_file, small_object, two_rules}
use Rattle.pm_examples_objects.specs.LoadedAgain.{LoadedIsAgain, dimension, failure}
use Rattle.pm_filing.specs.Filing.{marked, unsettled_object}
use Rattle.pm_filing.specs.Whole.{IsFailure, held_again, is_kept}
use Rattle.pm_object.specs.State.{HeldValue, State, file_value, settling}
use Rattle.pm_object.specs.declared.held.Excluded.{Excluded}
use Rattle.pm_object.specs.declared.held.Origin.TheVariants.{Computed, Given, Stored}
use Rattle.pm_object.specs.declared.held.Why.TheVariants as why
use Rattle.pm_props.specs.declared.property.PropId.TheVariants.{ConeAmbientDim, Pointed}
use Rattle.pm_rules.specs.declared.rule.Rule.{Rule}
use Rattle.pm_types.specs.Values.{truth, whole}
use lib.IntN.{pos}

abbrev pointed_stored : HeldValue
pointed_stored = file_value Stored Pointed (truth true)

abbrev pointed_given : HeldValue
pointed_given = file_value Given Pointed (truth true)

abbrev pointed_computed : HeldValue
pointed_computed = file_value Computed Pointed (truth true)

-- ---- values
held_computed : (h : HeldValue) → Among h (small_object Computed []).held → Contains (small_object Stored []).held (held_again h)
held_computed h here = Contains_among (here {xs = pointed_stored ∷ []})
held_computed h (there here) = Contains_among (there {y = dimension} (here {xs = []}))
held_computed h (there (there i)) = elim i [ ]

from_computed : (h : HeldValue) → Among h (small_object Stored []).held → (g : HeldValue) × Contains (small_object Computed []).held g × IsTrue (is_kept g) × (h ≡ held_again g)
from_computed h here = (dimension, Contains_among (here {xs = pointed_computed ∷ []}), refl, refl)
from_computed h (there here) = (pointed_computed, Contains_among (there {y = dimension} (here {xs = []})), refl, refl)
from_computed h (there (there i)) = elim i [ ]

held_given : (h : HeldValue) → Among h (small_object Given []).held → Contains (small_object Given []).held (held_again h)
held_given h here = Contains_among (here {xs = pointed_given ∷ []})
held_given h (there here) = Contains_among (there {y = dimension} (here {xs = []}))
held_given h (there (there i)) = elim i [ ]

from_given : (h : HeldValue) → Among h (small_object Given []).held → (g : HeldValue) × Contains (small_object Given []).held g × IsTrue (is_kept g) × (h ≡ held_again g)
from_given h here = (dimension, Contains_among (here {xs = pointed_given ∷ []}), refl, refl)
from_given h (there here) = (pointed_given, Contains_among (there {y = dimension} (here {xs = []})), refl, refl)
from_given h (there (there i)) = elim i [ ]

none_given : (h : HeldValue) → Among h (small_object Stored []).held → h.property ≡ Pointed → h.origin ≡ Given → ⊥
none_given h here p o = cc
none_given h (there here) p o = cc
none_given h (there (there i)) p o = elim i [ ]

none_stored : (h : HeldValue) → Among h (small_object Given []).held → h.property ≡ Pointed → h.origin ≡ Stored → ⊥
none_stored h here p o = cc
none_stored h (there here) p o = cc
none_stored h (there (there i)) p o = elim i [ ]

other_than_dimension : (g : HeldValue) → Among g (dimension ∷ []) → held_again g ≡ pointed_given → ⊥
other_than_dimension g here e = let p = ap (λ (h : HeldValue). h.property) e in cc
other_than_dimension g (there i) e = elim i [ ]

-- nothing goes without saying of the file
nothing_unsaid : (rule : Rule) → settling (unsettled_object (two_rules rule) (small_file [] [])) ≡ []
nothing_unsaid rule = refl

-- ---- marks
abbrev mark : Excluded
mark = excluded_second None (why.Stored 4)

mark_of : (e : Excluded) → Among e (failure ∷ []) → (j : ℕ) × Contains (mark ∷ []) (marked e.sub j e.rule)
mark_of e here = (4, Contains_among (here {xs = []}))
mark_of e (there i) = elim i [ ]

fails : (rule : Rule) → IsFailure (two_rules rule) (small_object Given (failure ∷ [])) failure 4
fails rule = record { excluded = Contains_among (here {xs = []}); placed = refl; number = refl; rule = refl }

failure_of_mark : (rule : Rule) (x : Excluded) → Among x (mark ∷ []) → (e : Excluded) × (k : ℕ) × IsFailure (two_rules rule) (small_object Given (failure ∷ [])) e k × (x ≡ marked e.sub k e.rule)
failure_of_mark rule x here = (failure, 4, fails rule, refl)
failure_of_mark rule x (there i) = elim i [ ]

no_failure : {X : Type 0} {x : X} → Contains [] x → ⊥
no_failure c = elim (among_Contains [] c) [ ]

-- ---- states that are the same
held_in : {a b : State} {h : HeldValue} → a ≡ b → Contains b.held h → Contains a.held h
held_in {h = h} e c = subst (λ (s : State). Contains s.held h) (sym e) c

held_out : {a b : State} {h : HeldValue} → a ≡ b → Contains a.held h → Contains b.held h
held_out {h = h} e c = subst (λ (s : State). Contains s.held h) e c

excluded_in : {a b : State} {x : Excluded} → a ≡ b → Contains b.excluded x → Contains a.excluded x
excluded_in {x = x} e c = subst (λ (s : State). Contains s.excluded x) (sym e) c

excluded_out : {a b : State} {x : Excluded} → a ≡ b → Contains a.excluded x → Contains b.excluded x
excluded_out {x = x} e c = subst (λ (s : State). Contains s.excluded x) e c

pub loaded_is_again : LoadedIsAgain
loaded_is_again = record {
  computed = λ rule. record {
    of = refl;
    programs = refl;
    held = λ h i kept. held_in (files_are_loaded.stored (two_rules rule)) (held_computed h (among_Contains _ i));
    others = λ h i. inl (from_computed h (among_Contains _ (held_out (files_are_loaded.stored (two_rules rule)) i)));
    failed = λ e k f. absurd (no_failure f.excluded);
    no_others = λ x i. absurd (no_failure (excluded_out (files_are_loaded.stored (two_rules rule)) i));
  };
  a_mark = λ rule. record {
    of = refl;
    programs = refl;
    held = λ h i kept. held_in (files_are_loaded.is_marked rule) (held_given h (among_Contains _ i));
    others = λ h i. inl (from_given h (among_Contains _ (held_out (files_are_loaded.is_marked rule) i)));
    failed = λ e k f. (let (j, c) = mark_of e (among_Contains _ f.excluded) in (j, excluded_in (files_are_loaded.is_marked rule) c));
    no_others = λ x i. failure_of_mark rule x (among_Contains _ (excluded_out (files_are_loaded.is_marked rule) i));
  };
  still_given = λ rule s.
      let c = s.held pointed_given (Contains_among (there {y = dimension} (here {xs = []}))) refl in
      none_given pointed_given (among_Contains _ (held_out (files_are_loaded.stored (two_rules rule)) c)) refl refl;
  not_given = λ rule s.
      let c = s.held pointed_computed (Contains_among (there {y = dimension} (here {xs = []}))) refl in
      none_stored (held_again pointed_computed) (among_Contains _ (held_out (files_are_loaded.given (two_rules rule)) c)) refl refl;
  mark_lost = λ rule s.
      let (j, c) = s.failed failure 4 (fails rule) in
      no_failure (excluded_out (files_are_loaded.given (two_rules rule)) c);
  mark_made = λ rule s.
      let made : Contains (mark ∷ []) mark = Contains_among (here {xs = []}) in
      let (e, k, f, is) = s.no_others mark (excluded_in (files_are_loaded.is_marked rule) made) in
      no_failure f.excluded;
  program_lost = λ rule s. (let e = ap length (ap (λ (x : State). x.programs) (sym (files_are_loaded.given (two_rules rule))) ∙ s.programs) in omega arith);
  value_made = λ rule s.
      let made : Contains (small_object Given []).held pointed_given = Contains_among (there {y = dimension} (here {xs = []})) in
      elim (s.others pointed_given (held_in (files_are_loaded.given (two_rules rule)) made)) [
        | inl c ↦ other_than_dimension c.0 (among_Contains _ c.1) (sym c.3)
        | inr c ↦ no_failure (subst (λ (hs : List HeldValue). Contains hs pointed_given) (nothing_unsaid rule) c)
      ];
  other_type = λ rule s. (let e = ap (λ (x : State). x.of) (sym (files_are_loaded.given (two_rules rule))) ∙ s.of in cc);
}
