-- Faults of small texts, worked by hand.
use Rattle.std.proofs.Common.{◌≡◌, ◌<◌, ◌≤◌, ◌⊎◌, ℕ, None, Ok, Err, List, [], ◌∷◌, arith, codes, drop, inl, inr, refl, subst, take}
use Rattle.std.specs.Str.{bytes_eq}
use Rattle.std.proofs.lemmas.Bool.{both_ways}
use Rattle.std.proofs.lemmas.Slice.Eq.{bytes_eq-Decides}
use Rattle.std.proofs.lemmas.List.Elements.{All-cons, All-nil}
use Rattle.pm_books.specs.Grammar.{Written}
use Rattle.pm_books.specs.Reading.{after, body_from, book_of, close_from, head_from, kind_from, label_from, name_of, names_from, no_conditions, rule_from, rules_from, tail_from, token_where, weight_from}
use Rattle.pm_books.specs.Tokens.{tokens_of}
use Rattle.pm_books.specs.declared.fail.BookFail.{BookFail}
use Rattle.pm_books.specs.declared.fail.BookFail.TheVariants.{SameLabel, SignatureMismatch, Syntax, UnknownClient, UnknownProperty, WeightRange}
use Rattle.pm_props.specs.Names.{IsNameOf, property_named}
use Rattle.pm_props.specs.Sets.{has, intersection, only, set_of, union}
use Rattle.pm_props.specs.declared.kind.Kind.{Kind}
use Rattle.pm_props.specs.declared.property.PropId.{PropId}
use Rattle.pm_props.specs.declared.property.PropId.TheVariants.{Bounded, Pointed}
use Rattle.pm_rules.specs.Words.{precondition_word}
use Rattle.pm_rules.specs.declared.rule.Rule.{Rule}
use Rattle.pm_laws_texts.specs.BookExamples.{FaultsStand, OrderDecides, four_faults, one_rule, one_too_many, other, pointed, two_labels}
use Rattle.pm_laws_texts.specs.BookFaults.{CountsFirst, Differs, HasFault, HasForm, IsFirstFault, Spot}
use Rattle.pm_laws_texts.specs.BookFaults.HasFault.{of_rule, of_word}
use Rattle.pm_laws_texts.specs.BookLaws.{Tells}
use Rattle.pm_laws_texts.proofs.FirstOfBook.{first_fault_is_read}
use Rattle.pm_props.proofs.NameLemmas.{named_exactly}

-- what is read of a text is its first fault
first_is : (kinds : List Kind) (text : List ℕ) (f : BookFail) → book_of kinds text ≡ Err f → IsFirstFault kinds text f
first_is kinds text f e = subst (Tells kinds text) e (first_fault_is_read kinds text)

none_is : (kinds : List Kind) (text : List ℕ) (rules : List Rule) → book_of kinds text ≡ Ok rules → (f : BookFail) → ¬ (HasFault kinds text f)
none_is kinds text rules e = subst (Tells kinds text) e (first_fault_is_read kinds text)

-- ---- four faults
four_first : book_of [] four_faults ≡ Err (UnknownProperty 9)
unfolding book_of rules_from rule_from head_from label_from names_from name_of after token_where
four_first = refl

no_name : (text : List ℕ) → property_named text ≡ None → (p : PropId) → ¬ (IsNameOf text p)
no_name text none p is = let some = (named_exactly text p).1 is in cc

target_stands : HasFault [] four_faults (UnknownProperty 9)
target_stands = of_word (take 3 (tokens_of four_faults)) (record { place = 9; text = codes "X" }) (drop 4 (tokens_of four_faults)) Spot.target []
    (record { label = codes "a"; targets = []; sources = []; client = []; weight = []; conditions = [] }) (UnknownProperty 9) refl
    (record { form = All-nil HasForm; begun = (refl, refl); words = refl }) (refl, inl (refl, no_name (codes "X") refl))

source_stands : HasFault [] four_faults (UnknownProperty 13)
source_stands = of_word (take 5 (tokens_of four_faults)) (record { place = 13; text = codes "Y" }) (drop 6 (tokens_of four_faults)) Spot.source []
    (record { label = codes "a"; targets = codes "X" ∷ []; sources = []; client = []; weight = []; conditions = [] }) (UnknownProperty 13) refl
    (record { form = All-nil HasForm; begun = (refl, (omega arith, refl), refl); words = refl }) (refl, inl (refl, no_name (codes "Y") refl))

client_stands : HasFault [] four_faults (UnknownClient 17)
client_stands = of_word (take 7 (tokens_of four_faults)) (record { place = 17; text = codes "c" }) (drop 8 (tokens_of four_faults)) Spot.client []
    (record { label = codes "a"; targets = codes "X" ∷ []; sources = codes "Y" ∷ []; client = []; weight = []; conditions = [] }) (UnknownClient 17) refl
    (record { form = All-nil HasForm; begun = (refl, (omega arith, refl), (omega arith, refl)); words = refl }) (refl, refl, refl)

weight_stands : HasFault [] four_faults (WeightRange 28)
weight_stands = of_word (take 10 (tokens_of four_faults)) (record { place = 28; text = codes "0" }) (drop 11 (tokens_of four_faults)) Spot.weight []
    (record { label = codes "a"; targets = codes "X" ∷ []; sources = codes "Y" ∷ []; client = codes "c"; weight = []; conditions = [] }) (WeightRange 28) refl
    (record { form = All-nil HasForm; begun = (refl, (omega arith, refl), (omega arith, refl), refl); words = refl }) (refl, refl, λ is. (let some = is.some in omega arith))

-- ---- other texts
a_first : book_of [] (codes "a") ≡ Err (Syntax 1)
unfolding book_of rules_from rule_from head_from label_from after token_where
a_first = refl

b_first : book_of [] (codes "a b c") ≡ Err (Syntax 2)
unfolding book_of rules_from rule_from head_from label_from after token_where
b_first = refl

no_book : book_of [] [] ≡ Ok []
unfolding book_of rules_from
no_book = refl

-- what counts before the first does not stand
not_before : (f g : BookFail) → ¬ (CountsFirst f g) → (kinds : List Kind) (text : List ℕ) → IsFirstFault kinds text f → ¬ (HasFault kinds text g)
not_before f g never kinds text is h = never (is.first g h)

not_first : (f g : BookFail) → ¬ (CountsFirst f g) → (kinds : List Kind) (text : List ℕ) → HasFault kinds text g → ¬ (IsFirstFault kinds text f)
not_first f g never kinds text h is = never (is.first g h)

neither : (a b c d : ℕ) → b ≤ a → (a ≡ b → d < c) → ¬ ((a < b) ⊎ ((a ≡ b) × (c ≤ d)))
neither a b c d l high (inl less) = omega arith
neither a b c d l high (inr (same, low)) = let more = high same in omega arith

pub faults_stand : FaultsStand
faults_stand = record {
  target = target_stands;
  source = source_stands;
  client = client_stands;
  weight = weight_stands;
  first = first_is [] four_faults (UnknownProperty 9) four_first;
  not_later = not_first (UnknownClient 17) (UnknownProperty 9) (neither 17 9 2 1 (omega arith) (λ e. absurd (omega arith))) [] four_faults target_stands;
  not_there = not_before (UnknownProperty 9) (Syntax 9) (neither 9 9 1 0 (omega arith) (λ e. omega arith)) [] four_faults (first_is [] four_faults (UnknownProperty 9) four_first);
  too_soon = first_is [] (codes "a") (Syntax 1) a_first;
  no_such_word = first_is [] (codes "a b c") (Syntax 2) b_first;
  not_before = not_before (Syntax 2) (Syntax 0) (neither 2 0 0 0 (omega arith) (λ e. absurd (omega arith))) [] (codes "a b c") (first_is [] (codes "a b c") (Syntax 2) b_first);
  nothing = none_is [] [] [] no_book;
}

-- ---- kinds
rule : Rule
rule = record { label = codes "a"; kind = pointed; weight = record { class = 0; minor = 1 }; must = 0; must_not = 0 }

abbrev written : Written
written = record { label = codes "a"; targets = codes "POINTED" ∷ []; sources = codes "BOUNDED" ∷ []; client = codes "c"; weight = codes "1"; conditions = [] }

is_read : book_of (pointed ∷ []) one_rule ≡ Ok (rule ∷ [])
unfolding book_of rules_from rule_from head_from body_from tail_from label_from kind_from weight_from close_from names_from name_of after token_where has only union intersection rule
is_read = refl

first_is_read : book_of (pointed ∷ other ∷ []) one_rule ≡ Ok (rule ∷ [])
unfolding book_of rules_from rule_from head_from body_from tail_from label_from kind_from weight_from close_from names_from name_of after token_where has only union intersection rule
first_is_read = refl

other_first : book_of (other ∷ []) one_rule ≡ Err (SignatureMismatch 42)
unfolding book_of rules_from rule_from head_from body_from tail_from label_from kind_from weight_from close_from names_from name_of after token_where has only union intersection
other_first = refl

syntax_first : book_of (other ∷ []) one_too_many ≡ Err (Syntax 42)
unfolding book_of rules_from rule_from head_from body_from tail_from label_from kind_from weight_from close_from names_from name_of after token_where has only union intersection
syntax_first = refl

label_first : book_of (pointed ∷ []) two_labels ≡ Err (SameLabel 43)
unfolding book_of rules_from rule_from head_from body_from tail_from label_from kind_from weight_from close_from names_from name_of after token_where has only union intersection
label_first = refl

differs : Differs (other ∷ []) written
unfolding has only union intersection
differs = record {
  kind = other;
  targets = set_of (Pointed ∷ []);
  sources = set_of (Bounded ∷ []);
  conditions = no_conditions;
  is_kind = refl;
  are_targets = (omega arith, (Pointed, inl refl, refl, refl));
  are_sources = (omega arith, (Bounded, inl refl, refl, refl));
  are_conditions = refl;
  other = λ is. (let same = is.1 in omega arith);
}

mismatch_stands : HasFault (other ∷ []) one_too_many (SignatureMismatch 42)
mismatch_stands = of_rule (take 11 (tokens_of one_too_many)) (record { place = 41; text = codes ";" }) (drop 12 (tokens_of one_too_many)) [] written refl
    (record {
      form = All-cons HasForm written [] (record { label = refl; targets = (omega arith, refl); sources = (omega arith, refl); client = refl; weight = refl; conditions = refl }) (All-nil HasForm);
      words = refl;
    })
    (λ none same. both_ways (bytes_eq (codes ";") precondition_word) refl ((bytes_eq-Decides (codes ";") precondition_word).1 same)) differs

pub order_decides : OrderDecides
order_decides = record {
  agrees = none_is (pointed ∷ []) one_rule (rule ∷ []) is_read;
  mismatch = first_is (other ∷ []) one_rule (SignatureMismatch 42) other_first;
  first_kind = none_is (pointed ∷ other ∷ []) one_rule (rule ∷ []) first_is_read;
  still_mismatch = mismatch_stands;
  syntax = (first_is (other ∷ []) one_too_many (Syntax 42) syntax_first).stands;
  first = first_is (other ∷ []) one_too_many (Syntax 42) syntax_first;
  not_mismatch = not_first (SignatureMismatch 42) (Syntax 42) (neither 42 42 3 0 (omega arith) (λ e. omega arith)) (other ∷ []) one_too_many (first_is (other ∷ []) one_too_many (Syntax 42) syntax_first).stands;
  same_label = first_is (pointed ∷ []) two_labels (SameLabel 43) label_first;
}
