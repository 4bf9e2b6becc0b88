-- Faults of small texts, worked by hand: what stands where, and which is the first.
use Rattle.std.specs.Prelude.{ℕ, List, [], ◌∷◌, codes}
use Rattle.pm_books.specs.declared.fail.BookFail.{BookFail}
use Rattle.pm_books.specs.declared.fail.BookFail.TheVariants.{SameLabel, SignatureMismatch, Syntax, UnknownClient, UnknownProperty, WeightRange}
use Rattle.pm_laws_texts.specs.BookFaults.{HasFault, IsFirstFault}
use Rattle.pm_props.specs.Sets.{set_of}
use Rattle.pm_props.specs.declared.kind.Kind.{Kind}
use Rattle.pm_props.specs.declared.property.PropId.TheVariants.{Bounded, Feasible, Pointed}

-- four words of this rule mean nothing
abbrev pub four_faults : List ℕ
four_faults = codes "a : rule X : Y { c } weight 0;"

pub record FaultsStand : Type 0 where
  pub target : HasFault [] four_faults (UnknownProperty 9)
  pub source : HasFault [] four_faults (UnknownProperty 13)
  pub client : HasFault [] four_faults (UnknownClient 17)
  pub weight : HasFault [] four_faults (WeightRange 28)
  pub first : IsFirstFault [] four_faults (UnknownProperty 9)
  pub not_later : ¬ (IsFirstFault [] four_faults (UnknownClient 17))
  pub not_there : ¬ (HasFault [] four_faults (Syntax 9))
  -- the text ends too soon, or has a word that cannot stand there
  pub too_soon : IsFirstFault [] (codes "a") (Syntax 1)
  pub no_such_word : IsFirstFault [] (codes "a b c") (Syntax 2)
  pub not_before : ¬ (HasFault [] (codes "a b c") (Syntax 0))
  pub nothing : (f : BookFail) → ¬ (HasFault [] [] f)

-- from BOUNDED, `c` finds POINTED
abbrev pub pointed : Kind
pointed = record {
  name = codes "c";
  targets = set_of (Pointed ∷ []);
  sources = set_of (Bounded ∷ []);
  must = 0;
  must_not = 0;
}

-- and from FEASIBLE
abbrev pub other : Kind
other = record {
  name = codes "c";
  targets = set_of (Pointed ∷ []);
  sources = set_of (Feasible ∷ []);
  must = 0;
  must_not = 0;
}

abbrev pub one_rule : List ℕ
one_rule = codes "a : rule POINTED : BOUNDED { c } weight 1;"

-- with a second `;`
abbrev pub one_too_many : List ℕ
one_too_many = codes "a : rule POINTED : BOUNDED { c } weight 1;;"

-- with another label behind it
abbrev pub two_labels : List ℕ
two_labels = codes "a : rule POINTED : BOUNDED { c } weight 1; a"

-- what is at one place counts by the order of the faults
pub record OrderDecides : Type 0 where
  pub agrees : (f : BookFail) → ¬ (HasFault (pointed ∷ []) one_rule f)
  pub mismatch : IsFirstFault (other ∷ []) one_rule (SignatureMismatch 42)
  -- the first kind of the name counts
  pub first_kind : (f : BookFail) → ¬ (HasFault (pointed ∷ other ∷ []) one_rule f)
  pub still_mismatch : HasFault (other ∷ []) one_too_many (SignatureMismatch 42)
  pub syntax : HasFault (other ∷ []) one_too_many (Syntax 42)
  pub first : IsFirstFault (other ∷ []) one_too_many (Syntax 42)
  pub not_mismatch : ¬ (IsFirstFault (other ∷ []) one_too_many (SignatureMismatch 42))
  pub same_label : IsFirstFault (pointed ∷ []) two_labels (SameLabel 43)
