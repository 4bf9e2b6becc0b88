-- Faults of small JSON values.
use Rattle.pm_json.specs.declared.fail.ValueFail.{ValueFail}
use Rattle.pm_json.specs.declared.fail.ValueFail.TheVariants.{Limit, Number, Shape}
use Rattle.pm_laws_texts.proofs.FirstOfValue.{shape_first, some_is}
use Rattle.pm_laws_texts.specs.ValueExamples.{FaultsStand, PlacesAreOrdered, nought, one, three, two, two_rows, x}
use Rattle.pm_laws_texts.specs.ValueFaults.{HasFault, NoFraction, OfCount, OfFirstEntry, OfRow}
use Rattle.pm_laws_texts.specs.Places.{AtItem, CountsFirst}
use Rattle.pm_limits.specs.Limits.{most_columns}
use Rattle.pm_props.specs.declared.property.PropId.TheVariants.{FVector, Pointed, Vertices}
use Rattle.serde_json.specs.Data.{Data, Items, array}
use Rattle.serde_json.specs.Find.{get_item}
use Rattle.std.proofs.Common.{arith, inl, inr, refl, subst, sym, true≢false, ◌∙◌}
use Rattle.std.specs.Prelude.{List, Some, [], ℕ, ◌∷◌, ◌≡◌, ◌⊎◌}
use lib.IntN.{pos}

pub places_are_ordered : PlacesAreOrdered
places_are_ordered = record {
  rows = inl (omega arith);
  entries = inr (refl, inl (omega arith));
  row_before_entry = inr (refl, tt);
  not_after = λ h. elim h [
    | inl l ↦ omega arith
    | inr e ↦ (let f = e.0 in omega arith)
  ];
  not_itself = λ h. elim h [
    | inl l ↦ omega arith
    | inr e ↦ e.1
  ];
  shape_first = inr (refl, omega arith);
  not_number = λ h. elim h [
    | inl l ↦ elim l [
      | inl m ↦ omega arith
      | inr e ↦ e.1
    ]
    | inr e ↦ (let f = e.1 in omega arith)
  ];
  limit_before = inl (inl (omega arith));
}

-- the fault at an item, where the item is known
at_known : (Has : ℕ → Data → List ℕ → ValueFail → Type 0) (ds : Items) (i : ℕ) (d : Data) (r : List ℕ) (f : ValueFail) → get_item i ds ≡ Some d → AtItem Has ds (i ∷ r) f → Has i d r f
at_known Has ds i d r f is (e, there, has) = subst (λ z. Has i z r f) (some_is (sym there ∙ is)) has

-- ---- two rows, of which the first is wrong
no_fault_at_nought : (f : ValueFail) → ¬ (NoFraction nought f)
no_fault_at_nought f h = let e = h.1 in cc

not_limit : ¬ (let f : ValueFail = Number in f ≡ Limit)
not_limit e = cc

not_shape_limit : ¬ (let f : ValueFail = Shape in f ≡ Limit)
not_shape_limit e = cc

-- a fault of an entry of the first row
in_first : (i : ℕ) (d : Data) (f : ValueFail) → get_item i (two nought x) ≡ Some d → HasFault Vertices two_rows (0 ∷ i ∷ []) f → NoFraction d f ⊎ (f ≡ Limit)
in_first i d f is (inr h) = absurd h
in_first i d f is (inl h) = elim (at_known (OfRow 1 most_columns 2) (two (array (two nought x)) (array (three nought nought nought))) 0 (array (two nought x)) (i ∷ []) f refl h) [
  | inl e ↦ elim (at_known (OfFirstEntry most_columns) (two nought x) i d [] f is e) [
    | inl k ↦ inl k.1
    | inr m ↦ inr m.1
  ]
  | inr t ↦ inr t.1
]

text_first : HasFault Vertices two_rows (0 ∷ 1 ∷ []) Number
text_first = inl (array (two nought x), refl, inl (x, refl, inl (refl, (refl, refl))))

not_before : ¬ (CountsFirst (1 ∷ 2 ∷ []) Shape (0 ∷ 1 ∷ []) Number)
not_before (inl (inl l)) = omega arith
not_before (inl (inr e)) = let f = e.0 in omega arith
not_before (inr e) = let f = e.0 in cc

pub faults_stand : FaultsStand
faults_stand = record {
  text = text_first;
  longer = inl (array (three nought nought nought), refl, inl (inl (nought, refl, (refl, inr (refl, omega arith)))));
  not_nought = λ h. elim (in_first 0 nought Number refl h) [
    | inl k ↦ no_fault_at_nought Number k
    | inr l ↦ not_limit l
  ];
  not_shape = λ h. elim (in_first 1 x Shape refl h) [
    | inl k ↦ (let e = k.0 in cc)
    | inr l ↦ not_shape_limit l
  ];
  answered = refl;
  not_second = λ h. not_before (h.first (0 ∷ 1 ∷ []) Number text_first);
  short = inl (array (one nought), refl, inl (inr (refl, refl, omega arith)));
  not_short = λ h. elim h [
    | inr b ↦ b
    | inl k ↦ elim (at_known (OfRow 1 most_columns 2) (two (array (two nought nought)) (array (two nought nought))) 1 (array (two nought nought)) (2 ∷ []) Shape refl k) [
      | inr m ↦ (let e = m.0 in cc)
      | inl a ↦ elim a [
        | inl e ↦ (let f = e.1 in cc)
        | inr t ↦ (let l = t.2 in omega arith)
      ]
    ]
  ];
  no_entry = inr (refl, refl, omega arith);
  columns = inr (refl, inr (pos 3, refl, (refl, λ e. (let f = same_pos 3 2 e in omega arith))));
  not_in_a_row = λ h. elim h [
    | inr b ↦ (let e = b.0 in cc)
    | inl k ↦ elim (at_known (OfRow 1 most_columns 2) (one (array (two nought nought))) 0 (array (two nought nought)) (0 ∷ []) Number refl k) [
      | inr t ↦ not_limit t.1
      | inl e ↦ elim (at_known (OfFirstEntry most_columns) (two nought nought) 0 nought [] Number refl e) [
        | inl f ↦ no_fault_at_nought Number f.1
        | inr m ↦ not_limit m.1
      ]
    ]
  ];
  no_array = shape_first (HasFault FVector x) (refl, refl);
  no_count = (x, refl, inl (refl, (refl, refl)));
  a_count = λ h. elim (at_known OfCount (one nought) 0 nought [] Number refl h) [
    | inl k ↦ (let e = k.1.1 in cc)
    | inr m ↦ not_limit m.1
  ];
  no_truth = shape_first (HasFault Pointed nought) (refl, refl);
  no_dimension = (refl, inr (refl, (pos 0, refl, refl, refl)));
  no_number = (refl, ((refl, refl), refl, refl));
  infinite = λ h. true≢false h.1.1;
}
  where
    same_pos : (a b : ℕ) → pos a ≡ pos b → a ≡ b
    same_pos a b h = cc
