-- Faults of the values of small files.
use Rattle.pm_json.specs.declared.fail.ValueFail.{ValueFail}
use Rattle.pm_json.specs.declared.fail.ValueFail.TheVariants.{Limit, Number, Shape}
use Rattle.pm_laws_texts.proofs.FirstOfValue.{some_is}
use Rattle.pm_laws_texts.specs.ValueExamples.{nought, one, two, x}
use Rattle.pm_laws_texts.specs.FileExamples.{KeysAreNamed, five_programs, program}
use Rattle.pm_laws_texts.specs.FileFaults.{OfProgram}
use Rattle.pm_laws_texts.specs.Places.{AtItem, CountsFirst}
use Rattle.serde_json.specs.Data.{Data, Items, array, member, no_members, object}
use Rattle.serde_json.specs.Find.{get_item}
use Rattle.std.proofs.Common.{arith, inl, inr, refl, subst, sym, ◌∙◌}
use Rattle.std.specs.Prelude.{List, Some, [], codes, ℕ, ◌∷◌, ◌≡◌}

at_known : (Has : ℕ → Data → List ℕ → ValueFail → Type 0) (ds : Items) (i : ℕ) (d : Data) (r : List ℕ) (f : ValueFail) → get_item i ds ≡ Some d → AtItem Has ds (i ∷ r) f → Has i d r f
at_known Has ds i d r f is (e, there, has) = subst (λ z. Has i z r f) (some_is (sym there ∙ is)) has

not_before : ¬ (CountsFirst (1 ∷ 0 ∷ 1 ∷ []) Number (0 ∷ []) Shape)
not_before (inl (inl l)) = omega arith
not_before (inl (inr e)) = let f = e.0 in omega arith
not_before (inr e) = let f = e.0 in cc

pub keys_are_named : KeysAreNamed
keys_are_named = record {
  first = (refl, refl);
  second = inl (array (two nought x), refl, inl (x, refl, inl (refl, (refl, refl))));
  named = refl;
  answered = refl;
  not_second = λ h. not_before (h.first (0 ∷ []) Shape (refl, refl));
  other_key = λ h. h;
  no_programs = (refl, refl);
  of_a_cone = λ h. h;
  fifth = (program, refl, inl (refl, refl, omega arith));
  not_fourth = λ h. elim (at_known OfProgram five_programs 3 program [] Limit refl h) [
    | inl k ↦ (let l = k.2 in omega arith)
    | inr o ↦ o
  ];
  objective = (object (member (codes "LINEAR_OBJECTIVE") (array (one x)) no_members), refl, inr (inl (x, refl, inl (refl, (refl, refl)))));
}
