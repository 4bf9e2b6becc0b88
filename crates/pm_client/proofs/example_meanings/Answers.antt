use Rattle.pm_client.proofs.example_meanings.Goals as goal
use Rattle.pm_client.specs.MeaningExamples.{bare, view_of_name}
use Rattle.std.proofs.Common.{inl, inr, refl, sym, true≢false, ◌≡◌}
use Rattle.std.specs.Prelude.{codes, ℕ}

two_is_one : ◌≡◌ {A = ℕ} 2 1 → ⊥
two_is_one h = cc

pub returns : goal.returns
returns c = record {
  one = inl (refl, refl);
  second = inr (inl (refl, refl));
  not_so = λ h. elim h [ inl p ↦ two_is_one p.1 | inr p ↦ p ];
  other_kind = λ h. elim h [ inl p ↦ true≢false (sym p.0) | inr p ↦ p ];
  none = λ h. h;
  no_failure = λ f h. elim h [ inl p ↦ p.1 | inr p ↦ p ];
  narrows = record { gives = λ v d p. tt; fails = λ v f p. tt };
  not_narrows = λ h. h.gives (view_of_name (codes "a")) (bare (codes "a")) tt;
}
