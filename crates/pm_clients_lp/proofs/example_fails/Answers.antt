use Rattle.pm_clients_lp.proofs.example_fails.Goals as goal
use Rattle.std.proofs.Common.{inl, inr, refl}

pub returns : goal.returns
returns c = record {
  memory = tt;
  memory_for_rays = tt;
  memory_for_wide_rays = tt;
  dual = λ e h. inr h;
  product = λ h. h.shown.shown;
  pivot = λ h. elim h.shown.shown [ inl p ↦ p | inr p ↦ p ];
  face_pivot = λ h. elim h.shown [ inl p ↦ p.shown | inr p ↦ p.shown ];
  wide_product = λ h. h.shown.shown;
  wide_pivot = λ h. elim h.shown.shown [ inl p ↦ p | inr p ↦ p ];
  wide_face_pivot = λ h. cc;
  wide_face = λ e h. cc;
  wide_face_memory = refl;
  rows = refl;
  no_rows = refl;
}
