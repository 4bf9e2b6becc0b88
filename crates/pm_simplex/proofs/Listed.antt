-- Lists that are made value by value.
use Rattle.pm_vector.specs.Numbers.{Ratio}
use Rattle.pm_fraction.specs.Fractions.{ratio_of}
use Rattle.pm_simplex.proofs.Pushed.{count_pushed, pushed}
use Rattle.pm_simplex.specs.Solutions.{Lists}
use Rattle.pm_simplex.specs.States.{upward}
use Rattle.std.proofs.Common.{ap, ap₂, arith, refl, ◌∙◌}
use Rattle.std.specs.Prelude.{List, [], map, suc, zero, ℕ, ◌+◌, ◌++◌, ◌∷◌, ◌≡◌}
use lib.IntN.{pos}

pub lists_none : (f : ℕ → Ratio) (n : ℕ) → Lists f n 0 []
lists_none f n = record { count = refl; each = λ j l. absurd (omega arith) }

pub lists_more : (f : ℕ → Ratio) (n m : ℕ) (v w : List Ratio) (r : Ratio) → Lists f n m v → w ≡ v ++ r ∷ [] → r ≡ f (n + m) → Lists f n (m + 1) w
lists_more f n m v w r h e q = record {
  count = count_pushed v w r m e h.count;
  each = pushed (λ k x. x ≡ f (n + k)) (ratio_of (pos 0) (pos 1)) v w r m e h.count h.each q;
}

pub listed : (f : ℕ → Ratio) (n m : ℕ) (v : List Ratio) → Lists f n m v → v ≡ map f (upward n m)
listed f n zero [] h = refl
listed f n zero (r ∷ v) h = absurd (let c = h.count in omega arith)
listed f n (suc m) [] h = absurd (let c = h.count in omega arith)
listed f n (suc m) (r ∷ v) h =
    ap₂ cons (h.each 0 (omega arith) ∙ ap f (omega arith))
    (listed f (n + 1) m v (record { count = (let c = h.count in omega arith); each = λ j l. h.each (suc j) (omega arith) ∙ ap f (omega arith) }))
  where
    cons : Ratio → List Ratio → List Ratio
    cons a b = a ∷ b
