-- The examples of lines hold.
use Rattle.std.proofs.Common.{◌≡◌, ℕ, zero, suc, ◌+◌, List, [], ◌∷◌, ◌++◌, append-nil, subst, sym, take, Some, refl, arith, ◌∙◌}
use Rattle.pm_lines.specs.Coming.{Answers, BreaksOff, Exceeds, LetsGo}
use Rattle.pm_lines.specs.Examples.{LinesAreWhole, LinesCome, cut_line, fresh, with_last, with_line, with_nothing}
use Rattle.pm_lines.specs.Whole.{HasNoBreak, whole_lines}

pub lines_are_whole : LinesAreWhole
lines_are_whole = record { none = refl; one = refl; empty = refl }

cut_is_not : Answers (3 ∷ []) (Some (3 ∷ [])) with_line cut_line → ⊥
cut_is_not h =
    let left = h.1.others in
    let none = (h.2.last refl).1 in
    cc

late : (n : ℕ) → ◌≡◌ {A = ℕ} 4 (3 + n) → whole_lines (2 ∷ take n (10 ∷ 4 ∷ [])) ≡ [] → ⊥
late zero few e = omega arith
late (suc n) few e = cc

late_is_not : BreaksOff (10 ∷ 4 ∷ []) (Some (4 ∷ [])) with_line with_last → ⊥
late_is_not h = late h.0 h.1.read h.2

short_is_not : Exceeds (3 ∷ []) (Some []) fresh → ⊥
short_is_not h = let few = h.1 in let many = h.3 in omega arith

one_is_no_break : ◌≡◌ {A = ℕ} 1 10 → ⊥
one_is_no_break e = omega arith

two_is_no_break : ◌≡◌ {A = ℕ} 2 10 → ⊥
two_is_no_break e = omega arith

three_is_no_break : ◌≡◌ {A = ℕ} 3 10 → ⊥
three_is_no_break e = omega arith

break_gone : (n : ℕ) (gone : List ℕ) → ◌≡◌ {A = ℕ} 4 (3 + n) → HasNoBreak gone → 2 ∷ take n (10 ∷ 4 ∷ []) ≡ gone ++ [] → ⊥
break_gone zero gone few clear e = omega arith
break_gone (suc n) gone few clear e = let c = subst HasNoBreak (sym (e ∙ append-nil gone)) clear in c.1.0 refl

keeps_breaks : LetsGo (10 ∷ 4 ∷ []) (Some (4 ∷ [])) with_line with_nothing → ⊥
keeps_breaks h = break_gone h.n h.gone h.gave.read h.clear h.bytes

pub lines_come : LinesCome
lines_come = record {
  ended = (3, record { within = omega arith; others = refl; read = refl }, record { lines = refl; clear = (one_is_no_break, tt); bytes = λ e. refl; last = λ e. cc });
  last = (1, record { within = omega arith; others = refl; read = refl }, record { lines = refl; clear = (two_is_no_break, (three_is_no_break, tt)); bytes = λ e. cc; last = λ e. (refl, refl) });
  over = (refl, refl, refl);
  cut = cut_is_not;
  not_over = λ h. let e = h.0 in cc;
  breaks = (1, record { within = omega arith; others = refl; read = refl }, refl);
  breaks_late = late_is_not;
  lets_go = record { n = 1; gone = 2 ∷ []; gave = record { within = omega arith; others = refl; read = refl }; clear = (two_is_no_break, tt); bytes = refl };
  keeps_breaks = keeps_breaks;
  short = short_is_not;
}
