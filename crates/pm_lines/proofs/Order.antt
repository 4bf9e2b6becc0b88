-- The lines of a script lie in order: those that an LF ended, and then at most one that none did.
use Rattle.std.proofs.Common.{◌≡◌, ℕ, ◌≤◌, true, not, List, [], ◌∷◌, ◌++◌, filter, length, refl, ap, arith, inl, inr, eqb}
use Rattle.std.proofs.lemmas.Bool.{cases_Bool, cond_both}
use Rattle.pm_command.specs.Lines.{Line, lines_of, onto_first}
use Rattle.pm_lines.specs.Laws.{WholeLinesFirst}

-- each line but the last was ended by an LF
abbrev AreOrdered : List Line → Type 0
AreOrdered [] = Unit {0}
AreOrdered (line ∷ []) = Unit {0}
AreOrdered (line ∷ next ∷ lines) = (line.ended ≡ true) × AreOrdered (next ∷ lines)

ordered_ended : (lines : List Line) (line : Line) → line.ended ≡ true → AreOrdered lines → AreOrdered (line ∷ lines)
ordered_ended [] line e h = tt
ordered_ended (next ∷ lines) line e h = (e, h)

ordered_onto : (b : ℕ) (lines : List Line) → AreOrdered lines → AreOrdered (onto_first b lines)
ordered_onto b [] h = tt
ordered_onto b (line ∷ []) h = tt
ordered_onto b (line ∷ next ∷ lines) h = (h.0, h.1)

ordered : (bytes : List ℕ) → AreOrdered (lines_of bytes)
ordered [] = tt
ordered (b ∷ bytes) = cond_both (eqb b 10) (record { bytes = []; ended = true } ∷ lines_of bytes) (onto_first b (lines_of bytes)) AreOrdered
    (λ e. ordered_ended (lines_of bytes) (record { bytes = []; ended = true }) refl (ordered bytes))
    (λ e. ordered_onto b (lines_of bytes) (ordered bytes))

abbrev whole : List Line → List Line
whole lines = filter (λ (line : Line). line.ended) lines

abbrev unended : List Line → List Line
unended lines = filter (λ (line : Line). not line.ended) lines

-- lines in order, in two parts
record Parted (lines : List Line) : Type 0 where
  parts : lines ≡ whole lines ++ unended lines
  last : length (unended lines) ≤ 1

parted_ended : (line : Line) (lines : List Line) → line.ended ≡ true → Parted lines → Parted (line ∷ lines)
parted_ended line lines e h = record {
  parts = simp e (ap (λ (t : List Line). line ∷ t) h.parts);
  last = simp e h.last;
}

parted : (lines : List Line) → AreOrdered lines → Parted lines
parted [] h = record { parts = refl; last = omega arith }
parted (line ∷ []) h = elim (cases_Bool line.ended) [
  | inl e ↦ parted_ended line [] e (record { parts = refl; last = omega arith })
  | inr e ↦ record { parts = simp e; last = simp e (omega arith) }
]
parted (line ∷ next ∷ lines) h = parted_ended line (next ∷ lines) h.0 (parted (next ∷ lines) h.1)

pub whole_lines_first : (bytes : List ℕ) → WholeLinesFirst bytes
whole_lines_first bytes = let p = parted (lines_of bytes) (ordered bytes) in record { lines = p.parts; last = p.last }
