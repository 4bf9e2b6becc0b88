-- The programs that are told, one after another.
use Rattle.pm_object.specs.State.{State}
use Rattle.pm_object.specs.declared.held.Origin.{Origin}
use Rattle.pm_props.specs.Properties.{every_property}
use Rattle.pm_props.specs.declared.property.PropId.{PropId}
use Rattle.pm_script.specs.Replies.{program_seen}
use Rattle.pm_script.specs.declared.shown.ProgramHeld.{ProgramHeld}
use Rattle.pm_telling.proofs.Told.{take_more}
use Rattle.pm_telling.specs.Telling.{held_told, programs_told, told_there}
use Rattle.std.proofs.Common.{ap, arith, length, subst, sym, take, true≢false, ◌∙◌, ◌≤◌}
use Rattle.std.proofs.lemmas.List.{length-map, map-append, take_all}
use Rattle.std.proofs.lemmas.List.FromFn.{length-enumerate_from}
use Rattle.std.specs.List.{enumerate_from}
use Rattle.std.specs.Option.{is_some}
use Rattle.std.specs.Prelude.{List, Some, [], flat_map, map, slice_get, string_bytes, suc, zero, ℕ, ◌+◌, ◌++◌, ◌∷◌, ◌≡◌}

-- a program of this name at this place, as it is told
abbrev pub told_as : State → ℕ × List ℕ → List ℕ × List (PropId × Origin)
told_as o x = (x.1, held_told o (Some x.0))

same_some : {A : Type 0} {a b : A} → Some a ≡ Some b → a ≡ b
same_some e = cc

told_at : (o : State) (n i : ℕ) (names : List (List ℕ)) (name : List ℕ) → Some name ≡ slice_get names i → Some (told_as o (n + i, name)) ≡ slice_get (map (told_as o) (enumerate_from n names)) i
told_at o n i [] name e = absurd (true≢false (ap is_some e))
told_at o n zero (x ∷ names) name e = let k : n + 0 ≡ n = omega arith in ap (λ j. Some (told_as o (j, name))) k ∙ ap (λ y. Some (told_as o (n, y))) (same_some e)
told_at o n (suc i) (x ∷ names) name e = let k : n + suc i ≡ n + 1 + i = omega arith in ap (λ j. Some (told_as o (j, name))) k ∙ told_at o (n + 1) i names name e

-- a program of this name, of which these properties are asked
pub told_so : (o : State) (k : ℕ) (p : ProgramHeld) (name : List ℕ) (all : List PropId) → string_bytes p.name ≡ name → p.held.items ≡ flat_map (told_there o (Some k)) all → all ≡ every_property → program_seen p ≡ told_as o (k, name)
told_so o k p name all named held every = ap (λ (n : List ℕ). (n, p.held.items)) named ∙ ap (λ (h : List (PropId × Origin)). (name, h)) (held ∙ ap (flat_map (told_there o (Some k))) every)

-- one program more
pub one_more : (o : State) (programs news : List ProgramHeld) (k : ℕ) (p : ProgramHeld) (name : List ℕ) → map program_seen programs ≡ take k (programs_told o) → news ≡ programs ++ p ∷ []
    → Some name ≡ slice_get o.programs k → program_seen p ≡ told_as o (k, name) → map program_seen news ≡ take (k + 1) (programs_told o)
one_more o programs news k p name before pushed at is =
    let none : 0 + k ≡ k = omega arith in
    ap (map program_seen) pushed ∙ map-append program_seen programs (p ∷ []) ∙ ap (λ t. t ++ program_seen p ∷ []) before ∙ ap (λ t. take k (programs_told o) ++ t ∷ []) is
    ∙ sym (take_more (programs_told o) k (told_as o (k, name)) (subst (λ j. Some (told_as o (j, name)) ≡ slice_get (programs_told o) k) none (told_at o 0 k o.programs name at)))

-- all of them
pub all_told : (o : State) (programs : List ProgramHeld) (k : ℕ) → map program_seen programs ≡ take k (programs_told o) → length o.programs ≤ k → map program_seen programs ≡ programs_told o
all_told o programs k before le =
    let e = length-map (enumerate_from 0 o.programs) (told_as o) in
    let n = length-enumerate_from 0 o.programs in
    before ∙ take_all k (programs_told o) (omega arith)
