-- A line is printed part by part.
use Rattle.std.proofs.Common.{◌≡◌, ℕ, ◌+◌, ◌<◌, ◌≤◌, List, [], ◌∷◌, ◌++◌, length, get_or, drop, ap, sym, ◌∙◌, append_assoc, append-nil, codes}
use Rattle.std.proofs.lemmas.List.{drop_more}
use Rattle.std.proofs.Math.ListN.{drop_of_length-le}
use Rattle.std.proofs.lemmas.List.Concat.{flat_map-append}
use Rattle.pm_rules.specs.declared.rule.Rule.{Rule}
use Rattle.pm_books.specs.Writing.{spaced, line_of, text_of}

-- the parts of a rule behind its label
pub line_parts : (t0 t1 t2 t3 t4 t5 t6 t7 t8 label client weight : List ℕ) (targets sources conditions : List (List ℕ)) → t1 ≡ t0 ++ label
    → t2 ≡ t1 ++ spaced (codes ":" ∷ codes "rule" ∷ []) → t3 ≡ t2 ++ spaced targets → t4 ≡ t3 ++ spaced (codes ":" ∷ []) → t5 ≡ t4 ++ spaced sources
    → t6 ≡ t5 ++ spaced (codes "{" ∷ client ∷ codes "}" ∷ codes "weight" ∷ weight ∷ codes ";" ∷ []) → t7 ≡ t6 ++ spaced conditions → t8 ≡ t7 ++ 10 ∷ []
    → t8 ≡ t0 ++ (label ++ spaced (codes ":" ∷ codes "rule" ∷ (targets ++ codes ":" ∷ (sources ++ codes "{" ∷ client ∷ codes "}" ∷ codes "weight" ∷ weight ∷ codes ";" ∷ conditions))) ++ 10 ∷ [])
line_parts t0 t1 t2 t3 t4 t5 t6 t7 t8 label client weight targets sources conditions e1 e2 e3 e4 e5 e6 e7 e8 =
    rw (e8, e7, e6, e5, e4, e3, e2, e1) (simp (append_assoc, append-nil, flat_map-append))

-- a printed rule is the next of those that are left
pub line_printed : (text next total : List ℕ) (rules : List Rule) (rule : Rule) (i : ℕ) → i < length rules → rule ≡ get_or rules i rule → next ≡ text ++ line_of rule
    → text ++ text_of (drop i rules) ≡ total → next ++ text_of (drop (i + 1) rules) ≡ total
line_printed text next total rules rule i room is added left =
    let split : drop i rules ≡ rule ∷ drop (i + 1) rules = drop_more rules i rule room ∙ ap (λ r. r ∷ drop (i + 1) rules) (sym is) in
    rw (added, append_assoc text (line_of rule) (text_of (drop (i + 1) rules))) (rw split at left)

-- nothing is left behind the last rule
pub all_printed : (text total : List ℕ) (rules : List Rule) (i : ℕ) → length rules ≤ i → text ++ text_of (drop i rules) ≡ total → text ≡ total
all_printed text total rules i all left = sym (append-nil text) ∙ (rw (drop_of_length-le rules all) at left)
