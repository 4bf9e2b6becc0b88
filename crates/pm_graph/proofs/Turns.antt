-- The turns of the loops that make rows of bits of sets.
use Rattle.pm_bits.specs.Sets.{IsEmpty, has}
use Rattle.pm_bits.specs.Table.{Table}
use Rattle.pm_geom.specs.Graphs.{holds}
use Rattle.pm_graph.proofs.Holds.{contains_holds, holds_contains, same_bool}
use Rattle.pm_graph.proofs.Marks.{contains_more}
use Rattle.pm_graph.specs.Tables.{AreColumnsOf, HaveLength, IsMarked, IsTableOf}
use Rattle.std.proofs.Common.{ap, arith, get_or, inl, inr, refl, subst, sym, ◌∙◌}
use Rattle.std.proofs.lemmas.Bool.{cases_eq}
use Rattle.std.proofs.lemmas.List.{get_or-set_other, get_or-set_same, length-take, take_more}
use Rattle.std.specs.List.{All, Contains, slice_index_or}
use Rattle.std.specs.Prelude.{Bool, IsTrue, List, [], length, slice_set, suc, take, zero, ℕ, ◌+◌, ◌++◌, ◌<◌, ◌↔◌, ◌∷◌, ◌≡◌, ◌⊎◌}

-- ---- one set more, as a row
abbrev Same : List Bool → List ℕ → Type 0
Same row set = (j : ℕ) → has row j ≡ holds set j

pushed : (rows : List (List Bool)) (sets : List (List ℕ)) (row : List Bool) (set : List ℕ) → length rows ≡ length sets → ((i : ℕ) → Same (slice_index_or rows i []) (slice_index_or sets i [])) → Same row set → (i : ℕ) → Same (slice_index_or (rows ++ row ∷ []) i []) (slice_index_or (sets ++ set ∷ []) i [])
pushed [] [] row set e h s zero = s
pushed [] [] row set e h s (suc i) = λ j. refl
pushed [] (t ∷ sets) row set e h s i = absurd (omega arith)
pushed (r ∷ rows) [] row set e h s i = absurd (omega arith)
pushed (r ∷ rows) (t ∷ sets) row set e h s zero = h 0
pushed (r ∷ rows) (t ∷ sets) row set e h s (suc i) = pushed rows sets row set (omega arith) (λ k. h (suc k)) s i

longer : {X : Type 0} (xs : List X) (y : X) → length (xs ++ y ∷ []) ≡ length xs + 1
longer [] y = refl
longer (z ∷ xs) y = let h = longer xs y in omega arith

pub none_in_table : (table : Table) (sets : List (List ℕ)) → table.rows ≡ [] → sets ≡ [] → IsTableOf sets table
none_in_table table sets e f = record { count = ap length e ∙ sym (ap length f); bits = λ i j. ap (λ rows. has (slice_index_or rows i []) j) e ∙ sym (ap (λ ss. holds (slice_index_or ss i []) j) f) }

pub one_row_more : (sets : List (List ℕ)) (old new : Table) (k : ℕ) (set : List ℕ) (row : List Bool) → k < length sets → set ≡ slice_index_or sets k [] → new.rows ≡ old.rows ++ row ∷ [] → ((j : ℕ) → has row j ≡ holds set j) → IsTableOf (take k sets) old → IsTableOf (take (k + 1) sets) new
one_row_more sets old new k set row l es n h t = record {
  count = ap length n ∙ longer old.rows row ∙ (let e = t.count in let f = longer (take k sets) (slice_index_or sets k []) in let g = ap length (take_more sets k [] l) in omega arith);
  bits = λ i j. ap (λ rows. has (slice_index_or rows i []) j) n ∙ pushed old.rows (take k sets) row set t.count t.bits h i j ∙ ap (λ ss. holds (slice_index_or ss i []) j) (sym (take_more sets k [] l ∙ ap (λ y. take k sets ++ y ∷ []) (sym es)));
}

-- ---- a place in the rows of the indices of a set
pub none_marked : (set : List ℕ) (place : ℕ) (rows : List (List Bool)) → set ≡ [] → IsMarked set place rows rows
none_marked set place rows e i j l = (λ t. inl t, λ w. elim w [ inl t ↦ t | inr c ↦ absurd (let q = subst (λ s. Contains s j) e c.1 in let m = q.1 in omega arith) ])

module _ (set : List ℕ) (place k : ℕ) (old rows : List (List Bool)) (x : ℕ) (before now : List Bool) (l : k < length set) (ex : x ≡ get_or set k x) (len : length rows ≡ length old) (lx : x < length rows) (is : before ≡ slice_index_or rows x []) (member : IsTrue (has now place)) (others : (i : ℕ) → ¬ (i ≡ place) → has now i ≡ has before i) (m : IsMarked (take k set) place old rows) where
  now_at : (i : ℕ) → IsTrue (has now i) ↔ (IsTrue (has (slice_index_or rows x []) i) ⊎ (i ≡ place))
  now_at i = elim (cases_eq i place) [
    | inl e ↦ (λ t. inr e, λ w. subst (λ p. IsTrue (has now p)) (sym e) member)
    | inr ne ↦ (
      λ t. inl (subst (λ r. IsTrue (has r i)) is (sym (others i ne) ∙ t)),
      λ w. elim w [ inl t ↦ others i ne ∙ subst (λ r. IsTrue (has r i)) (sym is) t | inr e ↦ absurd (ne e) ],
    )
  ]

  at_x : (i : ℕ) → IsTrue (has (slice_index_or (slice_set rows x now) x []) i) ↔ (IsTrue (has (slice_index_or old x []) i) ⊎ ((i ≡ place) × Contains (take (k + 1) set) x))
  at_x i = subst (λ r. IsTrue (has r i) ↔ (IsTrue (has (slice_index_or old x []) i) ⊎ ((i ≡ place) × Contains (take (k + 1) set) x))) (sym (get_or-set_same rows x now [] lx)) (
    λ t. elim ((now_at i).0 t) [
      | inl o ↦ elim ((m i x (omega arith)).0 o) [ inl a ↦ inl a | inr c ↦ inr (c.0, (contains_more set k x l ex x).1 (inl c.1)) ]
      | inr e ↦ inr (e, (contains_more set k x l ex x).1 (inr refl))
    ],
    λ w. elim w [ inl a ↦ (now_at i).1 (inl ((m i x (omega arith)).1 (inl a))) | inr c ↦ (now_at i).1 (inr c.0) ],
  )

  at_other : (i j : ℕ) → j < length old → ¬ (j ≡ x) → IsTrue (has (slice_index_or (slice_set rows x now) j []) i) ↔ (IsTrue (has (slice_index_or old j []) i) ⊎ ((i ≡ place) × Contains (take (k + 1) set) j))
  at_other i j lj ne = subst (λ r. IsTrue (has r i) ↔ (IsTrue (has (slice_index_or old j []) i) ⊎ ((i ≡ place) × Contains (take (k + 1) set) j))) (sym (get_or-set_other rows x j now [] ne)) (
    λ t. elim ((m i j lj).0 t) [ inl a ↦ inl a | inr c ↦ inr (c.0, (contains_more set k x l ex j).1 (inl c.1)) ],
    λ w. elim w [
      | inl a ↦ (m i j lj).1 (inl a)
      | inr c ↦ elim ((contains_more set k x l ex j).0 c.1) [ inl d ↦ (m i j lj).1 (inr (c.0, d)) | inr e ↦ absurd (ne (sym e)) ]
    ],
  )

  pub marked_more : IsMarked (take (k + 1) set) place old (slice_set rows x now)
  marked_more i j lj = elim (cases_eq j x) [
    | inl e ↦ subst (λ y. IsTrue (has (slice_index_or (slice_set rows x now) y []) i) ↔ (IsTrue (has (slice_index_or old y []) i) ⊎ ((i ≡ place) × Contains (take (k + 1) set) y))) (sym e) (at_x i)
    | inr ne ↦ at_other i j lj ne
  ]

  pub lengths_stay : length now ≡ length before → (j : ℕ) → length (slice_index_or (slice_set rows x now) j []) ≡ length (slice_index_or rows j [])
  lengths_stay e j = elim (cases_eq j x) [
    | inl q ↦ subst (λ y. length (slice_index_or (slice_set rows x now) y []) ≡ length (slice_index_or rows y [])) (sym q) (ap length (get_or-set_same rows x now [] lx) ∙ e ∙ ap length is)
    | inr ne ↦ ap length (get_or-set_other rows x j now [] ne)
  ]

-- ---- the places of one set more
at_pushed : (sets : List (List ℕ)) (set : List ℕ) (i j : ℕ) → IsTrue (holds (slice_index_or (sets ++ set ∷ []) i []) j) ↔ (IsTrue (holds (slice_index_or sets i []) j) ⊎ ((i ≡ length sets) × Contains set j))
at_pushed [] set zero j = (λ t. inr (refl, holds_contains set j t), λ w. elim w [ inl t ↦ absurd cc | inr c ↦ contains_holds set j c.1 ])
at_pushed [] set (suc i) j = (λ t. absurd cc, λ w. elim w [ inl t ↦ absurd cc | inr c ↦ absurd (let e = c.0 in omega arith) ])
at_pushed (s ∷ sets) set zero j = (λ t. inl t, λ w. elim w [ inl t ↦ t | inr c ↦ absurd (let e = c.0 in omega arith) ])
at_pushed (s ∷ sets) set (suc i) j = (
  λ t. elim ((at_pushed sets set i j).0 t) [ inl a ↦ inl a | inr c ↦ inr ((let e = c.0 in omega arith), c.1) ],
  λ w. (at_pushed sets set i j).1 (elim w [ inl a ↦ inl a | inr c ↦ inr ((let e = c.0 in omega arith), c.1) ]),
)

pub empty_columns : (len : ℕ) (sets : List (List ℕ)) (rows : List (List Bool)) → length rows ≡ len → All IsEmpty rows → sets ≡ [] → AreColumnsOf len sets rows
empty_columns len sets rows e h es = record { count = e; bits = λ i j l. h j [] (omega arith) i ∙ sym (ap (λ ss. holds (slice_index_or ss i []) j) es) }

pub one_column_more : (len : ℕ) (sets : List (List ℕ)) (old new : List (List Bool)) (k : ℕ) (set : List ℕ) → k < length sets → set ≡ slice_index_or sets k [] → length new ≡ length old → IsMarked set k old new → AreColumnsOf len (take k sets) old → AreColumnsOf len (take (k + 1) sets) new
one_column_more len sets old new k set l es ln m a = record { count = ln ∙ a.count; bits = bits }
  where
    more : take (k + 1) sets ≡ take k sets ++ set ∷ []
    more = take_more sets k [] l ∙ ap (λ y. take k sets ++ y ∷ []) (sym es)

    at : (i j : ℕ) → IsTrue (holds (slice_index_or (take (k + 1) sets) i []) j) ↔ (IsTrue (holds (slice_index_or (take k sets) i []) j) ⊎ ((i ≡ k) × Contains set j))
    at i j = subst (λ ss. IsTrue (holds (slice_index_or ss i []) j) ↔ (IsTrue (holds (slice_index_or (take k sets) i []) j) ⊎ ((i ≡ k) × Contains set j))) (sym more) (
      λ t. elim ((at_pushed (take k sets) set i j).0 t) [ inl b ↦ inl b | inr c ↦ inr ((let e = c.0 in let f = length-take k sets in omega arith), c.1) ],
      λ w. (at_pushed (take k sets) set i j).1 (elim w [ inl b ↦ inl b | inr c ↦ inr ((let e = c.0 in let f = length-take k sets in omega arith), c.1) ]),
    )

    bits : (i j : ℕ) → j < len → has (slice_index_or new j []) i ≡ holds (slice_index_or (take (k + 1) sets) i []) j
    bits i j lj = same_bool (has (slice_index_or new j []) i) (holds (slice_index_or (take (k + 1) sets) i []) j)
        (λ t. (at i j).1 (elim ((m i j (let e = a.count in omega arith)).0 t) [ inl o ↦ inl (sym (a.bits i j lj) ∙ o) | inr c ↦ inr c ]))
        (λ t. (m i j (let e = a.count in omega arith)).1 (elim ((at i j).0 t) [ inl o ↦ inl (a.bits i j lj ∙ o) | inr c ↦ inr c ]))

at_default : (rows : List (List Bool)) (i : ℕ) (d : List Bool) → i < length rows → slice_index_or rows i d ≡ slice_index_or rows i []
at_default [] i d l = absurd (omega arith)
at_default (r ∷ rows) zero d l = refl
at_default (r ∷ rows) (suc i) d l = at_default rows i d (omega arith)

pub all_lengths : (len : ℕ) (old new : List (List Bool)) → length new ≡ length old → ((j : ℕ) → length (slice_index_or new j []) ≡ length (slice_index_or old j [])) → HaveLength len old → HaveLength len new
all_lengths len old new e h a i d l = ap length (at_default new i d l) ∙ h i ∙ a i [] (omega arith)
