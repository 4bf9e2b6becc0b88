-- Intersections that come one after another, of which the maximal ones are kept.
use Rattle.pm_vector.proofs.Filters.{among_filter, filter_among}
use Rattle.pm_vector.proofs.Lists.{All_among, Among, Any_among, Contains_among, among_All, among_Any, among_Contains, among_append, among_append_left, among_append_right, here, there}
use Rattle.pm_laws_normal_fans.proofs.Places.{among_at}
use Rattle.pm_laws_normal_fans.specs.Fans.{Fan}
use Rattle.pm_laws_normal_fans.specs.Refinements.{AreKeptIntersections, Intersection, IsEarlier, IsWithin, KeptWith, KeptWithout, Tells}
use Rattle.std.proofs.Common.{arith, false, inl, inr, refl, true}
use Rattle.std.proofs.lemmas.List.Kept.{AllPairs-filter}
use Rattle.std.proofs.lemmas.List.Quantifiers.{all_pairs_push}
use Rattle.std.specs.List.{All, AllPairs, Any, Contains, slice_index_or}
use Rattle.std.specs.Prelude.{Bool, List, [], filter, ℕ, ◌++◌, ◌∷◌, ◌≡◌}

not_both : (a b : Intersection) → IsEarlier a b → IsEarlier b a → ⊥
not_both a b (inl p) (inl q) = absurd (omega arith)
not_both a b (inl p) (inr q) = let e = q.0 in absurd (omega arith)
not_both a b (inr p) (inl q) = let e = p.0 in absurd (omega arith)
not_both a b (inr p) (inr q) = let e = p.1 in let d = q.1 in absurd (omega arith)

module _ (n : ℕ) (f g : Fan) (done kept : List Intersection) (c : Intersection) (are : AreKeptIntersections n f g done kept) (later : All (λ b. IsEarlier b c) done) where
  abbrev Covers : Intersection → Intersection → Type 0
  Covers b a = IsWithin n f g b a × (IsWithin n f g a b → ¬ (IsEarlier b a))

  is_later : (b : Intersection) → Among b done → IsEarlier b c
  is_later b i = among_All (λ b. IsEarlier b c) i later

  seen : (a : Intersection) → Among a kept → Among a done
  seen a i = among_Contains done (among_All (Contains done) i are.some)

  covered : (b : Intersection) → Among b done → (a : Intersection) × Among a kept × Covers b a
  covered b i = among_Any (Covers b) kept (among_All (λ b. Any (Covers b) kept) i are.cover)

  without : Any (IsWithin n f g c) kept → AreKeptIntersections n f g (done ++ c ∷ []) kept
  without some = record {
    some = All_among (Contains (done ++ c ∷ [])) kept (λ a i. Contains_among (among_append_left (c ∷ []) (seen a i)));
    cover = All_among (λ b. Any (Covers b) kept) (done ++ c ∷ []) cover;
    once = are.once;
  }
    where
      last : (b : Intersection) → Among b (c ∷ []) → Any (Covers b) kept
      last b here = let (a, ia, w) = among_Any (IsWithin n f g c) kept some in Any_among (Covers c) ia (w, λ v e. not_both a c (is_later a (seen a ia)) e)
      last b (there i) = elim i [ ]

      cover : (b : Intersection) → Among b (done ++ c ∷ []) → Any (Covers b) kept
      cover b i = elim (among_append done (c ∷ []) i) [ inl j ↦ among_All (λ b. Any (Covers b) kept) j are.cover | inr j ↦ last b j ]

  module _ (stays : Intersection → Bool) (new : ¬ (Any (IsWithin n f g c) kept)) (tells : Tells n f g c kept stays) where
    abbrev others : List Intersection
    others = filter stays kept

    abbrev now : List Intersection
    now = others ++ c ∷ []

    abbrev IsApart : Intersection → Intersection → Type 0
    IsApart a b = IsEarlier a b × ¬ (IsWithin n f g a b) × ¬ (IsWithin n f g b a)

    from_other : (a : Intersection) → Among a others → Among a kept × (stays a ≡ true)
    from_other a i = filter_among stays kept i

    some_now : (a : Intersection) → Among a now → Contains (done ++ c ∷ []) a
    some_now a i = elim (among_append others (c ∷ []) i) [ inl j ↦ Contains_among (among_append_left (c ∷ []) (seen a (from_other a j).0)) | inr j ↦ Contains_among (among_append_right done j) ]

    last_now : Among c now
    last_now = among_append_right others here

    by_stay : (b a : Intersection) → Among a kept → Covers b a → (t : Bool) → stays a ≡ t → Any (Covers b) now
    by_stay b a ia w true e = Any_among (Covers b) (among_append_left (c ∷ []) (among_filter stays ia e)) w
    by_stay b a ia w false e =
        let v = among_All (λ a. stays a ≡ false → IsWithin n f g a c) ia tells.no e in
        Any_among (Covers b) last_now (λ x lx h. v x lx (w.0 x lx h), λ back early. new (Any_among (IsWithin n f g c) ia (λ x lx h. w.0 x lx (back x lx h))))

    last_cover : (b : Intersection) → Among b (c ∷ []) → Any (Covers b) now
    last_cover b here = Any_among (Covers c) last_now (λ x lx h. h, λ back early. not_both c c early early)
    last_cover b (there i) = elim i [ ]

    cover_now : (b : Intersection) → Among b (done ++ c ∷ []) → Any (Covers b) now
    cover_now b i = elim (among_append done (c ∷ []) i) [ inl j ↦ (let (a, ia, w) = covered b j in by_stay b a ia w (stays a) refl) | inr j ↦ last_cover b j ]

    once_now : AllPairs IsApart now
    once_now = all_pairs_push IsApart others c (AllPairs-filter IsApart stays kept are.once) (λ k d l.
        let i = among_at d others k l in
        let a = from_other (slice_index_or others k d) i in
        (is_later (slice_index_or others k d) (seen (slice_index_or others k d) a.0), among_All (λ a. stays a ≡ true → ¬ (IsWithin n f g a c)) a.0 tells.yes a.1, λ w. new (Any_among (IsWithin n f g c) a.0 w)))

    with_it : AreKeptIntersections n f g (done ++ c ∷ []) now
    with_it = record { some = All_among (Contains (done ++ c ∷ [])) now some_now; cover = All_among (λ b. Any (Covers b) now) (done ++ c ∷ []) cover_now; once = once_now }

pub kept_without : KeptWithout
kept_without n f g done kept c are later some = without n f g done kept c are later some

pub kept_with : KeptWith
kept_with n f g done kept c stays are later new tells = with_it n f g done kept c are later stays new tells
