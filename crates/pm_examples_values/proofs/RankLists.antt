-- Faces of the least and of the greatest rank, lists that are all faces, and the faces of cones with one ray and with two.
use Rattle.pm_geom.proofs.Holds.{among_holds, holds_among}
use Rattle.pm_vector.proofs.Lists.{AllPairs_cons, All_among, Among, Any_among, all_at, here, there}
use Rattle.pm_vector.specs.Cones.{InCone}
use Rattle.pm_vector.specs.Rows.{HasCols, Row}
use Rattle.pm_geom.specs.Cones.{IsOrder}
use Rattle.pm_geom.specs.FaceCounts.{IsHasseDiagram, IsLexBefore, SamePlaces, at_rank}
use Rattle.pm_geom.specs.Faces.{HasChain, HasRank, IsStrictlyIn}
use Rattle.pm_geom.specs.GraphExamples.{ray_lattice, segment_lattice}
use Rattle.pm_geom.specs.Graphs.{IsAscending, holds}
use Rattle.pm_graph.proofs.Holds.{same_bool}
use Rattle.pm_ranks.proofs.Diagrams.{same_rank}
use Rattle.pm_ranks.proofs.RankLaws.{ranks_descend, ranks_rise}
use Rattle.pm_ranks.proofs.Whole.{first_rank, second_rank, whole_is_face}
use Rattle.pm_examples_values.proofs.GraphTests.{is_rising, rising_ascends}
use Rattle.std.proofs.Common.{arith, inl, inr, refl, subst, sym, ◌∙◌}
use Rattle.std.proofs.lemmas.Bool.{cases_Bool, cases_eq, false_from_ne_true}
use Rattle.std.specs.List.{AllByRecursion, AllPairs}
use Rattle.std.specs.Prelude.{Bool, IsTrue, List, [], false, length, suc, true, zero, ℕ, ◌<◌, ◌∷◌, ◌≡◌, ◌≤◌, ◌⊎◌}

-- ---- lists in the form of all faces by rank
abbrev AreOrdered : List (List ℕ) → Type 0
AreOrdered [] = Unit {0}
AreOrdered (f ∷ fs) = AllByRecursion (IsLexBefore f) fs × AreOrdered fs

pub record IsForm (m : ℕ) (faces : List (List ℕ)) : Type 0 where
  pub some : ¬ (faces ≡ [])
  pub rising : AllByRecursion (λ f. IsTrue (is_rising m f)) faces
  pub ordered : AreOrdered faces

in_order : (faces : List (List ℕ)) → AreOrdered faces → AllPairs IsLexBefore faces
in_order [] o = λ i j d l m. absurd (omega arith)
in_order (f ∷ fs) o = AllPairs_cons IsLexBefore f fs (λ g i. all_at (IsLexBefore f) i o.0) (in_order fs o.1)

rank_rising : (m : ℕ) (ranks : List (List (List ℕ))) → AllByRecursion (IsForm m) ranks → (k : ℕ) → AllByRecursion (λ f. IsTrue (is_rising m f)) (at_rank ranks k)
rank_rising m [] h k = tt
rank_rising m (r ∷ ranks) h zero = h.0.rising
rank_rising m (r ∷ ranks) h (suc k) = rank_rising m ranks h.1 k

rank_ordered : (m : ℕ) (ranks : List (List (List ℕ))) → AllByRecursion (IsForm m) ranks → (k : ℕ) → AreOrdered (at_rank ranks k)
rank_ordered m [] h k = tt
rank_ordered m (r ∷ ranks) h zero = h.0.ordered
rank_ordered m (r ∷ ranks) h (suc k) = rank_ordered m ranks h.1 k

abbrev pub Listed : List (List (List ℕ)) → ℕ → ℕ → (ℕ → Bool) → Type 0
Listed ranks m k f = (g : List ℕ) × Among g (at_rank ranks k) × SamePlaces m f (holds g)

module _ (n : ℕ) (G L V : List Row) where
  pub diagram_by : (ranks : List (List (List ℕ))) → AllByRecursion (IsForm (length V)) ranks → ((k : ℕ) (f : List ℕ) → Among f (at_rank ranks k) → HasRank n G L V (holds f) k) → ((k : ℕ) (f : ℕ → Bool) → HasRank n G L V f k → Listed ranks (length V) k f) → IsHasseDiagram n G L V ranks
  diagram_by ranks form each all = record {
    each = λ k. record {
      each = All_among (λ f. IsAscending (length V) f × HasRank n G L V (holds f) k) (at_rank ranks k) (λ f i. (rising_ascends (length V) f (all_at (λ f. IsTrue (is_rising (length V) f)) i (rank_rising (length V) ranks form k)), each k f i));
      all = λ f r. let w = all k f r in Any_among (λ g. SamePlaces (length V) f (holds g)) w.1 w.2;
      ordered = in_order (at_rank ranks k) (rank_ordered (length V) ranks form k);
    };
    full = All_among (λ faces. ¬ (faces ≡ [])) ranks (λ r i. (all_at (IsForm (length V)) i form).some);
  }

  -- ---- chains of faces
  shorter : (k : ℕ) (f : ℕ → Bool) → HasChain n G L V (suc k) f → HasChain n G L V k f
  shorter zero f c = tt
  shorter (suc k) f (g, face, s, (h, face', s', c)) = (h, face', record { included = λ j l t. s.included j l (s'.included j l t); j = s'.j; below = s'.below; has = s.included s'.j s'.below s'.has; lacks = s'.lacks }, c)

  shorten : (t k : ℕ) → t ≤ k → (f : ℕ → Bool) → HasChain n G L V k f → HasChain n G L V t f
  shorten t zero l f c = let e : 0 ≡ t = omega arith in subst (λ m. HasChain n G L V m f) e c
  shorten t (suc k) l f c = elim (cases_eq t (suc k)) [
    | inl e ↦ subst (λ m. HasChain n G L V m f) (sym e) c
    | inr ne ↦ shorten t k (let q = ne in omega arith) f (shorter k f c)
  ]

  to_whole : (k : ℕ) (f : ℕ → Bool) → HasChain n G L V k f → HasChain n G L V k (λ j. true)
  to_whole zero f c = tt
  to_whole (suc k) f (g, face, s, c) = (g, face, record { included = λ j l t. refl; j = s.j; below = s.below; has = refl; lacks = s.lacks }, c)

  module _ (t : ℕ) (whole : HasRank n G L V (λ j. true) t) where
    -- no other face has the rank of the whole
    pub whole_only : (f : ℕ → Bool) → HasRank n G L V f t → SamePlaces (length V) f (λ j. true)
    whole_only f r j l = elim (cases_Bool (f j)) [
      | inl e ↦ e
      | inr e ↦ absurd (let k = ranks_rise n G L V f (λ j. true) t t r whole (record { included = λ i m s. refl; j = j; below = l; has = refl; lacks = λ s. let y : true ≡ false = sym s ∙ e in cc }) in omega arith)
    ]

    pub none_higher : (k : ℕ) → t < k → (f : ℕ → Bool) → ¬ (HasRank n G L V f k)
    none_higher k l f r = whole.greatest (shorten (suc t) k (omega arith) (λ j. true) (to_whole k f r.chain))

-- ---- the least face, and single rays
only_member : {x y : ℕ} → Among y (x ∷ []) → y ≡ x
only_member here = refl
only_member (there i) = elim i [ ]

is_member : {x y : ℕ} → y ≡ x → Among y (x ∷ [])
is_member {x} e = subst (λ y. Among y (x ∷ [])) (sym e) here

module _ (n : ℕ) (G L : List Row) (hg : HasCols n G) (hl : HasCols n L) (V : List Row) (o : IsOrder n (InCone G L) V) where
  pub single : (i : ℕ) → i < length V → HasRank n G L V (holds (i ∷ [])) 1
  single i l = (first_rank n G L hg hl V o (holds (i ∷ []))).1 (i, l, λ x lx. (λ t. only_member (holds_among (i ∷ []) x t), λ e. among_holds (i ∷ []) x (is_member e)))

  pub single_only : (f : ℕ → Bool) → HasRank n G L V f 1 → (i : ℕ) × (i < length V) × SamePlaces (length V) f (holds (i ∷ []))
  single_only f r =
      let w = (first_rank n G L hg hl V o f).0 r in
      (w.0, w.1, λ x lx. same_bool (f x) (holds (w.0 ∷ []) x) (λ t. among_holds (w.0 ∷ []) x (is_member ((w.2 x lx).0 t))) (λ t. (w.2 x lx).1 (only_member (holds_among (w.0 ∷ []) x t))))

  module _ (l : 0 < length V) where
    pub least : HasRank n G L V (holds []) 0
    least = let w = ranks_descend n G L V (holds (0 ∷ [])) 0 (single 0 l) in same_rank n G L V 0 (empty w.0 w.1) w.2
      where
        empty : (g : ℕ → Bool) → IsStrictlyIn (length V) g (holds (0 ∷ [])) → SamePlaces (length V) g (holds [])
        empty g s j lj = false_from_ne_true (g j) (λ t. s.lacks (subst (λ y. IsTrue (g y)) (only_member (holds_among (0 ∷ []) j (s.included j lj t)) ∙ sym (only_member (holds_among (0 ∷ []) s.j s.has))) t))

    pub least_only : (f : ℕ → Bool) → HasRank n G L V f 0 → SamePlaces (length V) f (holds [])
    least_only f r j lj = false_from_ne_true (f j) (λ t. r.greatest (holds [], least.face, record { included = λ i m s. absurd cc; j = j; below = lj; has = t; lacks = λ s. absurd cc }, tt))

-- ---- one ray
module _ (n : ℕ) (G L : List Row) (hg : HasCols n G) (hl : HasCols n L) (v : Row) (o : IsOrder n (InCone G L) (v ∷ [])) where
  one_whole : HasRank n G L (v ∷ []) (λ j. true) 1
  one_whole = (first_rank n G L hg hl (v ∷ []) o (λ j. true)).1 (0, omega arith, λ x lx. (λ t. omega arith, λ e. refl))

  one_each : (k : ℕ) (f : List ℕ) → Among f (at_rank ray_lattice k) → HasRank n G L (v ∷ []) (holds f) k
  one_each zero f here = least n G L hg hl (v ∷ []) o (omega arith)
  one_each zero f (there i) = elim i [ ]
  one_each (suc zero) f here = single n G L hg hl (v ∷ []) o 0 (omega arith)
  one_each (suc zero) f (there i) = elim i [ ]
  one_each (suc (suc k)) f i = elim i [ ]

  one_all : (k : ℕ) (f : ℕ → Bool) → HasRank n G L (v ∷ []) f k → Listed ray_lattice 1 k f
  one_all zero f r = ([], here, least_only n G L hg hl (v ∷ []) o (omega arith) f r)
  one_all (suc zero) f r = let w = single_only n G L hg hl (v ∷ []) o f r in let e : w.0 ≡ 0 = (let l = w.1 in omega arith) in (0 ∷ [], here, subst (λ i. SamePlaces 1 f (holds (i ∷ []))) e w.2)
  one_all (suc (suc k)) f r = absurd (none_higher n G L (v ∷ []) 1 one_whole (suc (suc k)) (omega arith) f r)

  one_diagram_is : IsHasseDiagram n G L (v ∷ []) ray_lattice
  one_diagram_is = diagram_by n G L (v ∷ []) ray_lattice (
    record { some = λ e. cc; rising = (refl, tt); ordered = (tt, tt) },
    (record { some = λ e. cc; rising = (refl, tt); ordered = (tt, tt) }, tt),
  ) one_each one_all

-- the faces of a cone with one extreme ray
pub ray_diagram : (n : ℕ) (G L : List Row) → HasCols n G → HasCols n L → (V : List Row) → IsOrder n (InCone G L) V → length V ≡ 1 → IsHasseDiagram n G L V ray_lattice
ray_diagram n G L hg hl [] o e = absurd (omega arith)
ray_diagram n G L hg hl (v ∷ []) o e = one_diagram_is n G L hg hl v o
ray_diagram n G L hg hl (v ∷ w ∷ V) o e = absurd (omega arith)

-- ---- two rays
module _ (n : ℕ) (G L : List Row) (hg : HasCols n G) (hl : HasCols n L) (v w : Row) (o : IsOrder n (InCone G L) (v ∷ w ∷ [])) where
  both : (j : ℕ) → j < 2 → true ≡ holds (0 ∷ 1 ∷ []) j
  both zero l = refl
  both (suc zero) l = refl
  both (suc (suc j)) l = absurd (omega arith)

  which : (j : ℕ) → j < 2 → (j ≡ 0) ⊎ (j ≡ 1)
  which zero l = inl refl
  which (suc zero) l = inr refl
  which (suc (suc j)) l = absurd (omega arith)

  two_whole : HasRank n G L (v ∷ w ∷ []) (λ j. true) 2
  two_whole = (second_rank n G L hg hl (v ∷ w ∷ []) o (λ j. true)).1 (whole_is_face n G L (v ∷ w ∷ []), (0, 1, omega arith, omega arith, (λ e. absurd (omega arith)), λ x lx. (λ t. which x lx, λ e. refl)))

  two_each : (k : ℕ) (f : List ℕ) → Among f (at_rank segment_lattice k) → HasRank n G L (v ∷ w ∷ []) (holds f) k
  two_each zero f here = least n G L hg hl (v ∷ w ∷ []) o (omega arith)
  two_each zero f (there i) = elim i [ ]
  two_each (suc zero) f here = single n G L hg hl (v ∷ w ∷ []) o 0 (omega arith)
  two_each (suc zero) f (there here) = single n G L hg hl (v ∷ w ∷ []) o 1 (omega arith)
  two_each (suc zero) f (there (there i)) = elim i [ ]
  two_each (suc (suc zero)) f here = same_rank n G L (v ∷ w ∷ []) 2 both two_whole
  two_each (suc (suc zero)) f (there i) = elim i [ ]
  two_each (suc (suc (suc k))) f i = elim i [ ]

  two_all : (k : ℕ) (f : ℕ → Bool) → HasRank n G L (v ∷ w ∷ []) f k → Listed segment_lattice 2 k f
  two_all zero f r = ([], here, least_only n G L hg hl (v ∷ w ∷ []) o (omega arith) f r)
  two_all (suc zero) f r = let w = single_only n G L hg hl (v ∷ w ∷ []) o f r in at w.0 w.1 w.2
    where
      at : (i : ℕ) → i < 2 → SamePlaces 2 f (holds (i ∷ [])) → (g : List ℕ) × Among g ((0 ∷ []) ∷ (1 ∷ []) ∷ []) × SamePlaces 2 f (holds g)
      at zero l s = (0 ∷ [], here, s)
      at (suc zero) l s = (1 ∷ [], there here, s)
      at (suc (suc i)) l s = absurd (omega arith)
  two_all (suc (suc zero)) f r = (0 ∷ 1 ∷ [], here, λ j l. whole_only n G L (v ∷ w ∷ []) 2 two_whole f r j l ∙ both j l)
  two_all (suc (suc (suc k))) f r = absurd (none_higher n G L (v ∷ w ∷ []) 2 two_whole (suc (suc (suc k))) (omega arith) f r)

  two_diagram : IsHasseDiagram n G L (v ∷ w ∷ []) segment_lattice
  two_diagram = diagram_by n G L (v ∷ w ∷ []) segment_lattice (
    record { some = λ e. cc; rising = (refl, tt); ordered = (tt, tt) },
    (
      record { some = λ e. cc; rising = (refl, (refl, tt)); ordered = ((refl, tt), (tt, tt)) },
      (record { some = λ e. cc; rising = (refl, tt); ordered = (tt, tt) }, tt),
    ),
  ) two_each two_all

-- the faces of a cone with two extreme rays
pub segment_diagram : (n : ℕ) (G L : List Row) → HasCols n G → HasCols n L → (V : List Row) → IsOrder n (InCone G L) V → length V ≡ 2 → IsHasseDiagram n G L V segment_lattice
segment_diagram n G L hg hl [] o e = absurd (omega arith)
segment_diagram n G L hg hl (v ∷ []) o e = absurd (omega arith)
segment_diagram n G L hg hl (v ∷ w ∷ []) o e = two_diagram n G L hg hl v w o
segment_diagram n G L hg hl (v ∷ w ∷ x ∷ V) o e = absurd (omega arith)
