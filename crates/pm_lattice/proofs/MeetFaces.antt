-- The intersections of right sets are the faces.
use Rattle.pm_geom.proofs.Holds.{among_holds, holds_among}
use Rattle.pm_vector.proofs.Lists.{All_among, Among, Contains_among, among_All, among_Contains, here, there}
use Rattle.pm_vector.specs.Cones.{InCone}
use Rattle.pm_vector.specs.Rows.{HasCols, Row, dot}
use Rattle.pm_geom.proofs.Faces.{face_of_facets}
use Rattle.pm_geom.specs.Cones.{IsOrder, IsValid}
use Rattle.pm_geom.specs.Faces.{HasChain, IsFace, ray}
use Rattle.pm_geom.specs.Graphs.{holds, sets_of}
use Rattle.pm_geom.specs.Meets.{HasMeetChain, IsMeet}
use Rattle.pm_lattice.specs.Laws.{MeetsAreFaces}
use Rattle.pm_types.specs.Right.{IsIncidence}
use Rattle.std.specs.List.{Contains}
use Rattle.std.specs.Prelude.{Bool, IsTrue, List, [], length, suc, zero, ℕ, ◌<◌, ◌↔◌, ◌∷◌, ◌≡◌}
use lib.IntN.{pos}

module _ (V : List Row) where
  -- the set holds the places at which the row vanishes
  record Pair (b : Row) (r : ℕ → Bool) : Type 0 where
    on : (j : ℕ) → j < length V → IsTrue (r j) → dot b (ray V j) ≡ pos 0
    off : (j : ℕ) → j < length V → dot b (ray V j) ≡ pos 0 → IsTrue (r j)

  vanishing_pair : (b : Row) (r : List ℕ) → ((j : ℕ) → Contains r j ↔ ((j < length V) × (dot b (ray V j) ≡ pos 0))) → Pair b (holds r)
  vanishing_pair b r h = record { on = λ j l t. ((h j).0 (Contains_among (holds_among r j t))).1; off = λ j l e. among_holds r j (among_Contains r ((h j).1 (l, e))) }

  row_of_facet : (F : List Row) (rows : List (List ℕ)) → IsIncidence F V rows → (b : Row) → Among b F → (r : ℕ → Bool) × Among r (sets_of rows) × Pair b r
  row_of_facet [] rows h b i = elim i [ ]
  row_of_facet (f ∷ F) [] h b i = absurd h
  row_of_facet (f ∷ F) (r ∷ rows) h b here = (holds r, here, vanishing_pair f r h.0)
  row_of_facet (f ∷ F) (r ∷ rows) h b (there i) = let w = row_of_facet F rows h.1 b i in (w.0, there w.1, w.2)

  facet_of_row : (F : List Row) (rows : List (List ℕ)) → IsIncidence F V rows → (r : ℕ → Bool) → Among r (sets_of rows) → (b : Row) × Among b F × Pair b r
  facet_of_row F [] h r i = elim i [ ]
  facet_of_row [] (q ∷ rows) h r i = absurd h
  facet_of_row (f ∷ F) (q ∷ rows) h r here = (f, here, vanishing_pair f q h.0)
  facet_of_row (f ∷ F) (q ∷ rows) h r (there i) = let w = facet_of_row F rows h.1 r i in (w.0, there w.1, w.2)

  module _ (F : List Row) (rows : List (List ℕ)) (h : IsIncidence F V rows) where
    -- lists of facet rows and of sets that hold the same places together
    record Sets (J : List Row) : Type 0 where
      some : List (ℕ → Bool)
      among : (r : ℕ → Bool) → Among r some → Among r (sets_of rows)
      on : (j : ℕ) → j < length V → ((b : Row) → Among b J → dot b (ray V j) ≡ pos 0) → (r : ℕ → Bool) → Among r some → IsTrue (r j)
      off : (j : ℕ) → j < length V → ((r : ℕ → Bool) → Among r some → IsTrue (r j)) → (b : Row) → Among b J → dot b (ray V j) ≡ pos 0

    sets_for : (J : List Row) → ((b : Row) → Among b J → Among b F) → Sets J
    sets_for [] k = record { some = []; among = λ r i. elim i [ ]; on = λ j l g r i. elim i [ ]; off = λ j l g b i. elim i [ ] }
    sets_for (b ∷ J) k =
        let rest = sets_for J (λ c i. k c (there i)) in
        let w = row_of_facet F rows h b (k b here) in
        record {
          some = w.0 ∷ rest.some;
          among = λ r i. in_both r w.0 w.1 rest.some rest.among i;
          on = λ j l g r i. on_both j l w.0 (w.2.off j l (g b here)) rest.some (rest.on j l (λ c q. g c (there q))) r i;
          off = λ j l g c i. off_both j b J (w.2.on j l (g w.0 here)) (rest.off j l (λ r q. g r (there q))) c i;
        }
      where
        in_both : (r q : ℕ → Bool) → Among q (sets_of rows) → (some : List (ℕ → Bool)) → ((r : ℕ → Bool) → Among r some → Among r (sets_of rows)) → Among r (q ∷ some) → Among r (sets_of rows)
        in_both r q m some g here = m
        in_both r q m some g (there i) = g r i

        on_both : (j : ℕ) → j < length V → (q : ℕ → Bool) → IsTrue (q j) → (some : List (ℕ → Bool)) → ((r : ℕ → Bool) → Among r some → IsTrue (r j)) → (r : ℕ → Bool) → Among r (q ∷ some) → IsTrue (r j)
        on_both j l q t some g r here = t
        on_both j l q t some g r (there i) = g r i

        off_both : (j : ℕ) (b : Row) (J : List Row) → dot b (ray V j) ≡ pos 0 → ((c : Row) → Among c J → dot c (ray V j) ≡ pos 0) → (c : Row) → Among c (b ∷ J) → dot c (ray V j) ≡ pos 0
        off_both j b J t g c here = t
        off_both j b J t g c (there i) = g c i

    record Facets (some : List (ℕ → Bool)) : Type 0 where
      J : List Row
      among : (b : Row) → Among b J → Among b F
      on : (j : ℕ) → j < length V → ((r : ℕ → Bool) → Among r some → IsTrue (r j)) → (b : Row) → Among b J → dot b (ray V j) ≡ pos 0
      off : (j : ℕ) → j < length V → ((b : Row) → Among b J → dot b (ray V j) ≡ pos 0) → (r : ℕ → Bool) → Among r some → IsTrue (r j)

    facets_for : (some : List (ℕ → Bool)) → ((r : ℕ → Bool) → Among r some → Among r (sets_of rows)) → Facets some
    facets_for [] k = record { J = []; among = λ r i. elim i [ ]; on = λ j l g r i. elim i [ ]; off = λ j l g b i. elim i [ ] }
    facets_for (q ∷ some) k =
        let rest = facets_for some (λ c i. k c (there i)) in
        let w = facet_of_row F rows h q (k q here) in
        record {
          J = w.0 ∷ rest.J;
          among = λ b i. in_both b w.0 w.1 rest.J rest.among i;
          on = λ j l g b i. on_both j w.0 rest.J (w.2.on j l (g q here)) (rest.on j l (λ r n. g r (there n))) b i;
          off = λ j l g r i. off_both j q some (w.2.off j l (g w.0 here)) (rest.off j l (λ b n. g b (there n))) r i;
        }
      where
        in_both : (b c : Row) → Among c F → (J : List Row) → ((b : Row) → Among b J → Among b F) → Among b (c ∷ J) → Among b F
        in_both b c m J g here = m
        in_both b c m J g (there i) = g b i

        on_both : (j : ℕ) (c : Row) (J : List Row) → dot c (ray V j) ≡ pos 0 → ((b : Row) → Among b J → dot b (ray V j) ≡ pos 0) → (b : Row) → Among b (c ∷ J) → dot b (ray V j) ≡ pos 0
        on_both j c J t g b here = t
        on_both j c J t g b (there i) = g b i

        off_both : (j : ℕ) (q : ℕ → Bool) (some : List (ℕ → Bool)) → IsTrue (q j) → ((r : ℕ → Bool) → Among r some → IsTrue (r j)) → (r : ℕ → Bool) → Among r (q ∷ some) → IsTrue (r j)
        off_both j q some t g r here = t
        off_both j q some t g r (there i) = g r i

module _ (n : ℕ) (G L : List Row) (cG : HasCols n G) (cL : HasCols n L) (V F : List Row) (oV : IsOrder n (InCone G L) V) (oF : IsOrder n (IsValid n G L) F) (rows : List (List ℕ)) (h : IsIncidence F V rows) where
  to_face : (f : ℕ → Bool) → IsMeet (length V) (sets_of rows) f → IsFace n G L V f
  to_face f w =
      let s = facets_for V F rows h w.some (λ r i. among_Contains (sets_of rows) (w.among r (Contains_among i))) in
      (face_of_facets n G L cG cL V F oV oF f).1 (
        s.J,
        (λ b i. Contains_among (s.among b (among_Contains s.J i))),
        (λ j l. (
          λ t. All_among (λ b. dot b (ray V j) ≡ pos 0) s.J (s.on j l (λ r i. among_All (λ r. IsTrue (r j)) i ((w.places j l).0 t))),
          λ a. (w.places j l).1 (All_among (λ r. IsTrue (r j)) w.some (s.off j l (λ b i. among_All (λ b. dot b (ray V j) ≡ pos 0) i a))),
        )),
      )

  to_meet : (f : ℕ → Bool) → IsFace n G L V f → IsMeet (length V) (sets_of rows) f
  to_meet f w =
      let u = (face_of_facets n G L cG cL V F oV oF f).0 w in
      let s = sets_for V F rows h u.0 (λ b i. among_Contains F (u.1 b (Contains_among i))) in
      record {
        some = s.some;
        among = λ r i. Contains_among (s.among r (among_Contains s.some i));
        places = λ j l. (
          λ t. All_among (λ r. IsTrue (r j)) s.some (s.on j l (λ b i. among_All (λ b. dot b (ray V j) ≡ pos 0) i ((u.2 j l).0 t))),
          λ a. (u.2 j l).1 (All_among (λ b. dot b (ray V j) ≡ pos 0) u.0 (s.off j l (λ r i. among_All (λ r. IsTrue (r j)) i a))),
        );
      }

  chain_to : (k : ℕ) (f : ℕ → Bool) → HasMeetChain (length V) (sets_of rows) k f → HasChain n G L V k f
  chain_to zero f x = tt
  chain_to (suc k) f x = (x.0, to_face x.0 x.1, x.2, chain_to k x.0 x.3)

  chain_from : (k : ℕ) (f : ℕ → Bool) → HasChain n G L V k f → HasMeetChain (length V) (sets_of rows) k f
  chain_from zero f x = tt
  chain_from (suc k) f x = (x.0, to_meet x.0 x.1, x.2, chain_from k x.0 x.3)

pub meets_are_faces : MeetsAreFaces
meets_are_faces n G L cG cL V F oV oF rows h f = (
  (to_face n G L cG cL V F oV oF rows h f, to_meet n G L cG cL V F oV oF rows h f),
  λ k. (
    λ r. record { face = to_face n G L cG cL V F oV oF rows h f r.meet; chain = chain_to n G L cG cL V F oV oF rows h k f r.chain; greatest = λ x. r.greatest (chain_from n G L cG cL V F oV oF rows h (suc k) f x) },
    λ r. record { meet = to_meet n G L cG cL V F oV oF rows h f r.face; chain = chain_from n G L cG cL V F oV oF rows h k f r.chain; greatest = λ x. r.greatest (chain_to n G L cG cL V F oV oF rows h (suc k) f x) },
  ),
)
