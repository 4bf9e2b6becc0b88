-- The common refinement depends on the cones of the two fans alone, and not on their places and generators.
use Rattle.pm_vector.specs.Rows.{Row}
use Rattle.pm_laws_normal_fans.specs.Fans.{Fan, InIntersection, InPlace, IsCommonRefinement, IsConeAt, IsMaximalIntersection, IsSameFan}
use Rattle.pm_laws_normal_fans.specs.Refinements.{RefinementOfSame}
use Rattle.std.specs.Prelude.{length, ℕ, ◌<◌, ◌≡◌}

module _ (n : ℕ) (f g f' g' : Fan) (sf : IsSameFan n f f') (sg : IsSameFan n g g') where
  -- the cones at i and j are those at i' and j'
  record AreSame (i j i' j' : ℕ) : Type 0 where
    first : IsConeAt n f i (InPlace f' i')
    second : IsConeAt n g j (InPlace g' j')

  to : (i j i' j' : ℕ) → AreSame i j i' j' → (x : Row) → length x ≡ n → InIntersection f g i j x → InIntersection f' g' i' j' x
  to i j i' j' s x lx h = ((s.first x lx).0 h.0, (s.second x lx).0 h.1)

  back : (i j i' j' : ℕ) → AreSame i j i' j' → (x : Row) → length x ≡ n → InIntersection f' g' i' j' x → InIntersection f g i j x
  back i j i' j' s x lx h = ((s.first x lx).1 h.0, (s.second x lx).1 h.1)

  maximal_to : (i j i' j' : ℕ) → i' < length f'.cones → j' < length g'.cones → AreSame i j i' j' → IsMaximalIntersection n f g i j → IsMaximalIntersection n f' g' i' j'
  maximal_to i j i' j' li lj s h = record {
    first = li;
    second = lj;
    maximal = λ k' l' lk ll w x lx q.
        let (k, bk, ck) = sf.all k' lk in
        let (l, bl, cl) = sg.all l' ll in
        let t : AreSame k l k' l' = record { first = ck; second = cl } in
        to i j i' j' s x lx (h.maximal k l bk bl (λ y ly z. back k l k' l' t y ly (w y ly (to i j i' j' s y ly z))) x lx (back k l k' l' t x lx q));
  }

  maximal_back : (i j i' j' : ℕ) → i < length f.cones → j < length g.cones → AreSame i j i' j' → IsMaximalIntersection n f' g' i' j' → IsMaximalIntersection n f g i j
  maximal_back i j i' j' li lj s h = record {
    first = li;
    second = lj;
    maximal = λ k l lk ll w x lx q.
        let (k', bk, ck) = sf.each k lk in
        let (l', bl, cl) = sg.each l ll in
        let t : AreSame k l k' l' = record { first = ck; second = cl } in
        back i j i' j' s x lx (h.maximal k' l' bk bl (λ y ly z. to k l k' l' t y ly (w y ly (back i j i' j' s y ly z))) x lx (to k l k' l' t x lx q));
  }

  refined : (h : Fan) → IsCommonRefinement n f g h → IsCommonRefinement n f' g' h
  refined h r = record {
    each = λ k lk.
        let (i, j, m, c) = r.each k lk in
        let (i', li, ci) = sf.each i m.first in
        let (j', lj, cj) = sg.each j m.second in
        let s : AreSame i j i' j' = record { first = ci; second = cj } in
        (i', j', maximal_to i j i' j' li lj s m, λ x lx. (λ q. to i j i' j' s x lx ((c x lx).0 q), λ q. (c x lx).1 (back i j i' j' s x lx q)));
    all = λ i' j' m.
        let (i, li, ci) = sf.all i' m.first in
        let (j, lj, cj) = sg.all j' m.second in
        let s : AreSame i j i' j' = record { first = ci; second = cj } in
        let (k, lk, c) = r.all i j (maximal_back i j i' j' li lj s m) in
        (k, lk, λ x lx. (λ q. to i j i' j' s x lx ((c x lx).0 q), λ q. (c x lx).1 (back i j i' j' s x lx q)));
    bare = r.bare;
  }

pub refinement_of_same : RefinementOfSame
refinement_of_same n f g f' g' h sf sg = refined n f g f' g' sf sg h
