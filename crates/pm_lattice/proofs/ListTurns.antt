-- The turns of the loops over lists.
use Rattle.pm_bits.specs.Sets.{has, members}
use Rattle.pm_geom.specs.Graphs.{holds, sets_of}
use Rattle.pm_lattice.specs.Closures.{bit_sets}
use Rattle.pm_lattice.specs.Ranks.{level_of, levels_to}
use Rattle.pm_types.specs.Lists.{lists_of}
use Rattle.std.proofs.Common.{ap, ap₂, arith, get_or, inl, inr, refl, set, subst, sym, take, ◌∙◌}
use Rattle.std.proofs.lemmas.Bool.{cases_Bool, eq-eqb, eqb-false, eqb-true, ne_eqb}
use Rattle.std.proofs.lemmas.Grind.{get_or-set_at}
use Rattle.std.proofs.lemmas.List.FromFn.{get_or-map-range_with_len, length-map-range_with_len}
use Rattle.std.proofs.lemmas.List.{append-nil, ext_get_or, get_or-map, get_or-set_other, length-map, length-set, length-take-le, map-append, take_all, take_more}
use Rattle.std.specs.Global.{Vec}
use Rattle.std.specs.List.{All, range_with_len}
use Rattle.std.specs.Prelude.{Bool, List, [], cond, false, length, map, suc, true, zero, ℕ, ◌+◌, ◌++◌, ◌<◌, ◌==◌, ◌≤◌, ◌∷◌, ◌≡◌, ◌⊎◌}
use mathlib.Core.Path.{fun_ext}

-- at each rank up to the top one stand the faces that have it
pub record AreLevels (top : ℕ) (faces : List (List Bool)) (ranks : List ℕ) (levels : List (Vec (Vec ℕ))) : Type 0 where
  pub len : length levels ≡ top + 1
  pub each : (k : ℕ) (d : Vec (Vec ℕ)) → k < length levels → lists_of (get_or levels k d) ≡ level_of k faces ranks

picked : (b : Bool) (x : List ℕ) (xs ys : List (List ℕ)) → cond b (x ∷ (xs ++ ys)) (xs ++ ys) ≡ cond b (x ∷ xs) xs ++ ys
picked true x xs ys = refl
picked false x xs ys = refl

level_append : (k : ℕ) (faces : List (List Bool)) (ranks : List ℕ) (f : List Bool) (r : ℕ) → length faces ≡ length ranks → level_of k (faces ++ f ∷ []) (ranks ++ r ∷ []) ≡ level_of k faces ranks ++ cond (r == k) (members f ∷ []) []
level_append k [] [] f r e = refl
level_append k [] (q ∷ ranks) f r e = absurd (omega arith)
level_append k (g ∷ faces) [] f r e = absurd (omega arith)
level_append k (g ∷ faces) (q ∷ ranks) f r e =
    ap (λ rest. cond (q == k) (members g ∷ rest) rest) (level_append k faces ranks f r (omega arith)) ∙ picked (q == k) (members g) (level_of k faces ranks) (cond (r == k) (members f ∷ []) [])

module _ (faces : List (List Bool)) (ranks : List ℕ) (place : ℕ) (inside : place < length faces) (as_many : length ranks ≡ length faces) (f : List Bool) (ef : f ≡ get_or faces place f) (r : ℕ) (er : r ≡ get_or ranks place r) where
  level_next : (k : ℕ) → level_of k (take (place + 1) faces) (take (place + 1) ranks) ≡ level_of k (take place faces) (take place ranks) ++ cond (r == k) (members f ∷ []) []
  level_next k =
      let one = take_more faces place f inside ∙ ap (λ g. take place faces ++ g ∷ []) (sym ef) in
      let other = take_more ranks place r (omega arith) ∙ ap (λ q. take place ranks ++ q ∷ []) (sym er) in
      ap₂ (level_of k) one other ∙ level_append k (take place faces) (take place ranks) f r (length-take-le place faces (omega arith) ∙ sym (length-take-le place ranks (omega arith)))

  module _ (top : ℕ) (old : List (Vec (Vec ℕ))) (l : AreLevels top (take place faces) (take place ranks) old) where
    stays : (k : ℕ) → (r ≡ k → ⊥) → level_of k (take place faces) (take place ranks) ≡ level_of k (take (place + 1) faces) (take (place + 1) ranks)
    stays k n = sym (level_next k ∙ ap (λ b. level_of k (take place faces) (take place ranks) ++ cond b (members f ∷ []) []) (ne_eqb r k n) ∙ append-nil (level_of k (take place faces) (take place ranks)))

    -- a face of a rank beyond the top one is passed over
    pub levels_passed : top < r → AreLevels top (take (place + 1) faces) (take (place + 1) ranks) old
    levels_passed g = record { len = l.len; each = λ k d b. l.each k d b ∙ stays k (λ e. let n = l.len in absurd (omega arith)) }

    -- a face is put at the end of its rank
    pub levels_put : r ≤ top → (level : Vec (Vec ℕ)) → level ≡ get_or old r level → (list : Vec ℕ) → list.items ≡ members f → (longer : Vec (Vec ℕ)) → longer.items ≡ level.items ++ list ∷ [] → AreLevels top (take (place + 1) faces) (take (place + 1) ranks) (set old r longer)
    levels_put g level el list em longer en = record { len = length-set old r longer ∙ l.len; each = λ k d b. go k d (omega (arith, length-set old r longer)) (cases k r) }
      where
        inside_old : r < length old
        inside_old = let n = l.len in omega arith

        cases : (k r : ℕ) → (k ≡ r) ⊎ (r ≡ k → ⊥)
        cases k r = elim (cases_Bool (r == k)) [ inl t ↦ inl (sym (eqb-true r k t)) | inr t ↦ inr (eqb-false r k t) ]

        put : lists_of longer ≡ level_of r (take (place + 1) faces) (take (place + 1) ranks)
        put =
            ap (map (λ x. x.items)) en ∙ map-append (λ x. x.items) level.items (list ∷ []) ∙ ap₂ (λ xs x. xs ++ x ∷ []) (ap lists_of el ∙ l.each r level inside_old) em
            ∙ sym (level_next r ∙ ap (λ b. level_of r (take place faces) (take place ranks) ++ cond b (members f ∷ []) []) (eq-eqb r r refl))

        go : (k : ℕ) (d : Vec (Vec ℕ)) → k < length old → (k ≡ r) ⊎ (r ≡ k → ⊥) → lists_of (get_or (set old r longer) k d) ≡ level_of k (take (place + 1) faces) (take (place + 1) ranks)
        go k d b (inl e) = ap lists_of (get_or-set_at old r k longer d e inside_old) ∙ put ∙ ap (λ j. level_of j (take (place + 1) faces) (take (place + 1) ranks)) (sym e)
        go k d b (inr n) = ap lists_of (get_or-set_other old r k longer d (λ e. n (sym e))) ∙ l.each k d b ∙ stays k n

pub levels_end : (top : ℕ) (faces : List (List Bool)) (ranks : List ℕ) (place : ℕ) (levels : List (Vec (Vec ℕ))) → place ≡ length faces → length ranks ≡ length faces → AreLevels top (take place faces) (take place ranks) levels → map lists_of levels ≡ levels_to top faces ranks
levels_end top faces ranks place levels e m l =
    let whole = subst (λ fs. AreLevels top fs (take place ranks) levels) (take_all place faces (omega arith)) l in
    let all = subst (λ rs. AreLevels top faces rs levels) (take_all place ranks (omega arith)) whole in
    ext_get_or [] (map lists_of levels) (levels_to top faces ranks)
    (length-map levels lists_of ∙ all.len ∙ sym (length-map-range_with_len (λ k. level_of k faces ranks) 0 (top + 1)))
    (λ i b. let inside : i < length levels = omega (arith, length-map levels lists_of) in let d = some_level levels i inside in
    get_or-map lists_of levels i d [] inside ∙ all.each i d inside ∙ sym (get_or-map-range_with_len (λ k. level_of k faces ranks) 0 (top + 1) i i [] (let n = all.len in omega arith) (omega arith)))
  where
    some_level : (levels : List (Vec (Vec ℕ))) (i : ℕ) → i < length levels → Vec (Vec ℕ)
    some_level [] i b = absurd (omega arith)
    some_level (d ∷ levels) i b = d

-- one more set of a list, as a row of bits
pub tested_more : (sets : List (List ℕ)) (old new : List (List Bool)) (k : ℕ) (set : List ℕ) (row : List Bool) → k < length sets → set ≡ get_or sets k set → new ≡ old ++ row ∷ [] → ((j : ℕ) → has row j ≡ holds set j) → bit_sets old ≡ sets_of (take k sets) → bit_sets new ≡ sets_of (take (k + 1) sets)
tested_more sets old new k set row l es n h e =
    ap bit_sets n ∙ map-append has old (row ∷ []) ∙ ap₂ (λ xs y. xs ++ y ∷ []) e (fun_ext h) ∙ sym (ap sets_of (take_more sets k set l ∙ ap (λ x. take k sets ++ x ∷ []) (sym es)) ∙ map-append holds (take k sets) (set ∷ []))

mapped_at : {X Y : Type 0} (f : X → Y) (xs : List X) (k : ℕ) (x d : X) → k < length xs → x ≡ get_or xs k d → (k < length (map f xs)) × (f x ≡ get_or (map f xs) k (f x))
mapped_at f [] k x d l e = absurd (omega arith)
mapped_at f (y ∷ xs) zero x d l e = (omega arith, ap f e)
mapped_at f (y ∷ xs) (suc k) x d l e = let w = mapped_at f xs k x d (omega arith) e in ((let b = w.0 in omega arith), w.1)

pub mapped_item : {X Y : Type 0} (f : X → Y) (xs : List X) (ys : List Y) (k : ℕ) (x : X) → map f xs ≡ ys → k < length xs → x ≡ get_or xs k x → (k < length ys) × (f x ≡ get_or ys k (f x))
mapped_item f xs ys k x m l e = subst (λ zs. (k < length zs) × (f x ≡ get_or zs k (f x))) m (mapped_at f xs k x x l e)

pub small_row : (rows : List (List ℕ)) (n m : ℕ) (k : ℕ) (set slice : List ℕ) → All (λ row. All (λ j. j < n) row) rows → m ≡ n → slice ≡ set → (k < length rows) × (set ≡ get_or rows k set) → All (λ j. j < m) slice
small_row rows n m k set slice h e s w = subst (λ q. All (λ j. j < q) slice) (sym e) (subst (λ xs. All (λ j. j < n) xs) (sym s) (subst (λ xs. All (λ j. j < n) xs) (sym w.1) (h k set w.0)))
