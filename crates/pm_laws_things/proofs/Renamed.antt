-- Two orders of one set: each place of the one has its place in the other, with a row that is alike.
use Rattle.pm_vector.proofs.Lists.{among_All, among_Any}
use Rattle.pm_vector.specs.Cones.{IsConeSet}
use Rattle.pm_vector.specs.Rows.{Row}
use Rattle.pm_geom.specs.Cones.{IsExtreme, IsOrder, SameModulo}
use Rattle.pm_geom.specs.Faces.{ray}
use Rattle.pm_laws_normal_fans.proofs.Places.{among_at, by_order, place_at}
use Rattle.pm_relations.proofs.Orders.{alike_back, alike_on}
use Rattle.std.proofs.Common.{subst, sym}
use Rattle.std.specs.Prelude.{List, [], length, ℕ, ◌<◌, ◌≡◌}
use native.Mathlib.Decide.{dec_lt}

pub record IsRenaming (n : ℕ) (S : Row → Type 0) (V W : List Row) : Type 0 where
  pub to : ℕ → ℕ
  pub back : ℕ → ℕ
  pub to_within : (i : ℕ) → i < length V → to i < length W
  pub back_within : (j : ℕ) → j < length W → back j < length V
  pub alike : (i : ℕ) → i < length V → SameModulo n S (ray V i) (ray W (to i))
  pub back_to : (i : ℕ) → i < length V → back (to i) ≡ i
  pub to_back : (j : ℕ) → j < length W → to (back j) ≡ j

module _ (n : ℕ) (S : Row → Type 0) (cs : IsConeSet S) where
  -- alike rows of an order stand at one place
  pub one_place : (V : List Row) → IsOrder n S V → (i j : ℕ) → i < length V → j < length V → SameModulo n S (ray V i) (ray V j) → i ≡ j
  one_place V o i j li lj s = by_order i j (λ l. absurd (o.once i j [] l lj s)) (λ l. absurd (o.once j i [] l li (alike_back n S cs s))) (λ e. e)

  -- the place in W of the row at a place of V, where there is such a row
  record HasPlace (V W : List Row) (i : ℕ) : Type 0 where
    j : ℕ
    within : i < length V → j < length W
    alike : i < length V → SameModulo n S (ray V i) (ray W j)

  place : (V W : List Row) → IsOrder n S V → IsOrder n S W → (i : ℕ) → HasPlace V W i
  place V W o q i = elim (dec_lt i (length V)) [
    | yes l ↦
        let (w, k, s) = among_Any (λ w. SameModulo n S (ray V i) w) W (q.all (ray V i) (among_All (λ v. IsExtreme n S v) (among_at [] V i l) o.each)) in
        let (j, lj, e) = place_at [] W k in
        record { j = j; within = λ m. lj; alike = λ m. subst (λ u. SameModulo n S (ray V i) u) (sym e) s }
    | no none ↦ record { j = 0; within = λ l. absurd (none l); alike = λ l. absurd (none l) }
  ]

  pub renaming : (V W : List Row) → IsOrder n S V → IsOrder n S W → IsRenaming n S V W
  renaming V W o q = record {
    to = λ i. (place V W o q i).j;
    back = λ j. (place W V q o j).j;
    to_within = λ i l. (place V W o q i).within l;
    back_within = λ j l. (place W V q o j).within l;
    alike = λ i l. (place V W o q i).alike l;
    back_to = λ i l. there_and_back V W o q i l;
    to_back = λ j l. there_and_back W V q o j l;
  }
    where
      there_and_back : (V W : List Row) (o : IsOrder n S V) (q : IsOrder n S W) (i : ℕ) → i < length V → (place W V q o (place V W o q i).j).j ≡ i
      there_and_back V W o q i l =
          let p = place V W o q i in
          let r = place W V q o p.j in
          sym (one_place V o i r.j l (r.within (p.within l)) (alike_on n S cs (p.alike l) (r.alike (p.within l))))

  -- the other way round
  abbrev pub renamed_back : {V W : List Row} → IsRenaming n S V W → IsRenaming n S W V
  renamed_back {V} {W} r = record {
    to = r.back;
    back = r.to;
    to_within = r.back_within;
    back_within = r.to_within;
    alike = λ j l. alike_back n S cs (subst (λ k. SameModulo n S (ray V (r.back j)) (ray W k)) (r.to_back j l) (r.alike (r.back j) (r.back_within j l)));
    back_to = r.to_back;
    to_back = r.back_to;
  }
