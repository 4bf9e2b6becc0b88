-- The values of a new object, with what goes without saying of them, are right together.
use Rattle.pm_vector.proofs.ConeLaws.{in_generator}
use Rattle.pm_vector.proofs.Lists.{All_among, Among, all_at, among_Contains, here, there}
use Rattle.pm_vector.specs.Numbers.{Ratio}
use Rattle.pm_vector.specs.Rows.{HasCols, Row}
use Rattle.pm_laws_things.specs.BuildingLaws.{settled_facts}
use Rattle.pm_build.specs.Objects.{polytope_with}
use Rattle.pm_types.specs.Parts.{cols_over}
use Rattle.pm_geom.specs.Things.{IsPolytopeThing, Orders}
use Rattle.pm_object_type.specs.declared.object_type.ObjectType.TheVariants.{Polytope}
use Rattle.pm_props.specs.declared.property.PropId.TheVariants.{ConeAmbientDim, Equations, Inequalities, InputLineality, Points}
use Rattle.pm_types.specs.Right.{CutsOut, CutsOutPolytope, Generates, InLines, InSet, RightAll, RightFact, RightTogether, StandFor}
use Rattle.pm_types.specs.Things.{AreOrders, IsOfType, IsThing, Thing}
use Rattle.pm_types.specs.Values.{Fact, matrix, whole}
use Rattle.pm_geom.specs.Cones.{IsValid, Vanishes}
use Rattle.std.proofs.Common.{ap, arith, false, refl, subst, sym, true}
use Rattle.std.proofs.lemmas.Bool.{eqb-true}
use Rattle.std.proofs.lemmas.List.Elements.{All-nil}
use Rattle.std.specs.Option.{unwrap_or}
use Rattle.std.specs.Prelude.{Bool, List, None, Some, [], if◌then◌else◌, length, nat_eq, suc, ℕ, ◌+◌, ◌<◌, ◌∷◌, ◌≡◌}
use lib.IntN.{pos}

-- ---- three facts
pub three : (P : Fact → Type 0) (x y z : Fact) → P x → P y → P z → (f : Fact) → Among f (x ∷ y ∷ z ∷ []) → P f
three P x y z px py pz f here = px
three P x y z px py pz f (there here) = py
three P x y z px py pz f (there (there here)) = pz
three P x y z px py pz f (there (there (there i))) = elim i [ ]

-- ---- the column count that goes without saying
abbrev pub settled_cols : ℕ → ℕ
settled_cols c = unwrap_or (if nat_eq c 0 then None else Some c) 1

pub settled_some : (c : ℕ) → 0 < c → settled_cols c ≡ c
settled_some c h = by (nat_eq c 0) refl
  where
    by : (t : Bool) → nat_eq c 0 ≡ t → unwrap_or (if t then None else Some c) 1 ≡ c
    by true e = absurd (let z = eqb-true c 0 e in omega arith)
    by false e = refl

-- that of rows of d + 1 columns, of which there are some where d is not 0
pub cols_settled : (d : ℕ) (rows : List (List Ratio)) → (rows ≡ [] → d ≡ 0) → settled_cols (cols_over (suc d) rows) ≡ suc d
cols_settled d [] h = sym (ap suc (h refl))
cols_settled d (r ∷ rows) h = settled_some (suc d) (omega arith)

-- ---- polytopes
pub polytope_thing : (u : Thing) → IsThing u → u.of ≡ Polytope → IsPolytopeThing u.cols u.generators u.lines
polytope_thing u t e = (subst (λ k. IsOfType k u.cols u.generators u.lines u.cones) e t.kind).0

pub polytope_cuts : (u : Thing) → u.of ≡ Polytope → (A E : List Row) → CutsOutPolytope u.cols (InSet u) A E → CutsOut u A E
polytope_cuts u e A E h = subst (λ (t : Thing). CutsOutPolytope t.cols (InSet t) A E → CutsOut t A E) (same u e) (λ k. k) h
  where
    as_polytope : Thing → Thing
    as_polytope v = record { of = Polytope; cols = v.cols; generators = v.generators; lines = v.lines; cones = v.cones; objective = v.objective; sites = v.sites; heights = v.heights }

    same : (v : Thing) → v.of ≡ Polytope → as_polytope v ≡ v
    same v q = ap (λ k. record { of = k; cols = v.cols; generators = v.generators; lines = v.lines; cones = v.cones; objective = v.objective; sites = v.sites; heights = v.heights }) (sym q)

module _ (u : Thing) (o : Orders) (thing : IsThing u) (orders : AreOrders u o) where
  -- points alone
  pub points_described : (c : ℕ) (rows : List (List Ratio)) (X : List Row) → StandFor rows X → HasCols u.cols X → Generates u X [] → settled_cols c ≡ u.cols → RightAll (settled_facts (polytope_with ((Points, matrix c rows) ∷ []))) u o
  points_described c rows X stand cols generates e = record {
    thing = thing;
    orders = orders;
    each = λ f i. three (λ f. RightFact f u o) points ambient lineality
        (record { xs = X; stand = stand; cols = cols; each = All_among (InSet u) X (λ x j. (generates.same x (all_at (λ (y : Row). length y ≡ u.cols) j cols)).1 (in_generator j)) })
        (ap pos e)
        (record { xs = []; stand = tt; cols = tt; each = All-nil (InLines u) }) f (among_Contains _ i);
    together = λ f g i j. three (λ f. RightTogether u f g) points ambient lineality
        (three (λ g. RightTogether u points g) points ambient lineality tt tt (record { xs = X; ls = []; points_stand = stand; lines_stand = tt; generates = generates }) g (among_Contains _ j))
        (three (λ g. RightTogether u ambient g) points ambient lineality tt tt tt g (among_Contains _ j))
        (three (λ g. RightTogether u lineality g) points ambient lineality tt tt tt g (among_Contains _ j)) f (among_Contains _ i);
  }
    where
      points : Fact
      points = record { place = None; property = Points; value = matrix c rows }

      ambient : Fact
      ambient = record { place = None; property = ConeAmbientDim; value = whole (pos (settled_cols c)) }

      lineality : Fact
      lineality = record { place = None; property = InputLineality; value = matrix 0 [] }

  -- inequalities alone
  pub inequalities_described : (c : ℕ) (rows : List (List Ratio)) (A : List Row) → StandFor rows A → HasCols u.cols A → ((a : Row) → Among a A → IsValid u.cols u.generators u.lines a) → CutsOut u A [] → settled_cols c ≡ u.cols
      → RightAll (settled_facts (polytope_with ((Inequalities, matrix c rows) ∷ []))) u o
  inequalities_described c rows A stand cols valid cuts e = record {
    thing = thing;
    orders = orders;
    each = λ f i. three (λ f. RightFact f u o) inequalities ambient equations
        (record { xs = A; stand = stand; cols = cols; each = All_among (IsValid u.cols u.generators u.lines) A valid })
        (ap pos e)
        (record { xs = []; stand = tt; cols = tt; each = All-nil (Vanishes u.cols u.generators u.lines) }) f (among_Contains _ i);
    together = λ f g i j. three (λ f. RightTogether u f g) inequalities ambient equations
        (three (λ g. RightTogether u inequalities g) inequalities ambient equations tt tt (record { as' = A; es = []; inequalities_stand = stand; equations_stand = tt; cuts_out = cuts }) g (among_Contains _ j))
        (three (λ g. RightTogether u ambient g) inequalities ambient equations tt tt tt g (among_Contains _ j))
        (three (λ g. RightTogether u equations g) inequalities ambient equations tt tt tt g (among_Contains _ j)) f (among_Contains _ i);
  }
    where
      inequalities : Fact
      inequalities = record { place = None; property = Inequalities; value = matrix c rows }

      ambient : Fact
      ambient = record { place = None; property = ConeAmbientDim; value = whole (pos (settled_cols c)) }

      equations : Fact
      equations = record { place = None; property = Equations; value = matrix 0 [] }

-- ---- two halves that are given
abbrev pub settled_of_both : ℕ → ℕ → ℕ
settled_of_both c m = unwrap_or (if nat_eq c 0 then (if nat_eq m 0 then None else Some m) else Some c) 1

nat_eq_some : (n : ℕ) → 0 < n → nat_eq n 0 ≡ false
nat_eq_some n h = by (nat_eq n 0) refl
  where
    by : (t : Bool) → nat_eq n 0 ≡ t → nat_eq n 0 ≡ false
    by true e = absurd (let z = eqb-true n 0 e in omega arith)
    by false e = e

pub both_settled : (n : ℕ) (rows others : List (List Ratio)) → 0 < n → 0 < length rows + length others → settled_of_both (cols_over n rows) (cols_over n others) ≡ n
both_settled n [] [] h some = absurd (omega arith)
both_settled n [] (r ∷ others) h some = ap (λ t. unwrap_or (if t then None else Some n) 1) (nat_eq_some n h)
both_settled n (r ∷ rows) others h some = ap (λ t. unwrap_or (if t then (if nat_eq (cols_over n others) 0 then None else Some (cols_over n others)) else Some n) 1) (nat_eq_some n h)

module _ (u : Thing) (o : Orders) (thing : IsThing u) (orders : AreOrders u o) where
  -- inequalities and equations
  pub both_described : (c : ℕ) (rows : List (List Ratio)) (m : ℕ) (others : List (List Ratio)) (A E : List Row) → StandFor rows A → StandFor others E → HasCols u.cols A → HasCols u.cols E
      → ((a : Row) → Among a A → IsValid u.cols u.generators u.lines a) → ((e : Row) → Among e E → Vanishes u.cols u.generators u.lines e) → CutsOut u A E → settled_of_both c m ≡ u.cols
      → RightAll (settled_facts (polytope_with ((Inequalities, matrix c rows) ∷ (Equations, matrix m others) ∷ []))) u o
  both_described c rows m others A E stand stands cols ecols valid vanish cuts e = record {
    thing = thing;
    orders = orders;
    each = λ f i. three (λ f. RightFact f u o) inequalities equations ambient
        (record { xs = A; stand = stand; cols = cols; each = All_among (IsValid u.cols u.generators u.lines) A valid })
        (record { xs = E; stand = stands; cols = ecols; each = All_among (Vanishes u.cols u.generators u.lines) E vanish })
        (ap pos e) f (among_Contains _ i);
    together = λ f g i j. three (λ f. RightTogether u f g) inequalities equations ambient
        (three (λ g. RightTogether u inequalities g) inequalities equations ambient tt (record { as' = A; es = E; inequalities_stand = stand; equations_stand = stands; cuts_out = cuts }) tt g (among_Contains _ j))
        (three (λ g. RightTogether u equations g) inequalities equations ambient tt tt tt g (among_Contains _ j))
        (three (λ g. RightTogether u ambient g) inequalities equations ambient tt tt tt g (among_Contains _ j)) f (among_Contains _ i);
  }
    where
      inequalities : Fact
      inequalities = record { place = None; property = Inequalities; value = matrix c rows }

      equations : Fact
      equations = record { place = None; property = Equations; value = matrix m others }

      ambient : Fact
      ambient = record { place = None; property = ConeAmbientDim; value = whole (pos (settled_of_both c m)) }

  -- points and lines
  pub generated_described : (c : ℕ) (rows : List (List Ratio)) (m : ℕ) (others : List (List Ratio)) (X K : List Row) → StandFor rows X → StandFor others K → HasCols u.cols X → HasCols u.cols K → ((l : Row) → Among l K → InLines u l) → Generates u X K
      → settled_of_both c m ≡ u.cols → RightAll (settled_facts (polytope_with ((Points, matrix c rows) ∷ (InputLineality, matrix m others) ∷ []))) u o
  generated_described c rows m others X K stand stands cols kcols inside generates e = record {
    thing = thing;
    orders = orders;
    each = λ f i. three (λ f. RightFact f u o) points lines ambient
        (record { xs = X; stand = stand; cols = cols; each = All_among (InSet u) X (λ x j. (generates.same x (all_at (λ (y : Row). length y ≡ u.cols) j cols)).1 (in_generator j)) })
        (record { xs = K; stand = stands; cols = kcols; each = All_among (InLines u) K inside })
        (ap pos e) f (among_Contains _ i);
    together = λ f g i j. three (λ f. RightTogether u f g) points lines ambient
        (three (λ g. RightTogether u points g) points lines ambient tt (record { xs = X; ls = K; points_stand = stand; lines_stand = stands; generates = generates }) tt g (among_Contains _ j))
        (three (λ g. RightTogether u lines g) points lines ambient tt tt tt g (among_Contains _ j))
        (three (λ g. RightTogether u ambient g) points lines ambient tt tt tt g (among_Contains _ j)) f (among_Contains _ i);
  }
    where
      points : Fact
      points = record { place = None; property = Points; value = matrix c rows }

      lines : Fact
      lines = record { place = None; property = InputLineality; value = matrix m others }

      ambient : Fact
      ambient = record { place = None; property = ConeAmbientDim; value = whole (pos (settled_of_both c m)) }
