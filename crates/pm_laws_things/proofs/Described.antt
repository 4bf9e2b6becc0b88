-- The values of a new fan are right together.
use Rattle.pm_vector.proofs.Lists.{Among, among_Contains, here, there}
use Rattle.pm_vector.specs.Numbers.{Ratio}
use Rattle.pm_fan.specs.Fans.{fan_with}
use Rattle.pm_laws_things.specs.BuildingLaws.{settled_facts}
use Rattle.pm_geom.specs.Things.{Orders}
use Rattle.pm_props.specs.declared.property.PropId.TheVariants.{ConeAmbientDim, LinealitySpace, MaximalCones, Vertices}
use Rattle.pm_types.specs.Right.{Right, RightAll, RightFact, RightTogether}
use Rattle.pm_types.specs.Things.{AreOrders, IsThing, Thing}
use Rattle.pm_types.specs.Values.{Fact, matrix, sets, whole}
use Rattle.std.specs.Prelude.{List, None, [], ℕ, ◌∷◌}
use lib.IntN.{ℤ}

four : (P : Fact → Type 0) (x y z w : Fact) → P x → P y → P z → P w → (f : Fact) → Among f (x ∷ y ∷ z ∷ w ∷ []) → P f
four P x y z w px py pz pw f here = px
four P x y z w px py pz pw f (there here) = py
four P x y z w px py pz pw f (there (there here)) = pz
four P x y z w px py pz pw f (there (there (there here))) = pw
four P x y z w px py pz pw f (there (there (there (there i)))) = elim i [ ]

module _ (u : Thing) (p : Orders) (thing : IsThing u) (orders : AreOrders u p) (d : ℤ) (c : ℕ) (rays : List (List Ratio)) (k : ℕ) (lines : List (List Ratio)) (rows : List (List ℕ)) (n : ℕ)
    (right_dim : Right ConeAmbientDim (whole d) u p []) (right_rays : Right Vertices (matrix c rays) u p []) (right_lines : Right LinealitySpace (matrix k lines) u p []) (right_cones : Right MaximalCones (sets rows n) u p []) where
  abbrev x : Fact
  x = record { place = None; property = ConeAmbientDim; value = whole d }

  abbrev y : Fact
  y = record { place = None; property = Vertices; value = matrix c rays }

  abbrev z : Fact
  z = record { place = None; property = LinealitySpace; value = matrix k lines }

  abbrev w : Fact
  w = record { place = None; property = MaximalCones; value = sets rows n }

  pub fan_described : RightAll (settled_facts (fan_with ((ConeAmbientDim, whole d) ∷ (Vertices, matrix c rays) ∷ (LinealitySpace, matrix k lines) ∷ (MaximalCones, sets rows n) ∷ []))) u p
  fan_described = record {
    thing = thing;
    orders = orders;
    each = λ f i. four (λ f. RightFact f u p) x y z w right_dim right_rays right_lines right_cones f (among_Contains _ i);
    together = λ f g i j. four (λ f. RightTogether u f g) x y z w
        (four (λ g. RightTogether u x g) x y z w tt tt tt tt g (among_Contains _ j))
        (four (λ g. RightTogether u y g) x y z w tt tt tt tt g (among_Contains _ j))
        (four (λ g. RightTogether u z g) x y z w tt tt tt tt g (among_Contains _ j))
        (four (λ g. RightTogether u w g) x y z w tt tt tt tt g (among_Contains _ j)) f (among_Contains _ i);
  }

-- a fan without stated lines has none
module _ (u : Thing) (p : Orders) (thing : IsThing u) (orders : AreOrders u p) (d : ℤ) (c : ℕ) (rays : List (List Ratio)) (rows : List (List ℕ)) (n : ℕ)
    (right_dim : Right ConeAmbientDim (whole d) u p []) (right_rays : Right Vertices (matrix c rays) u p []) (right_cones : Right MaximalCones (sets rows n) u p []) (right_lines : Right LinealitySpace (matrix 0 []) u p []) where
  abbrev dim_fact : Fact
  dim_fact = record { place = None; property = ConeAmbientDim; value = whole d }

  abbrev rays_fact : Fact
  rays_fact = record { place = None; property = Vertices; value = matrix c rays }

  abbrev cones_fact : Fact
  cones_fact = record { place = None; property = MaximalCones; value = sets rows n }

  abbrev lines_fact : Fact
  lines_fact = record { place = None; property = LinealitySpace; value = matrix 0 [] }

  pub pointed_described : RightAll (settled_facts (fan_with ((ConeAmbientDim, whole d) ∷ (Vertices, matrix c rays) ∷ (MaximalCones, sets rows n) ∷ []))) u p
  pointed_described = record {
    thing = thing;
    orders = orders;
    each = λ f i. four (λ f. RightFact f u p) dim_fact rays_fact cones_fact lines_fact right_dim right_rays right_cones right_lines f (among_Contains _ i);
    together = λ f g i j. four (λ f. RightTogether u f g) dim_fact rays_fact cones_fact lines_fact
        (four (λ g. RightTogether u dim_fact g) dim_fact rays_fact cones_fact lines_fact tt tt tt tt g (among_Contains _ j))
        (four (λ g. RightTogether u rays_fact g) dim_fact rays_fact cones_fact lines_fact tt tt tt tt g (among_Contains _ j))
        (four (λ g. RightTogether u cones_fact g) dim_fact rays_fact cones_fact lines_fact tt tt tt tt g (among_Contains _ j))
        (four (λ g. RightTogether u lines_fact g) dim_fact rays_fact cones_fact lines_fact tt tt tt tt g (among_Contains _ j)) f (among_Contains _ i);
  }
