-- The five names of what may go without saying, each by its condition.
use Rattle.pm_object.specs.State.{only_if}
use Rattle.pm_props.specs.declared.property.PropId.{PropId}
use Rattle.pm_props.specs.declared.property.PropId.TheVariants.{AffineHull, ConeAmbientDim, Equations, InputLineality, LinealitySpace}
use Rattle.pm_vector.proofs.Lists.{Among, among_append, among_append_left, among_append_right, here, there}
use Rattle.std.proofs.Common.{false, inl, inr, refl, sym, true, true≢false}
use Rattle.std.specs.Prelude.{Bool, List, [], ◌++◌, ◌∷◌, ◌≡◌}

abbrev pub five : Bool → Bool → Bool → Bool → Bool → List PropId
five a b c d e = only_if a ConeAmbientDim ++ only_if b InputLineality ++ only_if c Equations ++ only_if d LinealitySpace ++ only_if e AffineHull

cons_nil : {A : Type 0} (x : A) (xs : List A) → x ∷ xs ≡ [] → ⊥
cons_nil x xs e = cc

empty_parts : (xs ys : List PropId) → xs ++ ys ≡ [] → (xs ≡ []) × (ys ≡ [])
empty_parts [] ys e = (refl, e)
empty_parts (x ∷ xs) ys e = absurd (cons_nil x (xs ++ ys) e)

no_name : (b : Bool) (p : PropId) → only_if b p ≡ [] → b ≡ false
no_name true p e = absurd (cons_nil p [] e)
no_name false p e = refl

pub record AllFalse (a b c d e : Bool) : Type 0 where
  pub first : a ≡ false
  pub second : b ≡ false
  pub third : c ≡ false
  pub fourth : d ≡ false
  pub fifth : e ≡ false

pub none_of_five : (a b c d e : Bool) → five a b c d e ≡ [] → AllFalse a b c d e
none_of_five a b c d e h =
    let (x, he) = empty_parts (only_if a ConeAmbientDim ++ only_if b InputLineality ++ only_if c Equations ++ only_if d LinealitySpace) (only_if e AffineHull) h in
    let (y, hd) = empty_parts (only_if a ConeAmbientDim ++ only_if b InputLineality ++ only_if c Equations) (only_if d LinealitySpace) x in
    let (z, hc) = empty_parts (only_if a ConeAmbientDim ++ only_if b InputLineality) (only_if c Equations) y in
    let (ha, hb) = empty_parts (only_if a ConeAmbientDim) (only_if b InputLineality) z in
    record { first = no_name a _ ha; second = no_name b _ hb; third = no_name c _ hc; fourth = no_name d _ hd; fifth = no_name e _ he }

one_name : (Q : PropId → Type 0) (b : Bool) (p : PropId) → (b ≡ true → Q p) → (q : PropId) → Among q (only_if b p) → Q q
one_name Q true p f q here = f refl
one_name Q true p f q (there i) = elim i [ ]
one_name Q false p f q i = elim i [ ]

pub each_of_five : (Q : PropId → Type 0) (a b c d e : Bool) → (a ≡ true → Q ConeAmbientDim) → (b ≡ true → Q InputLineality) → (c ≡ true → Q Equations) → (d ≡ true → Q LinealitySpace) → (e ≡ true → Q AffineHull) → (q : PropId) → Among q (five a b c d e) → Q q
each_of_five Q a b c d e fa fb fc fd fe q i =
    elim (among_append (only_if a ConeAmbientDim ++ only_if b InputLineality ++ only_if c Equations ++ only_if d LinealitySpace) (only_if e AffineHull) i) [
      | inr j ↦ one_name Q e AffineHull fe q j
      | inl j ↦ elim (among_append (only_if a ConeAmbientDim ++ only_if b InputLineality ++ only_if c Equations) (only_if d LinealitySpace) j) [
        | inr k ↦ one_name Q d LinealitySpace fd q k
        | inl k ↦ elim (among_append (only_if a ConeAmbientDim ++ only_if b InputLineality) (only_if c Equations) k) [
          | inr l ↦ one_name Q c Equations fc q l
          | inl l ↦ elim (among_append (only_if a ConeAmbientDim) (only_if b InputLineality) l) [
            | inr m ↦ one_name Q b InputLineality fb q m
            | inl m ↦ one_name Q a ConeAmbientDim fa q m
          ]
        ]
      ]
    ]

-- where its condition holds, a name is among them
only_one : (b : Bool) (p : PropId) → b ≡ true → Among p (only_if b p)
only_one true p h = here
only_one false p h = absurd (true≢false (sym h))

module _ (a b c d e : Bool) where
  pub among_first : a ≡ true → Among ConeAmbientDim (five a b c d e)
  among_first h = among_append_left (only_if e AffineHull) (among_append_left (only_if d LinealitySpace) (among_append_left (only_if c Equations) (among_append_left (only_if b InputLineality) (only_one a ConeAmbientDim h))))

  pub among_second : b ≡ true → Among InputLineality (five a b c d e)
  among_second h = among_append_left (only_if e AffineHull) (among_append_left (only_if d LinealitySpace) (among_append_left (only_if c Equations) (among_append_right (only_if a ConeAmbientDim) (only_one b InputLineality h))))

  pub among_third : c ≡ true → Among Equations (five a b c d e)
  among_third h = among_append_left (only_if e AffineHull) (among_append_left (only_if d LinealitySpace) (among_append_right (only_if a ConeAmbientDim ++ only_if b InputLineality) (only_one c Equations h)))

  pub among_fourth : d ≡ true → Among LinealitySpace (five a b c d e)
  among_fourth h = among_append_left (only_if e AffineHull) (among_append_right (only_if a ConeAmbientDim ++ only_if b InputLineality ++ only_if c Equations) (only_one d LinealitySpace h))

  pub among_fifth : e ≡ true → Among AffineHull (five a b c d e)
  among_fifth h = among_append_right (only_if a ConeAmbientDim ++ only_if b InputLineality ++ only_if c Equations ++ only_if d LinealitySpace) (only_one e AffineHull h)
