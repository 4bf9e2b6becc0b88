-- What goes without saying leaves all values of an object in their forms.
use Rattle.pm_vector.proofs.Lists.{Contains_among, all_append, here, there}
use Rattle.pm_object.proofs.Formed.{backed_own, own_place, Each, formed_push, held_dimension, held_stays, new_unheld, others_agree, value_among, value_later, value_stays}
use Rattle.pm_object.specs.Formed.{IsFormedIn, IsFormed, stands_at}
use Rattle.pm_object.specs.declared.held.Held.{Held as HeldOf}
use Rattle.pm_vector.specs.Numbers.{Ratio}
use Rattle.pm_object.specs.State.{HeldValue, State, agrees, ambient_in, cols_of, first_cols, is_held, has_rounds, names_to_settle, only_if, or_else, settled, settling, sites_agree, value_of, with_held}
use Rattle.pm_fraction.specs.Matrices.{IsFraction}
use Rattle.pm_types.specs.Forms.{HasPrimitiveRow, cols_in, is_column_count, is_dimension, is_formed, is_matrix_form, is_matrix_of, is_row_of_entries, stated_cols}
use Rattle.pm_props.specs.Places.{same_place, same_property}
use Rattle.pm_props.specs.Properties.{has, has_program, is_columned, is_of_matrices, value_kind}
use Rattle.pm_types.specs.Values.{PropertyValue, matrix, sets, whole, truth, extended, edges, lattice, counts}
use Rattle.pm_props.specs.declared.property.PropId.{PropId}
use Rattle.pm_props.specs.declared.property.PropId.TheVariants.{ConeAmbientDim, Points, InputLineality, Inequalities, Equations, Vertices, LinealitySpace, Facets, AffineHull, F2Vector, LinearObjective, SiteHeights, Sites}
use Rattle.pm_object_type.specs.declared.object_type.ObjectType.{ObjectType}
use Rattle.pm_object_type.specs.declared.object_type.ObjectType.TheVariants.{Polytope, Cone, Fan}
use Rattle.std.proofs.Common.{ap, append-nil, append_assoc, arith, false, refl, subst, sym, true, true≢false, ◌∙◌}
use Rattle.std.proofs.lemmas.Bool.{leb-true, not-true}
use Rattle.std.proofs.lemmas.List.Elements.{All-nil}
use Rattle.std.proofs.lemmas.List.Folds.{list_any-append}
use Rattle.std.specs.List.{All, AllByRecursion, list_all}
use Rattle.std.specs.Option.{is_some, unwrap_or}
use Rattle.std.specs.Prelude.{Bool, IfSome, List, None, Option, Some, [], if◌then◌else◌, length, map, nat_eq, nat_le, not, ℕ, ◌&&◌, ◌||◌, ◌++◌, ◌^◌, ◌<◌, ◌≡◌, ◌∷◌}
use lib.IntN.{pos}
use Rattle.pm_limits.specs.Limits.{most_columns, most_rows, most_site_columns}

-- the properties that are settled as matrices without rows
data Plain : PropId → Type 0 where
  lineality : Plain InputLineality
  equations : Plain Equations
  space : Plain LinealitySpace
  hull : Plain AffineHull

no_rows_agree : (c : Option ℕ) {p : PropId} → Plain p → agrees c p (matrix 0 []) ≡ true
no_rows_agree None q = refl
no_rows_agree (Some n) lineality = refl
no_rows_agree (Some n) equations = refl
no_rows_agree (Some n) space = refl
no_rows_agree (Some n) hull = refl

plain_formed : (of : ObjectType) (c : Option ℕ) (k n : ℕ) {p : PropId} → Plain p → has of p ≡ true → IsFormedIn of c k (settled n p)
plain_formed of c k n lineality t = record { formed = refl; columns = no_rows_agree c lineality; rows = refl; entries = All-nil (All IsFraction); primitive = All-nil HasPrimitiveRow; placed = refl; table = λ e. t }
plain_formed of c k n equations t = record { formed = refl; columns = no_rows_agree c equations; rows = refl; entries = All-nil (All IsFraction); primitive = All-nil HasPrimitiveRow; placed = refl; table = λ e. t }
plain_formed of c k n space t = record { formed = refl; columns = no_rows_agree c space; rows = refl; entries = All-nil (All IsFraction); primitive = All-nil HasPrimitiveRow; placed = refl; table = λ e. t }
plain_formed of c k n hull t = record { formed = refl; columns = no_rows_agree c hull; rows = refl; entries = All-nil (All IsFraction); primitive = All-nil HasPrimitiveRow; placed = refl; table = λ e. t }

with_nothing : (o : State) → with_held o [] ≡ o
with_nothing o = ap (λ t. record o { held = t }) (append-nil o.held)

map_append : {A B : Type 0} (f : A → B) (xs ys : List A) → map f (xs ++ ys) ≡ map f xs ++ map f ys
map_append f [] ys = refl
map_append f (x ∷ xs) ys = ap (λ t. f x ∷ t) (map_append f xs ys)

with_last : (o : State) (xs ys : List HeldValue) → with_held (with_held o xs) ys ≡ with_held o (xs ++ ys)
with_last o xs ys = ap (λ t. record o { held = t }) (append_assoc o.held xs ys)

-- ---- the properties are settled in turn
-- a matrix without rows of this property may be settled: the type's table has it, and it does not stand in the object
record MaySettle (of : ObjectType) (held : List HeldValue) (p : PropId) : Type 0 where
  plain : Plain p
  table : has of p ≡ true
  new : stands_at None p held ≡ false

abbrev AreApart : PropId → List PropId → Type 0
AreApart p names = AllByRecursion (λ q. same_property p q ≡ false) names

apart_if : (b : Bool) (p q : PropId) → same_property p q ≡ false → AreApart p (only_if b q)
apart_if true p q e = (e, tt)
apart_if false p q e = tt

none_settled : (p : PropId) (n : ℕ) (names : List PropId) → AreApart p names → stands_at None p (map (settled n) names) ≡ false
none_settled p n [] a = refl
none_settled p n (q ∷ names) a = ap (λ t. (t && true) || stands_at None p (map (settled n) names)) a.0 ∙ none_settled p n names a.1

new_still : (p : PropId) (n : ℕ) (names : List PropId) (held : List HeldValue) → stands_at None p held ≡ false → AreApart p names → stands_at None p (held ++ map (settled n) names) ≡ false
new_still p n names held new a =
    list_any-append (λ (g : HeldValue). same_property p g.property && same_place g.place None) held (map (settled n) names)
    ∙ ap (λ t. t || stands_at None p (map (settled n) names)) new ∙ none_settled p n names a

plain_own : {p : PropId} → Plain p → has_program p ≡ false
plain_own lineality = refl
plain_own equations = refl
plain_own space = refl
plain_own hull = refl

-- a value that settling adds agrees with all in the number of sites
plain_agrees : {p : PropId} → Plain p → (v : PropertyValue) (held : List HeldValue) → sites_agree held p v ≡ true
plain_agrees lineality v held = others_agree InputLineality v held refl refl
plain_agrees equations v held = others_agree Equations v held refl refl
plain_agrees space v held = others_agree LinealitySpace v held refl refl
plain_agrees hull v held = others_agree AffineHull v held refl refl

settle_more : (o : State) (n : ℕ) (names : List PropId) (b : Bool) (p : PropId) → IsFormed (with_held o (map (settled n) names)) → (b ≡ true → MaySettle o.of o.held p) → AreApart p names
    → IsFormed (with_held o (map (settled n) (names ++ only_if b p)))
settle_more o n names false p f may a = subst (λ t. IsFormed (with_held o (map (settled n) t))) (sym (append-nil names)) f
settle_more o n names true p f may a =
    let m = may refl in
    let last : with_held (with_held o (map (settled n) names)) (settled n p ∷ []) ≡ with_held o (map (settled n) (names ++ p ∷ [])) =
    with_last o (map (settled n) names) (settled n p ∷ []) ∙ ap (λ t. with_held o t) (sym (map_append (settled n) names (p ∷ []))) in
    subst IsFormed last
    (formed_push (with_held o (map (settled n) names)) (settled n p) f (new_still p n names o.held m.new a) (backed_own p (o.held ++ map (settled n) names) (plain_own m.plain)) (plain_formed o.of (cols_of (o.held ++ map (settled n) names)) (length o.programs) n m.plain m.table)
    (λ e. plain_agrees m.plain (settled n p).value (o.held ++ map (settled n) names)))

-- ---- a known column count is from 1 to 33
and_left : (a b : Bool) → (a && b) ≡ true → a ≡ true
and_left true b h = refl
and_left false b h = absurd (true≢false (sym h))

and_right : (a b : Bool) → (a && b) ≡ true → b ≡ true
and_right true b h = h
and_right false b h = absurd (true≢false (sym h))

at_most : (rows : List (List Ratio)) (n : ℕ) → is_column_count rows n ≡ true → nat_eq n 0 ≡ false → is_dimension (pos n) ≡ true
at_most [] n h k = grind arith
at_most (r ∷ rows) n h k = h

column_count : (n : ℕ) (rows : List (List Ratio)) → is_matrix_form n rows ≡ true → is_column_count rows n ≡ true
column_count n rows h = and_right (nat_le (length rows) most_rows) (is_column_count rows n) (and_left (nat_le (length rows) most_rows && is_column_count rows n) (list_all (is_row_of_entries n) rows) h)

-- a property whose rows have the thing's columns is no table
matrix_at_most : (p : PropId) (n : ℕ) (rows : List (List Ratio)) → is_columned p ≡ true → is_matrix_of p n rows ≡ true → nat_eq n 0 ≡ false → is_dimension (pos n) ≡ true
matrix_at_most F2Vector n rows c h k = absurd (true≢false (sym c))
matrix_at_most SiteHeights n rows c h k = absurd (true≢false (sym c))
matrix_at_most Sites n rows c h k = at_most rows n (column_count n rows (and_right (nat_le n most_site_columns) (is_matrix_form n rows) h)) k
matrix_at_most LinearObjective n rows c h k = at_most rows n (column_count n rows (and_right (nat_eq (length rows) 1) (is_matrix_form n rows) h)) k
matrix_at_most p n rows c h k = at_most rows n (column_count n rows h) k

matrix_range : (p : PropId) (v : PropertyValue) → is_formed p v ≡ true → nat_eq (stated_cols p v) 0 ≡ false → is_dimension (pos (stated_cols p v)) ≡ true
matrix_range p v f k = by (is_columned p) refl v f k
  where
    zero_apart : nat_eq 0 0 ≡ false → {A : Type 0} → A
    zero_apart e = absurd (true≢false e)

    by : (t : Bool) → is_columned p ≡ t → (v : PropertyValue) → is_formed p v ≡ true → nat_eq (if t then cols_in v else 0) 0 ≡ false → is_dimension (pos (if t then cols_in v else 0)) ≡ true
    by false c v f k = zero_apart k
    by true c (matrix n rows) f k = matrix_at_most p n rows c (and_right (is_of_matrices (value_kind p)) (is_matrix_of p n rows) f) k
    by true c (sets rows n) f k = zero_apart k
    by true c (whole n) f k = zero_apart k
    by true c (truth b) f k = zero_apart k
    by true c (extended x) f k = zero_apart k
    by true c (edges rows n) f k = zero_apart k
    by true c (lattice ranks) f k = zero_apart k
    by true c (counts ks) f k = zero_apart k

some_is : (a b : ℕ) → Some a ≡ Some b → a ≡ b
some_is a b h = cc

first_range : (of : ObjectType) (c : Option ℕ) (k : ℕ) (held : List HeldValue) (n : ℕ) → Each of c k held → first_cols held ≡ Some n → is_dimension (pos n) ≡ true
first_range of c k [] n each e = absurd (true≢false (sym (ap is_some e)))
first_range of c k (x ∷ held) n each e = by (nat_eq (stated_cols x.property x.value) 0) refl (λ h. first_range of c k held n (λ g i. each g (there i)) h) e
  where
    by : (t : Bool) → nat_eq (stated_cols x.property x.value) 0 ≡ t → (first_cols held ≡ Some n → is_dimension (pos n) ≡ true)
        → (if t then first_cols held else Some (stated_cols x.property x.value)) ≡ Some n → is_dimension (pos n) ≡ true
    by true s rest h = rest h
    by false s rest h = subst (λ k. is_dimension (pos k) ≡ true) (some_is _ _ h) (matrix_range x.property x.value (each x here).formed s)

pub cols_range : (of : ObjectType) (k : ℕ) (held : List HeldValue) (n : ℕ) → Each of (cols_of held) k held → cols_of held ≡ Some n → is_dimension (pos n) ≡ true
cols_range of k held n each e = by (value_of ConeAmbientDim held) refl
  where
    by : (v : Option PropertyValue) → value_of ConeAmbientDim held ≡ v → is_dimension (pos n) ≡ true
    by None is = first_range of (cols_of held) k held n each (ap (λ w. or_else (ambient_in w) (first_cols held)) (sym is) ∙ e)
    by (Some v) is =
        let d = held_dimension of (cols_of held) k held v each is in
        let old : Some d.n ≡ Some n = ap (λ w. or_else (ambient_in w) (first_cols held)) (sym (is ∙ ap Some d.value)) ∙ e in
        subst (λ k. is_dimension (pos k) ≡ true) (some_is _ _ old) d.range

pub cols_fit : (o : State) (c : Option ℕ) → IsFormed o → c ≡ cols_of o.held → IfSome c (λ n. n < 2 ^ 63)
cols_fit o None f e = tt
cols_fit o (Some n) f e =
    let range : is_dimension (pos n) ≡ true = cols_range o.of (length o.programs) o.held n (λ g i. f.each g (Contains_among i)) (sym e) in
    let few = leb-true n most_columns (and_right (nat_le 1 n) (nat_le n most_columns) range) in
    omega arith

-- the dimension that is settled
all_have_it : (of : ObjectType) → has of ConeAmbientDim ≡ true
all_have_it Polytope = refl
all_have_it Cone = refl
all_have_it Fan = refl

dimension_fits : (of : ObjectType) (k : ℕ) (held : List HeldValue) → Each of (cols_of held) k held → IsFormedIn of (cols_of held) k (settled (unwrap_or (cols_of held) 1) ConeAmbientDim)
dimension_fits of k held each = by (cols_of held) refl
  where
    same_number : (n : ℕ) → nat_eq n n ≡ true
    same_number n = grind arith

    by : (c : Option ℕ) → cols_of held ≡ c → IsFormedIn of c k (settled (unwrap_or c 1) ConeAmbientDim)
    by None e = record { formed = refl; columns = refl; rows = refl; entries = All-nil (All IsFraction); primitive = All-nil HasPrimitiveRow; placed = refl; table = λ e. all_have_it of }
    by (Some n) e = record { formed = cols_range of k held n each e; columns = same_number n; rows = refl; entries = All-nil (All IsFraction); primitive = All-nil HasPrimitiveRow; placed = refl; table = λ e. all_have_it of }

dimension_settled : (o : State) (n : ℕ) (a : Bool) → n ≡ unwrap_or (cols_of o.held) 1 → IsFormed o → (a ≡ true → stands_at None ConeAmbientDim o.held ≡ false) → IsFormed (with_held o (map (settled n) (only_if a ConeAmbientDim)))
dimension_settled o n false is f new = subst IsFormed (sym (with_nothing o)) f
dimension_settled o n true is f new =
    formed_push o (settled n ConeAmbientDim) f (new refl) (backed_own ConeAmbientDim o.held refl)
    (subst (λ k. IsFormedIn o.of (cols_of o.held) (length o.programs) (settled k ConeAmbientDim)) (sym is) (dimension_fits o.of (length o.programs) o.held (λ g i. f.each g (Contains_among i))))
    (λ e. others_agree ConeAmbientDim (settled n ConeAmbientDim).value o.held refl refl)

-- a, b, c, d, e say which of the properties are settled
names_settled : (o : State) (n : ℕ) (a b c d e : Bool) → n ≡ unwrap_or (cols_of o.held) 1 → IsFormed o → (a ≡ true → stands_at None ConeAmbientDim o.held ≡ false)
    → (b ≡ true → MaySettle o.of o.held InputLineality) → (c ≡ true → MaySettle o.of o.held Equations) → (d ≡ true → MaySettle o.of o.held LinealitySpace) → (e ≡ true → MaySettle o.of o.held AffineHull)
    → IsFormed (with_held o (map (settled n) (only_if a ConeAmbientDim ++ only_if b InputLineality ++ only_if c Equations ++ only_if d LinealitySpace ++ only_if e AffineHull)))
names_settled o n a b c d e is f ma mb mc md me =
    let A = only_if a ConeAmbientDim in
    let B = only_if b InputLineality in
    let C = only_if c Equations in
    let D = only_if d LinealitySpace in
    let apart_two : (p : PropId) → same_property p ConeAmbientDim ≡ false → same_property p InputLineality ≡ false → AreApart p (A ++ B) =
    λ p u v. all_append (λ q. same_property p q ≡ false) A B (apart_if a p ConeAmbientDim u) (apart_if b p InputLineality v) in
    let apart_three : (p : PropId) → same_property p ConeAmbientDim ≡ false → same_property p InputLineality ≡ false → same_property p Equations ≡ false → AreApart p (A ++ B ++ C) =
    λ p u v w. all_append (λ q. same_property p q ≡ false) (A ++ B) C (apart_two p u v) (apart_if c p Equations w) in
    let first = dimension_settled o n a is f ma in
    let second = settle_more o n A b InputLineality first mb (apart_if a InputLineality ConeAmbientDim refl) in
    let third = settle_more o n (A ++ B) c Equations second mc (apart_two Equations refl refl) in
    let fourth = settle_more o n (A ++ B ++ C) d LinealitySpace third md (apart_three LinealitySpace refl refl refl) in
    settle_more o n (A ++ B ++ C ++ D) e AffineHull fourth me
    (all_append (λ q. same_property AffineHull q ≡ false) (A ++ B ++ C) D (apart_three AffineHull refl refl refl) (apart_if d AffineHull LinealitySpace refl))

-- what is held of the object itself is of the type's table
in_table : (o : State) (p : PropId) → IsFormed o → has_program p ≡ false → is_held p o.held ≡ true → has o.of p ≡ true
in_table o p f own e = by (value_of p o.held) refl e
  where
    by : (v : Option PropertyValue) → value_of p o.held ≡ v → is_some v ≡ true → has o.of p ≡ true
    by None is k = absurd (true≢false (sym k))
    by (Some v) is k =
        let (h, i, same, w) = value_among p o.held v is in
        let fits = f.each h (Contains_among i) in
        let place = own_place (length o.programs) h.property h.place (subst (λ q. has_program q ≡ false) (sym same) own) fits.placed in
        subst (λ q. has o.of q ≡ true) same (fits.table place)

unheld : (p : PropId) (held : List HeldValue) → not (is_held p held) ≡ true → stands_at None p held ≡ false
unheld p held e = new_unheld None p held (not-true (is_held p held) e)

-- the first and the last of five conditions
first_of_five : (a b c d e : Bool) → (a && b && c && d && e) ≡ true → a ≡ true
first_of_five a b c d e h = and_left a b (and_left (a && b) c (and_left (a && b && c) d (and_left (a && b && c && d) e h)))

last_of_five : (a b c d e : Bool) → (a && b && c && d && e) ≡ true → e ≡ true
last_of_five a b c d e h = and_right (a && b && c && d) e h

pub formed_settle : (o : State) → IsFormed o → IsFormed (with_held o (settling o))
formed_settle o f = by (has_rounds o)
  where
    held : PropId → Bool
    held p = is_held p o.held

    by : (t : Bool) → IsFormed (with_held o (map (settled (unwrap_or (cols_of o.held) 1)) (if t then [] else names_to_settle o.held)))
    by true = subst IsFormed (sym (with_nothing o)) f
    by false =
        names_settled o (unwrap_or (cols_of o.held) 1) _ _ _ _ _ refl f (λ h. unheld ConeAmbientDim o.held h)
        (λ h. record { plain = lineality; table = in_table o Points f refl (and_left (held Points) (not (held InputLineality)) h); new = unheld InputLineality o.held (and_right (held Points) (not (held InputLineality)) h) })
        (λ h. record { plain = equations; table = in_table o Inequalities f refl (and_left (held Inequalities) (not (held Equations)) h); new = unheld Equations o.held (and_right (held Inequalities) (not (held Equations)) h) })
        (λ h.
        let first = first_of_five (held Vertices) (not (held Points)) (not (held Inequalities)) (not (held Facets && held AffineHull)) (not (held LinealitySpace)) h in
        let last = last_of_five (held Vertices) (not (held Points)) (not (held Inequalities)) (not (held Facets && held AffineHull)) (not (held LinealitySpace)) h in
        record { plain = space; table = in_table o Vertices f refl first; new = unheld LinealitySpace o.held last })
        (λ h.
        let first = first_of_five (held Facets) (not (held Points)) (not (held Inequalities)) (not (held Vertices)) (not (held AffineHull)) h in
        let last = last_of_five (held Facets) (not (held Points)) (not (held Inequalities)) (not (held Vertices)) (not (held AffineHull)) h in
        record { plain = hull; table = in_table o Facets f refl first; new = unheld AffineHull o.held last })

-- the same, of the code's lists
pub formed_settled : (o : State) (f : HeldOf → HeldValue) (xs ys zs : List HeldOf) → o.held ≡ map f xs → zs ≡ xs ++ ys → map f ys ≡ settling o → IsFormed o → IsFormed (record o { held = map f zs })
formed_settled o f xs ys zs is e s formed =
    let same : map f zs ≡ o.held ++ settling o = ap (λ t. map f t) e ∙ map_append f xs ys ∙ ap (λ t. t ++ map f ys) (sym is) ∙ ap (λ t. o.held ++ t) s in
    subst (λ z. IsFormed (record o { held = z })) (sym same) (formed_settle o formed)

-- ---- a settled object knows its dimension
first_named : (o : State) (n : ℕ) (h b c d e : Bool) → h ≡ false
    → is_held ConeAmbientDim (o.held ++ map (settled n) (only_if (not h) ConeAmbientDim ++ only_if b InputLineality ++ only_if c Equations ++ only_if d LinealitySpace ++ only_if e AffineHull)) ≡ true
first_named o n true b c d e is = absurd (true≢false is)
first_named o n false b c d e is = by (value_of ConeAmbientDim o.held) refl
  where
    more : List HeldValue
    more = map (settled n) (only_if true ConeAmbientDim ++ only_if b InputLineality ++ only_if c Equations ++ only_if d LinealitySpace ++ only_if e AffineHull)

    by : (v : Option PropertyValue) → value_of ConeAmbientDim o.held ≡ v → is_held ConeAmbientDim (o.held ++ more) ≡ true
    by None is = ap is_some (value_later ConeAmbientDim o.held more is)
    by (Some v) is = ap is_some (value_stays ConeAmbientDim o.held more v is)

pub settled_dimension : (o : State) → IsFormed o → is_held ConeAmbientDim (o.held ++ settling o) ≡ true
settled_dimension o f = by (is_held ConeAmbientDim o.held) refl (has_rounds o) refl
  where
    n : ℕ
    n = unwrap_or (cols_of o.held) 1

    by : (h : Bool) → is_held ConeAmbientDim o.held ≡ h → (t : Bool) → has_rounds o ≡ t → is_held ConeAmbientDim (o.held ++ settling o) ≡ true
    by true e t s = held_stays ConeAmbientDim o.held (settling o) e
    by false e true s = absurd (true≢false (sym (f.dimension s) ∙ e))
    by false e false s = ap (λ t. is_held ConeAmbientDim (o.held ++ map (settled n) (if t then [] else names_to_settle o.held))) s ∙ first_named o n (is_held ConeAmbientDim o.held) _ _ _ _ e

pub settled_dimension_of : (o : State) (f : HeldOf → HeldValue) (xs ys zs : List HeldOf) → o.held ≡ map f xs → zs ≡ xs ++ ys → map f ys ≡ settling o → IsFormed o → is_held ConeAmbientDim (map f zs) ≡ true
settled_dimension_of o f xs ys zs is e s formed =
    let same : map f zs ≡ o.held ++ settling o = ap (λ t. map f t) e ∙ map_append f xs ys ∙ ap (λ t. t ++ map f ys) (sym is) ∙ ap (λ t. o.held ++ t) s in
    subst (λ z. is_held ConeAmbientDim z ≡ true) (sym same) (settled_dimension o formed)
