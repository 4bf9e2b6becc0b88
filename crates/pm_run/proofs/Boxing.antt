-- Boxes that have values of one type, put behind one another.
use Rattle.pm_client.proofs.SameKind.{same_kind_is}
use Rattle.pm_client.specs.Meanings.{Narrows, OfOne}
use Rattle.pm_client.specs.Starts.{same_kind}
use Rattle.pm_client.specs.declared.ClientFail.{ClientFail}
use Rattle.pm_object.specs.Reading.{DraftSeen, ViewSeen}
use Rattle.pm_props.specs.declared.kind.Kind.{Kind}
use Rattle.std.proofs.Common.{ap, arith, inl, inr, refl, slice_index_or, sym, take, zero, suc, length, ◌+◌, ◌<◌, ◌++◌, ◌∙◌, ◌≡◌}
use Rattle.std.proofs.lemmas.List.{take_all}
use Rattle.std.specs.Prelude.{List, [], map, true, ℕ, ◌∷◌, ◌≤◌, ◌⊎◌}
use Rattle.std.specs.declared.dyn_box.DynBox.{DynBox}

-- there is one table of members alone: each box has a value of its type
pub over_boxes : {Z : Type 0} {F : Unit {0} ⊎ ⊥ → Type 0} (Q : DynBox (Unit {0} ⊎ ⊥) Z F → Type 0) → ((x : F (inl tt)) (p : _) (a : Z) → Q (record { ptr = p; vtable = inl tt; alloc = a; value = x })) → (b : DynBox (Unit {0} ⊎ ⊥) Z F) → Q b
over_boxes {Z} {F} Q h b = by b.vtable b.value
  where
    by : (i : Unit {0} ⊎ ⊥) (x : F i) → Q (record { ptr = b.ptr; vtable = i; alloc = b.alloc; value = x })
    by (inl tt) x = h x b.ptr b.alloc
    by (inr e) x = absurd e

-- of one of these so much is so
of_one_to : {B : Type 0} (P : B → Type 0) (T : Type 0) → ((b : B) → P b → T) → (xs : List B) → OfOne P xs → T
of_one_to P T to [] p = absurd p
of_one_to P T to (x ∷ xs) (inl p) = to x p
of_one_to P T to (x ∷ xs) (inr p) = of_one_to P T to xs p

-- what each of these is, which does a work, and says what is said of that
pub record Does {B W : Type 0} (k : B → Kind) (gives : B → ViewSeen → DraftSeen → Type 0) (fails : B → ViewSeen → ClientFail → Type 0) (kind : W → Kind) (G : W → ViewSeen → DraftSeen → Type 0) (E : W → ViewSeen → ClientFail → Type 0) (b : B) : Type 0 where
  pub work : W
  pub is : k b ≡ kind work
  pub gives_so : (v : ViewSeen) (d : DraftSeen) → gives b v d → G work v d
  pub fails_so : (v : ViewSeen) (e : ClientFail) → fails b v e → E work v e

pub narrows_all : {B W : Type 0} (k : B → Kind) (gives : B → ViewSeen → DraftSeen → Type 0) (fails : B → ViewSeen → ClientFail → Type 0) (kind : W → Kind) (G : W → ViewSeen → DraftSeen → Type 0) (E : W → ViewSeen → ClientFail → Type 0) (xs : List B)
    → ((b : B) → Does k gives fails kind G E b)
    → Narrows (record { Gives = λ v d. (w : W) × (kind w ≡ v.kind) × G w v d; Fails = λ v e. (w : W) × (kind w ≡ v.kind) × E w v e }) (record { Gives = λ v d. OfOne (λ b. (same_kind (k b) v.kind ≡ true) × gives b v d) xs; Fails = λ v e. OfOne (λ b. (same_kind (k b) v.kind ≡ true) × fails b v e) xs })
narrows_all {B} {W} k gives fails kind G E xs each = record {
  gives = λ v d p. of_one_to _ ((w : W) × (kind w ≡ v.kind) × G w v d) (λ b q. ((each b).work, sym (each b).is ∙ same_kind_is _ _ q.0, (each b).gives_so v d q.1)) xs p;
  fails = λ v e p. of_one_to _ ((w : W) × (kind w ≡ v.kind) × E w v e) (λ b q. ((each b).work, sym (each b).is ∙ same_kind_is _ _ q.0, (each b).fails_so v e q.1)) xs p;
}

-- what is read of the value in the box
abbrev pub seen_at : {T : Type 0} (F : Unit {0} ⊎ ⊥ → Type 0) → (F (inl (tt {0})) → T) → (i : Unit {0} ⊎ ⊥) → F i → T
seen_at F t (inl u) x = t x
seen_at F t (inr e) x = absurd e

abbrev pub seen_by : {T Z : Type 0} {F : Unit {0} ⊎ ⊥ → Type 0} → (F (inl (tt {0})) → T) → DynBox (Unit {0} ⊎ ⊥) Z F → T
seen_by {T} {Z} {F} t b = seen_at F t b.vtable b.value

pub map_as : {A B : Type 0} (f g : A → B) → ((x : A) → f x ≡ g x) → (xs : List A) → map f xs ≡ map g xs
map_as f g same [] = refl
map_as f g same (x ∷ xs) = ap (λ y. y ∷ map f xs) (same x) ∙ ap (λ ys. g x ∷ ys) (map_as f g same xs)

-- what is read of the first ones and of the next one
pub map_take : {A B : Type 0} (f : A → B) (xs : List A) (i : ℕ) (d : A) → i < length xs → map f (take i xs) ++ f (slice_index_or xs i d) ∷ [] ≡ map f (take (i + 1) xs)
map_take f [] i d h = absurd (omega arith)
map_take f (x ∷ xs) zero d h = refl
map_take f (x ∷ xs) (suc i) d h = let k : suc i + 1 ≡ suc (i + 1) = omega arith in rw k (ap (λ ys. f x ∷ ys) (map_take f xs i d (omega arith)))

-- the next one was put behind them: what t tells of them, s does
pub pushed_next : {A B C : Type 0} (f : A → B) (xs : List A) (i : ℕ) (d : A) → i < length xs → (t s : C → B) → ((c : C) → t c ≡ s c) → (old new : List C) (z : B)
    → map s old ≡ map f (take i xs) → map t new ≡ map t old ++ z ∷ [] → z ≡ f (slice_index_or xs i d) → map s new ≡ map f (take (i + 1) xs)
pushed_next f xs i d h t s same old new z first put is =
    sym (map_as t s same new) ∙ put ∙ ap (λ ks. ks ++ z ∷ []) (map_as t s same old ∙ first) ∙ ap (λ y. map f (take i xs) ++ y ∷ []) is ∙ map_take f xs i d h

pub map_twice : {A B C : Type 0} (g : B → C) (f : A → B) (xs : List A) → map (λ x. g (f x)) xs ≡ map g (map f xs)
map_twice g f [] = refl
map_twice g f (x ∷ xs) = ap (λ ys. g (f x) ∷ ys) (map_twice g f xs)

pub as_many : {A B : Type 0} (f : A → B) (xs : List A) (ys : List B) → map f xs ≡ ys → length xs ≡ length ys
as_many f [] ys is = ap length is
as_many f (x ∷ xs) [] is = absurd (cc is)
as_many f (x ∷ xs) (y ∷ ys) is = ap suc (as_many f xs ys (cc is))

-- all were put behind one another: what t tells of them, s does, and s tells u of what each f is
pub all_pushed : {A B C D : Type 0} (u : D → B) (f : A → D) (xs : List A) (i : ℕ) (all : List D) → length xs ≤ i → map f xs ≡ all → (t s : C → B) → ((c : C) → t c ≡ s c) → (cs : List C)
    → map s cs ≡ map (λ x. u (f x)) (take i xs) → map t cs ≡ map u all
all_pushed u f xs i all over is t s same cs has =
    map_as t s same cs ∙ has ∙ ap (map (λ x. u (f x))) (take_all i xs over) ∙ map_twice u f xs ∙ ap (map u) is
