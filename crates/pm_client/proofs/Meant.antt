-- What clients mean where one of the kind is at a place; and after it was started, or one goes.
use Rattle.pm_client.proofs.SameKind.{same_kind_refl}
use Rattle.pm_client.specs.Meanings.{Meanings, Narrows, OfOne, meanings}
use Rattle.pm_client.specs.Starts.{same_kind}
use Rattle.pm_client.specs.declared.ClientFail.{ClientFail}
use Rattle.pm_object.specs.Reading.{DraftSeen, ViewSeen}
use Rattle.pm_props.specs.declared.kind.Kind.{Kind}
use Rattle.std.proofs.Common.{ap, arith, get_or, inl, inr, subst, sym, true, ◌∙◌}
use Rattle.std.proofs.Math.ListN.{set}
use Rattle.std.specs.List.{remove}
use Rattle.std.specs.Prelude.{Err, IfErr, List, Ok, OnOk, Result, [], length, suc, zero, ℕ, ◌<◌, ◌∷◌, ◌≡◌, ◌⊎◌}

of_one_at : {B : Type 0} (P : B → Type 0) (xs : List B) (i : ℕ) (x : B) → i < length xs → x ≡ get_or xs i x → P x → OfOne P xs
of_one_at P [] i x h is p = absurd (omega arith)
of_one_at P (y ∷ ys) zero x h is p = inl (subst P is p)
of_one_at P (y ∷ ys) (suc i) x h is p = inr (of_one_at P ys i x (omega arith) is p)

-- the client at a place is of the kind, and means this
pub one_so : {B : Type 0} (f : B → Kind × ℕ) (kind : Kind) (P : B → Type 0) (xs : List B) (i : ℕ) (x : B) → i < length xs → x ≡ get_or xs i x → (f x).0 ≡ kind → P x
    → OfOne (λ b. (same_kind (f b).0 kind ≡ true) × P b) xs
one_so f kind P xs i x h is same p = of_one_at (λ b. (same_kind (f b).0 kind ≡ true) × P b) xs i x h is (ap (λ k. same_kind k kind) same ∙ same_kind_refl kind, p)

-- the client at a place was replaced by itself, which says no more
of_one_set : {B : Type 0} (P : B → Type 0) (xs : List B) (i : ℕ) (x new : B) → i < length xs → x ≡ get_or xs i x → (P new → P x) → OfOne P (set xs i new) → OfOne P xs
of_one_set P [] i x new h is less p = p
of_one_set P (y ∷ ys) zero x new h is less (inl p) = inl (subst P is (less p))
of_one_set P (y ∷ ys) zero x new h is less (inr p) = inr p
of_one_set P (y ∷ ys) (suc i) x new h is less (inl p) = inl p
of_one_set P (y ∷ ys) (suc i) x new h is less (inr p) = inr (of_one_set P ys i x new (omega arith) is less p)

pub narrows_at : {B : Type 0} (f : B → Kind × ℕ) (gives : B → ViewSeen → DraftSeen → Type 0) (fails : B → ViewSeen → ClientFail → Type 0) (xs : List B) (i : ℕ) (x new : B)
    → i < length xs → x ≡ get_or xs i x → (f new).0 ≡ (f x).0 → ((v : ViewSeen) (d : DraftSeen) → gives new v d → gives x v d) → ((v : ViewSeen) (e : ClientFail) → fails new v e → fails x v e)
    → Narrows (meanings f gives fails xs) (meanings f gives fails (set xs i new))
narrows_at f gives fails xs i x new h is same g e = record {
  gives = λ v d p. of_one_set (λ b. (same_kind (f b).0 v.kind ≡ true) × gives b v d) xs i x new h is (λ q. (ap (λ k. same_kind k v.kind) (sym same) ∙ q.0, g v d q.1)) p;
  fails = λ v d p. of_one_set (λ b. (same_kind (f b).0 v.kind ≡ true) × fails b v d) xs i x new h is (λ q. (ap (λ k. same_kind k v.kind) (sym same) ∙ q.0, e v d q.1)) p;
}

-- of an answer, and of a failure
pub on_ok : {T E : Type 0} {G H : Type 0} (r : Result T E) → (G → H) → OnOk r G → OnOk r H
on_ok (Ok x) to g = to g
on_ok (Err e) to g = g

pub on_err : {T E : Type 0} {P Q : E → Type 0} (r : Result T E) → ((e : E) → P e → Q e) → IfErr r P → IfErr r Q
on_err (Ok x) to p = p
on_err (Err e) to p = to e p

-- one of them goes
of_one_removed : {B : Type 0} (P : B → Type 0) (xs : List B) (i : ℕ) → OfOne P (remove xs i) → OfOne P xs
of_one_removed P [] zero p = p
of_one_removed P [] (suc i) p = p
of_one_removed P (x ∷ xs) zero p = inr p
of_one_removed P (x ∷ xs) (suc i) (inl p) = inl p
of_one_removed P (x ∷ xs) (suc i) (inr p) = inr (of_one_removed P xs i p)

pub narrows_removed : {B : Type 0} (f : B → Kind × ℕ) (gives : B → ViewSeen → DraftSeen → Type 0) (fails : B → ViewSeen → ClientFail → Type 0) (xs : List B) (i : ℕ)
    → Narrows (meanings f gives fails xs) (meanings f gives fails (remove xs i))
narrows_removed f gives fails xs i = record { gives = λ v d p. of_one_removed _ xs i p; fails = λ v e p. of_one_removed _ xs i p }
