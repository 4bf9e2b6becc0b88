-- The first client of a kind, found place by place, and a client that was started once more.
use Rattle.pm_client.proofs.SameKind.{same_kind_apart, same_kind_refl}
use Rattle.pm_client.specs.Starts.{kind_at, next_count, place_in, same_kind, started_at, started_once}
use Rattle.pm_props.specs.declared.kind.Kind.{Kind}
use Rattle.std.proofs.Common.{true≢false, ap, arith, drop, false, get_or, length, refl, sym, true, ◌∙◌, ◌≢◌}
use Rattle.std.proofs.Math.ListN.{set}
use Rattle.std.specs.Option.{is_some}
use Rattle.std.specs.Prelude.{Bool, List, Some, [], map, suc, zero, ℕ, ◌+◌, ◌<◌, ◌∷◌, ◌≡◌}

started_head : (p : Kind × ℕ) (rest : List (Kind × ℕ)) → started_at 0 (p ∷ rest) ≡ (p.0, next_count p.1) ∷ rest
started_head (a, b) rest = refl

-- the client at a place was replaced by itself, started once more
pub started_set : {B : Type 0} (f : B → Kind × ℕ) (xs : List B) (i : ℕ) (old new : B) → i < length xs → old ≡ get_or xs i old
    → f new ≡ started_once (f old) → map f (set xs i new) ≡ started_at i (map f xs)
started_set f [] i old new h is k = absurd (omega arith)
started_set f (x ∷ xs) zero old new h is k =
    let same : f new ≡ ((f x).0, next_count (f x).1) = rw (← is) k in
    rw (same, started_head) refl
started_set f (x ∷ xs) (suc i) old new h is k = ap (λ (t : List (Kind × ℕ)). f x ∷ t) (started_set f xs i old new (omega arith) is k)

place_yes : (kind : Kind) (n : ℕ) (p : Kind × ℕ) (rest : List (Kind × ℕ)) → same_kind p.0 kind ≡ true → place_in kind n (p ∷ rest) ≡ Some n
place_yes kind n (a, b) rest e = rw e refl

place_no : (kind : Kind) (n : ℕ) (p : Kind × ℕ) (rest : List (Kind × ℕ)) → p.0 ≢ kind → place_in kind n (p ∷ rest) ≡ place_in kind (suc n) rest
place_no kind n (a, b) rest e = rw (same_kind_apart a kind e) refl

-- the client at place i is of the kind
pub place_here : {B : Type 0} (f : B → Kind × ℕ) (kind : Kind) (xs : List B) (i n : ℕ) (x : B) → i < length xs → x ≡ get_or xs i x
    → (f x).0 ≡ kind → place_in kind n (drop i (map f xs)) ≡ Some n
place_here f kind [] i n x h is k = absurd (omega arith)
place_here f kind (y ∷ ys) zero n x h is k =
    let same : same_kind (f y).0 kind ≡ true = rw (← is, k) (same_kind_refl kind) in place_yes kind n (f y) (map f ys) same
place_here f kind (y ∷ ys) (suc i) n x h is k = place_here f kind ys i n x (omega arith) is k

next : {B : Type 0} (f : B → Kind × ℕ) (kind : Kind) (xs : List B) (i n : ℕ) (x : B) → i < length xs → x ≡ get_or xs i x
    → (f x).0 ≢ kind → place_in kind n (drop i (map f xs)) ≡ place_in kind (suc n) (drop (suc i) (map f xs))
next f kind [] i n x h is k = absurd (omega arith)
next f kind (y ∷ ys) zero n x h is k =
    let other : (f y).0 ≢ kind = rw (← is) k in place_no kind n (f y) (map f ys) other
next f kind (y ∷ ys) (suc i) n x h is k = next f kind ys i n x (omega arith) is k

-- it is not
pub place_next : {B : Type 0} (f : B → Kind × ℕ) (kind : Kind) (xs : List B) (i j n m : ℕ) (x : B) → j ≡ i + 1 → m ≡ n + 1 → i < length xs → x ≡ get_or xs i x
    → (f x).0 ≢ kind → place_in kind n (drop i (map f xs)) ≡ place_in kind m (drop j (map f xs))
place_next f kind xs i j n m x e d h is k =
    let e' : j ≡ suc i = omega arith in let d' : m ≡ suc n = omega arith in rw (e', d') (next f kind xs i n x h is k)

kind_head : (p : Kind × ℕ) (rest : List (Kind × ℕ)) → kind_at 0 (p ∷ rest) ≡ Some p.0
kind_head (a, b) rest = refl

-- the client at a place is of the kind that stands there
pub kind_map : {B : Type 0} (f : B → Kind × ℕ) (xs : List B) (i : ℕ) (x : B) → i < length xs → x ≡ get_or xs i x → kind_at i (map f xs) ≡ Some (f x).0
kind_map f [] i x h is = absurd (omega arith)
kind_map f (y ∷ ys) zero x h is = kind_head (f y) (map f ys) ∙ ap (λ z. Some (f z).0) (sym is)
kind_map f (y ∷ ys) (suc i) x h is = kind_map f ys i x (omega arith) is

pub some_is : (a b : Kind) → Some a ≡ Some b → a ≡ b
some_is a b h = cc

-- where one stands at some place there is a first one
pub one_is_there : (kind : Kind) (n i : ℕ) (clients : List (Kind × ℕ)) → kind_at i clients ≡ Some kind → is_some (place_in kind n clients) ≡ true
one_is_there kind n i [] h = absurd (true≢false (sym (ap is_some h)))
one_is_there kind n zero ((a, b) ∷ rest) h =
    let same : same_kind a kind ≡ true = ap (λ k. same_kind k kind) (some_is a kind h) ∙ same_kind_refl kind in rw same refl
one_is_there kind n (suc i) ((a, b) ∷ rest) h = by (same_kind a kind) refl (one_is_there kind (suc n) i rest h)
  where
    by : (t : Bool) → same_kind a kind ≡ t → is_some (place_in kind (suc n) rest) ≡ true → is_some (place_in kind n ((a, b) ∷ rest)) ≡ true
    by true e later = rw e refl
    by false e later = rw e later
