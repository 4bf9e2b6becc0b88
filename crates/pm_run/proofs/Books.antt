-- The kinds of a book, client by client, and the text of a file that was read.
use Rattle.std.proofs.Common.{ap, arith, subst, sym, refl, inl, inr, min, ◌∙◌, ◌≡◌, ◌≢◌, ◌+◌, ◌<◌, ◌≤◌, ℕ, zero, suc, List, [], ◌∷◌, ◌++◌, Option, Some, None, IfSome, Result, Ok, Err, IfOk, take, drop, length, map, get_or, append_assoc, append-nil}
use Rattle.std.proofs.lemmas.Bool.{cases_lt}
use Rattle.std.proofs.lemmas.List.{length-take, take_all}
use Rattle.std.proofs.lemmas.List.Elements.{filter-append}
use Rattle.std.specs.List.{list_any}
use Rattle.std.specs.Prelude.{not, true, false}
use Rattle.std.specs.Str.{bytes_eq}
use Rattle.pm_books.specs.Gives.{GivesAs}
use Rattle.pm_books.specs.Grammar.{IsBookText}
use Rattle.pm_books.specs.declared.fail.BookFail.{BookFail}
use Rattle.pm_books.specs.declared.fail.BookFail.TheVariants as book
use Rattle.pm_client.specs.Starts.{Clients}
use Rattle.pm_standard.specs.Table.{standard_kinds_list}
use Rattle.pm_props.specs.declared.kind.Kind.{Kind}
use Rattle.pm_rules.specs.declared.rule.Rule.{Rule}
use Rattle.pm_run.specs.Chosen.{IsBook, IsRefusedBook, IsRefusedFile, IsRefusedText, IsTextOf, has_standard_name, kinds_of, without_standard_names}
use Rattle.pm_store.specs.Files.{file_of, most_read, read_part}
use Rattle.pm_limits.specs.Limits.{most_file_bytes}

-- ---- kinds
abbrev pub kinds_seen : Clients → List Kind
kinds_seen clients = map (λ client. client.0) clients

pub is_standard : (kinds : List Kind) (kind : Kind) → kinds ≡ standard_kinds_list → list_any (λ other. bytes_eq other.name kind.name) kinds ≡ has_standard_name kind
unfolding has_standard_name
is_standard kinds kind is = ap (λ (t : List Kind). list_any (λ other. bytes_eq other.name kind.name) t) is

pub left_out : (kinds : List Kind) (kind : Kind) → has_standard_name kind ≡ true → kinds ≡ kinds ++ without_standard_names (kind ∷ [])
left_out kinds kind has = rw has (sym (append-nil kinds))

pub taken_in : (kinds : List Kind) (kind : Kind) → has_standard_name kind ≡ false → kinds ++ kind ∷ [] ≡ kinds ++ without_standard_names (kind ∷ [])
taken_in kinds kind has = rw has refl

drop_here : {B : Type 0} (f : B → Kind × ℕ) (xs : List B) (i : ℕ) (x : B) → i < length xs → x ≡ get_or xs i x → drop i (map f xs) ≡ f x ∷ drop (i + 1) (map f xs)
drop_here f [] i x low at = absurd (omega arith)
drop_here f (y ∷ ys) zero x low at = ap (λ z. f z ∷ map f ys) (sym at)
drop_here f (y ∷ ys) (suc i) x low at = let k : suc i + 1 ≡ suc (i + 1) = omega arith in rw k (drop_here f ys i x (omega arith) at)

drop_past : {B : Type 0} (f : B → Kind × ℕ) (xs : List B) (i : ℕ) → length xs ≤ i → drop i (map f xs) ≡ []
drop_past f [] zero h = refl
drop_past f [] (suc i) h = refl
drop_past f (x ∷ xs) zero h = absurd (omega arith)
drop_past f (x ∷ xs) (suc i) h = drop_past f xs i (omega arith)

-- with those of the clients that are left, the kinds are all
abbrev pub WithLeft : List Kind → Clients → ℕ → Clients → Type 0
WithLeft kinds clients i all = kinds ++ without_standard_names (kinds_seen (drop i clients)) ≡ kinds_of all

pub kinds_begin : (kinds : List Kind) (clients : Clients) → kinds ≡ standard_kinds_list → WithLeft kinds clients 0 clients
unfolding kinds_of
kinds_begin kinds clients is = ap (λ (t : List Kind). t ++ without_standard_names (kinds_seen clients)) is

pub kinds_next : {B : Type 0} (f : B → Kind × ℕ) (xs : List B) (i : ℕ) (x : B) (kind : Kind) (kinds new : List Kind) → i < length xs → x ≡ get_or xs i x → kind ≡ (f x).0
    → new ≡ kinds ++ without_standard_names (kind ∷ []) → WithLeft kinds (map f xs) i (map f xs) → WithLeft new (map f xs) (i + 1) (map f xs)
kinds_next f xs i x kind kinds new low at is added so =
    let rest = kinds_seen (drop (i + 1) (map f xs)) in
    let here : kinds_seen (drop i (map f xs)) ≡ kind ∷ rest = ap kinds_seen (drop_here f xs i x low at) ∙ ap (λ (k : Kind). k ∷ rest) (sym is) in
    ap (λ (t : List Kind). t ++ without_standard_names rest) added
    ∙ append_assoc kinds (without_standard_names (kind ∷ [])) (without_standard_names rest)
    ∙ ap (λ (t : List Kind). kinds ++ t) (sym (filter-append (λ (k : Kind). not (has_standard_name k)) (kind ∷ []) rest) ∙ ap without_standard_names (sym here))
    ∙ so

pub kinds_end : {B : Type 0} (f : B → Kind × ℕ) (xs : List B) (i : ℕ) (kinds : List Kind) → length xs ≤ i → WithLeft kinds (map f xs) i (map f xs) → kinds ≡ kinds_of (map f xs)
kinds_end f xs i kinds past so =
    sym (append-nil kinds) ∙ ap (λ (t : Clients). kinds ++ without_standard_names (kinds_seen t)) (sym (drop_past f xs i past)) ∙ so

-- ---- texts
-- what is no book is no text of one
pub not_text : (kinds : List Kind) (text : List ℕ) (r : Result (List Rule) BookFail) (e : BookFail) → r ≡ Err e → e ≢ book.Memory
    → ((rules : List Rule) → IsBookText kinds text rules → GivesAs (λ b. b) r (Ok rules)) → (rules : List Rule) → IsBookText kinds text rules → ⊥
not_text kinds text r book.Memory is other only rules spells = other refl
not_text kinds text r (book.Syntax k) is other only rules spells = let h = rw is at only rules spells in cc
not_text kinds text r (book.UnknownProperty k) is other only rules spells = let h = rw is at only rules spells in cc
not_text kinds text r (book.UnknownClient k) is other only rules spells = let h = rw is at only rules spells in cc
not_text kinds text r (book.SignatureMismatch k) is other only rules spells = let h = rw is at only rules spells in cc
not_text kinds text r (book.SameLabel k) is other only rules spells = let h = rw is at only rules spells in cc
not_text kinds text r (book.WeightRange k) is other only rules spells = let h = rw is at only rules spells in cc
not_text kinds text r (book.TooManyRules k) is other only rules spells = let h = rw is at only rules spells in cc

pub refused_text : (clients : Clients) (bytes text : List ℕ) (kinds these : List Kind) (r : Result (List Rule) BookFail) (e : BookFail) → text ≡ bytes → these ≡ kinds → kinds ≡ kinds_of clients
    → r ≡ Err e → e ≢ book.Memory → ((rules : List Rule) → IsBookText these text rules → GivesAs (λ b. b) r (Ok rules)) → IsRefusedText clients bytes
refused_text clients bytes text kinds these r e is_text are_these are_kinds is other only =
    inr (inr (λ rules spells. not_text (kinds_of clients) bytes r e is other (rw (is_text, are_these, are_kinds) at only) rules spells))

-- ---- files
-- a part that is shorter than what is read of a file is the whole file
whole_of_part : (bytes part : List ℕ) (most : ℕ) → part ≡ take most bytes → length part < most → bytes ≡ part
whole_of_part bytes part most is short =
    let long : length part ≡ min most (length bytes) = ap length is ∙ length-take most bytes in
    sym (is ∙ take_all most bytes (omega arith))

longer : (bytes part : List ℕ) (most : ℕ) → part ≡ take most bytes → length part ≤ length bytes
longer bytes part most is =
    let long : length part ≡ min most (length bytes) = ap length is ∙ length-take most bytes in
    omega arith

whole_part : (file : Option (List ℕ)) (part : List ℕ) → Some part ≡ read_part file → length part ≤ most_file_bytes → file ≡ Some part
whole_part None part is short = cc
whole_part (Some bytes) part is short = let e : part ≡ take most_read bytes = cc in ap (λ (t : List ℕ). Some t) (whole_of_part bytes part most_read e (omega arith))

pub is_file : (files : Option (List (List ℕ × List ℕ))) (name part : List ℕ) → IfSome files (λ all. Some part ≡ read_part (file_of all name)) → length part ≤ most_file_bytes
    → IfSome files (λ all. file_of all name ≡ Some part)
is_file None name part is short = tt
is_file (Some all) name part is short = whole_part (file_of all name) part is short

refused_part : (clients : Clients) (file : Option (List ℕ)) (part : List ℕ) → Some part ≡ read_part file → IsRefusedText clients part → IsRefusedFile clients file
refused_part clients None part is refused = tt
refused_part clients (Some bytes) part is refused = elim (cases_lt most_file_bytes (length part)) [
  | inl long ↦
      let e : part ≡ take most_read bytes = cc in
      inl (let more = longer bytes part most_read e in omega arith)
  | inr short ↦ subst (λ (file : Option (List ℕ)). IsRefusedFile clients file) (sym (whole_part (Some bytes) part is short)) refused
]

pub refused_file : (files : Option (List (List ℕ × List ℕ))) (clients : Clients) (name part : List ℕ) → IfSome files (λ all. Some part ≡ read_part (file_of all name))
    → IsRefusedText clients part → IfSome files (IsRefusedBook name clients)
refused_file None clients name part is refused = tt
refused_file (Some all) clients name part is refused = refused_part clients (file_of all name) part is refused

absent_part : (clients : Clients) (file : Option (List ℕ)) → None ≡ read_part file → IsRefusedFile clients file
absent_part clients None is = tt
absent_part clients (Some bytes) is = cc

pub absent_file : (files : Option (List (List ℕ × List ℕ))) (clients : Clients) (name : List ℕ) → IfSome files (λ all. None ≡ read_part (file_of all name))
    → IfSome files (IsRefusedBook name clients)
absent_file None clients name is = tt
absent_file (Some all) clients name is = absent_part clients (file_of all name) is

-- what was read of the file spells the book
pub found_in_file : {E : Type 0} (clients : Clients) (files : Option (List (List ℕ × List ℕ))) (name part text : List ℕ) (found : Option (List ℕ)) (r : Result (List Rule) E)
    → IfSome files (λ all. found ≡ read_part (file_of all name)) → found ≡ Some part → text ≡ part → IfOk r (λ b. IsTextOf clients text b) → IfOk r (λ b. IsBook (Some name) clients files b)
found_in_file clients files name part text found (Err e) finds is same spells = tt
found_in_file clients files name part text found (Ok b) finds is same spells =
    let t : IsTextOf clients part b = subst (λ (bytes : List ℕ). IsTextOf clients bytes b) same spells in
    (part, is_file files name part (rw is at finds) t.short, t)
