-- Files that were read, and books that they spell.
use Rattle.std.proofs.Common.{◌≡◌, ℕ, ◌<◌, ◌≤◌, Bool, refl, Some, None, Ok, Err, List, length, take, sym, ap, ◌∙◌, subst, arith, inl}
use Rattle.std.specs.Prelude.{IfOk, IfSome, Option, Result}
use Rattle.std.specs.Str.{IsUtf8}
use Rattle.std.proofs.lemmas.List.{take_all, length-take}
use Rattle.pm_books.specs.Gives.{FailsAs, GivesAs}
use Rattle.pm_books.specs.Grammar.{IsBookText}
use Rattle.pm_books.specs.declared.fail.BookFail.{BookFail}
use Rattle.pm_books.specs.declared.fail.BookFail.TheVariants.{Syntax, UnknownProperty, UnknownClient, SignatureMismatch, SameLabel, WeightRange, TooManyRules, Memory}
use Rattle.pm_limits.specs.Limits.{most_file_bytes}
use Rattle.pm_rules.specs.declared.rule.Rule.{Rule}
use Rattle.pm_standard.specs.Table.{standard_kinds_list}
use Rattle.pm_store.specs.Files.{file_of, most_read, read_part}
use Rattle.pm_check.specs.Books.{IsBookAnswer, IsFaultAnswer, IsNoFile, IsRefusedFile, IsRefusedText}
use Rattle.pm_check.specs.Books.IsBookAnswer.{fault}
use Rattle.pm_books.specs.Reading.{book_of}
use Rattle.pm_check.specs.Ends.{IsRefusedBook}

pub if_more : {X : Type 0} (o : Option X) (P Q : X → Type 0) → ((x : X) → P x → Q x) → IfSome o P → IfSome o Q
if_more None P Q f h = tt
if_more (Some x) P Q f h = f x h

-- a file of which a part was read that is not too long is that part
whole_part : (file : Option (List ℕ)) (bytes : List ℕ) → Some bytes ≡ read_part file → length bytes ≤ most_file_bytes → file ≡ Some bytes
whole_part None bytes e short = cc
whole_part (Some xs) bytes e short =
    let same : bytes ≡ take most_read xs = cc in
    let few : length xs ≤ most_read = omega (arith, ap length same, length-take most_read xs) in
    ap (λ (x : List ℕ). Some x) (sym (take_all most_read xs few) ∙ sym same)

pub found_whole : (files : Option (List (List ℕ × List ℕ))) (name bytes : List ℕ) → IfSome files (λ all. Some bytes ≡ read_part (file_of all name)) → length bytes ≤ most_file_bytes
    → IfSome files (λ all. file_of all name ≡ Some bytes)
found_whole files name bytes h short = if_more files (λ all. Some bytes ≡ read_part (file_of all name)) (λ all. file_of all name ≡ Some bytes) (λ all e. whole_part (file_of all name) bytes e short) h

long_part : (file : Option (List ℕ)) (bytes : List ℕ) → Some bytes ≡ read_part file → most_file_bytes < length bytes → IsNoFile file
long_part None bytes e long = tt
long_part (Some xs) bytes e long =
    let same : bytes ≡ take most_read xs = cc in
    omega (arith, ap length same, length-take most_read xs)

pub found_long : (files : Option (List (List ℕ × List ℕ))) (name bytes : List ℕ) → IfSome files (λ all. Some bytes ≡ read_part (file_of all name)) → most_file_bytes < length bytes
    → IfSome files (λ all. IsNoFile (file_of all name))
found_long files name bytes h long = if_more files (λ all. Some bytes ≡ read_part (file_of all name)) (λ all. IsNoFile (file_of all name)) (λ all e. long_part (file_of all name) bytes e long) h

no_part : (file : Option (List ℕ)) → None ≡ read_part file → IsNoFile file
no_part None e = tt
no_part (Some xs) e = cc

pub found_none : (files : Option (List (List ℕ × List ℕ))) (name : List ℕ) → IfSome files (λ all. None ≡ read_part (file_of all name)) → IfSome files (λ all. IsNoFile (file_of all name))
found_none files name h = if_more files (λ all. None ≡ read_part (file_of all name)) (λ all. IsNoFile (file_of all name)) (λ all e. no_part (file_of all name) e) h

-- a named book is refused where its file is
pub refused_named : (files : Option (List (List ℕ × List ℕ))) (name bytes : List ℕ) → IfSome files (λ all. file_of all name ≡ Some bytes) → IsRefusedText bytes
    → IfSome files (IsRefusedBook (Some name))
refused_named files name bytes h refused = if_more files (λ all. file_of all name ≡ Some bytes) (IsRefusedBook (Some name)) (λ all e. rw e refused) h

no_refused : (file : Option (List ℕ)) → IsNoFile file → IsRefusedFile file
no_refused None h = tt
no_refused (Some bytes) h = inl h

pub absent_named : (files : Option (List (List ℕ × List ℕ))) (name : List ℕ) → IfSome files (λ all. IsNoFile (file_of all name)) → IfSome files (IsRefusedBook (Some name))
absent_named files name h = if_more files (λ all. IsNoFile (file_of all name)) (IsRefusedBook (Some name)) (λ all e. no_refused (file_of all name) e) h

-- a text of which another fault than want of memory was found spells no book
pub no_book : {X : Type 0} (view : X → List Rule) (bytes : List ℕ) (r : Result X BookFail) (why : BookFail) → r ≡ Err why → (why ≡ Memory → ⊥)
    → ((rules : List Rule) → IsBookText standard_kinds_list bytes rules → GivesAs view r (Ok rules)) → (rules : List Rule) → IsBookText standard_kinds_list bytes rules → ⊥
no_book view bytes (Ok x) why e other only rules h = cc
no_book view bytes (Err Memory) why e other only rules h = other (let same : Memory ≡ why = cc in sym same)
no_book view bytes (Err (Syntax k)) why e other only rules h = let no = only rules h in cc
no_book view bytes (Err (UnknownProperty k)) why e other only rules h = let no = only rules h in cc
no_book view bytes (Err (UnknownClient k)) why e other only rules h = let no = only rules h in cc
no_book view bytes (Err (SignatureMismatch k)) why e other only rules h = let no = only rules h in cc
no_book view bytes (Err (SameLabel k)) why e other only rules h = let no = only rules h in cc
no_book view bytes (Err (WeightRange k)) why e other only rules h = let no = only rules h in cc
no_book view bytes (Err (TooManyRules k)) why e other only rules h = let no = only rules h in cc

fails_is : {Y : Type 0} (why : BookFail) (read : Result Y BookFail) → (why ≡ Memory → ⊥) → FailsAs why read → read ≡ Err why
fails_is Memory read other h = absurd (other refl)
fails_is (Syntax k) read other h = h
fails_is (UnknownProperty k) read other h = h
fails_is (UnknownClient k) read other h = h
fails_is (SignatureMismatch k) read other h = h
fails_is (SameLabel k) read other h = h
fails_is (WeightRange k) read other h = h
fails_is (TooManyRules k) read other h = h

pub if_ok_more : {X E : Type 0} (r : Result X E) (P Q : X → Type 0) → ((x : X) → P x → Q x) → IfOk r P → IfOk r Q
if_ok_more (Ok x) P Q f h = f x h
if_ok_more (Err e) P Q f h = tt

-- the answer of a fault, on a text that spells no book
pub fault_is : {X : Type 0} (view : X → List Rule) (bytes line : List ℕ) (right : Bool) (r : Result X BookFail) (why : BookFail) → IsUtf8 bytes → r ≡ Err why
    → ((rules : List Rule) → IsBookText standard_kinds_list bytes rules → GivesAs view r (Ok rules)) → GivesAs view r (book_of standard_kinds_list bytes)
    → IsFaultAnswer why bytes line right → IsBookAnswer bytes line right
fault_is view bytes line right r why utf8 e only exact h =
    let at : FailsAs why (book_of standard_kinds_list bytes) = rw e at exact in
    subst (λ b. IsBookAnswer bytes line b) (sym h.no_yes)
    (fault why utf8 (no_book view bytes r why e h.other only) (fails_is why (book_of standard_kinds_list bytes) h.other at) h.says)
