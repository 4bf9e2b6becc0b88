-- Objectives and parts, one at a time.
use Rattle.std.proofs.Common.{refl, sym, ap, ◌∙◌, ◌≡◌, ◌≤◌, ◌<◌, ℕ, suc, List, [], ◌∷◌, ◌++◌, length, Option, Ok, Err, true, false, Bool, append_assoc, append-nil, length-append, arith}
use Rattle.std.proofs.lemmas.Bool.{and_parts, lt-ltb, le-ltb}
use Rattle.std.specs.List.{list_all}
use Rattle.std.specs.Option.{is_some}
use Rattle.pm_json.proofs.Readings.{with_front-before}
use Rattle.pm_json.specs.Readings.{with_front}
use Rattle.pm_json.specs.declared.fail.ValueFail.{ValueFail}
use Rattle.pm_json.specs.declared.fail.ValueFail.TheVariants.{Shape, Limit}
use Rattle.pm_object_type.specs.declared.object_type.ObjectType.{ObjectType}
use Rattle.pm_types.specs.Values.{PropertyValue}
use Rattle.serde_json.specs.Data.{Data, Items, item, no_items, Members, member, no_members}
use Rattle.serde_json.specs.Find.{as_object}
use Rattle.pm_filing.specs.FileParts.{FileFault, FileRead, Part, objective_in, objectives_from, part_at, parts_in, then_read}

pub objectives-item : (front : List (Option PropertyValue)) (v : Option PropertyValue) (d : Data) (ds : Items) → is_some (as_object d) ≡ true → length front < 4 → objective_in d ≡ Ok v
    → with_front front (objectives_from (length front) (item d ds)) ≡ with_front (front ++ v ∷ []) (objectives_from (length (front ++ v ∷ [])) ds)
objectives-item front v d ds listed room is =
    let one : suc (length front) ≡ length (front ++ v ∷ []) = omega (arith, length-append front (v ∷ [])) in
    rw (listed, lt-ltb (length front) 4 room, is) (with_front-before front v (objectives_from (suc (length front)) ds) ∙ ap (λ k. with_front (front ++ v ∷ []) (objectives_from k ds)) one)

pub objectives-no_object : (front : List (Option PropertyValue)) (k : ℕ) (d : Data) (ds : Items) → is_some (as_object d) ≡ false
    → with_front front (objectives_from k (item d ds)) ≡ Err Shape
objectives-no_object front k d ds h = rw h refl

pub objectives-long : (front : List (Option PropertyValue)) (d : Data) (ds : Items) → is_some (as_object d) ≡ true → 4 ≤ length front
    → with_front front (objectives_from (length front) (item d ds)) ≡ Err Limit
objectives-long front d ds listed full = rw (listed, le-ltb (length front) 4 full) refl

pub objectives-fault : (front : List (Option PropertyValue)) (d : Data) (ds : Items) (fault : ValueFail) → is_some (as_object d) ≡ true → length front < 4 → objective_in d ≡ Err fault
    → with_front front (objectives_from (length front) (item d ds)) ≡ Err fault
objectives-fault front d ds fault listed room is = rw (listed, lt-ltb (length front) 4 room, is) refl

pub objectives-end : (front : List (Option PropertyValue)) → with_front front (objectives_from (length front) no_items) ≡ Ok front
objectives-end front = ap (λ l. Ok l) (append-nil front)

-- parts before those that are read
abbrev pub with_parts : List Part → FileRead (List Part) → FileRead (List Part)
with_parts front others = then_read others (λ parts. Ok (front ++ parts))

pub with_parts-nil : (others : FileRead (List Part)) → with_parts [] others ≡ others
with_parts-nil (Ok parts) = refl
with_parts-nil (Err fault) = refl

with_parts-more : (front part : List Part) (others : FileRead (List Part)) → with_parts front (then_read others (λ parts. Ok (part ++ parts))) ≡ with_parts (front ++ part) others
with_parts-more front part (Ok parts) = ap (λ l. Ok l) (sym (append_assoc front part parts))
with_parts-more front part (Err fault) = refl

pub parts-item : (of : ObjectType) (front part : List Part) (key : List ℕ) (d : Data) (ms : Members) → part_at of key d ≡ Ok part
    → with_parts front (parts_in of (member key d ms)) ≡ with_parts (front ++ part) (parts_in of ms)
parts-item of front part key d ms is = rw is (with_parts-more front part (parts_in of ms))

pub parts-fault : (of : ObjectType) (front : List Part) (key : List ℕ) (d : Data) (ms : Members) (fault : FileFault) → part_at of key d ≡ Err fault
    → with_parts front (parts_in of (member key d ms)) ≡ Err fault
parts-fault of front key d ms fault is = rw is refl

pub parts-end : (of : ObjectType) (front : List Part) → with_parts front (parts_in of no_members) ≡ Ok front
parts-end of front = ap (λ l. Ok l) (append-nil front)

pub all-append : {A : Type 0} (test : A → Bool) (xs ys : List A) → list_all test xs ≡ true → list_all test ys ≡ true → list_all test (xs ++ ys) ≡ true
all-append test [] ys h k = k
all-append test (x ∷ xs) ys h k = let p = and_parts (test x) (list_all test xs) h in rw (p.0, all-append test xs ys p.1 k) refl
