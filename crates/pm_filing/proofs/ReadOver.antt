-- The names that are read over, a member at a time.
use Rattle.std.proofs.Common.{List, [], append_assoc, false, refl, sym, true, ℕ, ◌++◌, ◌∷◌, ◌≡◌}
use Rattle.serde_json.specs.Data.{Data, Members, member}
use Rattle.pm_object_type.specs.declared.object_type.ObjectType.{ObjectType}
use Rattle.pm_filing.specs.FileParts.{is_read_over, names_read_over}

pub name_next : (of : ObjectType) (key : List ℕ) (d : Data) (ms : Members) (front : List (List ℕ)) → is_read_over of key d ≡ true
    → front ++ names_read_over of (member key d ms) ≡ (front ++ key ∷ []) ++ names_read_over of ms
name_next of key d ms front is = rw is (sym (append_assoc front (key ∷ []) (names_read_over of ms)))

pub other_next : (of : ObjectType) (key : List ℕ) (d : Data) (ms : Members) (front : List (List ℕ)) → is_read_over of key d ≡ false
    → front ++ names_read_over of (member key d ms) ≡ front ++ names_read_over of ms
other_next of key d ms front is = rw is refl
