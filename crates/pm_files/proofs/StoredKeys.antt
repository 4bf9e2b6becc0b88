-- The keys of stored values, a member at a time.
use Rattle.std.proofs.Common.{List, [], append_assoc, false, map, refl, sym, true, ℕ, ◌++◌, ◌∷◌, ◌≡◌}
use Rattle.serde_json.specs.Data.{Data, Members, member, string}
use Rattle.pm_object_type.specs.declared.object_type.ObjectType.{ObjectType}
use Rattle.pm_files.specs.Files.{is_stored, stored_keys}

pub stored_next : (of : ObjectType) (stored : ℕ) (key : List ℕ) (d : Data) (ms : Members) (front : List Data) → is_stored of stored key ≡ true
    → front ++ map string (stored_keys of stored (member key d ms)) ≡ (front ++ string key ∷ []) ++ map string (stored_keys of stored ms)
stored_next of stored key d ms front is = rw is (sym (append_assoc front (string key ∷ []) (map string (stored_keys of stored ms))))

pub other_next : (of : ObjectType) (stored : ℕ) (key : List ℕ) (d : Data) (ms : Members) (front : List Data) → is_stored of stored key ≡ false
    → front ++ map string (stored_keys of stored (member key d ms)) ≡ front ++ map string (stored_keys of stored ms)
other_next of stored key d ms front is = rw is refl
