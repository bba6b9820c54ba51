-- Fields that are lists, or objects with names of one's own.
use Rattle.std.specs.Prelude.{ℕ, ◌+◌, List, [], ◌∷◌, ◌++◌, codes, Result, Ok}
use Rattle.serde_json.specs.Data.{Data, Items, no_items, item, Members, no_members, member}
use Rattle.serde_json.specs.Find.{as_array, as_object, as_str}
use Rattle.sb_text.specs.Sentences.{◌>>=◌, some_or}
use Rattle.sb_fields.specs.Paths.{member_of, item_of}
use Rattle.sb_fields.specs.Fields.{required}
use Rattle.sb_fields.specs.Written.{WrittenRoute}
use Rattle.sb_fields.specs.declared.fault.LoadFault.{LoadFault}
use Rattle.sb_fields.specs.declared.fault.LoadFault.TheVariants as faults

-- the items of the list at a path from a number on, each by its own path, behind those that were read
abbrev pub items_by : {A : Type 0} → (List ℕ → Data → Result A LoadFault) → List ℕ → ℕ → List A → Items → Result (List A) LoadFault
items_by read at number found no_items = Ok found
items_by read at number found (item value values) = read (item_of at number) value >>= (λ x. items_by read at (number + 1) (found ++ x ∷ []) values)

-- the items of a field that is a list
unfoldable pub list_of : {A : Type 0} → (List ℕ → Data → Result A LoadFault) → List ℕ → List ℕ → Data → Result (List A) LoadFault
list_of read at name value = required as_array at name value >>= items_by read (member_of at name) 0 []

-- an item that is a text
abbrev pub text_item : List ℕ → Data → Result (List ℕ) LoadFault
text_item at value = some_or (as_str value) (faults.Field at)

-- the members of the object of routes at a path, behind those that were read: each is a text, and its path ends with its name
abbrev pub routes_by : List ℕ → List WrittenRoute → Members → Result (List WrittenRoute) LoadFault
routes_by at found no_members = Ok found
routes_by at found (member name value members) =
    some_or (as_str value) (faults.Field (member_of at name)) >>= (λ link. routes_by at (found ++ record { device = name; link = link } ∷ []) members)

-- the routes of a router
unfoldable pub routes_of : List ℕ → Data → Result (List WrittenRoute) LoadFault
routes_of at value = required as_object at (codes "routes") value >>= routes_by (member_of at (codes "routes")) []
