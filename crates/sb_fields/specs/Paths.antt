-- Where something stands in a bundle, as a text such as `hosts[0].id`. This project's own.
use Rattle.std.specs.Prelude.{ℕ, List, [], ◌∷◌, ◌++◌, codes, decimal}

-- the member of that name of the object at a path; the whole bundle's path is empty
abbrev pub member_of : List ℕ → List ℕ → List ℕ
member_of [] name = name
member_of (byte ∷ at) name = byte ∷ at ++ codes "." ++ name

-- the item of that number, from 0, of the list at a path
abbrev pub item_of : List ℕ → ℕ → List ℕ
item_of at number = at ++ codes "[" ++ decimal number ++ codes "]"

-- a path as it is printed: the whole bundle is `-`
abbrev pub shown_path : List ℕ → List ℕ
shown_path [] = codes "-"
shown_path (byte ∷ at) = byte ∷ at
