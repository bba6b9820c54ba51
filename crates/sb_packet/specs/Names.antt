-- What may be the name of a host, a router, a device or a link. This project's own.
use Rattle.std.specs.Prelude.{ℕ, ◌||◌, ◌&&◌, nat_le, ◌==◌, List, [], ◌∷◌, length, Bool, false}
use Rattle.std.specs.List.{list_all}

-- `a` to `z`
abbrev pub is_letter : ℕ → Bool
is_letter byte = nat_le 97 byte && nat_le byte 122

-- `a` to `z`, `0` to `9`, or `_`
abbrev pub is_name_byte : ℕ → Bool
is_name_byte byte = is_letter byte || (nat_le 48 byte && nat_le byte 57) || (byte == 95)

-- the first byte is a letter
abbrev pub begins_with_letter : List ℕ → Bool
begins_with_letter [] = false
begins_with_letter (first ∷ rest) = is_letter first

-- 1 to 16 letters, digits and underscores, a letter first
abbrev pub is_name : List ℕ → Bool
is_name text = nat_le (length text) 16 && begins_with_letter text && list_all is_name_byte text
