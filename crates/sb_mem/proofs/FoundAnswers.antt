-- The answers that there are, by the packet that answers a request.
use Rattle.std.proofs.Common.{◌≡◌, List, [], ◌∷◌, map, refl, ap, ◌∙◌}
use Rattle.std.specs.Prelude.{Option, Some, None, IfSome, IfNone, filter_map}
use Rattle.sb_packet.specs.Accesses.{Access, accesses_of}
use Rattle.sb_packet.specs.declared.packet.Packet.{Packet}

-- what is found in a list of places that are all filled, or all empty
all_found : (xs : List Access) → filter_map (λ answer. answer) (map Some xs) ≡ xs
all_found [] = refl
all_found (x ∷ xs) = ap (λ ys. x ∷ ys) (all_found xs)

none_found : (xs : List Access) → filter_map {Y = Access} (λ answer. answer) (map (λ (x : Access). None) xs) ≡ []
none_found [] = refl
none_found (x ∷ xs) = none_found xs

-- where a packet has the answers that are found in those places, and where there are none
pub found_answers : (result : Option Packet) (places : List (Option Access)) → IfSome result (λ a. places ≡ map Some (accesses_of a))
    → IfSome result (λ a. filter_map (λ answer. answer) places ≡ accesses_of a)
found_answers None places none = none
found_answers (Some a) places filled = ap (filter_map (λ answer. answer)) filled ∙ all_found (accesses_of a)

pub found_no_answers : (result : Option Packet) (words : List Access) (places : List (Option Access)) → IfNone result (places ≡ map (λ _. None) words)
    → IfNone result (filter_map (λ answer. answer) places ≡ [])
found_no_answers None words places empty = ap (filter_map (λ answer. answer)) empty ∙ none_found words
found_no_answers (Some a) words places some = some
