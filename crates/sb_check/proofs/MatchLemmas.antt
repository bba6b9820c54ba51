-- Texts that are compared one after another.
use Rattle.std.proofs.Common.{◌≡◌, ◌<◌, ◌≤◌, ◌+◌, ◌*◌, ◌/◌, ◌%◌, ℕ, zero, suc, List, [], ◌∷◌, ◌++◌, length, get_or, ap, sym, refl, ◌∙◌, arith, append_assoc, take, drop, subst, ◌-◌}
use Rattle.std.specs.Prelude.{Result, Ok, Err, IsErr, map, slice_index, flat_map}
use Rattle.std.proofs.lemmas.List.{length-append, take_all}
use Rattle.std.proofs.Math.Seq.{drop-append_seam, take-append_seam}
use Rattle.hex.specs.Hex.{encode_lower, encode_with, lower_digits}
use Rattle.std.proofs.lemmas.Bool.{false≢true}
use Rattle.sb_text.specs.TextLines.{text_line}
use Rattle.sb_check.specs.declared.line_piece.LinePiece.{LinePiece}
use Rattle.sb_link.specs.Prefixes.{IsPrefix}
use Rattle.sb_check.specs.Comparing.{HasDigits, IsMatched, piece_text}

-- what doesn't begin with the first of two texts doesn't begin with both
pub differs_first : (a s t : List ℕ) → ¬ IsPrefix s a → ¬ IsPrefix (s ++ t) a
differs_first a s t differs begins = differs (record { rest = t ++ begins.rest; joined = sym (append_assoc s t begins.rest) ∙ begins.joined })

-- nor does what begins with the first and doesn't go on with the second
pub differs_then : (a b s t : List ℕ) → a ≡ s ++ b → ¬ IsPrefix t b → ¬ IsPrefix (s ++ t) a
differs_then a b s t first differs begins =
    let whole : s ++ (t ++ begins.rest) ≡ s ++ b = sym (append_assoc s t begins.rest) ∙ begins.joined ∙ first in
    differs (record { rest = begins.rest; joined = sym (drop-append_seam s (t ++ begins.rest)) ∙ ap (drop (length s)) whole ∙ drop-append_seam s b })

-- one text is there, and then another or not
pub matched_then : {T E : Type 0} (r : Result T E) (a b c s t : List ℕ) → a ≡ s ++ b → IsMatched r b c t → IsMatched r a c (s ++ t)
matched_then (Ok v) a b c s t first m = record { matched = first ∙ ap (λ (x : List ℕ). s ++ x) m.matched ∙ sym (append_assoc s t c); differs = tt }
matched_then (Err e) a b c s t first m = record { matched = tt; differs = differs_then a b s t first m.differs }

-- the same text in other words
pub matched_as : {T E : Type 0} (r : Result T E) (a b s t : List ℕ) → s ≡ t → IsMatched r a b s → IsMatched r a b t
matched_as r a b s t same m = subst (λ (u : List ℕ). IsMatched r a b u) same m

-- of another length or with other bytes, a text isn't what another begins with
pub begins_front : (text a : List ℕ) → IsPrefix text a → take (length text) a ≡ text
begins_front text a begins = ap (take (length text)) (sym begins.joined) ∙ take-append_seam text begins.rest

pub begins_short : (text a : List ℕ) → IsPrefix text a → length text ≤ length a
begins_short text a begins = omega (arith, ap length (sym begins.joined), length-append text begins.rest)

pub differs_front : (text a : List ℕ) → (take (length text) a ≡ text → ⊥) → ¬ IsPrefix text a
differs_front text a other begins = other (begins_front text a begins)

pub differs_short : (text a : List ℕ) → length a < length text → ¬ IsPrefix text a
differs_short text a short begins = let long = begins_short text a begins in omega arith

-- the digits of bytes
pub length-encode_lower : (bytes : List ℕ) → length (encode_lower bytes) ≡ 2 * length bytes
unfolding encode_with
length-encode_lower [] = refl
length-encode_lower (b ∷ bytes) = omega (arith, length-encode_lower bytes)

-- the digits of one byte of some
pub encode_lower-at : (bytes : List ℕ) (k : ℕ) → k < length bytes → HasDigits (encode_lower bytes) bytes k
unfolding encode_with
encode_lower-at [] k below = absurd (omega arith)
encode_lower-at (b ∷ bytes) zero below = record { high = refl; low = refl }
encode_lower-at (b ∷ bytes) (suc k) below =
    let later = encode_lower-at bytes k (omega arith) in
    let at : 2 * suc k ≡ suc (suc (2 * k)) = omega arith in
    let over : 2 * suc k + 1 ≡ suc (suc (2 * k + 1)) = omega arith in
    record { high = rw at later.high; low = rw over later.low }

-- digits that are those of each byte are those of all
pub encode_lower-by : (bytes digits : List ℕ) → length digits ≡ 2 * length bytes → ((k : ℕ) → k < length bytes → HasDigits digits bytes k) → digits ≡ encode_lower bytes
unfolding encode_with
encode_lower-by [] [] long each = refl
encode_lower-by [] (d ∷ digits) long each = absurd (omega arith)
encode_lower-by (b ∷ bytes) [] long each = absurd (omega arith)
encode_lower-by (b ∷ bytes) (d ∷ []) long each = absurd (omega arith)
encode_lower-by (b ∷ bytes) (d ∷ e ∷ digits) long each =
    let first = each 0 (omega arith) in
    let rest : digits ≡ encode_lower bytes = encode_lower-by bytes digits (omega arith) (λ k below.
    let later = each (suc k) (omega arith) in
    let at : 2 * suc k ≡ suc (suc (2 * k)) = omega arith in
    let over : 2 * suc k + 1 ≡ suc (suc (2 * k + 1)) = omega arith in
    record { high = subst (λ (n : ℕ). get_or (d ∷ e ∷ digits) n 0 ≡ slice_index lower_digits (get_or bytes k 0 / 16)) at later.high; low = subst (λ (n : ℕ). get_or (d ∷ e ∷ digits) n 0 ≡ slice_index lower_digits (get_or bytes k 0 % 16)) over later.low }) in
    rw (first.high, first.low, rest) refl

-- a result that is an error says that the text differs
pub not_matched : {T E : Type 0} (r : Result T E) (a b s : List ℕ) → IsErr r → ¬ IsPrefix s a → IsMatched r a b s
not_matched (Ok v) a b s failed differs = absurd (false≢true failed)
not_matched (Err e) a b s failed differs = record { matched = tt; differs = differs }

-- the texts of some items, up to one of them, and from it on
flat_map-parts : {A : Type 0} (f : A → List ℕ) (xs : List A) (i : ℕ) (d : A) → i < length xs → flat_map f (take i xs) ++ (f (get_or xs i d) ++ flat_map f (drop (suc i) xs)) ≡ flat_map f xs
flat_map-parts f [] i d below = absurd (omega arith)
flat_map-parts f (x ∷ xs) zero d below = refl
flat_map-parts f (x ∷ xs) (suc i) d below = append_assoc (f x) (flat_map f (take i xs)) (f (get_or xs i d) ++ flat_map f (drop (suc i) xs)) ∙ ap (λ (t : List ℕ). f x ++ t) (flat_map-parts f xs i d (omega arith))

-- where the next of some texts isn't there, they aren't all there
pub flat_map-differs : {A : Type 0} (f : A → List ℕ) (xs : List A) (i : ℕ) (d : A) (a b : List ℕ) → i < length xs → a ≡ flat_map f (take i xs) ++ b → ¬ IsPrefix (f (get_or xs i d)) b → ¬ IsPrefix (flat_map f xs) a
flat_map-differs f xs i d a b below so_far differs =
    subst (λ (t : List ℕ). ¬ IsPrefix t a) (flat_map-parts f xs i d below)
    (differs_then a b (flat_map f (take i xs)) (f (get_or xs i d) ++ flat_map f (drop (suc i) xs)) so_far (differs_first b (f (get_or xs i d)) (flat_map f (drop (suc i) xs)) differs))

-- the first word, a blank and each of the others, and the end
line_of_pieces : (w : LinePiece) (ws : List LinePiece) → piece_text w ++ (flat_map (λ v. 32 ∷ piece_text v) ws ++ 10 ∷ []) ≡ text_line (map piece_text (w ∷ ws))
line_of_pieces w [] = refl
line_of_pieces w (v ∷ ws) = ap (λ (t : List ℕ). piece_text w ++ 32 ∷ t) (append_assoc (piece_text v) (flat_map (λ u. 32 ∷ piece_text u) ws) (10 ∷ []) ∙ line_of_pieces v ws)

pub line_in_pieces : (d : LinePiece) (words : List LinePiece) → 1 ≤ length words
    → piece_text (get_or words 0 d) ++ (flat_map (λ v. 32 ∷ piece_text v) (take (length words - 1) (drop 1 words)) ++ 10 ∷ []) ≡ text_line (map piece_text words)
line_in_pieces d [] some = absurd (omega arith)
line_in_pieces d (w ∷ ws) some =
    ap (λ (vs : List LinePiece). piece_text w ++ (flat_map (λ v. 32 ∷ piece_text v) vs ++ 10 ∷ [])) (take_all (length (w ∷ ws) - 1) ws (omega arith)) ∙ line_of_pieces w ws
