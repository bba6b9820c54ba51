-- Lists of items whose Close is the last, item by item.
use Rattle.std.proofs.Common.{◌≡◌, List, [], ◌∷◌, ◌++◌, refl}
use Rattle.sb_packet.specs.declared.item.Item.{Item}
use Rattle.sb_packet.specs.declared.item.Item.TheVariants as items
use Rattle.sb_laws.specs.Moments.{ClosesLast}

-- nothing follows a Close, by recursion
abbrev pub EndsAtClose : List Item → Type 0
EndsAtClose [] = Unit {0}
EndsAtClose (items.Packet p ∷ rest) = EndsAtClose rest
EndsAtClose (items.Close ∷ rest) = rest ≡ []

pub closes_last : (list : List Item) → EndsAtClose list → ClosesLast list
closes_last list h [] after item cut = refl
closes_last [] h (x ∷ before) after item cut = absurd (cc)
closes_last (items.Packet p ∷ list) h (x ∷ before) after item cut =
    let first : x ≡ items.Packet p = cc in
    let rest : list ≡ before ++ item ∷ after = cc in
    rw (first, closes_last list h before after item rest) refl
closes_last (items.Close ∷ list) h (x ∷ before) after item cut =
    let rest : before ++ item ∷ after ≡ [] = cc in
    absurd (not_empty before rest)
  where
    not_empty : (front : List Item) → front ++ item ∷ after ≡ [] → ⊥
    not_empty [] e = cc
    not_empty (y ∷ front) e = cc
