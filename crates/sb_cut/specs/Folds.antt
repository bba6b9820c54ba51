-- What a merger lets out and holds, where it takes one message after another.
use Rattle.std.specs.Prelude.{ℕ, List, [], ◌∷◌, ◌++◌, Option, None, Some, if◌then◌else◌}
use Rattle.sb_packet.specs.Messages.{Message}
use Rattle.sb_cut.specs.Merges.{is_mergeable, merge}

-- the messages that go out, and the one that is held then
pub record Folded : Type 0 where
  pub out : List Message
  pub held : Option Message

-- none, or the one there is
abbrev pub listed : Option Message → List Message
listed None = []
listed (Some m) = m ∷ []

-- a message is taken where that one is held: it is held too where both can be merged, and else it is held alone and the other one goes out
abbrev pub take_one : ℕ → Option Message → Message → Folded
take_one width None m = record { out = []; held = Some m }
take_one width (Some a) m = if is_mergeable width a m
    then record { out = []; held = Some (merge a m) }
    else record { out = a ∷ []; held = Some m }

-- Messages are taken one after another.
abbrev pub fold_all : ℕ → Option Message → List Message → Folded
fold_all width held [] = record { out = []; held = held }
fold_all width held (m ∷ rest) =
    let first = take_one width held m in
    let others = fold_all width first.held rest in
    record { out = first.out ++ others.out; held = others.held }
