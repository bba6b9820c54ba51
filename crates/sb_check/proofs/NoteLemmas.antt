-- The bytes of answers, each transaction's in a room of its own: what is put into one room leaves the others as they are.
use Rattle.std.proofs.Common.{◌≡◌, ◌≤◌, ◌<◌, ℕ, zero, suc, ◌+◌, ◌-◌, List, [], ◌∷◌, ◌++◌, take, drop, length, replicate, get_or, refl, ap, sym, ◌∙◌, subst, arith, append_assoc, length-append, length-take, length-drop, true, false, inl, inr}
use Rattle.std.specs.Prelude.{◌⊎◌, map, max, set}
use Rattle.std.proofs.lemmas.List.{get_or-map, length-map, map-append, take-append-le, drop-append-le, drop-replicate, drop-take, take-replicate, take-take, drop-drop}
use Rattle.std.proofs.Math.Seq.{take-append_seam, drop-append-add, take-suc}
use Rattle.sb_packet.specs.Memories.{overwritten}
use Rattle.sb_check.specs.AnswerNotes.{AreBehind, IsInRoom, NotedAnswers, noted_in, noted_outcome, with_reply}
use Rattle.sb_check.specs.declared.answer_note.AnswerNote.{AnswerNote}

-- rooms end where they may
pub rooms_end : (from to : ℕ) (notes : List AnswerNote) → AreBehind from to notes → from ≤ to
rooms_end from to [] h = h
rooms_end from to (note ∷ notes) h =
    let rest = rooms_end note.limit to notes h.2 in
    omega (arith, h.0, h.1.starts, h.1.ends, rest)

-- what lies before a piece that is put into a list stays
before_piece : (bytes piece : List ℕ) (place start end : ℕ) → start ≤ end → end ≤ place → place ≤ length bytes
    → take (end - start) (drop start (overwritten bytes place piece)) ≡ take (end - start) (drop start bytes)
before_piece bytes piece place start end starts ends within =
    let front = take place bytes in
    let rest = piece ++ drop (place + length piece) bytes in
    let long : length front ≡ place = simp length-take (omega arith) in
    let split : start + (place - start) ≡ place = omega arith in
    let front_is : drop start front ≡ take (place - start) (drop start bytes) = ap (λ (n : ℕ). drop start (take n bytes)) (sym split) ∙ drop-take start (place - start) bytes in
    let enough : end - start ≤ length (drop start front) = rw front_is (let kept : length (take (place - start) (drop start bytes)) ≡ place - start = simp (length-take, length-drop) (omega arith) in omega (arith, kept)) in
    ap (λ (l : List ℕ). take (end - start) (drop start l)) (append_assoc front piece (drop (place + length piece) bytes))
    ∙ ap (take (end - start)) (drop-append-le start front rest (omega (arith, long)))
    ∙ take-append-le (end - start) (drop start front) rest enough
    ∙ ap (take (end - start)) front_is
    ∙ take-take (end - start) (place - start) (drop start bytes) (omega arith)

-- so does what lies behind it
behind_piece : (bytes piece : List ℕ) (place start : ℕ) → place + length piece ≤ start → place ≤ length bytes → drop start (overwritten bytes place piece) ≡ drop start bytes
behind_piece bytes piece place start behind within =
    let front = take place bytes ++ piece in
    let rest = drop (place + length piece) bytes in
    let long : length front ≡ place + length piece = simp (length-append, length-take) (omega arith) in
    let split : length front + (start - (place + length piece)) ≡ start = omega (arith, long) in
    let again : place + length piece + (start - (place + length piece)) ≡ start = omega arith in
    ap (λ (n : ℕ). drop n (front ++ rest)) (sym split)
    ∙ drop-append-add front rest (start - (place + length piece))
    ∙ drop-drop (start - (place + length piece)) (place + length piece) bytes
    ∙ ap (λ (n : ℕ). drop n bytes) again

-- a piece that is put behind other bytes comes behind them
piece_behind : (bytes piece : List ℕ) (start end : ℕ) → start ≤ end → end + length piece ≤ length bytes
    → take (end + length piece - start) (drop start (overwritten bytes end piece)) ≡ take (end - start) (drop start bytes) ++ piece
piece_behind bytes piece start end starts within =
    let front = take end bytes in
    let rest = drop (end + length piece) bytes in
    let long : length front ≡ end = simp length-take (omega arith) in
    let split : start + (end - start) ≡ end = omega arith in
    let front_is : drop start front ≡ take (end - start) (drop start bytes) = ap (λ (n : ℕ). drop start (take n bytes)) (sym split) ∙ drop-take start (end - start) bytes in
    let body = take (end - start) (drop start bytes) in
    let held : length (body ++ piece) ≡ end + length piece - start = simp (length-append, length-take, length-drop) (omega arith) in
    ap (take (end + length piece - start)) (ap (drop start) (append_assoc front piece rest) ∙ drop-append-le start front (piece ++ rest) (omega (arith, long)) ∙ ap (λ (xs : List ℕ). xs ++ (piece ++ rest)) front_is ∙ sym (append_assoc body piece rest))
    ∙ ap (λ (n : ℕ). take n ((body ++ piece) ++ rest)) (sym held)
    ∙ take-append_seam (body ++ piece) rest

abbrev with_body : AnswerNote → List ℕ → NotedAnswers
with_body note body = record { posted = note.posted; code = note.code; body = body; room = note.limit - note.end }

-- notes whose rooms lie behind a piece stay
notes_stay : (bytes piece : List ℕ) (place from to : ℕ) (notes : List AnswerNote) → AreBehind from to notes → place + length piece ≤ from → place ≤ length bytes
    → map (noted_in (overwritten bytes place piece)) notes ≡ map (noted_in bytes) notes
notes_stay bytes piece place from to [] h behind within = refl
notes_stay bytes piece place from to (note ∷ notes) h behind within =
    let here : noted_in (overwritten bytes place piece) note ≡ noted_in bytes note =
    ap (λ (xs : List ℕ). with_body note (take (note.end - note.start) xs)) (behind_piece bytes piece place note.start (omega (arith, h.0)) within) in
    rw (here, notes_stay bytes piece place note.limit to notes h.2 (omega (arith, h.0, h.1.starts, h.1.ends)) within) refl

-- a note with one answer more
abbrev pub note_more : AnswerNote → ℕ → ℕ → AnswerNote
note_more note code count = record { posted = note.posted; code = max note.code code; start = note.start; end = note.end + count; limit = note.limit }

-- where a note stands among others, its answers are in its room, which ends among the bytes
pub record IsRoomOf (note : AnswerNote) (from to : ℕ) : Type 0 where
  pub low : from ≤ note.start
  pub room : IsInRoom note
  pub high : note.limit ≤ to

pub room_at : (from to : ℕ) (notes : List AnswerNote) (i : ℕ) (d : AnswerNote) → AreBehind from to notes → i < length notes → IsRoomOf (get_or notes i d) from to
room_at from to [] i d h inside = absurd (omega arith)
room_at from to (note ∷ notes) zero d h inside = record { low = h.0; room = h.1; high = rooms_end note.limit to notes h.2 }
room_at from to (note ∷ notes) (suc i) d h inside =
    let later = room_at note.limit to notes i d h.2 (omega arith) in
    record { low = omega (arith, h.0, h.1.starts, h.1.ends, later.low); room = later.room; high = later.high }

-- the rooms stay where they are, where one has more bytes
pub rooms_stay : (from to : ℕ) (notes : List AnswerNote) (i : ℕ) (d : AnswerNote) (code count : ℕ) → AreBehind from to notes → i < length notes → count ≤ (get_or notes i d).limit - (get_or notes i d).end
    → AreBehind from to (set notes i (note_more (get_or notes i d) code count))
rooms_stay from to [] i d code count h inside fits = absurd (omega arith)
rooms_stay from to (note ∷ notes) zero d code count h inside fits =
    (h.0, record { starts = omega (arith, h.1.starts); ends = omega (arith, h.1.ends, fits) }, h.2)
rooms_stay from to (note ∷ notes) (suc i) d code count h inside fits = (h.0, h.1, rooms_stay note.limit to notes i d code count h.2 (omega arith) fits)

-- What is put behind the bytes of one transaction is noted of it alone.
pub noted_more : (bytes piece : List ℕ) (from to : ℕ) (notes : List AnswerNote) (i : ℕ) (d : AnswerNote) (code : ℕ) → AreBehind from to notes → to ≤ length bytes → i < length notes
    → length piece ≤ (get_or notes i d).limit - (get_or notes i d).end
    → map (noted_in (overwritten bytes (get_or notes i d).end piece)) (set notes i (note_more (get_or notes i d) code (length piece)))
    ≡ set (map (noted_in bytes) notes) i (with_reply (noted_in bytes (get_or notes i d)) code piece)
noted_more bytes piece from to [] i d code h within inside fits = absurd (omega arith)
noted_more bytes piece from to (note ∷ notes) zero d code h within inside fits =
    let last = rooms_end note.limit to notes h.2 in
    let body = piece_behind bytes piece note.start note.end h.1.starts (omega (arith, h.1.ends, fits, within, last)) in
    let room : note.limit - (note.end + length piece) ≡ note.limit - note.end - length piece = omega arith in
    let rest = notes_stay bytes piece note.end note.limit to notes h.2 (omega (arith, h.1.ends, fits)) (omega (arith, h.1.ends, within, last)) in
    rw (body, room, rest) refl
noted_more bytes piece from to (note ∷ notes) (suc i) d code h within inside fits =
    let there = room_at note.limit to notes i d h.2 (omega arith) in
    let stays = before_piece bytes piece (get_or notes i d).end note.start note.end h.1.starts (omega (arith, h.1.ends, there.low, there.room.starts)) (omega (arith, there.room.ends, there.high, within)) in
    let here : noted_in (overwritten bytes (get_or notes i d).end piece) note ≡ noted_in bytes note = ap (with_body note) stays in
    rw (here, noted_more bytes piece note.limit to notes i d code h.2 within (omega arith) fits) refl

-- one room more behind all
pub rooms_more : (from to : ℕ) (notes : List AnswerNote) (note : AnswerNote) → AreBehind from to notes → note.start ≡ to → IsInRoom note → AreBehind from note.limit (notes ++ note ∷ [])
rooms_more from to [] note h at room = (omega (arith, h, at), room, omega arith)
rooms_more from to (first ∷ notes) note h at room = (h.0, h.1, rooms_more first.limit to notes note h.2 at room)

-- among zeros each piece is zeros
abbrev pub zeros : ℕ → List ℕ
zeros n = replicate n 0

pub zeros_noted : (n start span limit : ℕ) → limit ≤ n → start + span ≡ limit → take (limit - start) (drop start (zeros n)) ≡ zeros span
zeros_noted n start span limit within is =
    let long : limit - start ≡ span = omega (arith, is) in
    rw (drop-replicate, long) (take-replicate span (n - start) 0 (omega (arith, within, is)))

-- the note at a place, whose room has room for a piece
pub record HasRoomFor (bytes piece : List ℕ) (notes : List AnswerNote) (i : ℕ) (note : AnswerNote) : Type 0 where
  pub inside : i < length notes
  pub is : get_or notes i note ≡ note
  pub fits : length piece ≤ note.limit - note.end
  pub within : note.end + length piece ≤ note.limit
  pub high : note.limit ≤ length bytes

pub has_room : (bytes piece : List ℕ) (notes : List AnswerNote) (i : ℕ) (note : AnswerNote) (seen : List NotedAnswers) (none : NotedAnswers) → AreBehind 0 (length bytes) notes → map (noted_in bytes) notes ≡ seen → i < length seen
    → note ≡ get_or notes i note → length piece ≤ (get_or seen i none).room → HasRoomFor bytes piece notes i note
has_room bytes piece notes i note seen none behind is there at room =
    let inside : i < length notes = omega (arith, there, ap length is, length-map notes (noted_in bytes)) in
    let own = room_at 0 (length bytes) notes i note behind inside in
    let seen_is : get_or seen i none ≡ noted_in bytes (get_or notes i note) = ap (λ (l : List NotedAnswers). get_or l i none) (sym is) ∙ get_or-map (noted_in bytes) notes i note none inside in
    let fits : length piece ≤ (get_or notes i note).limit - (get_or notes i note).end = subst (λ (n : NotedAnswers). length piece ≤ n.room) seen_is room in
    let here : get_or notes i note ≡ note = sym at in
    let fits_here : length piece ≤ note.limit - note.end = subst (λ (n : AnswerNote). length piece ≤ n.limit - n.end) here fits in
    let ends : note.end ≤ note.limit = subst (λ (n : AnswerNote). n.end ≤ n.limit) here own.room.ends in
    record {
      inside = inside;
      is = here;
      fits = fits_here;
      within = omega (arith, fits_here, ends);
      high = subst (λ (n : AnswerNote). n.limit ≤ length bytes) here own.high;
    }

-- with the piece in it, all notes are as they were, but that one
pub room_taken : (bytes piece : List ℕ) (notes : List AnswerNote) (i : ℕ) (note : AnswerNote) (code : ℕ) (seen : List NotedAnswers) (none : NotedAnswers) → AreBehind 0 (length bytes) notes → map (noted_in bytes) notes ≡ seen
    → HasRoomFor bytes piece notes i note → map (noted_in (overwritten bytes note.end piece)) (set notes i (note_more note code (length piece))) ≡ set seen i (with_reply (get_or seen i none) code piece)
room_taken bytes piece notes i note code seen none behind is room =
    let seen_is : get_or seen i none ≡ noted_in bytes (get_or notes i note) = ap (λ (l : List NotedAnswers). get_or l i none) (sym is) ∙ get_or-map (noted_in bytes) notes i note none room.inside in
    let more = noted_more bytes piece 0 (length bytes) notes i note code behind (omega arith) room.inside (subst (λ (n : AnswerNote). length piece ≤ n.limit - n.end) (sym room.is) room.fits) in
    subst (λ (n : AnswerNote). map (noted_in (overwritten bytes n.end piece)) (set notes i (note_more n code (length piece))) ≡ set (map (noted_in bytes) notes) i (with_reply (noted_in bytes n) code piece)) room.is more
    ∙ ap (λ (l : List NotedAnswers). set l i (with_reply (noted_in bytes note) code piece)) is
    ∙ ap (λ (n : NotedAnswers). set seen i (with_reply n code piece)) (ap (noted_in bytes) (sym room.is) ∙ sym seen_is)

pub rooms_kept : (bytes piece : List ℕ) (notes : List AnswerNote) (i : ℕ) (note : AnswerNote) (code to : ℕ) → AreBehind 0 (length bytes) notes → to ≡ length bytes → HasRoomFor bytes piece notes i note
    → AreBehind 0 to (set notes i (note_more note code (length piece)))
rooms_kept bytes piece notes i note code to behind same room =
    let kept = rooms_stay 0 (length bytes) notes i note code (length piece) behind room.inside (subst (λ (n : AnswerNote). length piece ≤ n.limit - n.end) (sym room.is) room.fits) in
    rw same (subst (λ (n : AnswerNote). AreBehind 0 (length bytes) (set notes i (note_more n code (length piece)))) room.is kept)

-- the room of the note at a place
pub room_of : (bytes : List ℕ) (notes : List AnswerNote) (i : ℕ) (note : AnswerNote) (seen : List NotedAnswers) → AreBehind 0 (length bytes) notes → map (noted_in bytes) notes ≡ seen → i < length seen
    → note ≡ get_or notes i note → IsRoomOf note 0 (length bytes)
room_of bytes notes i note seen behind is there at =
    let inside : i < length notes = omega (arith, there, ap length is, length-map notes (noted_in bytes)) in
    subst (λ (n : AnswerNote). IsRoomOf n 0 (length bytes)) (sym at) (room_at 0 (length bytes) notes i note behind inside)

-- what is seen of it
pub seen_at : (bytes : List ℕ) (notes : List AnswerNote) (i : ℕ) (note : AnswerNote) (seen : List NotedAnswers) (none : NotedAnswers) → map (noted_in bytes) notes ≡ seen → i < length seen
    → note ≡ get_or notes i note → get_or seen i none ≡ noted_in bytes note
seen_at bytes notes i note seen none is there at =
    let inside : i < length notes = omega (arith, there, ap length is, length-map notes (noted_in bytes)) in
    ap (λ (l : List NotedAnswers). get_or l i none) (sym is) ∙ get_or-map (noted_in bytes) notes i note none inside ∙ ap (noted_in bytes) (sym at)

-- the bytes that are seen of it
pub body_told : (bytes : List ℕ) (note : AnswerNote) (end : ℕ) → ((note.posted ≡ true) × (end ≡ note.start)) ⊎ ((note.posted ≡ false) × (end ≡ note.end))
    → (noted_outcome (noted_in bytes note)).body ≡ take (end - note.start) (drop note.start bytes)
body_told bytes note end (inl (posted, is)) = let none : end - note.start ≡ 0 = omega (arith, is) in rw (posted, none) refl
body_told bytes note end (inr (posted, is)) = rw (posted, is) refl

-- one transaction more, with its first note
pub noted_next : {A : Type 0} (f : AnswerNote → NotedAnswers) (g : A → NotedAnswers) (notes all : List AnswerNote) (note : AnswerNote) (xs : List A) (k : ℕ) (x : A) → all ≡ notes ++ note ∷ [] → k < length xs → x ≡ get_or xs k x
    → f note ≡ g x → map f notes ≡ map g (take k xs) → map f all ≡ map g (take (k + 1) xs)
noted_next {A} f g notes all note xs k x joined inside at here before =
    let next : k + 1 ≡ suc k = omega arith in
    ap (map f) joined ∙ map-append f notes (note ∷ []) ∙ ap (λ (l : List NotedAnswers). l ++ f note ∷ []) before
    ∙ ap (λ (n : NotedAnswers). map g (take k xs) ++ n ∷ []) (here ∙ ap g at)
    ∙ sym (map-append g (take k xs) (get_or xs k x ∷ []))
    ∙ ap (map g) (sym (take-suc xs k x inside)) ∙ ap (λ (n : ℕ). map g (take n xs)) (sym next)
