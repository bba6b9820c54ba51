-- A journal with one entry more.
use Rattle.std.proofs.Common.{◌≡◌, ℕ, suc, ◌-◌, Bool, true, false, List, [], ◌∷◌, ◌++◌, length, refl, ap, sym, ◌∙◌, arith, Option, Some, append-nil, length-append, eq-eqb, ne_eqb}
use Rattle.std.specs.Prelude.{◌==◌, ◌&&◌, ◌≢◌, filter, flat_map, slice_get}
use Rattle.std.specs.Option.{option_map_or}
use Rattle.std.proofs.lemmas.List.Concat.{flat_map-append}
use Rattle.std.proofs.lemmas.List.Elements.{filter-append}
use Rattle.sb_packet.specs.Accesses.{Access, accesses_of}
use Rattle.sb_packet.specs.Journals.{is_in_round_order, journal_accesses, may_follow}
use Rattle.sb_packet.specs.declared.entry.Entry.{Entry}
use Rattle.sb_check.specs.Progresses.{last_entry}

-- its words stand behind those at its device
pub grows_here : (journal : List Entry) (e : Entry) → journal_accesses (journal ++ e ∷ []) e.device ≡ journal_accesses journal e.device ++ accesses_of e.packet
grows_here journal e =
    let own : (e.device == e.device) ≡ true = eq-eqb e.device e.device refl in
    let last : filter (λ (x : Entry). x.device == e.device) (e ∷ []) ≡ e ∷ [] = rw own refl in
    ap (flat_map (λ (x : Entry). accesses_of x.packet)) (filter-append (λ (x : Entry). x.device == e.device) journal (e ∷ []) ∙ ap (λ (l : List Entry). filter (λ (x : Entry). x.device == e.device) journal ++ l) last)
    ∙ flat_map-append (λ (x : Entry). accesses_of x.packet) (filter (λ (x : Entry). x.device == e.device) journal) (e ∷ [])
    ∙ ap (λ (words : List Access). journal_accesses journal e.device ++ words) (append-nil (accesses_of e.packet))

-- and those at any other device stay as they are
pub grows_elsewhere : (journal : List Entry) (e : Entry) (d : ℕ) → d ≢ e.device → journal_accesses (journal ++ e ∷ []) d ≡ journal_accesses journal d
grows_elsewhere journal e d other =
    let not_here : (e.device == d) ≡ false = ne_eqb e.device d (λ same. other (sym same)) in
    let last : filter (λ (x : Entry). x.device == d) (e ∷ []) ≡ [] = rw not_here refl in
    ap (flat_map (λ (x : Entry). accesses_of x.packet)) (filter-append (λ (x : Entry). x.device == d) journal (e ∷ []) ∙ ap (λ (l : List Entry). filter (λ (x : Entry). x.device == d) journal ++ l) last ∙ append-nil (filter (λ (x : Entry). x.device == d) journal))

-- it is the last
pub last_is : (journal : List Entry) (e : Entry) → last_entry (journal ++ e ∷ []) ≡ Some e
last_is journal e =
    let place : length (journal ++ e ∷ []) - 1 ≡ length journal = omega (arith, length-append journal (e ∷ [])) in
    ap (slice_get (journal ++ e ∷ [])) place ∙ behind journal
  where
    behind : (xs : List Entry) → slice_get (xs ++ e ∷ []) (length xs) ≡ Some e
    behind [] = refl
    behind (x ∷ xs) = behind xs

and_true : (b : Bool) → (b && true) ≡ b
and_true true = refl
and_true false = refl

and_assoc : (a b c : Bool) → (a && (b && c)) ≡ ((a && b) && c)
and_assoc true b c = refl
and_assoc false b c = refl

last_more : (a b : Entry) (rest : List Entry) → last_entry (a ∷ b ∷ rest) ≡ last_entry (b ∷ rest)
last_more a b rest =
    let first : length (a ∷ b ∷ rest) - 1 ≡ suc (length rest) = omega arith in
    let second : length (b ∷ rest) - 1 ≡ length rest = omega arith in
    ap (slice_get (a ∷ b ∷ rest)) first ∙ ap (slice_get (b ∷ rest)) (sym second)

-- an entry may stand behind the last one, where there is one
abbrev pub may_stand : Option Entry → Entry → Bool
may_stand last e = option_map_or (λ a. may_follow a e) last true

-- the journal is in round order just where it was before, and the entry may stand behind the last one
pub order_more : (journal : List Entry) (e : Entry) → is_in_round_order (journal ++ e ∷ []) ≡ (is_in_round_order journal && may_stand (last_entry journal) e)
order_more [] e = refl
order_more (a ∷ []) e = and_true (may_follow a e)
order_more (a ∷ b ∷ rest) e =
    ap (λ (c : Bool). may_follow a b && c) (order_more (b ∷ rest) e)
    ∙ and_assoc (may_follow a b) (is_in_round_order (b ∷ rest)) (may_stand (last_entry (b ∷ rest)) e)
    ∙ ap (λ (last : Option Entry). is_in_round_order (a ∷ b ∷ rest) && may_stand last e) (sym (last_more a b rest))
