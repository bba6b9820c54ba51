-- Before any entry each memory is a device's opening, and nothing is noted but what no device answers.
use Rattle.std.proofs.Common.{◌≡◌, ◌<◌, ℕ, suc, ◌+◌, ◌*◌, ◌^◌, false, List, [], ◌∷◌, ◌++◌, length, get_or, take, refl, ap, sym, ◌∙◌, arith, subst, Option, Some, None}
use Rattle.std.specs.Prelude.{filter_map, is_some, map, slice_get, if◌then◌else◌}
use Rattle.std.specs.List.{range_with_len}
use Rattle.std.specs.Option.{option_map_or}
use Rattle.std.proofs.lemmas.List.{get_or-map, length-map, length-replicate, map-append}
use Rattle.std.proofs.Math.Seq.{take-suc}
use Rattle.std.proofs.lemmas.List.FromFn.{get_or-map-range_with_len, length-map-range_with_len, map-range_with_len_more}
use Rattle.std.proofs.lemmas.Option.{get_or_from_slice_get, slice_get_within}
use Rattle.sb_packet.specs.Accesses.{Access}
use Rattle.sb_packet.specs.Answers.{answer_body, answer_code, unreached_by}
use Rattle.sb_packet.specs.Memories.{MemoryState}
use Rattle.sb_packet.specs.Networks.{NetHost, Network, device_at, opening_memory}
use Rattle.sb_packet.specs.Scripts.{IsTransaction, transaction_accesses}
use Rattle.sb_packet.specs.declared.transaction.Kind.{Kind}
use Rattle.sb_packet.specs.declared.transaction.Kind.TheVariants.{Read, Write, Posted, Atomic}
use Rattle.sb_packet.specs.declared.transaction.Txn.{Txn}
use Rattle.sb_flow.specs.Accepted.{IsAccepted}
use Rattle.sb_check.specs.Gathering.{AreNoted, Gathers, IsStepped, device_replies}
use Rattle.sb_check.specs.AnswerNotes.{NotedAnswers, first_noted, is_posted, none_noted, noted_at, unreached_noted}
use Rattle.sb_check.specs.declared.gathered.Gathered.{Gathered}
use Rattle.sb_check.proofs.NextEntries.{at_place, host_lines}
use Rattle.sb_check.proofs.UnreachedLemmas.{unreached_told}

-- what is made of the element at a place
got_map : {A B : Type 0} (f : A → B) (xs : List A) (k : ℕ) (x : A) (d : B) → slice_get xs k ≡ Some x → get_or (map f xs) k d ≡ f x
got_map f xs k x d at = get_or-map f xs k x d (slice_get_within xs k x at) ∙ ap f (get_or_from_slice_get xs k x x at)

unreached_posted : (kind : Kind) (span : ℕ) → (unreached_noted kind span).posted ≡ is_posted kind
unreached_posted Read span = refl
unreached_posted Write span = refl
unreached_posted Posted span = refl
unreached_posted (Atomic atomic) span = refl

unreached_room : (kind : Kind) (span : ℕ) → length (unreached_noted kind span).body + (unreached_noted kind span).room ≡ span
unreached_room Read span = let zero_byte : ℕ = 0 in omega (arith, length-replicate span zero_byte)
unreached_room Write span = omega arith
unreached_room Posted span = omega arith
unreached_room (Atomic atomic) span = let zero_byte : ℕ = 0 in omega (arith, length-replicate span zero_byte)

-- what is noted first of a transaction is what was answered to it
first_told : (network : Network) (host : NetHost) (i : ℕ) (t : Txn) → IsTransaction t → AreNoted network [] host i t (first_noted network t)
first_told network host i t is = record { posted = told.0; room = told.1; code = told.2; body = told.3 }
  where
    span : ℕ
    span = t.count * 2 ^ t.size

    first_by : Option ℕ → NotedAnswers
    first_by o = if is_some o then none_noted t.kind span else unreached_noted t.kind span

    replies_by : Option ℕ → List Access
    replies_by o = option_map_or (device_replies network [] host.id i) o (filter_map (λ a. unreached_by a.op a) (transaction_accesses host i t))

    by_place : (o : Option ℕ) → ((first_by o).posted ≡ is_posted t.kind) × (length (first_by o).body + (first_by o).room ≡ span)
        × ((first_by o).code ≡ answer_code (replies_by o)) × ((first_by o).body ≡ answer_body (replies_by o))
    by_place None = let told = unreached_told host i t is.some t.kind refl in (unreached_posted t.kind span, unreached_room t.kind span, told.0, told.1)
    by_place (Some d) = (refl, omega arith, refl, refl)

    told : ((first_noted network t).posted ≡ is_posted t.kind) × (length (first_noted network t).body + (first_noted network t).room ≡ span)
        × ((first_noted network t).code ≡ answer_code (replies_by (device_at network t.addr))) × ((first_noted network t).body ≡ answer_body (replies_by (device_at network t.addr)))
    told = by_place (device_at network t.addr)

rows_long : {A B : Type 0} (f : A → List B) (g : A → ℕ) (xs : List A) → ((x : A) → length (f x) ≡ g x) → map length (map f xs) ≡ map g xs
rows_long f g [] same = refl
rows_long f g (x ∷ xs) same = rw (same x, rows_long f g xs same) refl

-- Opening memories and first notes are what is gathered before any entry.
pub gathers_none : (network : Network) (g : Gathered) → IsAccepted network → g.memories.items ≡ map (opening_memory network) (range_with_len 0 (length network.devices))
    → g.notes.items ≡ map (λ h. map (first_noted network) h.script) network.hosts → Gathers network [] g
gathers_none network g good memories notes = record {
  memory_count = ap length memories ∙ length-map-range_with_len (opening_memory network) 0 (length network.devices);
  memories = λ d none below.
      let at : get_or g.memories.items d none ≡ opening_memory network d =
      ap (λ (l : List MemoryState). get_or l d none) memories ∙ get_or-map-range_with_len (opening_memory network) 0 (length network.devices) d d none below (omega arith) in
      subst (IsStepped network [] d) (sym at) (record { stepped = refl; base = refl; size = refl });
  note_counts = ap (map length) notes ∙ rows_long (λ (h : NetHost). map (first_noted network) h.script) (λ h. length h.script) network.hosts (λ h. length-map h.script (first_noted network));
  notes = λ k i host t at there.
      let none : NotedAnswers = record { posted = false; code = 0; body = []; room = 0 } in
      let row : get_or g.notes.items k [] ≡ map (first_noted network) host.script =
      ap (λ (l : List (List NotedAnswers)). get_or l k []) notes ∙ got_map (λ (h : NetHost). map (first_noted network) h.script) network.hosts k host [] at in
      let note : noted_at g.notes.items k i ≡ first_noted network t = ap (λ (r : List NotedAnswers). get_or r i none) row ∙ got_map (first_noted network) host.script i t none there in
      subst (AreNoted network [] host i t) (sym note) (first_told network host i t (at_place IsTransaction host.script i t (host_lines network good k host at) there));
}

-- one more of those that are made of a list
pub row_more : {A B : Type 0} (f : A → B) (xs : List A) (k : ℕ) (x : A) (before after : List B) (y : B) → after ≡ before ++ y ∷ [] → before ≡ map f (take k xs) → y ≡ f x → k < length xs → x ≡ get_or xs k x → after ≡ map f (take (k + 1) xs)
row_more {A} {B} f xs k x before after y joined so_far here inside at =
    let next : k + 1 ≡ suc k = omega arith in
    joined ∙ ap (λ (l : List B). l ++ y ∷ []) so_far ∙ ap (λ (z : B). map f (take k xs) ++ z ∷ []) (here ∙ ap f at)
    ∙ sym (map-append f (take k xs) (get_or xs k x ∷ []))
    ∙ ap (map f) (sym (take-suc xs k x inside)) ∙ ap (λ (n : ℕ). map f (take n xs)) (sym next)

-- one more of those that are made of numbers
pub number_more : {A : Type 0} (f : ℕ → A) (n : ℕ) (before after : List A) (x : A) → after ≡ before ++ x ∷ [] → before ≡ map f (range_with_len 0 n) → x ≡ f n → after ≡ map f (range_with_len 0 (n + 1))
number_more {A} f n before after x joined so_far here =
    joined ∙ ap (λ (l : List A). l ++ x ∷ []) so_far ∙ ap (λ (y : A). map f (range_with_len 0 n) ++ y ∷ []) here ∙ sym (map-range_with_len_more f 0 n n (omega arith))
