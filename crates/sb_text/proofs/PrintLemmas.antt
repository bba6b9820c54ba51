-- Texts that are printed through a buffer, one after another.
use Rattle.std.proofs.Common.{◌≡◌, ◌≤◌, List, ℕ, ◌+◌, ◌-◌, ◌++◌, [], ap, sym, ◌∙◌, refl, arith, append_assoc, length, take, drop, subst}
use Rattle.std.specs.Prelude.{Option, Result, Ok, Err, IsErr, OnErr, OnOk}
use Rattle.std.proofs.lemmas.List.{append-nil, take-append-drop, take_all, take-append-le, drop-append-le, length-append, length-drop, drop-drop}
use Rattle.std.proofs.lemmas.Bool.{false≢true}
use Rattle.std.proofs.Math.Seq.{take-add}
use Rattle.hex.specs.Hex.{encode_lower, encode_with}
use Rattle.sb_io.specs.Written.{Gains, GainsPart}
use Rattle.sb_io.specs.Counts.{FaultsIncreased}
use Rattle.sb_io.specs.declared.sink.Sink as sinks
use Rattle.sb_text.specs.Printing.{Splits, Prints, IsPrinted}
use Rattle.sb_text.proofs.HexLemmas.{encode_lower-more, encode_lower-split}
use Rattle.sb_io.proofs.GainLemmas.{gains_nothing, gains_more, part_first}

-- all of it waits
splits_nothing : (a : Option (List ℕ)) (s : List ℕ) → Splits a a s s
splits_nothing a s = record { taken = 0; within = omega arith; written = gains_nothing a; waiting = refl }

-- more waits
splits_push : (a b : Option (List ℕ)) (x s more : List ℕ) → Splits a b x s → Splits a b (x ++ more) (s ++ more)
splits_push a b x s more h = record {
  taken = h.taken;
  within = rw length-append (omega (arith, h.within));
  written = rw (take-append-le h.taken s more h.within) h.written;
  waiting = rw (drop-append-le h.taken s more h.within, h.waiting) refl;
}

-- what is taken of a text, and then of its rest with more behind it
taken_more : (s t : List ℕ) (k n : ℕ) → k ≤ length s → take k s ++ take n (drop k s ++ t) ≡ take (k + n) (s ++ t)
taken_more s t k n h = rw (take-add k n (s ++ t), take-append-le k s t h, drop-append-le k s t h) refl

-- one text after another
splits_then : (a b c : Option (List ℕ)) (x y s t : List ℕ) → Splits a b x s → Splits b c y (x ++ t) → Splits a c y (s ++ t)
splits_then a b c x y s t h k =
    let P : List ℕ → Type 0 = λ r. Gains a c r in
    let rest : x ++ t ≡ drop h.taken s ++ t = ap (λ (r : List ℕ). r ++ t) h.waiting in
    let wrote : Gains a c (take h.taken s ++ take k.taken (x ++ t)) = gains_more a b c (take h.taken s) (take k.taken (x ++ t)) h.written k.written in
    let joined : take h.taken s ++ take k.taken (x ++ t) ≡ take (h.taken + k.taken) (s ++ t) =
    ap (λ (r : List ℕ). take h.taken s ++ take k.taken r) rest ∙ taken_more s t h.taken k.taken h.within in
    let long : length (x ++ t) ≡ (length s - h.taken) + length t = rw rest (simp (length-append, length-drop) refl) in
    record {
      taken = h.taken + k.taken;
      within = rw length-append (omega (arith, h.within, k.within, long));
      written = subst P joined wrote;
      waiting = k.waiting ∙ ap (drop k.taken) (rest ∙ sym (drop-append-le h.taken s t h.within)) ∙ rw drop-drop refl;
    }

-- a part of what comes behind one text is a part of both
part_behind : (a b c : Option (List ℕ)) (x s t : List ℕ) → Splits a b x s → GainsPart b c (x ++ t) → GainsPart a c (s ++ t)
part_behind a b c x s t h k =
    let P : List ℕ → Type 0 = λ r. Gains a c r in
    let wrote : Gains a c (take h.taken s ++ take k.kept (x ++ t)) = gains_more a b c (take h.taken s) (take k.kept (x ++ t)) h.written k.gained in
    let joined : take h.taken s ++ take k.kept (x ++ t) ≡ take (h.taken + k.kept) (s ++ t) =
    ap (λ (r : List ℕ). take h.taken s ++ take k.kept (r ++ t)) h.waiting ∙ taken_more s t h.taken k.kept h.within in
    record { kept = h.taken + k.kept; gained = subst P joined wrote }

-- the same of texts behind what waited
pub prints_push : (a b : Option (List ℕ)) (w x t more : List ℕ) → Prints a w b x t → Prints a w b (x ++ more) (t ++ more)
prints_push a b w x t more h =
    let P : List ℕ → Type 0 = λ s. Splits a b (x ++ more) s in
    subst P (append_assoc w t more) (splits_push a b x (w ++ t) more h)

pub prints_then : (a b c : Option (List ℕ)) (w x y s t : List ℕ) → Prints a w b x s → Prints b x c y t → Prints a w c y (s ++ t)
prints_then a b c w x y s t h k =
    let P : List ℕ → Type 0 = λ r. Splits a c y r in
    subst P (append_assoc w s t) (splits_then a b c x y (w ++ s) t h k)

pub prints_part : (a b c : Option (List ℕ)) (w x s t : List ℕ) → Prints a w b x s → GainsPart b c (x ++ t) → GainsPart a c (w ++ (s ++ t))
prints_part a b c w x s t h k =
    let P : List ℕ → Type 0 = λ r. GainsPart a c r in
    subst P (append_assoc w s t) (part_behind a b c x (w ++ s) t h k)

-- a part of the first text behind what waited is a part of both texts
pub part_before : (a b : Option (List ℕ)) (w s t : List ℕ) → GainsPart a b (w ++ s) → GainsPart a b (w ++ (s ++ t))
part_before a b w s t h =
    let P : List ℕ → Type 0 = λ r. GainsPart a b r in
    subst P (append_assoc w s t) (part_first a b (w ++ s) t h)

-- digits of bytes, as far as they were printed
pub hex_nothing : (a : Option (List ℕ)) (w bytes : List ℕ) → Prints a w a w (encode_lower (take 0 bytes))
unfolding encode_with
hex_nothing a w bytes =
    let P : List ℕ → Type 0 = λ s. Splits a a w s in
    subst P (sym (append-nil w)) (splits_nothing a w)

pub hex_more : (a b c : Option (List ℕ)) (w x y bytes : List ℕ) (at n : ℕ) → Prints a w b x (encode_lower (take at bytes)) → Prints b x c y (encode_lower (take (at + n - at) (drop at bytes))) → Prints a w c y (encode_lower (take (at + n) bytes))
hex_more a b c w x y bytes at n h k =
    let P : List ℕ → Type 0 = λ t. Prints a w c y t in
    let same : at + n - at ≡ n = omega arith in
    let next : Prints b x c y (encode_lower (take n (drop at bytes))) = rw same at k in
    subst P (encode_lower-more bytes at n) (prints_then a b c w x y _ _ h next)

pub hex_part : (a b c : Option (List ℕ)) (w x bytes : List ℕ) (at n : ℕ) → at + n ≤ length bytes → Prints a w b x (encode_lower (take at bytes)) → GainsPart b c (x ++ encode_lower (take (at + n - at) (drop at bytes))) → GainsPart a c (w ++ encode_lower bytes)
hex_part a b c w x bytes at n within h k =
    let P : List ℕ → Type 0 = λ t. GainsPart a c (w ++ t) in
    let same : at + n - at ≡ n = omega arith in
    let next : GainsPart b c (x ++ encode_lower (take n (drop at bytes))) = rw same at k in
    let here : GainsPart a c (w ++ encode_lower (take (at + n) bytes)) = subst P (encode_lower-more bytes at n) (prints_part a b c w x _ _ h next) in
    let rest = encode_lower (drop (at + n) bytes) in
    subst P (encode_lower-split bytes (at + n)) (part_before a c w (encode_lower (take (at + n) bytes)) rest here)

-- what waits is written
pub prints_flush : (a b c : Option (List ℕ)) (w x y s : List ℕ) → Prints a w b x s → Prints b x c y [] → Prints a w c y s
prints_flush a b c w x y s h k =
    let P : List ℕ → Type 0 = λ t. Prints a w c y t in
    subst P (append-nil s) (prints_then a b c w x y s [] h k)

pub part_flush : (a b c : Option (List ℕ)) (w x s : List ℕ) → Prints a w b x s → GainsPart b c x → GainsPart a c (w ++ s)
part_flush a b c w x s h k =
    let P : List ℕ → Type 0 = λ t. GainsPart a c (w ++ t) in
    let Q : List ℕ → Type 0 = λ t. GainsPart b c t in
    subst P (append-nil s) (prints_part a b c w x s [] h (subst Q (sym (append-nil x)) k))

-- where nothing waited and nothing waits, all was written
all_written : (a b : Option (List ℕ)) (w x s : List ℕ) → w ≡ [] → x ≡ [] → Prints a w b x s → Gains a b s
all_written a b w x s none nothing h =
    let P : List ℕ → Type 0 = λ r. Prints a r b x s in
    let all : Prints a [] b x s = subst P none h in
    let Q : List ℕ → Type 0 = λ r. Gains a b r in
    let left : length (drop all.taken s) ≡ 0 = ap length (sym all.waiting ∙ nothing) in
    let over : length s ≤ all.taken = omega (arith, sym (length-drop all.taken s) ∙ left) in
    subst Q (take_all all.taken s over) all.written

-- what holds, holds where a result is an error
pub on_err : {T E : Type 0} (r : Result T E) (P : Type 0) → P → OnErr r P
on_err (Ok x) P p = tt
on_err (Err e) P p = p

-- a text, as far as it was printed
pub text_more : (a b c : Option (List ℕ)) (w x y text : List ℕ) (at n : ℕ) → Prints a w b x (take at text) → Prints b x c y (take (at + n - at) (drop at text)) → Prints a w c y (take (at + n) text)
text_more a b c w x y text at n h k =
    let P : List ℕ → Type 0 = λ t. Prints a w c y t in
    let same : at + n - at ≡ n = omega arith in
    let next : Prints b x c y (take n (drop at text)) = rw same at k in
    subst P (sym (take-add at n text)) (prints_then a b c w x y _ _ h next)

pub text_part : (a b c : Option (List ℕ)) (w x text : List ℕ) (at n : ℕ) → at + n ≤ length text → Prints a w b x (take at text) → GainsPart b c (x ++ take (at + n - at) (drop at text)) → GainsPart a c (w ++ text)
text_part a b c w x text at n within h k =
    let P : List ℕ → Type 0 = λ t. GainsPart a c (w ++ t) in
    let same : at + n - at ≡ n = omega arith in
    let next : GainsPart b c (x ++ take n (drop at text)) = rw same at k in
    let here : GainsPart a c (w ++ take (at + n) text) = subst P (sym (take-add at n text)) (prints_part a b c w x _ _ h next) in
    subst P (take-append-drop (at + n) text) (part_before a c w (take (at + n) text) (drop (at + n) text) here)

-- a first text was printed whole, and then a second one whole or in part
pub printed_then : {K T E : Type 0} (sink : sinks.Ghosts K) (r : Result T E) (a b c : K) (w x y s t : List ℕ) → Prints (sink.held a) w (sink.held b) x s → sink.faults b ≡ sink.faults a → IsPrinted sink r b c x y t → IsPrinted sink r a c w y (s ++ t)
printed_then sink (Ok v) a b c w x y s t h same p = record { done = prints_then _ _ _ w x y s t h p.done; part = tt; cause = tt; clean = p.clean ∙ same }
printed_then sink (Err e) a b c w x y s t h same p = record { done = tt; part = prints_part _ _ _ w x s t h p.part; cause = subst (λ (n : ℕ). FaultsIncreased n (sink.faults c)) same p.cause; clean = tt }

-- the same text in other words
pub printed_as : {K T E : Type 0} (sink : sinks.Ghosts K) (r : Result T E) (a b : K) (w x s t : List ℕ) → s ≡ t → IsPrinted sink r a b w x s → IsPrinted sink r a b w x t
printed_as sink r a b w x s t same p = subst (λ (u : List ℕ). IsPrinted sink r a b w x u) same p

-- nothing was printed yet
pub printed_nothing : {K T E : Type 0} (sink : sinks.Ghosts K) (v : T) (a : K) (w : List ℕ) → IsPrinted {E = E} sink (Ok v) a a w w []
printed_nothing sink v a w =
    let P : List ℕ → Type 0 = λ s. Splits (sink.held a) (sink.held a) w s in
    record { done = subst P (sym (append-nil w)) (splits_nothing (sink.held a) w); part = tt; cause = tt; clean = refl }

-- a first part of a text is one of a longer text
pub printed_before : {K T V E F : Type 0} (sink : sinks.Ghosts K) (r : Result V F) (e : E) (a b : K) (w x s t : List ℕ) → IsErr r → IsPrinted {T = T} sink (Err e) a b w x s → IsPrinted sink r a b w x (s ++ t)
printed_before sink (Ok v) e a b w x s t failed p = absurd (false≢true failed)
printed_before sink (Err f) e a b w x s t failed p = record { done = tt; part = part_before _ _ w s t p.part; cause = p.cause; clean = tt }

-- printed through a new buffer that is empty again
pub whole_gained : {K T E : Type 0} (sink : sinks.Ghosts K) (r : Result T E) (a b : K) (w x s : List ℕ) → w ≡ [] → OnOk r (x ≡ []) → IsPrinted sink r a b w x s → OnOk r (Gains (sink.held a) (sink.held b) s)
whole_gained sink (Ok v) a b w x s none nothing p = all_written _ _ w x s none nothing p.done
whole_gained sink (Err e) a b w x s none nothing p = tt

pub part_gained : {K T E : Type 0} (sink : sinks.Ghosts K) (r : Result T E) (a b : K) (w x s : List ℕ) → w ≡ [] → IsPrinted sink r a b w x s → OnErr r (GainsPart (sink.held a) (sink.held b) s)
part_gained sink (Ok v) a b w x s none p = tt
part_gained sink (Err e) a b w x s none p = subst (λ (v : List ℕ). GainsPart (sink.held a) (sink.held b) (v ++ s)) none p.part
