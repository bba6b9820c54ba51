-- What bytes spell, by what the reader of JSON answers.
use Rattle.std.proofs.Common.{◌≡◌, ℕ, List, true, false, cond, Some, None, refl}
use Rattle.std.specs.Prelude.{IsUtf8}
use Rattle.std.specs.Str.{is_utf8}
use Rattle.std.proofs.lemmas.Str.{is_utf8-from_IsUtf8, IsUtf8-from_is_utf8}
use Rattle.serde_json.specs.Data.{Data}
use Rattle.serde_json.specs.Read.{read}
use Rattle.sb_fields.specs.Json.{spelled}

-- a value that was read from text is the one that is spelled
pub spelled_some : (bytes : List ℕ) (d : Data) → IsUtf8 bytes → read bytes ≡ Some d → spelled bytes ≡ Some d
spelled_some bytes d text reads = rw (is_utf8-from_IsUtf8 bytes text) reads

-- and where text isn't read, or there is no text, none is
pub spelled_none : (bytes : List ℕ) → (IsUtf8 bytes → read bytes ≡ None) → spelled bytes ≡ None
spelled_none bytes unread = elim (is_utf8 bytes) as (λ b. is_utf8 bytes ≡ b → cond b (read bytes) None ≡ None) [
  | true ↦ λ e. unread (IsUtf8-from_is_utf8 bytes e)
  | false ↦ λ e. refl
] refl
